-- A row of numbers summed, and swept across a step.
--     swept m before xs                    each number of a row replaced by what the step allows there, with so many before the row
--     total_zero                           an unused 0 adds nothing
--     swept_across                         of a tally and an unused 0 that is the tally across the step
--     allowed_right, allowed_down, allowed_free      what a step allows, by cases of its mark
--     total_told                           a total is what std calls a sum
--     Sweeping m xs now i before           the first i numbers are replaced, and before is their old sum
--     sweeping                             the ruleset of sweeps
-- Assumes nothing.
use Rattle.std.specs.Prelude.{ℕ, zero, suc, ◌+◌, ◌-◌, ◌^◌, ◌≤◌, ◌<◌, ◌≡◌, refl, List, [], ◌∷◌, ◌++◌, length, get_or, set, sum, take, drop}
use Rattle.std.proofs.Common.{sym, ap, ap₂, ◌∙◌, append-nil, add-zero, add-one, arith, length-set, drop_of_length-le, drop-cons, drop-drop, drop-set-lt, get_or-drop, take_all, take-suc-set, Fits, rules}
use Rattle.std.proofs.lemmas.List.Recursion.{is_sum_by}
use Rattle.std.proofs.Math.Seq.{append_snoc}
use Rattle.std.specs.Int.{w64}
use Rattle.numbering.specs.Compositions.{total}
use Rattle.numbering.specs.Orders.{across, allowed}

-- ---- what a step allows

pub allowed_right : (m before all : ℕ) → m ≡ 0 → all - before ≡ allowed m before (all - before)
allowed_right m before all e = rw e

pub allowed_down : (m before all : ℕ) → m ≡ 1 → before ≡ allowed m before (all - before)
allowed_down m before all e = rw e

pub allowed_free : (m before all : ℕ) → (m ≡ 0 → ⊥) → (m ≡ 1 → ⊥) → before ≤ all → all ≡ allowed m before (all - before)
allowed_free zero before all e f l = absurd (e refl)
allowed_free (suc zero) before all e f l = absurd (f refl)
allowed_free (suc (suc m)) before all e f l = omega arith

-- ---- sums

-- As std says it.
pub total_told : (xs : List ℕ) → total xs ≡ sum xs
total_told xs = is_sum_by total (λ x. x) refl (λ x xs. refl) xs

-- What is left begins with the number at place i.
total_next : (xs : List ℕ) (i : ℕ) → i < length xs → total (drop i xs) ≡ get_or xs i 0 + total (drop (suc i) xs)
total_next xs i l = ap total (drop-cons xs i 0 l)

-- ---- sweeps

abbrev pub swept : ℕ → ℕ → List ℕ → List ℕ
swept m before [] = []
swept m before (x ∷ xs) = allowed m before (x + total xs) ∷ swept m (before + x) xs

pub total_zero : (xs : List ℕ) → total (xs ++ (0 ∷ [])) ≡ total xs
total_zero [] = refl
total_zero (x ∷ xs) = ap (λ (k : ℕ). x + k) (total_zero xs)

-- The unused 0 makes room for the last number.
pub swept_across : (m before : ℕ) (xs : List ℕ) → swept m before (xs ++ (0 ∷ [])) ≡ across m before xs
swept_across m before [] = refl
swept_across m before (x ∷ xs) = ap₂ (λ (k : ℕ) (ys : List ℕ). allowed m before (x + k) ∷ ys) (total_zero xs) (swept_across m (before + x) xs)

-- The first i numbers are replaced.
pub record Sweeping (m : ℕ) (xs now : List ℕ) (all i before : ℕ) : Type 0 where
  pub fits : total xs < 2 ^ 64
  pub whole : all ≡ total xs
  pub reached : i ≤ length xs
  pub long : length now ≡ length xs
  pub passed : before + total (drop i xs) ≡ all
  pub kept : drop i now ≡ drop i xs
  pub done : take i now ++ swept m before (drop i xs) ≡ swept m 0 xs

pub sweeping_start : (m : ℕ) (xs : List ℕ) (all : ℕ) → sum xs < 2 ^ 64 → all ≡ sum xs → Sweeping m xs xs all 0 0
sweeping_start m xs all f e = record {
  fits = rw (total_told xs) f;
  whole = rw (total_told xs) e;
  reached = omega arith;
  long = refl;
  passed = omega (arith, e, total_told xs);
  kept = refl;
  done = refl;
}

module _ {m : ℕ} {xs now : List ℕ} {all i before : ℕ} (h : Sweeping m xs now all i before) where
  -- The number in hand is still the old one.
  here : i < length xs → get_or now i 0 ≡ get_or xs i 0
  here l = place now ∙ ap (λ (ys : List ℕ). get_or ys 0 0) h.kept ∙ sym (place xs)
    where
      place : (ys : List ℕ) → get_or ys i 0 ≡ get_or (drop i ys) 0 0
      place ys = sym (get_or-drop i ys 0 0 ∙ ap (λ (k : ℕ). get_or ys k 0) (add-zero i))

  pub before_under : before ≤ all
  before_under = omega (arith, h.passed)

  pub before_fits : i < length now → Fits w64 (before + get_or now i 0)
  before_fits l =
      let m : i < length xs = omega (arith, h.long) in
      record { fits = omega (arith, here m, h.passed, h.whole, h.fits, total_next xs i m) }

  pub sweeping_turn : {v : ℕ} → i < length now → v ≡ allowed m before (all - before) → Sweeping m xs (set now i v) all (i + 1) (before + get_or now i 0)
  sweeping_turn {v} l e =
      let n : i < length xs = omega (arith, h.long) in
      let rest : all - before ≡ get_or xs i 0 + total (drop (suc i) xs) = omega (arith, h.passed, total_next xs i n) in
      let place : before + get_or now i 0 ≡ before + get_or xs i 0 = ap (λ (k : ℕ). before + k) (here n) in
      rw (add-one i, place) (record {
        fits = h.fits;
        whole = h.whole;
        reached = n;
        long = length-set now i v ∙ h.long;
        passed = omega (arith, h.passed, total_next xs i n);
        kept = drop-set-lt (suc i) now i v (omega arith) ∙ later n;
        done =
            ap (λ (ys : List ℕ). ys ++ swept m (before + get_or xs i 0) (drop (suc i) xs)) (take-suc-set now i v l)
            ∙ append_snoc (take i now) v _
            ∙ ap (λ (k : ℕ). take i now ++ k ∷ swept m (before + get_or xs i 0) (drop (suc i) xs)) (e ∙ ap (allowed m before) rest)
            ∙ sym (ap (λ (ys : List ℕ). take i now ++ swept m before ys) (drop-cons xs i 0 n))
            ∙ h.done;
      })
    where
      later : i < length xs → drop (suc i) now ≡ drop (suc i) xs
      later n = sym (next now) ∙ ap (drop 1) h.kept ∙ next xs
        where
          next : (ys : List ℕ) → drop 1 (drop i ys) ≡ drop (suc i) ys
          next ys = drop-drop 1 i ys ∙ ap (λ (k : ℕ). drop k ys) (add-one i)

  pub sweeping_end : length now ≤ i → now ≡ swept m 0 xs
  sweeping_end l =
      let past : length xs ≤ i = omega (arith, h.long) in
      sym (append-nil now) ∙ ap₂ ◌++◌ (sym (take_all i now l)) (sym (ap (swept m before) (drop_of_length-le xs past))) ∙ h.done

pub ruleset sweeping = (
  allowed_right,
  allowed_down,
  allowed_free,
  sweeping_start,
  before_under,
  before_fits,
  sweeping_turn,
  sweeping_end,
  rules,
)
