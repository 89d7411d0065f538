-- A cell taken out of lists and out of 20 bytes of which only the first count.
--     marks_without p ms         marks without the one at place p, with a free step across the gap
--     taken_out p e xs           20 bytes with the one at place p taken out of those up to place e: those after it, up to e, are one place back
--     pulled_free p e ms         the same of marks, with a free step across the gap
--     Pulling p e xs now i      the loop that moves bytes one back: those before i are moved
--     pulling                   the ruleset of both functions
--     pulled_told, free_told    what they mean for a ribbon in the first c bytes; pulled_long: there are 20 again
-- Assumes nothing.
use Rattle.std.specs.Prelude.{ℕ, zero, suc, ◌+◌, ◌-◌, ◌≤◌, ◌<◌, ◌≡◌, refl, cond, ltb, length, get_or, set}
use Rattle.std.proofs.Math.Path.{sym, ap, ap₂}
use Rattle.std.proofs.Common.{◌∙◌, add-zero, add-one, arith, length-append, length-drop, length-set, take-append-drop, drop-drop, drop-set-lt, get_or-drop, length-take-le, take-suc, take-suc-set, take-take, rules, le-ltb, lt-ltb}
use Rattle.std.proofs.Math.Logic.{dite}
use mathlib.Core.List.{List, [], ◌∷◌, ◌++◌}
use Rattle.std.proofs.Math.Decide.{dec_le}
use Rattle.std.proofs.Math.ListN.{take, drop}
use Rattle.std.proofs.Math.Seq.{take-append_seam}
use Rattle.numbering.specs.Orders.{freed}
use Rattle.windows.specs.Gaps.{without}

abbrev pub marks_without : ℕ → List ℕ → List ℕ
marks_without p ms = take p ms ++ freed (drop (suc p) ms)

-- Nothing moves where the place is the last one or past it, or where that is past 19.
unfoldable pub taken_out : ℕ → ℕ → List ℕ → List ℕ
taken_out p e xs = cond (ltb 19 e) xs (take e (without p xs) ++ drop e xs)

abbrev pub pulled_free : ℕ → ℕ → List ℕ → List ℕ
pulled_free p e ms = set (taken_out p e ms) p 2

-- ---- lists without an element

-- Before the place nothing changes,
take-without : (p : ℕ) (xs : List ℕ) → take p xs ≡ take p (without p xs)
take-without zero xs = refl
take-without (suc p) [] = refl
take-without (suc p) (x ∷ xs) = ap (λ (ys : List ℕ). x ∷ ys) (take-without p xs)

-- from there on each element is the next one,
get_d_without : (p i : ℕ) (xs : List ℕ) → p ≤ i → get_or (without p xs) i 0 ≡ get_or xs (suc i) 0
get_d_without zero i [] l = refl
get_d_without zero i (x ∷ xs) l = refl
get_d_without (suc p) zero xs l = let z : ⊥ = omega arith in absurd z
get_d_without (suc p) (suc i) [] l = refl
get_d_without (suc p) (suc i) (x ∷ xs) l = get_d_without p i xs (omega arith)

-- and there is one fewer.
pub length_without : (p : ℕ) (xs : List ℕ) → p < length xs → suc (length (without p xs)) ≡ length xs
length_without p xs l =
    omega (arith, length-append (take p xs) (drop (suc p) xs), length-take-le p xs (omega arith), length-drop (suc p) xs)

-- A beginning without an element of it.
beginning : (p k : ℕ) (xs : List ℕ) → p ≤ k → take k (without p xs) ≡ without p (take (suc k) xs)
beginning zero zero [] l = refl
beginning zero (suc k) [] l = refl
beginning zero k (x ∷ xs) l = refl
beginning (suc p) zero xs l = let z : ⊥ = omega arith in absurd z
beginning (suc p) (suc k) [] l = refl
beginning (suc p) (suc k) (x ∷ xs) l = ap (λ (ys : List ℕ). x ∷ ys) (beginning p k xs (omega arith))

-- The follower's mark made free.
set-without : (p : ℕ) (ms : List ℕ) → set (without p ms) p 2 ≡ marks_without p ms
set-without zero [] = refl
set-without zero (m ∷ []) = refl
set-without zero (m ∷ n ∷ ms) = refl
set-without (suc p) [] = refl
set-without (suc p) (m ∷ ms) = ap (λ (ys : List ℕ). m ∷ ys) (set-without p ms)

take-set : (k p v : ℕ) (xs : List ℕ) → take k (set xs p v) ≡ set (take k xs) p v
take-set zero p v xs = refl
take-set (suc k) p v [] = refl
take-set (suc k) zero v (x ∷ xs) = refl
take-set (suc k) (suc p) v (x ∷ xs) = ap (λ (ys : List ℕ). x ∷ ys) (take-set k p v xs)

-- ---- the loop

-- Those before i are moved.
pub record Pulling (p e : ℕ) (xs now : List ℕ) (i : ℕ) : Type 0 where
  pub small : e ≤ 19
  pub size : length xs ≡ 20
  pub long : length now ≡ 20
  pub begun : p ≤ i
  pub reached : i ≤ p + (e - p)
  pub moved : take i now ≡ take i (without p xs)
  pub kept : drop i now ≡ drop i xs

pub pulled_none : (p e : ℕ) (xs : List ℕ) → 19 < e → xs ≡ taken_out p e xs
unfolding taken_out
pulled_none p e xs l = rw (lt-ltb 19 e l)

pub pulling_start : (p e : ℕ) (xs : List ℕ) → length xs ≡ 20 → e ≤ 19 → Pulling p e xs xs p
pulling_start p e xs d l =
    record { small = l; size = d; long = d; begun = omega arith; reached = omega arith; moved = take-without p xs; kept = refl }

module _ {p e : ℕ} {xs now : List ℕ} {i : ℕ} (h : Pulling p e xs now i) where
  pub place_in : i < e → i < length now
  place_in l = omega (arith, h.long, h.small)

  pub next_in : i < e → i + 1 < length now
  next_in l = omega (arith, h.long, h.small)

  later : drop (suc i) now ≡ drop (suc i) xs
  later = sym (step now) ∙ ap (drop 1) h.kept ∙ step xs
    where
      step : (ys : List ℕ) → drop 1 (drop i ys) ≡ drop (suc i) ys
      step ys = drop-drop 1 i ys ∙ ap (λ (k : ℕ). drop k ys) (add-one i)

  pub pulling_turn : i < e → Pulling p e xs (set now i (get_or now (i + 1) 0)) (i + 1)
  pulling_turn l =
      let inside : p < length xs = omega (arith, h.size, h.begun, h.small) in
      let more : i < length (without p xs) = omega (arith, length_without p xs inside, h.size, h.small) in
      rw (add-one i) (record {
        small = h.small;
        size = h.size;
        long = length-set now i _ ∙ h.long;
        begun = omega (arith, h.begun);
        reached = omega arith;
        moved =
            take-suc-set now i _ (place_in l)
            ∙ ap₂ (λ (ys : List ℕ) (y : ℕ). ys ++ (y ∷ [])) h.moved (next ∙ sym (get_d_without p i xs h.begun))
            ∙ sym (take-suc (without p xs) i 0 more);
        kept = drop-set-lt (suc i) now i _ (omega arith) ∙ later;
      })
    where
      place : (ys : List ℕ) → get_or ys (suc i) 0 ≡ get_or (drop (suc i) ys) 0 0
      place ys = sym (get_or-drop (suc i) ys 0 0 ∙ ap (λ (k : ℕ). get_or ys k 0) (add-zero (suc i)))

      next : get_or now (suc i) 0 ≡ get_or xs (suc i) 0
      next = place now ∙ ap (λ (ys : List ℕ). get_or ys 0 0) later ∙ sym (place xs)

  -- All are moved, or there was none to be moved.
  pub pulling_end : e ≤ i → now ≡ taken_out p e xs
  unfolding taken_out
  pulling_end l =
      sym (take-append-drop i now) ∙ ap₂ ◌++◌ h.moved h.kept ∙ dite (dec_le p e) inside (λ (m : ¬ (p ≤ e)). past (omega arith))
      ∙ sym (rw (le-ltb 19 e h.small))
    where
      inside : p ≤ e → take i (without p xs) ++ drop i xs ≡ take e (without p xs) ++ drop e xs
      inside m = let last : i ≡ e = omega (arith, h.reached) in ap (λ (k : ℕ). take k (without p xs) ++ drop k xs) last

      past : e < p → take i (without p xs) ++ drop i xs ≡ take e (without p xs) ++ drop e xs
      past m =
          let still : i ≡ p = omega (arith, h.reached, h.begun) in
          let front : take e (without p xs) ≡ take e xs =
          sym (take-take e p (without p xs) (omega arith)) ∙ ap (take e) (sym (take-without p xs)) ∙ take-take e p xs (omega arith) in
          ap (λ (k : ℕ). take k (without p xs) ++ drop k xs) still ∙ ap (λ (ys : List ℕ). ys ++ drop p xs) (sym (take-without p xs))
          ∙ take-append-drop p xs ∙ sym (ap (λ (ys : List ℕ). ys ++ drop e xs) front ∙ take-append-drop e xs)

-- ---- marks

-- No mark is that far,
pub free_past : {ys : List ℕ} (p e : ℕ) (ms : List ℕ) → length ms ≡ 20 → length ys ≡ 20 → ys ≡ taken_out p e ms → 19 < p → ys ≡ pulled_free p e ms
free_past {ys} p e ms d s q l = q ∙ sym (beyond (taken_out p e ms) p (omega (arith, ap length (sym q))))
  where
    beyond : (xs : List ℕ) (k : ℕ) → length xs ≤ k → set xs k 2 ≡ xs
    beyond [] k l = refl
    beyond (x ∷ xs) zero l = let z : ⊥ = omega arith in absurd z
    beyond (x ∷ xs) (suc k) l = ap (λ (zs : List ℕ). x ∷ zs) (beyond xs k (omega arith))

-- or the follower's becomes free.
pub free_pulled : {ys : List ℕ} (p e : ℕ) (ms : List ℕ) → ys ≡ taken_out p e ms → set ys p 2 ≡ pulled_free p e ms
free_pulled p e ms q = ap (λ (zs : List ℕ). set zs p 2) q

pub ruleset pulling = (pulled_none, pulling_start, place_in, next_in, pulling_turn, pulling_end, free_past, free_pulled, rules)

-- ---- what it means for a ribbon in the first c of 20 bytes

module _ (p c : ℕ) (xs : List ℕ) (l : p < c) (m : c ≤ 20) (s : length xs ≡ 20) where
  moved : taken_out p (c - 1) xs ≡ take (c - 1) (without p xs) ++ drop (c - 1) xs
  unfolding taken_out
  moved = rw (le-ltb 19 (c - 1) (omega arith))

  inner : length (take (c - 1) (without p xs)) ≡ c - 1
  inner = length-take-le (c - 1) (without p xs) (omega (arith, length_without p xs (omega arith)))

  -- There are 20 bytes again.
  pub pulled_long : length (taken_out p (c - 1) xs) ≡ 20
  pulled_long = ap length moved ∙ omega (arith, length-append (take (c - 1) (without p xs)) (drop (c - 1) xs), inner, length-drop (c - 1) xs)

  -- The first are those of the ribbon without the cell at p,
  pub pulled_told : {ys : List ℕ} → ys ≡ taken_out p (c - 1) xs → take (c - 1) ys ≡ without p (take c xs)
  pulled_told {ys} q = ap (take (c - 1)) (q ∙ moved) ∙ first ∙ beginning p (c - 1) xs (omega arith) ∙ ap (λ (k : ℕ). without p (take k xs)) whole
    where
      whole : suc (c - 1) ≡ c
      whole = omega arith

      first : take (c - 1) (take (c - 1) (without p xs) ++ drop (c - 1) xs) ≡ take (c - 1) (without p xs)
      first =
          ap (λ (k : ℕ). take k (take (c - 1) (without p xs) ++ drop (c - 1) xs)) (sym inner)
          ∙ take-append_seam (take (c - 1) (without p xs)) (drop (c - 1) xs)

  -- and of marks those that the cell leaves.
  pub free_told : {ys : List ℕ} → ys ≡ pulled_free p (c - 1) xs → take (c - 1) ys ≡ marks_without p (take c xs)
  free_told {ys} q =
      ap (take (c - 1)) q ∙ take-set (c - 1) p 2 (taken_out p (c - 1) xs) ∙ ap (λ (zs : List ℕ). set zs p 2) (pulled_told refl) ∙ set-without p (take c xs)
