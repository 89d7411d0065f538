-- The table of the letters that a down step leads out of, made by one pass over the cells of a tableau.
--     Flags f xs                   the test of the letter a stands at place a - 1, and is f a
--     Stepping xs ms i table       the tests by the steps into the cells before place i; the steps from there on make them those of all steps
--     step_start, step_turn, step_end     the loop
--     letter_told, slot_under      the letter before a cell, and its place in the table
--     stepping                     the ruleset of the function that makes the table
-- Assumes nothing.
use Prim.Native.Nat.{ℕ, suc, ◌+◌, ◌-◌, ◌≤◌, ◌<◌}
use Rattle.std.specs.Prelude.{◌≡◌, refl, List, [], ◌∷◌, Bool, true, false, ◌&&◌, ◌||◌, length, get_or, set, drop, replicate}
use Rattle.std.proofs.Common.{sym, ◌∙◌, add-one, arith, length-set, get_or-set_same, get_or-set_other, drop_of_length-le, drop-cons, rules, eqb-true, eq-eqb, ne_eqb}
use Rattle.std.proofs.Math.Bool.{or_assoc, or-false}
use Rattle.std.proofs.Math.Dec.{eqb}
use Rattle.std.proofs.lemmas.Bool.{eqb-false}
use Rattle.std.proofs.lemmas.List.{get_or-replicate}
use Rattle.hypoplactic.specs.Junctions.{down_out, out_of}
use Rattle.hypoplactic.specs.Ribbons.{down_after}
use Rattle.hypoplactic.specs.Words.{Within}
use Rattle.words.specs.Tables.{letter_least, letter_most}

-- The table of a test of letters.
pub record Flags (f : ℕ → Bool) (xs : List Bool) : Type 0 where
  pub size : length xs ≡ 64
  pub entry : (j : ℕ) → j < 64 → get_or xs j false ≡ f (suc j)

-- ---- the loop

-- The steps into the cells from place i on, out of the letter a.
abbrev left_over : List ℕ → List ℕ → ℕ → ℕ → Bool
left_over xs ms i a = down_after (out_of a) (get_or xs (i - 1) 0) (drop i xs) (drop i ms)

-- The steps into the cells before place i are in the table.
pub record Stepping (xs ms : List ℕ) (i : ℕ) (table : List Bool) : Type 0 where
  pub from_one : 1 ≤ i
  pub size : length table ≡ 64
  pub rest : (j : ℕ) → j < 64 → (get_or table j false || left_over xs ms i (suc j)) ≡ down_out (suc j) xs ms

-- Before the second cell no step is known.
pub step_start : (xs ms : List ℕ) → length ms ≡ length xs → Stepping xs ms 1 (replicate 64 false)
step_start xs ms e = record {
  from_one = omega arith;
  size = refl;
  rest = λ j k. rw (get_or-replicate {A = Bool} 64 j false false k) (go (suc j) xs ms e);
}
  where
    go : (a : ℕ) (xs ms : List ℕ) → length ms ≡ length xs → (false || left_over xs ms 1 a) ≡ down_out a xs ms
    go a [] ms e = refl
    go a (x ∷ xs) [] e = let z : ⊥ = omega arith in absurd z
    go a (x ∷ xs) (m ∷ ms) e = refl

-- The letter before a cell is one of 1 to 64.
pub letter_told : (xs : List ℕ) (i : ℕ) → Within 64 xs → i < length xs → 1 ≤ i → (1 ≤ get_or xs (i - 1) 0) × (get_or xs (i - 1) 0 ≤ 64)
letter_told xs i w l p = (letter_least xs (i - 1) w (omega arith), letter_most xs (i - 1) w (omega arith))

-- One cell more.
module _ {x : ℕ} (xs ms : List ℕ) (i : ℕ) (w : Within 64 xs) (l : i < length xs) (p : 1 ≤ i) (e : x ≡ get_or xs (i - 1) 0) where
  least : 1 ≤ x
  least = rw e (letter_told xs i w l p).0

  pub slot_under : x - 1 < 64
  slot_under = let most : x ≤ 64 = rw e (letter_told xs i w l p).1 in omega (arith, least)

  pub step_turn : (table : List Bool) → length ms ≡ length xs → Stepping xs ms i table
      → Stepping xs ms (i + 1) (set table (x - 1) (get_or table (x - 1) false || eqb (get_or ms i 0) 1))
  step_turn table same h = rw (add-one i) record {
    from_one = omega arith;
    size = length-set table (x - 1) _ ∙ h.size;
    rest = λ j k. go j k (eqb (x - 1) j) refl;
  }
    where
      back : suc i - 1 ≡ i
      back = omega arith

      cells : (a : ℕ) → left_over xs ms i a ≡ (eqb x a && eqb (get_or ms i 0) 1 || left_over xs ms (suc i) a)
      cells a = rw (drop-cons xs i 0 l, drop-cons ms i 0 (omega arith), e, back)

      go : (j : ℕ) → j < 64 → (b : Bool) → eqb (x - 1) j ≡ b
          → (get_or (set table (x - 1) (get_or table (x - 1) false || eqb (get_or ms i 0) 1)) j false || left_over xs ms (suc i) (suc j)) ≡ down_out (suc j) xs ms
      go j k true q =
          let is : x - 1 ≡ j = eqb-true (x - 1) j q in
          let here : eqb x (suc j) ≡ true = eq-eqb x (suc j) (omega (arith, letter_told)) in
          let all : (get_or table j false || (eqb (get_or ms i 0) 1 || left_over xs ms (suc i) (suc j))) ≡ down_out (suc j) xs ms
          = rw (cells (suc j), here) at (h.rest j k) in
          rw (is, get_or-set_same table j _ false (omega (arith, h.size)), or_assoc) all
      go j k false q =
          let apart : x - 1 ≡ j → ⊥ = eqb-false (x - 1) j q in
          let other : eqb x (suc j) ≡ false = ne_eqb x (suc j) (λ e. apart (omega (arith, e))) in
          let all : (get_or table j false || left_over xs ms (suc i) (suc j)) ≡ down_out (suc j) xs ms = rw (cells (suc j), other) at (h.rest j k) in
          rw (get_or-set_other table (x - 1) j _ false (λ e. apart (sym e))) all

-- Past the last cell all steps are known.
pub step_end : (xs ms : List ℕ) (i : ℕ) (table : List Bool) → Stepping xs ms i table → length xs ≤ i → Flags (λ a. down_out a xs ms) table
step_end xs ms i table h l = record {
  size = h.size;
  entry = λ j k. sym (or-false (get_or table j false)) ∙ rw past at (h.rest j k);
}
  where
    past : drop i xs ≡ []
    past = drop_of_length-le xs l

pub ruleset stepping = (step_start, step_turn, step_end, letter_told, slot_under, rules)
