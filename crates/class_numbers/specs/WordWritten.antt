-- The word of a number written letter by letter, each from the cell that goes first among those left.
--     Writing c xs ms k old now ys ns left i n     i letters are written; the ribbon in the first n of ys and ns goes on with the number left
--     writing                                      the ruleset of the loop
-- Assumes nothing.
use Rattle.std.specs.Prelude.{ℕ, suc, ◌+◌, ◌-◌, ◌≤◌, ◌<◌, ◌≡◌, refl, List, [], ◌∷◌, ◌++◌, length, get_or, set, take}
use Rattle.std.proofs.Common.{sym, ap, ap₂, ◌∙◌, append-nil, arith, length-append, length-set, rules}
use Rattle.std.proofs.Math.Seq.{append_snoc}
use Rattle.outcomes.specs.Replies.{written}
use Rattle.numbering.specs.Orders.{choices, word_at, word_among}
use Rattle.refusals.specs.Running.{written_element}
use Rattle.taken_cells.specs.Numbered.{Sought, cell_of_number, sought_told}
use Rattle.taken_cells.specs.Removal.{free_told, taken_out, pulled_long, pulled_told, pulled_free}

-- i letters are written.
pub record Writing (c : ℕ) (xs ms : List ℕ) (k : ℕ) (old now ys ns : List ℕ) (left i n : ℕ) : Type 0 where
  pub few : c ≤ 20
  pub room : c ≤ length old
  pub cells : i + n ≡ c
  pub letters_long : length ys ≡ 20
  pub marks_long : length ns ≡ 20
  pub size : length now ≡ length old
  pub sofar : List ℕ
  pub long : length sofar ≡ i
  pub is : now ≡ written sofar old
  pub whole : word_at c (take c xs) (take c ms) k ≡ sofar ++ word_at n (take n ys) (take n ns) left

pub writing_start : (c : ℕ) (xs ms : List ℕ) (k : ℕ) (old : List ℕ) → length xs ≡ 20 → length ms ≡ 20 → c ≤ 20 → c ≤ length old
    → Writing c xs ms k old old xs ms k 0 c
writing_start c xs ms k old d e l m = record {
  few = l;
  room = m;
  cells = omega arith;
  letters_long = d;
  marks_long = e;
  size = refl;
  sofar = [];
  long = refl;
  is = refl;
  whole = refl;
}

module _ {c : ℕ} {xs ms : List ℕ} {k : ℕ} {old now ys ns : List ℕ} {left i n : ℕ} (h : Writing c xs ms k old now ys ns left i n) where
  -- No letter is left,
  pub writing_end : n ≤ 0 → now ≡ written (word_at c (take c xs) (take c ms) k) old
  writing_end l =
      let none : n ≡ 0 = omega arith in
      let all : word_at c (take c xs) (take c ms) k ≡ h.sofar =
      h.whole ∙ ap (λ (j : ℕ). h.sofar ++ word_at j (take n ys) (take n ns) left) none ∙ append-nil h.sofar in
      h.is ∙ sym (ap (λ (w : List ℕ). written w old) all)

  module _ (l : 0 < n) where
    pub place_in : i < length now
    place_in = omega (arith, h.cells, h.room, h.size)

    -- A letter is left.
    opens : word_at n (take n ys) (take n ns) left ≡ word_among (word_at (n - 1)) (choices (take n ys) (take n ns)) left
    opens = let e : n ≡ suc (n - 1) = omega arith in ap (λ (j : ℕ). word_at j (take n ys) (take n ns) left) e

    small : n ≤ 20
    small = omega (arith, h.cells, h.few)

    -- or no cell goes first,
    module _ {cell next : ℕ} (t : (cell, next) ≡ cell_of_number n ns left) where
      s : Sought n ns left cell next
      s = sought_told n ns left h.marks_long small t

      pub writing_none : n ≤ cell → now ≡ written (word_at c (take c xs) (take c ms) k) old
      writing_none m =
          let none : word_at n (take n ys) (take n ns) left ≡ [] =
          opens ∙ s.none m ys h.letters_long (word_at (n - 1)) in
          let all : word_at c (take c xs) (take c ms) k ≡ h.sofar = h.whole ∙ ap (λ (w : List ℕ). h.sofar ++ w) none ∙ append-nil h.sofar in
          h.is ∙ sym (ap (λ (w : List ℕ). written w old) all)

      -- or one does, its letter is written, and it is taken out.
      pub writing_turn : {ys' ns' : List ℕ} → cell < n → ys' ≡ taken_out cell (n - 1) ys → ns' ≡ pulled_free cell (n - 1) ns
          → Writing c xs ms k old (set now i (get_or ys cell 0)) ys' ns' next (i + 1) (n - 1)
      writing_turn {ys'} {ns'} m p q =
          let word : word_at n (take n ys) (take n ns) left ≡ get_or ys cell 0 ∷ word_at (n - 1) (take (n - 1) ys') (take (n - 1) ns') next =
          opens ∙ s.found m ys h.letters_long (word_at (n - 1))
          ∙ ap₂ (λ (us vs : List ℕ). get_or ys cell 0 ∷ word_at (n - 1) us vs next)
          (sym (pulled_told cell n ys m small h.letters_long p)) (sym (free_told cell n ns m small h.marks_long q)) in
          record {
            few = h.few;
            room = h.room;
            cells = omega (arith, h.cells);
            letters_long = ap length p ∙ pulled_long cell n ys m small h.letters_long;
            marks_long = ap length q ∙ length-set (taken_out cell (n - 1) ns) cell 2 ∙ pulled_long cell n ns m small h.marks_long;
            size = length-set now i (get_or ys cell 0) ∙ h.size;
            sofar = h.sofar ++ (get_or ys cell 0 ∷ []);
            long = length-append h.sofar (get_or ys cell 0 ∷ []) ∙ ap (λ (j : ℕ). j + 1) h.long;
            is =
                ap (λ (zs : List ℕ). set zs i (get_or ys cell 0)) h.is
                ∙ written_element h.sofar old i (get_or ys cell 0) h.long (omega (arith, place_in, h.size));
            whole = h.whole ∙ ap (λ (w : List ℕ). h.sofar ++ w) word ∙ sym (append_snoc h.sofar (get_or ys cell 0) _);
          }

pub cell_in : {c : ℕ} {xs ms : List ℕ} {k : ℕ} {old now ys ns : List ℕ} {left i n : ℕ} (cell : ℕ) → Writing c xs ms k old now ys ns left i n → cell < n
    → cell < length ys
cell_in cell h l = omega (arith, h.cells, h.few, h.letters_long)

pub ruleset writing = (writing_start, writing_end, place_in, writing_none, writing_turn, cell_in, rules)
