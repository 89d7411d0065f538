-- Moves and repeat counts on a tableau that brings its letter counts: what is replied past its checks, and what lent memory then holds.
--     move_cells_run n m xs ms cs       a move without the change of counts: what is replied, and the letters afterwards
--     cells_refused, cells-passed     it, from what the checks say
--     move_stopped, move_made         the whole move, from it: refused, or made and the counts changed
--     move_movable, index_byte        the counts of a move that is made can be changed, and its index fits a byte
--     repeat_refused, repeat_inverted, repeat_counted     a repeat count: refused; under an inversion; the stored count of the letter that the move takes
--     shifting, moving, repeating     the rulesets of letters, of moves and of repeat counts
-- What follows the checks and the inversion in letters is in Changes of operators. Assumes nothing.
use Rattle.std.specs.Prelude.{ℕ, suc, ◌-◌, ◌≤◌, ◌<◌, ◌≡◌, Bool, true, false, length, get_or}
use Rattle.std.proofs.Math.Path.{sym, ap}
use Rattle.std.specs.Int.{w8}
use Rattle.std.proofs.Common.{subst, ◌∙◌, arith, Fits, rules}
use mathlib.Core.List.{List, [], ◌∷◌, ◌++◌}
use Rattle.hypoplactic.specs.Words.{count}
use Rattle.hypoplactic.specs.Ribbons.{TableauAt}
use Rattle.quasi_crystal.specs.Moves.{Move, Side, raising, lowering, below, changed_place, given, moved_tableau, repeat_tableau, taken}
use Rattle.outcomes.specs.Replies.{Said, gives, refused, passed, Passes, or_else, first, ran_to}
use Rattle.outcomes.specs.Counts.{TrueCounts, counts_judged, one_over}
use Rattle.outcomes.specs.Judgements.{alike_judged, counted_judgements, index_judged, letters_judged, marks_judged, rising_judged}
use Rattle.outcomes.specs.WordOperations.{move_judgements, or_same, place_told}
use Rattle.outcomes.specs.TableauOperations.{move_tableau_run, move_tableau_says, repeat_tableau_says}
use Rattle.outcomes.proofs.Theory.Judged.{counted_passing}
use Rattle.outcomes.proofs.Theory.Judgements.{index_judged_lem, letter_judged_lem}
use Rattle.hypoplactic.proofs.Theory.Occurrences.{count-length}
use Rattle.outcomes.proofs.Theory.Passing.{Passing, first-append, first-passed, first_else, passing_append, passing_first}
use Rattle.refusals.specs.Running.{checks_then}
use Rattle.refusals.specs.Said.{number, place, said_refusal}
use Rattle.refusals.specs.declared.refusal.Refusal.{Refusal}
use Rattle.operators.specs.Changes.{move_letters_run, move_on}
use Rattle.operators.specs.Targets.{move_by, side_of}
use Rattle.operators.specs.declared.changes.Side.{Side as Chosen}
use Rattle.tableaux.specs.Counts.{Movable}

-- A move without the change of counts: what is replied, and the letters afterwards.
unfoldable pub move_cells_run : ℕ → Move → List ℕ → List ℕ → List ℕ → Said × List ℕ
move_cells_run n m xs ms cs = ran_to (move_tableau_says n m xs ms cs) (or_same (moved_tableau m xs ms) xs) xs

-- ---- true counts

-- The number of the letter that a move takes.
taken_true : (s : Side) (i : ℕ) (xs cs : List ℕ) → TrueCounts xs cs → 0 < i → i < 64 → get_or cs (taken s i - 1) 0 ≡ count (taken s i) xs
taken_true s i xs cs t l h = let (low, is) = slot s in t.entry (taken s i - 1) low ∙ ap (λ (a : ℕ). count a xs) is
  where
    slot : (s : Side) → (taken s i - 1 < 64) × (suc (taken s i - 1) ≡ taken s i)
    slot raising = (omega arith, omega arith)
    slot lowering = (omega arith, omega arith)

-- Where there is a letter to take, its count and the other one can be changed.
movable : (s : Side) (n i : ℕ) (xs ms cs : List ℕ) → TableauAt n xs ms → TrueCounts xs cs → 0 < i → i < n → 1 ≤ count (taken s i) xs → Movable s i cs
movable s n i xs ms cs a t l h c =
    let high : i < 64 = omega (arith, a.word.rank_high) in
    record {
      low = l;
      high = high;
      some_taken = rw (taken_true s i xs cs t l high) c;
      few = λ j l. rw (t.entry j l) (omega (arith, count-length (suc j) xs, a.word.short));
    }

-- ---- moves

-- The checks that follow 1 and 2.
abbrev later_judgements : ℕ → List ℕ → List ℕ → List ℕ → List Said
later_judgements n xs ms cs =
    alike_judged (length xs) (length ms ∷ []) ∷ letters_judged n xs ∷ rising_judged xs ∷ marks_judged xs ms ∷ counts_judged cs xs ∷ []

-- 1 to 6 and 17 refuse, and nothing changes,
pub cells_refused : (n i : ℕ) (xs ms cs : List ℕ) (s : Chosen) (r : Refusal) → said_refusal r ≡ first (counted_judgements n xs ms cs) passed
    → (said_refusal r, xs) ≡ move_cells_run n (move_by s i) xs ms cs
unfolding move_cells_run move_tableau_says
cells_refused n i xs ms cs s r e = rw (first-append (counted_judgements n xs ms cs) (move_judgements n (move_by s i) (below i xs ms) xs) _, ← e)

-- or pass, and the letters are moved as the inversion tells.
pub cells-passed : {b : Bool} {r : Said × List ℕ} (n i : ℕ) (xs ms cs : List ℕ) (s : Chosen) → gives [] ≡ first (counted_judgements n xs ms cs) passed
    → b ≡ below i xs ms → r ≡ move_letters_run n (move_by s i) b xs → r ≡ move_cells_run n (move_by s i) xs ms cs
unfolding move_cells_run move_tableau_says
cells-passed n i xs ms cs s e f h =
    let passing = (first-passed (counted_judgements n xs ms cs)).0 (sym e) in
    h ∙ rw f (move_on n (move_by s i) (below i xs ms) xs (later_judgements n xs ms cs) passing)

pub ruleset shifting = (cells_refused, cells-passed, rules)

-- A reply and the letters, and beside them the counts: as they were where it refuses,
beside_kept : {ys : List ℕ} (t : Said) (new old ds cs : List ℕ) (k p : ℕ) → (refused k p, ys) ≡ ran_to t new old
    → (refused k p, (ys, cs)) ≡ ran_to {A = List ℕ × List ℕ} t (new, ds) (old, cs)
beside_kept (gives vs) new old ds cs k p e = absurd (subst Passes (sym (ap (λ (z : Said × List ℕ). z.0) e)) tt)
beside_kept (refused j i) new old ds cs k p e = ap (λ (z : Said × List ℕ). (z.0, (z.1, cs))) e

-- new where it does not.
beside_new : {ys : List ℕ} (t : Said) (new old ds cs vs : List ℕ) → (gives vs, ys) ≡ ran_to t new old
    → (gives vs, (ys, ds)) ≡ ran_to {A = List ℕ × List ℕ} t (new, ds) (old, cs)
beside_new (gives us) new old ds cs vs e = ap (λ (z : Said × List ℕ). (z.0, (z.1, ds))) e
beside_new (refused j i) new old ds cs vs e = absurd (subst Passes (ap (λ (z : Said × List ℕ). z.0) e) tt)

module _ (n i : ℕ) (xs ms cs : List ℕ) (s : Chosen) {ys : List ℕ} where
  -- A refusal leaves the counts,
  pub move_stopped : (r : Refusal) → (said_refusal r, ys) ≡ move_cells_run n (move_by s i) xs ms cs → (said_refusal r, (ys, cs)) ≡ move_tableau_run n (move_by s i) xs ms cs
  unfolding move_tableau_run move_cells_run
  move_stopped r h =
      beside_kept (move_tableau_says n (move_by s i) xs ms cs) _ xs (one_over cs (taken (side_of s) i) (given (side_of s) i)) cs (number r) (place r) h

  module _ (p : ℕ) (h : (gives (p ∷ []), ys) ≡ move_cells_run n (move_by s i) xs ms cs) where
    -- a move that is made has changed them,
    pub move_made : {ds : List ℕ} → ds ≡ one_over cs (taken (side_of s) i) (given (side_of s) i)
        → (gives (p ∷ []), (ys, ds)) ≡ move_tableau_run n (move_by s i) xs ms cs
    unfolding move_tableau_run move_cells_run
    move_made k =
        rw k (beside_new (move_tableau_says n (move_by s i) xs ms cs) _ xs (one_over cs (taken (side_of s) i) (given (side_of s) i)) cs (p ∷ []) h)

    -- as it can, for all checks have passed.
    pub move_movable : Movable (side_of s) i cs
    unfolding move_tableau_says move_cells_run
    move_movable =
        let js : List Said = counted_judgements n xs ms cs in
        let ks : List Said = move_judgements n (move_by s i) (below i xs ms) xs in
        go
        ((passing_append js ks).0
        (passing_first (js ++ ks) (place_told (changed_place (below i xs ms) (move_by s i) xs)) (subst Passes (ap (λ (z : Said × List ℕ). z.0) h) tt)))
      where
        go : Passing (counted_judgements n xs ms cs) × Passing (move_judgements n (move_by s i) (below i xs ms) xs) → Movable (side_of s) i cs
        go (checks, (index, (inversion, (letter, t)))) =
            let (tableau, counted) = (counted_passing n xs ms cs).0 checks in
            let (low, high) = (index_judged_lem n i).0 index in
            movable (side_of s) n i xs ms cs tableau counted low high ((letter_judged_lem (taken (side_of s) i) xs).0 letter)

-- The index of a move that can be made fits a byte.
pub index_byte : (s : Side) (i : ℕ) (cs : List ℕ) → Movable s i cs → Fits w8 i
index_byte s i cs h = record { fits = omega (arith, h.high) }

pub ruleset moving = (move_stopped, move_made, move_movable, index_byte, rules)

-- ---- repeat counts

-- 1 to 6, 17 and 9 refuse,
pub repeat_refused : (n i : ℕ) (xs ms cs : List ℕ) (s : Chosen) (r : Refusal) → said_refusal r ≡ checks_then (counted_judgements n xs ms cs) (index_judged n i ∷ [])
    → said_refusal r ≡ repeat_tableau_says n (move_by s i) xs ms cs
unfolding repeat_tableau_says checks_then
repeat_refused n i xs ms cs s r e =
    let a : Said = gives (repeat_tableau (move_by s i) xs ms ∷ []) in
    let js : List Said = counted_judgements n xs ms cs ++ (index_judged n i ∷ []) in
    ap (λ (t : Said). or_else t a) e ∙ first_else js a

-- or pass,
module _ (n i : ℕ) (xs ms cs : List ℕ) (e : gives [] ≡ checks_then (counted_judgements n xs ms cs) (index_judged n i ∷ [])) where
  judged : Passing (counted_judgements n xs ms cs) × Passing (index_judged n i ∷ [])
  unfolding checks_then
  judged = (passing_append (counted_judgements n xs ms cs) (index_judged n i ∷ [])).0 ((first-passed (counted_judgements n xs ms cs ++ (index_judged n i ∷ []))).0 (sym e))

  -- and the index is that of a letter,
  pub repeat_index : (0 < i) × (i < 64)
  repeat_index =
      let (checks, index) = judged in
      let (low, high) = (index_judged_lem n i).0 index.0 in
      let (tableau, counted) = (counted_passing n xs ms cs).0 checks in
      (low, omega (arith, tableau.word.rank_high))

  pub repeat_byte : Fits w8 i
  repeat_byte = record { fits = omega (arith, repeat_index) }

  -- whose stored count is the answer, unless there is an inversion.
  module _ (s : Chosen) where
    says_count : gives (repeat_tableau (move_by s i) xs ms ∷ []) ≡ repeat_tableau_says n (move_by s i) xs ms cs
    unfolding repeat_tableau_says checks_then
    says_count =
        let a : Said = gives (repeat_tableau (move_by s i) xs ms ∷ []) in
        let js : List Said = counted_judgements n xs ms cs ++ (index_judged n i ∷ []) in
        ap (λ (t : Said). or_else t a) e ∙ first_else js a

    module _ {b : Bool} (f : b ≡ below i xs ms) where
      pub repeat_inverted : b ≡ true → gives (0 ∷ []) ≡ repeat_tableau_says n (move_by s i) xs ms cs
      unfolding repeat_tableau
      repeat_inverted t = rw (← f, t) at says_count

      pub repeat_counted : {k : ℕ} → b ≡ false → k ≡ get_or cs (taken (side_of s) i - 1) 0 → gives (k ∷ []) ≡ repeat_tableau_says n (move_by s i) xs ms cs
      unfolding repeat_tableau
      repeat_counted t h =
          let (low, high) = repeat_index in
          let is = h ∙ taken_true (side_of s) i xs cs ((counted_passing n xs ms cs).0 judged.0).1 low high in
          rw is (rw (← f, t) at says_count)

pub ruleset repeating = (repeat_refused, repeat_index, repeat_byte, repeat_inverted, repeat_counted, rules)
