-- The product of two tableaux: what the operation over tables of both factors replies, and what lent memory then holds.
--     Factors n xs ms cs ys ns es        two tableaux of a rank that fit together, with their letter counts
--     filled_product                     filled by the counts of both, added, and the set that both make, outputs hold the product
--     first_cells, .. counts_fit         what the tables and their sums ask, once the checks of the factors have passed
--     factors_refused, letters_refused, marks_refused, product_passed    the reply, and all outputs, from the checks on
--     replying                           the ruleset of the operation
-- Assumes nothing.
use Rattle.std.specs.Prelude.{Bool, refl, Ok, Err}
use Prim.Native.Nat.{ℕ, suc, ◌+◌, ◌≤◌}
use Rattle.std.specs.Prelude.{◌≡◌}
use Rattle.std.proofs.Math.Path.{sym}
use Rattle.std.proofs.Common.{ap₂, ◌∙◌, arith, Fits, rules}
use mathlib.Core.List.{List, [], ◌∷◌}
use Rattle.std.proofs.Math.ListN.{length}
use Rattle.std.specs.Int.{w64}
use Rattle.outcomes.specs.Counts.{TrueCounts, counts_of}
use Rattle.hypoplactic.specs.Junctions.{down_out}
use Rattle.outcomes.specs.Judgements.{room_judged, tableau_rooms}
use Rattle.outcomes.specs.Replies.{Said, gives, first, passed, written}
use Rattle.hypoplactic.specs.Ribbons.{LetterStep, TableauAt}
use Rattle.hypoplactic.specs.Words.{Within}
use Rattle.outcomes.proofs.Theory.Counts.{counts_whole}
use Rattle.outcomes.proofs.Theory.Judgements.{room_judged_lem}
use Rattle.hypoplactic.proofs.Theory.Limits.{accepted_within}
use Rattle.hypoplactic.proofs.Theory.Occurrences.{count-length}
use Rattle.outcomes.proofs.Theory.StepJudgements.{ribbon-length}
use Rattle.products.specs.Products.{factors_judgements, product_letters, product_marks, product_run, product_says, product_word}
use Rattle.products.proofs.Theory.ProductContents.{product_accepted, product_count, product_length}
use Rattle.products.proofs.Theory.ProductReplies.{factors_passing}
use Rattle.refusals.specs.Chains.{halts, proceeds}
use Rattle.refusals.specs.Running.{all_passing, checks_then, goes_further, run_passed, run_refused, stops_there}
use Rattle.refusals.specs.Said.{said_refusal}
use Rattle.refusals.specs.declared.refusal.Refusal.{Refusal}
use Rattle.words.specs.Tables.{Counts, true_counts}
use Rattle.fillings.specs.Filled.{filled}
use Rattle.fillings.specs.Tableau.{filled_word}
use Rattle.multiplication.specs.Downs.{Flags}
use Rattle.multiplication.specs.Merging.{Merged, Tables}
use Rattle.multiplication.specs.Sums.{Sums, SumsFit}

-- ---- two factors

-- Tableaux of one rank that fit together, and bring true letter counts.
record Factors (n : ℕ) (xs ms cs ys ns es : List ℕ) : Type 0 where
  first : TableauAt n xs ms
  second : TableauAt n ys ns
  few : length xs + length ys ≤ 1024
  first_counts : TrueCounts xs cs
  second_counts : TrueCounts ys es

module _ {n : ℕ} {xs ms cs ys ns es : List ℕ} (h : Factors n xs ms cs ys ns es) where
  -- The counts of both, added, fit 16 bits,
  fit : SumsFit cs es
  fit = record {
    fit = λ j l. omega (arith, h.first_counts.entry j l, h.second_counts.entry j l, count-length (suc j) xs, count-length (suc j) ys, h.few);
  }

  -- and are the counts of the product:
  added : {sums : List ℕ} → Sums cs es sums → Counts (product_word xs ms ys ns) sums
  added s = record {
    size = s.size;
    entry = λ j l.
        s.entry j l ∙ ap₂ ◌+◌ (h.first_counts.entry j l) (h.second_counts.entry j l)
        ∙ sym (product_count xs ms ys ns h.first.tableau h.second.tableau (suc j));
  }

  -- all 64 of them.
  sums_counts : {sums : List ℕ} → Sums cs es sums → sums ≡ counts_of (product_word xs ms ys ns)
  sums_counts {sums} s = counts_whole (product_word xs ms ys ns) sums s.size (true_counts (added s))

  -- Filled by these and by the set that both make, lists that have room hold the product.
  filled_product : {ds gs : List Bool} {sums : List ℕ} {set : ℕ} (letters marks : List ℕ) → Flags (λ a. down_out a xs ms) ds
      → Flags (λ a. down_out a ys ns) gs → Merged n cs ds es gs set → Sums cs es sums → length xs + length ys ≤ length letters
      → length xs + length ys ≤ length marks
      → filled n sums set letters marks ≡ (written (product_letters xs ms ys ns) letters, written (product_marks xs ms ys ns) marks)
  filled_product letters marks d g m s p q =
      let tables : Tables n xs ms ys ns cs _ es _ = record {
        first = h.first;
        second = h.second;
        first_counts = h.first_counts;
        first_downs = d;
        second_counts = h.second_counts;
        second_downs = g;
      } in
      let cells : length (product_word xs ms ys ns) ≡ length xs + length ys = product_length xs ms ys ns h.first.tableau h.second.tableau in
      filled_word (product_accepted n xs ms ys ns h.first h.second h.few) (added s) _ letters marks (m.is xs ms ys ns tables)
      (omega arith) (omega arith)

-- ---- the operation

-- What 1 to 6 and 17 of the factors say, and then 13 of outputs of so many elements.
module _ (n : ℕ) (xs ms cs ys ns es : List ℕ) where
  -- The factors are refused, and all outputs are as they were.
  pub factors_refused : (letters marks counts : List ℕ) (r : Refusal) → said_refusal r ≡ first (factors_judgements n xs ms cs ys ns es) passed
      → (said_refusal r, (letters, (marks, counts))) ≡ product_run n xs ms cs ys ns es letters marks counts
  unfolding product_run product_says
  factors_refused letters marks counts r e =
      let rooms : List Said = tableau_rooms (length xs + length ys) (length letters) (length marks) in
      run_refused {v = Err r} (factors_judgements n xs ms cs ys ns es) rooms (stops_there {v = Err r} (factors_judgements n xs ms cs ys ns es) e rooms r refl)
      _ _ (letters, (marks, counts)) r refl

  -- The factors pass.
  module _ (e : gives [] ≡ first (factors_judgements n xs ms cs ys ns es) passed) where
    -- Both are tableaux that fit together, with true letter counts.
    factors : Factors n xs ms cs ys ns es
    factors =
        let (one, other, few, counts, counts') = (factors_passing n xs ms cs ys ns es).0 (all_passing {v = Ok tt} (factors_judgements n xs ms cs ys ns es) e refl) in
        record { first = one; second = other; few = few; first_counts = counts; second_counts = counts' }

    -- So the letters of each are up to 64, and its marks are as many,
    pub first_cells : Within 64 xs × (length ms ≡ length xs)
    first_cells = (accepted_within factors.first.word, ribbon-length LetterStep xs ms factors.first.tableau)

    pub second_cells : Within 64 ys × (length ns ≡ length ys)
    second_cells = (accepted_within factors.second.word, ribbon-length LetterStep ys ns factors.second.tableau)

    -- the cells are few,
    pub cells_fit : Fits w64 (length xs + length ys)
    cells_fit = record { fits = omega (arith, factors.few) }

    -- the rank is at most 64,
    pub rank_high : n ≤ 64
    rank_high = factors.first.word.rank_high

    -- and the counts can be added.
    pub counts_fit : SumsFit cs es
    counts_fit = fit factors

    module _ (letters marks counts : List ℕ) where
      abbrev rooms : List Said
      rooms = tableau_rooms (length xs + length ys) (length letters) (length marks)

      checked : {s : Said} → s ≡ first rooms passed → s ≡ checks_then (factors_judgements n xs ms cs ys ns es) rooms
      unfolding checks_then
      checked f = goes_further {v = Ok tt} (factors_judgements n xs ms cs ys ns es) e [] rooms refl f

      room_refused : (r : Refusal) → said_refusal r ≡ first rooms passed
          → (said_refusal r, (letters, (marks, counts))) ≡ product_run n xs ms cs ys ns es letters marks counts
      unfolding product_run product_says
      room_refused r f =
          run_refused {v = Err r} (factors_judgements n xs ms cs ys ns es) rooms (checked f) _ _ (letters, (marks, counts)) r refl

      -- The letters have no room, and all outputs are as they were;
      pub letters_refused : (r : Refusal) → said_refusal r ≡ room_judged (length xs + length ys) (length letters)
          → (said_refusal r, (letters, (marks, counts))) ≡ product_run n xs ms cs ys ns es letters marks counts
      letters_refused r f = room_refused r (halts r _ f)

      module _ (f : gives [] ≡ room_judged (length xs + length ys) (length letters)) where
        -- or the marks have none,
        pub marks_refused : (r : Refusal) → said_refusal r ≡ room_judged (length xs + length ys) (length marks)
            → (said_refusal r, (letters, (marks, counts))) ≡ product_run n xs ms cs ys ns es letters marks counts
        marks_refused r g = room_refused r (proceeds f (halts r _ g))

        -- or letters and marks, filled by the counts of both factors and the set that these make, hold the product, beside the sums of both counts.
        pub product_passed : {ds gs : List Bool} {sums : List ℕ} {set : ℕ} (ls ks : List ℕ) → gives [] ≡ room_judged (length xs + length ys) (length marks)
            → Flags (λ a. down_out a xs ms) ds → Flags (λ a. down_out a ys ns) gs → Merged n cs ds es gs set → Sums cs es sums
            → (ls, ks) ≡ filled n sums set letters marks
            → (gives ((length xs + length ys) ∷ []), (ls, (ks, sums))) ≡ product_run n xs ms cs ys ns es letters marks counts
        unfolding product_run product_says
        product_passed {sums = sums} ls ks g d d' m s h =
            let all : gives [] ≡ first rooms passed = proceeds f (proceeds g refl) in
            let (as_letters, (as_marks, t)) = all_passing {v = Ok tt} rooms all refl in
            let cells = h ∙ filled_product factors letters marks d d' m s ((room_judged_lem _ _).0 as_letters) ((room_judged_lem _ _).0 as_marks) in
            run_passed {v = Ok tt} (factors_judgements n xs ms cs ys ns es) rooms (checked all) _ _ (letters, (marks, counts)) (ls, (ks, sums)) refl
            (ap₂ (λ (c : List ℕ × List ℕ) (t : List ℕ). (c.0, (c.1, t))) cells (sums_counts factors s))

pub ruleset replying = (first_cells, second_cells, cells_fit, rank_high, counts_fit, factors_refused, letters_refused, marks_refused, product_passed, rules)
