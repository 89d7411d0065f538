-- What 1, 2, 3, 4 and 21 of a tableau with its standard tableau let through: exactly what accepted words yield.
--     YoungAt n f       three lists that are the flat form of the pair of an accepted word
--     word_rows         the pair of an accepted word has at most 64 rows
--     word_flat         its flat form tells it
--     at_rows           the rows that such lists tell are the pair of the word
--     young_passing     no judgement refuses exactly these
--     young_judged_lem      the same of the chain's reply
-- Assumes nothing.
use Prim.Native.Nat.{ℕ, ◌≤◌}
use native.Mathlib.Omega.{arith}
use mathlib.Core.Path.{◌≡◌, sym, ap, subst, ◌∙◌}
use mathlib.Core.List.{List}
use mathlib.Core.Logic.Iff
use mathlib.Core.Logic.{◌↔◌}
use lib.ListN.{length}
use Rattle.hypoplactic.specs.Words.{Accepted, Within}
use Rattle.hypoplactic.proofs.Theory.Placing.{Once}
use Rattle.outcomes.specs.Replies.{Passes, first, passed}
use Rattle.outcomes.proofs.Theory.Judgements.{alike-judged, length-judged, letters-judged, rank_judged_lem}
use Rattle.outcomes.proofs.Theory.Passing.{Passing, first-passed}
use Rattle.plactic.specs.Young.{Row, Rows, Young, young_entries, young_letters}
use Rattle.plactic.specs.FlatForm.{Flat, cell_rows, flat_of, rows_in, total}
use Rattle.plactic.specs.Schensted.{young_of}
use Rattle.plactic.proofs.Theory.Contents.{young_entries_lem, young_length, young_of_lem, young_once, young_within}
use Rattle.plactic.proofs.Theory.Cutting.{entries_cut, flat_onto}
use Rattle.plactic.proofs.Theory.FewRows.{few_rows}
use Rattle.plactic.proofs.Theory.FlatForm.{flat_back, flat_lengths, flat_total, letters_entries}
use Rattle.plactic.proofs.Theory.Onto.{OfWord, word_within, young_onto}
use Rattle.plactic_outcomes.specs.Judgements.{young_judged, young_judgements}
use Rattle.plactic_outcomes.proofs.Theory.Cells.{cells-judged}

-- The three lists are the tableau and the standard tableau of an accepted word, of at most 1,024 letters then and at a rank from 1 to 64.
pub record YoungAt (n : ℕ) (f : Flat) : Type 0 where
  pub word : List ℕ
  pub accepted : Accepted n word
  pub flat : flat_of (young_of word) ≡ f

-- ---- the pair of an accepted word

-- It has at most 64 rows,
pub word_rows : (n : ℕ) (w : List ℕ) → Accepted n w → length {A = Row} (young_of w) ≤ 64
word_rows n w a = omega (arith, a.rank_high, few_rows n (young_of w) (young_of_lem w) (young_within n w a.letters))

-- so that its flat form tells it.
pub word_flat : (n : ℕ) (w : List ℕ) → Accepted n w → rows_in (flat_of (young_of w)) ≡ young_of w
word_flat n w a = flat_back (young_of w) (young_of_lem w) (word_rows n w a)

-- The rows that three such lists tell.
pub at_rows : {n : ℕ} {f : Flat} (h : YoungAt n f) → rows_in f ≡ young_of h.word
at_rows {n} {f} h = subst (λ (g : Flat). rows_in g ≡ young_of h.word) h.flat (word_flat n h.word h.accepted)

-- ---- 21 of three lists that fit together

-- Entries once each, and a tableau.
cells_of : (f : Flat) → length f.standard ≡ length f.letters → total f.lengths ≡ length f.letters
    → Passes (young_judged (length f.letters) (cell_rows f)) ↔ (Once (length f.standard) f.standard × Young (rows_in f))
unfolding rows_in
cells_of f alike sum = rw (← alike) (rw (entries_cut f alike sum) at (cells-judged (cell_rows f)))

-- ---- all judgements

-- What an accepted word yields passes,
word_passes : (n : ℕ) (w : List ℕ) → Accepted n w → Passing (young_judgements n (flat_of (young_of w)))
word_passes n w a =
    let rows : Rows = young_of w in
    let alike : length (young_entries rows) ≡ length (young_letters rows) = letters_entries rows in
    let sum = flat_total 64 rows (word_rows n w a) in
    let once : Once (length (young_entries rows)) (young_entries rows) = rw (young_entries_lem w) (young_once w) in
    let young : Young (rows_in (flat_of rows)) = rw (word_flat n w a) (young_of_lem w) in (
      (rank_judged_lem n).1 (a.rank_low, a.rank_high),
      (
        (length-judged _).1 (omega (arith, a.short, young_length w)),
        (
          (alike-judged _ _).1 (alike, tt),
          (
            (alike-judged _ _).1 (flat_lengths 64 rows, tt),
            (
              (alike-judged _ _).1 (sum, tt),
              (
                (letters-judged n _).1 (young_within n w a.letters),
                ((cells_of (flat_of rows) alike sum).1 (once, young), tt),
              ),
            ),
          ),
        ),
      ),
    )

-- and what passes an accepted word yields.
passes_word : (n : ℕ) (f : Flat) → Passing (young_judgements n f) → YoungAt n f
passes_word n f (rank, (short, (alike, (many, (sum, (letters, (young, t))))))) =
    let as_letters : length f.standard ≡ length f.letters = ((alike-judged _ _).0 alike).0 in
    let adds : total f.lengths ≡ length f.letters = ((alike-judged _ _).0 sum).0 in
    let flat : flat_of (rows_in f) ≡ f = flat_onto f as_letters adds ((alike-judged _ _).0 many).0 in
    let (once, rows) = (cells_of f as_letters adds).0 young in
    let entries : young_entries (rows_in f) ≡ f.standard = ap (λ (g : Flat). g.standard) flat in
    let k : OfWord (rows_in f) = young_onto (rows_in f) rows (rw entries once) in
    let same : flat_of (young_of k.word) ≡ f = ap flat_of k.young ∙ flat in
    let held : young_letters (young_of k.word) ≡ f.letters = ap (λ (g : Flat). g.letters) same in
    let in_rank : Within n (young_letters (young_of k.word)) = rw held ((letters-judged n f.letters).0 letters) in
    let cells : length k.word ≡ length f.letters = sym (young_length k.word) ∙ ap length held in
    record {
      word = k.word;
      accepted = record {
        rank_low = ((rank_judged_lem n).0 rank).0;
        rank_high = ((rank_judged_lem n).0 rank).1;
        short = omega (arith, (length-judged (length f.letters)).0 short);
        letters = word_within n k.word in_rank;
      };
      flat = same;
    }

-- No judgement refuses exactly what accepted words yield.
pub young_passing : (n : ℕ) (f : Flat) → Passing (young_judgements n f) ↔ YoungAt n f
young_passing n f = (passes_word n f, λ h. subst (λ (g : Flat). Passing (young_judgements n g)) h.flat (word_passes n h.word h.accepted))

-- The same of what the chain replies.
pub young_judged_lem : (n : ℕ) (f : Flat) → (first (young_judgements n f) passed ≡ passed) ↔ YoungAt n f
young_judged_lem n f = Iff.trans (first-passed (young_judgements n f)) (young_passing n f)
