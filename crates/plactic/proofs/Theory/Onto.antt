-- Every Young tableau beside a standard tableau is the pair of a word.
--     OfWord rows      a word whose pair the rows are
--     young_onto       there is one, where the entries are the numbers from 1 to that of the cells, each once
--     word_within      its letters are within a rank that the tableau's are within
-- Assumes nothing.
use Prim.Native.Nat.{ℕ, zero, suc, ◌≤◌}
use native.Mathlib.Omega.{arith}
use mathlib.Core.Path.{◌≡◌, refl, sym, ◌∙◌}
use mathlib.Core.List.{List, [], ◌∷◌, ◌++◌}
use mathlib.Core.Option.{some}
use lib.ListN.{length}
use borrow.Author.Tests.{ne_eqb}
use Rattle.hypoplactic.specs.Words.{Within, count}
use Rattle.hypoplactic.proofs.Theory.Contents.{within-counts}
use Rattle.hypoplactic.proofs.Theory.Once.{once_entries}
use Rattle.hypoplactic.proofs.Theory.Placing.{Once}
use Rattle.plactic.specs.Young.{Row, Rows, Young, cell, row_entries, young_entries, young_letters}
use Rattle.plactic.specs.Schensted.{young_of}
use Rattle.plactic.proofs.Theory.Inserting.{AllBefore, Before}
use Rattle.plactic.proofs.Theory.Contents.{count_additive, entries_inserted, length_additive, young_counts, young_entries_lem, young_snoc}
use Rattle.plactic.proofs.Theory.Largest.{Former, largest}

-- The rows are the pair of a word.
pub record OfWord (rows : Rows) : Type 0 where
  pub word : List ℕ
  pub young : young_of word ≡ rows

-- Entries of 1 to n are smaller than n + 1.
within_before : (n : ℕ) (rows : Rows) → Within n (young_entries rows) → AllBefore (suc n) rows
within_before n [] h = tt
within_before n (r ∷ rs) h = row r h (within_before n rs)
  where
    row : (q : Row) → Within n (row_entries q ++ young_entries rs) → (Within n (young_entries rs) → AllBefore (suc n) rs) → Before (suc n) q × AllBefore (suc n) rs
    row [] h k = (tt, k h)
    row (cell x s ∷ cs) h k = let r = row cs h.2 k in let l : s ≤ n = h.1 in ((omega arith, r.0), r.1)

-- The rows before the last letter have one entry less,
before_length : {n : ℕ} {rows : Rows} (f : Former (suc n) rows) → length (young_entries rows) ≡ suc n → length (young_entries f.before) ≡ n
before_length {n} f l = omega (arith, rw f.inserted at (entries_inserted length length_additive (suc n) f.before (some f.letter)))

-- those from 1 to n once,
before_once : {n : ℕ} {rows : Rows} (f : Former (suc n) rows) → Once (suc n) (young_entries rows) → Once n (young_entries f.before)
before_once {n} f o e low high = omega (
  arith,
  o e low (omega arith),
  rw (f.inserted, ne_eqb (suc n) e (omega arith)) at (entries_inserted (count e) (count_additive e) (suc n) f.before (some f.letter)),
)

-- and with the last letter at the end of their word it is that of all rows.
word_former : {n : ℕ} {rows : Rows} (f : Former (suc n) rows) → length (young_entries f.before) ≡ n → OfWord f.before → OfWord rows
word_former f l k =
    let e : length k.word ≡ length (young_entries f.before) = rw k.young at (sym (young_entries_lem k.word)) in
    record { word = k.word ++ (f.letter ∷ []); young = young_snoc k.word f.letter ∙ rw (e, l, k.young) f.inserted }

-- No row at all is the pair of the empty word.
empty_word : OfWord []
unfolding young_of
empty_word = record { word = []; young = refl }

-- By the number of cells: the letter with the largest entry is the last of the word.
onto_of : (n : ℕ) (rows : Rows) → length (young_entries rows) ≡ n → Young rows → Once n (young_entries rows) → OfWord rows
onto_of zero [] l y o = empty_word
onto_of zero ([] ∷ rs) l y o = absurd y.0
onto_of zero ((cell x s ∷ cs) ∷ rs) l y o = let z : ⊥ = omega arith in absurd z
onto_of (suc n) rows l y o = step (largest (suc n) rows y (within_before (suc n) rows within) (omega (arith, o (suc n) (omega arith) (omega arith)))) (onto_of n)
  where
    within : Within (suc n) (young_entries rows)
    within = rw l at ((once_entries (young_entries rows)).0 (rw l o)).0

    step : Former (suc n) rows → ((rs : Rows) → length (young_entries rs) ≡ n → Young rs → Once n (young_entries rs) → OfWord rs) → OfWord rows
    step f below = let cells = before_length f l in word_former f cells (below f.before cells f.young (before_once f o))

-- A word whose pair the rows are.
pub young_onto : (rows : Rows) → Young rows → Once (length (young_entries rows)) (young_entries rows) → OfWord rows
young_onto rows y o = onto_of (length (young_entries rows)) rows refl y o

-- The word is within a rank that the letters of its tableau are within.
pub word_within : (n : ℕ) (w : List ℕ) → Within n (young_letters (young_of w)) → Within n w
word_within n w h = (within-counts n w).1 (λ a c. (within-counts n (young_letters (young_of w))).0 h a (omega (arith, young_counts w a)))
