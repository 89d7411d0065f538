-- What the program prints, of every text: the three lines of the accepted word that it holds, or one E line whose place is at most 4,096.
--     outputs             every text has one of the two kinds
--     output_accepted     the W line of an accepted word has the first, if it is no longer than 4,096 bytes (that it never is: outputs, specs/Longest)
-- Assumes nothing.
use Prim.Native.Nat.{ℕ, suc, ◌+◌, ◌≤◌}
use mathlib.Core.Path.{◌≡◌, refl, ◌∙◌}
use mathlib.Core.Bool.{Bool, true, false}
use mathlib.Core.List.{List, [], ◌∷◌}
use native.Mathlib.Omega.{arith}
use lib.Dec.{ltb}
use lib.ListN.{length}
use borrow.Author.Tests.{le-ltb, ltb-false}
use Rattle.grammar.specs.Lines.{w_line}
use Rattle.grammar.specs.Reading.{Read, got, broken, read_w}
use Rattle.grammar.proofs.Theory.Complete.{w_complete}
use Rattle.grammar.proofs.Theory.Sound.{w_sound}
use Rattle.hypoplactic.specs.Words.{Accepted}
use Rattle.outcomes.specs.Replies.{Said, gives, refused, passed, first, refuse_if}
use Rattle.outcomes.specs.Judgements.{length_judged, letters_from, letters_judged, outside, rank_judged, word_judgements}
use Rattle.outcomes.specs.LineOperations.{three_lines, program}
use Rattle.outcomes.specs.LineReadings.{Outputs, break_place, lines, output, printed_for, refusal}
use Rattle.outcomes.proofs.Theory.Judged.{word_passing}
use Rattle.outcomes.proofs.Theory.LineReadings.{accepted_small}
use Rattle.outcomes.proofs.Theory.LineResults.{program_result}
use Rattle.outcomes.proofs.Theory.Passing.{Passing}

-- ---- the places of 1, 2 and 4

-- A refusal has a number from 1 to 4, and a place up to m.
abbrev UpTo : ℕ → Said → Type 0
UpTo m (gives vs) = Unit {0}
UpTo m (refused k p) = (1 ≤ k) × (k ≤ 4) × (p ≤ m)

letters-up_to : (n i m : ℕ) (xs : List ℕ) → i + length xs ≤ m → UpTo m (letters_from n i xs)
letters-up_to n i m [] l = tt
letters-up_to n i m (x ∷ xs) l = go (outside n x) (letters-up_to n (suc i) m xs (omega arith))
  where
    go : (b : Bool) → UpTo m (letters_from n (suc i) xs) → UpTo m (refuse_if b 4 i (letters_from n (suc i) xs))
    go true h = (omega arith, omega arith, omega arith)
    go false h = h

-- The letters are judged only of a word of at most 1,024.
word_up_to : (n : ℕ) (w : List ℕ) → UpTo 1024 (first (word_judgements n w) passed)
unfolding rank_judged length_judged letters_judged
word_up_to n w = go (outside 64 n) (ltb 1024 (length w)) refl
  where
    last : (s : Said) → UpTo 1024 s → UpTo 1024 (first (s ∷ []) passed)
    last (gives vs) h = tt
    last (refused k p) h = h

    go : (b c : Bool) → ltb 1024 (length w) ≡ c
        → UpTo 1024 (first (refuse_if b 1 0 passed ∷ refuse_if c 2 0 passed ∷ letters_from n 0 w ∷ []) passed)
    go true c e = (omega arith, omega arith, omega arith)
    go false true e = (omega arith, omega arith, omega arith)
    go false false e = last (letters_from n 0 w) (letters-up_to n 0 1024 w (omega (arith, ltb-false 1024 (length w) e)))

-- ---- every text

-- Checks that give values refuse nothing.
gives_passing : (js : List Said) (vs : List ℕ) → first js passed ≡ gives vs → Passing js
gives_passing [] vs e = tt
gives_passing (gives us ∷ js) vs e = (tt, gives_passing js vs e)
gives_passing (refused k p ∷ js) vs e = let z : ◌≡◌ {A = ℕ} 0 1 = cc in let no : ⊥ = omega arith in absurd no

module _ (text : List ℕ) where
  -- The values of a line.
  values : (n : ℕ) (w : List ℕ) → text ≡ w_line n w → output text ≡ program n w → Outputs text
  unfolding program
  values n w t e = go (first (word_judgements n w) passed) refl (word_up_to n w)
    where
      go : (s : Said) → first (word_judgements n w) passed ≡ s → UpTo 1024 s → Outputs text
      go (gives vs) f h = let a : Accepted n w = (word_passing n w).0 (gives_passing (word_judgements n w) vs f) in lines n w a t (e ∙ program_result n w a)
      go (refused k p) f (low, high, place) = refusal k p low (omega arith) (omega arith) (e ∙ rw f refl)

  -- At most 4,096 bytes.
  short : length text ≤ 4096 → (r : Read (ℕ × List ℕ)) → read_w text ≡ r → output text ≡ printed_for text r → Outputs text
  short l (got v rest) f e = values v.0 v.1 (w_sound text v.0 v.1 rest f).0 e
  short l (broken rest) f e = refusal 14 (break_place text rest) (omega arith) (omega arith) (omega arith) e

  pub outputs : Outputs text
  unfolding output
  outputs = go (ltb 4096 (length text)) refl
    where
      go : (b : Bool) → ltb 4096 (length text) ≡ b → Outputs text
      go true f = refusal 14 4096 (omega arith) (omega arith) (omega arith) (rw f refl)
      go false f = short (ltb-false 4096 (length text) f) (read_w text) refl (rw f refl)

-- ---- accepted words

pub output_accepted : {n : ℕ} {w : List ℕ} → Accepted n w → length (w_line n w) ≤ 4096 → output (w_line n w) ≡ three_lines n w
unfolding output
output_accepted {n} {w} a l = rw (le-ltb 4096 (length (w_line n w)) l, w_complete n w (accepted_small a).0 (accepted_small a).1) (program_result n w a)
