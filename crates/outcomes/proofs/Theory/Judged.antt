-- What the shared lists of judgements let through: no refusal exactly for an accepted word, a tableau and a pair within the limits.
--     word_passing, tableau_passing, pair_passing    no judgement of the list refuses, exactly when ..
--     counted_passing, counted_pair_passing          and with 17, exactly when the letter counts are true besides
--     word_judged, tableau-judged, pair_judged, counted-judged, counted_pair_judged     the same of the chain's reply
--     second_word_place      of two words, a letter of the second is refused at its place counted on from the first's length
-- Assumes nothing.
use Prim.Native.Nat.{ℕ, ◌+◌}
use mathlib.Core.Path.{◌≡◌, sym, ap, ◌∙◌}
use mathlib.Core.List.{List, [], ◌∷◌}
use mathlib.Core.Logic.Iff
use mathlib.Core.Logic.{◌↔◌}
use lib.ListN.{length}
use Rattle.hypoplactic.specs.Words.{Accepted, Within}
use Rattle.hypoplactic.specs.Ribbons.{EntryStep, LetterStep, PairAt, Simple, Tableau, TableauAt}
use Rattle.outcomes.specs.Replies.{Passes, Said, count_on, first, or_else, passed, refused}
use Rattle.outcomes.specs.Counts.{TrueCounts, counts_judged}
use Rattle.outcomes.specs.Judgements.{counted_judgements, counted_pair_judgements, length_judged, letters_judged, pair_judgements, rank_judged, tableau_judgements, word_judgements}
use Rattle.outcomes.specs.WordOperations.{same_class_says, weights_says, words_judgements}
use Rattle.outcomes.proofs.Theory.Counts.{counts-judged}
use Rattle.outcomes.proofs.Theory.Passing.{Passing, first-passed, first_past, passing_append}
use Rattle.hypoplactic.proofs.Theory.Once.{once_entries}
use Rattle.outcomes.proofs.Theory.Judgements.{alike-judged, entries_judged_lem, length-judged, letters-judged, rank_judged_lem}
use Rattle.outcomes.proofs.Theory.StepJudgements.{recording_steps, ribbon-length, tableau-steps}

-- 1, 2 and 4 refuse nothing: the word is accepted.
pub word_passing : (n : ℕ) (w : List ℕ) → Passing (word_judgements n w) ↔ Accepted n w
word_passing n w = (there, λ a. ((rank_judged_lem n).1 (a.rank_low, a.rank_high), ((length-judged (length w)).1 a.short, ((letters-judged n w).1 a.letters, tt))))
  where
    there : Passing (word_judgements n w) → Accepted n w
    there (rank, (short, (letters, t))) = record {
      rank_low = ((rank_judged_lem n).0 rank).0;
      rank_high = ((rank_judged_lem n).0 rank).1;
      short = (length-judged (length w)).0 short;
      letters = (letters-judged n w).0 letters;
    }

-- 1 to 6 refuse nothing: the tableau is valid, and within the limits.
pub tableau_passing : (n : ℕ) (xs ms : List ℕ) → Passing (tableau_judgements n xs ms) ↔ TableauAt n xs ms
tableau_passing n xs ms = (there, back)
  where
    there : Passing (tableau_judgements n xs ms) → TableauAt n xs ms
    there (rank, (short, (alike, (letters, (rising, (marks, t)))))) = record {
      word = (word_passing n xs).0 (rank, (short, (letters, tt)));
      tableau = (tableau-steps xs ms ((alike-judged _ _).0 alike).0).0 (rising, marks);
    }

    back : TableauAt n xs ms → Passing (tableau_judgements n xs ms)
    back h =
        let (rank, (short, (letters, t))) = (word_passing n xs).1 h.word in
        let alike : length ms ≡ length xs = ribbon-length LetterStep xs ms h.tableau in
        let (rising, marks) = (tableau-steps xs ms alike).1 h.tableau in
        (rank, (short, ((alike-judged _ _).1 (alike, tt), (letters, (rising, (marks, tt))))))

-- 1 to 8 refuse nothing: the pair is valid, and within the limits.
pub pair_passing : (n : ℕ) (xs ms rs : List ℕ) → Passing (pair_judgements n xs ms rs) ↔ PairAt n xs ms rs
pair_passing n xs ms rs = (there, back)
  where
    there : Passing (pair_judgements n xs ms rs) → PairAt n xs ms rs
    there (rank, (short, (alike, (letters, (rising, (marks, (entries, (recording, t)))))))) =
        let (as_marks, (as_entries, t)) = (alike-judged _ _).0 alike in
        let tableau : Tableau xs ms = (tableau-steps xs ms as_marks).0 (rising, marks) in
        let whole : Within (length rs) rs × Simple rs = rw as_entries ((entries_judged_lem (length xs) rs).0 entries) in
        record {
          word = (word_passing n xs).0 (rank, (short, (letters, tt)));
          pair = record {
            tableau = tableau;
            recording = record {
              steps = (recording_steps xs ms rs tableau (as_marks ∙ sym as_entries) whole.1).0 recording;
              once = (once_entries rs).1 whole;
            };
          };
        }

    back : PairAt n xs ms rs → Passing (pair_judgements n xs ms rs)
    back h =
        let tableau : Tableau xs ms = h.pair.tableau in
        let (rank, (short, (as_tableau, (letters, (rising, (marks, t)))))) = (tableau_passing n xs ms).1 (record { word = h.word; tableau = tableau }) in
        let as_marks : length ms ≡ length xs = ribbon-length LetterStep xs ms tableau in
        let as_entries : length ms ≡ length rs = ribbon-length EntryStep rs ms h.pair.recording.steps in
        let whole : Within (length rs) rs × Simple rs = (once_entries rs).0 h.pair.recording.once in
        let alike = (alike-judged (length xs) (length ms ∷ length rs ∷ [])).1 (as_marks, (sym as_entries ∙ as_marks, tt)) in
        let entries = (entries_judged_lem (length xs) rs).1 (rw (← as_marks, as_entries) whole) in
        let recording = (recording_steps xs ms rs tableau as_entries whole.1).1 h.pair.recording.steps in
        (rank, (short, (alike, (letters, (rising, (marks, (entries, (recording, tt))))))))

-- 1 to 6 and 17 refuse nothing: so it is, and its letter counts are true.
pub counted_passing : (n : ℕ) (xs ms cs : List ℕ) → Passing (counted_judgements n xs ms cs) ↔ (TableauAt n xs ms × TrueCounts xs cs)
counted_passing n xs ms cs =
    let p = passing_append (tableau_judgements n xs ms) (counts_judged cs xs ∷ []) in (
      λ h. ((tableau_passing n xs ms).0 (p.0 h).0, (counts-judged cs xs).0 (p.0 h).1.0),
      λ h. p.1 ((tableau_passing n xs ms).1 h.0, ((counts-judged cs xs).1 h.1, tt)),
    )

-- The same of a pair with its letter counts.
pub counted_pair_passing : (n : ℕ) (xs ms rs cs : List ℕ) → Passing (counted_pair_judgements n xs ms rs cs) ↔ (PairAt n xs ms rs × TrueCounts xs cs)
counted_pair_passing n xs ms rs cs = (there, back)
  where
    there : Passing (counted_pair_judgements n xs ms rs cs) → PairAt n xs ms rs × TrueCounts xs cs
    there (rank, (short, (alike, (letters, (rising, (marks, (counts, (entries, (recording, t))))))))) =
        ((pair_passing n xs ms rs).0 (rank, (short, (alike, (letters, (rising, (marks, (entries, (recording, tt)))))))), (counts-judged cs xs).0 counts)

    back : PairAt n xs ms rs × TrueCounts xs cs → Passing (counted_pair_judgements n xs ms rs cs)
    back (h, c) =
        let (rank, (short, (alike, (letters, (rising, (marks, (entries, (recording, t)))))))) = (pair_passing n xs ms rs).1 h in
        (rank, (short, (alike, (letters, (rising, (marks, ((counts-judged cs xs).1 c, (entries, (recording, tt)))))))))

-- The same of what the chains reply: of a word,
pub word_judged : (n : ℕ) (w : List ℕ) → (first (word_judgements n w) passed ≡ passed) ↔ Accepted n w
word_judged n w = Iff.trans (first-passed (word_judgements n w)) (word_passing n w)

-- of a tableau,
pub tableau-judged : (n : ℕ) (xs ms : List ℕ) → (first (tableau_judgements n xs ms) passed ≡ passed) ↔ TableauAt n xs ms
tableau-judged n xs ms = Iff.trans (first-passed (tableau_judgements n xs ms)) (tableau_passing n xs ms)

-- of a pair,
pub pair_judged : (n : ℕ) (xs ms rs : List ℕ) → (first (pair_judgements n xs ms rs) passed ≡ passed) ↔ PairAt n xs ms rs
pair_judged n xs ms rs = Iff.trans (first-passed (pair_judgements n xs ms rs)) (pair_passing n xs ms rs)

-- and of both with letter counts.
pub counted-judged : (n : ℕ) (xs ms cs : List ℕ) → (first (counted_judgements n xs ms cs) passed ≡ passed) ↔ (TableauAt n xs ms × TrueCounts xs cs)
counted-judged n xs ms cs = Iff.trans (first-passed (counted_judgements n xs ms cs)) (counted_passing n xs ms cs)

pub counted_pair_judged : (n : ℕ) (xs ms rs cs : List ℕ)
    → (first (counted_pair_judgements n xs ms rs cs) passed ≡ passed) ↔ (PairAt n xs ms rs × TrueCounts xs cs)
counted_pair_judged n xs ms rs cs = Iff.trans (first-passed (counted_pair_judgements n xs ms rs cs)) (counted_pair_passing n xs ms rs cs)

-- ---- two words

-- Where the first of two words is accepted, and the second by its rank and length, a letter that 4 refuses in the second alone is refused at its place
-- counted on from the first's length.
second_place : (n m : ℕ) (u v : List ℕ) (p : ℕ) (answer : Said) → Accepted n u → Passes (rank_judged m) → Passes (length_judged (length v))
    → letters_judged m v ≡ refused 4 p → first (words_judgements n u m v) answer ≡ refused 4 (length u + p)
second_place n m u v p answer a rank short e =
    let (first_rank, (first_short, (first-letters, t))) = (word_passing n u).1 a in
    first_past (rank_judged n ∷ rank_judged m ∷ length_judged (length u) ∷ length_judged (length v) ∷ letters_judged n u ∷ [])
    (count_on (length u) (letters_judged m v) ∷ []) answer (first_rank, (rank, (first_short, (short, (first-letters, tt)))))
    ∙ ap (λ (s : Said). or_else (count_on (length u) s) answer) e

pub second_word_place : (n m : ℕ) (u v : List ℕ) (p : ℕ) → Accepted n u → Passes (rank_judged m) → Passes (length_judged (length v))
    → letters_judged m v ≡ refused 4 p → (same_class_says n u m v ≡ refused 4 (length u + p)) × (weights_says n u m v ≡ refused 4 (length u + p))
unfolding same_class_says weights_says
second_word_place n m u v p a rank short e = (second_place n m u v p _ a rank short e, second_place n m u v p _ a rank short e)
