-- The departure of the oldest letter from a window (document 02, N8): what the operation replies to every input, and what lent memory then holds.
--     empty_judged used      18: no letter is in the window
--     window_word used p     the word in the window, its letters from the oldest on: what the pair in the used cells yields
--     window_judgements      1 2 3 4 5 6 17 7 8          of a window, as insertion judges it
--     WindowAt n used p cs  what they let through: a pair within the limits of rank n in the used cells, with true counts
--     depart_says, depart_run     1 2 3 4 5 6 17 7 8 18     gives the new used count; one letter is counted less
-- A window is the pair in the first cells of three lent lists, of which so many are used, with its 64 letter counts. A lent list keeps its elements beyond
-- those of the word that is left, so also the last used one. The arrival of a letter is insertion (insert_run of outcomes). Assumes nothing.
use Rattle.std.specs.Prelude.{ℕ, ◌-◌, ◌≤◌, List, [], ◌∷◌, ◌++◌, eqb, length, take, drop, get_or}
use Rattle.hypoplactic.specs.Ribbons.{PairAt}
use Rattle.hypoplactic.specs.Insertion.{Pair, pair_of, word_of}
use Rattle.outcomes.specs.Replies.{Said, gives, passed, first, ran_to, refuse_if}
use Rattle.outcomes.specs.Counts.{TrueCounts, counts_judged, one_less}
use Rattle.outcomes.specs.Judgements.{rank_judged, length_judged, used_judged, letters_judged, rising_judged, marks_judged, entries_judged, recording_judged}
use Rattle.outcomes.specs.TableauOperations.{written_pair}

-- 18: a departure from an empty window.
unfoldable pub empty_judged : ℕ → Said
empty_judged used = refuse_if (eqb used 0) 18 0 passed

-- The word in the window, its letters from the oldest on.
abbrev pub window_word : ℕ → Pair → List ℕ
window_word used p = word_of (take used p.letters) (take used p.recording)

-- 1 to 6 of the pair in the used cells, 17 of the counts of the used letters, 7 and 8.
abbrev pub window_judgements : ℕ → ℕ → Pair → List ℕ → List Said
window_judgements n used p cs =
    let xs : List ℕ = take used p.letters in
    let ms : List ℕ = take used p.marks in
    let rs : List ℕ = take used p.recording in
    rank_judged n ∷ length_judged used ∷ used_judged used (length p.letters ∷ length p.marks ∷ length p.recording ∷ [])
    ∷ letters_judged n xs ∷ rising_judged xs ∷ marks_judged xs ms ∷ counts_judged cs xs ∷ entries_judged used rs ∷ recording_judged rs ms ∷ []

-- A window within the limits of rank n.
pub record WindowAt (n used : ℕ) (p : Pair) (cs : List ℕ) : Type 0 where
  pub cells : PairAt n (take used p.letters) (take used p.marks) (take used p.recording)
  pub counts : TrueCounts (take used p.letters) cs
  pub in_letters : used ≤ length p.letters
  pub in_marks : used ≤ length p.marks
  pub in_recording : used ≤ length p.recording

-- The departure of the oldest letter: the pair of the others, inserted afresh, and one less of it.
unfoldable pub depart_says : ℕ → ℕ → Pair → List ℕ → Said
depart_says n used p cs = first (window_judgements n used p cs ++ (empty_judged used ∷ [])) (gives ((used - 1) ∷ []))

unfoldable pub depart_run : ℕ → ℕ → Pair → List ℕ → Said × (Pair × List ℕ)
depart_run n used p cs =
    let w : List ℕ = window_word used p in
    ran_to (depart_says n used p cs) (written_pair (pair_of (drop 1 w)) p, one_less cs (get_or w 0 0)) (p, cs)
