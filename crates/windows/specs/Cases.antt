-- Cases of a window: what the written meaning gives beside what is expected, in the form of outcomes' specs/Starred. A reply stands as its numbers: 0 and
-- the values, or the refusal's number and place; what lent letters, marks, recording entries and counts then hold follows.
--     departure_cases       departures, with one element of lent memory beyond the used ones, and the vacated one before it
--     departure_refusals    every refusal number at its place and in its order
--     empty, of21, of1      three of the windows in it, and stream: calls of which none is refused
--     stream_cases          arrivals and departures one after the other: the word in the window, and the window, after each
-- That the checker computes the one from the other stands in examples' proofs/Theory/WindowCases. Assumes nothing.
use Rattle.std.specs.Prelude.{ℕ, suc, List, [], ◌∷◌, ◌++◌, length, set}
use Rattle.hypoplactic.specs.Insertion.{Pair, empty_pair, pair_with}
use Rattle.outcomes.specs.Counts.{counts_of}
use Rattle.outcomes.specs.TableauOperations.{pair_run}
use Rattle.outcomes.specs.Starred.{Case, case, counts, lent, lent_pair, numbers, pair_outcome}
use Rattle.windows.specs.Departures.{depart_run, depart_says}
use Rattle.windows.specs.Windows.{Call, Window, arrive, called, called_word, leave, window_after, word_after}

-- What the pair's operation leaves for a word, in lists one longer than it.
abbrev filled_with : ℕ → List ℕ → Pair × List ℕ
filled_with n w = (pair_run n w (lent_pair (suc (length w))) (lent 64)).1

-- What a departure from it replies and leaves.
abbrev leaving_from : ℕ → List ℕ → List ℕ
leaving_from n w = pair_outcome (depart_run n (length w) (filled_with n w).0 (filled_with n w).1)

-- What a departure from three lists with true counts replies.
abbrev says_of : ℕ → ℕ → List ℕ → List ℕ → List ℕ → List ℕ
says_of n used xs ms rs = numbers (depart_says n used (pair_with xs ms rs) (counts_of xs))

-- ---- departures

unfoldable pub departure_cases : List Case
departure_cases =
    -- 4323: the oldest letter's cell is the last
    case (leaving_from 4 (4 ∷ 3 ∷ 2 ∷ 3 ∷ []))
    (0 ∷ 3 ∷ 2 ∷ 3 ∷ 3 ∷ 4 ∷ 99 ∷ 0 ∷ 1 ∷ 0 ∷ 1 ∷ 99 ∷ 2 ∷ 1 ∷ 3 ∷ 1 ∷ 99 ∷ counts (0 ∷ 1 ∷ 2 ∷ []))
    ∷ case (leaving_from 4 (4 ∷ 3 ∷ 3 ∷ []))
    (0 ∷ 2 ∷ 3 ∷ 3 ∷ 4 ∷ 99 ∷ 0 ∷ 0 ∷ 1 ∷ 99 ∷ 1 ∷ 2 ∷ 1 ∷ 99 ∷ counts (0 ∷ 0 ∷ 2 ∷ []))
    -- one letter: nothing is left
    ∷ case (leaving_from 1 (1 ∷ []))
    (0 ∷ 0 ∷ 1 ∷ 99 ∷ 0 ∷ 99 ∷ 1 ∷ 99 ∷ counts [])
    -- the oldest cell is the first, and no mark is set
    ∷ case (leaving_from 2 (1 ∷ 2 ∷ []))
    (0 ∷ 1 ∷ 2 ∷ 2 ∷ 99 ∷ 0 ∷ 0 ∷ 99 ∷ 1 ∷ 2 ∷ 99 ∷ counts (0 ∷ 1 ∷ []))
    ∷ case (leaving_from 2 (2 ∷ 1 ∷ []))
    (0 ∷ 1 ∷ 1 ∷ 2 ∷ 99 ∷ 0 ∷ 1 ∷ 99 ∷ 1 ∷ 1 ∷ 99 ∷ counts (1 ∷ []))
    -- 12446553275 at rank 7, 243245565 at rank 6
    ∷ case (leaving_from 7 (1 ∷ 2 ∷ 4 ∷ 4 ∷ 6 ∷ 5 ∷ 5 ∷ 3 ∷ 2 ∷ 7 ∷ 5 ∷ []))
    (0 ∷ 10 ∷ 2 ∷ 2 ∷ 3 ∷ 4 ∷ 4 ∷ 5 ∷ 5 ∷ 5 ∷ 6 ∷ 7 ∷ 7 ∷ 99 ∷ 0 ∷ 0 ∷ 1 ∷ 1 ∷ 0 ∷ 0 ∷ 0 ∷ 0 ∷ 1 ∷ 0 ∷ 0 ∷ 99 ∷ 1 ∷ 8 ∷ 7 ∷ 2 ∷ 3 ∷ 5 ∷ 6 ∷ 10 ∷ 4 ∷ 9 ∷ 10 ∷ 99 ∷ counts (0 ∷ 2 ∷ 1 ∷ 2 ∷ 3 ∷ 1 ∷ 1 ∷ []))
    ∷ case (leaving_from 6 (2 ∷ 4 ∷ 3 ∷ 2 ∷ 4 ∷ 5 ∷ 5 ∷ 6 ∷ 5 ∷ []))
    (0 ∷ 8 ∷ 2 ∷ 3 ∷ 4 ∷ 4 ∷ 5 ∷ 5 ∷ 5 ∷ 6 ∷ 6 ∷ 99 ∷ 0 ∷ 1 ∷ 1 ∷ 0 ∷ 0 ∷ 0 ∷ 0 ∷ 1 ∷ 1 ∷ 99 ∷ 3 ∷ 2 ∷ 1 ∷ 4 ∷ 5 ∷ 6 ∷ 8 ∷ 7 ∷ 8 ∷ 99 ∷ counts (0 ∷ 1 ∷ 1 ∷ 2 ∷ 3 ∷ 1 ∷ []))
    -- the oldest cell between two others: the step that joins them falls
    ∷ case (leaving_from 2 (2 ∷ 2 ∷ 1 ∷ []))
    (0 ∷ 2 ∷ 1 ∷ 2 ∷ 2 ∷ 99 ∷ 0 ∷ 1 ∷ 0 ∷ 99 ∷ 2 ∷ 1 ∷ 2 ∷ 99 ∷ counts (1 ∷ 1 ∷ []))
    ∷ case (leaving_from 3 (2 ∷ 3 ∷ 1 ∷ []))
    (0 ∷ 2 ∷ 1 ∷ 3 ∷ 3 ∷ 99 ∷ 0 ∷ 1 ∷ 0 ∷ 99 ∷ 2 ∷ 1 ∷ 2 ∷ 99 ∷ counts (1 ∷ 0 ∷ 1 ∷ []))
    -- and rises
    ∷ case (leaving_from 2 (2 ∷ 1 ∷ 2 ∷ []))
    (0 ∷ 2 ∷ 1 ∷ 2 ∷ 2 ∷ 99 ∷ 0 ∷ 0 ∷ 0 ∷ 99 ∷ 1 ∷ 2 ∷ 3 ∷ 99 ∷ counts (1 ∷ 1 ∷ []))
    ∷ case (leaving_from 3 (2 ∷ 1 ∷ 3 ∷ []))
    (0 ∷ 2 ∷ 1 ∷ 3 ∷ 3 ∷ 99 ∷ 0 ∷ 0 ∷ 0 ∷ 99 ∷ 1 ∷ 2 ∷ 3 ∷ 99 ∷ counts (1 ∷ 0 ∷ 1 ∷ []))
    ∷ []

-- ---- refusals

unfoldable pub departure_refusals : List Case
departure_refusals =
    -- 18: no letter in the window, whatever lies beyond
    case (numbers (depart_says 4 0 empty_pair (counts []))) (18 ∷ 0 ∷ [])
    ∷ case (pair_outcome (depart_run 4 0 (lent_pair 1) (counts []))) (18 ∷ 0 ∷ 99 ∷ 99 ∷ 99 ∷ counts [])
    -- 1: rank 1 and 64 pass, 0 and 65 do not, before 2 and before 18
    ∷ case (says_of 1 1 (1 ∷ []) (0 ∷ []) (1 ∷ [])) (0 ∷ 0 ∷ [])
    ∷ case (says_of 64 1 (64 ∷ []) (0 ∷ []) (1 ∷ [])) (0 ∷ 0 ∷ [])
    ∷ case (says_of 0 1025 [] [] []) (1 ∷ 0 ∷ [])
    ∷ case (says_of 65 0 [] [] []) (1 ∷ 0 ∷ [])
    -- 2: a used count above 1,024, before 3
    ∷ case (says_of 4 1025 [] [] []) (2 ∷ 0 ∷ [])
    ∷ case (says_of 4 1024 [] [] []) (3 ∷ 0 ∷ [])
    -- 3: the used count above one of the lengths, before 4; longer lists pass
    ∷ case (says_of 4 2 (5 ∷ []) (0 ∷ 0 ∷ []) (1 ∷ 2 ∷ [])) (3 ∷ 0 ∷ [])
    ∷ case (says_of 4 2 (5 ∷ 5 ∷ []) (0 ∷ []) (1 ∷ 2 ∷ [])) (3 ∷ 0 ∷ [])
    ∷ case (says_of 4 2 (5 ∷ 5 ∷ []) (0 ∷ 0 ∷ []) (1 ∷ [])) (3 ∷ 0 ∷ [])
    ∷ case (numbers (depart_says 4 2 (pair_with (3 ∷ 4 ∷ []) (0 ∷ 0 ∷ 9 ∷ []) (1 ∷ 2 ∷ 9 ∷ 9 ∷ [])) (counts (0 ∷ 0 ∷ 1 ∷ 1 ∷ [])))) (0 ∷ 1 ∷ [])
    -- 4: at a first, a middle and a last place, before 5; a letter beyond the used ones is not looked at
    ∷ case (says_of 4 3 (0 ∷ 3 ∷ 2 ∷ []) (0 ∷ 0 ∷ 0 ∷ []) (1 ∷ 2 ∷ 3 ∷ [])) (4 ∷ 0 ∷ [])
    ∷ case (says_of 4 3 (4 ∷ 5 ∷ 2 ∷ []) (0 ∷ 0 ∷ 0 ∷ []) (1 ∷ 2 ∷ 3 ∷ [])) (4 ∷ 1 ∷ [])
    ∷ case (says_of 4 3 (4 ∷ 3 ∷ 5 ∷ []) (0 ∷ 0 ∷ 0 ∷ []) (1 ∷ 2 ∷ 3 ∷ [])) (4 ∷ 2 ∷ [])
    ∷ case (numbers (depart_says 4 2 (pair_with (3 ∷ 4 ∷ 5 ∷ []) (0 ∷ 0 ∷ 0 ∷ []) (1 ∷ 2 ∷ 3 ∷ [])) (counts (0 ∷ 0 ∷ 1 ∷ 1 ∷ [])))) (0 ∷ 1 ∷ [])
    -- 5: at a first and a last place, before 6
    ∷ case (says_of 4 3 (2 ∷ 1 ∷ 1 ∷ []) (1 ∷ 0 ∷ 0 ∷ []) (1 ∷ 2 ∷ 3 ∷ [])) (5 ∷ 1 ∷ [])
    ∷ case (says_of 4 3 (1 ∷ 2 ∷ 1 ∷ []) (1 ∷ 0 ∷ 0 ∷ []) (1 ∷ 2 ∷ 3 ∷ [])) (5 ∷ 2 ∷ [])
    -- 6: the first mark, a step between equals, a mark that is none, before 17
    ∷ case (numbers (depart_says 4 3 (pair_with (1 ∷ 1 ∷ 2 ∷ []) (1 ∷ 0 ∷ 0 ∷ []) (1 ∷ 2 ∷ 3 ∷ [])) (lent 64))) (6 ∷ 0 ∷ [])
    ∷ case (says_of 4 3 (1 ∷ 1 ∷ 2 ∷ []) (0 ∷ 1 ∷ 0 ∷ []) (1 ∷ 2 ∷ 3 ∷ [])) (6 ∷ 1 ∷ [])
    ∷ case (says_of 4 3 (1 ∷ 1 ∷ 2 ∷ []) (0 ∷ 0 ∷ 2 ∷ []) (1 ∷ 2 ∷ 3 ∷ [])) (6 ∷ 2 ∷ [])
    -- 17: at a first, a middle and a last place, before 7, and before 18
    ∷ case (numbers (depart_says 4 2 (pair_with (1 ∷ 2 ∷ []) (0 ∷ 0 ∷ []) (0 ∷ 0 ∷ [])) (counts (0 ∷ 1 ∷ [])))) (17 ∷ 0 ∷ [])
    ∷ case (numbers (depart_says 4 0 empty_pair (set (counts []) 5 1))) (17 ∷ 5 ∷ [])
    ∷ case (numbers (depart_says 4 0 empty_pair (set (counts []) 63 1))) (17 ∷ 63 ∷ [])
    -- 7: an entry that is 0, above the used count, met before, before 8
    ∷ case (says_of 4 3 (1 ∷ 2 ∷ 3 ∷ []) (0 ∷ 0 ∷ 0 ∷ []) (0 ∷ 2 ∷ 1 ∷ [])) (7 ∷ 0 ∷ [])
    ∷ case (says_of 4 3 (1 ∷ 2 ∷ 3 ∷ []) (0 ∷ 0 ∷ 0 ∷ []) (2 ∷ 4 ∷ 1 ∷ [])) (7 ∷ 1 ∷ [])
    ∷ case (says_of 4 3 (1 ∷ 2 ∷ 3 ∷ []) (0 ∷ 0 ∷ 0 ∷ []) (2 ∷ 1 ∷ 2 ∷ [])) (7 ∷ 2 ∷ [])
    -- the used count, not the lent length, is the bound; an entry beyond the used ones is not looked at
    ∷ case (numbers (depart_says 4 2 (pair_with (1 ∷ 2 ∷ 3 ∷ []) (0 ∷ 0 ∷ 0 ∷ []) (1 ∷ 3 ∷ 9 ∷ [])) (counts (1 ∷ 1 ∷ [])))) (7 ∷ 1 ∷ [])
    ∷ case (numbers (depart_says 4 2 (pair_with (1 ∷ 2 ∷ 3 ∷ []) (0 ∷ 0 ∷ 0 ∷ []) (1 ∷ 2 ∷ 1 ∷ [])) (counts (1 ∷ 1 ∷ [])))) (0 ∷ 1 ∷ [])
    -- 8: a fall at a right step, a rise at a down step
    ∷ case (says_of 4 3 (1 ∷ 2 ∷ 3 ∷ []) (0 ∷ 0 ∷ 0 ∷ []) (2 ∷ 1 ∷ 3 ∷ [])) (8 ∷ 1 ∷ [])
    ∷ case (says_of 4 3 (1 ∷ 2 ∷ 3 ∷ []) (0 ∷ 0 ∷ 1 ∷ []) (1 ∷ 2 ∷ 3 ∷ [])) (8 ∷ 2 ∷ [])
    ∷ []

-- ---- a stream

-- A window in three lists, so many cells used, with the first of its counts.
abbrev window : ℕ → List ℕ → List ℕ → List ℕ → List ℕ → Window
window used xs ms rs cs = record { used = used; pair = pair_with xs ms rs; counts = counts cs }

-- The word in a window, and the window: the used count, the three lists and the counts.
abbrev shown : Window → List ℕ → List ℕ
shown v w = w ++ (v.used ∷ (v.pair.letters ++ (v.pair.marks ++ (v.pair.recording ++ v.counts))))

-- Windows of two cells at rank 3, by their words.
abbrev pub empty : Window
empty = window 0 (99 ∷ 99 ∷ []) (99 ∷ 99 ∷ []) (99 ∷ 99 ∷ []) []

abbrev of2 : Window
of2 = window 1 (2 ∷ 99 ∷ []) (0 ∷ 99 ∷ []) (1 ∷ 99 ∷ []) (0 ∷ 1 ∷ [])

abbrev pub of21 : Window
of21 = window 2 (1 ∷ 2 ∷ []) (0 ∷ 1 ∷ []) (2 ∷ 1 ∷ []) (1 ∷ 1 ∷ [])

abbrev pub of1 : Window
of1 = window 1 (1 ∷ 2 ∷ []) (0 ∷ 1 ∷ []) (1 ∷ 1 ∷ []) (1 ∷ [])

abbrev of13 : Window
of13 = window 2 (1 ∷ 3 ∷ []) (0 ∷ 0 ∷ []) (1 ∷ 2 ∷ []) (1 ∷ 0 ∷ 1 ∷ [])

abbrev of3 : Window
of3 = window 1 (3 ∷ 3 ∷ []) (0 ∷ 0 ∷ []) (1 ∷ 2 ∷ []) (0 ∷ 0 ∷ 1 ∷ [])

abbrev emptied : Window
emptied = window 0 (3 ∷ 3 ∷ []) (0 ∷ 0 ∷ []) (1 ∷ 2 ∷ []) []

-- Both after a call,
abbrev call : Call → Window → List ℕ → List ℕ
call c v w = shown (called 3 c v) (called_word 3 c v w)

-- and after calls on an empty window.
abbrev calls : List Call → List ℕ
calls cs = shown (window_after 3 cs empty) (word_after 3 cs empty [])

-- Calls of which none is refused.
abbrev pub stream : List Call
stream = arrive 2 ∷ arrive 1 ∷ leave ∷ arrive 3 ∷ []

-- Each call finds what the one before left. A letter outside the rank, one for which there is no room, and a departure too many change nothing.
unfoldable pub stream_cases : List Case
stream_cases =
    case (call (arrive 2) empty []) (shown of2 (2 ∷ []))
    ∷ case (call (arrive 4) of2 (2 ∷ [])) (shown of2 (2 ∷ []))
    ∷ case (call (arrive 1) of2 (2 ∷ [])) (shown of21 (2 ∷ 1 ∷ []))
    ∷ case (call (arrive 3) of21 (2 ∷ 1 ∷ [])) (shown of21 (2 ∷ 1 ∷ []))
    ∷ case (call leave of21 (2 ∷ 1 ∷ [])) (shown of1 (1 ∷ []))
    ∷ case (call (arrive 3) of1 (1 ∷ [])) (shown of13 (1 ∷ 3 ∷ []))
    ∷ case (call leave of13 (1 ∷ 3 ∷ [])) (shown of3 (3 ∷ []))
    ∷ case (call leave of3 (3 ∷ [])) (shown emptied [])
    ∷ case (call leave emptied []) (shown emptied [])
    -- two calls in a sequence
    ∷ case (calls (leave ∷ arrive 2 ∷ [])) (shown of2 (2 ∷ []))
    ∷ []
