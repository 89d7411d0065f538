-- The checks of the values of a C line (document 02, N9), each over all items: passed, or refused with the number and the first place.
--     item_letters rs            the letters of the items: 4 over them gives the item's index
--     runs_judged rs             19: the first item whose letter is not above the one before it, or whose count is 0
--     sum_judged L rs            20: the counts do not add to L
--     run_judgements n L rs      1 2 4 19 20
-- 2 is of L alone. 3, 5 and 6 have nothing to judge: a C line has one part, and what 4, 19 and 20 let through is a tableau (Theory/Judged). Assumes nothing.
use Rattle.std.specs.Prelude.{ℕ, suc, ◌||◌, not, List, [], ◌∷◌, map, eqb, leb}
use Rattle.grammar.specs.Lines.{Run}
use Rattle.outcomes.specs.Replies.{Said, passed, refuse_if}
use Rattle.outcomes.specs.Judgements.{length_judged, letters_judged, rank_judged}
use Rattle.run_lines.specs.Runs.{run_cells}

-- The letter of each item.
abbrev pub item_letters : List Run → List ℕ
item_letters = map (λ r. r.letter)

-- 19, the items from index i on after the letter x.
abbrev pub runs_from : ℕ → ℕ → List Run → Said
runs_from i x [] = passed
runs_from i x (r ∷ rs) = refuse_if (leb r.letter x || eqb r.times 0) 19 i (runs_from (suc i) r.letter rs)

-- 19. Before the first item stands no letter: a letter at most 0 was refused with 4.
unfoldable pub runs_judged : List Run → Said
runs_judged rs = runs_from 0 0 rs

-- 20: the counts do not add to L.
unfoldable pub sum_judged : ℕ → List Run → Said
sum_judged L rs = refuse_if (not (eqb (run_cells rs) L)) 20 0 passed

-- 1, 2, 4, 19 and 20 of the values of a C line.
abbrev pub run_judgements : ℕ → ℕ → List Run → List Said
run_judgements n L rs = rank_judged n ∷ length_judged L ∷ letters_judged n (item_letters rs) ∷ runs_judged rs ∷ sum_judged L rs ∷ []
