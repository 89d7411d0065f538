-- A cell taken out of a pair: what the departure of the oldest letter does to the used cells, without inserting any letter again.
--     without k xs       xs without its element at place k
--     lowered rs         each entry one less
--     joint k rs         the mark of the cell after the one taken out at place k: down where its entry is below that of the cell before the one taken out
--     closed k p         the cells of p without the one at place k: entries one less, and that one mark set anew
-- That this is the pair of the word without its first letter, where the cell at place k has the entry 1, is departs of proofs/Theory/Departures.
-- Assumes nothing.
use Rattle.std.specs.Prelude.{ℕ, zero, suc, ◌-◌, List, [], ◌∷◌, ◌++◌, ltb, take, drop, get_or, set}
use Rattle.hypoplactic.specs.Words.{tick}
use Rattle.hypoplactic.specs.Insertion.{Pair, pair_with}

abbrev pub without : ℕ → List ℕ → List ℕ
without k xs = take k xs ++ drop (suc k) xs

abbrev pub lowered : List ℕ → List ℕ
lowered [] = []
lowered (r ∷ rs) = (r - 1) ∷ lowered rs

-- No step leads into a first cell. Elsewhere the step is the one between the two cells beside the gap.
unfoldable pub joint : ℕ → List ℕ → ℕ
joint zero rs = 0
joint (suc before) rs = tick (ltb (get_or rs (suc (suc before)) 0) (get_or rs before 0)) 0

-- Where no cell follows, there is no mark to set.
unfoldable pub closed : ℕ → Pair → Pair
closed k p =
    pair_with (without k p.letters) (set (without k p.marks) k (joint k p.recording)) (lowered (without k p.recording))
