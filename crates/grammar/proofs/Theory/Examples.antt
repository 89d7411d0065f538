-- Lines written out, byte for byte, and read back: those of the word 4323 at rank 4, of the empty word, and a few more. Assumes nothing.
use mathlib.Core.Path.{◌≡◌, refl}
use mathlib.Core.List.{List, [], ◌∷◌}
use Rattle.grammar.specs.Numbers.{decimal}
use Rattle.grammar.specs.Lines.{Run, w_line, t_line, c_line, p_line, n_line, j_line, e_line}
use Rattle.grammar.specs.Reading.{read_w, read_t, read_c, read_runs, read_p, read_n, got, broken}

-- W,4,4,4,3,2,3 and T,4,4,2,d,3,r,3,d,4 and N,4,3,2,4,1 and J,6,3 and E,14,4096 and T,4,0 and N,0, and the largest number of 64 bits.
pub lines_written :
    (w_line 4 (4 ∷ 3 ∷ 2 ∷ 3 ∷ []) ≡ 87 ∷ 44 ∷ 52 ∷ 44 ∷ 52 ∷ 44 ∷ 52 ∷ 44 ∷ 51 ∷ 44 ∷ 50 ∷ 44 ∷ 51 ∷ 10 ∷ [])
    × (t_line 4 (2 ∷ 3 ∷ 3 ∷ 4 ∷ []) (0 ∷ 1 ∷ 0 ∷ 1 ∷ [])
    ≡ 84 ∷ 44 ∷ 52 ∷ 44 ∷ 52 ∷ 44 ∷ 50 ∷ 44 ∷ 100 ∷ 44 ∷ 51 ∷ 44 ∷ 114 ∷ 44 ∷ 51 ∷ 44 ∷ 100 ∷ 44 ∷ 52 ∷ 10 ∷ [])
    × (n_line (3 ∷ 2 ∷ 4 ∷ 1 ∷ []) ≡ 78 ∷ 44 ∷ 52 ∷ 44 ∷ 51 ∷ 44 ∷ 50 ∷ 44 ∷ 52 ∷ 44 ∷ 49 ∷ 10 ∷ [])
    × (j_line 6 3 ≡ 74 ∷ 44 ∷ 54 ∷ 44 ∷ 51 ∷ 10 ∷ [])
    × (e_line 14 4096 ≡ 69 ∷ 44 ∷ 49 ∷ 52 ∷ 44 ∷ 52 ∷ 48 ∷ 57 ∷ 54 ∷ 10 ∷ [])
    × (t_line 4 [] [] ≡ 84 ∷ 44 ∷ 52 ∷ 44 ∷ 48 ∷ 10 ∷ [])
    × (n_line [] ≡ 78 ∷ 44 ∷ 48 ∷ 10 ∷ [])
    × (decimal 18446744073709551615
    ≡ 49 ∷ 56 ∷ 52 ∷ 52 ∷ 54 ∷ 55 ∷ 52 ∷ 52 ∷ 48 ∷ 55 ∷ 51 ∷ 55 ∷ 48 ∷ 57 ∷ 53 ∷ 53 ∷ 49 ∷ 54 ∷ 49 ∷ 53 ∷ [])
unfolding w_line t_line n_line j_line e_line decimal
lines_written = (refl, refl, refl, refl, refl, refl, refl, refl)

-- The same three lines read; then `W,4,2,3`, broken at its line feed, place 7; `W,04`, at the 4; `W,4,1,3,2`, at the comma after the first letter; `W,4,0`, at the end.
pub lines_read :
    (read_w (87 ∷ 44 ∷ 52 ∷ 44 ∷ 52 ∷ 44 ∷ 52 ∷ 44 ∷ 51 ∷ 44 ∷ 50 ∷ 44 ∷ 51 ∷ 10 ∷ []) ≡ got (4, 4 ∷ 3 ∷ 2 ∷ 3 ∷ []) [])
    × (read_t (84 ∷ 44 ∷ 52 ∷ 44 ∷ 52 ∷ 44 ∷ 50 ∷ 44 ∷ 100 ∷ 44 ∷ 51 ∷ 44 ∷ 114 ∷ 44 ∷ 51 ∷ 44 ∷ 100 ∷ 44 ∷ 52 ∷ 10 ∷ [])
    ≡ got (4, 2 ∷ 3 ∷ 3 ∷ 4 ∷ [], 0 ∷ 1 ∷ 0 ∷ 1 ∷ []) [])
    × (read_n (78 ∷ 44 ∷ 52 ∷ 44 ∷ 51 ∷ 44 ∷ 50 ∷ 44 ∷ 52 ∷ 44 ∷ 49 ∷ 10 ∷ []) ≡ got (3 ∷ 2 ∷ 4 ∷ 1 ∷ []) [])
    × (read_w (87 ∷ 44 ∷ 52 ∷ 44 ∷ 50 ∷ 44 ∷ 51 ∷ 10 ∷ []) ≡ broken (10 ∷ []))
    × (read_w (87 ∷ 44 ∷ 48 ∷ 52 ∷ 10 ∷ []) ≡ broken (52 ∷ 10 ∷ []))
    × (read_w (87 ∷ 44 ∷ 52 ∷ 44 ∷ 49 ∷ 44 ∷ 51 ∷ 44 ∷ 50 ∷ 10 ∷ []) ≡ broken (44 ∷ 50 ∷ 10 ∷ []))
    × (read_w (87 ∷ 44 ∷ 52 ∷ 44 ∷ 48 ∷ []) ≡ broken [])
unfolding read_w read_t read_n
lines_read = (refl, refl, refl, refl, refl, refl, refl)

-- P,4,4,2,d,3,r,3,d,4,3,2,4,1 and P,4,0 and P,4,1,3,1, the pairs of 4323, of the empty word and of 3.
pub pairs_written :
    (p_line 4 (2 ∷ 3 ∷ 3 ∷ 4 ∷ []) (0 ∷ 1 ∷ 0 ∷ 1 ∷ []) (3 ∷ 2 ∷ 4 ∷ 1 ∷ [])
    ≡ 80 ∷ 44 ∷ 52 ∷ 44 ∷ 52 ∷ 44 ∷ 50 ∷ 44 ∷ 100 ∷ 44 ∷ 51 ∷ 44 ∷ 114 ∷ 44 ∷ 51 ∷ 44 ∷ 100 ∷ 44 ∷ 52 ∷ 44 ∷ 51 ∷ 44 ∷ 50 ∷ 44 ∷ 52 ∷ 44 ∷ 49 ∷ 10 ∷ [])
    × (p_line 4 [] [] [] ≡ 80 ∷ 44 ∷ 52 ∷ 44 ∷ 48 ∷ 10 ∷ [])
    × (p_line 4 (3 ∷ []) (0 ∷ []) (1 ∷ []) ≡ 80 ∷ 44 ∷ 52 ∷ 44 ∷ 49 ∷ 44 ∷ 51 ∷ 44 ∷ 49 ∷ 10 ∷ [])
unfolding p_line decimal
pairs_written = (refl, refl, refl)

-- The same lines read; then `P,4,1,3`, which has no entry, broken at its line feed, place 7; `P,4,0,1`, at the comma of an entry too many, place 5.
pub pairs_read :
    (read_p (80 ∷ 44 ∷ 52 ∷ 44 ∷ 52 ∷ 44 ∷ 50 ∷ 44 ∷ 100 ∷ 44 ∷ 51 ∷ 44 ∷ 114 ∷ 44 ∷ 51 ∷ 44 ∷ 100 ∷ 44 ∷ 52 ∷ 44 ∷ 51 ∷ 44 ∷ 50 ∷ 44 ∷ 52 ∷ 44 ∷ 49 ∷ 10 ∷ [])
    ≡ got (4, 2 ∷ 3 ∷ 3 ∷ 4 ∷ [], 0 ∷ 1 ∷ 0 ∷ 1 ∷ [], 3 ∷ 2 ∷ 4 ∷ 1 ∷ []) [])
    × (read_p (80 ∷ 44 ∷ 52 ∷ 44 ∷ 48 ∷ 10 ∷ []) ≡ got (4, [], [], []) [])
    × (read_p (80 ∷ 44 ∷ 52 ∷ 44 ∷ 49 ∷ 44 ∷ 51 ∷ 44 ∷ 49 ∷ 10 ∷ []) ≡ got (4, 3 ∷ [], 0 ∷ [], 1 ∷ []) [])
    × (read_p (80 ∷ 44 ∷ 52 ∷ 44 ∷ 49 ∷ 44 ∷ 51 ∷ 10 ∷ []) ≡ broken (10 ∷ []))
    × (read_p (80 ∷ 44 ∷ 52 ∷ 44 ∷ 48 ∷ 44 ∷ 49 ∷ 10 ∷ []) ≡ broken (44 ∷ 49 ∷ 10 ∷ []))
unfolding read_p
pairs_read = (refl, refl, refl, refl, refl)

-- The runs of 4323: the letter 2 once, the letter 3 twice and the letter 4 once, both after a step down.
abbrev runs_of4323 : List Run
runs_of4323 = record { letter = 2; times = 1; mark = 0 } ∷ record { letter = 3; times = 2; mark = 1 } ∷ record { letter = 4; times = 1; mark = 1 } ∷ []

-- C,4,4,2,1,d,3,2,d,4,1 and C,4,0 and C,4,1,3,1, the run forms of 4323, of the empty word and of 3.
pub runs_written :
    (c_line 4 4 runs_of4323
    ≡ 67 ∷ 44 ∷ 52 ∷ 44 ∷ 52 ∷ 44 ∷ 50 ∷ 44 ∷ 49 ∷ 44 ∷ 100 ∷ 44 ∷ 51 ∷ 44 ∷ 50 ∷ 44 ∷ 100 ∷ 44 ∷ 52 ∷ 44 ∷ 49 ∷ 10 ∷ [])
    × (c_line 4 0 [] ≡ 67 ∷ 44 ∷ 52 ∷ 44 ∷ 48 ∷ 10 ∷ [])
    × (c_line 4 1 (record { letter = 3; times = 1; mark = 0 } ∷ []) ≡ 67 ∷ 44 ∷ 52 ∷ 44 ∷ 49 ∷ 44 ∷ 51 ∷ 44 ∷ 49 ∷ 10 ∷ [])
unfolding c_line decimal
runs_written = (refl, refl, refl)

-- The same lines read; `C,4,1` with two items and `C,4,3` with none, as L plays no part; then `C,4,1,2`, which has no count, broken at its line feed, place 7;
-- `C,4,2,2,1,3,1`, at the second item's letter, where its step is due, place 10; `C,4,1,2,1`, at the end.
pub runs_read_lem :
    (read_c (67 ∷ 44 ∷ 52 ∷ 44 ∷ 52 ∷ 44 ∷ 50 ∷ 44 ∷ 49 ∷ 44 ∷ 100 ∷ 44 ∷ 51 ∷ 44 ∷ 50 ∷ 44 ∷ 100 ∷ 44 ∷ 52 ∷ 44 ∷ 49 ∷ 10 ∷ [])
    ≡ got (4, 4, runs_of4323) [])
    × (read_c (67 ∷ 44 ∷ 52 ∷ 44 ∷ 48 ∷ 10 ∷ []) ≡ got (4, 0, []) [])
    × (read_c (67 ∷ 44 ∷ 52 ∷ 44 ∷ 49 ∷ 44 ∷ 51 ∷ 44 ∷ 49 ∷ 10 ∷ []) ≡ got (4, 1, record { letter = 3; times = 1; mark = 0 } ∷ []) [])
    × (read_c (67 ∷ 44 ∷ 52 ∷ 44 ∷ 49 ∷ 44 ∷ 50 ∷ 44 ∷ 49 ∷ 44 ∷ 114 ∷ 44 ∷ 51 ∷ 44 ∷ 48 ∷ 10 ∷ [])
    ≡ got (4, 1, record { letter = 2; times = 1; mark = 0 } ∷ record { letter = 3; times = 0; mark = 0 } ∷ []) [])
    × (read_c (67 ∷ 44 ∷ 52 ∷ 44 ∷ 51 ∷ 10 ∷ []) ≡ got (4, 3, []) [])
    × (read_c (67 ∷ 44 ∷ 52 ∷ 44 ∷ 49 ∷ 44 ∷ 50 ∷ 10 ∷ []) ≡ broken (10 ∷ []))
    × (read_c (67 ∷ 44 ∷ 52 ∷ 44 ∷ 50 ∷ 44 ∷ 50 ∷ 44 ∷ 49 ∷ 44 ∷ 51 ∷ 44 ∷ 49 ∷ 10 ∷ []) ≡ broken (51 ∷ 44 ∷ 49 ∷ 10 ∷ []))
    × (read_c (67 ∷ 44 ∷ 52 ∷ 44 ∷ 49 ∷ 44 ∷ 50 ∷ 44 ∷ 49 ∷ []) ≡ broken [])
unfolding read_c read_runs
runs_read_lem = (refl, refl, refl, refl, refl, refl, refl, refl)
