-- The longest lines: how many bytes a line has at most, by the limits of its values.
--     w_length, t_length, c_length, p_length, j_length, e_length     of an accepted word, a tableau, its runs and a pair within the limits, junctions, a refusal
--     t_length_alike      of letters within the limits and as many marks
--     field-short         a comma and a number below the k-th power of ten
--     fields_short        the fields of numbers within a limit
-- Assumes nothing.
use Rattle.std.specs.Prelude.{ℕ, zero, suc, ◌+◌, ◌-◌, ◌*◌, ◌^◌, ◌≤◌, ◌<◌, ◌≡◌, refl, List, [], ◌∷◌, ◌++◌, ◌⊎◌, length}
use Rattle.std.proofs.Common.{inl, inr, suc-mul, lt_of_lt_of_le, arith, length-append, eq-eqb, le-leb, ne_eqb}
use Rattle.std.proofs.lemmas.Bool.{lt-leb}
use Rattle.grammar.specs.Lines.{Run, c_line, cell, cells, e_line, field, first_cell, first_run, items, j_line, later_run, p_line, t_line, w_line}
use Rattle.grammar.specs.Numbers.{decimal}
use Rattle.grammar.proofs.Theory.Halves.{p_size}
use Rattle.hypoplactic.specs.Ribbons.{EntryStep, LetterStep, PairAt, TableauAt}
use Rattle.hypoplactic.specs.Words.{Accepted, Within, count, count_up_to}
use Rattle.hypoplactic.proofs.Theory.Limits.{within_more}
use Rattle.hypoplactic.proofs.Theory.Once.{once_entries}
use Rattle.hypoplactic.proofs.Theory.Pairs.{le-or-lt}
use Rattle.hypoplactic.proofs.Theory.Placing.{Once}
use Rattle.outcomes.proofs.Theory.StepJudgements.{ribbon-length}
use Rattle.line_sizes.specs.Digits.{decimal-short}
use Rattle.run_lines.specs.Judgements.{item_letters}
use Rattle.run_lines.specs.Operations.{run_line}
use Rattle.run_lines.specs.Runs.{run_cells, runs_of}
use Rattle.run_lines.proofs.Theory.Judged.{RisingItems, tableau-items}
use Rattle.run_lines.proofs.Theory.Runs.{tableau_runs_length}
use Rattle.writers.specs.Cells.{cells_size}
use Rattle.writers.specs.Lines.{length-line, line_of}
use Rattle.writers.specs.Items.{length-listed, listed}

-- A comma and a number.
pub field-short : (k n : ℕ) → n < 10 ^ suc k → length (field n) ≤ 2 + k
field-short k n h = omega (arith, decimal-short k n h)

-- The fields of numbers up to n.
pub fields_short : (k n : ℕ) (xs : List ℕ) → n < 10 ^ suc k → Within n xs → length (items field field xs) ≤ length xs * (2 + k)
fields_short k n [] h w = omega arith
fields_short k n (x ∷ xs) h (low, high, rest) =
    let less : x < 10 ^ suc k = omega arith in
    let more : suc (length xs) * (2 + k) ≡ length xs * (2 + k) + (2 + k) = suc-mul (length xs) (2 + k) in
    rw more (omega (arith, length-append (decimal x) (items field field xs), decimal-short k x less, fields_short k n xs h rest))

-- W: a word of 1,024 letters of two digits.
pub w_length : {n : ℕ} {w : List ℕ} → Accepted n w → length (w_line n w) ≤ 3082
unfolding w_line line_of listed
w_length {n} {w} a =
    omega (
      arith,
      length-line 87 n (listed (length w) (items field field w)),
      length-listed (length w) (items field field w),
      a.short,
      a.rank_high,
      field-short 1 n (omega (arith, a.rank_high)),
      field-short 3 (length w) (omega (arith, a.short)),
      fields_short 1 n w (omega (arith, a.rank_high)) a.letters,
    )

-- T: as many cells, with a step into each but the first.
pub t_length_alike : {n : ℕ} {xs : List ℕ} (ms : List ℕ) → Accepted n xs → length ms ≡ length xs → length (t_line n xs ms) ≤ 5128
unfolding t_line line_of listed
t_length_alike {n} {xs} ms a e =
    omega (
      arith,
      length-line 84 n (listed (length xs) (items first_cell cell (cells xs ms))),
      length-listed (length xs) (items first_cell cell (cells xs ms)),
      a.short,
      a.rank_high,
      field-short 1 n (omega (arith, a.rank_high)),
      field-short 3 (length xs) (omega (arith, a.short)),
      fields_short 1 n xs (omega (arith, a.rank_high)) a.letters,
      cells_size xs ms e,
    )

pub t_length : {n : ℕ} {xs ms : List ℕ} → TableauAt n xs ms → length (t_line n xs ms) ≤ 5128
t_length {n} {xs} {ms} h = t_length_alike ms h.word (ribbon-length LetterStep xs ms h.tableau)

-- More digits of a count take more cells: ninety times the digits are at most 170 and the cells, and just as many for 10 and for 100.
count-digits : (k : ℕ) → 1 ≤ k → k ≤ 1024 → 90 * length (decimal k) ≤ 170 + k
count-digits k low high = go (le-or-lt k 9) (le-or-lt k 99) (le-or-lt k 999)
  where
    go : (k ≤ 9) ⊎ (9 < k) → (k ≤ 99) ⊎ (99 < k) → (k ≤ 999) ⊎ (999 < k) → 90 * length (decimal k) ≤ 170 + k
    go (inl h) b c = omega (arith, decimal-short 0 k (omega arith))
    go (inr l) (inl h) c = omega (arith, decimal-short 1 k (omega arith))
    go (inr g) (inr l) (inl h) = omega (arith, decimal-short 2 k (omega arith))
    go (inr g) (inr l) (inr m) = omega (arith, decimal-short 3 k (omega arith))

-- Ninety times a run's other 4 bytes, and that 170, are 530: with its digits a letter up to 9 takes 620, any other 710, and all from x to a take no less than a.
letter_digits : (x a : ℕ) → x < a → a ≤ 64 → 90 * length (decimal a) + 530 + 710 * x + 90 * (9 - x) ≤ 710 * a + 90 * (9 - a)
letter_digits x a l high = go (le-or-lt a 9)
  where
    go : (a ≤ 9) ⊎ (9 < a) → 90 * length (decimal a) + 530 + 710 * x + 90 * (9 - x) ≤ 710 * a + 90 * (9 - a)
    go (inl h) = omega (arith, decimal-short 0 a (omega arith))
    go (inr h) = omega (arith, decimal-short 1 a (omega arith))

-- The runs after the letter x, each with its step: no more than if each letter after x up to 64 had one.
run_bytes : (x : ℕ) (rs : List Run) → x ≤ 64 → RisingItems x rs → Within 64 (item_letters rs) → run_cells rs ≤ 1024
    → 90 * length (items later_run later_run rs) + 710 * x + 90 * (9 - x) ≤ 45440 + run_cells rs
run_bytes x [] l h w few = omega arith
run_bytes x (r ∷ rs) l h w few =
    omega (
      arith,
      length-append (later_run r) (items later_run later_run rs),
      length-append (cell (r.letter, r.mark)) (field r.times),
      letter_digits x r.letter h.0.0 w.1,
      count-digits r.times h.0.1 (omega arith),
      run_bytes r.letter rs w.1 h.1 w.2 (omega arith),
    )

-- All runs: no step goes into the first.
runs-short : (rs : List Run) → RisingItems 0 rs → Within 64 (item_letters rs) → run_cells rs ≤ 1024 → length (items first_run later_run rs) ≤ 505
runs-short [] h w few = omega arith
runs-short (r ∷ rs) h w few = omega (arith, run_bytes 0 (r ∷ rs) (omega arith) h w few)

-- C: 64 runs, 60 of 10 cells and 4 of 100.
pub c_length : {n : ℕ} {xs ms : List ℕ} → TableauAt n xs ms → length (run_line n xs ms) ≤ 515
unfolding run_line c_line line_of listed
c_length {n} {xs} {ms} h =
    let rs : List Run = runs_of xs ms in
    let (rising, letters) = tableau-items h in
    let high : n ≤ 64 = h.word.rank_high in
    let short : length xs ≤ 1024 = h.word.short in
    let few : run_cells rs ≤ 1024 = omega (arith, tableau_runs_length xs ms h.tableau) in
    omega (
      arith,
      length-line 67 n (listed (length xs) (items first_run later_run rs)),
      length-listed (length xs) (items first_run later_run rs),
      field-short 1 n (omega arith),
      field-short 3 (length xs) (omega arith),
      runs-short rs rising (within_more (item_letters rs) high letters) few,
    )

-- The entries up to the next number are those up to this one, and those that are the next.
up_next : (k : ℕ) (rs : List ℕ) → count_up_to (suc k) rs ≡ count_up_to k rs + count (suc k) rs
up_next k [] = refl
up_next k (x ∷ rs) = go (le-or-lt x k) (le-or-lt x (suc k)) (up_next k rs)
  where
    go : (x ≤ k) ⊎ (k < x) → (x ≤ suc k) ⊎ (suc k < x) → count_up_to (suc k) rs ≡ count_up_to k rs + count (suc k) rs
        → count_up_to (suc k) (x ∷ rs) ≡ count_up_to k (x ∷ rs) + count (suc k) (x ∷ rs)
    go (inl h) g e = rw (le-leb x k h, le-leb x (suc k) (omega arith), ne_eqb x (suc k) (λ q. omega arith)) (omega arith)
    go (inr l) (inl h) e = rw (lt-leb x k l, le-leb x (suc k) h, eq-eqb x (suc k) (omega arith)) (omega arith)
    go (inr l) (inr h) e = rw (lt-leb x k l, lt-leb x (suc k) h, ne_eqb x (suc k) (λ q. omega arith)) (omega arith)

-- Where each of 1 to k stands once, there are k of them.
up_once : (k : ℕ) (rs : List ℕ) → Once k rs → k ≤ count_up_to k rs
up_once zero rs h = omega arith
up_once (suc k) rs h =
    omega (arith, up_next k rs, up_once k rs (λ e low high. h e low (omega arith)), h (suc k) (omega arith) (omega arith))

-- Four digits at most, and one fewer for each of 9, 99 and 999 that an entry does not pass.
entry_bytes : (rs : List ℕ) → Within 1024 rs → length (items field field rs) + count_up_to 9 rs + count_up_to 99 rs + count_up_to 999 rs ≤ length rs * 5
entry_bytes [] w = omega arith
entry_bytes (x ∷ rs) (low, high, rest) = go (le-or-lt x 9) (le-or-lt x 99) (le-or-lt x 999) (entry_bytes rs rest) (length-append (decimal x) (items field field rs))
  where
    go : (x ≤ 9) ⊎ (9 < x) → (x ≤ 99) ⊎ (99 < x) → (x ≤ 999) ⊎ (999 < x)
        → length (items field field rs) + count_up_to 9 rs + count_up_to 99 rs + count_up_to 999 rs ≤ length rs * 5
        → length (decimal x ++ items field field rs) ≡ length (decimal x) + length (items field field rs)
        → length (items field field (x ∷ rs)) + count_up_to 9 (x ∷ rs) + count_up_to 99 (x ∷ rs) + count_up_to 999 (x ∷ rs) ≤ suc (length rs) * 5
    go (inl h) b c r e =
        rw (le-leb x 9 h, le-leb x 99 (omega arith), le-leb x 999 (omega arith)) (omega (arith, decimal-short 0 x (omega arith)))
    go (inr l) (inl h) c r e = rw (lt-leb x 9 l, le-leb x 99 h, le-leb x 999 (omega arith)) (omega (arith, decimal-short 1 x (omega arith)))
    go (inr k) (inr l) (inl h) r e = rw (lt-leb x 9 k, lt-leb x 99 l, le-leb x 999 h) (omega (arith, decimal-short 2 x (omega arith)))
    go (inr k) (inr l) (inr m) r e = rw (lt-leb x 9 k, lt-leb x 99 l, lt-leb x 999 m) (omega (arith, decimal-short 3 x (omega arith)))

-- The entries of a recording ribbon: 1 to 1,024, each once.
entries_short : (rs : List ℕ) → length rs ≤ 1024 → Once (length rs) rs → length (items field field rs) ≤ 4013
entries_short rs h once = go (le-or-lt 999 (length rs)) ((once_entries rs).0 once).0
  where
    up_to : (k : ℕ) → k ≤ length rs → k ≤ count_up_to k rs
    up_to k l = up_once k rs (λ e low high. once e low (omega arith))

    go : (999 ≤ length rs) ⊎ (length rs < 999) → Within (length rs) rs → length (items field field rs) ≤ 4013
    go (inl l) w =
        omega (arith, entry_bytes rs (within_more rs h w), up_to 9 (omega arith), up_to 99 (omega arith), up_to 999 l)
    go (inr l) w = omega (arith, fields_short 2 (length rs) rs (omega arith) w)

-- P: the bytes of a T line, and the entries.
pub p_length : {n : ℕ} {xs ms rs : List ℕ} → PairAt n xs ms rs → length (p_line n xs ms rs) ≤ 9141
p_length {n} {xs} {ms} {rs} h =
    let short : length xs ≤ 1024 = h.word.short in
    let marks : length ms ≡ length xs = ribbon-length LetterStep xs ms h.pair.tableau in
    let entries : length ms ≡ length rs = ribbon-length EntryStep rs ms h.pair.recording.steps in
    omega (arith, p_size n xs ms rs, t_length_alike ms h.word marks, entries_short rs (omega arith) h.pair.recording.once)

-- J: a set of 64 bits has at most 20 digits, and rows have two.
pub j_length : (set rows : ℕ) → set < 2 ^ 64 → rows < 100 → length (j_line set rows) ≤ 26
unfolding j_line line_of
j_length set rows h l =
    omega (arith, length-line 74 set (field rows), field-short 19 set (lt_of_lt_of_le h (omega arith)), field-short 1 rows (omega arith))

-- E: a refusal at a place below 10,000.
pub e_length : (number place : ℕ) → number ≤ 20 → place < 10000 → length (e_line number place) ≤ 10
unfolding e_line line_of
e_length number place h l = omega (arith, length-line 69 number (field place), field-short 1 number (omega arith), field-short 3 place l)
