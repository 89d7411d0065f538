-- The grammar of lines: how a text is read back. It knows no places. A reading gives a value and what is left of the text, or what is left from the byte on that
-- breaks the grammar (nothing is left when the text ends early); the place of that byte is the text's length less what is left.
--     read_number          one to four digits, as many as there are; after a leading 0 nothing more
--     read_w, read_t, read_n a whole line: after exactly L items the line feed, and nothing after it
--     read_p               the same, with L cells and then L entries
--     read_c               the same, but with items up to the line feed, whatever L says
-- Values are only read here, and judged elsewhere. Assumes nothing.
use Rattle.std.specs.Prelude.{ℕ, zero, suc, ◌+◌, ◌-◌, ◌*◌, List, [], ◌∷◌, map, Bool, false, cond, ◌&&◌, leb, eqb, length}
use Rattle.grammar.specs.Lines.{Run}

-- What a reading gives.
pub data Read (A : Type 0) : Type 0 where
  got : A → List ℕ → Read A
  broken : List ℕ → Read A

-- What was read, with its value turned.
abbrev pub turned : {A B : Type 0} → (A → B) → Read A → Read B
turned f (got a t) = got (f a) t
turned f (broken t) = broken t

-- From a first value on: what is left is read by a reader that may depend on the value, and the two values are joined.
abbrev pub onward : {A B C : Type 0} → (A → B → C) → (A → List ℕ → Read B) → Read A → Read C
onward join second (got a t) = turned (join a) (second a t)
onward join second (broken t) = broken t

-- One reader and then another.
abbrev pub both : {A B C : Type 0} → (A → B → C) → (List ℕ → Read A) → (A → List ℕ → Read B) → List ℕ → Read C
both join first second t = onward join second (first t)

module _ {A : Type 0} where
  -- A given byte, then a reader.
  abbrev pub after : ℕ → (List ℕ → Read A) → List ℕ → Read A
  after k r [] = broken []
  after k r (b ∷ t) = cond (eqb b k) (r t) (broken (b ∷ t))

  -- Exactly so many items, the first by one reader, the others by another.
  abbrev pub many : (List ℕ → Read A) → (List ℕ → Read A) → ℕ → List ℕ → Read (List A)
  many first later zero t = got [] t
  many first later (suc n) t = both ◌∷◌ first (λ a. many later later n) t

-- Whether the line feed stands next.
abbrev pub feed_next : List ℕ → Bool
feed_next [] = false
feed_next (b ∷ t) = eqb b 10

module _ {A : Type 0} where
  -- Items up to the line feed, the first by one reader, the others by another; at most so many as the number says.
  abbrev pub until_feed : (List ℕ → Read A) → (List ℕ → Read A) → ℕ → List ℕ → Read (List A)
  until_feed first later zero t = got [] t
  until_feed first later (suc k) t = cond (feed_next t) (got [] t) (both ◌∷◌ first (λ a u. until_feed later later k u) t)

-- The end of the text.
abbrev pub ended : List ℕ → Read Unit
ended [] = got tt []
ended (b ∷ t) = broken (b ∷ t)

-- A whole line: the letter of its kind, what a reader takes, the line feed, and nothing after it.
abbrev pub read_line : {A : Type 0} → ℕ → (List ℕ → Read A) → List ℕ → Read A
read_line kind r = after kind (both (λ a u. a) r (λ a. after 10 ended))

-- The bytes of the digits 0 to 9.
abbrev pub digit : ℕ → Bool
digit b = leb 48 b && leb b 57

-- At most so many more digits of a number that has begun.
abbrev pub more_digits : ℕ → ℕ → List ℕ → Read ℕ
more_digits zero n t = got n t
more_digits (suc k) n [] = got n []
more_digits (suc k) n (b ∷ t) = cond (digit b) (more_digits k (n * 10 + (b - 48)) t) (got n (b ∷ t))

-- After its first digit a number has at most so many more.
abbrev pub further_digits : ℕ
further_digits = 3

-- A number.
abbrev pub read_number : List ℕ → Read ℕ
read_number [] = broken []
read_number (b ∷ t) = cond (eqb b 48) (got 0 t) (cond (digit b) (more_digits further_digits (b - 48) t) (broken (b ∷ t)))

-- A comma and a number.
abbrev pub read_field : List ℕ → Read ℕ
read_field = after 44 read_number

-- The letter of a step: r gives mark 0, d gives mark 1.
abbrev pub read_step : List ℕ → Read ℕ
read_step [] = broken []
read_step (b ∷ t) = cond (eqb b 114) (got 0 t) (cond (eqb b 100) (got 1 t) (broken (b ∷ t)))

-- The first cell as letter and mark: no step stands before it, and its mark is 0.
abbrev pub read_first : List ℕ → Read (ℕ × ℕ)
read_first = both (λ x m. (x, m)) read_field (λ x. got 0)

-- Another cell as letter and mark: a comma and its step, then its letter.
abbrev pub read_cell : List ℕ → Read (ℕ × ℕ)
read_cell = both (λ m x. (x, m)) (after 44 read_step) (λ m. read_field)

-- The letters of cells.
abbrev pub letters : List (ℕ × ℕ) → List ℕ
letters = map (λ c. c.0)

-- The marks of cells.
abbrev pub marks : List (ℕ × ℕ) → List ℕ
marks = map (λ c. c.1)

-- A count and then so many items.
abbrev pub counted : {A : Type 0} → (List ℕ → Read A) → (List ℕ → Read A) → List ℕ → Read (List A)
counted first later = both (λ n items. items) read_field (many first later)

-- Exactly so many items of one sort, then as many of another.
abbrev pub twice : {A B : Type 0} → (List ℕ → Read A) → (List ℕ → Read A) → (List ℕ → Read B) → ℕ → List ℕ → Read (List A × List B)
twice {A} {B} first later other n = both {C = List A × List B} (λ l k. (l, k)) (many first later n) (λ l. many other other n)

-- One count, then so many items of each sort.
abbrev pub counted_twice : {A B : Type 0} → (List ℕ → Read A) → (List ℕ → Read A) → (List ℕ → Read B) → List ℕ → Read (List A × List B)
counted_twice first later other = both (λ n parts. parts) read_field (twice first later other)

-- A rank, a count and then so many items.
abbrev pub ranked : {A B : Type 0} → (ℕ → List A → B) → (List ℕ → Read A) → (List ℕ → Read A) → List ℕ → Read B
ranked join first later = both join read_field (λ n. counted first later)

-- W: rank and letters.
unfoldable pub read_w : List ℕ → Read (ℕ × List ℕ)
read_w = read_line 87 (ranked (λ n ws. (n, ws)) read_field read_field)

-- T: rank, letters and marks.
unfoldable pub read_t : List ℕ → Read (ℕ × List ℕ × List ℕ)
read_t = read_line 84 (ranked (λ n cells. (n, letters cells, marks cells)) read_first read_cell)

-- A run: its first cell, then how often its letter stands.
abbrev pub read_run_by : (List ℕ → Read (ℕ × ℕ)) → List ℕ → Read Run
read_run_by cell = both (λ c k. record { letter = c.0; times = k; mark = c.1 }) cell (λ c. read_field)

-- Runs up to the line feed. An item takes a byte or breaks, so one item more than there are bytes is never reached.
unfoldable pub read_runs : List ℕ → Read (List Run)
read_runs t = until_feed (read_run_by read_first) (read_run_by read_cell) (suc (length t)) t

-- C: rank, a number of cells, and runs. The number has no part in how many runs are read.
unfoldable pub read_c : List ℕ → Read (ℕ × ℕ × List Run)
read_c = read_line 67 (both (λ n v. (n, v.0, v.1)) read_field (λ n. both {C = ℕ × List Run} (λ k rs. (k, rs)) read_field (λ k. read_runs)))

-- P: rank, letters, marks and entries. One count tells how many cells and how many entries there are.
unfoldable pub read_p : List ℕ → Read (ℕ × List ℕ × List ℕ × List ℕ)
read_p = read_line 80 (both (λ n parts. (n, letters parts.0, marks parts.0, parts.1)) read_field (λ n. counted_twice read_first read_cell read_field))

-- N: entries.
unfoldable pub read_n : List ℕ → Read (List ℕ)
read_n = read_line 78 (counted read_field read_field)
