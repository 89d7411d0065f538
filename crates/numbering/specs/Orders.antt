-- Orders of taking the cells out of a ribbon one by one, for proofs and code: a word of a class tells such an order, the cell of its first letter first.
-- A cell that is taken out leaves a gap, so beside 0 right and 1 down a step may be free, 2. At a right step the left cell goes before the right one, at a down
-- step the lower one before the upper one, at a free step either. What a letter and its cell leave is again a ribbon with free steps.
--     freed ms              the marks with a free first step. Nothing stands before the first cell, so its step counts as free
--     choices ys ms         the cells that may be taken out first, in ribbon order, each with what it leaves
--     others_of ms           the marks that they leave
--     tally ms              how many orders there are, by how many of these cells go before the cell left of them
--     orders ms             how many have none of them before it; where the first step is free, how many orders there are
--     taken_words l ys ms    the words of l letters that the orders tell, in dictionary order
--     word_at l ys ms k      the one at place k; place_of w ys ms: the place of w, both by counting orders
-- Assumes nothing.
use Rattle.std.specs.Prelude.{ℕ, zero, suc, ◌+◌, ◌-◌, Bool, true, false, ◌&&◌, cond, List, [], ◌∷◌, ◌++◌, map, eqb, ltb}
use Rattle.numbering.specs.Compositions.{total}

-- ---- cells

abbrev pub freed : List ℕ → List ℕ
freed [] = []
freed (m ∷ ms) = 2 ∷ ms

-- Whether a step lets the cell after it go first: a right step does not.
abbrev pub may_enter : ℕ → Bool
may_enter zero = false
may_enter (suc m) = true

-- Whether the step into the first of these cells lets the cell before it go first: a down step does not.
abbrev pub may_leave : List ℕ → Bool
may_leave [] = true
may_leave (zero ∷ ms) = true
may_leave (suc zero ∷ ms) = false
may_leave (suc (suc m) ∷ ms) = true

-- A cell that may go first: its letter, and the letters and marks that it leaves.
pub record Choice : Type 0 where
  pub letter : ℕ
  pub letters : List ℕ
  pub marks : List ℕ

-- One more in front where the test passes.
abbrev pub with_if : {A : Type 0} → Bool → A → List A → List A
with_if true x xs = x ∷ xs
with_if false x xs = xs

-- The same choice with a cell before those that it leaves.
abbrev pub behind : ℕ → ℕ → Choice → Choice
behind y m c = record { letter = c.letter; letters = y ∷ c.letters; marks = m ∷ c.marks }

abbrev pub choices : List ℕ → List ℕ → List Choice
choices [] ms = []
choices (y ∷ ys) [] = []
choices (y ∷ ys) (m ∷ ms) =
    with_if (may_enter m && may_leave ms) (record { letter = y; letters = ys; marks = freed ms }) (map (behind y m) (choices ys ms))

abbrev pub others_of : List ℕ → List (List ℕ)
others_of [] = []
others_of (m ∷ ms) = with_if (may_enter m && may_leave ms) (freed ms) (map (λ (o : List ℕ). m ∷ o) (others_of ms))

-- ---- counts

-- Of the orders with so many before a place and so many after it, those that a step into the place allows: right those after it, down those before, free both.
abbrev pub allowed : ℕ → ℕ → ℕ → ℕ
allowed zero before after = after
allowed (suc zero) before after = before
allowed (suc (suc m)) before after = before + after

-- A tally across one more step, from its place on with so many orders before it.
abbrev pub across : ℕ → ℕ → List ℕ → List ℕ
across m before [] = allowed m before 0 ∷ []
across m before (x ∷ xs) = allowed m before (x + total xs) ∷ across m (before + x) xs

abbrev pub tally : List ℕ → List ℕ
tally [] = 1 ∷ []
tally (m ∷ ms) = across m 0 (tally ms)

-- The first number of a list.
abbrev pub head_of : List ℕ → ℕ
head_of [] = 0
head_of (x ∷ xs) = x

unfoldable pub orders : List ℕ → ℕ
orders ms = head_of (tally ms)

-- ---- words

-- The letter of each choice before the words of what it leaves.
abbrev pub taken_from : (List ℕ → List ℕ → List (List ℕ)) → List Choice → List (List ℕ)
taken_from f [] = []
taken_from f (c ∷ cs) = map (λ (w : List ℕ). c.letter ∷ w) (f c.letters c.marks) ++ taken_from f cs

abbrev pub taken_words : ℕ → List ℕ → List ℕ → List (List ℕ)
taken_words zero ys ms = [] ∷ []
taken_words (suc l) ys ms = taken_from (taken_words l) (choices ys ms)

-- Past the words of the choices before it, the word at place k begins with the letter of a choice.
abbrev pub word_among : (List ℕ → List ℕ → ℕ → List ℕ) → List Choice → ℕ → List ℕ
word_among f [] k = []
word_among f (c ∷ cs) k =
    cond (ltb k (orders c.marks)) (c.letter ∷ f c.letters c.marks k) (word_among f cs (k - orders c.marks))

abbrev pub word_at : ℕ → List ℕ → List ℕ → ℕ → List ℕ
word_at zero ys ms k = []
word_at (suc l) ys ms k = word_among (word_at l) (choices ys ms) k

-- Before a word that begins with a come the words of the choices before that with the letter a, and then some of its own.
abbrev pub place_from : ℕ → (List ℕ → List ℕ → ℕ) → List Choice → ℕ
place_from a f [] = 0
place_from a f (c ∷ cs) = cond (eqb c.letter a) (f c.letters c.marks) (orders c.marks + place_from a f cs)

abbrev pub place_of : List ℕ → List ℕ → List ℕ → ℕ
place_of [] ys ms = 0
place_of (a ∷ w) ys ms = place_from a (place_of w) (choices ys ms)
