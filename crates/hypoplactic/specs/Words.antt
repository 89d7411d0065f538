-- Words over the letters 1, 2, 3, .. (paper, section 2.1). A word is a list of numbers, and its places count from 0.
--     count a w       how often the letter a stands in w
--     count_up_to a w   how many letters of w are at most a
--     occurs a w      whether a stands in w
--     before w p q    whether some q stands left of some p in w, adjacent or not
--     Inside n x      x is one of 1 to n
--     All P xs        each number of the list has the property P
--     Within n w      each letter of w is one of 1 to n
--     Accepted n w    document 01's accepted word: rank 1 to 64, at most 1,024 letters, each 1 to rank
-- Assumes nothing.
use Rattle.std.specs.Prelude.{ℕ, suc, ◌≤◌, List, [], ◌∷◌, Bool, true, false, ◌&&◌, ◌||◌, eqb, leb, length}

-- One more where the test passes.
abbrev pub tick : Bool → ℕ → ℕ
tick true n = suc n
tick false n = n

-- How often a stands in the word.
abbrev pub count : ℕ → List ℕ → ℕ
count a [] = 0
count a (x ∷ xs) = tick (eqb x a) (count a xs)

-- How many letters are at most a.
abbrev pub count_up_to : ℕ → List ℕ → ℕ
count_up_to a [] = 0
count_up_to a (x ∷ xs) = tick (leb x a) (count_up_to a xs)

-- Whether a stands in the word.
abbrev pub occurs : ℕ → List ℕ → Bool
occurs a [] = false
occurs a (x ∷ xs) = eqb x a || occurs a xs

-- Whether some q stands left of some p.
abbrev pub before : List ℕ → ℕ → ℕ → Bool
before [] p q = false
before (x ∷ xs) p q = eqb x q && occurs p xs || before xs p q

-- One of 1 to n.
abbrev pub Inside : ℕ → ℕ → Type 0
Inside n x = (1 ≤ x) × (x ≤ n)

-- Each number has the property.
abbrev pub All : (ℕ → Type 0) → List ℕ → Type 0
All P [] = Unit {0}
All P (x ∷ xs) = P x × All P xs

-- Each letter is one of 1 to n.
abbrev pub Within : ℕ → List ℕ → Type 0
Within n [] = Unit {0}
Within n (x ∷ xs) = (1 ≤ x) × (x ≤ n) × Within n xs

-- An accepted word: document 01's term for a word within the written limits.
pub record Accepted (n : ℕ) (w : List ℕ) : Type 0 where
  pub rank_low : 1 ≤ n
  pub rank_high : n ≤ 64
  pub short : length w ≤ 1024
  pub letters : Within n w
