-- The words of a class in dictionary order (document 02, N4): the words of the rank, as long as the tableau has cells, whose tableau by insertion is this one.
-- How large the class is, which word has a number, and which number a word has are all read off this list; numbers count from 0.
--     words n l                  the words of l letters 1 to n, in dictionary order
--     class_words n xs ms         those of them whose tableau has the letters xs and the marks ms
--     class_size n xs ms          how many they are
--     class_word n xs ms k        the one at place k
--     class_number n w            the place of w among the words of its own class
--     Earlier u v                u stands before v in a dictionary
--     Listed n xs ms v           v is the word of some number
-- That the list has exactly the words of the class, each once, the earlier first, is proved in proofs/Theory/ClassNumbers. Assumes nothing.
use Rattle.std.specs.Prelude.{ℕ, zero, suc, ◌<◌, ◌≡◌, ◌⊎◌, Bool, true, false, ◌&&◌, cond, List, [], ◌∷◌, ◌++◌, map, eqb, length, get_or}
use Rattle.hypoplactic.specs.Insertion.{letters_of, marks_of}

-- Each of the m letters k, k + 1, .. put before each of these words, letter after letter.
abbrev pub startings : ℕ → ℕ → List (List ℕ) → List (List ℕ)
startings zero k ws = []
startings (suc m) k ws = map (λ (w : List ℕ). k ∷ w) ws ++ startings m (suc k) ws

unfoldable pub words : ℕ → ℕ → List (List ℕ)
words n zero = [] ∷ []
words n (suc l) = startings n 1 (words n l)

-- Those of these words that pass a test, in their order.
abbrev pub keep : (List ℕ → Bool) → List (List ℕ) → List (List ℕ)
keep test [] = []
keep test (w ∷ ws) = cond (test w) (w ∷ keep test ws) (keep test ws)

-- Whether two lists are equal.
abbrev pub same_list : List ℕ → List ℕ → Bool
same_list [] [] = true
same_list [] (y ∷ ys) = false
same_list (x ∷ xs) [] = false
same_list (x ∷ xs) (y ∷ ys) = eqb x y && same_list xs ys

-- Whether a word's tableau has these letters and marks.
abbrev pub in_class : List ℕ → List ℕ → List ℕ → Bool
in_class xs ms w = same_list (letters_of w) xs && same_list (marks_of w) ms

unfoldable pub class_words : ℕ → List ℕ → List ℕ → List (List ℕ)
class_words n xs ms = keep (in_class xs ms) (words n (length xs))

abbrev pub class_size : ℕ → List ℕ → List ℕ → ℕ
class_size n xs ms = length (class_words n xs ms)

abbrev pub class_word : ℕ → List ℕ → List ℕ → ℕ → List ℕ
class_word n xs ms k = get_or (class_words n xs ms) k []

-- The place of the first of these words that is w: their number where none is.
abbrev pub place_in : List ℕ → List (List ℕ) → ℕ
place_in w [] = 0
place_in w (v ∷ vs) = cond (same_list v w) 0 (suc (place_in w vs))

abbrev pub class_number : ℕ → List ℕ → ℕ
class_number n w = place_in w (class_words n (letters_of w) (marks_of w))

-- The first letters that differ decide; where none do, the shorter word is the earlier one.
abbrev pub Earlier : List ℕ → List ℕ → Type 0
Earlier u [] = ⊥
Earlier [] (y ∷ v) = Unit {0}
Earlier (x ∷ u) (y ∷ v) = (x < y) ⊎ ((x ≡ y) × Earlier u v)

-- A word is listed in a class: it stands at some number below the size.
pub record Listed (n : ℕ) (xs ms v : List ℕ) : Type 0 where
  pub number : ℕ
  pub below : number < class_size n xs ms
  pub there : class_word n xs ms number ≡ v
