-- Sizes and numbers of larger classes, computed by the checker through the laws.
--     size_421323                     the class of 421323 has 61 words
--     size_20, word_20, number_20     a class that no list of words reaches: its size, a word and its number
-- Assumes nothing.
use Prim.Native.Nat.{ℕ}
use native.Mathlib.Omega.{arith}
use mathlib.Core.Path.{◌≡◌}
use mathlib.Core.List.{List, [], ◌∷◌}
use Rattle.hypoplactic.specs.Words.{Within}
use Rattle.hypoplactic.specs.Ribbons.{Tableau}
use Rattle.hypoplactic.specs.Insertion.{insert, letters_of, marks_of, pair_of}
use Rattle.hypoplactic.proofs.Theory.Boundary.{tableau_of_word}
use Rattle.numbering.specs.Dictionary.{class_number, class_size, class_word}
use Rattle.numbering.specs.Orders.{orders}
use Rattle.numbering.proofs.Theory.ClassNumbers.{number_of_word}
use Rattle.numbering.proofs.Theory.ClassSize.{class_size_lem}
use Rattle.numbering.proofs.Theory.Numbers.{class_word_lem}

-- The class of 421323 has 61 words.
pub size_421323 : class_size 4 (letters_of (4 ∷ 2 ∷ 1 ∷ 3 ∷ 2 ∷ 3 ∷ [])) (marks_of (4 ∷ 2 ∷ 1 ∷ 3 ∷ 2 ∷ 3 ∷ [])) ≡ 61
unfolding pair_of insert orders
size_421323 = class_size_lem 4 (1 ∷ 2 ∷ 2 ∷ 3 ∷ 3 ∷ 4 ∷ []) (0 ∷ 1 ∷ 0 ∷ 1 ∷ 0 ∷ 1 ∷ []) (omega arith) (tableau_of_word (4 ∷ 2 ∷ 1 ∷ 3 ∷ 2 ∷ 3 ∷ []))

-- ---- a ribbon of 20 different letters whose steps go down and right in turn

abbrev turn_letters : List ℕ
turn_letters = 1 ∷ 2 ∷ 3 ∷ 4 ∷ 5 ∷ 6 ∷ 7 ∷ 8 ∷ 9 ∷ 10 ∷ 11 ∷ 12 ∷ 13 ∷ 14 ∷ 15 ∷ 16 ∷ 17 ∷ 18 ∷ 19 ∷ 20 ∷ []

abbrev turn_marks : List ℕ
turn_marks = 0 ∷ 1 ∷ 0 ∷ 1 ∷ 0 ∷ 1 ∷ 0 ∷ 1 ∷ 0 ∷ 1 ∷ 0 ∷ 1 ∷ 0 ∷ 1 ∷ 0 ∷ 1 ∷ 0 ∷ 1 ∷ 0 ∷ 1 ∷ []

turn-within : Within 20 turn_letters
turn-within = omega arith

turn-tableau : Tableau turn_letters turn_marks
turn-tableau = omega arith

-- Its size,
pub size_20 : class_size 20 turn_letters turn_marks ≡ 370371188237525
unfolding orders
size_20 = class_size_lem 20 turn_letters turn_marks turn-within turn-tableau

-- a word in its middle,
pub word_20 : class_word 20 turn_letters turn_marks 247997108057619
    ≡ 14 ∷ 8 ∷ 20 ∷ 16 ∷ 18 ∷ 17 ∷ 15 ∷ 6 ∷ 10 ∷ 9 ∷ 12 ∷ 4 ∷ 2 ∷ 13 ∷ 3 ∷ 7 ∷ 5 ∷ 1 ∷ 11 ∷ 19 ∷ []
unfolding orders
word_20 = class_word_lem 20 turn_letters turn_marks turn-within turn-tableau 247997108057619

-- and that word's number.
pub number_20 : class_number 20 (class_word 20 turn_letters turn_marks 247997108057619) ≡ 247997108057619
number_20 = number_of_word 20 turn_letters turn_marks 247997108057619 (omega (arith, size_20))
