-- The numbers of a class (document 02, N4): every word of the class has one number, every number below the size one word, and a larger number is a later word.
-- So a reader need not trust how the list is made: it has these words, in this order, and no others.
--     class_members        the word of a number has the tableau; class_within: and letters of the rank
--     class_complete       a word that has the tableau stands at its number, below the size
--     class_inhabited      no class is empty
--     class_later          a larger number is a later word
--     number_of_word       the number of word k is k; word_of-number: the word of a word's number is that word; number_one: one word, one number
--     class_joined         a word is listed in another's class exactly when a chain joins them
--     number_recording     the word of a number has a valid recording ribbon of the shape; recording_number: each of those is that of a number, recording_one:
--                          of one only. So the size is the number of valid recording ribbons of the shape
-- Assumes nothing.
use Prim.Native.Nat.{ℕ, zero, suc, ◌<◌}
use native.Mathlib.Omega.{arith}
use mathlib.Core.Path.{◌≡◌, refl, sym, ap, ap₂, subst, ◌∙◌}
use mathlib.Core.Logic.{◌↔◌}
use mathlib.Core.Bool.{true}
use mathlib.Core.List.{List, ◌∷◌}
use lib.ListN.{length}
use Rattle.hypoplactic.specs.Words.{Within, count}
use Rattle.hypoplactic.specs.Ribbons.{Recording, Tableau}
use Rattle.hypoplactic.specs.Rewriting.{Joined}
use Rattle.hypoplactic.specs.Insertion.{letters_of, marks_of, recording_of, word_of}
use Rattle.hypoplactic.specs.Reading.{column_reading}
use Rattle.hypoplactic.proofs.Theory.Contents.{within-counts}
use Rattle.hypoplactic.proofs.Theory.Correspondence.{pair_of_word, word_unique}
use Rattle.hypoplactic.proofs.Theory.Invariants.{joined_count}
use Rattle.hypoplactic.proofs.Theory.Letters.{count-letters}
use Rattle.hypoplactic.proofs.Theory.Limits.{and_both}
use Rattle.hypoplactic.proofs.Theory.OneClass.{tableau-joined}
use Rattle.hypoplactic.proofs.Theory.ReadBack.{read_back}
use Rattle.hypoplactic.proofs.Theory.Recordings.{recording_of_word}
use Rattle.numbering.specs.Dictionary.{Earlier, Listed, class_number, class_size, class_word, class_words, in_class, place_in, same_list, words}
use Rattle.numbering.proofs.Theory.ClassSize.{same_equal}
use Rattle.numbering.proofs.Theory.Each.{Every, every_map}
use Rattle.numbering.proofs.Theory.DictionaryOrder.{Ordered, every_at, every_starting, keep_every, keep_ordered, keep-passes, ordered_later, place_of_word, word_of-place, words_ordered}
use Rattle.numbering.proofs.Theory.Numbers.{number-below}

words-within : (n l : ℕ) → Every (Within n) (words n l)
unfolding words
words-within n zero = (tt, tt)
words-within n (suc l) =
    every_starting (Within n) n 1 (words n l) (λ a low high. every_map (Within n) (λ w. Within n (a ∷ w)) (words n l) (λ w h. (omega arith, omega arith, h)) (words-within n l))

module _ (n : ℕ) (xs ms : List ℕ) where
  class_ordered : Ordered (class_words n xs ms)
  unfolding class_words
  class_ordered = keep_ordered (in_class xs ms) (words n (length xs)) (words_ordered n (length xs))

  -- The word of a number has the tableau,
  pub class_members : (k : ℕ) → k < class_size n xs ms → (letters_of (class_word n xs ms k) ≡ xs) × (marks_of (class_word n xs ms k) ≡ ms)
  unfolding class_words
  class_members k l =
      let w : List ℕ = class_word n xs ms k in
      let passed : in_class xs ms w ≡ true = every_at (λ w. in_class xs ms w ≡ true) (class_words n xs ms) k (keep-passes (in_class xs ms) (words n (length xs))) l in
      let both : (same_list (letters_of w) xs ≡ true) × (same_list (marks_of w) ms ≡ true) = and_both (same_list (letters_of w) xs) (same_list (marks_of w) ms) passed in
      (same_equal (letters_of w) xs both.0, same_equal (marks_of w) ms both.1)

  -- and letters of the rank.
  pub class_within : (k : ℕ) → k < class_size n xs ms → Within n (class_word n xs ms k)
  unfolding class_words
  class_within k l = every_at (Within n) (class_words n xs ms) k (keep_every (Within n) (in_class xs ms) (words n (length xs)) (words-within n (length xs))) l

  -- A larger number is a later word.
  pub class_later : (i j : ℕ) → i < j → j < class_size n xs ms → Earlier (class_word n xs ms i) (class_word n xs ms j)
  class_later i j l b = ordered_later (class_words n xs ms) i j class_ordered l b

  -- The number of word k is k,
  pub number_of_word : (k : ℕ) → k < class_size n xs ms → class_number n (class_word n xs ms k) ≡ k
  number_of_word k l =
      let own : (letters_of (class_word n xs ms k) ≡ xs) × (marks_of (class_word n xs ms k) ≡ ms) = class_members k l in
      ap₂ (λ (ys ns : List ℕ). place_in (class_word n xs ms k) (class_words n ys ns)) own.0 own.1 ∙ place_of_word (class_words n xs ms) k class_ordered l

  -- so one word has one number.
  pub number_one : (i j : ℕ) → i < class_size n xs ms → j < class_size n xs ms → class_word n xs ms i ≡ class_word n xs ms j → i ≡ j
  number_one i j l k e = sym (number_of_word i l) ∙ ap (class_number n) e ∙ number_of_word j k

-- The word of a word's number is that word.
pub word_of-number : (n : ℕ) (w : List ℕ) → Within n w → class_word n (letters_of w) (marks_of w) (class_number n w) ≡ w
word_of-number n w h = word_of-place w (class_words n (letters_of w) (marks_of w)) (number-below n w h)

-- A word whose tableau has letters of the rank has such letters.
letters_of_lem : (n : ℕ) (w xs : List ℕ) → Within n xs → letters_of w ≡ xs → Within n w
letters_of_lem n w xs h e = (within-counts n w).1 (λ a c. (within-counts n xs).0 h a (omega (arith, sym (count-letters a w) ∙ ap (count a) e)))

-- A word that has the tableau is listed, at its number.
pub class_complete : (n : ℕ) (xs ms w : List ℕ) → Within n w → letters_of w ≡ xs → marks_of w ≡ ms
    → (class_number n w < class_size n xs ms) × (class_word n xs ms (class_number n w) ≡ w)
class_complete n xs ms w h e f = subst (λ (ys : List ℕ). Goal ys ms) e (subst (λ (ns : List ℕ). Goal (letters_of w) ns) f (number-below n w h, word_of-number n w h))
  where
    Goal : List ℕ → List ℕ → Type 0
    Goal ys ns = (class_number n w < class_size n ys ns) × (class_word n ys ns (class_number n w) ≡ w)

-- The column reading of a tableau has it: no class is empty.
pub class_inhabited : (n : ℕ) (xs ms : List ℕ) → Within n xs → Tableau xs ms → 0 < class_size n xs ms
class_inhabited n xs ms h t =
    let w : List ℕ = column_reading xs ms in
    let back : (letters_of w ≡ xs) × (marks_of w ≡ ms) = read_back xs ms t in
    omega (arith, (class_complete n xs ms w (letters_of_lem n w xs h back.0) back.0 back.1).0)

-- ---- joined words

-- A word is listed in another's class exactly when a chain joins them.
pub class_joined : (n : ℕ) (w v : List ℕ) → Within n w → Listed n (letters_of w) (marks_of w) v ↔ Joined w v
class_joined n w v h = (there, back)
  where
    there : Listed n (letters_of w) (marks_of w) v → Joined w v
    there k =
        let own = class_members n (letters_of w) (marks_of w) k.number k.below in
        (tableau-joined w v).0 (sym own.0 ∙ ap letters_of k.there, sym own.1 ∙ ap marks_of k.there)

    back : Joined w v → Listed n (letters_of w) (marks_of w) v
    back j =
        let inside : Within n v = (within-counts n v).1 (λ a c. (within-counts n w).0 h a (omega (arith, joined_count j a))) in
        let same : (letters_of w ≡ letters_of v) × (marks_of w ≡ marks_of v) = (tableau-joined w v).1 j in
        let listed = class_complete n (letters_of w) (marks_of w) v inside (sym same.0) (sym same.1) in
        record { number = class_number n v; below = listed.0; there = listed.1 }

-- ---- recording ribbons

module _ (n : ℕ) (xs ms : List ℕ) where
  -- The word of a number has a valid recording ribbon of the shape.
  pub number_recording : (k : ℕ) → k < class_size n xs ms → Recording ms (recording_of (class_word n xs ms k))
  number_recording k l =
      subst (λ (ns : List ℕ). Recording ns (recording_of (class_word n xs ms k))) (class_members n xs ms k l).1 (recording_of_word (class_word n xs ms k))

  -- Each of those is that of a number,
  pub recording_number : Within n xs → Tableau xs ms → (rs : List ℕ) → Recording ms rs
      → (k : ℕ) × ((k < class_size n xs ms) × (recording_of (class_word n xs ms k) ≡ rs))
  recording_number h t rs r =
      let w : List ℕ = word_of xs rs in
      let pair : (letters_of w ≡ xs) × (marks_of w ≡ ms) × (recording_of w ≡ rs) = pair_of_word (record { tableau = t; recording = r }) in
      let listed = class_complete n xs ms w (letters_of_lem n w xs h pair.0) pair.0 pair.1 in
      (class_number n w, (listed.0, ap recording_of listed.1 ∙ pair.2))

  -- and of one only.
  pub recording_one : (i j : ℕ) → i < class_size n xs ms → j < class_size n xs ms
      → recording_of (class_word n xs ms i) ≡ recording_of (class_word n xs ms j) → i ≡ j
  recording_one i j l k e =
      number_one n xs ms i j l k
      (word_unique (class_word n xs ms i) (class_members n xs ms i l).0 e ∙ sym (word_unique (class_word n xs ms j) (class_members n xs ms j k).0 refl))
