-- The marks of a word's tableau: the step into a cell goes down where its letter q is larger than the letter p before it and some q stands
-- left of some p in the word.
--     marks_before       the marks are marks_by (before w) over the letters
--     Apart p q xs       no letter of xs lies between p and q
--     marks_agree        marks_by asks only for neighbouring letters, those with no letter of the list between them
--     marks_same         words with equal counts, and equal before for neighbouring letters, have tableaux with equal marks
-- Assumes nothing.
use Prim.Native.Nat.{ℕ, suc, ◌≤◌, ◌<◌}
use mathlib.Core.Path.{◌≡◌, refl, sym, ap, ap₂, ◌∙◌}
use mathlib.Core.List.{List, [], ◌∷◌, ◌++◌}
use mathlib.Core.Bool.{Bool, false, ◌&&◌, and-false, or-false, or-true}
use mathlib.Core.Logic.{◌⊎◌, inl, inr}
use native.Mathlib.Omega.{arith}
use lib.Dec.{ltb}
use borrow.Author.Tests.{lt-ltb, le-ltb, eq-eqb, ne_eqb}
use Rattle.hypoplactic.specs.Words.{tick, count, before}
use Rattle.hypoplactic.specs.Insertion.{seat, put_at, first_down, put_mark, pair_of, letters_of, marks_of}
use Rattle.hypoplactic.specs.Places.{marks_after, marks_by}
use Rattle.hypoplactic.proofs.Theory.Letters.{count-letters, count_head, count_low, letters_same}
use Rattle.hypoplactic.proofs.Theory.Occurrences.{count_tail, occurs_count, before_snoc, before_absent}
use Rattle.hypoplactic.proofs.Theory.Pairs.{snoc_ind, letters_snoc, marks_snoc, letters-rising, seat_low, seat_high, Rising, le-or-lt}

-- ---- neighbouring letters

-- A mark asks for the two letters' order in the word only where the first is the smaller one.
mark_agree : (p q : ℕ) (s t : Bool) → (p < q → s ≡ t) → tick (ltb p q && s) 0 ≡ tick (ltb p q && t) 0
mark_agree p q s t h = go (le-or-lt q p)
  where
    go : (q ≤ p) ⊎ (p < q) → tick (ltb p q && s) 0 ≡ tick (ltb p q && t) 0
    go (inl l) = rw (le-ltb p q l)
    go (inr l) = rw (h l)

-- No letter of the list lies between p and q.
abbrev pub Apart : ℕ → ℕ → List ℕ → Type 0
Apart p q xs = (x : ℕ) → p < x → x < q → count x xs ≡ 0

apart_cons : (p q x : ℕ) (xs : List ℕ) → x ≤ p → Apart p q xs → Apart p q (x ∷ xs)
apart_cons p q x xs h apart y l m = rw (ne_eqb x y (omega arith)) (apart y l m)

marks_after_agree : (D E : ℕ → ℕ → Bool) (p : ℕ) (xs : List ℕ) → Rising p xs
    → ((r q : ℕ) → p ≤ r → r < q → Apart r q xs → D r q ≡ E r q) → marks_after D p xs ≡ marks_after E p xs
marks_after_agree D E p [] r h = refl
marks_after_agree D E p (q ∷ qs) r h =
    ap₂ ◌∷◌ (mark_agree p q (D p q) (E p q) (λ l. h p q (omega arith) l (λ x g k. count_low x q (q ∷ qs) k (omega arith, r.1))))
    (marks_after_agree D E q qs r.1 (λ s t g k apart. h s t (omega arith) k (apart_cons s t q qs g apart)))

-- The marks by D ask D only for neighbouring letters.
pub marks_agree : (D E : ℕ → ℕ → Bool) (k : ℕ) (xs : List ℕ) → Rising k xs
    → ((p q : ℕ) → p < q → Apart p q xs → D p q ≡ E p q) → marks_by D xs ≡ marks_by E xs
marks_agree D E k [] r h = refl
marks_agree D E k (x ∷ xs) r h = ap (λ (ms : List ℕ). 0 ∷ ms) (marks_after_agree D E x xs r.1 (λ p q g l apart. h p q l (apart_cons p q x xs g apart)))

-- ---- one letter more

module _ (w : List ℕ) (a : ℕ) where
  -- Precedence in the word, and in the word with a at its end.
  abbrev old : ℕ → ℕ → Bool
  old = before w

  abbrev now : ℕ → ℕ → Bool
  now = before (w ++ (a ∷ []))

  -- Only what stands left of an a changes.
  before_other : (p q : ℕ) → (a ≡ p → ⊥) → old p q ≡ now p q
  before_other p q h = rw (before_snoc, ne_eqb a p h) (simp (and-false, or-false))

  -- The letters above a, when a is seated before them: the step into the first is down, the others stay.
  beyond : (p : ℕ) (xs : List ℕ) → Rising (suc a) xs → ((q : ℕ) → count q xs ≤ count q w)
      → marks_after now a xs ≡ first_down (marks_after old p xs)
  beyond p [] r h = refl
  beyond p (x ∷ xs) r h = ap₂ ◌∷◌ head (marks_after_agree now old x xs r.1 (λ p q g l apart. sym (before_other p q (omega arith))))
    where
      head : tick (ltb a x && now a x) 0 ≡ 1
      head = rw (lt-ltb a x r.0, before_snoc, occurs_count, lt-ltb 0 (count x w) (omega (arith, h x, count_head x xs)), eq-eqb a a refl, or-true)

  -- Letter a seated before letters above it and after a letter p at most it: where p is below a, a is new to the word, so the step into a is right.
  seated : (p : ℕ) (xs : List ℕ) → p ≤ a → (p < a → count a w ≡ count a xs) → Rising (suc a) xs → ((q : ℕ) → count q xs ≤ count q w)
      → marks_after now p (a ∷ xs) ≡ 0 ∷ first_down (marks_after old p xs)
  seated p xs h c r o = ap₂ ◌∷◌ (mark_agree p a (now p a) false fresh ∙ rw and-false) (beyond p xs r o)
    where
      fresh : p < a → now p a ≡ false
      fresh l = sym (before_other p a (omega arith)) ∙ before_absent w p a (rw (occurs_count, c l, count_low a (suc a) xs (omega arith) r))

  -- The tail of a list has no letter more often than the word, if the list has none.
  fewer : (x : ℕ) (xs : List ℕ) → ((q : ℕ) → count q (x ∷ xs) ≤ count q w) → (q : ℕ) → count q xs ≤ count q w
  fewer x xs o q = omega (arith, count_tail q x xs, o q)

  -- From a cell with a letter at most a on: the mark put in at the seat of a.
  marks_walk : (p : ℕ) (xs : List ℕ) → p ≤ a → Rising p xs → (p < a → count a w ≡ count a xs) → ((q : ℕ) → count q xs ≤ count q w)
      → marks_after now p (put_at (seat a xs) a xs) ≡ put_mark (seat a xs) (marks_after old p xs)
  marks_walk p [] h r c o = seated p [] h c tt o
  marks_walk p (x ∷ xs) h r c o = go (le-or-lt x a) (λ l. marks_walk x xs l r.1 (rest l) (fewer x xs o))
    where
      rest : x ≤ a → x < a → count a w ≡ count a xs
      rest l m = c (omega arith) ∙ rw (ne_eqb x a (omega arith))

      Goal : Type 0
      Goal = marks_after now p (put_at (seat a (x ∷ xs)) a (x ∷ xs)) ≡ put_mark (seat a (x ∷ xs)) (marks_after old p (x ∷ xs))

      go : (x ≤ a) ⊎ (a < x)
          → (x ≤ a → marks_after now x (put_at (seat a xs) a xs) ≡ put_mark (seat a xs) (marks_after old x xs)) → Goal
      go (inl l) walk = rw (seat_low a x xs l) (ap₂ ◌∷◌ (mark_agree p x (now p x) (old p x) (λ m. sym (before_other p x (omega arith)))) (walk l))
      go (inr l) walk = rw (seat_high a x (x ∷ xs) l (omega arith, r.1)) (seated p (x ∷ xs) h c (l, r.1) o)

  -- The same from the first cell on.
  marks_put : (k : ℕ) (xs : List ℕ) → Rising k xs → ((q : ℕ) → count q xs ≡ count q w)
      → marks_by now (put_at (seat a xs) a xs) ≡ put_mark (seat a xs) (marks_by old xs)
  marks_put k [] r c = refl
  marks_put k (x ∷ xs) r c = go (le-or-lt x a)
    where
      o : (q : ℕ) → count q (x ∷ xs) ≤ count q w
      o q = omega (arith, c q)

      go : (x ≤ a) ⊎ (a < x) → marks_by now (put_at (seat a (x ∷ xs)) a (x ∷ xs)) ≡ put_mark (seat a (x ∷ xs)) (marks_by old (x ∷ xs))
      go (inl l) = rw (seat_low a x xs l) (ap (λ (ms : List ℕ). 0 ∷ ms) (marks_walk x xs l r.1 (λ m. sym (c a) ∙ rw (ne_eqb x a (omega arith))) (fewer x xs o)))
      go (inr l) = rw (seat_high a x (x ∷ xs) l (omega arith, r.1)) (ap (λ (ms : List ℕ). 0 ∷ ms) (beyond 0 (x ∷ xs) (l, r.1) o))

-- ---- the marks of a word

-- The marks of a word's tableau: down where p < q are neighbours and some q stands left of some p.
pub marks_before : (w : List ℕ) → marks_of w ≡ marks_by (before w) (letters_of w)
unfolding pair_of
marks_before = snoc_ind (λ w. marks_of w ≡ marks_by (before w) (letters_of w)) refl
    (λ w a ih. rw (marks_snoc, letters_snoc, ih) (sym (marks_put w a 0 (letters_of w) (letters-rising w) (λ q. count-letters q w))))

-- Words with equal counts and equal precedence of neighbouring letters have tableaux with equal marks.
pub marks_same : (u v : List ℕ) → ((a : ℕ) → count a u ≡ count a v)
    → ((p q : ℕ) → p < q → Apart p q u → before u p q ≡ before v p q) → marks_of u ≡ marks_of v
marks_same u v c b =
    marks_before u
    ∙ marks_agree (before u) (before v) 0 (letters_of u) (letters-rising u) (λ p q l apart. b p q l (λ x g h. sym (count-letters x u) ∙ apart x g h))
    ∙ rw (letters_same u v c) (sym (marks_before v))
