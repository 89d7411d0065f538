-- First and last places of the letters of a word, and the marks by them.
--     first_snoc, last_snoc     first and last place of a letter in w with one letter more at its end
--     places_absent             an absent letter has no place
--     first_bounds, last_bound, last_positive     where the first and the last place lie
--     before-places             some q stands left of some p where q's first place is below p's last, if q occurs
--     marks-runs                the marks of the tableau, letter by letter
-- Assumes nothing.
use Prim.Native.Nat.{ℕ, zero, suc, ◌+◌, ◌≤◌, ◌<◌}
use mathlib.Core.Path.{◌≡◌, refl, sym, ◌∙◌}
use mathlib.Core.List.{List, [], ◌∷◌, ◌++◌}
use mathlib.Core.Bool.{Bool, true, false, ◌&&◌, ◌||◌, cond, and-false, or-true, or-false, false≢true}
use native.Mathlib.Numerals.{one-add}
use native.Mathlib.Omega.{arith}
use lib.Dec.{eqb, ltb}
use lib.ListN.{length, get_or, replicate}
use borrow.Author.Tests.{lt-ltb, le-ltb, ne_eqb}
use Rattle.hypoplactic.specs.Words.{count, occurs, before, Within}
use Rattle.hypoplactic.specs.Insertion.{letters_of, marks_of}
use Rattle.hypoplactic.specs.Places.{marks_after, marks_by, layers, copies, cons_if, places, last_or, first_place, last_place, or_place, run, marks_of_runs}
use Rattle.hypoplactic.proofs.Theory.Layers.{letters-layers, places_snoc}
use Rattle.hypoplactic.proofs.Theory.Marks.{marks_before}
use Rattle.hypoplactic.proofs.Theory.Occurrences.{occurs-append, occurs_count, before_snoc, before_absent}
use Rattle.hypoplactic.proofs.Theory.Pairs.{snoc_ind, length_snoc}

-- ---- one letter more

last_or-cons_if : (b : Bool) (d i : ℕ) (s : List ℕ) → last_or d (s ++ cons_if b i []) ≡ cond b i (last_or d s)
last_or-cons_if true d i [] = refl
last_or-cons_if false d i [] = refl
last_or-cons_if b d i (x ∷ s) = last_or-cons_if b x i s

-- The last place of a moves to the end with a letter a.
pub last_snoc : (w : List ℕ) (x a : ℕ) → last_place a (w ++ (x ∷ [])) ≡ cond (eqb x a) (suc (length w)) (last_place a w)
last_snoc w x a = rw (places_snoc 1 a x w, last_or-cons_if, one-add)

-- The first place of a in a word whose first place is i.
abbrev first_from : ℕ → ℕ → List ℕ → ℕ
first_from i a w = get_or (places i a w) 0 0

first_from_lem : (i a x : ℕ) (w : List ℕ) → first_from (suc i) a (w ++ (x ∷ [])) ≡ or_place (first_from (suc i) a w) (cond (eqb x a) (suc i + length w) 0)
first_from_lem i a x [] = go (eqb x a)
  where
    go : (b : Bool) → get_or (cons_if b (suc i) []) 0 0 ≡ cond b (suc i + 0) 0
    go true = omega arith
    go false = refl
first_from_lem i a x (y ∷ w) = go (eqb y a) (first_from_lem (suc i) a x w)
  where
    on : suc (suc i) + length w ≡ suc i + suc (length w)
    on = omega arith

    go : (b : Bool)
        → first_from (suc (suc i)) a (w ++ (x ∷ [])) ≡ or_place (first_from (suc (suc i)) a w) (cond (eqb x a) (suc (suc i) + length w) 0)
        → get_or (cons_if b (suc i) (places (suc (suc i)) a (w ++ (x ∷ [])))) 0 0
        ≡ or_place (get_or (cons_if b (suc i) (places (suc (suc i)) a w)) 0 0) (cond (eqb x a) (suc i + suc (length w)) 0)
    go true e = refl
    go false e = rw on at e

-- The first place of a stays, or is the end where there is none.
pub first_snoc : (w : List ℕ) (x a : ℕ) → first_place a (w ++ (x ∷ [])) ≡ or_place (first_place a w) (cond (eqb x a) (suc (length w)) 0)
first_snoc w x a = rw (first_from_lem 0 a x w, one-add)

-- ---- where places lie

-- An absent letter has no place.
pub places_absent : (i a : ℕ) (w : List ℕ) → occurs a w ≡ false → places i a w ≡ []
places_absent i a [] e = refl
places_absent i a (x ∷ w) e = go (eqb x a) e (places_absent (suc i) a w)
  where
    go : (b : Bool) → (b || occurs a w) ≡ false → (occurs a w ≡ false → places (suc i) a w ≡ []) → cons_if b i (places (suc i) a w) ≡ []
    go true e rest = cc
    go false e rest = rest e

first-within : (i a : ℕ) (w : List ℕ) → occurs a w ≡ true → (i ≤ first_from i a w) × (first_from i a w < i + length w)
first-within i a [] e = absurd (false≢true e)
first-within i a (x ∷ w) e = go (eqb x a) e (first-within (suc i) a w)
  where
    go : (b : Bool) → (b || occurs a w) ≡ true → (occurs a w ≡ true → (suc i ≤ first_from (suc i) a w) × (first_from (suc i) a w < suc i + length w))
        → (i ≤ get_or (cons_if b i (places (suc i) a w)) 0 0) × (get_or (cons_if b i (places (suc i) a w)) 0 0 < i + suc (length w))
    go true e rest = (omega arith, omega arith)
    go false e rest = let r : (suc i ≤ first_from (suc i) a w) × (first_from (suc i) a w < suc i + length w) = rest e in (omega arith, omega arith)

-- The first place of a letter that occurs is one of the word's.
pub first_bounds : (a : ℕ) (w : List ℕ) → occurs a w ≡ true → (1 ≤ first_place a w) × (first_place a w ≤ length w)
first_bounds a w e = let r : (1 ≤ first_place a w) × (first_place a w < 1 + length w) = first-within 1 a w e in (omega arith, omega arith)

to_end : (l n : ℕ) (b : Bool) → l ≤ n → cond b (suc n) l ≤ suc n
to_end l n true h = omega arith
to_end l n false h = omega arith

-- The last place is one of the word's or 0.
pub last_bound : (a : ℕ) (w : List ℕ) → last_place a w ≤ length w
last_bound a = snoc_ind (λ w. last_place a w ≤ length w) (omega arith)
    (λ w x ih. rw (last_snoc, length_snoc) (to_end (last_place a w) (length w) (eqb x a) ih))

-- The last place of a letter that occurs is not 0.
pub last_positive : (a : ℕ) (w : List ℕ) → occurs a w ≡ true → 1 ≤ last_place a w
last_positive a = snoc_ind (λ w. occurs a w ≡ true → 1 ≤ last_place a w) (λ e. absurd (false≢true e))
    (λ w x ih e. rw last_snoc (go w (eqb x a) (sym (occurs-append a w (x ∷ [])) ∙ e) ih))
  where
    go : (w : List ℕ) (b : Bool) → (occurs a w || (b || false)) ≡ true → (occurs a w ≡ true → 1 ≤ last_place a w)
        → 1 ≤ cond b (suc (length w)) (last_place a w)
    go w true e h = omega arith
    go w false e h = h (sym (or-false (occurs a w)) ∙ e)

-- ---- precedence by places

or_place-first : (k l : ℕ) → 1 ≤ k → or_place k l ≡ k
or_place-first zero l h = absurd (omega arith)
or_place-first (suc k) l h = refl

-- Where q occurs, some q stands left of some p exactly if q's first place is below p's last.
pub before-places : (p q : ℕ) (w : List ℕ) → occurs q w ≡ true → before w p q ≡ ltb (first_place q w) (last_place p w)
before-places p q = snoc_ind (λ w. occurs q w ≡ true → before w p q ≡ ltb (first_place q w) (last_place p w)) (λ e. absurd (false≢true e))
    (λ w a ih e. rw (before_snoc, first_snoc, last_snoc) (known w (eqb a q) (eqb a p) (sym (occurs-append q w (a ∷ [])) ∙ e) (occurs q w) refl ih))
  where
    Claim : List ℕ → Bool → Bool → Bool → Type 0
    Claim w b is_q is_p =
        (before w p q || b && is_p) ≡ ltb (or_place (first_place q w) (cond is_q (suc (length w)) 0)) (cond is_p (suc (length w)) (last_place p w))

    known : (w : List ℕ) (is_q is_p : Bool) → (occurs q w || (is_q || false)) ≡ true → (b : Bool) → occurs q w ≡ b
        → (occurs q w ≡ true → before w p q ≡ ltb (first_place q w) (last_place p w)) → Claim w (occurs q w) is_q is_p
    known w is_q true e true o ih =
        let r : (1 ≤ first_place q w) × (first_place q w ≤ length w) = first_bounds q w o in
        rw (o, or-true, or_place-first (first_place q w) (cond is_q (suc (length w)) 0) r.0, lt-ltb (first_place q w) (suc (length w)) (omega arith))
    known w is_q false e true o ih =
        let r : (1 ≤ first_place q w) × (first_place q w ≤ length w) = first_bounds q w o in
        rw (o, or-false, or_place-first (first_place q w) (cond is_q (suc (length w)) 0) r.0) (ih o)
    known w true is_p e false o ih =
        rw (
          o,
          before_absent w p q o,
          places_absent 1 q w o,
          le-ltb (suc (length w)) (cond is_p (suc (length w)) (last_place p w)) (to_end (last_place p w) (length w) is_p (last_bound p w)),
        )
    known w false is_p e false o ih = absurd (false≢true (sym o ∙ sym (or-false (occurs q w)) ∙ e))

-- ---- the marks letter by letter

marks-copies : (D : ℕ → ℕ → Bool) (x c : ℕ) (r : List ℕ) → marks_after D x (replicate c x ++ r) ≡ replicate c 0 ++ marks_after D x r
marks-copies D x zero r = refl
marks-copies D x (suc c) r = rw (le-ltb x x (omega arith), marks-copies D x c r)

-- After a letter p below k, the marks of the letters from k on.
runs_after : (w : List ℕ) (n k p : ℕ) → p < k → marks_after (before w) p (layers (copies w) n k) ≡ marks_of_runs w n k (last_place p w)
unfolding layers marks_of_runs
runs_after w zero k p h = refl
runs_after w (suc n) k p h = go (count k w) refl (runs_after w n (suc k))
  where
    rest : ℕ → List ℕ
    rest l = marks_of_runs w n (suc k) (or_place (last_place k w) l)

    go : (c : ℕ) → count k w ≡ c
        → ((r : ℕ) → r < suc k → marks_after (before w) r (layers (copies w) n (suc k)) ≡ marks_of_runs w n (suc k) (last_place r w))
        → marks_after (before w) p (replicate (count k w) k ++ layers (copies w) n (suc k))
        ≡ run (ltb (first_place k w) (last_place p w)) (count k w) ++ rest (last_place p w)
    go zero e ih =
        let absent : occurs k w ≡ false = rw (occurs_count, e) in
        rw (e, places_absent 1 k w absent) (ih p (omega arith))
    go (suc c) e ih =
        let present : occurs k w ≡ true = rw (occurs_count, e, lt-ltb 0 (suc c) (omega arith)) in
        rw (
          e,
          marks-copies (before w) k c,
          lt-ltb p k h,
          before-places p k w present,
          or_place-first (last_place k w) (last_place p w) (last_positive k w present),
          ih k (omega arith),
        )

-- The letters being 1 and more, no 0 occurs: the first cell follows 0 as it follows nothing.
zero_absent : (n : ℕ) (w : List ℕ) → Within n w → occurs 0 w ≡ false
zero_absent n [] h = refl
zero_absent n (x ∷ w) h = rw (ne_eqb x 0 (omega arith), zero_absent n w h.2)

zero_unfollowed : (n q : ℕ) (w : List ℕ) → Within n w → before w 0 q ≡ false
zero_unfollowed n q [] h = refl
zero_unfollowed n q (x ∷ w) h = rw (zero_absent n w h.2, and-false, zero_unfollowed n q w h.2)

marks_from-zero : (D : ℕ → ℕ → Bool) (xs : List ℕ) → ((q : ℕ) → D 0 q ≡ false) → marks_by D xs ≡ marks_after D 0 xs
marks_from-zero D [] h = refl
marks_from-zero D (x ∷ xs) h = rw (h x, and-false)

-- The marks of the tableau, letter by letter, by first and last places.
pub marks-runs : (n : ℕ) (w : List ℕ) → Within n w → marks_of w ≡ marks_of_runs w n 1 0
marks-runs n w h =
    marks_before w ∙ marks_from-zero (before w) (letters_of w) (λ q. zero_unfollowed n q w h)
    ∙ rw (letters-layers n w h, runs_after w n 1 0 (omega arith), places_absent 1 0 w (zero_absent n w h))
