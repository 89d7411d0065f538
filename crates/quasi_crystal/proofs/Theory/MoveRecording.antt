-- A defined move keeps the recording ribbon and the marks, entry for entry (paper, section 5; document 01, "Moves").
--     Kept i p q         the pairs p and q have the same marks and recording entries, and their letters are changed as Changed tells
--     turned_pair        the letters of the tableau turn as the word does
--     move_recording     a defined move keeps recording ribbon and marks
-- Assumes nothing.
use Prim.Native.Nat.{ℕ, zero, suc, ◌≤◌, ◌<◌}
use mathlib.Core.Path.{◌≡◌, refl, sym, ap, ap₂, ◌∙◌}
use mathlib.Core.Logic.{◌≢◌, ◌⊎◌, inl, inr}
use mathlib.Core.List.{List, [], ◌∷◌}
use mathlib.Core.Bool.{Bool, true, false}
use mathlib.Core.Option.{some}
use native.Mathlib.Omega.{arith}
use lib.Dec.{leb}
use borrow.Author.Tests.{leb-false, le-leb, lt-leb}
use Rattle.hypoplactic.specs.Insertion.{reached, seat, put_at, put_mark, Pair, insert, insert_all, empty_pair, pair_of, letters_of, marks_of, recording_of}
use Rattle.quasi_crystal.specs.Moves.{Side, raising, lowering, Move, moved_word}
use Rattle.hypoplactic.proofs.Theory.Pairs.{le-or-lt}
use Rattle.quasi_crystal.proofs.Theory.Undo.{Lacks, Changed, here, after, Turned, word_turned}

-- ---- seats

-- The seat of c before a list with one letter more: one further on, or still first and below all.
abbrev Seating : ℕ → ℕ → List ℕ → Type 0
Seating c x xs = (seat c (x ∷ xs) ≡ suc (seat c xs)) ⊎ ((seat c (x ∷ xs) ≡ 0) × (c < x) × (seat c xs ≡ 0))

seat_cases : (c x : ℕ) (xs : List ℕ) → Seating c x xs
seat_cases c x xs = go (leb x c) refl (seat c xs) refl
  where
    go : (t : Bool) → leb x c ≡ t → (k : ℕ) → seat c xs ≡ k → Seating c x xs
    go true e zero z = inl (rw (e, z))
    go true e (suc k) z = inl (rw z)
    go false e zero z = inr (rw (e, z), leb-false x c e, z)
    go false e (suc k) z = inl (rw z)

-- Only what is larger stands after a seat that is the first.
seat-first : (c x : ℕ) (xs : List ℕ) → seat c (x ∷ xs) ≡ 0 → (c < x) × (seat c xs ≡ 0)
seat-first c x xs z = go (seat_cases c x xs)
  where
    go : Seating c x xs → (c < x) × (seat c xs ≡ 0)
    go (inl e) = let z : ⊥ = omega arith in absurd z
    go (inr e) = (e.1, e.2)

-- A letter whose seat is the first stands nowhere, and below the letter that a change takes away.
first_lacks : (a : ℕ) (xs : List ℕ) → seat a xs ≡ 0 → Lacks a xs
first_lacks a [] z = tt
first_lacks a (x ∷ xs) z = let p = seat-first a x xs z in (omega arith, first_lacks a xs p.1)

changed_first : {i : ℕ} {xs ys : List ℕ} (c : ℕ) → Changed i xs ys → seat c xs ≡ 0 → c < suc i
changed_first {i} c (here {back} l) z = (seat-first c (suc i) back z).0
changed_first c (after {x} {u} n ch) z = changed_first c ch (seat-first c x u z).1

-- Two tests that say the same.
leb_same : (a b c d : ℕ) → (a ≤ b → c ≤ d) → (c ≤ d → a ≤ b) → leb a b ≡ leb c d
leb_same a b c d f g = go (le-or-lt a b) (le-or-lt c d)
  where
    go : (a ≤ b) ⊎ (b < a) → (c ≤ d) ⊎ (d < c) → leb a b ≡ leb c d
    go (inl h) k = le-leb a b h ∙ sym (le-leb c d (f h))
    go (inr h) (inl k) = let z : ⊥ = omega (arith, g k) in absurd z
    go (inr h) (inr k) = lt-leb a b h ∙ sym (lt-leb c d k)

-- Among letters that lack i+1 the letters i and i+1 have one seat.
lacking-seat : (i : ℕ) (xs : List ℕ) → Lacks (suc i) xs → seat (suc i) xs ≡ seat i xs
lacking-seat i [] l = refl
lacking-seat i (x ∷ xs) l = ap₂ reached (leb_same x (suc i) x i (λ h. omega arith) (λ h. omega arith)) (lacking-seat i xs l.1)

-- A letter other than i has one seat among the letters before and after the change.
changed_seat : {i : ℕ} {xs ys : List ℕ} (c : ℕ) → c ≢ i → Changed i xs ys → seat c xs ≡ seat c ys
changed_seat {i} c ne (here {back} l) = ap (λ (t : Bool). reached t (seat c back)) (leb_same (suc i) c i c (λ h. omega arith) (λ h. omega arith))
changed_seat c ne (after {x} n ch) = ap (reached (leb x c)) (changed_seat c ne ch)

-- ---- letters put among others

-- A lacking letter stays lacking when another is put in.
lacks_put : (a c k : ℕ) (xs : List ℕ) → c ≢ a → Lacks a xs → Lacks a (put_at k c xs)
lacks_put a c zero xs ne l = (ne, l)
lacks_put a c (suc k) [] ne l = (ne, l)
lacks_put a c (suc k) (x ∷ xs) ne l = (l.0, lacks_put a c k xs ne l.1)

-- i+1 and i put at the seat of i among letters that lack i+1.
put_changed : (i : ℕ) (xs : List ℕ) → Lacks (suc i) xs → Changed i (put_at (seat i xs) (suc i) xs) (put_at (seat i xs) i xs)
put_changed i [] l = here tt
put_changed i (x ∷ xs) l = go (seat_cases i x xs) (put_changed i xs l.1)
  where
    go : Seating i x xs → Changed i (put_at (seat i xs) (suc i) xs) (put_at (seat i xs) i xs)
        → Changed i (put_at (seat i (x ∷ xs)) (suc i) (x ∷ xs)) (put_at (seat i (x ∷ xs)) i (x ∷ xs))
    go (inl e) rest = rw e (after l.0 rest)
    go (inr e) rest = rw e.0 (here {back = x ∷ xs} (omega arith, first_lacks i xs e.2))

-- A letter other than i put at its seat among changed letters.
changed_put : {i : ℕ} {xs ys : List ℕ} (c : ℕ) → c ≢ i → Changed i xs ys → Changed i (put_at (seat c xs) c xs) (put_at (seat c xs) c ys)
changed_put {i} c ne (here {back} l) = go (seat_cases c (suc i) back)
  where
    go : Seating c (suc i) back
        → Changed i (put_at (seat c (suc i ∷ back)) c (suc i ∷ back)) (put_at (seat c (suc i ∷ back)) c (i ∷ back))
    go (inl e) = rw e (here (lacks_put i c (seat c back) back ne l))
    go (inr e) = rw e.0 (after {x = c} (omega arith) (here l))
changed_put {i} c ne (after {x} {u} {v} n ch) = go (seat_cases c x u) (changed_put c ne ch)
  where
    go : Seating c x u → Changed i (put_at (seat c u) c u) (put_at (seat c u) c v)
        → Changed i (put_at (seat c (x ∷ u)) c (x ∷ u)) (put_at (seat c (x ∷ u)) c (x ∷ v))
    go (inl e) rest = rw e (after n rest)
    go (inr e) rest = let h : c < suc i = changed_first c ch e.2 in rw e.0 (after {x = c} (omega arith) (after n ch))

-- ---- pairs

-- The letters changed as Changed tells, the same marks, the same recording entries.
record Kept (i : ℕ) (p q : Pair) : Type 0 where
  letters : Changed i p.letters q.letters
  marks : p.marks ≡ q.marks
  recording : p.recording ≡ q.recording

-- Kept by one more letter other than i.
kept_insert : {i : ℕ} {p q : Pair} (c : ℕ) → c ≢ i → Kept i p q → Kept i (insert c p) (insert c q)
unfolding insert
kept_insert {i} {p} {q} c ne k =
    let e : seat c p.letters ≡ seat c q.letters = changed_seat c ne k.letters in
    record { letters = rw (← e) (changed_put c ne k.letters); marks = ap₂ put_mark e k.marks; recording = rw (e, k.recording) }

-- Kept by the letters that follow, none of which is i.
kept_all : {i : ℕ} {p q : Pair} (w : List ℕ) → Lacks i w → Kept i p q → Kept i (insert_all p w) (insert_all q w)
kept_all [] l k = k
kept_all {p = p} {q = q} (c ∷ w) l k = kept_all {p = insert c p} {q = insert c q} w l.1 (kept_insert c l.0 k)

-- Kept from the changed letter on, the first of its kind.
kept_start : (i : ℕ) (p : Pair) → Lacks (suc i) p.letters → Kept i (insert (suc i) p) (insert i p)
unfolding insert
kept_start i p l = record { letters = rw (lacking-seat i p.letters l) (put_changed i p.letters l); marks = rw (lacking-seat i p.letters l); recording = rw (lacking-seat i p.letters l) }

insert_lacks : (i c : ℕ) (p : Pair) → c ≢ suc i → Lacks (suc i) p.letters → Lacks (suc i) (insert c p).letters
unfolding insert
insert_lacks i c p ne l = lacks_put (suc i) c (seat c p.letters) p.letters ne l

kept_from : {i : ℕ} {u v : List ℕ} (p : Pair) → Lacks (suc i) p.letters → Changed i u v → Kept i (insert_all p u) (insert_all p v)
kept_from {i} p l (here {back} n) = kept_all back n (kept_start i p l)
kept_from {i} p l (after {x} ne c) = kept_from (insert x p) (insert_lacks i x p ne l) c

-- A changed word has a changed tableau, with the same marks and the same recording ribbon.
pairs_kept : {i : ℕ} {u v : List ℕ} → Changed i u v → Kept i (pair_of u) (pair_of v)
unfolding pair_of
pairs_kept c = kept_from empty_pair tt c

-- A turned word has a turned tableau, with the same marks and the same recording ribbon.
pub turned_pair : (s : Side) (i : ℕ) (w v : List ℕ) → Turned s i w v → Turned s i (letters_of w) (letters_of v) × (recording_of v ≡ recording_of w) × (marks_of v ≡ marks_of w)
turned_pair raising i w v c = let k = pairs_kept c in (k.letters, sym k.recording, sym k.marks)
turned_pair lowering i w v c = let k = pairs_kept c in (k.letters, k.recording, k.marks)

-- A defined move keeps recording ribbon and marks, entry for entry.
pub move_recording : (m : Move) (w v : List ℕ) → moved_word m w ≡ some v → (recording_of v ≡ recording_of w) × (marks_of v ≡ marks_of w)
move_recording m w v e = let t = turned_pair m.side m.index w v ((word_turned m w v).0 e) in (t.1, t.2)
