-- What a caller has from the two relations between replies, so that neither can be made weaker unseen.
--     together_turned     MovedTogether does not ask which word is first
--     together_number     both moves are made, or both refused with one number
--     together_made       a reply that is a place: it is one of the word's, and the letter given stands there, all else as it was
--     together_kept       a refusal: its place is 0, and the word is left as it was
--     beside_number       the move is made in word and tableau, or refused in both with one number
--     beside_refused      a refusal of one is the other's, number and place
--     beside_entry        a place and a cell: the cell's recording entry is the place plus 1
-- Assumes nothing.
use Prim.Native.Nat.{ℕ, suc, ◌<◌}
use mathlib.Core.Path.{◌≡◌, refl, sym, subst}
use mathlib.Core.List.{List, [], ◌∷◌}
use lib.ListN.{get_or, length, set}
use Rattle.outcomes.specs.Replies.{Said, gives, refused, Passes, OneNumber}
use Rattle.outcomes.specs.WrittenClasses.{MovedTogether, in_both, in_neither}
use Rattle.changed_places.specs.ChangedPlaces.{Beside, alike, beside}

-- ---- two joined words

pub together_turned : {a : ℕ} {u v : List ℕ} {r s : Said × List ℕ} → MovedTogether a u v r s → MovedTogether a v u s r
together_turned (in_both p q h k) = in_both q p k h
together_turned (in_neither k) = in_neither k

pub together_number : {a : ℕ} {u v : List ℕ} {r s : Said × List ℕ} → MovedTogether a u v r s → OneNumber r.0 s.0
together_number (in_both p q h k) = tt
together_number (in_neither k) = refl

pub together_made : {a : ℕ} {u v : List ℕ} {r s : Said × List ℕ} (p : ℕ) → MovedTogether a u v r s → r.0 ≡ gives (p ∷ []) → (p < length u) × (r.1 ≡ set u p a)
together_made p (in_both p' q h k) e = let same : p' ≡ p = cc in rw (← same) (h, refl)
together_made p (in_neither k) e = absurd (subst Passes (sym e) tt)

pub together_kept : {a : ℕ} {u v : List ℕ} {r s : Said × List ℕ} (k p : ℕ) → MovedTogether a u v r s → r.0 ≡ refused k p → (p ≡ 0) × (r.1 ≡ u)
together_kept k p (in_both p' q h i) e = absurd (subst Passes e tt)
together_kept k p (in_neither k') e = (cc, refl)

-- ---- a word and its tableau

pub beside_number : {rs : List ℕ} {s t : Said} → Beside rs s t → OneNumber s t
beside_number alike = refl
beside_number (beside e) = tt

pub beside_refused : {rs : List ℕ} {s t : Said} (k p : ℕ) → Beside rs s t → s ≡ refused k p → t ≡ refused k p
beside_refused k p alike e = e
beside_refused k p (beside h) e = absurd (subst Passes e tt)

pub beside_entry : {rs : List ℕ} {s t : Said} (p c : ℕ) → Beside rs s t → s ≡ gives (p ∷ []) → t ≡ gives (c ∷ []) → get_or rs c 0 ≡ suc p
beside_entry p c alike e f = absurd (subst Passes (sym e) tt)
beside_entry p c (beside h) e f = cc
