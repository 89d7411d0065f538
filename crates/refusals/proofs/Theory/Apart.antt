-- What an answer says fixes the answer: no two answers say the same in the documents' numbers. So a promise that fixes what is said fixes the reply. Each
-- answer is found again from what it says.
--     refusal_apart                                                     refusals by number and place
--     fault_apart                                                       the faults that a scan for one refusal finds
--     verdict_apart, value_apart, junctions_apart, class_apart, weights_apart, cell_apart, sizes_apart     the answers
-- Assumes nothing.
use Prim.Native.Nat.{ℕ, ◌-◌}
use mathlib.Core.Path.{◌≡◌, refl, sym, ap, ◌∙◌}
use mathlib.Core.List.{List, [], ◌∷◌}
use lib.ListN.{get_or}
use Rattle.std.specs.Prelude.{Bool, true, false, Option, Some, None, Result, Ok, Err}
use Rattle.std.specs.declared.cmp.Ordering.{Ordering}
use Rattle.std.specs.declared.cmp.Ordering.TheVariants.{Less, Equal, Greater}
use Rattle.outcomes.specs.Replies.{Said, gives, refused}
use Rattle.refusals.specs.declared.refusal.Refusal.{Refusal}
use Rattle.refusals.specs.declared.refusal.Refusal.TheVariants.{Rank, Length, Parts, Letter, Falling, Mark, Entry, Step, Index, Inversion, NoLetter, Full, Room, Line, Large, PastLast, Count, Empty, Item, Sum}
use Rattle.refusals.specs.declared.answers.Junctions.{Junctions}
use Rattle.refusals.specs.declared.answers.Cell.{Cell}
use Rattle.refusals.specs.declared.answers.Sizes.{Sizes}
use Rattle.refusals.specs.Said.{number, place, said_refusal, said_fault, said_verdict, said_value, said_junctions, said_class, said_weights, said_cell, said_sizes}

-- What can be found again is told apart.
apart : {A : Type 0} (said : A → Said) (back : Said → A) → ((a : A) → back (said a) ≡ a) → (a b : A) → said a ≡ said b → a ≡ b
apart said back again a b e = sym (again a) ∙ ap back e ∙ again b

-- ---- refusals

-- The tables' rows in order, at a place.
rows : ℕ → List Refusal
rows p =
    Rank ∷ Length ∷ Parts ∷ Letter p ∷ Falling p ∷ Mark p ∷ Entry p ∷ Step p ∷ Index ∷ Inversion ∷ NoLetter ∷ Full ∷ Room p ∷ Line p
    ∷ Large ∷ PastLast ∷ Count p ∷ Empty ∷ Item p ∷ Sum ∷ []

row : ℕ → ℕ → Refusal
row k p = get_or (rows p) (k - 1) Rank

row_of : (r : Refusal) → row (number r) (place r) ≡ r
unfolding row rows
row_of Rank = refl
row_of Length = refl
row_of Parts = refl
row_of (Letter p) = refl
row_of (Falling p) = refl
row_of (Mark p) = refl
row_of (Entry p) = refl
row_of (Step p) = refl
row_of Index = refl
row_of Inversion = refl
row_of NoLetter = refl
row_of Full = refl
row_of (Room need) = refl
row_of (Line p) = refl
row_of Large = refl
row_of PastLast = refl
row_of (Count p) = refl
row_of Empty = refl
row_of (Item i) = refl
row_of Sum = refl

-- An answer from what it says: from the values that it gives, or from the refusal that it passes on.
answer : {A : Type 0} → (List ℕ → A) → (Refusal → A) → Said → A
answer value pass (gives vs) = value vs
answer value pass (refused k p) = pass (row k p)

pub refusal_apart : (r s : Refusal) → said_refusal r ≡ said_refusal s → r ≡ s
unfolding answer
refusal_apart = apart said_refusal (answer (λ vs. Rank) (λ r. r)) row_of

-- A fault from what it says.
fault_of : Said → Option ℕ
fault_of (gives vs) = None
fault_of (refused k p) = Some p

fault_again : (k : ℕ) (f : Option ℕ) → fault_of (said_fault k f) ≡ f
unfolding fault_of
fault_again k (Some p) = refl
fault_again k None = refl

pub fault_apart : (k : ℕ) (f g : Option ℕ) → said_fault k f ≡ said_fault k g → f ≡ g
fault_apart k = apart (said_fault k) fault_of (fault_again k)

-- ---- answers: each is found again from its values or from its refusal

answer_of : {A : Type 0} → (List ℕ → A) → Said → Result A Refusal
answer_of value = answer (λ vs. Ok (value vs)) Err

verdict_again : (a : Result (Unit {0}) Refusal) → answer_of (λ vs. tt) (said_verdict a) ≡ a
unfolding answer answer_of
verdict_again (Ok u) = refl
verdict_again (Err r) = ap Err (row_of r)

pub verdict_apart : (a b : Result (Unit {0}) Refusal) → said_verdict a ≡ said_verdict b → a ≡ b
verdict_apart = apart said_verdict (answer_of (λ vs. tt)) verdict_again

value_of : List ℕ → ℕ
value_of vs = get_or vs 0 0

value_again : (a : Result ℕ Refusal) → answer_of value_of (said_value a) ≡ a
unfolding answer answer_of value_of
value_again (Ok n) = refl
value_again (Err r) = ap Err (row_of r)

pub value_apart : (a b : Result ℕ Refusal) → said_value a ≡ said_value b → a ≡ b
value_apart = apart said_value (answer_of value_of) value_again

junctions_of : List ℕ → Junctions
junctions_of vs = record { set = get_or vs 0 0; rows = get_or vs 1 0 }

junctions_again : (a : Result Junctions Refusal) → answer_of junctions_of (said_junctions a) ≡ a
unfolding answer answer_of junctions_of
junctions_again (Ok j) = refl
junctions_again (Err r) = ap Err (row_of r)

pub junctions_apart : (a b : Result Junctions Refusal) → said_junctions a ≡ said_junctions b → a ≡ b
junctions_apart = apart said_junctions (answer_of junctions_of) junctions_again

class_of : List ℕ → Bool
class_of vs = get_or (false ∷ true ∷ []) (get_or vs 0 0) false

class_again : (a : Result Bool Refusal) → answer_of class_of (said_class a) ≡ a
unfolding answer answer_of class_of
class_again (Ok true) = refl
class_again (Ok false) = refl
class_again (Err r) = ap Err (row_of r)

pub class_apart : (a b : Result Bool Refusal) → said_class a ≡ said_class b → a ≡ b
class_apart = apart said_class (answer_of class_of) class_again

weights_of : List ℕ → Option Ordering
weights_of vs = get_or (Some Equal ∷ Some Less ∷ Some Greater ∷ None ∷ []) (get_or vs 0 0) None

weights_again : (a : Result (Option Ordering) Refusal) → answer_of weights_of (said_weights a) ≡ a
unfolding answer answer_of weights_of
weights_again (Ok (Some Equal)) = refl
weights_again (Ok (Some Less)) = refl
weights_again (Ok (Some Greater)) = refl
weights_again (Ok None) = refl
weights_again (Err r) = ap Err (row_of r)

pub weights_apart : (a b : Result (Option Ordering) Refusal) → said_weights a ≡ said_weights b → a ≡ b
weights_apart = apart said_weights (answer_of weights_of) weights_again

cell_of : List ℕ → Option Cell
cell_of [] = None
cell_of (letter ∷ vs) = Some (record { letter = letter; row = get_or vs 0 0; column = get_or vs 1 0 })

cell_again : (a : Result (Option Cell) Refusal) → answer_of cell_of (said_cell a) ≡ a
unfolding answer answer_of cell_of
cell_again (Ok (Some c)) = refl
cell_again (Ok None) = refl
cell_again (Err r) = ap Err (row_of r)

pub cell_apart : (a b : Result (Option Cell) Refusal) → said_cell a ≡ said_cell b → a ≡ b
cell_apart = apart said_cell (answer_of cell_of) cell_again

sizes_of : List ℕ → Sizes
sizes_of vs = record { rank = get_or vs 0 0; count = get_or vs 1 0 }

sizes_again : (a : Result Sizes Refusal) → answer_of sizes_of (said_sizes a) ≡ a
unfolding answer answer_of sizes_of
sizes_again (Ok s) = refl
sizes_again (Err r) = ap Err (row_of r)

pub sizes_apart : (a b : Result Sizes Refusal) → said_sizes a ≡ said_sizes b → a ≡ b
sizes_apart = apart said_sizes (answer_of sizes_of) sizes_again
