-- What each answer says, in the documents' own numbers: all cases, each number and each value in its place.
--     refusal_table                                  document 01's table "Returned instead of a result" and document 02's rows: number and place of every refusal
--     fault_values                                   what the scan for a refusal says
--     answer_values, class_numbers, weights_numbers  what an answer that is no refusal gives
--     passed_on                                      an answer that is a refusal says what the refusal says
-- Assumes nothing.
use Prim.Native.Nat.{ℕ}
use mathlib.Core.Path.{◌≡◌, refl}
use mathlib.Core.Bool.{true, false}
use mathlib.Core.List.{[], ◌∷◌, map}
use lib.ListN.{replicate}
use Rattle.std.specs.Prelude.{Some, None, Ok, Err}
use Rattle.std.specs.declared.cmp.Ordering.TheVariants.{Less, Equal, Greater}
use Rattle.hypoplactic.specs.Words.{tick}
use Rattle.hypoplactic.specs.Weights.{equal, lower, higher, neither}
use Rattle.outcomes.specs.Replies.{gives, refused}
use Rattle.outcomes.specs.WordOperations.{comparison_number}
use Rattle.refusals.specs.declared.refusal.Refusal.{Refusal}
use Rattle.refusals.specs.declared.refusal.Refusal.TheVariants.{Rank, Length, Parts, Letter, Falling, Mark, Entry, Step, Index, Inversion, NoLetter, Full, Room, Line, Large, PastLast, Count, Empty, Item, Sum}
use Rattle.refusals.specs.Said.{said_refusal, said_fault, said_verdict, said_value, said_junctions, said_class, said_weights, said_cell, said_sizes}

-- The rows of the tables.
pub refusal_table : (p : ℕ)
    → map said_refusal
    (Rank ∷ Length ∷ Parts ∷ Letter p ∷ Falling p ∷ Mark p ∷ Entry p ∷ Step p ∷ Index ∷ Inversion ∷ NoLetter ∷ Full ∷ Room p ∷ Line p
    ∷ Large ∷ PastLast ∷ Count p ∷ Empty ∷ Item p ∷ Sum ∷ [])
    ≡ refused 1 0 ∷ refused 2 0 ∷ refused 3 0 ∷ refused 4 p ∷ refused 5 p ∷ refused 6 p ∷ refused 7 p ∷ refused 8 p ∷ refused 9 0 ∷ refused 10 0
    ∷ refused 11 0 ∷ refused 12 1024 ∷ refused 13 p ∷ refused 14 p ∷ refused 15 0 ∷ refused 16 0 ∷ refused 17 p ∷ refused 18 0 ∷ refused 19 p
    ∷ refused 20 0 ∷ []
refusal_table p = refl

-- A fault of a scan for refusal k.
pub fault_values : (k p : ℕ) → said_fault k None ∷ said_fault k (Some p) ∷ [] ≡ gives [] ∷ refused k p ∷ []
fault_values k p = refl

-- Verdicts give nothing; places and counts give themselves; set and rows, letter, row and column, rank and length in this order.
pub answer_values : (a b c : ℕ)
    → said_verdict (Ok tt) ∷ said_value (Ok a) ∷ said_junctions (Ok (record { set = a; rows = b }))
    ∷ said_cell (Ok (Some (record { letter = a; row = b; column = c }))) ∷ said_cell (Ok None)
    ∷ said_sizes (Ok (record { rank = a; count = b })) ∷ []
    ≡ gives [] ∷ gives (a ∷ []) ∷ gives (a ∷ b ∷ []) ∷ gives (a ∷ b ∷ c ∷ []) ∷ gives [] ∷ gives (a ∷ b ∷ []) ∷ []
answer_values a b c = refl

-- Yes is 1, no is 0, as same_class_says gives them.
pub class_numbers : said_class (Ok true) ∷ said_class (Ok false) ∷ [] ≡ gives (tick true 0 ∷ []) ∷ gives (tick false 0 ∷ []) ∷ []
class_numbers = refl

-- Equal, lower, higher, neither, as weights_says gives them.
pub weights_numbers :
    said_weights (Ok (Some Equal)) ∷ said_weights (Ok (Some Less)) ∷ said_weights (Ok (Some Greater)) ∷ said_weights (Ok None) ∷ []
    ≡ map (λ c. gives (comparison_number c ∷ [])) (equal ∷ lower ∷ higher ∷ neither ∷ [])
weights_numbers = refl

-- A refusal is passed on as it is.
pub passed_on : (r : Refusal)
    → said_verdict (Err r) ∷ said_value (Err r) ∷ said_junctions (Err r) ∷ said_class (Err r) ∷ said_weights (Err r) ∷ said_cell (Err r)
    ∷ said_sizes (Err r) ∷ []
    ≡ replicate 7 (said_refusal r)
passed_on r = refl
