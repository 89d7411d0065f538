-- Nothing of an answer is lost at the C interface: a struct, read as the C header says, says what the answer says, so no two answers share a struct. By
-- refusals' Theory/Apart what is said fixes the answer.
--     refusal_numbers                  a refusal's number is 1 to 20, never 0
--     verdict_told, move_told, count_told, class_told, weights_told, junctions_told, value_told, sizes_told, cell_told     the answers
-- Assumes nothing.
use Rattle.std.specs.Prelude.{Bool, true, false, Option, Some, None, Result, Ok, Err}
use Rattle.std.specs.declared.cmp.Ordering.{Ordering}
use Rattle.std.specs.declared.cmp.Ordering.TheVariants.{Less, Equal, Greater}
use Rattle.refusals.specs.declared.answers.Junctions.{Junctions}
use Rattle.refusals.specs.declared.answers.Cell.{Cell}
use Rattle.refusals.specs.declared.answers.Sizes.{Sizes}
use Prim.Native.Nat.{ℕ, ◌≤◌}
use mathlib.Core.Path.{◌≡◌, refl}
use mathlib.Core.List.{List}
use native.Mathlib.Omega.{arith}
use Rattle.refusals.specs.Said.{number, place, said_refusal, said_verdict, said_value, said_class, said_weights, said_junctions, said_sizes, said_cell}
use Rattle.refusals.specs.declared.refusal.Refusal.{Refusal}
use Rattle.refusals.specs.declared.refusal.Refusal.TheVariants.{Rank, Length, Parts, Letter, Falling, Mark, Entry, Step, Index, Inversion, NoLetter, Full, Room, Line, Large, PastLast, Count, Empty, Item, Sum}
use Rattle.structs.specs.Replies.{done_of, move_of, count_of, class_of, order_of, junction_of, value_of, line_of, cell_of, tells, done_tells, move_tells, count_tells, class_tells, order_tells, junction_tells, value_tells, line_tells, cell_tells}

-- ---- refusals

refused_told : (r : Refusal) (vs : List ℕ) → tells (number r) (place r) vs ≡ said_refusal r
refused_told Rank vs = refl
refused_told Length vs = refl
refused_told Parts vs = refl
refused_told (Letter p) vs = refl
refused_told (Falling p) vs = refl
refused_told (Mark p) vs = refl
refused_told (Entry p) vs = refl
refused_told (Step p) vs = refl
refused_told Index vs = refl
refused_told Inversion vs = refl
refused_told NoLetter vs = refl
refused_told Full vs = refl
refused_told (Room p) vs = refl
refused_told (Line p) vs = refl
refused_told Large vs = refl
refused_told PastLast vs = refl
refused_told (Count p) vs = refl
refused_told Empty vs = refl
refused_told (Item i) vs = refl
refused_told Sum vs = refl

pub refusal_numbers : (r : Refusal) → (1 ≤ number r) × (number r ≤ 20)
refusal_numbers Rank = (omega arith, omega arith)
refusal_numbers Length = (omega arith, omega arith)
refusal_numbers Parts = (omega arith, omega arith)
refusal_numbers (Letter p) = (omega arith, omega arith)
refusal_numbers (Falling p) = (omega arith, omega arith)
refusal_numbers (Mark p) = (omega arith, omega arith)
refusal_numbers (Entry p) = (omega arith, omega arith)
refusal_numbers (Step p) = (omega arith, omega arith)
refusal_numbers Index = (omega arith, omega arith)
refusal_numbers Inversion = (omega arith, omega arith)
refusal_numbers NoLetter = (omega arith, omega arith)
refusal_numbers Full = (omega arith, omega arith)
refusal_numbers (Room p) = (omega arith, omega arith)
refusal_numbers (Line p) = (omega arith, omega arith)
refusal_numbers Large = (omega arith, omega arith)
refusal_numbers PastLast = (omega arith, omega arith)
refusal_numbers (Count p) = (omega arith, omega arith)
refusal_numbers Empty = (omega arith, omega arith)
refusal_numbers (Item i) = (omega arith, omega arith)
refusal_numbers Sum = (omega arith, omega arith)

-- ---- answers

pub verdict_told : (a : Result (Unit {0}) Refusal) → done_tells (done_of (said_verdict a)) ≡ said_verdict a
verdict_told (Ok tt) = refl
verdict_told (Err r) = refused_told r _

pub move_told : (a : Result ℕ Refusal) → move_tells (move_of (said_value a)) ≡ said_value a
move_told (Ok p) = refl
move_told (Err r) = refused_told r _

pub count_told : (a : Result ℕ Refusal) → count_tells (count_of (said_value a)) ≡ said_value a
count_told (Ok n) = refl
count_told (Err r) = refused_told r _

pub class_told : (a : Result Bool Refusal) → class_tells (class_of (said_class a)) ≡ said_class a
class_told (Ok true) = refl
class_told (Ok false) = refl
class_told (Err r) = refused_told r _

pub weights_told : (a : Result (Option Ordering) Refusal) → order_tells (order_of (said_weights a)) ≡ said_weights a
weights_told (Ok (Some Equal)) = refl
weights_told (Ok (Some Less)) = refl
weights_told (Ok (Some Greater)) = refl
weights_told (Ok None) = refl
weights_told (Err r) = refused_told r _

pub junctions_told : (a : Result Junctions Refusal) → junction_tells (junction_of (said_junctions a)) ≡ said_junctions a
junctions_told (Ok j) = refl
junctions_told (Err r) = refused_told r _

pub value_told : (a : Result ℕ Refusal) → value_tells (value_of (said_value a)) ≡ said_value a
value_told (Ok k) = refl
value_told (Err r) = refused_told r _

pub sizes_told : (a : Result Sizes Refusal) → line_tells (line_of (said_sizes a)) ≡ said_sizes a
sizes_told (Ok s) = refl
sizes_told (Err r) = refused_told r _

pub cell_told : (a : Result (Option Cell) Refusal) → cell_tells (cell_of (said_cell a)) ≡ said_cell a
cell_told (Ok (Some c)) = refl
cell_told (Ok None) = refl
cell_told (Err r) = refused_told r _
