-- What each answer says in the documents' own numbers: the values that an operation gives, or a refusal's number and place. Every promise of the kernel
-- equates what these definitions give for a reply with the written meaning's reply to the input.
--     number, place      of a refusal, as the tables of documents 01 and 02 fix them
--     said_refusal       a refusal
--     said_fault k       the first fault that a scan for refusal k finds, if it finds one
--     said_verdict       the answer of a check, which gives no value
--     said_value         an answer of one number: the place that a move changed, how often it can be repeated, the elements written, the new used count,
--                        the size of a class or the number of a word in it
--     said_junctions, said_class, said_weights, said_cell, said_sizes      the other answers
-- That each of them tells all cases apart is proofs/Theory/Apart. Assumes nothing.
use Rattle.std.specs.Prelude.{ℕ, Bool, true, false, Option, Some, None, Result, Ok, Err, [], ◌∷◌}
use Rattle.std.specs.declared.cmp.Ordering.{Ordering}
use Rattle.std.specs.declared.cmp.Ordering.TheVariants.{Less, Equal, Greater}
use Rattle.outcomes.specs.Replies.{Said, gives, refused}
use Rattle.refusals.specs.declared.refusal.Refusal.{Refusal}
use Rattle.refusals.specs.declared.refusal.Refusal.TheVariants.{Rank, Length, Parts, Letter, Falling, Mark, Entry, Step, Index, Inversion, NoLetter, Full, Room, Line, Large, PastLast, Count, Empty, Item, Sum}
use Rattle.refusals.specs.declared.answers.Junctions.{Junctions}
use Rattle.refusals.specs.declared.answers.Cell.{Cell}
use Rattle.refusals.specs.declared.answers.Sizes.{Sizes}

abbrev pub number : Refusal → ℕ
number Rank = 1
number Length = 2
number Parts = 3
number (Letter p) = 4
number (Falling p) = 5
number (Mark p) = 6
number (Entry p) = 7
number (Step p) = 8
number Index = 9
number Inversion = 10
number NoLetter = 11
number Full = 12
number (Room need) = 13
number (Line p) = 14
number Large = 15
number PastLast = 16
number (Count p) = 17
number Empty = 18
number (Item i) = 19
number Sum = 20

abbrev pub place : Refusal → ℕ
place Rank = 0
place Length = 0
place Parts = 0
place (Letter p) = p
place (Falling p) = p
place (Mark p) = p
place (Entry p) = p
place (Step p) = p
place Index = 0
place Inversion = 0
place NoLetter = 0
place Full = 1024
place (Room need) = need
place (Line p) = p
place Large = 0
place PastLast = 0
place (Count p) = p
place Empty = 0
place (Item i) = i
place Sum = 0

abbrev pub said_refusal : Refusal → Said
said_refusal r = refused (number r) (place r)

abbrev pub said_fault : ℕ → Option ℕ → Said
said_fault k (Some p) = refused k p
said_fault k None = gives []

abbrev pub said_verdict : Result (Unit {0}) Refusal → Said
said_verdict (Ok u) = gives []
said_verdict (Err r) = said_refusal r

abbrev pub said_value : Result ℕ Refusal → Said
said_value (Ok n) = gives (n ∷ [])
said_value (Err r) = said_refusal r

-- The set, then the rows.
abbrev pub said_junctions : Result Junctions Refusal → Said
said_junctions (Ok j) = gives (j.set ∷ j.rows ∷ [])
said_junctions (Err r) = said_refusal r

-- Yes is 1, no is 0.
abbrev pub said_class : Result Bool Refusal → Said
said_class (Ok true) = gives (1 ∷ [])
said_class (Ok false) = gives (0 ∷ [])
said_class (Err r) = said_refusal r

-- The first weight against the second: 0 equal, 1 lower, 2 higher, 3 neither.
abbrev pub said_weights : Result (Option Ordering) Refusal → Said
said_weights (Ok (Some Equal)) = gives (0 ∷ [])
said_weights (Ok (Some Less)) = gives (1 ∷ [])
said_weights (Ok (Some Greater)) = gives (2 ∷ [])
said_weights (Ok None) = gives (3 ∷ [])
said_weights (Err r) = said_refusal r

-- Letter, row and column; no value for "no such cell".
abbrev pub said_cell : Result (Option Cell) Refusal → Said
said_cell (Ok (Some c)) = gives (c.letter ∷ c.row ∷ c.column ∷ [])
said_cell (Ok None) = gives []
said_cell (Err r) = said_refusal r

-- Rank and number of letters or cells.
abbrev pub said_sizes : Result Sizes Refusal → Said
said_sizes (Ok s) = gives (s.rank ∷ s.count ∷ [])
said_sizes (Err r) = said_refusal r
