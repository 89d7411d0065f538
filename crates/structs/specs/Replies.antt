-- What the C interface replies, field by field, for what an operation says in the documents' numbers. Each contract of src/ equates a struct with one of these.
--     number_of s, place_of s      number and place: 0 and 0 where values are given
--     value i s                  the value at i that is given; 0 where there is none, and after a refusal
--     any_value s                 1 where some value is given, else 0
--     done_of, move_of, count_of, class_of, order_of, junction_of, value_of, line_of, cell_of
--                                the structs of src/replies.rt
--     replied f run              an operation's reply as a struct, beside the same lent memory
--     tells k p vs               what number, place and values say, read as the C header says
--     done_tells, move_tells, count_tells, class_tells, order_tells, junction_tells, value_tells, line_tells, cell_tells
--                                what the structs say
-- That nothing of an answer is lost in its struct is proofs/Theory/Told. Assumes nothing.
use Rattle.std.specs.Prelude.{ℕ, zero, suc, List, [], ◌∷◌, get_or}
use Rattle.outcomes.specs.Replies.{Said, gives, refused}
use Rattle.structs.specs.declared.replies.DoneReply.{DoneReply}
use Rattle.structs.specs.declared.replies.MoveReply.{MoveReply}
use Rattle.structs.specs.declared.replies.CountReply.{CountReply}
use Rattle.structs.specs.declared.replies.ClassReply.{ClassReply}
use Rattle.structs.specs.declared.replies.OrderReply.{OrderReply}
use Rattle.structs.specs.declared.replies.JunctionReply.{JunctionReply}
use Rattle.structs.specs.declared.replies.ValueReply.{ValueReply}
use Rattle.structs.specs.declared.replies.LineReply.{LineReply}
use Rattle.structs.specs.declared.replies.CellReply.{CellReply}

abbrev pub number_of : Said → ℕ
number_of (gives vs) = 0
number_of (refused k p) = k

abbrev pub place_of : Said → ℕ
place_of (gives vs) = 0
place_of (refused k p) = p

abbrev pub value : ℕ → Said → ℕ
value i (gives vs) = get_or vs i 0
value i (refused k p) = 0

-- 1 where some value is given, else 0.
abbrev pub any_value : Said → ℕ
any_value (gives []) = 0
any_value (gives (v ∷ vs)) = 1
any_value (refused k p) = 0

abbrev pub done_of : Said → DoneReply
done_of s = record { number = number_of s; place = place_of s }

abbrev pub move_of : Said → MoveReply
move_of s = record { number = number_of s; place = place_of s; changed = value 0 s }

abbrev pub count_of : Said → CountReply
count_of s = record { number = number_of s; place = place_of s; count = value 0 s }

abbrev pub class_of : Said → ClassReply
class_of s = record { number = number_of s; place = place_of s; same = value 0 s }

abbrev pub order_of : Said → OrderReply
order_of s = record { number = number_of s; place = place_of s; order = value 0 s }

abbrev pub junction_of : Said → JunctionReply
junction_of s = record { number = number_of s; place = place_of s; set = value 0 s; rows = value 1 s }

abbrev pub value_of : Said → ValueReply
value_of s = record { number = number_of s; place = place_of s; value = value 0 s }

abbrev pub line_of : Said → LineReply
line_of s = record { number = number_of s; place = place_of s; rank = value 0 s; count = value 1 s }

abbrev pub cell_of : Said → CellReply
cell_of s = record { number = number_of s; place = place_of s; found = any_value s; letter = value 0 s; row = value 1 s; column = value 2 s }

-- An operation's reply as a struct, beside the same lent memory.
unfoldable pub replied : {R A : Type 0} → (Said → R) → Said × A → R × A
replied f (s, m) = (f s, m)

-- ---- a struct, read as the C header says

-- Number 0 gives the values, any other number refuses.
abbrev pub tells : ℕ → ℕ → List ℕ → Said
tells zero p vs = gives vs
tells (suc k) p vs = refused (suc k) p

abbrev pub done_tells : DoneReply → Said
done_tells r = tells r.number r.place []

abbrev pub move_tells : MoveReply → Said
move_tells r = tells r.number r.place (r.changed ∷ [])

abbrev pub count_tells : CountReply → Said
count_tells r = tells r.number r.place (r.count ∷ [])

abbrev pub class_tells : ClassReply → Said
class_tells r = tells r.number r.place (r.same ∷ [])

abbrev pub order_tells : OrderReply → Said
order_tells r = tells r.number r.place (r.order ∷ [])

abbrev pub junction_tells : JunctionReply → Said
junction_tells r = tells r.number r.place (r.set ∷ r.rows ∷ [])

abbrev pub value_tells : ValueReply → Said
value_tells r = tells r.number r.place (r.value ∷ [])

abbrev pub line_tells : LineReply → Said
line_tells r = tells r.number r.place (r.rank ∷ r.count ∷ [])

-- A cell was found, or there is none.
abbrev pub cell_values : ℕ → List ℕ → List ℕ
cell_values zero vs = []
cell_values (suc k) vs = vs

abbrev pub cell_tells : CellReply → Said
cell_tells r = tells r.number r.place (cell_values r.found (r.letter ∷ r.row ∷ r.column ∷ []))
