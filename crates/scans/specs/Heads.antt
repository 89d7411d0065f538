-- The beginning and the end of a line, read at a place of the text.
--     and_then r k                                 from a value on, what is left is read on
--     read_rank, read_counted, read_head, read_end    the parts of a line before and after its items
--     said_line, line_place, Lined                  what the numbers of a line, or a break, say in the grammar's terms, and their place
--     said_end, end_place, Ended                    the same of the end
-- Assumes nothing.
use Rattle.std.specs.Prelude.{ℕ, ◌+◌, ◌≤◌, ◌<◌, ◌≡◌, Bool, true, false, List, Result, Ok, Err, length, drop}
use Rattle.std.proofs.Common.{sym, ◌∙◌}
use native.Mathlib.Omega.{arith}
use Rattle.std.proofs.Math.ListN.{drop_of_length-le}
use Rattle.std.proofs.Math.Seq.{drop-cons}
use Rattle.grammar.specs.Reading.{Read, after, broken, ended, got, read_field, turned}
use Rattle.numerals.specs.Bytes.{after_none, after_there, starts_inside, starts_with}
use Rattle.numerals.specs.Numbers.{Told}
use Rattle.numerals.specs.declared.numbers.Broken.{Broken}
use Rattle.scans.specs.declared.line.Head.{Head}

-- From a value on: what is left is read by a reader that may depend on the value.
abbrev pub and_then : {A B : Type 0} → Read A → (A → List ℕ → Read B) → Read B
and_then (got a t) k = k a t
and_then (broken t) k = broken t

-- The rank of a line that has one; 0, and nothing is read, of another.
abbrev pub read_rank : Bool → List ℕ → Read ℕ
read_rank true = read_field
read_rank false = got 0

-- The number of items, beside the rank.
unfoldable pub read_counted : ℕ → List ℕ → Read (ℕ × ℕ)
read_counted n t = turned (λ k. (n, k)) (read_field t)

-- The beginning of a line up to its items.
unfoldable pub read_head : ℕ → Bool → List ℕ → Read (ℕ × ℕ)
read_head kind ranked = after kind (λ t. and_then (read_rank ranked t) read_counted)

-- The line feed and nothing after it, past a value.
unfoldable pub read_end : {A : Type 0} → A → List ℕ → Read A
read_end a t = turned (λ u. a) (after 10 ended t)

-- The numbers of a line, or a break, in the grammar's terms.
abbrev pub said_line : List ℕ → Result Head Broken → Read (ℕ × ℕ)
said_line text (Ok h) = got (h.rank, h.count) (drop h.next text)
said_line text (Err b) = broken (drop b.place text)

-- The place after them, or of the break.
abbrev pub line_place : Result Head Broken → ℕ
line_place (Ok h) = h.next
line_place (Err b) = b.place

-- They say a reading.
abbrev pub Lined : List ℕ → Read (ℕ × ℕ) → Result Head Broken → Type 0
Lined text reading r = Told text reading (said_line text r) (line_place r)

-- The end of a line, or a break, in the grammar's terms.
abbrev pub said_end : List ℕ → Result ℕ Broken → Read Unit
said_end text (Ok next) = got tt (drop next text)
said_end text (Err b) = broken (drop b.place text)

-- The place after it, or of the break.
abbrev pub end_place : Result ℕ Broken → ℕ
end_place (Ok next) = next
end_place (Err b) = b.place

-- It says a reading.
abbrev pub Ended : List ℕ → Read Unit → Result ℕ Broken → Type 0
Ended text reading r = Told text reading (said_end text r) (end_place r)

-- The letter of the kind stands first, or not; then the rank is read, and the number of items.
module _ (text : List ℕ) (kind : ℕ) (ranked : Bool) where
  pub head_none : false ≡ starts_with kind text → Told text (read_head kind ranked text) (broken text) 0
  unfolding read_head
  head_none is = record { says = after_none kind _ text (sym is); within = omega arith }

  module _ (is : true ≡ starts_with kind text) where
    pub head_broken : {p : ℕ} → Told text (read_rank ranked (drop 1 text)) (broken (drop p text)) p → Told text (read_head kind ranked text) (broken (drop p text)) p
    unfolding read_head
    head_broken f = record { says = after_there text 0 kind _ (sym is) ∙ rw f.says; within = f.within }

    pub head_counted : {n next p : ℕ} {s : Read ℕ} → Told text (read_rank ranked (drop 1 text)) (got n (drop next text)) next → Told text (read_field (drop next text)) s p
        → Told text (read_head kind ranked text) (turned {B = ℕ × ℕ} (λ k. (n, k)) s) p
    unfolding read_head read_counted
    head_counted f t = record { says = after_there text 0 kind _ (sym is) ∙ rw (f.says, t.says); within = t.within }

-- The line feed, and then the end.
module _ (text : List ℕ) (at : ℕ) where
  module _ (is : true ≡ starts_with 10 (drop at text)) where
    pub end_more : at + 1 < length text → Told text (after 10 ended (drop at text)) (broken (drop (at + 1) text)) (at + 1)
    end_more l = record { says = rw (after_there text at 10 ended (sym is), drop-cons text (at + 1) 0 l); within = omega arith }

    pub end_last : length text ≤ at + 1 → Told text (after 10 ended (drop at text)) (got tt (drop (at + 1) text)) (at + 1)
    end_last l = record {
      says = rw (after_there text at 10 ended (sym is), drop_of_length-le text {i = at + 1} l);
      within = omega (arith, starts_inside text at 10 (sym is));
    }
