-- The tableau of a word row by row: what a row hands down at each time is what the row below is brought.
--     letters_times     the letters of a word are what each time brings
--     by_rows           the top row settles by itself, and the rows below are those of what it hands down
-- Assumes nothing.
use Prim.Native.Nat.{ℕ, zero, suc, ◌≤◌}
use native.Mathlib.Omega.{arith}
use mathlib.Core.Path.{◌≡◌, refl, sym, ap, ◌∙◌}
use mathlib.Core.List.{List, [], ◌∷◌}
use mathlib.Core.Option.{Option, none, some}
use Rattle.hypoplactic.specs.Words.{Within}
use Rattle.plactic.specs.Young.{Row, Rows}
use Rattle.plactic.specs.Schensted.{insert, insert_all, replaced, row_with}
use Rattle.plactic.specs.WayBack.{letter_out}
use Rattle.plactic.specs.ByRows.{Takes, comes, handed, hands_down, insert_times, row_after, settled}
use Rattle.plactic.proofs.Theory.Taking.{takes_larger, takes_row}

-- A letter of some rank is brought as it is.
pub comes_letter : (a : ℕ) → 1 ≤ a → comes a ≡ some a
comes_letter zero h = let z : ⊥ = omega arith in absurd z
comes_letter (suc a) h = refl

-- What a row hands down is a letter or nothing, never 0.
pub comes_down : (r : Row) (o : Option ℕ) → comes (letter_out (hands_down r o)) ≡ hands_down r o
comes_down r none = refl
comes_down r (some a) = go (replaced a r) (takes_row 0 a r)
  where
    go : (z : Option ℕ) → Takes 0 a r z (row_with 0 a r) → comes (letter_out z) ≡ z
    go none t = refl
    go (some z) t = comes_letter z (omega (arith, takes_larger t))

pub letters_times : (n t : ℕ) (rows : Rows) (w : List ℕ) → Within n w → insert_all t rows w ≡ insert_times t rows w
letters_times n t rows [] h = refl
letters_times n t rows (a ∷ w) h =
    ap (λ (o : Option ℕ). insert_all (suc t) (insert t rows o) w) (sym (comes_letter a h.0))
    ∙ letters_times n (suc t) (insert t rows (comes a)) w h.2

-- One time: the top row takes what it is brought, and the rows below what it hands down.
one_time : (t : ℕ) (r : Row) (rs : Rows) (o : Option ℕ) → insert t (r ∷ rs) o ≡ row_after t r o ∷ insert t rs (hands_down r o)
one_time t r [] none = refl
one_time t r (q ∷ qs) none = refl
one_time t r rs (some a) = refl

pub by_rows : (t : ℕ) (r : Row) (rs : Rows) (w : List ℕ) → insert_times t (r ∷ rs) w ≡ settled t r w ∷ insert_times t rs (handed t r w)
by_rows t r rs [] = refl
by_rows t r rs (a ∷ w) =
    ap (λ (rows : Rows). insert_times (suc t) rows w) (one_time t r rs (comes a))
    ∙ by_rows (suc t) (row_after t r (comes a)) (insert t rs (hands_down r (comes a))) w
    ∙ ap (λ (o : Option ℕ). settled (suc t) (row_after t r (comes a)) w ∷ insert_times (suc t) (insert t rs o) (handed (suc t) (row_after t r (comes a)) w))
    (sym (comes_down r (comes a)))
