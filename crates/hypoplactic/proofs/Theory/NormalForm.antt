-- Column reading is a normal form (theorem c): every word is joined to the column reading of its tableau, so that words of one tableau are joined. That the
-- tableau of a column reading is the tableau read stands in ReadBack. Assumes nothing.
use Prim.Native.Nat.{ℕ}
use mathlib.Core.Path.{◌≡◌, sym, ap, ap₂}
use mathlib.Core.List.{List, [], ◌∷◌, ◌++◌}
use Rattle.hypoplactic.specs.Rewriting.{Joined, same}
use Rattle.hypoplactic.specs.Insertion.{insert, pair_of, letters_of, marks_of}
use Rattle.hypoplactic.specs.Reading.{column_reading}
use Rattle.hypoplactic.proofs.Theory.Cells.{cells_of, read_cells}
use Rattle.hypoplactic.proofs.Theory.Joining.{◌⨾◌, joined_back, joined-eq, joined_sym}
use Rattle.hypoplactic.proofs.Theory.InsertRead.{insert_read}
use Rattle.hypoplactic.proofs.Theory.Pairs.{snoc_ind, pair_snoc}
use Rattle.hypoplactic.proofs.Theory.Boundary.{cells_of_tableau, cells_of_insert, read_of_cells, tableau_of_word}

-- One more letter at the end of the word.
word_reading_snoc : (w : List ℕ) (a : ℕ) → Joined w (column_reading (letters_of w) (marks_of w))
    → Joined (w ++ (a ∷ [])) (column_reading (letters_of (w ++ (a ∷ []))) (marks_of (w ++ (a ∷ []))))
word_reading_snoc w a h =
    joined_back (a ∷ []) h ⨾ joined-eq (ap (λ (r : List ℕ). r ++ (a ∷ [])) (read_of_cells (letters_of w) (marks_of w)))
    ⨾ insert_read a (cells_of (letters_of w) (marks_of w)) (cells_of_tableau (letters_of w) (marks_of w) (tableau_of_word w))
    ⨾ joined-eq (ap (read_cells []) (sym (cells_of_insert a (pair_of w) (tableau_of_word w))))
    ⨾ joined-eq (sym (read_of_cells (insert a (pair_of w)).letters (insert a (pair_of w)).marks))
    ⨾ joined-eq (ap (λ p. column_reading p.letters p.marks) (sym (pair_snoc w a)))

-- Every word is joined to the column reading of its tableau.
pub word_reading : (w : List ℕ) → Joined w (column_reading (letters_of w) (marks_of w))
unfolding pair_of column_reading
word_reading = snoc_ind (λ w. Joined w (column_reading (letters_of w) (marks_of w))) same word_reading_snoc

-- Words of one tableau are joined: each is joined to the tableau's column reading.
pub same_tableau_joined : (u v : List ℕ) → letters_of u ≡ letters_of v → marks_of u ≡ marks_of v → Joined u v
same_tableau_joined u v p q = word_reading u ⨾ joined-eq (ap₂ column_reading p q) ⨾ joined_sym (word_reading v)
