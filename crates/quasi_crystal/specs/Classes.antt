-- What the scope demands of classes (demand 3), as one statement about any two words: a record whose fields are its sentences, and the claim that
-- it holds at every rank of any two words accepted at it.
--     tableau_line n w           document 01's tableau line: the whole T line of the word's tableau, line feed included
--     Faithful line move u v    lines and moves tell of u and v what the rewriting rules tell
--     FaithfulLines             the demand: Faithful of tableau lines and of moves on words. Theorem `classes`, proofs/Theory/Classes.antt
-- The same over what the operations reply and leave in lent memory: specs/WrittenClasses.antt of the crate outcomes. Words of two ranks: crate ranks.
-- Assumes nothing.
use Rattle.std.specs.Prelude.{◌≡◌, List, ◌↔◌, ℕ}
use Rattle.std.proofs.Math.Option.{Option, some}
use Rattle.grammar.specs.Lines.{t_line}
use Rattle.hypoplactic.specs.Insertion.{letters_of, marks_of, recording_of}
use Rattle.hypoplactic.specs.Words.{Accepted}
use Rattle.quasi_crystal.specs.Moves.{Move, Defined, move_word}
use Rattle.hypoplactic.specs.Rewriting.{Joined}

-- The tableau line of a word.
unfoldable pub tableau_line : ℕ → List ℕ → List ℕ
tableau_line n w = t_line n (letters_of w) (marks_of w)

pub record Faithful {A : Type 0} (line : List ℕ → A) (move : Move → List ℕ → Option (List ℕ)) (u v : List ℕ) : Type 0 where
  -- 1. Their lines are equal exactly when a chain joins them.
  pub shared : (line u ≡ line v) ↔ Joined u v
  -- 2. If a chain joins them, each move is defined on both or on neither,
  pub together : Joined u v → (m : Move) → Defined (move m u) ↔ Defined (move m v)
  -- and where it is defined the results' lines are equal.
  pub results : Joined u v → (m : Move) (u' v' : List ℕ) → move m u ≡ some u' → move m v ≡ some v' → line u' ≡ line v'
  -- 3. Where a move is defined, the result's recording ribbon is the word's own.
  pub recordings : (m : Move) (u' : List ℕ) → move m u ≡ some u' → recording_of u' ≡ recording_of u

-- Demand 3: at every rank, of any two words accepted at it.
abbrev pub FaithfulLines : Type 0
FaithfulLines = (n : ℕ) (u v : List ℕ) → Accepted n u → Accepted n v → Faithful (tableau_line n) (move_word n) u v
