-- Demand 3 for words of any two ranks, as one theorem. The statement is `FaithfulRanks` of specs/Ranks.antt.
--     across     the core: any line that does not depend on the rank and tells tableaux apart, no bound on letters or length
--     ranks      the theorem: tableau lines without their rank field, moves of each word's own rank
-- Over what is written it is `written_ranks` of WrittenRanks. Assumes nothing.
use Prim.Native.Nat.{ℕ}
use mathlib.Core.Path.{◌≡◌, ◌∙◌}
use mathlib.Core.Bool.{true}
use mathlib.Core.List.{List}
use Rattle.grammar.specs.Lines.{t_line}
use Rattle.hypoplactic.specs.Insertion.{letters_of, marks_of}
use Rattle.quasi_crystal.specs.Classes.{tableau_line, Faithful}
use Rattle.quasi_crystal.specs.Moves.{index_of, moved_word, move_word}
use Rattle.hypoplactic.specs.Ribbons.{Tableau}
use Rattle.quasi_crystal.proofs.Theory.Classes.{allowed-defined, faithful}
use Rattle.ranks.specs.Unranked.{without_rank}
use Rattle.ranks.specs.Ranks.{FaithfulAcross, FaithfulRanks, unranked_line}
use Rattle.ranks.proofs.Theory.Unranked.{tableau_unranked, unranked_tells}

-- The core: a line that is one at every rank and tells tableaux apart. What holds without ranks (`faithful`, every move allowed) holds at any two.
pub across : {A : Type 0} (line : ℕ → List ℕ → List ℕ → A) → ((n m : ℕ) (xs ms : List ℕ) → line n xs ms ≡ line m xs ms)
    → ((n : ℕ) (xs ms ys ns : List ℕ) → Tableau xs ms → Tableau ys ns → line n xs ms ≡ line n ys ns → (xs ≡ ys) × (ms ≡ ns))
    → (n m : ℕ) (u v : List ℕ) → FaithfulAcross (λ r w. line r (letters_of w) (marks_of w)) move_word n m u v
unfolding move_word
across line one tells n m u v =
    record {
      shared = (λ e. faith.shared.0 (e ∙ one m n (letters_of v) (marks_of v)), λ j. faith.shared.1 j ∙ one n m (letters_of v) (marks_of v));
      together = λ j k p q. rw (p, q) (faith.together j k);
      results = λ j k u' v' e f.
          faith.results j k u' v' (allowed-defined (index_of n k.index) (moved_word k u) u' e) (allowed-defined (index_of m k.index) (moved_word k v) v' f)
          ∙ one n m (letters_of v') (marks_of v');
      recordings = λ k u' e. faith.recordings k u' (allowed-defined (index_of n k.index) (moved_word k u) u' e);
    }
  where
    faith : Faithful (λ w. line n (letters_of w) (marks_of w)) moved_word u v
    faith = faithful (line n) (λ k. true) (tells n) u v

-- For any two ranks and any two words, each accepted at its own: (1) their tableau lines agree without the rank field exactly when a chain of rewriting
-- steps joins them; (2) if a chain joins them, each move whose index both ranks have is defined on both or on neither, and where a move is defined on
-- both, the results' lines agree without the rank field; (3) each move keeps the recording ribbon wherever it is defined.
pub ranks : FaithfulRanks
unfolding unranked_line tableau_line
ranks n m u v a b = across (λ r xs ms. without_rank (t_line r xs ms)) tableau_unranked (λ r. unranked_tells r r) n m u v
