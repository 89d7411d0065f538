-- Demand 3 for words of two ranks (document 02, N5): records in the form of hypoplactic's specs/Classes.antt and outcomes' specs/WrittenClasses.antt, field by field, with a rank for each word, and
-- the claims that they hold of any two words, each accepted at its own rank.
--     Has n k                        the index of the move k is one of rank n
--     FaithfulAcross line move n m u v    lines and moves tell of u at rank n and of v at rank m what the rewriting rules tell
--     unranked_line n w               the tableau line of a word, its rank field left out
--     FaithfulRanks                  the claim: FaithfulAcross of these lines and of moves on words. Theorem `ranks`, proofs/Theory/Ranks.antt
--     WrittenAcross line run n m u v the same of what the operations reply and leave in lent memory, run being the one that writes the line of a word
--     WrittenRanks                   the claim over what is written of tableau lines. Theorem `written_ranks`, proofs/Theory/WrittenRanks.antt
-- The rewriting rules name no rank: a chain between u and v is what it was. Of a move that only one of the ranks has nothing is claimed of the two words
-- together: at the other rank it is refused with 9. Demand 3 itself, of one rank and whole lines, stays where it was. Assumes nothing.
use Rattle.std.specs.Prelude.{◌≡◌, true, List, ◌↔◌, ℕ, ◌≤◌, length}
use Rattle.std.proofs.Math.Option.{Option, some}
use Rattle.hypoplactic.specs.Insertion.{Pair, recording_of}
use Rattle.hypoplactic.specs.Words.{Accepted}
use Rattle.quasi_crystal.specs.Moves.{Move, Defined, given, index_of, move_word}
use Rattle.hypoplactic.specs.Rewriting.{Joined}
use Rattle.outcomes.specs.Replies.{Said}
use Rattle.outcomes.specs.WordOperations.{move_word_run}
use Rattle.outcomes.specs.TableauOperations.{pair_run}
use Rattle.quasi_crystal.specs.Classes.{tableau_line}
use Rattle.outcomes.specs.LineOperations.{tableau_line_run}
use Rattle.outcomes.specs.WrittenClasses.{MovedTogether, OneRecording, line_bytes, move_left}
use Rattle.ranks.specs.Unranked.{without_rank}

-- The index of a move is allowed at a rank.
abbrev pub Has : ℕ → Move → Type 0
Has n k = index_of n k.index ≡ true

pub record FaithfulAcross {A : Type 0} (line : ℕ → List ℕ → A) (move : ℕ → Move → List ℕ → Option (List ℕ))
    (n m : ℕ) (u v : List ℕ) : Type 0 where
  -- 1. Their lines are equal exactly when a chain joins them.
  pub shared : (line n u ≡ line m v) ↔ Joined u v
  -- 2. If a chain joins them, each move that both ranks have is defined on both or on neither,
  pub together : Joined u v → (k : Move) → Has n k → Has m k → Defined (move n k u) ↔ Defined (move m k v)
  -- and where a move is defined on both the results' lines are equal.
  pub results : Joined u v → (k : Move) (u' v' : List ℕ) → move n k u ≡ some u' → move m k v ≡ some v' → line n u' ≡ line m v'
  -- 3. Where a move is defined, the result's recording ribbon is the word's own.
  pub recordings : (k : Move) (u' : List ℕ) → move n k u ≡ some u' → recording_of u' ≡ recording_of u

-- The tableau line without its rank field.
unfoldable pub unranked_line : ℕ → List ℕ → List ℕ
unranked_line n w = without_rank (tableau_line n w)

-- At any two ranks, of any two words, each accepted at its own.
abbrev pub FaithfulRanks : Type 0
FaithfulRanks = (n m : ℕ) (u v : List ℕ) → Accepted n u → Accepted m v → FaithfulAcross unranked_line move_word n m u v

pub record WrittenAcross (line : ℕ → List ℕ → List ℕ) (run : ℕ → List ℕ → List ℕ → Said × List ℕ)
    (n m : ℕ) (u v : List ℕ) : Type 0 where
  -- 1. With buffers long enough, the bytes written are equal without their rank fields exactly when a chain joins the words.
  pub shared : (out out' : List ℕ) → length (line n u) ≤ length out → length (line m v) ≤ length out'
      → (without_rank (line_bytes run n u out) ≡ without_rank (line_bytes run m v out')) ↔ Joined u v
  -- 2. If a chain joins them, each move that both ranks have is made in both, each at its own place, or refused in both with one number,
  pub together : Joined u v → (k : Move) → Has n k → Has m k
      → MovedTogether (given k.side k.index) u v (move_word_run n k u) (move_word_run m k v)
  -- and the bytes written for the words that it leaves are equal without their rank fields.
  pub results : Joined u v → (k : Move) → Has n k → Has m k → (out out' : List ℕ) → length (line n (move_left n k u)) ≤ length out
      → length (line m (move_left m k v)) ≤ length out'
      → without_rank (line_bytes run n (move_left n k u) out) ≡ without_rank (line_bytes run m (move_left m k v) out')
  -- 3. A move keeps what the pair's operation replies and writes of marks and entries, whatever memory it is lent.
  pub recordings : (k : Move) (p : Pair) (cs : List ℕ) → OneRecording (pair_run n (move_left n k u) p cs) (pair_run n u p cs)

-- The same over what is written.
abbrev pub WrittenRanks : Type 0
WrittenRanks = (n m : ℕ) (u v : List ℕ) → Accepted n u → Accepted m v → WrittenAcross tableau_line tableau_line_run n m u v
