-- Demand 3 over what the operations reply and leave in lent memory, as one statement about any two words. It speaks of the very definitions that the
-- contracts of the tableau line, of the moves on words and of the pair of a word cite, and so of the programs. The demand itself, which has neither
-- buffers nor replies, is the one to read first: `FaithfulLines`, specs/Classes.antt of the crate hypoplactic.
--     FaithfullyWritten line run n u v
--                               lines and moves tell of u and v what the rewriting rules tell, run being the operation that writes the line of a word
--     MovedTogether a u v r s   there, of a move's replies r and s: made in both, each at its own place, or refused in both with one number
--     OneRecording r s          there, of two replies of the pair's operation: one reply, one shape, one recording ribbon
--     FaithfulWriting           the demand over what is written of tableau lines. Theorem `written_classes`, proofs/Theory/WrittenClasses.antt
-- Words of two ranks: crate ranks. Assumes nothing.
use Rattle.std.specs.Prelude.{◌≡◌, List, [], ◌∷◌, ◌↔◌, ℕ, ◌≤◌, ◌<◌, length, take, set}
use Rattle.hypoplactic.specs.Insertion.{Pair}
use Rattle.hypoplactic.specs.Words.{Accepted}
use Rattle.quasi_crystal.specs.Moves.{Move, given}
use Rattle.hypoplactic.specs.Rewriting.{Joined}
use Rattle.quasi_crystal.specs.Classes.{tableau_line}
use Rattle.outcomes.specs.Replies.{Said, gives, refused}
use Rattle.outcomes.specs.WordOperations.{move_word_run}
use Rattle.outcomes.specs.TableauOperations.{pair_run}
use Rattle.outcomes.specs.LineOperations.{tableau_line_run}

-- What an operation has written: as many elements from the front of lent memory as its reply tells, none where it refuses.
abbrev pub elements : Said → List ℕ → List ℕ
elements (gives []) memory = []
elements (gives (k ∷ vs)) memory = take k memory
elements (refused k p) memory = []

-- The bytes of a word's line as the operation that writes it leaves them in lent memory.
abbrev pub line_bytes : (ℕ → List ℕ → List ℕ → Said × List ℕ) → ℕ → List ℕ → List ℕ → List ℕ
line_bytes run n w out = elements (run n w out).0 (run n w out).1

-- The lent word after a move.
abbrev pub move_left : ℕ → Move → List ℕ → List ℕ
move_left n m w = (move_word_run n m w).1

-- What a move that gives the letter a replies to two words, and leaves of them: made in both, each at a place of its own in the word, where a then stands;
-- or refused in both with one number, both left as they were.
pub data MovedTogether (a : ℕ) (u v : List ℕ) : Said × List ℕ → Said × List ℕ → Type 0 where
  in_both : (p q : ℕ) → p < length u → q < length v → MovedTogether a u v (gives (p ∷ []), set u p a) (gives (q ∷ []), set v q a)
  in_neither : (k : ℕ) → MovedTogether a u v (refused k 0, u) (refused k 0, v)

-- What the pair's operation replies to two words and leaves of one lent memory: one reply, one shape and one recording ribbon. Letters and counts may differ.
pub record OneRecording (r s : Said × (Pair × List ℕ)) : Type 0 where
  pub reply : r.0 ≡ s.0
  pub marks : r.1.0.marks ≡ s.1.0.marks
  pub entries : r.1.0.recording ≡ s.1.0.recording

pub record FaithfullyWritten (line : ℕ → List ℕ → List ℕ) (run : ℕ → List ℕ → List ℕ → Said × List ℕ)
    (n : ℕ) (u v : List ℕ) : Type 0 where
  -- 1. With buffers long enough, the bytes written are equal exactly when a chain joins the words.
  pub shared : (out out' : List ℕ) → length (line n u) ≤ length out → length (line n v) ≤ length out'
      → (line_bytes run n u out ≡ line_bytes run n v out') ↔ Joined u v
  -- 2. If a chain joins them, each move is made in both, each at its own place, or refused in both with one number,
  pub together : Joined u v → (m : Move) → MovedTogether (given m.side m.index) u v (move_word_run n m u) (move_word_run n m v)
  -- and the bytes written for the words that it leaves are equal.
  pub results : Joined u v → (m : Move) (out out' : List ℕ) → length (line n (move_left n m u)) ≤ length out
      → length (line n (move_left n m v)) ≤ length out' → line_bytes run n (move_left n m u) out ≡ line_bytes run n (move_left n m v) out'
  -- 3. A move keeps what the pair's operation replies and writes of marks and entries, whatever memory it is lent.
  pub recordings : (m : Move) (p : Pair) (cs : List ℕ) → OneRecording (pair_run n (move_left n m u) p cs) (pair_run n u p cs)

-- Demand 3 over what is written: at every rank, of any two words accepted at it.
abbrev pub FaithfulWriting : Type 0
FaithfulWriting = (n : ℕ) (u v : List ℕ) → Accepted n u → Accepted n v → FaithfullyWritten tableau_line tableau_line_run n u v
