-- Demand 3 over C lines (document 02, N9): the records of quasi_crystal's specs/Classes.antt, of outcomes' specs/WrittenClasses.antt and of ranks' specs/Ranks.antt, at the C line of a word.
--     RunFaithfulLines, RunFaithfulWriting       of two words of one rank: over definitions, and over what is written
--     unranked_run_line                            the C line of a word, its rank field left out
--     RunFaithfulRanks, RunWrittenRanks          of two words, each of its own rank, the rank field left out
-- The theorems are run_classes, run_written_classes, run_ranks and run-written_ranks, proofs/Theory/Classes.antt. Assumes nothing.
use Rattle.std.specs.Prelude.{ℕ, List}
use Rattle.hypoplactic.specs.Words.{Accepted}
use Rattle.quasi_crystal.specs.Moves.{move_word}
use Rattle.quasi_crystal.specs.Classes.{Faithful}
use Rattle.outcomes.specs.WrittenClasses.{FaithfullyWritten}
use Rattle.ranks.specs.Ranks.{FaithfulAcross, WrittenAcross}
use Rattle.ranks.specs.Unranked.{without_rank}
use Rattle.run_lines.specs.Operations.{word_run_line, word_run_line_run}

-- Of any two words accepted at a rank: their C lines and moves tell what the rewriting rules tell,
abbrev pub RunFaithfulLines : Type 0
RunFaithfulLines = (n : ℕ) (u v : List ℕ) → Accepted n u → Accepted n v → Faithful (word_run_line n) (move_word n) u v

-- and so do the bytes that are written.
abbrev pub RunFaithfulWriting : Type 0
RunFaithfulWriting = (n : ℕ) (u v : List ℕ) → Accepted n u → Accepted n v → FaithfullyWritten word_run_line word_run_line_run n u v

-- The C line without its rank field.
unfoldable pub unranked_run_line : ℕ → List ℕ → List ℕ
unranked_run_line n w = without_rank (word_run_line n w)

-- Of any two words, each accepted at a rank of its own: the same of C lines without their rank fields,
abbrev pub RunFaithfulRanks : Type 0
RunFaithfulRanks = (n m : ℕ) (u v : List ℕ) → Accepted n u → Accepted m v → FaithfulAcross unranked_run_line move_word n m u v

-- and of the bytes that are written.
abbrev pub RunWrittenRanks : Type 0
RunWrittenRanks = (n m : ℕ) (u v : List ℕ) → Accepted n u → Accepted m v → WrittenAcross word_run_line word_run_line_run n m u v
