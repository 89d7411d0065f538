-- What the reader of C lines replies, and what lent memory holds, from the line that was scanned on.
--     runs_broken, runs-stored     the line breaks the grammar; what is stored of its items is the reply to the line
-- Assumes nothing.
use Rattle.std.specs.Prelude.{Result, Ok, Err}
use Rattle.refusals.specs.declared.answers.Sizes.{Sizes}
use Rattle.refusals.specs.declared.refusal.Refusal.{Refusal}
use Rattle.std.specs.Prelude.{ℕ, ◌≡◌, List}
use Rattle.grammar.specs.Reading.{read_c}
use Rattle.grammar.proofs.Theory.Sound.{c_sound}
use Rattle.outcomes.specs.Replies.{refused}
use Rattle.refusals.specs.Said.{said_sizes}
use Rattle.line_items.specs.Items.{break_place_lem}
use Rattle.run_lines.specs.Operations.{read_c_run}
use Rattle.run_lines.proofs.Theory.Judged.{good_marks}
use Rattle.run_scans.specs.Lines.{RunsScanned, run_line_held, whole_runs}
use Rattle.run_scans.specs.declared.line.RunLine.{RunLine}
use Rattle.numerals.specs.declared.numbers.Broken.{Broken}
use Rattle.run_readers.specs.Stores.{Stored}
use Rattle.run_readers.specs.Tables.{zeros}

module _ {text ts ms : List ℕ} (letters marks counts : List ℕ) where
  pub runs_broken : {b : Broken} → RunsScanned text (read_c text) (whole_runs text) zeros zeros ts ms (Err b)
      → (refused 14 b.place, (letters, (marks, counts))) ≡ read_c_run text letters marks counts
  unfolding read_c_run
  runs_broken {b} s = rw (s.told.says, break_place_lem text b.place s.told.within)

  pub runs-stored : {l : RunLine} {letters' marks' counts' : List ℕ} (reply : Result Sizes Refusal) → RunsScanned text (read_c text) (whole_runs text) zeros zeros ts ms (Ok l)
      → Stored l.rank l.size l.tally ts ms letters marks counts letters' marks' counts' reply
      → (said_sizes reply, (letters', (marks', counts'))) ≡ read_c_run text letters marks counts
  unfolding read_c_run
  runs-stored {l} reply s h =
      rw s.told.0 (h.says (whole_runs text) (good_marks (whole_runs text) (c_sound text l.rank l.size (whole_runs text) _ s.told.0).2.2) (run_line_held s))
