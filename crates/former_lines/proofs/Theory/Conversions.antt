-- What the converter of former lines gives.
--     convert_values      of a T line and an N line, whatever their values: what is said of the values
--     convert_as_written  the values are judged and written as the writer of P lines does it, once 2 of the entries has passed
--     convert_unequal     of a T line and an N line that differ in their numbers of items, both within 1, 2: refused with 3, whatever the items are
--     convert_lines       of the lines of a pair within the limits: its P line
--     convert_program     of the former lines of an accepted word: the bytes with which the program's output for that word begins
--     output_halves       that output, in the words of the two halves: the former T line's fields and items, then the former N line's items
--     convert_sound       it gives nothing else: the texts are the T line and the N line of a pair within the limits, and its P line is written
--     convert_read        and the reader of P lines takes these bytes, with the pair of the two lines
-- Where it refuses with 14 is in Fourteen. Assumes nothing.
use Prim.Native.Nat.{ℕ, ◌≤◌}
use mathlib.Core.Path.{◌≡◌, refl, sym, ap, ◌∙◌}
use mathlib.Core.List.{List, [], ◌∷◌, ◌++◌}
use native.Mathlib.Omega.{arith}
use borrow.Author.Tests.{eq-eqb, le-ltb, ne_eqb}
use lib.ListN.{length}
use Rattle.grammar.specs.Lines.{field, j_line, n_line, p_line, t_line, w_line}
use Rattle.grammar.specs.Reading.{Read, broken, got, read_n, read_t}
use Rattle.grammar.specs.Values.{Marked, Short, Small}
use Rattle.grammar.proofs.Theory.Complete.{n_complete, t_complete}
use Rattle.grammar.proofs.Theory.Halves.{entries_part, halves, tableau_part}
use Rattle.grammar.proofs.Theory.Items.{marked-length}
use Rattle.grammar.proofs.Theory.Sound.{n_sound, t_sound}
use Rattle.hypoplactic.specs.Words.{Accepted, Inside}
use Rattle.hypoplactic.specs.Ribbons.{PairAt}
use Rattle.hypoplactic.specs.Insertion.{Pair, letters_of, marks_of, pair_with, recording_of}
use Rattle.hypoplactic.specs.Reading.{column_reading}
use Rattle.hypoplactic.specs.Junctions.{junction_set, rows_of}
use Rattle.outcomes.specs.Counts.{counts_of}
use Rattle.outcomes.specs.Replies.{Passes, Said, gives, or_else, ran_to, refused, written}
use Rattle.outcomes.specs.Judgements.{alike_judged, length_judged, rank_judged, room_judged}
use Rattle.outcomes.specs.TableauOperations.{written_pair}
use Rattle.outcomes.specs.LineOperations.{p_line_run, pair_line}
use Rattle.quasi_crystal.specs.Classes.{tableau_line}
use Rattle.outcomes.specs.LineReadings.{output, read_p_run, read_run}
use Rattle.outcomes.specs.WrittenClasses.{elements}
use Rattle.quasi_crystal.proofs.Theory.Closure.{word_pair_at}
use Rattle.outcomes.proofs.Theory.Judged.{pair_passing}
use Rattle.outcomes.proofs.Theory.Judgements.{length-judged, room_judged_lem}
use Rattle.outcomes.proofs.Theory.LineReadings.{pair_good, read_p_result}
use Rattle.outcomes.proofs.Theory.Memory.{written_needed}
use Rattle.outcomes.proofs.Theory.Outputs.{output_accepted}
use Rattle.hypoplactic.proofs.Theory.Pairs.{length-letters, length_recording}
use Rattle.outcomes.proofs.Theory.Passing.{Passing, passing_append, passing_first, ran_answer}
use Rattle.former_lines.specs.Conversion.{convert_run, converted, former_judgements, second_run}

-- ---- the values of two lines

-- The checks pass exactly for the pairs within the limits: of such a pair the entries are as many as the cells.
former_passing : (n : ℕ) (xs ms rs : List ℕ) → PairAt n xs ms rs → Passing (former_judgements n xs ms rs)
former_passing n xs ms rs h =
    let size : length rs ≡ length xs = (pair_good h).3 in
    let (rank, (short, rest)) = (pair_passing n xs ms rs).1 h in
    (rank, (short, (rw size short, rest)))

passing_pair : (n : ℕ) (xs ms rs : List ℕ) → Passing (former_judgements n xs ms rs) → PairAt n xs ms rs
passing_pair n xs ms rs (rank, (short, (short', rest))) = (pair_passing n xs ms rs).0 (rank, (short, rest))

-- Two lines whose numbers a line can hold are judged by their values.
pub convert_values : (n : ℕ) (xs ms rs out : List ℕ) → Short n → Small xs → Marked xs ms → Small rs
    → convert_run (t_line n xs ms) (n_line rs) out ≡ converted out n xs ms rs
unfolding convert_run
convert_values n xs ms rs out k l m s = rw (t_complete n xs ms k l m, n_complete rs s) refl

-- A check that passes can be left out.
left_out : (i j c s : Said) → Passes c → or_else i (or_else j (or_else c s)) ≡ or_else i (or_else j s)
left_out i j (gives vs) s p = refl
left_out i j (refused k q) s p = absurd p

-- Where there are at most 1,024 entries, what is said of the values is what the writer of P lines says of them.
pub convert_as_written : (n : ℕ) (xs ms rs out : List ℕ) → length rs ≤ 1024 → converted out n xs ms rs ≡ p_line_run n xs ms rs out
unfolding p_line_run
convert_as_written n xs ms rs out few =
    ap (λ (s : Said). ran_to s (written (p_line n xs ms rs) out) out)
    (left_out (rank_judged n) (length_judged (length xs)) (length_judged (length rs)) _ ((length-judged (length rs)).1 few))

-- Unequal numbers of items are refused before any item is judged.
pub convert_unequal : (n : ℕ) (xs ms rs out : List ℕ) → Inside 64 n → Small xs → Marked xs ms → Small rs → length xs ≤ 1024 → length rs ≤ 1024
    → (length rs ≡ length xs → ⊥) → convert_run (t_line n xs ms) (n_line rs) out ≡ (refused 3 0, out)
unfolding rank_judged length_judged alike_judged
convert_unequal n xs ms rs out (low, high) l m s few few' apart =
    convert_values n xs ms rs out (omega arith) l m s
    ∙ rw (le-ltb n 1 low, le-ltb 64 n high, le-ltb 1024 (length xs) few, le-ltb 1024 (length rs) few', eq-eqb _ _ (marked-length xs ms m), ne_eqb _ _ apart) refl

-- ---- the lines of a pair

pub convert_lines : (n : ℕ) (xs ms rs out : List ℕ) → PairAt n xs ms rs → length (p_line n xs ms rs) ≤ length out
    → convert_run (t_line n xs ms) (n_line rs) out ≡ (gives (length (p_line n xs ms rs) ∷ []), written (p_line n xs ms rs) out)
convert_lines n xs ms rs out h room =
    let (rank, letters, marks, size, entries) = pair_good h in
    convert_values n xs ms rs out rank letters marks (rw size letters.0, entries)
    ∙ ran_answer (former_judgements n xs ms rs) (room_judged (length (p_line n xs ms rs)) (length out) ∷ []) _ _ out
    (former_passing n xs ms rs h) ((room_judged_lem _ _).1 room, tt)

-- The bytes that the converter leaves in lent memory.
abbrev bytes_of : Said × List ℕ → List ℕ
bytes_of r = elements r.0 r.1

-- The former lines of an accepted word: its tableau line and the N line of its recording ribbon.
pub convert_program : (n : ℕ) (w out : List ℕ) → Accepted n w → length (pair_line n w) ≤ length out → length (w_line n w) ≤ 4096
    → output (w_line n w)
    ≡ bytes_of (convert_run (tableau_line n w) (n_line (recording_of w)) out)
    ++ (w_line n (column_reading (letters_of w) (marks_of w)) ++ j_line (junction_set w) (rows_of w))
unfolding tableau_line pair_line
convert_program n w out a room short =
    let p : List ℕ = p_line n (letters_of w) (marks_of w) (recording_of w) in
    let rest : List ℕ = w_line n (column_reading (letters_of w) (marks_of w)) ++ j_line (junction_set w) (rows_of w) in
    let line : bytes_of (convert_run (t_line n (letters_of w) (marks_of w)) (n_line (recording_of w)) out) ≡ p =
    ap bytes_of (convert_lines n (letters_of w) (marks_of w) (recording_of w) out (word_pair_at a) room) ∙ written_needed p out in
    output_accepted a short ∙ ap (λ (l : List ℕ). l ++ rest) (sym line)

-- The program's first line, cut in two: between the kind and the line feed stand what the former T line has there, and then the items of the former N line.
pub output_halves : (n : ℕ) (w : List ℕ) → Accepted n w → length (w_line n w) ≤ 4096
    → (tableau_line n w ≡ 84 ∷ (tableau_part n (letters_of w) (marks_of w) ++ (10 ∷ [])))
    × (n_line (recording_of w) ≡ 78 ∷ (field (length w) ++ entries_part (recording_of w) ++ (10 ∷ [])))
    × (output (w_line n w)
    ≡ (80 ∷ (tableau_part n (letters_of w) (marks_of w) ++ entries_part (recording_of w) ++ (10 ∷ [])))
    ++ (w_line n (column_reading (letters_of w) (marks_of w)) ++ j_line (junction_set w) (rows_of w)))
unfolding tableau_line pair_line
output_halves n w a short =
    let rest : List ℕ = w_line n (column_reading (letters_of w) (marks_of w)) ++ j_line (junction_set w) (rows_of w) in
    let (t, r, p) = halves n (letters_of w) (marks_of w) (recording_of w) (length_recording w ∙ sym (length-letters w)) in
    (t, rw (← length-letters w) r, output_accepted a short ∙ ap (λ (l : List ℕ). l ++ rest) p)

-- ---- nothing else is given

-- The texts are the lines of a pair within the limits, and its P line stands at the beginning of lent memory, its bytes counted in the reply.
pub record Converted (t r out : List ℕ) : Type 0 where
  pub rank : ℕ
  pub letters : List ℕ
  pub marks : List ℕ
  pub entries : List ℕ
  pub pair : PairAt rank letters marks entries
  pub tableau_line_lem : t ≡ t_line rank letters marks
  pub recording_line : r ≡ n_line entries
  pub room : length (p_line rank letters marks entries) ≤ length out
  pub given : convert_run t r out ≡ (gives (length (p_line rank letters marks entries) ∷ []), written (p_line rank letters marks entries) out)

pub convert_sound : (t r out : List ℕ) → Passes (convert_run t r out).0 → Converted t r out
unfolding convert_run
convert_sound t r out h = first_text (read_t t) refl h
  where
    values : (n : ℕ) (xs ms rs : List ℕ) → t ≡ t_line n xs ms → r ≡ n_line rs → Passes (converted out n xs ms rs).0 → Converted t r out
    values n xs ms rs e f p =
        let bytes : List ℕ = p_line n xs ms rs in
        let all : Passing (former_judgements n xs ms rs ++ (room_judged (length bytes) (length out) ∷ [])) =
        passing_first (former_judgements n xs ms rs ++ (room_judged (length bytes) (length out) ∷ [])) _ p in
        let (checks, (fits, u)) = (passing_append (former_judgements n xs ms rs) (room_judged (length bytes) (length out) ∷ [])).0 all in
        let at : PairAt n xs ms rs = passing_pair n xs ms rs checks in
        let space : length bytes ≤ length out = (room_judged_lem _ _).0 fits in
        record {
          rank = n;
          letters = xs;
          marks = ms;
          entries = rs;
          pair = at;
          tableau_line_lem = e;
          recording_line = f;
          room = space;
          given = rw (e, f) (convert_lines n xs ms rs out at space);
        }

    second_text : (n : ℕ) (xs ms : List ℕ) → t ≡ t_line n xs ms → (s : Read (List ℕ)) → read_n r ≡ s
        → Passes (second_run (length t) r (converted out n xs ms) out s).0 → Converted t r out
    second_text n xs ms e (got rs rest) f p = values n xs ms rs e (n_sound r rs rest f).0 p
    second_text n xs ms e (broken rest) f p = absurd p

    first_text : (s : Read (ℕ × List ℕ × List ℕ)) → read_t t ≡ s
        → Passes (read_run t (λ v. second_run (length t) r (converted out v.0 v.1 v.2) out (read_n r)) out s).0 → Converted t r out
    first_text (got v rest) f p = second_text v.0 v.1 v.2 (t_sound t v.0 v.1 v.2 rest f).0 (read_n r) refl p
    first_text (broken rest) f p = absurd p

-- What it wrote is read back, and gives the rank, the tableau and the recording ribbon that the two texts hold.
pub convert_read : (t r out : List ℕ) (c : Converted t r out) (p : Pair) (counts : List ℕ)
    → length c.letters ≤ length p.letters → length c.letters ≤ length p.marks → length c.letters ≤ length p.recording
    → read_p_run (bytes_of (convert_run t r out)) p counts
    ≡ (gives (c.rank ∷ length c.letters ∷ []), (written_pair (pair_with c.letters c.marks c.entries) p, counts_of c.letters))
convert_read t r out c p counts x y z =
    let line : List ℕ = p_line c.rank c.letters c.marks c.entries in
    let bytes : bytes_of (convert_run t r out) ≡ line = ap bytes_of c.given ∙ written_needed line out in
    rw bytes (read_p_result c.rank c.letters c.marks c.entries p counts c.pair x y z)
