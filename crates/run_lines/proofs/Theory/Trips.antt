-- Old T lines convert to C lines and back, each trip giving the original bytes (document 02, N9).
--     LineOf line text                       the text is the line of a tableau within the limits
--     read_t_held, read_c_held             so is every text that the reader of T lines, or of C lines, takes
--     c_values                             the runs of a C line that is read and passes make a tableau, whose line it is
--     Turned line other text out           and out has room for the other line of that tableau
--     to_runs_turned, to_tableau_turned    so it is where a converter gives
--     tableau_back, runs_back              there and back, of every such text: its own bytes and their number
--     tableau_trip, runs_trip              so of every text for which the converter gives, whatever the text is
-- Assumes nothing.
use Prim.Native.Nat.{ℕ, ◌≤◌}
use mathlib.Core.Path.{◌≡◌, refl, sym, ap, ap₂, subst, subst₂, ◌∙◌}
use mathlib.Core.List.{List, [], ◌∷◌, ◌++◌}
use lib.ListN.{length}
use Rattle.grammar.specs.Lines.{Run, c_line, t_line}
use Rattle.grammar.specs.Reading.{Read, broken, got, read_c, read_t}
use Rattle.grammar.proofs.Theory.Sound.{c_sound, t_sound}
use Rattle.outcomes.specs.WrittenClasses.{elements}
use Rattle.outcomes.specs.Judgements.{room_judged, tableau_judgements, tableau_rooms}
use Rattle.outcomes.specs.LineOperations.{line_run}
use Rattle.outcomes.specs.LineReadings.{read_run, read_t_run, tableau_read}
use Rattle.outcomes.specs.Replies.{Passes, Said, gives, written}
use Rattle.hypoplactic.specs.Ribbons.{TableauAt}
use Rattle.outcomes.proofs.Theory.Judged.{tableau_passing}
use Rattle.outcomes.proofs.Theory.Judgements.{room_judged_lem}
use Rattle.outcomes.proofs.Theory.Memory.{written_needed}
use Rattle.outcomes.proofs.Theory.Passing.{Passing, passing_append, passing_before, passing_first}
use Rattle.run_lines.specs.Judgements.{run_judgements}
use Rattle.run_lines.specs.Operations.{c_line_run, read_c_run, run_line, runs_read, runs_to_tableau_run, runs_turned, tableau_to_runs_run}
use Rattle.run_lines.specs.Runs.{run_letters, run_marks}
use Rattle.run_lines.proofs.Theory.Judged.{RunsAt, good_marks, run_passing}
use Rattle.run_lines.proofs.Theory.Readings.{runs_to_tableau_result, tableau_to_runs_result}
use Rattle.run_lines.proofs.Theory.Runs.{tableau_runs_tableau}

-- ---- texts that are taken

-- The text is the line of a tableau within the limits.
pub record LineOf (line : ℕ → List ℕ → List ℕ → List ℕ) (text : List ℕ) : Type 0 where
  pub rank : ℕ
  pub letters : List ℕ
  pub marks : List ℕ
  pub tableau : TableauAt rank letters marks
  pub is : text ≡ line rank letters marks

-- The line of this rank, these letters and these marks.
abbrev line_of : (line : ℕ → List ℕ → List ℕ → List ℕ) (text : List ℕ) (n : ℕ) (xs ms : List ℕ)
    → TableauAt n xs ms × (text ≡ line n xs ms) → LineOf line text
line_of line text n xs ms p = record { rank = n; letters = xs; marks = ms; tableau = p.0; is = p.1 }

-- A text that is read as a T line, where the checks refuse nothing, is the T line of its tableau.
t_values : (text : List ℕ) (n : ℕ) (xs ms rest : List ℕ) → read_t text ≡ got (n, xs, ms) rest → Passing (tableau_judgements n xs ms)
    → TableauAt n xs ms × (text ≡ t_line n xs ms)
t_values text n xs ms rest e p = ((tableau_passing n xs ms).0 p, (t_sound text n xs ms rest e).0)

-- One that is read as a C line is the C line of the tableau that its runs make.
pub c_values : (text : List ℕ) (n L : ℕ) (rs : List Run) (rest : List ℕ) → read_c text ≡ got (n, L, rs) rest → Passing (run_judgements n L rs)
    → TableauAt n (run_letters rs) (run_marks rs) × (text ≡ run_line n (run_letters rs) (run_marks rs))
unfolding run_line
c_values text n L rs rest e p =
    let (line, none, good) = c_sound text n L rs rest e in
    let r : RunsAt n L rs = (run_passing n L rs (good_marks rs good.2)).0 p in
    let (letters, marks) = tableau_runs_tableau r.letters r.marks r.tableau.tableau in
    let own_letters : r.letters ≡ run_letters rs = sym (ap run_letters r.runs ∙ letters) in
    let own_marks : r.marks ≡ run_marks rs = sym (ap run_marks r.runs ∙ marks) in
    (subst₂ (TableauAt n) own_letters own_marks r.tableau, line ∙ ap₂ (c_line n) r.cells r.runs ∙ ap₂ (run_line n) own_letters own_marks)

-- Where a reader gives, a line was read and its values passed.
read_passed : {A B : Type 0} (text : List ℕ) (run : A → Said × B) (old : B) (r : Read A) → Passes (read_run text run old r).0
    → (v : A) × (rest : List ℕ) × (r ≡ got v rest) × Passes (run v).0
read_passed text run old (got v rest) h = (v, rest, refl, h)
read_passed text run old (broken rest) h = absurd h

pub read_t_held : (text letters marks counts : List ℕ) → Passes (read_t_run text letters marks counts).0 → LineOf t_line text
unfolding read_t_run
read_t_held text letters marks counts h =
    let (v, rest, e, p) = read_passed text (λ v. tableau_read letters marks counts v.0 v.1 v.2) (letters, (marks, counts)) (read_t text) h in
    let checks : Passing (tableau_judgements v.0 v.1 v.2) =
    passing_before (tableau_judgements v.0 v.1 v.2) (tableau_rooms (length v.1) (length letters) (length marks)) (v.0 ∷ length v.1 ∷ []) p in
    line_of t_line text v.0 v.1 v.2 (t_values text v.0 v.1 v.2 rest e checks)

pub read_c_held : (text letters marks counts : List ℕ) → Passes (read_c_run text letters marks counts).0 → LineOf run_line text
unfolding read_c_run
read_c_held text letters marks counts h =
    let (v, rest, e, p) = read_passed text (λ v. runs_read letters marks counts v.0 v.1 v.2) (letters, (marks, counts)) (read_c text) h in
    let checks : Passing (run_judgements v.0 v.1 v.2) =
    passing_before (run_judgements v.0 v.1 v.2) (tableau_rooms v.1 (length letters) (length marks)) (v.0 ∷ v.1 ∷ []) p in
    line_of run_line text v.0 (run_letters v.2) (run_marks v.2) (c_values text v.0 v.1 v.2 rest e checks)

-- Where a writer gives, its checks passed, and there was room.
line_passed : (checks : List Said) (bytes out : List ℕ) → Passes (line_run checks bytes out).0 → Passing checks × (length bytes ≤ length out)
line_passed checks bytes out h =
    let room : List Said = room_judged (length bytes) (length out) ∷ [] in
    let (passed, (fits, t)) = (passing_append checks room).0 (passing_first (checks ++ room) (length bytes ∷ []) h) in
    (passed, (room_judged_lem (length bytes) (length out)).0 fits)

-- The text is the line of a tableau within the limits, and there is room for its other line.
abbrev pub Turned : (ℕ → List ℕ → List ℕ → List ℕ) → (ℕ → List ℕ → List ℕ → List ℕ) → List ℕ → List ℕ → Type 0
Turned line other text out = (h : LineOf line text) × (length (other h.rank h.letters h.marks) ≤ length out)

pub to_runs_turned : (text out : List ℕ) → Passes (tableau_to_runs_run text out).0 → Turned t_line run_line text out
unfolding tableau_to_runs_run c_line_run
to_runs_turned text out h =
    let (v, rest, e, p) = read_passed text (λ v. c_line_run v.0 v.1 v.2 out) out (read_t text) h in
    let (checks, room) = line_passed (tableau_judgements v.0 v.1 v.2) (run_line v.0 v.1 v.2) out p in
    (line_of t_line text v.0 v.1 v.2 (t_values text v.0 v.1 v.2 rest e checks), room)

pub to_tableau_turned : (text out : List ℕ) → Passes (runs_to_tableau_run text out).0 → Turned run_line t_line text out
unfolding runs_to_tableau_run
to_tableau_turned text out h =
    let (v, rest, e, p) = read_passed text (λ v. runs_turned out v.0 v.1 v.2) out (read_c text) h in
    let (checks, room) = line_passed (run_judgements v.0 v.1 v.2) (t_line v.0 (run_letters v.2) (run_marks v.2)) out p in
    (line_of run_line text v.0 (run_letters v.2) (run_marks v.2) (c_values text v.0 v.1 v.2 rest e checks), room)

-- ---- there and back

-- The bytes that a converter leaves in lent memory.
abbrev pub bytes_of : Said × List ℕ → List ℕ
bytes_of r = elements r.0 r.1

-- The trip of one line, from what the converters reply to a tableau's two lines.
trip : (there back : List ℕ → List ℕ → Said × List ℕ) (mine other text out out' : List ℕ) → text ≡ mine
    → there mine out ≡ (gives (length other ∷ []), written other out) → back other out' ≡ (gives (length mine ∷ []), written mine out')
    → back (bytes_of (there text out)) out' ≡ (gives (length text ∷ []), written text out')
trip there back mine other text out out' is gone came =
    let wrote : bytes_of (there text out) ≡ other = ap (λ (t : List ℕ). bytes_of (there t out)) is ∙ ap bytes_of gone ∙ written_needed other out in
    ap (λ (t : List ℕ). back t out') wrote ∙ came ∙ ap (λ (t : List ℕ). (gives (length t ∷ []), written t out')) (sym is)

pub tableau_back : (text out out' : List ℕ) → Turned t_line run_line text out → length text ≤ length out'
    → runs_to_tableau_run (bytes_of (tableau_to_runs_run text out)) out' ≡ (gives (length text ∷ []), written text out')
tableau_back text out out' (h, room) room' =
    trip tableau_to_runs_run runs_to_tableau_run (t_line h.rank h.letters h.marks) (run_line h.rank h.letters h.marks) text out out' h.is
    (tableau_to_runs_result h.rank h.letters h.marks h.tableau out room)
    (runs_to_tableau_result h.rank h.letters h.marks h.tableau out' (subst (λ (t : List ℕ). length t ≤ length out') h.is room'))

pub runs_back : (text out out' : List ℕ) → Turned run_line t_line text out → length text ≤ length out'
    → tableau_to_runs_run (bytes_of (runs_to_tableau_run text out)) out' ≡ (gives (length text ∷ []), written text out')
runs_back text out out' (h, room) room' =
    trip runs_to_tableau_run tableau_to_runs_run (run_line h.rank h.letters h.marks) (t_line h.rank h.letters h.marks) text out out' h.is
    (runs_to_tableau_result h.rank h.letters h.marks h.tableau out room)
    (tableau_to_runs_result h.rank h.letters h.marks h.tableau out' (subst (λ (t : List ℕ). length t ≤ length out') h.is room'))

-- So of every text for which the converter gives.
pub tableau_trip : (text out out' : List ℕ) → Passes (tableau_to_runs_run text out).0 → length text ≤ length out'
    → runs_to_tableau_run (bytes_of (tableau_to_runs_run text out)) out' ≡ (gives (length text ∷ []), written text out')
tableau_trip text out out' h room = tableau_back text out out' (to_runs_turned text out h) room

pub runs_trip : (text out out' : List ℕ) → Passes (runs_to_tableau_run text out).0 → length text ≤ length out'
    → tableau_to_runs_run (bytes_of (runs_to_tableau_run text out)) out' ≡ (gives (length text ∷ []), written text out')
runs_trip text out out' h room = runs_back text out out' (to_tableau_turned text out h) room
