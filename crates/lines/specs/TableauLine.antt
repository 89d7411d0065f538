-- The tableau line of a word from what the pair's operation answers, into letters, marks and entries that have room for every accepted word.
--     Made                     the tableau stands in the first cells of letters and marks
--     tableau_made             it does where the answer tells cells
--     Reached, cells_reach     so many cells can be taken of both lists
--     line_refused, line_made  the reply of any line of the word, from a refusal and from the reply of a writer that judges the tableau
--     made_refused, made_line  the same of the tableau line and the T line's writer
--     lining                   the ruleset of the tableau line
-- Assumes nothing.
use Rattle.std.specs.Prelude.{Result, Ok, Err}
use Rattle.std.specs.Prelude.{ℕ, ◌-◌, ◌≤◌, ◌≡◌, take}
use Rattle.std.proofs.Math.Path.{sym, ap}
use Rattle.std.proofs.Common.{◌∙◌, arith, rules}
use mathlib.Core.List.{List, [], ◌∷◌}
use Rattle.std.proofs.Math.ListN.{length}
use Rattle.grammar.specs.Lines.{t_line}
use Rattle.hypoplactic.specs.Words.{Accepted}
use Rattle.hypoplactic.specs.Insertion.{Pair, letters_of, marks_of, pair_with}
use Rattle.outcomes.specs.Replies.{Said, gives, written}
use Rattle.outcomes.specs.Judgements.{pair_rooms, room_judged, tableau_judgements, word_judgements}
use Rattle.outcomes.specs.TableauOperations.{pair_run, pair_says}
use Rattle.outcomes.specs.LineOperations.{line_run, tableau_line_run, t_line_run}
use Rattle.quasi_crystal.specs.Classes.{tableau_line}
use Rattle.quasi_crystal.proofs.Theory.Closure.{word_tableau_at}
use Rattle.outcomes.proofs.Theory.Judged.{tableau_passing, word_passing}
use Rattle.outcomes.proofs.Theory.Judgements.{room_judged_lem}
use Rattle.outcomes.proofs.Theory.LineResults.{past_checks}
use Rattle.outcomes.proofs.Theory.Memory.{written-length, written_needed}
use Rattle.hypoplactic.proofs.Theory.Pairs.{length-letters, length-marks}
use Rattle.outcomes.proofs.Theory.Passing.{Passing}
use Rattle.outcomes.proofs.Theory.Results.{pair_result}
use Rattle.refusals.specs.Outcomes.{Outcome, accepted, stopped, outcome, not_both, wrote_elements}
use Rattle.refusals.specs.Said.{said_refusal, said_value}
use Rattle.refusals.specs.declared.refusal.Refusal.{Refusal}

-- The first m cells of xs and ms are the tableau of an accepted word.
pub record Made (n : ℕ) (w xs ms : List ℕ) (m : ℕ) : Type 0 where
  pub word : Accepted n w
  pub letters : take m xs ≡ letters_of w
  pub marks : take m ms ≡ marks_of w
  pub letters_reach : m ≤ length xs
  pub marks_reach : m ≤ length ms

-- The three lists before the operation, each of at least 1,024 elements.
module _ (n : ℕ) (w ls ks js : List ℕ) (long : 1024 ≤ length ls) (long' : 1024 ≤ length ks) (long'' : 1024 ≤ length js) where
  abbrev rooms : List Said
  rooms = pair_rooms (length w) (length ls) (length ks) (length js)

  -- They have room for every accepted word, so the word's own checks decide.
  enough : Accepted n w → Passing rooms
  enough a =
      let short : length w ≤ 1024 = a.short in
      ((room_judged_lem _ _).1 (omega arith), ((room_judged_lem _ _).1 (omega arith), ((room_judged_lem _ _).1 (omega arith), tt)))

  judged : Outcome n w rooms (length w ∷ [])
  judged = outcome n w rooms (length w ∷ []) enough

  -- What they hold after it, beside its answer and the counts.
  module _ (cs xs ms rs ds : List ℕ) (made : Result ℕ Refusal) (e : (said_value made, (pair_with xs ms rs, ds)) ≡ pair_run n w (pair_with ls ks js) cs) where
    said : said_value made ≡ pair_says n w (length ls) (length ks) (length js)
    unfolding pair_run
    said = ap (λ (o : Said × (Pair × List ℕ)). o.0) e

    -- The answer tells cells.
    pub tableau_made : (m : ℕ) → made ≡ Ok m → Made n w xs ms m
    unfolding pair_says
    tableau_made m q = go judged
      where
        go : Outcome n w rooms (length w ∷ []) → Made n w xs ms m
        go (stopped j p h) = absurd (not_both (sym (ap said_value q) ∙ said ∙ h rooms (gives (length w ∷ []))))
        go (accepted a h) =
            let short : length w ≤ 1024 = a.short in
            let all = e ∙ pair_result n w a (pair_with ls ks js) cs (omega arith) (omega arith) (omega arith) in
            let is_letters : xs ≡ written (letters_of w) ls = ap (λ (o : Said × (Pair × List ℕ)). o.1.0.letters) all in
            let is_marks : ms ≡ written (marks_of w) ks = ap (λ (o : Said × (Pair × List ℕ)). o.1.0.marks) all in
            let size : m ≡ length w = wrote_elements made all m q in
            let cells : m ≡ length (letters_of w) = size ∙ sym (length-letters w) in
            let steps : m ≡ length (marks_of w) = size ∙ sym (length-marks w) in
            record {
              word = a;
              letters = rw (is_letters, cells) (written_needed (letters_of w) ls);
              marks = rw (is_marks, steps) (written_needed (marks_of w) ks);
              letters_reach = rw (is_letters, written-length (letters_of w) ls (omega arith)) (omega arith);
              marks_reach = rw (is_marks, written-length (marks_of w) ks (omega arith)) (omega arith);
            }

    -- The answer is a refusal, and so is that of a line of the word,
    pub line_refused : (q : Refusal) (bytes out : List ℕ) → made ≡ Err q → (said_refusal q, out) ≡ line_run (word_judgements n w) bytes out
    unfolding pair_says
    line_refused q bytes out h = ap (λ (r : Result ℕ Refusal). (said_value r, out)) (sym h) ∙ go judged
      where
        go : Outcome n w rooms (length w ∷ []) → (said_value made, out) ≡ line_run (word_judgements n w) bytes out
        go (accepted a g) = absurd (not_both (sym (sym (ap said_value h) ∙ said ∙ g)))
        go (stopped j p f) =
            rw (f (room_judged (length bytes) (length out) ∷ []) (gives (length bytes ∷ [])))
            (ap (λ (s : Said). (s, out)) (said ∙ f rooms (gives (length w ∷ []))))

    -- such as the tableau line.
    pub made_refused : (q : Refusal) (out : List ℕ) → made ≡ Err q → (said_refusal q, out) ≡ tableau_line_run n w out
    unfolding tableau_line_run
    made_refused q out h = line_refused q (tableau_line n w) out h

module _ {n : ℕ} {w xs ms : List ℕ} {m : ℕ} (h : Made n w xs ms m) where
  -- Where the tableau is judged and a line of it written, the reply is that of the word's line,
  pub line_made : (line : ℕ → List ℕ → List ℕ → List ℕ) (out : List ℕ)
      → line_run (tableau_judgements n (take m xs) (take m ms)) (line n (take m xs) (take m ms)) out
      ≡ line_run (word_judgements n w) (line n (letters_of w) (marks_of w)) out
  line_made line out =
      let bytes : List ℕ = line n (letters_of w) (marks_of w) in
      let passes : Passing (tableau_judgements n (letters_of w) (marks_of w)) = (tableau_passing n (letters_of w) (marks_of w)).1 (word_tableau_at h.word) in
      rw (h.letters, h.marks)
      (sym (past_checks (tableau_judgements n (letters_of w) (marks_of w)) bytes out passes) ∙ past_checks (word_judgements n w) bytes out ((word_passing n w).1 h.word))

  -- as where the writer of T lines replies.
  pub made_line : (out out' : List ℕ) (r : Result ℕ Refusal) → (said_value r, out') ≡ t_line_run n (take m xs) (take m ms) out → (said_value r, out') ≡ tableau_line_run n w out
  unfolding t_line_run tableau_line_run tableau_line
  made_line out out' r e = e ∙ line_made t_line out

-- So many cells can be taken of lists of these lengths.
pub record Reached (cells letters marks : ℕ) : Type 0 where
  pub of_letters : cells ≤ letters
  pub of_marks : cells ≤ marks

pub cells_reach : (n : ℕ) (w ls ks js cs xs ms rs ds : List ℕ) (made : Result ℕ Refusal) (m : ℕ)
    → (said_value made, (pair_with xs ms rs, ds)) ≡ pair_run n w (pair_with ls ks js) cs → made ≡ Ok m → 1024 ≤ length ls → 1024 ≤ length ks
    → 1024 ≤ length js → Reached m (length xs) (length ms)
cells_reach n w ls ks js cs xs ms rs ds made m e q long long' long'' =
    let h : Made n w xs ms m = tableau_made n w ls ks js long long' long'' cs xs ms rs ds made e m q in
    record { of_letters = h.letters_reach; of_marks = h.marks_reach }

-- Cells taken from the first on.
pub cut_line : (n m : ℕ) (xs ms out out' : List ℕ) (r : Result ℕ Refusal) → (said_value r, out') ≡ t_line_run n (take (m - 0) xs) (take (m - 0) ms) out
    → (said_value r, out') ≡ t_line_run n (take m xs) (take m ms) out
cut_line n m xs ms out out' r e = let z : m - 0 ≡ m = omega arith in rw z at e

pub ruleset lining = (cut_line, tableau_made, made_refused, cells_reach, made_line, rules)
