-- A tableau's line read into letters and marks that have room for every tableau, so that only its own checks can refuse. What the other form's line is then
-- made of, for either form.
--     Form A                       a form of line with values A: its checks, rank and number of cells, letters and marks of its cells
--     Sized                        so many letters and marks, within the limit
--     Reply, stored                what a reader of the form replies to values
--     Kept                         the first cells of memory are those of a line's values, which pass their checks
--     line_kept                    they are where the reader tells rank and cells
--     kept_cells                   what is made of the first cells is made of the values
--     line_refused                  where it refuses, so does a writer that judges the same values
-- Assumes nothing.
use Rattle.std.specs.Prelude.{ℕ, ◌≤◌, ◌≡◌, refl, List, [], ◌∷◌, ◌++◌, length, get_or, take}
use Rattle.std.proofs.Common.{sym, ap, subst, ◌∙◌, arith}
use Rattle.grammar.specs.Reading.{Read, broken, got}
use Rattle.outcomes.specs.Counts.{counts_of}
use Rattle.outcomes.specs.Judgements.{room_judged, tableau_rooms}
use Rattle.outcomes.specs.LineOperations.{line_run}
use Rattle.outcomes.specs.LineReadings.{read_run}
use Rattle.outcomes.specs.Replies.{Passes, Said, first, gives, ran_to, refused, written}
use Rattle.outcomes.proofs.Theory.Judgements.{room_judged_lem}
use Rattle.outcomes.proofs.Theory.Memory.{written-length, written_needed}
use Rattle.outcomes.proofs.Theory.Passing.{Passing, first_answer, passing_before, ran_answer}
use Rattle.refusals.specs.Outcomes.{not_both, same_values}
use Rattle.refusals.specs.Said.{said_refusal}
use Rattle.refusals.specs.declared.refusal.Refusal.{Refusal}

-- So many letters and marks, within the limit.
pub record Sized (size : ℕ) (xs ms : List ℕ) : Type 0 where
  pub short : size ≤ 1024
  pub letters : size ≡ length xs
  pub marks : size ≡ length ms

-- A form of line: what is told by its values.
pub record Form (A : Type 0) : Type 0 where
  pub judged : A → List Said
  pub rank : A → ℕ
  pub size : A → ℕ
  pub letters : A → List ℕ
  pub marks : A → List ℕ
  pub sized : (a : A) → Passing (judged a) → Sized (size a) (letters a) (marks a)

-- What a reader replies, and memory: letters, marks and letter counts.
abbrev pub Reply : Type 0
Reply = Said × (List ℕ × (List ℕ × List ℕ))

-- What it replies to values: their checks, then room for letters and marks.
module _ {A : Type 0} (f : Form A) where
  abbrev pub stored : List ℕ → List ℕ → List ℕ → A → Reply
  stored ls ks cs a =
      ran_to
      (first (f.judged a ++ tableau_rooms (f.size a) (length ls) (length ks))
      (gives (f.rank a ∷ f.size a ∷ [])))
      (written (f.letters a) ls, (written (f.marks a) ks, counts_of (f.letters a))) (ls, (ks, cs))

  -- The first m cells of xs and ms are those of the values that were read.
  pub record Kept (reading : Read A) (n m : ℕ) (xs ms : List ℕ) : Type 0 where
    pub value : A
    pub rest : List ℕ
    pub is : reading ≡ got value rest
    pub passes : Passing (f.judged value)
    pub rank : n ≡ f.rank value
    pub letters : take m xs ≡ f.letters value
    pub marks : take m ms ≡ f.marks value
    pub letters_reach : m ≤ length xs
    pub marks_reach : m ≤ length ms

-- ---- what is kept

-- What is made of the first cells is made of the values.
pub kept_cells : {A B : Type 0} (f : Form A) {reading : Read A} {n m : ℕ} {xs ms : List ℕ} (h : Kept f reading n m xs ms) (run : ℕ → List ℕ → List ℕ → B)
    → run n (take m xs) (take m ms) ≡ run (f.rank h.value) (f.letters h.value) (f.marks h.value)
kept_cells f h run = rw (h.rank, h.letters, h.marks)

-- ---- from the reader's reply

-- Where checks are followed by others that pass if they do, a refusal is theirs, whatever follows them.
first_stays : (js ks ls : List Said) (vs us : List ℕ) (k p : ℕ) → (Passing js → Passing ks) → first (js ++ ks) (gives vs) ≡ refused k p
    → first (js ++ ls) (gives us) ≡ refused k p
first_stays [] ks ls vs us k p enough e = absurd (not_both (sym (first_answer ks (gives vs) (enough tt)) ∙ e))
first_stays (gives ws ∷ js) ks ls vs us k p enough e = first_stays js ks ls vs us k p (λ h. enough (tt, h)) e
first_stays (refused j q ∷ js) ks ls vs us k p enough e = e

-- Letters and marks before the reader, each of at least 1,024 elements.
module _ {A : Type 0} (f : Form A) (ls ks cs : List ℕ) (long : 1024 ≤ length ls) (long' : 1024 ≤ length ks) where
  -- They have room where the values pass.
  enough : (a : A) → Passing (f.judged a) → Passing (tableau_rooms (f.size a) (length ls) (length ks))
  enough a h = let short : f.size a ≤ 1024 = (f.sized a h).short in ((room_judged_lem _ _).1 (omega arith), ((room_judged_lem _ _).1 (omega arith), tt))

  -- What the reader says, and memory after it.
  module _ (text : List ℕ) (xs ms ds : List ℕ) where
    abbrev Replied : Said → Read A → Type 0
    Replied said reading = (said, (xs, (ms, ds))) ≡ read_run text (stored f ls ks cs) (ls, (ks, cs)) reading

    -- A refusal.
    pub line_refused : (reading : Read A) (q : Refusal) → Replied (said_refusal q) reading → (bytes : A → List ℕ) (out : List ℕ)
        → (said_refusal q, out) ≡ read_run text (λ a. line_run (f.judged a) (bytes a) out) out reading
    line_refused (broken rest) q e bytes out = ap (λ (o : Reply). (o.0, out)) e
    line_refused (got a rest) q e bytes out =
        rw (first_stays (f.judged a) (tableau_rooms (f.size a) (length ls) (length ks)) (room_judged (length (bytes a)) (length out) ∷ []) _
        (length (bytes a) ∷ []) _ _ (enough a) (sym (ap (λ (o : Reply). o.0) e)))

    -- Rank and cells.
    pub line_kept : (reading : Read A) (n m : ℕ) → Replied (gives (n ∷ m ∷ [])) reading → Kept f reading n m xs ms
    line_kept (broken rest) n m e = absurd (not_both (ap (λ (o : Reply). o.0) e))
    line_kept (got a rest) n m e =
        let given : gives (n ∷ m ∷ []) ≡ first (f.judged a ++ tableau_rooms (f.size a) (length ls) (length ks)) (gives (f.rank a ∷ f.size a ∷ [])) =
        ap (λ (o : Reply). o.0) e in
        let passes : Passing (f.judged a) = passing_before (f.judged a) _ _ (subst Passes given tt) in
        let sized : Sized (f.size a) (f.letters a) (f.marks a) = f.sized a passes in
        let all = e ∙ ran_answer (f.judged a) (tableau_rooms (f.size a) (length ls) (length ks)) _ _ _ passes (enough a passes) in
        let values : n ∷ m ∷ [] ≡ f.rank a ∷ f.size a ∷ [] = same_values (ap (λ (o : Reply). o.0) all) in
        let size : m ≡ f.size a = ap (λ (vs : List ℕ). get_or vs 1 0) values in
        let is_letters : xs ≡ written (f.letters a) ls = ap (λ (o : Reply). o.1.0) all in
        let is_marks : ms ≡ written (f.marks a) ks = ap (λ (o : Reply). o.1.1.0) all in
        let cells : m ≡ length (f.letters a) = size ∙ sized.letters in
        let steps : m ≡ length (f.marks a) = size ∙ sized.marks in
        let short : m ≤ 1024 = subst (λ (k : ℕ). k ≤ 1024) (sym size) sized.short in
        record {
          value = a;
          rest = rest;
          is = refl;
          passes = passes;
          rank = ap (λ (vs : List ℕ). get_or vs 0 0) values;
          letters = rw (is_letters, cells) (written_needed (f.letters a) ls);
          marks = rw (is_marks, steps) (written_needed (f.marks a) ks);
          letters_reach = rw (is_letters, written-length (f.letters a) ls (omega arith)) (omega arith);
          marks_reach = rw (is_marks, written-length (f.marks a) ks (omega arith)) (omega arith);
        }
