-- Whole C lines, read at places of the text.
--     read_body                          a C line from its items on
--     whole_runs                         the items of a C line that are read before the line feed or the break
--     LineTold, RunsScanned             by what is replied: the line is read, and this is the tally of its items, or the grammar breaks; and what the tables hold
--     run_line_held                     of a line that is read, the tally and the tables hold its items
--     c_line_lem                            read_c, with its parts one after another
-- The items are in Items. Assumes nothing.
use Rattle.std.specs.Prelude.{ℕ, ◌+◌, ◌≤◌, ◌<◌, ◌≡◌, refl, Bool, false, cond, List, [], ◌∷◌, Result, Ok, Err, eqb, length, drop}
use Rattle.std.proofs.Common.{◌∙◌, arith, drop_of_length-le}
use Rattle.std.proofs.Math.Bool.{true}
use Rattle.std.proofs.Math.Numerals.{add-one}
use Rattle.std.proofs.Math.Seq.{drop-cons}
use Rattle.grammar.specs.Lines.{Run}
use Rattle.grammar.specs.Reading.{Read, after, broken, ended, got, onward, read_c, read_field, read_runs, turned}
use Rattle.numerals.specs.Numbers.{Told}
use Rattle.run_tallies.specs.Tallies.{Tallied, tabled}
use Rattle.numerals.specs.declared.numbers.Broken.{Broken}
use Rattle.scans.specs.Heads.{and_then, read_counted, read_end, read_head}
use Rattle.run_scans.specs.Items.{Held, ItemsTold, begun_runs}
use Rattle.run_scans.specs.declared.items.Items.{Items}
use Rattle.run_scans.specs.declared.line.RunLine.{RunLine}

-- A C line from its items on.
unfoldable pub read_body : ℕ → ℕ → List ℕ → Read (ℕ × ℕ × List Run)
read_body n k t = and_then (read_runs t) (λ rs. read_end (n, k, rs))

-- The items of a C line that are read before the line feed or the break: none where its beginning breaks.
abbrev pub head_runs : Read (ℕ × ℕ) → List Run
head_runs (got h t) = begun_runs t
head_runs (broken t) = []

unfoldable pub whole_runs : List ℕ → List Run
whole_runs t = head_runs (read_head 67 true t)

-- ---- what is replied

-- The line is read, with these items, and this is their tally; or the grammar breaks.
abbrev pub LineTold : List ℕ → Read (ℕ × ℕ × List Run) → List Run → Result RunLine Broken → Type 0
LineTold text reading rs (Ok l) = (reading ≡ got (l.rank, l.size, rs) []) × Tallied l.rank rs l.tally
LineTold text reading rs (Err b) = Told text reading (broken (drop b.place text)) b.place

-- And whatever is replied, the counts and marks of the items that were read are in the tables, over what they held.
pub record RunsScanned (text : List ℕ) (reading : Read (ℕ × ℕ × List Run)) (rs : List Run) (old_times old_marks ts ms : List ℕ) (r : Result RunLine Broken) : Type 0 where
  pub told : LineTold text reading rs r
  pub times_are : ts ≡ tabled (λ r. r.times) rs old_times
  pub marks_are : ms ≡ tabled (λ r. r.mark) rs old_marks

-- Of a line that is read, the tally and the tables hold its items.
pub run_line_held : {text : List ℕ} {reading : Read (ℕ × ℕ × List Run)} {rs : List Run} {old_times old_marks ts ms : List ℕ} {l : RunLine}
    → RunsScanned text reading rs old_times old_marks ts ms (Ok l) → Held l.rank old_times old_marks ts ms l.tally rs
run_line_held s = record { tallied = s.told.1; times_are = s.times_are; marks_are = s.marks_are }

-- ---- from the items on

module _ (text t : List ℕ) (n k : ℕ) {old_times old_marks ts ms : List ℕ} where
  -- The items break the grammar,
  pub body_broken : {b : Broken} → ItemsTold text t n old_times old_marks ts ms (Err b) → RunsScanned text (read_body n k t) (begun_runs t) old_times old_marks ts ms (Err b)
  unfolding read_body
  body_broken h = record { told = record { says = rw h.replied.says; within = h.replied.within }; times_are = h.times_are; marks_are = h.marks_are }

  module _ {i : Items} (h : ItemsTold text t n old_times old_marks ts ms (Ok i)) where
    -- What follows the line feed.
    past_feed : read_body n k t ≡ turned (λ u. (n, k, begun_runs t)) (ended (drop (i.feed + 1) text))
    unfolding read_body read_end
    past_feed = rw (h.replied.read, drop-cons text i.feed 0 h.replied.inside, h.replied.feed, add-one i.feed)

    -- More bytes,
    pub body_more : i.feed + 1 < length text → RunsScanned text (read_body n k t) (begun_runs t) old_times old_marks ts ms (Err (record { place = i.feed + 1 }))
    body_more l = record {
      told = record { says = past_feed ∙ rw (drop-cons text (i.feed + 1) 0 l); within = omega arith };
      times_are = h.times_are;
      marks_are = h.marks_are;
    }

    -- or none.
    pub body_last : length text ≤ i.feed + 1
        → RunsScanned text (read_body n k t) (begun_runs t) old_times old_marks ts ms (Ok (record { rank = n; size = k; tally = i.tally }))
    body_last l = record {
      told = (past_feed ∙ rw (drop_of_length-le text {i = i.feed + 1} l), h.replied.tallied);
      times_are = h.times_are;
      marks_are = h.marks_are;
    }

-- ---- from the first byte on

-- A byte that is due, before a reading in two parts.
after_parts : {A B : Type 0} (kind : ℕ) (r : List ℕ → Read B) (s : List ℕ → Read A) (more : A → List ℕ → Read B) → ((u : List ℕ) → r u ≡ and_then (s u) more)
    → (t : List ℕ) → after kind r t ≡ and_then (after kind s t) more
after_parts kind r s more e [] = refl
after_parts kind r s more e (b ∷ t) = go (eqb b kind)
  where
    go : (c : Bool) → cond c (r t) (broken (b ∷ t)) ≡ and_then (cond c (s t) (broken (b ∷ t))) more
    go true = e t
    go false = refl

-- A C line is its beginning and what follows from its items on.
c_line_lem : (t : List ℕ) → read_c t ≡ and_then (read_head 67 true t) (λ h. read_body h.0 h.1)
unfolding read_c read_head read_body read_counted read_end
c_line_lem = after_parts 67 _ _ _ (λ u. ranks (read_field u))
  where
    -- The values of a line, and what follows them.
    values : ℕ → ℕ × List Run → ℕ × ℕ × List Run
    values n v = (n, v.0, v.1)

    sized : Read ℕ → Read (ℕ × List Run)
    sized = onward (λ k rs. (k, rs)) (λ k. read_runs)

    ends : Read (ℕ × ℕ × List Run) → Read (ℕ × ℕ × List Run)
    ends = onward (λ a u. a) (λ a. after 10 ended)

    -- Past the number of cells,
    runs_on : (n k : ℕ) (r : Read (List Run)) → ends (turned (values n) (turned {B = ℕ × List Run} (λ rs. (k, rs)) r)) ≡ and_then r (λ rs. read_end (n, k, rs))
    runs_on n k (got rs u) = refl
    runs_on n k (broken u) = refl

    -- past the rank,
    sizes : (n : ℕ) (f : Read ℕ) → ends (turned (values n) (sized f)) ≡ and_then (turned {B = ℕ × ℕ} (λ k. (n, k)) f) (λ h. read_body h.0 h.1)
    sizes n (got k u) = runs_on n k (read_runs u)
    sizes n (broken u) = refl

    -- and past the letter of the kind.
    ranks : (f : Read ℕ) → ends (onward values (λ n u. sized (read_field u)) f) ≡ and_then (and_then f read_counted) (λ h. read_body h.0 h.1)
    ranks (got n u) = sizes n (read_field u)
    ranks (broken u) = refl

module _ (text : List ℕ) where
  -- The beginning breaks the grammar,
  pub whole_broken : {b : Broken} (ts ms : List ℕ) → Told text (read_head 67 true text) (broken (drop b.place text)) b.place
      → RunsScanned text (read_c text) (whole_runs text) ts ms ts ms (Err b)
  unfolding whole_runs
  whole_broken ts ms f = record { told = record { says = c_line_lem text ∙ rw f.says; within = f.within }; times_are = rw f.says; marks_are = rw f.says }

  -- or is followed by the items.
  pub whole_body : {n k next : ℕ} {old_times old_marks ts ms : List ℕ} {r : Result RunLine Broken} → Told text (read_head 67 true text) (got (n, k) (drop next text)) next
      → RunsScanned text (read_body n k (drop next text)) (begun_runs (drop next text)) old_times old_marks ts ms r
      → RunsScanned text (read_c text) (whole_runs text) old_times old_marks ts ms r
  unfolding whole_runs
  whole_body f s = rw (c_line_lem text, f.says) s
