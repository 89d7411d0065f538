-- The items of a C line, read one after another up to the line feed.
--     begun_from, begun_runs   the items that are read before the line feed or the break
--     Held                   the tally of items and their two tables by letter
--     ItemsRead              the items are read, and the line feed stands after them
--     ItemsTold              by what is replied: they are read, or the grammar breaks; the tables of those that were read in both cases
--     Scanning               the loop over items: those read so far, and what is left, give the whole
-- One item is in Runs. Assumes nothing.
use Rattle.std.specs.Prelude.{ℕ, zero, suc, ◌+◌, ◌-◌, ◌*◌, ◌^◌, ◌≤◌, ◌<◌, ◌≡◌, refl, Bool, true, false, cond, List, [], ◌∷◌, ◌++◌, Result, Ok, Err, length, get_or, drop}
use Rattle.std.proofs.Common.{ap, sym, ◌∙◌, append-nil, arith, length-append, length-drop, drop-cons, eqb-true}
use Rattle.std.proofs.Math.Seq.{append_snoc}
use Rattle.grammar.specs.Lines.{Run}
use Rattle.grammar.specs.Reading.{broken, feed_next, got, onward, read_runs, turned, until_feed}
use Rattle.numerals.specs.Bytes.{starts_inside, starts_with}
use Rattle.numerals.specs.Numbers.{Told}
use Rattle.run_lines.specs.Runs.{run_with}
use Rattle.run_tallies.specs.Leads.{tallied_more}
use Rattle.run_tallies.specs.Tables.{tabled_more}
use Rattle.run_tallies.specs.Tallies.{Added, Fresh, Tallied, kept_at, tabled}
use Rattle.run_tallies.specs.declared.tally.Tally.{Tally}
use Rattle.scans.specs.Items.{and_more, turned_more, turned_same}
use Rattle.numerals.specs.declared.numbers.Broken.{Broken}
use Rattle.run_scans.specs.Runs.{read_run_item, run_takes}
use Rattle.run_scans.specs.declared.items.Items.{Items}

-- ---- the items that are read

-- The items that are read one after another before the line feed or the break, at most so many: those of until_feed where nothing breaks.
abbrev pub begun_from : Bool → ℕ → List ℕ → List Run
begun_from stepped zero t = []
begun_from stepped (suc k) t = cond (feed_next t) [] (and_more (read_run_item stepped t) (begun_from true k))

-- From the first item on, with as many allowed as read_runs has.
unfoldable pub begun_runs : List ℕ → List Run
begun_runs t = begun_from false (suc (length t)) t

-- ---- what is kept of items

-- Their tally at rank n, and their counts and marks by letter over what the tables held.
pub record Held (n : ℕ) (old_times old_marks ts ms : List ℕ) (y : Tally) (rs : List Run) : Type 0 where
  pub tallied : Tallied n rs y
  pub times_are : ts ≡ tabled (λ r. r.times) rs old_times
  pub marks_are : ms ≡ tabled (λ r. r.mark) rs old_marks

-- Of no items,
held_none : {y : Tally} (n : ℕ) (ts ms : List ℕ) → Fresh y → Held n ts ms ts ms y []
held_none n ts ms f = record { tallied = f.none n; times_are = refl; marks_are = refl }

-- and of one item more.
held_more : {n : ℕ} {old_times old_marks ts ms ts' ms' : List ℕ} {y z : Tally} {rs : List Run} (x k m : ℕ) → Held n old_times old_marks ts ms y rs
    → ts' ≡ kept_at x k ts → ms' ≡ kept_at x m ms → Added n x k y z → length rs < 9223372036854775808
    → Held n old_times old_marks ts' ms' z (rs ++ (run_with x k m ∷ []))
held_more {n} {old_times} {old_marks} {ts} {ms} {ts'} {ms'} {y} {z} {rs} x k m h a b d l = record {
  tallied = tallied_more (run_with x k m) h.tallied d l;
  times_are = a ∙ ap (kept_at x k) h.times_are ∙ sym (tabled_more (λ r. r.times) rs (run_with x k m) old_times);
  marks_are = b ∙ ap (kept_at x m) h.marks_are ∙ sym (tabled_more (λ r. r.mark) rs (run_with x k m) old_marks);
}

-- ---- what is replied

-- The items, which begin where t is left of the text, are read up to the line feed at place p.
pub record ItemsRead (text t : List ℕ) (n p : ℕ) (y : Tally) : Type 0 where
  pub read : read_runs t ≡ got (begun_runs t) (drop p text)
  pub inside : p < length text
  pub feed : get_or text p 0 ≡ 10
  pub tallied : Tallied n (begun_runs t) y

-- They are read, or the grammar breaks.
abbrev ItemsReplied : List ℕ → List ℕ → ℕ → Result Items Broken → Type 0
ItemsReplied text t n (Ok i) = ItemsRead text t n i.feed i.tally
ItemsReplied text t n (Err b) = Told text (read_runs t) (broken (drop b.place text)) b.place

-- And the counts and marks of those that were read are in the tables.
pub record ItemsTold (text t : List ℕ) (n : ℕ) (old_times old_marks ts ms : List ℕ) (r : Result Items Broken) : Type 0 where
  pub replied : ItemsReplied text t n r
  pub times_are : ts ≡ tabled (λ r. r.times) (begun_runs t) old_times
  pub marks_are : ms ≡ tabled (λ r. r.mark) (begun_runs t) old_marks

-- ---- the loop

-- Some items are read, and the next stands at place at, with a step before its letter if it is not the first. So many more are allowed, one more than there are bytes.
pub record Scanning (text t : List ℕ) (n : ℕ) (old_times old_marks ts ms : List ℕ) (y : Tally) (stepped : Bool) (at : ℕ) : Type 0 where
  pub sofar : List Run
  pub allowed : ℕ
  pub left_over : read_runs t ≡ turned (λ more. sofar ++ more) (until_feed (read_run_item stepped) (read_run_item true) allowed (drop at text))
  pub begun_are : begun_runs t ≡ sofar ++ begun_from stepped allowed (drop at text)
  pub enough : length text < at + allowed
  pub few : length sofar ≤ at
  pub within : at ≤ length text
  pub short : length text * 1 < 2 ^ 63
  pub held : Held n old_times old_marks ts ms y sofar

-- Before the first item.
pub scan_start : {y : Tally} (text : List ℕ) (from n : ℕ) (ts ms : List ℕ) → from ≤ length text → length text * 1 < 2 ^ 63 → Fresh y
    → Scanning text (drop from text) n ts ms ts ms y false from
unfolding read_runs read_run_item begun_runs
scan_start text from n ts ms l s f = record {
  sofar = [];
  allowed = suc (length (drop from text));
  left_over = turned_same (read_runs (drop from text));
  begun_are = refl;
  enough = omega (arith, length-drop from text);
  few = omega arith;
  within = l;
  short = s;
  held = held_none n ts ms f;
}

module _ {text t : List ℕ} {n : ℕ} {old_times old_marks ts ms : List ℕ} {y : Tally} {stepped : Bool} {at : ℕ}
    (g : Scanning text t n old_times old_marks ts ms y stepped at) where
  -- One more is allowed.
  one_allowed : g.allowed ≡ suc (g.allowed - 1)
  one_allowed = omega (arith, g.within, g.enough)

  -- Where no item is read next, those so far are all that are read, and the tables are theirs.
  module _ (none : begun_from stepped (suc (g.allowed - 1)) (drop at text) ≡ []) where
    all_read : begun_runs t ≡ g.sofar
    all_read = rw (one_allowed, none, append-nil g.sofar) at g.begun_are

    scanned : {r : Result Items Broken} → ItemsReplied text t n r → ItemsTold text t n old_times old_marks ts ms r
    scanned h = record { replied = h; times_are = rw all_read g.held.times_are; marks_are = rw all_read g.held.marks_are }

  -- The line feed stands next,
  pub scan_feed : true ≡ starts_with 10 (drop at text) → ItemsTold text t n old_times old_marks ts ms (Ok (record { feed = at; tally = y }))
  scan_feed e =
      let l : at < length text = starts_inside text at 10 (sym e) in
      let here : feed_next (drop at text) ≡ true = sym e in
      let none : begun_from stepped (suc (g.allowed - 1)) (drop at text) ≡ [] = rw here in
      scanned none
      (record {
        read = rw (all_read none) (rw (one_allowed, here, append-nil g.sofar) at g.left_over);
        inside = l;
        feed = eqb-true (get_or text at 0) 10 (rw (drop-cons text at 0 l) at (sym e));
        tallied = rw (all_read none) g.held.tallied;
      })

  module _ (e : false ≡ starts_with 10 (drop at text)) where
    -- or an item is read next.
    no_feed : feed_next (drop at text) ≡ false
    no_feed = sym e

    item_left : read_runs t
        ≡ turned (λ more. g.sofar ++ more) (onward ◌∷◌ (λ a u. until_feed (read_run_item true) (read_run_item true) (g.allowed - 1) u) (read_run_item stepped (drop at text)))
    item_left = rw (one_allowed, no_feed) at g.left_over

    item_begun : begun_runs t ≡ g.sofar ++ and_more (read_run_item stepped (drop at text)) (begun_from true (g.allowed - 1))
    item_begun = rw (one_allowed, no_feed) at g.begun_are

    -- It breaks the grammar, as where the text has ended,
    pub scan_broken : {b : Broken} → Told text (read_run_item stepped (drop at text)) (broken (drop b.place text)) b.place → ItemsTold text t n old_times old_marks ts ms (Err b)
    scan_broken f = scanned (rw (no_feed, f.says)) (record { says = rw f.says at item_left; within = f.within })

    -- or is kept, and takes a byte.
    module _ {x k m next : ℕ} (f : Told text (read_run_item stepped (drop at text)) (got (run_with x k m) (drop next text)) next) where
      further : (at < next) × (at < length text)
      further =
          let less : length (drop next text) < length (drop at text) = run_takes stepped (drop at text) (run_with x k m) (drop next text) f.says in
          (omega (arith, less, length-drop next text, length-drop at text), omega (arith, less, length-drop at text))

      pub scan_less : length text - next < length text - at
      scan_less = omega (arith, further.0, further.1)

      pub scan_turn : {ts' ms' : List ℕ} {z : Tally} → ts' ≡ kept_at x k ts → ms' ≡ kept_at x m ms → Added n x k y z
          → Scanning text t n old_times old_marks ts' ms' z true next
      scan_turn a b d = record {
        sofar = g.sofar ++ (run_with x k m ∷ []);
        allowed = g.allowed - 1;
        left_over = rw f.says at item_left ∙ turned_more g.sofar (run_with x k m) (until_feed (read_run_item true) (read_run_item true) (g.allowed - 1) (drop next text));
        begun_are = item_begun ∙ rw f.says (sym (append_snoc g.sofar (run_with x k m) (begun_from true (g.allowed - 1) (drop next text))));
        enough = omega (arith, g.enough, further.0);
        few = omega (arith, length-append g.sofar (run_with x k m ∷ []), g.few, further.0);
        within = f.within;
        short = g.short;
        held = held_more x k m g.held a b d (omega (arith, g.few, g.short, further.1));
      }
