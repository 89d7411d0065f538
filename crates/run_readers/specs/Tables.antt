-- The tables of a line's items, one number for each letter, tell the items: what is laid out letter by letter by them is the letters and the marks of the items'
-- cells, and the table of counts is the letter counts.
--     zeros                       64 numbers that are 0
--     told f d rs a               what f tells of the item with the letter a, d where there is none
--     tables_counts               the table of counts of items that rise within n is that of their letters
--     tables_filled               lent letters and marks that have room for their cells hold them once they are filled by the tables
-- Assumes nothing.
use Prim.Native.Nat.{ℕ, zero, suc, ◌+◌, ◌-◌, ◌≤◌, ◌<◌}
use Rattle.std.specs.Prelude.{◌≡◌, Bool, true, false, cond, eqb, length, get_or, replicate}
use Rattle.std.proofs.Math.Path.{refl, ap₂}
use Rattle.std.proofs.Common.{sym, ap, ◌∙◌, arith, eqb-true, eq-eqb, le-ltb, ne_eqb}
use mathlib.Core.List.{List, [], ◌∷◌, ◌++◌}
use Rattle.std.proofs.lemmas.List.{get_or-replicate, length-replicate}
use Rattle.std.proofs.lemmas.Bool.{eqb-false}
use Rattle.grammar.specs.Lines.{Run}
use Rattle.grammar.specs.Values.{Items, MarkedRuns}
use Rattle.outcomes.specs.Counts.{counts_of}
use Rattle.hypoplactic.specs.Places.{layers, run}
use Rattle.outcomes.specs.Replies.{written}
use Rattle.hypoplactic.specs.Words.{Within, count, tick}
use Rattle.outcomes.proofs.Theory.Counts.{counts_whole}
use Rattle.hypoplactic.proofs.Theory.Occurrences.{count_append}
use Rattle.words.specs.Tables.{Table, sum_of, table_store}
use Rattle.fillings.specs.Filled.{filled_runs_is, filled_runs}
use Rattle.fillings.specs.Layers.{copies_in, layers_sum, steps_in}
use Rattle.run_lines.specs.Judgements.{item_letters}
use Rattle.run_lines.specs.Runs.{marks_of_run, run_cells, run_letters, run_marks}
use Rattle.run_lines.proofs.Theory.Judged.{RisingItems}
use Rattle.run_lines.proofs.Theory.Runs.{runs_length}
use Rattle.run_tallies.specs.Tallies.{kept_at, tabled}

-- ---- the tables

-- Before the first item.
abbrev pub zeros : List ℕ
zeros = replicate 64 0

-- What f tells of the item with the letter a, d where there is none.
abbrev told : (Run → ℕ) → ℕ → List Run → ℕ → ℕ
told f d [] a = d
told f d (r ∷ rs) a = cond (eqb r.letter a) (f r) (told f d rs a)

-- The count and the mark of that item, 0 where there is none.
abbrev times_told : List Run → ℕ → ℕ
times_told = told (λ r. r.times) 0

abbrev mark_told : List Run → ℕ → ℕ
mark_told = told (λ r. r.mark) 0

-- There is none of a letter up to that after which they rise.
told_none : (f : Run → ℕ) (d x : ℕ) (rs : List Run) (a : ℕ) → RisingItems x rs → a ≤ x → told f d rs a ≡ d
told_none f d x [] a h l = refl
told_none f d x (r ∷ rs) a h l =
    rw (ne_eqb r.letter a (λ e. omega (arith, h.0.0))) (told_none f d r.letter rs a h.1 (omega (arith, h.0.0)))

-- One item in a table.
kept_table : {h : ℕ → ℕ} {cs : List ℕ} (x v : ℕ) → 1 ≤ x → x ≤ 64 → Table h cs → Table (λ a. cond (eqb x a) v (h a)) (kept_at x v cs)
unfolding kept_at
kept_table {h} {cs} x v low high t =
    let place : suc (x - 1) ≡ x = omega arith in
    rw (le-ltb x 1 low, le-ltb 64 x high)
    (table_store h (λ a. cond (eqb x a) v (h a)) cs (x - 1) v t (omega arith) (rw (eq-eqb x (suc (x - 1)) (sym place)))
    (λ a o. rw (ne_eqb x a (λ e. o (place ∙ e)))))

-- All items, over what the table held.
tabled_table : {h : ℕ → ℕ} {cs : List ℕ} (f : Run → ℕ) (x : ℕ) (rs : List Run) → RisingItems x rs → Within 64 (item_letters rs) → Table h cs
    → Table (λ a. told f (h a) rs a) (tabled f rs cs)
tabled_table f x [] g w t = t
tabled_table {h} f x (r ∷ rs) g w t =
    let rest = tabled_table {h = λ a. cond (eqb r.letter a) (f r) (h a)} f r.letter rs g.1 w.2 (kept_table r.letter (f r) w.0 w.1 t) in
    record { size = rest.size; entry = λ j l. rest.entry j l ∙ go (suc j) (eqb r.letter (suc j)) refl }
  where
    go : (a : ℕ) (b : Bool) → eqb r.letter a ≡ b → told f (cond b (f r) (h a)) rs a ≡ cond b (f r) (told f (h a) rs a)
    go a true e = told_none f (f r) r.letter rs a g.1 (omega (arith, eqb-true r.letter a e))
    go a false e = refl

-- ---- letter by letter

module _ (lay : ℕ → ℕ → ℕ → List ℕ) (none : (a m : ℕ) → lay a 0 m ≡ []) where
  -- What is laid for each item, by letter, count and mark.
  abbrev laid : List Run → List ℕ
  laid [] = []
  laid (r ∷ rs) = lay r.letter r.times r.mark ++ laid rs

  -- The layers of the letters after x up to n, of which the items tell, are what is laid for each item.
  layers-told : (n k x : ℕ) (f : ℕ → List ℕ) (rs : List Run) → x + k ≡ n → RisingItems x rs → Within n (item_letters rs)
      → ((a : ℕ) → x < a → a ≤ n → f a ≡ lay a (times_told rs a) (mark_told rs a)) → layers f k (suc x) ≡ laid rs
  unfolding layers
  layers-told n zero x f [] s g w h = refl
  layers-told n zero x f (r ∷ rs) s g w h = let z : ⊥ = omega (arith, g.0.0, w.1) in absurd z
  layers-told n (suc k) x f [] s g w h =
      ap₂ ◌++◌ (h (suc x) (omega arith) (omega arith) ∙ none (suc x) 0)
      (layers-told n k (suc x) f [] (omega arith) tt tt (λ a l m. h a (omega arith) m))
  layers-told n (suc k) x f (r ∷ rs) s g w h =
      go (eqb r.letter (suc x)) refl (λ us. layers-told n k (suc x) f us (omega arith))
    where
      next : List Run → Type 0
      next us = RisingItems (suc x) us → Within n (item_letters us)
          → ((a : ℕ) → suc x < a → a ≤ n → f a ≡ lay a (times_told us a) (mark_told us a)) → layers f k (suc (suc x)) ≡ laid us

      first : (b : Bool) → eqb r.letter (suc x) ≡ b
          → f (suc x) ≡ lay (suc x) (cond b r.times (times_told rs (suc x))) (cond b r.mark (mark_told rs (suc x)))
      first b e = rw e at (h (suc x) (omega arith) (omega arith))

      go : (b : Bool) → eqb r.letter (suc x) ≡ b → ((us : List Run) → next us) → f (suc x) ++ layers f k (suc (suc x)) ≡ laid (r ∷ rs)
      go true e on =
          let is : r.letter ≡ suc x = eqb-true r.letter (suc x) e in
          ap₂ ◌++◌ (first true e ∙ ap (λ (a : ℕ). lay a r.times r.mark) (sym is))
          (on rs (rw is at g.1) w.2
          (λ a l m. h a (omega arith) m ∙ rw (ne_eqb r.letter a (λ q. omega arith))))
      go false e on =
          let above : suc x < r.letter = omega (arith, g.0.0, eqb-false r.letter (suc x) e) in
          ap₂ ◌++◌
          (first false e
          ∙ ap₂ (lay (suc x)) (told_none (λ r. r.times) 0 r.letter rs (suc x) g.1 (omega arith))
          (told_none (λ r. r.mark) 0 r.letter rs (suc x) g.1 (omega arith))
          ∙ none (suc x) 0)
          (on (r ∷ rs) ((above, g.0.1), g.1) w (λ a l m. h a (omega arith) m))

-- ---- items that rise within n

-- The marks of a run by the test that is made.
run-marks : (m k : ℕ) → m ≤ 1 → run (eqb m 1) k ≡ marks_of_run m k
run-marks zero zero l = refl
run-marks zero (suc k) l = refl
run-marks (suc zero) zero l = refl
run-marks (suc zero) (suc k) l = refl
run-marks (suc (suc m)) k l = let z : ⊥ = omega arith in absurd z

-- How often a letter stands in a run of another or of its own.
count-run : (a x k : ℕ) → count a (replicate k x) ≡ cond (eqb x a) k 0
count-run a x zero = go (eqb x a)
  where
    go : (b : Bool) → ◌≡◌ {A = ℕ} 0 (cond b 0 0)
    go true = refl
    go false = refl
count-run a x (suc k) = ap (tick (eqb x a)) (count-run a x k) ∙ go (eqb x a)
  where
    go : (b : Bool) → tick b (cond b k 0) ≡ cond b (suc k) 0
    go true = refl
    go false = refl

-- And in the letters of items.
count-told : (a x : ℕ) (rs : List Run) → RisingItems x rs → count a (run_letters rs) ≡ times_told rs a
count-told a x [] g = refl
count-told a x (r ∷ rs) g =
    count_append a (replicate r.times r.letter) (run_letters rs)
    ∙ ap₂ ◌+◌ (count-run a r.letter r.times) (count-told a r.letter rs g.1) ∙ go (eqb r.letter a) refl
  where
    go : (b : Bool) → eqb r.letter a ≡ b → cond b r.times 0 + times_told rs a ≡ cond b r.times (times_told rs a)
    go true e = rw (told_none (λ r. r.times) 0 r.letter rs a g.1 (omega (arith, eqb-true r.letter a e))) (omega arith)
    go false e = omega arith

-- Counts and marks of items, in tables that held 0.
module _ {n : ℕ} (rs : List Run) {cs ss : List ℕ} (limit : n ≤ 64) (g : RisingItems 0 rs) (w : Within n (item_letters rs))
    (c : cs ≡ tabled (λ r. r.times) rs zeros) (s : ss ≡ tabled (λ r. r.mark) rs zeros) where
  within_64 : (us : List Run) → Within n (item_letters us) → Within 64 (item_letters us)
  within_64 [] v = tt
  within_64 (u ∷ us) v = (v.0, omega (arith, v.1), within_64 us v.2)

  table : (f : Run → ℕ) → Table (told f 0 rs) (tabled f rs zeros)
  table f = tabled_table f 0 rs g (within_64 rs w) (record { size = refl; entry = λ j l. get_or-replicate {A = ℕ} 64 j 0 0 l })

  pub tables_counts : cs ≡ counts_of (run_letters rs)
  tables_counts =
      c ∙ counts_whole (run_letters rs) _ (table (λ r. r.times)).size
      (record { entry = λ j l. (table (λ r. r.times)).entry j l ∙ sym (count-told (suc j) 0 rs g) })

  -- Whatever is laid letter by letter.
  laid_in : (lay : ℕ → ℕ → ℕ → List ℕ) (none : (a m : ℕ) → lay a 0 m ≡ []) (f : ℕ → List ℕ)
      → ((j : ℕ) → f (suc j) ≡ lay (suc j) (get_or cs j 0) (get_or ss j 0)) → layers f n 1 ≡ laid lay none rs
  laid_in lay none f h = layers-told lay none n n 0 f rs (omega arith) g w at
    where
      at : (a : ℕ) → 0 < a → a ≤ n → f a ≡ lay a (times_told rs a) (mark_told rs a)
      at zero l m = let z : ⊥ = omega arith in absurd z
      at (suc j) l m =
          h j ∙ rw (c, s) (ap₂ (lay (suc j)) ((table (λ r. r.times)).entry j (omega arith)) ((table (λ r. r.mark)).entry j (omega arith)))

  tables_letters : layers (copies_in cs) n 1 ≡ run_letters rs
  tables_letters = laid_in (λ a k m. replicate k a) (λ a m. refl) (copies_in cs) (λ j. refl) ∙ same rs
    where
      same : (us : List Run) → laid (λ a k m. replicate k a) (λ a m. refl) us ≡ run_letters us
      same [] = refl
      same (u ∷ us) = ap (λ (xs : List ℕ). replicate u.times u.letter ++ xs) (same us)

  tables_marks : MarkedRuns rs → layers (steps_in ss cs) n 1 ≡ run_marks rs
  tables_marks m = laid_in (λ a k m. run (eqb m 1) k) (λ a m. refl) (steps_in ss cs) (λ j. refl) ∙ first rs m
    where
      later : (us : List Run) → Items (λ (r : Run). r.mark ≤ 1) (λ r. r.mark ≤ 1) us → laid (λ a k m. run (eqb m 1) k) (λ a m. refl) us ≡ run_marks us
      later [] h = refl
      later (u ∷ us) h = ap₂ ◌++◌ (run-marks u.mark u.times h.0) (later us h.1)

      first : (us : List Run) → MarkedRuns us → laid (λ a k m. run (eqb m 1) k) (λ a m. refl) us ≡ run_marks us
      first [] h = refl
      first (u ∷ us) h = ap₂ ◌++◌ (run-marks u.mark u.times (omega (arith, h.0))) (later us h.1)

  -- There are as many cells as the items say.
  tables_sum : sum_of n cs ≡ run_cells rs
  tables_sum =
      sym (layers_sum (copies_in cs) cs (λ j. length-replicate (get_or cs j 0) (suc j)) n) ∙ ap length tables_letters ∙ sym (runs_length rs)

  -- So lists that have room for them hold the letters and the marks of the cells.
  pub tables_filled : (letters marks : List ℕ) → MarkedRuns rs → run_cells rs ≤ length letters → run_cells rs ≤ length marks
      → filled_runs n cs ss letters marks ≡ (written (run_letters rs) letters, written (run_marks rs) marks)
  tables_filled letters marks m a b =
      filled_runs_is n cs ss letters marks limit (omega (arith, tables_sum)) (omega (arith, tables_sum)) ∙ rw (tables_letters, tables_marks m)
