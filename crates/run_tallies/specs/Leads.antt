-- The tally of a line's items, one item after another, and the checks by it.
--     tallied_more                         a tally of items with one item added is the tally of one item more
--     tally-judges                         it is what is said of all items with that tally
-- Assumes nothing.
use Rattle.std.specs.Prelude.{ℕ, suc, ◌+◌, ◌<◌, ◌≤◌, ◌≡◌, refl, Bool, true, false, ◌||◌, cond, not, List, [], ◌∷◌, ◌++◌, ◌⊎◌, eqb, leb, ltb, length}
use Rattle.std.proofs.Common.{sym, ap, ap₂, ◌∙◌, inl, inr, arith, length-append}
use Rattle.std.proofs.Math.Nat.{zero-add}
use borrow.Author.Tests.{le-ltb, lt-ltb, ne_eqb}
use Rattle.grammar.specs.Lines.{Run}
use Rattle.outcomes.specs.Judgements.{length_judged, letters_from, letters_judged, outside, rank_judged}
use Rattle.outcomes.specs.Replies.{Passes, Said, first, gives, or_else, passed, refused, refuse_if}
use Rattle.outcomes.proofs.Theory.Judgements.{length-judged}
use Rattle.hypoplactic.proofs.Theory.Pairs.{le-or-lt}
use Rattle.run_lines.specs.Judgements.{item_letters, run_judgements, runs_from, runs_judged, sum_judged}
use Rattle.run_lines.specs.Runs.{run_cells}
use Rattle.run_tallies.specs.declared.tally.Tally.{Tally}
use Rattle.run_tallies.specs.Tallies.{Added, Tallied, capped, inside_lead, last_letter, lead_after, next_count, rising_lead, tally_judgements, tally_says}

-- ---- one item more

-- Fewer than 2 to the power 63 items and one more.
next_suc : (k : ℕ) → k < 9223372036854775808 → next_count k ≡ suc k
unfolding next_count
next_suc k l = omega arith

-- A lead over items, the first of them without fault.
lead_suc : (b : Bool) (l k : ℕ) → suc k < 9223372036854775808 → suc (lead_after b l k) ≡ lead_after b (suc l) (suc k)
unfolding lead_after
lead_suc true l k s = refl
lead_suc false l k s = go (le-or-lt k l)
  where
    go : (k ≤ l) ⊎ (l < k) → suc (cond (ltb l k) l (next_count k)) ≡ cond (ltb (suc l) (suc k)) (suc l) (next_count (suc k))
    go (inl h) = rw (le-ltb l k h, le-ltb (suc l) (suc k) (omega arith), next_suc k (omega arith), next_suc (suc k) s)
    go (inr h) = rw (lt-ltb l k h, lt-ltb (suc l) (suc k) (omega arith))

-- The first of them with a fault.
lead_zero : (b : Bool) (k : ℕ) → 0 ≡ lead_after b 0 (suc k)
unfolding lead_after
lead_zero true k = refl
lead_zero false k = rw (lt-ltb 0 (suc k) (omega arith))

-- No item and one more.
lead_one : (b : Bool) → cond b 0 1 ≡ lead_after b 0 0
unfolding lead_after next_count
lead_one true = refl
lead_one false = refl

-- A lead over one item and others.
lead_cons : (c b : Bool) (l k m : ℕ) → suc k < 9223372036854775808 → m ≡ lead_after b l k → cond c 0 (suc m) ≡ lead_after b (cond c 0 (suc l)) (suc k)
lead_cons true b l k m s e = lead_zero b k
lead_cons false b l k m s e = ap suc e ∙ lead_suc b l k s

inside_more : (n : ℕ) (rs : List Run) (r : Run) → length rs < 9223372036854775808
    → inside_lead n (rs ++ (r ∷ [])) ≡ lead_after (outside n r.letter) (inside_lead n rs) (length rs)
inside_more n [] r l = lead_one (outside n r.letter)
inside_more n (s ∷ rs) r l = lead_cons (outside n s.letter) _ _ (length rs) _ l (inside_more n rs r (omega arith))

rising_more : (x : ℕ) (rs : List Run) (r : Run) → length rs < 9223372036854775808
    → rising_lead x (rs ++ (r ∷ [])) ≡ lead_after (leb r.letter (last_letter x rs) || eqb r.times 0) (rising_lead x rs) (length rs)
rising_more x [] r l = lead_one (leb r.letter x || eqb r.times 0)
rising_more x (s ∷ rs) r l = lead_cons (leb s.letter x || eqb s.times 0) _ _ (length rs) _ l (rising_more s.letter rs r (omega arith))

last_more : (x : ℕ) (rs : List Run) (r : Run) → last_letter x (rs ++ (r ∷ [])) ≡ r.letter
last_more x [] r = refl
last_more x (s ∷ rs) r = last_more s.letter rs r

cells_more : (rs : List Run) (r : Run) → run_cells (rs ++ (r ∷ [])) ≡ run_cells rs + r.times
cells_more [] r = omega arith
cells_more (s ∷ rs) r = omega (arith, cells_more rs r)

capped_more : (s k : ℕ) → capped (capped (capped s) + k) ≡ capped (s + k)
capped_more s k = omega arith

-- A tally of items, and the item added to it.
pub tallied_more : {n : ℕ} {rs : List Run} {y z : Tally} (r : Run) → Tallied n rs y → Added n r.letter r.times y z → length rs < 9223372036854775808
    → Tallied n (rs ++ (r ∷ [])) z
tallied_more {n} {rs} {y} {z} r h a l = record {
  items = a.items ∙ rw (h.items, next_suc (length rs) l, length-append) (omega arith);
  inside = a.inside ∙ rw (h.inside, h.items) (sym (inside_more n rs r l));
  rising = a.rising ∙ rw (h.rising, h.items, h.last) (sym (rising_more 0 rs r l));
  last = a.last ∙ sym (last_more 0 rs r);
  sum = a.sum ∙ rw (h.sum, cells_more rs r) (capped_more (run_cells rs) r.times);
}

-- ---- the checks

-- A check of one item and others, by the lead over the others.
check_cons : (b : Bool) (k i l m : ℕ) (s : Said) → s ≡ refuse_if (ltb l m) k (suc i + l) passed
    → refuse_if b k i s ≡ refuse_if (ltb (cond b 0 (suc l)) (suc m)) k (i + cond b 0 (suc l)) passed
check_cons true k i l m s e = let here : i + 0 ≡ i = omega arith in rw (lt-ltb 0 (suc m) (omega arith), here)
check_cons false k i l m s e = e ∙ ap₂ (λ (c : Bool) (p : ℕ). refuse_if c k p passed) (same (le-or-lt m l)) (omega arith)
  where
    same : (m ≤ l) ⊎ (l < m) → ltb l m ≡ ltb (suc l) (suc m)
    same (inl h) = le-ltb l m h ∙ sym (le-ltb (suc l) (suc m) (omega arith))
    same (inr h) = lt-ltb l m h ∙ sym (lt-ltb (suc l) (suc m) (omega arith))

letters_by : (n i : ℕ) (rs : List Run) → letters_from n i (item_letters rs) ≡ refuse_if (ltb (inside_lead n rs) (length rs)) 4 (i + inside_lead n rs) passed
letters_by n i [] = refl
letters_by n i (r ∷ rs) = check_cons (outside n r.letter) 4 i (inside_lead n rs) (length rs) _ (letters_by n (suc i) rs)

rising_by : (i x : ℕ) (rs : List Run) → runs_from i x rs ≡ refuse_if (ltb (rising_lead x rs) (length rs)) 19 (i + rising_lead x rs) passed
rising_by i x [] = refl
rising_by i x (r ∷ rs) =
    check_cons (leb r.letter x || eqb r.times 0) 19 i (rising_lead r.letter rs) (length rs) _ (rising_by (suc i) r.letter rs)

-- A sum and its capped number are the same L, or neither is, if L is at most 1,024.
sum_by : (s L : ℕ) → L ≤ 1024 → eqb (capped s) L ≡ eqb s L
sum_by s L l = go (le-or-lt s 1024)
  where
    go : (s ≤ 1024) ⊎ (1024 < s) → eqb (capped s) L ≡ eqb s L
    go (inl h) = let is : capped s ≡ s = omega arith in rw is
    go (inr h) = ne_eqb (capped s) L (λ e. omega arith) ∙ sym (ne_eqb s L (λ e. omega arith))

module _ {n : ℕ} {rs : List Run} {y : Tally} (h : Tallied n rs y) where
  -- 4 by the tally of items,
  letters_tallied : letters_judged n (item_letters rs) ≡ refuse_if (ltb y.inside y.items) 4 y.inside passed
  unfolding letters_judged
  letters_tallied = letters_by n 0 rs ∙ rw zero-add (sym (ap₂ (λ (l m : ℕ). refuse_if (ltb l m) 4 l passed) h.inside h.items))

  -- 19,
  rising_tallied : runs_judged rs ≡ refuse_if (ltb y.rising y.items) 19 y.rising passed
  unfolding runs_judged
  rising_tallied = rising_by 0 0 rs ∙ rw zero-add (sym (ap₂ (λ (l m : ℕ). refuse_if (ltb l m) 19 l passed) h.rising h.items))

  -- 20 where L is at most 1,024,
  sum_tallied : (L : ℕ) → L ≤ 1024 → sum_judged L rs ≡ refuse_if (not (eqb y.sum L)) 20 0 passed
  unfolding sum_judged
  sum_tallied L l = rw (h.sum, sum_by (run_cells rs) L l)

  -- and all three.
  items_tallied : (L : ℕ) → L ≤ 1024
      → first (tally_judgements L y) passed ≡ first (letters_judged n (item_letters rs) ∷ runs_judged rs ∷ sum_judged L rs ∷ []) passed
  items_tallied L l = rw (letters_tallied, rising_tallied, sum_tallied L l)

-- What follows a check matters only where it passes.
past : {s t : Said} (j : Said) → (Passes j → s ≡ t) → or_else j s ≡ or_else j t
past (gives vs) e = e tt
past (refused k p) e = refl

-- By the tally of items these are the checks of all of them.
pub tally-judges : (n L : ℕ) (y : Tally) (rs : List Run) → Tallied n rs y → tally_says n L y ≡ first (run_judgements n L rs) passed
unfolding tally_says
tally-judges n L y rs h = ap (or_else (rank_judged n)) (past (length_judged L) (λ p. items_tallied h L ((length-judged L).0 p)))
