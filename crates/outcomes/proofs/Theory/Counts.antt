-- Letter counts (document 02, N6): what 17 lets through, and how the counts follow the letters.
--     counts_size, counts-true     the counts of a word are 64 numbers, and true
--     counts_whole                 64 true numbers are the counts
--     counts_same                  words that have each letter equally often have one list of counts
--     letters-counts, letters-true so do a word and its tableau
--     counts-judged                17 passes exactly when the numbers are true
--     counts-first                 and else names the first wrong one
--     set_entries                  64 numbers after one of them is changed
--     snoc_counts, turned-counts   the counts after one letter more, and after a move
-- Assumes nothing.
use Prim.Native.Nat.{ℕ, zero, suc, ◌+◌, ◌-◌, ◌≤◌, ◌<◌}
use native.Mathlib.Nat.{not-suc-le-zero}
use native.Mathlib.Omega.{arith}
use mathlib.Core.Path.{◌≡◌, refl, sym, ap, ◌∙◌}
use mathlib.Core.Bool.{Bool, true, false, true≢false, cond, not}
use mathlib.Core.List.{List, [], ◌∷◌, ◌++◌}
use mathlib.Core.Logic.{◌↔◌, ◌≢◌}
use lib.Dec.{eqb}
use lib.ListN.{length, get_or, set, length-set}
use lib.Seq.{ext_get_or, get_or-set_same, get_or-set_other}
use borrow.Author.Tests.{eqb-true, eqb-false, eq-eqb, ne_eqb}
use Rattle.hypoplactic.specs.Words.{Inside, count}
use Rattle.hypoplactic.specs.Insertion.{letters_of}
use Rattle.quasi_crystal.specs.Moves.{Side, raising, lowering, given, taken}
use Rattle.outcomes.specs.Replies.{Passes, refused}
use Rattle.outcomes.specs.FirstPlaces.{First}
use Rattle.outcomes.specs.Counts.{TrueCounts, count_fault, counts_from, counts_judged, counts_of, one_less, one_more, one_over}
use Rattle.outcomes.proofs.Theory.FirstPlaces.{scan-first, scan-passes}
use Rattle.hypoplactic.proofs.Theory.Letters.{count-letters}
use Rattle.quasi_crystal.proofs.Theory.MoveCounts.{Exchanged, turned_exchanged}
use Rattle.hypoplactic.proofs.Theory.Occurrences.{count_append}
use Rattle.quasi_crystal.proofs.Theory.Undo.{Turned}

-- ---- the counts of a word

from_length : (n k : ℕ) (w : List ℕ) → length (counts_from n k w) ≡ n
from_length zero k w = refl
from_length (suc n) k w = ap suc (from_length n (suc k) w)

from_at : (n k i : ℕ) (w : List ℕ) → i < n → get_or (counts_from n k w) i 0 ≡ count (k + i) w
from_at zero k i w l = absurd (not-suc-le-zero l)
from_at (suc n) k zero w l = ap (λ (a : ℕ). count a w) (omega arith)
from_at (suc n) k (suc i) w l = from_at n (suc k) i w (omega arith) ∙ ap (λ (a : ℕ). count a w) (omega arith)

from_same : (n k : ℕ) (u v : List ℕ) → ((a : ℕ) → count a u ≡ count a v) → counts_from n k u ≡ counts_from n k v
from_same zero k u v e = refl
from_same (suc n) k u v e = λ i. e k i ∷ from_same n (suc k) u v e i

module _ (w : List ℕ) where
  pub counts_size : length (counts_of w) ≡ 64
  unfolding counts_of
  counts_size = from_length 64 1 w

  pub counts-true : TrueCounts w (counts_of w)
  unfolding counts_of
  counts-true = record { entry = λ i l. from_at 64 1 i w l ∙ ap (λ (a : ℕ). count a w) (omega arith) }

  -- No other 64 numbers are true.
  pub counts_whole : (cs : List ℕ) → length cs ≡ 64 → TrueCounts w cs → cs ≡ counts_of w
  counts_whole cs e t =
      ext_get_or 0 cs (counts_of w) (e ∙ sym counts_size) (λ i l. let low : i < 64 = omega arith in t.entry i low ∙ sym (counts-true.entry i low))

pub counts_same : (u v : List ℕ) → ((a : ℕ) → count a u ≡ count a v) → counts_of u ≡ counts_of v
unfolding counts_of
counts_same u v e = from_same 64 1 u v e

-- A tableau has the letters of its word.
pub letters-counts : (w : List ℕ) → counts_of (letters_of w) ≡ counts_of w
letters-counts w = counts_same (letters_of w) w (λ a. count-letters a w)

pub letters-true : (w : List ℕ) → TrueCounts (letters_of w) (counts_of w)
letters-true w = rw (← letters-counts w) (counts-true (letters_of w))

-- ---- 17

unequal : (x y : ℕ) → (not (eqb x y) ≡ false) ↔ (x ≡ y)
unequal x y = (go (eqb x y) refl, λ e. ap not (eq-eqb x y e))
  where
    go : (b : Bool) → eqb x y ≡ b → not b ≡ false → x ≡ y
    go true e h = eqb-true x y e
    go false e h = absurd (true≢false h)

-- It passes exactly when each number is its letter's count,
pub counts-judged : (cs xs : List ℕ) → Passes (counts_judged cs xs) ↔ TrueCounts xs cs
unfolding counts_judged
counts-judged cs xs =
    let p = scan-passes 17 0 64 (count_fault cs xs) in
    (λ h. record { entry = λ i l. (unequal _ _).0 (p.0 h i l) }, λ t. p.1 (λ i l. (unequal _ _).1 (t.entry i l)))

-- and else it names the first that is not.
pub counts-first : (cs xs : List ℕ) (k p : ℕ) → counts_judged cs xs ≡ refused k p → (k ≡ 17) × First (count_fault cs xs) 64 p
unfolding counts_judged
counts-first cs xs k p e = let (d, x, y, f) = scan-first 17 0 64 (count_fault cs xs) k p e in let here : p ≡ d = omega arith in (x, rw here f)

-- ---- numbers that change

-- The entries are those of f, and after a store at one letter's place those of g, which differs from f at that letter alone.
pub set_entries : (f g : ℕ → ℕ) (cs : List ℕ) (s v : ℕ) → s < length cs → v ≡ g (suc s) → ((a : ℕ) → (suc s ≡ a → ⊥) → g a ≡ f a)
    → ((j : ℕ) → j < 64 → get_or cs j 0 ≡ f (suc j)) → (j : ℕ) → j < 64 → get_or (set cs s v) j 0 ≡ g (suc j)
set_entries f g cs s v h e o t j l = go (eqb s j) refl
  where
    go : (b : Bool) → eqb s j ≡ b → get_or (set cs s v) j 0 ≡ g (suc j)
    go true q = rw (← eqb-true s j q) (get_or-set_same cs s v 0 h ∙ e)
    go false q =
        let apart : s ≡ j → ⊥ = eqb-false s j q in
        get_or-set_other cs s j v 0 (λ p. apart (sym p)) ∙ t j l ∙ sym (o (suc j) (λ p. apart (omega arith)))

-- One letter a more in v than in u, and no other change.
more_counts : (u v : List ℕ) (a : ℕ) → Inside 64 a → count a v ≡ suc (count a u) → ((b : ℕ) → a ≢ b → count b v ≡ count b u)
    → one_more (counts_of u) a ≡ counts_of v
more_counts u v a (low, high) e o =
    let s : ℕ = a - 1 in
    let is : suc s ≡ a = omega arith in
    let room : s < length (counts_of u) = omega (arith, counts_size u) in
    let held : get_or (counts_of u) s 0 ≡ count a u = (counts-true u).entry s (omega arith) ∙ ap (λ (b : ℕ). count b u) is in
    counts_whole v (one_more (counts_of u) a) (length-set (counts_of u) _ _ ∙ counts_size u) (record {
      entry = set_entries (λ b. count b u) (λ b. count b v) (counts_of u) _ _ room (rw (held, is) (sym e))
          (λ b n. o b (λ q. n (is ∙ q))) (counts-true u).entry;
    })

-- A letter put at the end of a word.
pub snoc_counts : (w : List ℕ) (a : ℕ) → Inside 64 a → one_more (counts_of w) a ≡ counts_of (w ++ (a ∷ []))
snoc_counts w a i =
    more_counts w (w ++ (a ∷ [])) a i (count_append a w (a ∷ []) ∙ rw (eq-eqb a a refl) (omega arith))
    (λ b n. count_append b w (a ∷ []) ∙ rw (ne_eqb a b n) (omega arith))

-- One letter of u has become another: one a fewer, one b more.
over-counts : (u v : List ℕ) (a b : ℕ) → Inside 64 a → Inside 64 b → a ≢ b → Exchanged a b u v → one_over (counts_of u) a b ≡ counts_of v
over-counts u v a b (low, high) (low', high') n x =
    let s : ℕ = a - 1 in
    let is : suc s ≡ a = omega arith in
    let room : s < length (counts_of u) = omega (arith, counts_size u) in
    let held : get_or (counts_of u) s 0 ≡ count a u = (counts-true u).entry s (omega arith) ∙ ap (λ (c : ℕ). count c u) is in
    let size : length (one_less (counts_of u) a) ≡ 64 = length-set (counts_of u) s _ ∙ counts_size u in
    let t : ℕ = b - 1 in
    let is' : suc t ≡ b = omega arith in
    let room' : t < length (one_less (counts_of u) a) = omega arith in
    let apart : t ≢ s = λ q. n (sym is ∙ ap suc (sym q) ∙ is') in
    let held' : get_or (one_less (counts_of u) a) t 0 ≡ count b u
    = get_or-set_other (counts_of u) s t _ 0 apart ∙ (counts-true u).entry t (omega arith) ∙ ap (λ (c : ℕ). count c u) is' in
    -- between the two stores the letter b is counted as in u, the others as in v
    let between : ℕ → ℕ = λ c. cond (eqb c b) (count b u) (count c v) in
    let less : get_or (counts_of u) s 0 - 1 ≡ between (suc s) = rw (held, is, ne_eqb a b n) (omega (arith, x.fewer)) in
    let first : (j : ℕ) → j < 64 → get_or (one_less (counts_of u) a) j 0 ≡ between (suc j)
    = set_entries (λ c. count c u) between (counts_of u) s _ room less (λ c m. as_before c (λ q. m (is ∙ q)) (eqb c b) refl) (counts-true u).entry in
    counts_whole v (one_over (counts_of u) a b) (length-set (one_less (counts_of u) a) _ _ ∙ size) (record {
      entry = set_entries between (λ c. count c v) (one_less (counts_of u) a) _ _ room' (rw (held', is') (sym x.more))
          (λ c m. rw (ne_eqb c b (λ q. m (is' ∙ sym q)))) first;
    })
  where
    as_before : (c : ℕ) → a ≢ c → (t : Bool) → eqb c b ≡ t → cond t (count b u) (count c v) ≡ count c u
    as_before c m true q = ap (λ (d : ℕ). count d u) (sym (eqb-true c b q))
    as_before c m false q = x.others c (λ e. m (sym e)) (eqb-false c b q)

-- A move turns one of its letters into the other.
pub turned-counts : (s : Side) (i : ℕ) (u v : List ℕ) → Turned s i u v → 1 ≤ i → i < 64 → one_over (counts_of u) (taken s i) (given s i) ≡ counts_of v
turned-counts raising i u v t l h = over-counts u v (suc i) i (omega arith, omega arith) (omega arith, omega arith) (λ e. omega arith) (turned_exchanged raising i u v t)
turned-counts lowering i u v t l h = over-counts u v i (suc i) (omega arith, omega arith) (omega arith, omega arith) (λ e. omega arith) (turned_exchanged lowering i u v t)
