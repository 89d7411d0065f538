-- The content of a word, how often each letter stands in it, decides its length and its limits.
--     within-counts         each letter is inside exactly when only letters inside occur
--     within_at             each letter of a word within n is one of 1 to n
--     sum_le                the counts of some letters add up to no more than the length
--     sum_within            each letter is inside exactly when the counts of the letters inside add up to the length
--     sum_same              words of one content have the same sums of counts
--     accepted_content      a word with the content of an accepted word is accepted
--     within_snoc           a word within a rank with one letter of it more is within it
--     accepted_snoc         so is an accepted word of fewer than 1,024 letters with one letter more
-- Assumes nothing.
use Prim.Native.Nat.{ℕ, zero, suc, ◌≤◌, ◌<◌, ◌+◌}
use native.Mathlib.Omega.{arith}
use native.Mathlib.Decide.{dec_le}
use mathlib.Core.Path.{◌≡◌, refl, ap, ap₂, sym, ◌∙◌}
use mathlib.Core.Bool.{Bool, true, false}
use mathlib.Core.List.{List, [], ◌∷◌, ◌++◌}
use mathlib.Core.Logic.{◌↔◌, ◌⊎◌, inl, inr, dite}
use lib.Dec.{eqb}
use lib.ListN.{length, get_or, length-append}
use borrow.Author.Tests.{eqb-true, eqb-false, ne_eqb}
use Rattle.hypoplactic.specs.Words.{Accepted, Inside, Within, count, tick}
use Rattle.hypoplactic.specs.Weights.{sum_to}
use Rattle.hypoplactic.proofs.Theory.Occurrences.{count_tail}
use Rattle.hypoplactic.proofs.Theory.Letters.{count_head}

inside_or_out : (n a : ℕ) → Inside n a ⊎ (1 ≤ a → n < a)
inside_or_out n a = dite (dec_le 1 a) (λ (p : 1 ≤ a). dite (dec_le a n) (λ (q : a ≤ n). inl (p, q)) (λ (q : ¬ (a ≤ n)). inr (omega arith))) (λ (p : ¬ (1 ≤ a)). inr (omega arith))

inside-count : (n : ℕ) (w : List ℕ) → Within n w → (a : ℕ) → 1 ≤ count a w → Inside n a
inside-count n [] h a c = let z : ⊥ = omega arith in absurd z
inside-count n (x ∷ w) h a c = go (inside-count n w h.2 a) (eqb x a) refl c
  where
    go : (1 ≤ count a w → Inside n a) → (b : Bool) → eqb x a ≡ b → 1 ≤ tick b (count a w) → Inside n a
    go rest true e c = rw (← eqb-true x a e) (h.0, h.1)
    go rest false e c = rest c

within_count : (n : ℕ) (w : List ℕ) → ((a : ℕ) → 1 ≤ count a w → Inside n a) → Within n w
within_count n [] f = tt
within_count n (x ∷ w) f =
    let here : Inside n x = f x (omega (arith, count_head x w)) in
    (here.0, here.1, within_count n w (λ a c. f a (omega (arith, count_tail a x w))))

-- Each letter is one of 1 to n exactly when no other letter occurs.
pub within-counts : (n : ℕ) (w : List ℕ) → Within n w ↔ ((a : ℕ) → 1 ≤ count a w → Inside n a)
within-counts n w = (inside-count n w, within_count n w)

-- The letter at a place is one of 1 to n.
pub within_at : (n : ℕ) (w : List ℕ) (i : ℕ) → Within n w → i < length w → Inside n (get_or w i 0)
within_at n [] i h l = let z : ⊥ = omega arith in absurd z
within_at n (x ∷ w) zero h l = (h.0, h.1)
within_at n (x ∷ w) (suc i) h l = within_at n w i h.2 (omega arith)

sum_nil : (k : ℕ) → sum_to k [] ≡ 0
sum_nil zero = refl
sum_nil (suc k) = rw (sum_nil k)

sum_out : (k x : ℕ) (w : List ℕ) → (1 ≤ x → k < x) → sum_to k (x ∷ w) ≡ sum_to k w
sum_out zero x w h = refl
sum_out (suc k) x w h =
    rw (sum_out k x w (λ p. omega (arith, h p)), ne_eqb x (suc k) (λ e. omega (arith, h (omega arith))))

sum_in : (k x : ℕ) (w : List ℕ) → Inside k x → sum_to k (x ∷ w) ≡ suc (sum_to k w)
sum_in zero x w h = let z : ⊥ = omega arith in absurd z
sum_in (suc k) x w h = go (sum_in k x w) (eqb x (suc k)) refl
  where
    go : (Inside k x → sum_to k (x ∷ w) ≡ suc (sum_to k w)) → (b : Bool) → eqb x (suc k) ≡ b → sum_to k (x ∷ w) + tick b (count (suc k) w) ≡ suc (sum_to k w + count (suc k) w)
    go rest true e = rw (sum_out k x w (omega (arith, eqb-true x (suc k) e))) (omega arith)
    go rest false e = rw (rest (omega (arith, eqb-false x (suc k) e))) (omega arith)

-- The counts of the letters inside add up to at most the length,
-- The letters up to k stand in the word at most as often as it has letters.
pub sum_le : (k : ℕ) (w : List ℕ) → sum_to k w ≤ length w
sum_le k [] = rw sum_nil (omega arith)
sum_le k (x ∷ w) = go (sum_le k w) (inside_or_out k x)
  where
    go : sum_to k w ≤ length w → Inside k x ⊎ (1 ≤ x → k < x) → sum_to k (x ∷ w) ≤ suc (length w)
    go rest (inl h) = rw (sum_in k x w h) (omega arith)
    go rest (inr h) = rw (sum_out k x w h) (omega arith)

sum_length : (k : ℕ) (w : List ℕ) → Within k w → sum_to k w ≡ length w
sum_length k [] h = sum_nil k
sum_length k (x ∷ w) h = sum_in k x w (h.0, h.1) ∙ ap suc (sum_length k w h.2)

length_sum : (k : ℕ) (w : List ℕ) → sum_to k w ≡ length w → Within k w
length_sum k [] e = tt
length_sum k (x ∷ w) e = go (length_sum k w) (inside_or_out k x)
  where
    go : (sum_to k w ≡ length w → Within k w) → Inside k x ⊎ (1 ≤ x → k < x) → Within k (x ∷ w)
    go rest (inl h) = (h.0, h.1, rest (omega (arith, e, sum_in k x w h)))
    go rest (inr h) = let z : ⊥ = omega (arith, e, sum_out k x w h, sum_le k w) in absurd z

-- and to the length itself exactly when each letter is inside.
pub sum_within : (k : ℕ) (w : List ℕ) → (sum_to k w ≡ length w) ↔ Within k w
sum_within k w = (length_sum k w, sum_length k w)

-- Words of the same content have the same sums of counts.
pub sum_same : (k : ℕ) (u v : List ℕ) → ((a : ℕ) → count a u ≡ count a v) → sum_to k u ≡ sum_to k v
sum_same zero u v f = refl
sum_same (suc k) u v f = ap₂ ◌+◌ (sum_same k u v f) (f (suc k))

-- A word with the content of an accepted word is accepted.
pub accepted_content : {n : ℕ} {u v : List ℕ} → ((a : ℕ) → count a u ≡ count a v) → Accepted n u → Accepted n v
accepted_content {n} {u} {v} f h =
    let within : Within n v = (within-counts n v).1 (λ a c. (within-counts n u).0 h.letters a (omega (arith, f a))) in
    let alike : length u ≡ length v = sym (sum_length n u h.letters) ∙ sum_same n u v f ∙ sum_length n v within in
    record { rank_low = h.rank_low; rank_high = h.rank_high; short = omega (arith, h.short); letters = within }

-- A word within a rank with one letter of it more is within it.
pub within_snoc : (n a : ℕ) (w : List ℕ) → Within n w → Inside n a → Within n (w ++ a ∷ [])
within_snoc n a [] h i = (i.0, i.1, tt)
within_snoc n a (x ∷ w) h i = (h.0, h.1, within_snoc n a w h.2 i)

-- An accepted word of fewer than 1,024 letters with one letter more is accepted.
pub accepted_snoc : {n a : ℕ} {w : List ℕ} → Accepted n w → length w < 1024 → Inside n a → Accepted n (w ++ a ∷ [])
accepted_snoc {n} {a} {w} h few i = record {
  rank_low = h.rank_low;
  rank_high = h.rank_high;
  short = omega (arith, length-append w (a ∷ []));
  letters = within_snoc n a w h.letters i;
}
