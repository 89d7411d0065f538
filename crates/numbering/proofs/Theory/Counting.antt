-- How many orders a ribbon has, by the cell that is taken out first.
--     length-tally         a tally has one number more than there are cells
--     across_free          across a free step all numbers of a tally are its total
--     tally-step           the tally past its first number is the sum of the tallies of what each first cell leaves
--     orders-step          so a ribbon with a free first step has as many orders as those have together
-- Assumes nothing.
use Prim.Native.Nat.{ℕ, zero, suc, ◌+◌}
use native.Mathlib.Omega.{arith}
use mathlib.Core.Path.{◌≡◌, refl, sym, ap, ap₂, ◌∙◌}
use mathlib.Core.Bool.{Bool, true, false, ◌&&◌, false≢true, true≢false}
use mathlib.Core.List.{List, [], ◌∷◌, map}
use lib.ListN.{length, replicate, length-replicate}
use Rattle.numbering.specs.Compositions.{total}
use Rattle.numbering.specs.Orders.{across, allowed, freed, head_of, may_enter, may_leave, orders, others_of, tally, with_if}

-- ---- lists of numbers added place by place

abbrev plus : List ℕ → List ℕ → List ℕ
plus [] ys = []
plus (x ∷ xs) [] = []
plus (x ∷ xs) (y ∷ ys) = (x + y) ∷ plus xs ys

tail_of : List ℕ → List ℕ
tail_of [] = []
tail_of (x ∷ xs) = xs

plus_zeros : (xs : List ℕ) → plus (replicate (length xs) 0) xs ≡ xs
plus_zeros [] = refl
plus_zeros (x ∷ xs) = ap₂ ◌∷◌ (omega arith) (plus_zeros xs)

total_plus : (xs ys : List ℕ) → length xs ≡ length ys → total (plus xs ys) ≡ total xs + total ys
total_plus [] [] e = refl
total_plus [] (y ∷ ys) e = let z : ⊥ = omega arith in absurd z
total_plus (x ∷ xs) [] e = let z : ⊥ = omega arith in absurd z
total_plus (x ∷ xs) (y ∷ ys) e = omega (arith, total_plus xs ys (omega arith))

length_plus : (xs ys : List ℕ) → length xs ≡ length ys → length (plus xs ys) ≡ length xs
length_plus [] ys e = refl
length_plus (x ∷ xs) [] e = let z : ⊥ = omega arith in absurd z
length_plus (x ∷ xs) (y ∷ ys) e = ap suc (length_plus xs ys (omega arith))

-- ---- across a step

pub length-across : (m b : ℕ) (xs : List ℕ) → length (across m b xs) ≡ suc (length xs)
length-across m b [] = refl
length-across m b (x ∷ xs) = ap suc (length-across m (b + x) xs)

pub length-tally : (ms : List ℕ) → length (tally ms) ≡ suc (length ms)
length-tally [] = refl
length-tally (m ∷ ms) = length-across m 0 (tally ms) ∙ ap suc (length-tally ms)

allowed_plus : (m a b c d : ℕ) → allowed m (a + b) (c + d) ≡ allowed m a c + allowed m b d
allowed_plus zero a b c d = refl
allowed_plus (suc zero) a b c d = refl
allowed_plus (suc (suc m)) a b c d = omega arith

zeros-total : (k : ℕ) → total (replicate k 0) ≡ 0
zeros-total zero = refl
zeros-total (suc k) = omega (arith, zeros-total k)

-- A step is linear.
across_plus : (m a b : ℕ) (xs ys : List ℕ) → length xs ≡ length ys → across m (a + b) (plus xs ys) ≡ plus (across m a xs) (across m b ys)
across_plus m a b [] [] e = ap (λ (x : ℕ). x ∷ []) (allowed_plus m a b 0 0)
across_plus m a b [] (y ∷ ys) e = let z : ⊥ = omega arith in absurd z
across_plus m a b (x ∷ xs) [] e = let z : ⊥ = omega arith in absurd z
across_plus m a b (x ∷ xs) (y ∷ ys) e =
    ap₂ ◌∷◌ head (ap (λ (k : ℕ). across m k (plus xs ys)) places ∙ across_plus m (a + x) (b + y) xs ys (omega arith))
  where
    sums : (x + y) + total (plus xs ys) ≡ (x + total xs) + (y + total ys)
    sums = omega (arith, total_plus xs ys (omega arith))

    head : allowed m (a + b) ((x + y) + total (plus xs ys)) ≡ allowed m a (x + total xs) + allowed m b (y + total ys)
    head = ap (allowed m (a + b)) sums ∙ allowed_plus m a b (x + total xs) (y + total ys)

    places : (a + b) + (x + y) ≡ (a + x) + (b + y)
    places = omega arith

-- Orders that all stand before a list of none.
across-none : (m b k : ℕ) → across m b (replicate k 0) ≡ replicate (suc k) (allowed m b 0)
across-none m b zero = refl
across-none m b (suc k) = ap₂ ◌∷◌ (ap (allowed m b) (zeros-total (suc k))) (ap (λ (c : ℕ). across m c (replicate k 0)) none ∙ across-none m b k)
  where
    none : b + 0 ≡ b
    none = omega arith

-- A free step allows all.
pub across_free : (m b : ℕ) (xs : List ℕ) → across (suc (suc m)) b xs ≡ replicate (suc (length xs)) (b + total xs)
across_free m b [] = refl
across_free m b (x ∷ xs) = ap (λ (ys : List ℕ). (b + (x + total xs)) ∷ ys) (across_free m (b + x) xs ∙ ap (replicate (suc (length xs))) sums)
  where
    sums : (b + x) + total xs ≡ b + (x + total xs)
    sums = omega arith

-- ---- the first cell

-- Each of these marks tells of one cell fewer than k.
Fewer : ℕ → List (List ℕ) → Type 0
Fewer k [] = Unit {0}
Fewer k (o ∷ os) = (suc (length o) ≡ k) × Fewer k os

-- The tallies of such marks added up.
sum_tallies : ℕ → List (List ℕ) → List ℕ
sum_tallies k [] = replicate k 0
sum_tallies k (o ∷ os) = plus (tally o) (sum_tallies k os)

length_sum : (k : ℕ) (os : List (List ℕ)) → Fewer k os → length (sum_tallies k os) ≡ k
unfolding Fewer sum_tallies
length_sum k [] h = length-replicate {A = ℕ} k 0
length_sum k (o ∷ os) h = length_plus (tally o) (sum_tallies k os) (length-tally o ∙ h.0 ∙ sym (length_sum k os h.1)) ∙ length-tally o ∙ h.0

fewer_behind : (k m : ℕ) (os : List (List ℕ)) → Fewer k os → Fewer (suc k) (map (λ (o : List ℕ). m ∷ o) os)
unfolding Fewer
fewer_behind k m [] h = tt
fewer_behind k m (o ∷ os) h = (ap suc h.0, fewer_behind k m os h.1)

-- A step across a sum of tallies.
across_sum : (m k : ℕ) (os : List (List ℕ)) → Fewer k os → across m 0 (sum_tallies k os) ≡ sum_tallies (suc k) (map (λ (o : List ℕ). m ∷ o) os)
unfolding Fewer sum_tallies
across_sum m k [] h = across-none m 0 k ∙ ap (replicate (suc k)) (none m)
  where
    none : (m : ℕ) → allowed m 0 0 ≡ 0
    none zero = refl
    none (suc zero) = refl
    none (suc (suc m)) = omega arith
across_sum m k (o ∷ os) h =
    across_plus m 0 0 (tally o) (sum_tallies k os) (length-tally o ∙ h.0 ∙ sym (length_sum k os h.1))
    ∙ ap (plus (across m 0 (tally o))) (across_sum m k os h.1)

pub length-freed : (ms : List ℕ) → length (freed ms) ≡ length ms
length-freed [] = refl
length-freed (m ∷ ms) = refl

-- Every first cell leaves one cell fewer.
others_fewer : (ms : List ℕ) → Fewer (length ms) (others_of ms)
unfolding Fewer
others_fewer [] = tt
others_fewer (m ∷ ms) = go (may_enter m && may_leave ms) (fewer_behind (length ms) m (others_of ms) (others_fewer ms))
  where
    go : (b : Bool) → Fewer (suc (length ms)) (map (λ (o : List ℕ). m ∷ o) (others_of ms))
        → Fewer (suc (length ms)) (with_if b (freed ms) (map (λ (o : List ℕ). m ∷ o) (others_of ms)))
    go true h = (ap suc (length-freed ms), h)
    go false h = h

-- A tally is its first number and the others.
tally-cons : (ms : List ℕ) → tally ms ≡ orders ms ∷ tail_of (tally ms)
unfolding orders tail_of
tally-cons ms = go (tally ms) (length-tally ms)
  where
    go : (xs : List ℕ) → length xs ≡ suc (length ms) → xs ≡ head_of xs ∷ tail_of xs
    go [] e = let z : ⊥ = omega arith in absurd z
    go (x ∷ xs) e = refl

head_across : (m : ℕ) (xs : List ℕ) → head_of (across m 0 xs) ≡ allowed m 0 (total xs)
head_across m [] = refl
head_across m (x ∷ xs) = refl

-- Where the cell before may go first, the tally with its step freed is constant,
freed-tally : (ms : List ℕ) → may_leave ms ≡ true → tally (freed ms) ≡ replicate (suc (length ms)) (orders ms)
unfolding orders
freed-tally [] e = refl
freed-tally (m ∷ ms) e = across_free 0 0 (tally ms) ∙ ap₂ (replicate {A = ℕ}) (ap suc (length-tally ms)) (sym (head_across m (tally ms) ∙ all m e))
  where
    all : (m : ℕ) → may_leave (m ∷ ms) ≡ true → allowed m 0 (total (tally ms)) ≡ 0 + total (tally ms)
    all zero e = omega arith
    all (suc zero) e = absurd (false≢true e)
    all (suc (suc m)) e = refl

-- and where it may not, no order has none of these cells before it.
none_left : (ms : List ℕ) → may_leave ms ≡ false → orders ms ≡ 0
unfolding orders
none_left [] e = absurd (true≢false e)
none_left (zero ∷ ms) e = absurd (true≢false e)
none_left (suc zero ∷ ms) e = head_across 1 (tally ms)
none_left (suc (suc m) ∷ ms) e = absurd (true≢false e)

-- What a cell that is or is not a choice adds to the sum.
choice_sum : (m : ℕ) (ms : List ℕ) (os : List (List ℕ)) → Fewer (suc (length ms)) os
    → plus (replicate (suc (length ms)) (allowed m (orders ms) 0)) (sum_tallies (suc (length ms)) os)
    ≡ sum_tallies (suc (length ms)) (with_if (may_enter m && may_leave ms) (freed ms) os)
unfolding sum_tallies
choice_sum m ms os h = go m (may_leave ms) refl
  where
    same : (x : ℕ) → x ≡ 0 → plus (replicate (suc (length ms)) x) (sum_tallies (suc (length ms)) os) ≡ sum_tallies (suc (length ms)) os
    same x e =
        ap₂ (λ (l y : ℕ). plus (replicate l y) (sum_tallies (suc (length ms)) os)) (sym (length_sum (suc (length ms)) os h)) e ∙ plus_zeros (sum_tallies (suc (length ms)) os)

    more : (x : ℕ) → x ≡ orders ms → may_leave ms ≡ true
        → plus (replicate (suc (length ms)) x) (sum_tallies (suc (length ms)) os) ≡ plus (tally (freed ms)) (sum_tallies (suc (length ms)) os)
    more x e l = ap (λ (r : List ℕ). plus r (sum_tallies (suc (length ms)) os)) (ap (replicate (suc (length ms))) e ∙ sym (freed-tally ms l))

    go : (m : ℕ) (b : Bool) → may_leave ms ≡ b
        → plus (replicate (suc (length ms)) (allowed m (orders ms) 0)) (sum_tallies (suc (length ms)) os)
        ≡ sum_tallies (suc (length ms)) (with_if (may_enter m && b) (freed ms) os)
    go zero b e = same 0 refl
    go (suc zero) true e = more (orders ms) refl e
    go (suc (suc m)) true e = more (orders ms + 0) (omega arith) e
    go (suc zero) false e = same (orders ms) (none_left ms e)
    go (suc (suc m)) false e = same (orders ms + 0) (omega (arith, none_left ms e))

-- Past its first number a tally is the sum of the tallies of what the first cells leave.
tally-step : (ms : List ℕ) → tail_of (tally ms) ≡ sum_tallies (length ms) (others_of ms)
unfolding tail_of sum_tallies
tally-step [] = refl
tally-step (m ∷ ms) =
    ap (λ (r : List ℕ). tail_of (across m 0 r)) (tally-cons ms)
    ∙ ap₂ (across m) none (sym (plus_zeros rest))
    ∙ across_plus m (orders ms) 0 (replicate (length rest) 0) rest (length-replicate {A = ℕ} (length rest) 0)
    ∙ ap₂ plus first (ap (across m 0) (tally-step ms) ∙ across_sum m (length ms) (others_of ms) (others_fewer ms))
    ∙ choice_sum m ms (map (λ (o : List ℕ). m ∷ o) (others_of ms)) (fewer_behind (length ms) m (others_of ms) (others_fewer ms))
  where
    rest : List ℕ
    rest = tail_of (tally ms)

    none : 0 + orders ms ≡ orders ms + 0
    none = omega arith

    size : length (tail_of (tally ms)) ≡ length ms
    size = let e : suc (length (tail_of (tally ms))) ≡ suc (length ms) = sym (ap length (tally-cons ms)) ∙ length-tally ms in omega arith

    first : across m (orders ms) (replicate (length rest) 0) ≡ replicate (suc (length ms)) (allowed m (orders ms) 0)
    first = across-none m (orders ms) (length rest) ∙ ap (λ (l : ℕ). replicate (suc l) (allowed m (orders ms) 0)) size

-- The orders of these marks together.
abbrev pub orders_of : List (List ℕ) → ℕ
orders_of [] = 0
orders_of (o ∷ os) = orders o + orders_of os

head_sum : (k : ℕ) (os : List (List ℕ)) → Fewer (suc k) os → head_of (sum_tallies (suc k) os) ≡ orders_of os
unfolding Fewer sum_tallies
head_sum k [] h = refl
head_sum k (o ∷ os) h =
    ap (λ (r : List ℕ). head_of (plus r (sum_tallies (suc k) os))) (tally-cons o)
    ∙ go (sum_tallies (suc k) os) (length_sum (suc k) os h.1) ∙ ap (λ (x : ℕ). orders o + x) (head_sum k os h.1)
  where
    go : (xs : List ℕ) → length xs ≡ suc k → head_of (plus (orders o ∷ tail_of (tally o)) xs) ≡ orders o + head_of xs
    go [] e = let z : ⊥ = omega arith in absurd z
    go (x ∷ xs) e = refl

second : (m : ℕ) (ms : List ℕ) → orders (suc (suc m) ∷ ms) ≡ head_of (tail_of (tally (suc (suc m) ∷ ms)))
unfolding orders tail_of
second m ms = go (tally ms) (length-tally ms)
  where
    go : (xs : List ℕ) → length xs ≡ suc (length ms) → head_of (across (suc (suc m)) 0 xs) ≡ head_of (tail_of (across (suc (suc m)) 0 xs))
    go xs e = rw (across_free m 0 xs, e)

-- Where the first step is free, the orders are those of what each first cell leaves.
pub orders-step : (m : ℕ) (ms : List ℕ) → orders (suc (suc m) ∷ ms) ≡ orders_of (others_of (suc (suc m) ∷ ms))
orders-step m ms =
    second m ms ∙ ap head_of (tally-step (suc (suc m) ∷ ms)) ∙ head_sum (length ms) (others_of (suc (suc m) ∷ ms)) (others_fewer (suc (suc m) ∷ ms))
