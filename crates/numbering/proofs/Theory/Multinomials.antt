-- Binomial and multinomial coefficients.
--     choose-none               more than all cannot be chosen
--     choose-factorial          choose (n + k) k, times the factorials of k and n, is the factorial of n + k
--     multinomial-factorial     a multinomial coefficient times the factorials of its parts is the factorial of their sum
--     multinomials-append       the sum over two lists of compositions is the sum over both
--     multinomials-before       a further part before compositions that all have one sum gives one binomial factor
--     coarser_totals            all compositions coarser than one have its sum
-- Assumes nothing.
use Prim.Native.Nat.{ℕ, zero, suc, ◌+◌, ◌*◌, ◌<◌}
use native.Mathlib.Nat.{add_assoc, add_comm, zero-add}
use native.Mathlib.Omega.{arith}
use mathlib.Core.Path.{◌≡◌, refl, ap, ap₂, sym, ◌∙◌}
use mathlib.Core.Bool.{Bool, true, false, not}
use mathlib.Core.List.{List, [], ◌∷◌, ◌++◌, map}
use Rattle.numbering.specs.Compositions.{choose, coarser, coarser_from, factorial, factorials, multinomial, multinomials, total}

-- ---- factorials

-- More than all cannot be chosen.
pub choose-none : (n k : ℕ) → n < k → choose n k ≡ 0
choose-none n zero h = let z : ⊥ = omega arith in absurd z
choose-none zero (suc k) h = refl
choose-none (suc n) (suc k) h = ap₂ ◌+◌ (choose-none n k (omega arith)) (choose-none n (suc k) (omega arith))

-- Each part of Pascal's rule, with the factorials that belong to it, is the factorial F of one less.
pascal_factorial : (n k s p q f g F : ℕ) → n + k ≡ s → p * (f * (n * g)) ≡ F → q * (k * f * g) ≡ F → (p + q) * (k * f * (n * g)) ≡ s * F
pascal_factorial n k s p q f g F e h i =
    omega (arith, ap (λ (x : ℕ). k * x) h, ap (λ (x : ℕ). n * x) i, ap (λ (x : ℕ). x * F) e)

-- The same where none are left over.
all-factorial : (k s p q f F : ℕ) → k ≡ s → q ≡ 0 → p * (f * 1) ≡ F → (p + q) * (k * f * 1) ≡ s * F
all-factorial k s p q f F e i h = omega (arith, ap (λ (x : ℕ). k * x) h, ap (λ (x : ℕ). x * (k * f)) i, ap (λ (x : ℕ). x * F) e)

-- A binomial coefficient by factorials.
pub choose-factorial : (s n k : ℕ) → n + k ≡ s → choose s k * (factorial k * factorial n) ≡ factorial s
choose-factorial s n zero e = let q : n ≡ s = omega arith in rw q (omega arith)
choose-factorial zero n (suc k) e = let z : ⊥ = omega arith in absurd z
choose-factorial (suc s) zero (suc k) e =
    all-factorial (suc k) (suc s) (choose s k) (choose s (suc k)) (factorial k) (factorial s) (omega arith)
    (choose-none s (suc k) (omega arith)) (choose-factorial s zero k (omega arith))
choose-factorial (suc s) (suc n) (suc k) e =
    pascal_factorial (suc n) (suc k) (suc s) (choose s k) (choose s (suc k)) (factorial k) (factorial n) (factorial s) e
    (choose-factorial s (suc n) k (omega arith)) (choose-factorial s n (suc k) (omega arith))

-- One part b more, where the others have the coefficient m and the factorials f.
one_more_part : (c m b f t w : ℕ) → m * f ≡ t → c * (b * t) ≡ w → c * m * (b * f) ≡ w
one_more_part c m b f t w e h = omega (arith, h, ap (λ (x : ℕ). c * (b * x)) e)

-- A multinomial coefficient times the factorials of its parts is the factorial of their sum.
pub multinomial-factorial : (bs : List ℕ) → multinomial bs * factorials bs ≡ factorial (total bs)
multinomial-factorial [] = refl
multinomial-factorial (b ∷ bs) =
    one_more_part (choose (total bs + b) b) (multinomial bs) (factorial b) (factorials bs) (factorial (total bs)) (factorial (b + total bs))
    (multinomial-factorial bs) (choose-factorial (total bs + b) (total bs) b refl ∙ ap factorial (add_comm (total bs) b))

-- ---- sums over compositions

-- The compositions of two lists.
pub multinomials-append : (bs cs : List (List ℕ)) → multinomials (bs ++ cs) ≡ multinomials bs + multinomials cs
multinomials-append [] cs = sym (zero-add (multinomials cs))
multinomials-append (b ∷ bs) cs = omega (arith, multinomials-append bs cs)

-- Each of these compositions has the sum s.
abbrev pub Totals : ℕ → List (List ℕ) → Type 0
Totals s [] = Unit {0}
Totals s (b ∷ bs) = (total b ≡ s) × Totals s bs

-- A further part c before each of them.
pub multinomials-before : (c s : ℕ) (bs : List (List ℕ)) → Totals s bs
    → multinomials (map (λ (b : List ℕ). c ∷ b) bs) ≡ choose (s + c) c * multinomials bs
multinomials-before c s [] h = omega arith
multinomials-before c s (b ∷ bs) (e, h) = rw (multinomials-before c s bs h, e) (omega arith)

-- Compositions of one sum, in two lists and after a further part.
totals_append : (s : ℕ) (bs cs : List (List ℕ)) → Totals s bs → Totals s cs → Totals s (bs ++ cs)
totals_append s [] cs h i = i
totals_append s (b ∷ bs) cs (e, h) i = (e, totals_append s bs cs h i)

totals_before : (c s : ℕ) (bs : List (List ℕ)) → Totals s bs → Totals (c + s) (map (λ (b : List ℕ). c ∷ b) bs)
totals_before c s [] h = tt
totals_before c s (b ∷ bs) (e, h) = (ap (λ (x : ℕ). c + x) e, totals_before c s bs h)

totals_from : (even : Bool) (c : ℕ) (ds : List ℕ) → Totals (c + total ds) (coarser_from even c ds)
totals_from true c [] = (refl, tt)
totals_from false c [] = tt
totals_from even c (d ∷ ds) =
    totals_append (c + (d + total ds)) (map (λ (b : List ℕ). c ∷ b) (coarser_from even d ds)) (coarser_from (not even) (c + d) ds)
    (totals_before c (d + total ds) (coarser_from even d ds) (totals_from even d ds))
    (rw (← add_assoc c d (total ds)) (totals_from (not even) (c + d) ds))

-- Merging keeps the sum.
pub coarser_totals : (even : Bool) (cs : List ℕ) → Totals (total cs) (coarser even cs)
coarser_totals true [] = (refl, tt)
coarser_totals false [] = tt
coarser_totals even (c ∷ cs) = totals_from even c cs
