-- Each of 1 to L once: a list of L entries holds each of these numbers once exactly when every entry is one of them and none stands twice.
--     once_entries     the two forms of that
-- Assumes nothing.
use Prim.Native.Nat.{ℕ, zero, suc, ◌≤◌}
use native.Mathlib.Omega.{arith}
use native.Mathlib.Decide.{dec_le}
use mathlib.Core.Path.{◌≡◌, refl}
use mathlib.Core.List.{List}
use mathlib.Core.Logic.{◌↔◌, dite}
use lib.ListN.{length}
use Rattle.hypoplactic.specs.Words.{Inside, Within, count}
use Rattle.hypoplactic.specs.Ribbons.{Simple}
use Rattle.hypoplactic.specs.Weights.{sum_to}
use Rattle.hypoplactic.proofs.Theory.Placing.{Once}
use Rattle.hypoplactic.proofs.Theory.Contents.{within-counts, sum_within}

sum_simple : (k : ℕ) (rs : List ℕ) → Simple rs → sum_to k rs ≤ k
sum_simple zero rs h = omega arith
sum_simple (suc k) rs h = omega (arith, sum_simple k rs h, h (suc k))

-- So many numbers inside, none twice: each of them once.
once_full : (k : ℕ) (rs : List ℕ) → Simple rs → sum_to k rs ≡ k → Once k rs
once_full zero rs h s e low high = let z : ⊥ = omega arith in absurd z
once_full (suc k) rs h s e low high = dite (dec_le e k)
    (λ (le : e ≤ k). once_full k rs h (omega (arith, sum_simple k rs h, h (suc k))) e low le)
    (λ (gt : ¬ (e ≤ k)). let top : e ≡ suc k = omega arith in rw top (omega (arith, sum_simple k rs h, h (suc k))))

sum_once : (k : ℕ) (rs : List ℕ) → Once k rs → sum_to k rs ≡ k
sum_once zero rs h = refl
sum_once (suc k) rs h = omega (arith, sum_once k rs (λ e low high. h e low (omega arith)), h (suc k) (omega arith) (omega arith))

-- Each of 1 to L once, L being the number of entries: every entry is one of 1 to L, and none stands twice.
pub once_entries : (rs : List ℕ) → Once (length rs) rs ↔ (Within (length rs) rs × Simple rs)
once_entries rs = (there, λ h. once_full (length rs) rs h.1 ((sum_within (length rs) rs).1 h.0))
  where
    there : Once (length rs) rs → Within (length rs) rs × Simple rs
    there h =
        let within : Within (length rs) rs = (sum_within (length rs) rs).0 (sum_once (length rs) rs h) in
        let simple : Simple rs = λ e. dite (dec_le 1 (count e rs))
        (λ (c : 1 ≤ count e rs). let i : Inside (length rs) e = (within-counts (length rs) rs).0 within e c in omega (arith, h e i.0 i.1))
        (λ (c : ¬ (1 ≤ count e rs)). omega arith) in
        (within, simple)
