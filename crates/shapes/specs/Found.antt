-- What the first place with a fault tells: it, or that there is none, is what a check that scans for the fault says.
--     FirstAt told i size p      p is the first place from i on, below size, of which it is told that its fault stands, if there is one
--     first_told                 what the check then says
-- Assumes nothing.
use Rattle.std.specs.Prelude.{ℕ, zero, suc, ◌+◌, ◌-◌, ◌<◌, ◌≤◌, ◌≡◌, refl, Bool, true, false, [], Option, Some, None, MatchOption}
use Rattle.std.proofs.Common.{arith, ap, sym, ◌∙◌}
use Rattle.std.proofs.Math.Decide.{dec_lt}
use Rattle.outcomes.specs.Replies.{Said, gives, refused}
use Rattle.refusals.specs.Said.{said_fault}
use Rattle.refusals.specs.Scanning.{Scanning, scan_from}

abbrev First : (ℕ → Bool → Type 0) → ℕ → ℕ → Option ℕ → Type 0
First told i size p =
    MatchOption p ((k : ℕ) → i ≤ k → k < size → told k false)
    (λ q. (i ≤ q) × (q < size) × told q true × ((k : ℕ) → i ≤ k → k < q → told k false))

pub record FirstAt (told : ℕ → Bool → Type 0) (i size : ℕ) (p : Option ℕ) : Type 0 where
  pub first : First told i size p

-- A scan over places without fault,
scan_none : (k : ℕ) (fault : ℕ → Bool) (i n : ℕ) → ((q : ℕ) → i ≤ q → q < i + n → fault q ≡ false) → scan_from k fault i n ≡ gives []
unfolding scan_from
scan_none k fault i zero h = refl
scan_none k fault i (suc n) h = rw (h i (omega arith) (omega arith), scan_none k fault (suc i) n (λ q l m. h q (omega arith) (omega arith)))

-- and one that comes to a fault.
scan_first : (k : ℕ) (fault : ℕ → Bool) (i n p : ℕ) → i ≤ p → p < i + n → fault p ≡ true → ((q : ℕ) → i ≤ q → q < p → fault q ≡ false)
    → scan_from k fault i n ≡ refused k p
unfolding scan_from
scan_first k fault i zero p l m e h = absurd (omega arith)
scan_first k fault i (suc n) p l m e h =
    elim (dec_lt i p) [
      | yes q ↦ rw (h i (omega arith) (omega arith), scan_first k fault (suc i) n p (omega arith) (omega arith) e (λ r a b. h r (omega arith) b)) refl
      | no q ↦ let here : i ≡ p = omega arith in let stands : fault i ≡ true = ap fault here ∙ e in rw (stands, here) refl
    ]

first_said : {k : ℕ} {fault : ℕ → Bool} {size i : ℕ} {whole : Said} (p : Option ℕ) → Scanning k fault size whole i → First (λ k b. fault k ≡ b) i size p
    → said_fault k p ≡ whole
first_said {k} {fault} {size} {i} None s h = sym (s.left ∙ scan_none k fault i (size - i) (λ q l m. h q l (omega arith)))
first_said {k} {fault} {size} {i} (Some q) s h = sym (s.left ∙ scan_first k fault i (size - i) q h.0 (omega (arith, h.0, h.1)) h.2 h.3)

-- Where what is told of a place is whether the check's fault stands there, the check says the first place that is told.
pub first_told : {k : ℕ} {fault : ℕ → Bool} {size i : ℕ} {whole : Said} {told : ℕ → Bool → Type 0} {p : Option ℕ} → Scanning k fault size whole i
    → FirstAt told i size p → ((q : ℕ) (b : Bool) → i ≤ q → q < size → told q b → fault q ≡ b) → said_fault k p ≡ whole
first_told {k} {fault} {size} {i} {whole} {told} {p} s h t = go p h.first
  where
    go : (p : Option ℕ) → First told i size p → said_fault k p ≡ whole
    go None f = first_said None s (λ q l m. t q false l m (f q l m))
    go (Some q) f = first_said (Some q) s (f.0, f.1, t q true f.0 f.1 f.2, λ r l m. t r false l (omega (arith, f.1)) (f.3 r l m))
