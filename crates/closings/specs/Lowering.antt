-- Entries one less each: the loop over a list of them.
--     Lowering rs i ss     its invariant: those before place i are one less
--     lower_start, lower_turn, lower_end     where it begins, one entry more, past the last one
--     lowered_length       as many entries as before
--     lowering             the ruleset of the loop
-- Assumes nothing.
use Rattle.std.specs.Prelude.{ℕ, suc, ◌+◌, ◌-◌, ◌≤◌, ◌<◌, ◌≡◌, refl, List, [], ◌∷◌, ◌++◌, length, get_or, set, take, drop}
use Rattle.std.proofs.Common.{arith, add-one, sym, ap, ◌∙◌, append-nil, length-set, drop-cons, length-take-le, take-suc, rules}
use Rattle.std.proofs.Math.Seq.{append_snoc, drop-length, take-length}
use Rattle.std.proofs.lemmas.List.{get_or_at, set_at}
use Rattle.windows.specs.Gaps.{lowered}

-- Those before place i are one less.
pub record Lowering (rs : List ℕ) (i : ℕ) (ss : List ℕ) : Type 0 where
  pub within : i ≤ length rs
  pub size : length ss ≡ length rs
  pub less : ss ≡ lowered (take i rs) ++ drop i rs

pub lowered_length : (rs : List ℕ) → length (lowered rs) ≡ length rs
lowered_length [] = refl
lowered_length (r ∷ rs) = ap suc (lowered_length rs)

lowered_snoc : (rs : List ℕ) (r : ℕ) → lowered (rs ++ (r ∷ [])) ≡ lowered rs ++ ((r - 1) ∷ [])
lowered_snoc [] r = refl
lowered_snoc (s ∷ rs) r = ap (λ (l : List ℕ). (s - 1) ∷ l) (lowered_snoc rs r)

pub lower_start : (rs : List ℕ) → Lowering rs 0 rs
lower_start rs = record { within = omega arith; size = refl; less = refl }

module _ {rs : List ℕ} {i : ℕ} {ss : List ℕ} (s : Lowering rs i ss) where
  -- The entry at place i becomes one less.
  pub lower_turn : {v : ℕ} → i < length ss → v ≡ get_or ss i 0 - 1 → Lowering rs (i + 1) (set ss i v)
  lower_turn {v} h e =
      let l : i < length rs = omega (arith, s.size) in
      let p : List ℕ = lowered (take i rs) in
      let front : length p ≡ i = lowered_length (take i rs) ∙ length-take-le i rs (omega arith) in
      let open_at : ss ≡ p ++ get_or rs i 0 ∷ drop (suc i) rs = s.less ∙ rw (drop-cons rs i 0 l) in
      let here : get_or ss i 0 ≡ get_or rs i 0 = ap (λ (l : List ℕ). get_or l i 0) open_at ∙ get_or_at p (get_or rs i 0) (drop (suc i) rs) 0 i front in
      rw (add-one i) (record {
        within = omega arith;
        size = length-set ss i v ∙ s.size;
        less =
            ap (λ (l : List ℕ). set l i v) open_at ∙ set_at p (get_or rs i 0) (drop (suc i) rs) v i front
            ∙ ap (λ (x : ℕ). p ++ x ∷ drop (suc i) rs) (e ∙ ap (λ (x : ℕ). x - 1) here)
            ∙ sym (
            ap (λ (l : List ℕ). lowered l ++ drop (suc i) rs) (take-suc rs i 0 l)
            ∙ ap (λ (l : List ℕ). l ++ drop (suc i) rs) (lowered_snoc (take i rs) (get_or rs i 0))
            ∙ append_snoc p (get_or rs i 0 - 1) (drop (suc i) rs)
            );
      })

  -- Where no entry is left, all are one less.
  pub lower_end : length ss ≤ i → ss ≡ lowered rs
  lower_end h =
      let all : i ≡ length rs = omega (arith, s.size, s.within) in
      s.less ∙ rw (all, take-length, drop-length, append-nil)

pub ruleset lowering = (lower_start, lower_turn, lower_end, rules)
