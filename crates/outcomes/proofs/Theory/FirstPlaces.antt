-- The place of a refusal is the first such place (document 01, "Returned instead of a result"). Each of the checks 4 to 8 is one scan over the places of
-- its input for the first at which its fault stands; with what passes each check (Judgements, StepJudgements) this fixes number and place of every
-- refusal that has more than one place to name.
--     scan-passes                a scan passes exactly when no fault stands
--     scan-first                 what a refusal by a scan says
--     letters-scan, rising-scan, marks-scan, entries_scan, recording_scan     4, 5, 6, 7, 8 as scans
-- Assumes nothing.
use Prim.Native.Nat.{ℕ, zero, suc, ◌+◌, ◌<◌}
use native.Mathlib.Nat.{le_of_suc-le-suc, not-suc-le-zero}
use native.Mathlib.Omega.{arith}
use mathlib.Core.Path.{◌≡◌, refl, sym, ap, ap₂, ◌∙◌}
use mathlib.Core.Bool.{Bool, true, false, ◌&&◌, ◌||◌, or_assoc, or_comm, or-false}
use mathlib.Core.List.{List, [], ◌∷◌}
use mathlib.Core.Logic.{◌↔◌}
use lib.Dec.{eqb, ltb}
use lib.ListN.{length, get_or, take}
use Rattle.hypoplactic.specs.Words.{occurs}
use Rattle.outcomes.specs.Replies.{Said, Passes, refused, refuse_if}
use Rattle.outcomes.specs.Judgements.{outside, letters_from, letters_judged, rising_from, rising_judged, marks_from, marks_judged, entries_from, entries_judged, step_broken, steps_from, recording_judged}
use Rattle.outcomes.specs.FirstPlaces.{First, mark_fault, scan, shorter}
use Rattle.outcomes.proofs.Theory.Passing.{passes_then}

-- A scan passes exactly when no fault stands.
pub scan-passes : (k i size : ℕ) (fault : ℕ → Bool) → Passes (scan k i size fault) ↔ ((q : ℕ) → q < size → fault q ≡ false)
scan-passes k i zero fault = (λ p q l. absurd (not-suc-le-zero l), λ f. tt)
scan-passes k i (suc size) fault =
    let r = passes_then (fault 0) k i _ (λ e. e, λ e. e) (scan-passes k (suc i) size (λ q. fault (suc q))) in
    (λ p. all (r.0 p), λ f. r.1 (f 0 (omega arith), λ q l. f (suc q) (omega arith)))
  where
    all : (fault 0 ≡ false) × ((q : ℕ) → q < size → fault (suc q) ≡ false) → (q : ℕ) → q < suc size → fault q ≡ false
    all h zero l = h.0
    all h (suc q) l = h.1 q (le_of_suc-le-suc l)

-- A scan refuses with its own number, at the first fault's place.
pub scan-first : (k i size : ℕ) (fault : ℕ → Bool) (j p : ℕ) → scan k i size fault ≡ refused j p → (d : ℕ) × (j ≡ k) × (p ≡ i + d) × First fault size d
scan-first k i zero fault j p e = let z : ◌≡◌ {A = ℕ} 0 1 = cc in let f : ⊥ = omega arith in absurd f
scan-first k i (suc size) fault j p e = go (fault 0) refl e (λ h. scan-first k (suc i) size (λ q. fault (suc q)) j p h)
  where
    rest : Said
    rest = scan k (suc i) size (λ q. fault (suc q))

    go : (b : Bool) → fault 0 ≡ b → refuse_if b k i rest ≡ refused j p
        → (rest ≡ refused j p → (d : ℕ) × (j ≡ k) × (p ≡ suc i + d) × First (λ q. fault (suc q)) size d) → (d : ℕ) × (j ≡ k) × (p ≡ i + d) × First fault (suc size) d
    go true b e next =
        let x : k ≡ j = cc in
        let y : i ≡ p = cc in
        (0, sym x, omega arith, record { within = omega arith; stands = b; none_before = λ q h. absurd (not-suc-le-zero h) })
    go false b e next =
        let (d, x, y, f) = next e in
        (suc d, x, omega arith, record { within = omega (arith, f.within); stands = f.stands; none_before = before b f.none_before })
      where
        before : {d : ℕ} → fault 0 ≡ false → ((q : ℕ) → q < d → fault (suc q) ≡ false) → (q : ℕ) → q < suc d → fault q ≡ false
        before b f zero h = b
        before b f (suc q) h = f q (le_of_suc-le-suc h)

-- Scans for faults that agree are one scan.
scan_same : (k i size : ℕ) (f g : ℕ → Bool) → ((q : ℕ) → f q ≡ g q) → scan k i size f ≡ scan k i size g
scan_same k i zero f g h = refl
scan_same k i (suc size) f g h = ap₂ (λ (b : Bool) (s : Said). refuse_if b k i s) (h 0) (scan_same k (suc i) size (λ q. f (suc q)) (λ q. g (suc q)) (λ q. h (suc q)))

-- ---- 4: a letter outside 1 to rank

letters_from_lem : (n i : ℕ) (xs : List ℕ) → letters_from n i xs ≡ scan 4 i (length xs) (λ q. outside n (get_or xs q 0))
letters_from_lem n i [] = refl
letters_from_lem n i (x ∷ xs) = ap (refuse_if (outside n x) 4 i) (letters_from_lem n (suc i) xs)

pub letters-scan : (n : ℕ) (xs : List ℕ) → letters_judged n xs ≡ scan 4 0 (length xs) (λ q. outside n (get_or xs q 0))
unfolding letters_judged
letters-scan n xs = letters_from_lem n 0 xs

-- ---- 5: a letter smaller than the one before it, at the later cell's place

rising_from_lem : (i x : ℕ) (ys : List ℕ) → rising_from i x ys ≡ scan 5 i (length ys) (λ q. ltb (get_or ys q 0) (get_or (x ∷ ys) q 0))
rising_from_lem i x [] = refl
rising_from_lem i x (y ∷ ys) = ap (refuse_if (ltb y x) 5 i) (rising_from_lem (suc i) y ys)

pub rising-scan : (x : ℕ) (ys : List ℕ) → rising_judged (x ∷ ys) ≡ scan 5 1 (length ys) (λ q. ltb (get_or (x ∷ ys) (suc q) 0) (get_or (x ∷ ys) q 0))
unfolding rising_judged
rising-scan x ys = rising_from_lem 1 x ys

-- ---- 6: a first mark that is not 0, a mark that is not 0 or 1, down between equals, the last at the later cell's place

marks_from_lem : (i x : ℕ) (ys ms : List ℕ)
    → marks_from i x ys ms ≡ scan 6 i (shorter ys ms) (λ q. ltb 1 (get_or ms q 0) || eqb (get_or ms q 0) 1 && eqb (get_or (x ∷ ys) q 0) (get_or ys q 0))
marks_from_lem i x [] ms = refl
marks_from_lem i x (y ∷ ys) [] = refl
marks_from_lem i x (y ∷ ys) (m ∷ ms) = ap (refuse_if (ltb 1 m || eqb m 1 && eqb x y) 6 i) (marks_from_lem (suc i) y ys ms)

pub marks-scan : (xs ms : List ℕ) → marks_judged xs ms ≡ scan 6 0 (shorter xs ms) (mark_fault xs ms)
unfolding marks_judged
marks-scan [] ms = refl
marks-scan (x ∷ xs) [] = refl
marks-scan (x ∷ xs) (m ∷ ms) = ap (refuse_if (ltb 0 m) 6 0) (marks_from_lem 1 x xs ms)

-- ---- 7: an entry that is 0, above L, or met before, at its second place

or_turned : (a b c d : Bool) → (a || (c || (b || d))) ≡ (a || (b || c || d))
or_turned a b c d = ap (λ (x : Bool). a || x) (sym (or_assoc c b d) ∙ ap (λ (x : Bool). x || d) (or_comm c b))

entries_from_lem : (L i : ℕ) (met rs : List ℕ)
    → entries_from L met i rs ≡ scan 7 i (length rs) (λ q. outside L (get_or rs q 0) || (occurs (get_or rs q 0) (take q rs) || occurs (get_or rs q 0) met))
entries_from_lem L i met [] = refl
entries_from_lem L i met (r ∷ rs) =
    ap (refuse_if (outside L r || occurs r met) 7 i)
    (entries_from_lem L (suc i) (r ∷ met) rs
    ∙ scan_same 7 (suc i) (length rs) _ _
    (λ q. or_turned (outside L (get_or rs q 0)) (eqb r (get_or rs q 0)) (occurs (get_or rs q 0) (take q rs)) (occurs (get_or rs q 0) met)))

pub entries_scan : (L : ℕ) (rs : List ℕ) → entries_judged L rs ≡ scan 7 0 (length rs) (λ q. outside L (get_or rs q 0) || occurs (get_or rs q 0) (take q rs))
unfolding entries_judged
entries_scan L rs =
    entries_from_lem L 0 [] rs ∙ scan_same 7 0 (length rs) _ _ (λ q. ap (λ (x : Bool). outside L (get_or rs q 0) || x) (or-false (occurs (get_or rs q 0) (take q rs))))

-- ---- 8: a step that the entries break, at the later cell's place

steps_from_lem : (i r : ℕ) (ss ms : List ℕ) → steps_from i r ss ms ≡ scan 8 i (shorter ss ms) (λ q. step_broken (get_or ms q 0) (get_or (r ∷ ss) q 0) (get_or ss q 0))
steps_from_lem i r [] ms = refl
steps_from_lem i r (s ∷ ss) [] = refl
steps_from_lem i r (s ∷ ss) (m ∷ ms) = ap (refuse_if (step_broken m r s) 8 i) (steps_from_lem (suc i) s ss ms)

pub recording_scan : (r : ℕ) (rs : List ℕ) (m : ℕ) (ms : List ℕ)
    → recording_judged (r ∷ rs) (m ∷ ms) ≡ scan 8 1 (shorter rs ms) (λ q. step_broken (get_or ms q 0) (get_or (r ∷ rs) q 0) (get_or rs q 0))
unfolding recording_judged
recording_scan r rs m ms = steps_from_lem 1 r rs ms
