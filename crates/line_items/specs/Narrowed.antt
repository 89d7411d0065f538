-- Letters narrowed to bytes are judged, replied to and stored as the letters.
--     narrowed-judged      they are the letters, or 4 refuses both at one place
--     stops_at             a refusal in a chain leaves memory as it was, whatever follows it
--     narrowed_run         whatever else is judged and stored, narrowed letters are replied to as the letters
-- Assumes nothing.
use Rattle.std.specs.Prelude.{ℕ, suc, ◌≤◌, ◌≡◌, refl, Bool, true, false, List, [], ◌∷◌, ◌++◌, map, ◌⊎◌, ltb}
use Rattle.std.proofs.Common.{sym, ap, ◌∙◌, inl, inr, arith, ltb-false, lt-ltb}
use Rattle.std.proofs.Math.Bool.{or-true}
use Rattle.outcomes.specs.Judgements.{letters_from, letters_judged, outside}
use Rattle.outcomes.specs.Replies.{Said, first, gives, passed, ran_to, refused}
use Rattle.acceptance.specs.Bytes.{narrowed}

-- They are the letters, or 4 refuses both at one place.
abbrev Alike : ℕ → ℕ → List ℕ → Type 0
Alike n i xs = (map narrowed xs ≡ xs) ⊎ ((p : ℕ) × (letters_from n i (map narrowed xs) ≡ refused 4 p) × (letters_from n i xs ≡ refused 4 p))

narrowed_from : (n i : ℕ) (xs : List ℕ) → n ≤ 64 → Alike n i xs
narrowed_from n i [] h = inl refl
narrowed_from n i (x ∷ xs) h = go (ltb x 256) (outside n x) refl refl (narrowed_from n (suc i) xs h)
  where
    go : (b c : Bool) → ltb x 256 ≡ b → outside n x ≡ c → Alike n (suc i) xs → Alike n i (x ∷ xs)
    go true true e f r = inr (i, rw (e, f), rw f)
    go true false e f (inl q) = inl (rw (e, q))
    go true false e f (inr (p, q, s)) = inr (p, rw (e, f) q, rw f s)
    go false c e f r =
        let large : 256 ≤ x = ltb-false x 256 e in
        let above : ltb n x ≡ true = lt-ltb n x (omega arith) in
        inr (i, rw e, rw (above, or-true))

narrowed-judged : (n : ℕ) (xs : List ℕ) → n ≤ 64
    → (map narrowed xs ≡ xs) ⊎ ((p : ℕ) × (letters_judged n (map narrowed xs) ≡ refused 4 p) × (letters_judged n xs ≡ refused 4 p))
unfolding letters_judged
narrowed-judged n xs h = narrowed_from n 0 xs h

-- A refusal in a chain leaves memory as it was, whatever follows it.
stops_at : {A : Type 0} (js : List Said) (k p : ℕ) (ks : List Said) (a : Said) (new old : A)
    → ran_to (first (js ++ (refused k p ∷ ks)) a) new old ≡ (first (js ++ (refused k p ∷ [])) passed, old)
stops_at [] k p ks a new old = refl
stops_at (gives vs ∷ js) k p ks a new old = stops_at js k p ks a new old
stops_at (refused j i ∷ js) k p ks a new old = refl

-- So whatever else is judged, replied and stored of letters once 4 has judged them, narrowed letters are replied to as the letters.
pub narrowed_run : {A : Type 0} (n : ℕ) (xs : List ℕ) (front rest : List ℕ → List Said) (answer : List ℕ → Said) (new : List ℕ → A) (old : A) → n ≤ 64
    → front (map narrowed xs) ≡ front xs
    → ran_to (first (front (map narrowed xs) ++ (letters_judged n (map narrowed xs) ∷ rest (map narrowed xs))) (answer (map narrowed xs))) (new (map narrowed xs)) old
    ≡ ran_to (first (front xs ++ (letters_judged n xs ∷ rest xs)) (answer xs)) (new xs) old
narrowed_run {A} n xs front rest answer new old h same = go (narrowed-judged n xs h)
  where
    run : List ℕ → Said → Said × A
    run ws j = ran_to (first (front ws ++ (j ∷ rest ws)) (answer ws)) (new ws) old

    go : (map narrowed xs ≡ xs) ⊎ ((p : ℕ) × (letters_judged n (map narrowed xs) ≡ refused 4 p) × (letters_judged n xs ≡ refused 4 p))
        → run (map narrowed xs) (letters_judged n (map narrowed xs)) ≡ run xs (letters_judged n xs)
    go (inl e) = ap (λ (ws : List ℕ). run ws (letters_judged n ws)) e
    go (inr (p, e, f)) =
        ap (run (map narrowed xs)) e ∙ stops_at (front (map narrowed xs)) 4 p (rest (map narrowed xs)) (answer (map narrowed xs)) (new (map narrowed xs)) old
        ∙ ap (λ (js : List Said). (first (js ++ (refused 4 p ∷ [])) passed, old)) same
        ∙ sym (ap (run xs) f ∙ stops_at (front xs) 4 p (rest xs) (answer xs) (new xs) old)
