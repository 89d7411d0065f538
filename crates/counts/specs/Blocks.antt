-- The first pass of the check 17. Rising letters are cut into blocks as long as the counts say: where each block begins and ends with its own letter and
-- the blocks use up all letters, every count is true. Where this does not come out, nothing is said, and the scan (Comparing) decides.
--     Rises xs                  the numbers never fall, from any place to any later one
--     Block xs at end b r       what the test of one block shows: where it is not empty it is within the letters, and begins and ends with b
--     Confirmed xs cs r         what the pass shows: where r is true, so is each count
--     Agreed xs cs a at         the loop's invariant: the first a counts are those of the letters before place at, which are at most a
--     agreed_start, agreed_turn, agreed_end, not_confirmed     where it begins, after a block, past the last one, where it gives up
--     agreeing                  the ruleset of the pass
-- Assumes nothing.
use Rattle.std.specs.Prelude.{ℕ, zero, suc, ◌+◌, ◌-◌, ◌≤◌, ◌<◌, ◌≡◌, refl, Bool, true, false, List, [], ◌∷◌, ◌++◌, ◌⊎◌, eqb, length, get_or, take}
use Rattle.std.proofs.Common.{sym, subst, ◌∙◌, true≢false, inl, inr, add-one, arith, take-suc, rules, eqb-true}
use Rattle.std.proofs.Math.Seq.{take-length}
use Rattle.std.proofs.lemmas.Bool.{eqb-false}
use Rattle.hypoplactic.specs.Words.{count}
use Rattle.outcomes.specs.Replies.{Passes, passed}
use Rattle.outcomes.specs.Judgements.{rising_judged}
use Rattle.outcomes.specs.Counts.{TrueCounts}
use Rattle.hypoplactic.proofs.Theory.Pairs.{Rising, le-or-lt}
use Rattle.shapes.specs.Rising.{passed-rising}
use Rattle.counts.specs.Tallies.{count_more, count_other}

-- ---- rising letters

pub record Rises (xs : List ℕ) : Type 0 where
  pub later : (p q : ℕ) → p ≤ q → q < length xs → get_or xs p 0 ≤ get_or xs q 0

-- Letters that rise after x are all at least x,
least_first : (x : ℕ) (ys : List ℕ) → Rising x ys → (q : ℕ) → q < length ys → x ≤ get_or ys q 0
least_first x [] r q l = let z : ⊥ = omega arith in absurd z
least_first x (y ∷ ys) r zero l = r.0
least_first x (y ∷ ys) r (suc q) l = let h : y ≤ get_or ys q 0 = least_first y ys r.1 q (omega arith) in omega (arith, r.0)

-- and each at least any before it.
along : (x : ℕ) (ys : List ℕ) → Rising x ys → (p q : ℕ) → p ≤ q → q < length ys → get_or ys p 0 ≤ get_or ys q 0
along x [] r p q h l = let z : ⊥ = omega arith in absurd z
along x (y ∷ ys) r zero zero h l = omega arith
along x (y ∷ ys) r zero (suc q) h l = least_first y ys r.1 q (omega arith)
along x (y ∷ ys) r (suc p) zero h l = let z : ⊥ = omega arith in absurd z
along x (y ∷ ys) r (suc p) (suc q) h l = along y ys r.1 p q (omega arith) (omega arith)

rises : (xs : List ℕ) → Passes (rising_judged xs) → Rises xs
rises xs h = record { later = along 0 xs (passed-rising xs h) }

-- ---- blocks

pub record Block (xs : List ℕ) (at end b : ℕ) (r : Bool) : Type 0 where
  pub within : r ≡ true → at < end → end ≤ length xs
  pub begins : r ≡ true → at < end → get_or xs at 0 ≡ b
  pub ends : r ≡ true → at < end → get_or xs (end - 1) 0 ≡ b

-- One that ends past the letters, or begins with another letter, does not agree,
pub no_block : (xs : List ℕ) (at end b : ℕ) → Block xs at end b false
no_block xs at end b = record {
  within = λ e. absurd (true≢false (sym e));
  begins = λ e l. absurd (true≢false (sym e));
  ends = λ e l. absurd (true≢false (sym e));
}

-- an empty one does,
pub empty_block : (xs : List ℕ) (at end b : ℕ) → end ≤ at → Block xs at end b true
empty_block xs at end b l = record {
  within = λ e k. let z : ⊥ = omega arith in absurd z;
  begins = λ e k. let z : ⊥ = omega arith in absurd z;
  ends = λ e k. let z : ⊥ = omega arith in absurd z;
}

-- and the last letter of another decides.
pub full_block : (xs : List ℕ) (at end b : ℕ) {x y : ℕ} → end ≤ length xs → x ≡ get_or xs at 0 → x ≡ b → y ≡ get_or xs (end - 1) 0
    → Block xs at end b (eqb y b)
full_block xs at end b {x} {y} h e f g = record {
  within = λ t l. h;
  begins = λ t l. sym e ∙ f;
  ends = λ t l. sym g ∙ eqb-true y b t;
}

-- All letters of a block are one, where they rise.
block_letter : (xs : List ℕ) (at end b : ℕ) → Rises xs → Block xs at end b true → (p : ℕ) → at ≤ p → p < end → get_or xs p 0 ≡ b
block_letter xs at end b s k p h l =
    let room : end ≤ length xs = k.within refl (omega arith) in
    let low : get_or xs at 0 ≤ get_or xs p 0 = s.later at p h (omega arith) in
    let high : get_or xs p 0 ≤ get_or xs (end - 1) 0 = s.later p (end - 1) (omega arith) (omega arith) in
    let first : get_or xs at 0 ≡ b = k.begins refl (omega arith) in
    let last : get_or xs (end - 1) 0 ≡ b = k.ends refl (omega arith) in
    omega arith

-- So many of one letter more add so much to its count,
block_more : (xs : List ℕ) (at b n : ℕ) → at + n ≤ length xs → ((p : ℕ) → at ≤ p → p < at + n → get_or xs p 0 ≡ b)
    → count b (take (at + n) xs) ≡ count b (take at xs) + n
block_more xs at b zero h all = let e : at + 0 ≡ at = omega arith in rw e (omega arith)
block_more xs at b (suc n) h all =
    let e : at + suc n ≡ suc (at + n) = omega arith in
    let rest : count b (take (at + n) xs) ≡ count b (take at xs) + n = block_more xs at b n (omega arith) (λ p l k. all p l (omega arith)) in
    let step : count b (take (at + n) xs ++ (b ∷ [])) ≡ count b (take (at + n) xs) + 1 = count_more (take (at + n) xs) b in
    rw (e, take-suc xs (at + n) 0 (omega arith), all (at + n) (omega arith) (omega arith)) (omega arith)

-- and nothing to the others.
block_other : (xs : List ℕ) (at b c n : ℕ) → (b ≡ c → ⊥) → at + n ≤ length xs → ((p : ℕ) → at ≤ p → p < at + n → get_or xs p 0 ≡ b)
    → count c (take (at + n) xs) ≡ count c (take at xs)
block_other xs at b c zero ne h all = let e : at + 0 ≡ at = omega arith in rw e
block_other xs at b c (suc n) ne h all =
    let e : at + suc n ≡ suc (at + n) = omega arith in
    rw (e, take-suc xs (at + n) 0 (omega arith), all (at + n) (omega arith) (omega arith))
    (count_other (take (at + n) xs) b c ne ∙ block_other xs at b c n ne (omega arith) (λ p l k. all p l (omega arith)))

-- ---- the pass

pub record Confirmed (xs cs : List ℕ) (r : Bool) : Type 0 where
  pub told : r ≡ true → TrueCounts xs cs

pub record Agreed (xs cs : List ℕ) (a at : ℕ) : Type 0 where
  pub rises : Rises xs
  pub reached : at ≤ length xs
  pub entry : (j : ℕ) → j < a → get_or cs j 0 ≡ count (suc j) (take at xs)
  pub above : (b : ℕ) → a < b → count b (take at xs) ≡ 0

-- Where 5 passes, the pass begins.
pub agreed_start : {xs : List ℕ} (cs : List ℕ) → rising_judged xs ≡ passed → Agreed xs cs 0 0
agreed_start {xs} cs e = record {
  rises = rises xs (subst Passes (sym e) tt);
  reached = omega arith;
  entry = λ j l. let z : ⊥ = omega arith in absurd z;
  above = λ b l. refl;
}

-- One block more.
pub agreed_turn : {xs cs : List ℕ} {a at n : ℕ} {r : Bool} → Agreed xs cs a at → n ≡ get_or cs a 0 → Block xs at (at + n) (a + 1) r → r ≡ true
    → Agreed xs cs (a + 1) (at + n)
agreed_turn {xs} {cs} {a} {at} {n} {r} g e k t = record {
  rises = g.rises;
  reached = within;
  entry = entries;
  above = λ b l. block_other xs at (a + 1) b n (λ q. omega arith) within letter ∙ g.above b (omega arith);
}
  where
    block : Block xs at (at + n) (a + 1) true
    block = rw t at k

    within : at + n ≤ length xs
    within = go (le-or-lt (at + n) at)
      where
        go : (at + n ≤ at) ⊎ (at < at + n) → at + n ≤ length xs
        go (inl l) = omega (arith, g.reached)
        go (inr l) = block.within refl l

    letter : (p : ℕ) → at ≤ p → p < at + n → get_or xs p 0 ≡ a + 1
    letter = block_letter xs at (at + n) (a + 1) g.rises block

    entries : (j : ℕ) → j < a + 1 → get_or cs j 0 ≡ count (suc j) (take (at + n) xs)
    entries j l = go (eqb a j) refl
      where
        go : (b : Bool) → eqb a j ≡ b → get_or cs j 0 ≡ count (suc j) (take (at + n) xs)
        go true q =
            let same : a ≡ j = eqb-true a j q in
            let next : a + 1 ≡ suc a = add-one a in
            let more : count (suc a) (take (at + n) xs) ≡ count (suc a) (take at xs) + n =
            block_more xs at (suc a) n within (λ p h k. letter p h k ∙ next) in
            let none : count (suc a) (take at xs) ≡ 0 = g.above (suc a) (omega arith) in
            rw (← same) (omega arith)
        go false q =
            let apart : a ≡ j → ⊥ = eqb-false a j q in
            g.entry j (omega arith) ∙ sym (block_other xs at (a + 1) (suc j) n (λ z. apart (omega arith)) within letter)

-- Past the last block.
pub agreed_end : {xs cs : List ℕ} {a at : ℕ} → Agreed xs cs a at → 64 ≤ a → Confirmed xs cs (eqb at (length xs))
agreed_end {xs} {cs} {a} {at} g h = record {
  told = λ t. record {
    entry = λ i l.
        let whole : at ≡ length xs = eqb-true at (length xs) t in
        (rw (whole, take-length) at g.entry) i (omega arith);
  };
}

-- Where the pass gives up, nothing is said.
pub not_confirmed : (xs cs : List ℕ) → Confirmed xs cs false
not_confirmed xs cs = record { told = λ e. absurd (true≢false (sym e)) }

pub ruleset agreeing = (no_block, empty_block, full_block, agreed_start, agreed_turn, agreed_end, not_confirmed, rules)
