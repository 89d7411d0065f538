-- Pair back to word: one pass over the cells stores each letter at the place that the entry of its cell tells.
--     Writing xs rs old left_xs left_rs now  the loop's invariant, over the letters and entries left: start_writing, turn_writing, end_writing
--     entry_least, entry_under           an entry tells a place of the word; of cell k: least_at, under_at, turn_at
--     way_back_refused, way_back_passed  the reply and the lent word from the verdict on
--     way_back_recorded                  what holds once the checks have passed
--     going_back                         the ruleset of the way back
-- The word that is to be is in Recorded. Assumes nothing.
use Rattle.std.specs.Prelude.{Result, Ok, Err}
use Rattle.std.specs.Prelude.{ℕ, suc, ◌+◌, drop, ◌-◌, ◌≤◌, ◌<◌, ◌≡◌, refl, List, [], ◌∷◌, Bool, true, false, cond, eqb, length, get_or, set, ◌⊎◌}
use Rattle.std.proofs.Common.{add-one, drop-cons, length-drop, arith, sym, ◌∙◌, inl, inr, length-set, ext_get_or, get_or-set_other, get_or-set_same, rules, eqb-true, eq-eqb}
use Rattle.std.proofs.lemmas.Bool.{eqb-false}
use Rattle.hypoplactic.specs.Words.{Within, count}
use Rattle.hypoplactic.specs.Ribbons.{PairAt, Simple}
use Rattle.hypoplactic.specs.Insertion.{word_of}
use Rattle.outcomes.specs.Replies.{gives, written}
use Rattle.outcomes.specs.Judgements.{counted_pair_judgements, room_judged}
use Rattle.outcomes.specs.TableauOperations.{word_run, word_says}
use Rattle.outcomes.proofs.Theory.Judged.{counted_pair_passing}
use Rattle.outcomes.proofs.Theory.Judgements.{alike-judged, room_judged_lem}
use Rattle.outcomes.proofs.Theory.Memory.{written-length}
use Rattle.hypoplactic.proofs.Theory.Occurrences.{count_tail}
use Rattle.hypoplactic.proofs.Theory.Once.{once_entries}
use Rattle.refusals.specs.Running.{checks_then, then_passing, run_refused, run_passed}
use Rattle.refusals.specs.Said.{said_refusal, said_verdict}
use Rattle.refusals.specs.declared.refusal.Refusal.{Refusal}
use Rattle.inverses.specs.Recorded.{Recorded, letter_or, letter_absent, length_back, written_at}

-- ---- the loop

-- Before a turn each element that is to be is the letter that one of the cells left tells, or else what stands there now. The entries of the cells left are
-- places of the word, counted from 1, and none stands there twice.
pub record Writing (xs rs old left_xs left_rs now : List ℕ) : Type 0 where
  pub long : length now ≡ length old
  pub alike : length left_rs ≡ length left_xs
  pub within : Within (length old) left_rs
  pub simple : Simple left_rs
  pub left : (p : ℕ) → letter_or (get_or old p 0) (suc p) xs rs ≡ letter_or (get_or now p 0) (suc p) left_xs left_rs

-- Entries within a smaller number.
within_wider : (m n : ℕ) (rs : List ℕ) → m ≤ n → Within m rs → Within n rs
within_wider m n [] l h = tt
within_wider m n (r ∷ rs) l (low, high, rest) = (low, omega arith, within_wider m n rs l rest)

-- Before the first cell nothing is stored.
pub start_writing : {xs rs old : List ℕ} → Recorded xs rs (length old) → Writing xs rs old xs rs old
start_writing {xs} {rs} {old} h =
    let (within, simple) = (once_entries rs).0 h.once in
    record {
      long = refl;
      alike = h.alike;
      within = within_wider (length rs) (length old) rs (omega (arith, h.alike, h.roomy)) within;
      simple = simple;
      left = λ p. refl;
    }

-- One store: the entry of the first cell left does not stand in the others.
stored : (now : List ℕ) (s x p : ℕ) (xs rs : List ℕ) → s < length now → count (suc s) rs ≡ 0
    → letter_or (get_or now p 0) (suc p) (x ∷ xs) (suc s ∷ rs) ≡ letter_or (get_or (set now s x) p 0) (suc p) xs rs
stored now s x p xs rs l c = go (eqb (suc s) (suc p)) refl
  where
    go : (b : Bool) → eqb (suc s) (suc p) ≡ b
        → cond b x (letter_or (get_or now p 0) (suc p) xs rs) ≡ letter_or (get_or (set now s x) p 0) (suc p) xs rs
    go true q =
        let same : s ≡ p = omega (arith, eqb-true (suc s) (suc p) q) in
        rw (← same, get_or-set_same now s x 0 l) (sym (letter_absent x (suc s) xs rs c))
    go false q =
        let apart : p ≡ s → ⊥ = λ e. eqb-false (suc s) (suc p) q (omega arith) in
        rw (get_or-set_other now s p x 0 apart)

module _ {xs rs old now left_xs left_rs : List ℕ} (w : Writing xs rs old left_xs left_rs now) where
  entries : {more : List ℕ} {r : ℕ} → left_rs ≡ r ∷ more → Within (length old) (r ∷ more)
  entries e = rw e at w.within

  -- The entry of the first cell left is at least 1,
  pub entry_least : {more : List ℕ} {r : ℕ} → left_rs ≡ r ∷ more → 1 ≤ r
  entry_least e = (entries e).0

  -- and its place is in the word,
  pub entry_under : {more : List ℕ} {r : ℕ} → left_rs ≡ r ∷ more → r - 1 < length now
  entry_under e = let (low, high, rest) = entries e in omega arith

  -- where its letter is stored.
  pub turn_writing : {more_xs more_rs : List ℕ} {x r q : ℕ} → left_xs ≡ x ∷ more_xs → left_rs ≡ r ∷ more_rs → q ≡ r
      → Writing xs rs old more_xs more_rs (set now (q - 1) x)
  turn_writing {more_xs} {more_rs} {x} {r} {q} f e t = record {
    long = length-set now (q - 1) x ∙ w.long;
    alike = let a = rw (e, f) at w.alike in omega arith;
    within = (entries e).2;
    simple = λ a. omega (arith, count_tail a r more_rs, simple a);
    left = λ p. w.left p ∙ rw (e, f) (one_stored (q - 1) p place under gone);
  }
    where
      one_stored : (s p : ℕ) → r ≡ suc s → s < length now → count (suc s) more_rs ≡ 0
          → letter_or (get_or now p 0) (suc p) (x ∷ more_xs) (r ∷ more_rs) ≡ letter_or (get_or (set now s x) p 0) (suc p) more_xs more_rs
      one_stored s p is l c = rw is (stored now s x p more_xs more_rs l c)

      place : r ≡ suc (q - 1)
      place = omega (arith, (entries e).0)

      under : q - 1 < length now
      under = omega (arith, entry_under e)

      simple : Simple (r ∷ more_rs)
      simple = rw e at w.simple

      gone : count (suc (q - 1)) more_rs ≡ 0
      gone =
          let twice : count r (r ∷ more_rs) ≡ suc (count r more_rs) = rw (eq-eqb r r refl) in
          let none : count r more_rs ≡ 0 = omega (arith, simple r) in
          rw place at none

-- The same of cell k, where those before it are stored.
module _ {xs rs old now : List ℕ} {k : ℕ} (w : Writing xs rs old (drop k xs) (drop k rs) now) (l : k < length xs) where
  there : k < length rs
  there = omega (arith, w.alike, length-drop k xs, length-drop k rs)

  pub least_at : 1 ≤ get_or rs k 0
  least_at = entry_least w (drop-cons rs k 0 there)

  pub under_at : get_or rs k 0 - 1 < length now
  under_at = entry_under w (drop-cons rs k 0 there)

  pub turn_at : {q : ℕ} → q ≡ get_or rs k 0 → Writing xs rs old (drop (k + 1) xs) (drop (k + 1) rs) (set now (q - 1) (get_or xs k 0))
  turn_at t = rw (add-one k) (turn_writing w (drop-cons xs k 0 l) (drop-cons rs k 0 there) t)

-- Past the last cell the word is written.
pub end_writing : {xs rs old now left_xs left_rs : List ℕ} → Recorded xs rs (length old) → Writing xs rs old left_xs left_rs now
    → (left_xs ≡ []) ⊎ (left_rs ≡ []) → now ≡ written (word_of xs rs) old
end_writing {xs} {rs} {old} {now} {left_xs} {left_rs} h w none =
    let room : length (word_of xs rs) ≤ length old = rw (length_back xs rs) h.roomy in
    ext_get_or 0 now (written (word_of xs rs) old) (w.long ∙ sym (written-length (word_of xs rs) old room))
    (λ p q. sym (written_at xs rs old h p ∙ w.left p ∙ go p left_xs left_rs none w.alike))
  where
    go : (p : ℕ) (ls es : List ℕ) → (ls ≡ []) ⊎ (es ≡ []) → length es ≡ length ls → letter_or (get_or now p 0) (suc p) ls es ≡ get_or now p 0
    go p [] es n a = refl
    go p (l ∷ ls) [] n a = refl
    go p (l ∷ ls) (f ∷ es) (inl e) a = let z : ⊥ = cc in absurd z
    go p (l ∷ ls) (f ∷ es) (inr e) a = let z : ⊥ = cc in absurd z

-- ---- the reply

-- The verdict of 1 to 8 and 17 on the pair and of 13,
module _ {v : Result (Unit {0}) Refusal} (n : ℕ) (xs ms rs cs out : List ℕ)
    (e : said_verdict v ≡ checks_then (counted_pair_judgements n xs ms rs cs) (room_judged (length xs) (length out) ∷ [])) where
  -- which refuses, and nothing changes,
  pub way_back_refused : (r : Refusal) → v ≡ Err r → (said_refusal r, out) ≡ word_run n xs ms rs cs out
  unfolding word_run word_says
  way_back_refused r q = run_refused _ _ e _ _ out r q

  -- or passes, and the word is written,
  pub way_back_passed : (now : List ℕ) → v ≡ Ok tt → now ≡ written (word_of xs rs) out → (gives (length xs ∷ []), now) ≡ word_run n xs ms rs cs out
  unfolding word_run word_says
  way_back_passed now q h = run_passed _ _ e _ _ out now q h

  -- since the pair is valid and there is room.
  pub way_back_recorded : v ≡ Ok tt → Recorded xs rs (length out)
  way_back_recorded q =
      let (checks, (room, t)) = then_passing _ _ e q in
      let pair : PairAt n xs ms rs = ((counted_pair_passing n xs ms rs cs).0 checks).0 in
      record { alike = ((alike-judged _ _).0 checks.1.1.0).1.0; once = pair.pair.recording.once; roomy = (room_judged_lem _ _).0 room }

pub ruleset going_back = (
  start_writing,
  least_at,
  under_at,
  turn_at,
  way_back_refused,
  way_back_passed,
  way_back_recorded,
  rules,
)
