-- The pass before the scan for 7, which leaves at no place. It notes each entry at its remainder by 1,024, so that entries which are met again are noted twice;
-- of one that saw something wrong nothing is said.
--     Noted table met                the entries met are noted
--     noted_none                     none met
--     Noting                         the loop's invariant: where nothing was seen wrong before a place, the scan comes to that place
--     start_noting, turn_noting, end_noting     where it begins, after one more place, past the last one
--     noting                         the ruleset of the pass and of the check
-- Assumes nothing.
use Rattle.std.specs.Prelude.{ℕ, ◌+◌, ◌%◌, ◌<◌, ◌≤◌, ◌≡◌, refl, Bool, true, false, ◌||◌, List, [], ◌∷◌, ◌++◌, eqb, length, get_or, set, take, replicate}
use Rattle.std.proofs.Common.{ap, sym, ◌∙◌, true≢false, mod-lt, add-one, arith, length-set, get_or-set_same, get_or-set_other, take-suc, rules, eqb-true, ne_eqb}
use Rattle.std.proofs.Math.Bool.{or-false}
use Rattle.std.proofs.lemmas.List.{length-replicate}
use Rattle.std.proofs.lemmas.Bool.{eqb-false}
use Rattle.hypoplactic.specs.Words.{occurs}
use Rattle.outcomes.specs.Judgements.{outside, entries_judged}
use Rattle.hypoplactic.proofs.Theory.Occurrences.{occurs-append}
use Rattle.recordings.specs.Clear.{Cleared, Clearing, start_clear, turn_clear, end_clear, clearing}
use Rattle.recordings.specs.Entries.{entry_fault, start_entries}

-- The entries met are noted in a table of 1,024.
pub record Noted (table : List Bool) (met : List ℕ) : Type 0 where
  pub long : length table ≡ 1024
  pub note : (e : ℕ) → occurs e met ≡ true → get_or table (e % 1024) false ≡ true

noted_none : Noted (replicate 1024 false) []
noted_none = record { long = length-replicate {A = Bool} 1024 false; note = λ e h. absurd (true≢false (sym h)) }

-- An entry whose place is free was not met.
free : {table : List Bool} {met : List ℕ} (e : ℕ) → Noted table met → get_or table (e % 1024) false ≡ false → occurs e met ≡ false
free {table} {met} e n f = go (occurs e met) refl
  where
    go : (b : Bool) → occurs e met ≡ b → b ≡ false
    go true q = absurd (true≢false (sym (n.note e q) ∙ f))
    go false q = refl

-- One entry more.
noted_more : (table : List Bool) (met : List ℕ) (r : ℕ) → Noted table met → Noted (set table (r % 1024) true) (met ++ (r ∷ []))
noted_more table met r n = record {
  long = length-set table (r % 1024) true ∙ n.long;
  note = λ e h. go e (eqb (e % 1024) (r % 1024)) refl (rw (occurs-append e met (r ∷ [])) at h);
}
  where
    there : r % 1024 < length table
    there = omega (arith, n.long, mod-lt r {m = 1024} (omega arith))

    go : (e : ℕ) (b : Bool) → eqb (e % 1024) (r % 1024) ≡ b → (occurs e met || (eqb r e || false)) ≡ true → get_or (set table (r % 1024) true) (e % 1024) false ≡ true
    go e true q h = rw (eqb-true (e % 1024) (r % 1024) q) (get_or-set_same table (r % 1024) true false there)
    go e false q h =
        let w : e % 1024 ≡ r % 1024 → ⊥ = eqb-false (e % 1024) (r % 1024) q in
        let s : r ≡ e → ⊥ = λ p. w (ap (λ (x : ℕ). x % 1024) (sym p)) in
        rw (get_or-set_other table (r % 1024) (e % 1024) true false w) (n.note e (rw (ne_eqb r e s, or-false) at h))

-- Where nothing was seen wrong before place i, the scan comes to it, and the entries before it are noted.
pub record Noting (limit : ℕ) (rs : List ℕ) (table : List Bool) (i : ℕ) (wrong : Bool) : Type 0 where
  pub clear : Clearing 7 (entry_fault limit rs) (length rs) (entries_judged limit rs) i wrong
  pub noted : Noted table (take i rs)

pub start_noting : {limit : ℕ} {rs : List ℕ} → Noting limit rs (replicate 1024 false) 0 false
start_noting {limit} {rs} = record { clear = start_clear (start_entries limit rs); noted = noted_none }

-- What a weaker test rules out.
weaker : (w a b : Bool) → (a ≡ false → b ≡ false) → (w || a) ≡ false → (w || b) ≡ false
weaker true a b f e = e
weaker false a b f e = f e

-- The place of an entry is in the table.
pub note_there : {limit i : ℕ} {wrong : Bool} {rs : List ℕ} {table : List Bool} (n : ℕ) → Noting limit rs table i wrong → n % 1024 < length table
note_there n m = omega (arith, m.noted.long, mod-lt n {m = 1024} (omega arith))

pub turn_noting : {limit i n : ℕ} {wrong out here next : Bool} {rs : List ℕ} {table : List Bool} → Noting limit rs table i wrong → i < length rs → n ≡ get_or rs i 0
    → out ≡ outside limit n → here ≡ (out || get_or table (n % 1024) false) → next ≡ (wrong || here) → Noting limit rs (set table (n % 1024) true) (i + 1) next
unfolding entry_fault
turn_noting {limit} {i} {n} {wrong} {out} {here} {next} {rs} {table} m l q o h x = record {
  clear = record {
    scan = λ z.
        (turn_clear {wrong = wrong} {here = entry_fault limit rs i} {next = wrong || entry_fault limit rs i} refl m.clear refl l).scan
        (weaker wrong here (entry_fault limit rs i) fault (sym x ∙ z));
  };
  noted = rw (q, add-one, take-suc rs i 0 l) (noted_more table (take i rs) (get_or rs i 0) m.noted);
}
  where
    fault : here ≡ false → entry_fault limit rs i ≡ false
    fault z = weaker (outside limit (get_or rs i 0)) (get_or table (get_or rs i 0 % 1024) false) (occurs (get_or rs i 0) (take i rs)) (free (get_or rs i 0) m.noted) (rw (h, o, q) at z)

pub end_noting : {limit i : ℕ} {wrong : Bool} {rs : List ℕ} {table : List Bool} → Noting limit rs table i wrong → length rs ≤ i → Cleared (entries_judged limit rs) wrong
end_noting m h = end_clear m.clear h

pub ruleset noting = (start_noting, note_there, turn_noting, end_noting, clearing, rules)
