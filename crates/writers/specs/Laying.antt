-- Values stored one after the other into a list, from a place on. Writers of parts of a line compose by one law.
--     Laid vs old at now end     the list old with the values vs from place at on is now, and end is the place after them
--     laid_none, laid_one        no value, one value
--     laid_then                  values, and then more from the place after them on: both one after the other
--     laid_whole                 values from the first place on
--     sets_before                a value stored straight before others
-- Assumes nothing.
use Rattle.std.specs.Prelude.{ℕ, suc, ◌+◌, ◌≤◌, ◌<◌, ◌≡◌, refl, List, [], ◌∷◌, ◌++◌, length, set}
use Rattle.std.proofs.Common.{◌∙◌, add-zero, arith, length-append, length-set}
use Rattle.std.proofs.lemmas.List.Edits.{sets, sets-eq}
use Rattle.std.proofs.lemmas.List.{set_comm}
use Rattle.outcomes.specs.Replies.{written}

-- Stored from a place on, with room for all of them.
pub record Laid (vs old : List ℕ) (at : ℕ) (now : List ℕ) (end : ℕ) : Type 0 where
  pub is : now ≡ sets old at vs
  pub ends : end ≡ at + length vs
  pub room : at + length vs ≤ length old
  pub long : length now ≡ length old

-- No value.
pub laid_none : (old : List ℕ) (at : ℕ) → at ≤ length old → Laid [] old at old at
laid_none old at h = record { is = refl; ends = omega arith; room = omega arith; long = refl }

-- One value.
pub laid_one : (old : List ℕ) (at v : ℕ) → at < length old → Laid (v ∷ []) old at (set old at v) (at + 1)
laid_one old at v h = record { is = refl; ends = refl; room = omega arith; long = length-set old at v }

-- Stores one after the other.
sets_append : (vs us old : List ℕ) (at : ℕ) → sets (sets old at vs) (at + length vs) us ≡ sets old at (vs ++ us)
sets_append [] us old at = rw (add-zero at)
sets_append (v ∷ vs) us old at = let e : at + suc (length vs) ≡ suc at + length vs = omega arith in rw e (sets_append vs us (set old at v) (suc at))

-- Values, and then more.
pub laid_then : {vs us old mid now : List ℕ} {at m end : ℕ} → Laid vs old at mid m → Laid us mid m now end → Laid (vs ++ us) old at now end
laid_then {vs} {us} {old} {mid} {now} {at} {m} {end} h k =
    let size : length (vs ++ us) ≡ length vs + length us = length-append vs us in
    record {
      is = k.is ∙ rw (h.is, h.ends) (sets_append vs us old at);
      ends = omega (arith, h.ends, k.ends);
      room = omega (arith, h.ends, k.room, h.long);
      long = k.long ∙ h.long;
    }

-- Values from the first place on.
pub laid_whole : {vs old now : List ℕ} {end : ℕ} → Laid vs old 0 now end → now ≡ written vs old
laid_whole {vs} {old} {now} {end} h = let zero_on : 0 + length vs ≡ length vs = omega arith in h.is ∙ sets-eq vs old 0 h.room ∙ rw zero_on

-- A value stored before others.
set_past : (vs old : List ℕ) (k i v : ℕ) → k < i → set (sets old i vs) k v ≡ sets (set old k v) i vs
set_past [] old k i v h = refl
set_past (u ∷ vs) old k i v h = set_past vs (set old i u) k (suc i) v (omega arith) ∙ rw (set_comm old i k u v (λ e. omega arith))

-- A value stored straight before others.
pub sets_before : (vs old : List ℕ) (k i v : ℕ) → i ≡ suc k → set (sets old i vs) k v ≡ sets old k (v ∷ vs)
sets_before vs old k i v e = set_past vs old k i v (omega arith) ∙ rw e
