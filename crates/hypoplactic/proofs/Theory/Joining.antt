-- Laws of joined words.
--     joined_trans, _⨾_      chains follow one another
--     joined_sym             a chain can be walked back
--     joined-eq              equal words are joined
--     joined_under, joined_front, joined_back   a letter before, a word before, a word behind both words
--     rule_acb, rule_bac, rule_cadb, rule_bdac  each rule at the head of a word, with any tail
-- Assumes nothing.
use native.Mathlib.Omega.{arith}
use Prim.Native.Nat.{ℕ, ◌≤◌, ◌<◌}
use mathlib.Core.Path.{◌≡◌, subst}
use mathlib.Core.List.{List, [], ◌∷◌, ◌++◌, append_assoc}
use Rattle.hypoplactic.specs.Rewriting.{Step, forth, back, acb_cab, bac_bca, cadb_acbd, bdac_dbca, Joined, same, via}

-- Chains follow one another.
pub joined_trans : {u v w : List ℕ} → Joined u v → Joined v w → Joined u w
joined_trans same q = q
joined_trans (via s p) q = via s (joined_trans p q)

infixr 30 ◌⨾◌
-- The same, for chains of chains.
abbrev pub ◌⨾◌ : {u v w : List ℕ} → Joined u v → Joined v w → Joined u w
◌⨾◌ = joined_trans

step_sym : {u v : List ℕ} → Step u v → Step v u
step_sym (forth f b r) = back f b r
step_sym (back f b r) = forth f b r

-- A chain walked back.
pub joined_sym : {u v : List ℕ} → Joined u v → Joined v u
joined_sym same = same
joined_sym (via s p) = joined_sym p ⨾ via (step_sym s) same

-- Equal words are joined.
pub joined-eq : {u v : List ℕ} → u ≡ v → Joined u v
joined-eq {u} p = subst (λ (v : List ℕ). Joined u v) p same

step_under : (x : ℕ) {u v : List ℕ} → Step u v → Step (x ∷ u) (x ∷ v)
step_under x (forth f b r) = forth (x ∷ f) b r
step_under x (back f b r) = back (x ∷ f) b r

-- A letter before both words.
pub joined_under : (x : ℕ) {u v : List ℕ} → Joined u v → Joined (x ∷ u) (x ∷ v)
joined_under x same = same
joined_under x (via s p) = via (step_under x s) (joined_under x p)

-- A word before both words.
pub joined_front : (f : List ℕ) {u v : List ℕ} → Joined u v → Joined (f ++ u) (f ++ v)
joined_front [] p = p
joined_front (x ∷ f) p = joined_under x (joined_front f p)

step_back : (t : List ℕ) {u v : List ℕ} → Step u v → Step (u ++ t) (v ++ t)
step_back t (forth f b r) = simp append_assoc (forth f (b ++ t) r)
step_back t (back f b r) = simp append_assoc (back f (b ++ t) r)

-- A word behind both words.
pub joined_back : (b : List ℕ) {u v : List ℕ} → Joined u v → Joined (u ++ b) (v ++ b)
joined_back b same = same
joined_back b (via s p) = via (step_back b s) (joined_back b p)

-- The rules at the head of a word.
module _ {a b c : ℕ} {t : List ℕ} where
  pub rule_acb : a ≤ b → b < c → Joined (a ∷ c ∷ b ∷ t) (c ∷ a ∷ b ∷ t)
  rule_acb p q = via (forth [] t (acb_cab {a = a} {b = b} {c = c} (omega arith) (omega arith))) same

  pub rule_bac : a < b → b ≤ c → Joined (b ∷ a ∷ c ∷ t) (b ∷ c ∷ a ∷ t)
  rule_bac p q = via (forth [] t (bac_bca {a = a} {b = b} {c = c} (omega arith) (omega arith))) same

module _ {a b c d : ℕ} {t : List ℕ} where
  pub rule_cadb : a ≤ b → b < c → c ≤ d → Joined (c ∷ a ∷ d ∷ b ∷ t) (a ∷ c ∷ b ∷ d ∷ t)
  rule_cadb p q r = via (forth [] t (cadb_acbd {a = a} {b = b} {c = c} {d = d} (omega arith) (omega arith) (omega arith))) same

  pub rule_bdac : a < b → b ≤ c → c < d → Joined (b ∷ d ∷ a ∷ c ∷ t) (d ∷ b ∷ c ∷ a ∷ t)
  rule_bdac p q r = via (forth [] t (bdac_dbca {a = a} {b = b} {c = c} {d = d} (omega arith) (omega arith) (omega arith))) same
