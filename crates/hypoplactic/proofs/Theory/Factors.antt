-- Factors that may be exchanged: which letters and falling words pass one another, up to joining. Each statement has a tail t, so that it serves inside a
-- word. Capital letters name falling words, `~` is Joined.
--     Falls hi D lo           D is decreasing, its letters are below hi and at least lo
--     past_falling            p E c ~ p c E
--     past_below              x D b ~ D x b
--     past_above              b D a ~ b a D
--     past_pair               b E c a ~ b E a c
--     columns_pass            C D r ~ D C r
--     columns_cross           U u L C r a ~ L U u a C r
-- Assumes nothing.
use Prim.Native.Nat.{ℕ, suc, ◌≤◌, ◌<◌}
use mathlib.Core.List.{List, [], ◌∷◌, ◌++◌, append_assoc}
use native.Mathlib.Nat.{le_refl, le_trans, lt-suc_self}
use native.Mathlib.Omega.{arith}
use Rattle.hypoplactic.specs.Rewriting.{Joined, same}
use Rattle.hypoplactic.proofs.Theory.Joining.{◌⨾◌, joined_sym, joined_under, joined_front, rule_acb, rule_bac, rule_cadb, rule_bdac}

-- A decreasing word whose letters are below hi and at least lo; where it has no letter, hi is at least lo.
pub data Falls : ℕ → List ℕ → ℕ → Type 0 where
  ends : {hi lo : ℕ} → lo ≤ hi → Falls hi [] lo
  next : {hi x lo : ℕ} {D : List ℕ} → x < hi → Falls x D lo → Falls hi (x ∷ D) lo

-- No letter, and one letter.
pub falls_none : {h : ℕ} → Falls h [] h
falls_none {h} = ends (le_refl h)

pub falls_one : {x lo : ℕ} → lo ≤ x → Falls (suc x) (x ∷ []) lo
falls_one {x} p = next (lt-suc_self x) (ends p)

-- The bounds are in order.
pub falls_bounds : {hi lo : ℕ} {D : List ℕ} → Falls hi D lo → lo ≤ hi
falls_bounds (ends p) = p
falls_bounds (next p f) = omega (arith, falls_bounds f)

-- A larger upper bound.
pub falls_below : {g h lo : ℕ} {D : List ℕ} → g ≤ h → Falls g D lo → Falls h D lo
falls_below le (ends p) = ends (le_trans p le)
falls_below le (next p f) = next (le_trans p le) f

-- One letter more in front.
pub falls_first : {h x lo : ℕ} {D : List ℕ} → h < x → Falls (suc h) D lo → Falls (suc x) (x ∷ D) lo
falls_first {x} p f = next (lt-suc_self x) (falls_below p f)

-- One falling word behind another.
falls_append : {hi mid lo : ℕ} {D E : List ℕ} → Falls hi D mid → Falls mid E lo → Falls hi (D ++ E) lo
falls_append (ends p) g = falls_below p g
falls_append (next p f) g = next p (falls_append f g)

-- One letter more at the end.
pub falls_last : {hi x lo : ℕ} {D : List ℕ} → Falls hi D (suc x) → lo ≤ x → Falls hi (D ++ (x ∷ [])) lo
falls_last f p = falls_append f (falls_one p)

-- A letter c passes a falling word behind a letter p that is at most c.
past_falling : (t : List ℕ) {p c lo : ℕ} {E : List ℕ} → Falls p E lo → p ≤ c → Joined (p ∷ (E ++ (c ∷ t))) (p ∷ c ∷ (E ++ t))
past_falling t (ends q) le = same
past_falling t {p} (next q f) le = joined_under p (past_falling t f (omega arith)) ⨾ rule_bac q le

-- A letter x passes a falling word before a letter b, if that word is at most b and b is below x.
-- The first step over y: x y e E b ~ x y b e E ~ y x e b E ~ y x e E b.
past_below : (t : List ℕ) {x b hi lo : ℕ} {D : List ℕ} → Falls hi D lo → hi ≤ suc b → b < x → Joined (x ∷ (D ++ (b ∷ t))) (D ++ (x ∷ b ∷ t))
past_below t (ends p) le lt = same
past_below t (next p (ends q)) le lt = joined_sym (rule_acb (omega arith) lt)
past_below t {x} (next {x = y} p (next q f)) le lt =
    joined_under x (past_falling t (next q f) (omega arith))
    ⨾ joined_sym (rule_bdac q (omega arith) lt)
    ⨾ joined_under y (joined_under x (joined_sym (past_falling t f (omega arith))) ⨾ past_below t (next q f) (omega arith) lt)

-- A letter a passes a falling word behind a letter b, if a is below b and b is at most that word.
-- The chain: b x y D a ~ x b y D a ~ x b a y D ~ x b y a D ~ b x a y D ~ b a x y D.
pub past_above : (t : List ℕ) {a b hi : ℕ} {D : List ℕ} → a < b → Falls hi D b → Joined (b ∷ (D ++ (a ∷ t))) (b ∷ a ∷ (D ++ t))
past_above t lt (ends p) = same
past_above t lt (next p (ends q)) = joined_sym (rule_bac lt q)
past_above t {b} lt (next {x} p (next {x = y} q f)) =
    let le : b ≤ y = falls_bounds f in
    rule_acb le q
    ⨾ joined_under x (past_above t lt (next q f) ⨾ rule_bac lt le)
    ⨾ joined_sym (rule_bdac lt le q)
    ⨾ joined_under b (joined_sym (rule_acb (omega arith) q))

-- Letters c and a are exchanged behind letters b and x, if x ≤ a < b ≤ c.
past_letter_pair : {a b c x : ℕ} {t : List ℕ} → x ≤ a → a < b → b ≤ c → Joined (b ∷ x ∷ c ∷ a ∷ t) (b ∷ x ∷ a ∷ c ∷ t)
past_letter_pair p lt le = rule_cadb p lt le ⨾ rule_acb p lt

-- The same behind a letter b and a falling word, if that word is at most a, and a < b ≤ c.
-- The chain: b x e E c a ~ b x c e E a ~ b x c e a E ~ b c x a e E ~ b x c a e E ~ b x a c e E ~ b x a e E c ~ b x e E a c.
past_pair : (t : List ℕ) {a b c lo : ℕ} {E : List ℕ} → Falls (suc a) E lo → a < b → b ≤ c → Joined (b ∷ (E ++ (c ∷ a ∷ t))) (b ∷ (E ++ (a ∷ c ∷ t)))
past_pair t (ends p) lt le = joined_sym (rule_bac lt le)
past_pair t (next p (ends q)) lt le = past_letter_pair (omega arith) lt le
past_pair t {a} {b} {c} (next {x} p (next q f)) lt le =
    joined_under b (past_falling (a ∷ t) (next q f) (omega arith) ⨾ joined_under x (joined_under c (past_falling t f (omega arith))))
    ⨾ joined_under b (rule_bdac q (omega arith) (omega arith))
    ⨾ joined_sym (rule_bac (omega arith) le)
    ⨾ past_letter_pair (omega arith) lt le
    ⨾ joined_under b (joined_under x (joined_sym (past_falling t (next (omega arith) f) (omega arith))) ⨾ joined_sym (past_falling (c ∷ t) (next q f) (omega arith)))

-- A falling word C passes a falling word before a letter r, if that word is at most r and C r falls.
pub columns_pass : (t : List ℕ) {r hi lo : ℕ} {C D : List ℕ} → Falls hi C (suc r) → Falls (suc r) D lo → Joined (C ++ (D ++ (r ∷ t))) (D ++ (C ++ (r ∷ t)))
columns_pass t (ends p) g = same
columns_pass t (next p (ends q)) g = past_below t g (le_refl _) q
columns_pass t {r} (next {x} p (next {x = z} {D = C} q f)) g = joined_under x (columns_pass t (next q f) g) ⨾ past_below (C ++ (r ∷ t)) g (omega (arith, falls_bounds f)) q

-- Columns cross: where a falling word U u L is followed by a falling word C r and a letter a, with L ≤ a < u and U u ≤ r, L goes to the front and a
-- straight behind u. The chain: U u L C r a ~ C U u L r a ~ C U u L a r ~ L C U u a r ~ L U u a C r.
pub columns_cross : (t : List ℕ) {hi r u a lo : ℕ} {C U L : List ℕ} → Falls hi C (suc r) → Falls (suc r) U (suc u) → a < u → Falls (suc a) L lo
    → Joined (U ++ (u ∷ (L ++ (C ++ (r ∷ a ∷ t))))) (L ++ (U ++ (u ∷ a ∷ (C ++ (r ∷ t)))))
columns_cross t {r} {u} {a} {C} {U} {L} c f lt l =
    let upper : Falls (suc r) (U ++ (u ∷ [])) (suc a) = falls_last f lt in
    joined_sym (simp append_assoc at (columns_pass (a ∷ t) c (falls_append upper l)))
    ⨾ joined_front C (joined_front U (past_pair t l lt (omega (arith, falls_bounds f))))
    ⨾ (simp append_assoc at (columns_pass (r ∷ t) (falls_append c upper) l))
    ⨾ joined_front L (simp append_assoc at (columns_pass t c (falls_last upper (le_refl a))))
