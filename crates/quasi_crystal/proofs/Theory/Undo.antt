-- The split form of a move, and that raising and lowering undo each other (paper, section 5; document 01, "Moves").
--     Lacks a w          the letter a stands nowhere in w
--     Changed i u v      v is u with one i+1 made i; no i+1 stands left of that place and no i right of it
--     Turned s i u v     the same read from the side of a move: raising takes u to v, lowering v to u
--     turned_upright     neither word has an inversion
--     moved_outcome      without an inversion a move answers a word that Turned tells, and is undefined only where its letter is lacking
--     moved_turned       a move under a test for an inversion, in the split form
--     word_turned        a move takes the word u to v exactly when it turns u to v
--     undo               raising takes u to v exactly when lowering takes v to u
-- Assumes nothing.
use Prim.Native.Nat.{ℕ, suc}
use mathlib.Core.Path.{◌≡◌, refl}
use mathlib.Core.Logic.{◌↔◌, ◌≢◌}
use mathlib.Core.List.{List, [], ◌∷◌}
use mathlib.Core.Bool.{Bool, true, false, ◌&&◌, ◌||◌, and-false, true≢false, cond}
use mathlib.Core.Option.{Option, none, some, none-ne-some}
use lib.Dec.{eqb}
use borrow.Author.Tests.{eqb-true, eqb-false, eq-eqb, ne_eqb}
use Rattle.hypoplactic.specs.Words.{before, occurs}
use Rattle.quasi_crystal.specs.Moves.{Side, raising, lowering, Move, taken, given, inverted, onward, leftmost, or_here, rightmost, target, replaced, moved, moved_word}

-- The letter a stands nowhere in the word.
abbrev pub Lacks : ℕ → List ℕ → Type 0
Lacks a [] = Unit {0}
Lacks a (x ∷ xs) = (x ≢ a) × Lacks a xs

-- One i+1 of the first word is i in the second; no i+1 stands left of it and no i right of it.
pub data Changed (i : ℕ) : List ℕ → List ℕ → Type 0 where
  here : {back : List ℕ} → Lacks i back → Changed i (suc i ∷ back) (i ∷ back)
  after : {x : ℕ} {u v : List ℕ} → x ≢ suc i → Changed i u v → Changed i (x ∷ u) (x ∷ v)

-- A move on this side takes the first word to the second.
abbrev pub Turned : Side → ℕ → List ℕ → List ℕ → Type 0
Turned raising i u v = Changed i u v
Turned lowering i u v = Changed i v u

-- What an answer says of a word without an inversion: where there is none, the letter to change is lacking.
abbrev pub Outcome : Side → ℕ → List ℕ → Option (List ℕ) → Type 0
Outcome s i w none = Lacks (taken s i) w
Outcome s i w (some v) = Turned s i w v

-- Both halves of a disjunction that fails.
pub or_false_both : (a b : Bool) → (a || b) ≡ false → (a ≡ false) × (b ≡ false)
or_false_both true b e = absurd (true≢false e)
or_false_both false b e = (refl, e)

-- To lack a letter is that it does not occur.
lacks_occurs : (a : ℕ) (w : List ℕ) → Lacks a w → occurs a w ≡ false
lacks_occurs a [] l = refl
lacks_occurs a (x ∷ w) l = rw (ne_eqb x a l.0) (lacks_occurs a w l.1)

pub occurs_lacks : (a : ℕ) (w : List ℕ) → occurs a w ≡ false → Lacks a w
occurs_lacks a [] e = tt
occurs_lacks a (x ∷ w) e = let p = or_false_both (eqb x a) (occurs a w) e in (eqb-false x a p.0, occurs_lacks a w p.1)

-- Nothing stands left of a letter that is lacking.
pub lacks_before : (p q : ℕ) (w : List ℕ) → Lacks p w → before w p q ≡ false
lacks_before p q [] l = refl
lacks_before p q (x ∷ w) l = rw (lacks_occurs p w l.1, and-false) (lacks_before p q w l.1)

-- Neither of the two words has an inversion.
changed_upright : {i : ℕ} {u v : List ℕ} → Changed i u v → (inverted i u ≡ false) × (inverted i v ≡ false)
changed_upright {i} (here {back} l) =
    let e : before back i (suc i) ≡ false = lacks_before i (suc i) back l in
    (rw (lacks_occurs i back l, and-false) e, rw (lacks_occurs i back l, and-false) e)
changed_upright {i} (after {x} ne c) = rw (ne_eqb x (suc i) ne) (changed_upright c)

-- The second word has an i.
changed_has : {i : ℕ} {u v : List ℕ} → Changed i u v → Lacks i v → ⊥
changed_has (here l) n = n.0 refl
changed_has (after ne c) n = changed_has c n.1

-- Without an inversion no i follows an i+1.
upright_tail : (i x : ℕ) (w : List ℕ) → inverted i (x ∷ w) ≡ false → (x ≡ suc i → Lacks i w) × (inverted i w ≡ false)
upright_tail i x w e =
    let p = or_false_both (eqb x (suc i) && occurs i w) (inverted i w) e in
    (λ q. occurs_lacks i w (rw (eq-eqb x (suc i) q) at p.0), p.1)

-- Raising, one letter further to the left.
raise_further : (i x : ℕ) (w : List ℕ) (t : Option ℕ) → (x ≡ suc i → Lacks i w) → (b : Bool) → eqb x (suc i) ≡ b
    → Outcome raising i w (replaced i w t) → Outcome raising i (x ∷ w) (replaced i (x ∷ w) (cond b (some 0) (onward t)))
raise_further i x w t f true q o = let e : x ≡ suc i = eqb-true x (suc i) q in rw e (here (f e))
raise_further i x w none f false q o = (eqb-false x (suc i) q, o)
raise_further i x w (some k) f false q o = after (eqb-false x (suc i) q) o

-- The same for lowering.
lower_further : (i x : ℕ) (w : List ℕ) (t : Option ℕ) → (x ≡ suc i → Lacks i w) → (b : Bool) → eqb x i ≡ b
    → Outcome lowering i w (replaced (suc i) w t) → Outcome lowering i (x ∷ w) (replaced (suc i) (x ∷ w) (or_here b t))
lower_further i x w none f true q o = rw (eqb-true x i q) (here o)
lower_further i x w none f false q o = (eqb-false x i q, o)
lower_further i x w (some k) f b q o = after (λ e. changed_has o (f e)) o

-- What a move answers where there is no inversion.
pub moved_outcome : (m : Move) (w : List ℕ) → inverted m.index w ≡ false → Outcome m.side m.index w (moved false m w)
moved_outcome m w e = go m.side m.index w e
  where
    go : (s : Side) (i : ℕ) (w : List ℕ) → inverted i w ≡ false → Outcome s i w (replaced (given s i) w (target s i w))
    go raising i [] e = tt
    go lowering i [] e = tt
    go raising i (x ∷ w) e =
        let p = upright_tail i x w e in
        raise_further i x w (leftmost (suc i) w) p.0 (eqb x (suc i)) refl (go raising i w p.1)
    go lowering i (x ∷ w) e =
        let p = upright_tail i x w e in
        lower_further i x w (rightmost i w) p.0 (eqb x i) refl (go lowering i w p.1)

lacks_rightmost : (a : ℕ) (w : List ℕ) → Lacks a w → rightmost a w ≡ none
lacks_rightmost a [] l = refl
lacks_rightmost a (x ∷ w) l = rw (lacks_rightmost a w l.1, ne_eqb x a l.0)

-- A letter in front of a place that is there stays as it is.
stays : (a x : ℕ) (w v : List ℕ) (t : Option ℕ) (b : Bool) → replaced a w t ≡ some v → (replaced a (x ∷ w) (onward t) ≡ some (x ∷ v)) × (replaced a (x ∷ w) (or_here b t) ≡ some (x ∷ v))
stays a x w v none b e = (cc, cc)
stays a x w v (some k) b e = (cc, cc)

-- The letter that the rule names is the one that was changed.
changed_target : {i : ℕ} {u v : List ℕ} → Changed i u v → (replaced i u (leftmost (suc i) u) ≡ some v) × (replaced (suc i) v (rightmost i v) ≡ some u)
changed_target {i} (here {back} l) = (rw (eq-eqb (suc i) (suc i) refl), rw (lacks_rightmost i back l, eq-eqb i i refl))
changed_target {i} (after {x} {u} {v} ne c) =
    let p = changed_target c in
    (rw (ne_eqb x (suc i) ne) (stays i x u v (leftmost (suc i) u) false p.0).0, (stays (suc i) x v u (rightmost i v) (eqb x i) p.1).1)

-- The same for either side of a move.
pub turned_upright : (s : Side) (i : ℕ) (u v : List ℕ) → Turned s i u v → (inverted i u ≡ false) × (inverted i v ≡ false)
turned_upright raising i u v c = changed_upright c
turned_upright lowering i u v c = ((changed_upright c).1, (changed_upright c).0)

turned_target : (s : Side) (i : ℕ) (u v : List ℕ) → Turned s i u v → replaced (given s i) u (target s i u) ≡ some v
turned_target raising i u v c = (changed_target c).0
turned_target lowering i u v c = (changed_target c).1

-- A move under the test b for an inversion takes u to v exactly when the test fails and the move turns u to v.
pub moved_turned : (m : Move) (b : Bool) (u v : List ℕ) → (b ≡ false → inverted m.index u ≡ false) → moved b m u ≡ some v ↔ (b ≡ false) × Turned m.side m.index u v
moved_turned m true u v f = (λ h. absurd (none-ne-some v h), λ h. absurd (true≢false h.0))
moved_turned m false u v f = (λ h. (refl, rw h at (moved_outcome m u (f refl))), λ h. turned_target m.side m.index u v h.1)

-- A move takes the word u to v exactly when it turns u to v.
pub word_turned : (m : Move) (u v : List ℕ) → moved_word m u ≡ some v ↔ Turned m.side m.index u v
word_turned m u v =
    let t = moved_turned m (inverted m.index u) u v (λ e. e) in
    (λ h. (t.0 h).1, λ h. t.1 ((turned_upright m.side m.index u v h).0, h))

-- Raising and lowering undo each other.
pub undo : (i : ℕ) (u v : List ℕ) → moved_word (record { side = raising; index = i }) u ≡ some v ↔ moved_word (record { side = lowering; index = i }) v ≡ some u
undo i u v =
    let r = word_turned (record { side = raising; index = i }) u v in
    let l = word_turned (record { side = lowering; index = i }) v u in
    (λ h. l.1 (r.0 h), λ h. r.1 (l.0 h))
