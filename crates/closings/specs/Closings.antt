-- One list of a pair once the cell at a place is out of the used ones.
--     closed_elements at used xs       letters or entries: the used ones without that at the place
--     closed_marks at used rs ms       the marks ms beside the entries rs: the same, and the step that joins the neighbours
--     closed_entries at used rs        the entries: the same, each one less
--     joint-first, joint_told          the mark that joins the neighbours, from the tests made for it
--     none_closed, tail_closed         a list where nothing is out, and one whose tail from the place on came back pulled
--     marks_kept, marks-joined, marks-closed     the marks so: where nothing is out, where a cell follows and where none does
--     entries_closed                   the entries so, of which those that are left then came back one less
--     joining, closing                 the rulesets of the functions
-- Assumes nothing.
use Prim.Native.Nat.{ℕ, zero, suc, ◌+◌, ◌-◌, ◌≤◌, ◌<◌, min}
use native.Mathlib.Omega.{arith}
use Rattle.std.proofs.Math.Numerals.{add-one}
use Rattle.std.specs.Prelude.{◌≡◌, refl, Bool, true, false, ltb, get_or, set, drop}
use Rattle.std.proofs.Math.Path.{sym, ap}
use Rattle.std.proofs.Common.{◌∙◌, length-append, length-set, drop_of_length-le, take-append-drop, drop_at, length-take-le, take-add, take_all, take_at, take-take, rules}
use mathlib.Core.List.{List, ◌++◌, append_assoc, append-nil}
use Rattle.std.proofs.Math.ListN.{length, take, length-drop, length-take}
use Rattle.std.proofs.lemmas.List.{drop-append-le, take_min}
use Rattle.std.proofs.Math.Seq.{drop-drop, set-append_left, set_out}
use mir.Val.{bool_byte}
use borrow.Rule.Slice.PartMut.{mid_of, put_mid, Post-is}
use Rattle.outcomes.specs.Replies.{written}
use Rattle.hypoplactic.specs.Words.{tick}
use Rattle.windows.specs.Gaps.{joint, lowered, without}
use Rattle.buffers.specs.Pulls.{pulled}
use Rattle.closings.specs.Lowering.{lowered_length}

-- For elements of any type what `without` and `written` say of numbers: a list without its element at a place, laid over the front of another.
abbrev left_out : {X : Type 0} → ℕ → List X → List X
left_out k xs = take k xs ++ drop (suc k) xs

abbrev laid : {X : Type 0} → List X → List X → List X
laid vs old = vs ++ drop (length vs) old

-- The letters or entries that are left, at the front of the lent list,
unfoldable pub closed_elements : {X : Type 0} → ℕ → ℕ → List X → List X
closed_elements at used xs = laid (left_out at (take used xs)) xs

-- the marks,
unfoldable pub closed_marks : ℕ → ℕ → List ℕ → List ℕ → List ℕ
closed_marks at used rs ms = written (set (without at (take used ms)) at (joint at (take used rs))) ms

-- and the entries.
unfoldable pub closed_entries : ℕ → ℕ → List ℕ → List ℕ
closed_entries at used rs = written (lowered (without at (take used rs))) rs

-- ---- the mark that joins the neighbours

-- No cell before,
pub joint-first : (rs : List ℕ) → 0 ≡ joint 0 rs
unfolding joint
joint-first rs = refl

-- or the entry after against that before.
pub joint_told : {x y b : ℕ} (at : ℕ) (rs : List ℕ) → (at ≡ 0 → ⊥) → x ≡ get_or rs (at + 1) 0 → y ≡ get_or rs (at - 1) 0 → b ≡ bool_byte (ltb x y) → b ≡ joint at rs
unfolding joint
joint_told zero rs n d e h = absurd (n refl)
joint_told {x} {y} (suc k) rs n d e h =
    let after : suc k + 1 ≡ suc (suc k) = omega arith in
    let before : suc k - 1 ≡ k = omega arith in
    h ∙ rw (rw after at d, rw before at e) (ticked (ltb (get_or rs (suc (suc k)) 0) (get_or rs k 0)))
  where
    ticked : (b : Bool) → bool_byte b ≡ tick b 0
    ticked true = refl
    ticked false = refl

pub ruleset joining = (joint-first, joint_told, rules)

-- ---- a pulled tail

module _ {X : Type 0} (at used : ℕ) (xs : List X) (l : at < used) (f : used ≤ length xs) where
  used_size : length (take used xs) ≡ used
  used_size = length-take-le used xs f

  -- The lent tail is what is used from the place on.
  tail_used : mid_of at (used - at) xs ≡ drop at (take used xs)
  tail_used =
      let e : at + (used - at) ≡ used = omega arith in
      sym (ap (λ (ys : List X). drop at ys) (rw e at (take-add at (used - at) xs))
      ∙ drop_at (take at xs) (take (used - at) (drop at xs)) at (length-take-le at xs (omega arith)))

  without_size : length (left_out at (take used xs)) ≡ used - 1
  without_size =
      let before : length (take at (take used xs)) ≡ at = length-take-le at (take used xs) (omega (arith, used_size)) in
      omega (arith, length-append (take at (take used xs)) (drop (suc at) (take used xs)), before, length-drop (suc at) (take used xs), used_size)

  -- What a pulled tail is: the used elements after the place, and the last one again.
  pulled_tail : pulled (drop at (take used xs)) ≡ drop (suc at) (take used xs) ++ drop (used - 1) (take used xs)
  unfolding pulled
  pulled_tail =
      let last : at + (length (drop at (take used xs)) - 1) ≡ used - 1 = omega (arith, length-drop at (take used xs), used_size) in
      rw (drop-drop 1 at (take used xs), drop-drop (length (drop at (take used xs)) - 1) at (take used xs), last, add-one at)

  -- The last used element, and what lies beyond.
  last_on : drop (used - 1) (take used xs) ++ drop used xs ≡ drop (used - 1) xs
  last_on =
      sym (drop-append-le (used - 1) (take used xs) (drop used xs) (omega (arith, used_size)))
      ∙ ap (λ (ys : List X). drop (used - 1) ys) (take-append-drop used xs)

  -- A pulled tail back in its place.
  pulled_back : {ys : List X} → ys ≡ pulled (mid_of at (used - at) xs) → put_mid at (used - at) xs ys ≡ laid (left_out at (take used xs)) xs
  pulled_back {ys} e =
      let tail : ys ≡ drop (suc at) (take used xs) ++ drop (used - 1) (take used xs) = e ∙ ap pulled tail_used ∙ pulled_tail in
      let u : List X = take at xs in
      let v : List X = drop (suc at) (take used xs) in
      rw (tail, Post-is at used xs (omega arith), without_size, take-take at used xs (omega arith))
      (ap (λ (zs : List X). u ++ zs) (append_assoc v (drop (used - 1) (take used xs)) (drop used xs) ∙ ap (λ (zs : List X). v ++ zs) last_on)
      ∙ sym (append_assoc u v (drop (used - 1) xs)))

-- How many elements are left.
left_length : {X : Type 0} (at used : ℕ) (xs : List X) → length (left_out at (take used xs)) ≡ min at (min used (length xs)) + (min used (length xs) - suc at)
left_length at used xs =
    length-append (take at (take used xs)) (drop (suc at) (take used xs))
    ∙ rw (length-take at (take used xs), length-drop (suc at) (take used xs), length-take used xs)

module _ {X : Type 0} {end : ℕ} (at used : ℕ) (xs : List X) (b : end ≡ min used (length xs)) where
  -- Where the place is not among the used ones, nothing is out.
  pub none_closed : end ≤ at → xs ≡ closed_elements at used xs
  unfolding closed_elements
  none_closed l =
      let size : length (take used xs) ≡ min used (length xs) = length-take used xs in
      let all : left_out at (take used xs) ≡ take used xs
      = ap (λ (ys : List X). ys ++ drop (suc at) (take used xs)) (take_all at (take used xs) (omega (arith, size)))
      ∙ ap (λ (ys : List X). take used xs ++ ys) (drop_of_length-le (take used xs) {i = suc at} (omega (arith, size))) ∙ append-nil (take used xs) in
      sym (rw (all, size) (ap (λ (ys : List X). ys ++ drop (min used (length xs)) xs) (sym (take_min used xs)) ∙ take-append-drop (min used (length xs)) xs))

  -- Else the tail from the place on, as far as elements are used, came back pulled.
  pub tail_closed : {ys : List X} → at < end → ys ≡ pulled (mid_of at (end - at) xs) → put_mid at (end - at) xs ys ≡ closed_elements at used xs
  unfolding closed_elements
  tail_closed l e =
      let used_all : take end xs ≡ take used xs = ap (λ (k : ℕ). take k xs) b ∙ take_min used xs in
      pulled_back at end xs l (omega arith) e ∙ ap (λ (zs : List X). laid (left_out at zs) xs) used_all

-- ---- the marks

module _ {end : ℕ} (at used : ℕ) (rs ms : List ℕ) (b : end ≡ min used (length ms)) where
  -- The place is not among the used ones, and nothing is out.
  pub marks_kept : end ≤ at → ms ≡ closed_marks at used rs ms
  unfolding closed_elements closed_marks
  marks_kept l =
      let outside : length (without at (take used ms)) ≤ at = omega (arith, left_length at used ms) in
      none_closed at used ms b l ∙ rw (set_out (without at (take used ms)) at (joint at (take used rs)) outside)

  module _ {ys : List ℕ} (l : at < end) (e : ys ≡ pulled (mid_of at (end - at) ms)) where
    -- Where a cell follows, the step into it is set,
    pub marks-joined : {m : ℕ} → m ≡ joint at (take used rs) → at + 1 < end → set (put_mid at (end - at) ms ys) at m ≡ closed_marks at used rs ms
    unfolding closed_elements closed_marks
    marks-joined {m} j h =
        let vs : List ℕ = without at (take used ms) in
        let inside : at < length vs = omega (arith, left_length at used ms) in
        rw (tail_closed at used ms b l e, set-append_left vs (drop (length vs) ms) at m inside, j, length-set)

    -- and where none follows, there is none to set.
    pub marks-closed : end ≤ at + 1 → put_mid at (end - at) ms ys ≡ closed_marks at used rs ms
    unfolding closed_elements closed_marks
    marks-closed h =
        let vs : List ℕ = without at (take used ms) in
        let outside : length vs ≤ at = omega (arith, left_length at used ms) in
        rw (tail_closed at used ms b l e, set_out vs at (joint at (take used rs)) outside)

-- ---- the entries

-- Entries that are left, once they came back one less.
lowered_back : {zs : List ℕ} (vs old : List ℕ) (k : ℕ) → length vs ≡ k → zs ≡ lowered (take k (written vs old)) → zs ++ drop k (written vs old) ≡ written (lowered vs) old
lowered_back {zs} vs old k e h =
    let rest : List ℕ = drop (length vs) old in
    let these : zs ≡ lowered vs = h ∙ rw (take_at vs rest k e) in
    rw (these, drop_at vs rest k e, lowered_length vs)

pub entries_closed : {left : ℕ} {ws zs : List ℕ} (at used : ℕ) (rs : List ℕ) → left ≡ min at (min used (length rs)) + (min used (length rs) - (at + 1))
    → ws ≡ closed_elements at used rs → zs ≡ lowered (take left ws) → zs ++ drop left ws ≡ closed_entries at used rs
unfolding closed_elements closed_entries
entries_closed {left} {ws} {zs} at used rs k e g =
    let size : length (without at (take used rs)) ≡ left = omega (arith, left_length at used rs) in
    rw e (lowered_back (without at (take used rs)) rs left size (rw e at g))

pub ruleset closing = (none_closed, tail_closed, marks_kept, marks-joined, marks-closed, entries_closed, rules)
