-- The columns of a tableau: where one ends, which have one cell, and what the column reading makes of it.
--     Descending ms start i             down a column: no right step after its start before place i
--     Ended ms start end                the column that starts at one place ends at the other
--     Skipped ms from i                 the cells from one place to before the other are columns of one cell
--     RightSteps ss n                   the first n steps are right ones
--     NextColumn ms from r              r is the first column of two or more cells from a place on, if there is one
--     some_right, no_right, rights_by_fours, next_down, no_down, no_steps     these, as they are searched
--     column_read                       what is to be read from a column's start on is the column from bottom to top, and then the rest
--     searching                         the ruleset of the searches
-- Assumes nothing.
use Rattle.std.specs.Prelude.{Option, Some, None, Bool, true, false, cond, not, eqb, ℕ, zero, suc, ◌+◌, ◌-◌, ◌*◌, ◌/◌, ◌<◌, ◌≤◌, ◌≡◌, refl, length, get_or, take, drop}
use Rattle.std.specs.List.{position, position_or_len}
use Rattle.std.specs.Option.{unwrap_or}
use Rattle.std.specs.Simd.{first_chunks}
use Rattle.std.proofs.Common.{sym, ◌∙◌, ap, add-zero, arith, length-drop, drop-cons, drop-drop, get_or-drop, rules, eqb-true, ltb, lt-ltb, ltb-true, ltb-false}
use Rattle.std.proofs.Math.Decide.{dec_lt}
use Rattle.std.proofs.Math.Logic.{dite}
use Rattle.std.proofs.lemmas.Bool.{eqb-false}
use Rattle.std.proofs.lemmas.List.{take_rest}
use Rattle.std.proofs.lemmas.List.Quantifiers.{position-Some}
use Rattle.std.proofs.lemmas.List.Sums.{fails_before_first}
use mathlib.Core.List.{List, [], ◌∷◌, ◌++◌, append-nil, reverse, reverse_aux}
use Rattle.std.specs.Int.Bits.{bit_or, or_add_and}
use Rattle.std.proofs.lemmas.Nat.{and_le_l, and_le_r}
use borrow.Rule.Slice.PartMut.{mid_of}
use Rattle.hypoplactic.specs.Reading.{read_from}

-- ---- a search

-- Where no place passes, none does.
position-None : (p : ℕ → Bool) (xs : List ℕ) → position p xs ≡ None → (k : ℕ) → k < length xs → p (get_or xs k 0) ≡ false
position-None p xs e k l = dite (dec_lt (position_or_len p xs) (length xs))
    (λ (h : position_or_len p xs < length xs). let z : ⊥ = cc (lt-ltb _ _ h, e) in absurd z)
    (λ (h : ¬ (position_or_len p xs < length xs)). fails_before_first p xs k 0 (omega arith))

-- A place past the front of a list, in the list.
past : (i j : ℕ) (xs : List ℕ) → i ≤ j → get_or (drop i xs) (j - i) 0 ≡ get_or xs j 0
past i j xs l = get_or-drop i xs (j - i) 0 ∙ ap (λ (q : ℕ). get_or xs q 0) (omega arith)

-- ---- a column's end

-- From a column's start on there is no right step before place i.
pub record Descending (ms : List ℕ) (start i : ℕ) : Type 0 where
  pub beyond : start < i
  pub within : i ≤ length ms
  pub down : (k : ℕ) → k < i → start < k → get_or ms k 0 ≡ 0 → ⊥

-- The column goes no further: a right step, or the last cell.
pub record Ended (ms : List ℕ) (start end : ℕ) : Type 0 where
  pub column : Descending ms start end
  pub right : end < length ms → get_or ms end 0 ≡ 0

-- Whether a step is a right one, and whether it is a step down.
abbrev pub is_right : ℕ → Bool
is_right m = eqb m 0

abbrev pub is_down : ℕ → Bool
is_down m = not (eqb m 0)

module _ {ms ss : List ℕ} {start : ℕ} {r : Option ℕ} (f : r ≡ position is_right ss) (is : ss ≡ drop (start + 1) ms) (l : start < length ms) where
  -- The first right step after its start ends a column,
  pub some_right : {k : ℕ} → r ≡ Some k → Ended ms start (start + 1 + k)
  some_right {k} e =
      let (inside, here, before) = position-Some is_right ss k 0 (sym f ∙ e) in
      let size : length ss ≡ length ms - (start + 1) = rw is (length-drop (start + 1) ms) in
      record {
        column = record {
          beyond = omega arith;
          within = omega arith;
          down = λ j h g z. eqb-false _ 0 (before (j - (start + 1)) (omega arith)) (rw is (past (start + 1) j ms (omega arith)) ∙ z);
        };
        right = λ g. sym (get_or-drop (start + 1) ms k 0) ∙ rw (← is) (eqb-true _ 0 here);
      }

  -- and the end of the ribbon does where there is none.
  pub no_right : r ≡ None → Ended ms start (length ms)
  no_right e =
      let size : length ss ≡ length ms - (start + 1) = rw is (length-drop (start + 1) ms) in
      record {
        column = record {
          beyond = l;
          within = omega arith;
          down = λ j h g z.
              eqb-false _ 0 (position-None is_right ss (sym f ∙ e) (j - (start + 1)) (omega arith)) (rw is (past (start + 1) j ms (omega arith)) ∙ z);
        };
        right = λ g. let z : ⊥ = omega arith in absurd z;
      }

-- ---- columns of one cell

-- The first steps are right ones.
pub record RightSteps (ss : List ℕ) (n : ℕ) : Type 0 where
  pub within : n ≤ length ss
  pub right : (k : ℕ) → k < n → get_or ss k 0 ≡ 0

-- Whether a step down is among four.
abbrev pub some_down : List ℕ → Bool
some_down four = not (eqb (bit_or (bit_or (bit_or (get_or four 0 0) (get_or four 1 0)) (get_or four 2 0)) (get_or four 3 0)) 0)

-- Where no mark of two is set, neither is.
neither : (a b : ℕ) → bit_or a b ≡ 0 → (a ≡ 0) × (b ≡ 0)
neither a b e = (omega (arith, or_add_and a b, and_le_r a b), omega (arith, or_add_and a b, and_le_l a b))

unnot : (b : Bool) → not b ≡ false → b ≡ true
unnot true e = refl
unnot false e = sym e

-- Fours are right steps as far as no step down is among them.
rights : (n : ℕ) (ss : List ℕ) (r : ℕ) → 4 * n ≤ length ss → r ≤ position_or_len some_down (first_chunks 4 n ss) → (k : ℕ) → k < 4 * r → get_or ss k 0 ≡ 0
rights zero ss r l h k g = let z : ⊥ = omega arith in absurd z
rights (suc n) [] r l h k g = let z : ⊥ = omega arith in absurd z
rights (suc n) (a ∷ []) r l h k g = let z : ⊥ = omega arith in absurd z
rights (suc n) (a ∷ b ∷ []) r l h k g = let z : ⊥ = omega arith in absurd z
rights (suc n) (a ∷ b ∷ c ∷ []) r l h k g = let z : ⊥ = omega arith in absurd z
rights (suc n) (a ∷ b ∷ c ∷ d ∷ ss) r l h k g =
    go (some_down (a ∷ b ∷ c ∷ d ∷ [])) refl h (rights n ss (r - 1) (omega arith))
  where
    at : (m : ℕ) → m < 4 * r → (a ≡ 0) × (b ≡ 0) × (c ≡ 0) × (d ≡ 0) → ((j : ℕ) → j < 4 * (r - 1) → get_or ss j 0 ≡ 0)
        → get_or (a ∷ b ∷ c ∷ d ∷ ss) m 0 ≡ 0
    at zero f (x, y, z, w) rest = x
    at (suc zero) f (x, y, z, w) rest = y
    at (suc (suc zero)) f (x, y, z, w) rest = z
    at (suc (suc (suc zero))) f (x, y, z, w) rest = w
    at (suc (suc (suc (suc m)))) f e rest = rest m (omega arith)

    go : (t : Bool) → some_down (a ∷ b ∷ c ∷ d ∷ []) ≡ t → r ≤ cond (not t) (1 + position_or_len some_down (first_chunks 4 n ss)) 0
        → (r - 1 ≤ position_or_len some_down (first_chunks 4 n ss) → (j : ℕ) → j < 4 * (r - 1) → get_or ss j 0 ≡ 0)
        → get_or (a ∷ b ∷ c ∷ d ∷ ss) k 0 ≡ 0
    go true e q rest = let z : ⊥ = omega arith in absurd z
    go false e q rest =
        let (abc, w) = neither _ d (eqb-true _ 0 (unnot _ e)) in
        let (ab, z) = neither _ c abc in
        let (x, y) = neither a b ab in
        at k g (x, y, z, w) (rest (omega arith))

-- As many as stand before the first that passes, or all.
first_or_all : {X : Type 0} (p : X → Bool) (xs : List X)
    → (unwrap_or (position p xs) (length xs) ≤ position_or_len p xs) × (unwrap_or (position p xs) (length xs) ≤ length xs)
first_or_all p xs = go (ltb (position_or_len p xs) (length xs)) refl
  where
    go : (b : Bool) → ltb (position_or_len p xs) (length xs) ≡ b
        → (unwrap_or (cond b (Some (position_or_len p xs)) None) (length xs) ≤ position_or_len p xs)
        × (unwrap_or (cond b (Some (position_or_len p xs)) None) (length xs) ≤ length xs)
    go true e = (omega arith, omega (arith, ltb-true _ _ e))
    go false e = (omega (arith, ltb-false _ _ e), omega arith)

length_chunked : {X : Type 0} (k : ℕ) (xs : List X) → length (first_chunks 4 k xs) ≡ k
length_chunked zero xs = refl
length_chunked (suc k) xs = ap suc (length_chunked k (drop 4 xs))

pub rights_by_fours : {ss : List ℕ} {fours : List (List ℕ)} {r : Option ℕ} {n : ℕ} → fours ≡ first_chunks 4 (length ss / 4) ss
    → r ≡ position some_down fours → n ≡ unwrap_or r (length fours) → RightSteps ss (4 * n)
rights_by_fours {ss} {fours} {r} {n} e f g =
    let (before, within) = first_or_all some_down fours in
    let fewer : n ≤ position_or_len some_down fours = rw (g, f) before in
    let all : n ≤ length fours = rw (g, f) within in
    let size : length fours ≡ length ss / 4 = rw e (length_chunked (length ss / 4) ss) in
    record { within = omega arith; right = λ k l. rights (length ss / 4) ss n (omega arith) (rw e at fewer) k l }

-- From a column's start on each cell before place i is a column of its own: no step down follows it.
pub record Skipped (ms : List ℕ) (from i : ℕ) : Type 0 where
  pub ahead : from ≤ i
  pub within : i ≤ length ms
  pub right : (k : ℕ) → k < i + 1 → from < k → k < length ms → get_or ms k 0 ≡ 0

-- The first column of two or more cells from a column's start on, if there is one.
abbrev pub NextColumn : List ℕ → ℕ → Option ℕ → Type 0
NextColumn ms from None = Skipped ms from (length ms)
NextColumn ms from (Some start) = Skipped ms from start × (start < length ms)

-- After n right steps, and k more of which none is a step down, none is.
steps_right : (ms ss : List ℕ) (from n k : ℕ) → ss ≡ drop (from + 1) ms → RightSteps ss n
    → ((j : ℕ) → j < k → is_down (get_or (drop n ss) j 0) ≡ false) → (j : ℕ) → from < j → j < from + 1 + n + k → get_or ms j 0 ≡ 0
steps_right ms ss from n k is w before j g h =
    sym (past (from + 1) j ms (omega arith)) ∙ rw (← is)
    (dite (dec_lt (j - (from + 1)) n)
    (λ (f : j - (from + 1) < n). w.right (j - (from + 1)) f)
    (λ (f : ¬ (j - (from + 1) < n)).
    sym (past n (j - (from + 1)) ss (omega arith)) ∙ eqb-true _ 0 (unnot _ (before (j - (from + 1) - n) (omega arith)))))

-- No step is left,
pub no_steps : {ms : List ℕ} {from : ℕ} → from ≤ length ms → length ms < from + 1 → Skipped ms from (length ms)
no_steps l h = record { ahead = l; within = omega arith; right = λ k a b c. let z : ⊥ = omega arith in absurd z }

module _ {ms ss ts : List ℕ} {from n : ℕ} {r : Option ℕ} (f : r ≡ position is_down ts) (more : ts ≡ drop n ss) (w : RightSteps ss n)
    (is : ss ≡ drop (from + 1) ms) (l : from ≤ length ms) where
  -- or the first step down after those that are seen to be right ones starts a column of two or more cells,
  pub next_down : {k : ℕ} → r ≡ Some k → Skipped ms from (from + n + k) × (from + n + k < length ms)
  next_down {k} e =
      let (inside, here, before) = position-Some is_down ts k 0 (sym f ∙ e) in
      let size : length ss ≡ length ms - (from + 1) = rw is (length-drop (from + 1) ms) in
      let left : length ts ≡ length ss - n = rw more (length-drop n ss) in (
        record {
          ahead = omega arith;
          within = omega arith;
          right = λ j h g b. steps_right ms ss from n k is w (rw more at before) j (omega arith) (omega arith);
        },
        omega arith,
      )

  -- or none is.
  pub no_down : r ≡ None → NextColumn ms from None
  no_down e =
      let size : length ss ≡ length ms - (from + 1) = rw is (length-drop (from + 1) ms) in
      let left : length ts ≡ length ss - n = rw more (length-drop n ss) in
      let none : (j : ℕ) → j < length ts → is_down (get_or (drop n ss) j 0) ≡ false = rw (← more) (position-None is_down ts (sym f ∙ e)) in
      record { ahead = l; within = omega arith; right = λ j h g b. steps_right ms ss from n (length ts) is w none j (omega arith) (omega arith) }

pub ruleset searching = (some_right, no_right, rights_by_fours, no_steps, next_down, no_down, take_rest, rules)

-- ---- the reading, column by column

-- Down steps put k cells under the column in hand.
down_read : (k : ℕ) (column xs ms : List ℕ) → k ≤ length xs → k ≤ length ms → ((j : ℕ) → j < k → get_or ms j 0 ≡ 0 → ⊥)
    → read_from column xs ms ≡ read_from (reverse_aux (take k xs) column) (drop k xs) (drop k ms)
down_read zero column xs ms h g d = refl
down_read (suc k) column [] ms h g d = let z : ⊥ = omega arith in absurd z
down_read (suc k) column (x ∷ xs) [] h g d = let z : ⊥ = omega arith in absurd z
down_read (suc k) column (x ∷ xs) (zero ∷ ms) h g d = absurd (d 0 (omega arith) refl)
down_read (suc k) column (x ∷ xs) (suc m ∷ ms) h g d = down_read k (x ∷ column) xs ms (omega arith) (omega arith) (λ j l. d (suc j) (omega arith))

-- Where no step down comes next the column in hand is read.
right_read : (column xs ms : List ℕ) → length ms ≡ length xs → (0 < length ms → get_or ms 0 0 ≡ 0) → read_from column xs ms ≡ column ++ read_from [] xs ms
right_read column [] ms e h = sym (append-nil column)
right_read column (x ∷ xs) [] e h = let z : ⊥ = omega arith in absurd z
right_read column (x ∷ xs) (zero ∷ ms) e h = refl
right_read column (x ∷ xs) (suc m ∷ ms) e h = let z : suc m ≡ 0 = h (omega arith) in let f : ⊥ = omega arith in absurd f

-- A column's first cell, whatever its mark.
first_read : (x m : ℕ) (xs ms : List ℕ) → read_from [] (x ∷ xs) (m ∷ ms) ≡ read_from (x ∷ []) xs ms
first_read x zero xs ms = refl
first_read x (suc m) xs ms = refl

-- The column from bottom to top, then the rest.
pub column_read : (xs : List ℕ) {ms : List ℕ} {start end : ℕ} → length ms ≡ length xs → Ended ms start end
    → read_from [] (drop start xs) (drop start ms) ≡ reverse (mid_of start (end - start) xs) ++ read_from [] (drop end xs) (drop end ms)
column_read xs {ms} {start} {end} e c =
    let k : ℕ = end - suc start in
    let more : end - start ≡ suc k = omega arith in
    let there : suc start + k ≡ end = omega arith in
    rw (more, drop-cons xs start 0 (omega arith), drop-cons ms start 0 (omega arith), first_read)
    (down_read k _ (drop (suc start) xs) (drop (suc start) ms) (omega (arith, length-drop (suc start) xs)) (omega (arith, length-drop (suc start) ms))
    (λ j l z. c.column.down (suc start + j) (omega arith) (omega arith) (sym (get_or-drop (suc start) ms j 0) ∙ z))
    ∙ rw (drop-drop k (suc start) xs, drop-drop k (suc start) ms, there)
    (right_read _ (drop end xs) (drop end ms) (omega (arith, length-drop end xs, length-drop end ms))
    (λ l. get_or-drop end ms 0 0 ∙ rw (add-zero end) (c.right (omega (arith, length-drop end ms))))))
