-- The first run of a tableau's cells, told from its letters: it reaches as far as its letter stands.
--     leading x xs                  how many letters at the beginning of a list are x
--     Ran xs i r                    r letters from place i on are that at place i, and no more
--     Walking xs i end              the loop that counts them: those before place end are
--     walk_start, walk_turn, walk_stop, walk_end     its laws
--     walking                       the ruleset of the function that counts them
--     runs_on                       the runs from place i on: the one that begins there, and then those of the cells after it
-- Assumes nothing.
use Rattle.std.specs.Prelude.{ℕ, suc, ◌+◌, ◌-◌, ◌≤◌, ◌<◌, ◌≡◌, refl, Bool, true, false, cond, List, [], ◌∷◌, eqb, length, get_or, drop}
use Rattle.std.proofs.Common.{sym, ap, ◌∙◌, add-one, arith, drop_of_length-le, length-drop, drop-cons, drop-drop, rules, eq-eqb, eqb-true, ne_eqb}
use Rattle.run_lines.specs.Runs.{cell_before, run_with, runs_of}

-- The letters at the beginning of a list that are x.
abbrev pub leading : ℕ → List ℕ → ℕ
leading x [] = 0
leading x (y ∷ ys) = cond (eqb x y) (suc (leading x ys)) 0

-- The first run has the first cell's letter and mark, and one cell more than there are such letters after it. Nothing is asked of letters and marks.
first_run_lem : (x m : ℕ) (xs ms : List ℕ) → length ms ≡ length xs
    → runs_of (x ∷ xs) (m ∷ ms) ≡ run_with x (suc (leading x xs)) m ∷ runs_of (drop (leading x xs) xs) (drop (leading x xs) ms)
first_run_lem x m [] [] e = refl
first_run_lem x m [] (k ∷ ms) e = let z : ⊥ = omega arith in absurd z
first_run_lem x m (y ∷ ys) [] e = let z : ⊥ = omega arith in absurd z
first_run_lem x m (y ∷ ys) (k ∷ ks) e = go (eqb x y) refl (first_run_lem y k ys ks (omega arith))
  where
    go : (b : Bool) → eqb x y ≡ b
        → runs_of (y ∷ ys) (k ∷ ks) ≡ run_with y (suc (leading y ys)) k ∷ runs_of (drop (leading y ys) ys) (drop (leading y ys) ks)
        → cell_before x m (runs_of (y ∷ ys) (k ∷ ks))
        ≡ run_with x (suc (leading x (y ∷ ys))) m ∷ runs_of (drop (leading x (y ∷ ys)) (y ∷ ys)) (drop (leading x (y ∷ ys)) (k ∷ ks))
    go true t h = let p : leading x ys ≡ leading y ys = ap (λ (z : ℕ). leading z ys) (eqb-true x y t) in rw (h, t, p, eqb-true x y t) refl
    go false t h = rw (h, t) (ap (λ rs. run_with x 1 m ∷ rs) (sym h))

-- ---- the length of a run

-- As many letters from place i on are that at place i.
pub record Ran (xs : List ℕ) (i r : ℕ) : Type 0 where
  pub some : 1 ≤ r
  pub within : i + r ≤ length xs
  pub is : r ≡ leading (get_or xs i 0) (drop i xs)

-- Those from place i to place end are.
pub record Walking (xs : List ℕ) (i end : ℕ) : Type 0 where
  pub past : i < end
  pub within : end ≤ length xs
  pub is : leading (get_or xs i 0) (drop i xs) ≡ end - i + leading (get_or xs i 0) (drop end xs)

-- The letters that are x from a place on: one more where it is, none where it is not.
here_is : (xs : List ℕ) (j x : ℕ) → j < length xs → get_or xs j 0 ≡ x → leading x (drop j xs) ≡ suc (leading x (drop (suc j) xs))
here_is xs j x l e = rw (drop-cons xs j 0 l, eq-eqb x (get_or xs j 0) (sym e))

here_not : (xs : List ℕ) (j x : ℕ) → j < length xs → (get_or xs j 0 ≡ x → ⊥) → leading x (drop j xs) ≡ 0
here_not xs j x l z = rw (drop-cons xs j 0 l, ne_eqb x (get_or xs j 0) (λ e. z (sym e)))

-- The first.
pub walk_start : (xs : List ℕ) (i : ℕ) → i < length xs → Walking xs i (i + 1)
walk_start xs i l =
    rw (add-one i) record { past = omega arith; within = l; is = omega (arith, here_is xs i (get_or xs i 0) l refl) }

module _ {xs : List ℕ} {i end : ℕ} (h : Walking xs i end) where
  -- One more,
  pub walk_turn : end < length xs → get_or xs end 0 ≡ get_or xs i 0 → Walking xs i (end + 1)
  walk_turn l e =
      rw (add-one end)
      record {
        past = omega (arith, h.past);
        within = l;
        is = omega (arith, h.is, h.past, here_is xs end (get_or xs i 0) l e);
      }

  walked : leading (get_or xs i 0) (drop end xs) ≡ 0 → Ran xs i (end - i)
  walked e = record { some = omega (arith, h.past); within = omega (arith, h.past, h.within); is = omega (arith, h.is) }

  -- another letter,
  pub walk_stop : end < length xs → (get_or xs end 0 ≡ get_or xs i 0 → ⊥) → Ran xs i (end - i)
  walk_stop l z = walked (here_not xs end (get_or xs i 0) l z)

  -- or none left.
  pub walk_end : length xs ≤ end → Ran xs i (end - i)
  walk_end l = walked (ap (leading (get_or xs i 0)) (drop_of_length-le xs l))

pub ruleset walking = (walk_start, walk_turn, walk_stop, walk_end, rules)

-- ---- the run at a place

pub runs_on : (xs ms : List ℕ) (i k : ℕ) → length ms ≡ length xs → i < length xs → Ran xs i k
    → runs_of (drop i xs) (drop i ms) ≡ run_with (get_or xs i 0) k (get_or ms i 0) ∷ runs_of (drop (i + k) xs) (drop (i + k) ms)
runs_on xs ms i k e l r =
    let x : ℕ = get_or xs i 0 in
    let s : ℕ = leading x (drop (suc i) xs) in
    let size : suc s ≡ k = omega (arith, r.is, here_is xs i x l refl) in
    let on : suc i + s ≡ i + k = omega arith in
    let more : length (drop (suc i) ms) ≡ length (drop (suc i) xs) = omega (arith, length-drop (suc i) ms, length-drop (suc i) xs) in
    rw (drop-cons xs i 0 l, drop-cons ms i 0 (omega arith))
    (first_run_lem x (get_or ms i 0) (drop (suc i) xs) (drop (suc i) ms) more ∙ rw (drop-drop s (suc i) xs, drop-drop s (suc i) ms, on, size))
