-- The cell with which a word goes on whose next letter is a: the first that has this letter and may go first. The orders left by the cells before it tell
-- how many words come before those that go on so.
--     starts_at ys ms a i           whether the cell at place i has the letter a and may go first
--     met_from ys ms a n i b        among n cells from place i on the first such cell, beside b and the orders left by the cells before it; past the last where
--                                  there is none
--     cell_of_letter c ys ms a       the same of the first c of 20 letters and marks
--     Meeting c ys ms a i before   the loop: the cells before place i are passed
--     Met c ys ms a cell before    what it means for the words of the ribbon: met_told
--     meeting                      the ruleset of the search
-- Assumes nothing.
use Rattle.std.specs.Prelude.{ℕ, zero, suc, ◌+◌, ◌-◌, ◌*◌, ◌≤◌, ◌<◌, ◌≡◌, refl, Bool, true, false, ◌&&◌, cond, List, eqb, ltb, length, get_or, take}
use Rattle.std.proofs.Common.{sym, ap, subst, ◌∙◌, add-one, arith, get_or-take, length-take-le, Fits, rules, eq-eqb, le-ltb, lt-ltb, ne_eqb}
use Rattle.std.specs.Int.{w64}
use Rattle.numbering.specs.Orders.{choices, orders, place_from, with_if}
use Rattle.windows.specs.Gaps.{without}
use Rattle.taken_cells.specs.Choices.{choice_at, choices-places, choices_from, left_bound, may_go, orders_left}
use Rattle.taken_cells.specs.Removal.{marks_without}

-- ---- one cell

abbrev pub starts_at : List ℕ → List ℕ → ℕ → ℕ → Bool
starts_at ys ms a i = eqb (get_or ys i 0) a && may_go ms i

pub starts_not : (ys ms : List ℕ) (a i : ℕ) → (get_or ys i 0 ≡ a → ⊥) → false ≡ starts_at ys ms a i
starts_not ys ms a i e = sym (ap (λ (b : Bool). b && may_go ms i) (ne_eqb (get_or ys i 0) a e))

pub starts_may : {g : Bool} (ys ms : List ℕ) (a i : ℕ) → get_or ys i 0 ≡ a → g ≡ may_go ms i → g ≡ starts_at ys ms a i
starts_may ys ms a i e q = q ∙ sym (ap (λ (b : Bool). b && may_go ms i) (eq-eqb (get_or ys i 0) a e))

-- ---- the search

abbrev pub met_from : List ℕ → List ℕ → ℕ → ℕ → ℕ → ℕ → ℕ × ℕ
met_from ys ms a zero i b = (i, b)
met_from ys ms a (suc n) i b = cond (starts_at ys ms a i) (i, b) (met_from ys ms a n (suc i) (b + orders_left ms i))

-- More than 20 cells are none that count.
unfoldable pub cell_of_letter : ℕ → List ℕ → List ℕ → ℕ → ℕ × ℕ
cell_of_letter c ys ms a = cond (ltb 20 c) (c, 0) (met_from (take c ys) (take c ms) a c 0 0)

pub met_past : (c : ℕ) (ys ms : List ℕ) (a : ℕ) → 20 < c → (c, 0) ≡ cell_of_letter c ys ms a
unfolding cell_of_letter
met_past c ys ms a l = rw (lt-ltb 20 c l)

-- The cells before place i are passed.
pub record Meeting (c : ℕ) (ys ms : List ℕ) (a i before : ℕ) : Type 0 where
  pub size : length ms ≡ 20
  pub few : c ≤ 20
  pub reached : i ≤ c
  pub bound : before ≤ i * 121645100408832000
  pub on : cell_of_letter c ys ms a ≡ met_from (take c ys) (take c ms) a (c - i) i before

pub meeting_start : (c : ℕ) (ys ms : List ℕ) (a : ℕ) → length ms ≡ 20 → c ≤ 20 → Meeting c ys ms a 0 0
unfolding cell_of_letter
meeting_start c ys ms a e l =
    let all : c - 0 ≡ c = omega arith in
    record { size = e; few = l; reached = omega arith; bound = omega arith; on = rw (le-ltb 20 c l, all) }

module _ {c : ℕ} {ys ms : List ℕ} {a i before : ℕ} (h : Meeting c ys ms a i before) (l : i < c) where
  -- Cell i is the next one.
  next : {g : Bool} → g ≡ starts_at ys (take c ms) a i
      → cell_of_letter c ys ms a ≡ cond g (i, before) (met_from (take c ys) (take c ms) a (c - suc i) (suc i) (before + orders_left (take c ms) i))
  next {g} e =
      let step : c - i ≡ suc (c - suc i) = omega arith in
      let same : starts_at (take c ys) (take c ms) a i ≡ g = ap (λ (y : ℕ). eqb y a && may_go (take c ms) i) (get_or-take c ys i 0 l) ∙ sym e in
      h.on ∙ ap (λ (n : ℕ). met_from (take c ys) (take c ms) a n i before) step
      ∙ ap (λ (b : Bool). cond b (i, before) (met_from (take c ys) (take c ms) a (c - suc i) (suc i) (before + orders_left (take c ms) i))) same

  -- The word goes on with it,
  pub meeting_found : {g : Bool} → g ≡ starts_at ys (take c ms) a i → g ≡ true → (i, before) ≡ cell_of_letter c ys ms a
  meeting_found {g} e q = sym (next e ∙ rw q)

  -- or it does not, and the orders that it leaves are before the word.
  module _ {count : ℕ} (k : count ≡ orders_left (take c ms) i) where
    least : count ≤ 121645100408832000
    least =
        let short : length (take c ms) ≡ c = length-take-le c ms (omega (arith, h.size, h.few)) in
        omega (arith, left_bound (take c ms) i (omega (arith, short, h.few)) (omega (arith, short)))

    pub before_fits : Fits w64 (before + count)
    before_fits = record { fits = omega (arith, least, h.bound, h.few) }

    pub meeting_turn : {g : Bool} → g ≡ starts_at ys (take c ms) a i → g ≡ false → Meeting c ys ms a (i + 1) (before + count)
    meeting_turn {g} e q =
        rw (add-one i)
        (record { size = h.size; few = h.few; reached = l; bound = omega (arith, least, h.bound); on = next e ∙ rw (q, ← k) })

-- Past the last cell.
pub meeting_none : {c : ℕ} {ys ms : List ℕ} {a i before : ℕ} → Meeting c ys ms a i before → c ≤ i → (i, before) ≡ cell_of_letter c ys ms a
meeting_none {c} {ys} {ms} {a} {i} {before} h l =
    let over : c - i ≡ 0 = omega arith in
    sym (h.on ∙ ap (λ (n : ℕ). met_from (take c ys) (take c ms) a n i before) over)

pub ruleset meeting = (starts_not, starts_may, met_past, meeting_start, meeting_found, before_fits, meeting_turn, meeting_none, rules)

-- ---- what it means

-- In a ribbon that has c of 20 cells, however the word goes on.
pub record Met (c : ℕ) (ys ms : List ℕ) (a cell before : ℕ) : Type 0 where
  pub found : cell < c → (f : List ℕ → List ℕ → ℕ)
      → place_from a f (choices (take c ys) (take c ms)) ≡ before + f (without cell (take c ys)) (marks_without cell (take c ms))
  pub none : c ≤ cell → (f : List ℕ → List ℕ → ℕ) → place_from a f (choices (take c ys) (take c ms)) ≡ before

-- What the cells from place i on tell, past the words counted so far.
Told : List ℕ → List ℕ → (List ℕ → List ℕ → ℕ) → ℕ → ℕ → ℕ × ℕ → Type 0
Told ys ms f end place p = (p.0 < end → place ≡ p.1 + f (without p.0 ys) (marks_without p.0 ms)) × (end ≤ p.0 → place ≡ p.1)

told_from : (ys ms : List ℕ) (a : ℕ) (f : List ℕ → List ℕ → ℕ) (n i b : ℕ)
    → Told ys ms f (i + n) (b + place_from a f (choices_from ys ms i n)) (met_from ys ms a n i b)
unfolding Told orders_left
told_from ys ms a f zero i b = (λ l. let z : ⊥ = omega arith in absurd z, λ l. omega arith)
told_from ys ms a f (suc n) i b = go (may_go ms i) (eqb (get_or ys i 0) a) refl (λ j. told_from ys ms a f n (suc i) j)
  where
    none : (x z : ℕ) → x + 0 + z ≡ x + z
    none x z = omega arith

    further : (v w : ℕ) (p : ℕ × ℕ) → v ≡ w → Told ys ms f (suc i + n) v p → Told ys ms f (i + suc n) w p
    further v w p e t = (λ l. sym e ∙ t.0 (omega arith), λ l. sym e ∙ t.1 (omega arith))

    go : (may own : Bool) → eqb (get_or ys i 0) a ≡ own
        → ((j : ℕ) → Told ys ms f (suc i + n) (j + place_from a f (choices_from ys ms (suc i) n)) (met_from ys ms a n (suc i) j))
        → Told ys ms f (i + suc n) (b + place_from a f (with_if may (choice_at ys ms i) (choices_from ys ms (suc i) n)))
        (cond (own && may) (i, b) (met_from ys ms a n (suc i) (b + cond may (orders (marks_without i ms)) 0)))
    go true true e ih = (
      λ l. ap (λ (t : Bool). b + cond t (f (without i ys) (marks_without i ms)) (orders (marks_without i ms) + place_from a f (choices_from ys ms (suc i) n))) e,
      λ l. let z : ⊥ = omega arith in absurd z,
    )
    go true false e ih =
        further _ _ _
        (sum b (orders (marks_without i ms)) (place_from a f (choices_from ys ms (suc i) n))
        ∙ sym (ap (λ (t : Bool). b + cond t (f (without i ys) (marks_without i ms)) (orders (marks_without i ms) + place_from a f (choices_from ys ms (suc i) n))) e))
        (ih (b + orders (marks_without i ms)))
      where
        sum : (x y z : ℕ) → x + y + z ≡ x + (y + z)
        sum x y z = omega arith
    go false true e ih = further _ _ _ (none b (place_from a f (choices_from ys ms (suc i) n))) (ih (b + 0))
    go false false e ih = further _ _ _ (none b (place_from a f (choices_from ys ms (suc i) n))) (ih (b + 0))

-- The cell that was found is that of the letter.
pub met_told : {cell before : ℕ} (c : ℕ) (ys ms : List ℕ) (a : ℕ) → length ys ≡ 20 → length ms ≡ 20 → c ≤ 20 → (cell, before) ≡ cell_of_letter c ys ms a
    → Met c ys ms a cell before
unfolding cell_of_letter Told
met_told {cell} {before} c ys ms a d s l e = record { found = λ m f. (meant f).0 m; none = λ m f. (meant f).1 m }
  where
    own : (cell, before) ≡ met_from (take c ys) (take c ms) a c 0 0
    own = e ∙ rw (le-ltb 20 c l)

    meant : (f : List ℕ → List ℕ → ℕ)
        → (cell < c → place_from a f (choices (take c ys) (take c ms)) ≡ before + f (without cell (take c ys)) (marks_without cell (take c ms)))
        × (c ≤ cell → place_from a f (choices (take c ys) (take c ms)) ≡ before)
    meant f =
        let marks : length (take c ms) ≡ c = length-take-le c ms (omega arith) in
        let letters : length (take c ys) ≡ c = length-take-le c ys (omega arith) in
        let all : choices (take c ys) (take c ms) ≡ choices_from (take c ys) (take c ms) 0 c
        = choices-places (take c ys) (take c ms) (letters ∙ sym marks) ∙ ap (choices_from (take c ys) (take c ms) 0) letters in
        let told : Told (take c ys) (take c ms) f (0 + c) (0 + place_from a f (choices_from (take c ys) (take c ms) 0 c)) (cell, before)
        = subst (Told (take c ys) (take c ms) f (0 + c) (0 + place_from a f (choices_from (take c ys) (take c ms) 0 c))) (sym own)
        (told_from (take c ys) (take c ms) a f c 0 0) in
        let none : place_from a f (choices_from (take c ys) (take c ms) 0 c) ≡ 0 + place_from a f (choices_from (take c ys) (take c ms) 0 c) = omega arith in
        (λ m. ap (place_from a f) all ∙ none ∙ told.0 (omega arith), λ m. ap (place_from a f) all ∙ none ∙ told.1 (omega arith))
