-- The cell with which the word of a number goes on: past the words of the cells before it, as many as each leaves orders.
--     sought_from ms n i k     among n cells from place i on the first whose words reach the number k, beside what is left of k; past the last where none does
--     cell_of_number c ms k     the same of the first c of 20 marks
--     Seeking c ms k i left   the loop: the words of the cells before place i are passed
--     Sought c ms k cell left what it means for the words of the ribbon: sought_told
--     seeking                 the ruleset of the search
-- Assumes nothing.
use Rattle.std.specs.Prelude.{ℕ, zero, suc, ◌+◌, ◌-◌, ◌≤◌, ◌<◌, ◌≡◌, refl, Bool, true, false, cond, List, [], ◌∷◌, ltb, length, get_or, take}
use Rattle.std.proofs.Common.{sym, ap, subst, ◌∙◌, add-one, arith, get_or-take, length-take-le, rules, le-ltb, lt-ltb}
use Rattle.numbering.specs.Orders.{Choice, choices, orders, with_if, word_among}
use Rattle.windows.specs.Gaps.{without}
use Rattle.taken_cells.specs.Choices.{choice_at, choices-places, choices_from, may_go, orders_left}
use Rattle.taken_cells.specs.Removal.{marks_without}

abbrev pub sought_from : List ℕ → ℕ → ℕ → ℕ → ℕ × ℕ
sought_from ms zero i k = (i, k)
sought_from ms (suc n) i k = cond (ltb k (orders_left ms i)) (i, k) (sought_from ms n (suc i) (k - orders_left ms i))

-- More than 20 cells are none that count.
unfoldable pub cell_of_number : ℕ → List ℕ → ℕ → ℕ × ℕ
cell_of_number c ms k = cond (ltb 20 c) (c, k) (sought_from (take c ms) c 0 k)

-- ---- the loop

pub sought_past : (c : ℕ) (ms : List ℕ) (k : ℕ) → 20 < c → (c, k) ≡ cell_of_number c ms k
unfolding cell_of_number
sought_past c ms k l = rw (lt-ltb 20 c l)

-- The words of the cells before place i are passed.
pub record Seeking (c : ℕ) (ms : List ℕ) (k i left : ℕ) : Type 0 where
  pub few : c ≤ 20
  pub reached : i ≤ c
  pub on : cell_of_number c ms k ≡ sought_from (take c ms) (c - i) i left

pub seeking_start : (c : ℕ) (ms : List ℕ) (k : ℕ) → c ≤ 20 → Seeking c ms k 0 k
unfolding cell_of_number
seeking_start c ms k l =
    let all : c - 0 ≡ c = omega arith in
    record { few = l; reached = omega arith; on = rw (le-ltb 20 c l, all) }

module _ {c : ℕ} {ms : List ℕ} {k i left count : ℕ} (h : Seeking c ms k i left) (l : i < c) (e : count ≡ orders_left (take c ms) i) where
  -- Cell i is the next one.
  next : cell_of_number c ms k ≡ cond (ltb left count) (i, left) (sought_from (take c ms) (c - suc i) (suc i) (left - count))
  next = let step : c - i ≡ suc (c - suc i) = omega arith in h.on ∙ ap (λ (n : ℕ). sought_from (take c ms) n i left) step ∙ rw e

  -- Its words are passed as well,
  pub seeking_turn : count ≤ left → Seeking c ms k (i + 1) (left - count)
  seeking_turn m = rw (add-one i) (record { few = h.few; reached = l; on = next ∙ rw (le-ltb left count m) })

  -- or the word is one of them.
  pub seeking_found : left < count → (i, left) ≡ cell_of_number c ms k
  seeking_found m = sym (next ∙ rw (lt-ltb left count m))

-- Past the last cell.
pub seeking_none : {c : ℕ} {ms : List ℕ} {k i left : ℕ} → Seeking c ms k i left → c ≤ i → (i, left) ≡ cell_of_number c ms k
seeking_none {c} {ms} {k} {i} {left} h l = let over : c - i ≡ 0 = omega arith in sym (h.on ∙ ap (λ (n : ℕ). sought_from (take c ms) n i left) over)

pub ruleset seeking = (sought_past, seeking_start, seeking_turn, seeking_found, seeking_none, rules)

-- ---- what it means

-- Of a ribbon that has c of 20 cells, whatever its letters are and however words go on.
pub record Sought (c : ℕ) (ms : List ℕ) (k cell left : ℕ) : Type 0 where
  pub found : cell < c → (ys : List ℕ) → length ys ≡ 20 → (f : List ℕ → List ℕ → ℕ → List ℕ)
      → word_among f (choices (take c ys) (take c ms)) k ≡ get_or ys cell 0 ∷ f (without cell (take c ys)) (marks_without cell (take c ms)) left
  pub none : c ≤ cell → (ys : List ℕ) → length ys ≡ 20 → (f : List ℕ → List ℕ → ℕ → List ℕ) → word_among f (choices (take c ys) (take c ms)) k ≡ []

-- What the cells from place i on tell: the word goes on with the cell that is found, or there is none.
Told : List ℕ → List ℕ → (List ℕ → List ℕ → ℕ → List ℕ) → ℕ → List ℕ → ℕ × ℕ → Type 0
Told ys ms f end word p =
    (p.0 < end → word ≡ get_or ys p.0 0 ∷ f (without p.0 ys) (marks_without p.0 ms) p.1) × (end ≤ p.0 → word ≡ [])

told_from : (ys ms : List ℕ) (f : List ℕ → List ℕ → ℕ → List ℕ) (n i k : ℕ) → Told ys ms f (i + n) (word_among f (choices_from ys ms i n) k) (sought_from ms n i k)
unfolding Told orders_left
told_from ys ms f zero i k = (λ l. let z : ⊥ = omega arith in absurd z, λ l. refl)
told_from ys ms f (suc n) i k = go (may_go ms i) (λ j. told_from ys ms f n (suc i) j)
  where
    rest : List Choice
    rest = choices_from ys ms (suc i) n

    further : (w : List ℕ) (p : ℕ × ℕ) → Told ys ms f (suc i + n) w p → Told ys ms f (i + suc n) w p
    further w p t = (λ l. t.0 (omega arith), λ l. t.1 (omega arith))

    reach : (t : Bool) → Told ys ms f (suc i + n) (word_among f rest (k - orders (marks_without i ms))) (sought_from ms n (suc i) (k - orders (marks_without i ms)))
        → Told ys ms f (i + suc n) (cond t (get_or ys i 0 ∷ f (without i ys) (marks_without i ms) k) (word_among f rest (k - orders (marks_without i ms))))
        (cond t (i, k) (sought_from ms n (suc i) (k - orders (marks_without i ms))))
    reach true t = (λ l. refl, λ l. let z : ⊥ = omega arith in absurd z)
    reach false t = further (word_among f rest (k - orders (marks_without i ms))) (sought_from ms n (suc i) (k - orders (marks_without i ms))) t

    go : (b : Bool) → ((j : ℕ) → Told ys ms f (suc i + n) (word_among f (choices_from ys ms (suc i) n) j) (sought_from ms n (suc i) j))
        → Told ys ms f (i + suc n) (word_among f (with_if b (choice_at ys ms i) (choices_from ys ms (suc i) n)) k)
        (cond (ltb k (cond b (orders (marks_without i ms)) 0)) (i, k) (sought_from ms n (suc i) (k - cond b (orders (marks_without i ms)) 0)))
    go true ih = reach (ltb k (orders (marks_without i ms))) (ih (k - orders (marks_without i ms)))
    go false ih =
        let none : k - 0 ≡ k = omega arith in
        rw (le-ltb k 0 (omega arith), none) (further (word_among f (choices_from ys ms (suc i) n) k) (sought_from ms n (suc i) k) (ih k))

-- The cell that was found is that of the word.
pub sought_told : {cell left : ℕ} (c : ℕ) (ms : List ℕ) (k : ℕ) → length ms ≡ 20 → c ≤ 20 → (cell, left) ≡ cell_of_number c ms k → Sought c ms k cell left
unfolding cell_of_number Told
sought_told {cell} {left} c ms k s l e = record { found = λ m ys d f. (meant ys d f).0 m; none = λ m ys d f. (meant ys d f).1 m }
  where
    own : (cell, left) ≡ sought_from (take c ms) c 0 k
    own = e ∙ rw (le-ltb 20 c l)

    meant : (ys : List ℕ) → length ys ≡ 20 → (f : List ℕ → List ℕ → ℕ → List ℕ)
        → (cell < c → word_among f (choices (take c ys) (take c ms)) k ≡ get_or ys cell 0 ∷ f (without cell (take c ys)) (marks_without cell (take c ms)) left)
        × (c ≤ cell → word_among f (choices (take c ys) (take c ms)) k ≡ [])
    meant ys d f =
        let marks : length (take c ms) ≡ c = length-take-le c ms (omega arith) in
        let letters : length (take c ys) ≡ c = length-take-le c ys (omega arith) in
        let all : choices (take c ys) (take c ms) ≡ choices_from (take c ys) (take c ms) 0 c
        = choices-places (take c ys) (take c ms) (letters ∙ sym marks) ∙ ap (choices_from (take c ys) (take c ms) 0) letters in
        let told : Told (take c ys) (take c ms) f (0 + c) (word_among f (choices_from (take c ys) (take c ms) 0 c) k) (cell, left)
        = subst (Told (take c ys) (take c ms) f (0 + c) (word_among f (choices_from (take c ys) (take c ms) 0 c) k)) (sym own) (told_from (take c ys) (take c ms) f c 0 k) in (
          λ m. ap (λ (cs : List Choice). word_among f cs k) all ∙ told.0 (omega arith)
              ∙ ap (λ (y : ℕ). y ∷ f (without cell (take c ys)) (marks_without cell (take c ms)) left) (get_or-take c ys cell 0 m),
          λ m. ap (λ (cs : List Choice). word_among f cs k) all ∙ told.1 (omega arith),
        )
