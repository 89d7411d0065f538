-- The cells that may be taken out first, and what they leave.
--     Some P cs                one of the choices has the property
--     every_choice             what holds of each choice of a ribbon, by its first cell
--     LinkStep                 the letters of a step: a right step does not fall, any other rises
--     OpenRibbon n l ys ms     l cells with letters up to n, each step so, the first step free
--     choice_letters           a cell taken out leaves every other letter
--     choices_open             a choice of such a ribbon leaves such a ribbon, with one cell fewer
--     Climbing k cs            the letters of the choices rise, from k on; choices_climb: those of a ribbon do
--     choice_orders            a ribbon has as many orders as what its choices leave have together
-- Assumes nothing.
use Prim.Native.Nat.{ℕ, zero, suc, ◌≤◌, ◌<◌}
use native.Mathlib.Omega.{arith}
use mathlib.Core.Path.{◌≡◌, refl, sym, ap, ◌∙◌}
use mathlib.Core.Logic.{◌⊎◌, inl, inr}
use mathlib.Core.Bool.{Bool, true, false, ◌&&◌, false≢true}
use mathlib.Core.List.{List, [], ◌∷◌, map}
use lib.Dec.{eqb}
use lib.ListN.{length}
use Rattle.hypoplactic.specs.Words.{Within, count, tick}
use Rattle.hypoplactic.specs.Ribbons.{Along}
use Rattle.hypoplactic.proofs.Theory.Invariants.{tick_swap}
use Rattle.hypoplactic.proofs.Theory.Pairs.{Rising}
use Rattle.numbering.specs.Orders.{Choice, behind, choices, freed, may_enter, may_leave, orders, others_of, with_if}
use Rattle.numbering.proofs.Theory.Each.{Every, every_both}
use Rattle.numbering.proofs.Theory.Counting.{orders_of, orders-step}

abbrev pub Some : (Choice → Type 0) → List Choice → Type 0
Some P [] = ⊥
Some P (c ∷ cs) = P c ⊎ Some P cs

every_behind : (P Q : Choice → Type 0) (y m : ℕ) (cs : List Choice) → ((c : Choice) → P c → Q (behind y m c)) → Every P cs → Every Q (map (behind y m) cs)
every_behind P Q y m [] f h = tt
every_behind P Q y m (c ∷ cs) f h = (f c h.0, every_behind P Q y m cs f h.1)

every_with : (P : Choice → Type 0) (b : Bool) (c : Choice) (cs : List Choice) → (b ≡ true → P c) → Every P cs → Every P (with_if b c cs)
every_with P true c cs f h = (f refl, h)
every_with P false c cs f h = h

-- What holds of each choice of a ribbon: of its first cell, if that may go first, and of the others behind it.
pub every_choice : (P Q : Choice → Type 0) (y m : ℕ) (ys ms : List ℕ)
    → (may_enter m ≡ true → may_leave ms ≡ true → P (record { letter = y; letters = ys; marks = freed ms }))
    → ((c : Choice) → Q c → P (behind y m c)) → Every Q (choices ys ms) → Every P (choices (y ∷ ys) (m ∷ ms))
every_choice P Q y m ys ms f g h =
    every_with P (may_enter m && may_leave ms) (record { letter = y; letters = ys; marks = freed ms }) (map (behind y m) (choices ys ms))
    (go (may_enter m) (may_leave ms) f) (every_behind Q P y m (choices ys ms) g h)
  where
    go : (a b : Bool) → (a ≡ true → b ≡ true → P (record { letter = y; letters = ys; marks = freed ms }))
        → (a && b) ≡ true → P (record { letter = y; letters = ys; marks = freed ms })
    go true b f e = f refl e
    go false b f e = absurd (false≢true e)

-- ---- ribbons with free steps

abbrev pub LinkStep : ℕ → ℕ → ℕ → Type 0
LinkStep zero p q = p ≤ q
LinkStep (suc m) p q = p < q

-- The first step is free.
abbrev pub FirstFree : List ℕ → Type 0
FirstFree [] = Unit {0}
FirstFree (m ∷ ms) = m ≡ 2

pub record OpenRibbon (n l : ℕ) (ys ms : List ℕ) : Type 0 where
  pub cells : length ys ≡ l
  pub letters : Within n ys
  pub linked : Along LinkStep 0 ys ms
  pub first : FirstFree ms

pub link_le : (m p q : ℕ) → LinkStep m p q → p ≤ q
link_le zero p q h = h
link_le (suc m) p q h = omega arith

pub link_rising : (p : ℕ) (ys ms : List ℕ) → Along LinkStep p ys ms → Rising p ys
link_rising p [] ms h = tt
link_rising p (y ∷ ys) [] h = absurd h
link_rising p (y ∷ ys) (m ∷ ms) h = (link_le m p y h.0, link_rising y ys ms h.1)

pub link_length : (p : ℕ) (ys ms : List ℕ) → Along LinkStep p ys ms → length ys ≡ length ms
link_length p [] [] h = refl
link_length p [] (m ∷ ms) h = absurd h
link_length p (y ∷ ys) [] h = absurd h
link_length p (y ∷ ys) (m ∷ ms) h = ap suc (link_length y ys ms h.1)

-- ---- what a choice leaves

-- A step that lets the cell after it go first rises.
pub entered_rise : (m p q : ℕ) → may_enter m ≡ true → LinkStep m p q → p < q
entered_rise zero p q e h = absurd (false≢true e)
entered_rise (suc m) p q e h = h

-- The other cells are linked as before, across the gap by a free step.
choices_linked : (p : ℕ) (ys ms : List ℕ) → Along LinkStep p ys ms → Every (λ c. Along LinkStep p c.letters c.marks) (choices ys ms)
choices_linked p [] ms h = tt
choices_linked p (y ∷ ys) [] h = tt
choices_linked p (y ∷ ys) (m ∷ ms) h =
    every_choice (λ c. Along LinkStep p c.letters c.marks) (λ c. Along LinkStep y c.letters c.marks) y m ys ms
    (λ e f. gap ys ms (entered_rise m p y e h.0) h.1) (λ c k. (h.0, k)) (choices_linked y ys ms h.1)
  where
    gap : (ys ms : List ℕ) → p < y → Along LinkStep y ys ms → Along LinkStep p ys (freed ms)
    gap [] [] l k = tt
    gap [] (n ∷ ns) l k = absurd k
    gap (z ∷ zs) [] l k = absurd k
    gap (z ∷ zs) (n ∷ ns) l k = (omega (arith, link_le n y z k.0), k.1)

-- A cell taken out leaves every other letter.
pub choice_letters : (ys ms : List ℕ) → Every (λ c. (b : ℕ) → count b ys ≡ tick (eqb c.letter b) (count b c.letters)) (choices ys ms)
choice_letters [] ms = tt
choice_letters (y ∷ ys) [] = tt
choice_letters (y ∷ ys) (m ∷ ms) =
    every_choice (λ c. (b : ℕ) → count b (y ∷ ys) ≡ tick (eqb c.letter b) (count b c.letters))
    (λ c. (b : ℕ) → count b ys ≡ tick (eqb c.letter b) (count b c.letters)) y m ys ms (λ e f b. refl)
    (λ c k b. ap (tick (eqb y b)) (k b) ∙ tick_swap (eqb y b) (eqb c.letter b) (count b c.letters)) (choice_letters ys ms)

choices_within : (n : ℕ) (ys ms : List ℕ) → Within n ys → Every (λ c. Within n c.letters) (choices ys ms)
choices_within n [] ms h = tt
choices_within n (y ∷ ys) [] h = tt
choices_within n (y ∷ ys) (m ∷ ms) h =
    every_choice (λ c. Within n c.letters) (λ c. Within n c.letters) y m ys ms (λ e f. h.2) (λ c k. (h.0, h.1, k)) (choices_within n ys ms h.2)

choices_cells : (ys ms : List ℕ) → Every (λ c. suc (length c.letters) ≡ length ys) (choices ys ms)
choices_cells [] ms = tt
choices_cells (y ∷ ys) [] = tt
choices_cells (y ∷ ys) (m ∷ ms) =
    every_choice (λ c. suc (length c.letters) ≡ suc (length ys)) (λ c. suc (length c.letters) ≡ length ys) y m ys ms (λ e f. refl)
    (λ c k. ap suc k) (choices_cells ys ms)

choices_free : (ys ms : List ℕ) → FirstFree ms → Every (λ c. FirstFree c.marks) (choices ys ms)
choices_free [] ms h = tt
choices_free (y ∷ ys) [] h = tt
choices_free (y ∷ ys) (m ∷ ms) h =
    every_choice (λ c. FirstFree c.marks) (λ c. Unit {0}) y m ys ms (λ e f. free ms) (λ c k. h) (every (choices ys ms))
  where
    free : (ms : List ℕ) → FirstFree (freed ms)
    free [] = tt
    free (m ∷ ms) = refl

    every : (cs : List Choice) → Every (λ c. Unit {0}) cs
    every [] = tt
    every (c ∷ cs) = (tt, every cs)

-- A choice leaves a ribbon of the same kind, with one cell fewer.
pub choices_open : (n l : ℕ) (ys ms : List ℕ) → OpenRibbon n (suc l) ys ms → Every (λ c. OpenRibbon n l c.letters c.marks) (choices ys ms)
choices_open n l ys ms h =
    every_both (λ c. Within n c.letters × (suc (length c.letters) ≡ length ys)) (λ c. Along LinkStep 0 c.letters c.marks × FirstFree c.marks)
    (λ c. OpenRibbon n l c.letters c.marks) (choices ys ms)
    (λ c a b. record { cells = omega (arith, a.1, h.cells); letters = a.0; linked = b.0; first = b.1 })
    (every_both _ _ _ (choices ys ms) (λ c a b. (a, b)) (choices_within n ys ms h.letters) (choices_cells ys ms))
    (every_both _ _ _ (choices ys ms) (λ c a b. (a, b)) (choices_linked 0 ys ms h.linked) (choices_free ys ms h.first))

-- ---- the letters of the choices

-- They rise, each above p.
abbrev pub Climbing : ℕ → List Choice → Type 0
Climbing p [] = Unit {0}
Climbing p (c ∷ cs) = (p < c.letter) × Climbing c.letter cs

climb_lower : (p q : ℕ) (cs : List Choice) → p ≤ q → Climbing q cs → Climbing p cs
climb_lower p q [] l h = tt
climb_lower p q (c ∷ cs) l h = (omega (arith, h.0), h.1)

-- None of them is at most p.
pub climb_above : (a p : ℕ) (cs : List Choice) → a ≤ p → Climbing p cs → Some (λ c. c.letter ≡ a) cs → ⊥
climb_above a p [] l h t = t
climb_above a p (c ∷ cs) l h (inl e) = omega (arith, h.0)
climb_above a p (c ∷ cs) l h (inr t) = climb_above a c.letter cs (omega (arith, h.0)) h.1 t

climb_behind : (p y m : ℕ) (cs : List Choice) → Climbing p cs → Climbing p (map (behind y m) cs)
climb_behind p y m [] h = tt
climb_behind p y m (c ∷ cs) h = (h.0, climb_behind c.letter y m cs h.1)

pub choices_climb : (p : ℕ) (ys ms : List ℕ) → Along LinkStep p ys ms → Climbing p (choices ys ms)
choices_climb p [] ms h = tt
choices_climb p (y ∷ ys) [] h = tt
choices_climb p (y ∷ ys) (m ∷ ms) h = go (may_enter m) refl (may_leave ms) (climb_behind y y m (choices ys ms) (choices_climb y ys ms h.1))
  where
    go : (a : Bool) → may_enter m ≡ a → (b : Bool) → Climbing y (map (behind y m) (choices ys ms))
        → Climbing p (with_if (a && b) (record { letter = y; letters = ys; marks = freed ms }) (map (behind y m) (choices ys ms)))
    go true e true k = (entered_rise m p y e h.0, k)
    go true e false k = climb_lower p y (map (behind y m) (choices ys ms)) (link_le m p y h.0) k
    go false e b k = climb_lower p y (map (behind y m) (choices ys ms)) (link_le m p y h.0) k

-- ---- their orders

-- The choices leave the marks that stand for them in others_of.
choice_marks : (ys ms : List ℕ) → length ys ≡ length ms → map (λ (c : Choice). c.marks) (choices ys ms) ≡ others_of ms
choice_marks [] [] e = refl
choice_marks [] (m ∷ ms) e = let z : ⊥ = omega arith in absurd z
choice_marks (y ∷ ys) [] e = let z : ⊥ = omega arith in absurd z
choice_marks (y ∷ ys) (m ∷ ms) e =
    go (may_enter m && may_leave ms) (behind_marks (choices ys ms) ∙ ap (map (λ (o : List ℕ). m ∷ o)) (choice_marks ys ms (omega arith)))
  where
    behind_marks : (cs : List Choice) → map (λ (c : Choice). c.marks) (map (behind y m) cs) ≡ map (λ (o : List ℕ). m ∷ o) (map (λ (c : Choice). c.marks) cs)
    behind_marks [] = refl
    behind_marks (c ∷ cs) = ap (λ (os : List (List ℕ)). (m ∷ c.marks) ∷ os) (behind_marks cs)

    go : (b : Bool) → map (λ (c : Choice). c.marks) (map (behind y m) (choices ys ms)) ≡ map (λ (o : List ℕ). m ∷ o) (others_of ms)
        → map (λ (c : Choice). c.marks) (with_if b (record { letter = y; letters = ys; marks = freed ms }) (map (behind y m) (choices ys ms)))
        ≡ with_if b (freed ms) (map (λ (o : List ℕ). m ∷ o) (others_of ms))
    go true k = ap (λ (os : List (List ℕ)). freed ms ∷ os) k
    go false k = k

-- A ribbon of one cell or more has as many orders as what its choices leave have together.
pub choice_orders : (n l : ℕ) (ys ms : List ℕ) → OpenRibbon n (suc l) ys ms → orders ms ≡ orders_of (map (λ (c : Choice). c.marks) (choices ys ms))
choice_orders n l ys ms h = go ms (link_length 0 ys ms h.linked) h.first ∙ ap orders_of (sym (choice_marks ys ms (link_length 0 ys ms h.linked)))
  where
    go : (ms : List ℕ) → length ys ≡ length ms → FirstFree ms → orders ms ≡ orders_of (others_of ms)
    go [] e f = let z : ⊥ = omega (arith, h.cells) in absurd z
    go (m ∷ ms) e f = rw f (orders-step 0 ms)
