-- The number of a word found letter by letter: the words that come before are counted at each letter, and its cell is taken out.
--     place_held w xs ms                       the number of w among the words of the ribbon in the first of xs and ms; Placed: it fits 64 bits
--     Finding w xs ms ys ns number i n      i letters are passed; the others go on in the first n of ys and ns
--     finding_turn                          one letter more
--     finding                               the ruleset of the rest of the loop
-- Assumes nothing.
use Rattle.std.specs.Prelude.{ℕ, suc, ◌+◌, ◌-◌, ◌≤◌, ◌<◌, ◌≡◌, ◌⊎◌, List, length, get_or, take, drop}
use Rattle.std.proofs.Common.{sym, ap, ap₂, ◌∙◌, inl, inr, add-one, arith, drop_of_length-le, length-set, drop-cons, Fits, rules}
use Rattle.std.specs.Int.{w64}
use Rattle.hypoplactic.proofs.Theory.Pairs.{le-or-lt}
use Rattle.numbering.specs.Orders.{choices, place_from, place_of}
use Rattle.taken_cells.specs.Lettered.{Met, cell_of_letter, met_told}
use Rattle.taken_cells.specs.Removal.{free_told, marks_without, taken_out, pulled_long, pulled_told, pulled_free}
use Rattle.windows.specs.Gaps.{without}

-- The place of a word among those of a ribbon in as many first cells as it has letters.
abbrev pub place_held : List ℕ → List ℕ → List ℕ → ℕ
place_held w xs ms = place_of w (take (length w) xs) (take (length w) ms)

pub record Placed (w xs ms : List ℕ) : Type 0 where
  pub few : length w ≤ 20
  pub fits : Fits w64 (place_held w xs ms)

-- i letters are passed.
pub record Finding (w xs ms ys ns : List ℕ) (number i n : ℕ) : Type 0 where
  pub placed : Placed w xs ms
  pub letters_long : length ys ≡ 20
  pub marks_long : length ns ≡ 20
  pub reached : i + n ≡ length w
  pub is : place_held w xs ms ≡ number + place_of (drop i w) (take n ys) (take n ns)

pub finding_start : (w xs ms : List ℕ) → Placed w xs ms → length xs ≡ 20 → length ms ≡ 20 → Finding w xs ms xs ms 0 0 (length w)
finding_start w xs ms p d e = record { placed = p; letters_long = d; marks_long = e; reached = omega arith; is = omega arith }

module _ {w xs ms ys ns : List ℕ} {number i n : ℕ} (h : Finding w xs ms ys ns number i n) where
  small : n ≤ 20
  small = omega (arith, h.reached, h.placed.few)

  -- All letters are passed,
  pub finding_end : length w ≤ i → number ≡ place_held w xs ms
  finding_end l =
      let none : place_of (drop i w) (take n ys) (take n ns) ≡ 0 = ap (λ (v : List ℕ). place_of v (take n ys) (take n ns)) (drop_of_length-le w l) in
      omega (arith, h.is)

  module _ (l : i < length w) where
    -- The next letter.
    opens : place_of (drop i w) (take n ys) (take n ns) ≡ place_from (get_or w i 0) (place_of (drop (suc i) w)) (choices (take n ys) (take n ns))
    opens = ap (λ (v : List ℕ). place_of v (take n ys) (take n ns)) (drop-cons w i 0 l)

    module _ {cell before : ℕ} (t : (cell, before) ≡ cell_of_letter n ys ns (get_or w i 0)) where
      m : Met n ys ns (get_or w i 0) cell before
      m = met_told n ys ns (get_or w i 0) h.letters_long h.marks_long small t

      -- The words before it are among those before the word,
      pub sum_fits : Fits w64 (number + before)
      sum_fits = go (le-or-lt n cell)
        where
          go : (n ≤ cell) ⊎ (cell < n) → Fits w64 (number + before)
          go (inl q) = record { fits = omega (arith, h.placed.fits.fits, h.is, opens, m.none q (place_of (drop (suc i) w))) }
          go (inr q) = record { fits = omega (arith, h.placed.fits.fits, h.is, opens, m.found q (place_of (drop (suc i) w))) }

      -- or no cell goes first,
      pub finding_none : n ≤ cell → number + before ≡ place_held w xs ms
      finding_none q = omega (arith, h.is, opens, m.none q (place_of (drop (suc i) w)))

      -- or one does, and is taken out.
      pub finding_turn : {ys' ns' : List ℕ} → cell < n → ys' ≡ taken_out cell (n - 1) ys → ns' ≡ pulled_free cell (n - 1) ns
          → Finding w xs ms ys' ns' (number + before) (i + 1) (n - 1)
      finding_turn {ys'} {ns'} q a b =
          let rest : place_of (drop (suc i) w) (without cell (take n ys)) (marks_without cell (take n ns))
          ≡ place_of (drop (suc i) w) (take (n - 1) ys') (take (n - 1) ns') =
          ap₂ (place_of (drop (suc i) w)) (sym (pulled_told cell n ys q small h.letters_long a)) (sym (free_told cell n ns q small h.marks_long b)) in
          let all : place_held w xs ms ≡ number + before + place_of (drop (suc i) w) (take (n - 1) ys') (take (n - 1) ns') =
          omega (arith, h.is, opens, m.found q (place_of (drop (suc i) w)), rest) in
          record {
            placed = h.placed;
            letters_long = ap length a ∙ pulled_long cell n ys q small h.letters_long;
            marks_long = ap length b ∙ length-set (taken_out cell (n - 1) ns) cell 2 ∙ pulled_long cell n ns q small h.marks_long;
            reached = omega (arith, h.reached);
            is = rw (add-one i) all;
          }

pub ruleset finding = (finding_start, finding_end, sum_fits, finding_none, rules)
