-- Letters narrowed to bytes.
--     Narrowing n c xs bytes i the loop over letters: the first i, of c in all, are in the bytes, of which there are n
-- Assumes nothing.
use Rattle.std.specs.Prelude.{ℕ, min, ◌+◌, ◌≤◌, ◌<◌, ◌≡◌, refl, List, [], ◌∷◌, ◌++◌, map, length, get_or, set, take, replicate}
use Rattle.std.proofs.Common.{◌∙◌, add-one, arith, length-take-le, take-suc}
use Rattle.std.proofs.lemmas.List.{map-append, length-map}
use Rattle.acceptance.specs.Bytes.{narrowed}
use Rattle.scans.specs.Kept.{kept, kept_enough, kept_next}
use Rattle.line_items.specs.Blank.{blank, blank_is, blank_long}

-- The first i letters are narrowed, of as many as there are, or as there is room for: c.
pub record Narrowing (n c : ℕ) (xs bytes : List ℕ) (i : ℕ) : Type 0 where
  pub count : c ≡ min (length xs) n
  pub reached : i ≤ length xs
  pub bytes_are : bytes ≡ kept (map narrowed (take i xs)) (blank n)

-- None.
pub narrow_start : {c : ℕ} (n : ℕ) (xs : List ℕ) → c ≡ min (length xs) n → Narrowing n c xs (replicate n 0) 0
narrow_start n xs e = record { count = e; reached = omega arith; bytes_are = blank_is n }

module _ {n c : ℕ} {xs bytes : List ℕ} {i : ℕ} (h : Narrowing n c xs bytes i) where
  -- A letter that is left has its place,
  pub narrow_letter : i < c → i < length xs
  narrow_letter l = omega (arith, h.count)

  -- one letter more,
  pub narrow_turn : {v : ℕ} → i < c → v ≡ narrowed (get_or xs i 0) → Narrowing n c xs (set bytes i v) (i + 1)
  narrow_turn {v} l e =
      let size : length (map narrowed (take i xs)) ≡ i = length-map (take i xs) narrowed ∙ length-take-le i xs h.reached in
      let more : i < length xs = narrow_letter l in
      let next : set (kept (map narrowed (take i xs)) (blank n)) i v ≡ kept (map narrowed (take i xs) ++ (v ∷ [])) (blank n) =
      rw size at (kept_next (map narrowed (take i xs)) (blank n) v) in
      record {
        count = h.count;
        reached = omega arith;
        bytes_are =
            rw (add-one i, take-suc xs i 0 more, map-append narrowed (take i xs) (get_or xs i 0 ∷ []), ← e, h.bytes_are) next;
      }

  -- and all of them.
  pub narrow_end : c ≤ i → bytes ≡ kept (map narrowed xs) (blank n)
  narrow_end l = h.bytes_are ∙ kept_enough narrowed i xs (blank n) (omega (arith, h.count, blank_long n {xs = blank n} refl))
