-- The checks of insertion.
--     lists p                          the lists of a lent pair
--     size_judgements, cell_judgements, room_judgements     1 2 3; 4 5 6 17 7 8 of the used cells and the new letter; 12 and 13
--     used_judgements, free_judgements     the same of the lists of a pair
--     used_checks, insert_checks       what 4 to 8 and 17, 12 and 13, and what all of them say
--     Sized, HasUsed                 1, 2 and 3 have passed: the rank is one, and the used cells are there
--     letters_last                   4 of the used letters and then of the new one, whose place is their number
--     sized                          1, 2 and 3 have passed, by what the check of them says
-- Assumes nothing.
use Rattle.std.specs.Prelude.{ℕ, suc, ◌+◌, ◌≤◌, ◌≡◌, refl, List, [], ◌∷◌, ◌++◌, Bool, true, false, length, take}
use Rattle.std.proofs.Common.{arith, sym}
use Rattle.lent.specs.declared.tableaux.CountedPair.{CountedPair}
use Rattle.hypoplactic.specs.Insertion.{Pair, pair_with}
use Rattle.outcomes.specs.Replies.{Said, gives, passed, or_else, first, refuse_if}
use Rattle.outcomes.specs.Counts.{counts_judged}
use Rattle.outcomes.specs.Judgements.{entries_judged, full_judged, length_judged, letters_from, letters_judged, marks_judged, outside, pair_rooms, rank_judged, recording_judged, rising_judged, used_judged}
use Rattle.outcomes.proofs.Theory.Judgements.{length-judged, rank_judged_lem, used_judged_lem}
use Rattle.outcomes.proofs.Theory.Passing.{first-passed}
use Rattle.refusals.specs.Running.{checks_then}

-- The lists of a lent pair.
abbrev pub lists : CountedPair → Pair
lists p = pair_with p.letters.now p.marks.now p.entries.now

-- 1, 2 and 3, from the lengths of the three lists.
abbrev pub size_judgements : ℕ → ℕ → ℕ → ℕ → ℕ → List Said
size_judgements n used letters marks entries = rank_judged n ∷ length_judged used ∷ used_judged used (letters ∷ marks ∷ entries ∷ []) ∷ []

-- 4 to 8 of the used cells and the new letter, and 17 of the counts of the used letters.
abbrev pub cell_judgements : ℕ → ℕ → ℕ → Pair → List ℕ → List Said
cell_judgements n used a p cs =
    letters_judged n (p.letters ++ a ∷ []) ∷ rising_judged p.letters ∷ marks_judged p.letters p.marks ∷ counts_judged cs p.letters
    ∷ entries_judged used p.recording ∷ recording_judged p.recording p.marks ∷ []

-- 12 and 13.
abbrev pub room_judgements : ℕ → ℕ → Pair → List Said
room_judgements used need p = full_judged used ∷ pair_rooms need (length p.letters) (length p.marks) (length p.recording)

-- 4 to 8 and 17 of the used cells of a pair and the new letter, and 12 and 13 of its lists.
abbrev pub used_judgements : ℕ → ℕ → ℕ → Pair → List ℕ → List Said
used_judgements n used a p cs = cell_judgements n used a (pair_with (take used p.letters) (take used p.marks) (take used p.recording)) cs

abbrev pub free_judgements : ℕ → Pair → List Said
free_judgements used p = room_judgements used (suc used) p

-- What 4 to 8 and 17, 12 and 13 say.
abbrev pub used_checks : ℕ → ℕ → ℕ → Pair → List ℕ → Said
used_checks n used a p cs = checks_then (used_judgements n used a p cs) (free_judgements used p)

-- What all checks of insertion say.
abbrev pub insert_checks : ℕ → ℕ → ℕ → Pair → List ℕ → Said
insert_checks n used a p cs =
    checks_then (size_judgements n used (length p.letters) (length p.marks) (length p.recording)) (used_judgements n used a p cs ++ free_judgements used p)

-- A rank, at most 1,024 used cells, and each of the three lists has them.
pub record Sized (n used letters marks entries : ℕ) : Type 0 where
  pub low : 1 ≤ n
  pub high : n ≤ 64
  pub few : used ≤ 1024
  pub in_letters : used ≤ letters
  pub in_marks : used ≤ marks
  pub in_entries : used ≤ entries

-- A lent pair has so many used cells.
abbrev pub HasUsed : ℕ → CountedPair → Type 0
HasUsed used p = Sized p.rank used (length p.letters.now) (length p.marks.now) (length p.entries.now)

-- ---- the letters

-- 4 with one letter more at the end, the letters from place i on.
letters_from_snoc : (n a i : ℕ) (xs : List ℕ)
    → letters_from n i (xs ++ a ∷ []) ≡ or_else (letters_from n i xs) (refuse_if (outside n a) 4 (i + length xs) passed)
letters_from_snoc n a i [] = let e : i + 0 ≡ i = omega arith in rw e
letters_from_snoc n a i (x ∷ xs) =
    let e : i + suc (length xs) ≡ suc i + length xs = omega arith in
    rw (e, letters_from_snoc n a (suc i) xs) (go (outside n x) (letters_from n (suc i) xs) _)
  where
    go : (b : Bool) (s t : Said) → refuse_if b 4 i (or_else s t) ≡ or_else (refuse_if b 4 i s) t
    go true s t = refl
    go false s t = refl

-- 4 of the used letters, or else of the new one, whose place is their number.
pub letters_last : (n a : ℕ) (xs : List ℕ)
    → letters_judged n (xs ++ a ∷ []) ≡ or_else (letters_judged n xs) (refuse_if (outside n a) 4 (length xs) passed)
unfolding letters_judged
letters_last n a xs = let z : 0 + length xs ≡ length xs = omega arith in rw z at (letters_from_snoc n a 0 xs)

-- ---- the sizes

-- Where 1, 2 and 3 pass, the rank is one, and the used cells are there.
pub sized : (used : ℕ) (p : CountedPair)
    → gives [] ≡ first (size_judgements p.rank used (length p.letters.now) (length p.marks.now) (length p.entries.now)) passed → HasUsed used p
sized used p e =
    let (rank, (short, (held, t))) =
    (first-passed (size_judgements p.rank used (length p.letters.now) (length p.marks.now) (length p.entries.now))).0 (sym e) in
    let all = (used_judged_lem used (length p.letters.now ∷ length p.marks.now ∷ length p.entries.now ∷ [])).0 held in
    record {
      low = ((rank_judged_lem p.rank).0 rank).0;
      high = ((rank_judged_lem p.rank).0 rank).1;
      few = (length-judged used).0 short;
      in_letters = all.0;
      in_marks = all.1.0;
      in_entries = all.1.1.0;
    }
