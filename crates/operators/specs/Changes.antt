-- What a move changes in letters, and how often it can, once it is known whether there is an inversion: b tells. Words and tableaux share it.
--     move_letters_run n m b w        1, 9, 10 and 11, and the letters afterwards
--     repeat_letters_says n m b w     1, 2 and 9, and the repeat count
--     limits_judgements, change_judgements, target_judgements     1 and 2; 1 and 9; 10 and 11
--     index_small, small_byte       past 1 and 9 the index is below 64, and fits a byte
--     move_on, repeat_on            past checks that begin with 1 and 2, what is said is what those checks and the move's say
--     changing, recurring           the rulesets of moves and of repeat counts
-- The place that a move changes is in Targets. Assumes nothing.
use Rattle.std.specs.Prelude.{Result, Ok, Err}
use Rattle.std.specs.Prelude.{ℕ, ◌≤◌, ◌<◌, ◌≡◌, refl, List, [], ◌∷◌, ◌++◌, Bool, true, false, cond, length, set}
use Rattle.std.proofs.Math.Path.{sym}
use Rattle.std.proofs.Common.{ap, ◌∙◌, arith, Fits, rules}
use Rattle.std.proofs.Math.Option.{Option as Place, none, some}
use Rattle.std.specs.Int.{w8}
use Rattle.hypoplactic.specs.Words.{count}
use Rattle.quasi_crystal.specs.Moves.{Move, taken, given, changed_place, moved, remaining, replaced, target}
use Rattle.outcomes.specs.Replies.{Said, gives, passed, Passes, or_else, first, refuse_if, ran_to}
use Rattle.outcomes.specs.Judgements.{rank_judged, length_judged, index_judged, inversion_judged, letter_judged}
use Rattle.outcomes.specs.WordOperations.{move_judgements, or_same, place_told}
use Rattle.outcomes.proofs.Theory.Judgements.{rank_judged_lem, length-judged, index_judged_lem}
use Rattle.outcomes.proofs.Theory.Passing.{Passing, first-append, first-passed, first_past}
use Rattle.refusals.specs.Said.{said_refusal}
use Rattle.refusals.specs.declared.refusal.Refusal.{Refusal}
use Rattle.operators.specs.Targets.{side_of, move_by, target_by, target_of, no_place, target-lacking, target-within}
use Rattle.operators.specs.declared.changes.Side.{Side as Chosen}

-- A move in letters: what is replied, and the letters afterwards.
unfoldable pub move_letters_run : ℕ → Move → Bool → List ℕ → Said × List ℕ
move_letters_run n m b w = ran_to (first (rank_judged n ∷ move_judgements n m b w) (gives (place_told (changed_place b m w)))) (or_same (moved b m w) w) w

-- How often it can be made.
unfoldable pub repeat_letters_says : ℕ → Move → Bool → List ℕ → Said
repeat_letters_says n m b w = first (rank_judged n ∷ length_judged (length w) ∷ index_judged n m.index ∷ []) (gives (remaining m b w ∷ []))

-- 1 and 2: the limits.
abbrev pub limits_judgements : ℕ → List ℕ → List Said
limits_judgements n w = rank_judged n ∷ length_judged (length w) ∷ []

-- 1 and 9: the index is one of the rank's.
abbrev pub change_judgements : ℕ → ℕ → List Said
change_judgements n i = rank_judged n ∷ index_judged n i ∷ []

-- 10 and 11: there is no inversion, and there is a letter to change.
abbrev pub target_judgements : Move → Bool → List ℕ → List Said
target_judgements m b w = inversion_judged b ∷ letter_judged (taken m.side m.index) w ∷ []

-- What a move replies past 1 and 9, and the letters afterwards; a is the letter that the move gives.
abbrev pub move_ran : Result ℕ Refusal → ℕ → List ℕ → Said × List ℕ
move_ran (Ok k) a w = (gives (k ∷ []), set w k a)
move_ran (Err r) a w = (said_refusal r, w)

-- ---- the index

-- Past 1 and 9 the index is below 64,
pub index_small : (n i : ℕ) → Passes (rank_judged n) → Passes (index_judged n i) → i < 64
index_small n i r x = omega (arith, ((rank_judged_lem n).0 r).1, ((index_judged_lem n i).0 x).1)

-- so that it fits a byte.
pub small_byte : {i : ℕ} → i < 64 → Fits w8 i
small_byte h = record { fits = omega arith }

-- ---- past checks that begin with 1 and 2

module _ (n : ℕ) (m : Move) (b : Bool) (w : List ℕ) (ks : List Said) (p : Passing (limits_judgements n w ++ ks)) where
  pub move_on : move_letters_run n m b w
      ≡ ran_to (first ((limits_judgements n w ++ ks) ++ move_judgements n m b w) (gives (place_told (changed_place b m w)))) (or_same (moved b m w) w) w
  unfolding move_letters_run
  move_on =
      rw (
        first_past (rank_judged n ∷ []) (move_judgements n m b w) (gives (place_told (changed_place b m w))) (p.0, tt),
        first_past (limits_judgements n w ++ ks) (move_judgements n m b w) (gives (place_told (changed_place b m w))) p,
      )

  pub repeat_on : repeat_letters_says n m b w ≡ first ((limits_judgements n w ++ ks) ++ (index_judged n m.index ∷ [])) (gives (remaining m b w ∷ []))
  unfolding repeat_letters_says
  repeat_on =
      rw (
        first_past (limits_judgements n w) (index_judged n m.index ∷ []) (gives (remaining m b w ∷ [])) (p.0, (p.1.0, tt)),
        first_past (limits_judgements n w ++ ks) (index_judged n m.index ∷ []) (gives (remaining m b w ∷ [])) p,
      )

-- ---- moves

-- 10 and 11, and the letters afterwards.
ran_moved : (m : Move) (b : Bool) (w : List ℕ)
    → ran_to (first (target_judgements m b w) (gives (place_told (changed_place b m w)))) (or_same (moved b m w) w) w
    ≡ move_ran (target_of b m.side m.index w) (given m.side m.index) w
unfolding inversion_judged letter_judged target_of
ran_moved m b w = rw (target-lacking m.side m.index w) (go b (target m.side m.index w))
  where
    a : ℕ
    a = given m.side m.index

    go : (b : Bool) (o : Place ℕ)
        → ran_to (or_else (refuse_if b 10 0 passed) (or_else (refuse_if (no_place o) 11 0 passed) (gives (place_told (cond b none o)))))
        (or_same (replaced a w (cond b none o)) w) w
        ≡ move_ran (target_by b o) a w
    go true o = refl
    go false none = refl
    go false (some k) = refl

-- 1 and 9 refuse, and nothing changes,
pub change_refused : (n i : ℕ) (s : Chosen) (b : Bool) (w : List ℕ) (r : Refusal) → said_refusal r ≡ first (change_judgements n i) passed
    → (said_refusal r, w) ≡ move_letters_run n (move_by s i) b w
unfolding move_letters_run
change_refused n i s b w r e = rw (first-append (change_judgements n i) (target_judgements (move_by s i) b w) _, ← e)

module _ (n i : ℕ) (e : gives [] ≡ first (change_judgements n i) passed) where
  passing : Passing (change_judgements n i)
  passing = (first-passed (change_judgements n i)).0 (sym e)

  -- or pass, so that the index is small,
  pub passed_index : i < 64
  passed_index = let p = passing in index_small n i p.0 p.1.0

  -- and the move is as its target tells:
  module _ (s : Chosen) (b : Bool) (w : List ℕ) where
    pub change_passed : move_ran (target_of b (side_of s) i w) (given (side_of s) i) w ≡ move_letters_run n (move_by s i) b w
    unfolding move_letters_run
    change_passed =
        let told : Said = gives (place_told (changed_place b (move_by s i) w)) in
        let past = first_past (change_judgements n i) (target_judgements (move_by s i) b w) told passing in
        rw past (sym (ran_moved (move_by s i) b w))

    -- there is no place,
    pub change_missing : (r : Refusal) → Err r ≡ target_of b (side_of s) i w → (said_refusal r, w) ≡ move_letters_run n (move_by s i) b w
    change_missing r f = ap (λ (t : Result ℕ Refusal). move_ran t (given (side_of s) i) w) f ∙ change_passed

    -- or the letter there is changed.
    pub change_made : {a k : ℕ} → Ok k ≡ target_of b (side_of s) i w → a ≡ given (side_of s) i → (gives (k ∷ []), set w k a) ≡ move_letters_run n (move_by s i) b w
    change_made {a} {k} f h = rw h (ap (λ (t : Result ℕ Refusal). move_ran t (given (side_of s) i) w) f ∙ change_passed)

pub ruleset changing = (target-within, passed_index, small_byte, change_refused, change_missing, change_made, rules)

-- ---- repeat counts

-- What is said past 1 and 2: what 1 and 9 say, or else the count.
says_index : (n : ℕ) (m : Move) (b : Bool) (w : List ℕ) → Passing (limits_judgements n w)
    → repeat_letters_says n m b w ≡ or_else (first (change_judgements n m.index) passed) (gives (remaining m b w ∷ []))
unfolding repeat_letters_says
says_index n m b w p =
    first_past (limits_judgements n w) (index_judged n m.index ∷ []) a p ∙ sym (first_past (rank_judged n ∷ []) (index_judged n m.index ∷ []) a (p.0, tt))
    ∙ first-append (change_judgements n m.index) [] a
  where
    a : Said
    a = gives (remaining m b w ∷ [])

-- 1 and 2 refuse,
pub count_refused : (n i : ℕ) (s : Chosen) (b : Bool) (w : List ℕ) (r : Refusal) → said_refusal r ≡ first (limits_judgements n w) passed
    → said_refusal r ≡ repeat_letters_says n (move_by s i) b w
unfolding repeat_letters_says
count_refused n i s b w r e = rw (first-append (limits_judgements n w) (index_judged n i ∷ []) (gives (remaining (move_by s i) b w ∷ [])), ← e)

module _ (n : ℕ) (w : List ℕ) (d : gives [] ≡ first (limits_judgements n w) passed) where
  passing_limits : Passing (limits_judgements n w)
  passing_limits = (first-passed (limits_judgements n w)).0 (sym d)

  -- or pass, so that the letters are few,
  pub passed_length : length w ≤ 1024
  passed_length = (length-judged (length w)).0 passing_limits.1.0

  module _ (i : ℕ) (s : Chosen) (b : Bool) where
    -- and then 1 and 9 refuse,
    pub count-stopped : (r : Refusal) → said_refusal r ≡ first (change_judgements n i) passed → said_refusal r ≡ repeat_letters_says n (move_by s i) b w
    count-stopped r e = sym (says_index n (move_by s i) b w passing_limits ∙ rw (← e))

    -- or pass: without an inversion one for each letter that the move takes.
    module _ (e : gives [] ≡ first (change_judgements n i) passed) where
      count_passed : gives (remaining (move_by s i) b w ∷ []) ≡ repeat_letters_says n (move_by s i) b w
      count_passed = sym (says_index n (move_by s i) b w passing_limits ∙ rw (← e))

      pub none_repeated : b ≡ true → gives (0 ∷ []) ≡ repeat_letters_says n (move_by s i) b w
      none_repeated f = (rw f) ∙ count_passed

      pub all_repeated : {a k : ℕ} → b ≡ false → a ≡ taken (side_of s) i → k ≡ count a w → gives (k ∷ []) ≡ repeat_letters_says n (move_by s i) b w
      all_repeated f h c = rw c (rw f (rw h refl)) ∙ count_passed

pub ruleset recurring = (passed_length, passed_index, small_byte, count_refused, count-stopped, none_repeated, all_repeated, rules)
