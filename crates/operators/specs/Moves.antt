-- Moves and repeat counts on a word: the inversion, and what is replied past 1, 2, 4 and 9.
--     found_inversion                  the inversion by two places
--     inverting, judging, moving, repeating     the rulesets of the inversion, of the checks, of moves and of repeat counts
-- What follows the checks and the inversion is in Changes. Assumes nothing.
use Rattle.std.specs.Prelude.{Result}
use Rattle.std.specs.Prelude.{ℕ, ◌+◌, ◌<◌, ◌≡◌, Bool}
use Rattle.std.proofs.Math.Path.{sym}
use Rattle.std.proofs.Common.{◌∙◌, add-one, rules}
use mathlib.Core.List.{List, [], ◌∷◌, ◌++◌}
use Rattle.std.proofs.Math.Option.{Option as Place}
use Rattle.quasi_crystal.specs.Moves.{inverted, leftmost, rightmost, repeat_word}
use Rattle.outcomes.specs.Replies.{Said, gives, first, passed}
use Rattle.outcomes.specs.Judgements.{letters_judged, index_judged, word_judgements}
use Rattle.outcomes.specs.WordOperations.{move_word_run, move_word_says, repeat_word_says}
use Rattle.outcomes.proofs.Theory.Passing.{Passing, passing_append, first-append, first-passed}
use Rattle.refusals.specs.Chains.{ends}
use Rattle.refusals.specs.Running.{checks_then}
use Rattle.refusals.specs.Said.{said_refusal, said_verdict}
use Rattle.refusals.specs.declared.refusal.Refusal.{Refusal}
use Rattle.operators.specs.Changes.{target_judgements, move_letters_run, repeat_letters_says, index_small, small_byte, move_on, repeat_on}
use Rattle.occurrences.specs.Places.{stands_left, inversion_places}
use Rattle.operators.specs.Targets.{move_by}
use Rattle.operators.specs.declared.changes.Side.{Side as Chosen}

-- ---- the inversion

-- The leftmost i+1 at p and the rightmost i at q, b telling whether p is left of q: b tells whether there is an inversion.
pub found_inversion : (i : ℕ) (w : List ℕ) {p q : Place ℕ} {b : Bool} → p ≡ leftmost (i + 1) w → q ≡ rightmost i w → b ≡ stands_left p q → b ≡ inverted i w
found_inversion i w h l e = e ∙ rw (h, l, add-one i) (sym (inversion_places i w))

pub ruleset inverting = (found_inversion, rules)

-- ---- the checks

-- The checks of a word refuse, or pass and that of the index follows.
pub word_refused : (n i : ℕ) (w : List ℕ) (r : Refusal) → said_refusal r ≡ first (word_judgements n w) passed
    → said_refusal r ≡ checks_then (word_judgements n w) (index_judged n i ∷ [])
unfolding checks_then
word_refused n i w r e = rw (first-append (word_judgements n w) (index_judged n i ∷ []) passed, ← e)

pub word_passed : (v : Result (Unit {0}) Refusal) (n i : ℕ) (w : List ℕ) → gives [] ≡ first (word_judgements n w) passed → said_verdict v ≡ index_judged n i
    → said_verdict v ≡ checks_then (word_judgements n w) (index_judged n i ∷ [])
unfolding checks_then
word_passed v n i w e f = rw (first-append (word_judgements n w) (index_judged n i ∷ []) passed, ← e) (ends v (index_judged n i) f)

pub ruleset judging = (word_refused, word_passed, rules)

-- ---- moves and repeat counts

-- 1, 2, 4 and 9 refuse, and nothing changes,
module _ (n i : ℕ) (w : List ℕ) (s : Chosen) (r : Refusal) (e : said_refusal r ≡ checks_then (word_judgements n w) (index_judged n i ∷ [])) where
  pub move_refused : (said_refusal r, w) ≡ move_word_run n (move_by s i) w
  unfolding move_word_run move_word_says checks_then
  move_refused =
      let checks = word_judgements n w ++ (index_judged n i ∷ []) in
      rw (first-append checks (target_judgements (move_by s i) (inverted i w) w) _, ← e)

  pub repeat_refused : said_refusal r ≡ repeat_word_says n (move_by s i) w
  unfolding repeat_word_says checks_then
  repeat_refused =
      let checks = word_judgements n w ++ (index_judged n i ∷ []) in sym (first-append checks [] (gives (repeat_word (move_by s i) w ∷ [])) ∙ rw (← e))

-- or pass,
module _ (n i : ℕ) (w : List ℕ) (e : gives [] ≡ checks_then (word_judgements n w) (index_judged n i ∷ [])) where
  judged : Passing (word_judgements n w) × (i < 64)
  unfolding checks_then
  judged =
      let all = (passing_append (word_judgements n w) (index_judged n i ∷ [])).0 ((first-passed (word_judgements n w ++ (index_judged n i ∷ []))).0 (sym e)) in
      (all.0, index_small n i all.0.0 all.1.0)

  pub passed_index : i < 64
  passed_index = judged.1

  -- and the letters are moved or counted as the inversion tells.
  pub move_passed : {b : Bool} {r : Said × List ℕ} (s : Chosen) → b ≡ inverted i w → r ≡ move_letters_run n (move_by s i) b w → r ≡ move_word_run n (move_by s i) w
  unfolding move_word_run move_word_says
  move_passed s f h = h ∙ rw f (move_on n (move_by s i) (inverted i w) w (letters_judged n w ∷ []) judged.0)

  pub repeat_passed : {b : Bool} {r : Said} (s : Chosen) → b ≡ inverted i w → r ≡ repeat_letters_says n (move_by s i) b w → r ≡ repeat_word_says n (move_by s i) w
  unfolding repeat_word_says repeat_word
  repeat_passed s f h = h ∙ rw f (repeat_on n (move_by s i) (inverted i w) w (letters_judged n w ∷ []) judged.0)

pub ruleset moving = (passed_index, small_byte, move_refused, move_passed, rules)

pub ruleset repeating = (passed_index, small_byte, repeat_refused, repeat_passed, rules)
