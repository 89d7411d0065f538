-- Whole lines into lent memory, once the values are judged: the room, then the bytes. Every line begins with the letter of its kind and a field.
--     line_of kind n rest                     a line whose first field is of the number n
--     head_laid, head_kept                   its beginning
--     length-line                            how many bytes a line has
--     line_refused, line_laid                reply and memory from what is judged of the room on
--     head_room, rest_room, feed_room        where it passes there is room for each part
--     line_kept                              no store changes how many elements there are
--     heading, lining                        the rulesets of the functions on parts of lines and on whole lines
-- Assumes nothing.
use Rattle.std.specs.Prelude.{Ok, Err}
use Rattle.std.specs.Prelude.{ℕ, ◌+◌, ◌≤◌, ◌<◌, min, ◌≡◌, refl, length, set}
use Rattle.std.proofs.Common.{sym, ◌∙◌, arith, length-append, length-set, rules}
use mathlib.Core.List.{List, [], ◌∷◌, ◌++◌}
use Rattle.grammar.specs.Lines.{field, line}
use Rattle.outcomes.specs.Judgements.{room_judged}
use Rattle.outcomes.specs.LineOperations.{room_run}
use Rattle.outcomes.specs.Replies.{gives, written}
use Rattle.outcomes.proofs.Theory.Judgements.{room_judged_lem}
use Rattle.outcomes.proofs.Theory.Passing.{Passing, ran_answer}
use Rattle.line_sizes.specs.Sizes.{Counted, line_size}
use Rattle.refusals.specs.Chains.{ends}
use Rattle.refusals.specs.Running.{all_passing, run-stopped}
use Rattle.refusals.specs.Said.{said_refusal}
use Rattle.refusals.specs.declared.refusal.Refusal.{Refusal}
use Rattle.writers.specs.Laying.{Laid, laid_one, laid_then, laid_whole}

-- A line whose first field is of the number n.
unfoldable pub line_of : ℕ → ℕ → List ℕ → List ℕ
line_of kind n rest = line kind (field n ++ rest)

-- ---- parts of lines

-- The letter of its kind and the first field.
pub head_laid : {now : List ℕ} {end : ℕ} (kind n : ℕ) (old : List ℕ) → 1 + length (field n) ≤ length old → Laid (field n) (set old 0 kind) 1 now end
    → Laid (kind ∷ field n) old 0 now end
head_laid kind n old h k = laid_then (laid_one old 0 kind (omega arith)) k

-- No store changes how many elements there are.
pub head_kept : {vs now : List ℕ} {end : ℕ} (old : List ℕ) (i at v : ℕ) → Laid vs (set old i v) at now end → length now ≡ length old
head_kept old i at v k = k.long ∙ length-set old i v

pub ruleset heading = (head_laid, head_kept, rules)

-- ---- whole lines

-- The bytes of a line.
pub length-line : (kind n : ℕ) (y : List ℕ) → length (line_of kind n y) ≡ 2 + length (field n) + length y
unfolding line_of
length-line kind n y = omega (arith, length-append (field n ++ y) (10 ∷ []), length-append (field n) y)

-- The room is judged, and passes.
room_passed : (need have : ℕ) → gives [] ≡ room_judged need have → Passing (room_judged need have ∷ [])
room_passed need have e = all_passing {v = Ok tt} (room_judged need have ∷ []) (ends (Ok tt) _ e) refl

-- What a writer replies then, and memory.
run_laid : {need : ℕ} {now : List ℕ} (bytes old : List ℕ) → need ≡ length bytes → gives [] ≡ room_judged need (length old) → now ≡ written bytes old
    → (gives (need ∷ []), now) ≡ room_run bytes old
unfolding room_run
run_laid {need} bytes old s p e = rw (s, e) (sym (ran_answer [] (room_judged (length bytes) (length old) ∷ []) (length bytes ∷ []) (written bytes old) old tt (rw s at (room_passed need (length old) p))))

-- The bytes after the first field are so few that all are counted.
all-counted : {rest : ℕ} {y : List ℕ} → Counted 65536 y rest → min rest 65536 ≡ length y
all-counted k = omega (arith, k.is, k.few)

-- The bytes needed are those of the line.
size_of : {need rest : ℕ} (kind n : ℕ) (y : List ℕ) → need ≡ line_size n (min rest 65536) → Counted 65536 y rest → need ≡ length (line_of kind n y)
unfolding line_size
size_of kind n y s k = omega (arith, s, all-counted k, length-line kind n y)

-- A line of a kind whose first field is of the number n, with y after it.
module _ {need : ℕ} (kind n rest : ℕ) (y old : List ℕ) (s : need ≡ line_size n (min rest 65536)) (k : Counted 65536 y rest) where
  -- The room is refused: memory is as it was,
  pub line_refused : (r : Refusal) → said_refusal r ≡ room_judged need (length old) → (said_refusal r, old) ≡ room_run (line_of kind n y) old
  unfolding room_run
  line_refused r e =
      run-stopped {v = Err r} (room_judged (length (line_of kind n y)) (length old) ∷ []) [] _ _ old r
      (rw (← (size_of kind n y s k)) (ends (Err r) _ e)) refl

  -- or there is room for all bytes,
  module _ (e : gives [] ≡ room_judged need (length old)) where
    line_room : 2 + length (field n) + min rest 65536 ≤ length old
    unfolding line_size
    line_room = omega (arith, s, (room_judged_lem _ _).0 (room_passed need (length old) e).0)

    -- for the first field,
    pub head_room : 1 + length (field n) ≤ length old
    head_room = omega (arith, line_room)

    module _ {mid : List ℕ} {at : ℕ} (h : Laid (kind ∷ field n) old 0 mid at) where
      -- for what follows,
      pub rest_room : at + length y ≤ length mid
      rest_room = omega (arith, line_room, h.ends, h.long, all-counted k)

      module _ {now : List ℕ} {end : ℕ} (l : Laid y mid at now end) where
        -- for the line feed,
        pub feed_room : end < length now
        feed_room = omega (arith, line_room, h.ends, h.long, all-counted k, l.ends, l.long)

        -- and with it the line is written.
        pub line_laid : (gives (need ∷ []), set now end 10) ≡ room_run (line_of kind n y) old
        unfolding line_of
        line_laid =
            let whole : Laid (line_of kind n y) old 0 (set now end 10) (end + 1) = laid_then (laid_then h l) (laid_one now end 10 feed_room) in
            run_laid (line_of kind n y) old (size_of kind n y s k) e (laid_whole whole)

-- No store changes how many elements there are.
pub line_kept : {us vs mid now : List ℕ} {at end : ℕ} (old : List ℕ) (i j b : ℕ) → Laid us old i mid at → Laid vs mid at now end → length (set now j b) ≡ length old
line_kept {us} {vs} {mid} {now} old i j b h l = length-set now j b ∙ l.long ∙ h.long

pub ruleset lining = (line_refused, head_room, rest_room, feed_room, line_laid, line_kept, rules)
