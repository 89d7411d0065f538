-- The check on the entries of a recording ribbon, 7.
--     entry_fault         7: the entry at a place is 0, above the limit, or met before
--     start_entries       where the scan for 7 begins
--     Meeting             the invariant of that scan
--     meeting             the ruleset of the check
-- The table of entries met is in Seen, the pass before the scan for 7 in Noted. Assumes nothing.
use Rattle.std.specs.Prelude.{ℕ, ◌+◌, ◌<◌, ◌≤◌, ◌≡◌, refl, Bool, true, false, ◌||◌, List, [], length, get_or, take}
use Rattle.std.proofs.Common.{◌∙◌, arith, add-one, take-suc, rules}
use Rattle.hypoplactic.specs.Words.{occurs}
use Rattle.outcomes.specs.Judgements.{outside, entries_judged}
use Rattle.outcomes.specs.Replies.{gives, refused}
use Rattle.outcomes.proofs.Theory.FirstPlaces.{entries_scan}
use Rattle.refusals.specs.Scanning.{Scanning, scan_from_lem, start, turn, found, none}
use Rattle.recordings.specs.Seen.{InTable, Judged, Met, Reaches, Seen}

-- 7: the entry is 0, above the limit, or met before.
unfoldable pub entry_fault : ℕ → List ℕ → ℕ → Bool
entry_fault L rs p = outside L (get_or rs p 0) || occurs (get_or rs p 0) (take p rs)

-- The loop's invariant: the scan so far, and the entries met so far in a table of so many words.
pub record Meeting (limit size : ℕ) (rs table : List ℕ) (i : ℕ) : Type 0 where
  pub scan : Scanning 7 (entry_fault limit rs) (length rs) (entries_judged limit rs) i
  pub seen : Seen table (take i rs)
  pub long : length table ≡ size
  pub reaches : Reaches (length table) limit

-- Where the scan begins.
pub start_entries : (limit : ℕ) (rs : List ℕ) → Scanning 7 (entry_fault limit rs) (length rs) (entries_judged limit rs) 0
unfolding entry_fault
start_entries limit rs =
    start (length rs)
    (entries_scan limit rs ∙ scan_from_lem 7 0 (length rs) _ (entry_fault limit rs) (λ q l. let e : 0 + q ≡ q = omega arith in rw e))
    (omega arith)

pub start_meeting : {limit : ℕ} {rs table : List ℕ} → Seen table [] → Reaches (length table) limit → Meeting limit (length table) rs table 0
start_meeting {limit} {rs} {table} s r = record {
  scan = start_entries limit rs;
  seen = s;
  long = refl;
  reaches = r;
}

fault_is : {limit size i : ℕ} {b : Bool} {rs table : List ℕ} → Meeting limit size rs table i → Judged limit table (get_or rs i 0) b → b ≡ entry_fault limit rs i
unfolding entry_fault
fault_is {limit} {size} {i} {b} {rs} m j = j.told (take i rs) m.seen

-- An entry without fault has its bit in the table.
pub in_table : {limit e : ℕ} {b : Bool} {table : List ℕ} → Judged limit table e b → b ≡ false → InTable (length table) e
in_table j f = j.bit f

-- A place without fault, its entry met.
pub turn_meeting : {limit size i : ℕ} {b : Bool} {rs table after : List ℕ} → Meeting limit size rs table i → Judged limit table (get_or rs i 0) b
    → Met table (get_or rs i 0) after → b ≡ false → i < length rs → Meeting limit size rs after (i + 1)
turn_meeting {limit} {size} {i} {b} {rs} {table} m j t f l = record {
  scan = turn m.scan l (fault_is m j) f;
  seen = rw (add-one, take-suc rs i 0 l) (t.more (take i rs) m.seen);
  long = t.long ∙ m.long;
  reaches = rw t.long m.reaches;
}

pub found_meeting : {limit size i : ℕ} {b : Bool} {rs table : List ℕ} → Meeting limit size rs table i → Judged limit table (get_or rs i 0) b
    → b ≡ true → i < length rs → refused 7 i ≡ entries_judged limit rs
found_meeting m j f l = found m.scan l (fault_is m j) f

pub end_meeting : {limit size i : ℕ} {rs table : List ℕ} → Meeting limit size rs table i → length rs ≤ i → gives [] ≡ entries_judged limit rs
end_meeting m h = none m.scan h

pub ruleset meeting = (start_meeting, in_table, turn_meeting, found_meeting, end_meeting, rules)
