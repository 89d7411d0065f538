-- Readers of lines: the line of values within the limits is read back (theorem i), and 14 is replied exactly where the kind of line breaks.
--     read_w_result, read_t_result, read_p_result      what a writer's line gives back
--     accepted_small, pair_good                        the numbers of an accepted word, and of a pair within the limits, can stand in a line
--     t_alike, p_alike                                 what a T line or a P line holds passes 3
--     w_broken, t_broken, p_broken                     14 at p, exactly when the first p bytes of the text begin some line of the kind and no more do
-- Assumes nothing.
use Prim.Native.Nat.{ℕ, ◌≤◌, ◌<◌}
use mathlib.Core.Path.{◌≡◌, refl, sym, ap, subst, ◌∙◌}
use mathlib.Core.List.{List, [], ◌∷◌, ◌++◌}
use mathlib.Core.Logic.{◌↔◌}
use native.Mathlib.Omega.{arith}
use lib.ListN.{length, drop, length-drop}
use Rattle.grammar.specs.Lines.{w_line, t_line, p_line}
use Rattle.grammar.specs.Reading.{Read, got, broken, read_w, read_t, read_p}
use Rattle.grammar.specs.Values.{Items, PGood, Short, Small}
use Rattle.grammar.specs.Breaks.{Breaks, IsW, IsT, IsP}
use Rattle.grammar.proofs.Theory.Complete.{w_complete, t_complete, p_complete}
use Rattle.grammar.proofs.Theory.Items.{marked-length}
use Rattle.grammar.proofs.Theory.Longest.{w_breaks, t_breaks, p_breaks, w_place, t_place, p_place}
use Rattle.grammar.proofs.Theory.Sound.{p_sound, t_sound}
use Rattle.hypoplactic.specs.Words.{Accepted, Within}
use Rattle.hypoplactic.specs.Ribbons.{EntryStep, LetterStep, PairAt, TableauAt}
use Rattle.hypoplactic.specs.Insertion.{Pair, pair_with}
use Rattle.outcomes.specs.Replies.{Passes, Said, gives, refused, written}
use Rattle.outcomes.specs.Counts.{counts_of}
use Rattle.outcomes.specs.Judgements.{alike_judged, entries_judged, letters_judged, marks_judged, pair_judgements, pair_rooms, recording_judged, rising_judged, room_judged, tableau_judgements, tableau_rooms, word_judgements}
use Rattle.outcomes.specs.TableauOperations.{written_pair}
use Rattle.outcomes.specs.LineReadings.{break_place, pair_read, read_run, read_w_run, read_t_run, read_p_run, tableau_read, word_read}
use Rattle.quasi_crystal.proofs.Theory.Classes.{marked}
use Rattle.outcomes.proofs.Theory.Passing.{ran_answer}
use Rattle.outcomes.proofs.Theory.Judgements.{alike-judged, room_judged_lem}
use Rattle.outcomes.proofs.Theory.Judged.{word_passing, tableau_passing, pair_passing}
use Rattle.hypoplactic.proofs.Theory.Once.{once_entries}
use Rattle.outcomes.proofs.Theory.OtherNumbers.{Other, Others, alike_other, entries_other, first_other, length_other, letters_other, marks_other, rank_other, recording_other, rising_other, room_other}
use Rattle.outcomes.proofs.Theory.StepJudgements.{ribbon-length}

-- ---- lines of values within the limits

-- Numbers up to 9,999 can stand in a line.
short-items : (n : ℕ) (xs : List ℕ) → n < 10000 → Within n xs → Items Short Short xs
short-items n [] l h = tt
short-items n (x ∷ xs) l h = let high : x ≤ n = h.1 in (omega arith, short-items n xs l h.2)

small : (n : ℕ) (xs : List ℕ) → n < 10000 → length xs ≤ 1024 → Within n xs → Small xs
small n xs l s h = (omega arith, short-items n xs l h)

pub accepted_small : {n : ℕ} {w : List ℕ} → Accepted n w → Short n × Small w
accepted_small {n} {w} a = let high : n ≤ 64 = a.rank_high in (omega arith, small n w (omega arith) a.short a.letters)

pub read_w_result : (n : ℕ) (w out : List ℕ) → Accepted n w → length w ≤ length out
    → read_w_run (w_line n w) out ≡ (gives (n ∷ length w ∷ []), written w out)
unfolding read_w_run
read_w_result n w out a r =
    rw (w_complete n w (accepted_small a).0 (accepted_small a).1)
    (ran_answer (word_judgements n w) (room_judged (length w) (length out) ∷ []) (n ∷ length w ∷ []) (written w out) out
    ((word_passing n w).1 a) ((room_judged_lem _ _).1 r, tt))

pub read_t_result : (n : ℕ) (xs ms letters marks counts : List ℕ) → TableauAt n xs ms → length xs ≤ length letters → length xs ≤ length marks
    → read_t_run (t_line n xs ms) letters marks counts ≡ (gives (n ∷ length xs ∷ []), (written xs letters, (written ms marks, counts_of xs)))
unfolding read_t_run
read_t_result n xs ms letters marks counts h r s =
    rw (t_complete n xs ms (accepted_small h.word).0 (accepted_small h.word).1 (marked xs ms h.tableau))
    (ran_answer (tableau_judgements n xs ms) (tableau_rooms (length xs) (length letters) (length marks))
    (n ∷ length xs ∷ []) (written xs letters, (written ms marks, counts_of xs)) (letters, (marks, counts))
    ((tableau_passing n xs ms).1 h) ((room_judged_lem _ _).1 r, ((room_judged_lem _ _).1 s, tt)))

pub pair_good : {n : ℕ} {xs ms rs : List ℕ} → PairAt n xs ms rs → PGood (n, xs, ms, rs)
pair_good {n} {xs} {ms} {rs} h =
    let short : length xs ≤ 1024 = h.word.short in
    let as_entries : length ms ≡ length rs = ribbon-length EntryStep rs ms h.pair.recording.steps in
    let size : length rs ≡ length xs = sym as_entries ∙ ribbon-length LetterStep xs ms h.pair.tableau in
    let within : Within (length rs) rs = ((once_entries rs).0 h.pair.recording.once).0 in
    ((accepted_small h.word).0, (accepted_small h.word).1, marked xs ms h.pair.tableau, size, short-items (length rs) rs (omega arith) within)

pub read_p_result : (n : ℕ) (xs ms rs : List ℕ) (p : Pair) (counts : List ℕ) → PairAt n xs ms rs
    → length xs ≤ length p.letters → length xs ≤ length p.marks → length xs ≤ length p.recording
    → read_p_run (p_line n xs ms rs) p counts
    ≡ (gives (n ∷ length xs ∷ []), (written_pair (pair_with xs ms rs) p, counts_of xs))
unfolding read_p_run
read_p_result n xs ms rs p counts h x y z =
    let (rank, letters, marks, size, entries) = pair_good h in
    rw (p_complete n xs ms rs rank letters marks size entries)
    (ran_answer (pair_judgements n xs ms rs) (pair_rooms (length xs) (length p.letters) (length p.marks) (length p.recording))
    (n ∷ length xs ∷ []) (written_pair (pair_with xs ms rs) p, counts_of xs) (p, counts)
    ((pair_passing n xs ms rs).1 h) ((room_judged_lem _ _).1 x, ((room_judged_lem _ _).1 y, ((room_judged_lem _ _).1 z, tt))))

-- ---- 3 cannot come

-- Letters and marks of a T line are equally many,
pub t_alike : (text : List ℕ) (n : ℕ) (xs ms rest : List ℕ) → read_t text ≡ got (n, xs, ms) rest → Passes (alike_judged (length xs) (length ms ∷ []))
t_alike text n xs ms rest e =
    let (line, none, rank, small, marks) = t_sound text n xs ms rest e in
    (alike-judged (length xs) (length ms ∷ [])).1 (marked-length xs ms marks, tt)

-- and so are the entries of a P line.
pub p_alike : (text : List ℕ) (n : ℕ) (xs ms rs rest : List ℕ) → read_p text ≡ got (n, xs, ms, rs) rest
    → Passes (alike_judged (length xs) (length ms ∷ length rs ∷ []))
p_alike text n xs ms rs rest e =
    let (line, none, rank, small, marks, size, entries) = p_sound text n xs ms rs rest e in
    (alike-judged (length xs) (length ms ∷ length rs ∷ [])).1 (marked-length xs ms marks, (size, tt))

-- ---- 14, exactly

-- A refusal shows its number and its place.
abbrev shown : Said → ℕ × ℕ
shown (gives vs) = (0, 0)
shown (refused k p) = (k, p)

-- A reader whose values are refused by other numbers only, over a grammar that breaks where the kind of line does.
module _ {A B : Type 0} (Line : List ℕ → Type 0) (get : List ℕ → Read A) (run : A → Said × B) (old : B) (text : List ℕ)
    (place : (rest : List ℕ) → get text ≡ broken rest → Breaks Line text (break_place text rest))
    (breaks : (p : ℕ) → Breaks Line text p → (p ≤ length text) × (get text ≡ broken (drop p text)))
    (others : (a : A) → Other (run a).0) where
  pub broken_exactly : (p : ℕ) → ((read_run text run old (get text)).0 ≡ refused 14 p) ↔ Breaks Line text p
  broken_exactly p = (from (get text) refl, to)
    where
      from : (r : Read A) → get text ≡ r → (read_run text run old r).0 ≡ refused 14 p → Breaks Line text p
      from (got a rest) e h = absurd (subst Other h (others a) refl)
      from (broken rest) e h = subst (Breaks Line text) (ap (λ (s : Said). (shown s).1) h) (place rest e)

      to : Breaks Line text p → (read_run text run old (get text)).0 ≡ refused 14 p
      to b =
          let (l, e) = breaks p b in
          let here : break_place text (drop p text) ≡ p = omega (arith, length-drop p text) in
          rw (e, here) refl

pub w_broken : (text out : List ℕ) (p : ℕ) → ((read_w_run text out).0 ≡ refused 14 p) ↔ Breaks IsW text p
unfolding read_w_run
w_broken text out p =
    broken_exactly IsW read_w (λ v. word_read out v.0 v.1) out text (w_place text) (λ q. (w_breaks text q).0) (λ v. others v.0 v.1) p
  where
    others : (n : ℕ) (ws : List ℕ) → Other (word_read out n ws).0
    others n ws =
        first_other (word_judgements n ws ++ (room_judged (length ws) (length out) ∷ [])) (n ∷ length ws ∷ [])
        (rank_other n, (length_other (length ws), (letters_other n ws, (room_other (length ws) (length out), tt))))

pub t_broken : (text letters marks counts : List ℕ) (p : ℕ) → ((read_t_run text letters marks counts).0 ≡ refused 14 p) ↔ Breaks IsT text p
unfolding read_t_run
t_broken text letters marks counts p =
    broken_exactly IsT read_t (λ v. tableau_read letters marks counts v.0 v.1 v.2) (letters, (marks, counts)) text (t_place text) (λ q. (t_breaks text q).0)
    (λ v. others v.0 v.1 v.2) p
  where
    others : (n : ℕ) (xs ms : List ℕ) → Other (tableau_read letters marks counts n xs ms).0
    others n xs ms =
        first_other (tableau_judgements n xs ms ++ tableau_rooms (length xs) (length letters) (length marks))
        (n ∷ length xs ∷ []) (
          rank_other n,
          (
            length_other (length xs),
            (
              alike_other (length xs) (length ms ∷ []),
              (
                letters_other n xs,
                (rising_other xs, (marks_other xs ms, (room_other (length xs) (length letters), (room_other (length xs) (length marks), tt)))),
              ),
            ),
          ),
        )

pub p_broken : (text : List ℕ) (p : Pair) (counts : List ℕ) (k : ℕ) → ((read_p_run text p counts).0 ≡ refused 14 k) ↔ Breaks IsP text k
unfolding read_p_run
p_broken text p counts k =
    broken_exactly IsP read_p (λ v. pair_read p counts v.0 v.1 v.2 v.3) (p, counts) text (p_place text) (λ q. (p_breaks text q).0)
    (λ v. others v.0 v.1 v.2 v.3) k
  where
    others : (n : ℕ) (xs ms rs : List ℕ) → Other (pair_read p counts n xs ms rs).0
    others n xs ms rs =
        let L : ℕ = length xs in
        let rooms : List Said = pair_rooms L (length p.letters) (length p.marks) (length p.recording) in
        let room : Others rooms =
        (room_other L (length p.letters), (room_other L (length p.marks), (room_other L (length p.recording), tt))) in
        let parts : Others (entries_judged L rs ∷ recording_judged rs ms ∷ rooms) = (entries_other L rs, (recording_other rs ms, room)) in
        let cells : Others (letters_judged n xs ∷ rising_judged xs ∷ marks_judged xs ms ∷ entries_judged L rs ∷ recording_judged rs ms ∷ rooms) =
        (letters_other n xs, (rising_other xs, (marks_other xs ms, parts))) in
        first_other (pair_judgements n xs ms rs ++ rooms) (n ∷ L ∷ []) (rank_other n, (length_other L, (alike_other L (length ms ∷ length rs ∷ []), cells)))
