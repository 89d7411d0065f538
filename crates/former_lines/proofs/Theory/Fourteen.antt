-- Where the converter of former lines refuses with 14.
--     convert_first_broken     where T lines break in the first text, whatever the second is
--     convert_second_broken    after a T line, where N lines break in the second text, the bytes of the first before it
--     convert_broken_only      nowhere else
-- Assumes nothing.
use Prim.Native.Nat.{ℕ, ◌+◌}
use native.Mathlib.Omega.{arith}
use mathlib.Core.Path.{◌≡◌, refl, sym, ap, subst, ◌∙◌}
use mathlib.Core.List.{List, [], ◌∷◌, ◌++◌}
use mathlib.Core.Logic.{◌⊎◌, inl, inr}
use lib.ListN.{length, length-drop}
use Rattle.grammar.specs.Breaks.{Breaks, IsN, IsT}
use Rattle.grammar.specs.Lines.{p_line}
use Rattle.grammar.specs.Reading.{Read, broken, got, read_n, read_t}
use Rattle.grammar.proofs.Theory.Complete.{t_complete}
use Rattle.grammar.proofs.Theory.Longest.{n_breaks, n_place, t_breaks, t_place}
use Rattle.grammar.proofs.Theory.Sound.{t_sound}
use Rattle.outcomes.specs.Replies.{Said, gives, refused}
use Rattle.outcomes.specs.Judgements.{entries_judged, letters_judged, marks_judged, recording_judged, rising_judged, room_judged}
use Rattle.outcomes.specs.LineReadings.{read_run}
use Rattle.outcomes.proofs.Theory.OtherNumbers.{Other, Others, alike_other, entries_other, first_other, length_other, letters_other, marks_other, rank_other, recording_other, rising_other, room_other}
use Rattle.former_lines.specs.Conversion.{convert_run, converted, former_judgements, second_run}

pub convert_first_broken : (t r out : List ℕ) (p : ℕ) → Breaks IsT t p → convert_run t r out ≡ (refused 14 p, out)
unfolding convert_run
convert_first_broken t r out p h =
    let (within, reads) = (t_breaks t p).0 h in
    rw (reads, length-drop p t) (ap (λ (k : ℕ). (refused 14 k, out)) (omega arith))

pub convert_second_broken : (t r out : List ℕ) (q : ℕ) → IsT t → Breaks IsN r q → convert_run t r out ≡ (refused 14 (length t + q), out)
unfolding convert_run
convert_second_broken t r out q (v, good, line) h =
    let (within, reads) = (n_breaks r q).0 h in
    let whole : read_t t ≡ got v [] = ap read_t line ∙ t_complete v.0 v.1 v.2 good.0 good.1 good.2 in
    rw (whole, reads, length-drop q r) (ap (λ (k : ℕ). (refused 14 k, out)) (omega arith))

-- A place where it refuses with 14: in the first text, or in the second after a whole first one.
abbrev pub BreaksIn : List ℕ → List ℕ → ℕ → Type 0
BreaksIn t r p = Breaks IsT t p ⊎ (IsT t × ((q : ℕ) × Breaks IsN r q × (p ≡ length t + q)))

pub convert_broken_only : (t r out : List ℕ) (p : ℕ) → (convert_run t r out).0 ≡ refused 14 p → BreaksIn t r p
unfolding convert_run
convert_broken_only t r out p h = first_text (read_t t) refl h
  where
    place_of : Said → ℕ
    place_of (gives vs) = 0
    place_of (refused k i) = i

    -- The values are refused with other numbers.
    others : (n : ℕ) (xs ms rs : List ℕ) → Other (converted out n xs ms rs).0
    others n xs ms rs =
        let need : ℕ = length (p_line n xs ms rs) in
        let ribbons : Others (entries_judged (length xs) rs ∷ recording_judged rs ms ∷ room_judged need (length out) ∷ []) =
        (entries_other (length xs) rs, (recording_other rs ms, (room_other need (length out), tt))) in
        let cells : Others (letters_judged n xs ∷ rising_judged xs ∷ marks_judged xs ms ∷ entries_judged (length xs) rs ∷ recording_judged rs ms ∷ room_judged need (length out) ∷ []) =
        (letters_other n xs, (rising_other xs, (marks_other xs ms, ribbons))) in
        first_other (former_judgements n xs ms rs ++ (room_judged need (length out) ∷ [])) (need ∷ [])
        (rank_other n, (length_other (length xs), (length_other (length rs), (alike_other (length xs) (length ms ∷ length rs ∷ []), cells))))

    second_text : (n : ℕ) (xs ms : List ℕ) → IsT t → (s : Read (List ℕ)) → read_n r ≡ s
        → (second_run (length t) r (converted out n xs ms) out s).0 ≡ refused 14 p → BreaksIn t r p
    second_text n xs ms is (got rs rest) f e = absurd (subst Other e (others n xs ms rs) refl)
    second_text n xs ms is (broken rest) f e = inr (is, (_, n_place r rest f, ap place_of (sym e)))

    first_text : (s : Read (ℕ × List ℕ × List ℕ)) → read_t t ≡ s
        → (read_run t (λ v. second_run (length t) r (converted out v.0 v.1 v.2) out (read_n r)) out s).0 ≡ refused 14 p → BreaksIn t r p
    first_text (got v rest) f e =
        let (line, none, rank, letters, marks) = t_sound t v.0 v.1 v.2 rest f in
        second_text v.0 v.1 v.2 (v, (rank, letters, marks), line) (read_n r) refl e
    first_text (broken rest) f e = inl (subst (Breaks IsT t) (ap place_of e) (t_place t rest f))
