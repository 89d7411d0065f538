-- Demand 3 of the scope over what is written, as one theorem. The statement is `FaithfulWriting` of specs/Classes.antt.
--     line_bytes_lem          the bytes in a buffer that is long enough are the tableau line
--     move_left_lem           a move leaves an accepted word accepted
--     faithfully_written  the core: of any line of words whose bytes are written as they are
--     written_classes     the theorem, at the tableau line
--     recording_written   from it, as three equations: a move keeps reply, marks and entries of the pair
-- The demand itself is `classes` of Classes. Assumes nothing.
use Prim.Native.Nat.{ℕ, ◌≤◌}
use mathlib.Core.Path.{◌≡◌, refl, sym, ap, ◌∙◌}
use mathlib.Core.List.{List, [], ◌∷◌, ◌++◌}
use mathlib.Core.Logic.{◌↔◌}
use mathlib.Core.Option.{Option, none, some}
use lib.ListN.{length}
use Rattle.hypoplactic.specs.Words.{Accepted}
use Rattle.hypoplactic.specs.Rewriting.{Joined}
use Rattle.hypoplactic.specs.Insertion.{Pair, marks_of, recording_of}
use Rattle.quasi_crystal.specs.Moves.{Defined, Move, given, inverted, move_word, place_in_word, replaced}
use Rattle.outcomes.specs.Replies.{Said, after, first, gives, refused, written}
use Rattle.outcomes.specs.Judgements.{pair_rooms, word_judgements}
use Rattle.outcomes.specs.WordOperations.{move_word_run, or_same, undefined_by}
use Rattle.outcomes.specs.TableauOperations.{pair_run, pair_says}
use Rattle.quasi_crystal.specs.Classes.{tableau_line, Faithful}
use Rattle.outcomes.specs.LineOperations.{tableau_line_run}
use Rattle.outcomes.specs.WrittenClasses.{FaithfullyWritten, FaithfulWriting, MovedTogether, OneRecording, in_both, in_neither, line_bytes, move_left}
use Rattle.quasi_crystal.proofs.Theory.Classes.{classes}
use Rattle.quasi_crystal.proofs.Theory.Closure.{move_accepted}
use Rattle.hypoplactic.proofs.Theory.Invariants.{joined_inversion}
use Rattle.outcomes.proofs.Theory.Judged.{word_passing}
use Rattle.outcomes.proofs.Theory.LineResults.{tableau_line_result}
use Rattle.outcomes.proofs.Theory.Memory.{written_needed}
use Rattle.outcomes.proofs.Theory.MoveResults.{move_replaced, move_word-made, move_word_refused, move_word_result}
use Rattle.hypoplactic.proofs.Theory.Pairs.{length_recording}
use Rattle.outcomes.proofs.Theory.Passing.{first_past}
use Rattle.hypoplactic.proofs.Theory.Recordings.{descents, marks_of_recording}
use Rattle.quasi_crystal.proofs.Theory.Targets.{place-below}

-- The bytes written are the tableau line.
pub line_bytes_lem : (n : ℕ) (w out : List ℕ) → Accepted n w → length (tableau_line n w) ≤ length out → line_bytes tableau_line_run n w out ≡ tableau_line n w
line_bytes_lem n w out a l = rw (tableau_line_result n w a out l) (written_needed (tableau_line n w) out)

-- The word that a move leaves: what the move gives, or the word itself,
left_word : (n : ℕ) (m : Move) (w : List ℕ) → Accepted n w → move_left n m w ≡ or_same (move_word n m w) w
left_word n m w a = ap (λ (r : Said × List ℕ). r.1) (move_word_result n m w a)

-- is accepted,
pub move_left_lem : (n : ℕ) (m : Move) (w : List ℕ) → Accepted n w → Accepted n (move_left n m w)
move_left_lem n m w a = rw (left_word n m w a) (go (move_word n m w) refl)
  where
    go : (o : Option (List ℕ)) → move_word n m w ≡ o → Accepted n (or_same o w)
    go none e = a
    go (some v) e = move_accepted m a e

-- and words with one recording ribbon, and so with one shape, get one reply, and one part of lent memory where what is written to it is one.
same_left : {A : Type 0} (part : A → List ℕ) (s t : Said) (new new' old : A) → s ≡ t → part new ≡ part new' → part (after s new old) ≡ part (after t new' old)
same_left part s t new new' old e h = rw e (go t)
  where
    go : (r : Said) → part (after r new old) ≡ part (after r new' old)
    go (gives vs) = h
    go (refused k p) = refl

recording_same : (n : ℕ) (u v : List ℕ) (p : Pair) (cs : List ℕ) → Accepted n u → Accepted n v → recording_of u ≡ recording_of v
    → OneRecording (pair_run n u p cs) (pair_run n v p cs)
unfolding pair_run pair_says
recording_same n u v p cs a b e =
    let rooms : List ℕ → List Said = λ w. pair_rooms (length w) (length p.letters) (length p.marks) (length p.recording) in
    let past : (w : List ℕ) → Accepted n w → first (word_judgements n w ++ rooms w) (gives (length w ∷ [])) ≡ first (rooms w) (gives (length w ∷ [])) =
    λ w c. first_past (word_judgements n w) (rooms w) (gives (length w ∷ [])) ((word_passing n w).1 c) in
    let size : length u ≡ length v = sym (length_recording u) ∙ ap length e ∙ length_recording v in
    let shape : marks_of u ≡ marks_of v = marks_of_recording u ∙ ap descents e ∙ sym (marks_of_recording v) in
    let reply : first (word_judgements n u ++ rooms u) (gives (length u ∷ [])) ≡ first (word_judgements n v ++ rooms v) (gives (length v ∷ [])) =
    past u a ∙ rw size refl ∙ sym (past v b) in
    record {
      reply = reply;
      marks = same_left (λ (m : Pair × List ℕ). m.0.marks) _ _ _ _ (p, cs) reply (ap (λ (l : List ℕ). written l p.marks) shape);
      entries = same_left (λ (m : Pair × List ℕ). m.0.recording) _ _ _ _ (p, cs) reply (ap (λ (l : List ℕ). written l p.recording) e);
    }

-- A line of words that is faithful, and an operation that writes it as it is.
module _ (line : ℕ → List ℕ → List ℕ) (run : ℕ → List ℕ → List ℕ → Said × List ℕ) (n : ℕ)
    (wrote : (w out : List ℕ) → Accepted n w → length (line n w) ≤ length out → line_bytes run n w out ≡ line n w)
    (u v : List ℕ) (a : Accepted n u) (b : Accepted n v) (faith : Faithful (line n) (move_word n) u v) where
  -- The lines of the words that a move leaves.
  left_lines : Joined u v → (m : Move) → line n (move_left n m u) ≡ line n (move_left n m v)
  left_lines j m = rw (left_word n m u a, left_word n m v b) (go (move_word n m u) (move_word n m v) refl refl (faith.together j m))
    where
      go : (o p : Option (List ℕ)) → move_word n m u ≡ o → move_word n m v ≡ p → Defined o ↔ Defined p → line n (or_same o u) ≡ line n (or_same p v)
      go none none e f h = faith.shared.1 j
      go none (some v') e f h = absurd (h.1 tt)
      go (some u') none e f h = absurd (h.0 tt)
      go (some u') (some v') e f h = faith.results j m u' v' e f

  -- Where a move has a place in one of the words, it has one in the other.
  moved_together : Joined u v → (m : Move) → MovedTogether (given m.side m.index) u v (move_word_run n m u) (move_word_run n m v)
  unfolding move_word
  moved_together j m =
      go (place_in_word n m u) (place_in_word n m v) refl refl
      (rw (move_replaced n m (inverted m.index u) u, move_replaced n m (inverted m.index v) v) at (faith.together j m))
    where
      given_letter : ℕ
      given_letter = given m.side m.index

      number : undefined_by n m (inverted m.index v) ≡ undefined_by n m (inverted m.index u)
      number = ap (undefined_by n m) (sym (joined_inversion j m.index))

      go : (o p : Option ℕ) → place_in_word n m u ≡ o → place_in_word n m v ≡ p → Defined (replaced given_letter u o) ↔ Defined (replaced given_letter v p)
          → MovedTogether given_letter u v (move_word_run n m u) (move_word_run n m v)
      go none none e f h = rw (move_word_refused n m u a e, move_word_refused n m v b f, number) (in_neither (undefined_by n m (inverted m.index u)))
      go none (some q) e f h = absurd (h.1 tt)
      go (some p) none e f h = absurd (h.0 tt)
      go (some p) (some q) e f h =
          rw (move_word-made n m u a p e, move_word-made n m v b q f)
          (in_both p q (place-below n m (inverted m.index u) u p e) (place-below n m (inverted m.index v) v q f))

  left_recording : (m : Move) → recording_of (move_left n m u) ≡ recording_of u
  left_recording m = rw (left_word n m u a) (go (move_word n m u) refl)
    where
      go : (o : Option (List ℕ)) → move_word n m u ≡ o → recording_of (or_same o u) ≡ recording_of u
      go none e = refl
      go (some u') e = faith.recordings m u' e

  pub faithfully_written : FaithfullyWritten line run n u v
  unfolding move_word_run
  faithfully_written =
      record {
        shared = λ out out' l k. rw (wrote u out a l, wrote v out' b k) faith.shared;
        together = moved_together;
        results = λ j m out out' l k.
            wrote (move_left n m u) out (move_left_lem n m u a) l ∙ left_lines j m ∙ sym (wrote (move_left n m v) out' (move_left_lem n m v b) k);
        recordings = λ m p cs. recording_same n (move_left n m u) u p cs (move_left_lem n m u a) a (left_recording m);
      }

pub written_classes : FaithfulWriting
written_classes n u v a b = faithfully_written tableau_line tableau_line_run n (line_bytes_lem n) u v a b (classes n u v a b)

-- What the third sentence is for: of a word and of what a move leaves of it, the recording ribbons as they are written are one, and so are shape and reply.
pub recording_written : FaithfulWriting → (n : ℕ) (w : List ℕ) (m : Move) (p : Pair) (cs : List ℕ) → Accepted n w
    → ((pair_run n (move_left n m w) p cs).0 ≡ (pair_run n w p cs).0)
    × ((pair_run n (move_left n m w) p cs).1.0.marks ≡ (pair_run n w p cs).1.0.marks)
    × ((pair_run n (move_left n m w) p cs).1.0.recording ≡ (pair_run n w p cs).1.0.recording)
recording_written claim n w m p cs a = let r = (claim n w w a a).recordings m p cs in (r.reply, r.marks, r.entries)
