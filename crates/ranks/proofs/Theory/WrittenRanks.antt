-- Demand 3 over what is written, for words of any two ranks, as one theorem. The statement is `WrittenRanks` of specs/Ranks.antt.
--     move_at_both      a move that two ranks have replies and leaves the same at both, on a word that both accept
--     class_lines       the same-class test replies 1 exactly where the bytes written agree without their rank fields
--     written-across    the core: of any line of words whose bytes are written as they are
--     written_ranks     the theorem, at the tableau line
-- Assumes nothing.
use Prim.Native.Nat.{ℕ, ◌≤◌}
use native.Mathlib.Nat.{le_refl}
use native.Mathlib.Omega.{arith}
use mathlib.Core.Path.{◌≡◌, refl, sym, ap, subst, ◌∙◌}
use mathlib.Core.Bool.{Bool, true, false}
use mathlib.Core.List.{List, [], ◌∷◌}
use mathlib.Core.Logic.{◌↔◌}
use lib.ListN.{length}
use Rattle.hypoplactic.specs.Junctions.{same_class}
use Rattle.hypoplactic.specs.Words.{Accepted, tick}
use Rattle.hypoplactic.specs.Rewriting.{Joined}
use Rattle.quasi_crystal.specs.Moves.{Move, move_word}
use Rattle.outcomes.specs.Replies.{Said, gives, refused}
use Rattle.outcomes.specs.WordOperations.{move_word_run, same_class_says}
use Rattle.quasi_crystal.specs.Classes.{tableau_line}
use Rattle.outcomes.specs.LineOperations.{tableau_line_run}
use Rattle.outcomes.specs.WrittenClasses.{FaithfullyWritten, line_bytes, move_left}
use Rattle.quasi_crystal.proofs.Theory.Closure.{chain_accepted}
use Rattle.hypoplactic.proofs.Theory.Joining.{joined_sym}
use Rattle.outcomes.proofs.Theory.MoveResults.{move_word_result}
use Rattle.hypoplactic.proofs.Theory.OneClass.{class_joined}
use Rattle.outcomes.proofs.Theory.Results.{same_class_result}
use Rattle.outcomes.proofs.Theory.WrittenClasses.{line_bytes_lem, move_left_lem, written_classes}
use Rattle.ranks.specs.Unranked.{without_rank}
use Rattle.ranks.specs.Ranks.{FaithfulAcross, Has, unranked_line, WrittenAcross, WrittenRanks}
use Rattle.ranks.proofs.Theory.Ranks.{ranks}

-- A rank limits letters and moves and nothing else: a move that two ranks have is one move.
pub move_at_both : (n m : ℕ) (k : Move) (w : List ℕ) → Accepted n w → Accepted m w → Has n k → Has m k → move_word_run n k w ≡ move_word_run m k w
unfolding move_word
move_at_both n m k w a b p q = move_word_result n k w a ∙ rw (p, q) refl ∙ sym (move_word_result m k w b)

-- 1 is yes.
yes_told : (t : Bool) → gives (tick t 0 ∷ []) ≡ gives (1 ∷ []) → t ≡ true
yes_told true e = refl
yes_told false e = let z : ◌≡◌ {A = ℕ} 0 1 = ap value e in absurd (omega arith)
  where
    value : Said → ℕ
    value (gives (k ∷ ks)) = k
    value (gives []) = 2
    value (refused k p) = 2

-- A line of words, and an operation that writes it as it is: what is known of one rank, and of two without the rank field,
module _ (line : ℕ → List ℕ → List ℕ) (run : ℕ → List ℕ → List ℕ → Said × List ℕ)
    (wrote : (n : ℕ) (w out : List ℕ) → Accepted n w → length (line n w) ≤ length out → line_bytes run n w out ≡ line n w)
    (ranked : (n m : ℕ) (u v : List ℕ) → Accepted n u → Accepted m v → FaithfulAcross (λ k w. without_rank (line k w)) move_word n m u v)
    (written : (n : ℕ) (u v : List ℕ) → Accepted n u → Accepted n v → FaithfullyWritten line run n u v) where
  -- is known of the bytes,
  shared_bytes : (n m : ℕ) (u v : List ℕ) → Accepted n u → Accepted m v → (out out' : List ℕ) → length (line n u) ≤ length out → length (line m v) ≤ length out'
      → (without_rank (line_bytes run n u out) ≡ without_rank (line_bytes run m v out')) ↔ Joined u v
  shared_bytes n m u v a b out out' l r = rw (wrote n u out a l, wrote m v out' b r) (ranked n m u v a b).shared

  -- and of the words that a move leaves: of one rank they are joined where the words are.
  left_joined : (m : ℕ) (u v : List ℕ) → Accepted m u → Accepted m v → Joined u v → (k : Move) → Joined (move_left m k u) (move_left m k v)
  left_joined m u v a b j k =
      let x : List ℕ = move_left m k u in
      let y : List ℕ = move_left m k v in
      let room : (w : List ℕ) → length (line m w) ≤ length (line m w) = λ w. le_refl (length (line m w)) in
      ((written m x y (move_left_lem m k u a) (move_left_lem m k v b)).shared (line m x) (line m y) (room x) (room y)).0
      ((written m u v a b).results j k (line m x) (line m y) (room x) (room y))

  -- A joined word is accepted at the other's rank too; there a move that both ranks have is the same, and demand 3 speaks of both words.
  pub written-across : (n m : ℕ) (u v : List ℕ) → Accepted n u → Accepted m v → WrittenAcross line run n m u v
  written-across n m u v a b =
      record {
        shared = shared_bytes n m u v a b;
        together = λ j k p q. rw (one j k p q) ((written m u v (other j) b).together j k);
        results = λ j k p q out out' l r.
            (shared_bytes n m (move_left n k u) (move_left m k v) (move_left_lem n k u a) (move_left_lem m k v b) out out' l r).1
            (subst (λ (s : Said × List ℕ). Joined s.1 (move_left m k v)) (sym (one j k p q)) (left_joined m u v (other j) b j k));
        recordings = (written n u u a a).recordings;
      }
    where
      other : Joined u v → Accepted m u
      other j = chain_accepted b (joined_sym j)

      one : Joined u v → (k : Move) → Has n k → Has m k → move_word_run n k u ≡ move_word_run m k u
      one j k p q = move_at_both n m k u a (other j) p q

pub written_ranks : WrittenRanks
unfolding unranked_line
written_ranks n m u v a b = written-across tableau_line tableau_line_run line_bytes_lem ranks written_classes n m u v a b

-- The same-class test tells what stored lines tell.
pub class_lines : (n m : ℕ) (u v : List ℕ) → Accepted n u → Accepted m v
    → (out out' : List ℕ) → length (tableau_line n u) ≤ length out → length (tableau_line m v) ≤ length out'
    → (same_class_says n u m v ≡ gives (1 ∷ [])) ↔ (without_rank (line_bytes tableau_line_run n u out) ≡ without_rank (line_bytes tableau_line_run m v out'))
class_lines n m u v a b out out' l r =
    let bytes = (written_ranks n m u v a b).shared out out' l r in
    let test : (same_class u v ≡ true) ↔ Joined u v = class_joined n m u v a b in (
      λ e. bytes.1 (test.0 (yes_told (same_class u v) (sym (same_class_result n u m v a b) ∙ e))),
      λ e. same_class_result n u m v a b ∙ ap (λ (t : Bool). gives (tick t 0 ∷ [])) (test.1 (bytes.0 e)),
    )
