-- The two records of specs/Ranks.antt with the words exchanged.
--     exchanged             FaithfulAcross holds of the words exchanged, each with its rank
--     written_exchanged     and so does WrittenAcross
-- Both ask for the record of the second word beside itself, for its recordings, of which the record of both words does not speak. Assumes nothing.
use Prim.Native.Nat.{ℕ}
use mathlib.Core.Path.{sym}
use mathlib.Core.List.{List}
use mathlib.Core.Option.{Option}
use Rattle.quasi_crystal.specs.Moves.{Move}
use Rattle.outcomes.specs.Replies.{Said}
use Rattle.hypoplactic.proofs.Theory.Joining.{joined_sym}
use Rattle.changed_places.proofs.Theory.TakenApart.{together_turned}
use Rattle.ranks.specs.Ranks.{FaithfulAcross, WrittenAcross}

-- Each word keeps its rank where the two are exchanged: of any lines and moves,
pub exchanged : {A : Type 0} (line : ℕ → List ℕ → A) (move : ℕ → Move → List ℕ → Option (List ℕ)) (n m : ℕ) (u v : List ℕ)
    → FaithfulAcross line move n m u v → FaithfulAcross line move m m v v → FaithfulAcross line move m n v u
exchanged line move n m u v faith own =
    record {
      shared = (λ e. joined_sym (faith.shared.0 (sym e)), λ j. sym (faith.shared.1 (joined_sym j)));
      together = λ j k p q. let t = faith.together (joined_sym j) k q p in (t.1, t.0);
      results = λ j k u' v' e f. sym (faith.results (joined_sym j) k v' u' f e);
      recordings = own.recordings;
    }

-- and of what is written.
pub written_exchanged : (line : ℕ → List ℕ → List ℕ) (run : ℕ → List ℕ → List ℕ → Said × List ℕ) (n m : ℕ) (u v : List ℕ)
    → WrittenAcross line run n m u v → WrittenAcross line run m m v v → WrittenAcross line run m n v u
written_exchanged line run n m u v faith own =
    record {
      shared = λ out out' l r.
          let t = faith.shared out' out r l in
          (λ e. joined_sym (t.0 (sym e)), λ j. sym (t.1 (joined_sym j)));
      together = λ j k p q. together_turned (faith.together (joined_sym j) k q p);
      results = λ j k p q out out' l r. sym (faith.results (joined_sym j) k q p out' out r l);
      recordings = own.recordings;
    }
