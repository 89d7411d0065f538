-- Demand 3 of words of a rank follows from what is said of the first at that rank and of the second at any rank not smaller. So each field of the records of
-- specs/Ranks.antt says of every two ranks what demand 3's says of one. With the larger rank first: Exchanged.
--     smaller_rank      FaithfulAcross gives Faithful at the smaller rank, of lines and moves that are the same at both ranks
--     unranked_whole    lines of one rank agree without their rank fields exactly where they are equal
--     ranks_lines       FaithfulRanks gives demand 3, with the second word at any rank not smaller
--     ranks_writing     WrittenRanks gives it over what is written, likewise
-- Assumes nothing.
use Prim.Native.Nat.{ℕ, ◌≤◌, ◌<◌}
use native.Mathlib.Nat.{le_refl}
use native.Mathlib.Omega.{arith}
use mathlib.Core.Path.{◌≡◌, refl, sym, ap, ◌∙◌}
use mathlib.Core.Bool.{Bool, true, false}
use mathlib.Core.List.{List}
use mathlib.Core.Logic.{◌↔◌}
use mathlib.Core.Option.{Option, none, some, none-ne-some}
use lib.Dec.{ltb}
use borrow.Author.Tests.{lt-ltb, ltb-true}
use Rattle.hypoplactic.specs.Words.{Accepted}
use Rattle.hypoplactic.specs.Rewriting.{Joined}
use Rattle.outcomes.specs.Replies.{Said, refused}
use Rattle.quasi_crystal.specs.Moves.{Defined, Move, given, index_of, move_word}
use Rattle.outcomes.specs.WordOperations.{move_word_run}
use Rattle.quasi_crystal.specs.Classes.{tableau_line, Faithful}
use Rattle.outcomes.specs.LineOperations.{tableau_line_run}
use Rattle.outcomes.specs.WrittenClasses.{FaithfullyWritten, MovedTogether, in_neither, line_bytes, move_left}
use Rattle.hypoplactic.proofs.Theory.Limits.{and_both, within_more}
use Rattle.outcomes.proofs.Theory.MoveResults.{move_word_refused}
use Rattle.outcomes.proofs.Theory.WrittenClasses.{line_bytes_lem, move_left_lem}
use Rattle.ranks.specs.Unranked.{without_rank}
use Rattle.ranks.specs.Ranks.{FaithfulAcross, FaithfulRanks, Has, unranked_line, WrittenAcross, WrittenRanks}
use Rattle.ranks.proofs.Theory.Unranked.{ranked, tableau-ranked, tableau_unranked}
use Rattle.ranks.proofs.Theory.WrittenRanks.{move_at_both}

-- ---- of any lines and moves

module _ {A : Type 0} (line : ℕ → List ℕ → A) (move : ℕ → Move → List ℕ → Option (List ℕ)) (n m : ℕ)
    (none_at : (k : Move) (w : List ℕ) → index_of n k.index ≡ false → move n k w ≡ none) where
  -- A move that the smaller rank has is as the record says; one that it has not is undefined on both words.
  indexed : (k : Move) (u v : List ℕ) (t : Bool) → index_of n k.index ≡ t → (Has n k → Defined (move n k u) ↔ Defined (move n k v))
      → Defined (move n k u) ↔ Defined (move n k v)
  indexed k u v true e h = h e
  indexed k u v false e h = rw (none_at k u e, none_at k v e) (λ x. x, λ x. x)

  -- A move that is defined is one of the rank.
  has : (k : Move) (w w' : List ℕ) (t : Bool) → index_of n k.index ≡ t → move n k w ≡ some w' → Has n k
  has k w w' true e f = e
  has k w w' false e f = absurd (none-ne-some w' (sym (none_at k w e) ∙ f))

  pub smaller_rank : (u v : List ℕ) → ((w : List ℕ) → line n w ≡ line m w) → ((k : Move) → Has n k → Has m k)
      → ((k : Move) (w : List ℕ) → Has n k → move n k w ≡ move m k w) → FaithfulAcross line move n m u v → Faithful (line n) (move n) u v
  smaller_rank u v one more alike faith =
      record {
        shared = (λ e. faith.shared.0 (e ∙ one v), λ j. faith.shared.1 j ∙ sym (one v));
        together = λ j k. indexed k u v (index_of n k.index) refl (λ h. rw (alike k v h) (faith.together j k h (more k h)));
        results = λ j k u' v' e f.
            faith.results j k u' v' e (sym (alike k v (has k v v' (index_of n k.index) refl f)) ∙ f) ∙ sym (one v');
        recordings = faith.recordings;
      }

-- ---- at a rank n and at one not smaller, m

module _ (n m : ℕ) (up : n ≤ m) (most : m ≤ 64) where
  -- The larger rank has the indices of the smaller,
  index_more : (k : Move) → Has n k → Has m k
  index_more k h =
      let both : (ltb 0 k.index ≡ true) × (ltb k.index n ≡ true) = and_both (ltb 0 k.index) (ltb k.index n) h in
      let below : k.index < n = ltb-true k.index n both.1 in
      rw (both.0, lt-ltb k.index m (omega arith))

  -- and accepts its words.
  accepted_more : (w : List ℕ) → Accepted n w → Accepted m w
  accepted_more w a = record { rank_low = omega (arith, a.rank_low); rank_high = most; short = a.short; letters = within_more w up a.letters }

-- Lines of one rank agree without their rank fields exactly where they are equal.
pub unranked_whole : (n : ℕ) (u v : List ℕ) → (unranked_line n u ≡ unranked_line n v) ↔ (tableau_line n u ≡ tableau_line n v)
unfolding unranked_line tableau_line
unranked_whole n u v = (λ e. sym (tableau-ranked n _ _) ∙ ap (ranked n) e ∙ tableau-ranked n _ _, λ e. ap without_rank e)

pub ranks_lines : FaithfulRanks → (n m : ℕ) (u v : List ℕ) → n ≤ m → m ≤ 64 → Accepted n u → Accepted n v → Faithful (tableau_line n) (move_word n) u v
unfolding unranked_line tableau_line move_word
ranks_lines all n m u v up most a b =
    let one : Faithful (unranked_line n) (move_word n) u v
    = smaller_rank unranked_line move_word n m (λ k w e. rw e) u v (λ w. tableau_unranked n m _ _) (index_more n m up most)
    (λ k w h. rw (h, index_more n m up most k h)) (all n m u v a (accepted_more n m up most v b)) in
    record {
      shared = (λ e. one.shared.0 ((unranked_whole n u v).1 e), λ j. (unranked_whole n u v).0 (one.shared.1 j));
      together = one.together;
      results = λ j k u' v' e f. (unranked_whole n u' v').0 (one.results j k u' v' e f);
      recordings = one.recordings;
    }

-- ---- over what is written

module _ (n m : ℕ) (up : n ≤ m) (most : m ≤ 64) where
  -- Lines at the smaller rank are equal exactly where the bytes written at both agree without their rank fields.
  lines_bytes : (x y : List ℕ) → Accepted n x → Accepted n y
      → (without_rank (line_bytes tableau_line_run n x (tableau_line n x)) ≡ without_rank (line_bytes tableau_line_run m y (tableau_line m y))) ↔ (tableau_line n x ≡ tableau_line n y)
  unfolding unranked_line tableau_line
  lines_bytes x y a b =
      let unranked : without_rank (tableau_line m y) ≡ without_rank (tableau_line n y) = tableau_unranked m n _ _ in
      let there : Accepted m y = accepted_more n m up most y b in
      rw (line_bytes_lem n x (tableau_line n x) a (le_refl _), line_bytes_lem m y (tableau_line m y) there (le_refl _), unranked) (unranked_whole n x y)

  module _ (u v : List ℕ) (a : Accepted n u) (b : Accepted n v) (faith : WrittenAcross tableau_line tableau_line_run n m u v) where
    -- The lines of joined words,
    joined_lines : (tableau_line n u ≡ tableau_line n v) ↔ Joined u v
    joined_lines =
        let bytes = faith.shared (tableau_line n u) (tableau_line m v) (le_refl _) (le_refl _) in
        let lines = lines_bytes u v a b in
        (λ e. bytes.0 (lines.1 e), λ j. lines.0 (bytes.1 j))

    -- and a move: at an index of the smaller rank it is the same at both; at any other it is refused with 9, and the words stay.
    module _ (j : Joined u v) (k : Move) where
      other : (w : List ℕ) → Accepted n w → index_of n k.index ≡ false → move_word_run n k w ≡ (refused 9 0, w)
      other w c e = move_word_refused n k w c (rw e refl) ∙ rw e refl

      same : Has n k → move_word_run n k v ≡ move_word_run m k v
      same h = move_at_both n m k v b (accepted_more n m up most v b) h (index_more n m up most k h)

      moved_at : (t : Bool) → index_of n k.index ≡ t → MovedTogether (given k.side k.index) u v (move_word_run n k u) (move_word_run n k v)
      moved_at true h = rw (same h) (faith.together j k h (index_more n m up most k h))
      moved_at false e = rw (other u a e, other v b e) (in_neither 9)

      left_at : (t : Bool) → index_of n k.index ≡ t → tableau_line n (move_left n k u) ≡ tableau_line n (move_left n k v)
      left_at true h =
          let x : List ℕ = move_left n k u in
          let y : List ℕ = move_left m k v in
          let here : move_left n k v ≡ y = ap (λ (r : Said × List ℕ). r.1) (same h) in
          rw here
          ((lines_bytes x y (move_left_lem n k u a) (rw (← here) (move_left_lem n k v b))).0
          (faith.results j k h (index_more n m up most k h) (tableau_line n x) (tableau_line m y) (le_refl _) (le_refl _)))
      left_at false e =
          let stays : (w : List ℕ) → Accepted n w → tableau_line n (move_left n k w) ≡ tableau_line n w
          = λ w c. ap (λ (r : Said × List ℕ). tableau_line n r.1) (other w c e) in
          stays u a ∙ joined_lines.1 j ∙ sym (stays v b)

    written_smaller : FaithfullyWritten tableau_line tableau_line_run n u v
    written_smaller =
        record {
          shared = λ out out' l r. rw (line_bytes_lem n u out a l, line_bytes_lem n v out' b r) joined_lines;
          together = λ j k. moved_at j k (index_of n k.index) refl;
          results = λ j k out out' l r.
              line_bytes_lem n (move_left n k u) out (move_left_lem n k u a) l ∙ left_at j k (index_of n k.index) refl
              ∙ sym (line_bytes_lem n (move_left n k v) out' (move_left_lem n k v b) r);
          recordings = faith.recordings;
        }

pub ranks_writing : WrittenRanks → (n m : ℕ) (u v : List ℕ) → n ≤ m → m ≤ 64 → Accepted n u → Accepted n v → FaithfullyWritten tableau_line tableau_line_run n u v
ranks_writing all n m u v up most a b = written_smaller n m up most u v a b (all n m u v a (accepted_more n m up most v b))
