-- Readers of lines and letter counts (document 02, N6): the counts that a reader leaves are those of the letters that it read, and a refused reader leaves
-- all lent memory as it was.
--     after-values, written_held, pair_held      what a call leaves where it is not refused, letters written, a pair written
--     read_held, read_pair-held, read_runs-held  T lines, P lines and C lines, read
--     read_kept, read_pair-kept, read_runs-kept  refused
-- Assumes nothing.
use Prim.Native.Nat.{ℕ}
use mathlib.Core.Path.{◌≡◌, refl, sym, ap, ◌∙◌}
use mathlib.Core.List.{List, [], ◌∷◌, ◌++◌}
use lib.ListN.{length}
use Rattle.grammar.specs.Lines.{Run}
use Rattle.grammar.specs.Reading.{Read, broken, got, read_c, read_p, read_t}
use Rattle.hypoplactic.specs.Insertion.{Pair, pair_with}
use Rattle.outcomes.specs.Replies.{Passes, Said, first, gives, ran_to, refused, written}
use Rattle.outcomes.specs.Counts.{counts_of}
use Rattle.outcomes.specs.Judgements.{pair_judgements, pair_rooms, tableau_judgements, tableau_rooms}
use Rattle.outcomes.specs.TableauOperations.{written_pair}
use Rattle.outcomes.specs.LineReadings.{pair_read, read_p_run, read_run, read_t_run, tableau_read}
use Rattle.outcomes.proofs.Theory.Passing.{first_answer, passing_append, passing_first, refused_keeps}
use Rattle.products.proofs.Theory.ProductReplies.{needed}
use Rattle.run_lines.specs.Judgements.{run_judgements}
use Rattle.run_lines.specs.Operations.{read_c_run, runs_read}
use Rattle.run_lines.specs.Runs.{run_letters, run_marks}
use Rattle.run_lines.proofs.Theory.Judged.{sum_judged_lem}
use Rattle.run_lines.proofs.Theory.Runs.{runs_length}
use Rattle.letter_counts.specs.CountsHeld.{HeldBeside, HeldIn, last_of}

-- What the reading of a T line comes to.
abbrev tableau_reading : List ℕ → List ℕ → List ℕ → List ℕ → Read (ℕ × List ℕ × List ℕ) → Said × (List ℕ × (List ℕ × List ℕ))
tableau_reading text letters marks counts r =
    read_run text (λ v. tableau_read letters marks counts v.0 v.1 v.2) (letters, (marks, counts)) r

-- And that of a P line.
abbrev pair_reading : List ℕ → Pair → List ℕ → Read (ℕ × List ℕ × List ℕ × List ℕ) → Said × (Pair × List ℕ)
pair_reading text p counts r = read_run text (λ v. pair_read p counts v.0 v.1 v.2 v.3) (p, counts) r

-- And that of a C line.
abbrev runs_reading : List ℕ → List ℕ → List ℕ → List ℕ → Read (ℕ × ℕ × List Run) → Said × (List ℕ × (List ℕ × List ℕ))
runs_reading text letters marks counts r =
    read_run text (λ v. runs_read letters marks counts v.0 v.1 v.2) (letters, (marks, counts)) r

-- ---- calls that write letters beside counts

-- Where a call is not refused, its values and the new memory tell what is so after it.
pub after-values : {A : Type 0} (P : Said × A → Type 0) (js : List Said) (vs : List ℕ) (new old : A) → Passes (first js (gives vs)) → P (gives vs, new)
    → P (ran_to (first js (gives vs)) new old)
after-values P js vs new old p h = rw (first_answer js (gives vs) (passing_first js vs p)) h

-- Letters are written, as many as is said last, beside marks and the counts of these letters.
pub written_held : (js : List Said) (vs us letters ms cs : List ℕ) (old : List ℕ × (List ℕ × List ℕ)) → length us ≡ last_of vs → cs ≡ counts_of us
    → Passes (first js (gives vs)) → HeldIn (ran_to (first js (gives vs)) (written us letters, (ms, cs)) old)
written_held js vs us letters ms cs old size e p =
    after-values HeldIn js vs (written us letters, (ms, cs)) old p (e ∙ sym (ap counts_of (needed (last_of vs) us letters size)))

-- The same beside a pair.
pub pair_held : (js : List Said) (vs : List ℕ) (q p : Pair) (cs counts : List ℕ) → length q.letters ≡ last_of vs → cs ≡ counts_of q.letters
    → Passes (first js (gives vs)) → HeldBeside (ran_to (first js (gives vs)) (written_pair q p, cs) (p, counts))
pair_held js vs q p cs counts size e h =
    after-values HeldBeside js vs (written_pair q p, cs) (p, counts) h (e ∙ sym (ap counts_of (needed (last_of vs) q.letters p.letters size)))

-- ---- lines read

-- The reading of a T line: the counts left are those of the letters read.
pub read_held : (text letters marks counts : List ℕ) → Passes (read_t_run text letters marks counts).0 → HeldIn (read_t_run text letters marks counts)
unfolding read_t_run
read_held text letters marks counts p = go (read_t text) p
  where
    go : (r : Read (ℕ × List ℕ × List ℕ)) → Passes (tableau_reading text letters marks counts r).0 → HeldIn (tableau_reading text letters marks counts r)
    go (broken rest) p = absurd p
    go (got (n, xs, ms) rest) p =
        written_held (tableau_judgements n xs ms ++ tableau_rooms (length xs) (length letters) (length marks)) (n ∷ length xs ∷ []) xs letters (written ms marks)
        (counts_of xs) (letters, (marks, counts)) refl refl p

-- So with a P line.
pub read_pair-held : (text : List ℕ) (p : Pair) (counts : List ℕ) → Passes (read_p_run text p counts).0 → HeldBeside (read_p_run text p counts)
unfolding read_p_run
read_pair-held text p counts h = go (read_p text) h
  where
    go : (r : Read (ℕ × List ℕ × List ℕ × List ℕ)) → Passes (pair_reading text p counts r).0 → HeldBeside (pair_reading text p counts r)
    go (broken rest) h = absurd h
    go (got (n, xs, ms, rs) rest) h =
        pair_held (pair_judgements n xs ms rs ++ pair_rooms (length xs) (length p.letters) (length p.marks) (length p.recording))
        (n ∷ length xs ∷ []) (pair_with xs ms rs) p (counts_of xs) counts refl refl h

-- And with a C line, whose letters are as many as its L says where 20 passes.
pub read_runs-held : (text letters marks counts : List ℕ) → Passes (read_c_run text letters marks counts).0 → HeldIn (read_c_run text letters marks counts)
unfolding read_c_run
read_runs-held text letters marks counts p = go (read_c text) p
  where
    go : (r : Read (ℕ × ℕ × List Run)) → Passes (runs_reading text letters marks counts r).0 → HeldIn (runs_reading text letters marks counts r)
    go (broken rest) p = absurd p
    go (got (n, L, rs) rest) p =
        let checks : List Said = run_judgements n L rs in
        let rooms : List Said = tableau_rooms L (length letters) (length marks) in
        let (rank, (short, (inside, (rising, (sum, t))))) = ((passing_append checks rooms).0 (passing_first (checks ++ rooms) _ p)).0 in
        written_held (checks ++ rooms) (n ∷ L ∷ []) (run_letters rs) letters (written (run_marks rs) marks) (counts_of (run_letters rs))
        (letters, (marks, counts)) (sym (runs_length rs) ∙ (sum_judged_lem L rs).0 sum) refl p

-- ---- lines refused

-- The reading of a T line, refused.
pub read_kept : (text letters marks counts : List ℕ) (k i : ℕ) → (read_t_run text letters marks counts).0 ≡ refused k i
    → read_t_run text letters marks counts ≡ (refused k i, (letters, (marks, counts)))
unfolding read_t_run
read_kept text letters marks counts k i e = go (read_t text) e
  where
    go : (r : Read (ℕ × List ℕ × List ℕ)) → (tableau_reading text letters marks counts r).0 ≡ refused k i
        → tableau_reading text letters marks counts r ≡ (refused k i, (letters, (marks, counts)))
    go (broken rest) e = rw e
    go (got (n, xs, ms) rest) e = refused_keeps _ k i _ (letters, (marks, counts)) e

-- The reading of a P line, refused.
pub read_pair-kept : (text : List ℕ) (p : Pair) (counts : List ℕ) (k i : ℕ) → (read_p_run text p counts).0 ≡ refused k i
    → read_p_run text p counts ≡ (refused k i, (p, counts))
unfolding read_p_run
read_pair-kept text p counts k i e = go (read_p text) e
  where
    go : (r : Read (ℕ × List ℕ × List ℕ × List ℕ)) → (pair_reading text p counts r).0 ≡ refused k i → pair_reading text p counts r ≡ (refused k i, (p, counts))
    go (broken rest) e = rw e
    go (got (n, xs, ms, rs) rest) e = refused_keeps _ k i _ (p, counts) e

-- The reading of a C line, refused.
pub read_runs-kept : (text letters marks counts : List ℕ) (k i : ℕ) → (read_c_run text letters marks counts).0 ≡ refused k i
    → read_c_run text letters marks counts ≡ (refused k i, (letters, (marks, counts)))
unfolding read_c_run
read_runs-kept text letters marks counts k i e = go (read_c text) e
  where
    go : (r : Read (ℕ × ℕ × List Run)) → (runs_reading text letters marks counts r).0 ≡ refused k i
        → runs_reading text letters marks counts r ≡ (refused k i, (letters, (marks, counts)))
    go (broken rest) e = rw e
    go (got (n, L, rs) rest) e = refused_keeps _ k i _ (letters, (marks, counts)) e
