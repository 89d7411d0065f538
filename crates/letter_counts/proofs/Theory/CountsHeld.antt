-- After each accepted call the letter counts in lent memory are those of the letters in memory (document 02, N6), said of the very definitions that the
-- contracts cite, for every input that is not refused.
--     counts-held                                                       the claim: the counts left are those of the letters left
--     pair_word_held                                                    after the pair of a word they are those of the word
--     pair_kept, insert-kept, move_kept                                 a refusal leaves the counts, and all lent memory, as they were
--     seventeen_exactly                                                 17 passes exactly the counts of the letters, and else names the first wrong one
-- Counts that a call takes are 64 numbers, as lent memory has; those that it only gives may be any. Which of them a move changes is in
-- MovedEntries; readers of lines are in ReadCounts. That a refused product leaves all outputs as they were is product_refused of products, Theory.ProductReplies, and of a refused departure
-- depart_kept of windows, Theory.Departures. Assumes nothing.
use Prim.Native.Nat.{ℕ, suc, ◌+◌, ◌≤◌, ◌<◌}
use native.Mathlib.Omega.{arith}
use mathlib.Core.Path.{◌≡◌, refl, sym, ap, ap₂, subst, ◌∙◌}
use mathlib.Core.Logic.{◌↔◌, ◌⊎◌, inl, inr}
use mathlib.Core.Bool.{Bool, true, false, not, true≢false}
use mathlib.Core.List.{List, [], ◌∷◌, ◌++◌}
use lib.Dec.{eqb}
use lib.ListN.{length, drop, get_or, take}
use lib.Seq.{length-take-le}
use borrow.Author.Tests.{eq-eqb}
use Rattle.hypoplactic.specs.Words.{Inside, count, tick}
use Rattle.hypoplactic.specs.Insertion.{Pair, insert, pair_of, put_at, seat}
use Rattle.quasi_crystal.specs.Moves.{Move}
use Rattle.outcomes.specs.Replies.{Passes, Said, gives, refused, written}
use Rattle.outcomes.specs.FirstPlaces.{First}
use Rattle.outcomes.specs.Counts.{count_fault, counts_judged, counts_of, one_more}
use Rattle.outcomes.specs.Judgements.{full_judged, pair_rooms, tableau_rooms, word_judgements}
use Rattle.outcomes.specs.TableauOperations.{insert_judgements, insert_run, insert_says, move_tableau_run, pair_run, pair_says, used_cells, written_pair}
use Rattle.outcomes.proofs.Theory.Counts.{counts-first, counts-judged, counts_same, counts-true, counts_whole, letters-counts, snoc_counts}
use Rattle.outcomes.proofs.Theory.Judgements.{letters-judged, rank_judged_lem, used_judged_lem}
use Rattle.hypoplactic.proofs.Theory.Layers.{within_snoc}
use Rattle.outcomes.proofs.Theory.MoveResults.{move_tableau_result}
use Rattle.hypoplactic.proofs.Theory.Occurrences.{count_append}
use Rattle.hypoplactic.proofs.Theory.Pairs.{le-or-lt, length-letters}
use Rattle.outcomes.proofs.Theory.Passing.{passing_append, passing_first, refused_keeps}
use Rattle.hypoplactic.proofs.Theory.Placing.{count_placed, length_placed, placed_at}
use Rattle.products.specs.Products.{factors_judgements, product_letters, product_marks, product_run, product_says, product_word}
use Rattle.products.proofs.Theory.ProductContents.{product_cells, product_counts}
use Rattle.products.proofs.Theory.ProductReplies.{factors_passing, needed}
use Rattle.windows.specs.Departures.{depart_run, window_word}
use Rattle.windows.specs.Windows.{leave}
use Rattle.windows.proofs.Theory.Calls.{accepted_afresh}
use Rattle.letter_counts.specs.CountsHeld.{CountsHeld, HeldBeside, HeldIn}
use Rattle.letter_counts.proofs.Theory.MovedEntries.{move_passing}
use Rattle.letter_counts.proofs.Theory.ReadCounts.{after-values, pair_held, read_held, read_pair-held, read_runs-held, written_held}

-- ---- 17

-- One place is the first.
first_one : (f : ℕ → Bool) (size p q : ℕ) → First f size p → First f size q → p ≡ q
first_one f size p q a b = go (le-or-lt p q) (le-or-lt q p)
  where
    go : (p ≤ q) ⊎ (q < p) → (q ≤ p) ⊎ (p < q) → p ≡ q
    go (inl l) (inl m) = omega arith
    go (inl l) (inr m) = absurd (true≢false (sym a.stands ∙ b.none_before p m))
    go (inr l) m = absurd (true≢false (sym b.stands ∙ a.none_before q l))

-- 17 passes exactly when the 64 numbers are the counts of the letters, and refuses with a place exactly when that is the first wrong one.
pub seventeen_exactly : (cs xs : List ℕ) → length cs ≡ 64
    → (Passes (counts_judged cs xs) ↔ (cs ≡ counts_of xs))
    × ((k p : ℕ) → (counts_judged cs xs ≡ refused k p) ↔ ((k ≡ 17) × First (count_fault cs xs) 64 p))
seventeen_exactly cs xs e = (
  (λ h. counts_whole xs cs e ((counts-judged cs xs).0 h), λ q. (counts-judged cs xs).1 (rw q (counts-true xs))),
  λ k p. (counts-first cs xs k p, λ f. named k p f.0 f.1 (counts_judged cs xs) refl),
)
  where
    named : (k p : ℕ) → k ≡ 17 → First (count_fault cs xs) 64 p → (s : Said) → counts_judged cs xs ≡ s → s ≡ refused k p
    named k p is f (gives vs) q =
        let right : get_or cs p 0 ≡ count (suc p) xs = ((counts-judged cs xs).0 (subst Passes (sym q) tt)).entry p f.within in
        absurd (true≢false (sym f.stands ∙ ap not (eq-eqb _ _ right)))
    named k p is f (refused j i) q =
        let (number, g) = counts-first cs xs j i q in
        ap₂ refused (number ∙ sym is) (first_one (count_fault cs xs) 64 i p g f)

-- ---- calls that give counts

-- The checks of the pair of a word, in order.
abbrev word_checks : ℕ → List ℕ → Pair → List Said
word_checks n w p = word_judgements n w ++ pair_rooms (length w) (length p.letters) (length p.marks) (length p.recording)

-- The pair of a word: the counts left are those of its letters left,
word_held : (n : ℕ) (w : List ℕ) (p : Pair) (counts : List ℕ) → Passes (pair_run n w p counts).0 → HeldBeside (pair_run n w p counts)
unfolding pair_run pair_says
word_held n w p counts =
    pair_held (word_checks n w p) (length w ∷ []) (pair_of w) p (counts_of w) counts (length-letters w) (sym (letters-counts w))

-- and of the word.
pub pair_word_held : (n : ℕ) (w : List ℕ) (p : Pair) (counts : List ℕ) → Passes (pair_run n w p counts).0 → (pair_run n w p counts).1.1 ≡ counts_of w
unfolding pair_run pair_says
pair_word_held n w p counts h =
    after-values (λ (r : Said × (Pair × List ℕ)). r.1.1 ≡ counts_of w) (word_checks n w p) (length w ∷ []) (written_pair (pair_of w) p, counts_of w) (p, counts) h refl

-- The product: the counts left are those of its letters left.
product_held : (n : ℕ) (xs ms cs ys ns ds letters marks counts : List ℕ) → Passes (product_run n xs ms cs ys ns ds letters marks counts).0
    → HeldIn (product_run n xs ms cs ys ns ds letters marks counts)
unfolding product_run product_says
product_held n xs ms cs ys ns ds letters marks counts p =
    let checks : List Said = factors_judgements n xs ms cs ys ns ds in
    let rooms : List Said = tableau_rooms (length xs + length ys) (length letters) (length marks) in
    let (h, k, fit, c, d) = (factors_passing n xs ms cs ys ns ds).0 ((passing_append checks rooms).0 (passing_first (checks ++ rooms) _ p)).0 in
    written_held (checks ++ rooms) ((length xs + length ys) ∷ []) (product_letters xs ms ys ns) letters (written (product_marks xs ms ys ns) marks)
    (counts_of (product_word xs ms ys ns)) (letters, (marks, counts)) (product_cells xs ms ys ns h.tableau k.tableau).0
    (product_counts xs ms ys ns h.tableau k.tableau) p

-- ---- calls that take counts and change them

-- One letter put in anywhere is counted as at the end.
put_counts : (k a : ℕ) (xs : List ℕ) → Inside 64 a → one_more (counts_of xs) a ≡ counts_of (put_at k a xs)
put_counts k a xs i =
    snoc_counts xs a i
    ∙ counts_same (xs ++ (a ∷ [])) (put_at k a xs)
    (λ b. count_append b xs (a ∷ []) ∙ more (eqb a b) (count b xs) ∙ sym (count_placed b (placed_at a a k xs xs refl)))
  where
    more : (t : Bool) (c : ℕ) → c + tick t 0 ≡ tick t c
    more true c = omega arith
    more false c = omega arith

-- Insertion: the counts left are those of the used letters left.
insert-held : (n used a : ℕ) (p : Pair) (cs : List ℕ) → length cs ≡ 64 → Passes (insert_run n used a p cs).0
    → HeldBeside (insert_run n used a p cs)
unfolding insert_run insert_says insert
insert-held n used a p cs e q =
    let xs : List ℕ = take used p.letters in
    let lengths : List ℕ = length p.letters ∷ length p.marks ∷ length p.recording ∷ [] in
    let rooms : List Said = full_judged used ∷ pair_rooms (suc used) (length p.letters) (length p.marks) (length p.recording) in
    let checks : List Said = insert_judgements n used a p cs ++ rooms in
    let (rank, (short, (held, (letters, (rising, (marks, (counts, rest))))))) = passing_first checks (suc used ∷ []) q in
    let (within, low, high) = within_snoc n a xs ((letters-judged n (xs ++ a ∷ [])).0 letters) in
    let top : n ≤ 64 = ((rank_judged_lem n).0 rank).1 in
    let size : length xs ≡ used = length-take-le used p.letters ((used_judged_lem used lengths).0 held).0 in
    let is : cs ≡ counts_of xs = counts_whole xs cs e ((counts-judged cs xs).0 counts) in
    let cells : length (put_at (seat a xs) a xs) ≡ suc used = (length_placed (placed_at a a (seat a xs) xs xs refl)).0 ∙ ap suc size in
    after-values HeldBeside checks (suc used ∷ [])
    (written_pair (insert a (used_cells used p)) p, one_more cs a) (p, cs) q
    (ap (λ (ds : List ℕ). one_more ds a) is ∙ put_counts (seat a xs) a xs (low, omega arith)
    ∙ sym (ap counts_of (needed (suc used) (put_at (seat a xs) a xs) p.letters cells)))

-- A departure: what is left is the pair of the other letters, inserted afresh.
depart_held : (n used : ℕ) (p : Pair) (cs : List ℕ) → length cs ≡ 64 → Passes (depart_run n used p cs).0 → HeldBeside (depart_run n used p cs)
depart_held n used p cs e q =
    let same = accepted_afresh n leave (record { used = used; pair = p; counts = cs }) e q in
    subst HeldBeside (sym same)
    (word_held n (drop 1 (window_word used p)) p cs (subst (λ (r : Said × (Pair × List ℕ)). Passes r.0) same q))

-- A move: the counts left are those of the letters left.
move_held : (n : ℕ) (m : Move) (xs ms cs : List ℕ) → length cs ≡ 64 → Passes (move_tableau_run n m xs ms cs).0
    → (move_tableau_run n m xs ms cs).1.1 ≡ counts_of (move_tableau_run n m xs ms cs).1.0
unfolding move_tableau_run
move_held n m xs ms cs e p =
    let (h, c, low, high, some) = move_passing n m xs ms cs p in
    let run = ap (move_tableau_run n m xs ms) (counts_whole xs cs e c) ∙ move_tableau_result n m xs ms h in
    subst (λ (r : Said × (List ℕ × List ℕ)). r.1.1 ≡ counts_of r.1.0) (sym run) refl

-- ---- the claim

pub counts-held : CountsHeld
counts-held =
    record { pair = word_held; inserted = insert-held; departed = depart_held; moved = move_held; multiplied = product_held; read = read_held; reads_pair = read_pair-held; reads_runs = read_runs-held }

-- ---- refusals

-- The pair of a word, refused.
pub pair_kept : (n : ℕ) (w : List ℕ) (p : Pair) (counts : List ℕ) (k i : ℕ) → (pair_run n w p counts).0 ≡ refused k i
    → pair_run n w p counts ≡ (refused k i, (p, counts))
unfolding pair_run
pair_kept n w p counts k i e = refused_keeps _ k i _ (p, counts) e

-- Insertion, refused.
pub insert-kept : (n used a : ℕ) (p : Pair) (cs : List ℕ) (k i : ℕ) → (insert_run n used a p cs).0 ≡ refused k i → insert_run n used a p cs ≡ (refused k i, (p, cs))
unfolding insert_run
insert-kept n used a p cs k i e = refused_keeps _ k i _ (p, cs) e

-- A move, refused.
pub move_kept : (n : ℕ) (m : Move) (xs ms cs : List ℕ) (k i : ℕ) → (move_tableau_run n m xs ms cs).0 ≡ refused k i → move_tableau_run n m xs ms cs ≡ (refused k i, (xs, cs))
unfolding move_tableau_run
move_kept n m xs ms cs k i e = refused_keeps _ k i _ (xs, cs) e
