-- What the product operation replies and leaves in lent memory, beside what the operation for the pair of a word does.
--     factors_passing               1 to 6 and 17 refuse nothing exactly for two tableaux within the limits that fit together and bring true letter counts
--     product_result                such factors, with outputs long enough, get their product
--     product_refused               a refusal leaves all outputs as they were
--     product_too_long              at a rank from 1 to 64 more than 1,024 cells together are refused with 2, whatever else is wrong
--     product_of_classes            the product of the tableaux of u and v has the very reply and memory, but for the entries, of the pair of u ++ v;
--     product_of_any_words          and of the pair of any word of the first's class followed by any of the second's
--     products_associate            three factors have one reply and one memory, whichever two are taken first, also where it is a refusal
--     needed                        of a list that values were written into, so many elements are those values
--     product_left                  the cells and the letter counts that a call has written are those of the product
--     calls_associate               three factors in four calls, each inner product taken from where its call has left it
--     empty-before, empty-after     with the empty tableau on either side the other factor is written
-- Assumes nothing.
use Prim.Native.Nat.{ℕ, ◌+◌, ◌≤◌, ◌<◌}
use native.Mathlib.Omega.{arith}
use native.Mathlib.Decide.{dec_le}
use native.Mathlib.Nat.{le_refl}
use mathlib.Core.Path.{◌≡◌, refl, ap, sym, ◌∙◌}
use mathlib.Core.List.{List, [], ◌∷◌, ◌++◌, append-nil}
use mathlib.Core.Logic.{◌↔◌, dite}
use lib.ListN.{length, take}
use borrow.Author.Tests.{le-ltb, lt-ltb}
use Rattle.hypoplactic.specs.Words.{Accepted, Inside}
use Rattle.outcomes.specs.Counts.{TrueCounts, counts_judged, counts_of}
use Rattle.hypoplactic.specs.Ribbons.{TableauAt}
use Rattle.hypoplactic.specs.Rewriting.{Joined, same}
use Rattle.hypoplactic.specs.Insertion.{letters_of, marks_of, pair_with}
use Rattle.hypoplactic.specs.Reading.{column_reading}
use Rattle.outcomes.specs.Replies.{gives, refused, first, written}
use Rattle.outcomes.specs.Judgements.{length_judged, letters_judged, marks_judged, rank_judged, rising_judged, pair_rooms, tableau_rooms, word_judgements}
use Rattle.outcomes.specs.TableauOperations.{pair_run, pair_says}
use Rattle.quasi_crystal.proofs.Theory.Closure.{chain_accepted, word_tableau_at}
use Rattle.outcomes.proofs.Theory.Counts.{counts-judged, counts_same, counts-true, letters-true}
use Rattle.hypoplactic.proofs.Theory.Invariants.{joined_count, joined_tableau}
use Rattle.hypoplactic.proofs.Theory.Joining.{joined-eq, joined_sym}
use Rattle.outcomes.proofs.Theory.Judged.{tableau_passing, word_passing}
use Rattle.outcomes.proofs.Theory.Judgements.{length-judged, room_judged_lem}
use Rattle.hypoplactic.proofs.Theory.Pairs.{length-letters}
use Rattle.outcomes.proofs.Theory.Memory.{written_needed}
use Rattle.outcomes.proofs.Theory.Passing.{Passing, first_past, passes-further, passes_nearer, ran_answer, refused_keeps}
use Rattle.hypoplactic.proofs.Theory.ReadBack.{reading_length}
use Rattle.outcomes.proofs.Theory.Together.{reading_and_back}
use Rattle.products.specs.Products.{factors_judgements, left_counts, left_letters, left_marks, product_letters, product_marks, product_run, product_says, product_word, tableau_left}
use Rattle.products.proofs.Theory.PairTableaux.{rooms_past, tableau_left_lem}
use Rattle.products.proofs.Theory.ProductContents.{product_accepted, product_at, product_cells}
use Rattle.products.proofs.Theory.ProductLaws.{product_of_joined, three_joined}

-- ---- what the judgements let through

-- 1 to 6 and 17 refuse nothing: both factors are tableaux within the limits, they fit together, and their letter counts are true.
pub factors_passing : (n : ℕ) (xs ms cs ys ns ds : List ℕ)
    → Passing (factors_judgements n xs ms cs ys ns ds)
    ↔ (TableauAt n xs ms × TableauAt n ys ns × (length xs + length ys ≤ 1024) × TrueCounts xs cs × TrueCounts ys ds)
factors_passing n xs ms cs ys ns ds = (there, back)
  where
    there : Passing (factors_judgements n xs ms cs ys ns ds)
        → TableauAt n xs ms × TableauAt n ys ns × (length xs + length ys ≤ 1024) × TrueCounts xs cs × TrueCounts ys ds
    there (rank, (short, (alike, (alike', (letters, (letters', (rising, (rising', (marks, (marks', (counts, (counts', t)))))))))))) =
        let fit : length xs + length ys ≤ 1024 = (length-judged _).0 short in
        let inside = passes_nearer _ (letters_judged n ys) letters' in
        let rises = passes_nearer _ (rising_judged ys) rising' in
        let steps = passes_nearer _ (marks_judged ys ns) marks' in
        let counted = passes_nearer _ (counts_judged ds ys) counts' in (
          (tableau_passing n xs ms).0 (rank, ((length-judged _).1 (omega arith), (alike, (letters, (rising, (marks, tt)))))),
          (tableau_passing n ys ns).0 (rank, ((length-judged _).1 (omega arith), (alike', (inside, (rises, (steps, tt)))))),
          fit,
          (counts-judged cs xs).0 counts,
          (counts-judged ds ys).0 counted,
        )

    back : TableauAt n xs ms × TableauAt n ys ns × (length xs + length ys ≤ 1024) × TrueCounts xs cs × TrueCounts ys ds
        → Passing (factors_judgements n xs ms cs ys ns ds)
    back (h, k, fit, c, d) =
        let (rank, (short, (alike, (letters, (rising, (marks, t)))))) = (tableau_passing n xs ms).1 h in
        let (rank', (short', (alike', (letters', (rising', (marks', t')))))) = (tableau_passing n ys ns).1 k in
        let inside = passes-further (length xs) (letters_judged n ys) letters' in
        let rises = passes-further (length xs) (rising_judged ys) rising' in
        let steps = passes-further (length xs) (marks_judged ys ns) marks' in
        let counts = (counts-judged cs xs).1 c in
        let counted = passes-further 64 (counts_judged ds ys) ((counts-judged ds ys).1 d) in
        (rank, ((length-judged _).1 fit, (alike, (alike', (letters, (inside, (rising, (rises, (marks, (steps, (counts, (counted, tt))))))))))))

-- ---- factors that fit, and factors that do not

module _ (n : ℕ) (xs ms cs ys ns ds letters marks counts : List ℕ) where
  -- Two tableaux within the limits that fit together and bring true letter counts, with outputs long enough, get their product.
  pub product_result : TableauAt n xs ms → TableauAt n ys ns → length xs + length ys ≤ 1024 → TrueCounts xs cs → TrueCounts ys ds
      → length xs + length ys ≤ length letters → length xs + length ys ≤ length marks
      → product_run n xs ms cs ys ns ds letters marks counts
      ≡ (
        gives ((length xs + length ys) ∷ []),
        (written (product_letters xs ms ys ns) letters, (written (product_marks xs ms ys ns) marks, counts_of (product_word xs ms ys ns))),
      )
  unfolding product_run product_says
  product_result h k fit c d p q =
      ran_answer (factors_judgements n xs ms cs ys ns ds) (tableau_rooms (length xs + length ys) (length letters) (length marks)) _ _ _
      ((factors_passing n xs ms cs ys ns ds).1 (h, k, fit, c, d)) ((room_judged_lem _ _).1 p, ((room_judged_lem _ _).1 q, tt))

  -- A refusal leaves all outputs as they were.
  pub product_refused : (k p : ℕ) → product_says n xs ms cs ys ns ds (length letters) (length marks) ≡ refused k p
      → product_run n xs ms cs ys ns ds letters marks counts ≡ (refused k p, (letters, (marks, counts)))
  unfolding product_run
  product_refused k p e = refused_keeps _ k p _ (letters, (marks, counts)) e

-- More than 1,024 cells together are refused with 2, whatever else is wrong with the factors or the outputs.
pub product_too_long : (n : ℕ) (xs ms cs ys ns ds letters marks counts : List ℕ) → Inside 64 n → 1024 < length xs + length ys
    → product_run n xs ms cs ys ns ds letters marks counts ≡ (refused 2 0, (letters, (marks, counts)))
unfolding product_run product_says rank_judged length_judged
product_too_long n xs ms cs ys ns ds letters marks counts i l = rw (le-ltb n 1 i.0, le-ltb 64 n i.1, lt-ltb 1024 (length xs + length ys) l)

-- ---- the product and the pair of a word

module _ (n : ℕ) (xs ms cs ys ns ds : List ℕ) (h : TableauAt n xs ms) (k : TableauAt n ys ns) (c : TrueCounts xs cs) (d : TrueCounts ys ds) where
  -- The product of two tableaux replies what the pair of a word does that is as long as both, fits the lent entries and is accepted where they fit together.
  word_says_lem : (w : List ℕ) (letters marks entries : ℕ) → length w ≡ length xs + length ys → (length xs + length ys ≤ 1024 → Accepted n w)
      → length w ≤ entries → product_says n xs ms cs ys ns ds letters marks ≡ pair_says n w letters marks entries
  unfolding product_says pair_says rank_judged length_judged
  word_says_lem w letters marks entries size accepted room = dite (dec_le (length xs + length ys) 1024)
      (λ (fit : length xs + length ys ≤ 1024).
      first_past (factors_judgements n xs ms cs ys ns ds) (tableau_rooms (length xs + length ys) letters marks) _
      ((factors_passing n xs ms cs ys ns ds).1 (h, k, fit, c, d))
      ∙ ap (λ (k : ℕ). first (tableau_rooms k letters marks) (gives (k ∷ []))) (sym size)
      ∙ sym (rooms_past (length w) letters marks entries _ room)
      ∙ sym (first_past (word_judgements n w) (pair_rooms (length w) letters marks entries) _ ((word_passing n w).1 (accepted fit))))
      (λ (long : ¬ (length xs + length ys ≤ 1024)).
      rw (size, le-ltb n 1 h.word.rank_low, le-ltb 64 n h.word.rank_high, lt-ltb 1024 (length xs + length ys) (omega arith)))

  -- It replies and leaves what the pair of every word does that is joined to the product word.
  word_run_lem : (w letters marks entries counts : List ℕ) → Joined w (product_word xs ms ys ns) → length w ≤ length entries
      → product_run n xs ms cs ys ns ds letters marks counts ≡ tableau_left (pair_run n w (pair_with letters marks entries) counts)
  unfolding product_run pair_run
  word_run_lem w letters marks entries counts j room =
      let (is_letters, is_marks) = joined_tableau j in
      let size : length w ≡ length xs + length ys
      = sym (length-letters w) ∙ ap length is_letters ∙ (product_cells xs ms ys ns h.tableau k.tableau).0 in
      rw (
        word_says_lem w (length letters) (length marks) (length entries) size (λ fit. chain_accepted (product_accepted n xs ms ys ns h k fit) (joined_sym j)) room,
        ← is_letters,
        ← is_marks,
        ← counts_same w (product_word xs ms ys ns) (joined_count j),
      )
      (sym (tableau_left_lem (pair_says n w (length letters) (length marks) (length entries)) _ (pair_with letters marks entries) _ counts))

-- Of two accepted words u and v: any word of the first's class followed by any word of the second's, with any entries that have room for it,
pub product_of_any_words : (n : ℕ) {u u' v v' : List ℕ} (letters marks entries counts : List ℕ) → Accepted n u → Accepted n v → Joined u' u → Joined v' v
    → length (u' ++ v') ≤ length entries
    → product_run n (letters_of u) (marks_of u) (counts_of u) (letters_of v) (marks_of v) (counts_of v) letters marks counts
    ≡ tableau_left (pair_run n (u' ++ v') (pair_with letters marks entries) counts)
product_of_any_words n {u} {u'} {v} {v'} letters marks entries counts a b p q =
    word_run_lem n (letters_of u) (marks_of u) (counts_of u) (letters_of v) (marks_of v) (counts_of v) (word_tableau_at a) (word_tableau_at b)
    (letters-true u) (letters-true v) (u' ++ v') letters marks entries counts (product_of_joined p q)

-- and so the words themselves: the product of their tableaux has the very reply and leaves the very tableau that the pair of u ++ v does.
pub product_of_classes : (n : ℕ) (u v letters marks entries counts : List ℕ) → Accepted n u → Accepted n v → length (u ++ v) ≤ length entries
    → product_run n (letters_of u) (marks_of u) (counts_of u) (letters_of v) (marks_of v) (counts_of v) letters marks counts
    ≡ tableau_left (pair_run n (u ++ v) (pair_with letters marks entries) counts)
product_of_classes n u v letters marks entries counts a b = product_of_any_words n letters marks entries counts a b same same

-- ---- three factors, and the unit

-- Three tableaux within the limits with true letter counts: one reply and one memory, whichever two are taken first. Where they do not fit together both
-- refuse with 2.
pub products_associate : (n : ℕ) (xs ms cs ys ns zs os es letters marks counts : List ℕ) → TableauAt n xs ms → TableauAt n ys ns → TableauAt n zs os
    → TrueCounts xs cs → TrueCounts zs es
    → product_run n (product_letters xs ms ys ns) (product_marks xs ms ys ns) (counts_of (product_word xs ms ys ns)) zs os es letters marks counts
    ≡ product_run n xs ms cs (product_letters ys ns zs os) (product_marks ys ns zs os) (counts_of (product_word ys ns zs os)) letters marks counts
products_associate n xs ms cs ys ns zs os es letters marks counts h k l c e =
    let cells = (product_cells xs ms ys ns h.tableau k.tableau).0 in
    let cells' = (product_cells ys ns zs os k.tableau l.tableau).0 in
    let w : List ℕ = product_word xs ms (product_letters ys ns zs os) (product_marks ys ns zs os) in
    let left : List ℕ = counts_of (product_word xs ms ys ns) in
    let right : List ℕ = counts_of (product_word ys ns zs os) in
    dite (dec_le (length xs + length ys + length zs) 1024)
    (λ (fit : length xs + length ys + length zs ≤ 1024).
    word_run_lem n (product_letters xs ms ys ns) (product_marks xs ms ys ns) left zs os es (product_at n xs ms ys ns h k (omega arith)) l
    (letters-true (product_word xs ms ys ns)) e w letters marks w counts (joined_sym (three_joined xs ms ys ns zs os)) (le_refl (length w))
    ∙ sym (word_run_lem n xs ms cs (product_letters ys ns zs os) (product_marks ys ns zs os) right h (product_at n ys ns zs os k l (omega arith))
    c (letters-true (product_word ys ns zs os)) w letters marks w counts same (le_refl (length w))))
    (λ (long : ¬ (length xs + length ys + length zs ≤ 1024)).
    let rank : Inside 64 n = (h.word.rank_low, h.word.rank_high) in
    product_too_long n (product_letters xs ms ys ns) (product_marks xs ms ys ns) left zs os es letters marks counts rank (omega arith)
    ∙ sym (product_too_long n xs ms cs (product_letters ys ns zs os) (product_marks ys ns zs os) right letters marks counts rank (omega arith)))

-- The empty tableau is within the limits of every rank that a tableau has.
empty_at : {n : ℕ} {xs ms : List ℕ} → TableauAt n xs ms → TableauAt n [] []
empty_at h = record { word = record { rank_low = h.word.rank_low; rank_high = h.word.rank_high; short = omega arith; letters = tt }; tableau = tt }

module _ (n : ℕ) (xs ms cs letters marks counts : List ℕ) (h : TableauAt n xs ms) (c : TrueCounts xs cs)
    (p : length xs ≤ length letters) (q : length xs ≤ length marks) where
  -- A list as long as the letters has room for the entries of their column reading.
  read_short : length (column_reading xs ms) ≤ length xs
  read_short = omega (arith, reading_length xs ms h.tableau)

  -- The empty tableau first: the other factor is written,
  pub empty-before : product_run n [] [] (counts_of []) xs ms cs letters marks counts
      ≡ (gives (length xs ∷ []), (written xs letters, (written ms marks, counts_of xs)))
  unfolding product_word column_reading
  empty-before =
      word_run_lem n [] [] (counts_of []) xs ms cs (empty_at h) h (counts-true []) c (column_reading xs ms) letters marks xs counts same read_short
      ∙ ap tableau_left (reading_and_back n xs ms (pair_with letters marks xs) counts h p q (le_refl (length xs)))

  -- and so with the empty tableau second.
  pub empty-after : product_run n xs ms cs [] [] (counts_of []) letters marks counts
      ≡ (gives (length xs ∷ []), (written xs letters, (written ms marks, counts_of xs)))
  unfolding product_word column_reading
  empty-after =
      word_run_lem n xs ms cs [] [] (counts_of []) h (empty_at h) c (counts-true []) (column_reading xs ms) letters marks xs counts
      (joined-eq (sym (append-nil (column_reading xs ms)))) read_short
      ∙ ap tableau_left (reading_and_back n xs ms (pair_with letters marks xs) counts h p q (le_refl (length xs)))

-- ---- calls one after the other

-- Of a list that values were written into, so many elements as they are.
pub needed : (k : ℕ) (vs old : List ℕ) → length vs ≡ k → take k (written vs old) ≡ vs
needed k vs old e = rw (← e) (written_needed vs old)

-- The cells that the operation has written are the product, and so are the letter counts.
pub product_left : (n : ℕ) (xs ms cs ys ns ds letters marks counts : List ℕ) → TableauAt n xs ms → TableauAt n ys ns → length xs + length ys ≤ 1024
    → TrueCounts xs cs → TrueCounts ys ds → length xs + length ys ≤ length letters → length xs + length ys ≤ length marks
    → (left_letters (length xs + length ys) (product_run n xs ms cs ys ns ds letters marks counts) ≡ product_letters xs ms ys ns)
    × (left_marks (length xs + length ys) (product_run n xs ms cs ys ns ds letters marks counts) ≡ product_marks xs ms ys ns)
    × (left_counts (product_run n xs ms cs ys ns ds letters marks counts) ≡ counts_of (product_word xs ms ys ns))
product_left n xs ms cs ys ns ds letters marks counts h k fit c d p q =
    let (cells, steps) = product_cells xs ms ys ns h.tableau k.tableau in
    rw (product_result n xs ms cs ys ns ds letters marks counts h k fit c d p q)
    (needed _ (product_letters xs ms ys ns) letters cells, needed _ (product_marks xs ms ys ns) marks steps, refl)

-- So of four calls, each inner product taken from where its call has left it, the outer ones have one reply and leave one memory.
pub calls_associate : (n : ℕ) (xs ms cs ys ns ds zs os es a b f a' b' f' letters marks counts : List ℕ)
    → TableauAt n xs ms → TableauAt n ys ns → TableauAt n zs os → TrueCounts xs cs → TrueCounts ys ds → TrueCounts zs es
    → length xs + length ys ≤ 1024 → length xs + length ys ≤ length a → length xs + length ys ≤ length b
    → length ys + length zs ≤ 1024 → length ys + length zs ≤ length a' → length ys + length zs ≤ length b'
    → product_run n (left_letters (length xs + length ys) (product_run n xs ms cs ys ns ds a b f))
    (left_marks (length xs + length ys) (product_run n xs ms cs ys ns ds a b f)) (left_counts (product_run n xs ms cs ys ns ds a b f))
    zs os es letters marks counts
    ≡ product_run n xs ms cs (left_letters (length ys + length zs) (product_run n ys ns ds zs os es a' b' f'))
    (left_marks (length ys + length zs) (product_run n ys ns ds zs os es a' b' f')) (left_counts (product_run n ys ns ds zs os es a' b' f'))
    letters marks counts
calls_associate n xs ms cs ys ns ds zs os es a b f a' b' f' letters marks counts h k l c d e fit p q fit' p' q' =
    let (is_letters, is_marks, is_counts) = product_left n xs ms cs ys ns ds a b f h k fit c d p q in
    let (is_letters', is_marks', is_counts') = product_left n ys ns ds zs os es a' b' f' k l fit' d e p' q' in
    rw (is_letters, is_marks, is_counts, is_letters', is_marks', is_counts')
    (products_associate n xs ms cs ys ns zs os es letters marks counts h k l c e)
