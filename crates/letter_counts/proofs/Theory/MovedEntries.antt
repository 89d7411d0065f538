-- Which of the 64 letter counts a move on a tableau changes (document 02, N6).
--     move_passing      what passes the checks of a move: a tableau with true counts, an index of the rank, and a letter to take
--     move_changed      a move that is made counts the letter taken once less, and the letter given once more
--     move_others       every other count is as it was, also where the move is refused
-- Counts are 64 numbers, as lent memory has. Assumes nothing.
use Prim.Native.Nat.{ℕ, suc, ◌-◌, ◌≤◌, ◌<◌}
use native.Mathlib.Omega.{arith}
use mathlib.Core.Path.{◌≡◌, refl, ap, ◌∙◌}
use mathlib.Core.Logic.{◌≢◌}
use mathlib.Core.List.{List, ◌++◌}
use lib.ListN.{length, get_or, length-set}
use lib.Seq.{get_or-set_other, get_or-set_same}
use Rattle.hypoplactic.specs.Words.{Inside, count}
use Rattle.hypoplactic.specs.Ribbons.{TableauAt}
use Rattle.quasi_crystal.specs.Moves.{Move, Side, below, given, lowering, moved_tableau, raising, taken}
use Rattle.outcomes.specs.Replies.{Passes, Said, after, gives, refused}
use Rattle.outcomes.specs.Counts.{TrueCounts, one_less, one_over}
use Rattle.outcomes.specs.Judgements.{counted_judgements}
use Rattle.outcomes.specs.WordOperations.{move_judgements, or_same}
use Rattle.outcomes.specs.TableauOperations.{move_tableau_run, move_tableau_says}
use Rattle.outcomes.proofs.Theory.Judged.{counted_passing}
use Rattle.outcomes.proofs.Theory.Judgements.{index_judged_lem, letter_judged_lem}
use Rattle.outcomes.proofs.Theory.Passing.{passing_append, passing_first}

-- ---- of two letters

-- One letter a has become b: one less of a, one more of b,
over_changed : (cs : List ℕ) (a b : ℕ) → length cs ≡ 64 → Inside 64 a → Inside 64 b → a ≢ b → 1 ≤ get_or cs (a - 1) 0
    → (get_or cs (a - 1) 0 ≡ suc (get_or (one_over cs a b) (a - 1) 0)) × (get_or (one_over cs a b) (b - 1) 0 ≡ suc (get_or cs (b - 1) 0))
over_changed cs a b e (low, high) (low', high') n some =
    let less : get_or (one_over cs a b) (a - 1) 0 ≡ get_or cs (a - 1) 0 - 1
    = get_or-set_other (one_less cs a) (b - 1) (a - 1) _ 0 (λ q. n (omega arith)) ∙ get_or-set_same cs (a - 1) _ 0 (omega arith) in
    let room : b - 1 < length (one_less cs a) = omega (arith, length-set cs (a - 1) (get_or cs (a - 1) 0 - 1)) in (
      omega arith,
      get_or-set_same (one_less cs a) (b - 1) _ 0 room ∙ ap suc (get_or-set_other cs (a - 1) (b - 1) _ 0 (λ q. n (omega arith))),
    )

-- and no other letter's count is another.
over_others : (cs : List ℕ) (a b j : ℕ) → 1 ≤ a → 1 ≤ b → suc j ≢ a → suc j ≢ b → get_or (one_over cs a b) j 0 ≡ get_or cs j 0
over_others cs a b j low low' n m =
    get_or-set_other (one_less cs a) (b - 1) j _ 0 (λ e. m (omega arith)) ∙ get_or-set_other cs (a - 1) j _ 0 (λ e. n (omega arith))

-- The letters of a move are two letters.
letters_of_lem : (s : Side) (i : ℕ) → 1 ≤ i → i < 64 → Inside 64 (taken s i) × Inside 64 (given s i) × (taken s i ≢ given s i)
letters_of_lem raising i l h = ((omega arith, omega arith), (omega arith, omega arith), λ e. omega arith)
letters_of_lem lowering i l h = ((omega arith, omega arith), (omega arith, omega arith), λ e. omega arith)

-- ---- of a move

module _ (n : ℕ) (m : Move) (xs ms cs : List ℕ) where
  -- The counts that a move makes,
  abbrev changed : List ℕ
  changed = one_over cs (taken m.side m.index) (given m.side m.index)

  -- and what lent memory holds after a reply.
  abbrev left : Said → List ℕ × List ℕ
  left s = after s (or_same (moved_tableau m xs ms) xs, changed) (xs, cs)

  -- What passes 1 to 6, 17, 9 and 11: a tableau with true counts, an index of the rank, and a letter to take.
  pub move_passing : Passes (move_tableau_says n m xs ms cs)
      → TableauAt n xs ms × TrueCounts xs cs × (1 ≤ m.index) × (m.index < n) × (1 ≤ count (taken m.side m.index) xs)
  unfolding move_tableau_says
  move_passing p =
      let checks : List Said = counted_judgements n xs ms cs in
      let more : List Said = move_judgements n m (below m.index xs ms) xs in
      let (counted, (index, (inversion, (letter, t)))) = (passing_append checks more).0 (passing_first (checks ++ more) _ p) in
      let (h, c) = (counted_passing n xs ms cs).0 counted in
      let (low, high) = (index_judged_lem n m.index).0 index in
      (h, c, low, high, (letter_judged_lem _ xs).0 letter)

  -- Where a move is made, the letter taken is counted once less and the letter given once more;
  pub move_changed : length cs ≡ 64 → Passes (move_tableau_run n m xs ms cs).0
      → (get_or cs (taken m.side m.index - 1) 0 ≡ suc (get_or (move_tableau_run n m xs ms cs).1.1 (taken m.side m.index - 1) 0))
      × (get_or (move_tableau_run n m xs ms cs).1.1 (given m.side m.index - 1) 0 ≡ suc (get_or cs (given m.side m.index - 1) 0))
  unfolding move_tableau_run
  move_changed e p =
      let (h, c, low, high, some) = move_passing p in
      let (first, second, apart) = letters_of_lem m.side m.index low (omega (arith, h.word.rank_high)) in
      let is : suc (taken m.side m.index - 1) ≡ taken m.side m.index = omega (arith, first.0) in
      let held : get_or cs (taken m.side m.index - 1) 0 ≡ count (taken m.side m.index) xs
      = c.entry (taken m.side m.index - 1) (omega (arith, first.0, first.1)) ∙ ap (λ (b : ℕ). count b xs) is in
      made (move_tableau_says n m xs ms cs) p (over_changed cs (taken m.side m.index) (given m.side m.index) e first second apart (omega arith))
    where
      made : (s : Said) → Passes s
          → (get_or cs (taken m.side m.index - 1) 0 ≡ suc (get_or changed (taken m.side m.index - 1) 0))
          × (get_or changed (given m.side m.index - 1) 0 ≡ suc (get_or cs (given m.side m.index - 1) 0))
          → (get_or cs (taken m.side m.index - 1) 0 ≡ suc (get_or (left s).1 (taken m.side m.index - 1) 0))
          × (get_or (left s).1 (given m.side m.index - 1) 0 ≡ suc (get_or cs (given m.side m.index - 1) 0))
      made (gives vs) q h = h
      made (refused k i) q h = absurd q

  -- every other count is as it was, also where the move is refused.
  pub move_others : (j : ℕ) → suc j ≢ taken m.side m.index → suc j ≢ given m.side m.index
      → get_or (move_tableau_run n m xs ms cs).1.1 j 0 ≡ get_or cs j 0
  unfolding move_tableau_run
  move_others j d b = go (move_tableau_says n m xs ms cs) move_passing
    where
      go : (s : Said) → (Passes s → TableauAt n xs ms × TrueCounts xs cs × (1 ≤ m.index) × (m.index < n) × (1 ≤ count (taken m.side m.index) xs))
          → get_or (left s).1 j 0 ≡ get_or cs j 0
      go (refused k p) f = refl
      go (gives vs) f =
          let (h, c, low, high, some) = f tt in
          let (first, second, apart) = letters_of_lem m.side m.index low (omega (arith, h.word.rank_high)) in
          over_others cs (taken m.side m.index) (given m.side m.index) j first.0 second.0 d b
