-- Letter counts in lent memory after a call (document 02, N6): after each accepted call they are those of the letters in memory.
--     cells_given s              how many cells a reply says are in memory: the last of its values, last_of
--     Held s letters counts     the counts are those of the letters of these cells
--     HeldIn run                the same of a call that leaves letters, marks and counts
--     HeldBeside run            the same of a call that leaves a pair and counts
--     CountsHeld                the claim, over every operation that gives counts or changes them
-- Counts that a call takes are 64 numbers, as lent memory has; those that it only gives may be any. That it is so is the theorem counts-held of
-- proofs/Theory/CountsHeld. Assumes nothing.
use Rattle.std.specs.Prelude.{ℕ, ◌≡◌, List, [], ◌∷◌, length, take}
use Rattle.outcomes.specs.Counts.{counts_of}
use Rattle.hypoplactic.specs.Insertion.{Pair}
use Rattle.outcomes.specs.LineReadings.{read_p_run, read_t_run}
use Rattle.quasi_crystal.specs.Moves.{Move}
use Rattle.outcomes.specs.Replies.{Passes, Said, gives, refused}
use Rattle.outcomes.specs.TableauOperations.{insert_run, move_tableau_run, pair_run}
use Rattle.products.specs.Products.{product_run}
use Rattle.run_lines.specs.Operations.{read_c_run}
use Rattle.windows.specs.Departures.{depart_run}

-- The last of some values.
abbrev pub last_of : List ℕ → ℕ
last_of [] = 0
last_of (k ∷ []) = k
last_of (n ∷ k ∷ ks) = last_of (k ∷ ks)

-- Insertion, a departure, the pair of a word and the product give the number of cells alone, a reader of a line the rank before it.
abbrev pub cells_given : Said → ℕ
cells_given (gives vs) = last_of vs
cells_given (refused k p) = 0

abbrev pub Held : Said → List ℕ → List ℕ → Type 0
Held s letters counts = counts ≡ counts_of (take (cells_given s) letters)

abbrev pub HeldIn : Said × (List ℕ × (List ℕ × List ℕ)) → Type 0
HeldIn run = Held run.0 run.1.0 run.1.1.1

abbrev pub HeldBeside : Said × (Pair × List ℕ) → Type 0
HeldBeside run = Held run.0 run.1.0.letters run.1.1

-- Of any input that is not refused, by the reply and by what is left.
pub record CountsHeld : Type 0 where
  -- The pair of a word.
  pub pair : (n : ℕ) (w : List ℕ) (p : Pair) (counts : List ℕ) → Passes (pair_run n w p counts).0 → HeldBeside (pair_run n w p counts)
  -- One letter inserted.
  pub inserted : (n used a : ℕ) (p : Pair) (cs : List ℕ) → length cs ≡ 64 → Passes (insert_run n used a p cs).0
      → HeldBeside (insert_run n used a p cs)
  -- The oldest letter departed.
  pub departed : (n used : ℕ) (p : Pair) (cs : List ℕ) → length cs ≡ 64 → Passes (depart_run n used p cs).0
      → HeldBeside (depart_run n used p cs)
  -- A move, which leaves all letters that it was lent.
  pub moved : (n : ℕ) (m : Move) (xs ms cs : List ℕ) → length cs ≡ 64 → Passes (move_tableau_run n m xs ms cs).0
      → (move_tableau_run n m xs ms cs).1.1 ≡ counts_of (move_tableau_run n m xs ms cs).1.0
  -- The product of two tableaux.
  pub multiplied : (n : ℕ) (xs ms cs ys ns ds letters marks counts : List ℕ)
      → Passes (product_run n xs ms cs ys ns ds letters marks counts).0 → HeldIn (product_run n xs ms cs ys ns ds letters marks counts)
  -- A T line read.
  pub read : (text letters marks counts : List ℕ) → Passes (read_t_run text letters marks counts).0
      → HeldIn (read_t_run text letters marks counts)
  -- A P line read.
  pub reads_pair : (text : List ℕ) (p : Pair) (counts : List ℕ) → Passes (read_p_run text p counts).0 → HeldBeside (read_p_run text p counts)
  -- A C line read.
  pub reads_runs : (text letters marks counts : List ℕ) → Passes (read_c_run text letters marks counts).0
      → HeldIn (read_c_run text letters marks counts)
