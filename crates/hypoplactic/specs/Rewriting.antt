-- Rewriting (paper, section 1, H1; document 01, "Rewriting" and "Joined words"). No tableau has a part in this file.
--     Rule u v      the four pairs of factors with their side conditions
--     Step u v      one step: front and back stay, the factor between them is exchanged for the other side of its pair
--     Joined u v    a finite chain of steps leads from u to v; the chain of no steps joins a word to itself
-- Assumes nothing.
use Rattle.std.specs.Prelude.{ℕ, ◌≤◌, ◌<◌, List, [], ◌∷◌, ◌++◌}

-- The pairs of factors, each named for its two sides.
pub data Rule : List ℕ → List ℕ → Type 0 where
  acb_cab : {a b c : ℕ} → a ≤ b → b < c → Rule (a ∷ c ∷ b ∷ []) (c ∷ a ∷ b ∷ [])
  bac_bca : {a b c : ℕ} → a < b → b ≤ c → Rule (b ∷ a ∷ c ∷ []) (b ∷ c ∷ a ∷ [])
  cadb_acbd : {a b c d : ℕ} → a ≤ b → b < c → c ≤ d → Rule (c ∷ a ∷ d ∷ b ∷ []) (a ∷ c ∷ b ∷ d ∷ [])
  bdac_dbca : {a b c d : ℕ} → a < b → b ≤ c → c < d → Rule (b ∷ d ∷ a ∷ c ∷ []) (d ∷ b ∷ c ∷ a ∷ [])

-- One step, from either side of a pair to its other side, between any front and any back.
pub data Step : List ℕ → List ℕ → Type 0 where
  forth : (front back : List ℕ) {u v : List ℕ} → Rule u v → Step (front ++ (u ++ back)) (front ++ (v ++ back))
  back : (front back : List ℕ) {u v : List ℕ} → Rule u v → Step (front ++ (v ++ back)) (front ++ (u ++ back))

-- Document 01's joined words: a chain of any number of steps, none included.
pub data Joined : List ℕ → List ℕ → Type 0 where
  same : {u : List ℕ} → Joined u u
  via : {u v w : List ℕ} → Step u v → Joined v w → Joined u w
