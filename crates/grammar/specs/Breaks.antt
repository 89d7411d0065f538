-- Where a kind of line breaks in a text (document 01, refusal 14): at the end of the longest beginning that goes on to some line of the kind.
--     IsW, IsT, IsC, IsP, IsN     the texts that are W lines, T lines, C lines, P lines, N lines
--     Breaks Line text p     the first p bytes begin some line of the kind; the first p + 1 do not, or the text ends at p and is no line
-- No reader has a part in this. Assumes nothing.
use Rattle.std.specs.Prelude.{ℕ, suc, ◌≤◌, ◌<◌, ◌≡◌, List, ◌++◌, length, take}
use Rattle.grammar.specs.Lines.{Run, w_line, t_line, c_line, p_line, n_line}
use Rattle.grammar.specs.Values.{Small, WGood, TGood, CGood, PGood}

-- The texts that are W lines.
abbrev pub IsW : List ℕ → Type 0
IsW text = (v : ℕ × List ℕ) × WGood v × (text ≡ w_line v.0 v.1)

-- The texts that are T lines.
abbrev pub IsT : List ℕ → Type 0
IsT text = (v : ℕ × List ℕ × List ℕ) × TGood v × (text ≡ t_line v.0 v.1 v.2)

-- The texts that are C lines.
abbrev pub IsC : List ℕ → Type 0
IsC text = (v : ℕ × ℕ × List Run) × CGood v × (text ≡ c_line v.0 v.1 v.2)

-- The texts that are P lines.
abbrev pub IsP : List ℕ → Type 0
IsP text = (v : ℕ × List ℕ × List ℕ × List ℕ) × PGood v × (text ≡ p_line v.0 v.1 v.2 v.3)

-- The texts that are N lines.
abbrev pub IsN : List ℕ → Type 0
IsN text = (xs : List ℕ) × Small xs × (text ≡ n_line xs)

-- The kind breaks at p: the first p bytes go on to some line; with the next byte, if there is one, no line begins so; and the text is no line.
pub record Breaks (Line : List ℕ → Type 0) (text : List ℕ) (p : ℕ) : Type 0 where
  pub within : p ≤ length text
  pub tail : List ℕ
  pub begins : Line (take p text ++ tail)
  pub stops : (z : List ℕ) → p < length text → Line (take (suc p) text ++ z) → ⊥
  pub none : Line text → ⊥
