-- Lines without their rank field.
--     rank_left_out       of a line of any kind that has a rank after its kind, exactly that field is left out
--     tableau-ranked      put back, it gives the T line
--     tableau_unranked    so a T line without it depends on letters and marks alone,
--     unranked_tells      and tells tableaux apart, whatever the ranks
--     rank_told           whole T lines tell the ranks apart too: a T line carries its rank
-- Assumes nothing.
use Prim.Native.Nat.{ℕ, zero, suc, ◌+◌, ◌/◌, ◌%◌}
use native.Mathlib.Omega.{arith}
use mathlib.Core.Path.{◌≡◌, refl, sym, ap, ◌∙◌}
use mathlib.Core.Bool.{Bool, true, false, cond}
use mathlib.Core.List.{List, [], ◌∷◌, ◌++◌, append_assoc}
use lib.Dec.{ltb}
use lib.ListN.{length}
use borrow.Author.Tests.{ne_eqb}
use Rattle.grammar.specs.Numbers.{decimal, digits}
use Rattle.grammar.specs.Lines.{cell, cells, field, first_cell, items, line, t_line}
use Rattle.grammar.proofs.Theory.Determined.{t_determined}
use Rattle.hypoplactic.specs.Ribbons.{Tableau}
use Rattle.quasi_crystal.proofs.Theory.Classes.{line-tells, marked}
use Rattle.ranks.specs.Unranked.{past_field, without_rank}

-- A digit is neither a comma nor a line feed,
past-digit : (d : ℕ) (s : List ℕ) → past_field ((48 + d) ∷ s) ≡ past_field s
past-digit d s = rw (ne_eqb (48 + d) 44 (λ e. omega arith), ne_eqb (48 + d) 10 (λ e. omega arith))

-- so a number is passed whole.
past-digits : (k n : ℕ) (s : List ℕ) → past_field (digits k n ++ s) ≡ past_field s
past-digits zero n s = past-digit n s
past-digits (suc k) n s = go (ltb n 10) (past-digits k (n / 10) ((48 + n % 10) ∷ s))
  where
    go : (b : Bool) → past_field (digits k (n / 10) ++ ((48 + n % 10) ∷ s)) ≡ past_field ((48 + n % 10) ∷ s)
        → past_field (cond b ((48 + n) ∷ []) (digits k (n / 10) ++ ((48 + n % 10) ∷ [])) ++ s) ≡ past_field s
    go true more = past-digit n s
    go false more = ap past_field (append_assoc (digits k (n / 10)) ((48 + n % 10) ∷ []) s) ∙ more ∙ past-digit (n % 10) s

-- What may follow a field: nothing, or a comma and more.
abbrev pub Fields : List ℕ → Type 0
Fields [] = Unit {0}
Fields (b ∷ bs) = b ≡ 44

past_fields : (body : List ℕ) → Fields body → past_field (body ++ (10 ∷ [])) ≡ body ++ (10 ∷ [])
past_fields [] h = refl
past_fields (b ∷ bs) h = rw h

-- Of a line that has a rank after its kind, exactly that field is left out.
pub rank_left_out : (kind n : ℕ) (body : List ℕ) → Fields body → without_rank (line kind (field n ++ body)) ≡ line kind body
unfolding without_rank decimal
rank_left_out kind n body h =
    ap (λ (s : List ℕ). kind ∷ s)
    (ap past_field (append_assoc (decimal n) body (10 ∷ [])) ∙ past-digits n n (body ++ (10 ∷ [])) ∙ past_fields body h)

-- The fields of a T line after its rank.
abbrev rest : List ℕ → List ℕ → List ℕ
rest xs ms = field (length xs) ++ items first_cell cell (cells xs ms)

tableau_left_out : (n : ℕ) (xs ms : List ℕ) → without_rank (t_line n xs ms) ≡ line 84 (rest xs ms)
unfolding t_line
tableau_left_out n xs ms = rank_left_out 84 n (rest xs ms) refl

-- The rank field put back,
abbrev pub ranked : ℕ → List ℕ → List ℕ
ranked n [] = []
ranked n (kind ∷ s) = kind ∷ (field n ++ s)

ranked_back : (n : ℕ) (xs ms : List ℕ) → ranked n (line 84 (rest xs ms)) ≡ t_line n xs ms
unfolding t_line
ranked_back n xs ms = ap (λ (s : List ℕ). 84 ∷ s) (sym (append_assoc (field n) (rest xs ms) (10 ∷ [])))

-- which gives the T line again.
pub tableau-ranked : (n : ℕ) (xs ms : List ℕ) → ranked n (without_rank (t_line n xs ms)) ≡ t_line n xs ms
tableau-ranked n xs ms = ap (ranked n) (tableau_left_out n xs ms) ∙ ranked_back n xs ms

-- A T line without its rank field depends on letters and marks alone,
pub tableau_unranked : (n m : ℕ) (xs ms : List ℕ) → without_rank (t_line n xs ms) ≡ without_rank (t_line m xs ms)
tableau_unranked n m xs ms = tableau_left_out n xs ms ∙ sym (tableau_left_out m xs ms)

-- and tells tableaux apart, whatever the ranks.
pub unranked_tells : (n m : ℕ) (xs ms ys ns : List ℕ) → Tableau xs ms → Tableau ys ns → without_rank (t_line n xs ms) ≡ without_rank (t_line m ys ns)
    → (xs ≡ ys) × (ms ≡ ns)
unranked_tells n m xs ms ys ns h k e =
    line-tells n xs ms ys ns h k
    (sym (tableau-ranked n xs ms) ∙ ap (ranked n) (e ∙ tableau_unranked m n ys ns) ∙ tableau-ranked n ys ns)

-- Whole T lines tell the ranks apart too.
pub rank_told : (n m : ℕ) (xs ms ys ns : List ℕ) → Tableau xs ms → Tableau ys ns → t_line n xs ms ≡ t_line m ys ns → n ≡ m
rank_told n m xs ms ys ns h k e = (t_determined n m xs ys ms ns (marked xs ms h) (marked ys ns k) e).0
