-- The tableaux of a word: P(w) has the letters of w, Q(w) the entries from 1 to the length of w, each once.
--     Additive m            a measure of lists that adds up; length_additive, count_additive: a length, a count
--     brought o, begun t o  the letter brought, if there is one, and the entry t where there is none, as lists
--     letters_inserted, entries_inserted     by an insertion the letters get the letter, the entries the time
--     young_snoc            one letter more at a word's end is inserted last
--     young_of_lem              the pair of a word is a Young tableau beside a rising filling
--     young_before          whose entries go up to the word's length
--     young_length          which has as many letters as the word
--     young_entries_lem         and as many entries
--     young_counts          each as often as it stands in the word
--     young_within          all within a rank that the word is within
--     young_once            and the entries from 1 to the word's length, each once
-- Assumes nothing.
use Prim.Native.Nat.{ℕ, suc, ◌+◌, ◌≤◌, ◌<◌}
use native.Mathlib.Omega.{arith}
use mathlib.Core.Path.{◌≡◌, refl, ap, ◌∙◌}
use mathlib.Core.List.{List, [], ◌∷◌, ◌++◌}
use mathlib.Core.Bool.{Bool, true, false}
use mathlib.Core.Option.{Option, none, some}
use lib.Dec.{eqb}
use lib.ListN.{length}
use borrow.Author.Tests.{eqb-true, eqb-false, ne_eqb}
use Rattle.hypoplactic.specs.Words.{Within, count, tick}
use Rattle.hypoplactic.proofs.Theory.Contents.{within-counts}
use Rattle.hypoplactic.proofs.Theory.Occurrences.{count_append}
use Rattle.hypoplactic.proofs.Theory.Placing.{Once}
use Rattle.plactic.specs.Young.{Row, Rows, Young, row_entries, row_letters, young_entries, young_letters}
use Rattle.plactic.specs.Schensted.{insert, insert_all, replaced, row_with, young_of}
use Rattle.plactic.specs.ByRows.{Takes, ends, passes, replaces}
use Rattle.plactic.proofs.Theory.Taking.{takes_row}
use Rattle.plactic.proofs.Theory.FlatForm.{letters_entries}
use Rattle.plactic.proofs.Theory.Inserting.{AllBefore, all_before_more, insert-young}

-- ---- measures that add up

-- Nothing of an empty list, and of every other what its first element adds to the rest.
pub record Additive (m : List ℕ → ℕ) : Type 0 where
  pub nil : m [] ≡ 0
  pub cons : (x : ℕ) (w : List ℕ) → m (x ∷ w) ≡ m (x ∷ []) + m w

-- So are the length,
pub length_additive : Additive length
length_additive = record { nil = refl; cons = λ x w. omega arith }

-- and how often a number stands there.
pub count_additive : (c : ℕ) → Additive (count c)
count_additive c = record { nil = refl; cons = λ x w. count_append c (x ∷ []) w }

-- ---- one insertion

-- The letter brought, as a list.
abbrev pub brought : Option ℕ → List ℕ
brought none = []
brought (some a) = a ∷ []

-- The entry of the new cell, which there is where no letter is handed on.
abbrev pub begun : ℕ → Option ℕ → List ℕ
begun t none = t ∷ []
begun t (some a) = []

module _ (m : List ℕ → ℕ) (adds : Additive m) where
  -- Two lists one after the other.
  append_adds : (u v : List ℕ) → m (u ++ v) ≡ m u + m v
  append_adds [] v = omega (arith, adds.nil)
  append_adds (x ∷ u) v = omega (arith, adds.cons x (u ++ v), adds.cons x u, append_adds u v)

  -- One row: the letter it takes comes to its letters, and the one it hands down leaves them.
  letters_taken : {t a : ℕ} {r r' : Row} {z : Option ℕ} → Takes t a r z r' → m (row_letters r') + m (brought z) ≡ m (a ∷ []) + m (row_letters r)
  letters_taken ends = refl
  letters_taken {a = a} (replaces {x = x} {cs = cs} l) = omega (arith, adds.cons a (row_letters cs), adds.cons x (row_letters cs))
  letters_taken (passes {x = x} {cs = cs} {ds = ds} l tk) = omega (arith, adds.cons x (row_letters cs), adds.cons x (row_letters ds), letters_taken tk)

  -- Its entries stay, but for a new cell.
  entries_taken : {t a : ℕ} {r r' : Row} {z : Option ℕ} → Takes t a r z r' → m (row_entries r') ≡ m (begun t z) + m (row_entries r)
  entries_taken ends = omega (arith, adds.nil)
  entries_taken (replaces l) = omega (arith, adds.nil)
  entries_taken (passes {s = s} {cs = cs} {ds = ds} l tk) = omega (arith, adds.cons s (row_entries cs), adds.cons s (row_entries ds), entries_taken tk)

  -- The letters get the letter brought,
  pub letters_inserted : (t : ℕ) (rows : Rows) (o : Option ℕ) → m (young_letters (insert t rows o)) ≡ m (brought o) + m (young_letters rows)
  letters_inserted t [] none = omega (arith, adds.nil)
  letters_inserted t [] (some a) = omega (arith, adds.nil)
  letters_inserted t (r ∷ rs) none = omega (arith, adds.nil)
  letters_inserted t (r ∷ rs) (some a) = omega (
    arith,
    append_adds (row_letters (row_with t a r)) (young_letters (insert t rs (replaced a r))),
    append_adds (row_letters r) (young_letters rs),
    letters_taken (takes_row t a r),
    letters_inserted t rs (replaced a r),
  )

  -- and the entries its time.
  pub entries_inserted : (t : ℕ) (rows : Rows) (o : Option ℕ) → m (young_entries (insert t rows o)) + m (begun t o) ≡ m (t ∷ []) + m (young_entries rows)
  entries_inserted t [] none = omega arith
  entries_inserted t [] (some a) = omega arith
  entries_inserted t (r ∷ rs) none = omega arith
  entries_inserted t (r ∷ rs) (some a) = omega (
    arith,
    adds.nil,
    append_adds (row_entries (row_with t a r)) (young_entries (insert t rs (replaced a r))),
    append_adds (row_entries r) (young_entries rs),
    entries_taken (takes_row t a r),
    entries_inserted t rs (replaced a r),
  )

-- ---- all insertions

-- The second of two words is inserted after the first.
insert_all_append : (t : ℕ) (rows : Rows) (u v : List ℕ) → insert_all t rows (u ++ v) ≡ insert_all (length u + t) (insert_all t rows u) v
insert_all_append t rows [] v = ap (λ (n : ℕ). insert_all n rows v) (omega arith)
insert_all_append t rows (a ∷ u) v =
    insert_all_append (suc t) (insert t rows (some a)) u v
    ∙ ap (λ (n : ℕ). insert_all n (insert_all (suc t) (insert t rows (some a)) u) v) (omega arith)

-- The times from t on, one for each letter.
abbrev times : ℕ → List ℕ → List ℕ
times t [] = []
times t (a ∷ w) = t ∷ times (suc t) w

-- The letters of a word come to those of the rows,
all_letters : (m : List ℕ → ℕ) → Additive m → (t : ℕ) (rows : Rows) (w : List ℕ) → m (young_letters (insert_all t rows w)) ≡ m w + m (young_letters rows)
all_letters m adds t rows [] = omega (arith, adds.nil)
all_letters m adds t rows (a ∷ w) =
    omega (arith, adds.cons a w, all_letters m adds (suc t) (insert t rows (some a)) w, letters_inserted m adds t rows (some a))

-- and its times to their entries.
all_entries : (m : List ℕ → ℕ) → Additive m → (t : ℕ) (rows : Rows) (w : List ℕ)
    → m (young_entries (insert_all t rows w)) ≡ m (times t w) + m (young_entries rows)
all_entries m adds t rows [] = omega (arith, adds.nil)
all_entries m adds t rows (a ∷ w) = omega (
  arith,
  adds.nil,
  adds.cons t (times (suc t) w),
  all_entries m adds (suc t) (insert t rows (some a)) w,
  entries_inserted m adds t rows (some a),
)

-- The rows stay a Young tableau.
all_young : (t : ℕ) (rows : Rows) (w : List ℕ) → 0 < t → AllBefore t rows → Young rows
    → Young (insert_all t rows w) × AllBefore (length w + t) (insert_all t rows w)
all_young t rows [] l b h = (h, all_before_more t (0 + t) rows (omega arith) b)
all_young t rows (a ∷ w) l b h =
    let (kept, early) = insert-young t rows (some a) l b h in
    let (young, before) = all_young (suc t) (insert t rows (some a)) w (omega arith) early kept in
    (young, all_before_more (length w + suc t) (length (a ∷ w) + t) (insert_all t rows (a ∷ w)) (omega arith) before)

-- ---- each time once

-- An earlier time is not among them,
times_before : (e t : ℕ) (w : List ℕ) → e < t → count e (times t w) ≡ 0
times_before e t [] l = refl
times_before e t (a ∷ w) l = rw (ne_eqb t e (omega arith)) (times_before e (suc t) w (omega arith))

-- and each of them stands once.
times_once : (e t : ℕ) (w : List ℕ) → t ≤ e → e < length w + t → count e (times t w) ≡ 1
times_once e t [] l h = let z : ⊥ = omega arith in absurd z
times_once e t (a ∷ w) l h = go (eqb t e) refl (times_once e (suc t) w)
  where
    go : (b : Bool) → eqb t e ≡ b → (suc t ≤ e → e < length w + suc t → count e (times (suc t) w) ≡ 1) → tick b (count e (times (suc t) w)) ≡ 1
    go true q rest = ap suc (times_before e (suc t) w (omega (arith, eqb-true t e q)))
    go false q rest = rest (omega (arith, eqb-false t e q)) (omega arith)

-- ---- the pair of a word

-- The last letter is inserted last.
pub young_snoc : (w : List ℕ) (a : ℕ) → young_of (w ++ (a ∷ [])) ≡ insert (suc (length w)) (young_of w) (some a)
unfolding young_of
young_snoc w a = insert_all_append 1 [] w (a ∷ []) ∙ ap (λ (n : ℕ). insert n (insert_all 1 [] w) (some a)) (omega arith)

-- The pair is a Young tableau beside a filling that rises,
pub young_of_lem : (w : List ℕ) → Young (young_of w)
unfolding young_of
young_of_lem w = (all_young 1 [] w (omega arith) tt tt).0

-- with entries up to the length of the word,
pub young_before : (w : List ℕ) → AllBefore (suc (length w)) (young_of w)
unfolding young_of
young_before w = all_before_more (length w + 1) (suc (length w)) (insert_all 1 [] w) (omega arith) (all_young 1 [] w (omega arith) tt tt).1

-- as many letters,
pub young_length : (w : List ℕ) → length (young_letters (young_of w)) ≡ length w
unfolding young_of
young_length w = omega (arith, all_letters length length_additive 1 [] w)

-- as many entries,
pub young_entries_lem : (w : List ℕ) → length (young_entries (young_of w)) ≡ length w
young_entries_lem w = letters_entries (young_of w) ∙ young_length w

-- each letter as often as the word has it,
pub young_counts : (w : List ℕ) (a : ℕ) → count a (young_letters (young_of w)) ≡ count a w
unfolding young_of
young_counts w a = omega (arith, all_letters (count a) (count_additive a) 1 [] w)

-- so within the same rank,
pub young_within : (n : ℕ) (w : List ℕ) → Within n w → Within n (young_letters (young_of w))
young_within n w h = (within-counts n (young_letters (young_of w))).1 (λ a c. (within-counts n w).0 h a (omega (arith, young_counts w a)))

-- and each entry once.
pub young_once : (w : List ℕ) → Once (length w) (young_entries (young_of w))
unfolding young_of
young_once w e low high = omega (arith, all_entries (count e) (count_additive e) 1 [] w, times_once e 1 w low (omega arith))
