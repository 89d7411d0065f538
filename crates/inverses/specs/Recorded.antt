-- The word of letters with recording entries, each element as the letter that an entry tells, in lent memory too.
--     Recorded xs rs room     as many entries as letters, each of 1 to their number once, and room for the word
--     recorded_within         the entries are then within their number
--     letter_or d e xs rs      the letter of the first cell with entry e, or d where there is none
--     letter_absent           an entry that does not stand there has no letter
--     length_back             the word has a letter for each cell
--     written_at              each element of the lent word that is to be: the letter whose entry tells its place, or else what stood there
-- Assumes nothing.
use Rattle.std.specs.Prelude.{ℕ, zero, suc, ◌≤◌, ◌<◌, ◌≡◌, refl, List, [], ◌∷◌, Bool, true, false, cond, eqb, length, get_or}
use Rattle.std.proofs.Math.Decide.{dec_lt}
use Rattle.std.proofs.Common.{arith, sym, ap, ◌∙◌}
use Rattle.std.proofs.Math.Logic.{dite}
use Rattle.std.proofs.Math.ListN.{get_or-append}
use Rattle.hypoplactic.specs.Words.{Within, count, tick}
use Rattle.hypoplactic.specs.Insertion.{letter_with, word_from, word_of}
use Rattle.outcomes.specs.Replies.{written}
use Rattle.hypoplactic.proofs.Theory.Limits.{count-outside}
use Rattle.outcomes.proofs.Theory.Memory.{written_old}
use Rattle.hypoplactic.proofs.Theory.Once.{once_entries}
use Rattle.hypoplactic.proofs.Theory.Placing.{Once, word_at}

-- As many entries as letters, each of 1 to their number once, and room for the word.
pub record Recorded (xs rs : List ℕ) (room : ℕ) : Type 0 where
  pub alike : length rs ≡ length xs
  pub once : Once (length rs) rs
  pub roomy : length xs ≤ room

-- The entries of a recording ribbon are within their number.
pub recorded_within : {xs : List ℕ} {room : ℕ} (rs : List ℕ) → Recorded xs rs room → Within (length rs) rs
recorded_within rs h = ((once_entries rs).0 h.once).0

-- ---- the letter of an entry

-- The letter of the first cell whose entry is e, or d where there is none.
abbrev pub letter_or : ℕ → ℕ → List ℕ → List ℕ → ℕ
letter_or d e [] rs = d
letter_or d e (x ∷ xs) [] = d
letter_or d e (x ∷ xs) (r ∷ rs) = cond (eqb r e) x (letter_or d e xs rs)

-- An entry that does not stand there has no letter,
pub letter_absent : (d e : ℕ) (xs rs : List ℕ) → count e rs ≡ 0 → letter_or d e xs rs ≡ d
letter_absent d e [] rs h = refl
letter_absent d e (x ∷ xs) [] h = refl
letter_absent d e (x ∷ xs) (r ∷ rs) h = go (eqb r e) h (letter_absent d e xs rs)
  where
    go : (b : Bool) → tick b (count e rs) ≡ 0 → (count e rs ≡ 0 → letter_or d e xs rs ≡ d) → cond b x (letter_or d e xs rs) ≡ d
    go true q rest = let z : ⊥ = omega arith in absurd z
    go false q rest = rest q

-- one that does has the letter of the written meaning.
letter_present : (d e : ℕ) (xs rs : List ℕ) → length rs ≡ length xs → 1 ≤ count e rs → letter_or d e xs rs ≡ letter_with e xs rs
letter_present d e [] [] l h = let z : ⊥ = omega arith in absurd z
letter_present d e [] (r ∷ rs) l h = let z : ⊥ = omega arith in absurd z
letter_present d e (x ∷ xs) [] l h = let z : ⊥ = omega arith in absurd z
letter_present d e (x ∷ xs) (r ∷ rs) l h = go (eqb r e) h (letter_present d e xs rs (omega arith))
  where
    go : (b : Bool) → 1 ≤ tick b (count e rs) → (1 ≤ count e rs → letter_or d e xs rs ≡ letter_with e xs rs)
        → cond b x (letter_or d e xs rs) ≡ cond b x (letter_with e xs rs)
    go true q rest = refl
    go false q rest = rest q

-- ---- the word

-- The letters of k cells, from entry e on, are k,
length_word : (k e : ℕ) (xs rs : List ℕ) → length (word_from k e xs rs) ≡ k
length_word zero e xs rs = refl
length_word (suc k) e xs rs = ap suc (length_word k (suc e) xs rs)

-- so that the word of the cells has a letter for each.
pub length_back : (xs rs : List ℕ) → length (word_of xs rs) ≡ length xs
unfolding word_of
length_back xs rs = length_word (length xs) 1 xs rs

-- The lent word that is to be: each element is the letter whose entry tells its place, or else what stood there.
module _ (xs rs old : List ℕ) (h : Recorded xs rs (length old)) where
  -- Its letters are those that the entries tell,
  letter_back : (p : ℕ) → p < length xs → get_or (word_of xs rs) p 0 ≡ letter_or (get_or old p 0) (suc p) xs rs
  letter_back p l =
      let stands : count (suc p) rs ≡ 1 = h.once (suc p) (omega arith) (omega (arith, h.alike)) in
      word_at xs rs p l ∙ sym (letter_present (get_or old p 0) (suc p) xs rs h.alike (omega arith))

  -- and beyond them stands what stood there.
  pub written_at : (p : ℕ) → get_or (written (word_of xs rs) old) p 0 ≡ letter_or (get_or old p 0) (suc p) xs rs
  written_at p = dite (dec_lt p (length xs))
      (λ (l : p < length xs). get_or-append (word_of xs rs) _ 0 p (omega (arith, length_back xs rs)) ∙ letter_back p l)
      (λ (l : ¬ (p < length xs)).
      let absent : count (suc p) rs ≡ 0 = count-outside (suc p) rs (recorded_within rs h) (λ i. omega (arith, i, h.alike)) in
      written_old (word_of xs rs) old p (omega (arith, length_back xs rs)) ∙ sym (letter_absent (get_or old p 0) (suc p) xs rs absent))
