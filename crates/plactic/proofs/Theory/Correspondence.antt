-- The correspondence (Robinson, Schensted): a word and the pair of its Young tableau and its standard tableau tell each other.
--     leaving-none, returning-none     a row gives up nothing where no entry is the time, or no letter is smaller
--     taken_back            one row: what a time did to it is undone
--     withdrawn-insert      all rows: an insertion is undone
--     young_back            the word of a word's pair is that word
--     young_injective       no two words have one pair
--     back_young            a Young tableau beside its standard tableau is the pair of its word
-- Assumes nothing.
use Prim.Native.Nat.{ℕ, suc, ◌≤◌}
use native.Mathlib.Omega.{arith}
use mathlib.Core.Path.{◌≡◌, refl, ap, sym, ◌∙◌}
use mathlib.Core.List.{List, [], ◌∷◌, ◌++◌}
use mathlib.Core.Option.{Option, none, some}
use lib.ListN.{length, length-append}
use borrow.Author.Tests.{eq-eqb, le-ltb, lt-ltb, ne_eqb}
use Rattle.hypoplactic.proofs.Theory.Pairs.{snoc_ind}
use Rattle.hypoplactic.proofs.Theory.Placing.{Once}
use Rattle.plactic.specs.Young.{Rises, Row, Rows, Young, cell, young_entries}
use Rattle.plactic.specs.Schensted.{insert, replaced, young_of}
use Rattle.plactic.specs.WayBack.{leaving, returning, undone, up_to, withdrawn, word_of_young}
use Rattle.plactic.specs.ByRows.{Takes, ends, passes, replaces}
use Rattle.plactic.proofs.Theory.Taking.{takes_row}
use Rattle.plactic.proofs.Theory.Inserting.{AllBefore, Before}
use Rattle.plactic.proofs.Theory.Contents.{young_before, young_length, young_of_lem, young_snoc}
use Rattle.plactic.proofs.Theory.FlatForm.{above-filled}
use Rattle.plactic.proofs.Theory.Onto.{OfWord, young_onto}

-- ---- one row

-- A row whose entries are all earlier gives up no letter,
pub leaving-none : (t : ℕ) (r : Row) → Before t r → ◌≡◌ {A = Option ℕ × Row} (leaving t r) (none, r)
leaving-none t [] b = refl
leaving-none t (cell x s ∷ cs) b = rw (ne_eqb s t (omega (arith, b.0)), leaving-none t cs b.1)

-- and so does one whose letters are all as large as the one that comes up.
pub returning-none : (z x s : ℕ) (r : Row) → z ≤ x → Rises x s r → ◌≡◌ {A = Option ℕ × Row} (returning z r) (none, r)
returning-none z x s [] l h = refl
returning-none z x s (cell y u ∷ cs) l h =
    rw (returning-none z y u cs (omega (arith, h.0)) h.2, le-ltb y z (omega (arith, h.0)))

-- What a row did with a letter is undone by what it handed down.
pub taken_back : {t a : ℕ} {r r' : Row} {z : Option ℕ} (x s : ℕ) → Takes t a r z r' → Rises x s r → Before t r
    → ◌≡◌ {A = Option ℕ × Row} (up_to t r' z) (some a, r)
taken_back {t = t} x s ends h b = rw (eq-eqb t t refl)
taken_back {a = a} x s (replaces {x = y} {s = u} {cs = cs} l) h b =
    rw (returning-none y y u cs (omega arith) h.2, lt-ltb a y l)
taken_back {t = t} {z = none} x s (passes {x = y} {s = u} l tk) h b =
    rw (ne_eqb u t (omega (arith, b.0)), taken_back y u tk h.2 b.1)
taken_back {z = some z} x s (passes {x = y} {s = u} l tk) h b = rw (taken_back y u tk h.2 b.1)

-- ---- all rows

-- Where all entries are earlier, nothing is withdrawn.
withdrawn-none : (t : ℕ) (rows : Rows) → Young rows → AllBefore t rows → ◌≡◌ {A = Option ℕ × Rows} (withdrawn t rows) (none, rows)
withdrawn-none t [] h b = refl
withdrawn-none t (r ∷ rs) h b = rw (withdrawn-none t rs h.3 b.1, leaving-none t r b.0, above-filled r rs h.0)

-- An insertion is undone, the rows below first.
pub withdrawn-insert : (t : ℕ) (rows : Rows) (o : Option ℕ) → Young rows → AllBefore t rows
    → ◌≡◌ {A = Option ℕ × Rows} (withdrawn t (insert t rows o)) (o, rows)
withdrawn-insert t [] none h b = refl
withdrawn-insert t [] (some a) h b = rw (eq-eqb t t refl)
withdrawn-insert t (r ∷ rs) none h b = withdrawn-none t (r ∷ rs) h b
withdrawn-insert t (r ∷ rs) (some a) h b =
    rw (withdrawn-insert t rs (replaced a r) h.3 b.1, taken_back 0 0 (takes_row t a r) h.1 b.0, above-filled r rs h.0)

-- ---- words

-- The insertions of a word undone are its letters.
undone-young : (w : List ℕ) → undone (length w) (young_of w) ≡ w
undone-young = snoc_ind (λ w. undone (length w) (young_of w) ≡ w) refl step
  where
    step : (w : List ℕ) (a : ℕ) → undone (length w) (young_of w) ≡ w → undone (length (w ++ (a ∷ []))) (young_of (w ++ (a ∷ []))) ≡ w ++ (a ∷ [])
    step w a ih =
        let many : length (w ++ (a ∷ [])) ≡ suc (length w) = omega (arith, length-append w (a ∷ [])) in
        let back : ◌≡◌ {A = Option ℕ × Rows} (withdrawn (suc (length w)) (insert (suc (length w)) (young_of w) (some a))) (some a, young_of w) =
        withdrawn-insert (suc (length w)) (young_of w) (some a) (young_of_lem w) (young_before w) in
        rw (many, young_snoc w a, back, ih)

-- The word of the pair of a word is the word.
pub young_back : (w : List ℕ) → word_of_young (young_of w) ≡ w
unfolding word_of_young
young_back w = rw (young_length w) (undone-young w)

pub young_injective : (u v : List ℕ) → young_of u ≡ young_of v → u ≡ v
young_injective u v e = sym (young_back u) ∙ ap word_of_young e ∙ young_back v

-- Entries that are the numbers from 1 to that of the cells, each once.
pub back_young : (rows : Rows) → Young rows → Once (length (young_entries rows)) (young_entries rows) → young_of (word_of_young rows) ≡ rows
back_young rows y o =
    let k : OfWord rows = young_onto rows y o in
    rw k.young at (ap young_of (young_back k.word))
