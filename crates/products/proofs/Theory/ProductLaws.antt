-- The laws of the product: it is the product of classes, it is associative, and the empty tableau is its unit.
--     product_of_words             the tableau of u ++ v is the product of the tableaux of u and v, for all words
--     product_joined               u ++ v is joined to the product word of the tableaux of u and v; product_of_joined: and so are words joined to u and v
--     three_joined                 the product words of three factors, whichever two are taken first, are joined
--     associative                  three factors have one product, whichever two are taken first
--     unit_before, unit_after      the product with the empty tableau is the other factor
-- Assumes nothing.
use Prim.Native.Nat.{ℕ}
use mathlib.Core.Path.{◌≡◌}
use mathlib.Core.List.{List, [], ◌++◌, append_assoc, append-nil}
use Rattle.hypoplactic.specs.Ribbons.{Tableau}
use Rattle.hypoplactic.specs.Rewriting.{Joined}
use Rattle.hypoplactic.specs.Insertion.{letters_of, marks_of}
use Rattle.hypoplactic.specs.Reading.{column_reading}
use Rattle.hypoplactic.proofs.Theory.Invariants.{joined_tableau}
use Rattle.hypoplactic.proofs.Theory.Joining.{◌⨾◌, joined_back, joined-eq, joined_front, joined_sym}
use Rattle.hypoplactic.proofs.Theory.NormalForm.{word_reading}
use Rattle.hypoplactic.proofs.Theory.ReadBack.{read_back}
use Rattle.products.specs.Products.{product_letters, product_marks, product_word}

-- ---- words and classes

-- Words joined to u and v, one after the other, are joined to u ++ v.
joined-append : {u u' v v' : List ℕ} → Joined u u' → Joined v v' → Joined (u ++ v) (u' ++ v')
joined-append {u' = u'} {v = v} p q = joined_back v p ⨾ joined_front u' q

-- Two words, one after the other, are joined to the product word of their tableaux.
pub product_joined : (u v : List ℕ) → Joined (u ++ v) (product_word (letters_of u) (marks_of u) (letters_of v) (marks_of v))
unfolding product_word
product_joined u v = joined-append (word_reading u) (word_reading v)

-- So is every word of the first's class followed by any word of the second's.
pub product_of_joined : {u u' v v' : List ℕ} → Joined u' u → Joined v' v
    → Joined (u' ++ v') (product_word (letters_of u) (marks_of u) (letters_of v) (marks_of v))
product_of_joined {u = u} {v = v} p q = joined-append p q ⨾ product_joined u v

-- The tableau of two words, one after the other, is the product of their tableaux.
pub product_of_words : (u v : List ℕ)
    → (letters_of (u ++ v) ≡ product_letters (letters_of u) (marks_of u) (letters_of v) (marks_of v))
    × (marks_of (u ++ v) ≡ product_marks (letters_of u) (marks_of u) (letters_of v) (marks_of v))
product_of_words u v = joined_tableau (product_joined u v)

-- ---- three factors, and the unit

-- The product words of three factors, whichever two are taken first, are joined: both to the three column readings, one after the other.
pub three_joined : (xs ms ys ns zs os : List ℕ)
    → Joined (product_word (product_letters xs ms ys ns) (product_marks xs ms ys ns) zs os)
    (product_word xs ms (product_letters ys ns zs os) (product_marks ys ns zs os))
unfolding product_word
three_joined xs ms ys ns zs os =
    let u : List ℕ = column_reading xs ms in
    let v : List ℕ = column_reading ys ns in
    let w : List ℕ = column_reading zs os in
    joined_back w (joined_sym (word_reading (u ++ v))) ⨾ joined-eq (append_assoc u v w) ⨾ joined_front u (word_reading (v ++ w))

-- Three factors, whatever they hold, have one product, whichever two are taken first.
pub associative : (xs ms ys ns zs os : List ℕ)
    → (product_letters (product_letters xs ms ys ns) (product_marks xs ms ys ns) zs os
    ≡ product_letters xs ms (product_letters ys ns zs os) (product_marks ys ns zs os))
    × (product_marks (product_letters xs ms ys ns) (product_marks xs ms ys ns) zs os
    ≡ product_marks xs ms (product_letters ys ns zs os) (product_marks ys ns zs os))
associative xs ms ys ns zs os = joined_tableau (three_joined xs ms ys ns zs os)

-- The empty tableau before a factor,
pub unit_before : (xs ms : List ℕ) → Tableau xs ms → (product_letters [] [] xs ms ≡ xs) × (product_marks [] [] xs ms ≡ ms)
unfolding product_word column_reading
unit_before xs ms h = read_back xs ms h

-- and after it.
pub unit_after : (xs ms : List ℕ) → Tableau xs ms → (product_letters xs ms [] [] ≡ xs) × (product_marks xs ms [] [] ≡ ms)
unfolding product_word column_reading
unit_after xs ms h = rw (append-nil (column_reading xs ms)) (read_back xs ms h)
