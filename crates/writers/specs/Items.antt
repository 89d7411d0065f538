-- The items of a line, counted and written one after the other by one loop, whatever an item is. Numbers as items; cells are in Cells, the entries after
-- them in Parts.
--     joined f n                      the bytes f 0, f 1, .., f (n - 1) one after the other
--     joined-first                    the first item, and then the others
--     listed n vs                     a count, and the bytes of so many items; length-listed, count_room: its size, and room for the count
--     field_at xs i                    the bytes of the number at place i
--     Totalling base xs size i        the loop that counts the bytes of numbers, beside base others
--     Writing f n old start now i at  the loop that writes items: the first i are written, and the next begins at place at
--     write_start, item_room, write_turn, write_end, listed_begun, listed_written, list_kept     its laws, from the first item on and from a count on
--     totalling, writing              the rulesets of the functions on numbers
-- Assumes nothing.
use Prim.Native.Nat.{ℕ, zero, suc, ◌+◌, ◌*◌, ◌-◌, ◌≤◌, ◌<◌}
use Rattle.std.specs.Prelude.{◌≡◌, refl, List, [], ◌∷◌, ◌++◌, get_or}
use Rattle.std.proofs.Common.{sym, ◌∙◌, append_assoc, append-nil, add-one, Fits, rules}
use Rattle.std.proofs.Math.Path.{ap}
use native.Mathlib.Omega.{arith}
use Rattle.std.proofs.Math.ListN.{length, length-append}
use Rattle.std.specs.Int.{w64}
use Rattle.grammar.specs.Lines.{field, items}
use Rattle.line_sizes.specs.Sizes.{Counted}
use Rattle.writers.specs.Laying.{Laid, laid_none, laid_then}

-- ---- items one after the other

-- The first n of them.
unfoldable pub joined : (ℕ → List ℕ) → ℕ → List ℕ
joined f zero = []
joined f (suc i) = joined f i ++ f i

-- The bytes of the number at a place.
abbrev pub field_at : List ℕ → ℕ → List ℕ
field_at xs i = field (get_or xs i 0)

-- The first item, and then the others.
pub joined-first : (f : ℕ → List ℕ) (n : ℕ) → joined f (suc n) ≡ f 0 ++ joined (λ i. f (suc i)) n
unfolding joined
joined-first f zero = sym (append-nil (f 0))
joined-first f (suc n) = rw (joined-first f n) (append_assoc (f 0) (joined (λ i. f (suc i)) n) (f (suc n)))

-- All of them are the items of a line.
joined_fields : (xs : List ℕ) → joined (field_at xs) (length xs) ≡ items field field xs
unfolding joined
joined_fields [] = refl
joined_fields (x ∷ xs) = joined-first (field_at (x ∷ xs)) (length xs) ∙ rw (joined_fields xs)

-- Fewer items take no more bytes.
joined_more : (f : ℕ → List ℕ) (i k : ℕ) → length (joined f i) ≤ length (joined f (k + i))
unfolding joined
joined_more f i zero = let e : 0 + i ≡ i = omega arith in rw e (omega arith)
joined_more f i (suc k) =
    let e : suc k + i ≡ suc (k + i) = omega arith in
    rw e (omega (arith, joined_more f i k, length-append (joined f (k + i)) (f (k + i))))

-- ---- a count before them

-- How many items there are, and their bytes.
unfoldable pub listed : ℕ → List ℕ → List ℕ
listed n vs = field n ++ vs

-- Its bytes.
pub length-listed : (n : ℕ) (vs : List ℕ) → length (listed n vs) ≡ length (field n) + length vs
unfolding listed
length-listed n vs = length-append (field n) vs

-- There is room for the count.
pub count_room : (n : ℕ) (vs old : List ℕ) (start : ℕ) → start + length (listed n vs) ≤ length old → start + length (field n) ≤ length old
count_room n vs old start h = omega (arith, length-listed n vs)

-- ---- the loop that counts

-- The bytes of the first i numbers are counted, beside base others.
pub record Totalling (base : ℕ) (xs : List ℕ) (size i : ℕ) : Type 0 where
  pub small : base ≤ 23573
  pub short : length xs ≤ 1024
  pub reached : i ≤ length xs
  pub is : size ≡ base + length (joined (field_at xs) i)
  pub few : size ≤ base + 21 * i

-- Before the first number.
pub total_start : (base : ℕ) (xs : List ℕ) → base ≤ 23573 → length xs ≤ 1024 → Totalling base xs base 0
unfolding joined
total_start base xs l h = record { small = l; short = h; reached = omega arith; is = omega arith; few = omega arith }

-- One number more.
module _ {base : ℕ} {xs : List ℕ} {size i x more : ℕ} (h : Totalling base xs size i) (l : i < length xs) (e : x ≡ get_or xs i 0) (n : Counted 21 (field x) more) where
  pub total_fits : Fits w64 (size + more)
  total_fits = record { fits = omega (arith, h.few, h.short, h.small, n.few) }

  pub total_turn : Totalling base xs (size + more) (i + 1)
  unfolding joined
  total_turn = rw (add-one i) record {
    small = h.small;
    short = h.short;
    reached = l;
    is = omega (arith, length-append (joined (field_at xs) i) (field_at xs i), ap (λ (y : ℕ). length (field y)) e, n.is, h.is);
    few = omega (arith, h.few, n.few);
  }

-- Past the last number.
pub total_end : {base : ℕ} {xs : List ℕ} {size i : ℕ} → Totalling base xs size i → length xs ≤ i → size ≡ base + length (items field field xs)
total_end {base} {xs} {size} {i} h l = let all : i ≡ length xs = omega arith in h.is ∙ rw (all, joined_fields xs)

-- After how many there are.
pub list_start : {base : ℕ} (xs : List ℕ) → length xs ≤ 1024 → Counted 21 (field (length xs)) base → Totalling base xs base 0
list_start {base} xs h n = total_start base xs (omega (arith, n.few)) h

pub list_end : {base size i : ℕ} (xs : List ℕ) → Counted 21 (field (length xs)) base → Totalling base xs size i → length xs ≤ i
    → Counted 21525 (listed (length xs) (items field field xs)) size
list_end {base} {size} {i} xs n h l = record {
  is = omega (arith, total_end h l, n.is, length-listed (length xs) (items field field xs));
  few = omega (arith, h.few, h.short, h.reached, n.few);
}

pub ruleset totalling = (list_start, total_fits, total_turn, list_end, rules)

-- ---- the loop that writes

-- The first i items are written, and the next begins at place at.
pub record Writing (f : ℕ → List ℕ) (n : ℕ) (old : List ℕ) (start : ℕ) (now : List ℕ) (i at : ℕ) : Type 0 where
  pub reached : i ≤ n
  pub room : start + length (joined f n) ≤ length old
  pub laid : Laid (joined f i) old start now at

-- Before the first item.
pub write_start : (f : ℕ → List ℕ) (n : ℕ) (old : List ℕ) (start : ℕ) → start + length (joined f n) ≤ length old → Writing f n old start old 0 start
unfolding joined
write_start f n old start h = record { reached = omega arith; room = h; laid = laid_none old start (omega arith) }

module _ {f : ℕ → List ℕ} {n : ℕ} {old : List ℕ} {start : ℕ} {now : List ℕ} {i at : ℕ} (h : Writing f n old start now i at) where
  -- There is room for the next item,
  pub item_room : i < n → at + length (f i) ≤ length now
  unfolding joined
  item_room l =
      let whole : n - suc i + suc i ≡ n = omega arith in
      let upto : length (joined f (suc i)) ≤ length (joined f n) = rw whole at (joined_more f (suc i) (n - suc i)) in
      omega (arith, upto, length-append (joined f i) (f i), h.room, h.laid.ends, h.laid.long)

  -- and with it one more is written.
  pub write_turn : {next : List ℕ} {end : ℕ} → i < n → Laid (f i) now at next end → Writing f n old start next (i + 1) end
  unfolding joined
  write_turn l k = rw (add-one i) record { reached = l; room = h.room; laid = laid_then h.laid k }

  -- Past the last item.
  pub write_end : n ≤ i → Laid (joined f n) old start now at
  write_end l = let all : i ≡ n = omega (arith, h.reached) in rw (← all) h.laid

-- After a count.
module _ {mid : List ℕ} {at : ℕ} (f : ℕ → List ℕ) (n : ℕ) {vs : List ℕ} (old : List ℕ) (start : ℕ) (e : joined f n ≡ vs) where
  pub listed_begun : start + length (listed n vs) ≤ length old → Laid (field n) old start mid at → Writing f n mid at mid 0 at
  listed_begun h k = write_start f n mid at (omega (arith, length-listed n vs, ap length e, k.ends, k.long))

  pub listed_written : {now : List ℕ} {i end : ℕ} → Laid (field n) old start mid at → Writing f n mid at now i end → n ≤ i → Laid (listed n vs) old start now end
  unfolding listed
  listed_written k h l = rw (← e) (laid_then k (write_end h l))

-- No store changes how many elements there are.
pub list_kept : {f : ℕ → List ℕ} {vs mid now : List ℕ} {n first i at : ℕ} (old : List ℕ) (start : ℕ) → Laid vs old start mid first
    → Writing f n mid first now i at → length now ≡ length old
list_kept old start k h = h.laid.long ∙ k.long

-- ---- numbers

-- One number more.
module _ (xs : List ℕ) {old : List ℕ} {start : ℕ} {now : List ℕ} {i at : ℕ} (h : Writing (field_at xs) (length xs) old start now i at) where
  pub field_room : {x : ℕ} → i < length xs → x ≡ get_or xs i 0 → at + length (field x) ≤ length now
  field_room l e = rw e (item_room h l)

  pub fields_turn : {x : ℕ} {next : List ℕ} {end : ℕ} → i < length xs → x ≡ get_or xs i 0 → Laid (field x) now at next end
      → Writing (field_at xs) (length xs) old start next (i + 1) end
  fields_turn l e k = write_turn h l (rw e at k)

  -- The last is written.
  pub fields_end : length xs ≤ i → Laid (items field field xs) old start now at
  fields_end l = rw (joined_fields xs) at (write_end h l)

-- From a place on that leaves room for all.
pub fields_start : (xs old : List ℕ) (start : ℕ) → start + length (items field field xs) ≤ length old
    → Writing (field_at xs) (length xs) old start old 0 start
fields_start xs old start h = write_start (field_at xs) (length xs) old start (rw (joined_fields xs) h)

-- After how many there are.
module _ (xs old : List ℕ) (start : ℕ) where
  pub list_begun : {mid : List ℕ} {at : ℕ} → start + length (listed (length xs) (items field field xs)) ≤ length old
      → Laid (field (length xs)) old start mid at → Writing (field_at xs) (length xs) mid at mid 0 at
  list_begun h k = listed_begun (field_at xs) (length xs) old start (joined_fields xs) h k

  pub list_written : {mid now : List ℕ} {first i at : ℕ} → Laid (field (length xs)) old start mid first
      → Writing (field_at xs) (length xs) mid first now i at → length xs ≤ i → Laid (listed (length xs) (items field field xs)) old start now at
  list_written k h l = listed_written (field_at xs) (length xs) old start (joined_fields xs) k h l

pub ruleset writing = (field_room, fields_turn, count_room, list_begun, list_written, list_kept, rules)
