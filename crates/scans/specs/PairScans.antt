-- P lines, read at places of the text. The readings are those of the grammar with its parts one after another.
--     read_parts, read_pair               a P line from its cells on, and a whole one as rank, cells and entries; entries are cells without steps
--     part_entries, pair_cells, pair_entries
--                                       the entries and the cells that are read before the grammar breaks
--     said_pair, PairScanned             what a P line that was read, or a break, says in the grammar's terms, and what memory then holds
-- Lines of one list of items are in Scans; that this is the grammar's P line, in Kinds. Assumes nothing.
use Rattle.std.specs.Prelude.{ℕ, zero, suc, ◌≤◌, ◌≡◌, refl, List, [], ◌∷◌, Result, Ok, Err, length, drop}
use Rattle.std.proofs.Common.{ap, sym, ◌∙◌, arith}
use Rattle.std.proofs.Math.Bool.{false, true}
use Rattle.grammar.specs.Reading.{Read, after, broken, ended, got, letters, many, marks, onward, turned}
use Rattle.numerals.specs.Numbers.{Told}
use Rattle.scans.specs.Kept.{kept}
use Rattle.scans.specs.Items.{Gathered, begun, read_items}
use Rattle.scans.specs.Heads.{and_then, line_place, read_end, read_head}
use Rattle.scans.specs.Scans.{Scanned, line_count, read_body, whole_cells}
use Rattle.scans.specs.declared.line.Head.{Head}
use Rattle.numerals.specs.declared.numbers.Broken.{Broken}

-- A P line from its cells on: what follows them is a line without steps from its items on.
unfoldable pub read_parts : ℕ → ℕ → List ℕ → Read (ℕ × List (ℕ × ℕ) × List (ℕ × ℕ))
read_parts n k t = and_then (read_items true k t) (λ cells u. turned (λ v. (v.0, cells, v.1)) (read_body false n k u))

-- A whole P line.
unfoldable pub read_pair : List ℕ → Read (ℕ × List (ℕ × ℕ) × List (ℕ × ℕ))
read_pair t = and_then (read_head 80 true t) (λ h. read_parts h.0 h.1)

-- The entries that are read before the grammar breaks, after the cells,
abbrev after_cells : ℕ → Read (List (ℕ × ℕ)) → List (ℕ × ℕ)
after_cells k (got cells u) = begun false false k u
after_cells k (broken u) = []

unfoldable pub part_entries : ℕ → List ℕ → List (ℕ × ℕ)
part_entries k t = after_cells k (read_items true k t)

-- and of a whole line; and its cells.
abbrev after_head : Read (ℕ × ℕ) → List (ℕ × ℕ)
after_head (got h t) = part_entries h.1 t
after_head (broken t) = []

unfoldable pub pair_entries : List ℕ → List (ℕ × ℕ)
pair_entries t = after_head (read_head 80 true t)

abbrev pub pair_cells : List ℕ → List (ℕ × ℕ)
pair_cells = whole_cells 80 true true

-- A P line that was read, or a break, in the grammar's terms.
abbrev pub said_pair : List ℕ → List (ℕ × ℕ) → List (ℕ × ℕ) → Result Head Broken → Read (ℕ × List (ℕ × ℕ) × List (ℕ × ℕ))
said_pair text cells entries (Ok h) = got (h.rank, cells, entries) (drop h.next text)
said_pair text cells entries (Err b) = broken (drop b.place text)

-- The line is read, or the grammar breaks; the letters and marks of the cells that were read, and the entries that were, are kept as far as there is room.
pub record PairScanned (text : List ℕ) (reading : Read (ℕ × List (ℕ × ℕ) × List (ℕ × ℕ))) (cells entries : List (ℕ × ℕ))
    (old_letters old_marks old_entries xs ms rs : List ℕ) (r : Result Head Broken) : Type 0 where
  pub told : Told text reading (said_pair text cells entries r) (line_place r)
  pub cells_long : length cells ≡ line_count cells r
  pub entries_long : length entries ≡ line_count entries r
  pub letters_are : xs ≡ kept (letters cells) old_letters
  pub marks_are : ms ≡ kept (marks cells) old_marks
  pub entries_are : rs ≡ kept (letters entries) old_entries

-- A break.
pair_stops : (text : List ℕ) (reading : Read (ℕ × List (ℕ × ℕ) × List (ℕ × ℕ))) (cells entries : List (ℕ × ℕ)) {old_letters old_marks old_entries xs ms rs : List ℕ} (b : Broken)
    → xs ≡ kept (letters cells) old_letters → ms ≡ kept (marks cells) old_marks → rs ≡ kept (letters entries) old_entries → reading ≡ broken (drop b.place text)
    → b.place ≤ length text → PairScanned text reading cells entries old_letters old_marks old_entries xs ms rs (Err b)
pair_stops text reading cells entries b x m r e l =
    record { told = record { says = e; within = l }; cells_long = refl; entries_long = refl; letters_are = x; marks_are = m; entries_are = r }

-- So many items that are read are so many.
many_long : {A : Type 0} (first later : List ℕ → Read A) (k : ℕ) (t : List ℕ) (l : List A) (u : List ℕ) → many first later k t ≡ got l u → length l ≡ k
many_long first later zero t l u e = let is : [] ≡ l = cc in ap length (sym is)
many_long {A} first later (suc k) t l u e = one (first t) (λ v m w. many_long later later k v m w) e
  where
    more : (a : A) (r : Read (List A)) → ((m : List A) (v : List ℕ) → r ≡ got m v → length m ≡ k) → turned (◌∷◌ a) r ≡ got l u → length l ≡ suc k
    more a (got m v) ih h = let is : a ∷ m ≡ l = cc in ap length (sym is) ∙ ap suc (ih m v refl)
    more a (broken v) ih h = let z : ◌≡◌ {A = ℕ} 0 1 = cc in absurd (omega arith)

    one : (r : Read A) → ((v : List ℕ) (m : List A) (w : List ℕ) → many later later k v ≡ got m w → length m ≡ k) → onward ◌∷◌ (λ a. many later later k) r ≡ got l u → length l ≡ suc k
    one (got a v) ih h = more a (many later later k v) (ih v) h
    one (broken v) ih h = let z : ◌≡◌ {A = ℕ} 0 1 = cc in absurd (omega arith)

-- Items that end a line are as many as were asked for.
body_long : (n k : ℕ) (t : List ℕ) (v : ℕ × List (ℕ × ℕ)) (u : List ℕ) → read_body false n k t ≡ got v u → length v.1 ≡ k
unfolding read_body read_end
body_long n k t v u e = go (read_items false k t) refl e
  where
    go : (r : Read (List (ℕ × ℕ))) → read_items false k t ≡ r → and_then r (λ cells. read_end (n, cells)) ≡ got v u → length v.1 ≡ k
    go (got cells w) q h = ends (after 10 ended w) h
      where
        ends : (end : Read Unit) → turned {B = ℕ × List (ℕ × ℕ)} (λ x. (n, cells)) end ≡ got v u → length v.1 ≡ k
        ends (got x y) h =
            let both : ◌≡◌ {A = ℕ × List (ℕ × ℕ)} (n, cells) v = cc in
            ap (λ (p : ℕ × List (ℕ × ℕ)). length p.1) (sym both) ∙ many_long _ _ k t cells w q
        ends (broken y) h = let z : ◌≡◌ {A = ℕ} 0 1 = cc in absurd (omega arith)
    go (broken w) q h = let z : ◌≡◌ {A = ℕ} 0 1 = cc in absurd (omega arith)

-- ---- from the cells on

module _ {text t : List ℕ} (n : ℕ) {k : ℕ} {old_letters old_marks xs ms : List ℕ} where
  -- The cells break the grammar,
  pub cells_broken : {b : Broken} (rs : List ℕ) → Gathered text t true k old_letters old_marks xs ms (Err b)
      → PairScanned text (read_parts n k t) (begun false true k t) (part_entries k t) old_letters old_marks rs xs ms rs (Err b)
  unfolding read_parts part_entries
  cells_broken {b} rs h = pair_stops text _ _ _ b h.letters_are h.marks_are (rw h.told.says) (rw h.told.says) h.told.within

  -- or are followed by the entries and the end.
  pub cells_entries : {next : ℕ} {old_entries rs ms' : List ℕ} {r : Result Head Broken} → Gathered text t true k old_letters old_marks xs ms (Ok next)
      → Scanned text false (read_body false n k (drop next text)) (begun false false k (drop next text)) old_entries ms rs ms' r
      → PairScanned text (read_parts n k t) (begun false true k t) (part_entries k t) old_letters old_marks old_entries xs ms' rs r
  unfolding read_parts part_entries
  cells_entries {next} {old_entries} {rs} {ms'} {r} h s = go r s
    where
      entries : List (ℕ × ℕ)
      entries = begun false false k (drop next text)

      go : (r : Result Head Broken) → Scanned text false (read_body false n k (drop next text)) entries old_entries ms rs ms' r
          → PairScanned text (and_then (read_items true k t) (λ cells u. turned (λ v. (v.0, cells, v.1)) (read_body false n k u))) (begun false true k t)
          (after_cells k (read_items true k t)) old_letters old_marks old_entries xs ms' rs r
      go (Ok e) s =
          let many : length entries ≡ k = body_long n k (drop next text) (e.rank, entries) (drop e.next text) s.told.says in
          record {
            told = record { says = rw (h.told.says, s.told.says); within = s.told.within };
            cells_long = h.long ∙ sym many ∙ s.long;
            entries_long = rw h.told.says s.long;
            letters_are = h.letters_are;
            marks_are = s.marks_are ∙ h.marks_are;
            entries_are = rw h.told.says s.letters_are;
          }
      go (Err b) s =
          pair_stops text _ _ _ b h.letters_are (s.marks_are ∙ h.marks_are) (rw h.told.says s.letters_are) (rw (h.told.says, s.told.says)) s.told.within

-- ---- from the first byte on

module _ (text : List ℕ) where
  pub pair_broken : {b : Broken} (xs ms rs : List ℕ) → Told text (read_head 80 true text) (broken (drop b.place text)) b.place
      → PairScanned text (read_pair text) (pair_cells text) (pair_entries text) xs ms rs xs ms rs (Err b)
  unfolding read_pair whole_cells pair_entries
  pair_broken {b} xs ms rs f = pair_stops text _ _ _ b (rw f.says) (rw f.says) (rw f.says) (rw f.says) f.within

  pub pair_parts : {n k next : ℕ} {old_letters old_marks old_entries xs ms rs : List ℕ} {r : Result Head Broken}
      → Told text (read_head 80 true text) (got (n, k) (drop next text)) next
      → PairScanned text (read_parts n k (drop next text)) (begun false true k (drop next text)) (part_entries k (drop next text)) old_letters old_marks old_entries xs ms rs r
      → PairScanned text (read_pair text) (pair_cells text) (pair_entries text) old_letters old_marks old_entries xs ms rs r
  unfolding read_pair whole_cells pair_entries
  pair_parts f s = rw f.says s
