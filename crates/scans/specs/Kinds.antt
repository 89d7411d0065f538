-- The grammar's four lines, each from a whole line as rank and cells, a P line with its entries.
--     word_whole, tableau_whole, pair_whole, recording_whole      W, T, P and N
-- Assumes nothing.
use Rattle.std.specs.Prelude.{ℕ, zero, suc, ◌≡◌, Bool, eqb}
use Rattle.std.proofs.Math.Path.{refl}
use Rattle.std.proofs.Common.{◌∙◌}
use Rattle.std.proofs.Math.Bool.{true, false, cond}
use mathlib.Core.List.{List, [], ◌∷◌}
use Rattle.grammar.specs.Reading.{Read, after, both, broken, counted, counted_twice, ended, got, letters, many, marks, onward, read_cell, read_field, read_first, read_line, read_n, read_p, read_t, read_w, turned, twice}
use Rattle.cell_scans.specs.Cells.{read_item}
use Rattle.scans.specs.Items.{turned_same}
use Rattle.scans.specs.Heads.{and_then, read_counted, read_end, read_head, read_rank}
use Rattle.scans.specs.Scans.{read_body, read_whole}
use Rattle.scans.specs.PairScans.{read_pair, read_parts}

-- Fields as cells without steps.
many_fields : (k : ℕ) (t : List ℕ) → many read_field read_field k t ≡ turned letters (many read_first read_first k t)
many_fields zero t = refl
many_fields (suc k) t = go (read_field t) (λ u. many_fields k u)
  where
    back : (x : ℕ) (r : Read (List (ℕ × ℕ))) → turned (◌∷◌ x) (turned letters r) ≡ turned letters (turned (◌∷◌ (x, 0)) r)
    back x (got cs u) = refl
    back x (broken u) = refl

    go : (f : Read ℕ) → ((u : List ℕ) → many read_field read_field k u ≡ turned letters (many read_first read_first k u))
        → onward ◌∷◌ (λ a. many read_field read_field k) f
        ≡ turned letters (onward ◌∷◌ (λ a. many read_first read_first k) (onward {C = ℕ × ℕ} (λ x m. (x, m)) (λ x. got 0) f))
    go (got x u) more = rw (more u) (back x (many read_first read_first k u))
    go (broken u) more = refl

-- A line of the grammar is a whole line with its values joined, if its items are cells turned.
module _ {A B : Type 0} (kind : ℕ) (ranked steps : Bool) (first later : List ℕ → Read A) (join : ℕ → List A → B) (turn : List (ℕ × ℕ) → List A)
    (alike : (k : ℕ) (t : List ℕ) → many first later k t ≡ turned turn (many read_first (read_item steps) k t)) where
  -- The values of a line, from its rank and cells.
  abbrev joined : ℕ × List (ℕ × ℕ) → B
  joined v = join v.0 (turn v.1)

  -- Past the items.
  ends : (n : ℕ) (cs : List (ℕ × ℕ)) (e : Read Unit)
      → turned (λ u. join n (turn cs)) e ≡ turned joined (turned {B = ℕ × List (ℕ × ℕ)} (λ u. (n, cs)) e)
  ends n cs (got u t) = refl
  ends n cs (broken t) = refl

  -- Past the number of items.
  items_on : (n : ℕ) (r : Read (List (ℕ × ℕ)))
      → onward (λ a u. a) (λ a. after 10 ended) (turned (join n) (turned {A = List A} {B = List A} (λ xs. xs) (turned turn r)))
      ≡ turned joined (and_then r (λ cells. read_end (n, cells)))
  unfolding read_end
  items_on n (got cs t) = ends n cs (after 10 ended t)
  items_on n (broken t) = refl

  -- Past the rank.
  count_on_lem : (n : ℕ) (f : Read ℕ)
      → onward (λ a u. a) (λ a. after 10 ended) (turned (join n) (onward (λ k items. items) (many first later) f))
      ≡ turned joined (and_then (turned {B = ℕ × ℕ} (λ k. (n, k)) f) (λ h. read_body steps h.0 h.1))
  unfolding read_body
  count_on_lem n (got k t) = rw (alike k t) (items_on n (many read_first (read_item steps) k t))
  count_on_lem n (broken t) = refl

  -- Past the letter of the kind.
  rank_on : (f : Read ℕ)
      → onward (λ a u. a) (λ a. after 10 ended) (onward join (λ n. counted first later) f)
      ≡ turned joined (and_then (and_then f read_counted) (λ h. read_body steps h.0 h.1))
  unfolding read_counted
  rank_on (got n t) = count_on_lem n (read_field t)
  rank_on (broken t) = refl

  line_whole : (t : List ℕ) → read_line kind (both join (read_rank ranked) (λ n. counted first later)) t ≡ turned joined (read_whole kind ranked steps t)
  unfolding read_whole read_head
  line_whole [] = refl
  line_whole (b ∷ t) = go (eqb b kind)
    where
      go : (c : Bool) → cond c (onward (λ a u. a) (λ a. after 10 ended) (onward join (λ n. counted first later) (read_rank ranked t))) (broken (b ∷ t))
          ≡ turned joined (and_then (cond c (and_then (read_rank ranked t) read_counted) (broken (b ∷ t))) (λ h. read_body steps h.0 h.1))
      go true = rank_on (read_rank ranked t)
      go false = refl

-- W: rank and letters.
pub word_whole : (t : List ℕ) → read_w t ≡ turned (λ v. (v.0, letters v.1)) (read_whole 87 true false t)
unfolding read_w
word_whole t = line_whole 87 true false read_field read_field (λ n ws. (n, ws)) letters many_fields t

-- T: rank, letters and marks.
pub tableau_whole : (t : List ℕ) → read_t t ≡ turned (λ v. (v.0, letters v.1, marks v.1)) (read_whole 84 true true t)
unfolding read_t
tableau_whole t =
    line_whole 84 true true read_first (read_item true) (λ n cells. (n, letters cells, marks cells)) (λ cells. cells)
    (λ k u. turned_same (many read_first (read_item true) k u)) t

-- N: entries. The line has no rank.
pub recording_whole : (t : List ℕ) → read_n t ≡ turned (λ v. letters v.1) (read_whole 78 false false t)
unfolding read_n
recording_whole t = alike t ∙ line_whole 78 false false read_field read_field (λ n rs. rs) letters many_fields t
  where
    alike : (t : List ℕ) → read_line 78 (counted read_field read_field) t ≡ read_line 78 (both {A = ℕ} (λ n rs. rs) (got 0) (λ n. counted read_field read_field)) t
    alike [] = refl
    alike (b ∷ t) = rw (← turned_same (counted read_field read_field t))

-- The values of a P line, from its rank, cells and entries.
abbrev pair_values : ℕ × List (ℕ × ℕ) × List (ℕ × ℕ) → ℕ × List ℕ × List ℕ × List ℕ
pair_values v = (v.0, letters v.1, marks v.1, letters v.2)

abbrev pair_join : ℕ → List (ℕ × ℕ) × List ℕ → ℕ × List ℕ × List ℕ × List ℕ
pair_join n parts = (n, letters parts.0, marks parts.0, parts.1)

-- Past the entries.
entries_on : (n : ℕ) (cs : List (ℕ × ℕ)) (r : Read (List (ℕ × ℕ)))
    → onward (λ a u. a) (λ a. after 10 ended)
    (turned (pair_join n) (turned {A = List (ℕ × ℕ) × List ℕ} {B = List (ℕ × ℕ) × List ℕ} (λ parts. parts) (turned (λ k. (cs, k)) (turned letters r))))
    ≡ turned pair_values (turned (λ (v : ℕ × List (ℕ × ℕ)). (v.0, cs, v.1)) (and_then r (λ cells. read_end (n, cells))))
unfolding read_end
entries_on n cs (got es t) = go (after 10 ended t)
  where
    go : (e : Read Unit) → turned (λ u. pair_join n (cs, letters es)) e
        ≡ turned pair_values (turned (λ (v : ℕ × List (ℕ × ℕ)). (v.0, cs, v.1)) (turned (λ u. (n, es)) e))
    go (got u t) = refl
    go (broken t) = refl
entries_on n cs (broken t) = refl

-- Past the cells.
cells_on : (n k : ℕ) (r : Read (List (ℕ × ℕ)))
    → onward (λ a u. a) (λ a. after 10 ended)
    (turned (pair_join n) (turned {A = List (ℕ × ℕ) × List ℕ} {B = List (ℕ × ℕ) × List ℕ} (λ parts. parts) (onward (λ l k. (l, k)) (λ l. many read_field read_field k) r)))
    ≡ turned pair_values (and_then r (λ cells u. turned (λ v. (v.0, cells, v.1)) (read_body false n k u)))
unfolding read_body
cells_on n k (got cs t) = rw (many_fields k t) (entries_on n cs (many read_first read_first k t))
cells_on n k (broken t) = refl

-- Past the rank.
parts_on : (n : ℕ) (f : Read ℕ)
    → onward (λ a u. a) (λ a. after 10 ended) (turned (pair_join n) (onward (λ k parts. parts) (twice read_first read_cell read_field) f))
    ≡ turned pair_values (and_then (turned {B = ℕ × ℕ} (λ k. (n, k)) f) (λ h. read_parts h.0 h.1))
unfolding read_parts
parts_on n (got k t) = cells_on n k (many read_first read_cell k t)
parts_on n (broken t) = refl

-- P: rank, letters, marks and entries.
pub pair_whole : (t : List ℕ) → read_p t ≡ turned (λ v. (v.0, letters v.1, marks v.1, letters v.2)) (read_pair t)
unfolding read_p read_pair read_head read_counted
pair_whole [] = refl
pair_whole (b ∷ t) = go (eqb b 80)
  where
    ranked : (f : Read ℕ)
        → onward (λ a u. a) (λ a. after 10 ended) (onward pair_join (λ n. counted_twice read_first read_cell read_field) f)
        ≡ turned pair_values (and_then (and_then f read_counted) (λ h. read_parts h.0 h.1))
    ranked (got n u) = parts_on n (read_field u)
    ranked (broken u) = refl

    go : (c : Bool) → cond c (onward (λ a u. a) (λ a. after 10 ended) (onward pair_join (λ n. counted_twice read_first read_cell read_field) (read_field t))) (broken (b ∷ t))
        ≡ turned pair_values (and_then (cond c (and_then (read_field t) read_counted) (broken (b ∷ t))) (λ h. read_parts h.0 h.1))
    go true = ranked (read_field t)
    go false = refl
