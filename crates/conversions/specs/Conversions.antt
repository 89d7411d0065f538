-- What the converter of former lines replies, and what lent memory holds, from the two lines that were scanned on.
--     place_fits                       the place of a break in the second text, counted on, fits
--     first_broken, second_broken      a text breaks the grammar
--     both_read                        what is said of the values is said of the texts
--     roomed                           memory for the items is as long as it was
--     converting                       the ruleset of the converter
-- Assumes nothing.
use Rattle.std.specs.Prelude.{ℕ, ◌+◌, ◌*◌, ◌^◌, ◌≤◌, ◌<◌, ◌≡◌, true, false, Ok, Err, length, take}
use Rattle.std.proofs.Math.Path.{refl, sym}
use Rattle.std.proofs.Common.{◌∙◌, Fits, rules}
use Rattle.std.specs.Int.{w64}
use mathlib.Core.List.{List, []}
use native.Mathlib.Omega.{arith}
use Rattle.grammar.specs.Reading.{letters, marks}
use Rattle.outcomes.specs.Replies.{Said, first, gives, passed, refused}
use Rattle.outcomes.proofs.Theory.Judgements.{length-judged}
use Rattle.outcomes.proofs.Theory.Passing.{Passing, passing_first}
use Rattle.former_lines.specs.Conversion.{convert_run, converted}
use Rattle.scans.specs.Kinds.{recording_whole, tableau_whole}
use Rattle.scans.specs.Scans.{Scanned, read_whole}
use Rattle.scans.specs.declared.line.Head.{Head}
use Rattle.numerals.specs.declared.numbers.Broken.{Broken}
use Rattle.line_items.specs.Blank.{blank}
use Rattle.line_items.specs.Items.{break_place_lem, kept_all, letters_long, letters_room, marks_room}
use Rattle.conversions.specs.Values.{Roomed, count_judgements, counts_stop, past, values_run}

-- ---- the first text breaks the grammar, whatever the second is

module _ {t : List ℕ} {cells : List (ℕ × ℕ)} {old_letters old_marks ls ms : List ℕ} {b : Broken}
    (s : Scanned t true (read_whole 84 true true t) cells old_letters old_marks ls ms (Err b)) where
  pub first_broken : (r out : List ℕ) → (refused 14 b.place, out) ≡ convert_run t r out
  unfolding convert_run
  first_broken r out = rw (tableau_whole t, s.told.says, break_place_lem t b.place s.told.within)

-- ---- the second text, beside a T line

module _ {t r : List ℕ} {cells parts : List (ℕ × ℕ)} {old_letters old_marks old_entries none ls ms es none' : List ℕ} {h : Head}
    (s : Scanned t true (read_whole 84 true true t) cells old_letters old_marks ls ms (Ok h)) where
  -- It breaks the grammar: its place counts on, and fits.
  module _ {b : Broken} (u : Scanned r false (read_whole 78 false false r) parts old_entries none es none' (Err b)) where
    pub place_fits : length t * 1 < 2 ^ 63 → length r * 1 < 2 ^ 63 → Fits w64 (length t + b.place)
    place_fits l m = record { fits = omega (arith, u.told.within) }

    pub second_broken : (out : List ℕ) → (refused 14 (length t + b.place), out) ≡ convert_run t r out
    unfolding convert_run
    second_broken out = rw (tableau_whole t, s.told.says, recording_whole r, u.told.says, break_place_lem r b.place u.told.within)

  -- It is read too.
  module _ {g : Head} (u : Scanned r false (read_whole 78 false false r) parts old_entries none es none' (Ok g)) where
    -- Memory for the items is as long as it was.
    pub roomed : old_letters ≡ blank 1024 → old_marks ≡ blank 1024 → old_entries ≡ blank 1024 → Roomed ls ms es
    roomed x y w = record { letters_room = letters_room s x; marks_room = marks_room s y; entries_room = letters_room u w }

    module _ (out : List ℕ) where
      -- The values are those of the two lines.
      values_are : convert_run t r out ≡ converted out h.rank (letters cells) (marks cells) (letters parts)
      unfolding convert_run
      values_are = rw (tableau_whole t, s.told.says, recording_whole r, u.told.says)

      -- Where the numbers pass, memory holds all items.
      values-held : old_letters ≡ blank 1024 → old_marks ≡ blank 1024 → old_entries ≡ blank 1024 → Passing (count_judgements h.rank h.count g.count)
          → converted out h.rank (take h.count ls) (take h.count ms) (take g.count es) ≡ converted out h.rank (letters cells) (marks cells) (letters parts)
      values-held x y w p =
          let h_few : h.count ≤ 1024 = (length-judged h.count).0 p.1.0 in
          let g_few : g.count ≤ 1024 = (length-judged g.count).0 p.1.1.0 in
          let letters-all : take h.count ls ≡ letters cells = kept_all s (λ c. c.0) old_letters s.letters_are (omega (arith, h_few, letters_room s x)) in
          let marks-all : take h.count ms ≡ marks cells = kept_all s (λ c. c.1) old_marks s.marks_are (omega (arith, h_few, marks_room s y)) in
          let entries_all : take g.count es ≡ letters parts = kept_all u (λ c. c.0) old_entries u.letters_are (omega (arith, g_few, letters_room u w)) in
          rw (letters-all, marks-all, entries_all) refl

      -- What is said of the items in memory is said of the texts, whether the numbers pass or not.
      pub both_read : {said : Said × List ℕ} → old_letters ≡ blank 1024 → old_marks ≡ blank 1024 → old_entries ≡ blank 1024
          → said ≡ values_run h.rank h.count g.count ls ms es out → said ≡ convert_run t r out
      unfolding values_run
      both_read x y w e = e ∙ go (first (count_judgements h.rank h.count g.count) passed) refl ∙ sym values_are
        where
          go : (v : Said) → first (count_judgements h.rank h.count g.count) passed ≡ v
              → past v (converted out h.rank (take h.count ls) (take h.count ms) (take g.count es)) out
              ≡ converted out h.rank (letters cells) (marks cells) (letters parts)
          go (gives vs) q = values-held x y w (passing_first (count_judgements h.rank h.count g.count) [] (rw q tt))
          go (refused j p) q = sym (counts_stop h.rank (letters cells) (marks cells) (letters parts) out j p (rw (letters_long s, letters_long u) q))

pub ruleset converting = (first_broken, second_broken, place_fits, both_read, roomed, rules)
