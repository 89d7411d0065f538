-- What the operations on Young tableaux reply to every input, and what lent memory then holds (document 02, N10; the checks that each makes, in order).
--     young_says, young_run                 1 2 4 13            the tableau and the standard tableau of a word, into three lent lists; gives the cells written
--     word_young_says, word_young_run         1 2 3 4 21 13       the word of a tableau with its standard tableau; gives the letters written
--     insert_young_says, insert_young_run     1 2 3 4 21 12 13    one letter inserted into the tableau in the first cells of lent lists; gives the new used count
-- Row lengths come as 64 numbers, and all 64 are written, those of rows that there are not as 0; elements beyond keep their values. Assumes nothing.
use Rattle.std.specs.Prelude.{ℕ, suc, List, [], ◌∷◌, ◌++◌, length, take}
use Rattle.std.proofs.Math.Option.{some}
use Rattle.outcomes.specs.Replies.{Said, first, gives, ran_to, written}
use Rattle.outcomes.specs.Judgements.{full_judged, length_judged, letters_judged, rank_judged, room_judged, used_judged, word_judgements}
use Rattle.plactic.specs.FlatForm.{Flat, cell_rows, flat_of, rows_in}
use Rattle.plactic.specs.Schensted.{insert, young_of}
use Rattle.plactic.specs.WayBack.{word_of_young}
use Rattle.plactic_outcomes.specs.Judgements.{lengths_judgements, young_judged, young_judgements, young_rooms}

-- Three lists at the beginning of three lent ones.
abbrev pub written_flat : Flat → Flat → Flat
written_flat new old =
    record {
      letters = written new.letters old.letters;
      standard = written new.standard old.standard;
      lengths = written new.lengths old.lengths;
    }

-- ---- tableau and standard tableau of a word

unfoldable pub young_says : ℕ → List ℕ → ℕ → ℕ → ℕ → Said
young_says n w letters standard lengths = first (word_judgements n w ++ young_rooms (length w) letters standard lengths) (gives (length w ∷ []))

unfoldable pub young_run : ℕ → List ℕ → Flat → Said × Flat
young_run n w f =
    ran_to (young_says n w (length f.letters) (length f.standard) (length f.lengths)) (written_flat (flat_of (young_of w)) f) f

-- ---- the way back

unfoldable pub word_young_says : ℕ → Flat → ℕ → Said
word_young_says n f room = first (young_judgements n f ++ (room_judged (length f.letters) room ∷ [])) (gives (length f.letters ∷ []))

unfoldable pub word_young_run : ℕ → Flat → List ℕ → Said × List ℕ
word_young_run n f out = ran_to (word_young_says n f (length out)) (written (word_of_young (rows_in f)) out) out

-- ---- one letter inserted

-- The used cells of lent lists, and all row lengths.
abbrev pub used_flat : ℕ → Flat → Flat
used_flat used f = record { letters = take used f.letters; standard = take used f.standard; lengths = f.lengths }

-- 1 to 4 and 21 of a letter a and of the tableau in the first cells of lent lists, of which so many are used. The letter to be inserted has the used count as its
-- place.
abbrev pub insert_young_judgements : ℕ → ℕ → ℕ → Flat → List Said
insert_young_judgements n used a f =
    rank_judged n ∷ length_judged used ∷ used_judged used (length f.letters ∷ length f.standard ∷ [])
    ∷ (lengths_judgements used f.lengths
    ++ (letters_judged n (take used f.letters ++ a ∷ []) ∷ young_judged used (cell_rows (used_flat used f)) ∷ []))

unfoldable pub insert_young_says : ℕ → ℕ → ℕ → Flat → Said
insert_young_says n used a f =
    first
    (insert_young_judgements n used a f
    ++ (full_judged used ∷ young_rooms (suc used) (length f.letters) (length f.standard) (length f.lengths)))
    (gives (suc used ∷ []))

unfoldable pub insert_young_run : ℕ → ℕ → ℕ → Flat → Said × Flat
insert_young_run n used a f = ran_to (insert_young_says n used a f) (written_flat (flat_of (insert (suc used) (rows_in (used_flat used f)) (some a))) f) f
