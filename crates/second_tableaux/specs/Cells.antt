-- What is judged of two tableaux that bring their letter counts, each over the first and then over the second.
--     parts_judgements       3 of both
--     letters_judgements     4 of both, each at its rank
--     shapes_judgements      5 and 6 of both
--     counts_judgements      17 of both
--     cells_judgements       4 to 6 and 17 of both, one after the other
-- Assumes nothing.
use Rattle.std.specs.Prelude.{List, [], ◌∷◌, ◌++◌, length}
use Rattle.outcomes.specs.Counts.{counts_judged}
use Rattle.outcomes.specs.Replies.{Said, count_on}
use Rattle.outcomes.specs.Judgements.{alike_judged, letters_judged, marks_judged, rising_judged}
use Rattle.lent.specs.declared.tableaux.CountedTableau.{CountedTableau}

abbrev pub parts_judgements : CountedTableau → CountedTableau → List Said
parts_judgements t u =
    alike_judged (length t.letters.now) (length t.marks.now ∷ []) ∷ alike_judged (length u.letters.now) (length u.marks.now ∷ []) ∷ []

abbrev pub letters_judgements : CountedTableau → CountedTableau → List Said
letters_judgements t u = letters_judged t.rank t.letters.now ∷ count_on (length t.letters.now) (letters_judged u.rank u.letters.now) ∷ []

abbrev pub shapes_judgements : CountedTableau → CountedTableau → List Said
shapes_judgements t u =
    rising_judged t.letters.now ∷ count_on (length t.letters.now) (rising_judged u.letters.now)
    ∷ marks_judged t.letters.now t.marks.now ∷ count_on (length t.letters.now) (marks_judged u.letters.now u.marks.now) ∷ []

abbrev pub counts_judgements : CountedTableau → CountedTableau → List Said
counts_judgements t u = counts_judged t.counts.now t.letters.now ∷ count_on 64 (counts_judged u.counts.now u.letters.now) ∷ []

abbrev pub cells_judgements : CountedTableau → CountedTableau → List Said
cells_judgements t u = letters_judgements t u ++ (shapes_judgements t u ++ counts_judgements t u)
