-- When words, tableaux and pairs are equal: where their ranks, their letters or cells and their counts are. What an array holds past its length is no part.
--     same_word       two words
--     same_tableau    two tableaux
--     same_pair       two pairs
-- Assumes nothing.
use Rattle.std.specs.Prelude.{Bool, ◌==◌, take}
use Rattle.std.specs.Cmp.Lexicographic.{pointwise}
use Rattle.std.specs.Ordering.{on, eq_of_both}
use Rattle.plain_words.specs.declared.Word.{Word}
use Rattle.plain_words.specs.declared.insertion.Tableau.{Tableau}
use Rattle.plain_words.specs.declared.insertion.Pair.{Pair}

abbrev pub same_word : Word → Word → Bool
same_word = eq_of_both (on (λ w. w.rank) ◌==◌) (on (λ w. take w.length w.letters) (pointwise ◌==◌))

abbrev pub same_tableau : Tableau → Tableau → Bool
same_tableau =
    eq_of_both
    (on (λ t. t.rank) ◌==◌)
    (eq_of_both
    (on (λ t. take t.length t.letters) (pointwise ◌==◌))
    (eq_of_both (on (λ t. take t.length t.marks) (pointwise ◌==◌)) (on (λ t. t.counts) (pointwise ◌==◌))))

abbrev pub same_pair : Pair → Pair → Bool
same_pair = eq_of_both (on (λ p. p.tableau) same_tableau) (on (λ p. take p.tableau.length p.entries) (pointwise ◌==◌))
