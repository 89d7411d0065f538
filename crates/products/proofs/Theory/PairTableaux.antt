-- The tableau that the operation for the pair of a word leaves, for which products are held against it.
--     rooms_past       where there is room for the entries, room for the pair is room for the tableau
--     tableau_left_lem     reply and tableau of a call that fills a pair
-- Assumes nothing.
use Prim.Native.Nat.{ℕ, ◌≤◌}
use mathlib.Core.Path.{◌≡◌, refl, ◌∙◌}
use mathlib.Core.List.{List, [], ◌∷◌}
use Rattle.hypoplactic.specs.Insertion.{Pair}
use Rattle.outcomes.specs.Judgements.{pair_rooms, room_judged, tableau_rooms}
use Rattle.outcomes.specs.Replies.{Said, first, gives, ran_to, refused}
use Rattle.outcomes.proofs.Theory.Judgements.{room_judged_lem}
use Rattle.outcomes.proofs.Theory.Passing.{first_answer, first-append, first_else}
use Rattle.products.specs.Products.{tableau_left}

-- Where there is room for the entries, room for the pair is room for the tableau.
pub rooms_past : (k letters marks entries : ℕ) (a : Said) → k ≤ entries → first (pair_rooms k letters marks entries) a ≡ first (tableau_rooms k letters marks) a
rooms_past k letters marks entries a l =
    first-append (tableau_rooms k letters marks) (room_judged k entries ∷ []) a
    ∙ rw (first_answer (room_judged k entries ∷ []) a ((room_judged_lem k entries).1 l, tt)) (first_else (tableau_rooms k letters marks) a)

-- The tableau that a call leaves which fills a pair.
pub tableau_left_lem : (s : Said) (new old : Pair) (cs ds : List ℕ)
    → tableau_left (ran_to s (new, cs) (old, ds)) ≡ ran_to s (new.letters, (new.marks, cs)) (old.letters, (old.marks, ds))
tableau_left_lem (gives vs) new old cs ds = refl
tableau_left_lem (refused k p) new old cs ds = refl
