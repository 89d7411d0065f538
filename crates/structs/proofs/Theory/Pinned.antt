-- What each struct of the C interface holds, field by field: after values are given, and after a refusal, where every other field is 0.
--     done_fields, move_fields, count_fields, class_fields, order_fields, junction_fields, value_fields, line_fields, cell_fields
-- Assumes nothing.
use Prim.Native.Nat.{ℕ}
use mathlib.Core.Path.{◌≡◌, refl}
use mathlib.Core.List.{[], ◌∷◌}
use Rattle.outcomes.specs.Replies.{gives, refused}
use Rattle.structs.specs.Replies.{done_of, move_of, count_of, class_of, order_of, junction_of, value_of, line_of, cell_of}

module _ (a b c k p : ℕ) where
  -- Nothing but number and place.
  pub done_fields : (done_of (gives []) ≡ record { number = 0; place = 0 }) × (done_of (refused k p) ≡ record { number = k; place = p })
  done_fields = (refl, refl)

  -- The changed place stands in a field of its own; place is a refusal's.
  pub move_fields :
      (move_of (gives (a ∷ [])) ≡ record { number = 0; place = 0; changed = a }) × (move_of (refused k p) ≡ record { number = k; place = p; changed = 0 })
  move_fields = (refl, refl)

  pub count_fields :
      (count_of (gives (a ∷ [])) ≡ record { number = 0; place = 0; count = a }) × (count_of (refused k p) ≡ record { number = k; place = p; count = 0 })
  count_fields = (refl, refl)

  pub class_fields :
      (class_of (gives (a ∷ [])) ≡ record { number = 0; place = 0; same = a }) × (class_of (refused k p) ≡ record { number = k; place = p; same = 0 })
  class_fields = (refl, refl)

  pub order_fields :
      (order_of (gives (a ∷ [])) ≡ record { number = 0; place = 0; order = a }) × (order_of (refused k p) ≡ record { number = k; place = p; order = 0 })
  order_fields = (refl, refl)

  pub junction_fields :
      (junction_of (gives (a ∷ b ∷ [])) ≡ record { number = 0; place = 0; set = a; rows = b })
      × (junction_of (refused k p) ≡ record { number = k; place = p; set = 0; rows = 0 })
  junction_fields = (refl, refl)

  pub value_fields :
      (value_of (gives (a ∷ [])) ≡ record { number = 0; place = 0; value = a }) × (value_of (refused k p) ≡ record { number = k; place = p; value = 0 })
  value_fields = (refl, refl)

  pub line_fields :
      (line_of (gives (a ∷ b ∷ [])) ≡ record { number = 0; place = 0; rank = a; count = b })
      × (line_of (refused k p) ≡ record { number = k; place = p; rank = 0; count = 0 })
  line_fields = (refl, refl)

  -- A cell, no such cell, a refusal.
  pub cell_fields :
      (cell_of (gives (a ∷ b ∷ c ∷ [])) ≡ record { number = 0; place = 0; found = 1; letter = a; row = b; column = c })
      × (cell_of (gives []) ≡ record { number = 0; place = 0; found = 0; letter = 0; row = 0; column = 0 })
      × (cell_of (refused k p) ≡ record { number = k; place = p; found = 0; letter = 0; row = 0; column = 0 })
  cell_fields = (refl, refl, refl)
