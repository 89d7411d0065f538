-- `multiplication::product::product` meets its contract. Assumes nothing.
use Rattle.multiplication.specs.Product.{product_passed}
use Rattle.multiplication.proofs.product.product.Goals as goal

pub returns : goal.returns
returns c =
    product_passed _ _ _ _ _ _ _ c.in_ok-check_factors.ensures _ _ _ c.in_ok-check_room.ensures _ _ c.in_ok-check_room-2.ensures
    c.downs_of.ensures c.downs_of-2.ensures c.merged_set-set.ensures c.sum_counts-sums.ensures c.fill_tableau.ensures
