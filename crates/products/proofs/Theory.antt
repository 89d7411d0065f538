-- The laws of the product, by topic. docs/PROMISES.md leads from each promise to its theorem.
-- ---- the product found from letters and marks
pub mod ProductContents
pub mod ProductSteps
pub mod ProductDowns
pub mod ProductOnly
-- ---- its laws
pub mod ProductLaws
-- ---- replies
pub mod PairTableaux
pub mod ProductReplies
