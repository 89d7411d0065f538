-- Lists of cases, computed by the checker. Those of a crate that has must-fail edits stand here and not beside its laws: an edit is refused by the laws, and
-- need not pay for the cases.
pub mod Starred
pub mod Counted
pub mod Pinned
pub mod Shared
pub mod ProductCases
pub mod NumberCases
pub mod WindowCases
pub mod RunCases
pub mod YoungCases
