-- What the contracts of the table's notation cite. Assumes nothing.
pub mod Digits
