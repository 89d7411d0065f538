-- Lemmas of the program between a reader and a writer. Assumes nothing.
pub mod Answering
