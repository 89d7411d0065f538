pub mod WordReaders
