pub mod Stores
pub mod PairStores
pub mod Readers
pub mod PairReaders
