pub mod Kept
pub mod Items
pub mod Heads
pub mod Scans
pub mod PairScans
pub mod Kinds
