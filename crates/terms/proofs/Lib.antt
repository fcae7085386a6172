pub mod Ints
pub mod Bounds
pub mod Sums
pub mod Places
pub mod Says
pub mod Causes
