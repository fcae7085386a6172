pub mod Declines
pub mod Numbers
pub mod Sums
