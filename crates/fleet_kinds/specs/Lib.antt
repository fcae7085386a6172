pub mod ArcTables
pub mod Heeded
pub mod Lending
pub mod OutageLists
