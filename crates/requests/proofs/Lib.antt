pub mod Lending
pub mod Goings
pub mod OneSettlement
