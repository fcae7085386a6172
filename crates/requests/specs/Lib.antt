pub mod Requests
pub mod Settling
pub mod OneSettlement
