mod BuyerStands
mod Draws
pub mod Fairs
mod Fills
pub mod Follow
mod History
mod KindFacts
pub mod LakeStands
mod RampStands
pub mod Rules
mod SoundLinks
mod SteamStands
mod Tables
mod Track
