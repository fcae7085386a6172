pub mod HomingUnits
pub mod HomingSound
