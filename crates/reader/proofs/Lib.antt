mod StepLists
mod Padded
mod Soundness
mod Fairness
mod OfferForms
mod Named
mod Exactly
mod LineStops
mod Parted
mod Declining
mod OneOffer
pub mod OneReading
