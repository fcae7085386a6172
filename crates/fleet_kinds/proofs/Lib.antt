mod Costs
mod OutageLaws
mod TableLaws
mod Unders
