mod Asks
mod Cuts
mod Lasts
mod Lines
mod Opens
mod Verdicts
mod Runs
pub mod OneText
mod Enough
mod LineLaws
mod EachLine
