pub mod Days
pub mod EdgeDays
pub mod Files
