pub mod Little
pub mod Steps
pub mod Readings
pub mod Written
pub mod Takings
