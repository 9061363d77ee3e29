pub mod Text
pub mod Lines
pub mod Promises
pub mod Example
