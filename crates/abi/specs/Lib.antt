pub mod Replied
pub mod Promises
