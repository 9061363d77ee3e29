pub mod Tape
pub mod Promises
pub mod Reader
