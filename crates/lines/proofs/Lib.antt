pub mod Decimals
pub mod Sizes
pub mod Writes
pub mod Printing
pub mod Starts
pub mod Promised
pub mod Example
