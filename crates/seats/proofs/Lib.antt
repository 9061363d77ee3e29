pub mod Seats
pub mod Scans
