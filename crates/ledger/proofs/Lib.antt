pub mod ByNumber
pub mod Lawful
pub mod Settling
