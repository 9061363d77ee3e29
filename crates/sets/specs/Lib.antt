pub mod Terms
pub mod Look
pub mod Set
pub mod Pages
