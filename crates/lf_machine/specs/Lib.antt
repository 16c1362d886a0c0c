pub mod Forms
pub mod Actions
pub mod Standing
pub mod Values
pub mod Views
pub mod Went
pub mod Behaviours
