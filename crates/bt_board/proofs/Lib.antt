pub mod Lists
pub mod BitRows
pub mod Stories
pub mod News
pub mod Knowing
