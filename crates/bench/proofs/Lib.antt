pub mod ZeroContent
pub mod ZeroSteps
