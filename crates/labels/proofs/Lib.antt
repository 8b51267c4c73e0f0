-- Laws of labels.
pub mod Masks
pub mod LabelSteps
pub mod Sound
pub mod Complete
pub mod Below
pub mod Computed
