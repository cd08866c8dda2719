pub mod Lemmas
pub mod DerivedOrders
pub mod CommonPrefix
pub mod Inversion
pub mod ThreeSteps
pub mod WaysDown
