pub mod Lemmas
mod Origins
pub mod Refusing
mod Steering
mod Steady
mod Sound
mod Weighed
mod Ending
mod Ready
mod Resting
