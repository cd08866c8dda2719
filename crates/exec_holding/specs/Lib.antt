pub mod Holding
pub mod Charging
