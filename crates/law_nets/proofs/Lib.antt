mod Lists
mod Payments
mod Receipts
mod Losses
mod Messages
mod Rooms
mod PaidDeliveries
mod Networks
mod Refusals
mod Covering
mod Fitting
mod BarringLaws
mod Standing
mod Calls
mod Instructions
mod Runs
mod Stopping
mod Stages
mod Firsts
mod Arriving
mod Deliveries
mod Executions
mod UnsaturatedWorlds
pub mod Lasts
pub mod Nexts
pub mod Stopped
pub mod StoppedBurns
pub mod StoppedShapes
pub mod Searching
pub mod Codes
pub mod Worlds
pub mod Pasts
