pub mod Rising
pub mod Texts
pub mod OpenChains
pub mod OpenChannels
pub mod OpenSums
pub mod Opening
