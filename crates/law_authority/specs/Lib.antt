pub mod Origins
pub mod Speakers
pub mod Products
pub mod Burns
pub mod Alone
pub mod Floors
