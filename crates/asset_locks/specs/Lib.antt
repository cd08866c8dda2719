pub mod Greatest
pub mod LockMaps
pub mod UnitFloors
pub mod LockCode
pub mod LockRows
pub mod NoteRows
