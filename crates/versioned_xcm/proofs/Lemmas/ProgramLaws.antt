pub mod ProgramLaws
pub mod Writable
pub mod WriteLaws
