pub mod FieldLaws
pub mod Written
