-- Lemmas: what proofs cite.
pub mod CallLaws
pub mod DispatchLaws
pub mod FieldLaws
pub mod ShiftLaws
