-- Lemmas: what proofs cite.
pub mod AssetLaws
pub mod ListLaws
pub mod PlaceLaws
pub mod StaleLaws
