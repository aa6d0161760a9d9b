-- The definitions that the contracts of `leaf_exports` cite.
pub mod LeafAnswers
