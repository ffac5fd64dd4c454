pub mod CellLemmas
pub mod FieldsLemmas
pub mod PackedLemmas
pub mod ReadingLemmas
pub mod SourceLemmas
