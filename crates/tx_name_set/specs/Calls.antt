-- The test of two names decides whether they are the same.
pub mod NameLaws
