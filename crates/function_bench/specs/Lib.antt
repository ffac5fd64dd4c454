-- The words of the jobs.
pub mod Word
