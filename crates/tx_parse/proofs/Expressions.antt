pub mod Places
pub mod Trees
pub mod Sound
pub mod Complete
