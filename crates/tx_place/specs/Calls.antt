-- For calls inside the crate alone.
-- Lists of files, as the calls on a list change them.
pub mod Files
-- What a reader has read so far, of a file and of a stream.
pub mod Reading
