-- One number of document 01's record and reply: how it is read, how it is written, and folding.
pub mod Reading
pub mod Writing
pub mod Folding
pub mod Writer
pub mod Cursor
