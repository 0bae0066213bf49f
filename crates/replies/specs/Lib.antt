pub mod Reply
pub mod ReadBack
pub mod Asked
