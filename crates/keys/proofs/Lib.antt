pub mod Buckets
pub mod Pushing
pub mod Seeking
pub mod Keeping
