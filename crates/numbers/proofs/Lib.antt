pub mod NumberBytes
pub mod LittleEndian
