pub mod Bytes
pub mod Decoded
pub mod Encodings
pub mod Numbers
pub mod Payloads
pub mod ReadBack
