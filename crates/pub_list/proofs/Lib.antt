mod Tries
mod Looking
pub mod Marking
mod Posting
mod Replying
mod Seats
mod Seizing
mod Taking
mod Walks
mod Working
mod Handing
mod Ended
