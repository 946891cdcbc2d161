mod Counted
mod Ended
mod Going
mod Making
