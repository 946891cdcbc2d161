pub mod Goes
pub mod Left
pub mod Running
pub mod Steps
