mod Asking
mod Meeting
mod Serving
