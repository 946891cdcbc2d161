mod Closed
mod Further
mod Handing
mod Learning
mod Opened
mod Polling
mod Taking
