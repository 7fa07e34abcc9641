mod Counting
mod Places
mod Keeping
mod Sending
