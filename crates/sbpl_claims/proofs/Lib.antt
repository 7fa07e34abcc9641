mod Places
mod Keeping
