mod Places
mod Histories
mod Keeping
