mod Places
mod Repeats
