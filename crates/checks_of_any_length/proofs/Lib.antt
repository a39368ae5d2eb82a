mod Reading
mod Claiming
