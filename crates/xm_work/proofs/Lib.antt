mod Crossing
mod Joining
mod Underway
mod Telling
mod Taking
