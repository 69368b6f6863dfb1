mod Holding
mod Joining
mod Rising
mod Zipping
