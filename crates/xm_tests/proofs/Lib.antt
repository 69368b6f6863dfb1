mod Over
mod Stepped
