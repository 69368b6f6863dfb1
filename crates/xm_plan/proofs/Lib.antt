pub mod AtPorts
pub mod Checking
pub mod Operands
pub mod Operating
pub mod Places
pub mod Settling
