pub mod Among
pub mod Cutting
pub mod Reading
pub mod Refusing
pub mod Sets
pub mod Spreading
pub mod Through
pub mod Words
