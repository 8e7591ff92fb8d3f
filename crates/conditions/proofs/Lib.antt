pub mod Coded
pub mod Tokens
pub mod Taking
pub mod Making
pub mod Lent
