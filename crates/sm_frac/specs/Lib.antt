pub mod Rational
pub mod Lowest
pub mod Rounding
pub mod Frac
pub mod Passes
