pub mod FirstBroken
pub mod Small
pub mod Fraction
pub mod Interval
pub mod Quotient
pub mod Reciprocal
pub mod Arithmetic
pub mod Inclusion
