pub mod Gcd
pub mod GcdLaws
pub mod QuotientLaws
pub mod Rational
pub mod Sums
pub mod Laws
pub mod Tests
