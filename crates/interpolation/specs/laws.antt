-- What holds of exact results, of zeros and of equality in value, and so of the polynomial's factors.
pub mod ExactLaws
pub mod ZeroLaws
pub mod ValueLaws
pub mod InterpolateLaws
pub mod FactorLaws
