-- What holds of the times, for our own proofs.
pub mod Clock
pub mod SoughtLaws
pub mod FirstLaws
pub mod TimeLaws
pub mod StrictLaws
pub mod EdgeLaws
pub mod PastLaws
pub mod GuessLaw
pub mod NearLaw
