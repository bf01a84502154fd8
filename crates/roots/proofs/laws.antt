-- What holds of bit patterns, of the search over them and of the two roots, for our own proofs.
pub mod Patterns
pub mod RootLaws
pub mod ScaledRoot
pub mod SqrtLaws
pub mod NoTie
pub mod Units
pub mod PatternRoots
