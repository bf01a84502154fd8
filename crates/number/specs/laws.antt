-- What holds of a double's sign, for the proofs of the helpers.
pub mod Sign
