-- What the proofs of several functions cite; and what holds of the definitions, for our own proofs in laws/, for a buyer in promises/.
pub mod Number
pub mod Doubles
pub mod Powers
pub mod Scaling
pub mod laws
pub mod promises
