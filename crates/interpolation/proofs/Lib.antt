-- What is proved of the definitions: for our own proofs in laws/, for a buyer in promises/.
pub mod promises
