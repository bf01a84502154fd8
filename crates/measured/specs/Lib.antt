-- No words of its own: the list is of what the other crates' definitions compute.
pub mod promises
