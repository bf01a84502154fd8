-- What the contracts of this program cite.
pub mod Forgeries
pub mod Reach
