-- What a reader of the contracts below the public ones meets.
pub mod Factoring
pub mod Order
pub mod Said
