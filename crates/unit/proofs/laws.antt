-- What the promises of the table rest on.
pub mod ByOrder
pub mod CornerLaws
pub mod ProductLaws
