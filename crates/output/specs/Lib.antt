-- Which place comes back where a page is written out.
pub mod Output
pub mod promises
