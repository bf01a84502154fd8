-- What a job's run prints, whole, and how a listing gives it page by page.
pub mod Types
-- ---- the whole output
pub mod Replies
pub mod Printed
pub mod Telling
-- ---- page by page
pub mod Pages
pub mod laws
pub mod promises
