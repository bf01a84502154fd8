-- What is promised of the whole output, of the pages that give it, and of jobs that were written. What its last two lines tell stands in
-- proofs/promises/LastLine.antt.
pub mod Whole
pub mod Written
pub mod PagesJoin
pub mod PagesEnd
pub mod Unique
pub mod Examples
