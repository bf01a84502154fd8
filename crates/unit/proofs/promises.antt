-- What is promised of the table.
pub mod UnitTable
pub mod Triangle
pub mod Unique
