-- The solver's words that the definitions of a job use, under one name.
pub use Rattle.rules.specs.declared.types.Tolerance.TheVariants.{Scalar}
pub use Rattle.rules.specs.declared.settings.BDF.{BDF}
pub use Rattle.rules.specs.Settings.{defaults}
pub use Rattle.matrix.specs.Size.{max_n}
