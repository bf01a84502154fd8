-- The solver's words that the definitions of lines use, under one name.
pub use Rattle.rules.specs.declared.types.Status.{Status}
pub use Rattle.rules.specs.declared.types.Status.TheVariants.{Success, UserInterrupt, NeedLargerNMax, StepSizeTooSmall}
pub use Rattle.rules.specs.declared.types.Evals.{Evals}
pub use Rattle.rules.specs.declared.types.Steps.{Steps}
unfoldable pub use Rattle.rules.specs.Refusals.{number_of}
