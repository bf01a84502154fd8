-- The words of the solver, the reader and the page that the definitions of a listing use, under one name.
pub use Rattle.rules.specs.declared.types.Answer.{Answer}
pub use Rattle.rules.specs.declared.types.Answer.TheVariants.{Derivative, Jacobian, Start, Step, End, Refused}
pub use Rattle.rules.specs.declared.types.Refusal.TheVariants.{Damaged}
pub use Rattle.rules.specs.declared.types.Reply.{Reply}
pub use Rattle.rules.specs.declared.types.Reply.TheVariants.{Values, Continue}
pub use Rattle.rules.specs.declared.types.Awaited.TheVariants.{Ended}
pub use Rattle.rules.specs.declared.types.Evals.{Evals}
pub use Rattle.rules.specs.declared.types.Steps.{Steps}
pub use Rattle.rules.specs.declared.types.Run.{Run}
pub use Rattle.rules.specs.declared.types.Turn.{Turn}
pub use Rattle.job.specs.declared.reader.Job.{Job}
