-- The types of the code under one name, for the definitions that use them.
pub use Rattle.rules.specs.declared.types.Tolerance.{Tolerance}
pub use Rattle.rules.specs.declared.types.Tolerance.TheVariants.{Scalar, Vector}
pub use Rattle.rules.specs.declared.types.Status.{Status}
pub use Rattle.rules.specs.declared.types.Status.TheVariants.{Success, UserInterrupt, NeedLargerNMax, StepSizeTooSmall}
pub use Rattle.rules.specs.declared.types.Kind.{Kind}
pub use Rattle.rules.specs.declared.types.Kind.TheVariants.{Relative, Absolute}
pub use Rattle.rules.specs.declared.types.Refusal.{Refusal}
pub use Rattle.rules.specs.declared.types.Refusal.TheVariants.{TooManyComponents, WorkspaceShort, QuestionShort, ToleranceShort, NegativeTolerance, NoSteps, LimitTooLarge, ZeroFirstStep, Damaged, HasEnded, WrongReply, SliceShort}
pub use Rattle.rules.specs.declared.types.Reply.{Reply}
pub use Rattle.rules.specs.declared.types.Reply.TheVariants.{Values, Continue, Interrupt, Modified}
pub use Rattle.rules.specs.declared.types.Answer.{Answer}
pub use Rattle.rules.specs.declared.types.Answer.TheVariants.{Derivative, Jacobian, Start, Step, End, Refused}
pub use Rattle.rules.specs.declared.types.Awaited.{Awaited}
pub use Rattle.rules.specs.declared.types.Awaited.TheVariants.{FirstDerivative, FirstJacobian, StartDerivative, StartNotice, ModifiedStartDerivative, ModifiedStartJacobian, NewtonDerivative, FailedJacobian, StepNotice, ModifiedStepDerivative, ModifiedStepJacobian, OrderJacobian, Ended}
pub use Rattle.rules.specs.declared.types.Limits.{Limits}
pub use Rattle.rules.specs.declared.types.Span.{Span}
pub use Rattle.rules.specs.declared.types.Evals.{Evals}
pub use Rattle.rules.specs.declared.types.Steps.{Steps}
pub use Rattle.rules.specs.declared.types.Pace.{Pace}
pub use Rattle.rules.specs.declared.types.Aim.{Aim}
pub use Rattle.rules.specs.declared.types.Newton.{Newton}
pub use Rattle.rules.specs.declared.types.Progress.{Progress}
pub use Rattle.rules.specs.declared.types.Run.{Run}
pub use Rattle.rules.specs.declared.types.Turn.{Turn}
