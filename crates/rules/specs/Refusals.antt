-- What a refusal tells: its number in docs/RULES.md, and the values that the number carries. `RefusalTable` says what a call is told, by
-- the table there.
use Rattle.std.proofs.Math.Option.{Option, none, some}
use Rattle.std.specs.Prelude.{ℕ, Float}
use Rattle.rules.specs.Types.{Kind, Refusal, TooManyComponents, WorkspaceShort, QuestionShort, ToleranceShort, NegativeTolerance, NoSteps, LimitTooLarge, ZeroFirstStep, Damaged, HasEnded, WrongReply, SliceShort, Answer, Derivative, Jacobian, Start, Step, End, Refused}

-- the values: 5 carries a tolerance by its kind, its index and its value, 8 the given first step and the direction, and every
-- other number nothing
pub data Carried : Type 0 where
  bare : Carried
  tolerance : Kind → ℕ → Float → Carried
  first_step : Float → Float → Carried

abbrev pub Told : Type 0
Told = ℕ × Carried

abbrev pub told : Refusal → Told
told TooManyComponents = (1, bare)
told WorkspaceShort = (2, bare)
told QuestionShort = (3, bare)
told ToleranceShort = (4, bare)
told (NegativeTolerance kind index value) = (5, tolerance kind index value)
told NoSteps = (6, bare)
told LimitTooLarge = (7, bare)
told (ZeroFirstStep value direction) = (8, first_step value direction)
told Damaged = (9, bare)
told HasEnded = (10, bare)
told WrongReply = (11, bare)
told SliceShort = (12, bare)

-- the number alone
unfoldable pub number_of : Refusal → ℕ
number_of why = (told why).0

-- what an answer tells of refusing: nothing, where it is no refusal
abbrev pub refusal_of : Answer → Option Told
refusal_of (Derivative x) = none
refusal_of (Jacobian x) = none
refusal_of (Start x) = none
refusal_of (Step old new start h) = none
refusal_of (End status h) = none
refusal_of (Refused why) = some (told why)
