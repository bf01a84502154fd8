-- What a place of the run waits for, which replies suit it, and how many values they bring; and which answers ask for that.
use Rattle.std.specs.Prelude.{◌≡◌, Bool, true, false, ℕ, ◌*◌, Option, Some, None}
use Rattle.rules.specs.Types.{Reply, Values, Continue, Interrupt, Modified, Awaited, FirstDerivative, FirstJacobian, StartDerivative, StartNotice, ModifiedStartDerivative, ModifiedStartJacobian, NewtonDerivative, FailedJacobian, StepNotice, ModifiedStepDerivative, ModifiedStepJacobian, OrderJacobian, Ended}
use Rattle.rules.specs.Types.{Answer, Derivative, Jacobian, Start, Step, End, Refused}

-- ---- two questions about a place

abbrev pub awaits_newton : Awaited → Bool
awaits_newton FirstDerivative = false
awaits_newton FirstJacobian = false
awaits_newton StartDerivative = false
awaits_newton StartNotice = false
awaits_newton ModifiedStartDerivative = false
awaits_newton ModifiedStartJacobian = false
awaits_newton NewtonDerivative = true
awaits_newton FailedJacobian = false
awaits_newton StepNotice = false
awaits_newton ModifiedStepDerivative = false
awaits_newton ModifiedStepJacobian = false
awaits_newton OrderJacobian = false
awaits_newton Ended = false

abbrev pub is_ended : Awaited → Bool
is_ended FirstDerivative = false
is_ended FirstJacobian = false
is_ended StartDerivative = false
is_ended StartNotice = false
is_ended ModifiedStartDerivative = false
is_ended ModifiedStartJacobian = false
is_ended NewtonDerivative = false
is_ended FailedJacobian = false
is_ended StepNotice = false
is_ended ModifiedStepDerivative = false
is_ended ModifiedStepJacobian = false
is_ended OrderJacobian = false
is_ended Ended = true

-- ---- the reply: how many values one that suits must bring; `None` where it does not suit

-- a question wants values, so many
abbrev pub values_want : ℕ → Reply → Option ℕ
values_want count Values = Some count
values_want count Continue = None
values_want count Interrupt = None
values_want count (Modified x) = None

-- a notice wants a word, and a modification brings the new state
abbrev pub word_wants : ℕ → Reply → Option ℕ
word_wants n Values = None
word_wants n Continue = Some 0
word_wants n Interrupt = Some 0
word_wants n (Modified x) = Some n

-- A derivative is n values, a Jacobian n * n. The last case cannot be met: a run that has ended was refused (10) before.
abbrev pub wants : ℕ → Awaited → Reply → Option ℕ
wants n FirstDerivative r = values_want n r
wants n FirstJacobian r = values_want (n * n) r
wants n StartDerivative r = values_want n r
wants n StartNotice r = word_wants n r
wants n ModifiedStartDerivative r = values_want n r
wants n ModifiedStartJacobian r = values_want (n * n) r
wants n NewtonDerivative r = values_want n r
wants n FailedJacobian r = values_want (n * n) r
wants n StepNotice r = word_wants n r
wants n ModifiedStepDerivative r = values_want n r
wants n ModifiedStepJacobian r = values_want (n * n) r
wants n OrderJacobian r = values_want (n * n) r
wants n Ended r = word_wants n r

-- ---- the answer

-- what a reply to an answer of a run of n components has to bring: to a question values, to a notice a word. Nothing suits an end
-- or a refusal
abbrev pub asks_for : ℕ → Answer → Reply → Option ℕ
asks_for n (Derivative x) r = values_want n r
asks_for n (Jacobian x) r = values_want (n * n) r
asks_for n (Start x) r = word_wants n r
asks_for n (Step old new start h) r = word_wants n r
asks_for n (End status h) r = None
asks_for n (Refused why) r = None

-- the place w waits for just what the answer asks for. At an end the run has ended; a refusal asks nothing
abbrev pub Awaits : ℕ → Answer → Awaited → Type 0
Awaits n (Derivative x) w = (r : Reply) → wants n w r ≡ asks_for n (Derivative x) r
Awaits n (Jacobian x) w = (r : Reply) → wants n w r ≡ asks_for n (Jacobian x) r
Awaits n (Start x) w = (r : Reply) → wants n w r ≡ asks_for n (Start x) r
Awaits n (Step old new start h) w = (r : Reply) → wants n w r ≡ asks_for n (Step old new start h) r
Awaits n (End status h) w = is_ended w ≡ true
Awaits n (Refused why) w = Unit
