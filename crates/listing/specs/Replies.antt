-- What the job program replies to the solver: A y to a question for the derivative, A to one for the Jacobian, Continue to a notice.
use Rattle.std.specs.Prelude.{List, [], ◌*◌, length, take, replicate, Float}
use Rattle.loops.specs.Arithmetic.{+0}
use Rattle.rules.specs.State.{After}
use Rattle.rules.specs.Calls.{Call, going_on, size}
use Rattle.job.specs.Right.{right_of}
use Rattle.listing.specs.Types.{Answer, Derivative, Jacobian, Start, Step, End, Refused, Reply, Values, Continue, Turn}

-- the kind of the reply. An end and a refusal have none: the last two cases are not met
abbrev pub reply_to : Answer → Reply
reply_to (Derivative x) = Values
reply_to (Jacobian x) = Values
reply_to (Start x) = Continue
reply_to (Step old new start h) = Continue
reply_to (End status h) = Continue
reply_to (Refused why) = Continue

-- A y, in a row of its own
abbrev pub times_of : List Float → List Float → List Float
times_of a y = right_of a y (replicate (length y) +0)

-- the values of the reply, by A and the state y that is asked about
abbrev pub values_for : List Float → List Float → Answer → List Float
values_for a y (Derivative x) = times_of a y
values_for a y (Jacobian x) = a
values_for a y (Start x) = []
values_for a y (Step old new start h) = []
values_for a y (End status h) = []
values_for a y (Refused why) = []

-- the reply to what g says, as a call. A has its n by n cells in the first places of `a`, and the state that is asked about stands in
-- the first n of the question slice. Both slices are handed back as g left them
abbrev pub replying : List Float → After Turn → Call
replying a g =
    let n = size g in
    let answer = g.is.answer in
    record { reply = reply_to answer; values = values_for (take (n * n) a) (take n g.q) answer; ws = g.ws; q = g.q }

-- the solver's next answer
unfoldable pub replied : List Float → After Turn → After Turn
replied a g = going_on g.is.run (replying a g)
