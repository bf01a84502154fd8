-- The beginning: past the checks, what `solve` computes before its first derivative, and the first question.
use Rattle.std.specs.Prelude.{List, ◌++◌, Bool, true, false, ℕ, max, ltb, eqb, length, take, drop, replicate, Float, Option, None, Result, Ok, Err, ⊤, unwrap_or}
use Rattle.std.specs.Float.Ieee
use Rattle.std.specs.Float.{inf}
use Rattle.loops.specs.Choice.{when◌then◌else◌}
use Rattle.loops.specs.Loop.{loop}
use Rattle.number.specs.Helpers.{abs_of, signum_of, min_of, max_of}
use Rattle.roots.specs.Roots.{sqrt_of}
use Rattle.rules.specs.Types.{Tolerance, Scalar, Vector, TooManyComponents, Limits, Span, Progress, Turn, Refused, End, Success, Ended, FirstDerivative, Refusal}
use Rattle.loops.specs.Arithmetic.{◌⊖◌, ◌⊗◌, ◌⊘◌, +0}
use Rattle.rules.specs.Literals.{ten, three_hundredths, nano}
use Rattle.matrix.specs.Size.{max_n}
use Rattle.rules.specs.Predict.{epsilon}
use Rattle.rules.specs.Places.{y, rtol, atol, need, row}
use Rattle.rules.specs.Moves.{filled, loaded}
use Rattle.rules.specs.Checks.{entry, checked}
use Rattle.rules.specs.State.{changed, turn, After, after}
use Rattle.rules.specs.Reply.{ask_derivative}
use Rattle.rules.specs.declared.settings.BDF.{BDF}

-- ---- what the run keeps

-- the least relative tolerance, from infinity on
unfoldable pub least_turn : Tolerance → List Float → ℕ → Float → Float
least_turn r rs i least = min_of least (entry r rs i)

unfoldable pub least : Tolerance → List Float → ℕ → Float
least r rs n = loop 0 n (least_turn r rs) (inf false)

-- eps_term.max(sqrt_term), from rtol_min
unfoldable pub derived_tol : Float → Float
derived_tol rtol_min = max_of (ten ⊗ epsilon ⊘ rtol_min) (min_of (sqrt_of rtol_min) three_hundredths)

-- newton_tol_val
unfoldable pub newton_tol_val : Option Float → Float → Float
newton_tol_val given rtol_min = let t = unwrap_or given (derived_tol rtol_min) in when Ieee.le t +0 then nano else t

unfoldable pub span_of : BDF → Float → Float → Float → Span
span_of s x0 xend rtol_min =
    record {
      xend = xend;
      direction = signum_of (xend ⊖ x0);
      hmax = abs_of (unwrap_or s.max_step (abs_of (xend ⊖ x0)));
      hmin = abs_of (unwrap_or s.min_step +0);
      newton_tol = newton_tol_val s.newton_tol rtol_min;
      first_step = s.first_step;
    }

-- the setting `guarded` as the state keeps it
abbrev pub guard_of : Bool → ℕ
guard_of true = 1
guard_of false = 0

-- a state with nothing done: the counters 0, order 1
abbrev pub fresh : ℕ → Limits → Span → Float → Progress
fresh n limits span x =
    record {
      n = n;
      limits = limits;
      span = span;
      evals = record { ode = 0; jac = 0; lu = 0; start = 0 };
      steps = record { total = 0; accepted = 0; rejected = 0 };
      order = 1;
      x = x;
      pace = changed +0;
      aim = record { h_signed = +0; x_start = +0; x_new = +0; c = +0 };
      current_c = +0;
      newton = record { iters = 0; prev = +0; safety = +0; error_norm = +0 };
      pivot = replicate max_n 0;
    }

-- the state at the beginning: rtol_min is at least EPSILON, and a Newton limit of 0 is read as 1
unfoldable pub kept : BDF → ℕ → Float → Float → Tolerance → List Float → Progress
kept s n x0 xend r rs =
    let rtol_min = max_of (least r rs n) epsilon in
    fresh n (record { steps = s.max_steps; newton = max s.newton_maxiter 1; guarded = guard_of s.guarded }) (span_of s x0 xend rtol_min) x0

-- the state of a run that never began, or that had nothing to do
abbrev pub nothing : Progress
nothing =
    fresh 0 (record { steps = 1; newton = 1; guarded = 0 })
    (record { xend = +0; direction = +0; hmax = +0; hmin = +0; newton_tol = +0; first_step = None }) +0

-- ---- the workspace at the beginning: zeros, then y, rtol and atol

abbrev pub tolerances : Tolerance → List Float → ℕ → ℕ → List Float → List Float
tolerances (Scalar t) values to n ws = filled to n t ws
tolerances Vector values to n ws = loaded values 0 to n ws

unfoldable pub begin_ws : ℕ → List Float → Tolerance → List Float → Tolerance → List Float → List Float → List Float
begin_ws n y0 r rs a als ws =
    tolerances a als (row n atol) n (tolerances r rs (row n rtol) n (loaded y0 0 (row n y) n (filled 0 (need n) +0 ws)))

-- ---- the whole

-- the workspace is laid out and the first derivative asked
unfoldable pub ask_first : Progress → List Float → Tolerance → List Float → Tolerance → List Float → List Float → List Float → After Turn
ask_first p y0 r rs a als ws q = ask_derivative FirstDerivative p (begin_ws (length y0) y0 r rs a als ws) q

-- past the checks: the work is done on the needed places alone, and what lies beyond them stays
unfoldable pub begin_run : BDF → Float → List Float → Float → Tolerance → List Float → Tolerance → List Float → List Float → List Float → After Turn
begin_run s x0 y0 xend r rs a als ws q =
    let n = length y0 in
    let begun = ask_first (kept s n x0 xend r rs) y0 r rs a als (take (need n) ws) q in
    after begun.is (begun.ws ++ drop (need n) ws) begun.q

-- a refused beginning changes nothing and hands back a state that has ended
abbrev pub begin_turn :
    BDF → Float → List Float → Float → Tolerance → List Float → Tolerance → List Float → Result ⊤ Refusal → List Float → List Float → After Turn
begin_turn s x0 y0 xend r rs a als (Err why) ws q = after (turn (Refused why) Ended nothing) ws q
begin_turn s x0 y0 xend r rs a als (Ok tt) ws q = begin_run s x0 y0 xend r rs a als ws q

unfoldable pub begin_of : BDF → Float → List Float → Float → Tolerance → List Float → Tolerance → List Float → List Float → List Float → After Turn
begin_of s x0 y0 xend r rs a als ws q =
    let n = length y0 in
    when ltb max_n n then after (turn (Refused TooManyComponents) Ended nothing) ws q
    else when eqb n 0 then after (turn (End Success +0) Ended nothing) ws q
    else begin_turn s x0 y0 xend r rs a als (checked s n (signum_of (xend ⊖ x0)) r rs a als (length ws) (length q)) ws q
