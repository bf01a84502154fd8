-- The first job of docs/JOB-FORMAT.md: one component, 100,000 steps, Newton 4, from 0 to 1, first step 0.5, tolerances 1e-3 and
-- 1e-6, y0 = 1, A = 0. The caller answers every derivative and Jacobian with 0 and continues at every notice; the notices and the
-- end that the definitions then compute are what that page prints, 02 §6's `start` among it. Beside it the same with one step allowed,
-- whose last line it prints too; and, not printed there, with y' = 1 in place of y' = 0, where y moves, and with an automatic start as far as
-- its notice. The job is unguarded, as all jobs are, and meets no error norm that is NaN.
use Rattle.std.specs.Prelude.{◌≡◌, refl, false, List, [], ◌∷◌, ℕ, pos, negsuc, replicate, Float, Option, Some, None}
use Rattle.std.specs.Float.{nan, fin}
use Rattle.std.specs.Float.Ieee.{is_nan, of_bits, of_int, add, sub, mul, div, neg, eq, ne, lt, le}
use Rattle.loops.specs.Choice.{when◌then◌else◌}
use Rattle.loops.specs.Loop.{turns, loop}
use Rattle.number.specs.Helpers.{abs_of, signum_of, min_of, max_of}
use Rattle.roots.specs.Roots.{sqrt_of}
use Rattle.matrix.specs.Size.{sized_of}
use Rattle.matrix.specs.Lu.{single_of, lu_decomp_of}
use Rattle.matrix.specs.Linear.{inside_of, divided_of, solved_of, lin_solve_of}
use Rattle.rules.specs.Literals.{milli, micro}
use Rattle.rules.specs.Tables.{kappa, gammas, alphas, error_consts}
use Rattle.rules.specs.Moves.{copy_turn, copied, fill_turn, filled, load_turn, loaded}
use Rattle.rules.specs.Predict.{predicted_turn, predicted, predict_turn, predict, scale_of, scale_turn, scaled, psi_sum_turn, psi_sum, psi_turn, psied}
use Rattle.rules.specs.Norm.{square_of, square_turn, sum_of_squares, rhs_norm}
use Rattle.rules.specs.Factor.{matrix_turn, matrix_cells, diagonal, matrix_row, matrix, factored}
use Rattle.rules.specs.Newton.{residual_turn, residual, solved, correction, advance_turn, advanced, converged}
use Rattle.rules.specs.Judge.{safety_of, weigh_turn, weighed, newest_turn, newest, add_next_turn, add_next, summed_turn, summed, coeff, coeff_turn, coeffs, cont_turn, prepared, accepted_ws}
use Rattle.rules.specs.Attempt.{to_hmax, to_hmin, aimed, newton_start, must_factor, refactored, predicted_all, attempt_at, unless_stuck, fitted, fitted_attempt, attempt, tries, main_loop}
use Rattle.rules.specs.Step.{error_fails, step_accepted, error_ws, judged, iterated, newton_replied}
use Rattle.rules.specs.Starting.{squares_turn, squares, raw_guess, first_guess, guess, euler_turn, euler, second_turn, second, h1, final_guess, hinit, within_span}
use Rattle.rules.specs.Reply.{jacobian_stored, first_turn, first_difference, differences, started, hinit_asks, first_step, hinit_replied, stepped, newton_turn, first_derivative, first_jacobian}
use Rattle.rules.specs.Checks.{negative, limited, tolerances_checked, checked}
use Rattle.rules.specs.Begin.{span_of, kept, begin_ws, ask_first, begin_run, begin_of}
use Rattle.rules.specs.GoOn.{pivot_outside, limits_damaged, steps_damaged, counters_damaged, damaged_above0, damaged, go_checked, go_within, go_on_of}
use Rattle.rules.specs.Types.{Scalar, Answer, Turn, Derivative, Jacobian, Start, Step, End, Success, NeedLargerNMax, Values, Continue}
use Rattle.rules.specs.State.{After}
use Rattle.rules.specs.Calls.{Configuration, beginning}
use Rattle.rules.specs.Guarding.{meets_nan}
use Rattle.rules.proofs.promises.Solver.{Solver, Replied, Line, ours, next, later, transcript}

-- 0, 1/2 and 1
abbrev pub nought : Float
nought = fin false 0 (pos 0)

abbrev pub half : Float
half = fin false 1 (negsuc 0)

abbrev pub one : Float
one = fin false 1 (pos 0)

abbrev pub more_half : Float
more_half = fin false 3 (negsuc 0)

abbrev pub two : Float
two = fin false 1 (pos 1)

-- with so many steps, and this first step
abbrev job_with : ℕ → Option Float → Configuration
job_with steps first =
    record {
      settings =
          record {
            max_steps = steps;
            max_step = None;
            min_step = None;
            newton_maxiter = 4;
            newton_tol = None;
            first_step = first;
            guarded = false;
          };
      x0 = nought;
      y0 = one ∷ [];
      xend = one;
      rtol = Scalar milli;
      rtols = [];
      atol = Scalar micro;
      atols = [];
    }

abbrev pub job : ℕ → Configuration
job steps = job_with steps (Some half)

abbrev automatic_job : Configuration
automatic_job = job_with 100000 None

-- a transcript. The slices may hold anything before it: here NaN
abbrev transcript_of : Solver → Configuration → List Replied → List Line
transcript_of o c replies = transcript o c (replicate 35 nan) (replicate 8 nan) replies

abbrev pub transcript_of_job : Solver → ℕ → List Replied → List Line
transcript_of_job o steps replies = transcript_of o (job steps) replies

abbrev value : Float → Replied
value v = (Values, v ∷ [])

abbrev continue : Replied
continue = (Continue, [])

-- a line: the answer, y, then the counters ode, jac, lu, start, total, accepted, rejected
abbrev says : Answer → Float → ℕ → ℕ → ℕ → ℕ → ℕ → ℕ → ℕ → Line
says a v ode jac lu start total accepted rejected =
    record {
      answer = a;
      y = v ∷ [];
      evals = record { ode = ode; jac = jac; lu = lu; start = start };
      steps = record { total = total; accepted = accepted; rejected = rejected };
    }

-- ---- as printed

-- for every derivative f, and 0 for the Jacobian
abbrev pub replies : Float → List Replied
replies f = value f ∷ value nought ∷ continue ∷ value f ∷ continue ∷ value f ∷ continue ∷ []

abbrev pub lines : List Line
lines =
    says (Derivative nought) one 0 0 0 0 0 0 0 ∷
    says (Jacobian nought) one 1 0 0 0 0 0 0 ∷
    says (Start nought) one 1 1 0 0 0 0 0 ∷
    says (Derivative half) one 1 1 1 0 1 0 0 ∷
    says (Step nought half nought half) one 2 1 1 0 1 1 0 ∷
    says (Derivative one) one 2 1 1 0 2 1 0 ∷
    says (Step half one half half) one 3 1 1 0 2 2 0 ∷
    says (End Success half) one 3 1 1 0 2 2 0 ∷ []

-- ---- with `max_steps` 1: the second attempt is not made

abbrev pub fewer : List Replied
fewer = value nought ∷ value nought ∷ continue ∷ value nought ∷ continue ∷ []

abbrev pub fewer_lines : List Line
fewer_lines =
    says (Derivative nought) one 0 0 0 0 0 0 0 ∷
    says (Jacobian nought) one 1 0 0 0 0 0 0 ∷
    says (Start nought) one 1 1 0 0 0 0 0 ∷
    says (Derivative half) one 1 1 1 0 1 0 0 ∷
    says (Step nought half nought half) one 2 1 1 0 1 1 0 ∷
    says (End NeedLargerNMax half) one 2 1 1 0 1 1 0 ∷ []

-- ---- with y' = 1: y goes from 1 by 3/2 to 2

abbrev pub rising_lines : List Line
rising_lines =
    says (Derivative nought) one 0 0 0 0 0 0 0 ∷
    says (Jacobian nought) one 1 0 0 0 0 0 0 ∷
    says (Start nought) one 1 1 0 0 0 0 0 ∷
    says (Derivative half) more_half 1 1 1 0 1 0 0 ∷
    says (Step nought half nought half) more_half 2 1 1 0 1 1 0 ∷
    says (Derivative one) two 2 1 1 0 2 1 0 ∷
    says (Step half one half half) two 3 1 1 0 2 2 0 ∷
    says (End Success half) two 3 1 1 0 2 2 0 ∷ []

-- ---- with an automatic start: its derivative is the third question, asked at 1e-6, and `start` shows it from there on

abbrev started_by_itself : List Replied
started_by_itself = value nought ∷ value nought ∷ value nought ∷ []

abbrev automatic_lines : List Line
automatic_lines =
    says (Derivative nought) one 0 0 0 0 0 0 0 ∷
    says (Jacobian nought) one 1 0 0 0 0 0 0 ∷
    says (Derivative micro) one 1 1 0 1 0 0 0 ∷
    says (Start nought) one 1 1 0 1 0 0 0 ∷ []

-- ---- none of the printed job's replies brings an attempt to its judgement whose error norm is NaN

abbrev pub NoNan : After Turn → List Replied → Type 0
NoNan g [] = Unit
NoNan g (r ∷ replies) =
    (meets_nan g.is.run (record { reply = r.0; values = r.1; ws = g.ws; q = g.q }) ≡ false) × NoNan (next ours g r) replies

-- ---- the definitions compute all of it

pub record Computed : Type 0 where
  pub printed : transcript_of_job ours 100000 (replies nought) ≡ lines
  pub one_step : transcript_of_job ours 1 fewer ≡ fewer_lines
  pub rising : transcript_of_job ours 100000 (replies one) ≡ rising_lines
  pub automatic : transcript_of ours automatic_job started_by_itself ≡ automatic_lines
  pub no_nan : NoNan (beginning (job 100000) (replicate 35 nan) (replicate 8 nan)) (replies nought)

pub computed : Computed
unfolding later when◌then◌else◌ turns loop abs_of signum_of min_of max_of sqrt_of sized_of single_of lu_decomp_of inside_of divided_of solved_of lin_solve_of gammas alphas error_consts copy_turn copied fill_turn filled load_turn loaded predicted_turn predicted predict_turn predict scale_of scale_turn scaled psi_sum_turn psi_sum psi_turn psied square_of square_turn sum_of_squares rhs_norm matrix_turn matrix_cells diagonal matrix_row matrix factored residual_turn residual solved correction advance_turn advanced converged safety_of weigh_turn weighed newest_turn newest add_next_turn add_next summed_turn summed coeff coeff_turn coeffs cont_turn prepared accepted_ws to_hmax to_hmin aimed newton_start must_factor refactored predicted_all attempt_at unless_stuck fitted fitted_attempt attempt tries main_loop step_accepted error_fails error_ws judged iterated newton_replied jacobian_stored first_turn first_difference differences squares_turn squares raw_guess first_guess guess euler_turn euler second_turn second h1 final_guess hinit within_span started hinit_asks first_step hinit_replied stepped newton_turn first_derivative first_jacobian negative limited tolerances_checked checked span_of kept begin_ws ask_first begin_run begin_of pivot_outside limits_damaged steps_damaged counters_damaged damaged_above0 damaged go_checked go_within go_on_of meets_nan is_nan of_bits of_int add sub mul div neg eq lt le ne kappa
computed =
    record {
      printed = refl;
      one_step = refl;
      rising = refl;
      automatic = refl;
      no_nan = (refl, (refl, (refl, (refl, (refl, (refl, (refl, tt)))))));
    }
