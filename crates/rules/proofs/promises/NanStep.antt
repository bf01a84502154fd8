-- The smallest input found that shows what the guard is for, in both settings: one component at the largest double, from 0 to 1 by a
-- first step of 1, one attempt allowed, tolerances 0 and 1e-6; the derivative is 0 at the start and 1e308 at the end. The new y
-- overflows, so that its scale is 1e-6 + 0 · infinity, and the error norm is NaN. Unguarded the run tells y = infinity and ends in Success.
-- Guarded the attempt is rejected, half of the step is left, and the run ends unfinished. So a NaN norm is met at all, and by which call.
use Rattle.std.specs.Prelude.{◌≡◌, refl, Bool, true, false, List, [], ◌∷◌, ◌++◌, ℕ, pos, replicate, Float, Some, None}
use Rattle.std.specs.Float.{nan, inf, fin}
use Rattle.std.specs.Float.Ieee.{is_nan, of_bits, of_int, add, sub, mul, div, neg, eq, ne, lt, le}
use Rattle.loops.specs.Choice.{when◌then◌else◌}
use Rattle.loops.specs.Loop.{turns, loop}
use Rattle.number.specs.Helpers.{abs_of, signum_of, min_of, max_of}
use Rattle.roots.specs.Roots.{sqrt_of}
use Rattle.matrix.specs.Size.{sized_of}
use Rattle.matrix.specs.Lu.{single_of, lu_decomp_of}
use Rattle.matrix.specs.Linear.{inside_of, divided_of, solved_of, lin_solve_of}
use Rattle.rules.specs.Literals.{micro}
use Rattle.rules.specs.Tables.{kappa, gammas, alphas, error_consts}
use Rattle.rules.specs.Moves.{copy_turn, copied, fill_turn, filled, load_turn, loaded}
use Rattle.rules.specs.Predict.{predicted_turn, predicted, predict_turn, predict, scale_of, scale_turn, scaled, psi_sum_turn, psi_sum, psi_turn, psied}
use Rattle.rules.specs.Norm.{square_of, square_turn, sum_of_squares, rhs_norm}
use Rattle.rules.specs.Factor.{matrix_turn, matrix_cells, diagonal, matrix_row, matrix, factored}
use Rattle.rules.specs.Newton.{residual_turn, residual, solved, correction, advance_turn, advanced, converged, gave_up}
use Rattle.rules.specs.Judge.{safety_of, weigh_turn, weighed, newest_turn, newest, add_next_turn, add_next, summed_turn, summed, coeff, coeff_turn, coeffs, cont_turn, prepared, accepted_ws}
use Rattle.rules.specs.Attempt.{to_hmax, to_hmin, aimed, newton_start, must_factor, refactored, predicted_all, attempt_at, unless_stuck, fitted, fitted_attempt, attempt, tries, main_loop}
use Rattle.rules.specs.Step.{error_fails, error_factor, error_rejected, step_accepted, error_ws, judged, newton_again, iterated, newton_replied}
use Rattle.rules.specs.Reply.{jacobian_stored, first_turn, first_difference, differences, started, first_step, stepped, newton_turn, first_derivative, first_jacobian}
use Rattle.rules.specs.Checks.{negative, limited, tolerances_checked, checked}
use Rattle.rules.specs.Begin.{span_of, kept, begin_ws, ask_first, begin_run, begin_of}
use Rattle.rules.specs.GoOn.{pivot_outside, limits_damaged, steps_damaged, counters_damaged, damaged_above0, damaged, go_checked, go_within, go_on_of}
use Rattle.rules.specs.Types.{Scalar, Turn, Answer, Derivative, Step, End, Success, NeedLargerNMax, Values, Continue}
use Rattle.rules.specs.State.{After}
use Rattle.rules.specs.Calls.{Configuration, Call, beginning}
use Rattle.rules.specs.Guarding.{meets_nan}
use Rattle.rules.proofs.promises.Solver.{Replied, Line, ours, later}
use Rattle.rules.proofs.promises.AnySolver.{last_of}
use Rattle.rules.proofs.promises.Printed.{nought, half, one}

-- ---- the input

-- (2^53 - 1) · 2^971, and the double nearest to 10^308
abbrev largest : Float
largest = fin false 9007199254740991 (pos 971)

abbrev steep : Float
steep = fin false 156575653125701 (pos 976)

abbrev pub overflowing : Bool → Configuration
overflowing guarded =
    record {
      settings =
          record {
            max_steps = 1;
            max_step = None;
            min_step = None;
            newton_maxiter = 4;
            newton_tol = None;
            first_step = Some one;
            guarded = guarded;
          };
      x0 = nought;
      y0 = largest ∷ [];
      xend = one;
      rtol = Scalar nought;
      rtols = [];
      atol = Scalar micro;
      atols = [];
    }

-- the derivative and the Jacobian at the start, and the word to the start's notice; then the derivative at 1, in both of Newton's passes
abbrev first_replies : List Replied
first_replies = (Values, nought ∷ []) ∷ (Values, nought ∷ []) ∷ (Continue, []) ∷ []

abbrev overflow : Replied
overflow = (Values, steep ∷ [])

abbrev begun : Bool → After Turn
begun guarded = beginning (overflowing guarded) (replicate 35 nan) (replicate 8 nan)

abbrev transcript_of : Bool → List Replied → List Line
transcript_of guarded replies = later ours (last_of ours (begun guarded) first_replies) replies

-- ---- what is told from there on: the answer, y, then derivatives, attempts, accepted and rejected ones

abbrev says : Answer → Float → ℕ → ℕ → ℕ → ℕ → Line
says a v ode total accepted rejected =
    record {
      answer = a;
      y = v ∷ [];
      evals = record { ode = ode; jac = 1; lu = 1; start = 0 };
      steps = record { total = total; accepted = accepted; rejected = rejected };
    }

-- what each has in hand before the second pass's reply, and that reply as a call
abbrev before : Bool → After Turn
before guarded = last_of ours (begun guarded) (first_replies ++ (overflow ∷ []))

abbrev second_pass : Bool → Call
second_pass guarded = record { reply = overflow.0; values = overflow.1; ws = (before guarded).ws; q = (before guarded).q }

pub record Overflows : Type 0 where
  pub unguarded :
      transcript_of false (overflow ∷ overflow ∷ (Continue, []) ∷ []) ≡
      says (Derivative one) (inf false) 2 1 0 0 ∷
      says (Step nought one nought one) (inf false) 3 1 1 0 ∷
      says (End Success one) (inf false) 3 1 1 0 ∷ []
  pub guarded :
      transcript_of true (overflow ∷ overflow ∷ []) ≡
      says (Derivative one) (inf false) 2 1 0 0 ∷ says (End NeedLargerNMax half) (inf false) 3 1 0 1 ∷ []
  pub unguarded_meets : meets_nan (before false).is.run (second_pass false) ≡ true
  pub guarded_meets : meets_nan (before true).is.run (second_pass true) ≡ true

pub overflows : Overflows
unfolding later when◌then◌else◌ turns loop abs_of signum_of min_of max_of sqrt_of sized_of single_of lu_decomp_of inside_of divided_of solved_of lin_solve_of gammas alphas error_consts copy_turn copied fill_turn filled load_turn loaded predicted_turn predicted predict_turn predict scale_of scale_turn scaled psi_sum_turn psi_sum psi_turn psied square_of square_turn sum_of_squares rhs_norm matrix_turn matrix_cells diagonal matrix_row matrix factored residual_turn residual solved correction advance_turn advanced converged gave_up safety_of weigh_turn weighed newest_turn newest add_next_turn add_next summed_turn summed coeff coeff_turn coeffs cont_turn prepared accepted_ws to_hmax to_hmin aimed newton_start must_factor refactored predicted_all attempt_at unless_stuck fitted fitted_attempt attempt tries main_loop error_fails error_factor error_rejected step_accepted error_ws judged newton_again iterated newton_replied jacobian_stored first_turn first_difference differences started first_step stepped newton_turn first_derivative first_jacobian negative limited tolerances_checked checked span_of kept begin_ws ask_first begin_run begin_of pivot_outside limits_damaged steps_damaged counters_damaged damaged_above0 damaged go_checked go_within go_on_of meets_nan is_nan of_bits of_int add sub mul div neg eq lt le ne kappa
overflows = record { unguarded = refl; guarded = refl; unguarded_meets = refl; guarded_meets = refl }
