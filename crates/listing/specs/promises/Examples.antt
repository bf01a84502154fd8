-- The two jobs that docs/JOB-FORMAT.md prints, from the bytes of the file to the bytes that are printed, by computation: one component,
-- 100,000 steps and then 1, Newton 4, from 0 to 1, first step 0.5, tolerances 1e-3 and 1e-6, y0 = 1, A = 0.
use Rattle.std.specs.Prelude.{◌≡◌, refl, Bool, true, false, List, [], ◌∷◌, ◌++◌, ℕ, suc, take, Float, None}
use Rattle.std.proofs.Common.{◌∙◌, append-nil}
use Rattle.std.proofs.lemmas.Bool.{false≢true}
use Prim.Native.Char.{code}
use Prim.Native.String
use Rattle.std.specs.Float.Ieee.{of_bits, to_bits, of_int, add, sub, mul, div, neg, eq, ne, lt, le}
use Rattle.loops.specs.Choice.{when◌then◌else◌}
use Rattle.loops.specs.Loop.{turns, loop}
use Rattle.loops.specs.Arithmetic.{+0}
use Rattle.loops.specs.Refusal.{gives, refuses}
use Rattle.loops.specs.laws.ChoiceLaws.{when_true, when_false}
use Rattle.number.specs.Helpers.{abs_of, signum_of, min_of, max_of}
use Rattle.roots.specs.Roots.{sqrt_of}
use Rattle.matrix.specs.Size.{sized_of}
use Rattle.matrix.specs.Lu.{single_of, lu_decomp_of}
use Rattle.matrix.specs.Linear.{inside_of, divided_of, solved_of, lin_solve_of}
use Rattle.rules.specs.Tables.{kappa, gammas, alphas, error_consts}
use Rattle.rules.specs.Moves.{copy_turn, copied, fill_turn, filled, load_turn, loaded}
use Rattle.rules.specs.Predict.{predicted_turn, predicted, predict_turn, predict, scale_of, scale_turn, scaled, psi_sum_turn, psi_sum, psi_turn, psied}
use Rattle.rules.specs.Norm.{square_of, square_turn, sum_of_squares, rhs_norm}
use Rattle.rules.specs.Factor.{matrix_turn, matrix_cells, diagonal, matrix_row, matrix, factored}
use Rattle.rules.specs.Newton.{residual_turn, residual, solved, correction, advance_turn, advanced, converged}
use Rattle.rules.specs.Judge.{safety_of, weigh_turn, weighed, newest_turn, newest, add_next_turn, add_next, summed_turn, summed, coeff, coeff_turn, coeffs, cont_turn, prepared, accepted_ws}
use Rattle.rules.specs.Attempt.{to_hmax, to_hmin, aimed, newton_start, must_factor, refactored, predicted_all, attempt_at, unless_stuck, fitted, fitted_attempt, attempt, tries, main_loop}
use Rattle.rules.specs.Step.{error_fails, step_accepted, error_ws, judged, iterated, newton_replied}
use Rattle.rules.specs.Reply.{jacobian_stored, first_turn, first_difference, differences, started, first_step, stepped, newton_turn, first_derivative, first_jacobian}
use Rattle.rules.specs.Checks.{negative, limited, tolerances_checked, checked}
use Rattle.rules.specs.Begin.{span_of, kept, begin_ws, ask_first, begin_run, begin_of}
use Rattle.rules.specs.GoOn.{pivot_outside, limits_damaged, steps_damaged, counters_damaged, damaged_above0, damaged, go_checked, go_within, go_on_of}
use Rattle.rules.specs.Answers.{is_question_or_notice}
use Rattle.rules.specs.Calls.{Configuration, beginning}
use Rattle.rules.specs.State.{After}
use Rattle.rules.specs.Bounds.{most}
use Rattle.text.specs.Digits.{digit, spelled, places_within}
use Rattle.text.specs.Words.{word_from}
use Rattle.lines.specs.Lines.{spaced, line, hexes}
use Rattle.job.specs.Packed.{head_bits, words_of}
use Rattle.job.specs.Reading.{accepted_of, form_of, head_read, form_read, first_step_of, job_of, read_of, ReadOutcome, configuration_of}
use Rattle.job.specs.Right.{sum_turn, row_sum, right_turn, right_of}
use Rattle.listing.specs.Replies.{replied}
use Rattle.listing.specs.Printed.{lines_from, printed, reading, lines_for, line_of, blank_work, blank_question}
use Rattle.listing.specs.Types.{Turn}

-- a text's bytes
abbrev bytes : String.String → List ℕ
bytes String.[] = []
bytes (String.◌∷◌ c t) = code c ∷ bytes t

-- 0, 1/2 and 1, packed
abbrev nought : List ℕ
nought = 0 ∷ 0 ∷ 0 ∷ 0 ∷ 0 ∷ 0 ∷ 0 ∷ 0 ∷ []

abbrev half : List ℕ
half = 0x3F ∷ 0xE0 ∷ 0 ∷ 0 ∷ 0 ∷ 0 ∷ 0 ∷ 0 ∷ []

abbrev one : List ℕ
one = 0x3F ∷ 0xF0 ∷ 0 ∷ 0 ∷ 0 ∷ 0 ∷ 0 ∷ 0 ∷ []

-- 1e-3 and 1e-6
abbrev milli : List ℕ
milli = 0x3F ∷ 0x50 ∷ 0x62 ∷ 0x4D ∷ 0xD2 ∷ 0xF1 ∷ 0xA9 ∷ 0xFC ∷ []

abbrev micro : List ℕ
micro = 0x3E ∷ 0xB0 ∷ 0xC6 ∷ 0xF7 ∷ 0xA0 ∷ 0xB5 ∷ 0xED ∷ 0x8D ∷ []

-- behind the head: x0, xend, first_step, both tolerances, y0, A
abbrev doubles : List ℕ
doubles = nought ++ (one ++ (half ++ (milli ++ (micro ++ (one ++ nought)))))

-- 000001 00011000011010100000 0000100 0 000000
abbrev pub job : List ℕ
job = 0x04 ∷ 0x61 ∷ 0xA8 ∷ 0x02 ∷ 0x00 ∷ doubles

-- 000001 00000000000000000001 0000100 0 000000
abbrev pub job_of_one_step : List ℕ
job_of_one_step = 0x04 ∷ 0x00 ∷ 0x00 ∷ 0x42 ∷ 0x00 ∷ doubles

-- ---- the first job, answer by answer: its eight answers in one computation are nested deeper than the checker follows

-- what was read as a configuration; for a refusal any other
abbrev configured : ReadOutcome → Configuration
configured (gives j, y0, a) = configuration_of j (take j.n y0)
configured (refuses number, y0, a) =
    configuration_of record { n = 0; max_steps = 0; newton_maxiter = 0; x0 = +0; xend = +0; first_step = None; rtol = +0; atol = +0 } []

abbrev is_read : ReadOutcome → Bool
is_read (gives j, y0, a) = true
is_read (refuses number, y0, a) = false

read_lines : (r : ReadOutcome) → is_read r ≡ true → lines_for r ≡ lines_from (suc (most (configured r))) r.2 (beginning (configured r) blank_work blank_question)
read_lines (gives j, y0, a) e = refl
read_lines (refuses number, y0, a) e = absurd (false≢true e)

lines_in : (r : ReadOutcome) (k : ℕ) {t : List ℕ} → is_read r ≡ true → most (configured r) ≡ k
    → lines_from (suc k) r.2 (beginning (configured r) blank_work blank_question) ≡ t → lines_for r ≡ t
lines_in r k e n h = read_lines r e ∙ rw n h

-- an answer's line, then those that follow
onward : (k : ℕ) (a : List Float) (g : After Turn) {l rest : List ℕ} → is_question_or_notice g.is.answer ≡ true → line_of g ≡ l → lines_from k a (replied a g) ≡ rest
    → lines_from (suc k) a g ≡ l ++ rest
unfolding lines_from
onward k a g q e h = rw (e, when_true (lines_from k a (replied a g)) [] q, h)

last : (k : ℕ) (a : List Float) (g : After Turn) {l : List ℕ} → is_question_or_notice g.is.answer ≡ false → line_of g ≡ l → lines_from (suc k) a g ≡ l
unfolding lines_from
last k a g {l} q e = rw (e, when_false (lines_from k a (replied a g)) [] q) (append-nil l)

abbrev cells : List Float
cells = (reading job).2

abbrev first : After Turn
first = beginning (configured (reading job)) blank_work blank_question

abbrev second : After Turn
second = replied cells first

abbrev third : After Turn
third = replied cells second

abbrev fourth : After Turn
fourth = replied cells third

abbrev fifth : After Turn
fifth = replied cells fourth

abbrev sixth : After Turn
sixth = replied cells fifth

abbrev seventh : After Turn
seventh = replied cells sixth

abbrev eighth : After Turn
eighth = replied cells seventh

pub record Computed : Type 0 where
  pub whole :
      printed job ≡
      bytes "I 0000000000000000 3FF0000000000000\nS 3FE0000000000000 3FF0000000000000\nS 3FF0000000000000 3FF0000000000000\nE 0 3FE0000000000000 2 2 0 3 1 1 0\n"
  pub one_step :
      printed job_of_one_step ≡
      bytes "I 0000000000000000 3FF0000000000000\nS 3FE0000000000000 3FF0000000000000\nE 2 3FE0000000000000 1 1 0 2 1 1 0\n"

pub computed : Computed
unfolding when◌then◌else◌ turns loop abs_of signum_of min_of max_of sqrt_of sized_of single_of lu_decomp_of inside_of divided_of solved_of lin_solve_of gammas alphas error_consts copy_turn copied fill_turn filled load_turn loaded predicted_turn predicted predict_turn predict scale_of scale_turn scaled psi_sum_turn psi_sum psi_turn psied square_of square_turn sum_of_squares rhs_norm matrix_turn matrix_cells diagonal matrix_row matrix factored residual_turn residual solved correction advance_turn advanced converged safety_of weigh_turn weighed newest_turn newest add_next_turn add_next summed_turn summed coeff coeff_turn coeffs cont_turn prepared accepted_ws to_hmax to_hmin aimed newton_start must_factor refactored predicted_all attempt_at unless_stuck fitted fitted_attempt attempt tries main_loop step_accepted error_fails error_ws judged iterated newton_replied jacobian_stored first_turn first_difference differences started first_step stepped newton_turn first_derivative first_jacobian negative limited tolerances_checked checked span_of kept begin_ws ask_first begin_run begin_of pivot_outside limits_damaged steps_damaged counters_damaged damaged_above0 damaged go_checked go_within go_on_of of_bits of_int add sub mul div neg eq lt le ne kappa to_bits digit spelled places_within word_from spaced line hexes head_bits words_of accepted_of form_of head_read form_read first_step_of job_of read_of sum_turn row_sum right_turn right_of replied lines_from printed
computed = record { whole = whole_job; one_step = refl }
  where
    is_job : is_read (reading job) ≡ true
    is_job = refl

    limit : most (configured (reading job)) ≡ 700006
    limit = refl

    asks_first : is_question_or_notice first.is.answer ≡ true
    asks_first = refl

    line_first : line_of first ≡ bytes ""
    line_first = refl

    asks_second : is_question_or_notice second.is.answer ≡ true
    asks_second = refl

    line_second : line_of second ≡ bytes ""
    line_second = refl

    asks_third : is_question_or_notice third.is.answer ≡ true
    asks_third = refl

    line_third : line_of third ≡ bytes "I 0000000000000000 3FF0000000000000\n"
    line_third = refl

    asks_fourth : is_question_or_notice fourth.is.answer ≡ true
    asks_fourth = refl

    line_fourth : line_of fourth ≡ bytes ""
    line_fourth = refl

    asks_fifth : is_question_or_notice fifth.is.answer ≡ true
    asks_fifth = refl

    line_fifth : line_of fifth ≡ bytes "S 3FE0000000000000 3FF0000000000000\n"
    line_fifth = refl

    asks_sixth : is_question_or_notice sixth.is.answer ≡ true
    asks_sixth = refl

    line_sixth : line_of sixth ≡ bytes ""
    line_sixth = refl

    asks_seventh : is_question_or_notice seventh.is.answer ≡ true
    asks_seventh = refl

    line_seventh : line_of seventh ≡ bytes "S 3FF0000000000000 3FF0000000000000\n"
    line_seventh = refl

    asks_eighth : is_question_or_notice eighth.is.answer ≡ false
    asks_eighth = refl

    line_eighth : line_of eighth ≡ bytes "E 0 3FE0000000000000 2 2 0 3 1 1 0\n"
    line_eighth = refl

    whole_run : lines_from 700007 cells first ≡
        bytes "I 0000000000000000 3FF0000000000000\nS 3FE0000000000000 3FF0000000000000\nS 3FF0000000000000 3FF0000000000000\nE 0 3FE0000000000000 2 2 0 3 1 1 0\n"
    whole_run =
        onward 700006 cells first asks_first line_first (onward 700005 cells second asks_second line_second (onward 700004 cells third asks_third line_third (onward 700003 cells fourth asks_fourth line_fourth (onward 700002 cells fifth asks_fifth line_fifth (onward 700001 cells sixth asks_sixth line_sixth (onward 700000 cells seventh asks_seventh line_seventh (last 699999 cells eighth asks_eighth line_eighth)))))))

    whole_job : printed job ≡
        bytes "I 0000000000000000 3FF0000000000000\nS 3FE0000000000000 3FF0000000000000\nS 3FF0000000000000 3FF0000000000000\nE 0 3FE0000000000000 2 2 0 3 1 1 0\n"
    whole_job = lines_in (reading job) 700006 is_job limit whole_run
