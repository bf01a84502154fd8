-- What a plausible slip would change. Each law here names one thing that is easily got otherwise, and fails where it is. Of the slips
-- that docs/RULES.md lists, the reported old x and the first of equal factors are here; ru transposed is RowSumLaw's, the start's
-- evaluation counted into `ode` Demand3's, a NaN let through by min or max `number`'s, and D[0] told for the new y the code's contract's.
use Rattle.std.specs.Prelude.{◌≡◌, refl, List, [], ◌∷◌, Bool, true, false, ℕ, ◌≤◌, pos, negsuc, Float}
use Rattle.std.proofs.Common.{sym, ap, ◌∙◌}
use Rattle.std.proofs.lemmas.Bool.{false≢true}
use Rattle.std.specs.Float.{nan, inf, fin}
use Rattle.std.specs.Float.Ieee.{of_bits, of_int, add, sub, mul, div, neg, eq, lt, le}
use Rattle.loops.specs.Choice.{when◌then◌else◌}
use Rattle.loops.specs.laws.ChoiceLaws.{when_true}
use Rattle.loops.specs.Loop.{loop, turns}
use Rattle.loops.specs.Arithmetic.{◌⊖◌, +0, one}
use Rattle.number.specs.Helpers.{abs_of}
use Rattle.rules.specs.Types.{Progress, Turn, Answer, Step, Success, UserInterrupt, NeedLargerNMax, StepSizeTooSmall}
use Rattle.rules.specs.Answers.{is_success}
use Rattle.rules.specs.Places.{y, rtol, atol, get}
use Rattle.rules.specs.Starting.{sk}
use Rattle.rules.specs.Moves.{load_turn, loaded}
use Rattle.rules.specs.Rescale.{first_row, m_turn, m_row, m_table, r_turn, r_row, r_table, compute_r, scaled_turn, add_scaled, product_turn, product_row, matmul, new_row_turn, new_row, new_rows, rescaled, change_d}
use Rattle.rules.specs.Attempt.{Tried, rejected, says}
use Rattle.rules.specs.Step.{error_rejected, step_accepted}
use Rattle.rules.specs.Order.{best_of}
use Rattle.rules.specs.Reply.{jacobian_stored, restart_jacobian}
use Rattle.rules.specs.laws.Said.{Cause, Said, ends, asks}
use Rattle.rules.proofs.laws.MainLoopLaws.{main_loop_says}

-- ---- rescaling

-- a factor of exactly 1.0 leaves every bit of D alone
pub factor_1_changes_nothing : (n order : ℕ) (d : List Float) → change_d n order one d ≡ d
unfolding change_d eq of_bits
factor_1_changes_nothing n order d = when_true _ _ refl

-- a sum starts from +0, so that -0 in D vanishes: order 1, D -0, -0, by 0.5
pub sums_start_from_0 :
    change_d 1 1 (fin false 1 (negsuc 0)) (fin true 0 (pos 0) ∷ fin true 0 (pos 0) ∷ []) ≡ fin false 0 (pos 0) ∷ fin false 0 (pos 0) ∷ []
unfolding when◌then◌else◌ loop turns of_bits of_int add sub mul div eq first_row m_turn m_row m_table r_turn r_row r_table compute_r scaled_turn add_scaled product_turn product_row matmul new_row_turn new_row new_rows load_turn loaded rescaled change_d
sums_start_from_0 = refl

-- ---- the starting step

abs_even : (x : Float) → abs_of (neg x) ≡ abs_of x
unfolding abs_of neg
abs_even nan = refl
abs_even (inf s) = refl
abs_even (fin s m e) = refl

-- a component and its opposite have one scale: a negative one does not shrink it
pub scale_even :
    (n i : ℕ) (ws other : List Float) → get n other y i ≡ neg (get n ws y i) → get n other rtol i ≡ get n ws rtol i →
    get n other atol i ≡ get n ws atol i → sk n other i ≡ sk n ws i
scale_even n i ws other e r a = rw (e, r, a, abs_even (get n ws y i)) refl

-- ---- the attempt

-- what an attempt says, which is not rejected
abbrev pub Tells : Answer → Tried → Type 0
Tells a (rejected p) = ⊥
Tells a (says t) = t.answer ≡ a

-- a rejection for its error keeps the factoring, up to date or not
abbrev pub RejectedWithFactoring : Bool → Tried → Type 0
RejectedWithFactoring current (rejected p) = p.pace.lu_is_current ≡ current
RejectedWithFactoring current (says t) = ⊥

pub error_keeps_the_factoring :
    (p : Progress) (safety norm : Float) (ws : List Float) →
    RejectedWithFactoring p.pace.lu_is_current (error_rejected p safety norm ws).is
unfolding error_rejected
error_keeps_the_factoring p safety norm ws = refl

-- a step's notice: the reported old x is the new x less h, and the interpolant's start is where the attempt began
pub old_x_and_start :
    (p : Progress) (safety norm : Float) (ws q : List Float) →
    Tells (Step (p.aim.x_new ⊖ p.aim.h_signed) p.aim.x_new p.aim.x_start p.aim.h_signed)
    (step_accepted p safety norm ws q).is
unfolding step_accepted
old_x_and_start p safety norm ws q = refl

-- ---- the choice of order

-- of equal factors the last wins; a NaN compares as equal, as the best so far and as the one met
pub last_of_equals : (best_of one one +0 ≡ 1) × (best_of one one one ≡ 2)
unfolding best_of when◌then◌else◌ lt le of_bits
last_of_equals = (refl, refl)

pub nan_as_equal : (best_of nan one +0 ≡ 1) × (best_of one nan nan ≡ 2)
unfolding best_of when◌then◌else◌ lt le of_bits
nan_as_equal = (refl, refl)

-- ---- a start that the caller modified

only_at_its_end : {p : Progress} (t : Turn) → Said p t → is_success t.answer ≡ true → Cause Success t.run.at
only_at_its_end t (ends Success e cause within m) s = cause
only_at_its_end t (ends UserInterrupt e cause within m) s = absurd (false≢true (sym (ap (λ (u : Turn). is_success u.answer) e) ∙ s))
only_at_its_end t (ends NeedLargerNMax e cause within m) s = absurd (false≢true (sym (ap (λ (u : Turn). is_success u.answer) e) ∙ s))
only_at_its_end t (ends StepSizeTooSmall e cause within m) s = absurd (false≢true (sym (ap (λ (u : Turn). is_success u.answer) e) ∙ s))
only_at_its_end t (asks e fresh within m) s = absurd (false≢true (sym (ap (λ (u : Turn). is_success u.answer) e) ∙ s))

-- it meets no test for Success: where the run then ends as Success, nothing at all is left of its way. (From beyond xend it goes on,
-- away from it.)
pub no_success_beyond :
    (p : Progress) (values ws q : List Float) → p.steps.total ≤ p.limits.steps → is_success (restart_jacobian p values ws q).is.answer ≡ true →
    Cause Success (restart_jacobian p values ws q).is.run.at
unfolding restart_jacobian jacobian_stored
no_success_beyond p values ws q h s = only_at_its_end _ (main_loop_says _ _ q h) s
