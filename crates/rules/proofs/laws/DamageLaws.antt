-- What holds of damage: each test of it as facts on numbers where it is false, and that a state without it has all that the
-- reply's stages ask of its numbers.
use Rattle.std.specs.Prelude.{◌≡◌, refl, List, Bool, true, false, not, ◌&&◌, ℕ, zero, suc, ◌+◌, ◌-◌, ◌*◌, ◌≤◌, ◌<◌, leb, ltb, get_or}
use Rattle.std.proofs.Common.{sym, ◌∙◌, mul-le-mul, add-zero, arith, leb-true, leb-false, ltb-false, lt-ltb, le-ltb, le-leb}
use Rattle.std.proofs.lemmas.Bool.{not-false}
use Rattle.loops.specs.laws.ChoiceLaws.{and_first, and_second}
use Rattle.loops.specs.Loop.{loop}
use Rattle.loops.specs.laws.Turned.{Turned, loop_more}
use Rattle.rules.specs.Types.{Awaited, Progress}
use Rattle.rules.specs.laws.Ready.{Sane, Awake}
use Rattle.rules.specs.Replies.{awaits_newton}
use Rattle.rules.specs.GoOn.{pivot_turn, pivot_outside, limits_damaged, steps_damaged, counters_damaged, damaged_above0}
use Rattle.rules.proofs.laws.PassedLaws.{or_first, or_second}

-- ---- a pivot at or above n: once found, it stays found

still_outside : (n : ℕ) (pivot : List ℕ) (i k : ℕ) → loop 0 i (pivot_turn n pivot) false ≡ true → loop 0 (i + k) (pivot_turn n pivot) false ≡ true
unfolding pivot_turn
still_outside n pivot i zero e = rw (add-zero i) e
still_outside n pivot i (suc k) e =
    let next : i + suc k ≡ (i + k) + 1 = omega arith in
    rw (next, loop_more 0 (i + k) (pivot_turn n pivot) false (omega arith), still_outside n pivot i k e)

pub pivot_found :
    {n i : ℕ} (pivot : List ℕ) → i + 1 < n → Turned 0 (n - 1) (pivot_turn n pivot) false i false → n ≤ get_or pivot i 0 → true ≡ pivot_outside n pivot
unfolding pivot_outside pivot_turn
pivot_found {n} {i} pivot l turned above =
    let here : loop 0 (i + 1) (pivot_turn n pivot) false ≡ true
    = loop_more 0 i (pivot_turn n pivot) false (omega arith) ∙ (rw (← turned.is) (le-leb n (get_or pivot i 0) above)) in
    let rest : (i + 1) + (n - 1 - (i + 1)) ≡ n - 1 = omega arith in
    sym (rw rest at (still_outside n pivot (i + 1) (n - 1 - (i + 1)) here))

-- ---- accepted + rejected above the total, told without the sum, which could wrap

pub rejected_above : {total rejected : ℕ} (accepted : ℕ) → total < rejected → ltb total (accepted + rejected) ≡ true
rejected_above {total} {rejected} accepted h = lt-ltb total (accepted + rejected) (omega arith)

pub accepted_above : {total rejected accepted : ℕ} → rejected ≤ total → total - rejected < accepted → ltb total (accepted + rejected) ≡ true
accepted_above {total} {rejected} {accepted} l h = lt-ltb total (accepted + rejected) (omega arith)

pub within_total : {total rejected accepted : ℕ} → rejected ≤ total → accepted ≤ total - rejected → ltb total (accepted + rejected) ≡ false
within_total {total} {rejected} {accepted} l h = le-ltb total (accepted + rejected) (omega arith)

-- ---- what each test says where it is false

pub record Limited (p : Progress) : Type 0 where
  pub some : 1 ≤ p.limits.steps
  pub patient : p.limits.steps ≤ 1000000
  pub turns : 1 ≤ p.limits.newton
  pub patience : p.limits.newton ≤ 64

-- a range is left where `lo ≤ x && x ≤ hi` is false
in_range : (lo x hi : ℕ) → not (leb lo x && leb x hi) ≡ false → (lo ≤ x) × (x ≤ hi)
in_range lo x hi e =
    let both = not-false (leb lo x && leb x hi) e in
    (leb-true lo x (and_first (leb lo x) (leb x hi) both), leb-true x hi (and_second (leb lo x) (leb x hi) both))

pub limited : (p : Progress) → limits_damaged p ≡ false → Limited p
unfolding limits_damaged
limited p e =
    let steps = in_range 1 p.limits.steps 1000000 (or_first (not (leb 1 p.limits.steps && leb p.limits.steps 1000000)) _ e) in
    let newton = in_range 1 p.limits.newton 64 (or_second (not (leb 1 p.limits.steps && leb p.limits.steps 1000000)) _ e) in
    record { some = steps.0; patient = steps.1; turns = newton.0; patience = newton.1 }

pub record Stepped (p : Progress) : Type 0 where
  pub counted : p.steps.total ≤ p.limits.steps
  pub parted : p.steps.accepted + p.steps.rejected ≤ p.steps.total

pub stepped : (p : Progress) → steps_damaged p ≡ false → Stepped p
unfolding steps_damaged
stepped p e =
    record {
      counted = ltb-false p.limits.steps p.steps.total (or_first (ltb p.limits.steps p.steps.total) _ e);
      parted = ltb-false p.steps.total (p.steps.accepted + p.steps.rejected) (or_second (ltb p.limits.steps p.steps.total) _ e);
    }

-- so the counters' own bounds are small: the total, and the derivatives' bound but for its 2
pub derivatives_bounded : (p : Progress) → limits_damaged p ≡ false → steps_damaged p ≡ false
    → (p.steps.total ≤ 1000000) × (p.limits.newton * p.steps.total + p.steps.accepted ≤ 65000000)
derivatives_bounded p e f =
    let l = limited p e in
    let s = stepped p f in
    let total : p.steps.total ≤ 1000000 = omega (arith, l.patient, s.counted) in
    let product : p.limits.newton * p.steps.total ≤ 64 * 1000000 = mul-le-mul l.patience total in
    (total, omega (arith, s.parted))

pub record Bounds (p : Progress) : Type 0 where
  pub steps : Stepped p
  pub equals : p.pace.equal_steps ≤ p.steps.accepted
  pub factors : p.evals.lu ≤ p.steps.total
  pub derived : p.evals.jac ≤ 2 + p.steps.total
  pub evaluated : p.evals.ode ≤ 2 + p.limits.newton * p.steps.total + p.steps.accepted
  pub start_once : p.evals.start ≤ 1

pub bounds : (p : Progress) → counters_damaged p ≡ false → Bounds p
unfolding counters_damaged
bounds p e =
    let past-steps = or_second (steps_damaged p) _ e in
    let past-equals = or_second (ltb p.steps.accepted p.pace.equal_steps) _ past-steps in
    let past-factors = or_second (ltb p.steps.total p.evals.lu) _ past-equals in
    let past-jacobians = or_second (ltb (2 + p.steps.total) p.evals.jac) _ past-factors in
    let most = 2 + p.limits.newton * p.steps.total + p.steps.accepted in
    record {
      steps = stepped p (or_first (steps_damaged p) _ e);
      equals = ltb-false p.steps.accepted p.pace.equal_steps (or_first (ltb p.steps.accepted p.pace.equal_steps) _ past-steps);
      factors = ltb-false p.steps.total p.evals.lu (or_first (ltb p.steps.total p.evals.lu) _ past-equals);
      derived = ltb-false (2 + p.steps.total) p.evals.jac (or_first (ltb (2 + p.steps.total) p.evals.jac) _ past-factors);
      evaluated = ltb-false most p.evals.ode (or_first (ltb most p.evals.ode) _ past-jacobians);
      start_once = ltb-false 1 p.evals.start (or_second (ltb most p.evals.ode) _ past-jacobians);
    }

-- a state with components that is not damaged
pub record Sound (w : Awaited) (p : Progress) : Type 0 where
  pub first : 1 ≤ p.order
  pub fifth : p.order ≤ 5
  pub limits : Limited p
  pub counters : Bounds p
  pub iterates : awaits_newton w ≡ true → p.newton.iters < p.limits.newton

-- the last test of a row: false, and its first half true
last_test : (b c : Bool) → (b && c) ≡ false → b ≡ true → c ≡ false
last_test true c e t = e
last_test false true e t = sym t
last_test false false e t = refl

pub sound : (w : Awaited) (p : Progress) → damaged_above0 w p ≡ false → Sound w p
unfolding damaged_above0
sound w p e =
    let order = not (leb 1 p.order && leb p.order 5) in
    let past-order = or_second order _ e in
    let past-limits = or_second (limits_damaged p) _ past-order in
    let past-pivots = or_second (pivot_outside p.n p.pivot) _ past-limits in
    let past-counters = or_second (counters_damaged p) _ past-pivots in
    let range = in_range 1 p.order 5 (or_first order _ e) in
    record {
      first = range.0;
      fifth = range.1;
      limits = limited p (or_first (limits_damaged p) _ past-order);
      counters = bounds p (or_first (counters_damaged p) _ past-pivots);
      iterates = λ t. leb-false p.limits.newton p.newton.iters (last_test (awaits_newton w) _ past-counters t);
    }

-- ---- what the stages ask of a sound state

pub sound_is_sane : {w : Awaited} {p : Progress} → Sound w p → Sane p
sound_is_sane {w} {p} s =
    let parted = s.counters.steps.parted in
    record {
      first = s.first;
      fifth = s.fifth;
      patient = s.limits.patient;
      counted = s.counters.steps.counted;
      rejects = omega arith;
      factors = s.counters.factors;
    }

pub sound_is_awake : {w : Awaited} {p : Progress} → Sound w p → Awake p
sound_is_awake {w} {p} s =
    let patient = s.limits.patient in
    let counted = s.counters.steps.counted in
    let parted = s.counters.steps.parted in
    let total : p.steps.total ≤ 1000000 = omega arith in
    let accepted : p.steps.accepted ≤ 1000000 = omega arith in
    let product : p.limits.newton * p.steps.total ≤ 64 * 1000000 = mul-le-mul s.limits.patience total in
    let evaluated = s.counters.evaluated in
    let derived = s.counters.derived in
    let equals = s.counters.equals in
    record {
      evaluated = omega arith;
      derived = omega arith;
      accepts = accepted;
      pending = omega arith;
      equals = omega arith;
      turns = s.limits.turns;
      patience = s.limits.patience;
    }
