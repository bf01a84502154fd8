-- In every exchange the state is sound, by how its counters stand: so it is not damaged.
use Rattle.std.specs.Prelude.{◌≡◌, refl, List, true, false, ℕ, ◌≤◌}
use Rattle.std.proofs.Common.{sym, true≢false, arith}
use Rattle.loops.specs.Choice.{when◌then◌else◌}
use Rattle.rules.specs.Types.{Answer, Progress, Run, Awaited, FirstDerivative, FirstJacobian, StartDerivative, StartNotice, ModifiedStartDerivative, ModifiedStartJacobian, NewtonDerivative, FailedJacobian, StepNotice, ModifiedStepDerivative, ModifiedStepJacobian, OrderJacobian, Ended}
use Rattle.rules.specs.Replies.{awaits_newton}
use Rattle.rules.specs.Begin.{nothing}
use Rattle.rules.specs.GoOn.{damaged}
use Rattle.rules.proofs.laws.DamageLaws.{Sound}
use Rattle.rules.proofs.laws.UndamagedLaws.{sound_undamaged}
use Rattle.rules.proofs.laws.FactorLaws.{nothing_named, repivoted_named, named_inside}
use Rattle.rules.specs.Calls.{Configuration}
use Rattle.rules.proofs.laws.HistoryLaws.{automatic_once}
use Rattle.rules.specs.laws.Standing.{row_at, here, Stands}
use Rattle.rules.proofs.laws.ExchangeLaws.{Set, Kept, idle, works}

-- where a Newton derivative is awaited, the iteration has a turn left
turn_left : (w : Awaited) (turns accepted : ℕ) → (row_at turns accepted w).ode ≤ (row_at turns accepted w).ode_left → awaits_newton w ≡ true → 1 ≤ turns
turn_left FirstDerivative turns accepted e t = absurd (true≢false (sym t))
turn_left FirstJacobian turns accepted e t = absurd (true≢false (sym t))
turn_left StartDerivative turns accepted e t = absurd (true≢false (sym t))
turn_left StartNotice turns accepted e t = absurd (true≢false (sym t))
turn_left ModifiedStartDerivative turns accepted e t = absurd (true≢false (sym t))
turn_left ModifiedStartJacobian turns accepted e t = absurd (true≢false (sym t))
turn_left NewtonDerivative turns accepted e t = e
turn_left FailedJacobian turns accepted e t = absurd (true≢false (sym t))
turn_left StepNotice turns accepted e t = absurd (true≢false (sym t))
turn_left ModifiedStepDerivative turns accepted e t = absurd (true≢false (sym t))
turn_left ModifiedStepJacobian turns accepted e t = absurd (true≢false (sym t))
turn_left OrderJacobian turns accepted e t = absurd (true≢false (sym t))
turn_left Ended turns accepted e t = absurd (true≢false (sym t))

stands_sound : {c : Configuration} {w : Awaited} {p : Progress} {h : List Answer} → Set c p → Stands c (here p w) p h → Sound w p
stands_sound {c} {w = w} {p = p} {h} s i =
    let once = automatic_once c h in
    record {
      first = i.first;
      fifth = i.fifth;
      limits = omega arith;
      counters = omega arith;
      iterates = λ t. let left = turn_left w _ _ i.enough t in omega arith;
    }

pub nothing_undamaged : damaged Ended nothing ≡ false
unfolding damaged when◌then◌else◌
nothing_undamaged = refl

pub kept_undamaged : {c : Configuration} {run : Run} {h : List Answer} → Kept c run h → damaged run.awaited run.at ≡ false
kept_undamaged (idle none) = nothing_undamaged
kept_undamaged {run = run} (works s i t) =
    let p = run.at in
    let some : 1 ≤ p.n = omega arith in
    let named = repivoted_named (nothing_named some (omega arith)) s.pivots in
    sound_undamaged run.awaited p some (omega arith) (named_inside p.pivot named) (stands_sound s i)
