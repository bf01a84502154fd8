-- `render::times::first_from`: the invariant of its loop.
use Rattle.std.proofs.Common.{◌≡◌, ◌+◌, ◌-◌, ◌^◌, ◌≤◌}
use Rattle.render.specs.Times.{short, sought, first_from}
use Rattle.render.proofs.times.first_from.Given as goal

abbrev pub invariant-loop : goal.invariant-loop
invariant-loop l =
    let left = 32 - l.counter in
    (l.width ≡ 2 ^ left) × ((l.counter ≤ 32) × ((l.lo + l.width ≤ 2 ^ 32) × (sought (short l.x) left l.lo ≡ first_from l.x)))
