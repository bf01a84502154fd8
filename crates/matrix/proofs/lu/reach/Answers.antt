-- `lu::reach` meets its contract: from the end of the row back, all that was passed are zeros. Assumes nothing.
use Rattle.std.proofs.Common.{◌≡◌, ◌+◌, ◌-◌, arith}
use Rattle.matrix.proofs.Zeros.{zeros_more}
use Rattle.matrix.proofs.lu.reach.Goals as goal

pub loop-zeros-init : goal.loop-zeros-init
loop-zeros-init c = λ j h g. absurd (omega arith)

pub returns-then-at : goal.returns-then-at
returns-then-at c = (omega arith, omega arith, c.loop-zeros.invariant)

pub loop-zeros-preserved : goal.loop-zeros-preserved
loop-zeros-preserved c =
    let last : c.args.a.n - c.loop-zeros.zeros - 1 ≡ c.args.a.n - (c.loop-zeros.zeros + 1) = omega arith in
    zeros_more c.args.a.n c.args.k (c.args.a.n - c.loop-zeros.zeros) (c.args.a.n - (c.loop-zeros.zeros + 1)) c.args.a.cells.now (omega arith) c.loop-zeros.invariant (rw last at (rw c.at.ensures at c.if-at.false))

pub returns : goal.returns
returns c =
    let end : c.args.a.n - c.loop-zeros.zeros ≡ c.args.k + 1 = omega arith in
    (omega arith, omega arith, rw end at c.loop-zeros.invariant)
