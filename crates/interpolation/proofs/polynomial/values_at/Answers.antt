-- `polynomial::values_at`: the constant in an arm's call is the arm's key, so the order itself. Assumes nothing.
use Rattle.std.proofs.Common.{◌≡◌, arith}
use Rattle.interpolation.proofs.polynomial.values_at.Goals as goal

pub returns-in-5 : goal.returns-in-5
returns-in-5 c = rw c.in-5.is c.values_of_order.ensures

pub returns-in-4 : goal.returns-in-4
returns-in-4 c = rw c.in-4.is c.values_of_order-in-4.ensures

pub returns-in-3 : goal.returns-in-3
returns-in-3 c = rw c.in-3.is c.values_of_order-in-3.ensures

pub returns-in-2 : goal.returns-in-2
returns-in-2 c = rw c.in-2.is c.values_of_order-in-2.ensures

pub returns-in-1 : goal.returns-in-1
returns-in-1 c = rw c.in-1.is c.values_of_order-in-1.ensures

pub returns-in_default : goal.returns-in_default
returns-in_default c =
    let none : c.args.order ≡ 0 = omega arith in
    rw none c.values_of_order-in_default.ensures
