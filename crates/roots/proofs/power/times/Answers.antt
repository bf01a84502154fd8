-- `roots::power::times` meets its contract: before each turn the digits below i, with what is owed, are the digits read times m.
-- Assumes nothing.
use mathlib.Core.Path.{◌≡◌, refl}
use Prim.Native.Nat.{◌+◌, ◌*◌, ◌/◌, ◌%◌}
use native.Mathlib.Omega.{arith}
use lib.ListN.{get_or}
use Rattle.roots.specs.Numeral.{base, room}
use Rattle.roots.proofs.power.NumeralLaws.{nothing_owed}
use Rattle.roots.proofs.power.Multiplied.{multiplied_none, multiplied_more, product_small, sum_small}
use Rattle.roots.proofs.power.times.Goals as goal

pub loop-i-init : goal.loop-i-init
loop-i-init c = multiplied_none _ _ _ c.requires.1

pub overflow_mul-sum : goal.overflow_mul-sum
overflow_mul-sum c =
    let l = c.loop-i in
    let low = c.args.m % base in
    record { fits = omega (arith, product_small (get_or l.a l.i 0) low (l.invariant.row.digits l.i) (omega arith)) }

pub overflow_add-sum : goal.overflow_add-sum
overflow_add-sum c =
    let m = c.args.m in
    let l = c.loop-i in
    record { fits = omega (arith, sum_small (get_or l.a l.i 0) (m % base) l.last (m / base) l.carry (l.invariant.row.digits l.i) (omega arith) l.invariant.read (omega arith) l.invariant.carried) }

pub loop-i-preserved : goal.loop-i-preserved
loop-i-preserved c = multiplied_more _ _ _ _ _ _ _ c.loop-i.invariant (omega arith) (omega arith) (omega arith) _ refl

pub returns : goal.returns
unfolding room
returns c =
    let l = c.loop-i in
    let m = c.args.m in
    let end : l.i ≡ 14 = omega arith in
    let halves : m % base + m / base * base ≡ m = omega arith in
    (l.invariant.row, nothing_owed _ _ _ _ (rw (end, halves) at l.invariant.owed) c.requires.2)
