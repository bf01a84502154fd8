-- `linear::back` meets its contract: each turn of the loop is a turn of the definition. b[k] is read after the division.
-- Assumes nothing.
use Rattle.std.proofs.Common.{◌∙◌, ap, ◌-◌, arith}
use Rattle.loops.specs.Loop.{loop}
use Rattle.loops.specs.laws.Turned.{turn_none, turn_more, turn_all}
use Rattle.matrix.specs.Linear.{upper_turn, back_turn}
use Rattle.matrix.proofs.Columns.{upper_read_once}
use Rattle.matrix.proofs.linear.back.Goals as goal

pub loop-kb-init : goal.loop-kb-init
loop-kb-init c = (omega arith, turn_none (omega arith))

pub loop-kb-preserved : goal.loop-kb-preserved
unfolding back_turn
loop-kb-preserved c =
    let n = c.args.a.n in
    let a = c.args.a.cells.now in
    let k = n - c.loop-kb.kb in
    (omega arith, turn_more c.loop-kb.invariant.1 c.loop-kb-test.true (c.add_column.ensures ∙ upper_read_once n a k _ ∙ ap (loop 0 k (upper_turn n a k)) c.divide.ensures))

pub returns : goal.returns
returns c = turn_all c.loop-kb.invariant.1 c.loop-kb-test.false
