-- `linear::forward` meets its contract: each turn of the loop is a turn of the definition. b[k] is read after the exchange.
-- Assumes nothing.
use Rattle.std.proofs.Common.{◌≡◌, ◌∙◌, ap, List, ℕ, ◌+◌, Float, arith}
use Rattle.loops.specs.Cell.{at}
use Rattle.loops.specs.Loop.{loop}
use Rattle.loops.specs.laws.Turned.{turn_none, turn_more, turn_all}
use Rattle.matrix.specs.Linear.{swapped, added_turn, lower_turn, forward_turn}
use Rattle.matrix.proofs.Columns.{lower_read_once}
use Rattle.matrix.proofs.linear.forward.Goals as goal

in_order : (n k m : ℕ) (a b d e : List Float) → d ≡ swapped m k b → e ≡ loop (k + 1) n (added_turn n a k (at d k)) d
    → e ≡ loop (k + 1) n (lower_turn n a k) (swapped m k b)
in_order n k m a b d e e₁ e₂ =
    e₂ ∙ lower_read_once n a k d ∙ ap (loop (k + 1) n (lower_turn n a k)) e₁

pub loop-k-init : goal.loop-k-init
loop-k-init c = (omega arith, turn_none (omega arith))

pub swap-requires : goal.swap-requires
swap-requires c = (omega (arith, c.requires.3 c.loop-k.k c.loop-k-test.true), omega arith)

pub loop-k-preserved : goal.loop-k-preserved
unfolding forward_turn
loop-k-preserved c = (
  omega arith,
  turn_more c.loop-k.invariant.1 c.loop-k-test.true
      (in_order c.args.a.n c.loop-k.k _ c.args.a.cells.now _ _ _ c.swap.ensures c.add_column.ensures),
)

pub returns : goal.returns
returns c = turn_all c.loop-k.invariant.1 c.loop-k-test.false
