-- `roots::inverse::inverse_root` meets its contract: k is tested, and then the root is that of `inverse_root_of`. Assumes nothing.
use mathlib.Core.Path.{sym, ap, ◌∙◌}
use mathlib.Core.Bool.{◌&&◌}
use Rattle.std.proofs.Common.{inl, inr}
use lib.Dec.{leb}
use borrow.Author.Tests.{le-leb, lt-leb}
use Rattle.loops.specs.laws.ChoiceLaws.{when_true, when_false, and_fails, and_passes}
use Rattle.loops.specs.Refusal.{gives}
use Rattle.roots.specs.Roots.{root_said, inverse_root_of}
use Rattle.roots.proofs.inverse.inverse_root.Goals as goal

pub returns-then-k-lt1 : goal.returns-then-k-lt1
unfolding root_said inverse_root_of
returns-then-k-lt1 c =
    sym (when_false _ _ (elim c.then-k-lt1.either [
      | inl below ↦ ap (λ t. t && leb c.args.k 7) (lt-leb 1 _ below)
      | inr above ↦ and_fails (leb 1 c.args.k) (λ _. lt-leb _ 7 above.1)
    ]))

pub returns : goal.returns
unfolding root_said inverse_root_of
returns c = ap gives c.inverse_root_of.ensures ∙ sym (when_true _ _ (and_passes (le-leb 1 _ c.if-k-lt1.false) (le-leb _ 7 c.if-k-gt7.false)))
