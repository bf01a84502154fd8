-- `pages::onward` meets its contract: the test is the definition's. Assumes nothing.
use Rattle.std.proofs.Common.{sym, ap, ◌∙◌}
use Rattle.loops.specs.laws.ChoiceLaws.{when_true, when_false}
use Rattle.rules.specs.State.{After}
use Rattle.listing.specs.Types.{Turn}
use Rattle.listing.specs.Pages.{sheet_of, onward}
use Rattle.listing.specs.declared.pages.Stop.TheVariants.{Not}
use Rattle.listing.proofs.pages.onward.Goals as goal

pub returns-then-waits : goal.returns-then-waits
unfolding onward
returns-then-waits c =
    ap (λ (g : After Turn). sheet_of g c.args.next Not) c.replied.ensures ∙ sym (when_true _ _ (sym c.waits.ensures ∙ c.if-waits.true))

pub returns-else-waits : goal.returns-else-waits
unfolding onward
returns-else-waits c = sym (when_false _ _ (sym c.waits.ensures ∙ c.if-waits.false))
