-- `opening::fitted` meets its contract: the beginning is over just the places of the components, and where it asks the cells are
-- copied whole. Assumes nothing.
use Rattle.std.specs.Prelude.{◌≡◌, true, false, List, Float}
use Rattle.std.proofs.Common.{sym, subst, ◌∙◌}
use Rattle.loops.specs.laws.ChoiceLaws.{when_true, when_false}
use Rattle.rules.specs.Answers.{is_question_or_notice}
use Rattle.rules.specs.State.{After, after}
use Rattle.listing.specs.Types.{Turn}
use Rattle.listing.specs.Pages.{due_of, begun_with}
use Rattle.listing.specs.declared.opening.Listing.{Listing}
use Rattle.listing.proofs.opening.fitted.Goals as goal
use Rattle.listing.proofs.opening.fitted.Goals.{then-waits, else-waits}

module _ (turn : Turn) (ws q b a : List Float) {l : Listing} {g : After Turn} (begun : after turn ws q ≡ g) (due : l ≡ due_of turn) where
  -- with any later contents m of the array that are the definition's
  opened_so : (m : List Float) → m ≡ (begun_with (after turn ws q) b a).1 → ◌≡◌ {A = After Listing × List Float} (after l ws q, m) (begun_with g b a)
  opened_so m e =
      subst (λ (h : After Turn). ◌≡◌ {A = After Listing × List Float} (after l ws q, m) (begun_with h b a)) begun (rw (due, e))

  not_asked : is_question_or_notice turn.answer ≡ false → {m : List Float} → m ≡ a → ◌≡◌ {A = After Listing × List Float} (after l ws q, m) (begun_with g b a)
  not_asked none e = opened_so _ (e ∙ sym (when_false b a none))

  asked : is_question_or_notice turn.answer ≡ true → {m : List Float} → m ≡ b → ◌≡◌ {A = After Listing × List Float} (after l ws q, m) (begun_with g b a)
  asked some e = opened_so _ (e ∙ sym (when_true b a some))

pub returns : goal.returns
returns c =
    elim c.if-waits.branch [
      | then-waits w ↦ asked _ _ _ _ _ (rw c.settings.ensures at c.begin-turn.ensures) c.due.ensures (sym c.waits.ensures ∙ w.if-waits.true) (w.a-is ∙ w.copy_from_slice.ensures.after)
      | else-waits w ↦ not_asked _ _ _ _ _ (rw c.settings.ensures at c.begin-turn.ensures) c.due.ensures (sym c.waits.ensures ∙ w.if-waits.false) w.a-is
    ]
