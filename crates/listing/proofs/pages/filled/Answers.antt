-- `pages::filled` meets its contract: one answer a turn. Assumes nothing.
use Rattle.std.specs.Prelude.{◌≡◌, true, false, ◌⊎◌, List, ℕ, ◌+◌, ◌-◌, ◌<◌, Float}
use Rattle.std.proofs.Common.{refl, sym, ap, subst, ◌∙◌, inl, inr, arith}
use Rattle.rules.specs.State.{after}
use Rattle.listing.specs.Pages.{UnderWay, goes_on, answered, filled, enough}
use Rattle.listing.specs.laws.FilledLaws.{Within, answered_within, filled_none, filled_stops, filled_more}
use Rattle.listing.specs.declared.pages.Stop.{Stop}
use Rattle.listing.specs.declared.pages.Stop.TheVariants.{NoRoom, AtEnd}
use Rattle.listing.proofs.pages.filled.Goals as goal

-- one more answer
another : (n i : ℕ) (a : List Float) (u v w : UnderWay) → i < n → goes_on u.0.is.stop ≡ true → v ≡ answered a u → filled (n - i) a u ≡ w → filled (n - (i + 1)) a v ≡ w
another n i a u v w below going e same =
    let some : 0 < n - i = omega arith in
    let next : n - i - 1 ≡ n - (i + 1) = omega arith in
    rw (e, ← next) (sym (filled_more (n - i) a u some going) ∙ same)

within_still : (a : List Float) (u v : UnderWay) → v ≡ answered a u → Within u → Within v
within_still a u v e h = subst Within (sym e) (answered_within a u h)

stopped : {s : Stop} → (s ≡ NoRoom) ⊎ (s ≡ AtEnd) → goes_on s ≡ false
stopped (inl e) = ap goes_on e
stopped (inr e) = ap goes_on e

pub loop-init : goal.loop-init
loop-init c = record { within = omega arith; same = refl }

pub answered-requires : goal.answered-requires
answered-requires c = (c.loop.invariant.within, (c.requires.0, c.loop.auto.q ∙ c.requires.1))

pub loop-preserved : goal.loop-preserved
loop-preserved c =
    let u : UnderWay = (after c.loop.s c.loop.ws c.loop.q, c.loop.out) in
    record {
      within = within_still c.args.a.now u _ c.answered.ensures c.loop.invariant.within;
      same = another enough c.loop.counter c.args.a.now u _ _ c.loop-test.true (ap goes_on c.in-Not.is) c.answered.ensures c.loop.invariant.same;
    }

pub returns-in-NoRoom : goal.returns-in-NoRoom
returns-in-NoRoom c =
    sym (filled_stops (enough - c.loop.counter) c.args.a.now (after c.loop.s c.loop.ws c.loop.q, c.loop.out) (stopped c.in-NoRoom.is)) ∙ c.loop.invariant.same

pub returns-after-loop : goal.returns-after-loop
returns-after-loop c =
    sym (filled_none (enough - c.loop.counter) c.args.a.now (after c.loop.s c.loop.ws c.loop.q, c.loop.out) (omega arith)) ∙ c.loop.invariant.same
