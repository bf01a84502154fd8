-- `listing::pages::filled`: the invariant of its loop.
use Rattle.std.specs.Prelude.{◌≡◌, ◌-◌}
use Rattle.rules.specs.State.{after}
use Rattle.listing.specs.Pages.{filled, enough}
use Rattle.listing.specs.laws.FilledLaws.{Within}
use Rattle.listing.proofs.pages.filled.Given as goal

-- what is left of the answers, from here on, makes the same page as all of them from the start
abbrev pub invariant-loop : goal.invariant-loop
invariant-loop l =
    record {
      within : Within (after l.s l.ws l.q, l.out);
      same : filled (enough - l.counter) l.a (after l.s l.ws l.q, l.out) ≡ filled enough l.a (after l.initial.s l.initial.ws l.initial.q, l.initial.out);
    }
