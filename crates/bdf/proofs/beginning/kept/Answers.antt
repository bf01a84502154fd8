-- `beginning::kept`: each part by its own call. Assumes nothing.
use Rattle.std.proofs.Common.{◌≡◌, Bool, true, false, refl}
use mir.Val.{bool_byte}
use Rattle.rules.specs.Begin.{guard_of, kept}
use Rattle.bdf.proofs.beginning.kept.Goals as goal

as_number : (on : Bool) → bool_byte on ≡ guard_of on
as_number true = refl
as_number false = refl

pub returns : goal.returns
unfolding kept
returns c =
    rw (c.fresh.ensures, c.span.ensures, c.from.ensures, as_number c.args.settings.guarded, c.max.ensures, c.max-rtol_min.ensures, c.least.ensures)
