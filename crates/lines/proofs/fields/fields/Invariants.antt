-- The fields to come, put on the page as it is, come to all of them put on the page as it was.
use Rattle.std.proofs.Common.{◌≡◌, drop, map}
use Rattle.text.specs.Page.{seen, SamePage}
use Rattle.lines.specs.Fields.{puts_fields}
use Rattle.lines.proofs.fields.fields.Given as goal

abbrev pub invariant-loop-x : goal.invariant-loop-x
invariant-loop-x g l =
    SamePage l.initial.page l.page
    × (puts_fields (map g.F.Value.text (drop l.x-index l.xs)) (seen l.page) ≡ puts_fields (map g.F.Value.text l.xs) (seen l.initial.page))
