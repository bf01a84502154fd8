-- `roots::power::not_above` meets its contract: each order of x and y is a way of the choice. Assumes nothing.
use Rattle.std.proofs.Common.{sym, ◌∙◌, lt-ltb, le-ltb, arith}
use Rattle.std.proofs.lemmas.Cmp.{ranked}
use Rattle.loops.specs.laws.ChoiceLaws.{when_true, when_false}
use Rattle.roots.proofs.power.not_above.Goals as goal

pub returns-in-Less : goal.returns-in-Less
returns-in-Less c = sym (when_true _ _ (lt-ltb _ _ (ranked c.args.x c.args.y _ c.in-Less.ensures)))

pub returns-in-Greater : goal.returns-in-Greater
returns-in-Greater c =
    let above = ranked c.args.x c.args.y _ c.in-Greater.ensures in
    sym (when_false _ _ (le-ltb c.args.x c.args.y (omega (arith, above))) ∙ when_true _ _ (lt-ltb _ _ above))

pub returns-in-Equal : goal.returns-in-Equal
returns-in-Equal c =
    let same = ranked c.args.x c.args.y _ c.in-Equal.ensures in
    sym (when_false _ _ (le-ltb c.args.x c.args.y (omega (arith, same))) ∙ when_false _ _ (le-ltb c.args.y c.args.x (omega (arith, same))))
