-- `rescale::ru_of`: the product with the unit coefficients is the one with `compute_r` at 1.0. Assumes nothing.
use Rattle.rules.specs.Rescale.{compute_r}
use Rattle.unit.proofs.promises.UnitTable.{product_by_the_table}
use Rattle.bdf.proofs.rescale.ru_of.Goals as goal

pub returns : goal.returns
returns g c =
    let r = compute_r g.row.ORDER c.args.factor in
    rw (c.compute_r-r.ensures, c.unit_r-u.ensures, product_by_the_table g.row.ORDER r c.requires)
    at c.matmul.ensures
