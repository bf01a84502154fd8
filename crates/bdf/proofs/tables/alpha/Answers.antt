-- `tables::alpha`: its constants have the bits of the table that the loop of `solve` computes. Assumes nothing.
use mathlib.Core.Path.{ap}
use Rattle.std.specs.Prelude.{List}
use lib.Ieee.{Float}
use Rattle.loops.specs.Cell.{at}
use Rattle.rules.proofs.laws.TableBits.{alpha_bits}
use Rattle.bdf.proofs.tables.alpha.Goals as goal

pub returns : goal.returns
returns c = ap (λ (table : List Float). at table c.args.k) alpha_bits
