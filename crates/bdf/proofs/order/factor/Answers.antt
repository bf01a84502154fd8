-- `order::factor`: for k from 1 to 7 the inverse root is given and not refused. Assumes nothing.
use Rattle.std.proofs.Common.{◌≡◌, ℕ, ◌≤◌, Float, Result, Ok, Err}
use borrow.Author.Tests.{le-leb}
use Rattle.loops.specs.Choice.{when◌then◌else◌}
use Rattle.loops.specs.Refusal.{gives, refuses}
use Rattle.roots.specs.declared.KOutside.{KOutside}
use Rattle.roots.specs.Roots.{inverse_root, inverse_root_of, root_said}
use Rattle.bdf.proofs.order.factor.Goals as goal

answers : (k : ℕ) (x : Float) → 1 ≤ k → k ≤ 7 → inverse_root_of k x ≡ gives (inverse_root k x)
unfolding inverse_root_of when◌then◌else◌
answers k x some few = rw (le-leb 1 k some, le-leb k 7 few)

root_given : (k : ℕ) (x : Float) (r : Result Float KOutside) → 1 ≤ k → k ≤ 7 → root_said r ≡ inverse_root_of k x → r ≡ Ok (inverse_root k x)
unfolding root_said
root_given k x (Ok v) some few said =
    let given : gives v ≡ gives (inverse_root k x) = rw (answers k x some few) at said in
    cc
root_given k x (Err e) some few said =
    let refused : refuses 14 ≡ gives (inverse_root k x) = rw (answers k x some few) at said in
    cc

pub returns : goal.returns
returns c = rw (root_given _ _ _ c.requires.0 c.requires.1 c.inverse_root.ensures) at c.unwrap_or.ensures
