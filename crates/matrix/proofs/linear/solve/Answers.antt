-- `linear::solve` meets its contract: its calls are the parts of the definition, in order. Assumes nothing.
use mathlib.Core.Path.{◌≡◌, ◌∙◌}
use mathlib.Core.List.{List}
use Prim.Native.Nat.{ℕ, ◌-◌}
use native.Mathlib.Omega.{arith}
use lib.Ieee.{Float}
use Rattle.loops.specs.Loop.{loop}
use Rattle.matrix.specs.Linear.{forward_turn, back_turn, divided_of, solved_of}
use Rattle.matrix.proofs.linear.solve.Goals as goal

in_order : (n : ℕ) (a : List Float) (ip : List ℕ) (b d e f : List Float) → d ≡ loop 0 (n - 1) (forward_turn n a ip) b → e ≡ loop 1 n (back_turn n a) d
    → f ≡ divided_of n a 0 e → f ≡ solved_of n a ip b
unfolding solved_of
in_order n a ip b d e f e₁ e₂ e₃ = e₃ ∙ rw (e₂, e₁)

pub forward-requires : goal.forward-requires
forward-requires c = let asked = c.requires in
    (omega arith, omega arith, omega arith, asked.3)

pub returns : goal.returns
returns c = let the-forward = c.forward in
    let the-back = c.back in
    in_order _ _ _ _ _ _ _ the-forward.ensures the-back.ensures c.divide.ensures
