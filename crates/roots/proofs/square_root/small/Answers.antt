-- `roots::square_root::small` meets its contract: 0 is its own root, and no digit is lost where the others are moved up.
-- Assumes nothing.
use mathlib.Core.Path.{◌≡◌, sym, ap, ◌∙◌}
use Prim.Native.Nat.{ℕ, ◌-◌, ◌*◌, ◌%◌, ◌^◌, ◌≤◌, ◌<◌}
use native.Mathlib.Nat.{mod-eq_of_lt}
use native.Mathlib.Omega.{arith}
use lib.Ieee.{Float, binary64, of_bits}
use Rattle.roots.specs.Roots.{sqrt_of}
use Rattle.roots.specs.WholeRoot.{scaled_root}
use Rattle.roots.proofs.laws.SqrtLaws.{sqrt_small, own_root, zero_own}
use Rattle.roots.proofs.square_root.small.Goals as goal

moved_up : (x r : Float) (b j : ℕ) → x ≡ of_bits binary64 b → 0 < b → b < 2 ^ 52 → b * 2 ^ j < 2 ^ 53 → j ≤ 52
    → r ≡ scaled_root (b * 2 ^ j % 2 ^ 64) (1074 - j) → r ≡ sqrt_of x
moved_up x r b j is above below fits few e =
    let whole : b * 2 ^ j % 2 ^ 64 ≡ b * 2 ^ j = mod-eq_of_lt (omega arith) in
    e ∙ ap (λ (a : ℕ). scaled_root a (1074 - j)) whole ∙ sym (sqrt_small b j above below (omega arith)) ∙ ap sqrt_of (sym is)

pub returns-then-b-eq0 : goal.returns-then-b-eq0
returns-then-b-eq0 c = own_root c.args.x 0 (c.requires.1 ∙ ap (of_bits binary64) c.if-b-eq0.true) zero_own

pub returns : goal.returns
returns c =
    let places = c.places-j.ensures in
    moved_up _ _ c.args.b c.places-j.result c.requires.1 (omega arith) c.requires.0 places.1 places.2 c.scaled_root.ensures
