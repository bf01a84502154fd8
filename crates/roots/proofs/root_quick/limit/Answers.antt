-- `roots::root_quick::limit` meets its contract: the power of two that is given has the places that are left. Assumes nothing.
use mathlib.Core.Path.{◌≡◌, ◌∙◌}
use Prim.Native.Nat.{ℕ, ◌+◌, ◌-◌, ◌*◌, ◌%◌, ◌^◌, ◌≤◌}
use native.Mathlib.Nat.{one-mul}
use native.Mathlib.Omega.{arith}
use lib.Dec.{lit<}
use lib.Pow.{shl_exact}
use Rattle.roots.specs.Quick.{LimitIs}
use Rattle.roots.proofs.root_quick.QuickLaws.{limit_is}
use Rattle.roots.proofs.root_quick.limit.Goals as goal

shifted : (k q g : ℕ) → q * k + g ≤ 1021 * k + 1085 → 1021 * k + 1085 - (q * k + g) ≤ 63
    → LimitIs k q g ((1 * 2 ^ (1021 * k + 1085 - (q * k + g))) % 2 ^ 64)
shifted k q g h l =
    let w = 1021 * k + 1085 - (q * k + g) in
    let exact : (1 * 2 ^ w) % 2 ^ 64 ≡ 2 ^ w = shl_exact {a = 1} 1 w 64 (lit< tt) (omega arith) ∙ one-mul (2 ^ w) in
    rw exact (limit_is k q g w (omega arith))

pub returns-then-have-used-lt64 : goal.returns-then-have-used-lt64
returns-then-have-used-lt64 c = (omega arith, shifted _ _ _ c.if-used-have.true (omega (arith, c.if-have-used-lt64.true)))
