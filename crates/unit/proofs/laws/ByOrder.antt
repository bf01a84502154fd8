-- What is shown of each number from 0 to 5, one after the other, holds of all: the orders, and the rows and columns of the table.
use Rattle.std.specs.Prelude.{ℕ, zero, suc, ◌≤◌}
use Rattle.std.proofs.Common.{arith}
use Rattle.rules.specs.Tables.{max_order}

pub by_order : (P : ℕ → Type 0) → P 0 → P 1 → P 2 → P 3 → P 4 → P 5 → (order : ℕ) → order ≤ max_order → P order
by_order P p0 p1 p2 p3 p4 p5 zero h = p0
by_order P p0 p1 p2 p3 p4 p5 (suc zero) h = p1
by_order P p0 p1 p2 p3 p4 p5 (suc (suc zero)) h = p2
by_order P p0 p1 p2 p3 p4 p5 (suc (suc (suc zero))) h = p3
by_order P p0 p1 p2 p3 p4 p5 (suc (suc (suc (suc zero)))) h = p4
by_order P p0 p1 p2 p3 p4 p5 (suc (suc (suc (suc (suc zero))))) h = p5
by_order P p0 p1 p2 p3 p4 p5 (suc (suc (suc (suc (suc (suc k)))))) h = absurd (omega arith)
