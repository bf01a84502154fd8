-- Rows of n places one after the other: row r of m lies within their m * n places, and so does each of its cells.
use Rattle.std.specs.Prelude.{ℕ, ◌+◌, ◌*◌, ◌≤◌, ◌<◌}
use Rattle.std.proofs.Common.{mul-le-mul_right, arith}

pub row_within : {r m : ℕ} (n : ℕ) → r < m → r * n + n ≤ m * n
row_within {r} {m} n h =
    let whole : (r + 1) * n ≤ m * n = mul-le-mul_right n (omega arith) in
    omega arith

-- a cell of m rows of n lies among their m * n places
pub inside : {r m c n : ℕ} → r < m → c < n → r * n + c < m * n
inside {r} {m} {c} {n} hr hc =
    let h : (r + 1) * n ≤ m * n = mul-le-mul_right n (omega arith) in
    omega arith
