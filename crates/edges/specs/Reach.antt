-- How long the arrays are of which a beginning's slices are the fronts.
use Rattle.std.specs.Prelude.{ℕ, ◌≤◌}

-- so many components, numbers of workspace and of the question slice, and relative and absolute tolerances there are
pub record Reached (n room questions relative absolute : ℕ) : Type 0 where
  pub components : n ≤ 33
  pub workspace : room ≤ 3104
  pub question : questions ≤ 256
  pub relatives : relative ≤ 32
  pub absolutes : absolute ≤ 32
