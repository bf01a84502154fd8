-- A factoring's answer and its pivots, as the definition has them.
use Rattle.std.specs.Prelude.{ℕ, Bool, List}
use Rattle.rules.specs.Factor.{Factors}

abbrev pub factors : Bool → List ℕ → Factors
factors ok pivot = record { ok = ok; pivot = pivot }
