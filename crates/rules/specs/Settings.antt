-- The settings of a solver that is told nothing, as the Rust has them, and unguarded, as the Rust is.
use Rattle.std.specs.Prelude.{false, None}
use Rattle.rules.specs.declared.settings.BDF.{BDF}

abbrev pub defaults : BDF
defaults =
    record {
      max_steps = 100000;
      max_step = None;
      min_step = None;
      newton_maxiter = 4;
      newton_tol = None;
      first_step = None;
      guarded = false;
    }
