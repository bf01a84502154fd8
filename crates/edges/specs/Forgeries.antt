-- How many forgeries there are (`Forgery::ALL`, src/forge.rt).
use Rattle.std.specs.Prelude.{ℕ}

abbrev pub forgery_count : ℕ
forgery_count = 24
