-- What clearing leaves behind.
use Rattle.std.specs.Prelude.{ℕ}

-- each entry is 0
unfoldable pub zeros : ℕ → ℕ
zeros f = 0
