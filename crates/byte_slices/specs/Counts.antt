-- How many bytes are a certain one.
use Rattle.std.specs.Prelude.{ℕ, List, eqb}
use Rattle.spec.specs.Lists.{count}

-- the bytes that are counted at a time
abbrev pub chunk : ℕ
chunk = 128

abbrev pub count_of : ℕ → List ℕ → ℕ
count_of b s = count (λ x. eqb x b) s
