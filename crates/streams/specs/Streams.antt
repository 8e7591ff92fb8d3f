-- What reading and writing promise.
use Rattle.std.specs.Prelude.{◌≡◌, ℕ, ◌≤◌, ◌<◌, List, length, take, Option, Result, Ok, Err}
use Rattle.std.specs.Io.KnownBytes.{Appends, Consumes, IsAtEnd}
use Rattle.std.specs.declared.io.Error.{Error}

-- no more was read than there is room for
abbrev pub Within : ℕ → Result ℕ Error → Type 0
Within room (Ok n) = n ≤ room
Within room (Err e) = Unit {0}

-- a reader whose bytes are known lost those that stand at the start of the buffer, and has none left where the buffer was not
-- filled; where a read failed it lost as many as were read before
abbrev pub Took : Option (List ℕ) → Option (List ℕ) → List ℕ → Result ℕ Error → Type 0
Took old new buffer (Ok n) = Consumes old new (take n buffer) × (n < length buffer → IsAtEnd new)
Took old new buffer (Err e) = (n : ℕ) × (n < length buffer) × Consumes old new (take n buffer)

-- all that was handed over was written
abbrev pub Whole : ℕ → Result ℕ Error → Type 0
Whole handed (Ok n) = n ≡ handed
Whole handed (Err e) = Unit {0}

-- a writer whose bytes are known has those that were handed over behind what it had; where a write failed it has only so many
-- of them
abbrev pub Gave : Option (List ℕ) → Option (List ℕ) → List ℕ → Result ℕ Error → Type 0
Gave old new handed (Ok n) = Appends old new handed
Gave old new handed (Err e) = (n : ℕ) × (n < length handed) × Appends old new (take n handed)
