-- What the program promises of the buffers that it is lent, of its reader and of its writer: which bytes it hands on to be
-- written.
use Rattle.std.specs.Prelude.{◌≡◌, ℕ, ◌≤◌, ◌<◌, List, length, take, Option, Result, Ok, Err}
use Rattle.std.specs.Io.KnownBytes.{Appends, Consumes, IsAtEnd, Keeps}
use Rattle.spec.specs.Printing.{program}
use Rattle.std.specs.declared.io.Error.{Error}
use Rattle.printing.specs.Prints.{Prints}
use Rattle.answering.specs.declared.Answered.{Answered}
use Rattle.answering.specs.declared.Failure.{Failure}
use Rattle.answering.specs.declared.Failure.TheVariants.{Unread, Unwritten}

-- why a read or a write failed
abbrev pub cause : Failure → Error
cause (Unread e) = e
cause (Unwritten a e) = e

-- the bytes that were handed on, from the start of the buffer, are what the program prints of those that were read, whether
-- or not they could be written; where the input could not be read the buffer is left alone
abbrev pub Answers : List ℕ → List ℕ → Result Answered Failure → List ℕ → Type 0
Answers input old (Ok a) new = Prints (take a.read input) old a.printed new
Answers input old (Err (Unwritten a e)) new = Prints (take a.read input) old a.printed new
Answers input old (Err (Unread e)) new = new ≡ old

-- the bytes that were read, from the start of the input, are those that a reader whose bytes are known had next, and all of
-- them where there is still room; where the input could not be read some of them are gone
abbrev pub HasTaken : Option (List ℕ) → Option (List ℕ) → List ℕ → Result Answered Failure → Type 0
HasTaken old new input (Ok a) = (a.read ≤ length input) × Consumes old new (take a.read input) × (a.read < length input → IsAtEnd new)
HasTaken old new input (Err (Unwritten a e)) = (a.read ≤ length input) × Consumes old new (take a.read input) × (a.read < length input → IsAtEnd new)
HasTaken old new input (Err (Unread e)) = (n : ℕ) × (n < length input) × Consumes old new (take n input)

-- a writer whose bytes are known has, behind what it had, what the program prints of the bytes that were read; where not all
-- could be written only the first k of it, and where the input could not be read nothing
abbrev pub HasGiven : Option (List ℕ) → Option (List ℕ) → List ℕ → Result Answered Failure → Type 0
HasGiven old new input (Ok a) = Appends old new (program (take a.read input))
HasGiven old new input (Err (Unwritten a e)) = (k : ℕ) × (k < a.printed) × Appends old new (take k (program (take a.read input)))
HasGiven old new input (Err (Unread e)) = Keeps old new
