-- What an operation leaves in a lent buffer (01, "Refusals by operation").
use Rattle.std.specs.Prelude.{ℕ, List, ◌++◌, length, drop}
use Rattle.spec.specs.Answer.{Answer, gives, refuses}
use Rattle.spec.specs.Checking.{Checked}
use Rattle.spec.specs.Arranging.{Arranged}
use Rattle.spec.specs.Replaying.{Replayed}
use Rattle.spec.specs.Printing.{program}

-- what is written, and behind it the old contents: "past what an operation writes, a buffer keeps its old contents"
unfoldable pub over : List ℕ → List ℕ → List ℕ
over written old = written ++ drop (length written) old

-- "A refusal .. writes nothing."
unfoldable pub leaves : {A : Type 0} → (A → List ℕ) → Answer A → List ℕ → List ℕ
leaves written (gives a) old = over (written a) old
leaves written (refuses n s) old = old

-- the buffers of the operations that write: building writes the bytes that it gives,
unfoldable pub build_leaves : Answer (List ℕ) → List ℕ → List ℕ
build_leaves a old = leaves (λ bytes. bytes) a old

-- the check its table, replay its 16-bit counts, arranging its lines,
unfoldable pub check_leaves : Answer Checked → List ℕ → List ℕ
check_leaves a old = leaves (λ c. c.table) a old

unfoldable pub replay_leaves : Answer Replayed → List ℕ → List ℕ
replay_leaves a old = leaves (λ r. r.counts) a old

unfoldable pub arrange_leaves : Answer Arranged → List ℕ → List ℕ
arrange_leaves a old = leaves (λ a. a.bytes) a old

-- and the program's operation, which is never refused, what the program prints
unfoldable pub program_leaves : List ℕ → List ℕ → List ℕ
program_leaves input old = over (program input) old
