-- What arranging answers, and what it leaves in the buffer.
use Rattle.std.specs.Prelude.{◌≡◌, ℕ, List, map, length, Result, Ok, Err}
use Rattle.spec.specs.Answer.{Answer, gives, refuses, returned}
use Rattle.spec.specs.Lists.{up_to}
use Rattle.spec.specs.Arranging.{line_count, arranged_lines, arrangement_bytes, arrange}
use Rattle.spec.specs.Buffer.{over, arrange_leaves}
use Rattle.spec.specs.Values.{arrange_values}
use Rattle.order.specs.Level.{lev}
use Rattle.reach.specs.Rows.{cell_of}
use Rattle.accepting.specs.Accepting.{refused_by}
use Rattle.arranging.specs.declared.Arranged.{Arranged}
use Rattle.arranging.specs.declared.ArrangeRefusal.{ArrangeRefusal}
use Rattle.arranging.specs.declared.ArrangeRefusal.TheVariants.{BufferShort, Refused}

-- the levels of n events whose closed order rows have
unfoldable pub levels_in : ℕ → List ℕ → List ℕ
levels_in n t = map (lev n (cell_of t)) (up_to n)

-- the lines of the levels are written from the start of the buffer, and their bytes and their number are answered
pub record WritesLines (levels old : List ℕ) (r : Arranged) (new : List ℕ) : Type 0 where
  pub bytes : r.bytes ≡ length (arrangement_bytes (arranged_lines levels))
  pub lines : r.lines ≡ line_count levels
  pub buffer : new ≡ over (arrangement_bytes (arranged_lines levels)) old

-- ---- the operation

-- the paper's number and values of an answer: bytes and lines
abbrev pub answer_of : Result Arranged ArrangeRefusal → Answer (ℕ × ℕ × ℕ)
answer_of (Ok a) = gives (a.bytes, a.lines, 0)
answer_of (Err BufferShort) = refuses 50 0
answer_of (Err (Refused x)) = refused_by x

-- the answer is the paper's, and the buffer is left as the paper says
pub record Arranges (net text old : List ℕ) (r : Result Arranged ArrangeRefusal) (new : List ℕ) : Type 0 where
  pub answer : answer_of r ≡ returned arrange_values (arrange net text (length old))
  pub buffer : new ≡ arrange_leaves (arrange net text (length old)) old
