-- Arranging a record: the lines and their bytes (01, "arranging"; refusal 50).
use Rattle.std.specs.Prelude.{ℕ, zero, suc, ◌<◌, cond, List, map, length, get_or, eqb, ltb}
use Rattle.spec.specs.Lists.{up_to, keep, greatest, flat}
use Rattle.spec.specs.Answer.{Answer, gives, ◌>>=◌, ◌>>◌, refuse◌at◌when◌}
use Rattle.spec.specs.Text.{line_with}
use Rattle.spec.specs.Record.{RunRecord, bench}
use Rattle.spec.specs.Order.{StrictlyBefore, NotLater, is_strictly_before, is_not_later}
use Rattle.spec.specs.Checking.{accepts}
use Rattle.spec.specs.declared.Field.TheVariants.{Number}

-- ---- "Arrange puts each event on the line whose index from 0 is the length, in strict pairs, of the longest chain
-- of the closed order ending at it"

-- a chain of the closed order that ends at event e; k counts its strict pairs
pub data Chain (r : RunRecord) : ℕ → ℕ → Type 0 where
  alone : {e : ℕ} → e < length r.events → Chain r 0 e
  weakly : {k f e : ℕ} → Chain r k f → e < length r.events → NotLater r f e → Chain r k e
  strictly : {k f e : ℕ} → Chain r k f → e < length r.events → StrictlyBefore r f e → Chain r (suc k) e

-- ---- the same, computed

-- a chain that ends at f with k strict pairs, prolonged to e: a strict pair counts, a weak one does not
unfoldable pub prolonged : RunRecord → ℕ → ℕ → ℕ → ℕ
prolonged r e f k = cond (is_strictly_before r f e) (suc k) (cond (is_not_later r f e) k 0)

-- the strict pairs of the longest chain, of at most k pairs, that ends at e
unfoldable pub longest : RunRecord → ℕ → ℕ → ℕ
longest r zero e = 0
longest r (suc k) e = greatest (map (λ f. prolonged r e f (longest r k f)) (up_to (length r.events)))

-- the line index of each event
unfoldable pub levels : RunRecord → List ℕ
levels r = map (longest r (length r.events)) (up_to (length r.events))

unfoldable pub line_count : List ℕ → ℕ
line_count ls = greatest (map suc ls)

-- "events ascend in a line": the events of line k
unfoldable pub on_line : List ℕ → ℕ → List ℕ
on_line ls k = keep (λ e. eqb (get_or ls e 0) k) (up_to (length ls))

unfoldable pub arranged_lines : List ℕ → List (List ℕ)
arranged_lines ls = map (on_line ls) (up_to (line_count ls))

-- "lines `G,event,...`"
unfoldable pub group_line : List ℕ → List ℕ
group_line es = line_with "G" (map Number es)

unfoldable pub arrangement_bytes : List (List ℕ) → List ℕ
arrangement_bytes lines = flat (map group_line lines)

-- "It returns its line count"
pub record Arranged : Type 0 where
  pub lines : ℕ
  pub bytes : List ℕ

unfoldable pub arranged_of : RunRecord → Arranged
arranged_of r = record { lines = line_count (levels r); bytes = arrangement_bytes (arranged_lines (levels r)) }

-- "Arrange: 50 buffer under 768 bytes (spot 0); net's; check's but 30."
unfoldable pub arrange : List ℕ → List ℕ → ℕ → Answer Arranged
arrange net text room = do
  refuse 50 at 0 when ltb room 768
  a ← accepts bench net text
  gives (arranged_of a.run)
