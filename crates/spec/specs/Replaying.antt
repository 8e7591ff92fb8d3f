-- Replaying an arrangement (01, "replaying"; refusals 40 to 45).
use Rattle.std.specs.Prelude.{ℕ, ◌+◌, ◌-◌, Bool, false, not, ◌&&◌, ◌||◌, cond, List, [], ◌∷◌, ◌++◌, map, length, replicate, take, ltb, leb}
use Rattle.spec.specs.Lists.{any, up_to, lowest, flat, is_in}
use Rattle.spec.specs.Answer.{Answer, gives, ◌>>=◌, ◌>>◌, refuse◌at◌when◌, refuse◌at?◌}
use Rattle.spec.specs.Text.{Line, lines_of, by_lines}
use Rattle.spec.specs.Forms.{is_list_line, numbers_of}
use Rattle.spec.specs.Net.{Net, places}
use Rattle.spec.specs.Step.{tokens_at, taken, made}
use Rattle.spec.specs.Record.{RunRecord, bench, transition_of}
use Rattle.spec.specs.Order.{is_strictly_before, is_not_later}
use Rattle.spec.specs.Checking.{accepts}

-- ---- "per line 41 malformed, 42 unknown event, 43 event repeated, 44 order broken (spot: line); then 45 event
-- missing (lowest)."

-- "lines `G,event,...` with one or more events in any order"
unfoldable pub is_group_line : Line → Bool
is_group_line l = is_list_line "G" l

-- a number stands twice in the list
unfoldable pub repeats : List ℕ → Bool
repeats [] = false
repeats (e ∷ es) = is_in e es || repeats es

-- "It keeps the order if strict predecessors stand in earlier lines and weak ones no later.": d is strictly before e
-- and in no earlier line, or not later than e and in no line up to this one
unfoldable pub late : RunRecord → List ℕ → List ℕ → ℕ → ℕ → Bool
late r done now e d =
    (is_strictly_before r d e && not (is_in d done))
    || (is_not_later r d e && not (is_in d (done ++ now)))

-- the line breaks the order: some event of it has a predecessor that is late
unfoldable pub breaks : RunRecord → List ℕ → List ℕ → Bool
breaks r done now = any (λ e. any (late r done now e) (up_to (length r.events))) now

unfoldable pub groups_line : RunRecord → ℕ → Line → List (List ℕ) → Answer (List (List ℕ))
groups_line r k l gs = do
  refuse 41 at k when not (is_group_line l)
  let es : List ℕ = numbers_of l
  refuse 42 at k when any (leb (length r.events)) es
  refuse 43 at k when repeats (flat gs ++ es)
  refuse 44 at k when breaks r (flat gs) es
  gives (gs ++ es ∷ [])

unfoldable pub missing : List (List ℕ) → ℕ → Bool
missing gs e = not (is_in e (flat gs))

unfoldable pub read_arrangement : RunRecord → List ℕ → Answer (List (List ℕ))
read_arrangement r text = do
  gs ← by_lines (groups_line r) 1 (lines_of text) []
  refuse 45 at? lowest (missing gs) (length r.events)
  gives gs

-- ---- "Replay writes 129 rows of 32 counts, each of 16 bits: row k is the marking after k lines, rows and columns
-- beyond are 0."

-- "In each row a place holds its initial tokens plus those made minus those taken by the events so far.": after events
-- with these transitions
unfoldable pub count_after : Net → List ℕ → ℕ → ℕ
count_after n ts p = (tokens_at n.tokens p + made n ts p) - taken n ts p

-- the transitions of the events of the first k lines
unfoldable pub fired_by : RunRecord → List (List ℕ) → ℕ → List ℕ
fired_by r gs k = map (transition_of r) (flat (take k gs))

unfoldable pub row_at : Net → List ℕ → ℕ → ℕ
row_at n ts p = cond (ltb p (places n)) (count_after n ts p) 0

unfoldable pub replay_row : Net → RunRecord → List (List ℕ) → ℕ → List ℕ
replay_row n r gs k = cond (leb k (length gs)) (map (row_at n (fired_by r gs k)) (up_to 32)) (replicate 32 0)

-- "replaying [returns] how many lines it played"
pub record Replayed : Type 0 where
  pub lines : ℕ
  pub counts : List ℕ

unfoldable pub replayed_of : Net → RunRecord → List (List ℕ) → Replayed
replayed_of n r gs = record { lines = length gs; counts = flat (map (replay_row n r gs) (up_to 129)) }

-- "Replay: 40 under 4,128 counts (spot 0); net's; check's but 30; .."
unfoldable pub replay : List ℕ → List ℕ → List ℕ → ℕ → Answer Replayed
replay net text arrangement room = do
  refuse 40 at 0 when ltb room 4128
  a ← accepts bench net text
  gs ← read_arrangement a.run arrangement
  gives (replayed_of a.net a.run gs)
