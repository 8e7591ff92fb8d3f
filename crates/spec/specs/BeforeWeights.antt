-- How a net text was read before request 2026-06 (02; arc weights): the definitions of `Net` that the request moved, and those
-- that lie between them and `read_net`, word for word and under their names. An arc had no weight; here it has 1, and nothing
-- asks for it. `WithoutWeights` says of them what is unchanged.
use Rattle.std.specs.Prelude.{ℕ, Bool, not, ◌&&◌, ◌||◌, cond, List, [], ◌∷◌, ltb}
use Rattle.spec.specs.Lists.{any, up_to, lowest, as_count}
use Rattle.spec.specs.Answer.{Answer, gives, refuses, ◌>>=◌, ◌>>◌, refuse◌at◌when◌, refuse◌at?◌}
use Rattle.spec.specs.Text.{Line, lines_of, by_lines}
use Rattle.spec.specs.Forms.{number, is_line, number_at}
use Rattle.spec.specs.Net.{Net, places, joined, read_and_consumed, with_arc, add_place, add_transition, empty_net}
use Rattle.spec.specs.declared.ArcKind.{ArcKind}
use Rattle.spec.specs.declared.ArcKind.TheVariants.{Input, Output, Inhibitor, Read}

-- how many tokens transition t takes from place p: 1 where that input arc exists, else 0
unfoldable pub takes : Net → ℕ → ℕ → ℕ
takes n t p = as_count (joined n Input p t)

-- how many tokens it makes in place p
unfoldable pub makes : Net → ℕ → ℕ → ℕ
makes n t p = as_count (joined n Output p t)

-- "An arc names things declared above it."
unfoldable pub add_arc : ArcKind → ℕ → ℕ → ℕ → Net → Answer Net
add_arc x k p t n = do
  refuse 13 at k when not (ltb p (places n) && ltb t n.transitions)
  refuse 14 at k when joined n x p t
  refuse 51 at k when read_and_consumed n x p t
  gives (with_arc x p t 1 n)

-- "`P,tokens` place. `T` transition. `I,place,transition` input. `O,transition,place` output. `H,place,transition` inhibitor."
-- 2026-01: "A net line `R,place,transition` asks for a token before the step"
unfoldable pub add_line : ℕ → Line → Net → Answer Net
add_line k l n =
    cond (is_line "P" (number ∷ []) l) (add_place k (number_at l 0) n)
    (cond (is_line "T" [] l) (add_transition k n)
    (cond (is_line "I" (number ∷ number ∷ []) l) (add_arc Input k (number_at l 0) (number_at l 1) n)
    (cond (is_line "O" (number ∷ number ∷ []) l) (add_arc Output k (number_at l 1) (number_at l 0) n)
    (cond (is_line "H" (number ∷ number ∷ []) l) (add_arc Inhibitor k (number_at l 0) (number_at l 1) n)
    (cond (is_line "R" (number ∷ number ∷ []) l) (add_arc Read k (number_at l 0) (number_at l 1) n)
    (refuses 11 k))))))

-- "Each transition has an input and an output.": transition t lacks one
unfoldable pub lacking : Net → ℕ → Bool
lacking n t =
    not (any (λ p. ltb 0 (takes n t p)) (up_to (places n)))
    || not (any (λ p. ltb 0 (makes n t p)) (up_to (places n)))

-- the rule that is judged after all lines
unfoldable pub whole : Net → Answer Net
whole n = do
  refuse 15 at? lowest (lacking n) n.transitions
  gives n

unfoldable pub net_of : List Line → Answer Net
net_of ls = do
  n ← by_lines add_line 1 ls empty_net
  whole n

unfoldable pub read_net : List ℕ → Answer Net
read_net text = net_of (lines_of text)
