-- Nets, and how a net text is read (01, "Net"; 02, 2026-01, 2026-06; refusals 11 to 15, 51, 54).
use Rattle.std.specs.Prelude.{ℕ, ◌+◌, Bool, false, not, ◌&&◌, ◌||◌, cond, List, [], ◌∷◌, ◌++◌, length, eqb, ltb, leb}
use Rattle.std.proofs.Math.Option.{Option, none, some}
use Rattle.spec.specs.Lists.{any, first, up_to, sum, lowest}
use Rattle.spec.specs.Answer.{Answer, gives, refuses, ◌>>=◌, ◌>>◌, refuse◌at◌when◌, refuse◌at?◌}
use Rattle.spec.specs.Text.{Line, lines_of, by_lines}
use Rattle.spec.specs.Forms.{number, is_line, number_at}
use Rattle.spec.specs.declared.ArcKind.{ArcKind}
use Rattle.spec.specs.declared.ArcKind.TheVariants.{Input, Output, Inhibitor, Read}

abbrev pub arc_kind_code : ArcKind → ℕ
arc_kind_code Input = 0
arc_kind_code Output = 1
arc_kind_code Inhibitor = 2
arc_kind_code Read = 3

-- 2026-06: an input or an output carries a weight, 000's F(x, y); for the other kinds it stands for nothing
pub record Arc : Type 0 where
  pub kind : ArcKind
  pub place : ℕ
  pub transition : ℕ
  pub weight : ℕ

-- "Things are numbered from 0 as they appear."
-- tokens: the initial tokens of each place, in the places' order; transitions: how many there are
pub record Net : Type 0 where
  pub tokens : List ℕ
  pub transitions : ℕ
  pub arcs : List Arc

abbrev pub places : Net → ℕ
places n = length n.tokens

unfoldable pub is_arc : ArcKind → ℕ → ℕ → Arc → Bool
is_arc x p t a = eqb (arc_kind_code a.kind) (arc_kind_code x) && eqb a.place p && eqb a.transition t

-- the net has an arc of this kind between p and t
unfoldable pub joined : Net → ArcKind → ℕ → ℕ → Bool
joined n x p t = any (is_arc x p t) n.arcs

-- the weight of an arc, and 0 where there is none (000: F(x, y) = 0)
abbrev pub weight_in : Option Arc → ℕ
weight_in none = 0
weight_in (some a) = a.weight

-- the weight of the arc of this kind between p and t
unfoldable pub weight_of : Net → ArcKind → ℕ → ℕ → ℕ
weight_of n x p t = weight_in (first (is_arc x p t) n.arcs)

-- how many tokens transition t takes from place p: as many as its input arc weighs (2026-06)
unfoldable pub takes : Net → ℕ → ℕ → ℕ
takes n t p = weight_of n Input p t

-- how many tokens it makes in place p
unfoldable pub makes : Net → ℕ → ℕ → ℕ
makes n t p = weight_of n Output p t

-- place p inhibits transition t
unfoldable pub inhibits : Net → ℕ → ℕ → Bool
inhibits n p t = joined n Inhibitor p t

-- transition t reads place p (2026-01)
unfoldable pub reads : Net → ℕ → ℕ → Bool
reads n p t = joined n Read p t

-- ---- what each line adds

unfoldable pub with_place : ℕ → Net → Net
with_place v n = record { tokens = n.tokens ++ v ∷ []; transitions = n.transitions; arcs = n.arcs }

unfoldable pub with_transition : Net → Net
with_transition n = record { tokens = n.tokens; transitions = n.transitions + 1; arcs = n.arcs }

unfoldable pub with_arc : ArcKind → ℕ → ℕ → ℕ → Net → Net
with_arc x p t w n =
    let new : Arc = record { kind = x; place = p; transition = t; weight = w } in
    record { tokens = n.tokens; transitions = n.transitions; arcs = new ∷ n.arcs }

-- "At most 32 places, 32 transitions, 512 initial tokens in all." Line k declares a place with v tokens:
unfoldable pub add_place : ℕ → ℕ → Net → Answer Net
add_place k v n = do
  refuse 12 at k when (leb 32 (places n) || ltb 512 (sum n.tokens + v))
  gives (with_place v n)

unfoldable pub add_transition : ℕ → Net → Answer Net
add_transition k n = do
  refuse 12 at k when leb 32 n.transitions
  gives (with_transition n)

-- "51 where one place is both read and consumed by one transition": the net has the other of these two arcs, where
-- one of them is to be added
unfoldable pub read_and_consumed : Net → ArcKind → ℕ → ℕ → Bool
read_and_consumed n Input p t = joined n Read p t
read_and_consumed n Output p t = false
read_and_consumed n Inhibitor p t = false
read_and_consumed n Read p t = joined n Input p t

-- "An arc names things declared above it." 2026-06: "54 weight outside 1 to 16, at the line, after 13 and before 14, which
-- holds whatever the weights"
unfoldable pub add_arc : ArcKind → ℕ → ℕ → ℕ → ℕ → Net → Answer Net
add_arc x k p t w n = do
  refuse 13 at k when not (ltb p (places n) && ltb t n.transitions)
  refuse 54 at k when not (leb 1 w && leb w 16)
  refuse 14 at k when joined n x p t
  refuse 51 at k when read_and_consumed n x p t
  gives (with_arc x p t w n)

-- "`P,tokens` place. `T` transition. `I,place,transition` input. `O,transition,place` output. `H,place,transition` inhibitor."
-- 2026-01: "A net line `R,place,transition` asks for a token before the step". 2026-06: "`I` and `O` may carry a third field,
-- the weight, 1 to 16; without it the weight is 1."
unfoldable pub add_line : ℕ → Line → Net → Answer Net
add_line k l n =
    let two = number ∷ number ∷ [] in
    let three = number ∷ number ∷ number ∷ [] in
    cond (is_line "P" (number ∷ []) l) (add_place k (number_at l 0) n)
    (cond (is_line "T" [] l) (add_transition k n)
    (cond (is_line "I" two l) (add_arc Input k (number_at l 0) (number_at l 1) 1 n)
    (cond (is_line "I" three l) (add_arc Input k (number_at l 0) (number_at l 1) (number_at l 2) n)
    (cond (is_line "O" two l) (add_arc Output k (number_at l 1) (number_at l 0) 1 n)
    (cond (is_line "O" three l) (add_arc Output k (number_at l 1) (number_at l 0) (number_at l 2) n)
    (cond (is_line "H" two l) (add_arc Inhibitor k (number_at l 0) (number_at l 1) 1 n)
    (cond (is_line "R" two l) (add_arc Read k (number_at l 0) (number_at l 1) 1 n)
    (refuses 11 k))))))))

unfoldable pub empty_net : Net
empty_net = record { tokens = []; transitions = 0; arcs = [] }

-- "Each transition has an input and an output.": transition t lacks one
unfoldable pub lacking : Net → ℕ → Bool
lacking n t =
    not (any (λ p. ltb 0 (takes n t p)) (up_to (places n)))
    || not (any (λ p. ltb 0 (makes n t p)) (up_to (places n)))

-- the rule that is judged after all lines
unfoldable pub whole : Net → Answer Net
whole n = do
  refuse 15 at? lowest (lacking n) n.transitions
  gives n

-- "Net: per line 11 malformed, 12 limit passed, 13 undeclared number, 14 arc repeated (spot: line); then 15 transition
-- lacking input or output (spot: lowest such)." 2026-01: 51 "at the line, after 14"; 2026-06: 54 "after 13 and before 14"
unfoldable pub net_of : List Line → Answer Net
net_of ls = do
  n ← by_lines add_line 1 ls empty_net
  whole n

unfoldable pub read_net : List ℕ → Answer Net
read_net text = net_of (lines_of text)
