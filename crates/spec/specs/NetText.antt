-- Net texts, said without the reader: what the lines declare, in which words, and what they may declare (01, "Net"; 02, 2026-01,
-- 2026-06).
use Rattle.std.specs.Prelude.{◌≡◌, ℕ, ◌+◌, ◌≤◌, ◌<◌, true, false, List, [], ◌∷◌, map}
use Rattle.spec.specs.Lists.{In, flat, sum}
use Rattle.spec.specs.Text.{line_with}
use Rattle.spec.specs.Net.{Net, Arc, places, joined, read_and_consumed, with_place, with_transition, with_arc, empty_net}
use Rattle.spec.specs.declared.ArcKind.{ArcKind}
use Rattle.spec.specs.declared.ArcKind.TheVariants.{Input, Output, Inhibitor, Read}
use Rattle.spec.specs.declared.Field.TheVariants.{Number}

-- what a line declares: a place with its tokens, a transition, an arc of a kind between a place and a transition, or an
-- input or an output with its weight
pub data Declaration : Type 0 where
  new_place : ℕ → Declaration
  new_transition : Declaration
  new_arc : ArcKind → ℕ → ℕ → Declaration
  weighted_input : ℕ → ℕ → ℕ → Declaration
  weighted_output : ℕ → ℕ → ℕ → Declaration

-- "`P,tokens` place. `T` transition. `I,place,transition` input. `O,transition,place` output. `H,place,transition`
-- inhibitor." 2026-01: "A net line `R,place,transition`". 2026-06: "`I` and `O` may carry a third field, the weight"
unfoldable pub declaration_line : Declaration → List ℕ
declaration_line (new_place v) = line_with "P" (Number v ∷ [])
declaration_line new_transition = line_with "T" []
declaration_line (new_arc Input p t) = line_with "I" (Number p ∷ Number t ∷ [])
declaration_line (new_arc Output p t) = line_with "O" (Number t ∷ Number p ∷ [])
declaration_line (new_arc Inhibitor p t) = line_with "H" (Number p ∷ Number t ∷ [])
declaration_line (new_arc Read p t) = line_with "R" (Number p ∷ Number t ∷ [])
declaration_line (weighted_input p t w) = line_with "I" (Number p ∷ Number t ∷ Number w ∷ [])
declaration_line (weighted_output p t w) = line_with "O" (Number t ∷ Number p ∷ Number w ∷ [])

unfoldable pub net_bytes : List Declaration → List ℕ
net_bytes ds = flat (map declaration_line ds)

-- "Things are numbered from 0 as they appear.": the net n and one thing more, and all of them from the top; "without it the
-- weight is 1"
unfoldable pub declare : Net → Declaration → Net
declare n (new_place v) = with_place v n
declare n new_transition = with_transition n
declare n (new_arc x p t) = with_arc x p t 1 n
declare n (weighted_input p t w) = with_arc Input p t w n
declare n (weighted_output p t w) = with_arc Output p t w n

unfoldable pub declare_all : Net → List Declaration → Net
declare_all n [] = n
declare_all n (d ∷ ds) = declare_all (declare n d) ds

abbrev pub declared : List Declaration → Net
declared ds = declare_all empty_net ds

-- an arc of this kind may be declared below the net n. "An arc names things declared above it.", no arc is repeated, and
-- no place is both read and consumed by one transition.
abbrev pub MayJoin : Net → ArcKind → ℕ → ℕ → Type 0
MayJoin n x p t =
    (p < places n) × (t < n.transitions) × (joined n x p t ≡ false) × (read_and_consumed n x p t ≡ false)

-- what may be declared below it. "At most 32 places, 32 transitions, 512 initial tokens in all." 2026-06: "1 to 16"
abbrev pub Allowed : Net → Declaration → Type 0
Allowed n (new_place v) = (places n < 32) × (sum n.tokens + v ≤ 512)
Allowed n new_transition = n.transitions < 32
Allowed n (new_arc x p t) = MayJoin n x p t
Allowed n (weighted_input p t w) = MayJoin n Input p t × (1 ≤ w) × (w ≤ 16)
Allowed n (weighted_output p t w) = MayJoin n Output p t × (1 ≤ w) × (w ≤ 16)

-- every arc weighs from 1 to 16
abbrev pub Weighed : Net → Type 0
Weighed n = (a : Arc) → In a n.arcs → (1 ≤ a.weight) × (a.weight ≤ 16)

-- "Each transition has an input and an output."
pub record Complete (n : Net) : Type 0 where
  pub input : (t : ℕ) → t < n.transitions → (p : ℕ) × (p < places n) × (joined n Input p t ≡ true)
  pub output : (t : ℕ) → t < n.transitions → (p : ℕ) × (p < places n) × (joined n Output p t ≡ true)
