-- What ties a net of arrays to a net of the definitions.
use Rattle.std.specs.Prelude.{ℕ, ◌+◌, ◌*◌, ◌≤◌, ◌<◌, ◌≡◌, Result, Ok, Err, List, length, get_or}
use Rattle.columns.specs.Columns.{column}
use Rattle.spec.specs.Answer.{Answer, gives}
use Rattle.lines.specs.Agree.{Agrees, refused_as}
use Rattle.spec.specs.Lists.{sum, as_count}
use Rattle.spec.specs.Net.{Net as NetD, takes, makes, inhibits, reads, add_place, add_transition, add_arc}
use Rattle.spec.specs.NetText.{Weighed}
use Rattle.spec.specs.Values.{net_values}
use Rattle.net.specs.declared.Net.{Net}
use Rattle.spec.specs.declared.ArcKind.{ArcKind}
use Rattle.spec.specs.declared.ArcKind.TheVariants.{Input, Output, Inhibitor, Read}
use Rattle.net.specs.declared.Size.{Size}
use Rattle.net.specs.declared.NetSize.{NetSize}
use Rattle.net.specs.declared.NetRefusal.{NetRefusal}
use Rattle.net.specs.declared.NetRefusal.TheVariants.{Malformed, LimitPassed, Undeclared, WeightOutside}
use Rattle.net.specs.declared.NetRefusal.TheVariants.{ArcRepeated, ReadAndConsumed, Lacking}

-- the tokens, one entry for each place; the arcs of a transition, of a kind and of all kinds; and where the outputs,
-- the inhibitors and the read arcs start behind the inputs
abbrev pub token_count : ℕ
token_count = 32

abbrev pub row_size : ℕ
row_size = 32

abbrev pub kind_count : ℕ
kind_count = 1024

abbrev pub arc_count : ℕ
arc_count = 4096

abbrev pub outputs_at : ℕ
outputs_at = 1024

abbrev pub inhibitors_at : ℕ
inhibitors_at = 2048

abbrev pub reads_at : ℕ
reads_at = 3072

-- in the row of t, at p, an array has what f says of t and p
pub record Cells (xs : List ℕ) (f : ℕ → ℕ → ℕ) : Type 0 where
  pub long : length xs ≡ kind_count
  pub cell : (t p : ℕ) → t < 32 → p < row_size → get_or xs (row_size * t + p) 0 ≡ f t p

-- the counts and the tokens of the code, and those of the definition
pub record Counts (ps ts : ℕ) (xs tokens_d : List ℕ) (transitions_d : ℕ) : Type 0 where
  pub places : ps ≡ length tokens_d
  pub transitions : ts ≡ transitions_d
  pub few_places : ps ≤ 32
  pub few_transitions : ts ≤ 32
  pub long : length xs ≡ token_count
  pub tokens : (p : ℕ) → get_or xs p 0 ≡ get_or tokens_d p 0
  pub most : sum tokens_d ≤ 512

pub record Holds (n : Net) (m : NetD) : Type 0 where
  pub weighed : Weighed m
  pub counts : Counts n.places n.transitions n.tokens m.tokens m.transitions
  pub inputs : Cells n.inputs (takes m)
  pub outputs : Cells n.outputs (makes m)
  pub inhibitors : Cells n.inhibitors (λ t p. as_count (inhibits m p t))
  pub reads : Cells n.reads (λ t p. as_count (reads m p t))

-- ---- the arrays that are lent while the lines are read

pub record Arrays : Type 0 where
  pub tokens : List ℕ
  pub inputs : List ℕ
  pub outputs : List ℕ
  pub inhibitors : List ℕ
  pub reads : List ℕ

abbrev pub arrays : List ℕ → List ℕ → List ℕ → List ℕ → List ℕ → Arrays
arrays ts is os hs rs = record { tokens = ts; inputs = is; outputs = os; inhibitors = hs; reads = rs }

-- the arrays with another in place of the tokens, and below of the arcs of one kind
abbrev pub with_tokens : Arrays → List ℕ → Arrays
with_tokens a xs = arrays xs a.inputs a.outputs a.inhibitors a.reads

-- the array of one kind of arc
abbrev pub cells_of : ArcKind → Arrays → List ℕ
cells_of Input a = a.inputs
cells_of Output a = a.outputs
cells_of Inhibitor a = a.inhibitors
cells_of Read a = a.reads

abbrev pub with_cells : ArcKind → Arrays → List ℕ → Arrays
with_cells Input a xs = arrays a.tokens xs a.outputs a.inhibitors a.reads
with_cells Output a xs = arrays a.tokens a.inputs xs a.inhibitors a.reads
with_cells Inhibitor a xs = arrays a.tokens a.inputs a.outputs xs a.reads
with_cells Read a xs = arrays a.tokens a.inputs a.outputs a.inhibitors xs

-- where a kind stands in the array of arcs
abbrev pub offset_of : ArcKind → ℕ
offset_of Input = 0
offset_of Output = outputs_at
offset_of Inhibitor = inhibitors_at
offset_of Read = reads_at

-- the kind of arc that may not join the same two as one of this kind: an input and a read arc bar each other, and the
-- others bar none but their own kind, which 14 says already
abbrev pub bar_of : ArcKind → ArcKind
bar_of Input = Read
bar_of Output = Output
bar_of Inhibitor = Inhibitor
bar_of Read = Input

-- `other` is where the arcs stand that bar those of the kind that stands from `at` on
pub record Bars (at other : ℕ) : Type 0 where
  pub low : other ≤ reads_at
  pub of : (x : ArcKind) → at ≡ offset_of x → other ≡ offset_of (bar_of x)

-- the arcs of one kind in the array of arcs
abbrev pub inputs_in : List ℕ → List ℕ
inputs_in arcs = column 0 kind_count arcs

abbrev pub outputs_in : List ℕ → List ℕ
outputs_in arcs = column outputs_at kind_count arcs

abbrev pub inhibitors_in : List ℕ → List ℕ
inhibitors_in arcs = column inhibitors_at kind_count arcs

abbrev pub reads_in : List ℕ → List ℕ
reads_in arcs = column reads_at kind_count arcs

-- the tokens and one array with the arcs of every kind
abbrev pub arrays_at : List ℕ → List ℕ → Arrays
arrays_at tokens arcs = arrays tokens (inputs_in arcs) (outputs_in arcs) (inhibitors_in arcs) (reads_in arcs)

-- the net of a size and of arrays
abbrev pub net_with : Size → Arrays → Net
net_with s a = record {
  places = s.places;
  transitions = s.transitions;
  tokens = a.tokens;
  inputs = a.inputs;
  outputs = a.outputs;
  inhibitors = a.inhibitors;
  reads = a.reads;
}

-- they hold the net, and the size has the sum of its tokens
pub record Draft (s : Size) (a : Arrays) (m : NetD) : Type 0 where
  pub holds : Holds (net_with s a) m
  pub total : s.total ≡ sum m.tokens

-- the size of so many places and transitions with so many tokens
abbrev pub size_of : ℕ → ℕ → ℕ → Size
size_of places transitions total = record { places = places; transitions = transitions; total = total }

abbrev pub no_size : Size
no_size = size_of 0 0 0

-- the paper's number and spot of a refusal
abbrev pub net_refusal : NetRefusal → ℕ × ℕ
net_refusal (Malformed k) = (11, k)
net_refusal (LimitPassed k) = (12, k)
net_refusal (Undeclared k) = (13, k)
net_refusal (WeightOutside k) = (54, k)
net_refusal (ArcRepeated k) = (14, k)
net_refusal (ReadAndConsumed k) = (51, k)
net_refusal (Lacking t) = (15, t)

-- the paper's values of an answer
abbrev pub answer_of : Result NetSize NetRefusal → Answer (ℕ × ℕ × ℕ)
answer_of (Ok n) = gives (n.places, n.transitions, 0)
answer_of (Err x) = refused_as (net_refusal x)

-- the answer to the lines so far
abbrev pub answer_so_far : Result Size NetRefusal → Answer (ℕ × ℕ × ℕ)
answer_so_far (Ok s) = gives (s.places, s.transitions, 0)
answer_so_far (Err x) = refused_as (net_refusal x)

-- where they are accepted, the arrays hold the net, with its size
abbrev pub DraftOf : Result Size NetRefusal → Arrays → NetD → Type 0
DraftOf (Ok s) a m = Draft s a m
DraftOf (Err x) a m = ⊥

-- what a step of the definitions answers, of every net that the arrays hold; a' are the arrays after it
abbrev pub Steps : Size → Arrays → (NetD → Answer NetD) → Result Size NetRefusal → Arrays → Type 0
Steps s a f r a' = (m : NetD) → Draft s a m → Agrees net_values (answer_so_far r) (DraftOf r a') (f m)

-- a place of v tokens is added as line k adds it, whatever the arcs are
abbrev pub AddsPlace : ℕ → ℕ → Size → List ℕ → Result Size NetRefusal → List ℕ → Type 0
AddsPlace k v s tokens r tokens' =
    (arcs : List ℕ) → Steps s (arrays_at tokens arcs) (add_place k v) r (arrays_at tokens' arcs)

-- a transition is added as line k adds it, whatever the arrays are
abbrev pub AddsTransition : ℕ → Size → Result Size NetRefusal → Type 0
AddsTransition k s r = (a : Arrays) → Steps s a (add_transition k) r a

-- only inputs and outputs weigh more than 1
abbrev pub Bears : ArcKind → ℕ → Type 0
Bears Input w = Unit {0}
Bears Output w = Unit {0}
Bears Inhibitor w = w ≡ 1
Bears Read w = w ≡ 1

-- an arc of weight w, of the kind that stands from `at` on, is added as line k adds it, whatever the tokens are
abbrev pub AddsArc : ℕ → ℕ → ℕ → ℕ → ℕ → Size → List ℕ → Result Size NetRefusal → List ℕ → Type 0
AddsArc at k p t w s arcs r arcs' =
    (x : ArcKind) (tokens : List ℕ) → at ≡ offset_of x → Bears x w
    → Steps s (arrays_at tokens arcs) (add_arc x k p t w) r (arrays_at tokens arcs')

-- the bounds that the code relies on
pub record Few (s : Size) : Type 0 where
  pub places : s.places ≤ 32
  pub transitions : s.transitions ≤ 32

pub record Fits (s : Size) : Type 0 where
  pub few : Few s
  pub total : s.total ≤ 512

-- the net of two counts and of lent arrays
abbrev pub net_at : ℕ → ℕ → List ℕ → List ℕ → Net
net_at ps ts tokens arcs = net_with (size_of ps ts 0) (arrays_at tokens arcs)

-- lent arrays hold the net
abbrev pub HoldsAt : List ℕ → List ℕ → NetD → Type 0
HoldsAt tokens arcs m = Holds (net_at (length m.tokens) m.transitions tokens arcs) m
