-- What judging all lines of an arrangement promises.
use Rattle.std.specs.Prelude.{ℕ, ◌≤◌, ◌<◌, ◌≡◌, List, length, get_or, Result}
use Rattle.spec.specs.Lists.{In, flat}
use Rattle.spec.specs.Net.{Net as NetD, takes, makes}
use Rattle.spec.specs.Record.{RunRecord, transition_of}
use Rattle.spec.specs.Replaying.{read_arrangement}
use Rattle.columns.specs.Columns.{column}
use Rattle.lines.specs.Agree.{Agrees}
use Rattle.net.specs.NetArrays.{outputs_at, Cells}
use Rattle.arrangement_reader.specs.Lined.{TellsOrder, Ordered}
use Rattle.arrangement_reader.specs.Arrangement.{answer_of, lines_played}
use Rattle.arrangement_reader.specs.declared.ArrangementRefusal.{ArrangementRefusal}

-- the lines of an arrangement of n events, in an array
pub record Arranged (n : ℕ) (gs : List (List ℕ)) (lined : List ℕ) : Type 0 where
  pub ordered : Ordered gs lined
  pub few : length gs ≤ 128
  pub events : length (flat gs) ≤ 128
  pub known : (e : ℕ) → In e (flat gs) → e < n

-- the answer is that of the definitions, and where the text is an arrangement the array has its lines
abbrev pub JudgesLines : ℕ → List ℕ → List ℕ → Result ℕ ArrangementRefusal → List ℕ → Type 0
JudgesLines n t text a lined =
    (R : RunRecord) → TellsOrder n t R
    → Agrees lines_played (answer_of a) (λ gs. Arranged n gs lined) (read_arrangement R text)

-- a net and a record of the definitions: the places and their tokens, the inputs and the outputs in one array, and
-- the transitions of the events
pub record Describes (ps : ℕ) (ks arcs : List ℕ) (n : ℕ) (trans : List ℕ) (N : NetD) (R : RunRecord) : Type 0 where
  pub places : ps ≡ length N.tokens
  pub tokens : (p : ℕ) → get_or ks p 0 ≡ get_or N.tokens p 0
  pub inputs : Cells (column 0 1024 arcs) (takes N)
  pub outputs : Cells (column outputs_at 1024 arcs) (makes N)
  pub known : (e : ℕ) → e < n → get_or trans e 0 < 32
  pub transition : (e : ℕ) → e < n → get_or trans e 0 ≡ transition_of R e
