-- A line that is refused or entered, and a step that answers the same.
use mathlib.Core.Path.{◌≡◌, refl, ap}
use mathlib.Core.List.{List}
use Prim.Native.Nat.{ℕ}
use Rattle.std.specs.Prelude.{Result, Ok, Err, IsErrAnd}
use Rattle.spec.specs.Answer.{Answer, gives}
use Rattle.spec.specs.Record.{RunRecord}
use Rattle.lines.specs.Agree.{refused_as, giving, refusing}
use Rattle.record_columns.specs.Enters.{record_refusal, Entered, Holds, Enters}
use Rattle.record_columns.specs.declared.Counts.{Counts}
use Rattle.record_columns.specs.declared.RecordRefusal.{RecordRefusal}

-- what the `?` of a refusal returns
pub err-is : {T E : Type 0} {x : E} (r : Result T E) → IsErrAnd r (λ y. y ≡ x) → r ≡ Err x
err-is (Ok y) h = absurd h
err-is (Err y) h = ap Err h

module _ {s : Counts} {b words b' words' : List ℕ} {f : RunRecord → Answer RunRecord} where
  pub line_refused : (why : RecordRefusal) → ((R : RunRecord) → Holds s b words R → f R ≡ refused_as (record_refusal why))
      → Enters s b words f (Err why) b' words'
  line_refused why h = record { answers = λ R q. refusing _ _ (h R q) refl }

  pub line-entered : (s' : Counts) (g : RunRecord → RunRecord) → ((R : RunRecord) → Holds s b words R → (f R ≡ gives (g R)) × Holds s' b' words' (g R))
      → Enters s b words f (Ok s') b' words'
  line-entered s' g h = record { answers = λ R q. giving (g R) (h R q).0 refl (h R q).1 }

  -- a step that answers the same enters the same
  pub entered-same : {r : Entered} (g : RunRecord → Answer RunRecord) → ((R : RunRecord) → f R ≡ g R) → Enters s b words g r b' words'
      → Enters s b words f r b' words'
  entered-same g e h = record { answers = λ R q. rw (e R) (h.answers R q) }
