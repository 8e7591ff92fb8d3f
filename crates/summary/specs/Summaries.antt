-- What the summary of a record promises.
use Rattle.std.specs.Prelude.{ℕ, List}
use Rattle.spec.specs.Printing.{summary}
use Rattle.writing.specs.Written.{Wrote}
use Rattle.record_columns.specs.declared.Counts.{Counts}
use Rattle.representation.specs.Noted.{Noted}

-- the bytes of the longest summary
abbrev pub summary_bytes : ℕ
summary_bytes = 19

-- the summary of the record is written from n on
abbrev pub Counted : Counts → List ℕ → List ℕ → ℕ → List ℕ → ℕ → List ℕ → Type 0
Counted s rec words n old r new = (K : Noted s rec words) → Wrote old n (summary K.run) r new
