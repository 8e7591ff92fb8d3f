-- The program (01, "Refused line and program"; refusal 10).
use Rattle.std.specs.Prelude.{ℕ, Bool, ◌&&◌, cond, List, [], ◌∷◌, ◌++◌, length, get_or, eqb, ltb}
use Prim.Native.Char.{code}
use Rattle.std.proofs.Math.Option.{Option, none, some}
use Rattle.spec.specs.Answer.{Answer, gives, refuses, ◌>>=◌, ◌>>◌, refuse◌at◌when◌, found}
use Rattle.spec.specs.Text.{Line, lines_of, line_with}
use Rattle.spec.specs.Net.{net_of}
use Rattle.spec.specs.Record.{RunRecord, bench, record_bytes}
use Rattle.spec.specs.Building.{built}
use Rattle.spec.specs.Checking.{independent_pairs}
use Rattle.spec.specs.Arranging.{levels, line_count}
use Rattle.spec.specs.declared.Field.TheVariants.{Number}

-- "The program reads standard input: net, a line `=` (the first counts), log."
pub record NetAndLog : Type 0 where
  pub net : List Line
  pub log : List Line

-- the line `=`; like every line it is ended, by byte 10 or by 13 and 10
unfoldable pub is_parting : Line → Bool
is_parting l = l.ended && eqb (length l.bytes) 1 && eqb (get_or l.bytes 0 0) (code "=")

unfoldable pub with_net_line : Line → Option NetAndLog → Option NetAndLog
with_net_line l none = none
with_net_line l (some q) = some (record { net = l ∷ q.net; log = q.log })

-- the lines before the first line `=`, and those after it
unfoldable pub parted : List Line → Option NetAndLog
parted [] = none
parted (l ∷ ls) = cond (is_parting l) (some (record { net = []; log = ls })) (with_net_line l (parted ls))

-- "Program: 10 input over 65,536 bytes or no `=` line (spot 0)."
unfoldable pub input_of : List ℕ → Answer NetAndLog
input_of input = do
  refuse 10 at 0 when ltb 65536 (length input)
  found 10 0 (parted (lines_of input))

-- "`Z,events,conditions,pairs,lines` (independent pairs, arranged lines)"
unfoldable pub summary : RunRecord → List ℕ
summary r =
    line_with "Z" (Number (length r.events) ∷ Number (length r.conditions)
    ∷ Number (independent_pairs r) ∷ Number (line_count (levels r)) ∷ [])

-- "It prints the record, then [the summary], or `X,number,spot` alone."
unfoldable pub printed : Answer RunRecord → List ℕ
printed (gives r) = record_bytes r ++ summary r
printed (refuses n s) = line_with "X" (Number n ∷ Number s ∷ [])

unfoldable pub program : List ℕ → List ℕ
program input = printed (do
  q ← input_of input
  n ← net_of q.net
  built bench n q.log)
