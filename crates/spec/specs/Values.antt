-- What a call returns (01, "Refusals by operation"): a refusal's number and spot, or the values of the operation.
use Rattle.std.specs.Prelude.{ℕ, List, length}
use Rattle.spec.specs.Answer.{Answer, gives, refuses, returned}
use Rattle.spec.specs.Net.{Net, places, read_net}
use Rattle.spec.specs.Building.{build}
use Rattle.spec.specs.Checking.{Checked, check}
use Rattle.spec.specs.Replaying.{Replayed, replay}
use Rattle.spec.specs.Arranging.{Arranged, arrange}
use Rattle.spec.specs.LineParts.{Part, refused_line}
use Rattle.spec.specs.Printing.{program}
use Rattle.spec.specs.declared.Numbers.{Numbers}

-- "A refusal returns number and spot": its values are 0, and number and spot are 0 where a call is accepted
abbrev pub as_numbers : Answer (ℕ × ℕ × ℕ) → Numbers
as_numbers (gives v) = record { number = 0; spot = 0; a = v.0; b = v.1; c = v.2 }
as_numbers (refuses n s) = record { number = n; spot = s; a = 0; b = 0; c = 0 }

-- ---- the values of each operation, in their order; 0 stands where it has fewer than three

-- "Net (read alone, it returns how many places and transitions it has)"
abbrev pub net_values : Net → ℕ × ℕ × ℕ
net_values n = (places n, n.transitions, 0)

-- "Building .. return[s] how many bytes [it] wrote", and so does the program's operation
abbrev pub byte_values : List ℕ → ℕ × ℕ × ℕ
byte_values bytes = (length bytes, 0, 0)

-- "It also returns the events, conditions and independent pairs"
abbrev pub check_values : Checked → ℕ × ℕ × ℕ
check_values c = (c.events, c.conditions, c.independents)

-- "replaying how many lines it played"
abbrev pub replay_values : Replayed → ℕ × ℕ × ℕ
replay_values r = (r.lines, 0, 0)

-- "arranging return how many bytes they wrote"; "It returns its line count"
abbrev pub arrange_values : Arranged → ℕ × ℕ × ℕ
arrange_values a = (length a.bytes, a.lines, 0)

-- "the refused line as a part of whichever of the two texts was chosen": where it starts in that text, and its length
abbrev pub line_values : Part → ℕ × ℕ × ℕ
line_values p = (p.start, length p.bytes, 0)

-- ---- what a call of each operation returns; `room` is the size of the lent buffer

abbrev pub net_returns : List ℕ → Numbers
net_returns net = as_numbers (returned net_values (read_net net))

abbrev pub build_returns : List ℕ → List ℕ → ℕ → Numbers
build_returns net log room = as_numbers (returned byte_values (build net log room))

abbrev pub check_returns : List ℕ → List ℕ → ℕ → Numbers
check_returns net text room = as_numbers (returned check_values (check net text room))

abbrev pub replay_returns : List ℕ → List ℕ → List ℕ → ℕ → Numbers
replay_returns net text arrangement room = as_numbers (returned replay_values (replay net text arrangement room))

abbrev pub arrange_returns : List ℕ → List ℕ → ℕ → Numbers
arrange_returns net text room = as_numbers (returned arrange_values (arrange net text room))

abbrev pub line_returns : List ℕ → List ℕ → ℕ → ℕ → Numbers
line_returns net second choice k = as_numbers (returned line_values (refused_line net second choice k))

-- the program's operation is never refused: an `X` line is printed like a record
abbrev pub program_returns : List ℕ → Numbers
program_returns input = as_numbers (gives (byte_values (program input)))
