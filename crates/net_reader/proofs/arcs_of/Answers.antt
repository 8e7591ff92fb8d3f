-- `net_reader::arcs_of` meets its contract: what is copied is the column.
use Prim.Native.Nat.{ℕ, ◌+◌, ◌-◌}
use mathlib.Core.Path.{◌≡◌, ap, ◌∙◌}
use native.Mathlib.Omega.{arith}
use lib.ListN.{take, drop}
use Rattle.columns.specs.Columns.{column}
use Rattle.net_reader.proofs.arcs_of.Goals as goal

pub returns : goal.returns
unfolding column
returns c = let e : c.args.at + 1024 - c.args.at ≡ 1024 = omega arith in
    c.copy_from_slice.ensures.after ∙ ap (λ (n : ℕ). take n (drop c.args.at c.args.arcs.now)) e
