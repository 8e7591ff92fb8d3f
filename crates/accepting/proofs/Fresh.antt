-- Arrays that are all zero: no net, no marks, no order.
use mathlib.Core.Path.{refl}
use Prim.Native.Nat.{ℕ, ◌≤◌}
use native.Mathlib.Omega.{arith}
use mathlib.Core.List.{List}
use lib.ListN.{length, replicate, length-replicate}
use Rattle.lists.specs.Arrays.{blank}
use Rattle.reach.specs.Rows.{Good}
use Rattle.reach.proofs.Zero.{zero-sub, zero-cell}
use Rattle.net_reader.specs.Reads.{Blank as NetBlank}
use Rattle.record_reader.specs.Reads.{Blank as RecordBlank}
use Rattle.accepting.specs.Relation.{Blank}

pub fresh-net : NetBlank (replicate 32 0) (replicate 4096 0)
fresh-net = record { tokens = refl; arcs = refl }

pub fresh-record : 1664 ≤ length (replicate {A = ℕ} 1664 0)
fresh-record = omega (arith, length-replicate {A = ℕ} 1664 0)

-- words for the marks of a short text, and of any
pub fresh-few : (text : List ℕ) → length text ≤ 512 → RecordBlank text (replicate 512 0)
fresh-few text l = record { room = omega (arith, length-replicate {A = ℕ} 512 0); zero = blank 512 }

pub fresh-all : (text : List ℕ) → RecordBlank text (replicate 4096 0)
fresh-all text = record { room = omega (arith, length-replicate {A = ℕ} 4096 0); zero = blank 4096 }

pub fresh : Blank (replicate 512 0)
unfolding Good
fresh = record {
  long = length-replicate {A = ℕ} 512 0;
  good = λ e l. zero-sub _ (blank 512) e;
  zero = zero-cell _ (blank 512);
}
