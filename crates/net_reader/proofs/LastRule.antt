-- The last rule on arrays is the last rule on nets.
use Prim.Native.Nat.{ℕ, ◌+◌, ◌*◌, ◌≤◌, ◌<◌}
use mathlib.Core.Path.{◌≡◌, sym, ap, ◌∙◌}
use mathlib.Core.Option.{none, some}
use mathlib.Core.List.{List}
use native.Mathlib.Omega.{arith}
use lib.Dec.{ltb}
use lib.ListN.{get_or}
use Rattle.spec.specs.Answer.{Answer, gives, refuses, ◌>>◌, refuse◌at?◌}
use Rattle.spec.specs.Lists.{from, up_to, any, first, lowest}
use Rattle.lists.specs.Search.{any_same, first-same}
use Rattle.spec.specs.Net.{Net as NetD, takes, makes, lacking, whole}
use Rattle.spec.specs.Values.{net_values}
use Rattle.net.specs.NetArrays.{Cells, Holds}
use Rattle.net_reader.specs.Reads.{any_cell, lacks_of}
use Rattle.net.specs.declared.Net.{Net}

cells-any : (xs : List ℕ) (f : ℕ → ℕ → ℕ) (t n : ℕ) → t < 32 → n ≤ 32 → Cells xs f → any_cell xs t n ≡ any (λ p. ltb 0 (f t p)) (up_to n)
unfolding any_cell up_to
cells-any xs f t n ht hn c =
    any_same (λ p. ltb 0 (get_or xs (32 * t + p) 0)) (λ p. ltb 0 (f t p)) 0 n (λ p u. ap (λ (v : ℕ). ltb 0 v) (c.cell t p ht (omega arith)))

module _ (n : Net) (m : NetD) (h : Holds n m) where
  lacks-is : (t : ℕ) → t < 32 → lacks_of n.inputs n.outputs n.places t ≡ lacking m t
  unfolding lacks_of lacking
  lacks-is t ht =
      rw (cells-any n.inputs (takes m) t n.places ht h.counts.few_places h.inputs, cells-any n.outputs (makes m) t n.places ht h.counts.few_places h.outputs, h.counts.places)

  pub lowest-is : lowest (lacks_of n.inputs n.outputs n.places) n.transitions ≡ lowest (lacking m) m.transitions
  unfolding lowest up_to
  lowest-is = first-same (lacks_of n.inputs n.outputs n.places) (lacking m) 0 n.transitions (λ t u. lacks-is t (omega (arith, h.counts.few_transitions))) ∙ ap (λ (k : ℕ). first (lacking m) (from 0 k)) h.counts.transitions

  pub whole-lacks : (t : ℕ) → lowest (lacks_of n.inputs n.outputs n.places) n.transitions ≡ some t → whole m ≡ refuses 15 t
  unfolding whole ◌>>◌ refuse◌at?◌
  whole-lacks t e = rw (sym lowest-is ∙ e)

  pub whole-gives : lowest (lacks_of n.inputs n.outputs n.places) n.transitions ≡ none → whole m ≡ gives m
  unfolding whole ◌>>◌ refuse◌at?◌
  whole-gives e = rw (sym lowest-is ∙ e)

  pub counts : ◌≡◌ {A = Answer (ℕ × ℕ × ℕ)} (gives (n.places, n.transitions, 0)) (gives (net_values m))
  counts = rw (h.counts.places, h.counts.transitions)
