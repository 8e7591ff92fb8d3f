-- `reach::raise` meets its contract: the two words that it stores are those of `raised_is`.
use Prim.Native.Nat.{ℕ, ◌*◌, ◌%◌, ◌^◌}
use mathlib.Core.Path.{◌≡◌, refl, ◌∙◌}
use mathlib.Core.Bool.{cond}
use native.Mathlib.Nat.{one-mul}
use native.Mathlib.Omega.{arith}
use lib.Dec.{lit<}
use lib.Pow.{shl_exact}
use lib.ListN.{length-set}
use Rattle.reach.proofs.Raising.{raised_is}
use Rattle.reach.proofs.raise.Goals as goal
use Rattle.reach.proofs.raise.Goals.{then-strict, else-strict}

pub returns : goal.returns
returns c =
    let bit : ℕ = (1 * 2 ^ (c.args.f % 64)) % 2 ^ 64 in
    let q : c.if-strict.strictly ≡ cond c.args.strict bit 0 = elim c.if-strict.branch [
      | then-strict w ↦ rw (w.strictly-is, w.if-strict.true) refl
      | else-strict w ↦ rw (w.strictly-is, w.if-strict.false) refl
    ] in
    raised_is _ _ _ c.args.e c.args.f _ _ _ c.args.strict c.requires.0 c.requires.1 c.requires.2 (shl_exact 1 (c.args.f % 64) 64 (lit< tt) (omega arith) ∙ one-mul (2 ^ (c.args.f % 64))) q refl refl refl

pub bounds-w-at-3 : goal.bounds-w-at-3
bounds-w-at-3 c = simp length-set (omega arith)

pub bounds-w-at-4 : goal.bounds-w-at-4
bounds-w-at-4 c = simp length-set (omega arith)
