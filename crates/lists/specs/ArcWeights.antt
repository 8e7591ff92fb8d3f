-- The weight of an arc between a place and a transition (02, 2026-06): none where no arc joins them, and where one does it is
-- within the bounds of all weights of the net.
use Rattle.std.specs.Prelude.{◌≡◌, true, false, ltb}
use Rattle.std.proofs.Math.Path.{refl, ap}
use Rattle.std.proofs.Common.{sym, ◌∙◌, arith, lt-ltb, le-ltb}
use Rattle.std.proofs.Math.Logic.{inl, inr}
use Prim.Native.Nat.{ℕ, ◌≤◌, zero-le}
use Rattle.std.proofs.Math.Option.{Option, none, some}
use mathlib.Core.List.Memᴰ
use Rattle.spec.specs.Lists.{In, first, as_count}
use Rattle.spec.specs.Net.{Net, Arc, is_arc, joined, weight_in, weight_of, with_arc}
use Rattle.spec.specs.declared.ArcKind.{ArcKind}
use Rattle.lists.specs.Laws.{clash, true-or-false, any_none, any_found, first-none, first_some, none_first}

-- every arc of the net weighs from a to b
abbrev pub WeighFrom : ℕ → ℕ → Net → Type 0
WeighFrom a b n = (c : Arc) → In c n.arcs → (a ≤ c.weight) × (c.weight ≤ b)

-- so with one arc more that does
pub weigh-more : {a b : ℕ} (n : Net) (x : ArcKind) (p t w : ℕ) → WeighFrom a b n → a ≤ w → w ≤ b → WeighFrom a b (with_arc x p t w n)
unfolding with_arc
weigh-more n x p t w W l h c (Memᴰ.head e) = rw e (l, h)
weigh-more n x p t w W l h c (Memᴰ.tail i) = W c i

module _ (n : Net) (x : ArcKind) (p t : ℕ) where
  pub weight-none : joined n x p t ≡ false → weight_of n x p t ≡ 0
  unfolding joined weight_of
  weight-none h = ap weight_in (none_first (is_arc x p t) n.arcs (any_none (is_arc x p t) n.arcs h))

  module _ {a b : ℕ} (W : WeighFrom a b n) where
    pub weight-some : joined n x p t ≡ true → a ≤ weight_of n x p t
    unfolding joined weight_of
    weight-some h = go (first (is_arc x p t) n.arcs) refl
      where
        go : (o : Option Arc) → first (is_arc x p t) n.arcs ≡ o → a ≤ weight_in o
        go none e = let r = any_found (is_arc x p t) n.arcs (unfold joined in h) in clash r.2 (first-none (is_arc x p t) n.arcs e r.0 r.1)
        go (some c) e = (W c (first_some (is_arc x p t) n.arcs e).0).0

    pub weight-most : weight_of n x p t ≤ b
    unfolding weight_of
    weight-most = go (first (is_arc x p t) n.arcs) refl
      where
        go : (o : Option Arc) → first (is_arc x p t) n.arcs ≡ o → weight_in o ≤ b
        go none e = zero-le
        go (some c) e = (W c (first_some (is_arc x p t) n.arcs e).0).1

    -- where every arc weighs something, an arc is there exactly where something weighs
    pub weight-joined : 1 ≤ a → ltb 0 (weight_of n x p t) ≡ joined n x p t
    weight-joined l = elim (true-or-false (joined n x p t)) [
      | inl h ↦ lt-ltb 0 (weight_of n x p t) (omega (arith, weight-some h)) ∙ sym h
      | inr h ↦ le-ltb 0 (weight_of n x p t) (omega (arith, weight-none h)) ∙ sym h
    ]

  -- where every arc weighs 1, a weight is 1 or there is no arc
  pub weight-once : WeighFrom 1 1 n → weight_of n x p t ≡ as_count (joined n x p t)
  unfolding as_count
  weight-once W = elim (true-or-false (joined n x p t)) [
    | inl h ↦ rw h (omega (arith, weight-some W h, weight-most W))
    | inr h ↦ rw h (weight-none h)
  ]
