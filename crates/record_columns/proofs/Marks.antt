-- What a list of marks says of a slot of a condition and an event: more marks, and the marks that say it.
use Prim.Native.Nat.{ℕ, suc, ◌≤◌, ◌<◌, max}
use mathlib.Core.Path.{◌≡◌, refl, sym, ap, ◌∙◌}
use mathlib.Core.Bool.{Bool, true, false, ◌||◌, cond}
use mathlib.Core.List.Memᴰ
use mathlib.Core.List.{List, [], ◌∷◌, ◌++◌}
use native.Mathlib.Nat.{max-zero}
use native.Mathlib.Decide.{dec_le}
use native.Mathlib.Omega.{arith}
use lib.Dec.{eqb, ltb}
use borrow.Author.Tests.{eq-eqb, eqb-true, lt-ltb}
use Rattle.spec.specs.Lists.{In, any, count}
use Rattle.spec.specs.Record.{RunRecord, Mark, slot_of, is_at, marked}
use Rattle.spec.specs.declared.MarkKind.{MarkKind}
use Rattle.spec.specs.declared.MarkKind.TheVariants.{Before, After, Read}
use Rattle.lists.specs.Laws
use Rattle.record_columns.specs.Layout.{mark_slots, kind_code, mark_says, mark_value}

pub kind-some : (x : MarkKind) → 0 < kind_code x
kind-some Before = omega arith
kind-some After = omega arith
kind-some Read = omega arith

pub slot-few : (x : MarkKind) → slot_of x < mark_slots
unfolding slot_of
slot-few Before = omega arith
slot-few After = omega arith
slot-few Read = omega arith

pub value-append : (xs ys : List Mark) (s c e : ℕ) → mark_value (xs ++ ys) s c e ≡ max (mark_value xs s c e) (mark_value ys s c e)
unfolding mark_value
value-append [] ys s c e = omega arith
value-append (x ∷ xs) ys s c e = omega (arith, value-append xs ys s c e)

pub value-one : (w : Mark) (s c e : ℕ) → mark_value (w ∷ []) s c e ≡ mark_says w s c e
unfolding mark_value
value-one w s c e = max-zero (mark_says w s c e)

-- a mark that stands elsewhere says nothing, and one that stands there its kind
pub says_here : (w : Mark) (s c e : ℕ) → is_at s c e w ≡ true → mark_says w s c e ≡ kind_code w.kind
unfolding mark_says
says_here w s c e h = rw h refl

pub says-away : (w : Mark) (s c e : ℕ) → is_at s c e w ≡ false → mark_says w s c e ≡ 0
unfolding mark_says
says-away w s c e h = rw h refl

-- there is a mark where something is said
pub any_value : (ws : List Mark) (s c e : ℕ) → any (is_at s c e) ws ≡ ltb 0 (mark_value ws s c e)
unfolding any mark_value
any_value [] s c e = refl
any_value (w ∷ ws) s c e = go (is_at s c e w) refl (any_value ws s c e)
  where
    go : (b : Bool) → is_at s c e w ≡ b → any (is_at s c e) ws ≡ ltb 0 (mark_value ws s c e) → (b || any (is_at s c e) ws) ≡ ltb 0 (max (mark_says w s c e) (mark_value ws s c e))
    go true h rest = sym (lt-ltb 0 (max (mark_says w s c e) (mark_value ws s c e)) (omega (arith, says_here w s c e h, kind-some w.kind)))
    go false h rest = let q : mark_value ws s c e ≡ max (mark_says w s c e) (mark_value ws s c e) = omega (arith, says-away w s c e h) in rest ∙ ap (ltb 0) q

pub marked-value : (R : RunRecord) (s c e : ℕ) → marked R s c e ≡ ltb 0 (mark_value R.marks s c e)
unfolding marked
marked-value R s c e = any_value R.marks s c e

-- a mark stands in the slot of its kind, at its own condition and event
pub at_own_lem : (w : Mark) (s c e : ℕ) → s ≡ slot_of w.kind → c ≡ w.condition → e ≡ w.event → is_at s c e w ≡ true
unfolding is_at
at_own_lem w s c e o p q = Laws.true-and (Laws.true-and (eq-eqb (slot_of w.kind) s (sym o)) (eq-eqb w.condition c (sym p))) (eq-eqb w.event e (sym q))

pub at_all : (w : Mark) (s c e : ℕ) → is_at s c e w ≡ true → (slot_of w.kind ≡ s) × (w.condition ≡ c) × (w.event ≡ e)
unfolding is_at
at_all w s c e h =
    let z = Laws.and-three (eqb (slot_of w.kind) s) (eqb w.condition c) (eqb w.event e) h in
    (eqb-true (slot_of w.kind) s z.0, eqb-true w.condition c z.1, eqb-true w.event e z.2)

-- what is said is said by a mark
pub value_found : (ws : List Mark) (s c e : ℕ) → 0 < mark_value ws s c e → (w : Mark) × In w ws × (slot_of w.kind ≡ s) × (w.condition ≡ c) × (w.event ≡ e) × (kind_code w.kind ≡ mark_value ws s c e)
unfolding mark_value
value_found [] s c e l = absurd (omega arith)
value_found (w ∷ ws) s c e l = elim (dec_le (mark_value ws s c e) (mark_says w s c e)) [
  | yes m ↦ go (is_at s c e w) refl m
  | no d ↦ let r = value_found ws s c e (omega arith) in (r.0, Laws.there r.1, r.2, r.3, r.4, r.5 ∙ omega arith)
]
  where
    go : (b : Bool) → is_at s c e w ≡ b → mark_value ws s c e ≤ mark_says w s c e → (v : Mark) × In v (w ∷ ws) × (slot_of v.kind ≡ s) × (v.condition ≡ c) × (v.event ≡ e) × (kind_code v.kind ≡ max (mark_says w s c e) (mark_value ws s c e))
    go true h m = let p = at_all w s c e h in (w, Laws.here, p.0, p.1, p.2, omega (arith, says_here w s c e h))
    go false h m = absurd (omega (arith, says-away w s c e h))

-- where no mark stands nothing is said
value_none : (ws : List Mark) (s c e : ℕ) → count (is_at s c e) ws ≡ 0 → mark_value ws s c e ≡ 0
value_none ws s c e h = elim (dec_le 1 (mark_value ws s c e)) [
  | yes l ↦ let r = value_found ws s c e l in absurd (omega (arith, Laws.count-in (is_at s c e) r.0 ws r.1 (at_own_lem r.0 s c e (sym r.2) (sym r.3) (sym r.4))))
  | no d ↦ omega arith
]

-- and where no two marks stand in the same slot of a condition and event, each mark is what is said there
pub value-once : (ws : List Mark) (w : Mark) (s c e : ℕ) → In w ws → is_at s c e w ≡ true → count (is_at s c e) ws ≤ 1 → mark_value ws s c e ≡ kind_code w.kind
unfolding mark_value count
value-once (v ∷ ws) w s c e (Memᴰ.head q) t h =
    let u : is_at s c e v ≡ true = rw (← q) t in
    rw q (omega (arith, says_here v s c e u, value_none ws s c e (only u h)))
  where
    only : is_at s c e v ≡ true → cond (is_at s c e v) (suc (count (is_at s c e) ws)) (count (is_at s c e) ws) ≤ 1 → count (is_at s c e) ws ≡ 0
    only u h = omega (arith, rw u at h)
value-once (v ∷ ws) w s c e (Memᴰ.tail m) t h = go (is_at s c e v) refl h (value-once ws w s c e m t)
  where
    go : (b : Bool) → is_at s c e v ≡ b → cond b (suc (count (is_at s c e) ws)) (count (is_at s c e) ws) ≤ 1 → (count (is_at s c e) ws ≤ 1 → mark_value ws s c e ≡ kind_code w.kind) → max (mark_says v s c e) (mark_value ws s c e) ≡ kind_code w.kind
    go true u l rest = absurd (omega (arith, Laws.count-in (is_at s c e) w ws m t))
    go false u l rest = omega (arith, says-away v s c e u, rest l)
value-once [] w s c e x3 t h = elim x3 [ ]
