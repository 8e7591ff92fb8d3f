-- Taking and making by columns of lent arrays: what one store is, and one run of stores after the other.
use Prim.Native.Nat.{ℕ, ◌+◌, ◌≤◌, ◌<◌}
use mathlib.Core.Path.{◌≡◌, refl, sym, ap, ◌∙◌}
use mathlib.Core.Bool.{Bool, ◌&&◌}
use mathlib.Core.List.{List, [], ◌∷◌, ◌++◌}
use native.Mathlib.Omega.{arith}
use lib.Dec.{eqb}
use lib.ListN.{length, get_or, set, replicate, length-set, replicate-append-replicate}
use Rattle.spec.specs.Record.{Condition}
use Rattle.runs.specs.Flows.{Flow, flow}
use Rattle.columns.specs.Columns.{column, column-length, column-at, store_in, store_below, store-past}
use Rattle.conditions.specs.Conditions.{free_at, FirstFree, fresh, Sized, ReadyAt, TookAt, MadeAt}
use Rattle.conditions.proofs.Taking.{free-test, took-none, took_one, took-nothing, took-then}
use Rattle.conditions.proofs.Making.{made_one, made_nothing, made_then}

-- ---- taking

-- the test of the code
pub free-read : (p : ℕ) (rec : List ℕ) (i x : ℕ) (b : Bool) → i < 512 → x ≡ get_or rec (128 + i) 0 → (eqb x p && eqb (get_or rec (1152 + i) 0) 128) ≡ b → free_at p (column 128 512 rec) (column 1152 512 rec) i ≡ b
free-read p rec i x b l e h = free-test p _ _ i x b (e ∙ sym (column-at 128 512 rec i l)) (rw (column-at 1152 512 rec i l) h)

module _ {n : ℕ} {rec counts : List ℕ} where
  pub takes-nothing : ReadyAt n rec counts → TookAt [] n rec counts rec counts
  takes-nothing R = record { took = took-nothing R.ready; long = refl; wide = refl; kept = λ at k h. refl; counted = λ at k h. refl }

  -- what is left is as ready
  pub ready-after : {xs : List Flow} {rec' counts' : List ℕ} → ReadyAt n rec counts → TookAt xs n rec counts rec' counts' → ReadyAt n rec' counts'
  ready-after R T = record { long = omega (arith, R.long, T.long); wide = T.wide ∙ R.wide; ready = rw (T.kept 128 512 (omega arith)) T.took.ready }

  pub takes-then : {xs ys : List Flow} {rec' counts' rec'' counts'' : List ℕ}
      → TookAt xs n rec counts rec' counts' → TookAt ys n rec' counts' rec'' counts'' → TookAt (xs ++ ys) n rec counts rec'' counts''
  takes-then a b = record {
    took = took-then a.took (rw (a.kept 128 512 (omega arith)) at b.took);
    long = b.long ∙ a.long;
    wide = b.wide ∙ a.wide;
    kept = λ at k h. b.kept at k h ∙ a.kept at k h;
    counted = λ at k h. b.counted at k h ∙ a.counted at k h;
  }

  pub takes-as : {xs ys : List Flow} {rec' counts' : List ℕ} → TookAt xs n rec counts rec' counts' → xs ≡ ys → TookAt ys n rec counts rec' counts'
  takes-as a e = rw (← e) a

  -- the same token once more
  pub takes-again : {x : Flow} {rec' counts' rec'' counts'' : List ℕ} (k : ℕ)
      → TookAt (replicate k x) n rec counts rec' counts' → TookAt (x ∷ []) n rec' counts' rec'' counts'' → TookAt (replicate (k + 1) x) n rec counts rec'' counts''
  takes-again {x} k a b = rw (← replicate-append-replicate k 1 x) (takes-then a b)

-- one token
module _ (e p n s : ℕ) (rec counts : List ℕ) (r : ℕ) (R : ReadyAt n rec counts) (q : s ≡ get_or (column 64 32 counts) p 0) (F : FirstFree p s n (column 128 512 rec) (column 1152 512 rec) r) where
  pub takes_none : n ≤ r → TookAt (flow e p ∷ []) n rec counts rec counts
  takes_none l = record { took = took-none e p n s _ _ _ r R.ready q F l; long = refl; wide = refl; kept = λ at k h. refl; counted = λ at k h. refl }

  pub takes_one : e < 128 → p < 32 → r < n → TookAt (flow e p ∷ []) n rec counts (set rec (1152 + r) e) (set counts (64 + p) (r + 1))
  takes_one a b l = record {
    took = rw (store_in 1152 512 rec r e (omega (arith, R.ready.few)), store_in 64 32 counts p (r + 1) b) (took_one e p n s _ _ _ r R.ready q F a b l);
    long = length-set rec (1152 + r) e;
    wide = length-set counts (64 + p) (r + 1);
    kept = λ at k h. store-past at k rec (1152 + r) e (omega arith);
    counted = λ at k h. store-past at k counts (64 + p) (r + 1) (omega arith);
  }

-- ---- making

pub sized-at : (rec : List ℕ) → 1664 ≤ length rec → Sized (column 128 512 rec) (column 640 512 rec) (column 1152 512 rec)
sized-at rec h = record { places = column-length 128 512 rec (omega arith); producers = column-length 640 512 rec (omega arith); consumers = column-length 1152 512 rec (omega arith) }

module _ {n : ℕ} {rec : List ℕ} where
  pub makes-nothing : 1664 ≤ length rec → MadeAt [] n rec n rec
  makes-nothing h = record { made = made_nothing (sized-at rec h); long = refl; kept = λ at k h. refl }

  pub makes-then : {xs ys : List Condition} {r s : ℕ} {rec' rec'' : List ℕ} → MadeAt xs n rec r rec' → MadeAt ys r rec' s rec'' → MadeAt (xs ++ ys) n rec s rec''
  makes-then a b = record { made = made_then a.made b.made; long = b.long ∙ a.long; kept = λ at k h. b.kept at k h ∙ a.kept at k h }

  pub makes-as : {xs ys : List Condition} {r s : ℕ} {rec' : List ℕ} → MadeAt xs n rec r rec' → xs ≡ ys → r ≡ s → MadeAt ys n rec s rec'
  makes-as a e q = rw (← e, ← q) a

  pub makes-again : {c : Condition} {r s : ℕ} {rec' rec'' : List ℕ} (k : ℕ) → MadeAt (replicate k c) n rec r rec' → MadeAt (c ∷ []) r rec' s rec'' → MadeAt (replicate (k + 1) c) n rec s rec''
  makes-again {c} k a b = rw (← replicate-append-replicate k 1 c) (makes-then a b)

-- one condition, by its three stores
module _ (v p n : ℕ) (rec : List ℕ) (h : 1664 ≤ length rec) (l : n < 512) where
  abbrev one : List ℕ
  one = set rec (128 + n) p

  abbrev two : List ℕ
  two = set one (640 + n) v

  abbrev three : List ℕ
  three = set two (1152 + n) 128

  placed : column 128 512 three ≡ set (column 128 512 rec) n p
  placed = store-past 128 512 two (1152 + n) 128 (omega arith) ∙ store-past 128 512 one (640 + n) v (omega arith) ∙ store_in 128 512 rec n p l

  produced : column 640 512 three ≡ set (column 640 512 rec) n v
  produced = store-past 640 512 two (1152 + n) 128 (omega arith) ∙ store_in 640 512 one n v l ∙ ap (λ (z : List ℕ). set z n v) (store_below 640 512 rec (128 + n) p (omega arith))

  consumed : column 1152 512 three ≡ set (column 1152 512 rec) n 128
  consumed = store_in 1152 512 two n 128 l ∙ ap (λ (z : List ℕ). set z n 128) (store_below 1152 512 one (640 + n) v (omega arith) ∙ store_below 1152 512 rec (128 + n) p (omega arith))

  pub makes_one : MadeAt (fresh v p ∷ []) n rec (n + 1) three
  makes_one = record {
    made = rw (placed, produced, consumed) (made_one v p n _ _ _ (sized-at rec h) l);
    long = length-set two (1152 + n) 128 ∙ length-set one (640 + n) v ∙ length-set rec (128 + n) p;
    kept = λ at k g. store-past at k two (1152 + n) 128 (omega arith) ∙ store-past at k one (640 + n) v (omega arith) ∙ store-past at k rec (128 + n) p (omega arith);
  }
