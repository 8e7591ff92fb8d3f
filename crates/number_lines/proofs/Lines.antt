-- The numbers of a line, put into an array one after the other.
use Prim.Native.Nat.{ℕ, ◌+◌, ◌≤◌, ◌<◌}
use mathlib.Core.Path.{◌≡◌, refl, sym, ap, ◌∙◌}
use mathlib.Core.Bool.{Bool, true, false, ◌||◌, cond}
use mathlib.Core.List.Memᴰ
use mathlib.Core.List.{List, [], ◌∷◌, ◌++◌, map, append_assoc, append-nil}
use native.Mathlib.Numerals.{add-one}
use native.Mathlib.Omega.{arith}
use lib.Dec.{leb}
use lib.ListN.{length, take, set, replicate, drop, length-append, length-set, length-replicate, length-map, length-drop}
use lib.Seq.{take-suc-set, length-take-le}
use borrow.Author.Tests.{leb-false}
use Rattle.std.specs.List.{list_any}
use Rattle.spec.specs.Lists.{any}
use Rattle.spec.specs.Text.{is_a, grow, pieces}
use Rattle.spec.specs.declared.Class.TheVariants.{Comma}
use Rattle.line_forms.specs.Rows.{slot_of, slots_of, value_of}
use Rattle.line_forms.specs.declared.Slot.{Slot}
use Rattle.lists.specs.Laws.{here, any_none}
use Rattle.number_lines.specs.Numbers.{Few, Begins}

-- numbers of which none is unknown are few enough, and low
pub few-known : {most : ℕ} (bound known : ℕ) (ns : List ℕ) → length ns ≤ most → any (leb known) ns ≡ false → known ≤ bound → Few most bound ns
few-known bound known ns h e l = record { few = h; low = λ n m. omega (arith, leb-false known n (any_none (leb known) ns e n m)) }

-- the first `count` numbers stand in the array, the rest is to come
pub record Filled (ns xs : List ℕ) (count : ℕ) (rest : List ℕ) : Type 0 where
  pub long : length xs ≡ 128
  pub some : count ≤ 128
  pub seen : take count xs ++ rest ≡ ns

pub filled_none : {ns rest : List ℕ} {count : ℕ} → count ≡ 0 → rest ≡ ns → Filled ns (replicate 128 0) count rest
filled_none e q = record { long = length-replicate {A = ℕ} 128 0; some = omega arith; seen = rw e q }

module _ {ns xs rest : List ℕ} {count : ℕ} (f : Filled ns xs count rest) where
  pub counted : count + length rest ≡ length ns
  counted = omega (arith, length-append (take count xs) rest, ap length f.seen, length-take-le count xs (omega (arith, f.long, f.some)))

  pub filled-room : {v : ℕ} {rest' : List ℕ} → Few 128 256 ns → rest ≡ v ∷ rest' → (count < 128) × (v < 256)
  filled-room {v} {rest'} h e = (omega (arith, counted, ap length e, h.few), h.low v (rw (← f.seen) (Memᴰ.append_right (take count xs) (rw e here))))

  pub filled_more : {v : ℕ} {rest' : List ℕ} → count < 128 → rest ≡ v ∷ rest' → Filled ns (set xs count v) (count + 1) rest'
  filled_more {v} {rest'} h e = record {
    long = length-set xs count v ∙ f.long;
    some = omega arith;
    seen =
        rw (add-one count, take-suc-set xs count v (omega (arith, f.long)), append_assoc (take count xs) (v ∷ []) rest')
        (ap (λ (zs : List ℕ). take count xs ++ zs) (sym e) ∙ f.seen);
  }

  pub filled-all : rest ≡ [] → Begins xs ns
  filled-all e =
      let n : length ns ≡ count = omega (arith, counted, ap length e) in
      record { long = f.long; numbers = rw n (sym (append-nil (take count xs)) ∙ ap (λ (zs : List ℕ). take count xs ++ zs) (sym e) ∙ f.seen) }

-- ---- what a chain over the fields of a line says of its numbers

pub any-values : (p : ℕ → Bool) (fs : List Slot) → list_any (λ f. p (value_of f)) fs ≡ any p (map value_of fs)
unfolding any
any-values p [] = refl
any-values p (f ∷ fs) = ap (λ b. p (value_of f) || b) (any-values p fs)

few_pieces : (bs : List ℕ) → (1 ≤ length (pieces bs)) × (length (pieces bs) ≤ length bs + 1)
unfolding pieces grow
few_pieces [] = (omega arith, omega arith)
few_pieces (b ∷ bs) = go (is_a Comma b) (pieces bs) (few_pieces bs)
  where
    go : (t : Bool) (ps : List (List ℕ)) → (1 ≤ length ps) × (length ps ≤ length bs + 1)
        → (1 ≤ length (cond t ([] ∷ ps) (grow b ps))) × (length (cond t ([] ∷ ps) (grow b ps)) ≤ length (b ∷ bs) + 1)
    go true ps h = (omega arith, omega arith)
    go false [] h = absurd (omega arith)
    go false (p ∷ ps) h = (omega arith, omega arith)

pub few-slots : (most : ℕ) (l : List ℕ) → length (slots_of most l) ≤ length l + 1
unfolding slots_of
few-slots most l = rw (length-map (drop 1 (pieces l)) (slot_of most)) (omega (arith, length-drop 1 (pieces l), (few_pieces l).1))
