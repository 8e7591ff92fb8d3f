-- The sum over the events: before each event it is what the earlier ones draw, exactly, since no such sum is above 128 * 10 ^ 12.
use Prim.Native.Nat.{ℕ, ◌+◌, ◌*◌, ◌≤◌, ◌<◌}
use mathlib.Core.Path.{◌≡◌, refl, sym, ap, ap₂, ◌∙◌}
use mathlib.Core.List.{List}
use native.Mathlib.Nat.{le_trans}
use native.Mathlib.Omega.{arith}
use lib.Dec.{lit≤}
use lib.ListN.{length, get_or, take, length-take}
use lib.Seq.{take_all}
use lib.Ieee.{Float, binary64, add, round, of_bits}
use Rattle.spec.specs.Lists.{sum_of}
use Rattle.spec.specs.Rounding.{float_of}
use Rattle.lists.specs.Along.{sum_of-more}
use Rattle.rounding.proofs.Whole.{add-whole}
use Rattle.hold_up.specs.declared.Draw.{Draw}
use Rattle.hold_up.specs.Floats.{no_draw}
use Rattle.energies.specs.Promises.{Drawn}
use Rattle.energies.proofs.Ranges.{draw-held, event-small, sum-small}

-- what the first i events draw
abbrev pub first : List ℕ → List ℕ → ℕ → ℕ
first ns events i = sum_of (λ t. get_or ns t 0) (take i events)

pub no-events : (ns events : List ℕ) → of_bits binary64 0 ≡ float_of (first ns events 0)
unfolding of_bits float_of round sum_of
no-events ns events = refl

module _ {draws : List Draw} {ns events : List ℕ} (d : Drawn draws ns events) where
  each-small : (t : ℕ) → t < length ns → get_or ns t 0 ≤ 1000000000000
  each-small t l = event-small (get_or draws t no_draw) (get_or ns t 0) (d.stand t l)

  pub all_small : sum_of (λ t. get_or ns t 0) events ≤ 128 * 1000000000000
  all_small = sum-small ns events each-small d.few

  pub next-event : (i : ℕ) (sum x : Float) → i < length events → sum ≡ float_of (first ns events i) → x ≡ float_of (get_or ns (get_or events i 0) 0)
      → add binary64 sum x ≡ float_of (first ns events (i + 1))
  next-event i sum x l e g =
      let j = get_or ns (get_or events i 0) 0 in
      ap₂ (add binary64) e g
      ∙ add-whole (first ns events i) j
      (draw-held _ (sum-small ns (take i events) each-small (omega (arith, length-take i events, d.few))))
      (le_trans (each-small (get_or events i 0) (d.known i l)) (lit≤ tt))
      ∙ ap float_of (sym (sum_of-more 0 (λ t. get_or ns t 0) events i l))

pub all-events : (ns events : List ℕ) (i : ℕ) (sum : Float) → length events ≤ i → sum ≡ float_of (first ns events i) → sum ≡ float_of (sum_of (λ t. get_or ns t 0) events)
all-events ns events i sum l e = e ∙ ap (λ (z : List ℕ). float_of (sum_of (λ t. get_or ns t 0) z)) (take_all i events l)
