-- Every numbering of the events as an arrangement in lines. That of the levels keeps the order, and none that keeps it is shorter.
use Rattle.std.specs.Prelude.{◌≡◌, refl, length}
use Rattle.std.proofs.Math.Path.{sym, ap}
use Rattle.std.proofs.Common.{◌∙◌, le_of_eq}
use Prim.Native.Nat.{ℕ, zero, suc, ◌+◌, ◌-◌, ◌≤◌, ◌<◌}
use Rattle.std.proofs.Math.Nat.{le_trans}
use Rattle.std.proofs.Math.Decide.{ℕ_discrete}
use native.Mathlib.Omega.{arith}
use mathlib.Core.List.{List, [], map, map-map}
use Rattle.std.proofs.Math.ListN.{get_or}
use Rattle.std.proofs.Math.Dec.{eqb}
use borrow.Author.Tests.{eq-eqb, ne_eqb, eqb-true}
use Rattle.spec.specs.Lists.{In, up_to, count, greatest, sum_of, as_count}
use Rattle.spec.specs.Arrangement.{Arrangement, times, index}
use Rattle.spec.specs.Arranging.{on_line, arranged_lines, line_count}
use Rattle.lists.specs.Laws.{count-sum, count_none, count-keep, count-length, count-up_to, count-true, count-false, in-keep, in-up_to, sum_of-map, sum_of-same, sum_of-zero, get_or-table, length-map, length-up_to, map_same}
use Rattle.order.specs.Below.{max_below, max-above, max_least, max-attained}
use Rattle.order.specs.Order.{Order, Keeps}
use Rattle.order.proofs.Order.{keeps_same, keeps-less}
use Rattle.order.specs.Level.{lev}
use Rattle.order.proofs.Level.{lev-least, lev-keeps, lev-dense}
use Rattle.order.specs.Index.{times-lines, index-bound, index_is}
use Rattle.order.specs.Arrange.{Kept, arrange, height, Dense, ord_of, squeeze}

pub kept_less : (n : ℕ) (c d : ℕ → ℕ → ℕ) (ls : List (List ℕ)) → ((e f : ℕ) → c e f ≤ d e f) → Kept n d ls → Kept n c ls
kept_less n c d ls h k = record { arranged = k.arranged; keeps = keeps-less n c d _ h k.keeps }

-- only the numbers of the events count
pub arrange-same : (n : ℕ) (ρ σ : ℕ → ℕ) → ((e : ℕ) → e < n → ρ e ≡ σ e) → arrange n ρ ≡ arrange n σ
unfolding arrange
arrange-same n ρ σ h = ap arranged_lines (map_same ρ σ (up_to n) (λ e m. h e (in-up_to n m)))

module _ (n : ℕ) (ρ : ℕ → ℕ) where
  pub count-lines : line_count (map ρ (up_to n)) ≡ height n ρ
  unfolding line_count height max_below
  count-lines = ap greatest (map-map suc ρ (up_to n))

  below-height : (e : ℕ) → e < n → ρ e < height n ρ
  unfolding height
  below-height e l = max-above n (λ e. suc (ρ e)) e l

  -- ---- a line has the events of its number, each once

  on-line-in : (e i : ℕ) → In e (on_line (map ρ (up_to n)) i) → (e < n) × (ρ e ≡ i)
  unfolding on_line
  on-line-in e i m =
      let r = in-keep (λ e. eqb (get_or (map ρ (up_to n)) e 0) i) (up_to (length (map ρ (up_to n)))) m in
      let l : e < n = omega (arith, in-up_to (length (map ρ (up_to n))) r.0, length-map ρ (up_to n), length-up_to n) in
      (l, sym (get_or-table ρ n e 0 l) ∙ eqb-true _ i r.1)

  off-line : (e i : ℕ) → ¬ ((e < n) × (ρ e ≡ i)) → count (eqb e) (on_line (map ρ (up_to n)) i) ≡ 0
  off-line e i h = count_none (eqb e) _ (λ x m. ne_eqb e x (λ d. h (rw (← d) at (on-line-in x i m))))

  on_line_lem : (e i : ℕ) → e < n → ρ e ≡ i → count (eqb e) (on_line (map ρ (up_to n)) i) ≡ 1
  unfolding on_line
  on_line_lem e i l h =
      count-keep (eqb e) _ (up_to (length (map ρ (up_to n)))) (λ x q.
      eq-eqb _ i (ap (λ (z : ℕ). get_or (map ρ (up_to n)) z 0) (sym (eqb-true e x q)) ∙ get_or-table ρ n e 0 l ∙ h))
      ∙ rw (length-map ρ (up_to n), length-up_to n) (count-up_to e n l)

  line-count : (e i : ℕ) → e < n → count (eqb e) (on_line (map ρ (up_to n)) i) ≡ as_count (eqb (ρ e) i)
  line-count e i l = elim (ℕ_discrete (ρ e) i) [
    | yes q ↦ on_line_lem e i l q ∙ sym (count-true (eq-eqb (ρ e) i q))
    | no q ↦ off-line e i (λ h. q h.1) ∙ sym (count-false (ne_eqb (ρ e) i q))
  ]

  -- ---- the lines

  arrange-times : (e : ℕ) → times e (arrange n ρ) ≡ sum_of (λ i. count (eqb e) (on_line (map ρ (up_to n)) i)) (up_to (height n ρ))
  unfolding arrange arranged_lines
  arrange-times e = rw (← count-lines) (times-lines e (arrange n ρ) ∙ sum_of-map (count (eqb e)) (on_line (map ρ (up_to n))) (up_to (line_count (map ρ (up_to n)))))

  arrange-once : (e : ℕ) → e < n → times e (arrange n ρ) ≡ 1
  arrange-once e l = arrange-times e ∙ sum_of-same _ _ (up_to (height n ρ)) (λ i m. line-count e i l)
      ∙ sym (count-sum (eqb (ρ e)) (up_to (height n ρ))) ∙ count-up_to (ρ e) (height n ρ) (below-height e l)

  arrange-only : (e : ℕ) → n ≤ e → times e (arrange n ρ) ≡ 0
  arrange-only e l = arrange-times e ∙ sum_of-zero _ (up_to (height n ρ)) (λ i m. off-line e i (λ h. omega (arith, h.0)))

  pub arrange-length : length (arrange n ρ) ≡ height n ρ
  unfolding arrange arranged_lines
  arrange-length = length-map (on_line (map ρ (up_to n))) (up_to (line_count (map ρ (up_to n)))) ∙ length-up_to _ ∙ count-lines

  line_at : (i : ℕ) → i < height n ρ → get_or (arrange n ρ) i [] ≡ on_line (map ρ (up_to n)) i
  unfolding arrange arranged_lines
  line_at i h = get_or-table (on_line (map ρ (up_to n))) (line_count (map ρ (up_to n))) i [] (omega (arith, count-lines))

  pub arrange-index : (e : ℕ) → e < n → index e (arrange n ρ) ≡ ρ e
  arrange-index e l = index_is e (ρ e) (arrange n ρ) (arrange-once e l)
      (rw (line_at (ρ e) (below-height e l)) (omega (arith, on_line_lem e (ρ e) l refl)))

  -- ---- no line is empty where the numbering is dense

  module _ (dense : Dense n ρ) where
    down : (d i e : ℕ) → e < n → ρ e ≡ i + d → (g : ℕ) × (g < n) × (ρ g ≡ i)
    down zero i e l q = (e, l, omega arith)
    down (suc d) i e l q = let r : (g : ℕ) × (g < n) × (ρ g ≡ i + d) = dense e (i + d) l (omega arith) in down d i r.0 r.1 r.2

    used : (i : ℕ) → i < height n ρ → (g : ℕ) × (g < n) × (ρ g ≡ i)
    unfolding height
    used i h = let r : (g : ℕ) × (g < n) × (suc (ρ g) ≡ max_below n (λ e. suc (ρ e))) = max-attained n (λ e. suc (ρ e)) (omega arith) in
        down (ρ r.0 - i) i r.0 r.1 (omega (arith, r.2))

    full : (i : ℕ) → i < length (arrange n ρ) → 0 < length (get_or (arrange n ρ) i [])
    full i h =
        let h' : i < height n ρ = omega (arith, arrange-length) in
        let r : (g : ℕ) × (g < n) × (ρ g ≡ i) = used i h' in
        rw (line_at i h') (omega (arith, count-length (eqb r.0) (on_line (map ρ (up_to n)) i), on_line_lem r.0 i r.1 r.2))

    pub arrange-arranged : Arrangement n (arrange n ρ)
    arrange-arranged = record { once = arrange-once; only = arrange-only; full = full }

    pub arrange-kept : (c : ℕ → ℕ → ℕ) → Keeps n c ρ → Kept n c (arrange n ρ)
    arrange-kept c k = record { arranged = arrange-arranged; keeps = keeps_same n c ρ _ arrange-index k }

module _ (n : ℕ) (ρ : ℕ → ℕ) where
  ord-order : Order n (ord_of ρ)
  unfolding ord_of
  ord-order = record { trans = λ e g f i l j p q. omega arith; acyclic = λ e l. omega arith }

  pub squeeze-lt : (e f : ℕ) → e < n → f < n → ρ e < ρ f → squeeze n ρ e < squeeze n ρ f
  unfolding squeeze ord_of
  squeeze-lt e f l m h = (lev-keeps n (ord_of ρ) ord-order).strict e f l m (omega arith)

  pub squeeze-le : (e f : ℕ) → e < n → f < n → ρ e ≤ ρ f → squeeze n ρ e ≤ squeeze n ρ f
  unfolding squeeze ord_of
  squeeze-le e f l m h = (lev-keeps n (ord_of ρ) ord-order).weak e f l m (omega arith)

  squeeze-dense : Dense n (squeeze n ρ)
  unfolding squeeze
  squeeze-dense e k l q = let r = lev-dense n (ord_of ρ) ord-order e k l q in (r.0, r.1, r.3)

  squeeze-keeps : (c : ℕ → ℕ → ℕ) → Keeps n c ρ → Keeps n c (squeeze n ρ)
  squeeze-keeps c k = record {
    strict = λ e f l m s. squeeze-lt e f l m (k.strict e f l m s);
    weak = λ e f l m s. squeeze-le e f l m (k.weak e f l m s);
  }

  pub squeezed : (c : ℕ → ℕ → ℕ) → Keeps n c ρ → Kept n c (arrange n (squeeze n ρ))
  squeezed c k = arrange-kept n (squeeze n ρ) squeeze-dense c (squeeze-keeps c k)

-- ---- the levels

module _ (n : ℕ) (c : ℕ → ℕ → ℕ) (o : Order n c) where
  pub levels-kept : Kept n c (arrange n (lev n c))
  levels-kept = arrange-kept n (lev n c) (λ e k l q. let r = lev-dense n c o e k l q in (r.0, r.1, r.3)) c (lev-keeps n c o)

  pub levels-shortest : (ls : List (List ℕ)) → Kept n c ls → length (arrange n (lev n c)) ≤ length ls
  unfolding height
  levels-shortest ls k = le_trans (le_of_eq (arrange-length n (lev n c)))
      (max_least n _ (length ls) (λ e l.
      omega (arith, lev-least n c (λ e. index e ls) k.keeps.strict e l, index-bound e ls (omega (arith, k.arranged.once e l)))))
