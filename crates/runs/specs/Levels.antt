-- What arranging writes: each event on the line of its level, the longest chain of the closed order that ends at it. It keeps
-- the order, no arrangement that keeps it has fewer lines, and what all of them agree on is the order.
use Rattle.std.specs.Prelude.{◌≡◌, ◌≢◌, ◌↔◌, List, length, get_or}
use Rattle.std.proofs.Math.Path.{refl, ap}
use Rattle.std.proofs.Common.{sym, ◌∙◌, le_of_eq, le_trans, arith}
use Rattle.std.proofs.Math.Logic.Iff
use Prim.Native.Nat.{ℕ, zero, suc, ◌≤◌, ◌<◌, zero-le}
use Rattle.std.proofs.Math.Decide.{ℕ_discrete}
use Rattle.std.proofs.lemmas.List.{length-map}
use Rattle.spec.specs.Lists.{up_to}
use Rattle.spec.specs.Net.{Net}
use Rattle.spec.specs.Record.{RunRecord}
use Rattle.spec.specs.Order.{StrictlyBefore, NotLater, is_strictly_before, is_not_later}
use Rattle.spec.specs.Process.{Process, WellFormed}
use Rattle.spec.specs.Arrangement.{index}
use Rattle.spec.specs.Arranging.{Chain, alone, weakly, strictly, prolonged, longest, levels, line_count, on_line, arranged_lines}
use Rattle.spec.specs.Runs.{KeepsOrder}
use Rattle.spec.specs.Computed.{LevelIsLongest}
use Rattle.order.specs.Below.{max_below, max-same}
use Rattle.order.specs.Order.{Order}
use Rattle.order.specs.Level.{lev}
use Rattle.order.proofs.Level.{lev-keeps, lev-dense}
use Rattle.order.specs.Chain.{prolong, chain_f}
use Rattle.order.proofs.Chain.{chain_f-level}
use Rattle.order.specs.Arrange.{Kept, arrange}
use Rattle.order.proofs.Arrange.{arrange-same, levels-kept, levels-shortest}
use Rattle.order.proofs.Exact.{exact-strict, exact-weak}
use Rattle.lists.specs.Laws
use Rattle.runs.specs.Values.{order_of, strict-order, weak-order, order}
use Rattle.runs.specs.Closure.{strict-is, weak-is}

-- ---- arrangements that keep the record's order keep it as a relation of numbers

module _ (N : Net) (R : RunRecord) (W : WellFormed N R) where
  pub kept : {lines : List (List ℕ)} → KeepsOrder R lines → Kept (length R.events) (order_of R) lines
  kept {lines} k = record {
    arranged = k.each-once;
    keeps = record {
      strict = λ e f l m s. k.strict e f l m ((strict-order N R W e f l m).0 s);
      weak = λ e f l m s. elim (ℕ_discrete e f) [
        | yes q ↦ le_of_eq (ap (λ (z : ℕ). index z lines) q)
        | no q ↦ k.weak e f l m ((weak-order N R W e f l m).0 (q, s))
      ];
    };
  }

  pub kept_back : {lines : List (List ℕ)} → Kept (length R.events) (order_of R) lines → KeepsOrder R lines
  kept_back k = record {
    each-once = k.arranged;
    strict = λ e f l m p. k.keeps.strict e f l m ((strict-order N R W e f l m).1 p);
    weak = λ e f l m p. k.keeps.weak e f l m ((weak-order N R W e f l m).1 p).1;
  }

pub arranged-count : (R : RunRecord) → length (arranged_lines (levels R)) ≡ line_count (levels R)
unfolding arranged_lines
arranged-count R = length-map (up_to (line_count (levels R))) (on_line (levels R)) ∙ Laws.length-up_to (line_count (levels R))

module _ (N : Net) (R : RunRecord) (W : WellFormed N R) (P : Process N R) where
  abbrev n : ℕ
  n = length R.events

  abbrev c : ℕ → ℕ → ℕ
  c = order_of R

  o : Order n c
  o = order N R W P

  -- ---- the level is the longest chain

  longest-is : (k e : ℕ) → longest R k e ≡ chain_f n (is_strictly_before R) (is_not_later R) k e
  unfolding longest prolonged chain_f prolong max_below
  longest-is zero e = refl
  longest-is (suc k) e = max-same n _ _ (λ f l. ap (prolong (is_strictly_before R f e) (is_not_later R f e)) (longest-is k f))

  level-is : (e : ℕ) → e < n → longest R n e ≡ lev n c e
  level-is e l = longest-is n e ∙ chain_f-level n c o (is_strictly_before R) (is_not_later R)
      (λ g e i j. Iff.trans (strict-is N R W g e) (Iff.symm (strict-order N R W g e i j)))
      (λ g e i j h. ((weak-order N R W g e i j).1 ((weak-is N R W g e).0 h)).1) e l

  pub level-at : (e : ℕ) → e < n → get_or (levels R) e 0 ≡ lev n c e
  unfolding levels
  level-at e l = Laws.get_or-table (longest R n) n e 0 l ∙ level-is e l

  chain-in : {k e : ℕ} → Chain R k e → e < n
  chain-in (alone l) = l
  chain-in (weakly h l p) = l
  chain-in (strictly h l p) = l

  chain-most : {k e : ℕ} → Chain R k e → k ≤ lev n c e
  chain-most (alone l) = zero-le
  chain-most (weakly {f} {e} h l p) = le_trans (chain-most h) ((lev-keeps n c o).weak f e (chain-in h) l ((weak-order N R W f e (chain-in h) l).1 p).1)
  chain-most (strictly {f} {e} h l p) = omega (arith, chain-most h, (lev-keeps n c o).strict f e (chain-in h) l ((strict-order N R W f e (chain-in h) l).1 p))

  chain-at : (k e : ℕ) → e < n → lev n c e ≡ k → Chain R k e
  chain-at zero e l q = alone l
  chain-at (suc k) e l q =
      let r = lev-dense n c o e k l q in
      strictly (chain-at k r.0 r.1 r.3) l ((strict-order N R W r.0 e r.1 l).0 r.2)

  pub levels-longest : (e : ℕ) → e < n → LevelIsLongest R e
  levels-longest e l = record {
    attained = chain-at _ e l (sym (level-at e l));
    most = λ k h. le_trans (chain-most h) (le_of_eq (sym (level-at e l)));
  }

  -- ---- the arrangement of the levels

  lines_are : arranged_lines (levels R) ≡ arrange n (lev n c)
  unfolding levels arrange
  lines_are = arrange-same n (longest R n) (lev n c) level-is

  pub arranged-keeps : KeepsOrder R (arranged_lines (levels R))
  arranged-keeps = rw lines_are (kept_back N R W (levels-kept n c o))

  pub arranged-least : (lines : List (List ℕ)) → KeepsOrder R lines → length (arranged_lines (levels R)) ≤ length lines
  arranged-least lines k = rw lines_are (levels-shortest n c o lines (kept N R W k))

  -- ---- strictly before: on an earlier line in each; not later: on a later line in none

  module _ (e f : ℕ) (l : e < n) (m : f < n) where
    pub strict-exact : StrictlyBefore R e f ↔ ((lines : List (List ℕ)) → KeepsOrder R lines → index e lines < index f lines)
    strict-exact = (
      λ p lines k. k.strict e f l m p,
      λ h. (strict-order N R W e f l m).0 ((exact-strict n c o e f l m).0 (λ lines k. h lines (kept_back N R W k))),
    )

    pub weak-exact : e ≢ f → NotLater R e f ↔ ((lines : List (List ℕ)) → KeepsOrder R lines → ¬ (index f lines < index e lines))
    weak-exact d = (
      λ p lines k h. omega (arith, k.weak e f l m p),
      λ h. (weak-order N R W e f l m).0 (d, (exact-weak n c o e f l m d).0 (λ lines k. let z = h lines (kept_back N R W k) in omega arith)),
    )
