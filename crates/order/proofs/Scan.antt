-- Checking an arrangement line by line: each event's strict predecessors stand in the lines before its own, its weak ones there or in its own.
-- For an arrangement that is the same as keeping the order.
use Rattle.std.specs.Prelude.{◌≡◌, ℕ, suc, ◌<◌, List}
use Rattle.std.proofs.Common.{le_of_suc-le-suc, arith}
use Rattle.std.proofs.Math.Decide.{dec_le}
use Rattle.spec.specs.Arrangement.{Arrangement, times, index}
use Rattle.order.specs.Order.{Keeps}
use Rattle.order.specs.Index.{index-bound, placed, place_of, index-has, has-times, index_is}
use Rattle.order.specs.Scan.{LineOk, Scan}

module _ (n : ℕ) (c : ℕ → ℕ → ℕ) (ls : List (List ℕ)) (a : Arrangement n ls) where
  pos : (e : ℕ) → e < n → 0 < times e ls
  pos e l = omega (arith, a.once e l)

  at : (f : ℕ) → f < n → Scan n c ls → LineOk n c ls (index f ls) f
  at f m s = s (index f ls) f (index-bound f ls (pos f m)) (index-has f ls (pos f m))

  pub scan-keeps : Scan n c ls → Keeps n c (λ e. index e ls)
  scan-keeps s = record {
    strict = λ e f l m r. placed e (index f ls) ls ((at f m s).strict e l r);
    weak = λ e f l m r. le_of_suc-le-suc (placed e (suc (index f ls)) ls ((at f m s).weak e l r));
  }

  pub keeps-scan : Keeps n c (λ e. index e ls) → Scan n c ls
  keeps-scan k i f h p =
      let m : f < n = elim (dec_le n f) [ yes b ↦ absurd (omega (arith, a.only f b, has-times f i ls p)) | no b ↦ omega arith ] in
      let q : index f ls ≡ i = index_is f i ls (a.once f m) p in
      record {
        strict = λ e l r. place_of e i ls (pos e l) (omega (arith, k.strict e f l m r));
        weak = λ e l r. place_of e (suc i) ls (pos e l) (omega (arith, k.weak e f l m r));
      }
