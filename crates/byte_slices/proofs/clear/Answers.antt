-- `byte_slices::clear` meets its contract: the first n entries are n zeros, and the others stand behind them as they were.
use Rattle.std.proofs.Common.{ℕ, ◌≡◌, ◌+◌, ◌-◌, ap, ◌∙◌, length, get_or, take, drop, replicate, ◌++◌, ◌≤◌, List, arith}
use lib.ListN.{length-append, length-drop, length-replicate, get_or-append}
use lib.Seq.{length-take-le, get_or-drop}
use Rattle.std.proofs.lemmas.List.{get_or-replicate, get_or-append_right}
use Rattle.lists.specs.Mapped.{Mapped}
use Rattle.byte_slices.specs.Changes.{zeros}
use Rattle.byte_slices.proofs.clear.Goals as goal

-- n zeros, and what stands behind the first n
zeros-first : (a f : List ℕ) (n : ℕ) → n ≤ length a → f ≡ replicate (length (take n a)) 0 → Mapped a n zeros (f ++ drop n a)
unfolding zeros
zeros-first a f n l e = rw (e, length-take-le n a l) (record {
  long = omega (arith, length-append (replicate n 0) (drop n a), length-replicate {A = ℕ} n 0, length-drop n a);
  here = λ i h. get_or-append (replicate n 0) (drop n a) 0 i (omega (arith, length-replicate {A = ℕ} n 0)) ∙ get_or-replicate n i 0 0 h;
  beyond = λ i h.
      let e : n + (i - n) ≡ i = omega arith in
      get_or-append_right (replicate n 0) (drop n a) n i 0 (length-replicate {A = ℕ} n 0) h ∙ get_or-drop n a (i - n) 0 ∙ ap (λ k. get_or a k 0) e;
})

pub returns : goal.returns
returns c = zeros-first c.args.a.now _ c.args.n c.requires (c.fill.ensures.after (λ y e. e))
