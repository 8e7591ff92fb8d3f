-- A part at the front of what is left of a text, as `chunks_exact` gives it: where it stands, and what is left behind it.
-- Assumes nothing.
use Rattle.std.proofs.Common.{ℕ, ◌≡◌, ◌+◌, ◌-◌, ◌≤◌, List, ◌++◌, refl, sym, ap, ◌∙◌, length, take, drop, arith}
use lib.ListN.{length-append, length-drop}
use lib.Seq.{drop-drop, take-append_seam, drop-append_seam}

module _ (text part rest : List ℕ) (at n : ℕ) (e : drop at text ≡ part ++ rest) (l : length part ≡ n) where
  pub part_is : part ≡ take n (drop at text)
  part_is = rw (e, ← l) (sym (take-append_seam part rest))

  pub rest_is : rest ≡ drop (at + n) text
  rest_is = sym (rw (e, ← l) (drop-append_seam part rest)) ∙ drop-drop n at text

  pub part_within : at ≤ length text → at + n ≤ length text
  part_within h = omega (arith, ap length e, length-append part rest, length-drop at text)
