-- The lines in an array: a line more, and a line taken out.
use Prim.Native.Nat.{ℕ, suc, ◌+◌, ◌-◌, ◌≤◌, ◌<◌}
use mathlib.Core.Path.{◌≡◌, refl, sym, ap, ◌∙◌}
use mathlib.Core.List.{List, [], ◌∷◌, ◌++◌}
use native.Mathlib.Decide.{ℕ_discrete}
use native.Mathlib.Omega.{arith}
use lib.ListN.{length, get_or, take, drop, replicate, length-append, length-replicate, take-append-drop}
use lib.Seq.{take-append-le, take-append_seam, drop_at, take-add, take-take, take-length}
use Rattle.spec.specs.Lists.{flat}
use Rattle.lists.specs.Laws.{flat-snoc, flat_append, flat-take-suc}
use Rattle.lists.specs.Arrays.{blank}
use Rattle.arrangement_reader.specs.Lined.{Ordered, AddsLine}

-- ---- a line more

pub ordered-none : Ordered [] (replicate 257 0)
unfolding flat
ordered-none = record { long = length-replicate {A = ℕ} 257 0; events = refl; ends = λ j h. let z : j ≡ 0 = omega arith in rw z (blank 257 128) }

-- where line k begins
pub from_is : {gs : List (List ℕ)} {lined : List ℕ} {k : ℕ} → Ordered gs lined → k ≡ length gs + 1 → get_or lined (127 + k) 0 ≡ length (flat gs)
from_is {gs} {lined} {k} o q = let z : 127 + k ≡ 128 + length gs = omega arith in rw z (o.ends (length gs) (omega arith) ∙ ap (λ (z : List (List ℕ)). length (flat z)) (take-length gs))

module _ {gs : List (List ℕ)} {old es new : List ℕ} {k : ℕ} (o : Ordered gs old) (q : k ≡ length gs + 1) (a : AddsLine old es k new) where
  start : get_or old (127 + k) 0 ≡ length (flat gs)
  start = from_is o q

  pub ordered-more : Ordered (gs ++ es ∷ []) new
  ordered-more = record {
    long = a.long;
    events =
        let z : length (flat (gs ++ es ∷ [])) ≡ get_or old (127 + k) 0 + length es = omega (arith, ap length (flat-snoc gs es), length-append (flat gs) es, start) in
        ap (λ (j : ℕ). take j new) z ∙ a.behind ∙ rw (start, o.events) (sym (flat-snoc gs es));
    ends = λ j h. elim (ℕ_discrete j k) [
      | yes e ↦ rw (e, a.end, start, whole) (omega (arith, ap length (flat-snoc gs es), length-append (flat gs) es))
      | no e ↦ rw (take-append-le j gs (es ∷ []) (omega (arith, length-append gs (es ∷ [])))) (a.other (128 + j) (omega arith) (λ z. e (omega arith)) ∙ o.ends j (omega (arith, length-append gs (es ∷ []))))
    ];
  }
    where
      whole : take k (gs ++ es ∷ []) ≡ gs ++ es ∷ []
      whole = let z : k ≡ length (gs ++ es ∷ []) = omega (arith, length-append gs (es ∷ [])) in ap (λ (j : ℕ). take j (gs ++ es ∷ [])) z ∙ take-length (gs ++ es ∷ [])

-- ---- a line taken out

module _ {gs : List (List ℕ)} {lined : List ℕ} (o : Ordered gs lined) where
  pub end-next : (j : ℕ) → j < length gs → length (flat (take (suc j) gs)) ≡ length (flat (take j gs)) + length (get_or gs j [])
  end-next j h = ap length (flat-take-suc gs j h) ∙ length-append (flat (take j gs)) (get_or gs j [])

  -- the first lines and the others
  pub parted : (j : ℕ) → flat gs ≡ flat (take j gs) ++ flat (drop j gs)
  parted j = ap flat (sym (take-append-drop j gs)) ∙ flat_append (take j gs) (drop j gs)

  pub end-most : (j : ℕ) → length (flat (take j gs)) ≤ length (flat gs)
  end-most j = omega (arith, ap length (parted j), length-append (flat (take j gs)) (flat (drop j gs)))

  pub first-lines : (j : ℕ) → take (length (flat (take j gs))) lined ≡ flat (take j gs)
  first-lines j =
      sym (take-take (length (flat (take j gs))) (length (flat gs)) lined (end-most j))
      ∙ ap (take (length (flat (take j gs)))) (o.events ∙ parted j) ∙ take-append_seam (flat (take j gs)) (flat (drop j gs))

  pub line-out : (j from to : ℕ) → j < length gs → from ≡ length (flat (take j gs)) → to ≡ length (flat (take (suc j) gs)) → take (to - from) (drop from lined) ≡ get_or gs j []
  line-out j from to h e q =
      let d = flat (take j gs) in
      let ahead : from + (to - from) ≡ length (flat (take (suc j) gs)) = omega (arith, end-next j h) in
      let both : d ++ take (to - from) (drop from lined) ≡ d ++ get_or gs j [] =
      ap (λ (z : List ℕ). z ++ take (to - from) (drop from lined)) (sym (first-lines j) ∙ ap (λ (i : ℕ). take i lined) (sym e))
      ∙ sym (take-add from (to - from) lined) ∙ ap (λ (i : ℕ). take i lined) ahead ∙ first-lines (suc j) ∙ flat-take-suc gs j h in
      sym (drop_at d (take (to - from) (drop from lined)) (length d) refl) ∙ ap (drop (length d)) both ∙ drop_at d (get_or gs j []) (length d) refl
