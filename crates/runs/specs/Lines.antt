-- Where the events of an arrangement stand: in the first k lines exactly those whose line's index is below k, each once.
use Rattle.std.specs.Prelude.{◌≡◌, refl, ℕ, suc, ◌≤◌, ◌<◌, Bool, true, false, List, [], length, get_or, take, drop, eqb, ltb}
use Rattle.std.proofs.Common.{ap, inl, inr, eq-zero-or-pos, arith, take-append-drop, eq-eqb, ltb-true, lt-ltb, le-ltb}
use Rattle.std.proofs.Math.Decide.{dec_le}
use Rattle.std.proofs.Math.Option.{Option, none, some}
use Rattle.spec.specs.Lists.{In, count, flat, as_count}
use Rattle.spec.specs.Record.{names}
use Rattle.spec.specs.Process.{is_below}
use Rattle.spec.specs.Arrangement.{Arrangement, times, index}
use Rattle.order.specs.Index.{times-append, index-bound, placed, place_of, has-times, index_is}
use Rattle.lists.specs.Laws

-- the event, if there is one, stands in the first k lines
unfoldable pub stands : List (List ℕ) → ℕ → Option ℕ → Bool
stands lines k none = false
stands lines k (some e) = ltb (index e lines) k

module _ (n : ℕ) (lines : List (List ℕ)) (A : Arrangement n lines) where
  pub stands-in : (e : ℕ) → e < n → 0 < times e lines
  stands-in e l = omega (arith, A.once e l)

  pub line-below : (e : ℕ) → e < n → index e lines < length lines
  line-below e l = index-bound e lines (stands-in e l)

  -- what stands in a line, or in the first k, is an event, and a line's index is that of its events
  inside : (e : ℕ) → 0 < times e lines → e < n
  inside e h = elim (dec_le n e) [ yes l ↦ absurd (omega (arith, A.only e l)) | no l ↦ omega arith ]

  in-line : (k e : ℕ) → In e (get_or lines k []) → 0 < count (eqb e) (get_or lines k [])
  in-line k e m = Laws.count-in (eqb e) e (get_or lines k []) m (eq-eqb e e refl)

  pub line-inside : (k e : ℕ) → In e (get_or lines k []) → e < n
  line-inside k e m = inside e (has-times e k lines (in-line k e m))

  pub line-index : (k e : ℕ) → In e (get_or lines k []) → index e lines ≡ k
  line-index k e m = index_is e k lines (A.once e (line-inside k e m)) (in-line k e m)

  take-times : (k e : ℕ) → times e (take k lines) ≤ times e lines
  take-times k e = omega (arith, times-append e (take k lines) (drop k lines), ap (times e) (take-append-drop k lines))

  pub first-inside : (k e : ℕ) → In e (flat (take k lines)) → e < n
  unfolding times
  first-inside k e m = inside e (omega (arith, take-times k e, Laws.count-in (eqb e) e (flat (take k lines)) m (eq-eqb e e refl)))

  first-times : (k e : ℕ) → e < n → times e (take k lines) ≡ as_count (ltb (index e lines) k)
  first-times k e l = elim (dec_le (suc (index e lines)) k) [
    | yes h ↦ rw (Laws.count-true (lt-ltb _ _ h)) (omega (arith, place_of e k lines (stands-in e l) h, take-times k e, A.once e l))
    | no h ↦ rw (Laws.count-false (le-ltb (index e lines) k (omega arith))) (elim (eq-zero-or-pos (times e (take k lines))) [ inl z ↦ z | inr z ↦ absurd (h (placed e k lines z)) ])
  ]

  pub first-lines : (k : ℕ) (a : Option ℕ) → is_below n a ≡ true → count (names a) (flat (take k lines)) ≡ as_count (stands lines k a)
  unfolding names stands is_below times as_count
  first-lines k none h = Laws.count_none _ (flat (take k lines)) (λ e m. refl)
  first-lines k (some e) h = first-times k e (ltb-true e n h)
