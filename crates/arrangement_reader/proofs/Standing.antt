-- The array of the events' lines, when an event is entered and when a line is taken.
use Prim.Native.Nat.{ℕ, ◌+◌, ◌≤◌, ◌<◌}
use mathlib.Core.Path.{◌≡◌, refl, sym, ap, ◌∙◌, subst}
use mathlib.Core.Bool.{Bool, true, false, ◌&&◌, true≢false, and-true, or-false}
use mathlib.Core.List.{List, [], ◌∷◌, ◌++◌, append_assoc, append-nil}
use native.Mathlib.Decide.{ℕ_discrete}
use native.Mathlib.Omega.{arith}
use lib.Dec.{ltb}
use lib.ListN.{length, get_or, set, replicate, length-set, length-replicate}
use lib.Seq.{get_or-set_same, get_or-set_other}
use borrow.Author.Tests.{lt-ltb, le-ltb, eq-eqb, ne_eqb}
use Rattle.spec.specs.Lists.{In, any, is_in}
use Rattle.spec.specs.Replaying.{repeats}
use Rattle.lists.specs.Laws.{here, there, in-at}
use Rattle.lists.specs.Arrays.{blank}
use Rattle.arrangement_reader.specs.Lined.{AllEvents, Stands, Entered, Enters}
use Rattle.arrangement_reader.proofs.Distinct.{member-snoc, repeats-hit, repeats-more}

-- no event has come
pub stands-none : Stands 1 (replicate 128 0) [] []
unfolding is_in any
stands-none = record {
  long = length-replicate {A = ℕ} 128 0;
  most = λ e l. omega (arith, blank 128 e);
  earlier = λ e l. rw (blank 128 e);
  come = λ e l. rw (blank 128 e);
}

-- line k is taken
pub stands-next : {k : ℕ} {xs done now : List ℕ} → Stands k xs done now → Stands (k + 1) xs (done ++ now) []
stands-next {k} {xs} {done} {now} s = record {
  long = s.long;
  most = λ e l. omega (arith, s.most e l);
  earlier = λ e l. rw (lt-ltb (get_or xs e 0) (k + 1) (omega (arith, s.most e l))) (s.come e l ∙ sym (and-true (ltb 0 (get_or xs e 0))));
  come = λ e l. rw (append-nil (done ++ now)) (s.come e l);
}

module _ {k : ℕ} {xs done now : List ℕ} (s : Stands k xs done now) (v : ℕ) (v<n : v < 128) where
  pub come-again : 0 < get_or xs v 0 → is_in v (done ++ now) ≡ true
  come-again h = s.come v v<n ∙ lt-ltb 0 _ h

  pub not-come : get_or xs v 0 ≤ 0 → is_in v (done ++ now) ≡ false
  not-come h = s.come v v<n ∙ le-ltb 0 _ h

  -- event v is entered
  pub stands-more : 0 < k → get_or xs v 0 ≤ 0 → Stands k (set xs v k) done (now ++ v ∷ [])
  stands-more p h = record {
    long = length-set xs v k ∙ s.long;
    most = λ e l. elim (ℕ_discrete e v) [
      | yes q ↦ rw (q, own) (omega arith)
      | no q ↦ rw (get_or-set_other xs v e k 0 q) (s.most e l)
    ];
    earlier = λ e l. elim (ℕ_discrete e v) [
      | yes q ↦ rw (q, own, le-ltb k k (omega arith), lt-ltb 0 k p) (s.earlier v v<n ∙ ap (λ (b : Bool). b && ltb (get_or xs v 0) k) (le-ltb 0 (get_or xs v 0) h))
      | no q ↦ rw (get_or-set_other xs v e k 0 q) (s.earlier e l)
    ];
    come = λ e l. rw (← append_assoc done now (v ∷ []), member-snoc e (done ++ now) v) (elim (ℕ_discrete e v) [
      | yes q ↦ rw (q, own, lt-ltb 0 k p, eq-eqb v v refl, not-come h)
      | no q ↦ rw (get_or-set_other xs v e k 0 q, ne_eqb e v q, s.come e l) (or-false (ltb 0 (get_or xs e 0)))
    ]);
  }
    where
      own : get_or (set xs v k) v 0 ≡ k
      own = get_or-set_same xs v k 0 (omega (arith, s.long))

-- ---- the numbers of a line, of which `rest` are left

pub record Entering (k : ℕ) (done es xs rest : List ℕ) : Type 0 where
  pub now : List ℕ
  pub split : now ++ rest ≡ es
  pub stands : Stands k xs done now
  pub once : repeats (done ++ now) ≡ false

pub entering-none : {k : ℕ} {done xs : List ℕ} (es : List ℕ) → Stands k xs done [] → repeats done ≡ false → Entering k done es xs es
entering-none {k} {done} es s r = record { now = []; split = refl; stands = s; once = rw (append-nil done) r }

module _ {k : ℕ} {done es xs rest rest' : List ℕ} {v : ℕ} (e : rest ≡ v ∷ rest') (l : v < 128) (g : Entering k done es xs rest) where
  whole : g.now ++ v ∷ rest' ≡ es
  whole = ap (λ (zs : List ℕ). g.now ++ zs) (sym e) ∙ g.split

  pub entering-hit : 0 < get_or xs v 0 → Entered k done es true xs
  entering-hit h = record {
    repeated = sym (ap (λ (zs : List ℕ). repeats (done ++ zs)) (sym whole) ∙ ap repeats (sym (append_assoc done g.now (v ∷ rest'))) ∙ repeats-hit v (done ++ g.now) rest' (come-again g.stands v l h));
    earlier = g.stands.earlier;
    stands = λ q. absurd (true≢false q);
  }

  pub entering-more : 0 < k → get_or xs v 0 ≤ 0 → Entering k done es (set xs v k) rest'
  entering-more p h = record {
    now = g.now ++ v ∷ [];
    split = append_assoc g.now (v ∷ []) rest' ∙ whole;
    stands = stands-more g.stands v l p h;
    once = ap repeats (sym (append_assoc done g.now (v ∷ []))) ∙ repeats-more v (done ++ g.now) (not-come g.stands v l h) g.once;
  }

pub entering-end : {k : ℕ} {done es xs rest : List ℕ} → rest ≡ [] → Entering k done es xs rest → Entered k done es false xs
entering-end {k} {done} {es} {xs} e g =
    let q : g.now ≡ es = sym (append-nil g.now) ∙ ap (λ (zs : List ℕ). g.now ++ zs) (sym e) ∙ g.split in
    record { repeated = sym (ap (λ (zs : List ℕ). repeats (done ++ zs)) (sym q) ∙ g.once); earlier = g.stands.earlier; stands = λ _. subst (λ (zs : List ℕ). Stands k xs done zs) q g.stands }

-- the same, whatever stands in the lines before; the numbers that are left are events
pub record Entries (k : ℕ) (old es xs rest : List ℕ) : Type 0 where
  pub long : length xs ≡ 128
  pub low : (v : ℕ) → In v rest → v < 128
  pub entering : (done : List ℕ) → Stands k old done [] → repeats done ≡ false → Entering k done es xs rest

pub entries_none : {k : ℕ} {xs : List ℕ} (es : List ℕ) → length xs ≡ 128 → ((v : ℕ) → In v es → v < 128) → Entries k xs es xs es
entries_none es h low = record { long = h; low = low; entering = λ done s r. entering-none es s r }

module _ {k : ℕ} {old es xs rest rest' : List ℕ} {v : ℕ} (e : rest ≡ v ∷ rest') (g : Entries k old es xs rest) where
  pub entries-low : v < 128
  entries-low = g.low v (subst (λ (zs : List ℕ). In v zs) (sym e) here)

  pub entries-hit : 0 < get_or xs v 0 → Enters k old es true xs
  entries-hit h done s r = entering-hit e entries-low (g.entering done s r) h

  pub entries-more : 0 < k → get_or xs v 0 ≤ 0 → Entries k old es (set xs v k) rest'
  entries-more p h = record {
    long = length-set xs v k ∙ g.long;
    low = λ u m. g.low u (subst (λ (zs : List ℕ). In u zs) (sym e) (there m));
    entering = λ done s r. entering-more e entries-low (g.entering done s r) p h;
  }

pub entries-end : {k : ℕ} {old es xs rest : List ℕ} → rest ≡ [] → Entries k old es xs rest → Enters k old es false xs
entries-end e g done s r = entering-end e (g.entering done s r)

pub entries_from : {k : ℕ} {xs : List ℕ} (es : List ℕ) → length xs ≡ 128 → AllEvents es → Entries k xs es xs es
entries_from es h low = entries_none es h (λ v m. let r = in-at 0 v es m in omega (arith, low r.0 r.1, r.2))
