-- The words of sets of conditions.
use Prim.Native.Nat.{ℕ, ◌+◌, ◌*◌, ◌/◌, ◌%◌, ◌^◌, ◌≤◌, ◌<◌, max}
use mathlib.Core.Path.{◌≡◌, refl, sym, ap, ap₂, ◌∙◌, subst}
use mathlib.Core.List.{List}
use native.Mathlib.Decide.{ℕ_discrete, dec_lt}
use native.Mathlib.Omega.{arith}
use lib.Bits.{bit_or}
use lib.ListN.{length, get_or, set, length-set}
use lib.Seq.{get_or-set_same, get_or-set_other}
use Rattle.bit_sets.specs.Bits.{bit, bit-most, bit-or, bit-zero, bit-pow, bit-pow-other}
use Rattle.arc_sets.specs.Walk.{word-one}
use Rattle.condition_sets.specs.Sets.{bit_at, JoinsRow, InPlaces, EmptyRow, Placed, guards_of, WatchedBy, OthersKept, Ready}

pub at_most : (sets : List ℕ) (r c : ℕ) → bit_at sets r c < 2
unfolding bit_at
at_most sets r c = bit-most (get_or sets (8 * r + c / 64) 0) (c % 64)

pub at_none : (sets : List ℕ) → ((i : ℕ) → get_or sets i 0 ≡ 0) → (r c : ℕ) → bit_at sets r c ≡ 0
unfolding bit_at
at_none sets z r c = ap (λ (w : ℕ). bit w (c % 64)) (z (8 * r + c / 64)) ∙ bit-zero (c % 64)

-- a place of such a set is one of the net's
pub low-place : (guards p : ℕ) → InPlaces guards → bit guards p ≡ 1 → p < 32
low-place guards p h b = elim (dec_lt p 32) [ yes l ↦ l | no d ↦ absurd (omega (arith, h p (omega arith), b)) ]

-- ---- the sets of the places

pub placed-none : (rec : List ℕ) {sets : List ℕ} → ((i : ℕ) → get_or sets i 0 ≡ 0) → Placed rec 0 sets
placed-none rec {sets} z = record { tells = λ p c l h. record { holds = λ q. absurd (omega (arith, q.0)); says = λ e. absurd (omega (arith, e, at_none sets z p c)) } }

-- condition n enters row r: it stands in word i
module _ (sets : List ℕ) (r n i v : ℕ) (q : i ≡ 8 * r + n / 64) (l : i < length sets) (e : v ≡ bit_or (get_or sets i 0) ((1 * 2 ^ (n % 64)) % 2 ^ 64)) where
  abbrev entered : List ℕ
  entered = set sets i v

  entered-bit : (p c : ℕ) → 8 * p + c / 64 ≡ i → bit_at entered p c ≡ max (bit_at sets p c) (bit (2 ^ (n % 64)) (c % 64))
  unfolding bit_at
  entered-bit p c w =
      ap (λ (j : ℕ). bit (get_or entered j 0) (c % 64)) w
      ∙ ap (λ (x : ℕ). bit x (c % 64)) (get_or-set_same sets i v 0 l ∙ e ∙ ap (bit_or (get_or sets i 0)) (word-one (n % 64) (omega arith)))
      ∙ bit-or (get_or sets i 0) (2 ^ (n % 64)) (c % 64)
      ∙ ap (λ (j : ℕ). max (bit (get_or sets j 0) (c % 64)) (bit (2 ^ (n % 64)) (c % 64))) (sym w)

  pub entered_here : bit_at entered r n ≡ 1
  entered_here = omega (arith, entered-bit r n (sym q), bit-pow (n % 64), at_most sets r n)

  pub entered-other : (p c : ℕ) → (p ≡ r → c ≡ n → ⊥) → n < 512 → c < 512 → bit_at entered p c ≡ bit_at sets p c
  unfolding bit_at
  entered-other p c d h k = elim (ℕ_discrete (8 * p + c / 64) i) [
    | yes w ↦ omega (arith, entered-bit p c w, bit-pow-other (n % 64) (c % 64) (λ g. d (omega arith) (omega arith)))
    | no f ↦ ap (λ (x : ℕ). bit x (c % 64)) (get_or-set_other sets i (8 * p + c / 64) v 0 f)
  ]

-- condition n joins the set of its place
module _ (rec sets : List ℕ) (n v : ℕ) (h : n < 512) (l : get_or rec (128 + n) 0 < 32) (long : length sets ≡ 256)
    (e : v ≡ bit_or (get_or sets (8 * get_or rec (128 + n) 0 + n / 64) 0) ((1 * 2 ^ (n % 64)) % 2 ^ 64)) where
  abbrev place : ℕ
  place = get_or rec (128 + n) 0

  abbrev here : ℕ
  here = 8 * place + n / 64

  pub placed-more : Placed rec n sets → Placed rec (n + 1) (set sets here v)
  placed-more P = record {
    tells = λ p c lp lc. elim (ℕ_discrete c n) [
      | yes q ↦ elim (ℕ_discrete p place) [
        | yes w ↦
            let g : get_or rec (128 + c) 0 ≡ place = ap (λ (i : ℕ). get_or rec (128 + i) 0) q in
            let b : bit_at (set sets here v) p c ≡ 1 = ap₂ (bit_at (set sets here v)) w q ∙ entered_here sets place n here v refl (omega arith) e in
            record { holds = λ x. b; says = λ x. (omega arith, omega arith) }
        | no d ↦
            let g : get_or rec (128 + c) 0 ≡ place = ap (λ (i : ℕ). get_or rec (128 + i) 0) q in
            record { holds = λ x. absurd (d (omega (arith, x.1))); says = λ x. absurd (omega (arith, ((P.tells p c lp lc).says (sym (other p c (λ y z. d y) lc) ∙ x)).0)) }
      ]
      | no f ↦
          let s = other p c (λ y z. f z) lc in
          record { holds = λ x. s ∙ (P.tells p c lp lc).holds (omega (arith, x.0), x.1); says = λ x. let y = (P.tells p c lp lc).says (sym s ∙ x) in (omega (arith, y.0), y.1) }
    ];
  }
    where
      other : (p c : ℕ) → (p ≡ place → c ≡ n → ⊥) → c < 512 → bit_at (set sets here v) p c ≡ bit_at sets p c
      other p c d lc = entered-other sets place n here v refl (omega arith) e p c d h lc

pub placed_end : {rec sets : List ℕ} {i : ℕ} (n : ℕ) → i ≡ n → Placed rec i sets → Placed rec n sets
placed_end {rec} {sets} n e P = subst (λ (k : ℕ). Placed rec k sets) e P

-- ---- the sets of the transitions

pub others-none : (t : ℕ) (watched : List ℕ) → OthersKept t watched watched
others-none t watched = record { long = refl; kept = λ r c d h. refl }

module _ {old new : List ℕ} (sets : List ℕ) (t p : ℕ) (m : JoinsRow old t sets p new) where
  pub joined : (c : ℕ) → c < 512 → bit_at new t c ≡ max (bit_at old t c) (bit_at sets p c)
  unfolding bit_at
  joined c h = ap (λ (w : ℕ). bit w (c % 64)) (m.here (c / 64) (omega arith)) ∙ bit-or (get_or old (8 * t + c / 64) 0) (get_or sets (8 * p + c / 64) 0) (c % 64)

  pub unjoined : OthersKept t old new
  unfolding bit_at
  unjoined = record {
    long = m.long;
    kept = λ r c d h. elim (dec_lt r t) [
      | yes l ↦ ap (λ (w : ℕ). bit w (c % 64)) (m.before (8 * r + c / 64) (omega arith))
      | no g ↦ ap (λ (w : ℕ). bit w (c % 64)) (m.beyond (8 * r + c / 64) (omega arith))
    ];
  }

module _ {guards : ℕ} {sets : List ℕ} {t : ℕ} where
  pub watched-none : {watched : List ℕ} → EmptyRow watched t → WatchedBy guards sets t 0 watched
  watched-none z = record { tells = λ c h. record { holds = λ x. absurd (omega (arith, x.1)); says = λ e. absurd (omega (arith, e, z c h)) } }

  -- places that do not inhibit the transition add nothing
  pub watched-skip : {watched : List ℕ} (n k : ℕ) → n ≤ k → ((p : ℕ) → n ≤ p → p < k → bit guards p ≡ 0) → WatchedBy guards sets t n watched → WatchedBy guards sets t k watched
  watched-skip n k l z W = record {
    tells = λ c h. record {
      holds = λ x. elim (dec_lt x.0 n) [
        | yes u ↦ (W.tells c h).holds (x.0, u, x.2, x.3)
        | no d ↦ absurd (omega (arith, z x.0 (omega arith) x.1, x.2))
      ];
      says = λ e. let y = (W.tells c h).says e in (y.0, omega (arith, y.1), y.2, y.3);
    };
  }

  -- the set of one place more that inhibits it
  pub watched-more : {old new : List ℕ} {n : ℕ} → bit guards n ≡ 1 → ((c : ℕ) → c < 512 → bit_at new t c ≡ max (bit_at old t c) (bit_at sets n c)) → WatchedBy guards sets t n old → WatchedBy guards sets t (n + 1) new
  watched-more {old} {new} {n} g j W = record {
    tells = λ c h. record {
      holds = λ x. elim (ℕ_discrete x.0 n) [
        | yes q ↦ omega (arith, j c h, at_most old t c, ap (λ (p : ℕ). bit_at sets p c) q, x.3)
        | no d ↦ omega (arith, j c h, at_most sets n c, (W.tells c h).holds (x.0, omega (arith, x.1), x.2, x.3))
      ];
      says = λ e. elim (ℕ_discrete (bit_at old t c) 1) [
        | yes q ↦ let y = (W.tells c h).says q in (y.0, omega (arith, y.1), y.2, y.3)
        | no d ↦ (n, omega arith, g, omega (arith, j c h, e, at_most old t c))
      ];
    };
  }

pub others-after : {t : ℕ} {old mid new : List ℕ} → OthersKept t old mid → OthersKept t mid new → OthersKept t old new
others-after a b = record { long = b.long ∙ a.long; kept = λ r c d h. b.kept r c d h ∙ a.kept r c d h }

module _ {arcs sets known watched : List ℕ} where
  pub ready-none : length known ≡ 32 → length watched ≡ 256 → ((i : ℕ) → get_or watched i 0 ≡ 0) → ((i : ℕ) → get_or known i 0 ≡ 0) → Ready arcs sets known watched
  ready-none kl wl z k = record { wide = kl; long = wl; tells = λ t c l h. record { holds = λ x. absurd (x.0 (k t)); says = λ e. absurd (omega (arith, e, at_none watched z t c)) } }

  module _ (t : ℕ) (l : t < 32) (R : Ready arcs sets known watched) where
    pub ready-empty : get_or known t 0 ≡ 0 → EmptyRow watched t
    ready-empty z c h = elim (ℕ_discrete (bit_at watched t c) 1) [
      | yes q ↦ absurd (((R.tells t c l h).says q).0 z)
      | no d ↦ omega (arith, at_most watched t c)
    ]

    pub ready-known : (get_or known t 0 ≡ 0 → ⊥) → WatchedBy (guards_of arcs t) sets t 64 watched
    ready-known d = record { tells = λ c h. record { holds = λ x. (R.tells t c l h).holds (d, x); says = λ e. ((R.tells t c l h).says e).1 } }

    pub ready-more : {new : List ℕ} → WatchedBy (guards_of arcs t) sets t 64 new → OthersKept t watched new → Ready arcs sets (set known t 1) new
    ready-more {new} W K = record {
      wide = length-set known t 1 ∙ R.wide;
      long = K.long ∙ R.long;
      tells = λ r c lr h. elim (ℕ_discrete r t) [
        | yes q ↦
            let k : get_or (set known t 1) r 0 ≡ 1 = ap (λ (i : ℕ). get_or (set known t 1) i 0) q ∙ get_or-set_same known t 1 0 (omega (arith, R.wide)) in
            rw q (record { holds = λ x. (W.tells c h).holds x.1; says = λ e. (λ z. omega (arith, get_or-set_same known t 1 0 (omega (arith, R.wide)), z), (W.tells c h).says e) })
        | no d ↦
            let k : get_or (set known t 1) r 0 ≡ get_or known r 0 = get_or-set_other known t r 1 0 d in
            record { holds = λ x. K.kept r c d h ∙ (R.tells r c lr h).holds (λ z. x.0 (k ∙ z), x.1); says = λ e. let y = (R.tells r c lr h).says (sym (K.kept r c d h) ∙ e) in (λ z. y.0 (sym k ∙ z), y.1) }
      ];
    }
