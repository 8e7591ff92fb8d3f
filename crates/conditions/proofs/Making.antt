-- What making conditions changes.
use Prim.Native.Nat.{ℕ, ◌+◌, ◌<◌}
use mathlib.Core.Path.{◌≡◌, refl, sym, ap, ◌∙◌}
use mathlib.Core.Option.{none}
use mathlib.Core.List.{List, [], ◌∷◌, ◌++◌, map, map-append, append-nil, append_assoc}
use native.Mathlib.Omega.{arith}
use lib.ListN.{length, get_or, take, set, replicate, length-set, length-append}
use lib.Seq.{get_or-set_same, get_or-set_other}
use Rattle.spec.specs.Record.{Condition}
use Rattle.spec.specs.Building.{made_by}
use Rattle.lists.specs.Laws
use Rattle.arc_sets.specs.Sets.{weight_at, arc_at}
use Rattle.lists.specs.Tables.{table_more}
use Rattle.runs.specs.Flows.{flow, flows}
use Rattle.runs.specs.Consume.{made_of}
use Rattle.conditions.specs.Conditions.{tokens_of, decoded, condition_in, conditions_in, fresh, Sized, Made}
use Rattle.conditions.proofs.Coded.{event-coded}
use Rattle.conditions.proofs.Tokens.{tokens-next, flows-next}

none-there : decoded 128 ≡ none
unfolding decoded
none-there = refl

-- one condition more
module _ (v p n : ℕ) (ps gs fs : List ℕ) (S : Sized ps gs fs) (l : n < 512) where
  one_more : conditions_in (n + 1) (set ps n p) (set gs n v) (set fs n 128) ≡ conditions_in n ps gs fs ++ fresh v p ∷ []
  unfolding conditions_in condition_in fresh
  one_more = table_more (condition_in ps gs fs) (condition_in (set ps n p) (set gs n v) (set fs n 128)) n (fresh v p)
      (λ i l. let q : i ≡ n → ⊥ = λ z. omega arith in rw (get_or-set_other ps n i p 0 q, get_or-set_other gs n i v 0 q, get_or-set_other fs n i 128 0 q))
      (rw (get_or-set_same ps n p 0 (omega (arith, S.places)), get_or-set_same gs n v 0 (omega (arith, S.producers)), get_or-set_same fs n 128 0 (omega (arith, S.consumers)), none-there))

  pub made_one : Made (fresh v p ∷ []) n ps gs fs (n + 1) (set ps n p) (set gs n v) (set fs n 128)
  made_one = record {
    next = refl;
    sized = record { places = length-set ps n p ∙ S.places; producers = length-set gs n v ∙ S.producers; consumers = length-set fs n 128 ∙ S.consumers };
    conditions = one_more;
  }

-- ---- conditions made one after the other

module _ {n : ℕ} {ps gs fs : List ℕ} where
  pub made_nothing : Sized ps gs fs → Made [] n ps gs fs n ps gs fs
  made_nothing S = record { next = omega arith; sized = S; conditions = sym (append-nil (conditions_in n ps gs fs)) }

  pub made_then : {xs ys : List Condition} {r s : ℕ} {ps' gs' fs' ps'' gs'' fs'' : List ℕ}
      → Made xs n ps gs fs r ps' gs' fs' → Made ys r ps' gs' fs' s ps'' gs'' fs'' → Made (xs ++ ys) n ps gs fs s ps'' gs'' fs''
  made_then {xs} {ys} a b = record {
    next = omega (arith, a.next, b.next, length-append xs ys);
    sized = b.sized;
    conditions = b.conditions ∙ ap (λ z. z ++ ys) a.conditions ∙ append_assoc (conditions_in n ps gs fs) xs ys;
  }

-- ---- the outputs of an event

-- the code of an event is a producer
pub made_by_lem : (e p k : ℕ) → e < 128 → replicate k (fresh e p) ≡ map made_of (replicate k (flow e p))
made_by_lem e p k l = ap (replicate k) same ∙ sym (Laws.map-replicate made_of k (flow e p))
  where
    same : fresh e p ≡ made_of (flow e p)
    same = unfold fresh made_of flow made_by in (rw (event-coded e l))

-- of the next place, and of the next event
pub outputs-next : (sets : List ℕ) (row e p k : ℕ) → e < 128 → k ≡ weight_at sets row p
    → map made_of (tokens_of sets row e p) ++ replicate k (fresh e p) ≡ map made_of (tokens_of sets row e (p + 1))
outputs-next sets row e p k l q =
    ap (λ z. map made_of (tokens_of sets row e p) ++ z) (made_by_lem e p k l)
    ∙ sym (map-append made_of (tokens_of sets row e p) (replicate k (flow e p)))
    ∙ ap (map made_of) (tokens-next sets row e p k q)

pub outputs-after : (sets : List ℕ) (at e : ℕ) (ts : List ℕ) (i t : ℕ) → i < length ts → t ≡ get_or ts i 0
    → map made_of (flows (arc_at sets at) 64 e (take i ts)) ++ map made_of (tokens_of sets (at + t) (e + i) 64) ≡ map made_of (flows (arc_at sets at) 64 e (take (i + 1) ts))
outputs-after sets at e ts i t l q =
    sym (map-append made_of (flows (arc_at sets at) 64 e (take i ts)) (tokens_of sets (at + t) (e + i) 64)) ∙ ap (map made_of) (flows-next sets at e ts i t l q)
