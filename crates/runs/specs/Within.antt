-- Answers whose refusals are among those listed, taken apart as a `do` block is: by its tests, its parts and its lines.
use Rattle.std.specs.Prelude.{◌≡◌, ℕ, suc, ◌≤◌, ◌<◌, Bool, cond, List, [], ◌∷◌, length, eqb, ltb}
use Rattle.std.proofs.Math.Path.{refl}
use Rattle.std.proofs.Common.{sym, ◌∙◌, subst, arith, eqb-true, ltb-true}
use Rattle.std.proofs.Math.Bool.{true, false}
use Rattle.std.proofs.Math.Option.{Option, none, some}
use Rattle.spec.specs.Lists.{In, up_to, any, every, count, first, lowest}
use Rattle.spec.specs.Answer.{Answer, gives, refuses, ◌>>=◌, ◌>>◌, refuse◌at◌when◌, refuse◌at?◌, found}
use Rattle.spec.specs.Text.{Line, by_lines}
use Rattle.spec.specs.Refusals.{NumberAndSpots, IsAmong, RefusesOnly}
use Rattle.lists.specs.Laws.{count-length, every_in, any-count, sum_of-le, sum_of-one, length-up_to, in-up_to}
use Rattle.lists.specs.Among.{first_found}
use Rattle.lists.specs.Grouped.{length-by}
use Rattle.runs.specs.Answers.{of-gives, not-refused}

-- the refusal of a list with this number
pub listed : (rs : List NumberAndSpots) (n : ℕ) {s : ℕ} {r : NumberAndSpots} → first (λ r. eqb n r.number) rs ≡ some r → (r.least ≤ s) × (s ≤ r.most) → IsAmong rs n s
listed rs n {r = r} e b = let z = first_found (λ r. eqb n r.number) rs e in record { which = r; listed = z.0; number = eqb-true n r.number z.1; least = b.0; most = b.1 }

-- what is given has P, and a refusal is among those listed
pub record Within {A : Type 0} (P : A → Type 0) (rs : List NumberAndSpots) (x : Answer A) : Type 0 where
  pub given : (a : A) → x ≡ gives a → P a
  pub refused : (n s : ℕ) → x ≡ refuses n s → IsAmong rs n s

module _ {A : Type 0} {P : A → Type 0} {rs : List NumberAndSpots} where
  pub given-within : {a : A} → P a → Within P rs (gives a)
  given-within p = record { given = λ b e. subst P (of-gives e) p; refused = λ n s e. not-refused (sym e) }

  pub refused-within : {n s : ℕ} → IsAmong rs n s → Within P rs (refuses n s)
  refused-within {n} {s} h = record {
    given = λ a e. not-refused e;
    refused = λ i j e. let p : n ≡ i = cc in let q : s ≡ j = cc in rw (← p, ← q) h;
  }

  pub when-within : (n s : ℕ) (t : Bool) (x : Answer A) → (t ≡ true → IsAmong rs n s) → (t ≡ false → Within P rs x) → Within P rs (refuse n at s when t >> x)
  unfolding refuse◌at◌when◌ ◌>>◌
  when-within n s true x h w = refused-within (h refl)
  when-within n s false x h w = w refl

  pub cond-within : (t : Bool) (x y : Answer A) → Within P rs x → Within P rs y → Within P rs (cond t x y)
  cond-within true x y v w = v
  cond-within false x y v w = w

  pub wider : (ss : List NumberAndSpots) {x : Answer A} → ((r : NumberAndSpots) → In r rs → In r ss) → Within P rs x → Within P ss x
  wider ss h w = record {
    given = w.given;
    refused = λ n s e. let a = w.refused n s e in record { which = a.which; listed = h a.which a.listed; number = a.number; least = a.least; most = a.most };
  }

pub seq-within : {A B : Type 0} {P : A → Type 0} {Q : B → Type 0} {rs : List NumberAndSpots} {x : Answer A} {y : Answer B} → Within P rs x → Within Q rs y → Within Q rs (x >> y)
unfolding ◌>>◌
seq-within {x = gives a} v w = w
seq-within {x = refuses n s} v w = refused-within (v.refused n s refl)

pub lowest-within : {rs : List NumberAndSpots} (n : ℕ) (p : ℕ → Bool) (m : ℕ) → ((s : ℕ) → s < m → IsAmong rs n s) → Within (λ u. Unit) rs (refuse n at? lowest p m)
unfolding refuse◌at?◌ lowest
lowest-within {rs} n p m h = go (first p (up_to m)) refl
  where
    go : (o : Option ℕ) → first p (up_to m) ≡ o → Within (λ u. Unit) rs (refuse n at? o)
    go none e = given-within tt
    go (some s) e = refused-within (h s (in-up_to m (first_found p (up_to m) e).0))

pub bind-within : {A B : Type 0} {P : A → Type 0} {Q : B → Type 0} {rs : List NumberAndSpots} (x : Answer A) (f : A → Answer B) → Within P rs x → ((a : A) → x ≡ gives a → P a → Within Q rs (f a))
    → Within Q rs (x >>= f)
unfolding ◌>>=◌
bind-within (gives a) f v w = w a refl (v.given a refl)
bind-within (refuses n s) f v w = refused-within (v.refused n s refl)

-- where every line keeps P, which speaks of the next line's number and of the state, so do the lines of a text
pub lines-within : {S : Type 0} (f : ℕ → Line → S → Answer S) (P : ℕ → S → Type 0) (rs : List NumberAndSpots) → ((k : ℕ) (l : Line) (s : S) → P k s → Within (P (suc k)) rs (f k l s))
    → (k : ℕ) (ls : List Line) (s : S) → P k s → Within (λ t. (j : ℕ) × P j t) rs (by_lines f k ls s)
unfolding by_lines
lines-within f P rs step k [] s p = given-within (k, p)
lines-within f P rs step k (l ∷ ls) s p = bind-within (f k l s) _ (step k l s p) (λ t e q. lines-within f P rs step (suc k) ls t q)

-- a list whose refusals have numbers other than 0
pub refuses-listed : {A : Type 0} {P : A → Type 0} {rs : List NumberAndSpots} {x : Answer A} → every (λ r. ltb 0 r.number) rs ≡ true → Within P rs x → RefusesOnly rs x
refuses-listed {rs = rs} h w = record {
  among = w.refused;
  nonzero = λ s e. let a = w.refused 0 s e in let l = ltb-true 0 a.which.number (every_in (λ r. ltb 0 r.number) rs h a.which a.listed) in absurd (omega (arith, a.number));
}

pub found_within : {A : Type 0} {rs : List NumberAndSpots} (n s : ℕ) (o : Option A) → IsAmong rs n s → Within (λ a. Unit) rs (found n s o)
unfolding found
found_within n s none h = refused-within h
found_within n s (some a) h = given-within tt

-- ---- how many there are

-- some element passes the test
pub has_some : {A : Type 0} (p : A → Bool) (xs : List A) → any p xs ≡ true → 1 ≤ length xs
has_some p xs h = omega (arith, ltb-true 0 (count p xs) (sym (any-count p xs) ∙ h), count-length p xs)

-- elements with numbers below n of their own are at most n
pub few : {A : Type 0} (f : A → ℕ) (n : ℕ) (xs : List A) → ((x : A) → In x xs → f x < n) → ((c : ℕ) → count (λ x. eqb (f x) c) xs ≤ 1) → length xs ≤ n
few f n xs b o = omega (arith, length-by f n xs b, sum_of-le _ (λ c. 1) (up_to n) (λ c i. o c), sum_of-one (up_to n), length-up_to n)
