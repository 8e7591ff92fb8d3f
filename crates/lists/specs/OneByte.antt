-- Every class in use but the digits' is that of one byte: the list of names gives it to no other byte, and neither a digit
-- nor a byte that is not named has it.
-- Assumes nothing.
use Rattle.std.specs.Prelude.{ℕ, ◌≡◌, refl, Bool, true, false, not, ◌&&◌, ◌||◌, cond, List, [], ◌∷◌, eqb}
use Rattle.std.proofs.Common.{sym, ap, ◌∙◌, inl, inr, eq-eqb, eqb-true, ne_eqb}
use Rattle.std.proofs.Math.Decide.{ℕ_discrete}
use Rattle.spec.specs.Lists.{every}
use Rattle.spec.specs.Text.{class_names, named, in_digits, class_of, is_a}
use Rattle.spec.specs.Classes.{class_code, alike}
use Rattle.spec.specs.declared.Class.{Class}
use Rattle.spec.specs.declared.Class.TheVariants.{Digit, Foreign}
use Rattle.lists.specs.Laws.{true-or-false, clash, and-true, and-three, not-is-true}

-- a test that Foreign passes at every byte, and each name of a list, the named class passes
pub named-passes : (p : ℕ → Class → Bool) → ((b : ℕ) → p b Foreign ≡ true) → (b : ℕ) (ns : List (ℕ × Class)) → every (λ n. p n.0 n.1) ns ≡ true → p b (named b ns) ≡ true
unfolding named every
named-passes p f b [] h = f b
named-passes p f b (n ∷ ns) h = let z = and-true (p n.0 n.1) (every (λ n. p n.0 n.1) ns) h in go (eqb b n.0) refl z.0 (named-passes p f b ns z.1)
  where
    go : (t : Bool) → eqb b n.0 ≡ t → p n.0 n.1 ≡ true → p b (named b ns) ≡ true → p b (cond t n.1 (named b ns)) ≡ true
    go true e q r = rw (eqb-true b n.0 e) q
    go false e q r = r

-- the class is not that of byte x, or the byte is x
unfoldable unlike : ℕ → ℕ → Class → Bool
unlike x b k = not (alike k (class_of x)) || eqb b x

-- byte x is no digit and not foreign, and its class is named for no other byte
unfoldable pub alone : ℕ → Bool
unfolding unlike
alone x = not (alike Digit (class_of x)) && not (alike Foreign (class_of x)) && every (λ n. unlike x n.0 n.1) class_names

alone-parts : (x : ℕ) → alone x ≡ true → (alike Digit (class_of x) ≡ false) × (alike Foreign (class_of x) ≡ false) × (every (λ n. unlike x n.0 n.1) class_names ≡ true)
unfolding alone
alone-parts x h =
    let z = and-three (not (alike Digit (class_of x))) (not (alike Foreign (class_of x))) (every (λ n. unlike x n.0 n.1) class_names) h in
    (not-is-true _ z.0, not-is-true _ z.1, z.2)

pub one_byte : (x : ℕ) → alone x ≡ true → (b : ℕ) → is_a (class_of x) b ≡ true → b ≡ x
unfolding is_a unlike class_of
one_byte x h b e = let z = alone-parts x h in go (in_digits b) e z.0 (named-passes (unlike x) (λ b. rw z.1) b class_names z.2)
  where
    last : (k : Class) → alike k (class_of x) ≡ true → unlike x b k ≡ true → b ≡ x
    last k p q = eqb-true b x (rw p at q)

    go : (t : Bool) → alike (cond t Digit (named b class_names)) (class_of x) ≡ true → alike Digit (class_of x) ≡ false → unlike x b (named b class_names) ≡ true → b ≡ x
    go true p d q = clash p d
    go false p d q = last (named b class_names) p q

own-class : (x : ℕ) → is_a (class_of x) x ≡ true
unfolding is_a alike
own-class x = eq-eqb (class_code (class_of x)) (class_code (class_of x)) refl

-- so its class is asked for by asking for the byte
pub only-byte : (x : ℕ) → alone x ≡ true → (b : ℕ) → is_a (class_of x) b ≡ eqb b x
only-byte x h b = elim (ℕ_discrete b x) [
  | yes e ↦ ap (is_a (class_of x)) e ∙ own-class x ∙ sym (eq-eqb b x e)
  | no d ↦ elim (true-or-false (is_a (class_of x) b)) [
    | inl t ↦ absurd (d (one_byte x h b t))
    | inr f ↦ f ∙ sym (ne_eqb b x d)
  ]
]
