-- Lists made by a function of the numbers below n, and how they change with the function.
use Rattle.std.specs.Prelude.{ℕ, ◌+◌, ◌<◌, ◌≡◌, List, [], ◌∷◌, ◌++◌, map, length, get_or, set}
use Rattle.std.proofs.Common.{sym, ap, ◌∙◌, add-one, arith, length-set, get_or-set_same, get_or-set_other, ext_get_or}
use Rattle.std.proofs.lemmas.List.{map-append}
use Rattle.std.proofs.Math.Decide.{ℕ_discrete}
use Rattle.spec.specs.Lists.{up_to}
use Rattle.lists.specs.Laws.{length-map, length-up_to, up_to-snoc, in-up_to, map_same, get_or-table}

pub length-table : {A : Type 0} (f : ℕ → A) (n : ℕ) → length (map f (up_to n)) ≡ n
length-table f n = length-map f (up_to n) ∙ length-up_to n

pub table_same : {A : Type 0} (f g : ℕ → A) (n : ℕ) → ((i : ℕ) → i < n → f i ≡ g i) → map f (up_to n) ≡ map g (up_to n)
table_same f g n h = map_same f g (up_to n) (λ i m. h i (in-up_to n m))

-- a list of n elements that are those of f
pub table_is : {A : Type 0} (d : A) (f : ℕ → A) (n : ℕ) (xs : List A) → length xs ≡ n → ((i : ℕ) → i < n → f i ≡ get_or xs i d) → map f (up_to n) ≡ xs
table_is d f n xs e h = ext_get_or d (map f (up_to n)) xs (length-table f n ∙ sym e) (λ i l. let m : i < n = omega (arith, length-table f n) in get_or-table f n i d m ∙ h i m)

-- one element more
pub table_more : {A : Type 0} (f g : ℕ → A) (n : ℕ) (x : A) → ((i : ℕ) → i < n → g i ≡ f i) → g n ≡ x → map g (up_to (n + 1)) ≡ map f (up_to n) ++ x ∷ []
table_more f g n x h e =
    ap (map g) (ap up_to (add-one n) ∙ up_to-snoc n) ∙ map-append g (up_to n) (n ∷ []) ∙ ap (λ y. map g (up_to n) ++ y ∷ []) e ∙ ap (λ xs. xs ++ x ∷ []) (table_same g f n h)

-- another element at j
pub table-set : {A : Type 0} (f g : ℕ → A) (n j : ℕ) (x : A) → j < n → ((i : ℕ) → (i ≡ j → ⊥) → g i ≡ f i) → g j ≡ x → map g (up_to n) ≡ set (map f (up_to n)) j x
table-set f g n j x l h e = table_is x g n (set (map f (up_to n)) j x) (length-set (map f (up_to n)) j x ∙ length-table f n) (λ i m. elim (ℕ_discrete i j) [
  | yes q ↦ rw q (e ∙ sym (get_or-set_same (map f (up_to n)) j x x (omega (arith, length-table f n))))
  | no q ↦ h i q ∙ sym (get_or-set_other (map f (up_to n)) j i x x q ∙ get_or-table f n i x m)
])
