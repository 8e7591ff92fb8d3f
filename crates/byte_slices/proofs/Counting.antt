-- Bytes counted: by the definition's words, and by those of the library.
use Rattle.std.proofs.Common.{ℕ, ◌≡◌, List, refl, rules, eqb}
use Rattle.std.specs.Prelude.{count_by}
use Rattle.std.proofs.lemmas.List.Recursion.{is_count_by}
use Rattle.spec.specs.Lists.{count}
use Rattle.byte_slices.specs.Counts.{count_of}

pub counted : (b : ℕ) (s : List ℕ) → count_of b s ≡ count_by (λ x. eqb x b) s
unfolding count
counted b s = is_count_by (count_of b) (λ x. eqb x b) refl (λ x xs. search rules) s
