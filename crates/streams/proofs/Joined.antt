-- Known bytes that are read or written one part of a buffer after another.
use Rattle.std.proofs.Common.{◌≡◌, ℕ, ◌+◌, List, ◌++◌, Option, Some, None, take, drop, sym, ap, subst, ◌∙◌, append_assoc}
use Rattle.std.proofs.Math.Seq.{take-add}
use Rattle.std.specs.Io.KnownBytes.{Appends, Consumes}

Appends-then : (u v w : Option (List ℕ)) (a b : List ℕ) → Appends u v a → Appends v w b → Appends u w (a ++ b)
Appends-then None v w a b x y = tt
Appends-then (Some xs) None w a b x y = absurd x
Appends-then (Some xs) (Some ys) None a b x y = y
Appends-then (Some xs) (Some ys) (Some zs) a b x y = y ∙ ap (λ (t : List ℕ). t ++ b) x ∙ append_assoc xs a b

Consumes-then : (u v w : Option (List ℕ)) (a b : List ℕ) → Consumes u v a → Consumes v w b → Consumes u w (a ++ b)
Consumes-then None v w a b x y = tt
Consumes-then (Some xs) None w a b x y = absurd x
Consumes-then (Some xs) (Some ys) None a b x y = y
Consumes-then (Some xs) (Some ys) (Some zs) a b x y = x ∙ ap (λ (t : List ℕ). a ++ t) y ∙ sym (append_assoc a b zs)

-- a buffer that has the same first bytes as before, and behind them those of the next read
pub Consumes-more : (u v w : Option (List ℕ)) (old new : List ℕ) (at n : ℕ) → take at new ≡ take at old → Consumes u v (take at old)
    → Consumes v w (take n (drop at new)) → Consumes u w (take (at + n) new)
Consumes-more u v w old new at n front before read =
    subst (Consumes u w) (sym (take-add at n new)) (Consumes-then u v w _ _ (subst (Consumes u v) (sym front) before) read)

pub Appends-more : (u v w : Option (List ℕ)) (bytes : List ℕ) (at n : ℕ) → Appends u v (take at bytes) → Appends v w (take n (drop at bytes))
    → Appends u w (take (at + n) bytes)
Appends-more u v w bytes at n before wrote = subst (Appends u w) (sym (take-add at n bytes)) (Appends-then u v w _ _ before wrote)
