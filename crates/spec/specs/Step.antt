-- Markings and steps (01, "Steps"; 02, 2026-01; 004, section 3).
use Rattle.std.specs.Prelude.{◌≡◌, ℕ, ◌+◌, ◌-◌, ◌≤◌, ◌<◌, max, Bool, true, ◌&&◌, List, [], ◌∷◌, map, get_or, ltb}
use Rattle.spec.specs.Lists.{In, any, sum_of, up_to, as_count}
use Rattle.spec.specs.Net.{Net, places, takes, makes, inhibits, reads}

-- A marking is the list of the places' token counts; a step is the list of its events' transitions, in which a
-- transition stands as often as it occurs (004's multiset U).
abbrev pub tokens_at : List ℕ → ℕ → ℕ
tokens_at m p = get_or m p 0

-- how many tokens the step's events take from place p, and how many they make there
unfoldable pub taken : Net → List ℕ → ℕ → ℕ
taken n step p = sum_of (λ t. takes n t p) step

unfoldable pub made : Net → List ℕ → ℕ → ℕ
made n step p = sum_of (λ t. makes n t p) step

-- "A step is enabled at a marking when each place has at least as many tokens as the step's events take from it, and
-- every place that inhibits one of them is empty. Both are judged before the step." 2026-01: "A net line
-- `R,place,transition` asks for a token before the step", and "reading takes nothing"
pub record EnabledAt (n : Net) (m step : List ℕ) : Type 0 where
  pub enough : (p : ℕ) → p < places n → taken n step p ≤ tokens_at m p
  pub present : (p t : ℕ) → p < places n → In t step → reads n p t ≡ true → 0 < tokens_at m p
  pub clear : (p t : ℕ) → p < places n → In t step → inhibits n p t ≡ true → tokens_at m p ≡ 0

-- how many tokens place p has to have before the step: as many as its events take, and one where one of them reads it
unfoldable pub needed : Net → List ℕ → ℕ → ℕ
needed n step p = max (taken n step p) (as_count (any (reads n p) step))

-- the same as two tests: 24, some place has fewer tokens than that ("24 covers a read token lacking");
unfoldable pub short : Net → List ℕ → List ℕ → Bool
short n m step = any (λ p. ltb (tokens_at m p) (needed n step p)) (up_to (places n))

-- 25, some place that inhibits one of the step's events is not empty
unfoldable pub inhibited : Net → List ℕ → List ℕ → Bool
inhibited n m step = any (λ p. ltb 0 (tokens_at m p) && any (inhibits n p) step) (up_to (places n))

-- "It then removes all inputs and adds all outputs.": 004's M'(s) = M(s) − Σ U(t) + Σ U(t)
unfoldable pub play : Net → List ℕ → List ℕ → List ℕ
play n m step = map (λ p. (tokens_at m p - taken n step p) + made n step p) (up_to (places n))

-- "One running marking is carried from step to step and changed."
unfoldable pub marking_after : Net → List ℕ → List (List ℕ) → List ℕ
marking_after n m [] = m
marking_after n m (step ∷ steps) = marking_after n (play n m step) steps
