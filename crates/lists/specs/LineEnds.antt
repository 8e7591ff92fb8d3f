-- The lines of a text, byte by byte: an ending, byte 10 or 13 and 10, ends an empty line in front of the others, and a byte
-- that belongs to none goes in front of the first line.
-- Assumes nothing.
use Rattle.std.specs.Prelude.{ℕ, ◌≡◌, refl, Bool, true, false, cond, List, [], ◌∷◌, ◌++◌, map, get_or}
use Rattle.std.proofs.Common.{ap, ◌∙◌}
use Rattle.spec.specs.Classes.{alike}
use Rattle.spec.specs.Text.{named, in_digits, class_of, is_a, Line, on_first, raw_lines_of, but_return, without_return, lines_of}
use Rattle.spec.specs.declared.Class.TheVariants.{LineEnd, Return}

-- ---- a line without the byte 13 of its ending

-- a line with a byte in front
abbrev pub behind : ℕ → Line → Line
behind b l = record { bytes = b ∷ l.bytes; ended = l.ended }

-- a last byte stays or goes by its class
pub but_last : (p : List ℕ) (b : ℕ) → but_return (p ++ b ∷ []) ≡ cond (is_a Return b) p (p ++ b ∷ [])
unfolding but_return
but_last [] b = refl
but_last (a ∷ []) b = go (is_a Return b)
  where
    go : (t : Bool) → a ∷ cond t [] (b ∷ []) ≡ cond t (a ∷ []) (a ∷ b ∷ [])
    go true = refl
    go false = refl
but_last (a ∷ c ∷ p) b = ap (λ (z : List ℕ). a ∷ z) (but_last (c ∷ p) b) ∙ go (is_a Return b)
  where
    go : (t : Bool) → a ∷ cond t (c ∷ p) (c ∷ p ++ b ∷ []) ≡ cond t (a ∷ c ∷ p) (a ∷ c ∷ p ++ b ∷ [])
    go true = refl
    go false = refl

but-behind : (b : ℕ) (bs : List ℕ) → is_a Return b ≡ false → but_return (b ∷ bs) ≡ b ∷ but_return bs
unfolding but_return
but-behind b [] e = rw e
but-behind b (c ∷ bs) e = refl

pub unended-kept : (bs : List ℕ) → without_return (record { bytes = bs; ended = false }) ≡ record { bytes = bs; ended = false }
unfolding without_return
unended-kept bs = refl

pub ended-as : (bs : List ℕ) → without_return (record { bytes = bs; ended = true }) ≡ record { bytes = but_return bs; ended = true }
unfolding without_return
ended-as bs = refl

behind-kept : (b : ℕ) (l : Line) → is_a Return b ≡ false → without_return (behind b l) ≡ behind b (without_return l)
unfolding without_return
behind-kept b l e = go l.ended refl
  where
    go : (t : Bool) → l.ended ≡ t → cond t (record { bytes = but_return (b ∷ l.bytes); ended = true }) (behind b l) ≡ behind b (cond t (record { bytes = but_return l.bytes; ended = true }) l)
    go true q = ap (λ (z : List ℕ). record { bytes = z; ended = true }) (but-behind b l.bytes e)
    go false q = refl

-- only a last byte can go
inner-kept : (b c : ℕ) (l : Line) → without_return (behind b (behind c l)) ≡ behind b (without_return (behind c l))
unfolding without_return but_return
inner-kept b c l = go l.ended
  where
    go : (t : Bool) → cond t (record { bytes = b ∷ but_return (c ∷ l.bytes); ended = true }) (behind b (behind c l)) ≡ behind b (cond t (record { bytes = but_return (c ∷ l.bytes); ended = true }) (behind c l))
    go true = refl
    go false = refl

-- ---- the first byte of a text

pub ten-ends : is_a LineEnd 10 ≡ true
unfolding is_a alike class_of named in_digits
ten-ends = refl

return-goes-on : is_a LineEnd 13 ≡ false
unfolding is_a alike class_of named in_digits
return-goes-on = refl

pub return-is : is_a Return 13 ≡ true
unfolding is_a alike class_of named in_digits
return-is = refl

-- an ending is an empty line in front
pub ten-first : (bs : List ℕ) → lines_of (10 ∷ bs) ≡ record { bytes = []; ended = true } ∷ lines_of bs
unfolding lines_of raw_lines_of without_return but_return
ten-first bs = rw ten-ends

pub return-first : (bs : List ℕ) → lines_of (13 ∷ 10 ∷ bs) ≡ record { bytes = []; ended = true } ∷ lines_of bs
unfolding lines_of raw_lines_of on_first without_return but_return
return-first bs = rw (return-goes-on, ten-ends, return-is)

-- any other byte goes in front of the first line
pub other-first : (b : ℕ) (bs : List ℕ) → is_a LineEnd b ≡ false → is_a Return b ≡ false → lines_of (b ∷ bs) ≡ on_first b (lines_of bs)
unfolding lines_of raw_lines_of on_first
other-first b bs e r = rw e (go (raw_lines_of bs))
  where
    go : (ls : List Line) → map without_return (on_first b ls) ≡ on_first b (map without_return ls)
    go [] = ap (λ (l : Line). l ∷ []) (unended-kept (b ∷ []))
    go (l ∷ ls) = ap (λ (z : Line). z ∷ map without_return ls) (behind-kept b l r)

-- and so does a return, where no line end follows
pub inner_first : (b : ℕ) (bs : List ℕ) → is_a LineEnd b ≡ false → is_a LineEnd (get_or bs 0 0) ≡ false → lines_of (b ∷ bs) ≡ on_first b (lines_of bs)
unfolding lines_of raw_lines_of on_first
inner_first b [] e f = rw e (ap (λ (l : Line). l ∷ []) (unended-kept (b ∷ [])))
inner_first b (c ∷ bs) e f = rw (e, f) (go (raw_lines_of bs))
  where
    go : (ls : List Line) → map without_return (on_first b (on_first c ls)) ≡ on_first b (map without_return (on_first c ls))
    go [] = ap (λ (z : Line). z ∷ []) (inner-kept b c (record { bytes = []; ended = false }))
    go (l ∷ ls) = ap (λ (z : Line). z ∷ map without_return ls) (inner-kept b c l)

pub no-first : lines_of [] ≡ []
unfolding lines_of raw_lines_of
no-first = refl
