-- The first line `=`, byte by byte: each byte that it does not start at goes in front of what is parted behind it. The
-- lines are raw until the end, where all lose the byte 13 of their ending (`parted-as`).
use mathlib.Core.Path.{◌≡◌, refl, sym, ap, ◌∙◌}
use Prim.Native.Nat.{ℕ, zero, suc, ◌+◌, ◌-◌, ◌≤◌, ◌<◌}
use native.Mathlib.Numerals.{add-one}
use native.Mathlib.Omega.{arith}
use mathlib.Core.Bool.{Bool, true, false, ◌&&◌, cond, and-false}
use mathlib.Core.Option.{Option, none, some}
use mathlib.Core.List.{List, [], ◌∷◌, ◌++◌, map}
use lib.ListN.{length, get_or, take, drop, drop_of_length-le}
use lib.Seq.{get_or-drop}
use lib.Dec.{eqb, ltb}
use borrow.Author.Tests.{eqb-true, ne_eqb, lt-ltb, le-ltb, ltb-true}
use Rattle.spec.specs.Lists.{as_count}
use Rattle.spec.specs.Text.{Line, raw_lines_of, but_return, without_return, lines_of, on_first, is_a}
use Rattle.spec.specs.Printing.{NetAndLog, is_parting, with_net_line, parted}
use Rattle.spec.specs.declared.Class.TheVariants.{LineEnd, Return}
use Rattle.lists.specs.Laws.{and-true, count-cons}
use Rattle.lists.specs.Along.{take_more, rest_at}
use Rattle.byte_entries.proofs.Classes.{line-end, return-byte}
use Rattle.byte_slices.specs.Counts.{count_of}
use Rattle.lines.specs.Lines.{Ending, ten, return-ten, past_ending, PastEnding}
use Rattle.program_input.specs.Parts.{starts_at, parts_at, parted_from, with_byte, in_front, Running, PartedAt}

-- ---- bytes put in front of what was parted

front-append : (s t : List ℕ) (q : Option NetAndLog) → in_front (s ++ t) q ≡ in_front s (in_front t q)
unfolding in_front
front-append [] t q = refl
front-append (b ∷ s) t q = rw (front-append s t q)

front-none : (s : List ℕ) → in_front s none ≡ none
unfolding in_front with_net_line with_byte
front-none [] = refl
front-none (b ∷ s) = rw (front-none s) (go (is_a LineEnd b))
  where
    go : (t : Bool) → cond {A = Option NetAndLog} t none none ≡ none
    go true = refl
    go false = refl

front-some : (s : List ℕ) (log : List Line) → in_front s (some (record { net = []; log = log })) ≡ some (record { net = raw_lines_of s; log = log })
unfolding in_front with_net_line with_byte raw_lines_of
front-some [] log = refl
front-some (b ∷ s) log = rw (front-some s log) (go (is_a LineEnd b) (record { bytes = []; ended = true } ∷ raw_lines_of s) (on_first b (raw_lines_of s)))
  where
    go : (t : Bool) (p q : List Line) → cond {A = Option NetAndLog} t (some (record { net = p; log = log })) (some (record { net = q; log = log })) ≡ some (record { net = cond t p q; log = log })
    go true p q = refl
    go false p q = refl

-- ---- raw lines parted, and the same without the byte 13 of their endings

abbrev shown : Option NetAndLog → Option NetAndLog
shown none = none
shown (some q) = some (record { net = map without_return q.net; log = map without_return q.log })

parted-as : (ls : List Line) → parted (map without_return ls) ≡ shown (parted_from true ls)
unfolding parted parted_from with_net_line
parted-as [] = refl
parted-as (l ∷ ls) = rw (parted-as ls) (go (is_parting (without_return l)) (parted_from true ls))
  where
    go : (t : Bool) (q : Option NetAndLog)
        → cond t (some (record { net = []; log = map without_return ls })) (with_net_line (without_return l) (shown q))
        ≡ shown (cond t (some (record { net = []; log = ls })) (with_net_line l q))
    go true q = refl
    go false none = refl
    go false (some q) = refl

-- ---- one byte

-- in the middle of a line
grown : (x : ℕ) (ls : List Line) → parted_from false (on_first x ls) ≡ with_byte x (parted_from false ls)
unfolding parted_from on_first with_net_line with_byte
grown x [] = refl
grown x (l ∷ ls) = go (parted_from true ls)
  where
    go : (q : Option NetAndLog) → with_net_line (record { bytes = x ∷ l.bytes; ended = l.ended }) q ≡ with_byte x (with_net_line l q)
    go none = refl
    go (some q) = refl

-- the first line is `=`
abbrev signs : List Line → Bool
signs [] = false
signs (l ∷ ls) = is_parting (without_return l)

untested : (ls : List Line) → signs ls ≡ false → parted_from true ls ≡ parted_from false ls
unfolding parted_from
untested [] e = refl
untested (l ∷ ls) e = rw e

apart : (s t : Bool) → (s && t) ≡ false → t ≡ true → s ≡ false
apart true true e q = e
apart true false e q = sym q
apart false t e q = refl

-- an ending stands in front
abbrev ends : List ℕ → Bool
ends xs = ltb 0 (past_ending xs 0)

-- a line of three bytes or more
long : (x y z : ℕ) (ls : List Line) → signs (on_first x (on_first y (on_first z ls))) ≡ false
unfolding on_first is_parting without_return but_return
long x y z [] = refl
long x y z (l ∷ ls) = go l.ended
  where
    go : (t : Bool) → is_parting (cond t (record { bytes = x ∷ y ∷ but_return (z ∷ l.bytes); ended = true }) (record { bytes = x ∷ y ∷ z ∷ l.bytes; ended = t })) ≡ false
    go true = rw (ne_eqb (length (x ∷ y ∷ but_return (z ∷ l.bytes))) 1 (λ e. omega arith))
    go false = refl

-- a line of two bytes or more
paired : (x y : ℕ) (ys : List ℕ) → (eqb x 61 && ends (y ∷ ys)) ≡ false → signs (on_first x (on_first y (raw_lines_of ys))) ≡ false
unfolding raw_lines_of on_first is_parting without_return but_return past_ending
paired x y [] h = refl
paired x y (z ∷ zs) h = go (is_a LineEnd z) refl
  where
    kept : (r : Bool) → is_a Return y ≡ r → eqb z 10 ≡ true → (eqb (length (x ∷ cond r [] (y ∷ []))) 1 && eqb x 61) ≡ false
    kept true q e = let s : y ≡ 13 = eqb-true y 13 (sym (return-byte y) ∙ q) in apart (eqb x 61) _ h (rw (s, e))
    kept false q e = refl

    go : (t : Bool) → is_a LineEnd z ≡ t → signs (on_first x (on_first y (cond t (record { bytes = []; ended = true } ∷ raw_lines_of zs) (on_first z (raw_lines_of zs))))) ≡ false
    go true q = kept (is_a Return y) refl (sym (line-end z) ∙ q)
    go false q = long x y z (raw_lines_of zs)

-- a line that starts with x, where the line `=` does not
not-sign : (x : ℕ) (xs : List ℕ) → (eqb x 61 && ends xs) ≡ false → signs (on_first x (raw_lines_of xs)) ≡ false
unfolding raw_lines_of on_first is_parting without_return but_return past_ending
not-sign x [] h = refl
not-sign x (y ∷ ys) h = go (is_a LineEnd y) refl
  where
    alone : (r : Bool) → eqb x 61 ≡ false → (eqb (length (cond r [] (x ∷ []))) 1 && eqb (get_or (cond r [] (x ∷ [])) 0 0) 61) ≡ false
    alone true e = refl
    alone false e = e

    go : (t : Bool) → is_a LineEnd y ≡ t → signs (on_first x (cond t (record { bytes = []; ended = true } ∷ raw_lines_of ys) (on_first y (raw_lines_of ys)))) ≡ false
    go true q = let e : y ≡ 10 = eqb-true y 10 (sym (line-end y) ∙ q) in alone (is_a Return x) (apart (eqb x 61) _ h (rw e))
    go false q = paired x y ys h

pass : (f : Bool) (x : ℕ) (xs : List ℕ) → (f && (eqb x 61 && ends xs)) ≡ false
    → parted_from f (raw_lines_of (x ∷ xs)) ≡ in_front (x ∷ []) (parted_from (eqb x 10) (raw_lines_of xs))
unfolding raw_lines_of in_front parted_from is_parting without_return but_return
pass f x xs h = rw (← line-end x) (go (is_a LineEnd x) f h)
  where
    go : (t f : Bool) → (f && (eqb x 61 && ends xs)) ≡ false
        → parted_from f (cond t (record { bytes = []; ended = true } ∷ raw_lines_of xs) (on_first x (raw_lines_of xs)))
        ≡ cond t (with_net_line (record { bytes = []; ended = true }) (parted_from t (raw_lines_of xs))) (with_byte x (parted_from t (raw_lines_of xs)))
    go true true e = refl
    go true false e = refl
    go false true e = untested (on_first x (raw_lines_of xs)) (not-sign x xs e) ∙ grown x (raw_lines_of xs)
    go false false e = grown x (raw_lines_of xs)

-- the line `=` itself, with byte 13 in its ending or not
sign : (r : Bool) (xs : List ℕ) → parted_from true (raw_lines_of (61 ∷ cond r (13 ∷ 10 ∷ xs) (10 ∷ xs))) ≡ some (record { net = []; log = raw_lines_of xs })
unfolding parted_from raw_lines_of on_first is_parting without_return but_return
sign true xs = rw (line-end 61, line-end 13, line-end 10, return-byte 13)
sign false xs = rw (line-end 61, line-end 10, return-byte 61)

-- ---- where the bytes stand

none-counted : (t : Bool) → as_count t ≡ 0 → t ≡ false
unfolding as_count
none-counted true e = absurd (omega arith)
none-counted false e = refl

-- an ending at a position stands in front of the rest from there
ends_at : (s : List ℕ) (k : ℕ) → ends (drop k s) ≡ ltb k (past_ending s k)
unfolding past_ending
ends_at s k =
    let z : k + 0 ≡ k = omega arith in
    let first : get_or (drop k s) 0 0 ≡ get_or s k 0 = get_or-drop k s 0 0 ∙ ap (λ (i : ℕ). get_or s i 0) z in
    rw (first, get_or-drop k s 1 0) (go (eqb (get_or s k 0) 10) (eqb (get_or s k 0) 13 && eqb (get_or s (k + 1) 0) 10))
  where
    go : (t u : Bool) → ltb 0 (cond t 1 (cond u 2 0)) ≡ ltb k (cond t (k + 1) (cond u (k + 2) k))
    go true u = sym (lt-ltb k (k + 1) (omega arith))
    go false true = sym (lt-ltb k (k + 2) (omega arith))
    go false false = sym (le-ltb k k (omega arith))

-- it has a byte 13 or not
ending-is : {s : List ℕ} {k n : ℕ} → Ending s k n → (r : Bool) × (drop k s ≡ cond r (13 ∷ 10 ∷ drop n s) (10 ∷ drop n s))
ending-is (ten e) = (false, e)
ending-is (return-ten e) = (true, e)

unsigned : (s : List ℕ) (at : ℕ) → eqb (get_or s at 0) 61 ≡ false → parts_at s at ≡ false
unfolding parts_at
unsigned s at e = rw e (and-false (starts_at s at))

starts-next : (s : List ℕ) (at : ℕ) → starts_at s (at + 1) ≡ eqb (get_or s at 0) 10
unfolding starts_at
starts-next s at = rw (add-one at)

-- ---- the search

pub begun : (input : List ℕ) → Running input 0
unfolding starts_at parted_from in_front
begun input = record { within = omega arith; sofar = refl }

pub nothing : (input : List ℕ) (at : ℕ) → Running input at → length input ≤ at → parted (lines_of input) ≡ none
unfolding lines_of raw_lines_of parted_from
nothing input at g h =
    let e : parted_from true (raw_lines_of input) ≡ none = g.sofar ∙ rw (drop_of_length-le input h) (front-none (take at input)) in
    parted-as (raw_lines_of input) ∙ ap shown e

module _ (input : List ℕ) (at : ℕ) (g : Running input at) (h : at < length input) where
  -- the line `=` starts elsewhere
  pub turn : parts_at input at ≡ false → Running input (at + 1)
  unfolding parts_at
  turn e =
      let x = get_or input at 0 in
      let here : parted_from (starts_at input at) (raw_lines_of (drop at input)) ≡ in_front (x ∷ []) (parted_from (starts_at input (at + 1)) (raw_lines_of (drop (at + 1) input))) =
      rw (rest_at input at h, starts-next input at) (pass (starts_at input at) x (drop (at + 1) input) (rw (ends_at input (at + 1)) e)) in
      record {
        within = omega arith;
        sofar = g.sofar ∙ ap (in_front (take at input)) here ∙ sym (rw (take_more 0 input at h) (front-append (take at input) (x ∷ []) _));
      }

  -- here starts the line `=`, and the log behind its ending
  pub found : parts_at input at ≡ true → {n : ℕ} → PastEnding input (at + 1) n → PartedAt input at n
  unfolding parts_at lines_of
  found e {n} p =
      let a = and-true (starts_at input at) _ e in
      let b = and-true (eqb (get_or input at 0) 61) _ a.1 in
      let l : at + 1 < n = rw p.is (ltb-true (at + 1) (past_ending input (at + 1)) b.1) in
      let r = ending-is (p.ending l) in
      record { parts = parted-as (raw_lines_of input) ∙ ap shown (go r.0 a.0 (eqb-true (get_or input at 0) 61 b.0) r.1); net = omega arith; log = p.within l }
    where
      go : (r : Bool) → starts_at input at ≡ true → get_or input at 0 ≡ 61 → drop (at + 1) input ≡ cond r (13 ∷ 10 ∷ drop n input) (10 ∷ drop n input)
          → parted_from true (raw_lines_of input) ≡ some (record { net = raw_lines_of (take at input); log = raw_lines_of (drop n input) })
      go r s x d =
          let rest : drop at input ≡ 61 ∷ cond r (13 ∷ 10 ∷ drop n input) (10 ∷ drop n input) = rest_at input at h ∙ rw (x, d) in
          g.sofar ∙ rw (s, rest, sign r (drop n input)) (front-some (take at input) (raw_lines_of (drop n input)))

-- no byte `=` among the next n
pub leap : (input : List ℕ) (n at : ℕ) → Running input at → at + n ≤ length input → count_of 61 (take n (drop at input)) ≡ 0 → Running input (at + n)
leap input zero at g l z = let e : at + 0 ≡ at = omega arith in rw e g
leap input (suc n) at g l z =
    let h : at < length input = omega arith in
    let c : count_of 61 (take (suc n) (drop at input)) ≡ as_count (eqb (get_or input at 0) 61) + count_of 61 (take n (drop (at + 1) input)) = rw (rest_at input at h) (count-cons (λ x. eqb x 61) _ _) in
    let e : at + suc n ≡ at + 1 + n = omega arith in
    rw e (leap input n (at + 1) (turn input at g h (unsigned input at (none-counted (eqb (get_or input at 0) 61) (omega arith)))) (omega arith) (omega arith))

-- ---- the tests

pub first-starts : (s : List ℕ) (at : ℕ) → at ≡ 0 → true ≡ starts_at s at
unfolding starts_at
first-starts s at e = rw e

pub behind-end : (s : List ℕ) (at : ℕ) → (at ≡ 0 → ⊥) → eqb (get_or s (at - 1) 0) 10 ≡ starts_at s at
unfolding starts_at
behind-end s zero d = absurd (d refl)
behind-end s (suc i) d = let e : suc i - 1 ≡ i = omega arith in rw e

pub no_sign : (s : List ℕ) (at : ℕ) → (get_or s at 0 ≡ 61 → ⊥) → false ≡ parts_at s at
no_sign s at d = sym (unsigned s at (ne_eqb _ 61 d))

-- behind the byte `=` an ending was passed, or not
module _ (s : List ℕ) (at : ℕ) {n : ℕ} (p : PastEnding s (at + 1) n) where
  pub sign-unended : n ≤ at + 1 → false ≡ parts_at s at
  unfolding parts_at
  sign-unended l = sym (rw (← p.is, le-ltb (at + 1) n l, and-false (eqb (get_or s at 0) 61)) (and-false (starts_at s at)))

  pub sign-ended : get_or s at 0 ≡ 61 → at + 1 < n → starts_at s at ≡ parts_at s at
  unfolding parts_at
  sign-ended x l = rw (← p.is, x, lt-ltb (at + 1) n l) (go (starts_at s at))
    where
      go : (t : Bool) → t ≡ (t && true)
      go true = refl
      go false = refl
