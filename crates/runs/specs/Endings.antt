-- The endings of lines: a text is met byte by byte, an ending at a time (`by-endings`); the lines of a text without a byte
-- 13 outside its endings are those of the text with byte 10 alone (`plain_lines`).
use Rattle.std.specs.Prelude.{◌≡◌, ◌≢◌, ℕ, true, false, ◌&&◌, List, [], ◌∷◌, get_or, eqb}
use Rattle.std.proofs.Math.Path.{refl}
use Rattle.std.proofs.Common.{sym, ap, ◌∙◌, subst, inl, inr, arith, ne_eqb}
use Rattle.std.proofs.Math.Decide.{ℕ_discrete}
use Rattle.std.proofs.Math.Bool.{and-false}
use Rattle.spec.specs.Text.{is_a, Line, on_first, raw_lines_of, lines_of}
use Rattle.spec.specs.Net.{Net, read_net}
use Rattle.spec.specs.Record.{RunRecord, bench}
use Rattle.spec.specs.Building.{build}
use Rattle.spec.specs.Checking.{read_record, accepts, check_within, check}
use Rattle.spec.specs.Arranging.{arrange}
use Rattle.spec.specs.Energy.{read_energy, energy}
use Rattle.spec.specs.Replaying.{read_arrangement, replay}
use Rattle.spec.specs.Endings.{plain_ends, NoReturn, SameButEndings}
use Rattle.spec.specs.declared.Limits.{Limits}
use Rattle.spec.specs.declared.Class.TheVariants.{LineEnd, Return}
use Rattle.lists.specs.Laws.{here, there, true-or-false}
use Rattle.lists.specs.LineEnds.{ten-ends, ten-first, return-first, other-first, inner_first, no-first}
use Rattle.runs.specs.Bytes.{line_end-is, return-is}

-- ---- a byte that is not of an ending

not-ten : (b : ℕ) → b ≢ 10 → is_a LineEnd b ≡ false
not-ten b d = elim (true-or-false (is_a LineEnd b)) [
  | inl t ↦ absurd (d (line_end-is b t))
  | inr f ↦ f
]

not-return : (b : ℕ) → b ≢ 13 → is_a Return b ≡ false
not-return b d = elim (true-or-false (is_a Return b)) [
  | inl t ↦ absurd (d (return-is b t))
  | inr f ↦ f
]

-- ---- a text with byte 10 alone as its endings, byte by byte

pub plain-none : plain_ends [] ≡ []
unfolding plain_ends
plain-none = refl

pub plain-ten : (bs : List ℕ) → plain_ends (10 ∷ bs) ≡ 10 ∷ plain_ends bs
unfolding plain_ends
plain-ten bs = refl

pub plain-return : (bs : List ℕ) → plain_ends (13 ∷ 10 ∷ bs) ≡ plain_ends (10 ∷ bs)
unfolding plain_ends
plain-return bs = refl

plain_byte : (b : ℕ) (bs : List ℕ) → (eqb b 13 && eqb (get_or bs 0 0) 10) ≡ false → plain_ends (b ∷ bs) ≡ b ∷ plain_ends bs
unfolding plain_ends
plain_byte b bs e = rw e

-- a byte that is of no ending: it goes in front of the first line
pub record Inner (b : ℕ) (bs : List ℕ) : Type 0 where
  pub other : b ≢ 10
  pub first : lines_of (b ∷ bs) ≡ on_first b (lines_of bs)
  pub plain : plain_ends (b ∷ bs) ≡ b ∷ plain_ends bs

no_return : (b : ℕ) (bs : List ℕ) → b ≢ 10 → b ≢ 13 → Inner b bs
no_return b bs d n = record { other = d; first = other-first b bs (not-ten b d) (not-return b n); plain = plain_byte b bs (rw (ne_eqb b 13 n)) }

no-end-next : (b : ℕ) (bs : List ℕ) → b ≢ 10 → get_or bs 0 0 ≢ 10 → Inner b bs
no-end-next b bs d n = record { other = d; first = inner_first b bs (not-ten b d) (not-ten (get_or bs 0 0) n); plain = plain_byte b bs (rw (ne_eqb (get_or bs 0 0) 10 n) (and-false (eqb b 13))) }

-- what holds of the empty text, and of a text with one ending or one other byte more, holds of all
module _ (P : List ℕ → Type 0) (none : P [])
    (ten : (bs : List ℕ) → P bs → P (10 ∷ bs)) (return : (bs : List ℕ) → P (10 ∷ bs) → P (13 ∷ 10 ∷ bs))
    (byte : (b : ℕ) (bs : List ℕ) → Inner b bs → P bs → P (b ∷ bs)) where
  before-end : (b : ℕ) (bs : List ℕ) → b ≢ 10 → get_or bs 0 0 ≡ 10 → P bs → P (b ∷ bs)
  before-end b [] d q p = absurd (omega (arith, q))
  before-end b (c ∷ bs) d q p = elim (ℕ_discrete b 13) [
    | yes e ↦ subst (λ (x : ℕ). P (x ∷ c ∷ bs)) (sym e) (subst (λ (y : ℕ). P (y ∷ bs) → P (13 ∷ y ∷ bs)) (sym q) (return bs) p)
    | no n ↦ byte b (c ∷ bs) (no_return b (c ∷ bs) d n) p
  ]

  next-byte : (b : ℕ) (bs : List ℕ) → P bs → P (b ∷ bs)
  next-byte b bs p = elim (ℕ_discrete b 10) [
    | yes e ↦ subst (λ (x : ℕ). P (x ∷ bs)) (sym e) (ten bs p)
    | no d ↦ elim (ℕ_discrete (get_or bs 0 0) 10) [
      | yes q ↦ before-end b bs d q p
      | no n ↦ byte b bs (no-end-next b bs d n) p
    ]
  ]

  pub by-endings : (text : List ℕ) → P text
  by-endings [] = none
  by-endings (b ∷ bs) = next-byte b bs (by-endings bs)

-- ---- texts without a byte 13 outside their endings

tail_none : {b : ℕ} {bs : List ℕ} → NoReturn (b ∷ bs) → NoReturn bs
tail_none h x m = h x (there m)

-- their lines are those of the text with byte 10 alone
pub plain_lines : (text : List ℕ) → NoReturn (plain_ends text) → lines_of text ≡ lines_of (plain_ends text)
plain_lines = by-endings (λ text. NoReturn (plain_ends text) → lines_of text ≡ lines_of (plain_ends text))
    (λ h. ap lines_of (sym plain-none))
    (λ bs p h. rw (plain-ten bs, ten-first bs, ten-first (plain_ends bs)) (ap (λ (ls : List Line). record { bytes = []; ended = true } ∷ ls) (p (tail_none (subst NoReturn (plain-ten bs) h)))))
    (λ bs p h. return-first bs ∙ sym (ten-first bs) ∙ p (subst NoReturn (plain-return bs) h) ∙ ap lines_of (sym (plain-return bs)))
    (λ b bs w p h. let n = subst NoReturn w.plain h in
    w.first ∙ ap (on_first b) (p (tail_none n)) ∙ sym (other-first b (plain_ends bs) (not-ten b w.other) (not-return b (n b here))) ∙ ap lines_of (sym w.plain))

-- a text without a byte 13 is itself
pub plain-itself : (text : List ℕ) → NoReturn text → plain_ends text ≡ text
plain-itself = by-endings (λ text. NoReturn text → plain_ends text ≡ text)
    (λ h. plain-none)
    (λ bs p h. plain-ten bs ∙ ap (λ (l : List ℕ). 10 ∷ l) (p (tail_none h)))
    (λ bs p h. absurd (h 13 here refl))
    (λ b bs w p h. w.plain ∙ ap (λ (l : List ℕ). b ∷ l) (p (tail_none h)))

-- and its lines are what byte 10 ends
pub raw-lines : (text : List ℕ) → NoReturn text → lines_of text ≡ raw_lines_of text
raw-lines = by-endings (λ text. NoReturn text → lines_of text ≡ raw_lines_of text)
    (λ h. no-first ∙ sym raw-none)
    (λ bs p h. ten-first bs ∙ ap (λ (ls : List Line). record { bytes = []; ended = true } ∷ ls) (p (tail_none h)) ∙ sym (raw-ten bs))
    (λ bs p h. absurd (h 13 here refl))
    (λ b bs w p h. w.first ∙ ap (on_first b) (p (tail_none h)) ∙ sym (raw-byte b bs (not-ten b w.other)))
  where
    raw-none : raw_lines_of [] ≡ []
    raw-none = unfold raw_lines_of in refl

    raw-ten : (bs : List ℕ) → raw_lines_of (10 ∷ bs) ≡ record { bytes = []; ended = true } ∷ raw_lines_of bs
    raw-ten bs = unfold raw_lines_of in rw ten-ends

    raw-byte : (b : ℕ) (bs : List ℕ) → is_a LineEnd b ≡ false → raw_lines_of (b ∷ bs) ≡ on_first b (raw_lines_of bs)
    raw-byte b bs e = unfold raw_lines_of in rw e

-- ---- two texts that differ only in their endings

pub same_lines : (s t : List ℕ) → SameButEndings s t → lines_of s ≡ lines_of t
same_lines s t S = plain_lines s S.none-else ∙ ap lines_of S.same ∙ sym (plain_lines t (subst NoReturn S.same S.none-else))

-- a text and one without a byte 13 that it is with byte 10 alone
pub written_as : (text bytes : List ℕ) → plain_ends text ≡ bytes → NoReturn bytes → lines_of text ≡ lines_of bytes
written_as text bytes e n = plain_lines text (subst NoReturn (sym e) n) ∙ ap lines_of e

-- ---- the readers go by lines, and so do the operations

module _ (s t : List ℕ) (e : lines_of s ≡ lines_of t) where
  pub net-by-lines : read_net s ≡ read_net t
  unfolding read_net
  net-by-lines = rw e

  pub record-by-lines : (lim : Limits) (N : Net) → read_record lim N s ≡ read_record lim N t
  unfolding read_record
  record-by-lines lim N = rw e

  pub arrangement-by-lines : (R : RunRecord) → read_arrangement R s ≡ read_arrangement R t
  unfolding read_arrangement
  arrangement-by-lines R = rw e

  pub energy-text-by-lines : (N : Net) → read_energy N s ≡ read_energy N t
  unfolding read_energy
  energy-text-by-lines N = rw e

module _ (n m s t : List ℕ) (e : lines_of n ≡ lines_of m) (f : lines_of s ≡ lines_of t) where
  accepts-by-lines : accepts bench n s ≡ accepts bench m t
  unfolding accepts read_net read_record
  accepts-by-lines = rw (e, f)

  pub energy-by-lines : (a b : List ℕ) → lines_of a ≡ lines_of b → energy n s a ≡ energy m t b
  unfolding energy read_energy
  energy-by-lines a b g = rw (accepts-by-lines, g)

  module _ (room : ℕ) where
    pub build-by-lines : build n s room ≡ build m t room
    unfolding build read_net
    build-by-lines = rw (e, f)

    pub check-by-lines : check n s room ≡ check m t room
    unfolding check check_within
    check-by-lines = rw accepts-by-lines

    pub arrange-by-lines : arrange n s room ≡ arrange m t room
    unfolding arrange
    arrange-by-lines = rw accepts-by-lines

    pub replay-by-lines : (a b : List ℕ) → lines_of a ≡ lines_of b → replay n s a room ≡ replay m t b room
    unfolding replay read_arrangement
    replay-by-lines a b g = rw (accepts-by-lines, g)
