-- What a byte's class says of the byte: a digit is the digit of its value, and every other class in use has one byte.
use Rattle.std.specs.Prelude.{◌≡◌, refl, ℕ, ◌+◌, ◌-◌, ◌<◌, Bool, true, false, not, ◌&&◌, cond, eqb, leb}
use Prim.Native.Char.{Char, code}
use Rattle.std.proofs.Common.{arith, le-leb, leb-true, eqb-true}
use Rattle.spec.specs.Lists.{every}
use Rattle.spec.specs.Text.{class_names, named, in_digits, class_of, digit_of, is_a, digit_byte}
use Rattle.spec.specs.Classes.{class_code, alike}
use Rattle.spec.specs.declared.Class.{Class}
use Rattle.spec.specs.declared.Class.TheVariants.{Digit, Comma, Dash as DashByte, LineEnd, Return}
use Rattle.lists.specs.Laws.{clash, and-true, and-four, true-and, not-is-true}
use Rattle.lists.specs.OneByte.{named-passes, alone, one_byte}

-- a byte of one class is of no other
pub other-class : (j k : Class) → alike j k ≡ false → (b : ℕ) → is_a j b ≡ true → is_a k b ≡ false
unfolding is_a alike
other-class j k h b e = rw (eqb-true (class_code (class_of b)) (class_code j) e) h

-- ---- digits

digit-within : (d : ℕ) → d < 10 → in_digits (digit_byte d) ≡ true
unfolding in_digits digit_byte
digit-within d h = true-and (le-leb 48 (48 + d) (omega arith)) (le-leb (48 + d) 57 (omega arith))

pub digit-is_a : (d : ℕ) → d < 10 → is_a Digit (digit_byte d) ≡ true
unfolding is_a alike class_of
digit-is_a d h = rw (digit-within d h)

pub digit_value : (d : ℕ) → d < 10 → digit_of (digit_byte d) ≡ d
unfolding digit_of
digit_value d h = rw (digit-within d h) (minus d)
  where
    minus : (d : ℕ) → digit_byte d - 48 ≡ d
    minus d = unfold digit_byte in (omega arith)

is_a-within : (b : ℕ) → is_a Digit b ≡ true → in_digits b ≡ true
unfolding is_a alike class_of every
is_a-within b h = go (in_digits b) refl h
  where
    go : (t : Bool) → in_digits b ≡ t → eqb (class_code (cond t Digit (named b class_names))) 0 ≡ true → in_digits b ≡ true
    go true e q = e
    go false e q = clash q (not-is-true _ (named-passes (λ b k. not (eqb (class_code k) 0)) (λ b. refl) b class_names refl))

-- a digit's byte has a value below ten, and is that value's digit
pub is_a-digit : (b : ℕ) → is_a Digit b ≡ true → (digit_of b < 10) × (digit_byte (digit_of b) ≡ b)
unfolding digit_of digit_byte in_digits
is_a-digit b h =
    let w : in_digits b ≡ true = is_a-within b h in
    let z = and-true (leb 48 b) (leb b 57) w in
    let l = leb-true 48 b z.0 in
    let m = leb-true b 57 z.1 in
    rw w (omega arith, omega arith)

-- ---- the other classes in use

pub comma-is : (b : ℕ) → is_a Comma b ≡ true → b ≡ code ","
unfolding alone every alike class_of in_digits named
comma-is = one_byte (code ",") refl

pub dash-is : (b : ℕ) → is_a DashByte b ≡ true → b ≡ code "-"
unfolding alone every alike class_of in_digits named
dash-is = one_byte (code "-") refl

pub line_end-is : (b : ℕ) → is_a LineEnd b ≡ true → b ≡ 10
unfolding alone every alike class_of in_digits named
line_end-is = one_byte 10 refl

pub return-is : (b : ℕ) → is_a Return b ≡ true → b ≡ 13
unfolding alone every alike class_of in_digits named
return-is = one_byte 13 refl

-- ---- letters

-- the letter c is in use: its class is that of this byte alone, which parts no fields and ends no line, nor belongs to an
-- ending
pub record Letter (c : Char) : Type 0 where
  pub only : (b : ℕ) → is_a (class_of (code c)) b ≡ true → b ≡ code c
  pub no_comma : is_a Comma (code c) ≡ false
  pub no_end : is_a LineEnd (code c) ≡ false
  pub no_return : is_a Return (code c) ≡ false

letter : (c : Char) → alone (code c) && not (is_a Comma (code c)) && not (is_a LineEnd (code c)) && not (is_a Return (code c)) ≡ true → Letter c
letter c h =
    let z = and-four (alone (code c)) (not (is_a Comma (code c))) (not (is_a LineEnd (code c))) (not (is_a Return (code c))) h in
    record { only = one_byte (code c) z.0; no_comma = not-is-true _ z.1; no_end = not-is-true _ z.2; no_return = not-is-true _ z.3 }

pub P-letter : Letter "P"
unfolding alone every is_a alike class_of in_digits named
P-letter = letter "P" refl

pub T-letter : Letter "T"
unfolding alone every is_a alike class_of in_digits named
T-letter = letter "T" refl

pub I-letter : Letter "I"
unfolding alone every is_a alike class_of in_digits named
I-letter = letter "I" refl

pub O-letter : Letter "O"
unfolding alone every is_a alike class_of in_digits named
O-letter = letter "O" refl

pub H-letter : Letter "H"
unfolding alone every is_a alike class_of in_digits named
H-letter = letter "H" refl

pub S-letter : Letter "S"
unfolding alone every is_a alike class_of in_digits named
S-letter = letter "S" refl

pub E-letter : Letter "E"
unfolding alone every is_a alike class_of in_digits named
E-letter = letter "E" refl

pub C-letter : Letter "C"
unfolding alone every is_a alike class_of in_digits named
C-letter = letter "C" refl

pub B-letter : Letter "B"
unfolding alone every is_a alike class_of in_digits named
B-letter = letter "B" refl

pub A-letter : Letter "A"
unfolding alone every is_a alike class_of in_digits named
A-letter = letter "A" refl

pub G-letter : Letter "G"
unfolding alone every is_a alike class_of in_digits named
G-letter = letter "G" refl

pub R-letter : Letter "R"
unfolding alone every is_a alike class_of in_digits named
R-letter = letter "R" refl

pub K-letter : Letter "K"
unfolding alone every is_a alike class_of in_digits named
K-letter = letter "K" refl

pub J-letter : Letter "J"
unfolding alone every is_a alike class_of in_digits named
J-letter = letter "J" refl

pub W-letter : Letter "W"
unfolding alone every is_a alike class_of in_digits named
W-letter = letter "W" refl
