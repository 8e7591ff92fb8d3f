-- Request 2026-02, computed: each case fails under a reading of the request that the others would let pass.
use Rattle.std.specs.Prelude.{◌≡◌, refl, ℕ, Bool, true, ◌&&◌, cond, List, [], ◌++◌, map, eqb}
use Prim.Native.Char.{code}
use Rattle.spec.specs.Classes.{class_code}
use Rattle.spec.specs.Text.{class_of, digit_of}
use Rattle.spec.specs.Net.{places, read_net}
use Rattle.spec.specs.Building.{build}
use Rattle.spec.specs.Checking.{check}
use Rattle.spec.specs.Arranging.{arrange}
use Rattle.spec.specs.Replaying.{replay}
use Rattle.spec.specs.LineParts.{refused_line}
use Rattle.spec.specs.Printing.{program}
use Rattle.spec.specs.Endings.{plain_ends}
use Rattle.spec.specs.Quoted.{ascii, same, refused, given, passes}
use Rattle.spec.specs.Cases.{open_all}

-- a quoted text: `;` is byte 10 and `~` byte 13
byte_of : ℕ → ℕ
byte_of b = cond (eqb b (code ";")) 10 (cond (eqb b (code "~")) 13 b)

bytes : List ℕ → List ℕ
bytes quoted = map byte_of quoted

declares : List ℕ → ℕ → ℕ → Bool
declares net p t = given (λ n. eqb (places n) p && eqb n.transitions t) (read_net (bytes net))

in_net : ℕ → ℕ → List ℕ → Bool
in_net n s net = refused n s (read_net (bytes net))

-- part of which text, where it starts in it, and its bytes
shows_line : List ℕ → List ℕ → ℕ → ℕ → ℕ → List ℕ → Bool
shows_line net second choice k start line =
    given (λ p. eqb p.text choice && eqb p.start start && same p.bytes (bytes line)) (refused_line (bytes net) (bytes second) choice k)

-- ---- the class of a carriage return

pub of_bytes : Bool
of_bytes = eqb (class_code (class_of 13)) 19 && eqb (digit_of 13) 0

-- ---- "Both line endings are accepted, mixed or not. A byte 13 elsewhere is malformed."

pub of_lines : Bool
of_lines =
    declares (ascii "P,1~;P,1;T~;I,0,0~;O,0,1~;") 2 1
    && declares (ascii "P,1;P,1~;") 2 0
    -- twice, inside a line, in front of it, behind the last one and alone
    && in_net 11 1 (ascii "P,1~~;")
    && in_net 11 2 (ascii "P,1;P~,1;")
    && in_net 11 2 (ascii "P,1;P,~1;")
    && in_net 11 2 (ascii "P,1;P,1~T;")
    && in_net 11 2 (ascii "P,1~;~T;")
    && in_net 11 2 (ascii "P,1;T~")
    && in_net 11 1 (ascii "~")
    && in_net 11 2 (ascii "P,1;~P,1~;")
    -- the two bytes in the other order end a line and begin the next
    && in_net 11 2 (ascii "P,1;~P,1;~")
    -- 13 and 10 alone are an empty line
    && in_net 11 2 (ascii "P,1~;~;T~;")
    && in_net 11 2 (ascii "P,1;~;")
    -- a byte 13 ends nothing by itself
    && in_net 11 1 (ascii "P,1~P,1~")
    && in_net 11 1 (ascii "P,1~P,1;")

-- ---- each reader

net : List ℕ
net = ascii "P,1~;P,0;T~;I,0,0;O,0,1~;"

run : List ℕ
run = ascii "E,0;C,0,-,0~;C,1,0,-;"

pub of_readers : Bool
of_readers =
    given (same (bytes (ascii "E,0;C,0,-,0;C,1,0,-;"))) (build (bytes net) (bytes (ascii "S,0~;")) 48256)
    && refused 21 1 (build (bytes net) (bytes (ascii "S,0~")) 48256)
    && refused 21 1 (build (bytes net) (bytes (ascii "S,0~~;")) 48256)
    && refused 21 1 (build (bytes net) (bytes (ascii "S~,0;")) 48256)
    && refused 21 2 (build (bytes net) (bytes (ascii "S,0~;~;")) 48256)
    && passes (check (bytes net) (bytes run) 16384)
    && refused 31 3 (check (bytes net) (bytes (ascii "E,0~;C,0,-,0~;C,1,0,-~~;")) 16384)
    && refused 31 2 (check (bytes net) (bytes (ascii "E,0;C,0,-~,0;C,1,0,-;")) 16384)
    && refused 31 1 (check (bytes net) (bytes (ascii "E,0~")) 16384)
    && passes (replay (bytes net) (bytes run) (bytes (ascii "G,0~;")) 4128)
    && refused 41 1 (replay (bytes net) (bytes run) (bytes (ascii "G,0~~;")) 4128)
    && refused 41 1 (replay (bytes net) (bytes run) (bytes (ascii "G,0~")) 4128)
    -- "What we write keeps byte 10 alone."
    && given (λ a. same a.bytes (bytes (ascii "G,0;"))) (arrange (bytes net) (bytes run) 768)

-- ---- the program

prints : List ℕ → List ℕ → Bool
prints input output = same (program (bytes input)) (bytes output)

pub of_programs : Bool
of_programs =
    prints (net ++ ascii "=~;S,0~;") (ascii "E,0;C,0,-,0;C,1,0,-;Z,1,2,0,1;")
    && prints (net ++ ascii "=;S,0~;") (ascii "E,0;C,0,-,0;C,1,0,-;Z,1,2,0,1;")
    && prints (net ++ ascii "=~;S,0;=~;") (ascii "X,21,2;")
    -- none of these is the line `=`
    && prints (net ++ ascii "=~~;S,0;") (ascii "X,10,0;")
    && prints (net ++ ascii "~=;S,0;") (ascii "X,10,0;")
    && prints (net ++ ascii "=~") (ascii "X,10,0;")
    && prints (net ++ ascii "=~S,0;") (ascii "X,10,0;")
    && prints (net ++ ascii "x~=~;S,0;") (ascii "X,10,0;")
    -- the net is what stands above it
    && prints (net ++ ascii "~;=~;S,0;") (ascii "X,11,6;")
    && prints (ascii "=~;S,0~;") (ascii "X,22,1;")

-- ---- "The refused line is shown without its ending, 10 or 13 and 10; any other byte 13 in it is shown."

pub of_shown : Bool
of_shown =
    shows_line (ascii "P,1~;P,1;T~;") [] 0 1 0 (ascii "P,1")
    -- where a line starts counts the endings above it
    && shows_line (ascii "P,1~;P,1;T~;") [] 0 2 5 (ascii "P,1")
    && shows_line (ascii "P,1~;P,1;T~;") [] 0 3 9 (ascii "T")
    && shows_line (ascii "P,1~;") (ascii "S,0~;S,1~;") 1 2 5 (ascii "S,1")
    && shows_line (ascii "x~~;") [] 0 1 0 (ascii "x~")
    && shows_line (ascii "~x~y~;") [] 0 1 0 (ascii "~x~y")
    && shows_line (ascii "T;x~") [] 0 2 2 (ascii "x~")
    && shows_line (ascii "~;") [] 0 1 0 []
    && shows_line (ascii "~~;") [] 0 1 0 (ascii "~")
    && shows_line (ascii "~") [] 0 1 0 (ascii "~")
    && shows_line (ascii "T~;~") [] 0 2 3 (ascii "~")
    && refused 46 2 (refused_line (bytes (ascii "T~;")) [] 0 2)

-- ---- a text with byte 10 alone as every ending

pub of_endings : Bool
of_endings =
    same (plain_ends (bytes (ascii "P,1~;~x~;~~;;T;y~"))) (bytes (ascii "P,1;~x;~;;T;y~"))
    && same (plain_ends (bytes (ascii "~"))) (bytes (ascii "~"))

pub returns-hold : (of_bytes ≡ true) × (of_lines ≡ true) × (of_readers ≡ true) × (of_programs ≡ true) × (of_shown ≡ true) × (of_endings ≡ true)
unfolding open_all plain_ends byte_of bytes declares in_net shows_line of_bytes of_lines net run of_readers prints of_programs of_shown of_endings
returns-hold = (refl, refl, refl, refl, refl, refl)
