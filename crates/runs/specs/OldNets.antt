-- Nets without weights (02, 2026-06): a net text in which no arc carries a weight is read as before the request, and each of
-- its arcs weighs 1; and a weight of 1 written out changes nothing but the text.
use Rattle.std.specs.Prelude.{◌≡◌, refl, ℕ, suc, Bool, ◌&&◌, cond}
use Rattle.std.proofs.Common.{ap, ◌∙◌, subst, inl, inr, arith}
use Prim.Native.Char.{Char, code}
use Rattle.std.proofs.Math.Bool.{true, false}
use mathlib.Core.List.Memᴰ
use mathlib.Core.List.{List, [], ◌∷◌, ◌++◌}
use Rattle.spec.specs.Lists.{every, lowest}
use Rattle.spec.specs.Answer.{gives, ◌>>◌, refuse◌at◌when◌, refuse◌at?◌}
use Rattle.spec.specs.Classes.{alike}
use Rattle.spec.specs.Text.{Line, named, in_digits, class_of, digit_of, is_a, pieces, needless_zero, is_number, value_from, number_in, lines_of, by_lines}
use Rattle.spec.specs.Forms.{FieldForm, number, is_of, has_letter, fields_of, are_of, is_line, event_at, number_at}
use Rattle.spec.specs.Building.{build}
use Rattle.spec.specs.Checking.{accepts, check_within, check}
use Rattle.spec.specs.Replaying.{replay}
use Rattle.spec.specs.Arranging.{arrange}
use Rattle.spec.specs.Energy.{energy}
use Rattle.spec.specs.Net.{Net, takes, makes, with_place, with_transition, add_place, add_transition, add_arc, add_line, empty_net, lacking, whole, net_of, read_net}
use Rattle.spec.specs.WithoutWeights.{Unweighted, HasNoWeight, with_one, with_ones, SameNet, OldNets}
use Rattle.spec.specs.BeforeWeights as Then
use Rattle.spec.specs.declared.ArcKind.{ArcKind}
use Rattle.spec.specs.declared.ArcKind.TheVariants.{Input, Output, Inhibitor, Read}
use Rattle.lists.specs.Laws.{true-or-false, clash, and-true, and-three}
use Rattle.lists.specs.ArcWeights.{WeighFrom, weigh-more, weight-once}
use Rattle.runs.specs.Answers.{of-gives, not-refused, of-bind, of-when, of-lowest, of-cond}
use Rattle.runs.specs.Fields.{pieces-some, pieces_more}
use Rattle.runs.specs.Readers.{lines_keep}
use Rattle.runs.specs.Readless.{bind-same, lines_same, lines-asked, other-letter}

-- ---- a net whose arcs all weigh 1

abbrev Ones : Net → Type 0
Ones n = WeighFrom 1 1 n

module _ (n : Net) (O : Ones n) where
  takes_same : (t p : ℕ) → takes n t p ≡ Then.takes n t p
  unfolding takes Then.takes
  takes_same t p = weight-once n Input p t O

  makes-same : (t p : ℕ) → makes n t p ≡ Then.makes n t p
  unfolding makes Then.makes
  makes-same t p = weight-once n Output p t O

  lacking-same : (t : ℕ) → lacking n t ≡ Then.lacking n t
  unfolding lacking Then.lacking
  lacking-same t = simp (takes_same, makes-same)

  whole_same : whole n ≡ Then.whole n
  unfolding whole Then.whole
  whole_same i = refuse 15 at? lowest (λ t. lacking-same t i) n.transitions >> gives n

-- ---- a line without weights

-- an arc of weight 1 is added as an arc was
one_same : (x : ArcKind) (k p t : ℕ) (n : Net) → add_arc x k p t 1 n ≡ Then.add_arc x k p t n
unfolding add_arc Then.add_arc ◌>>◌ refuse◌at◌when◌
one_same x k p t n = refl

line_same : (k : ℕ) (l : Line) (n : Net) → Unweighted l → add_line k l n ≡ Then.add_line k l n
unfolding add_line Then.add_line
line_same k l n q =
    let u = number_at l 0 in
    let v = number_at l 1 in
    rw (q.input, q.output, one_same Input k u v n, one_same Output k v u n, one_same Inhibitor k u v n, one_same Read k u v n)

-- a line of a letter and two numbers
record TwoNumbers (c : Char) (l : Line) : Type 0 where
  ended : l.ended ≡ true
  letter : has_letter c l ≡ true
  one : List ℕ
  other : List ℕ
  fields : fields_of l ≡ one ∷ other ∷ []
  first : is_of number one ≡ true
  second : is_of number other ≡ true

abbrev two : List FieldForm
two = number ∷ number ∷ []

abbrev three : List FieldForm
three = number ∷ number ∷ number ∷ []

two-numbers : (c : Char) (l : Line) → is_line c two l ≡ true → TwoNumbers c l
unfolding is_line
two-numbers c l h = let z = and-three l.ended (has_letter c l) (are_of two (fields_of l)) h in go z.0 z.1 (fields_of l) refl z.2
  where
    go : l.ended ≡ true → has_letter c l ≡ true → (ps : List (List ℕ)) → fields_of l ≡ ps → are_of two ps ≡ true → TwoNumbers c l
    go e k [] f a = unfold are_of in (clash a refl)
    go e k (p ∷ []) f a = unfold are_of in (clash (and-true (is_of number p) false a).1 refl)
    go e k (p ∷ q ∷ []) f a = unfold are_of in (
        let x = and-true (is_of number p) (is_of number q && true) a in
        record { ended = e; letter = k; one = p; other = q; fields = f; first = x.0; second = (and-true (is_of number q) true x.1).0 })
    go e k (p ∷ q ∷ r ∷ ps) f a = unfold are_of in (clash (and-true (is_of number q) false (and-true (is_of number p) (is_of number q && false) a).1).1 refl)

-- is none of three
not_three : (c : Char) (l : Line) → is_line c two l ≡ true → is_line c three l ≡ false
unfolding is_line are_of
not_three c l h = let T = two-numbers c l h in rw (T.letter, T.fields, T.first, T.second, T.ended)

-- a line of a letter that is neither I nor O has no weight
others : (c : Char) → alike (class_of (code c)) (class_of (code "I")) ≡ false → alike (class_of (code c)) (class_of (code "O")) ≡ false
    → (fs : List FieldForm) (l : Line) → is_line c fs l ≡ true → Unweighted l
others c i o fs l h = record { input = other-letter c "I" i fs three l h; output = other-letter c "O" o fs three l h }

-- ---- what the reader then accepted had no weights, and all its arcs weigh 1

arc-kept : (x : ArcKind) (k p t : ℕ) (n m : Net) → Then.add_arc x k p t n ≡ gives m → Ones n → Ones m
unfolding Then.add_arc
arc-kept x k p t n m h O =
    let a = of-when 13 k _ _ h in
    let b = of-when 14 k _ _ a.1 in
    let c = of-when 51 k _ _ b.1 in
    subst Ones (of-gives c.1) (weigh-more n x p t 1 O (omega arith) (omega arith))

line_kept : (k : ℕ) (l : Line) (n m : Net) → Then.add_line k l n ≡ gives m → Unweighted l × (Ones n → Ones m)
unfolding Then.add_line add_place add_transition with_place with_transition alike class_of named in_digits
line_kept k l n m h =
    let u = number_at l 0 in
    let v = number_at l 1 in
    of-cond (is_line "P" (number ∷ []) l) _ _ h (λ t q. (others "P" refl refl _ l t, subst Ones (of-gives (of-when 12 k _ _ q).1))) λ h.
    of-cond (is_line "T" [] l) _ _ h (λ t q. (others "T" refl refl _ l t, subst Ones (of-gives (of-when 12 k _ _ q).1))) λ h.
    of-cond (is_line "I" two l) _ _ h (λ t q. (record { input = not_three "I" l t; output = other-letter "I" "O" refl two three l t }, arc-kept Input k u v n m q)) λ h.
    of-cond (is_line "O" two l) _ _ h (λ t q. (record { input = other-letter "O" "I" refl two three l t; output = not_three "O" l t }, arc-kept Output k v u n m q)) λ h.
    of-cond (is_line "H" two l) _ _ h (λ t q. (others "H" refl refl two l t, arc-kept Inhibitor k u v n m q)) λ h.
    of-cond (is_line "R" two l) _ _ h (λ t q. (others "R" refl refl two l t, arc-kept Read k u v n m q)) not-refused

none_yet : Ones empty_net
unfolding empty_net
none_yet c i = absurd (Memᴰ.not-nil i)

lines-ones : (ls : List Line) (n : Net) → by_lines Then.add_line 1 ls empty_net ≡ gives n → Ones n
lines-ones ls n h = (lines_keep Then.add_line (λ k n done. Ones n) (λ k l n m done h. (line_kept k l n m h).1) 1 ls empty_net n [] h none_yet).1

net-same : (text : List ℕ) → HasNoWeight text → read_net text ≡ Then.read_net text
unfolding read_net Then.read_net net_of Then.net_of
net-same text q =
    rw (lines_same add_line Then.add_line (λ n. Unit {0}) Unweighted (λ k l n u p. line_same k l n u) (λ k l n m h p. tt) 1 (lines_of text) empty_net q tt)
    (bind-same (by_lines Then.add_line 1 (lines_of text) empty_net) whole Then.whole (λ n h. whole_same n (lines-ones (lines_of text) n h)))

-- the lines of a text that was accepted, and its net
was_read : (text : List ℕ) (N : Net) → Then.read_net text ≡ gives N → HasNoWeight text × Ones N
unfolding Then.read_net Then.net_of Then.whole
was_read text N h =
    let z = of-bind (by_lines Then.add_line 1 (lines_of text) empty_net) _ h in
    let y = of-lowest 15 _ (gives z.0) z.2 in (
      lines-asked Then.add_line Unweighted (λ k l n m h. (line_kept k l n m h).0) 1 (lines_of text) empty_net z.0 z.1,
      subst Ones (of-gives y.1) (lines-ones (lines_of text) z.0 z.1),
    )

-- ---- a weight of 1 written out

abbrev spelled : Line → Line
spelled l = record { bytes = l.bytes ++ code "," ∷ code "1" ∷ []; ended = l.ended }

-- it stands behind the fields that are there
spelled-pieces : (l : Line) → pieces (spelled l).bytes ≡ pieces l.bytes ++ (code "1" ∷ []) ∷ []
spelled-pieces l = pieces_more l.bytes (code "1" ∷ []) (λ b m. rw (Memᴰ.eq_of_singleton m) (unfold is_a alike class_of named in_digits in refl))

one_number : is_of number (code "1" ∷ []) ≡ true
unfolding is_of is_number needless_zero digit_of every is_a alike class_of named in_digits
one_number = refl

module _ (c : Char) (l : Line) (h : is_line c two l ≡ true) where
  T : TwoNumbers c l
  T = two-numbers c l h

  letter-kept : has_letter c (spelled l) ≡ true
  unfolding has_letter
  letter-kept = let z = pieces-some l.bytes in rw (spelled-pieces l, z.2) (rw z.2 at T.letter)

  fields-more : fields_of (spelled l) ≡ T.one ∷ T.other ∷ (code "1" ∷ []) ∷ []
  unfolding fields_of
  fields-more = let z = pieces-some l.bytes in rw (spelled-pieces l, z.2) (ap (λ (ps : List (List ℕ)). ps ++ (code "1" ∷ []) ∷ []) (rw z.2 at T.fields))

  with-three : is_line c three (spelled l) ≡ true
  unfolding is_line are_of
  with-three = rw (letter-kept, fields-more, T.first, T.second, one_number, T.ended)

  not-two : is_line c two (spelled l) ≡ false
  unfolding is_line are_of
  not-two = rw (letter-kept, fields-more, T.first, T.second, T.ended)

  first-kept : number_at (spelled l) 0 ≡ number_at l 0
  unfolding number_at event_at
  first-kept = rw (fields-more, T.fields)

  second-kept : number_at (spelled l) 1 ≡ number_at l 1
  unfolding number_at event_at
  second-kept = rw (fields-more, T.fields)

  third-one : number_at (spelled l) 2 ≡ 1
  unfolding number_at event_at number_in is_number needless_zero digit_of every value_from is_a alike class_of named in_digits
  third-one = rw fields-more

input-spelled : (k : ℕ) (l : Line) (n : Net) → is_line "I" two l ≡ true → add_line k (spelled l) n ≡ add_line k l n
unfolding add_line alike class_of named in_digits
input-spelled k l n h =
    let m = with-three "I" l h in
    rw (other-letter "I" "P" refl three (number ∷ []) (spelled l) m, other-letter "I" "T" refl three [] (spelled l) m, not-two "I" l h, m)
    (rw (other-letter "I" "P" refl two (number ∷ []) l h, other-letter "I" "T" refl two [] l h, h) (rw (first-kept "I" l h, second-kept "I" l h, third-one "I" l h)))

output-spelled : (k : ℕ) (l : Line) (n : Net) → is_line "O" two l ≡ true → add_line k (spelled l) n ≡ add_line k l n
unfolding add_line alike class_of named in_digits
output-spelled k l n h =
    let m = with-three "O" l h in
    rw (other-letter "O" "P" refl three (number ∷ []) (spelled l) m, other-letter "O" "T" refl three [] (spelled l) m, other-letter "O" "I" refl three two (spelled l) m, other-letter "O" "I" refl three three (spelled l) m, not-two "O" l h, m)
    (rw (other-letter "O" "P" refl two (number ∷ []) l h, other-letter "O" "T" refl two [] l h, other-letter "O" "I" refl two two l h, other-letter "O" "I" refl two three l h, h) (rw (first-kept "O" l h, second-kept "O" l h, third-one "O" l h)))

line-spelled : (k : ℕ) (l : Line) (n : Net) → add_line k (with_one l) n ≡ add_line k l n
unfolding with_one
line-spelled k l n = elim (true-or-false (is_line "I" two l)) [
  | inl h ↦ rw h (input-spelled k l n h)
  | inr h ↦ elim (true-or-false (is_line "O" two l)) [
    | inl g ↦ rw (h, g) (output-spelled k l n g)
    | inr g ↦ rw (h, g)
  ]
]

chosen-spelled : (b : Bool) (k : ℕ) (l : Line) (n : Net) → add_line k (cond b (with_one l) l) n ≡ add_line k l n
chosen-spelled true k l n = line-spelled k l n
chosen-spelled false k l n = refl

lines-spelled : (chosen : ℕ → Bool) (k : ℕ) (ls : List Line) (n : Net) → by_lines add_line k (with_ones chosen k ls) n ≡ by_lines add_line k ls n
unfolding with_ones by_lines
lines-spelled chosen k [] n = refl
lines-spelled chosen k (l ∷ ls) n = rw (chosen-spelled (chosen k) k l n) (bind-same (add_line k l n) _ _ (λ m h. lines-spelled chosen (suc k) ls m))

-- ---- an operation asks of a net text only what is read of it

same-net : (one other : List ℕ) → read_net one ≡ read_net other → SameNet one other
unfolding build check check_within replay arrange energy accepts
same-net one other e = record {
  reads = e;
  builds = λ log room. rw e;
  checks = λ text room. rw e;
  replays = λ text arrangement room. rw e;
  arranges = λ text room. rw e;
  energies = λ text figures. rw e;
}

spelled-read : (text other : List ℕ) (chosen : ℕ → Bool) → lines_of other ≡ with_ones chosen 1 (lines_of text) → read_net other ≡ read_net text
unfolding read_net net_of
spelled-read text other chosen e = rw (e, lines-spelled chosen 1 (lines_of text) empty_net)

pub old-nets : OldNets
old-nets = record {
  reads = net-same;
  still-reads = λ text N h. net-same text (was_read text N h).0 ∙ h;
  takes = λ text N h. takes_same N (was_read text N h).1;
  makes = λ text N h. makes-same N (was_read text N h).1;
  ones = λ text other chosen e. same-net other text (spelled-read text other chosen e);
}
