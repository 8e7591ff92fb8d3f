-- A net without `R` lines and its records give what they gave (02, 2026-01).
use Rattle.std.proofs.Math.Path.{◌≡◌, refl, ap, subst, fun_ext}
use Rattle.std.proofs.Common.{sym, ◌∙◌, arith, ne_eqb}
use Rattle.std.specs.Prelude.{◌≢◌, ℕ, Bool, true, cond, List, [], ◌∷◌, length, ltb}
use Rattle.std.proofs.Math.Logic.{inl, inr}
use Prim.Native.Char.{code}
use Rattle.std.proofs.Math.Decide.{ℕ_discrete}
use Rattle.std.proofs.Math.Bool.{false, or-false}
use Rattle.std.proofs.Math.Option.{Option, none, some, some-injective}
use mathlib.Core.List.Memᴰ
use Rattle.spec.specs.Lists.{In, any, up_to, as_count}
use Rattle.spec.specs.Answer.{Answer, gives, ◌>>=◌, ◌>>◌, refuse◌at◌when◌, found}
use Rattle.spec.specs.Classes.{alike}
use Rattle.spec.specs.Text.{Line, named, in_digits, class_of, is_a, lines_of, by_lines}
use Rattle.spec.specs.Forms.{number, number_or_dash, is_line, number_at}
use Rattle.spec.specs.Net.{Net, places, read_net}
use Rattle.spec.specs.Record.{RunRecord, Mark, bench, transition_of, slot_of, guard_slot, is_at, marked}
use Rattle.spec.specs.Process.{read_in}
use Rattle.spec.specs.Building.{build}
use Rattle.spec.specs.Checking.{with_event, with_condition, with_mark, enter_event, enter_condition, enter_mark, mark_in, enter_line, empty_record, wrong_mark_at, wrong_marks, wrong_readings_at, wrong_readings, wrongly_marked, obeys, read_record, Accepted, accepts, checked_of, check_within, check}
use Rattle.spec.specs.Arranging.{arranged_of, arrange}
use Rattle.spec.specs.Replaying.{Replayed, read_arrangement, replayed_of, replay}
use Rattle.spec.specs.Printing.{NetAndLog, is_parting, with_net_line, parted, input_of, printed, program}
use Rattle.spec.specs.WithoutReads.{HasNoR, Unchanged}
use Rattle.spec.specs.BeforeReads as Then
use Rattle.spec.specs.declared.Class.{Class}
use Rattle.spec.specs.declared.Class.TheVariants.{Foreign, LetterR}
use Rattle.spec.specs.declared.Limits.{Limits}
use Rattle.spec.specs.declared.MarkKind.{MarkKind}
use Rattle.spec.specs.declared.MarkKind.TheVariants.{Before, After}
use Rattle.lists.specs.Laws.{there, any-count, count_same, count_none, none_any, all_snoc}
use Rattle.runs.specs.Answers.{of-gives, not-refused, of-bind, of-when, of-cond}
use Rattle.runs.specs.Readers.{lines_keep}
use Rattle.runs.specs.Readless.{bind-same, lines_same, lines-asked, IsNoR, other-form, NoReads, net-same, net-kept, built-same}

-- ---- the lines of a record text

-- every mark of the record is B or A
abbrev NoReadings : RunRecord → Type 0
NoReadings r = (m : Mark) → In m r.marks → slot_of m.kind ≡ guard_slot

marked-same : (r : RunRecord) → NoReadings r → (c e : ℕ) → marked r guard_slot c e ≡ Then.marked r c e
unfolding marked Then.marked is_at Then.is_at
marked-same r w c e = any-count _ r.marks ∙ ap (ltb 0) (count_same _ _ r.marks (λ m i. rw (w m i))) ∙ sym (any-count _ r.marks)

mark-same : (lim : Limits) (k : ℕ) (x : MarkKind) (l : Line) (r : RunRecord) → slot_of x ≡ guard_slot → NoReadings r → enter_mark lim k (mark_in x l) r ≡ Then.enter_mark lim k (mark_in x l) r
unfolding enter_mark Then.enter_mark mark_in
mark-same lim k x l r s w = rw (s, marked-same r w (number_at l 0) (number_at l 1))

line_same : (lim : Limits) (n : Net) (k : ℕ) (l : Line) (r : RunRecord) → IsNoR l → NoReadings r → enter_line lim n k l r ≡ Then.enter_line lim n k l r
unfolding enter_line Then.enter_line slot_of
line_same lim n k l r q w = rw (q, mark-same lim k Before l r refl w, mark-same lim k After l r refl w)

-- what is given behind three tests
passed : {A : Type 0} (a b c k : ℕ) (s t u : Bool) (x : A) {y : A} → (refuse a at k when s >> (refuse b at k when t >> (refuse c at k when u >> gives x))) ≡ gives y → x ≡ y
passed a b c k s t u x h = of-gives (of-when c k u _ (of-when b k t _ (of-when a k s _ h).1).1).1

mark-kept : (lim : Limits) (k : ℕ) (x : MarkKind) (l : Line) (r s : RunRecord) → slot_of x ≡ guard_slot → Then.enter_mark lim k (mark_in x l) r ≡ gives s → NoReadings r → NoReadings s
unfolding Then.enter_mark with_mark mark_in
mark-kept lim k x l r s d h w = subst NoReadings (passed 32 33 34 k _ _ _ _ h) (all_snoc (λ (m : Mark). slot_of m.kind ≡ guard_slot) r.marks _ w d)

-- what the reader then accepted had no R, and it makes no R mark
line_kept : (lim : Limits) (n : Net) (k : ℕ) (l : Line) (r s : RunRecord) → Then.enter_line lim n k l r ≡ gives s → IsNoR l × (NoReadings r → NoReadings s)
unfolding Then.enter_line enter_event with_event enter_condition with_condition slot_of alike class_of named in_digits
line_kept lim n k l r s h =
    let two = number ∷ number ∷ [] in
    let three = number ∷ number_or_dash ∷ number_or_dash ∷ [] in
    of-cond (is_line "E" (number ∷ []) l) _ _ h (λ t q. (other-form "E" refl _ l t, subst NoReadings (passed 31 32 33 k _ _ _ _ q))) λ h.
    of-cond (is_line "C" three l) _ _ h (λ t q. (other-form "C" refl three l t, subst NoReadings (passed 31 32 33 k _ _ _ _ q))) λ h.
    of-cond (is_line "B" two l) _ _ h (λ t q. (other-form "B" refl two l t, mark-kept lim k Before l r s refl q)) λ h.
    of-cond (is_line "A" two l) _ _ h (λ t q. (other-form "A" refl two l t, mark-kept lim k After l r s refl q)) not-refused

-- ---- the rules, and a record text

module _ (n : Net) (no_reads : NoReads n) where
  readings-right : (r : RunRecord) → NoReadings r → (e : ℕ) → wrong_readings n r e ≡ false
  unfolding wrong_readings wrong_readings_at read_in as_count
  readings-right r w e = none_any _ (up_to (places n)) (λ p i. rw (count_none (read_in r e p) r.marks (λ m j. rw (w m j)), no_reads p (transition_of r e)))

  judged-same : (r : RunRecord) → NoReadings r → wrongly_marked n r ≡ Then.wrong_marks n r
  unfolding wrongly_marked wrong_marks Then.wrong_marks wrong_mark_at Then.wrong_mark_at
  judged-same r w = fun_ext (λ e.
      rw (readings-right r w e) (or-false (wrong_marks n r e) ∙ ap (λ f. any f (up_to (length r.conditions))) (fun_ext (λ c. rw (marked-same r w c e)))))

  obeys-same : (r : RunRecord) → NoReadings r → obeys n r ≡ Then.obeys n r
  unfolding obeys Then.obeys
  obeys-same r w = rw (judged-same r w)

  pub record_same : (lim : Limits) (text : List ℕ) → HasNoR text → read_record lim n text ≡ Then.read_record lim n text
  unfolding read_record Then.read_record empty_record
  record_same lim text q =
      rw (lines_same (enter_line lim n) (Then.enter_line lim n) NoReadings IsNoR (line_same lim n) (λ k l r s h. (line_kept lim n k l r s h).1) 1 (lines_of text) empty_record q none_yet)
      (bind-same (by_lines (Then.enter_line lim n) 1 (lines_of text) empty_record) _ _ (λ r h. rw (obeys-same r (made r h))))
    where
      none_yet : NoReadings empty_record
      none_yet m i = absurd (Memᴰ.not-nil i)

      made : (r : RunRecord) → by_lines (Then.enter_line lim n) 1 (lines_of text) empty_record ≡ gives r → NoReadings r
      made r h = (lines_keep (Then.enter_line lim n) (λ k r done. NoReadings r) (λ k l r s done h. (line_kept lim n k l r s h).1) 1 (lines_of text) empty_record r [] h none_yet).1

-- ---- net and record

accepts-same : (lim : Limits) (net text : List ℕ) → HasNoR net → HasNoR text → accepts lim net text ≡ Then.accepts lim net text
unfolding accepts Then.accepts read_net Then.read_net
accepts-same lim net text p q =
    rw (net-same (lines_of net) p) (bind-same (Then.net_of (lines_of net)) _ _ (λ n h. rw (record_same n (net-kept (lines_of net) n h).1 lim text q)))

-- what was then accepted had no R
accepts-kept : (lim : Limits) (net text : List ℕ) (a : Accepted) → Then.accepts lim net text ≡ gives a → HasNoR net × HasNoR text
unfolding Then.accepts Then.read_net Then.read_record
accepts-kept lim net text a h =
    let n = of-bind (Then.net_of (lines_of net)) _ h in
    let r = of-bind (Then.read_record lim n.0 text) _ n.2 in
    let s = of-bind (by_lines (Then.enter_line lim n.0) 1 (lines_of text) empty_record) _ r.1 in
    ((net-kept (lines_of net) n.0 n.1).0, lines-asked (Then.enter_line lim n.0) IsNoR (λ k l r s h. (line_kept lim n.0 k l r s h).0) 1 (lines_of text) empty_record s.0 s.1)

-- an operation that goes by a net and a record which are accepted
module _ {A : Type 0} (k size : ℕ) (next : Accepted → Answer A) (net text : List ℕ) (room : ℕ) where
  unfoldable now : Answer A
  now = refuse k at 0 when ltb room size >> (accepts bench net text >>= next)

  unfoldable then : Answer A
  then = refuse k at 0 when ltb room size >> (Then.accepts bench net text >>= next)

  after_same : HasNoR net → HasNoR text → now ≡ then
  unfolding now then
  after_same p q = rw (accepts-same bench net text p q)

  after-accepted : (x : A) → then ≡ gives x → now ≡ gives x
  unfolding then
  after-accepted x h =
      let a = of-bind (Then.accepts bench net text) next (of-when k 0 (ltb room size) _ h).1 in
      let z = accepts-kept bench net text a.0 a.1 in
      after_same z.0 z.1 ∙ h

-- ---- the program

-- the lines before the line `=` are lines of the input
part_in : (ls : List Line) (q : NetAndLog) → parted ls ≡ some q → (l : Line) → In l q.net → In l ls
unfolding parted
part_in [] q h l i = let z : ◌≡◌ {A = ℕ} 0 1 = cc in absurd (omega arith)
part_in (m ∷ ls) q h l i = go (is_parting m) (parted ls) h (part_in ls)
  where
    go : (b : Bool) (o : Option NetAndLog) → cond b (some (record { net = []; log = ls })) (with_net_line m o) ≡ some q → ((q : NetAndLog) → o ≡ some q → (l : Line) → In l q.net → In l ls) → In l (m ∷ ls)
    go true o h r = absurd (Memᴰ.not-nil (subst (λ (z : NetAndLog). In l z.net) (sym (some-injective _ q h)) i))
    go false none h r = unfold with_net_line in (let z : ◌≡◌ {A = ℕ} 0 1 = cc in absurd (omega arith))
    go false (some p) h r = unfold with_net_line in (
        let j : In l (m ∷ p.net) = subst (λ (z : NetAndLog). In l z.net) (sym (some-injective _ q h)) i in
        elim (Memᴰ.cases_cons j) [ inl e ↦ Memᴰ.head e | inr u ↦ there (r p refl l u) ])

of-found : {A : Type 0} (n s : ℕ) (o : Option A) {a : A} → found n s o ≡ gives a → o ≡ some a
unfolding found
of-found n s none h = not-refused h
of-found n s (some a) h = ap some (of-gives h)

prints : (input : List ℕ) → HasNoR input → program input ≡ Then.program input
unfolding program Then.program input_of
prints input w = ap printed (bind-same (input_of input) _ _ (λ q h.
    let e : parted (lines_of input) ≡ some q = of-found 10 0 (parted (lines_of input)) (of-when 10 0 _ _ h).1 in
    rw (net-same q.net (λ l i. w l (part_in (lines_of input) q e l i)))
    (bind-same (Then.net_of q.net) _ _ (λ n k. built-same n (net-kept q.net n k).1 bench q.log))))

-- ---- each operation

abbrev playing : List ℕ → Accepted → Answer Replayed
playing arrangement a = read_arrangement a.run arrangement >>= λ gs. gives (replayed_of a.net a.run gs)

bytes : (b : ℕ) → b ≢ code "R" → class_of b ≡ Then.class_of b
unfolding class_of Then.class_of named
bytes b h = rw (ne_eqb b (code "R") h)

letter : (Then.class_of (code "R") ≡ Foreign) × (class_of (code "R") ≡ LetterR)
unfolding class_of Then.class_of named in_digits
letter = (refl, refl)

classes : (k : Class) → alike Foreign k ≡ false → alike LetterR k ≡ false → (b : ℕ) → is_a k b ≡ Then.is_a k b
unfolding is_a Then.is_a
classes k f r b = elim (ℕ_discrete b (code "R")) [
  | yes e ↦ rw (e, letter.0, letter.1, f, r)
  | no e ↦ ap (λ (x : Class). alike x k) (bytes b e)
]

net-accepted : (text : List ℕ) (N : Net) → Then.read_net text ≡ gives N → read_net text ≡ gives N
unfolding read_net Then.read_net
net-accepted text N h = net-same (lines_of text) (net-kept (lines_of text) N h).0 ∙ h

builds : (net log : List ℕ) (room : ℕ) → HasNoR net → build net log room ≡ Then.build net log room
unfolding build Then.build read_net Then.read_net
builds net log room w =
    rw (net-same (lines_of net) w) (ap (λ x. refuse 20 at 0 when ltb room 48256 >> x) (bind-same (Then.net_of (lines_of net)) _ _ (λ n h. rw (built-same n (net-kept (lines_of net) n h).1 bench (lines_of log)))))

build-accepted : (net log : List ℕ) (room : ℕ) (bytes : List ℕ) → Then.build net log room ≡ gives bytes → build net log room ≡ gives bytes
unfolding Then.build Then.read_net
build-accepted net log room bytes h =
    let n = of-bind (Then.net_of (lines_of net)) _ (of-when 20 0 (ltb room 48256) _ h).1 in
    builds net log room (net-kept (lines_of net) n.0 n.1).0 ∙ h

pub unchanged : Unchanged
unfolding read_net Then.read_net check check_within Then.check Then.check_within replay Then.replay arrange Then.arrange now then
unchanged = record {
  bytes = bytes;
  letter = letter;
  classes = classes;
  reads = λ text. net-same (lines_of text);
  builds = builds;
  checks = after_same 30 16384 (λ a. gives (checked_of a.run));
  replays = λ net text arrangement. after_same 40 4128 (playing arrangement) net text;
  arranges = after_same 50 768 (λ a. gives (arranged_of a.run));
  prints = prints;
  still-reads = net-accepted;
  still-builds = build-accepted;
  still-checks = after-accepted 30 16384 (λ a. gives (checked_of a.run));
  still-replays = λ net text arrangement. after-accepted 40 4128 (playing arrangement) net text;
  still-arranges = after-accepted 50 768 (λ a. gives (arranged_of a.run));
}
