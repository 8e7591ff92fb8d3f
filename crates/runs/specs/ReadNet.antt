-- The text of declarations, each allowed below those above it, is read, and gives the net that they declare.
use Rattle.std.specs.Prelude.{◌≡◌, ℕ, suc, ◌+◌, ◌≤◌, ◌<◌}
use Rattle.std.proofs.Common.{ap, ◌∙◌, arith}
use mathlib.Core.List.{List, [], ◌∷◌, ◌++◌, append_assoc}
use borrow.Author.Tests.{lt-ltb, le-ltb, lt-leb, le-leb}
use Rattle.spec.specs.Lists.{sum}
use Rattle.spec.specs.Answer.{gives, ◌>>=◌, ◌>>◌, refuse◌at◌when◌, refuse◌at?◌}
use Rattle.spec.specs.Classes.{alike}
use Rattle.spec.specs.Text.{lines_of, by_lines, named, in_digits, class_of, is_a, is_only}
use Rattle.spec.specs.Net.{Net, places, with_arc, add_place, add_transition, add_arc, add_line, empty_net, whole, net_of, read_net}
use Rattle.spec.specs.NetText.{Declaration, new_place, new_transition, new_arc, weighted_input, weighted_output, declaration_line, net_bytes, declare, declare_all, declared, MayJoin, Allowed}
use Rattle.spec.specs.Exactness.{IsNet}
use Rattle.spec.specs.Endings.{plain_ends}
use Rattle.spec.specs.declared.ArcKind.{ArcKind}
use Rattle.spec.specs.declared.ArcKind.TheVariants.{Input, Output, Inhibitor, Read}
use Rattle.spec.specs.declared.Field.TheVariants.{Number}
use Rattle.runs.specs.Bytes.{P-letter, T-letter, I-letter, O-letter, H-letter, R-letter}
use Rattle.runs.specs.Fields.{AllWritable}
use Rattle.runs.specs.LineForms.{form-back, number-at}
use Rattle.runs.specs.Readers.{Takes, takes-line, takes-end, takes_all}
use Rattle.runs.specs.NetText.{declare-snoc, Sound, sound-weighed, complete-is}
use Rattle.runs.specs.NetLimits.{NetLimits, sound-limits}
use Rattle.runs.specs.Written.{net-lines-are}

module _ (k : ℕ) (n : Net) (L : NetLimits n) where
  -- the numbers that an arc names can be written
  written : (p t : ℕ) → p < places n → t < n.transitions → AllWritable (Number p ∷ Number t ∷ [])
  written p t l h = (omega (arith, L.places), (omega (arith, L.transitions), tt))

  -- and its weight
  weighted : (p t w : ℕ) → p < places n → t < n.transitions → w ≤ 16 → AllWritable (Number p ∷ Number t ∷ Number w ∷ [])
  weighted p t w l h m = (omega (arith, L.places), (omega (arith, L.transitions), (omega arith, tt)))

  arc-added : (x : ArcKind) (p t w : ℕ) → MayJoin n x p t → 1 ≤ w → w ≤ 16 → add_arc x k p t w n ≡ gives (with_arc x p t w n)
  unfolding add_arc ◌>>◌ refuse◌at◌when◌
  arc-added x p t w a l h = rw (lt-ltb p (places n) a.0, lt-ltb t n.transitions a.1, le-leb 1 w l, le-leb w 16 h, a.2, a.3)

  plain-added : (x : ArcKind) (p t : ℕ) → MayJoin n x p t → add_arc x k p t 1 n ≡ gives (with_arc x p t 1 n)
  plain-added x p t a = arc-added x p t 1 a (omega arith) (omega arith)

  line_taken : (d : Declaration) → Allowed n d → Takes add_line k n (declaration_line d) (suc k) (declare n d)
  unfolding declaration_line declare add_line is_only is_a alike class_of named in_digits add_place add_transition ◌>>◌ refuse◌at◌when◌
  line_taken (new_place v) a =
      let fs = Number v ∷ [] in
      let w : AllWritable fs = (omega (arith, a.1), tt) in
      takes-line P-letter fs (simp (form-back P-letter fs w, number-at P-letter fs w) (rw (lt-leb 32 (places n) a.0, le-ltb 512 (sum n.tokens + v) a.1)))
  line_taken new_transition a = takes-line T-letter [] (simp (form-back T-letter [] tt) (rw (lt-leb 32 n.transitions a)))
  line_taken (new_arc Input p t) a =
      let fs = Number p ∷ Number t ∷ [] in
      let w = written p t a.0 a.1 in
      takes-line I-letter fs (simp (form-back I-letter fs w, number-at I-letter fs w) (plain-added Input p t a))
  line_taken (new_arc Output p t) a =
      let fs = Number t ∷ Number p ∷ [] in
      let e = written p t a.0 a.1 in
      let w : AllWritable fs = (e.1.0, (e.0, tt)) in
      takes-line O-letter fs (simp (form-back O-letter fs w, number-at O-letter fs w) (plain-added Output p t a))
  line_taken (new_arc Inhibitor p t) a =
      let fs = Number p ∷ Number t ∷ [] in
      let w = written p t a.0 a.1 in
      takes-line H-letter fs (simp (form-back H-letter fs w, number-at H-letter fs w) (plain-added Inhibitor p t a))
  line_taken (new_arc Read p t) a =
      let fs = Number p ∷ Number t ∷ [] in
      let w = written p t a.0 a.1 in
      takes-line R-letter fs (simp (form-back R-letter fs w, number-at R-letter fs w) (plain-added Read p t a))
  line_taken (weighted_input p t v) a =
      let fs = Number p ∷ Number t ∷ Number v ∷ [] in
      let w = weighted p t v a.0.0 a.0.1 a.2 in
      takes-line I-letter fs (simp (form-back I-letter fs w, number-at I-letter fs w) (arc-added Input p t v a.0 a.1 a.2))
  line_taken (weighted_output p t v) a =
      let fs = Number t ∷ Number p ∷ Number v ∷ [] in
      let e = weighted p t v a.0.0 a.0.1 a.2 in
      let w : AllWritable fs = (e.1.0, (e.0, e.1.1)) in
      takes-line O-letter fs (simp (form-back O-letter fs w, number-at O-letter fs w) (arc-added Output p t v a.0 a.1 a.2))

-- what stands above a line is sound too
above-sound : (ds above below : List Declaration) (d : Declaration) → Sound empty_net ds → ds ≡ above ++ d ∷ below → Sound empty_net above
above-sound ds above below d S e xs ys x h = S xs (ys ++ d ∷ below) x (e ∙ ap (λ (z : List Declaration). z ++ d ∷ below) h ∙ append_assoc xs (x ∷ ys) (d ∷ below))

lines-read : (ds : List Declaration) → Sound empty_net ds → by_lines add_line 1 (lines_of (net_bytes ds)) empty_net ≡ gives (declared ds)
unfolding net_bytes declare_all
lines-read ds S = takes-end (takes_all declaration_line declared 1 ds (λ above d below e m l.
    rw (declare-snoc empty_net above d) (line_taken _ (declared above) (sound-limits above (above-sound ds above below d S e)) d (S above below d e))))

pub net-read : (text : List ℕ) (N : Net) → IsNet (plain_ends text) N → read_net text ≡ gives N
unfolding read_net net_of whole ◌>>=◌ ◌>>◌ refuse◌at?◌
net-read text N I = rw (net-lines-are text I.lines I.written, lines-read I.lines I.sound, ← I.named, (complete-is N (rw I.named (sound-weighed I.lines I.sound))).1 I.complete)
