-- A net text that is read is the text of declarations, each allowed below those above it, and the net is the one that they
-- declare.
use Rattle.std.specs.Prelude.{◌≡◌, refl, ◌⊎◌, ◌↔◌, ℕ, ◌+◌, ◌≤◌, ◌<◌, true, length, ltb, leb}
use Rattle.std.proofs.Common.{sym, ap, ap₂, ◌∙◌, subst, inl, inr, arith, length-append}
use Rattle.std.proofs.Math.Bool.{not}
use Rattle.std.proofs.Math.Option.{none}
use mathlib.Core.List.Memᴰ
use mathlib.Core.List.{List, [], ◌∷◌, ◌++◌, map, head-eq_of_cons-eq, tail-eq_of_cons-eq}
use borrow.Author.Tests.{ltb-true, ltb-false, leb-true, leb-false}
use Rattle.spec.specs.Lists.{any, up_to, sum, lowest, flat}
use Rattle.spec.specs.Answer.{gives}
use Rattle.spec.specs.Text.{Line, lines_of, by_lines}
use Rattle.spec.specs.Forms.{number, is_line, event_at, number_at}
use Rattle.spec.specs.Net.{Net, places, joined, weight_of, takes, makes, with_place, with_transition, with_arc, add_place, add_transition, add_arc, add_line, empty_net, lacking, whole, net_of, read_net}
use Rattle.spec.specs.NetText.{Declaration, new_place, new_transition, new_arc, weighted_input, weighted_output, declaration_line, net_bytes, declare, declare_all, declared, MayJoin, Allowed, Weighed, Complete}
use Rattle.spec.specs.Exactness.{IsNet}
use Rattle.spec.specs.Endings.{plain_ends}
use Rattle.spec.specs.declared.ArcKind.{ArcKind}
use Rattle.spec.specs.declared.ArcKind.TheVariants.{Input, Output, Inhibitor, Read}
use Rattle.lists.specs.Laws.{and-true, or-false, false-or, not-is-false, any-in, any_found, in-up_to, up_to-in, lowest-none, none-lowest, flat-map-snoc}
use Rattle.lists.specs.ArcWeights.{weigh-more, weight-joined}
use Rattle.runs.specs.Bytes.{P-letter, T-letter, I-letter, O-letter, H-letter, R-letter}
use Rattle.runs.specs.Answers.{of-gives, not-refused, of-bind, of-when, of-lowest, of-cond}
use Rattle.runs.specs.Texts.{line_bytes, text-is, form-line}
use Rattle.runs.specs.Readers.{lines_keep}

-- ---- one declaration more

pub declare-snoc : (n : Net) (ds : List Declaration) (d : Declaration) → declare_all n (ds ++ d ∷ []) ≡ declare (declare_all n ds) d
unfolding declare_all
declare-snoc n [] d = refl
declare-snoc n (e ∷ ds) d = declare-snoc (declare n e) ds d

-- each declaration is allowed below the net and those above it
abbrev pub Sound : Net → List Declaration → Type 0
Sound n ds = (above below : List Declaration) (d : Declaration) → ds ≡ above ++ d ∷ below → Allowed (declare_all n above) d

-- what stands in a list with x at its end is that x, or stands in the list
snoc-cases : {A : Type 0} (xs : List A) (x : A) (above : List A) (y : A) (below : List A) → xs ++ x ∷ [] ≡ above ++ y ∷ below
    → ((above ≡ xs) × (y ≡ x)) ⊎ ((rest : List A) × (xs ≡ above ++ y ∷ rest))
snoc-cases [] x [] y below h = inl (refl, sym (head-eq_of_cons-eq h))
snoc-cases [] x (z ∷ above) y below h = absurd (omega (arith, ap length h, length-append above (y ∷ below)))
snoc-cases (z ∷ xs) x [] y below h = inr (xs, ap (λ w. w ∷ xs) (head-eq_of_cons-eq h))
snoc-cases (z ∷ xs) x (w ∷ above) y below h = elim (snoc-cases xs x above y below (tail-eq_of_cons-eq h)) [
  | inl e ↦ inl (ap₂ (λ u us. u ∷ us) (sym (head-eq_of_cons-eq h)) e.0, e.1)
  | inr e ↦ inr (e.0, ap₂ (λ u us. u ∷ us) (head-eq_of_cons-eq h) e.1)
]

sound-snoc : (n : Net) (ds : List Declaration) (d : Declaration) → Sound n ds → Allowed (declare_all n ds) d → Sound n (ds ++ d ∷ [])
sound-snoc n ds d S a above below e h = elim (snoc-cases ds d above e below h) [
  | inl q ↦ rw (q.0, q.1) a
  | inr q ↦ S above q.0 e q.1
]

-- what stands below the first declaration is sound below it
pub sound-tail : (n : Net) (d : Declaration) (ds : List Declaration) → Sound n (d ∷ ds) → Sound (declare n d) ds
unfolding declare_all
sound-tail n d ds S above below e h = S (d ∷ above) below e (ap (λ (es : List Declaration). d ∷ es) h)

-- what each allowed declaration keeps, sound declarations keep
pub sound-keeps : (P : Net → Type 0) → ((n : Net) (d : Declaration) → P n → Allowed n d → P (declare n d)) → (n : Net) (ds : List Declaration) → P n → Sound n ds → P (declare_all n ds)
unfolding declare_all
sound-keeps P step n [] p S = p
sound-keeps P step n (d ∷ ds) p S = sound-keeps P step (declare n d) ds (step n d p (S [] ds d refl)) (sound-tail n d ds S)

-- ---- a line

-- the bytes are those of one declaration, which is allowed below net n and makes it net m
record Declares (bytes : List ℕ) (n m : Net) : Type 0 where
  what : Declaration
  written : bytes ≡ declaration_line what
  allowed : Allowed n what
  next : declare n what ≡ m

declares : {bytes : List ℕ} {n m : Net} (d : Declaration) → bytes ≡ declaration_line d → Allowed n d × (declare n d ≡ m) → Declares bytes n m
declares d e z = record { what = d; written = e; allowed = z.0; next = z.1 }

module _ (k : ℕ) (n m : Net) where
  place-added : (v : ℕ) → add_place k v n ≡ gives m → Allowed n (new_place v) × (declare n (new_place v) ≡ m)
  unfolding add_place declare
  place-added v h =
      let z = of-when 12 k _ _ h in
      let y = or-false (leb 32 (places n)) (ltb 512 (sum n.tokens + v)) z.0 in
      ((leb-false 32 (places n) y.0, ltb-false 512 (sum n.tokens + v) y.1), of-gives z.1)

  transition-added : add_transition k n ≡ gives m → Allowed n new_transition × (declare n new_transition ≡ m)
  unfolding add_transition declare
  transition-added h = let z = of-when 12 k _ _ h in (leb-false 32 n.transitions z.0, of-gives z.1)

  arc-added : (x : ArcKind) (p t w : ℕ) → add_arc x k p t w n ≡ gives m → (MayJoin n x p t × (1 ≤ w) × (w ≤ 16)) × (with_arc x p t w n ≡ m)
  unfolding add_arc
  arc-added x p t w h =
      let z = of-when 13 k _ _ h in
      let u = of-when 54 k _ _ z.1 in
      let y = of-when 14 k _ _ u.1 in
      let v = of-when 51 k _ _ y.1 in
      let b = and-true (ltb p (places n)) (ltb t n.transitions) (not-is-false _ z.0) in
      let c = and-true (leb 1 w) (leb w 16) (not-is-false _ u.0) in
      (((ltb-true p (places n) b.0, ltb-true t n.transitions b.1, y.0, v.0), leb-true 1 w c.0, leb-true w 16 c.1), of-gives v.1)

  -- without a weight
  plain-added : (x : ArcKind) (p t : ℕ) → add_arc x k p t 1 n ≡ gives m → Allowed n (new_arc x p t) × (declare n (new_arc x p t) ≡ m)
  unfolding declare
  plain-added x p t h = let z = arc-added x p t 1 h in (z.0.0, z.1)

  line-added : (l : Line) → add_line k l n ≡ gives m → Declares (line_bytes l) n m
  unfolding add_line declaration_line declare number_at event_at
  line-added l h =
      let two = number ∷ number ∷ [] in
      let three = number ∷ number ∷ number ∷ [] in
      let u = number_at l 0 in
      let v = number_at l 1 in
      let w = number_at l 2 in
      of-cond (is_line "P" (number ∷ []) l) _ _ h (λ t q. declares (new_place u) (form-line P-letter (number ∷ []) l t) (place-added u q)) λ h.
      of-cond (is_line "T" [] l) _ _ h (λ t q. declares new_transition (form-line T-letter [] l t) (transition-added q)) λ h.
      of-cond (is_line "I" two l) _ _ h (λ t q. declares (new_arc Input u v) (form-line I-letter two l t) (plain-added Input u v q)) λ h.
      of-cond (is_line "I" three l) _ _ h (λ t q. declares (weighted_input u v w) (form-line I-letter three l t) (arc-added Input u v w q)) λ h.
      of-cond (is_line "O" two l) _ _ h (λ t q. declares (new_arc Output v u) (form-line O-letter two l t) (plain-added Output v u q)) λ h.
      of-cond (is_line "O" three l) _ _ h (λ t q. declares (weighted_output v u w) (form-line O-letter three l t) (arc-added Output v u w q)) λ h.
      of-cond (is_line "H" two l) _ _ h (λ t q. declares (new_arc Inhibitor u v) (form-line H-letter two l t) (plain-added Inhibitor u v q)) λ h.
      of-cond (is_line "R" two l) _ _ h (λ t q. declares (new_arc Read u v) (form-line R-letter two l t) (plain-added Read u v q)) not-refused

-- ---- a text

-- the bytes are those of sound declarations, and they declare the net
record Declared (n : Net) (done : List ℕ) : Type 0 where
  lines : List Declaration
  written : done ≡ net_bytes lines
  sound : Sound empty_net lines
  named : n ≡ declared lines

nothing : Declared empty_net []
unfolding net_bytes flat declare_all
nothing = record { lines = []; written = refl; sound = λ above below d h. absurd (omega (arith, ap length h, length-append above (d ∷ below))); named = refl }

line-declared : (k : ℕ) (l : Line) (n m : Net) (done : List ℕ) → add_line k l n ≡ gives m → Declared n done → Declared m (done ++ line_bytes l)
unfolding net_bytes
line-declared k l n m done h D =
    let z = line-added k n m l h in record {
      lines = D.lines ++ z.what ∷ [];
      written = ap₂ ◌++◌ D.written z.written ∙ sym (flat-map-snoc declaration_line D.lines z.what);
      sound = sound-snoc empty_net D.lines z.what D.sound (subst (λ (n : Net). Allowed n z.what) D.named z.allowed);
      named = sym z.next ∙ ap (λ (n : Net). declare n z.what) D.named ∙ sym (declare-snoc empty_net D.lines z.what);
    }

-- ---- weights

declare-weighed : (n : Net) (d : Declaration) → Weighed n → Allowed n d → Weighed (declare n d)
unfolding declare with_place with_transition
declare-weighed n (new_place v) W a = W
declare-weighed n new_transition W a = W
declare-weighed n (new_arc x p t) W a = weigh-more n x p t 1 W (omega arith) (omega arith)
declare-weighed n (weighted_input p t w) W a = weigh-more n Input p t w W a.1 a.2
declare-weighed n (weighted_output p t w) W a = weigh-more n Output p t w W a.1 a.2

-- every arc of a net of sound declarations weighs from 1 to 16
pub sound-weighed : (ds : List Declaration) → Sound empty_net ds → Weighed (declared ds)
unfolding empty_net
sound-weighed ds S = sound-keeps Weighed declare-weighed empty_net ds (λ a i. absurd (Memᴰ.not-nil i)) S

-- ---- the rule that is judged after all lines

module _ (n : Net) (W : Weighed n) where
  -- a transition has an arc of a kind with some place
  has-arc : (x : ArcKind) (t : ℕ) → (any (λ p. ltb 0 (weight_of n x p t)) (up_to (places n)) ≡ true) ↔ ((p : ℕ) × (p < places n) × (joined n x p t ≡ true))
  has-arc x t = (
    λ h. let z = any_found _ (up_to (places n)) h in (z.0, in-up_to (places n) z.1, sym (weight-joined n x z.0 t W (omega arith)) ∙ z.2),
    λ z. any-in _ z.0 (up_to (places n)) (up_to-in (places n) z.1) (weight-joined n x z.0 t W (omega arith) ∙ z.2),
  )

  pub complete-is : (lowest (lacking n) n.transitions ≡ none) ↔ Complete n
  unfolding lacking takes makes
  complete-is = (
    λ h.
        let z : (t : ℕ) → t < n.transitions → _ = λ t l. or-false _ _ (lowest-none (lacking n) n.transitions h t l) in
        record { input = λ t l. (has-arc Input t).0 (not-is-false _ (z t l).0); output = λ t l. (has-arc Output t).0 (not-is-false _ (z t l).1) },
    λ C. none-lowest (lacking n) n.transitions (λ t l. false-or (ap not ((has-arc Input t).1 (C.input t l))) (ap not ((has-arc Output t).1 (C.output t l)))),
  )

-- the lines of a text, or of a part of one
pub net-lines : (ls : List Line) (N : Net) → net_of ls ≡ gives N → IsNet (flat (map line_bytes ls)) N
unfolding net_of whole
net-lines ls N h =
    let z = of-bind (by_lines add_line 1 ls empty_net) _ h in
    let y = of-lowest 15 (lowest (lacking z.0) z.0.transitions) (gives z.0) z.2 in
    let D = (lines_keep add_line (λ k n done. Declared n done) line-declared 1 ls empty_net z.0 [] z.1 nothing).1 in
    let W = subst Weighed (sym D.named) (sound-weighed D.lines D.sound) in
    subst (IsNet (flat (map line_bytes ls))) (of-gives y.1) (record { lines = D.lines; written = D.written; sound = D.sound; complete = (complete-is z.0 W).0 y.0; named = D.named })

pub net-text : (text : List ℕ) (N : Net) → read_net text ≡ gives N → IsNet (plain_ends text) N
unfolding read_net
net-text text N h = subst (λ bytes. IsNet bytes N) (text-is text) (net-lines (lines_of text) N h)
