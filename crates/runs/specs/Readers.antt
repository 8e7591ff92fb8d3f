-- Readers that go by lines: to which line and state a text takes them, and what they keep.
use Rattle.std.specs.Prelude.{◌≡◌, refl, ℕ, suc, ◌+◌, ◌<◌}
use Rattle.std.proofs.Math.Path.{sym, ap, subst}
use Rattle.std.proofs.Common.{◌∙◌, arith, length-append}
use Prim.Native.Char.{Char}
use mathlib.Core.List.Memᴰ
use mathlib.Core.List.{List, [], ◌∷◌, ◌++◌, map, append-nil, append_assoc}
use Rattle.std.proofs.Math.ListN.{length}
use Rattle.spec.specs.Lists.{In, flat}
use Rattle.spec.specs.Answer.{Answer, gives, ◌>>=◌}
use Rattle.spec.specs.Text.{Line, lines_of, by_lines, line_with}
use Rattle.spec.specs.Endings.{plain_ends}
use Rattle.spec.specs.declared.Field.{Field}
use Rattle.lists.specs.Laws.{here}
use Rattle.lists.specs.LineEnds.{no-first}
use Rattle.runs.specs.Bytes.{Letter}
use Rattle.runs.specs.Fields.{body, ended}
use Rattle.runs.specs.Answers.{of-gives, of-bind}
use Rattle.runs.specs.Texts.{line-back, line_bytes, text-is}

-- ---- what is written is read

-- from line k and state s the text takes the reader f to line j and state t
pub record Takes {S : Type 0} (f : ℕ → Line → S → Answer S) (k : ℕ) (s : S) (text : List ℕ) (j : ℕ) (t : S) : Type 0 where
  pub reads : (rest : List ℕ) → by_lines f k (lines_of (text ++ rest)) s ≡ by_lines f j (lines_of rest) t

module _ {S : Type 0} {f : ℕ → Line → S → Answer S} where
  pub takes-line : {c : Char} → Letter c → (fs : List Field)
      → {k : ℕ} {s t : S} → f k (ended (body c fs)) s ≡ gives t → Takes f k s (line_with c fs) (suc k) t
  unfolding by_lines ◌>>=◌
  takes-line L fs h = record { reads = λ rest. rw (line-back L fs rest, h) }

  pub takes-append : {k j i : ℕ} {s t u : S} {x y : List ℕ} → Takes f k s x j t → Takes f j t y i u → Takes f k s (x ++ y) i u
  takes-append {k} {s} {x} {y} p q = record { reads = λ rest. ap (λ (z : List ℕ). by_lines f k (lines_of z) s) (append_assoc x y rest) ∙ p.reads (y ++ rest) ∙ q.reads rest }

  pub takes-end : {k j : ℕ} {s t : S} {text : List ℕ} → Takes f k s text j t → by_lines f k (lines_of text) s ≡ gives t
  unfolding by_lines
  takes-end {k} {j} {s} {t} {text} p = ap (λ (z : List ℕ). by_lines f k (lines_of z) s) (sym (append-nil text)) ∙ p.reads [] ∙ ap (λ (ls : List Line). by_lines f j ls t) no-first

  -- a text of a line for each element of a list: `state xs` is the state once the lines of xs are read
  module _ {A : Type 0} (print : A → List ℕ) (state : List A → S) (k : ℕ) (all : List A)
      (step : (xs : List A) (y : A) (ys : List A) → all ≡ xs ++ y ∷ ys → In y all → length xs < length all
      → Takes f (k + length xs) (state xs) (print y) (suc (k + length xs)) (state (xs ++ y ∷ []))) where
    takes-next : (xs : List A) (y : A) (ys : List A) → all ≡ xs ++ y ∷ ys → Takes f (k + length xs) (state xs) (print y) (k + length (xs ++ y ∷ [])) (state (xs ++ y ∷ []))
    takes-next xs y ys e =
        subst (λ (j : ℕ). Takes f (k + length xs) (state xs) (print y) j (state (xs ++ y ∷ []))) (omega (arith, length-append xs (y ∷ [])))
        (step xs y ys e (rw e (Memᴰ.append_right xs here)) (omega (arith, ap length e, length-append xs (y ∷ ys))))

    takes-from : (xs ys : List A) → all ≡ xs ++ ys → Takes f (k + length xs) (state xs) (flat (map print ys)) (k + length all) (state all)
    unfolding flat
    takes-from xs [] e = record { reads = λ rest. ap (λ (z : List A). by_lines f (k + length z) (lines_of rest) (state z)) (sym (e ∙ append-nil xs)) }
    takes-from xs (y ∷ ys) e = takes-append (takes-next xs y ys e) (takes-from (xs ++ y ∷ []) ys (e ∙ sym (append_assoc xs (y ∷ []) ys)))

    pub takes_all : Takes f k (state []) (flat (map print all)) (k + length all) (state all)
    takes_all = subst (λ (j : ℕ). Takes f j (state []) (flat (map print all)) (k + length all) (state all)) (omega arith) (takes-from [] all refl)

-- ---- what is read was kept line by line

module _ {S : Type 0} (f : ℕ → Line → S → Answer S) where
  -- what every line keeps, the lines of a text keep: P speaks of the next line's number, the state and the bytes read
  module _ (P : ℕ → S → List ℕ → Type 0) (step : (k : ℕ) (l : Line) (s t : S) (done : List ℕ) → f k l s ≡ gives t → P k s done → P (suc k) t (done ++ line_bytes l)) where
    pub lines_keep : (k : ℕ) (ls : List Line) (s t : S) (done : List ℕ) → by_lines f k ls s ≡ gives t → P k s done → (j : ℕ) × P j t (done ++ flat (map line_bytes ls))
    unfolding by_lines flat
    lines_keep k [] s t done h p = (k, subst (λ z. P k z (done ++ [])) (of-gives h) (subst (P k s) (sym (append-nil done)) p))
    lines_keep k (l ∷ ls) s t done h p =
        let r = of-bind (f k l s) (λ s'. by_lines f (suc k) ls s') h in
        let z : (j : ℕ) × P j t (done ++ line_bytes l ++ flat (map line_bytes ls)) = lines_keep (suc k) ls r.0 t (done ++ line_bytes l) r.2 (step k l s r.0 done r.1 p) in
        (z.0, subst (P z.0 t) (append_assoc done (line_bytes l) (flat (map line_bytes ls))) z.1)

    pub text-keeps : (k : ℕ) (text : List ℕ) (s t : S) → by_lines f k (lines_of text) s ≡ gives t → P k s [] → (j : ℕ) × P j t (plain_ends text)
    text-keeps k text s t h p = let z = lines_keep k (lines_of text) s t [] h p in (z.0, subst (P z.0 t) (text-is text) z.1)
