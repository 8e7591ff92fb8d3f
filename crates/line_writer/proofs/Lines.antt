-- The lines of conditions and marks, as they are written.
use Prim.Native.Nat.{ℕ, ◌+◌, ◌≤◌}
use mathlib.Core.Path.{◌≡◌, refl, ap, ◌∙◌}
use mathlib.Core.List.{List, [], ◌∷◌, ◌++◌}
use native.Mathlib.Omega.{arith}
use lib.ListN.{length, length-append}
use borrow.Author.Tests.{eq-eqb, ne_eqb}
use Rattle.spec.specs.Text.{line_with, field_bytes, fields_bytes}
use Rattle.spec.specs.Record.{event_field, event_line, condition_line, mark_line_of}
use Rattle.spec.specs.declared.Field.TheVariants.{Number}
use Rattle.spec.specs.declared.MarkKind.{MarkKind}
use Rattle.spec.specs.declared.MarkKind.TheVariants.{Before, After, Read}
use Rattle.conditions.specs.Conditions.{decoded}
use Rattle.writing.specs.Written.{Wrote}
use Rattle.writing.proofs.Laws.{fields-front}
use Rattle.line_writer.specs.Lines.{coded_line, letter_of}

pub wrote_as : {old new xs ys : List ℕ} {at r : ℕ} → Wrote old at xs r new → xs ≡ ys → Wrote old at ys r new
wrote_as a e = rw (← e) a

pub room_as : {n : ℕ} (at : ℕ) {xs ys : List ℕ} → xs ≡ ys → at + length xs ≤ n → at + length ys ≤ n
room_as at e h = omega (arith, ap length e)

-- ---- lines as the pieces that are written

pub event-pieces : (t : ℕ) → event_line t ≡ (69 ∷ []) ++ (fields_bytes (Number t ∷ []) ++ 10 ∷ [])
unfolding event_line line_with
event-pieces t = refl

pub coded-pieces : (p g f : ℕ)
    → coded_line p g f ≡ (67 ∷ []) ++ (fields_bytes (Number p ∷ []) ++ (fields_bytes (event_field (decoded g) ∷ []) ++ (fields_bytes (event_field (decoded f) ∷ []) ++ 10 ∷ [])))
unfolding coded_line condition_line line_with
coded-pieces p g f = ap (λ (l : List ℕ). 67 ∷ l) (fields-front _ _ _ ∙ ap (λ (l : List ℕ). fields_bytes (Number p ∷ []) ++ l) (fields-front _ _ _))

pub mark-pieces : (x : MarkKind) (c e : ℕ)
    → mark_line_of x c e ≡ (letter_of x ∷ []) ++ (fields_bytes (Number c ∷ []) ++ (fields_bytes (Number e ∷ []) ++ 10 ∷ []))
unfolding mark_line_of line_with
mark-pieces Before c e = ap (λ (l : List ℕ). 66 ∷ l) (fields-front _ _ _)
mark-pieces After c e = ap (λ (l : List ℕ). 65 ∷ l) (fields-front _ _ _)
mark-pieces Read c e = ap (λ (l : List ℕ). 82 ∷ l) (fields-front _ _ _)

-- how long they are
pub event-size : (t : ℕ) → length (event_line t) ≡ length (fields_bytes (Number t ∷ [])) + 2
event-size t = omega (arith, ap length (event-pieces t), length-append (fields_bytes (Number t ∷ [])) (10 ∷ []))

pub coded-size : (p g f : ℕ) → length (coded_line p g f)
    ≡ length (fields_bytes (Number p ∷ [])) + length (fields_bytes (event_field (decoded g) ∷ [])) + length (fields_bytes (event_field (decoded f) ∷ [])) + 2
coded-size p g f =
    let P = fields_bytes (Number p ∷ []) in
    let G = fields_bytes (event_field (decoded g) ∷ []) in
    let F = fields_bytes (event_field (decoded f) ∷ []) in
    omega (arith, ap length (coded-pieces p g f), length-append P (G ++ (F ++ 10 ∷ [])), length-append G (F ++ 10 ∷ []), length-append F (10 ∷ []))

pub mark-size : (x : MarkKind) (c e : ℕ) → length (mark_line_of x c e) ≡ length (fields_bytes (Number c ∷ [])) + length (fields_bytes (Number e ∷ [])) + 2
mark-size x c e =
    let C = fields_bytes (Number c ∷ []) in
    let E = fields_bytes (Number e ∷ []) in
    omega (arith, ap length (mark-pieces x c e), length-append C (E ++ 10 ∷ []), length-append E (10 ∷ []))

-- a producer or consumer, by its byte
pub end_none : (v : ℕ) → v ≡ 128 → fields_bytes (event_field (decoded v) ∷ []) ≡ (44 ∷ []) ++ 45 ∷ []
unfolding event_field decoded fields_bytes field_bytes
end_none v e = rw (eq-eqb v 128 e)

pub end-event : (v : ℕ) → (v ≡ 128 → ⊥) → event_field (decoded v) ≡ Number v
unfolding event_field decoded
end-event v d = rw (ne_eqb v 128 d)
