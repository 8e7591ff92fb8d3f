-- The lines of a net text, one after the other.
use Prim.Native.Nat.{ℕ, ◌+◌, ◌*◌, ◌≤◌}
use mathlib.Core.Path.{◌≡◌, refl, sym, ap, ◌∙◌, subst}
use mathlib.Core.Option.{none, some}
use mathlib.Core.List.Memᴰ
use mathlib.Core.List.{List}
use native.Mathlib.Omega.{arith}
use lib.ListN.{length, replicate, length-replicate}
use Rattle.spec.specs.Answer.{Answer, gives, refuses, ◌>>=◌, returned}
use Rattle.spec.specs.Lists.{any, first, sum, as_count, lowest}
use Rattle.lists.specs.Arrays.{blank}
use Rattle.columns.specs.Columns.{column, column-length, column-at}
use Rattle.spec.specs.Text.{lines_of, by_lines}
use Rattle.spec.specs.Net.{Net as NetD, weight_of, joined, takes, makes, inhibits, reads, add_line, empty_net, whole, net_of, read_net}
use Rattle.lines.specs.Agree.{Agrees, giving, refusing}
use Rattle.lines.proofs.Answers.{refuses≢gives, same-given}
use Rattle.lines.proofs.ByLines.{Running, turn, stop, done}
use Rattle.spec.specs.Values.{net_values}
use Rattle.net.specs.NetArrays.{Arrays, arrays, arrays_at, Cells, Holds, net_with, net_at, HoldsAt, no_size, Draft, DraftOf, Few, answer_of, answer_so_far}
use Rattle.net_reader.specs.Reads.{Blank, Takes, ReadsLines, lacks_of, Finishes, ReadsInto, Reads, no_net, ReadsNet}
use Rattle.net.specs.declared.Net.{Net}
use Rattle.net.specs.declared.Size.{Size}
use Rattle.net.specs.declared.NetSize.{NetSize}
use Rattle.net.specs.declared.NetRefusal.{NetRefusal}
use Rattle.net_reader.specs.declared.Took.{Took}
use Rattle.std.specs.Prelude.{Result, Ok, Err}
use Rattle.net.specs.declared.NetRefusal.TheVariants.{Lacking}
use Rattle.net_reader.proofs.LastRule.{whole-lacks, whole-gives, counts}
use Rattle.net.proofs.Answers.{few}

-- ---- the lines so far

module _ {net : List ℕ} {k at : ℕ} {s : Size} {a : Arrays} (g : Running add_line net empty_net k at (Draft s a)) where
  pub added-on : {t : Took} {a' : Arrays} → Takes net at k s a (Ok t) a' → Running add_line net empty_net (k + 1) t.next (Draft t.size a')
  added-on t = rw t.on (turn g t.found (t.steps g.state g.holds) refl)

  pub added-no : {x : NetRefusal} {a' : Arrays} → Takes net at k s a (Err x) a' → ReadsLines net (Err x) a'
  added-no t = stop g t.found (t.steps g.state g.holds) refl

  pub added-all : length net ≤ at → ReadsLines net (Ok s) a
  added-all u = done g u (counts (net_with s a) g.state g.holds.holds) g.holds

-- ---- the last rule

-- the counts are those of the net
pub counted-at : (p t : ℕ) (tokens arcs : List ℕ) {m : NetD} → Holds (net_at p t tokens arcs) m → HoldsAt tokens arcs m
counted-at p t tokens arcs {m} h = subst (λ (t : ℕ). Holds (net_at (length m.tokens) t tokens arcs) m) h.counts.transitions (subst (λ (p : ℕ). Holds (net_at p t tokens arcs) m) h.counts.places h)

module _ (s : Size) (arcs : List ℕ) where
  pub lacking-found : (u : ℕ) → lowest (lacks_of (column 0 1024 arcs) (column 1024 1024 arcs) s.places) s.transitions ≡ some u → Finishes s arcs (Err (Lacking u))
  lacking-found u f ts m d = refusing 15 u (whole-lacks (net_with s (arrays_at ts arcs)) m d.holds u f) refl

  pub lacking-none : lowest (lacks_of (column 0 1024 arcs) (column 1024 1024 arcs) s.places) s.transitions ≡ none → Finishes s arcs (Ok (record { places = s.places; transitions = s.transitions }))
  lacking-none f ts m d = giving m (whole-gives (net_with s (arrays_at ts arcs)) m d.holds f) (counts (net_with s (arrays_at ts arcs)) m d.holds) (counted-at _ _ ts arcs d.holds)

module _ {X : Answer NetD} where
  pub few-read : (s : Size) (a : Arrays) → Agrees net_values (answer_so_far (Ok s)) (DraftOf (Ok s) a) X → Few s
  few-read s a (giving m q e d) = few d
  few-read s a (refusing n p q e) = absurd (refuses≢gives (sym e))

  -- a refused line, and the last rule behind lines that are accepted
  pub kept : (x : NetRefusal) (tokens arcs : List ℕ) → Agrees net_values (answer_so_far (Err x)) (λ m. ⊥) X → Agrees net_values (answer_of (Err x)) (HoldsAt tokens arcs) (X >>= whole)
  unfolding ◌>>=◌
  kept x ts arcs (giving m q e d) = absurd d
  kept x ts arcs (refusing n p q e) = refusing n p (rw q) e

  pub finished : (s : Size) (v : Result NetSize NetRefusal) (tokens arcs : List ℕ) → Finishes s arcs v → Agrees net_values (answer_so_far (Ok s)) (DraftOf (Ok s) (arrays_at tokens arcs)) X → Agrees net_values (answer_of v) (HoldsAt tokens arcs) (X >>= whole)
  unfolding ◌>>=◌
  finished s v ts arcs f (giving m q e d) = rw q (f ts m d)
  finished s v ts arcs f (refusing n p q e) = absurd (refuses≢gives (sym e))

-- ---- a whole text

blanks : (at : ℕ) → at + 1024 ≤ 4096 → Cells (column at 1024 (replicate 4096 0)) (λ t p. 0)
blanks at h = record {
  long = column-length at 1024 (replicate 4096 0) (omega (arith, length-replicate {A = ℕ} 4096 0));
  cell = λ t p ht hp. column-at at 1024 (replicate 4096 0) (32 * t + p) (omega arith) ∙ blank 4096 (at + (32 * t + p));
}

-- arrays of zeros hold the empty net
pub zeros : {tokens arcs : List ℕ} → Blank tokens arcs → Draft no_size (arrays_at tokens arcs) empty_net
unfolding empty_net takes makes inhibits reads weight_of joined any first as_count sum
zeros b = rw (b.tokens, b.arcs) (record {
  holds = record {
    weighed = λ c i. absurd (Memᴰ.not-nil i);
    counts = record { places = refl; transitions = refl; few_places = omega arith; few_transitions = omega arith; long = length-replicate {A = ℕ} 32 0; tokens = λ p. blank 32 p; most = omega arith };
    inputs = blanks 0 (omega arith);
    outputs = blanks 1024 (omega arith);
    inhibitors = blanks 2048 (omega arith);
    reads = blanks 3072 (omega arith);
  };
  total = refl;
})

-- the lines and the last rule are the reading
pub reads-into : (net : List ℕ) (v : Result NetSize NetRefusal) (tokens arcs : List ℕ) → Agrees net_values (answer_of v) (HoldsAt tokens arcs) (by_lines add_line 1 (lines_of net) empty_net >>= whole) → ReadsInto net v tokens arcs
unfolding read_net net_of returned
reads-into net v tokens arcs (giving m e x h) = record { answer = x ∙ sym (ap (returned net_values) e); net = λ m' f. subst (HoldsAt tokens arcs) (same-given (sym e ∙ f)) h }
reads-into net v tokens arcs (refusing p s e x) = record { answer = x ∙ sym (ap (returned net_values) e); net = λ m' f. absurd (refuses≢gives (sym e ∙ f)) }

-- what the arrays hold, by the counts of the answer
valued : (net : List ℕ) (n : NetSize) (tokens arcs : List ℕ) → ReadsInto net (Ok n) tokens arcs → (m : NetD) → read_net net ≡ gives m → Holds (net_at n.places n.transitions tokens arcs) m
unfolding returned
valued net n tokens arcs r m f = let h : (n.places, n.transitions, 0) ≡ net_values m = same-given (r.answer ∙ ap (returned net_values) f) in
    rw (ap (λ (x : ℕ × ℕ × ℕ). x.0) h, ap (λ (x : ℕ × ℕ × ℕ). x.1) h) (r.net m f)

-- the net that was read
pub read_found : (net : List ℕ) (n : NetSize) (tokens arcs : List ℕ) → ReadsInto net (Ok n) tokens arcs → (m : NetD) × (read_net net ≡ gives m) × Holds (net_at n.places n.transitions tokens arcs) m
unfolding returned
read_found net n tokens arcs r = go (read_net net) refl
  where
    go : (a : Answer NetD) → read_net net ≡ a → (m : NetD) × (read_net net ≡ gives m) × Holds (net_at n.places n.transitions tokens arcs) m
    go (gives m) e = (m, e, valued net n tokens arcs r m e)
    go (refuses n s) e = absurd (refuses≢gives (sym (ap (returned net_values) e) ∙ sym r.answer))

-- the net by value
pub read-value : (net : List ℕ) (n : NetSize) (tokens arcs : List ℕ) {is os hs rs : List ℕ} → ReadsInto net (Ok n) tokens arcs → is ≡ column 0 1024 arcs → os ≡ column 1024 1024 arcs → hs ≡ column 2048 1024 arcs → rs ≡ column 3072 1024 arcs → Reads net (Ok (net_with (record { places = n.places; transitions = n.transitions; total = 0 }) (arrays tokens is os hs rs)))
read-value net n tokens arcs r a b c e = record { answer = r.answer; net = λ m f. rw (a, b, c, e) (valued net n tokens arcs r m f) }

pub read_none : (net : List ℕ) (x : NetRefusal) {tokens arcs : List ℕ} → ReadsInto net (Err x) tokens arcs → Reads net (Err x)
unfolding returned
read_none net x r = record { answer = r.answer; net = λ m f. absurd (refuses≢gives (r.answer ∙ ap (returned net_values) f)) }

-- the net of a text that declares one, and of one that is refused
pub declared-net : (net : List ℕ) (n : Net) → Reads net (Ok n) → ReadsNet net n
unfolding returned
declared-net net n r = record { net = r.net; none = λ k s f. absurd (refuses≢gives (sym (ap (returned net_values) f) ∙ sym r.answer)) }

pub refused-net : (net : List ℕ) (x : NetRefusal) (n : Net) → Reads net (Err x) → n ≡ no_net → ReadsNet net n
refused-net net x n r h = record { net = λ m f. absurd (r.net m f); none = λ k s f. h }
