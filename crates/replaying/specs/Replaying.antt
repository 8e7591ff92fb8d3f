-- What replaying promises: the paper's answer, and the buffer that the paper leaves.
use Rattle.std.specs.Prelude.{ℕ, ◌≡◌, List, Result, Ok, Err}
use Rattle.spec.specs.Answer.{Answer, refuses, returned}
use Rattle.spec.specs.Replaying.{Replayed}
use Rattle.spec.specs.Buffer.{replay_leaves}
use Rattle.spec.specs.Values.{replay_values}
use Rattle.accepting.specs.Accepting.{refused_by}
use Rattle.arrangement_reader.specs.Arrangement.{answer_of}
use Rattle.replaying.specs.declared.ReplayRefusal.{ReplayRefusal}
use Rattle.replaying.specs.declared.ReplayRefusal.TheVariants.{BufferShort, Refused, Lines}

-- the paper's number and value of an answer
abbrev pub replay_of : Result ℕ ReplayRefusal → Answer (ℕ × ℕ × ℕ)
replay_of (Ok k) = answer_of (Ok k)
replay_of (Err BufferShort) = refuses 40 0
replay_of (Err (Refused x)) = refused_by x
replay_of (Err (Lines x)) = answer_of (Err x)

pub record Replays (a : Answer Replayed) (old : List ℕ) (r : Result ℕ ReplayRefusal) (new : List ℕ) : Type 0 where
  pub answer : replay_of r ≡ returned replay_values a
  pub buffer : new ≡ replay_leaves a old
