-- What each step of the code puts into a line. Only promises of inside functions use these words.
use Rattle.std.specs.Prelude.{ℕ, ◌+◌, ◌≤◌, ◌≡◌, List, [], ◌∷◌, length}
use Rattle.lists.specs.Lists.{put}
use Rattle.analysis.specs.declared.Summary.{Summary}
use Rattle.report_lines.specs.Text.{decimal, spaced}
use Rattle.report_lines.specs.declared.fields.Output.{Output}

-- a text of at most `most` bytes, put at place i of o, leaves o', and the place after it is j
pub record Puts (text o : List ℕ) (i most j : ℕ) (o' : List ℕ) : Type 0 where
  pub next : j ≡ i + length text
  pub few : j ≤ i + most
  pub output : o' ≡ put o i text

-- an output has room for k bytes more
abbrev pub Room : Output → ℕ → Type 0
Room p k = p.at + k ≤ length p.bytes.now

-- a text of at most `most` bytes, put into p at its place, leaves q: the same output, with the place after the text
pub record Adds (text : List ℕ) (most : ℕ) (p q : Output) : Type 0 where
  pub same_reference : q.bytes.ghost_name ≡ p.bytes.ghost_name
  pub puts : Puts text p.bytes.now p.at most q.at q.bytes.now

-- bound, rounds, pairs and pairs apart of a line
unfoldable pub counts_text : Summary → List ℕ
counts_text s = spaced (decimal s.bound ∷ decimal s.rounds ∷ decimal s.pairs ∷ decimal s.apart ∷ [])
