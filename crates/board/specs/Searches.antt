-- The search for the first job that waits at a concept.
use Rattle.std.specs.Prelude.{◌≡◌, ℕ, ◌<◌, Bool, Some, None, Option}
use Rattle.terms.specs.declared.records.Concept.TheVariants.{Restriction}
use Rattle.terms.specs.Vocabularies.{Vocabulary, Is}
use Rattle.reasoning.specs.declared.Job.{Job}
use Rattle.reasoning.specs.declared.Job.TheVariants.{Own as own, Link as link, Imply as imply}
use Rattle.saturation.specs.Boards.{Board, Rests, Waits, QuietAt}
use Rattle.board.specs.Words.{is_idle}
use Rattle.board.specs.declared.board.finding.LinkJob.{LinkJob}
use Rattle.board.specs.declared.board.finding.Series.{Series}
use Rattle.board.specs.declared.board.finding.Series.TheVariants.{Owns, Links, Implications}

-- the job of a series that goes by the number i
abbrev pub job_of : Series → ℕ → Job
job_of (Owns c) i = own c i
job_of (Links x) i = link i x
job_of (Implications s c) i = imply s c i

-- the series' numbers name concepts and roles of the board
abbrev pub InRange : Board → Series → Type 0
InRange b (Owns c) = c < b.concepts
InRange b (Links x) = x < b.concepts
InRange b (Implications s c) = (s < b.roles) × (c < b.concepts)

-- no job of the series waits that goes by a number below n
abbrev pub NoneBelow : Board → Series → ℕ → Type 0
NoneBelow b l n = (i : ℕ) → i < n → Rests b (job_of l i)

-- the one that goes by i is the first that waits, of those below n
pub record FirstBelow (b : Board) (l : Series) (n i : ℕ) : Type 0 where
  pub below : i < n
  pub waits : Waits b (job_of l i)
  pub none_before : NoneBelow b l i

-- no link job at c waits that goes by a concept below i, from a concept below n
abbrev pub NoLinks : Vocabulary → Board → ℕ → ℕ → ℕ → Type 0
NoLinks v b c i n = (x r : ℕ) → x < i → Is v x (Restriction r c) → NoneBelow b (Links x) n

-- the first link job that waits at c, of those by concepts below i, is from a by x
pub record FirstLink (v : Vocabulary) (b : Board) (c i a x : ℕ) : Type 0 where
  pub left : a < b.concepts
  pub right : x < i
  pub form : (r : ℕ) × Is v x (Restriction r c)
  pub waits : Waits b (link a x)
  pub none_left : NoLinks v b c i a
  pub none_before : (y r : ℕ) → y < x → Is v y (Restriction r c) → Rests b (link a y)

-- none waits of those by concepts below i, or the first of them is known
abbrev pub BestLink : Vocabulary → Board → ℕ → ℕ → Option LinkJob → Type 0
BestLink v b c i None = NoLinks v b c i b.concepts
BestLink v b c i (Some l) = FirstLink v b c i l.left l.right

-- no implication job at c waits by a role below m
abbrev pub NoImplications : Board → ℕ → ℕ → Type 0
NoImplications b c m = (s : ℕ) → s < m → NoneBelow b (Implications s c) b.concepts

-- the first implication job that waits at c is by the role s, for e
pub record FirstImplication (b : Board) (c s e : ℕ) : Type 0 where
  pub role : s < b.roles
  pub here : FirstBelow b (Implications s c) b.concepts e
  pub none_before : NoImplications b c s

-- no job waits at a concept below n that is idle, or that is not, as asked
abbrev pub QuietWhere : Vocabulary → Board → Bool → ℕ → Type 0
QuietWhere v b idle n = (c : ℕ) → c < n → is_idle (b.state c) ≡ idle → QuietAt v b c
