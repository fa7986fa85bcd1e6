-- The worked cases.
use Rattle.std.specs.Prelude.{◌≡◌, List, [], ◌∷◌, length, Ok}
use mathlib.Core.List.{Memᴰ}
use Prim.Native.String.{String}
use Rattle.terms.specs.Contents.{vocabulary_of}
use Rattle.terms.specs.Vocabularies.{Vocabulary, WellFormed}
use Rattle.board.specs.Rejections.{Coded}
use Rattle.listing.specs.Rows.{row}
use Rattle.cases.specs.Sheets.{reading, stated}
use Rattle.cases.specs.Expectations.{KindName, Plain, Releases, Views, kind_of, Expectation, grade, listing, steps, mates, parents, words, unknown, Met}

-- a kind of grade, a sheet, and what is expected of it
pub record Case : Type 0 where
  pub kind : KindName
  pub sheet : List String
  pub expected : List Expectation

-- a case in one line
abbrev pub given : KindName → List String → List Expectation → Case
given k ls es = record { kind = k; sheet = ls; expected = es }

-- the vocabulary of a case
abbrev pub vocabulary_in : Case → Vocabulary
vocabulary_in c = vocabulary_of (stated c.sheet)

-- the whole sheet is read, its vocabulary is well formed, its codes are the kind's, and every expectation is met
pub record Holds (c : Case) : Type 0 where
  pub read : reading c.sheet ≡ Ok (length c.sheet)
  pub well_formed : WellFormed (vocabulary_in c)
  pub codes : Coded (vocabulary_in c) (kind_of c.kind)
  pub met : (e : Expectation) → Memᴰ e c.expected → Met (vocabulary_in c) (kind_of c.kind) e

-- the cases, one after another
abbrev pub cases : List Case
cases =
    -- a part of a part is a part, from the release on from which all that says so holds
    given Releases ("R" ∷ "R" ∷ "I     0     1" ∷ "P     1" ∷ "A" ∷ "A" ∷ "A" ∷ "A" ∷ "E     0     1" ∷ "E     1     2" ∷ "S     0     4     0" ∷ "S     1     5     2" ∷ "S     5     3     1" ∷ []) (listing (row 0 3 2 ∷ row 1 3 2 ∷ []) ∷ [])
    -- but not by a role that is not transitive
    ∷ given Releases ("R" ∷ "R" ∷ "I     0     1" ∷ "A" ∷ "A" ∷ "A" ∷ "A" ∷ "E     0     1" ∷ "E     1     2" ∷ "S     0     4     0" ∷ "S     1     5     2" ∷ "S     5     3     1" ∷ []) (grade 0 3 64 ∷ [])
    -- two start facts, and one that an inclusion gives
    ∷ given Plain ("A" ∷ "A" ∷ "S     0     1     1" ∷ []) (steps 3 ∷ [])
    -- two concepts inside one another
    ∷ given Plain ("A" ∷ "A" ∷ "S     0     1     1" ∷ "S     1     0     1" ∷ []) (mates 0 0 (1 ∷ []) ∷ mates 1 0 (0 ∷ []) ∷ parents 0 0 [] ∷ parents 1 0 [] ∷ [])
    -- a concept lies inside its conjunction with itself, everywhere
    ∷ given Plain ("A" ∷ "N     0     0" ∷ []) (grade 0 1 1 ∷ [])
    ∷ given Releases ("A" ∷ "N     0     0" ∷ []) (grade 0 1 0 ∷ [])
    -- two inclusions that share one view
    ∷ given Views ("A" ∷ "A" ∷ "A" ∷ "S     0     1     5" ∷ "S     1     2     6" ∷ []) (grade 0 2 4 ∷ [])
    -- a conjunction lies inside its operands, and everything inside top
    ∷ given Plain ("A" ∷ "A" ∷ "A" ∷ "N     1     2" ∷ "T" ∷ "S     0     3     1" ∷ []) (listing (row 0 1 1 ∷ row 0 2 1 ∷ []) ∷ grade 1 4 1 ∷ [])
    -- what lies between keeps a concept from being a parent
    ∷ given Plain ("A" ∷ "A" ∷ "A" ∷ "S     0     1     1" ∷ "S     1     2     1" ∷ []) (parents 0 0 (1 ∷ []) ∷ mates 0 0 [] ∷ [])
    -- the empty sheet: its board needs no words, nothing is listed, and there is no concept 0 to ask for
    ∷ given Releases [] (words 0 ∷ listing [] ∷ unknown 0 ∷ [])
    -- a concept lies inside its conjunction with itself, in all views
    ∷ given Views ("A" ∷ "N     0     0" ∷ []) (grade 0 1 65535 ∷ [])
    ∷ []

-- every case holds
abbrev pub WorkedCasesHold : Type 0
WorkedCasesHold = (c : Case) → Memᴰ c cases → Holds c
