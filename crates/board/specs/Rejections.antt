-- Why a call is rejected: the first reason that applies, in the order of the rejections' numbers.
use Rattle.std.specs.Prelude.{◌≡◌, ℕ, ◌<◌, ◌≤◌, true, ◌⊎◌, length}
use mathlib.Core.List.{Memᴰ}
use Rattle.rejections.specs.declared.Rejection.{Rejection}
use Rattle.rejections.specs.declared.Rejection.TheVariants.{ForeignCode, TooFewWords, UnfitPile, OtherTerms, SmallPile}
use Rattle.grades.specs.Kinds.{Kind}
use Rattle.piles.specs.Sets.{Numbers, Empty}
use Rattle.piles.specs.Shapes.{Shape}
use Rattle.terms.specs.declared.records.Inclusion.{Inclusion}
use Rattle.terms.specs.Vocabularies.{Vocabulary}
use Rattle.saturation.specs.declared.State.TheVariants.{Held}
use Rattle.saturation.specs.Boards.{Board, Moment, GoesWith, Wide}
use Rattle.board.specs.Layout.{needed_for}

-- every inclusion's code is one of the kind
abbrev pub Coded : Vocabulary → Kind → Type 0
Coded v k = (i : Inclusion) → Memᴰ i v.inclusions → i.code < k.codes

-- a check, of so many words and a pile: a foreign code (8), too few words (9), or a pile that is too small or holds a number (10)
pub data CheckRejected (v : Vocabulary) (k : Kind) (words : ℕ) (s : Numbers) : Rejection → Type 0 where
  foreign_code : {i : Inclusion} → Memᴰ i v.inclusions → k.codes ≤ i.code → CheckRejected v k words s ForeignCode
  too_few_words : Coded v k → words < needed_for v → CheckRejected v k words s TooFewWords
  unfit_pile : Coded v k → needed_for v ≤ words → (s.size < length v.concepts) ⊎ ((x : ℕ) × (s.holds x ≡ true)) → CheckRejected v k words s UnfitPile

-- there is no such reason
pub record InOrder (v : Vocabulary) (k : Kind) (words : ℕ) (s : Numbers) : Type 0 where
  pub coded : Coded v k
  pub enough : needed_for v ≤ words
  pub wide : length v.concepts ≤ s.size
  pub empty : Empty s

-- any call that takes terms and a pile, in the first place: the board does not go with the terms (11), or the pile is too small (12)
pub data Unready {Y : Type 0} (v : Vocabulary) (S : Shape Y) (a : Moment Y) : Rejection → Type 0 where
  other_terms : ¬ GoesWith v a.board → Unready v S a OtherTerms
  small_pile : GoesWith v a.board → ¬ Wide S a → Unready v S a SmallPile

-- there is no such reason
pub record Ready {Y : Type 0} (v : Vocabulary) (S : Shape Y) (a : Moment Y) : Type 0 where
  pub goes : GoesWith v a.board
  pub wide : Wide S a

-- the concept is one of the board's, and held
abbrev pub IsHeld : Board → ℕ → Type 0
IsHeld b c = (c < b.concepts) × (b.state c ≡ Held)
