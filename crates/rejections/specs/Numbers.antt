-- The one place that gives each rejection its number.
use Rattle.std.specs.Prelude.{ℕ}
use Rattle.rejections.specs.declared.Rejection.{Rejection}
use Rattle.rejections.specs.declared.Rejection.TheVariants.{UnfinishedLine, UnknownLetter, BadField, NoLineFeed, UnknownName, BeyondLimit, NotBelowSize, ForeignCode, TooFewWords, UnfitPile, OtherTerms, SmallPile, EmptyPile, NotQueued, UnfitLease, NothingWaits, JobWaits, NoSuchConcept, NoSuchPoint, ShortList}

-- the number that users know a rejection by
abbrev pub number_of : Rejection → ℕ
number_of UnfinishedLine = 1
number_of UnknownLetter = 2
number_of BadField = 3
number_of NoLineFeed = 4
number_of UnknownName = 5
number_of BeyondLimit = 6
number_of NotBelowSize = 7
number_of ForeignCode = 8
number_of TooFewWords = 9
number_of UnfitPile = 10
number_of OtherTerms = 11
number_of SmallPile = 12
number_of EmptyPile = 13
number_of NotQueued = 14
number_of UnfitLease = 15
number_of NothingWaits = 16
number_of JobWaits = 17
number_of NoSuchConcept = 18
number_of NoSuchPoint = 19
number_of ShortList = 20
