-- What a text leads to: a fault, a rejection, or its listing.
use Rattle.std.specs.Prelude.{◌≡◌, ℕ, ◌<◌, ◌≤◌, List, length, Ok, Err, Result}
use mathlib.Core.List.{Memᴰ}
use Rattle.rejections.specs.declared.Rejection.{Rejection}
use Rattle.rejections.specs.declared.Rejection.TheVariants.{ForeignCode, TooFewWords}
use Rattle.grades.specs.Kinds.{Kind}
use Rattle.grades.specs.Releases.{releases}
use Rattle.terms.specs.declared.records.Inclusion.{Inclusion}
use Rattle.terms.specs.declared.tally.Room.{Room}
use Rattle.terms.specs.Counting.{room_for}
use Rattle.terms.specs.Lent.{onto}
use Rattle.terms.specs.Vocabularies.{Vocabulary}
use Rattle.sheet.specs.declared.fault.Fault.{Fault}
use Rattle.sheet.specs.Faults.{beyond_limit}
use Rattle.sheet.specs.Sheet.{sheet_of}
use Rattle.sheet.specs.Written.{ReadAs}
use Rattle.board.specs.Layout.{needed_for}
use Rattle.board.specs.Rejections.{Coded}
use Rattle.listing.specs.declared.page.Row.{Row}
use Rattle.listing.specs.declared.trouble.Trouble.{Trouble}
use Rattle.listing.specs.declared.trouble.Trouble.TheVariants.{Reading, Check}
use Rattle.listing.specs.Pages.{page_of}
use Rattle.listing.specs.Listings.{Listing}

-- the vocabulary's listing stands on the front of the page, and its length is answered; or there is no board for the vocabulary, since a code
-- is none of the kind (8) or 17,640 words are too few (9), and the page is as before
pub data ListedOr (v : Vocabulary) (k : Kind) (before after : List ℕ) : Result ℕ Rejection → Type 0 where
  listing : Coded v k → needed_for v ≤ 17640 → (rows : List Row) → Listing v k rows → after ≡ onto (page_of rows) before → ListedOr v k before after (Ok (length (page_of rows)))
  foreign_code : {i : Inclusion} → after ≡ before → Memᴰ i v.inclusions → k.codes ≤ i.code → ListedOr v k before after (Err ForeignCode)
  too_few_words : after ≡ before → Coded v k → 17640 < needed_for v → ListedOr v k before after (Err TooFewWords)

-- the lists that a text is read into
abbrev pub lists : Room
lists = room_for 40 200

-- a text above 4,000 bytes is fault 6 in line 201; else a text that is no sheet has its first fault; else, in the words of the sheet's lines,
-- it is the written form of entries, and what is listed is the classification, by releases, of the vocabulary that they say
pub data Told (text before after : List ℕ) : Result ℕ Trouble → Type 0 where
  too_long : after ≡ before → 4000 < length text → Told text before after (Err (Reading (beyond_limit 201)))
  no_sheet : {f : Fault} → after ≡ before → length text ≤ 4000 → sheet_of lists text ≡ Err f → Told text before after (Err (Reading f))
  no_board : {n : ℕ} {v : Vocabulary} {e : Rejection} → length text ≤ 4000 → ReadAs lists text n v → ListedOr v releases before after (Err e) → Told text before after (Err (Check e))
  listed : {n : ℕ} {v : Vocabulary} {size : ℕ} → length text ≤ 4000 → ReadAs lists text n v → ListedOr v releases before after (Ok size) → Told text before after (Ok size)
