-- What is read and what is written.
use Rattle.std.specs.Prelude.{ℕ, ◌<◌, ◌≤◌, List, length, take, Ok, Err, Option}
use Rattle.std.specs.Io.KnownBytes.{Consumes, IsAtEnd, Appends}
use Rattle.listing.specs.declared.trouble.Trouble.{Trouble}
use Rattle.listing.specs.Stories.{Told}
use Rattle.listing.specs.Troubles.{trouble_bytes}

-- for a text the front of the page is written as far as its listing goes, or the line that says why it has none
pub data Printed (text : List ℕ) : List ℕ → Type 0 where
  listing : {before after : List ℕ} {size : ℕ} → Told text before after (Ok size) → Printed text (take size after)
  trouble : {before after : List ℕ} {t : Trouble} → Told text before after (Err t) → Printed text (trouble_bytes t)

-- from the bytes that an input still has and those that an output has, where they are known, to what they have then: the whole text is read,
-- or its first 4,001 bytes, and what it leads to is written behind the rest
pub record Printing (input rest output after : Option (List ℕ)) : Type 0 where
  pub text : List ℕ
  pub bytes : List ℕ
  pub few : length text ≤ 4001
  pub read : Consumes input rest text
  pub whole : length text < 4001 → IsAtEnd rest
  pub printed : Printed text bytes
  pub written : Appends output after bytes
