-- A buffer that is filled from the front, and what is printed of a text.
use Rattle.std.proofs.Common.{◌≡◌, ℕ, ◌+◌, ◌<◌, ◌≤◌, List, ◌++◌, length, take, Result, Option, sym, ap, ◌∙◌, length-take-le}
use Rattle.std.specs.Result.{OnOk}
use Rattle.std.specs.Io.KnownBytes.{Consumes, IsAtEnd, Appends}
use Rattle.std.proofs.Math.Seq.{take-append-add}
use Rattle.std.proofs.lemmas.List.{take-append-le}
use Rattle.std.proofs.lemmas.Result.{on_ok_weaker}
use borrow.Rule.Slice.PartMut.{put_mid, post_of}
use Rattle.console.specs.Printing.{Printed, Printing}

-- what was read into the part behind the front stands behind the front
pub take_filled : (f got n : ℕ) (buffer part : List ℕ) → f ≤ length buffer → got ≤ length part → take (f + got) (put_mid f n buffer part) ≡ take f buffer ++ take got part
take_filled f got n buffer part h g =
    let rest : List ℕ = post_of f n buffer in
    ap (λ (k : ℕ). take (k + got) (take f buffer ++ (part ++ rest))) (sym (length-take-le f buffer h)) ∙ take-append-add (take f buffer) (part ++ rest) got
    ∙ ap (λ (xs : List ℕ). take f buffer ++ xs) (take-append-le got part rest g)

-- a text of at most 4,001 bytes is read, and what is printed of it is written, if the writing goes well
pub printing : {T E : Type 0} (r : Result T E) (input rest output after : Option (List ℕ)) (text bytes : List ℕ) → length text ≤ 4001 → Consumes input rest text →
    (length text < 4001 → IsAtEnd rest) → Printed text bytes → OnOk r (Appends output after bytes) → OnOk r (Printing input rest output after)
printing r input rest output after text bytes few read whole printed wrote =
    on_ok_weaker r (λ w. record { text = text; bytes = bytes; few = few; read = read; whole = whole; printed = printed; written = w }) wrote
