-- The line that says why a text has no listing.
use Rattle.std.specs.Prelude.{ℕ, min, List, ◌∷◌}
use Rattle.rejections.specs.Numbers.{number_of}
use Rattle.listing.specs.declared.trouble.Trouble.{Trouble}
use Rattle.listing.specs.declared.trouble.Trouble.TheVariants.{Reading, Check}
use Rattle.listing.specs.Pages.{three_columns}

-- "!" and the number, the line and the column (up to 65,535), which outside reading are 0
abbrev pub trouble_bytes : Trouble → List ℕ
trouble_bytes (Reading f) = 33 ∷ three_columns (number_of f.rejection) (min f.line 65535) (min f.column 65535)
trouble_bytes (Check r) = 33 ∷ three_columns (number_of r) 0 0
