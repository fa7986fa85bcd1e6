-- What a job is made of.
use Rattle.std.specs.Prelude.{ℕ}
use Rattle.reasoning.specs.declared.Job.{Job}
use Rattle.reasoning.specs.declared.Job.TheVariants.{Own as own, Link as link, Imply as imply}
use Rattle.reasoning.specs.declared.Sort.{Sort}
use Rattle.reasoning.specs.declared.Sort.TheVariants as sort
use Rattle.reasoning.specs.declared.Parts.{Parts}

-- its sort, its role (0 outside implication jobs), its left and its right concept
abbrev pub parts_of : Job → Parts
parts_of (own c d) = record { sort = sort.Own; role = 0; left = c; right = d }
parts_of (link c d) = record { sort = sort.Link; role = 0; left = c; right = d }
parts_of (imply s c e) = record { sort = sort.Imply; role = s; left = c; right = e }

-- how the sorts come one after another
abbrev pub rank : Sort → ℕ
rank sort.Own = 0
rank sort.Link = 1
rank sort.Imply = 2
