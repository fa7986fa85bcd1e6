-- What a board shows, and what stays of the list that it is lent.
use Rattle.std.specs.Prelude.{◌≡◌, ℕ, List}
use Rattle.std.specs.Borrow.{MutBor}
use Rattle.saturation.specs.Boards as boards
use Rattle.saturation.specs.Boards.{Moment, SameSizes}
use Rattle.board.specs.declared.board.Board.{Board}
use Rattle.board.specs.Layout.{needed_by, KeptBeyond}
use Rattle.board.specs.Words.{view_of}

-- what a board of whatever kind and stage says
abbrev pub view : {X S : Type 0} {g : _} → Board X S g → boards.Board
view b = view_of b.words.now b.counts.concepts b.counts.roles b.steps

-- a board and its pile
abbrev pub moment : {X S Y : Type 0} {g : _} → Board X S g → Y → Moment Y
moment b p = record { board = view b; pile = p }

-- the list that it is lent
abbrev pub lent : {X S : Type 0} {g : _} → Board X S g → MutBor (List ℕ)
lent b = b.words

-- the board lies over the list, whose further words are as before
pub record LiesOver {X S : Type 0} {g : _} (words : MutBor (List ℕ)) (b : Board X S g) : Type 0 where
  pub same : (lent b).ghost_name ≡ words.ghost_name
  pub beyond : KeptBeyond (needed_by (view b)) words.now (lent b).now

-- the board has its sizes, and lies over the same list, whose further words are as before
pub record SameList {X S : Type 0} {g : _} (a b : Board X S g) : Type 0 where
  pub sizes : SameSizes (view a) (view b)
  pub same : (lent b).ghost_name ≡ (lent a).ghost_name
  pub beyond : KeptBeyond (needed_by (view a)) (lent a).now (lent b).now
