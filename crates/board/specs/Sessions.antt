-- What drawing conclusions does to a session.
use Rattle.std.specs.Prelude.{◌≡◌, ℕ}
use Rattle.terms.specs.Views.{terms_of}
use Rattle.reasoning.specs.declared.Job.{Job}
use Rattle.reasoning.specs.Derivations.{fact_of}
use Rattle.saturation.specs.Boards.{Board, Moment, On}
use Rattle.board.specs.declared.board.session.Session.{Session}
use Rattle.board.specs.Views.{moment, SameList}
use Rattle.board.specs.Raises.{Raises}
use Rattle.board.specs.OwnDraws.{Drawing}

-- its board and its pile
abbrev pub at : {X Y : Type 0} {g h : _} → Session X Y g h → Moment Y
at s = moment s.board.now s.pile.now

-- the session has its terms, and the same board and pile, whatever stands there, over the same list
pub record SameSession {X Y : Type 0} {g h : _} (a b : Session X Y g h) : Type 0 where
  pub board : b.board.ghost_name ≡ a.board.ghost_name
  pub pile : b.pile.ghost_name ≡ a.pile.ghost_name
  pub terms : b.terms.now ≡ a.terms.now
  pub list : SameList a.board.now b.board.now

-- these are the board's done grades
abbrev pub DoneOn : Board → (Job → ℕ) → Type 0
DoneOn b done = (j : Job) → On b (fact_of j) → b.done j ≡ done j

-- and what P says was drawn there, with the done grades that the board has all the while
pub record SessionDrawn {X Y : Type 0} {g h : _} (P : Drawing) (a b : Session X Y g h) : Type 0 where
  pub same : SameSession a b
  pub raises : (done : Job → ℕ) → DoneOn (at a).board done → Raises (terms_of a.terms.now) g.kind h.shape (P (terms_of a.terms.now) g.kind done) (at a) (at b)
