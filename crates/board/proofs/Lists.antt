-- What stays of a board's list, one call after another.
use Rattle.std.proofs.Common.{◌≤◌, List, ℕ, sym, refl, ◌∙◌, subst₂}
use Rattle.std.specs.Borrow.{MutBor}
use Rattle.saturation.proofs.Sizes.{same_sizes, sizes_then}
use Rattle.board.specs.declared.board.Board.{Board}
use Rattle.board.specs.Layout.{words_needed}
use Rattle.board.specs.Views.{LiesOver, SameList}

pub list_same : {X S : Type 0} {g : _} {a : Board X S g} → SameList a a
list_same = record { sizes = same_sizes; same = refl; beyond = record { extent = refl; further = λ i h. refl } }

pub list_then : {X S : Type 0} {g : _} {a b c : Board X S g} → SameList a b → SameList b c → SameList a c
list_then F G = record {
  sizes = sizes_then F.sizes G.sizes;
  same = G.same ∙ F.same;
  beyond = record {
    extent = G.beyond.extent ∙ F.beyond.extent;
    further = λ i h. G.beyond.further i (subst₂ (λ n m. words_needed n m ≤ i) (sym F.sizes.concepts) (sym F.sizes.roles) h) ∙ F.beyond.further i h;
  };
}

-- over the list that it was made over
pub lies_then : {X S : Type 0} {g : _} {words : MutBor (List ℕ)} {a b : Board X S g} → LiesOver words a → SameList a b → LiesOver words b
lies_then F G = record {
  same = G.same ∙ F.same;
  beyond = record {
    extent = G.beyond.extent ∙ F.beyond.extent;
    further = λ i h. let l = subst₂ (λ n m. words_needed n m ≤ i) G.sizes.concepts G.sizes.roles h in G.beyond.further i l ∙ F.beyond.further i l;
  };
}
