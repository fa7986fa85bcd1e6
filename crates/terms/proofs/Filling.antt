-- Filling terms entry by entry: what it makes of the lists and of the counts.
use Rattle.std.proofs.Common.{◌≡◌, ℕ, ◌≤◌, List, ◌++◌, length, drop, sym, refl, ap, ◌∙◌, arith, MutBor}
use Rattle.std.proofs.lemmas.List.{length_push}
use Rattle.std.proofs.lemmas.Slice.{drop-append-drop}
use Rattle.terms.specs.declared.records.Concept.{Concept}
use Rattle.terms.specs.declared.records.Inclusion.{Inclusion}
use Rattle.terms.specs.declared.entry.Entry.{Entry}
use Rattle.terms.specs.declared.entry.Entry.TheVariants as entry
use Rattle.terms.specs.declared.tally.Room.{Room}
use Rattle.terms.specs.declared.tally.Tally.{Tally}
use Rattle.terms.specs.declared.terms.Terms.{Terms}
use Rattle.terms.specs.Contents.{Contents, nothing}
use Rattle.terms.specs.Counting.{counted, none_of, room_for}
use Rattle.terms.specs.Entries.{with_entry}
use Rattle.terms.specs.Lent.{room_of, tally_of, onto, WrittenOver, Added}
use Rattle.terms.specs.Views.{contents_of}
use Rattle.terms.proofs.Formed.{concepts_length, inclusions_length}
use Rattle.terms.proofs.Grown.{over_itself}

-- ---- the lists

-- terms with the same fronts of the same lists
pub same_lists : (t u : Terms) → u.concepts ≡ t.concepts → u.inclusions ≡ t.inclusions
    → u.concept_count ≡ t.concept_count → u.inclusion_count ≡ t.inclusion_count → WrittenOver t u
same_lists t u p q m n = record {
  same_concepts = ap (λ (r : MutBor (List Concept)). r.ghost_name) p;
  same_inclusions = ap (λ (r : MutBor (List Inclusion)). r.ghost_name) q;
  long_concepts = ap (λ (r : MutBor (List Concept)). length r.now) p;
  long_inclusions = ap (λ (r : MutBor (List Inclusion)). length r.now) q;
  concepts = over_itself u.concept_count u.concepts.now u.fits.0 ∙ ap (λ (r : MutBor (List Concept)). onto (contents_of u).concepts r.now) p;
  inclusions = over_itself u.inclusion_count u.inclusions.now u.fits.2 ∙ ap (λ (r : MutBor (List Inclusion)). onto (contents_of u).inclusions r.now) q;
}

-- a longer list written over one that was written over a third
twice : {A : Type 0} (xs ys zs us : List A) → length xs ≤ length ys → us ≡ onto xs zs → onto ys us ≡ onto ys zs
twice xs ys zs us h e = ap (λ ws. ys ++ drop (length ys) ws) e ∙ ap (λ ws. ys ++ ws) (drop-append-drop (length xs) zs xs (length ys) h refl)

pub filled_on : (t u v : Terms) → u.concept_count ≤ v.concept_count → u.inclusion_count ≤ v.inclusion_count → WrittenOver t u → WrittenOver u v → WrittenOver t v
filled_on t u v m n a b = record {
  same_concepts = b.same_concepts ∙ a.same_concepts;
  same_inclusions = b.same_inclusions ∙ a.same_inclusions;
  long_concepts = b.long_concepts ∙ a.long_concepts;
  long_inclusions = b.long_inclusions ∙ a.long_inclusions;
  concepts = b.concepts ∙ twice (contents_of u).concepts (contents_of v).concepts t.concepts.now u.concepts.now (omega (arith, concepts_length u, concepts_length v)) a.concepts;
  inclusions = b.inclusions ∙ twice (contents_of u).inclusions (contents_of v).inclusions t.inclusions.now u.inclusions.now (omega (arith, inclusions_length u, inclusions_length v)) a.inclusions;
}

-- ---- the counts

-- the counts of contents, with a room
abbrev counts : Contents → Room → Tally
counts s m = record { concepts = length s.concepts; roles = s.roles; inclusions = length s.inclusions; room = m }

entry_counts : (e : Entry) (s : Contents) (m : Room) → counts (with_entry e s) m ≡ counted e (counts s m)
entry_counts (entry.Concept c) s m = ap (λ (n : ℕ). record { concepts = n; roles = s.roles; inclusions = length s.inclusions; room = m }) (length_push s.concepts c)
entry_counts entry.Role s m = refl
entry_counts (entry.Order r q) s m = refl
entry_counts (entry.Transitive r) s m = refl
entry_counts (entry.Inclusion i) s m = ap (λ (n : ℕ). record { concepts = length s.concepts; roles = s.roles; inclusions = n; room = m }) (length_push s.inclusions i)

tally_counts : (t : Terms) → tally_of t ≡ counts (contents_of t) (room_of t)
tally_counts t =
    ap (λ (n : ℕ). record { concepts = n; roles = t.role_count; inclusions = t.inclusion_count; room = room_of t }) (sym (concepts_length t))
    ∙ ap (λ (n : ℕ). record { concepts = length (contents_of t).concepts; roles = t.role_count; inclusions = n; room = room_of t }) (sym (inclusions_length t))

pub same_room : (t u : Terms) → WrittenOver t u → room_of u ≡ room_of t
same_room t u f = ap (λ (n : ℕ). room_for n (length u.inclusions.now)) f.long_concepts ∙ ap (λ (n : ℕ). room_for (length t.concepts.now) n) f.long_inclusions

-- one entry more is counted
pub added_counts : (e : Entry) (t u : Terms) → Added e t u → tally_of u ≡ counted e (tally_of t)
added_counts e t u a =
    tally_counts u
    ∙ ap (λ (s : Contents). counts s (room_of u)) a.0
    ∙ ap (λ (m : Room). counts (with_entry e (contents_of t)) m) (same_room t u a.1)
    ∙ entry_counts e (contents_of t) (room_of t)
    ∙ ap (counted e) (sym (tally_counts t))

-- terms with nothing in them are counted so
pub cleared_counts : (t u : Terms) → contents_of u ≡ nothing → WrittenOver t u → tally_of u ≡ none_of (room_of t)
cleared_counts t u e f = tally_counts u ∙ ap (λ (s : Contents). counts s (room_of u)) e ∙ ap none_of (same_room t u f)

counted_more : (e : Entry) (t : Tally) → (t.concepts ≤ (counted e t).concepts) × (t.inclusions ≤ (counted e t).inclusions)
counted_more (entry.Concept c) t = (omega arith, omega arith)
counted_more entry.Role t = (omega arith, omega arith)
counted_more (entry.Order r q) t = (omega arith, omega arith)
counted_more (entry.Transitive r) t = (omega arith, omega arith)
counted_more (entry.Inclusion i) t = (omega arith, omega arith)

-- one entry more takes nothing away
pub added_more : (e : Entry) (t u : Terms) → Added e t u → (t.concept_count ≤ u.concept_count) × (t.inclusion_count ≤ u.inclusion_count)
added_more e t u a =
    let c = ap (λ (s : Tally). s.concepts) (added_counts e t u a) in
    let i = ap (λ (s : Tally). s.inclusions) (added_counts e t u a) in
    let m = counted_more e (tally_of t) in
    (omega arith, omega arith)
