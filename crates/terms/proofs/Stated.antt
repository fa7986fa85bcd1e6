-- Entries that may come where they stand make the contents that they state.
use Rattle.std.proofs.Common.{◌≡◌, ℕ, ◌+◌, ◌/◌, ◌%◌, ◌^◌, ◌<◌, true, ◌⊎◌, ◌↔◌, List, [], ◌∷◌, ◌++◌, length, get_or, set, sym, refl, ap, ◌∙◌, subst, inl, inr, ⊎_elim, append_assoc, arith}
use mathlib.Core.List.Memᴰ
use mathlib.Core.List.{Memᴰ}
use lib.Bits.{bit_or}
use Rattle.std.proofs.lemmas.List.{length-set, length-map, append-nil}
use Rattle.std.proofs.lemmas.Bool.{cases_eq}
use Rattle.terms.specs.declared.records.Concept.{Concept}
use Rattle.terms.specs.declared.records.Inclusion.{Inclusion}
use Rattle.terms.specs.declared.entry.Entry.{Entry}
use Rattle.terms.specs.declared.entry.Entry.TheVariants as entry
use Rattle.terms.specs.declared.tally.Room.{Room}
use Rattle.terms.specs.declared.tally.Tally.{Tally}
use Rattle.terms.specs.Contents.{Contents, nothing, bit, vocabulary_of}
use Rattle.terms.specs.Counting.{Allowed, AllAllowed, counted, none_of}
use Rattle.terms.specs.Entries.{climbed, with_entry, with_entries}
use Rattle.terms.specs.Rule.{HasBit, OnRoles}
use Rattle.terms.specs.Statements.{concepts_in, inclusions_in, roles_in, Le, same, stated, chain, Says}
use Rattle.terms.proofs.Bits.{told, tell, none_below, zero_bit, pow_bit, pow_only, or_cases, or_left, or_right}
use Rattle.terms.proofs.Preorder.{role_cases, role_self, role_keeps, pair_cases, pair_keeps, pair_joins}

-- ---- one entry more at the end of a list

abbrev plus : List Entry → Entry → List Entry
plus es e = es ++ (e ∷ [])

concepts_plus : (es fs : List Entry) → concepts_in (es ++ fs) ≡ concepts_in es ++ concepts_in fs
concepts_plus [] fs = refl
concepts_plus (entry.Concept c ∷ es) fs = ap (λ cs. c ∷ cs) (concepts_plus es fs)
concepts_plus (entry.Role ∷ es) fs = concepts_plus es fs
concepts_plus (entry.Order r s ∷ es) fs = concepts_plus es fs
concepts_plus (entry.Transitive r ∷ es) fs = concepts_plus es fs
concepts_plus (entry.Inclusion i ∷ es) fs = concepts_plus es fs

inclusions_plus : (es fs : List Entry) → inclusions_in (es ++ fs) ≡ inclusions_in es ++ inclusions_in fs
inclusions_plus [] fs = refl
inclusions_plus (entry.Concept c ∷ es) fs = inclusions_plus es fs
inclusions_plus (entry.Role ∷ es) fs = inclusions_plus es fs
inclusions_plus (entry.Order r s ∷ es) fs = inclusions_plus es fs
inclusions_plus (entry.Transitive r ∷ es) fs = inclusions_plus es fs
inclusions_plus (entry.Inclusion i ∷ es) fs = ap (λ is. i ∷ is) (inclusions_plus es fs)

roles_plus : (es fs : List Entry) → roles_in (es ++ fs) ≡ roles_in es + roles_in fs
roles_plus [] fs = omega arith
roles_plus (entry.Concept c ∷ es) fs = roles_plus es fs
roles_plus (entry.Role ∷ es) fs = omega (arith, roles_plus es fs)
roles_plus (entry.Order r s ∷ es) fs = roles_plus es fs
roles_plus (entry.Transitive r ∷ es) fs = roles_plus es fs
roles_plus (entry.Inclusion i ∷ es) fs = roles_plus es fs

-- a member of the longer list is the new entry or was one before
member : {x : Entry} (es : List Entry) (e : Entry) → Memᴰ x (plus es e) → Memᴰ x es ⊎ (x ≡ e)
member es e m = ⊎_elim inl (λ k. inr (Memᴰ.eq_of_singleton k)) (Memᴰ.append_cases es m)

before : {x : Entry} (es : List Entry) (e : Entry) → Memᴰ x es → Memᴰ x (plus es e)
before es e m = Memᴰ.append_left (e ∷ []) m

newest : (es : List Entry) (e : Entry) → Memᴰ e (plus es e)
newest es e = Memᴰ.append_right es (Memᴰ.head refl)

-- ---- the order with one entry more

-- each stated pair is of roles
Linked : List Entry → Type 0
Linked es = (r s : ℕ) → Memᴰ (entry.Order r s) es → (r < roles_in es) × (s < roles_in es)

le_before : (es : List Entry) (e : Entry) {a b : ℕ} → Le es a b → Le (plus es e) a b
le_before es e (same h) = same (omega (arith, roles_plus es (e ∷ [])))
le_before es e (stated m) = stated (before es e m)
le_before es e (chain x y) = chain (le_before es e x) (le_before es e y)

ends : (es : List Entry) → Linked es → {a b : ℕ} → Le es a b → (a < roles_in es) × (b < roles_in es)
unfolding Linked
ends es h (same k) = (k, k)
ends es h {a} {b} (stated m) = h a b m
ends es h (chain x y) = ((ends es h x).0, (ends es h y).1)

-- an entry that states neither a role nor a pair leaves the order
le_other : (es : List Entry) (e : Entry) → roles_in (plus es e) ≡ roles_in es → ((r s : ℕ) → entry.Order r s ≡ e → ⊥) → {a b : ℕ} → Le (plus es e) a b → Le es a b
le_other es e p no1 (same h) = same (omega arith)
le_other es e p no1 {a} {b} (stated m) = ⊎_elim stated (λ q. absurd (no1 a b q)) (member es e m)
le_other es e p no1 (chain x y) = chain (le_other es e p no1 x) (le_other es e p no1 y)

-- a new role is below itself alone
le_role : (es : List Entry) → Linked es → {a b : ℕ} → Le (plus es entry.Role) a b → Le es a b ⊎ ((a ≡ roles_in es) × (b ≡ roles_in es))
le_role es h {a} (same k) = ⊎_elim (λ e. inr (e, e)) (λ ne. inl (same (omega (arith, roles_plus es (entry.Role ∷ []))))) (cases_eq a (roles_in es))
le_role es h (stated m) = ⊎_elim (λ k. inl (stated k)) (λ q. let z : ◌≡◌ {A = ℕ} 0 1 = cc in absurd (omega arith)) (member es entry.Role m)
le_role es h {a} {b} (chain x y) =
    ⊎_elim
    (λ p. ⊎_elim (λ q. inl (chain p q)) (λ q. absurd (omega (arith, (ends es h p).1, q.0))) (le_role es h y))
    (λ p. ⊎_elim (λ q. absurd (omega (arith, (ends es h q).0, p.1))) (λ q. inr (p.0, q.1)) (le_role es h y))
    (le_role es h x)

-- with a new pair (r, q), what is below r is below what is above q
le_pair : (es : List Entry) (r q : ℕ) → r < roles_in es → q < roles_in es → {a b : ℕ} → Le (plus es (entry.Order r q)) a b → Le es a b ⊎ (Le es a r × Le es q b)
le_pair es r q hr hq (same k) = inl (same (omega (arith, roles_plus es (entry.Order r q ∷ []))))
le_pair es r q hr hq {a} {b} (stated m) =
    ⊎_elim (λ k. inl (stated k))
    (λ e. let p : a ≡ r = cc in let k : b ≡ q = cc in inr (subst (λ x. Le es x r) (sym p) (same hr), subst (λ x. Le es q x) (sym k) (same hq)))
    (member es (entry.Order r q) m)
le_pair es r q hr hq (chain x y) =
    ⊎_elim
    (λ u. ⊎_elim (λ v. inl (chain u v)) (λ v. inr (chain u v.0, v.1)) (le_pair es r q hr hq y))
    (λ u. ⊎_elim (λ v. inr (u.0, chain u.1 v)) (λ v. inr (u.0, v.1)) (le_pair es r q hr hq y))
    (le_pair es r q hr hq x)

-- ---- the contents with one entry more

record Stands (es : List Entry) (s : Contents) : Type 0 where
  rows : length s.order ≡ 32
  linked : Linked es
  says : Says es (vocabulary_of s)

linked_other : (es : List Entry) (e : Entry) → ((r s : ℕ) → entry.Order r s ≡ e → ⊥) → Linked es → Linked (plus es e)
unfolding Linked
linked_other es e no1 h r s m =
    ⊎_elim (λ k. (omega (arith, (h r s k).0, roles_plus es (e ∷ [])), omega (arith, (h r s k).1, roles_plus es (e ∷ [])))) (λ q. absurd (no1 r s q)) (member es e m)

linked_pair : (es : List Entry) (r q : ℕ) → r < roles_in es → q < roles_in es → Linked es → Linked (plus es (entry.Order r q))
unfolding Linked
linked_pair es r q hr hq h a b m =
    let p = roles_plus es (entry.Order r q ∷ []) in
    ⊎_elim (λ k. (omega (arith, (h a b k).0), omega (arith, (h a b k).1))) (λ e. let x : a ≡ r = cc in let y : b ≡ q = cc in (omega arith, omega arith)) (member es (entry.Order r q) m)

-- what an entry of another sort leaves

le_kept : (es : List Entry) (e : Entry) (rows : List ℕ) → roles_in (plus es e) ≡ roles_in es → ((r s : ℕ) → entry.Order r s ≡ e → ⊥)
    → ((a b : ℕ) → (HasBit rows a b ↔ Le es a b)) → (a b : ℕ) → (HasBit rows a b ↔ Le (plus es e) a b)
le_kept es e rows p no1 f a b = (λ h. le_before es e ((f a b).0 h), λ h. (f a b).1 (le_other es e p no1 h))

flags_kept : (es : List Entry) (e : Entry) (w : ℕ) → ((r : ℕ) → entry.Transitive r ≡ e → ⊥)
    → ((r : ℕ) → ((bit w r ≡ true) ↔ Memᴰ (entry.Transitive r) es)) → (r : ℕ) → ((bit w r ≡ true) ↔ Memᴰ (entry.Transitive r) (plus es e))
flags_kept es e w no1 f r = (λ h. before es e ((f r).0 h), λ m. (f r).1 (⊎_elim (λ k. k) (λ q. absurd (no1 r q)) (member es e m)))

list_kept : {A : Type 0} (f : List Entry → List A) (es : List Entry) (e : Entry) (xs : List A) → f (plus es e) ≡ f es ++ [] → xs ≡ f es → xs ≡ f (plus es e)
list_kept f es e xs p q = q ∙ sym (append-nil (f es)) ∙ sym p

-- ---- each sort of entry

with_concept : (es : List Entry) (s : Contents) (c : Concept) → Stands es s → Stands (plus es (entry.Concept c)) (with_entry (entry.Concept c) s)
with_concept es s c h =
    let e = entry.Concept c in
    let no1 : (a b : ℕ) → entry.Order a b ≡ e → ⊥ = λ a b q. let z : ◌≡◌ {A = ℕ} 0 1 = cc in omega arith in
    let no2 : (a : ℕ) → entry.Transitive a ≡ e → ⊥ = λ a q. let z : ◌≡◌ {A = ℕ} 0 1 = cc in omega arith in
    let roles_kept : roles_in (plus es e) ≡ roles_in es = omega (arith, roles_plus es (e ∷ [])) in
    record {
      rows = h.rows;
      linked = linked_other es e no1 h.linked;
      says = record {
        concepts = ap (λ cs. cs ++ (c ∷ [])) h.says.concepts ∙ sym (concepts_plus es (e ∷ []));
        inclusions = list_kept inclusions_in es e s.inclusions (inclusions_plus es (e ∷ [])) h.says.inclusions;
        roles = h.says.roles ∙ sym roles_kept;
        order = le_kept es e s.order roles_kept no1 h.says.order;
        transitive = flags_kept es e s.transitive no2 h.says.transitive;
      };
    }

with_inclusion : (es : List Entry) (s : Contents) (i : Inclusion) → Stands es s → Stands (plus es (entry.Inclusion i)) (with_entry (entry.Inclusion i) s)
with_inclusion es s i h =
    let e = entry.Inclusion i in
    let no1 : (a b : ℕ) → entry.Order a b ≡ e → ⊥ = λ a b q. let z : ◌≡◌ {A = ℕ} 0 1 = cc in omega arith in
    let no2 : (a : ℕ) → entry.Transitive a ≡ e → ⊥ = λ a q. let z : ◌≡◌ {A = ℕ} 0 1 = cc in omega arith in
    let roles_kept : roles_in (plus es e) ≡ roles_in es = omega (arith, roles_plus es (e ∷ [])) in
    record {
      rows = h.rows;
      linked = linked_other es e no1 h.linked;
      says = record {
        concepts = list_kept concepts_in es e s.concepts (concepts_plus es (e ∷ [])) h.says.concepts;
        inclusions = ap (λ is. is ++ (i ∷ [])) h.says.inclusions ∙ sym (inclusions_plus es (e ∷ []));
        roles = h.says.roles ∙ sym roles_kept;
        order = le_kept es e s.order roles_kept no1 h.says.order;
        transitive = flags_kept es e s.transitive no2 h.says.transitive;
      };
    }

with_flag : (es : List Entry) (s : Contents) (r : ℕ) → Stands es s → Stands (plus es (entry.Transitive r)) (with_entry (entry.Transitive r) s)
with_flag es s r h =
    let e = entry.Transitive r in
    let no1 : (a b : ℕ) → entry.Order a b ≡ e → ⊥ = λ a b q. let z : ◌≡◌ {A = ℕ} 0 1 = cc in omega arith in
    let roles_kept : roles_in (plus es e) ≡ roles_in es = omega (arith, roles_plus es (e ∷ [])) in
    let w = s.transitive in
    record {
      rows = h.rows;
      linked = linked_other es e no1 h.linked;
      says = record {
        concepts = list_kept concepts_in es e s.concepts (concepts_plus es (e ∷ [])) h.says.concepts;
        inclusions = list_kept inclusions_in es e s.inclusions (inclusions_plus es (e ∷ [])) h.says.inclusions;
        roles = h.says.roles ∙ sym roles_kept;
        order = le_kept es e s.order roles_kept no1 h.says.order;
        transitive = λ a. (
          (λ k. ⊎_elim (λ u. before es e ((h.says.transitive a).0 (tell w a u)))
              (λ u. subst (λ x. Memᴰ (entry.Transitive x) (plus es e)) (sym (pow_only r a u)) (newest es e))
              (or_cases w (2 ^ r) a (told (bit_or w (2 ^ r)) a k))),
          (λ m. tell (bit_or w (2 ^ r)) a (⊎_elim (λ k. or_left w (2 ^ r) a (told w a ((h.says.transitive a).1 k)))
              (λ q. let x : r ≡ a = cc in or_right w (2 ^ r) a (subst (λ y. (2 ^ r / 2 ^ y) % 2 ≡ 1) x (pow_bit r)))
              (member es e m))),
        );
      };
    }

-- the order relates only roles
on_roles : (es : List Entry) (s : Contents) → Stands es s → OnRoles s.roles s.order
on_roles es s h a b k = let l = ends es h.linked ((h.says.order a b).0 k) in (omega (arith, h.says.roles), omega (arith, h.says.roles))

with_role_lem : (es : List Entry) (s : Contents) → s.roles < 32 → Stands es s → Stands (plus es entry.Role) (with_entry entry.Role s)
with_role_lem es s few h =
    let e = entry.Role in
    let n = s.roles in
    let no1 : (a b : ℕ) → entry.Order a b ≡ e → ⊥ = λ a b q. let z : ◌≡◌ {A = ℕ} 0 1 = cc in omega arith in
    let no2 : (a : ℕ) → entry.Transitive a ≡ e → ⊥ = λ a q. let z : ◌≡◌ {A = ℕ} 0 1 = cc in omega arith in
    let lt : n < length s.order = omega (arith, h.rows) in
    let one_more : roles_in (plus es e) ≡ roles_in es + 1 = roles_plus es (e ∷ []) in
    record {
      rows = length-set s.order n (2 ^ n) ∙ h.rows;
      linked = linked_other es e no1 h.linked;
      says = record {
        concepts = list_kept concepts_in es e s.concepts (concepts_plus es (e ∷ [])) h.says.concepts;
        inclusions = list_kept inclusions_in es e s.inclusions (inclusions_plus es (e ∷ [])) h.says.inclusions;
        roles = omega (arith, h.says.roles);
        order = λ a b. (
          (λ k. ⊎_elim (λ u. le_before es e ((h.says.order a b).0 u))
              (λ u. subst (λ x. Le (plus es e) a x) (u.0 ∙ sym u.1) (same (omega (arith, u.0, h.says.roles))))
              (role_cases n s.order lt k)),
          (λ l. ⊎_elim (λ u. role_keeps n s.order lt (on_roles es s h) a b ((h.says.order a b).1 u))
              (λ u. subst (λ x. HasBit (set s.order n (2 ^ n)) x b) (h.says.roles ∙ sym u.0) (subst (λ x. HasBit (set s.order n (2 ^ n)) n x) (h.says.roles ∙ sym u.1) (role_self n s.order lt)))
              (le_role es h.linked l)),
        );
        transitive = flags_kept es e s.transitive no2 h.says.transitive;
      };
    }

with_pair : (es : List Entry) (s : Contents) (r q : ℕ) → r < s.roles → q < s.roles → Stands es s → Stands (plus es (entry.Order r q)) (with_entry (entry.Order r q) s)
with_pair es s r q hr hq h =
    let e = entry.Order r q in
    let no2 : (a : ℕ) → entry.Transitive a ≡ e → ⊥ = λ a k. let z : ◌≡◌ {A = ℕ} 0 1 = cc in omega arith in
    let kr : r < roles_in es = omega (arith, h.says.roles) in
    let kq : q < roles_in es = omega (arith, h.says.roles) in
    let f = h.says.order in
    record {
      rows = length-map s.order (climbed r (get_or s.order q 0)) ∙ h.rows;
      linked = linked_pair es r q kr kq h.linked;
      says = record {
        concepts = list_kept concepts_in es e s.concepts (concepts_plus es (e ∷ [])) h.says.concepts;
        inclusions = list_kept inclusions_in es e s.inclusions (inclusions_plus es (e ∷ [])) h.says.inclusions;
        roles = omega (arith, h.says.roles, roles_plus es (e ∷ []));
        order = λ a b. (
          (λ k. ⊎_elim (λ u. le_before es e ((f a b).0 u))
              (λ u. chain (le_before es e ((f a r).0 u.0)) (chain (stated (newest es e)) (le_before es e ((f q b).0 u.1))))
              (pair_cases s.order r q a b k)),
          (λ l. ⊎_elim (λ u. pair_keeps s.order r q a b ((f a b).1 u))
              (λ u. pair_joins s.order r q a b ((f a r).1 u.0) ((f q b).1 u.1))
              (le_pair es r q kr kq l)),
        );
        transitive = flags_kept es e s.transitive no2 h.says.transitive;
      };
    }

-- ---- a list of entries

with_entry_lem : (t : Tally) (es : List Entry) (s : Contents) (e : Entry) → t.roles ≡ s.roles → Allowed t e → Stands es s → Stands (plus es e) (with_entry e s)
with_entry_lem t es s (entry.Concept c) p ok h = with_concept es s c h
with_entry_lem t es s entry.Role p ok h = with_role_lem es s (omega arith) h
with_entry_lem t es s (entry.Order r q) p ok h = with_pair es s r q (omega arith) (omega arith) h
with_entry_lem t es s (entry.Transitive r) p ok h = with_flag es s r h
with_entry_lem t es s (entry.Inclusion i) p ok h = with_inclusion es s i h

roles_counted : (t : Tally) (s : Contents) (e : Entry) → t.roles ≡ s.roles → (counted e t).roles ≡ (with_entry e s).roles
roles_counted t s (entry.Concept c) p = p
roles_counted t s entry.Role p = omega arith
roles_counted t s (entry.Order r q) p = p
roles_counted t s (entry.Transitive r) p = p
roles_counted t s (entry.Inclusion i) p = p

with_entries_lem : (t : Tally) (es fs : List Entry) (s : Contents) → t.roles ≡ s.roles → AllAllowed t fs → Stands es s → Stands (es ++ fs) (with_entries fs s)
with_entries_lem t es [] s p ok h = subst (λ xs. Stands xs s) (sym (append-nil es)) h
with_entries_lem t es (e ∷ fs) s p ok h =
    subst (λ xs. Stands xs (with_entries fs (with_entry e s))) (append_assoc es (e ∷ []) fs)
    (with_entries_lem (counted e t) (plus es e) fs (with_entry e s) (roles_counted t s e p) ok.1 (with_entry_lem t es s e p ok.0 h))

none_stated : {a b : ℕ} → Le [] a b → ⊥
none_stated (same h) = omega arith
none_stated (stated m) = Memᴰ.not-nil m
none_stated (chain x y) = none_stated x

stands_nothing : Stands [] nothing
unfolding Linked
stands_nothing = record {
  rows = refl;
  linked = λ r s m. absurd (Memᴰ.not-nil m);
  says = record {
    concepts = refl;
    inclusions = refl;
    roles = refl;
    order = λ a b. (λ k. absurd (none_below a b k), λ l. absurd (none_stated l));
    transitive = λ a. (λ k. absurd (zero_bit a (told 0 a k)), λ m. absurd (Memᴰ.not-nil m));
  };
}

pub entries_say : (m : Room) (es : List Entry) → AllAllowed (none_of m) es → Says es (vocabulary_of (with_entries es nothing))
entries_say m es ok = (with_entries_lem (none_of m) [] es nothing refl ok stands_nothing).says
