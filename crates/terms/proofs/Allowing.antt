-- A verdict is Ok exactly where the entry may come next.
use Rattle.std.proofs.Common.{◌≡◌, ℕ, ◌<◌, Bool, true, false, cond, ltb, Ok, Err, refl, ap, ◌∙◌, arith}
use Rattle.std.specs.Result.{result_and}
use Rattle.std.proofs.lemmas.Bool.{ltb-true, lt-ltb, cond-true}
use Rattle.terms.specs.declared.records.Concept.{Concept}
use Rattle.terms.specs.declared.records.Concept.TheVariants as concept
use Rattle.terms.specs.declared.entry.Entry.{Entry}
use Rattle.terms.specs.declared.entry.Entry.TheVariants as entry
use Rattle.terms.specs.declared.entry.Blame.{Blame}
use Rattle.terms.specs.declared.entry.Blame.TheVariants as blame
use Rattle.terms.specs.declared.tally.Tally.{Tally}
use Rattle.terms.specs.Counting.{Allowed, Verdict, below, paired, named, verdict_of}
use Rattle.terms.specs.Rule.{Earlier}

below_ok : (n limit : ℕ) (b : Blame) → below n limit b ≡ Ok tt → n < limit
below_ok n limit b = at_test (ltb n limit) (ltb-true n limit)
  where
    at_test : {P : Type 0} (t : Bool) → (t ≡ true → P) → ◌≡◌ {A = Verdict} (cond t (Ok tt) (Err b)) (Ok tt) → P
    at_test true f e = f refl
    at_test false f e = let z : ◌≡◌ {A = ℕ} 0 1 = cc in absurd (omega arith)

ok_below : (n limit : ℕ) (b : Blame) → n < limit → below n limit b ≡ Ok tt
ok_below n limit b h = cond-true (ltb n limit) _ _ (lt-ltb n limit h)

first_ok : (v w : Verdict) → result_and v w ≡ Ok tt → (v ≡ Ok tt) × (w ≡ Ok tt)
first_ok (Ok x) w e = (refl, e)
first_ok (Err x) w e = let z : ◌≡◌ {A = ℕ} 0 1 = cc in absurd (omega arith)

ok_first : (v w : Verdict) → v ≡ Ok tt → w ≡ Ok tt → result_and v w ≡ Ok tt
ok_first v w e f = ap (λ (x : Verdict). result_and x w) e ∙ f

paired_ok : (a n b m : ℕ) → paired a n b m ≡ Ok tt → (a < n) × (b < m)
paired_ok a n b m e = let h = first_ok (below a n blame.First) (below b m blame.Second) e in (below_ok a n blame.First h.0, below_ok b m blame.Second h.1)

ok_paired : (a n b m : ℕ) → a < n → b < m → paired a n b m ≡ Ok tt
ok_paired a n b m h k = ok_first (below a n blame.First) (below b m blame.Second) (ok_below a n blame.First h) (ok_below b m blame.Second k)

named_ok : (t : Tally) (c : Concept) → named t c ≡ Ok tt → Earlier t.roles t.concepts c
named_ok t concept.Atomic e = (omega arith, omega arith)
named_ok t concept.Top e = (omega arith, omega arith)
named_ok t (concept.Conjunction c d) e = let h = paired_ok c t.concepts d t.concepts e in (omega arith, omega arith)
named_ok t (concept.Restriction r c) e = let h = paired_ok r t.roles c t.concepts e in (omega arith, omega arith)

ok_named : (t : Tally) (c : Concept) → Earlier t.roles t.concepts c → named t c ≡ Ok tt
ok_named t concept.Atomic h = refl
ok_named t concept.Top h = refl
ok_named t (concept.Conjunction c d) h = ok_paired c t.concepts d t.concepts (omega arith) (omega arith)
ok_named t (concept.Restriction r c) h = ok_paired r t.roles c t.concepts (omega arith) (omega arith)

pub allows : (t : Tally) (e : Entry) → verdict_of t e ≡ Ok tt → Allowed t e
allows t (entry.Concept c) v = let h = first_ok (named t c) (below t.concepts t.room.concepts blame.Room) v in (named_ok t c h.0, below_ok t.concepts t.room.concepts blame.Room h.1)
allows t entry.Role v = below_ok t.roles 32 blame.Room v
allows t (entry.Order r s) v = paired_ok r t.roles s t.roles v
allows t (entry.Transitive r) v = below_ok r t.roles blame.First v
allows t (entry.Inclusion i) v =
    let h = first_ok (paired i.sub t.concepts i.sup t.concepts) (below t.inclusions t.room.inclusions blame.Room) v in
    (paired_ok i.sub t.concepts i.sup t.concepts h.0, below_ok t.inclusions t.room.inclusions blame.Room h.1)

pub allowed_ok : (t : Tally) (e : Entry) → Allowed t e → verdict_of t e ≡ Ok tt
allowed_ok t (entry.Concept c) h = ok_first (named t c) _ (ok_named t c h.0) (ok_below t.concepts t.room.concepts blame.Room h.1)
allowed_ok t entry.Role h = ok_below t.roles 32 blame.Room h
allowed_ok t (entry.Order r s) h = ok_paired r t.roles s t.roles h.0 h.1
allowed_ok t (entry.Transitive r) h = ok_below r t.roles blame.First h
allowed_ok t (entry.Inclusion i) h =
    ok_first (paired i.sub t.concepts i.sup t.concepts) _
    (ok_paired i.sub t.concepts i.sup t.concepts h.0.0 h.0.1)
    (ok_below t.inclusions t.room.inclusions blame.Room h.1)
