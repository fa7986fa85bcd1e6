-- What a value of the type Terms holds, and the vocabulary that it is.
use Rattle.std.specs.Prelude.{take}
use Rattle.terms.specs.declared.terms.Terms.{Terms}
use Rattle.terms.specs.Contents.{Contents, vocabulary_of}
use Rattle.terms.specs.Vocabularies.{Vocabulary}

-- the fronts of the lent lists, and the roles
abbrev pub contents_of : Terms → Contents
contents_of t = record {
  concepts = take t.concept_count t.concepts.now;
  inclusions = take t.inclusion_count t.inclusions.now;
  roles = t.role_count;
  order = t.order;
  transitive = t.transitive;
}

-- the vocabulary that the terms are
abbrev pub terms_of : Terms → Vocabulary
terms_of t = vocabulary_of (contents_of t)
