-- Scopes in which names and members are of such kinds as types name: none is a member of an enumeration, or its name, or a list (P4_16
-- 1.2, "P4 data types").
use Rattle.p416_syntax.specs.Names.{Name}
use Rattle.p416_syntax.specs.Scopes.{fields_in, Sort, a_type, a_value, Scope, sort_of}
use Rattle.p416_syntax.specs.Expressions.{field_kind_in, known_kind}
use Rattle.v1_call_laws.specs.Calling.{IsPlainKind, IsNamedKind}

abbrev pub KnownPlain : Sort → Type 0
KnownPlain (a_type k) = IsNamedKind k
KnownPlain (a_value k can) = IsPlainKind k
KnownPlain sort = Unit {0}

pub record IsPlainScope (s : Scope) : Type 0 where
  pub names : (text : Name) → KnownPlain (sort_of s text)
  pub members : (type word : Name) → IsPlainKind (known_kind (field_kind_in (fields_in s.layouts type) word))
