-- What is asked of a scope in whose expressions tables are applied (P4_16 1.2, "Match-action unit invocation").
use Rattle.std.specs.Prelude.{◌≡◌}
use Rattle.p416_syntax.specs.Tree.{Exp16, name}
use Rattle.p416_syntax.specs.Names.{Name}
use Rattle.p416_syntax.specs.Kinds.{table}
use Rattle.p416_syntax.specs.Scopes.{Scope}
use Rattle.p416_syntax.specs.Expressions.{kind_of}
use Rattle.v1_call_laws.specs.Telling.{ToldNone}

-- only a name is a table
abbrev pub TablesNamed : Scope → Type 0
TablesNamed s = (t : Exp16) → ToldNone s t → kind_of s t ≡ table → (text : Name) × (t ≡ name text)
