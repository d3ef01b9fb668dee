-- The variables that a list of statements declares, but for those within its statements.
use Rattle.std.specs.Prelude.{ℕ, ◌+◌, List, [], ◌∷◌, ◌++◌}
use Rattle.p416_syntax.specs.declared.parts.Type16.{Type16}
use Rattle.p416_syntax.specs.Tree.{Stmt16, then, var, var_is}
use Rattle.p416_syntax.specs.Names.{Name}
use Rattle.p416_syntax.specs.Scopes.{Scope}
use Rattle.p416_syntax.specs.Statements.{with_variable}
use Rattle.p416_uses.specs.declared.variables.Variable.{Variable}

pub record Declared : Type 0 where
  pub of : Type16
  pub called : Name

abbrev pub declared_name : Declared → Name
declared_name d = d.called

abbrev pub seen_variable : Variable → Declared
seen_variable v = record { of = v.of.now; called = v.name.now }

abbrev pub variables_in : Stmt16 → List Declared
variables_in ((then) before last) = variables_in before ++ variables_in last
variables_in (var t called) = record { of = t; called = called } ∷ []
variables_in (var_is t called e) = record { of = t; called = called } ∷ []
variables_in _ = []

-- the scope behind these
abbrev pub with_all : Scope → List Declared → Scope
with_all s [] = s
with_all s (d ∷ ds) = with_all (with_variable d.of d.called s) ds

-- how many statements and lists of statements there are, but for those within statements
abbrev pub listed : Stmt16 → ℕ
listed ((then) before last) = 1 + listed before + listed last
listed _ = 1
