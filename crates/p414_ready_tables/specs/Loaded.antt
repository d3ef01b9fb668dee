-- A program with what fills its tables, under a rule of its actions (the rules are this project's own).
use Rattle.std.specs.Prelude.{List}
use Rattle.match_core.specs.declared.entries.Entries.{Entries}
use Rattle.p414_syntax.specs.declared.syntax.Decl.{Decl}
use Rattle.p414_syntax.specs.declared.syntax.Rule14.{Rule14}
use Rattle.p414_sem.specs.Expanded.{Expanded}
use Rattle.p414_sem.specs.Controls.{Setting}

pub record Loaded : Type 0 where
  pub decls : List Decl
  pub rule : Rule14
  pub entries : Entries

-- what its controls run with, where the program comes to x
abbrev pub setting : Loaded → Expanded → Setting
setting c x = record { decls = c.decls; expanded = x; rule = c.rule; entries = c.entries }
