-- Direct counters that an action counts outside their table: T9's test of expressions, told by the tables that a declaration has.
use Rattle.std.specs.Prelude.{Bool, false, not}
use Rattle.std.specs.List.{list_any}
use Rattle.p416_syntax.specs.declared.controls.Table16.{Table16}
use Rattle.p416_syntax.specs.declared.program.Decl16.{Decl16}
use Rattle.p416_syntax.specs.Properties.{actions_of, counters_of}
use Rattle.p416_syntax.specs.Names.{Name}
use Rattle.p416_syntax.specs.Scopes.{a_table}
use Rattle.p416_syntax.specs.Uses.{Use, an_expression}
use Rattle.p416_syntax.specs.Tables.{counts_in, is_counted_outside, tables_of}
use Rattle.p416_expression_uses.specs.Found.{CountedIn}

-- what is judged counts a direct counter outside its table; of T9's tests this one alone asks all names in scope
abbrev pub is_counted_use : Use → Bool
is_counted_use (an_expression s p e) = is_counted_outside s p e
is_counted_use _ = false

-- a table has this direct counter and lists this action
abbrev pub is_counter_of : Name → Name → Table16 → Bool
is_counter_of counter action t = counts_in counter action (a_table (actions_of t.properties) (counters_of t.properties))

-- a table of a declaration does
abbrev pub counts_in_decl : Decl16 → Name → Name → Bool
counts_in_decl d counter action = list_any (is_counter_of counter action) (tables_of d)

-- none does that has the counter and the action of this
abbrev pub is_outside : (Name → Name → Bool) → CountedIn → Bool
is_outside counts c = not (counts c.counter c.action)
