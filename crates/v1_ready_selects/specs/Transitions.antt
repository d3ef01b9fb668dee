-- Which transition is ready for one of a program, in a scope whose names have seats, where the states of the parser have these
-- names (P4_16 1.2, "Transition statements", "Select expressions"). None where a key is no single value.
use Rattle.std.specs.Prelude.{List, [], ◌∷◌, map, Option, Some, None, option_map}
use Rattle.p416_syntax.specs.declared.parsers.Transition.TheVariants as transition
use Rattle.p416_syntax.specs.declared.parsers.Transition.{Transition as Written}
use Rattle.p416_syntax.specs.Tree.{Exp16}
use Rattle.p416_syntax.specs.Names.{Name}
use Rattle.p416_syntax.specs.Scopes.{Scope}
use Rattle.p416_syntax.specs.Calls.{select_key}
use Rattle.p416_syntax.specs.Expressions.{kind_of}
use Rattle.v1_core.specs.Ready.{Ready}
use Rattle.v1_ready_forms.specs.Named.{NamedSeat}
use Rattle.v1_ready_forms.specs.Expressions.{ready_of_exp}
use Rattle.v1_ready_selects.specs.declared.rows.CaseRow.{CaseRow}
use Rattle.v1_ready_selects.specs.Selects.{Transition, go, select}
use Rattle.v1_ready_selects.specs.Rows.{next_for, rows_of_cases}

abbrev pub with_first : Option Ready → Option (List Ready) → Option (List Ready)
with_first (Some e) (Some es) = Some (e ∷ es)
with_first _ _ = None

abbrev pub keys_ready : Scope → List NamedSeat → List Exp16 → Option (List Ready)
keys_ready s seats [] = Some []
keys_ready s seats (e ∷ es) = with_first (ready_of_exp s seats select_key e) (keys_ready s seats es)

abbrev pub with_rows : List CaseRow → List Ready → Transition
with_rows rows keys = select keys rows

abbrev pub transition_ready : Scope → List NamedSeat → List Name → Written → Option Transition
transition_ready s seats names (transition.Go t) = Some (go (next_for names t))
transition_ready s seats names (transition.Select es cases) =
    option_map (with_rows (rows_of_cases names (map (kind_of s) es) cases)) (keys_ready s seats es)
