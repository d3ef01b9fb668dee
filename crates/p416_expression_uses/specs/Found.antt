-- What is found as one use after another is judged: the first rule that is broken, and what questions about more than one use
-- need.
use Rattle.std.specs.Prelude.{List, [], ◌∷◌, ◌++◌, option_to_list, if◌then◌else◌, Option, None}
use Rattle.p416_syntax.specs.Tree.{Exp16, name, member}
use Rattle.p416_syntax.specs.declared.rule.ProgramRule.{ProgramRule}
use Rattle.p416_syntax.specs.Names.{Name}
use Rattle.p416_syntax.specs.Kinds.{Kind}
use Rattle.p416_syntax.specs.Scopes.{Scope, Part, in_action}
use Rattle.p416_syntax.specs.Calls.{Place, callee}
use Rattle.p416_syntax.specs.Expressions.{kind_of}
use Rattle.p416_syntax.specs.Uses.{Use, an_expression}
use Rattle.p416_syntax.specs.Applications.{called_action}
use Rattle.p416_syntax.specs.Tables.{is_direct_counter}
use Rattle.p416_syntax.specs.Totals.{held_kinds}
use Rattle.p416_expression_uses.specs.First.{first_in, lower}

-- a direct counter that is counted in an action
pub record CountedIn : Type 0 where
  pub counter : Name
  pub action : Name

abbrev pub counted_in : Part → Name → List CountedIn
counted_in (in_action text) counter = record { counter = counter; action = text } ∷ []
counted_in _ counter = []

abbrev pub counted_by : Scope → Place → Exp16 → List CountedIn
counted_by s callee (member (name text) word) = if is_direct_counter (kind_of s (name text)) then counted_in s.part text else []
counted_by s p e = []

abbrev pub counted_of : Use → List CountedIn
counted_of (an_expression s p e) = counted_by s p e
counted_of u = []

-- the first rule; the actions that are called; the direct counters that are counted; and what variables and parameters of
-- actions hold
pub record Found : Type 0 where
  pub rule : Option ProgramRule
  pub called : List Name
  pub counted : List CountedIn
  pub held : List Kind

abbrev pub nothing_found : Found
nothing_found = record { rule = None; called = []; counted = []; held = [] }

unfoldable pub after : Found → Use → Found
after f u = record {
  rule = lower f.rule (first_in (u ∷ []));
  called = f.called ++ option_to_list (called_action u);
  counted = f.counted ++ counted_of u;
  held = f.held ++ held_kinds u;
}

abbrev pub after_all : Found → List Use → Found
after_all f [] = f
after_all f (u ∷ us) = after_all (after f u) us
