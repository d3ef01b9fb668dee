-- What is asked of the controls of a program as they are written (this project's own, the limits, too; P4_14 1.0.5,
-- "Packet Processing and Control Flow", "Summary of P4 BNF").
use Rattle.std.specs.Prelude.{◌≡◌, true, List, Some}
use Rattle.std.specs.List.{AllByRecursion}
use Rattle.p414_syntax.specs.Conditions.{block as a_block, is_stmt}
use Rattle.p414_syntax.specs.declared.syntax.Decl.{Decl}
use Rattle.p414_syntax.specs.Views.{ControlTree}
use Rattle.p414_syntax.specs.ControlExpansion.{control_of}
use Rattle.p414_syntax.specs.Expressions.{conditions_of}
use Rattle.p414_syntax.specs.Names.{Name}
use Rattle.p414_syntax.specs.Nesting.{HasDeepNesting}
use Rattle.lower_laws_block_rules.specs.Widths.{LiteralsWide}

-- They keep the grammar (S1), literals have 1 to 128 bits (as they are read), and nothing nests too deep (C28).
pub record ControlsStand (ds : List Decl) : Type 0 where
  pub grammar : (name : Name) (c : ControlTree) → control_of ds name ≡ Some c → is_stmt a_block c.body ≡ true
  pub literals : AllByRecursion LiteralsWide (conditions_of ds)
  pub shallow : HasDeepNesting ds → ⊥
