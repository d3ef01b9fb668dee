-- What is asked of the statements of a program as they are written, so that what they come to can be lowered (this
-- project's own; P4_14 1.0.5, "Packet Processing and Control Flow").
use Rattle.std.specs.Prelude.{◌≡◌, true, List, Some}
use Rattle.p414_syntax.specs.Conditions.{block as a_block, is_stmt}
use Rattle.p414_syntax.specs.declared.syntax.Decl.{Decl}
use Rattle.p414_syntax.specs.Tree.{Stmt, then as then14, apply, apply_branches, if_then as if14, else_block, else_if, branch}
use Rattle.p414_syntax.specs.Views.{ControlTree}
use Rattle.p414_syntax.specs.Names.{Name}
use Rattle.p414_syntax.specs.ControlExpansion.{control_of}
use Rattle.lower_laws_base.specs.Context.{StateLayout}
use Rattle.lower_laws_controls.specs.Conditions.{IsCondition}

-- each condition is one of the program, and each table is of this sort
abbrev pub PartsFit : StateLayout → List Decl → (Name → Type 0) → Stmt → Type 0
PartsFit g ds P (then14 a b) = PartsFit g ds P a × PartsFit g ds P b
PartsFit g ds P (apply t) = P t
PartsFit g ds P (apply_branches t bs) = P t × PartsFit g ds P bs
PartsFit g ds P (if14 e a b) = IsCondition g ds e × PartsFit g ds P a × PartsFit g ds P b
PartsFit g ds P (else_block a) = PartsFit g ds P a
PartsFit g ds P (else_if a) = PartsFit g ds P a
PartsFit g ds P (branch before l body) = PartsFit g ds P before × PartsFit g ds P body
PartsFit g ds P _ = Unit {0}

-- a control that keeps the grammar, and whose parts are so
pub record ControlFits (g : StateLayout) (ds : List Decl) (P : Name → Type 0) (c : ControlTree) : Type 0 where
  pub is : is_stmt a_block c.body ≡ true
  pub parts : PartsFit g ds P c.body

-- each declared control keeps the grammar, and its parts are of the program
abbrev pub ControlsFit : StateLayout → List Decl → (Name → Type 0) → Type 0
ControlsFit g ds P = (name : Name) (c : ControlTree) → control_of ds name ≡ Some c → ControlFits g ds P c
