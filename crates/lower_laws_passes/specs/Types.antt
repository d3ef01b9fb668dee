-- What is asked of the types that were written: how they show the instances of the program, which fields they mark, and
-- the values that a pass begins with (this project's own; P4_14 1.0.5, "Header Type Declarations", "Header and Metadata
-- Instances"; P4_16 1.2, "Derived types"; `v1model.p4`, `field_list`).
use Rattle.std.specs.Prelude.{◌≡◌, List, map}
use Rattle.p414_syntax.specs.declared.syntax.Decl.{Decl}
use Rattle.p414_sem.specs.Expanded.{Expanded}
use Rattle.p416_syntax.specs.declared.parts.StructField.{StructField}
use Rattle.p416_syntax.specs.declared.program.Syntax16.{Syntax16}
use Rattle.p416_syntax.specs.Names.{Name}
use Rattle.v1_core.specs.Frames.{of_metadata}
use Rattle.lower_laws_base.specs.Context.{StateLayout}
use Rattle.lower_laws_base.specs.Types.{DeclsShown, ZerosAlike}
use Rattle.lower_laws_passes.specs.Preserving.{MarksFields, metadata_fields}

-- a field of a struct by its name
abbrev pub member_of : StructField → Name
member_of f = f.name

-- the types and marks of the written program are those of the program
pub record TypesAlike (g : StateLayout) (ds : List Decl) (x : Expanded) (syntax : Syntax16) : Type 0 where
  pub shown : DeclsShown g ds
  pub marks : MarksFields g ds x syntax
  pub members : g.members of_metadata ≡ map member_of (metadata_fields syntax)
  pub zeros : ZerosAlike g syntax
