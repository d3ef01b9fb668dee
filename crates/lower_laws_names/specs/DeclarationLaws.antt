-- Laws of what is declared at the top (this project's own; P4_14 1.0.5, "Header Type Declarations", "Header and
-- Metadata Instances", "Counters", "Meters", "Registers"; P4_16 1.2, "Name resolution", "Derived types", "Control-plane
-- API annotations").
use Rattle.std.specs.Prelude.{◌≡◌, ℕ, Bool, false, List, [], ◌++◌, map}
use Rattle.std.specs.List.{flat_map}
use Rattle.p414_syntax.specs.declared.syntax.Decl.{Decl}
use Rattle.p414_syntax.specs.declared.syntax.Sort.TheVariants as sort
use Rattle.p414_syntax.specs.Names.{Name, repeats as repeats14}
use Rattle.p414_sem.specs.Expanded.{Expanded}
use Rattle.p414_sem.specs.Signatures.{signature14}
use Rattle.p416_syntax.specs.declared.program.Decl16.{Decl16}
use Rattle.p416_syntax.specs.declared.program.Syntax16.{Syntax16}
use Rattle.p416_syntax.specs.Names.{repeats}
use Rattle.p416_syntax.specs.Tables.{objects_of}
use Rattle.p416_syntax.specs.Unknown.{declares_twice}
use Rattle.v1_core.specs.Signatures.{objects_in, signature16}
use Rattle.agreement_of_meanings.specs.Shown.{NamesDiffer}
use Rattle.lower_laws_names.specs.Reaches.{declared, fixed, outer_name}
use Rattle.lower_laws_names.specs.Instances.{shown_instances, HasNames}
use Rattle.lower_laws_names.specs.Objects.{top_decls, block_names}
use Rattle.lower_laws_names.specs.Copies.{listings, copies, outers, control_words, LinesFit, AllNumbered, IsFound}
use Rattle.lower_laws_names.specs.Declared.{Among, decl_name, TypeIsKnown, BeginsSo, TypesAreDeclared, MarksAreDeclared, MembersAreShown}

-- The new names of instances differ, and those of the fields of each.
abbrev pub InstancesDiffer : Type 0
InstancesDiffer = (ds : List Decl) → HasNames ds → NamesDiffer (shown_instances ds)

-- No name stands twice at the top, those of the blocks and what is built in among them.
abbrev pub TopNamesDiffer : Type 0
TopNamesDiffer =
    (ds : List Decl) (x : Expanded) (blocks : List Decl16) → HasNames ds → map decl_name blocks ≡ block_names →
    declares_twice (top_decls ds x ++ blocks) ≡ false

-- So a text with these declarations and six blocks begins as it has to, and the types say what they are written for.
pub record TypesStand : Type 0 where
  pub begins : (ds : List Decl) (x : Expanded) (syntax : Syntax16) (blocks : List Decl16) → HasNames ds → ((d : Decl) → Among d ds → TypeIsKnown ds d) → syntax.decls ≡ top_decls ds x ++ blocks → map decl_name blocks ≡ block_names → BeginsSo ds x syntax
  pub types : (ds : List Decl) (x : Expanded) (syntax : Syntax16) → BeginsSo ds x syntax → TypesAreDeclared ds syntax
  pub marks : (ds : List Decl) (x : Expanded) (syntax : Syntax16) → BeginsSo ds x syntax → MarksAreDeclared ds x syntax
  pub members : (ds : List Decl) → MembersAreShown ds

-- The objects of the signatures are the same, where the blocks declare none.
abbrev pub ObjectsAreSame : Type 0
ObjectsAreSame =
    (ds : List Decl) (x : Expanded) (syntax : Syntax16) (blocks : List Decl16) → syntax.decls ≡ top_decls ds x ++ blocks →
    flat_map objects_of blocks ≡ [] → flat_map objects_in blocks ≡ [] →
    (signature16 syntax).objects ≡ (signature14 ds).objects

-- What a control declares for a pipeline has no name twice: parameters and variables, tables, and the copies of the pipeline.
abbrev pub ControlNamesDiffer : Type 0
ControlNamesDiffer =
    (ds : List Decl) (egress : ℕ → Bool) (e : Bool) (tables : List Name) → repeats14 tables ≡ false →
    AllNumbered ds sort.Table tables → LinesFit ds (listings ds egress) →
    repeats (map (outer_name ds) (map fixed control_words ++ (map (declared sort.Table) tables ++ outers e (copies ds egress)))) ≡ false

-- A table finds each of its actions among the copies of its pipeline.
abbrev pub CopiesAreFound : Type 0
CopiesAreFound = (ds : List Decl) (egress : ℕ → Bool) → IsFound ds egress
