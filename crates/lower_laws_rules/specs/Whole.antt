-- What a whole program asks of its parts (this project's own, the limits, too; P4_16 1.2, "Name resolution", "Derived
-- types", "Tables", "Control-plane API annotations"; `v1model.p4`, `V1Switch` and the parameters of its blocks).
use Rattle.std.specs.Prelude.{◌≡◌, ℕ, ◌+◌, ◌≤◌, true, false, List, [], ◌∷◌, ◌++◌, map, flat_map, sum_by, codes, Some, None}
use Rattle.std.specs.List.{list_all, AllByRecursion}
use Rattle.p416_syntax.specs.declared.parts.Direction.TheVariants.{In, Out, InOut}
use Rattle.p416_syntax.specs.declared.parts.Param.{Param}
use Rattle.p416_syntax.specs.declared.parsers.Parser16.{Parser16}
use Rattle.p416_syntax.specs.declared.controls.Control16.{Control16}
use Rattle.p416_syntax.specs.declared.program.Decl16.{Decl16}
use Rattle.p416_syntax.specs.declared.program.Decl16.TheVariants as decl
use Rattle.p416_syntax.specs.declared.program.Syntax16.{Syntax16}
use Rattle.p416_syntax.specs.Names.{Name, has_name, repeats}
use Rattle.p416_syntax.specs.Kinds.{Kind, struct}
use Rattle.p416_syntax.specs.BuiltIn.{standard_name}
use Rattle.p416_syntax.specs.Scopes.{a_type, sort_in}
use Rattle.p416_syntax.specs.Declarations.{top_names, layouts_of}
use Rattle.p416_syntax.specs.Unknown.{declares_twice, declared_name, held_names}
use Rattle.p416_syntax.specs.Tables.{table_plane, tables_of, objects_of, outer_counters}
use Rattle.p416_syntax.specs.Main.{are_headers, is_metadata}
use Rattle.p416_syntax.specs.Totals.{fields_of_kind, octets_of_kind, cells_in, cell_sum}
use Rattle.p416_syntax.specs.Breaks.{scope_of}
use Rattle.lower_laws_rules.specs.Written.{block_param}
use Rattle.lower_laws_rules.specs.Declared.{DeclarationKeeps}

-- a declaration stands at the top of the program
pub record IsIn (ds : List Decl16) (d : Decl16) : Type 0 where
  pub before : List Decl16
  pub after : List Decl16
  pub is : ds ≡ before ++ d ∷ after

-- what the structs hold is declared before them ("Name resolution")
abbrev pub IsOrdered : List Name → List Decl16 → Type 0
IsOrdered seen [] = Unit {0}
IsOrdered seen (d ∷ ds) = (list_all (has_name seen) (held_names d) ≡ true) × IsOrdered (seen ++ declared_name d ∷ []) ds

-- the names of the parameters of a block
pub record RootNames : Type 0 where
  pub packet : Name
  pub headers : Name
  pub metadata : Name
  pub standard : Name

-- the parameters of the parser (`v1model.p4`, `Parser`)
abbrev pub parser_params : Name → Name → RootNames → List Param
parser_params h m r = block_param None (codes "packet_in") r.packet ∷ block_param (Some Out) h r.headers ∷ block_param (Some InOut) m r.metadata ∷ block_param (Some InOut) standard_name r.standard ∷ []

-- those of the blocks that verify and update (`v1model.p4`, `VerifyChecksum`, `ComputeChecksum`)
abbrev pub checksum_params : Name → Name → RootNames → List Param
checksum_params h m r = block_param (Some InOut) h r.headers ∷ block_param (Some InOut) m r.metadata ∷ []

-- those of ingress and egress (`v1model.p4`, `Ingress`, `Egress`)
abbrev pub pipeline_params : Name → Name → RootNames → List Param
pipeline_params h m r = block_param (Some InOut) h r.headers ∷ block_param (Some InOut) m r.metadata ∷ block_param (Some InOut) standard_name r.standard ∷ []

-- those of the deparser (`v1model.p4`, `Deparser`)
abbrev pub deparser_params : Name → RootNames → List Param
deparser_params h r = block_param None (codes "packet_out") r.packet ∷ block_param (Some In) h r.headers ∷ []

-- a control of this name with these parameters stands at the top
pub record HasControl (ds : List Decl16) (called : Name) (parameters : List Param) : Type 0 where
  pub control : Control16
  pub in_it : IsIn ds (decl.Control control)
  pub named : control.name ≡ called
  pub handed : control.parameters ≡ parameters

-- T11: the six blocks with their parameters, and the two structs
pub record MainFits (s : Syntax16) (h m : Name) : Type 0 where
  pub roots : RootNames
  pub parser : Parser16
  pub in_it : IsIn s.decls (decl.Parser parser)
  pub handed : parser.parameters ≡ parser_params h m roots
  pub verify : Name
  pub ingress : Name
  pub egress : Name
  pub compute : Name
  pub deparser : Name
  pub main : s.main ≡ parser.name ∷ verify ∷ ingress ∷ egress ∷ compute ∷ deparser ∷ []
  pub verifies : HasControl s.decls verify (checksum_params h m roots)
  pub ingresses : HasControl s.decls ingress (pipeline_params h m roots)
  pub egresses : HasControl s.decls egress (pipeline_params h m roots)
  pub computes : HasControl s.decls compute (checksum_params h m roots)
  pub deparses : HasControl s.decls deparser (deparser_params h roots)
  pub headers : sort_in (top_names s.decls) h ≡ a_type (struct h)
  pub metadata : sort_in (top_names s.decls) m ≡ a_type (struct m)
  pub of_headers : are_headers (layouts_of s.decls) (struct h) ≡ true
  pub of_bits : is_metadata (layouts_of s.decls) (struct m) ≡ true

-- a number of cells from 1 to 1,048,576
abbrev pub CellsFit : ℕ → Type 0
CellsFit n = (1 ≤ n) × (n ≤ 1048576)

-- a declaration at the top breaks no rule by itself
abbrev pub EachKeeps : Syntax16 → (Decl16 → List Kind) → Decl16 → Type 0
EachKeeps s held d = DeclarationKeeps (scope_of s d) d (held d)

-- The facts from which a program breaks no rule: each declaration breaks none by itself; names at the top differ, and what
-- structs hold stands before them; control-plane names of tables and of objects differ, and no direct counter belongs to
-- two tables; the blocks are those of `main`; H and M, the variables of structs and the cells are small enough.
pub record ProgramKeeps (s : Syntax16) (h m : Name) (held : Decl16 → List Kind) : Type 0 where
  pub each : AllByRecursion (EachKeeps s held) s.decls
  pub names : declares_twice s.decls ≡ false
  pub ordered : IsOrdered [] s.decls
  pub tables : repeats (map table_plane (flat_map tables_of s.decls)) ≡ false
  pub objects : repeats (flat_map objects_of s.decls) ≡ false
  pub counters : repeats (flat_map outer_counters s.decls) ≡ false
  pub main : MainFits s h m
  pub fields : fields_of_kind (layouts_of s.decls) (struct h) + fields_of_kind (layouts_of s.decls) (struct m) ≤ 131072
  pub octets : octets_of_kind (layouts_of s.decls) (struct h) ≤ 32768
  pub held_fields : sum_by (fields_of_kind (layouts_of s.decls)) (flat_map held s.decls) ≤ 262144
  pub held_octets : sum_by (octets_of_kind (layouts_of s.decls)) (flat_map held s.decls) ≤ 131072
  pub cells : AllByRecursion CellsFit (flat_map cells_in s.decls)
  pub all_cells : cell_sum (flat_map cells_in s.decls) ≤ 4194304
