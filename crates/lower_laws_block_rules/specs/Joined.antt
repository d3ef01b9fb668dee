-- What is asked of all declarations of a program together, where each keeps the rules by itself (this project's own,
-- the limits, too; P4_16 1.2, "Derived types", "Tables", "Control-plane API annotations"; `v1model.p4`, the stateful
-- objects).
use Rattle.std.specs.Prelude.{◌≡◌, ◌+◌, ◌≤◌, true, false, List, [], map, flat_map, sum_by}
use Rattle.std.specs.List.{AllByRecursion}
use Rattle.p416_syntax.specs.declared.program.Decl16.{Decl16}
use Rattle.p416_syntax.specs.declared.program.Decl16.TheVariants as decl
use Rattle.p416_syntax.specs.Names.{repeats}
use Rattle.p416_syntax.specs.Kinds.{Kind, struct}
use Rattle.p416_syntax.specs.Declarations.{layouts_of}
use Rattle.p416_syntax.specs.Tables.{table_plane, tables_of, objects_of, outer_counters}
use Rattle.p416_syntax.specs.Main.{are_headers, is_metadata}
use Rattle.p416_syntax.specs.Totals.{fields_of_kind, octets_of_kind, cells_in, cell_sum}
use Rattle.v1_core.specs.Frames.{of_headers, of_metadata}
use Rattle.lower_laws_program.specs.Program.{root_struct, Parts, decls_of, syntax_of}
use Rattle.lower_laws_rules.specs.Declared.{control_held}
use Rattle.lower_laws_rules.specs.Whole.{CellsFit, EachKeeps, IsOrdered}

-- what T12's sums count of a declaration's variables
abbrev pub decl_held : Decl16 → List Kind
decl_held (decl.Control c) = control_held c
decl_held _ = []

-- Types keep the rules and stand in order; control-plane names differ; all is small enough.
pub record RestKeeps (p : Parts) : Type 0 where
  pub types : AllByRecursion (EachKeeps (syntax_of p) decl_held) p.types
  pub ordered : IsOrdered [] p.types
  pub tables : repeats (map table_plane (flat_map tables_of (decls_of p))) ≡ false
  pub objects : repeats (flat_map objects_of (decls_of p)) ≡ false
  pub counters : repeats (flat_map outer_counters (decls_of p)) ≡ false
  pub of_headers_alone : are_headers (layouts_of (decls_of p)) (struct (root_struct of_headers)) ≡ true
  pub of_bits : is_metadata (layouts_of (decls_of p)) (struct (root_struct of_metadata)) ≡ true
  pub fields : fields_of_kind (layouts_of (decls_of p)) (struct (root_struct of_headers)) + fields_of_kind (layouts_of (decls_of p)) (struct (root_struct of_metadata)) ≤ 131072
  pub octets : octets_of_kind (layouts_of (decls_of p)) (struct (root_struct of_headers)) ≤ 32768
  pub held_fields : sum_by (fields_of_kind (layouts_of (decls_of p))) (flat_map decl_held (decls_of p)) ≤ 262144
  pub held_octets : sum_by (octets_of_kind (layouts_of (decls_of p))) (flat_map decl_held (decls_of p)) ≤ 131072
  pub cells : AllByRecursion CellsFit (flat_map cells_in (decls_of p))
  pub all_cells : cell_sum (flat_map cells_in (decls_of p)) ≤ 4194304

-- each of the six blocks breaks no rule by itself
pub record BlocksKeep (p : Parts) : Type 0 where
  pub parser : EachKeeps (syntax_of p) decl_held (decl.Parser p.parser)
  pub verify : EachKeeps (syntax_of p) decl_held (decl.Control p.verify)
  pub ingress : EachKeeps (syntax_of p) decl_held (decl.Control p.ingress)
  pub egress : EachKeeps (syntax_of p) decl_held (decl.Control p.egress)
  pub compute : EachKeeps (syntax_of p) decl_held (decl.Control p.compute)
  pub deparser : EachKeeps (syntax_of p) decl_held (decl.Control p.deparser)
