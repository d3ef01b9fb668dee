-- What the rules of P4_16 ask of a whole text, as far as its declarations tell: these parts of `ProgramKeeps` (this
-- project's own, the limits, too; P4_16 1.2, "Name resolution", "Derived types", "Control-plane API annotations").
use Rattle.std.specs.Prelude.{◌≡◌, ◌+◌, ◌≤◌, false, [], map, flat_map}
use Rattle.std.specs.List.{AllByRecursion}
use Rattle.p416_syntax.specs.declared.program.Syntax16.{Syntax16}
use Rattle.p416_syntax.specs.Names.{Name, repeats}
use Rattle.p416_syntax.specs.Kinds.{struct}
use Rattle.p416_syntax.specs.Declarations.{layouts_of}
use Rattle.p416_syntax.specs.Unknown.{declares_twice}
use Rattle.p416_syntax.specs.Tables.{table_plane, tables_of, objects_of}
use Rattle.p416_syntax.specs.Totals.{fields_of_kind, octets_of_kind, cells_in, cell_sum}
use Rattle.lower_laws_rules.specs.Whole.{IsOrdered, CellsFit}

-- no name is declared twice, types stand in order, control-plane names differ, and headers, metadata and cells are
-- within the limits
pub record TextKeeps (s : Syntax16) (h m : Name) : Type 0 where
  pub names : declares_twice s.decls ≡ false
  pub ordered : IsOrdered [] s.decls
  pub tables : repeats (map table_plane (flat_map tables_of s.decls)) ≡ false
  pub objects : repeats (flat_map objects_of s.decls) ≡ false
  pub fields : fields_of_kind (layouts_of s.decls) (struct h) + fields_of_kind (layouts_of s.decls) (struct m) ≤ 131072
  pub octets : octets_of_kind (layouts_of s.decls) (struct h) ≤ 32768
  pub cells : AllByRecursion CellsFit (flat_map cells_in s.decls)
  pub all_cells : cell_sum (flat_map cells_in s.decls) ≤ 4194304
