-- The types and marks of the program that was put together are those of the program.
use Rattle.std.proofs.Common.{◌≡◌, ℕ, suc, ◌<◌, List, [], ◌∷◌, length, map, refl, sym, ap, ◌∙◌, arith}
use Rattle.std.specs.Prelude.{get_or}
use Rattle.p414_syntax.specs.declared.syntax.Decl.{Decl}
use Rattle.p414_syntax.specs.declared.syntax.Sort.TheVariants as sort
use Rattle.p414_syntax.specs.Names.{declared_in}
use Rattle.p414_sem.specs.Expanded.{Expanded}
use Rattle.p416_syntax.specs.declared.parts.Note.{Note}
use Rattle.p416_syntax.specs.declared.parts.StructField.{StructField}
use Rattle.v1_core.specs.Frames.{of_metadata}
use Rattle.v1_core.specs.Passes.{struct_fields}
use Rattle.agreement_of_meanings.specs.Shown.{NamedField, name_of, fields_of}
use Rattle.lower_laws_base.specs.Context.{StateLayout, shown_on}
use Rattle.lower_laws_base.proofs.Blank.{SizeFits, size_fits}
use Rattle.lower_laws_passes.specs.Preserving.{field_named, metadata_fields, MarksFields}
use Rattle.lower_laws_passes.specs.Types.{member_of, TypesAlike}
use Rattle.lower_laws_program.specs.Program.{named_type, root_struct, Parts, decls_of, syntax_of, parser_parameters, DeclaresOnce}
use Rattle.lower_laws_program.specs.TypesFit.{marked_from, member, TypeWords, fields_written, TypesFit}
use Rattle.lower_laws_program.proofs.Tops.{struct_has, named_has}
use Rattle.lower_laws_program.proofs.Layouts.{decls_once, type_has}
use Rattle.lower_laws_program.proofs.Zeros.{metadata_kind_is, zeros_alike}

marked_count : (notes : ℕ → List Note) (k : ℕ) (fields : List NamedField) → length (marked_from notes k fields) ≡ length fields
marked_count notes k [] = refl
marked_count notes k (f ∷ fields) = ap suc (marked_count notes (suc k) fields)

module _ (g : StateLayout) (ds : List Decl) (x : Expanded) (t : TypeWords) (p : Parts) (fits : TypesFit g ds x t p.types) (once : DeclaresOnce p) (parameters : p.parser.parameters ≡ parser_parameters) where
  metadata_are : metadata_fields (syntax_of p) ≡ t.metadata
  metadata_are =
      ap (struct_fields (decls_of p)) (metadata_kind_is g ds x t p fits once parameters)
      ∙ struct_has (decls_of p) (record { name = root_struct of_metadata; fields = t.metadata }) (decls_once g ds x t p fits once) (type_has g ds x t p fits once _ fits.metadata_struct)

  sized : (k : ℕ) → k < length g.names.instances → SizeFits (shown_on g k) (g.size_of k)
  sized k lt = by (declared_in sort.Instance ds) refl where
    by : (all : List Decl) → declared_in sort.Instance ds ≡ all → SizeFits (shown_on g k) (g.size_of k)
    by [] e = absurd (omega (arith, ap length e, fits.shown.all, lt))
    by (d ∷ rest) e = size_fits ds (get_or (declared_in sort.Instance ds) k d) (shown_on g k) (g.size_of k) (fits.shown.each k lt d)

  marks : MarksFields g ds x (syntax_of p)
  marks = record {
    inner = fields_written g t;
    found = λ k lt is. (
      member (named_type (t.type_of k)) (name_of (shown_on g k)),
      ap (λ (l : List StructField). field_named l (name_of (shown_on g k))) metadata_are
          ∙ named_has t.metadata (member (named_type (t.type_of k)) (name_of (shown_on g k))) fits.metadata_once (fits.metadata_member k lt is),
      struct_has (decls_of p) (record { name = t.type_of k; fields = fields_written g t k }) (decls_once g ds x t p fits once) (type_has g ds x t p fits once _ (fits.struct k lt is)),
    );
    count = λ k lt is. marked_count (t.notes k) 0 (fields_of (shown_on g k));
    first = fits.first;
    marked = fits.marked;
    unmarked = fits.unmarked;
  }

  pub types_alike : TypesAlike g ds x (syntax_of p)
  types_alike = record {
    shown = fits.shown;
    marks = marks;
    members = fits.metadata_members ∙ ap (map member_of) (sym metadata_are);
    zeros = zeros_alike g ds x t p fits once parameters sized;
  }
