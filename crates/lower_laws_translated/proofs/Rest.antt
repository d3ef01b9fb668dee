-- All that is asked of the declarations together holds of the program that is written.
use Rattle.std.proofs.Common.{List, [], ◌∷◌, ◌++◌}
use Rattle.std.specs.List.{AllByRecursion}
use Rattle.p414_syntax.specs.declared.syntax.Decl.{Decl}
use Rattle.p414_syntax.specs.declared.syntax.Rule14.{Rule14}
use Rattle.p414_sem.specs.Expanded.{Expanded}
use Rattle.p416_syntax.specs.declared.program.Decl16.{Decl16}
use Rattle.lower_laws_names.specs.Types.{header_decls, struct_decls, headers_decl, metadata_decl, type_decls}
use Rattle.lower_laws_names.specs.Objects.{object_decls}
use Rattle.lower_laws_program.specs.Program.{Parts, blocks_of, syntax_of}
use Rattle.lower_laws_rules.specs.Whole.{EachKeeps}
use Rattle.lower_laws_block_rules.specs.Joined.{decl_held, RestKeeps}
use Rattle.lower_laws_translated.specs.Given.{IsGiven}
use Rattle.lower_laws_translated.specs.Translated.{translated}
use Rattle.lower_laws_translated.proofs.Texts.{text}
use Rattle.lower_laws_translated.proofs.Held.{held_fields, held_octets}
use Rattle.lower_laws_translated.proofs.Roots.{ordered_front, headers_alone, bits_within}
use Rattle.lower_laws_translated.proofs.DirectCounters.{all_once}
use Rattle.lower_laws_translated.proofs.TypesKept.{headers_kept, structs_kept, headers_struct_kept, metadata_struct_kept}
use Rattle.lower_laws_translated.proofs.ObjectsKept.{objects_kept}

joined : {X : Type 0} (P : X → Type 0) (xs ys : List X) → AllByRecursion P xs → AllByRecursion P ys → AllByRecursion P (xs ++ ys)
joined P [] ys a b = b
joined P (x ∷ xs) ys a b = (a.0, joined P xs ys a.1 b)

module _ (ds : List Decl) (x : Expanded) (given : IsGiven ds x) (under : Rule14) where
  abbrev p : Parts
  p = translated ds x under

  abbrev Kept : Decl16 → Type 0
  Kept d = EachKeeps (syntax_of p) decl_held d

  types_kept : AllByRecursion Kept p.types
  types_kept =
      joined Kept (type_decls ds x) (object_decls ds)
      (joined Kept (header_decls ds) (struct_decls ds x ++ headers_decl ds ∷ metadata_decl ds ∷ []) (headers_kept ds x given under)
      (joined Kept (struct_decls ds x) (headers_decl ds ∷ metadata_decl ds ∷ []) (structs_kept ds x given under) (headers_struct_kept ds x given under, (metadata_struct_kept ds x given under, tt))))
      (objects_kept ds x given under)

  pub rest_keeps : RestKeeps p
  rest_keeps =
      let all = text ds x under given in
      record {
        types = types_kept;
        ordered = ordered_front [] p.types (blocks_of p) all.ordered;
        tables = all.tables;
        objects = all.objects;
        counters = all_once ds x given under;
        of_headers_alone = headers_alone ds x given under;
        of_bits = bits_within ds x given under;
        fields = all.fields;
        octets = all.octets;
        held_fields = held_fields ds x under given;
        held_octets = held_octets ds x under given;
        cells = all.cells;
        all_cells = all.all_cells;
      }
