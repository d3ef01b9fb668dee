-- What a pipeline declares has no name twice (C1, and the new names).
use Rattle.std.proofs.Common.{◌≡◌, ◌≢◌, Bool, false, List, [], ◌∷◌, ◌++◌, map, refl, ap, ap₂, ◌∙◌}
use Rattle.std.specs.Prelude.{codes}
use Rattle.std.specs.Str.{bytes_eq}
use Rattle.match_core.specs.declared.entries.Entries.{Entries}
use Rattle.p414_syntax.specs.declared.syntax.Decl.{Decl}
use Rattle.p414_syntax.specs.declared.syntax.Rule14.{Rule14}
use Rattle.p414_syntax.specs.declared.syntax.Rule14.TheVariants as rule
use Rattle.p414_syntax.specs.Tree.{Stmt}
use Rattle.p414_syntax.specs.Names.{Name}
use Rattle.p414_sem.specs.Expanded.{Expanded}
use Rattle.p416_syntax.specs.declared.controls.Local.{Local}
use Rattle.p416_syntax.specs.declared.controls.Table16.{Table16}
use Rattle.p416_syntax.specs.Names.{repeats}
use Rattle.p416_syntax.specs.Scopes.{Known, called_of, known_parameter}
use Rattle.p416_syntax.specs.Declarations.{known_local, control_names}
use Rattle.v1_core.specs.declared.block.Block.{Block}
use Rattle.v1_core.specs.Frames.{of_headers, of_metadata, of_standard}
use Rattle.v1_core.specs.Blocks.{owners_of}
use Rattle.lower_laws_names.specs.Reaches.{Outer, declared, struct, copy, fixed, outer_name, IsNoneOf, AreEachOnce, AreIn}
use Rattle.lower_laws_names.proofs.Proved.{outer_names_differ}
use Rattle.agreement_of_meanings.proofs.Names.{differ_names}
use Rattle.lower_laws_program.specs.Program.{pipeline_parameters}
use Rattle.lower_laws_program.specs.Controls.{old_locals}
use Rattle.lower_laws_declared.specs.Controls.{LocalsAre, pipeline_things}
use Rattle.lower_laws_declared.proofs.Apart.{things_once}
use Rattle.lower_laws_declared.proofs.Lookups.{local_called}
use Rattle.lower_laws_translated.specs.Given.{IsGiven}
use Rattle.lower_laws_translated.specs.Translated.{is_in_egress, tables_in, table_written, rule_in, locals_in, pipeline_written}
use Rattle.lower_laws_translated.proofs.Locals.{locals_are}
use Rattle.lower_laws_translated.proofs.Acts.{own}
use Rattle.lower_laws_translated.proofs.Listed.{tables_once}

module _ (ds : List Decl) (as_table : Name → Table16) (names : List Known) where
  locals_named : (things : List Outer) (locals : List Local) → LocalsAre ds as_table things locals → map called_of (map (known_local names) locals) ≡ map (outer_name ds) things
  locals_named [] [] are = refl
  locals_named (y ∷ things) (l ∷ locals) are = ap₂ (λ (n : Name) (ns : List Name). n ∷ ns) (local_called ds as_table names y l are.0) (locals_named things locals are.1)
  locals_named [] (l ∷ locals) are = absurd are
  locals_named (y ∷ things) [] are = absurd are

  -- no word of the text is a copy or a table
  no_word : (w : Name) (things : List Outer) (locals : List Local) → LocalsAre ds as_table things locals → IsNoneOf (fixed w) things
  no_word w [] [] are = tt
  no_word w (declared s n ∷ things) (l ∷ locals) are = (tt, no_word w things locals are.1)
  no_word w (copy k n ∷ things) (l ∷ locals) are = (tt, no_word w things locals are.1)
  no_word w (struct k n ∷ things) (l ∷ locals) are = absurd are.0
  no_word w (fixed n ∷ things) (l ∷ locals) are = absurd are.0
  no_word w [] (l ∷ locals) are = absurd are
  no_word w (y ∷ things) [] are = absurd are

  module _ (things : List Outer) (locals : List Local) (are : LocalsAre ds as_table things locals) (inside : AreIn ds things) (once : AreEachOnce things) where
    abbrev none : (w : Name) → IsNoneOf (fixed w) things
    none w = no_word w things locals are

    apart : (v w : Name) → bytes_eq v w ≡ false → v ≢ w
    apart v w e = differ_names v w e

    pub names_once : (r : Rule14) → repeats (map called_of (map (known_parameter names) pipeline_parameters ++ map (known_local names) (old_locals r ++ locals))) ≡ false
    names_once rule.Sequential =
        ap (λ (l : List Name). repeats (codes "hdr" ∷ codes "meta" ∷ codes "sm" ∷ l)) (locals_named things locals are)
        ∙ outer_names_differ.once ds (fixed (codes "hdr") ∷ fixed (codes "meta") ∷ fixed (codes "sm") ∷ things) (refl, (refl, (refl, inside))) (
          (apart (codes "hdr") (codes "meta") refl, (apart (codes "hdr") (codes "sm") refl, none (codes "hdr"))),
          (
            (apart (codes "meta") (codes "sm") refl, none (codes "meta")),
            (
              none (codes "sm"),
              once,
            ),
          ),
        )
    names_once rule.Parallel =
        ap (λ (l : List Name). repeats (codes "hdr" ∷ codes "meta" ∷ codes "sm" ∷ codes "old_hdr" ∷ codes "old_meta" ∷ codes "old_sm" ∷ l)) (locals_named things locals are)
        ∙ outer_names_differ.once ds (fixed (codes "hdr") ∷ fixed (codes "meta") ∷ fixed (codes "sm") ∷ fixed (codes "old_hdr") ∷ fixed (codes "old_meta") ∷ fixed (codes "old_sm") ∷ things) (refl, (refl, (refl, (refl, (refl, (refl, inside)))))) (
          (apart (codes "hdr") (codes "meta") refl, (apart (codes "hdr") (codes "sm") refl, (apart (codes "hdr") (codes "old_hdr") refl, (apart (codes "hdr") (codes "old_meta") refl, (apart (codes "hdr") (codes "old_sm") refl, none (codes "hdr")))))),
          (
            (apart (codes "meta") (codes "sm") refl, (apart (codes "meta") (codes "old_hdr") refl, (apart (codes "meta") (codes "old_meta") refl, (apart (codes "meta") (codes "old_sm") refl, none (codes "meta"))))),
            (
              (apart (codes "sm") (codes "old_hdr") refl, (apart (codes "sm") (codes "old_meta") refl, (apart (codes "sm") (codes "old_sm") refl, none (codes "sm")))),
              (
                (apart (codes "old_hdr") (codes "old_meta") refl, (apart (codes "old_hdr") (codes "old_sm") refl, none (codes "old_hdr"))),
                (
                  (apart (codes "old_meta") (codes "old_sm") refl, none (codes "old_meta")),
                  (
                    none (codes "old_sm"),
                    once,
                  ),
                ),
              ),
            ),
          ),
        )

pub pipeline_once : (ds : List Decl) (x : Expanded) (given : IsGiven ds x) (under : Rule14) (entries : Entries) (e : Bool) (text : Name) (body : Stmt) (which : Block) (owners : owners_of which ≡ of_headers ∷ of_metadata ∷ of_standard ∷ []) (names : List Known) → repeats (map called_of (control_names names (pipeline_written ds x under e text body))) ≡ false
pipeline_once ds x given under entries e text body which owners names =
    names_once ds (table_written ds x) names (pipeline_things ds (is_in_egress ds x) e (tables_in ds x e)) (locals_in ds x under e) (locals_are ds given.none given.short x under e) (own ds x given under entries e text body which owners).inside
    (things_once ds (is_in_egress ds x) e (tables_in ds x e) (tables_once ds x given under entries e text body which owners)) (rule_in ds x under e)
