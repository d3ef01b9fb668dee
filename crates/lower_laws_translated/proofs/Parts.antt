-- The parts that are written are what names are told of: types and objects, and six blocks that declare no object.
use Rattle.std.proofs.Common.{◌≡◌, inl, inr, Bool, true, false, List, [], ◌∷◌, ◌++◌, map, refl, sym, ap, ◌∙◌}
use Rattle.std.specs.Prelude.{codes, flat_map, filter_map}
use Rattle.std.proofs.lemmas.List.Concat.{flat_map-cons}
use Rattle.p414_syntax.specs.declared.syntax.Decl.{Decl}
use Rattle.p414_syntax.specs.declared.syntax.Rule14.{Rule14}
use Rattle.p414_syntax.specs.declared.syntax.Rule14.TheVariants as rule
use Rattle.p414_syntax.specs.Tree.{Stmt}
use Rattle.p414_syntax.specs.Names.{Name}
use Rattle.p414_sem.specs.Expanded.{Expanded}
use Rattle.p416_syntax.specs.declared.controls.Local.{Local}
use Rattle.p416_syntax.specs.declared.controls.Local.TheVariants as local
use Rattle.p416_syntax.specs.declared.program.Decl16.{Decl16}
use Rattle.p416_syntax.specs.declared.program.Decl16.TheVariants as decl16
use Rattle.p416_syntax.specs.Tables.{local_object, objects_of}
use Rattle.v1_core.specs.Signatures.{own_object, objects_in}
use Rattle.lower_laws_names.specs.Copies.{Copy}
use Rattle.lower_laws_program.specs.Program.{Parts, blocks_of}
use Rattle.lower_laws_program.specs.Controls.{old_var, old_locals}
use Rattle.v1_core.specs.Frames.{of_headers, of_metadata, of_standard}
use Rattle.lower_laws_states.specs.Expansions.{Has}
use Rattle.lower_laws_declared.specs.Controls.{PartsAre}
use Rattle.lower_laws_translated.specs.Translated.{table_written, action_written, copies_in, tables_in, locals_in, rule_in, pipeline_written, translated}

flat_none : {X Y : Type 0} (f : X → List Y) (xs : List X) → ((x : X) → Has xs x → f x ≡ []) → flat_map f xs ≡ []
flat_none f [] none = refl
flat_none f (x ∷ xs) none = flat_map-cons f x xs ∙ (rw (none x (inl refl)) (flat_none f xs (λ y h. none y (inr h))))

module _ (ds : List Decl) (x : Expanded) (under : Rule14) where
  abbrev own : List Copy → List Name → List Local
  own cs ns = map (λ (c : Copy). local.Action (action_written ds x under c)) cs ++ map (λ (n : Name). local.Table (table_written ds x n)) ns

  none_own : (cs : List Copy) (ns : List Name) → filter_map own_object (own cs ns) ≡ []
  none_own (c ∷ cs) ns = none_own cs ns
  none_own [] (n ∷ ns) = none_own [] ns
  none_own [] [] = refl

  none_named : (cs : List Copy) (ns : List Name) → flat_map local_object (own cs ns) ≡ []
  none_named (c ∷ cs) ns = flat_map-cons local_object (local.Action (action_written ds x under c)) (own cs ns) ∙ none_named cs ns
  none_named [] (n ∷ ns) = flat_map-cons local_object (local.Table (table_written ds x n)) (own [] ns) ∙ none_named [] ns
  none_named [] [] = refl

  old_own : (r : Rule14) (ls : List Local) → filter_map own_object ls ≡ [] → filter_map own_object (old_locals r ++ ls) ≡ []
  old_own rule.Sequential ls e = e
  old_own rule.Parallel ls e = e

  old_named : (r : Rule14) (ls : List Local) → flat_map local_object ls ≡ [] → flat_map local_object (old_locals r ++ ls) ≡ []
  old_named rule.Sequential ls e = e
  old_named rule.Parallel ls e =
      flat_map-cons local_object (old_var of_headers) (old_var of_metadata ∷ old_var of_standard ∷ ls)
      ∙ flat_map-cons local_object (old_var of_metadata) (old_var of_standard ∷ ls) ∙ flat_map-cons local_object (old_var of_standard) ls ∙ e

  pipeline_named : (e : Bool) (text : Name) (body : Stmt) → objects_of (decl16.Control (pipeline_written ds x under e text body)) ≡ []
  pipeline_named e text body = old_named (rule_in ds x under e) (locals_in ds x under e) (none_named (copies_in ds x e) (tables_in ds x e))

  pipeline_own : (e : Bool) (text : Name) (body : Stmt) → objects_in (decl16.Control (pipeline_written ds x under e text body)) ≡ []
  pipeline_own e text body = old_own (rule_in ds x under e) (locals_in ds x under e) (none_own (copies_in ds x e) (tables_in ds x e))

  abbrev p : Parts
  p = translated ds x under

  each_named : (d : Decl16) → Has (blocks_of p) d → objects_of d ≡ []
  each_named d (inl e) = ap objects_of (sym e)
  each_named d (inr (inl e)) = ap objects_of (sym e)
  each_named d (inr (inr (inl e))) = ap objects_of (sym e) ∙ pipeline_named false (codes "I") x.ingress
  each_named d (inr (inr (inr (inl e)))) = ap objects_of (sym e) ∙ pipeline_named true (codes "E") x.egress
  each_named d (inr (inr (inr (inr (inl e))))) = ap objects_of (sym e)
  each_named d (inr (inr (inr (inr (inr (inl e)))))) = ap objects_of (sym e)
  each_named d (inr (inr (inr (inr (inr (inr h)))))) = absurd h

  each_own : (d : Decl16) → Has (blocks_of p) d → objects_in d ≡ []
  each_own d (inl e) = ap objects_in (sym e)
  each_own d (inr (inl e)) = ap objects_in (sym e)
  each_own d (inr (inr (inl e))) = ap objects_in (sym e) ∙ pipeline_own false (codes "I") x.ingress
  each_own d (inr (inr (inr (inl e)))) = ap objects_in (sym e) ∙ pipeline_own true (codes "E") x.egress
  each_own d (inr (inr (inr (inr (inl e))))) = ap objects_in (sym e)
  each_own d (inr (inr (inr (inr (inr (inl e)))))) = ap objects_in (sym e)
  each_own d (inr (inr (inr (inr (inr (inr h)))))) = absurd h

  pub parts_are : PartsAre ds x p
  parts_are = record {
    types = refl;
    names = refl;
    none = flat_none objects_of (blocks_of p) each_named;
    empty = flat_none objects_in (blocks_of p) each_own;
  }
