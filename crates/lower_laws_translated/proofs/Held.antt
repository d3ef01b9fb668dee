-- What T12 counts of the variables old_hdr, old_meta and old_sm of both pipelines (C7).
use Rattle.std.proofs.Common.{◌≡◌, ℕ, suc, ◌+◌, ◌*◌, ◌≤◌, Bool, true, false, List, [], ◌∷◌, ◌++◌, length, map, refl, sym, ap, ◌∙◌, subst, arith}
use Rattle.std.specs.Prelude.{flat_map, sum_by}
use Rattle.std.proofs.lemmas.List.Concat.{flat_map-cons}
use Rattle.p414_syntax.specs.declared.syntax.Decl.{Decl}
use Rattle.p414_syntax.specs.declared.syntax.Rule14.{Rule14}
use Rattle.p414_syntax.specs.declared.syntax.Rule14.TheVariants as rule
use Rattle.p414_syntax.specs.Names.{Name}
use Rattle.p414_sem.specs.Expanded.{Expanded}
use Rattle.p416_syntax.specs.declared.controls.Local.{Local}
use Rattle.p416_syntax.specs.declared.controls.Local.TheVariants as local
use Rattle.p416_syntax.specs.declared.program.Decl16.{Decl16}
use Rattle.p416_syntax.specs.declared.program.Decl16.TheVariants as decl16
use Rattle.p416_syntax.specs.Kinds.{Kind, struct}
use Rattle.p416_syntax.specs.BuiltIn.{standard_name}
use Rattle.p416_syntax.specs.Scopes.{Layout, FieldKind}
use Rattle.p416_syntax.specs.Declarations.{layouts_of}
use Rattle.p416_syntax.specs.Totals.{fields_within, octets_within, fields_of_kind, octets_of_kind}
use Rattle.v1_core.specs.Frames.{of_headers, of_metadata, of_standard}
use Rattle.lower_laws_names.specs.Copies.{Copy}
use Rattle.lower_laws_names.specs.Objects.{top_decls}
use Rattle.lower_laws_program.specs.Program.{Parts, blocks_of, decls_of, root_struct}
use Rattle.lower_laws_program.specs.Controls.{old_var, old_locals}
use Rattle.lower_laws_program.proofs.Layouts.{standard_layout_is}
use Rattle.lower_laws_program.proofs.Zeros.{deep}
use Rattle.lower_laws_rules.specs.Declared.{local_held}
use Rattle.lower_laws_block_rules.specs.Joined.{decl_held}
use Rattle.lower_laws_declared.specs.Layout.{layout_shaped, type_words}
use Rattle.lower_laws_declared.proofs.Numbers.{declared_once}
use Rattle.lower_laws_declared.proofs.Texts.{NoBlocks, top_no_blocks, gathered}
use Rattle.lower_laws_declared.proofs.Totals.{fields_bound}
use Rattle.lower_laws_declared.proofs.Octets.{octets_bound}
use Rattle.lower_laws_declared.proofs.Whole.{parts_types}
use Rattle.lower_laws_translated.specs.Given.{IsGiven}
use Rattle.lower_laws_translated.specs.Translated.{copies_in, tables_in, table_written, action_written, rule_in, locals_in, translated}
use Rattle.lower_laws_translated.proofs.Parts.{parts_are}

-- the kinds of the three variables
abbrev pub old_kinds : Rule14 → List Kind
old_kinds rule.Sequential = []
old_kinds rule.Parallel = struct (root_struct of_headers) ∷ struct (root_struct of_metadata) ∷ struct standard_name ∷ []

nothing_held : (d : Decl16) → NoBlocks (d ∷ []) → decl_held d ≡ []
nothing_held (decl16.Control c) h = absurd h
nothing_held (decl16.Header c) h = refl
nothing_held (decl16.Struct c) h = refl
nothing_held (decl16.Instance n c) h = refl
nothing_held (decl16.Parser c) h = refl

module _ (ds : List Decl) (x : Expanded) (under : Rule14) where
  abbrev p : Parts
  p = translated ds x under

  abbrev own : List Copy → List Name → List Local
  own cs ns = map (λ (c : Copy). local.Action (action_written ds x under c)) cs ++ map (λ (n : Name). local.Table (table_written ds x n)) ns

  own_held : (cs : List Copy) (ns : List Name) → flat_map local_held (own cs ns) ≡ []
  own_held (c ∷ cs) ns = flat_map-cons local_held (local.Action (action_written ds x under c)) (own cs ns) ∙ own_held cs ns
  own_held [] (n ∷ ns) = flat_map-cons local_held (local.Table (table_written ds x n)) (own [] ns) ∙ own_held [] ns
  own_held [] [] = refl

  old_held : (r : Rule14) (ls : List Local) → flat_map local_held ls ≡ [] → flat_map local_held (old_locals r ++ ls) ≡ old_kinds r
  old_held rule.Sequential ls e = e
  old_held rule.Parallel ls e =
      flat_map-cons local_held (old_var of_headers) (old_var of_metadata ∷ old_var of_standard ∷ ls)
      ∙ ap (λ (l : List Kind). struct (root_struct of_headers) ∷ l) (flat_map-cons local_held (old_var of_metadata) (old_var of_standard ∷ ls)
      ∙ ap (λ (l : List Kind). struct (root_struct of_metadata) ∷ l) (flat_map-cons local_held (old_var of_standard) ls ∙ ap (λ (l : List Kind). struct standard_name ∷ l) e))

  pipeline_held : (e : Bool) → flat_map local_held (old_locals (rule_in ds x under e) ++ locals_in ds x under e) ≡ old_kinds (rule_in ds x under e)
  pipeline_held e = old_held (rule_in ds x under e) (locals_in ds x under e) (own_held (copies_in ds x e) (tables_in ds x e))

  all_held : flat_map decl_held (decls_of p) ≡ old_kinds (rule_in ds x under false) ++ (old_kinds (rule_in ds x under true) ++ [])
  all_held =
      gathered decl_held nothing_held (top_decls ds x) (blocks_of p) (top_no_blocks ds x)
      ∙ by (flat_map local_held p.ingress.locals) (flat_map local_held p.egress.locals) _ _ (pipeline_held false) (pipeline_held true)
    where
      by : (a b c d : List Kind) → a ≡ c → b ≡ d → [] ++ ([] ++ (a ++ (b ++ ([] ++ ([] ++ []))))) ≡ c ++ (d ++ [])
      by a b c d e f = rw (e, f) refl

  module _ (given : IsGiven ds x) where
    abbrev ls : List Layout
    ls = layouts_of (decls_of p)

    deepest : (m : ℕ) × (length ls ≡ suc (suc m))
    deepest = deep (layout_shaped ds []) ds x (type_words ds x) p (parts_types ds given.none given.short x given.expanded p (parts_are ds x under) []) (declared_once ds given.none given.short x p (parts_are ds x under)) refl

    standard_fields : fields_of_kind ls (struct standard_name) ≡ 7
    standard_fields =
        ap (λ (k : ℕ). fields_within ls k (struct standard_name)) deepest.1
        ∙ ap (sum_by (λ (f : FieldKind). fields_within ls (suc deepest.0) f.kind)) (standard_layout_is (layout_shaped ds []) ds x (type_words ds x) p (parts_types ds given.none given.short x given.expanded p (parts_are ds x under) []) (declared_once ds given.none given.short x p (parts_are ds x under)))

    standard_octets : octets_of_kind ls (struct standard_name) ≡ 0
    standard_octets =
        ap (λ (k : ℕ). octets_within ls k (struct standard_name)) deepest.1
        ∙ ap (sum_by (λ (f : FieldKind). octets_within ls (suc deepest.0) f.kind)) (standard_layout_is (layout_shaped ds []) ds x (type_words ds x) p (parts_types ds given.none given.short x given.expanded p (parts_are ds x under) []) (declared_once ds given.none given.short x p (parts_are ds x under)))

    -- sums over the variables of both pipelines
    sums : (F : Kind → ℕ) (r s : Rule14) → sum_by F (old_kinds r ++ (old_kinds s ++ [])) ≤ 2 * (F (struct (root_struct of_headers)) + F (struct (root_struct of_metadata)) + F (struct standard_name))
    sums F rule.Sequential rule.Sequential = omega arith
    sums F rule.Sequential rule.Parallel = omega arith
    sums F rule.Parallel rule.Sequential = omega arith
    sums F rule.Parallel rule.Parallel = omega arith

    pub held_fields : sum_by (fields_of_kind ls) (flat_map decl_held (decls_of p)) ≤ 262144
    held_fields = subst (λ (ks : List Kind). sum_by (fields_of_kind ls) ks ≤ 262144) (sym all_held)
        (omega (arith, sums (fields_of_kind ls) (rule_in ds x under false) (rule_in ds x under true), standard_fields, fields_bound ds given.none given.short x given.expanded p (parts_are ds x under) refl))

    pub held_octets : sum_by (octets_of_kind ls) (flat_map decl_held (decls_of p)) ≤ 131072
    held_octets = subst (λ (ks : List Kind). sum_by (octets_of_kind ls) ks ≤ 131072) (sym all_held)
        (omega (arith, sums (octets_of_kind ls) (rule_in ds x under false) (rule_in ds x under true), standard_octets, octets_bound ds given.none given.short x given.expanded p (parts_are ds x under) refl))
