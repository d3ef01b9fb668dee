-- The names of both programs are the same for the control plane (C1).
use Rattle.std.proofs.Common.{◌≡◌, inl, inr, Bool, true, false, not, cond, Some, List, [], ◌∷◌, ◌++◌, map, refl, sym, ap, ap₂, ◌∙◌, subst}
use Rattle.std.specs.Prelude.{filter, flat_map}
use Rattle.std.proofs.lemmas.Bool.{true≢false}
use Rattle.std.proofs.lemmas.List.{append-nil, map-append}
use Rattle.p414_syntax.specs.declared.tables.Table.{Table}
use Rattle.p414_syntax.specs.declared.syntax.Decl.{Decl}
use Rattle.p414_syntax.specs.declared.syntax.Sort.TheVariants as sort
use Rattle.p414_syntax.specs.Names.{Name, names_in}
use Rattle.p414_sem.specs.Expanded.{Expanded}
use Rattle.p414_sem.specs.Signatures.{object_sig as object14}
use Rattle.p416_syntax.specs.declared.controls.Table16.{Table16}
use Rattle.p416_syntax.specs.declared.controls.Control16.{Control16}
use Rattle.p416_syntax.specs.declared.program.Decl16.{Decl16}
use Rattle.p416_syntax.specs.declared.program.Decl16.TheVariants as decl16
use Rattle.p416_syntax.specs.declared.program.Syntax16.{Syntax16}
use Rattle.p416_syntax.specs.Declarations.{tables_in, control_scope}
use Rattle.p416_syntax.specs.Breaks.{scope_of}
use Rattle.p416_syntax.specs.Tables.{table_plane, tables_of, objects_of}
use Rattle.v1_core.specs.Signatures.{Placed, placed, placed_in, placed_tables, table_with, object_sig as object16}
use Rattle.lower_laws_names.specs.Objects.{top_decls}
use Rattle.lower_laws_names.proofs.Objects.{names_more, no_types, object_planes, objects_alike}
use Rattle.lower_laws_names.specs.Objects.{object_decls}
use Rattle.lower_laws_names.specs.Types.{type_decls}
use Rattle.lower_laws_states.specs.Expansions.{Has}
use Rattle.lower_laws_states.proofs.Filling.{each_there}
use Rattle.lower_laws_controls.specs.Listing.{Each}
use Rattle.lower_laws_controls.proofs.Whole.{TableSame, NamesSame}
use Rattle.lower_laws_program.specs.Program.{Parts, blocks_of, decls_of, syntax_of}
use Rattle.lower_laws_declared.specs.Controls.{PartsAre, TablesAre, SignaturesAre, stands_in}
use Rattle.lower_laws_declared.proofs.Texts.{NoBlocks, top_no_blocks, gathered, placed_has, placed_lacks}

no_tables_in : (d : Decl16) → NoBlocks (d ∷ []) → tables_of d ≡ []
no_tables_in (decl16.Control c) h = absurd h
no_tables_in (decl16.Header c) h = refl
no_tables_in (decl16.Struct c) h = refl
no_tables_in (decl16.Instance n c) h = refl
no_tables_in (decl16.Parser c) h = refl

none_placed_in : (syntax : Syntax16) (d : Decl16) → NoBlocks (d ∷ []) → placed_in syntax d ≡ []
none_placed_in syntax (decl16.Control c) h = absurd h
none_placed_in syntax (decl16.Header c) h = refl
none_placed_in syntax (decl16.Struct c) h = refl
none_placed_in syntax (decl16.Instance n c) h = refl
none_placed_in syntax (decl16.Parser c) h = refl

planes_back : (as_table : Name → Table16) → ((n : Name) → table_plane (as_table n) ≡ n) → (names : List Name) → map table_plane (map as_table names) ≡ names
planes_back as_table planes [] = refl
planes_back as_table planes (n ∷ names) = ap₂ (λ (m : Name) (ms : List Name). m ∷ ms) (planes n) (planes_back as_table planes names)

-- a name that passes is kept, and one that doesn't isn't
pub kept : (p : Name → Bool) (names : List Name) (n : Name) → Has names n → p n ≡ true → Has (filter p names) n
kept p [] n h e = absurd h
kept p (m ∷ names) n (inl same) e = subst (λ (b : Bool). Has (cond b (m ∷ filter p names) (filter p names)) n) (sym (ap p same ∙ e)) (inl same)
kept p (m ∷ names) n (inr h) e = by (p m) (kept p names n h e) where
  by : (b : Bool) → Has (filter p names) n → Has (cond b (m ∷ filter p names) (filter p names)) n
  by true r = inr r
  by false r = r

pub passes : (p : Name → Bool) (names : List Name) (n : Name) → Has (filter p names) n → p n ≡ true
passes p [] n h = absurd h
passes p (m ∷ names) n h = by (p m) refl h (passes p names n) where
  by : (b : Bool) → p m ≡ b → Has (cond b (m ∷ filter p names) (filter p names)) n → (Has (filter p names) n → p n ≡ true) → p n ≡ true
  by true e (inl same) rest = ap p (sym same) ∙ e
  by true e (inr h) rest = rest h
  by false e h rest = rest h

module _ (ds : List Decl) (x : Expanded) (p : Parts) (are : PartsAre ds x p) (in_ingress : Name → Bool) (as_table : Name → Table16) (own : TablesAre ds in_ingress as_table p) where
  abbrev syntax : Syntax16
  syntax = syntax_of p

  abbrev ingress_names : List Name
  ingress_names = filter in_ingress (names_in sort.Table ds)

  abbrev egress_names : List Name
  egress_names = filter (λ (n : Name). not (in_ingress n)) (names_in sort.Table ds)

  pub decls_are : decls_of p ≡ top_decls ds x ++ blocks_of p
  decls_are = ap (λ (l : List Decl16). l ++ blocks_of p) are.types

  all_tables : flat_map tables_of (decls_of p) ≡ map as_table ingress_names ++ map as_table egress_names
  all_tables =
      ap (flat_map tables_of) decls_are ∙ gathered tables_of no_tables_in (top_decls ds x) (blocks_of p) (top_no_blocks ds x)
      ∙ by (tables_in p.verify) (tables_in p.ingress) (tables_in p.egress) (tables_in p.compute) (tables_in p.deparser) own.verify own.ingress own.egress own.compute own.deparser
    where
      by : (v i e c d : List Table16) → v ≡ [] → i ≡ map as_table ingress_names → e ≡ map as_table egress_names → c ≡ [] → d ≡ [] → v ++ (i ++ (e ++ (c ++ (d ++ [])))) ≡ map as_table ingress_names ++ map as_table egress_names
      by v i e c d a b f g h = rw (a, b, f, g, h) (ap (λ (l : List Table16). map as_table ingress_names ++ l) (append-nil (map as_table egress_names)))

  pub tables_same : map table_plane (flat_map tables_of (decls_of p)) ≡ ingress_names ++ egress_names
  tables_same =
      ap (map table_plane) all_tables ∙ map-append table_plane (map as_table ingress_names) (map as_table egress_names)
      ∙ ap₂ (λ (a b : List Name). a ++ b) (planes_back as_table own.planes ingress_names) (planes_back as_table own.planes egress_names)

  -- objects
  pub objects_same : flat_map objects_of (decls_of p) ≡ names_in sort.Object ds
  objects_same =
      ap (flat_map objects_of) decls_are ∙ names_more ds (top_decls ds x) (blocks_of p)
      ∙ ap₂ (λ (a b : List Name). a ++ b) (names_more ds (type_decls ds x) (object_decls ds) ∙ ap₂ (λ (a b : List Name). a ++ b) (no_types ds x).0 (object_planes ds)) are.none
      ∙ append-nil (names_in sort.Object ds)

  each_object : (names : List Name) → Each (λ name. object16 syntax name ≡ object14 ds name) names
  each_object [] = tt
  each_object (n ∷ names) = ((objects_alike ds x syntax (blocks_of p) decls_are are.none are.empty).1 n, each_object names)

  -- tables

  abbrev place_in : Control16 → Table16 → Placed
  place_in c t = placed (control_scope (scope_of syntax (decl16.Control c)) c) c.locals t

  all_placed : placed_tables syntax ≡ map (place_in p.ingress) (map as_table ingress_names) ++ (map (place_in p.egress) (map as_table egress_names) ++ [])
  all_placed =
      ap (flat_map (placed_in syntax)) decls_are ∙ gathered (placed_in syntax) (none_placed_in syntax) (top_decls ds x) (blocks_of p) (top_no_blocks ds x)
      ∙ by (tables_in p.verify) (tables_in p.ingress) (tables_in p.egress) (tables_in p.compute) (tables_in p.deparser) own.verify own.ingress own.egress own.compute own.deparser
    where
      by : (v i e c d : List Table16) → v ≡ [] → i ≡ map as_table ingress_names → e ≡ map as_table egress_names → c ≡ [] → d ≡ []
          → map (place_in p.verify) v ++ (map (place_in p.ingress) i ++ (map (place_in p.egress) e ++ (map (place_in p.compute) c ++ (map (place_in p.deparser) d ++ []))))
          ≡ map (place_in p.ingress) (map as_table ingress_names) ++ (map (place_in p.egress) (map as_table egress_names) ++ [])
      by v i e c d a b f g h = rw (a, b, f, g, h) refl

  its_place : (name : Name) → Has (names_in sort.Table ds) name → table_with (placed_tables syntax) name ≡ Some (place_in (stands_in in_ingress p name) (as_table name))
  its_place name h = ap (λ (l : List Placed). table_with l name) all_placed ∙ by (in_ingress name) refl where
    behind : List Placed
    behind = map (place_in p.egress) (map as_table egress_names) ++ []

    by : (b : Bool) → in_ingress name ≡ b → table_with (map (place_in p.ingress) (map as_table ingress_names) ++ behind) name ≡ Some (place_in (cond (in_ingress name) p.ingress p.egress) (as_table name))
    by true e =
        placed_has (place_in p.ingress) (λ t. refl) as_table own.planes ingress_names behind name (kept in_ingress (names_in sort.Table ds) name h e)
        ∙ ap (λ (b : Bool). Some (place_in (cond b p.ingress p.egress) (as_table name))) (sym e)
    by false e =
        placed_lacks (place_in p.ingress) (λ t. refl) as_table own.planes ingress_names behind name (λ there. true≢false (sym (passes in_ingress (names_in sort.Table ds) name there) ∙ e))
        ∙ placed_has (place_in p.egress) (λ t. refl) as_table own.planes egress_names [] name (kept (λ (n : Name). not (in_ingress n)) (names_in sort.Table ds) name h (ap not e))
        ∙ ap (λ (b : Bool). Some (place_in (cond b p.ingress p.egress) (as_table name))) (sym e)

  each_table : SignaturesAre ds in_ingress as_table p → (names : List Name) → ((n : Name) → Has names n → Has (names_in sort.Table ds) n) → Each (TableSame ds syntax) names
  each_table same [] among = tt
  each_table same (n ∷ names) among =
      let t = each_there ds n (among n (inl refl)) in (
        record { t = t.0; p = place_in (stands_in in_ingress p n) (as_table n); declared14 = t.1; declared16 = its_place n (among n (inl refl)); signature = same n t.0 t.1 },
        each_table same names (λ m h. among m (inr h)),
      )

  pub names_same : SignaturesAre ds in_ingress as_table p → NamesSame ds syntax
  names_same same = record {
    in_ingress = in_ingress;
    tables = tables_same;
    each_table = each_table same (names_in sort.Table ds) (λ n h. h);
    objects = objects_same;
    each_object = each_object (names_in sort.Object ds);
  }
