-- What tables read is there (C2, C4, C11).
use Rattle.std.proofs.Common.{◌≡◌, inl, Bool, true, false, cond, not, List, [], ◌∷◌, ◌++◌, refl, sym, ap, ◌∙◌, subst}
use Rattle.std.specs.Prelude.{codes, flat_map, is_some, nat_lt, length, ◌||◌}
use Rattle.std.specs.List.{list_any}
use Rattle.std.specs.Str.{bytes_eq}
use Rattle.std.proofs.lemmas.List.Concat.{flat_map-cons}
use Rattle.p414_syntax.specs.declared.parts.Inst.{Inst}
use Rattle.p414_syntax.specs.declared.headers.Header.{Header}
use Rattle.p414_syntax.specs.declared.syntax.Decl.{Decl}
use Rattle.p414_syntax.specs.declared.syntax.Decl.TheVariants as decl
use Rattle.p414_syntax.specs.declared.tables.Read.{Read}
use Rattle.p414_syntax.specs.declared.tables.ReadKey.{ReadKey}
use Rattle.p414_syntax.specs.declared.tables.ReadKey.TheVariants as read_key
use Rattle.p414_syntax.specs.declared.tables.Table.{Table}
use Rattle.p414_syntax.specs.declared.tables.TableAttr.{TableAttr}
use Rattle.p414_syntax.specs.declared.tables.TableAttr.TheVariants as table_attr
use Rattle.p414_syntax.specs.Attributes.{reads_of}
use Rattle.p414_syntax.specs.Names.{Name}
use Rattle.p414_syntax.specs.Breaks.{BreaksNone, IsBroken, program_rules}
use Rattle.p414_syntax.specs.Fields.{is_header}
use Rattle.p414_syntax.specs.Tables.{table_in, tables, is_header_key, is_field_key, field_kinds, is_bad_key, has_bad_keys, has_bad_key}
use Rattle.p414_syntax.specs.Names.{has_name}
use Rattle.p414_syntax.specs.Uses.{Use, of_field, of_instance, uses_of_key, uses_of_read, uses_of_table_attr, uses_of, uses}
use Rattle.p414_sem.specs.Slots.{element_of}
use Rattle.lower_laws_base.specs.Context.{Lowering, IsHeaderPart}
use Rattle.lower_laws_controls.specs.Keys.{KeyFits, KeysFit}
use Rattle.lower_laws_states.specs.Expansions.{Has}
use Rattle.lower_laws_states.proofs.Members.{has_right, has_joined, picked_has, neither, none_passes, of_not, not_true}
use Rattle.lower_laws_states.proofs.Chosen.{declared_table}
use Rattle.lower_laws_states.proofs.Declared.{header_there, numbered_so, within_stack}
use Rattle.lower_laws_states.proofs.Rules.{stacks_right}
use Rattle.lower_laws_premises.specs.Shown.{ShowsInstances, HasRoots}
use Rattle.lower_laws_premises.proofs.LayoutFits.{header_is}
use Rattle.lower_laws_translated.proofs.Leaves.{field_there, placed}

-- what a table reads, it uses
read_used : (attributes : List TableAttr) (u : Use) → Has (flat_map uses_of_read (reads_of attributes)) u → Has (flat_map uses_of_table_attr attributes) u
read_used [] u h = absurd h
read_used (table_attr.Reads rs ∷ rest) u h = has_joined uses_of_table_attr (table_attr.Reads rs ∷ rest) (table_attr.Reads rs) u (inl refl) h
read_used (a ∷ rest) u h =
    subst (λ (l : List Use). Has l u) (sym (flat_map-cons uses_of_table_attr a rest)) (has_right (uses_of_table_attr a) (flat_map uses_of_table_attr rest) u (read_used rest u h))

module _ (c : Lowering) (ds : List Decl) (none : BreaksNone ds program_rules) (shows : ShowsInstances c ds) (roots : HasRoots c) where
  -- C11
  no_bad_key : has_bad_key ds ≡ false
  unfolding IsBroken
  no_bad_key = not_true (has_bad_key ds) none.1.1.1.1.1.1.1.1.1.1.0

  header_part : (i : Inst) → Has (uses ds) (of_instance i) → is_header ds i.name ≡ true → IsHeaderPart c.layout (element_of ds i)
  header_part i used is =
      let h = header_there ds i.name is in
      header_is c ds shows roots (element_of ds i) (record { header = h.0; numbered_so = numbered_so ds i.name (decl.Header h.0) h.1; element = within_stack ds (stacks_right ds none) i (decl.Header h.0) h.1 (placed c ds none shows roots i used) })

  key_fits : (k : ReadKey) (kind : Name) (r : Read) → r.key ≡ k → ((u : Use) → Has (uses_of_key k) u → Has (uses ds) u) → is_bad_key ds r ≡ false → KeyFits c.layout ds k
  key_fits (read_key.Field f) kind r same used good = field_there c ds none shows roots f (used (of_field f) (inl refl))
  key_fits (read_key.Instance i) kind r same used good = header_part i (used (of_instance i) (inl refl)) (by (bytes_eq r.kind (codes "valid")) good) where
    by : (b : Bool) → cond b (not (is_header_key ds r.key) || is_some r.mask) (not (is_field_key r.key) || not (has_name field_kinds r.kind)) ≡ false → is_header ds i.name ≡ true
    by true e = ap (is_header_key ds) (sym same) ∙ of_not _ (neither (not (is_header_key ds r.key)) (is_some r.mask) e).0
    by false e = absurd (cc ((neither (not (is_field_key r.key)) (not (has_name field_kinds r.kind)) e).0, ap is_field_key same))

  reads_fit : (rs : List Read) → ((u : Use) → Has (flat_map uses_of_read rs) u → Has (uses ds) u) → list_any (is_bad_key ds) rs ≡ false → KeysFit c.layout ds rs
  reads_fit [] used good = tt
  reads_fit (r ∷ rs) used good =
      let s = neither (is_bad_key ds r) (list_any (is_bad_key ds) rs) good in (
        key_fits r.key r.kind r refl (λ u h. used u (has_joined uses_of_read (r ∷ rs) r u (inl refl) h)) s.0,
        reads_fit rs (λ u h. used u (subst (λ (l : List Use). Has l u) (sym (flat_map-cons uses_of_read r rs)) (has_right (uses_of_read r) (flat_map uses_of_read rs) u h))) s.1,
      )

  pub keys_fit : (t : Table) → Has (tables ds) t → KeysFit c.layout ds (reads_of t.attributes)
  keys_fit t h =
      let d = picked_has table_in ds t h in
      let there : Has ds (decl.Table t) = subst (Has ds) (declared_table d.0 t d.2) d.1 in
      reads_fit (reads_of t.attributes) (λ u g. has_joined uses_of ds (decl.Table t) u there (read_used t.attributes u g))
      (neither (list_any (is_bad_key ds) (reads_of t.attributes)) (nat_lt 64 (length (reads_of t.attributes))) (none_passes (has_bad_keys ds) (tables ds) t no_bad_key h)).0
