-- The keys of tables are fields and headers that are there (C2, C4, C11, C25).
use Rattle.std.proofs.Common.{◌≡◌, inl, inr, Bool, true, false, not, ◌||◌, cond, List, [], ◌∷◌, length, refl, sym, ◌∙◌, subst}
use Rattle.std.specs.Prelude.{codes, is_some, flat_map, nat_lt}
use Rattle.std.specs.List.{list_any}
use Rattle.std.specs.Str.{bytes_eq}
use Rattle.std.proofs.lemmas.List.Concat.{flat_map-cons}
use Rattle.p414_syntax.specs.declared.tables.Read.{Read}
use Rattle.p414_syntax.specs.declared.tables.ReadKey.{ReadKey}
use Rattle.p414_syntax.specs.declared.tables.ReadKey.TheVariants as read_key
use Rattle.p414_syntax.specs.declared.tables.Table.{Table}
use Rattle.p414_syntax.specs.declared.tables.TableAttr.{TableAttr}
use Rattle.p414_syntax.specs.declared.tables.TableAttr.TheVariants as table_attr
use Rattle.p414_syntax.specs.declared.parts.Inst.{Inst}
use Rattle.p414_syntax.specs.declared.syntax.Decl.{Decl}
use Rattle.p414_syntax.specs.declared.syntax.Decl.TheVariants as decl
use Rattle.p414_syntax.specs.declared.syntax.Rule14.{Rule14}
use Rattle.p414_syntax.specs.Attributes.{reads_of}
use Rattle.p414_syntax.specs.Breaks.{IsBroken}
use Rattle.p414_syntax.specs.Fields.{is_header}
use Rattle.p414_syntax.specs.ParserGraph.{instance_number}
use Rattle.p414_syntax.specs.Tables.{table_in, tables, is_header_key, is_field_key, is_bad_key, has_bad_keys, has_bad_key, field_kinds}
use Rattle.p414_syntax.specs.Names.{has_name}
use Rattle.p414_syntax.specs.Uses.{Use, of_field, of_instance, uses_of_key, uses_of_read, uses_of_table_attr, uses_of, uses}
use Rattle.p414_sem.specs.Slots.{Slot, standard, declared, slot_of, element_of}
use Rattle.p414_sem.specs.Expanded.{Expanded}
use Rattle.p416_syntax.specs.declared.program.Decl16.{Decl16}
use Rattle.agreement_of_meanings.specs.Shown.{Shown, as_header, as_stack, as_metadata, owner_of}
use Rattle.lower_laws_base.specs.Context.{StateLayout, shown_on, HasRoot, IsSlot, ObjectName}
use Rattle.lower_laws_base.specs.Between.{between}
use Rattle.lower_laws_controls.specs.Keys.{KeyFits, KeysFit}
use Rattle.lower_laws_states.specs.Expansions.{Has}
use Rattle.lower_laws_states.specs.Laws.{BreaksNo}
use Rattle.lower_laws_states.specs.Standing.{HeaderStands}
use Rattle.lower_laws_states.proofs.Members.{has_joined, has_right, none_passes, neither, not_true, of_not, picked_has}
use Rattle.lower_laws_states.proofs.Rules.{stacks_right}
use Rattle.lower_laws_states.proofs.Chosen.{declared_table}
use Rattle.lower_laws_states.proofs.Declared.{header_there, numbered_so, element_within}
use Rattle.lower_laws_states.proofs.Standing.{field_stands}
use Rattle.lower_laws_program.specs.TypesFit.{TypeWords, TypesFit}
use Rattle.lower_laws_program.specs.Scopes.{block_layout}
use Rattle.lower_laws_program.specs.Fits.{pipeline_block}
use Rattle.lower_laws_program.proofs.Standing.{slot_is, bits_are, header_is}
use Rattle.lower_laws_program.proofs.States.{bits_named}

-- a key is a use
key_used : (attributes : List TableAttr) (r : Read) (u : Use) → Has (reads_of attributes) r → Has (uses_of_key r.key) u → Has (flat_map uses_of_table_attr attributes) u
key_used [] r u h k = absurd h
key_used (table_attr.Reads rs ∷ rest) r u h k = has_joined uses_of_table_attr (table_attr.Reads rs ∷ rest) (table_attr.Reads rs) u (inl refl) (has_joined uses_of_read rs r u h k)
key_used (a ∷ rest) r u h k =
    subst (λ (l : List Use). Has l u) (sym (flat_map-cons uses_of_table_attr a rest)) (has_right (uses_of_table_attr a) (flat_map uses_of_table_attr rest) u (key_used rest r u h k))

module _ (ds : List Decl) (none : BreaksNo ds) (t : Table) (there : Has (tables ds) t) where
  used : (r : Read) (u : Use) → Has (reads_of t.attributes) r → Has (uses_of_key r.key) u → Has (uses ds) u
  used r u h k =
      let d = picked_has table_in ds t there in
      has_joined uses_of ds d.0 u d.1 (subst (λ (y : Decl). Has (uses_of y) u) (sym (declared_table d.0 t d.2)) (key_used t.attributes r u h k))

  -- C11
  keys_right : has_bad_key ds ≡ false
  unfolding IsBroken
  keys_right = not_true (has_bad_key ds) none.1.1.1.1.1.1.1.1.1.1.0

  key_right : (r : Read) → Has (reads_of t.attributes) r → is_bad_key ds r ≡ false
  key_right r h = none_passes (is_bad_key ds) (reads_of t.attributes) r (neither (list_any (is_bad_key ds) (reads_of t.attributes)) (nat_lt 64 (length (reads_of t.attributes))) (none_passes (has_bad_keys ds) (tables ds) t keys_right there)).0 h

  -- an instance that is a key is a header
  key_header : (i : Inst) (b m k : Bool) → cond b (not (is_header ds i.name) || m) (not false || k) ≡ false → is_header ds i.name ≡ true
  key_header i true m k e = of_not _ (neither (not (is_header ds i.name)) m e).0
  key_header i false m k e = absurd (cc e)

  module _ (g : StateLayout) (x : Expanded) (w : TypeWords) (types : List Decl16) (fits : TypesFit g ds x w types) (r : Rule14) (objects : List ObjectName) where
    abbrev h : StateLayout
    h = block_layout g (pipeline_block r objects)

    root_there : (y : Shown) → HasRoot h (owner_of y)
    root_there (as_header called fields) = refl
    root_there (as_stack called fields) = refl
    root_there (as_metadata called fields) = refl

    slot_here : (s : Slot) → IsSlot (between g) s → IsSlot h s
    slot_here (standard which) is = refl
    slot_here (declared i e k) is = (is.0, is.1, root_there (shown_on g i), is.3)

    one_fits : (key : ReadKey) → ((u : Use) → Has (uses_of_key key) u → Has (uses ds) u) → (m k : Bool) (b : Bool) → cond b (not (is_header_key ds key) || m) (not (is_field_key key) || k) ≡ false → KeyFits h ds key
    one_fits (read_key.Field f) in_use m k b right =
        let stands = field_stands ds none f (in_use (of_field f) (inl refl)) in
        (slot_here (slot_of ds f) (slot_is g ds fits.shown fits.widths (slot_of ds f) stands), sym (bits_named ds none f (in_use (of_field f) (inl refl)) ∙ bits_are g ds fits.shown fits.widths (slot_of ds f) stands))
    one_fits (read_key.Instance i) in_use m k b right =
        let one = header_there ds i.name (key_header i b m k right) in
        let stands : HeaderStands ds (element_of ds i) = record { header = one.0; numbered_so = numbered_so ds i.name (decl.Header one.0) one.1; element = element_within ds (stacks_right ds none) i (decl.Header one.0) one.1 (in_use (of_instance i) (inl refl)) } in
        let part = header_is g ds fits.shown fits.widths (element_of ds i) stands in
        ((part.0.0, part.0.1, root_there (shown_on g (instance_number ds i.name))), part.1)

    fits_all : (rs : List Read) → ((y : Read) → Has rs y → Has (reads_of t.attributes) y) → KeysFit h ds rs
    fits_all [] among = tt
    fits_all (y ∷ rs) among =
        (one_fits y.key (λ u k. used y u (among y (inl refl)) k) (is_some y.mask) (not (has_name field_kinds y.kind)) (bytes_eq y.kind (codes "valid")) (key_right y (among y (inl refl))), fits_all rs (λ z k. among z (inr k)))

    pub keys_fit : KeysFit h ds (reads_of t.attributes)
    keys_fit = fits_all (reads_of t.attributes) (λ y k. k)
