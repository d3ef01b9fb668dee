-- The types that are written are spelt.
use Rattle.std.proofs.Common.{◌≡◌, inl, inr, ℕ, ◌+◌, ◌<◌, ◌≤◌, ◌^◌, Bool, true, false, cond, Option, Some, None, List, [], ◌∷◌, ◌++◌, length, map, refl, sym, subst, arith}
use Rattle.std.specs.Prelude.{filter, filter_map}
use Rattle.std.specs.List.{AllByRecursion}
use Rattle.std.specs.Option.{option_map_or}
use Rattle.p414_syntax.specs.declared.lexeme.Literal.{Literal}
use Rattle.p414_syntax.specs.declared.syntax.Decl.{Decl}
use Rattle.p414_syntax.specs.declared.syntax.Decl.TheVariants as decl
use Rattle.p414_syntax.specs.declared.syntax.Rule14.TheVariants as rule
use Rattle.p414_syntax.specs.declared.syntax.Sort.TheVariants as sort
use Rattle.p414_syntax.specs.Views.{HeaderTypeTree}
use Rattle.p414_syntax.specs.Fields.{types, type_of}
use Rattle.p414_syntax.specs.Names.{Name, has_name, name_in, names_in}
use Rattle.p414_syntax.specs.Preserved.{preserved_lists}
use Rattle.p414_sem.specs.Expanded.{Expanded}
use Rattle.p416_syntax.specs.declared.parts.StructField.{StructField}
use Rattle.p416_syntax.specs.declared.program.Decl16.{Decl16}
use Rattle.agreement_of_meanings.specs.Agrees.{Marked}
use Rattle.agreement_of_meanings.specs.Shown.{NamedField, Shown, as_header, as_stack, as_metadata, name_of, fields_of}
use Rattle.lower_laws_names.specs.NewNames.{new_name, struct_letter}
use Rattle.lower_laws_names.specs.Instances.{type_fields, named_fields, shown_header}
use Rattle.lower_laws_names.specs.Marks.{marks_from, marks, holds, mark_number, marks_of_field}
use Rattle.lower_laws_names.specs.Types.{plain, bit_field, header_decl, is_used, header_decls, Member, members_from, members, notes_of, struct_fields_from, struct_decl, struct_decls, header_member, metadata_member, headers_decl, metadata_decl, type_decls}
use Rattle.lower_laws_names.proofs.Declared.{type_named}
use Rattle.lower_laws_names.proofs.OneSort.{few_named}
use Rattle.lower_laws_states.specs.Expansions.{Has}
use Rattle.lower_laws_states.proofs.Members.{has_picked, picked_has, mapped_has, has_each, each_has}
use Rattle.lower_laws_states.proofs.Bounded.{type_has}
use Rattle.lower_laws_states.proofs.Declared.{kept_has}
use Rattle.lower_laws_states.proofs.Expansion.{each_joined}
use Rattle.lower_laws_rules.specs.Declared.{FitsWidth}
use Rattle.lower_laws_rules.specs.Spelling.{SpeltNumber, SpeltName, SpeltNotes, SpeltBitField, SpeltStructField, SpeltDecl}
use Rattle.lower_laws_rules.proofs.SpeltParts.{plain_spelt}
use Rattle.lower_laws_declared.proofs.Accepted.{types_known}
use Rattle.lower_laws_translated.specs.Given.{IsGiven}
use Rattle.lower_laws_translated.proofs.OuterSpelt.{made_spelt, NameSpelt, each_spelt, sort_read, sort_spelt}
use Rattle.lower_laws_translated.proofs.ShownSpelt.{IsSpeltShown, fields_spelt, shown_spelt}
use Rattle.lower_laws_translated.proofs.TypesKept.{all_wide, used_found, kept_pass, size_few}

-- widths and marks

width_spelt : (f : NamedField) → FitsWidth f → SpeltNumber (plain f.width)
width_spelt f wide = let most = wide.1 in plain_spelt f.width (omega (arith, most))

bit_fields : (fs : List NamedField) → AllByRecursion FitsWidth fs → AllByRecursion NameSpelt fs → AllByRecursion SpeltBitField (map bit_field fs)
bit_fields [] wide names = tt
bit_fields (f ∷ fs) wide names = ((width_spelt f wide.0, names.0), bit_fields fs wide.1 names.1)

abbrev Small : ℕ → Type 0
Small n = n < 2 ^ 128

numbers_spelt : (ns : List ℕ) → AllByRecursion Small ns → AllByRecursion SpeltNumber (map plain ns)
numbers_spelt [] all = tt
numbers_spelt (n ∷ ns) all = (plain_spelt n all.0, numbers_spelt ns all.1)

notes_spelt : (ns : List ℕ) → AllByRecursion Small ns → SpeltNotes (notes_of ns)
notes_spelt [] all = (tt, refl)
notes_spelt (n ∷ ns) all = (((refl, numbers_spelt (n ∷ ns) all), tt), refl)

abbrev SmallMark : Marked → Type 0
SmallMark m = Small (mark_number m)

marks_small : (preserved : List Name) (list number : ℕ) (names : List Name) → number + length names ≤ 2 ^ 33 → AllByRecursion SmallMark (marks_from preserved list number names)
marks_small preserved list number [] few = tt
marks_small preserved list number (n ∷ names) few =
    by (has_name preserved n) (marks_small preserved (list + 1) (number + 1) names (omega (arith, few))) (marks_small preserved (list + 1) number names (omega (arith, few)))
  where
    by : (b : Bool) → AllByRecursion SmallMark (marks_from preserved (list + 1) (number + 1) names) → AllByRecursion SmallMark (marks_from preserved (list + 1) number names) → AllByRecursion SmallMark (cond b ((record { list = list; number = number }) ∷ marks_from preserved (list + 1) (number + 1) names) (marks_from preserved (list + 1) number names))
    by true has more = (omega (arith, few), has)
    by false has more = more

module _ (ds : List Decl) (x : Expanded) (given : IsGiven ds x) where
  marks_here : (k f : ℕ) → AllByRecursion Small (marks_of_field ds x k f)
  marks_here k f = each_has Small (marks_of_field ds x k f) (λ n h.
      let m = mapped_has mark_number (filter (holds ds x k f) (marks ds)) n h in
      subst Small m.2
      (has_each SmallMark (marks ds) m.0
      (marks_small (preserved_lists ds) 0 1 (names_in sort.List ds) (omega (arith, few_named sort.List ds, given.short.few)))
      (kept_has (holds ds x k f) (marks ds) m.0 m.1)))

  -- the fields of a type

  fields_here : (type : Name) (t : HeaderTypeTree) → type_of ds type ≡ Some t → AllByRecursion NameSpelt (type_fields t)
  fields_here type t is = subst (λ (o : Option HeaderTypeTree). AllByRecursion NameSpelt (option_map_or type_fields o [])) is (each_spelt (named_fields ds type) (fields_spelt ds given.spelt given.short type))

  wide_here : (type : Name) (t : HeaderTypeTree) → type_of ds type ≡ Some t → AllByRecursion FitsWidth (named_fields ds type)
  wide_here type t is = subst (λ (o : Option HeaderTypeTree). AllByRecursion FitsWidth (option_map_or type_fields o [])) (sym is) (all_wide ds x given rule.Sequential type t is)

  struct_fields : (k f : ℕ) (fs : List NamedField) → AllByRecursion FitsWidth fs → AllByRecursion NameSpelt fs → AllByRecursion SpeltStructField (struct_fields_from ds x k f fs)
  struct_fields k f [] wide names = tt
  struct_fields k f (g ∷ fs) wide names = ((notes_spelt (marks_of_field ds x k f) (marks_here k f), width_spelt g wide.0, names.0), struct_fields k (f + 1) fs wide.1 names.1)

  -- header types

  type_declared : (type : Name) (t : HeaderTypeTree) → type_of ds type ≡ Some t → Has (names_in sort.HeaderType ds) type
  type_declared type t is = subst (Has (names_in sort.HeaderType ds)) (type_named ds type t is).0 (has_picked (name_in sort.HeaderType) ds (decl.HeaderType t) t.name (type_has ds type t is) refl)

  header_spelt : (t : HeaderTypeTree) → Has (types ds) t → is_used ds t ≡ true → SpeltDecl (header_decl ds t)
  header_spelt t h used =
      let u = used_found ds x given rule.Sequential t h used in (
        sort_spelt ds x given sort.HeaderType t.name (has_picked (name_in sort.HeaderType) ds (decl.HeaderType t) t.name (type_has ds u.0.header_type t u.2) refl),
        bit_fields (type_fields t) (all_wide ds x given rule.Sequential u.0.header_type t u.2) (fields_here u.0.header_type t u.2),
      )

  headers_spelt : AllByRecursion SpeltDecl (header_decls ds)
  headers_spelt = each_has SpeltDecl (header_decls ds) (λ y h.
      let t = mapped_has (header_decl ds) (filter (is_used ds) (types ds)) y h in
      let u = kept_pass ds x given rule.Sequential (is_used ds) (types ds) t.0 t.1 in
      subst SpeltDecl t.2 (header_spelt t.0 u.0 u.1))

  -- instances

  record MemberSpelt (m : Member) : Type 0 where
    name : SpeltName (name_of m.shown)
    fields : AllByRecursion NameSpelt (fields_of m.shown)
    wide : AllByRecursion FitsWidth (fields_of m.shown)
    type : SpeltName m.type

  header_wide : (type name : Name) (size : Option Literal) → AllByRecursion FitsWidth (named_fields ds type) → AllByRecursion FitsWidth (fields_of (shown_header ds type name size))
  header_wide type name None wide = wide
  header_wide type name (Some n) wide = wide

  members_spelt : (k i : ℕ) (es : List Decl) → ((d : Decl) → Has es d → Has ds d) → i + length es ≤ 2 ^ 32 → AllByRecursion MemberSpelt (members_from ds k i es)
  members_spelt k i [] there few = tt
  members_spelt k i (decl.Header h ∷ es) there few =
      let in_it = there (decl.Header h) (inl refl) in
      let known = types_known ds given.none (decl.Header h) in_it in
      let s : IsSpeltShown (shown_header ds h.header_type h.name h.size) = shown_spelt ds given.spelt given.short (decl.Header h) (shown_header ds h.header_type h.name h.size) in_it refl in (
        record {
          name = s.name;
          fields = each_spelt (fields_of (shown_header ds h.header_type h.name h.size)) s.fields;
          wide = header_wide h.header_type h.name h.size (wide_here h.header_type known.0 known.1);
          type = sort_spelt ds x given sort.HeaderType h.header_type (type_declared h.header_type known.0 known.1);
        },
        members_spelt (k + 1) i es (λ d is. there d (inr is)) (omega (arith, few)),
      )
  members_spelt k i (decl.Metadata h ∷ es) there few =
      let in_it = there (decl.Metadata h) (inl refl) in
      let known = types_known ds given.none (decl.Metadata h) in_it in
      let s : IsSpeltShown (as_metadata (new_name ds sort.Instance h.name) (named_fields ds h.header_type)) = shown_spelt ds given.spelt given.short (decl.Metadata h) (as_metadata (new_name ds sort.Instance h.name) (named_fields ds h.header_type)) in_it refl in (
        record {
          name = s.name;
          fields = each_spelt (named_fields ds h.header_type) s.fields;
          wide = wide_here h.header_type known.0 known.1;
          type = made_spelt struct_letter i h.header_type refl refl (omega (arith, few)) (sort_read ds x given sort.HeaderType h.header_type (type_declared h.header_type known.0 known.1));
        },
        members_spelt (k + 1) (i + 1) es (λ d is. there d (inr is)) (omega (arith, few)),
      )
  members_spelt k i (d ∷ es) there few = members_spelt k i es (λ e is. there e (inr is)) (omega (arith, few))

  member_spelt : (m : Member) → Has (members ds) m → MemberSpelt m
  member_spelt m h = has_each MemberSpelt (members ds) m (members_spelt 0 0 ds (λ d is. is) (omega (arith, given.short.few))) h

  -- structs of metadata

  struct_spelt : (m : Member) → MemberSpelt m → (y : Decl16) → struct_decl ds x m ≡ Some y → SpeltDecl y
  struct_spelt m is y e = by m.shown e is.fields is.wide where
    inside : (a b : Decl16) → Some a ≡ Some b → a ≡ b
    inside a b f = cc f

    by : (s : Shown) → struct_decl ds x (record m { shown = s }) ≡ Some y → AllByRecursion NameSpelt (fields_of s) → AllByRecursion FitsWidth (fields_of s) → SpeltDecl y
    by (as_metadata n fs) e names wide = subst SpeltDecl (inside _ y e) (is.type, struct_fields m.number 0 fs wide names)
    by (as_header n fs) e names wide = absurd (cc e)
    by (as_stack n fs) e names wide = absurd (cc e)

  -- members of the two structs

  header_here : (m : Member) → Has (members ds) m → (y : StructField) → header_member m ≡ Some y → SpeltStructField y
  header_here m h y e = by m.shown e (member_spelt m h).name where
    inside : (a b : StructField) → Some a ≡ Some b → a ≡ b
    inside a b f = cc f

    size_spelt : SpeltNumber (plain m.size)
    size_spelt = let most = (size_few ds x given rule.Sequential m h).1 in plain_spelt m.size (omega (arith, most))

    by : (s : Shown) → header_member (record m { shown = s }) ≡ Some y → SpeltName (name_of s) → SpeltStructField y
    by (as_header n fs) e name = subst SpeltStructField (inside _ y e) ((tt, refl), (member_spelt m h).type, name)
    by (as_stack n fs) e name = subst SpeltStructField (inside _ y e) ((tt, refl), ((member_spelt m h).type, size_spelt), name)
    by (as_metadata n fs) e name = absurd (cc e)

  metadata_here : (m : Member) → Has (members ds) m → (y : StructField) → metadata_member m ≡ Some y → SpeltStructField y
  metadata_here m h y e = by m.shown e (member_spelt m h).name where
    inside : (a b : StructField) → Some a ≡ Some b → a ≡ b
    inside a b f = cc f

    by : (s : Shown) → metadata_member (record m { shown = s }) ≡ Some y → SpeltName (name_of s) → SpeltStructField y
    by (as_metadata n fs) e name = subst SpeltStructField (inside _ y e) ((tt, refl), (member_spelt m h).type, name)
    by (as_header n fs) e name = absurd (cc e)
    by (as_stack n fs) e name = absurd (cc e)

  pub types_spelt : AllByRecursion SpeltDecl (type_decls ds x)
  types_spelt =
      each_joined SpeltDecl (header_decls ds) (struct_decls ds x ++ headers_decl ds ∷ metadata_decl ds ∷ []) headers_spelt
      (each_joined SpeltDecl (struct_decls ds x) (headers_decl ds ∷ metadata_decl ds ∷ [])
      (each_has SpeltDecl (struct_decls ds x) (λ y h. let m = picked_has (struct_decl ds x) (members ds) y h in struct_spelt m.0 (member_spelt m.0 m.1) y m.2)) (
        (refl, each_has SpeltStructField (filter_map header_member (members ds)) (λ y h. let m = picked_has header_member (members ds) y h in header_here m.0 m.1 y m.2)),
        ((refl, each_has SpeltStructField (filter_map metadata_member (members ds)) (λ y h. let m = picked_has metadata_member (members ds) y h in metadata_here m.0 m.1 y m.2)), tt),
      ))
