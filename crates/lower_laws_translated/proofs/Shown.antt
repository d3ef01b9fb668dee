-- The lowering of an action shows the program: instances, objects and marks.
use Rattle.std.proofs.Common.{◌≡◌, ℕ, zero, suc, ◌+◌, ◌<◌, cond, Option, Some, None, List, [], ◌∷◌, map, refl, sym, ap, ap₂, ◌∙◌, subst}
use Rattle.std.specs.Prelude.{is_some, slice_get, filter, get_or, if◌then◌else◌}
use Rattle.std.specs.Option.{option_map_or}
use Rattle.p414_syntax.specs.declared.headers.Header.{Header}
use Rattle.p414_syntax.specs.declared.syntax.Decl.{Decl}
use Rattle.p414_syntax.specs.declared.syntax.Decl.TheVariants as decl
use Rattle.p414_syntax.specs.declared.syntax.Sort.TheVariants as sort
use Rattle.p414_syntax.specs.Attributes.{direct_table_of}
use Rattle.p414_syntax.specs.Names.{Name, names_in, declaration_of, numbered}
use Rattle.p414_sem.specs.Operations.{in_order}
use Rattle.p416_syntax.specs.Kinds.{ObjectKind, counter, direct_counter}
use Rattle.agreement_of_meanings.specs.Shown.{fields_of}
use Rattle.lower_laws_base.specs.Context.{ObjectName}
use Rattle.lower_laws_names.specs.NewNames.{new_name}
use Rattle.lower_laws_names.specs.Types.{Member}
use Rattle.match_core.specs.declared.entries.Entries.{Entries}
use Rattle.p414_syntax.specs.declared.lexeme.Literal.{Literal}
use Rattle.p414_syntax.specs.declared.syntax.Rule14.{Rule14}
use Rattle.p414_syntax.specs.Breaks.{BreaksNone, program_rules}
use Rattle.p414_syntax.specs.Names.{is_in}
use Rattle.p414_sem.specs.Expanded.{Expanded, IsExpanded}
use Rattle.v1_core.specs.Surroundings.{Surroundings}
use Rattle.agreement_of_meanings.specs.Shown.{NamedField}
use Rattle.lower_laws_names.specs.Instances.{shown_header, named_fields}
use Rattle.lower_laws_names.specs.Types.{members_from}
use Rattle.lower_laws_names.specs.Objects.{top_decls}
use Rattle.lower_laws_base.specs.Context.{Lowering, shown_in}
use Rattle.lower_laws_program.specs.TypesFit.{TypesFit}
use Rattle.lower_laws_premises.specs.Shown.{Shows}
use Rattle.lower_laws_premises.proofs.Marks.{shows_marks}
use Rattle.lower_laws_states.proofs.Rules.{none_twice}
use Rattle.lower_laws_premises.proofs.Controls.{action_lowering}
use Rattle.lower_laws_declared.specs.Layout.{IsShort, program_layout, type_words, member_at, no_member}
use Rattle.lower_laws_declared.proofs.Members.{shown_is}
use Rattle.lower_laws_declared.proofs.TypesFit.{types_fit}
use Rattle.lower_laws_translated.specs.Translated.{spare_name}
use Rattle.lower_laws_premises.specs.Shown.{object_kind, cell_width, object_shown, objects_shown}
use Rattle.lower_laws_declared.specs.Objects.{counter_kind, kind_in, cell_width_in, object_called, objects_by_number}

-- objects are shown in one way

kind_same : (d : Decl) → kind_in d ≡ object_kind d
kind_same (decl.Counter x) = by (direct_table_of x.attributes) where
  by : (o : Option Name) → counter_kind o ≡ cond (is_some o) direct_counter counter
  by None = refl
  by (Some t) = refl
kind_same (decl.Register x) = refl
kind_same (decl.Meter x) = refl
kind_same _ = refl

width_same : (d : Decl) → cell_width_in d ≡ cell_width d
width_same (decl.Register x) = refl
width_same _ = refl

pub object_same : (ds : List Decl) (name : Name) → object_called ds name ≡ object_shown (new_name ds sort.Object) ds name
object_same ds name = by (declaration_of sort.Object ds name) where
  by : (o : Option Decl) → (let x : ObjectName = record { called = new_name ds sort.Object name; kind = option_map_or kind_in o Rattle.p416_syntax.specs.Kinds.meter; width = option_map_or cell_width_in o 0 } in x) ≡ record { called = new_name ds sort.Object name; kind = option_map_or object_kind o Rattle.p416_syntax.specs.Kinds.meter; width = option_map_or cell_width o 0 }
  by None = refl
  by (Some d) = ap₂ (λ (k : ObjectKind) (w : ℕ). let x : ObjectName = record { called = new_name ds sort.Object name; kind = k; width = w } in x) (kind_same d) (width_same d)

each_same : (ds : List Decl) (names : List Name) → map (object_called ds) names ≡ map (object_shown (new_name ds sort.Object) ds) names
each_same ds [] = refl
each_same ds (n ∷ names) = ap₂ (λ (x : ObjectName) (xs : List ObjectName). x ∷ xs) (object_same ds n) (each_same ds names)

pub objects_same : (ds : List Decl) → objects_by_number ds ≡ objects_shown (new_name ds sort.Object) ds
objects_same ds = each_same ds (in_order (names_in sort.Object ds))

-- headers of one type have the same fields and one type

header_fields_are : (ds : List Decl) (type name : Name) (size : Option Literal) → fields_of (shown_header ds type name size) ≡ named_fields ds type
header_fields_are ds type name None = refl
header_fields_are ds type name (Some n) = refl

record IsHeaderMember (ds : List Decl) (h : Header) (m : Member) : Type 0 where
  pub fields : fields_of m.shown ≡ named_fields ds h.header_type
  pub type : m.type ≡ new_name ds sort.HeaderType h.header_type

header_member_at : (ds : List Decl) (k i : ℕ) (es : List Decl) (j : ℕ) (h : Header) → slice_get (filter (is_in sort.Instance) es) j ≡ Some (decl.Header h) → IsHeaderMember ds h (get_or (members_from ds k i es) j no_member)
header_member_at ds k i [] j h e = absurd (cc e)
header_member_at ds k i (decl.Header x ∷ es) zero h e =
    let same : x ≡ h = cc e in
    subst (λ (y : Header). IsHeaderMember ds y (get_or (members_from ds k i (decl.Header x ∷ es)) 0 no_member)) same (record { fields = header_fields_are ds x.header_type x.name x.size; type = refl })
header_member_at ds k i (decl.Header x ∷ es) (suc j) h e = let m = header_member_at ds (k + 1) i es j h e in record { fields = m.fields; type = m.type }
header_member_at ds k i (decl.Metadata x ∷ es) zero h e = absurd (cc e)
header_member_at ds k i (decl.Metadata x ∷ es) (suc j) h e = let m = header_member_at ds (k + 1) (i + 1) es j h e in record { fields = m.fields; type = m.type }
header_member_at ds k i (_ ∷ es) j h e = header_member_at ds k i es j h e

module _ (ds : List Decl) (none : BreaksNone ds program_rules) (short : IsShort ds) (x : Expanded) (expanded : IsExpanded ds x) (entries : Entries) (r : Rule14) (ps : List NamedField) (b : Surroundings) (calls : ℕ) where
  -- what stands around the statements of an action
  abbrev pub within : Lowering
  within = action_lowering (program_layout ds entries) (type_words ds x) r (objects_by_number ds) spare_name ps b calls

  fits : TypesFit (program_layout ds entries) ds x (type_words ds x) (top_decls ds x)
  fits = types_fit ds x none expanded short (program_layout ds entries).shapes

  header_at : (i : ℕ) (h : Header) → numbered sort.Instance ds i ≡ Some (decl.Header h) → IsHeaderMember ds h (member_at ds i)
  header_at i h e = header_member_at ds 0 0 ds i h e

  fields_at : (i : ℕ) (h : Header) → numbered sort.Instance ds i ≡ Some (decl.Header h) → fields_of (shown_in within i) ≡ named_fields ds h.header_type
  fields_at i h e = ap fields_of (shown_is ds i) ∙ (header_at i h e).fields

  pub within_shows : Shows within ds
  within_shows = record {
    instances = record {
      decls = record { all = fits.shown.all; each = fits.shown.each };
      stacks = fits.stacks;
      widths = fits.widths;
      fields = λ i j h k e f same. fields_at i h e ∙ ap (named_fields ds) same ∙ sym (fields_at j k f);
      types = λ i j h k e f same. (header_at i h e).type ∙ ap (new_name ds sort.HeaderType) same ∙ sym (header_at j k f).type;
    };
    roots = record { headers = refl; metadata = refl; standard = refl };
    new = new_name ds sort.Object;
    objects = objects_same ds;
    marks = shows_marks within ds (none_twice ds none) refl;
  }
