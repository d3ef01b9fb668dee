-- The struct of the headers holds headers and stacks, and that of the metadata structs of bits (T11).
use Rattle.std.proofs.Common.{◌≡◌, inl, inr, ℕ, ◌+◌, ◌<◌, Bool, true, false, ◌||◌, ◌&&◌, List, [], ◌∷◌, ◌++◌, length, map, refl, sym, ap, ap₂, ◌∙◌, subst, arith}
use Rattle.std.specs.Prelude.{filter_map}
use Rattle.std.specs.List.{list_all}
use Rattle.p414_syntax.specs.declared.syntax.Decl.{Decl}
use Rattle.p414_syntax.specs.declared.syntax.Rule14.{Rule14}
use Rattle.p414_sem.specs.Expanded.{Expanded}
use Rattle.p416_syntax.specs.declared.program.Decl16.{Decl16}
use Rattle.p416_syntax.specs.Names.{Name}
use Rattle.p416_syntax.specs.Kinds.{Kind, struct, header, is_bits, is_header, is_stack}
use Rattle.p416_syntax.specs.Scopes.{Known, Layout, a_type, sort_in, fields_in, kind_of_type}
use Rattle.p416_syntax.specs.Declarations.{struct_field, top_names, layouts_of}
use Rattle.p416_syntax.specs.Main.{is_header_field, is_bits_field, is_metadata_field, is_struct_where, are_headers, is_metadata as is_metadata16}
use Rattle.v1_core.specs.Frames.{of_headers, of_metadata}
use Rattle.agreement_of_meanings.specs.Shown.{NamedField, Shown, as_header, as_stack, as_metadata, is_metadata, name_of, fields_of}
use Rattle.lower_laws_names.specs.Types.{Member, members, header_member, metadata_member}
use Rattle.lower_laws_names.specs.Declared.{Among}
use Rattle.lower_laws_base.specs.Context.{instance_kind}
use Rattle.lower_laws_program.specs.Program.{Parts, decls_of, root_struct, named_type, DeclaresOnce}
use Rattle.lower_laws_program.specs.TypesFit.{instance_type, member, TypesFit}
use Rattle.lower_laws_program.proofs.Layouts.{as_kind, headers_layout, metadata_layout, fields_layout, kind_there, type_sorts}
use Rattle.lower_laws_declared.specs.Layout.{member_at, layout_shaped, type_words}
use Rattle.lower_laws_declared.proofs.Members.{shown_is, members_count}
use Rattle.lower_laws_declared.proofs.Numbers.{declared_once}
use Rattle.lower_laws_declared.proofs.Totals.{place_of}
use Rattle.lower_laws_declared.proofs.Whole.{parts_types}
use Rattle.lower_laws_rules.specs.Whole.{IsOrdered}
use Rattle.lower_laws_translated.specs.Given.{IsGiven}
use Rattle.lower_laws_translated.specs.Translated.{translated}
use Rattle.lower_laws_translated.proofs.Parts.{parts_are}

-- what stands in front stands in order
pub ordered_front : (seen : List Name) (xs ys : List Decl16) → IsOrdered seen (xs ++ ys) → IsOrdered seen xs
ordered_front seen [] ys is = tt
ordered_front seen (x ∷ xs) ys is = (is.0, ordered_front _ xs ys is.1)

bits_alone : (fields : List NamedField) → list_all is_bits_field (map as_kind fields) ≡ true
bits_alone [] = refl
bits_alone (f ∷ fields) = bits_alone fields

module _ (ds : List Decl) (x : Expanded) (given : IsGiven ds x) (under : Rule14) where
  abbrev pub p : Parts
  p = translated ds x under

  abbrev pub names : List Known
  names = top_names (decls_of p)

  abbrev pub ls : List Layout
  ls = layouts_of (decls_of p)

  pub fits : TypesFit (layout_shaped ds []) ds x (type_words ds x) p.types
  fits = parts_types ds given.none given.short x given.expanded p (parts_are ds x under) []

  pub once : DeclaresOnce p
  once = declared_once ds given.none given.short x p (parts_are ds x under)

  -- an instance by what its type is, and its elements
  pub record MemberHere (m : Member) : Type 0 where
    pub kind : kind_of_type names (instance_type m.shown m.type m.size) ≡ instance_kind m.shown m.type m.size
    pub layout : fields_in ls m.type ≡ map as_kind (fields_of m.shown)
    pub header_sort : is_metadata m.shown ≡ false → sort_in names m.type ≡ a_type (header m.type)
    pub struct_sort : is_metadata m.shown ≡ true → sort_in names m.type ≡ a_type (struct m.type)

  at_place : (k : ℕ) → k < length (members ds) → MemberHere (member_at ds k)
  at_place k lt =
      let within : k < length (layout_shaped ds []).names.instances = omega (arith, lt, members_count ds) in
      record {
        kind = subst (λ (s : Shown). kind_of_type names (instance_type s (member_at ds k).type (member_at ds k).size) ≡ instance_kind s (member_at ds k).type (member_at ds k).size) (shown_is ds k) (kind_there (layout_shaped ds []) ds x (type_words ds x) p fits once k within);
        layout = fields_layout (layout_shaped ds []) ds x (type_words ds x) p fits once k within ∙ ap (λ (s : Shown). map as_kind (fields_of s)) (shown_is ds k);
        header_sort = λ is. type_sorts (layout_shaped ds []) ds x (type_words ds x) p fits once _ (fits.header k within (ap is_metadata (shown_is ds k) ∙ is));
        struct_sort = λ is. type_sorts (layout_shaped ds []) ds x (type_words ds x) p fits once _ (fits.struct k within (ap is_metadata (shown_is ds k) ∙ is));
      }

  pub member_here : (m : Member) → Among m (members ds) → MemberHere m
  member_here m h = let r = place_of (members ds) m h in subst MemberHere r.2 (at_place r.0 r.1)

  -- the struct of the headers

  header_alone : (m : Member) → MemberHere m → is_metadata m.shown ≡ false → is_header_field (struct_field names (member (instance_type m.shown m.type m.size) (name_of m.shown))) ≡ true
  header_alone m here is = ap (λ (k : Kind). is_header k || is_stack k) here.kind ∙ by m.shown is where
    by : (s : Shown) → is_metadata s ≡ false → (is_header (instance_kind s m.type m.size) || is_stack (instance_kind s m.type m.size)) ≡ true
    by (as_header n fs) e = refl
    by (as_stack n fs) e = refl
    by (as_metadata n fs) e = absurd (cc e)

  headers_from : (ms : List Member) → ((m : Member) → Among m ms → MemberHere m) → list_all is_header_field (map (struct_field names) (filter_map header_member ms)) ≡ true
  headers_from [] each = refl
  headers_from (m ∷ ms) each = by m.shown refl (header_alone m (each m (inl refl))) (headers_from ms (λ n h. each n (inr h))) where
    by : (s : Shown) → m.shown ≡ s → (is_metadata m.shown ≡ false → is_header_field (struct_field names (member (instance_type m.shown m.type m.size) (name_of m.shown))) ≡ true) → list_all is_header_field (map (struct_field names) (filter_map header_member ms)) ≡ true → list_all is_header_field (map (struct_field names) (filter_map header_member (m ∷ ms))) ≡ true
    by (as_header n fs) e one rest =
        ap (λ (s : Shown). list_all is_header_field (map (struct_field names) (filter_map header_member (record m { shown = s } ∷ ms)))) e
        ∙ ap₂ (λ (a b : Bool). a && b) (ap (λ (s : Shown). is_header_field (struct_field names (member (instance_type s m.type m.size) (name_of s)))) (sym e) ∙ one (ap is_metadata e)) rest
    by (as_stack n fs) e one rest =
        ap (λ (s : Shown). list_all is_header_field (map (struct_field names) (filter_map header_member (record m { shown = s } ∷ ms)))) e
        ∙ ap₂ (λ (a b : Bool). a && b) (ap (λ (s : Shown). is_header_field (struct_field names (member (instance_type s m.type m.size) (name_of s)))) (sym e) ∙ one (ap is_metadata e)) rest
    by (as_metadata n fs) e one rest = ap (λ (s : Shown). list_all is_header_field (map (struct_field names) (filter_map header_member (record m { shown = s } ∷ ms)))) e ∙ rest

  pub headers_alone : are_headers ls (struct (root_struct of_headers)) ≡ true
  headers_alone = ap (list_all is_header_field) (headers_layout (layout_shaped ds []) ds x (type_words ds x) p fits once) ∙ headers_from (members ds) member_here

  -- the struct of the metadata

  metadata_alone : (m : Member) → MemberHere m → is_metadata m.shown ≡ true → is_metadata_field ls (struct_field names (member (named_type m.type) (name_of m.shown))) ≡ true
  metadata_alone m here is = by m.shown refl is where
    by : (s : Shown) → m.shown ≡ s → is_metadata s ≡ true → is_metadata_field ls (struct_field names (member (named_type m.type) (name_of m.shown))) ≡ true
    by (as_metadata n fs) e is =
        let kind : kind_of_type names (named_type m.type) ≡ struct m.type = subst (λ (s : Shown). kind_of_type names (instance_type s m.type m.size) ≡ instance_kind s m.type m.size) e here.kind in
        ap (λ (k : Kind). is_bits k || is_struct_where is_bits_field ls k) kind ∙ ap (list_all is_bits_field) here.layout ∙ bits_alone (fields_of m.shown)
    by (as_header n fs) e is = absurd (cc is)
    by (as_stack n fs) e is = absurd (cc is)

  metadata_from : (ms : List Member) → ((m : Member) → Among m ms → MemberHere m) → list_all (is_metadata_field ls) (map (struct_field names) (filter_map metadata_member ms)) ≡ true
  metadata_from [] each = refl
  metadata_from (m ∷ ms) each = by m.shown refl (metadata_alone m (each m (inl refl))) (metadata_from ms (λ n h. each n (inr h))) where
    by : (s : Shown) → m.shown ≡ s → (is_metadata m.shown ≡ true → is_metadata_field ls (struct_field names (member (named_type m.type) (name_of m.shown))) ≡ true) → list_all (is_metadata_field ls) (map (struct_field names) (filter_map metadata_member ms)) ≡ true → list_all (is_metadata_field ls) (map (struct_field names) (filter_map metadata_member (m ∷ ms))) ≡ true
    by (as_metadata n fs) e one rest =
        ap (λ (s : Shown). list_all (is_metadata_field ls) (map (struct_field names) (filter_map metadata_member (record m { shown = s } ∷ ms)))) e
        ∙ ap₂ (λ (a b : Bool). a && b) (ap (λ (s : Shown). is_metadata_field ls (struct_field names (member (named_type m.type) (name_of s)))) (sym e) ∙ one (ap is_metadata e)) rest
    by (as_header n fs) e one rest = ap (λ (s : Shown). list_all (is_metadata_field ls) (map (struct_field names) (filter_map metadata_member (record m { shown = s } ∷ ms)))) e ∙ rest
    by (as_stack n fs) e one rest = ap (λ (s : Shown). list_all (is_metadata_field ls) (map (struct_field names) (filter_map metadata_member (record m { shown = s } ∷ ms)))) e ∙ rest

  pub bits_within : is_metadata16 ls (struct (root_struct of_metadata)) ≡ true
  bits_within = ap (list_all (is_metadata_field ls)) (metadata_layout (layout_shaped ds []) ds x (type_words ds x) p fits once) ∙ metadata_from (members ds) member_here
