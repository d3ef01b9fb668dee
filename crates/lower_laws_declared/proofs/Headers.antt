-- The header types that are written break no rule (C1, C3, C5, C25).
use Rattle.std.proofs.Common.{◌≡◌, ℕ, ◌+◌, ◌<◌, ◌≤◌, ◌^◌, ◌%◌, Bool, true, false, not, ◌||◌, ◌&&◌, Option, Some, List, [], ◌∷◌, map, sym, ap, ◌∙◌, subst, arith}
use Rattle.std.specs.Prelude.{nat_eq}
use Rattle.std.specs.List.{list_any, AllByRecursion}
use Rattle.std.specs.Option.{option_map_or}
use Rattle.std.proofs.lemmas.Bool.{eqb-true}
use Rattle.std.proofs.lemmas.List.{length-map}
use Rattle.p414_syntax.specs.declared.headers.Field.{Field}
use Rattle.p414_syntax.specs.declared.headers.Header.{Header}
use Rattle.p414_syntax.specs.declared.syntax.Decl.{Decl}
use Rattle.p414_syntax.specs.declared.syntax.Decl.TheVariants as decl
use Rattle.p414_syntax.specs.declared.syntax.Sort.TheVariants as sort
use Rattle.p414_syntax.specs.Views.{HeaderTypeTree}
use Rattle.p414_syntax.specs.Names.{field_name}
use Rattle.p414_syntax.specs.Fields.{type_of, type_bits, is_rest_field, has_rest}
use Rattle.p414_syntax.specs.Widths.{is_bad_field, declares_bad_width, is_unaligned, is_unaligned_header, state_looks_too_far}
use Rattle.p416_syntax.specs.Names.{repeats}
use Rattle.lower_laws_names.proofs.Lists.{fields_once}
use Rattle.lower_laws_names.proofs.OneSort.{fields_tested}
use Rattle.lower_laws_names.specs.NewNames.{new_name}
use Rattle.lower_laws_names.specs.Instances.{named_from, type_fields}
use Rattle.lower_laws_names.proofs.Declared.{called_all}
use Rattle.lower_laws_states.specs.Expansions.{Has}
use Rattle.lower_laws_states.specs.Laws.{BreaksNo}
use Rattle.lower_laws_states.proofs.Members.{neither, none_passes}
use Rattle.lower_laws_states.proofs.Rules.{none_twice, widths_right, layouts_right, all_supported}
use Rattle.lower_laws_states.proofs.Bounded.{type_has, no_rest}
use Rattle.lower_laws_states.proofs.Widths.{width_wide}
use Rattle.lower_laws_rules.specs.Declared.{FitsWidth, HeaderFits}
use Rattle.lower_laws_rules.specs.Keeping.{Keeps}
use Rattle.lower_laws_rules.specs.Written.{header16}
use Rattle.lower_laws_rules.proofs.Types.{header_kept}
use Rattle.p416_syntax.specs.Declarations.{header_uses}
use Rattle.lower_laws_declared.specs.Layout.{IsShort}
use Rattle.lower_laws_declared.proofs.Octets.{named_bits}

fields_wide : (k : ℕ) (fields : List Field) → list_any is_bad_field fields ≡ false → list_any is_rest_field fields ≡ false → AllByRecursion FitsWidth (named_from k fields)
fields_wide k [] right whole = tt
fields_wide k (f ∷ fields) right whole =
    let a = neither (is_bad_field f) (list_any is_bad_field fields) right in
    let b = neither (is_rest_field f) (list_any is_rest_field fields) whole in
    let wide = width_wide f.width a.0 b.0 in
    ((omega (arith, wide.0), wide.1), fields_wide (k + 1) fields a.1 b.1)

module _ (ds : List Decl) (none : BreaksNo ds) (short : IsShort ds) (x : Header) (h : Has ds (decl.Header x)) (t : HeaderTypeTree) (is : type_of ds x.header_type ≡ Some t) where
  whole : has_rest t ≡ false
  whole = no_rest ds (all_supported ds none) t (type_has ds x.header_type t is)

  aligned : (nat_eq (type_bits t) 0 || not (nat_eq (type_bits t % 8) 0)) ≡ false
  aligned = by (has_rest t) whole (ap (λ (o : Option HeaderTypeTree). option_map_or is_unaligned o false) (sym is) ∙ none_passes (is_unaligned_header ds) ds (decl.Header x) (neither (list_any (is_unaligned_header ds) ds) (list_any state_looks_too_far ds) (layouts_right ds none)).0 h) where
    by : (b : Bool) → b ≡ false → not b && (nat_eq (type_bits t) 0 || not (nat_eq (type_bits t % 8) 0)) ≡ false → (nat_eq (type_bits t) 0 || not (nat_eq (type_bits t % 8) 0)) ≡ false
    by false e right = right
    by true e right = absurd (cc e)

  some_bits : 0 < type_bits t
  some_bits = by (type_bits t) (neither (nat_eq (type_bits t) 0) _ aligned).0 where
    by : (n : ℕ) → nat_eq n 0 ≡ false → 0 < n
    by Rattle.std.specs.Prelude.zero e = absurd (cc e)
    by (Rattle.std.specs.Prelude.suc n) e = omega arith

  octets : type_bits t % 8 ≡ 0
  octets = eqb-true (type_bits t % 8) 0 (Rattle.lower_laws_states.proofs.Members.of_not _ (neither (nat_eq (type_bits t) 0) _ aligned).1)

  pub header_fits : HeaderFits (type_fields t)
  header_fits = record {
    differ = ap repeats (called_all 0 t.fields) ∙ fields_once (map field_name t.fields) (fields_tested ds (none_twice ds none) x.header_type t is) (omega (arith, length-map t.fields field_name, short.few_fields x.header_type t is));
    widths = fields_wide 0 t.fields (none_passes declares_bad_width ds (decl.HeaderType t) (widths_right ds none) (type_has ds x.header_type t is)) whole;
    some = subst (λ (n : ℕ). 0 < n) (sym (named_bits ds 0 t.fields)) some_bits;
    octets = subst (λ (n : ℕ). n % 8 ≡ 0) (sym (named_bits ds 0 t.fields)) octets;
  }

  -- T2, T3 and the others that ask each use by itself
  pub header_keeps : Keeps (header_uses (header16 (new_name ds sort.HeaderType t.name) (type_fields t))) []
  header_keeps = header_kept (new_name ds sort.HeaderType t.name) (type_fields t) header_fits
