-- The states of an accepted program are as is asked, and its fields have 1 to 128 bits.
use Rattle.std.proofs.Common.{◌≡◌, inl, ℕ, zero, suc, ◌+◌, Bool, true, false, ◌&&◌, cond, List, [], ◌∷◌, map, Option, Some, None, refl, subst, arith}
use Rattle.std.specs.Prelude.{is_none, unwrap_or, option_map, option_and_then, slice_get}
use Rattle.std.specs.List.{list_any, AllByRecursion}
use Rattle.p414_syntax.specs.declared.headers.Field.{Field}
use Rattle.p414_syntax.specs.declared.parts.Inst.{Inst}
use Rattle.p414_syntax.specs.declared.parts.Ref.{Ref}
use Rattle.p414_syntax.specs.declared.parsers.PValue.{PValue}
use Rattle.p414_syntax.specs.declared.parsers.PValue.TheVariants as pvalue
use Rattle.p414_syntax.specs.declared.syntax.Decl.{Decl}
use Rattle.p414_syntax.specs.Conditions.{is_select_value}
use Rattle.p414_syntax.specs.Views.{HeaderTypeTree}
use Rattle.p414_syntax.specs.Breaks.{BreaksNone, program_rules, IsBroken}
use Rattle.p414_syntax.specs.Fields.{type_of, type_name_in, field_bits, field_in, width_in, instance_of, instance_type, width_of, ref_width}
use Rattle.p414_syntax.specs.Names.{Name, has_name}
use Rattle.p414_syntax.specs.Primitives.{is_standard, standard_width, ports, counts, left_out_fields}
use Rattle.p414_syntax.specs.Selects.{is_early, has_bad_select}
use Rattle.p414_syntax.specs.Unknown.{is_unknown}
use Rattle.p414_syntax.specs.Unsupported.{is_last, is_unsupported_standard, is_unsupported_use, declares_unsupported}
use Rattle.p414_syntax.specs.Uses.{Use, of_field, of_latest, uses, uses_of_value}
use Rattle.p414_syntax.specs.Widths.{looks_too_far}
use Rattle.lower_laws_states.specs.Expansions.{Has}
use Rattle.lower_laws_states.proofs.Members.{not_true, none_passes}
use Rattle.lower_laws_states.proofs.Rules.{none_unknown, all_supported}
use Rattle.lower_laws_rules.proofs.Found.{left_false, right_false}
use Rattle.lower_laws_block_rules.specs.Widths.{IsWidth}
use Rattle.lower_laws_block_rules.specs.Parsers.{SelectValue}
use Rattle.lower_laws_block_rules.proofs.Ruled.{type_wide}
use Rattle.lower_laws_block_rules.proofs.Values.{looks_near}

-- what holds of each holds of one
at_place : (fs : List Field) (n : ℕ) (f : Field) → AllByRecursion IsWidth (map field_bits fs) → slice_get fs n ≡ Some f → IsWidth (field_bits f)
at_place [] n f all e = absurd (cc e)
at_place (g ∷ fs) zero f all e = let same : g ≡ f = cc e in subst (λ (z : Field). IsWidth (field_bits z)) same all.0
at_place (g ∷ fs) (suc n) f all e = at_place fs n f all.1 e

module _ (ds : List Decl) (none : BreaksNone ds program_rules) where
  selects_right : has_bad_select ds ≡ false
  unfolding IsBroken
  selects_right = not_true (has_bad_select ds) none.1.1.1.1.1.0

  -- a field of an instance that is declared

  in_type : (t : HeaderTypeTree) (field : Name) (w : ℕ) → AllByRecursion IsWidth (map field_bits t.fields) → width_in t field ≡ Some w → IsWidth w
  in_type t field w all e = by (field_in t field) refl e where
    placed : (o : Option ℕ) (f : Field) → option_and_then (slice_get t.fields) o ≡ Some f → IsWidth (field_bits f)
    placed None f e = absurd (cc e)
    placed (Some n) f e = at_place t.fields n f all e

    by : (o : Option Field) → field_in t field ≡ o → option_map field_bits o ≡ Some w → IsWidth w
    by None is e = absurd (cc e)
    by (Some f) is e = let same : field_bits f ≡ w = cc e in subst IsWidth same (placed _ f is)

  in_instance : (o : Option Name) (field : Name) (w : ℕ) → option_and_then (λ t. width_in t field) (option_and_then (type_of ds) o) ≡ Some w → IsWidth w
  in_instance None field w e = absurd (cc e)
  in_instance (Some name) field w e = by (type_of ds name) refl e where
    by : (o : Option HeaderTypeTree) → type_of ds name ≡ o → option_and_then (λ t. width_in t field) o ≡ Some w → IsWidth w
    by None is e = absurd (cc e)
    by (Some t) is e = in_type t field w (type_wide ds none name t is) e

  plain_wide : (instance field : Name) → is_standard instance ≡ false → (w : ℕ) → width_of ds instance field ≡ Some w → IsWidth w
  plain_wide instance field plain w e =
      in_instance (option_and_then type_name_in (instance_of ds instance)) field w
      (subst (λ b. cond b (standard_width field) (option_and_then (λ t. width_in t field) (instance_type ds instance)) ≡ Some w) plain e)

  -- what is there has a width
  there : (o : Option ℕ) → is_none o ≡ false → ((w : ℕ) → o ≡ Some w → IsWidth w) → IsWidth (unwrap_or o 0)
  there None e wide = absurd (cc e)
  there (Some w) e wide = wide w refl

  known : (u : Use) → Has (uses ds) u → is_unknown ds u ≡ false
  known u has = none_passes (is_unknown ds) (uses ds) u (left_false _ _ (none_unknown ds none)) has

  standard_wide : (field : Name) → has_name left_out_fields field ≡ false → (w : ℕ) → standard_width field ≡ Some w → IsWidth w
  standard_wide field out w e = by (has_name ports field) (has_name counts field) (has_name left_out_fields field) out e where
    by : (a b c : Bool) → c ≡ false → cond a (Some 9) (cond b (Some 32) (cond c (Some 0) None)) ≡ Some w → IsWidth w
    by true b c out e = let same : 9 ≡ w = cc e in subst IsWidth same (omega arith, omega arith)
    by false true c out e = let same : 32 ≡ w = cc e in subst IsWidth same (omega arith, omega arith)
    by false false true out e = absurd (cc out)
    by false false false out e = absurd (cc e)

  field_wide : (r : Ref) → Has (uses ds) (of_field r) → IsWidth (unwrap_or (ref_width ds r) 0)
  field_wide r has = there (ref_width ds r) (known (of_field r) has) (λ w e. by (is_standard r.instance.name) refl w e) where
    supported : is_unsupported_use (of_field r) ≡ false
    supported = none_passes is_unsupported_use (uses ds) (of_field r) (left_false (list_any is_unsupported_use (uses ds)) _ (right_false (list_any declares_unsupported ds) _ (all_supported ds none))) has

    by : (b : Bool) → is_standard r.instance.name ≡ b → (w : ℕ) → ref_width ds r ≡ Some w → IsWidth w
    by false plain w e = plain_wide r.instance.name r.field plain w e
    by true is w e =
        standard_wide r.field
        (subst (λ b. (b && has_name left_out_fields r.field) ≡ false) is (right_false (is_last r.instance) (is_unsupported_standard r) supported)) w
        (subst (λ b. cond b (standard_width r.field) (option_and_then (λ t. width_in t r.field) (instance_type ds r.instance.name)) ≡ Some w) is e)

  -- C6
  never_early : (u : Use) → Has (uses ds) u → is_early u ≡ false
  never_early u has = none_passes is_early (uses ds) u (left_false _ _ selects_right) has

  -- what was extracted last isn't standard metadata
  abbrev pub LastPlain : Option Inst → Type 0
  LastPlain None = Unit {0}
  LastPlain (Some i) = is_standard i.name ≡ false

  pub value_here : (last : Option Inst) (v : PValue) → LastPlain last → ((u : Use) → Has (uses_of_value last v) u → Has (uses ds) u) → is_select_value v ≡ true → looks_too_far v ≡ false → SelectValue ds last v
  value_here last (pvalue.Current offset taken) plain used read near = (near, let n = looks_near taken.value (offset.value + taken.value) near in (n.0, let few = n.1 in omega (arith, few)))
  value_here None (pvalue.Latest called) plain used read near = absurd (cc (never_early (of_latest None called) (used (of_latest None called) (inl refl))))
  value_here (Some i) (pvalue.Latest called) plain used read near =
      (refl, there (width_of ds i.name called) (known (of_latest (Some i) called) (used (of_latest (Some i) called) (inl refl))) (plain_wide i.name called plain))
  value_here last (pvalue.Field r) plain used read near = (refl, field_wide r (used (of_field r) (inl refl)))
  value_here last (pvalue.Number n) plain used read near = absurd (cc read)
