-- Instances and their fields are spelt under their new names.
use Rattle.std.proofs.Common.{◌≡◌, inl, inr, ℕ, zero, suc, ◌+◌, ◌<◌, ◌≤◌, ◌^◌, Option, Some, None, List, [], ◌∷◌, length, refl, ap, ◌∙◌, subst, arith}
use Rattle.std.specs.Prelude.{slice_get, slice_index_or, option_and_then}
use Rattle.std.specs.Option.{option_map_or}
use Rattle.p414_syntax.specs.declared.headers.Field.{Field}
use Rattle.p414_syntax.specs.declared.lexeme.Literal.{Literal}
use Rattle.p414_syntax.specs.declared.syntax.Decl.{Decl}
use Rattle.p414_syntax.specs.declared.syntax.Decl.TheVariants as decl
use Rattle.p414_syntax.specs.declared.syntax.Sort.TheVariants as sort
use Rattle.p414_syntax.specs.Views.{HeaderTypeTree}
use Rattle.p414_syntax.specs.Fields.{header_type_in, types, type_of}
use Rattle.p414_syntax.specs.Names.{Name, name_in, names_in, number_of}
use Rattle.agreement_of_meanings.specs.Shown.{Shown, as_metadata, nothing_shown, name_of, fields_of, field_at, shown_at}
use Rattle.lower_laws_names.specs.Made.{called}
use Rattle.lower_laws_names.specs.NewNames.{new_name}
use Rattle.lower_laws_names.specs.Instances.{named_from, type_fields, named_fields, shown_header, shown_in, shown_instances}
use Rattle.lower_laws_names.proofs.OneSort.{is_numbered}
use Rattle.lower_laws_states.specs.Expansions.{Has}
use Rattle.lower_laws_states.proofs.Members.{has_at, has_picked, picked_has}
use Rattle.lower_laws_rules.specs.Spelling.{SpeltName}
use Rattle.lower_laws_premises.specs.Literals.{IsSpelt}
use Rattle.lower_laws_premises.proofs.Rules.{has_so}
use Rattle.lower_laws_declared.specs.Layout.{IsShort}
use Rattle.lower_laws_translated.proofs.NamesRead.{new_name_spelt, new_field_spelt}

has_indexed : {X : Type 0} (xs : List X) (k : ℕ) (other : X) → k < length xs → Has xs (slice_index_or xs k other)
has_indexed [] k other lt = absurd (omega (arith, lt))
has_indexed (x ∷ xs) zero other lt = inl refl
has_indexed (x ∷ xs) (suc k) other lt = inr (has_indexed xs k other (omega (arith, lt)))

declared_type : (d : Decl) (t : HeaderTypeTree) → header_type_in d ≡ Some t → d ≡ decl.HeaderType t
declared_type (decl.HeaderType x) t e = ap (λ (z : HeaderTypeTree). decl.HeaderType z) (inside x t e) where
  inside : (a b : HeaderTypeTree) → Some a ≡ Some b → a ≡ b
  inside a b f = cc f
declared_type _ t e = absurd (cc e)

pub record IsSpeltShown (x : Shown) : Type 0 where
  pub name : SpeltName (name_of x)
  pub fields : (k : ℕ) → k < length (fields_of x) → SpeltName (field_at (fields_of x) k).called

module _ (ds : List Decl) (spelt : IsSpelt ds) (short : IsShort ds) where
  pub type_has : (type : Name) (t : HeaderTypeTree) → type_of ds type ≡ Some t → Has ds (decl.HeaderType t)
  type_has type t e = by (number_of sort.HeaderType ds type) e where
    by : (o : Option ℕ) → option_and_then (slice_get (types ds)) o ≡ Some t → Has ds (decl.HeaderType t)
    by None f = absurd (cc f)
    by (Some k) f = let d = picked_has header_type_in ds t (has_at (types ds) k t f) in subst (Has ds) (declared_type d.0 t d.2) d.1

  named_spelt : (t : HeaderTypeTree) → Has ds (decl.HeaderType t) → (fields : List Field) (number : ℕ) → ((f : Field) → Has fields f → Has t.fields f) → number + length fields ≤ 2 ^ 32 → (k : ℕ) → k < length (named_from number fields) → SpeltName (field_at (named_from number fields) k).called
  named_spelt t h [] number there few k lt = absurd (omega (arith, lt))
  named_spelt t h (f ∷ fields) number there few zero lt = new_field_spelt ds spelt t f number h (there f (inl refl)) (omega (arith, few))
  named_spelt t h (f ∷ fields) number there few (suc k) lt = named_spelt t h fields (number + 1) (λ g is. there g (inr is)) (omega (arith, few)) k (omega (arith, lt))

  pub fields_spelt : (type : Name) (k : ℕ) → k < length (named_fields ds type) → SpeltName (field_at (named_fields ds type) k).called
  fields_spelt type = by (type_of ds type) refl where
    by : (o : Option HeaderTypeTree) → type_of ds type ≡ o → (k : ℕ) → k < length (option_map_or type_fields o []) → SpeltName (field_at (option_map_or type_fields o []) k).called
    by None e k lt = absurd (omega (arith, lt))
    by (Some t) e k lt = named_spelt t (type_has type t e) t.fields 0 (λ f h. h) (omega (arith, short.few_fields type t e)) k lt

  instance_spelt : (d : Decl) (n : Name) → Has ds d → name_in sort.Instance d ≡ Some n → SpeltName (new_name ds sort.Instance n)
  instance_spelt d n h e = new_name_spelt ds spelt sort.Instance d n h e (is_numbered ds sort.Instance n short.few (has_so (names_in sort.Instance ds) n (has_picked (name_in sort.Instance) ds d n h e)))

  header_spelt : (type name : Name) (size : Option Literal) → SpeltName (new_name ds sort.Instance name) → IsSpeltShown (shown_header ds type name size)
  header_spelt type name None is = record { name = is; fields = fields_spelt type }
  header_spelt type name (Some size) is = record { name = is; fields = fields_spelt type }

  pub shown_spelt : (d : Decl) (x : Shown) → Has ds d → shown_in ds d ≡ Some x → IsSpeltShown x
  shown_spelt (decl.Header y) x h e = subst IsSpeltShown (inside (shown_header ds y.header_type y.name y.size) x e) (header_spelt y.header_type y.name y.size (instance_spelt (decl.Header y) y.name h refl)) where
    inside : (a b : Shown) → Some a ≡ Some b → a ≡ b
    inside a b f = cc f
  shown_spelt (decl.Metadata y) x h e = subst IsSpeltShown (inside (as_metadata (new_name ds sort.Instance y.name) (named_fields ds y.header_type)) x e) (record { name = instance_spelt (decl.Metadata y) y.name h refl; fields = fields_spelt y.header_type }) where
    inside : (a b : Shown) → Some a ≡ Some b → a ≡ b
    inside a b f = cc f
  shown_spelt _ x h e = absurd (cc e)

  -- each instance by its number
  pub instances_spelt : (i : ℕ) → i < length (shown_instances ds) → IsSpeltShown (shown_at (shown_instances ds) i)
  instances_spelt i lt =
      let d = picked_has (shown_in ds) ds (shown_at (shown_instances ds) i) (has_indexed (shown_instances ds) i nothing_shown lt) in
      shown_spelt d.0 (shown_at (shown_instances ds) i) d.1 d.2
