-- What the names of an accepted program give: no name twice (C1), and the types of instances are known (C2).
use Rattle.std.proofs.Common.{◌≡◌, inl, ℕ, ◌<◌, true, false, Option, Some, None, List, [], ◌∷◌, length, refl, ap, ◌∙◌, arith}
use Rattle.std.specs.Prelude.{is_some, slice_get, option_and_then}
use Rattle.std.specs.List.{list_any}
use Rattle.std.specs.Str.{bytes_eq}
use Rattle.std.proofs.lemmas.List.{length-map}
use Rattle.std.proofs.lemmas.List.Quantifiers.{position-Some}
use Rattle.std.proofs.lemmas.Option.{slice_get-get_or}
use Rattle.p414_syntax.specs.declared.syntax.Decl.{Decl}
use Rattle.p414_syntax.specs.declared.syntax.Decl.TheVariants as decl
use Rattle.p414_syntax.specs.declared.syntax.Sort.TheVariants as sort
use Rattle.p414_syntax.specs.Views.{HeaderTypeTree}
use Rattle.p414_syntax.specs.Names.{Name, is_declared, names_in, number_of}
use Rattle.p414_syntax.specs.Fields.{types, type_of}
use Rattle.p414_syntax.specs.Unknown.{is_unknown}
use Rattle.p414_syntax.specs.Uses.{Use, of_sort, uses_of, uses}
use Rattle.lower_laws_names.specs.Instances.{HasNames}
use Rattle.lower_laws_names.specs.Declared.{Among, TypeIsKnown}
use Rattle.lower_laws_names.proofs.Declared.{type_names, tree_name}
use Rattle.lower_laws_states.specs.Expansions.{Has}
use Rattle.lower_laws_states.specs.Laws.{BreaksNo}
use Rattle.lower_laws_states.proofs.Members.{has_joined, none_passes, neither, of_not}
use Rattle.lower_laws_states.proofs.Rules.{none_twice, none_unknown}
use Rattle.lower_laws_declared.specs.Layout.{IsShort}

-- both words for what stands in a list
-- a header type whose name is declared is there
pub type_there : (ds : List Decl) (type : Name) → is_declared sort.HeaderType ds type ≡ true → (t : HeaderTypeTree) × (type_of ds type ≡ Some t)
type_there ds type there = by (number_of sort.HeaderType ds type) refl there where
  at : (ts : List HeaderTypeTree) (k : ℕ) → k < length ts → (t : HeaderTypeTree) × (slice_get ts k ≡ Some t)
  at [] k lt = absurd (omega (arith, lt))
  at (t ∷ ts) k lt = (_, slice_get-get_or (t ∷ ts) k t lt)

  by : (o : Option ℕ) → number_of sort.HeaderType ds type ≡ o → is_some o ≡ true → (t : HeaderTypeTree) × (option_and_then (slice_get (types ds)) o ≡ Some t)
  by None e is = absurd (cc is)
  by (Some k) e is = at (types ds) k (omega (arith, (position-Some (bytes_eq type) (names_in sort.HeaderType ds) k [] e).0, ap length (type_names ds), length-map (types ds) tree_name))

module _ (ds : List Decl) (none : BreaksNo ds) where
  -- what is used is there
  known : (d : Decl) → Has ds d → (u : Use) → Has (uses_of d) u → is_unknown ds u ≡ false
  known d h u used = none_passes (is_unknown ds) (uses ds) u (neither (list_any (is_unknown ds) (uses ds)) _ (none_unknown ds none)).0 (has_joined uses_of ds d u h used)

  -- C2
  type_known : (d : Decl) → Has ds d → TypeIsKnown ds d
  type_known (decl.Header x) h = type_there ds x.header_type (of_not _ (known (decl.Header x) h (of_sort sort.HeaderType x.header_type) (inl refl)))
  type_known (decl.Metadata x) h = type_there ds x.header_type (of_not _ (known (decl.Metadata x) h (of_sort sort.HeaderType x.header_type) (inl refl)))
  type_known _ h = tt

  pub types_known : (d : Decl) → Among d ds → TypeIsKnown ds d
  types_known d h = type_known d h

  -- C1
  pub has_names : IsShort ds → HasNames ds
  has_names short = record { once = none_twice ds none; few = short.few; few_fields = short.few_fields }
