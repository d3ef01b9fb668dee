-- What is declared by a name, and that it is so.
use Rattle.std.proofs.Common.{◌≡◌, inl, inr, ℕ, ◌<◌, Bool, true, false, cond, ◌||◌, ◌&&◌, Option, Some, None, List, [], ◌∷◌, length, get_or, refl, sym, ap, ◌∙◌, subst, arith}
use Rattle.std.specs.Prelude.{filter, is_some, unwrap_or, option_and_then, nat_lt}
use Rattle.std.specs.List.{list_any}
use Rattle.std.specs.Option.{option_map_or}
use Rattle.std.specs.Str.{bytes_eq}
use Rattle.std.proofs.lemmas.Bool.{ltb-false, leb-false}
use Rattle.std.proofs.lemmas.List.Quantifiers.{position-Some}
use Rattle.std.proofs.lemmas.Option.{slice_get-get_or}
use Rattle.p414_syntax.specs.declared.lexeme.Literal.{Literal}
use Rattle.p414_syntax.specs.declared.headers.Header.{Header}
use Rattle.p414_syntax.specs.declared.headers.Metadata.{Metadata}
use Rattle.p414_syntax.specs.declared.parts.Index.{Index}
use Rattle.p414_syntax.specs.declared.parts.Index.TheVariants.{At, Next, Last}
use Rattle.p414_syntax.specs.declared.parts.Inst.{Inst}
use Rattle.p414_syntax.specs.declared.syntax.Decl.{Decl}
use Rattle.p414_syntax.specs.declared.syntax.Decl.TheVariants as decl
use Rattle.p414_syntax.specs.declared.syntax.Sort.{Sort}
use Rattle.p414_syntax.specs.declared.syntax.Sort.TheVariants as sort
use Rattle.p414_syntax.specs.Names.{Name, name_in, find_name, repeats, names_in, declared_in, is_in, number_of, numbered, is_declared}
use Rattle.p414_syntax.specs.Primitives.{is_standard, is_any_primitive}
use Rattle.p414_syntax.specs.Fields.{instance_of, is_instance, is_header, is_header_in, stack_size, size_in}
use Rattle.p414_syntax.specs.Calls.{is_stack}
use Rattle.p414_syntax.specs.ParserGraph.{instance_number}
use Rattle.p414_syntax.specs.Stacks.{is_bad_size, is_bad_index, declares_bad_size, is_bad_instance, is_misplaced, has_bad_stack}
use Rattle.p414_syntax.specs.Uses.{of_instance, uses}
use Rattle.p414_syntax.specs.Targets.{is_metadata_in, is_metadata}
use Rattle.p414_syntax.specs.Totals.{elements_of}
use Rattle.p414_syntax.specs.Twice.{sorts, is_reserved, repeats_in, declares_twice}
use Rattle.p414_sem.specs.Slots.{element_number}
use Rattle.lower_laws_states.specs.Fits.{OfInstance, IsNoMetadata}
use Rattle.lower_laws_states.specs.Expansions.{Has}
use Rattle.lower_laws_states.proofs.Members.{has_at, has_picked, none_passes, neither, same_name}

-- names

pub found_has : (names : List Name) (name : Name) (k : ℕ) → find_name names name ≡ Some k → Has names name
found_has names name k e =
    let at = position-Some (bytes_eq name) names k [] e in
    subst (Has names) (sym (same_name name (get_or names k []) at.1)) (has_at names k (get_or names k []) (slice_get-get_or names k [] at.0))

pub declared_has : (ds : List Decl) (s : Sort) (name : Name) → is_declared s ds name ≡ true → Has (names_in s ds) name
declared_has ds s name there = by (number_of s ds name) refl there where
  by : (o : Option ℕ) → number_of s ds name ≡ o → is_some o ≡ true → Has (names_in s ds) name
  by None e there = absurd (cc there)
  by (Some k) e there = found_has (names_in s ds) name k e

-- a name that is declared is no primitive's and not that of standard metadata (C1)
name_free : (ds : List Decl) (s : Sort) → repeats_in ds s ≡ false → (name : Name) → is_declared s ds name ≡ true → is_reserved s name ≡ false
name_free ds s once name there = none_passes (is_reserved s) (names_in s ds) name (neither _ (repeats (names_in s ds)) once).0 (declared_has ds s name there)

pub not_standard : (ds : List Decl) → declares_twice ds ≡ false → (name : Name) → is_declared sort.Instance ds name ≡ true → is_standard name ≡ false
not_standard ds once name there = name_free ds sort.Instance (none_passes (repeats_in ds) sorts sort.Instance (neither (list_any (repeats_in ds) sorts) _ once).0 (inr (inl refl))) name there

pub named_not_standard : (ds : List Decl) → declares_twice ds ≡ false → (d : Decl) (name : Name) → Has ds d → name_in sort.Instance d ≡ Some name → is_standard name ≡ false
named_not_standard ds once d name h e =
    none_passes (is_reserved sort.Instance) (names_in sort.Instance ds) name
    (neither _ (repeats (names_in sort.Instance ds)) (none_passes (repeats_in ds) sorts sort.Instance (neither (list_any (repeats_in ds) sorts) _ once).0 (inr (inl refl)))).0
    (has_picked (name_in sort.Instance) ds d name h e)

pub no_primitive : (ds : List Decl) → declares_twice ds ≡ false → (name : Name) → is_declared sort.Action ds name ≡ true → is_any_primitive name ≡ false
no_primitive ds once name there = name_free ds sort.Action (none_passes (repeats_in ds) sorts sort.Action (neither (list_any (repeats_in ds) sorts) _ once).0 (inr (inr (inr (inl refl))))) name there

-- declarations

pub kept_has : {X : Type 0} (p : X → Bool) (xs : List X) (x : X) → Has (filter p xs) x → Has xs x
kept_has p [] x h = absurd h
kept_has {X} p (y ∷ xs) x h = by (p y) h (kept_has p xs x) where
  by : (b : Bool) → Has (cond b (y ∷ filter p xs) (filter p xs)) x → (Has (filter p xs) x → Has xs x) → Has (y ∷ xs) x
  by true (inl e) rest = inl e
  by true (inr h) rest = inr (rest h)
  by false h rest = inr (rest h)

pub numbered_has : (ds : List Decl) (s : Sort) (i : ℕ) (d : Decl) → numbered s ds i ≡ Some d → Has ds d
numbered_has ds s i d e = kept_has (is_in s) ds d (has_at (declared_in s ds) i d e)

-- the instance with a name
module _ (ds : List Decl) (name : Name) (d : Decl) (e : instance_of ds name ≡ Some d) where
  pub numbered_so : numbered sort.Instance ds (instance_number ds name) ≡ Some d
  numbered_so = by (number_of sort.Instance ds name) e where
    by : (o : Option ℕ) → option_and_then (numbered sort.Instance ds) o ≡ Some d → numbered sort.Instance ds (unwrap_or o (length (names_in sort.Instance ds))) ≡ Some d
    by None e = absurd (cc e)
    by (Some k) e = e

  pub is_there : is_declared sort.Instance ds name ≡ true
  is_there = by (number_of sort.Instance ds name) e where
    by : (o : Option ℕ) → option_and_then (numbered sort.Instance ds) o ≡ Some d → is_some o ≡ true
    by None e = absurd (cc e)
    by (Some k) e = refl

  -- and no other one
  pub only_it : OfInstance ds (instance_number ds name) (λ other. other ≡ d)
  only_it other is = cc (is, numbered_so)

pub header_there : (ds : List Decl) (name : Name) → is_header ds name ≡ true → (x : Header) × (instance_of ds name ≡ Some (decl.Header x))
header_there ds name is = by (instance_of ds name) is where
  by : (o : Option Decl) → option_map_or is_header_in o false ≡ true → (x : Header) × (o ≡ Some (decl.Header x))
  by None e = absurd (cc e)
  by (Some (decl.Header x)) e = (x, refl)
  by (Some _) e = absurd (cc e)

pub stack_there : (ds : List Decl) (name : Name) → is_stack ds name ≡ true → (x : Header) × (instance_of ds name ≡ Some (decl.Header x))
stack_there ds name is = by (instance_of ds name) is where
  by : (o : Option Decl) → is_some (option_and_then size_in o) ≡ true → (x : Header) × (o ≡ Some (decl.Header x))
  by None e = absurd (cc e)
  by (Some (decl.Header x)) e = (x, refl)
  by (Some _) e = absurd (cc e)

pub metadata_there : (ds : List Decl) (name : Name) → is_metadata ds name ≡ true → (x : Metadata) × (instance_of ds name ≡ Some (decl.Metadata x))
metadata_there ds name is = by (instance_of ds name) is where
  by : (o : Option Decl) → option_map_or is_metadata_in o false ≡ true → (x : Metadata) × (o ≡ Some (decl.Metadata x))
  by None e = absurd (cc e)
  by (Some (decl.Metadata x)) e = (x, refl)
  by (Some _) e = absurd (cc e)

pub no_metadata : (ds : List Decl) (name : Name) (x : Header) → instance_of ds name ≡ Some (decl.Header x) → IsNoMetadata ds (instance_number ds name)
no_metadata ds name x e d is = ap is_metadata_in (only_it ds name (decl.Header x) e d is)

-- an index is within a stack (C4)
pub index_within : (size : Option Literal) (ix : Option Index) → is_bad_index size ix ≡ false → option_map_or is_bad_size size false ≡ false → element_number ix < elements_of size
index_within None None right sized = omega arith
index_within None (Some k) right sized = absurd (cc right)
index_within (Some n) None right sized = absurd (cc right)
index_within (Some n) (Some (At k)) right sized = leb-false n.value k.value right
index_within (Some n) (Some Next) right sized = absurd (cc right)
index_within (Some n) (Some Last) right sized = omega (arith, ltb-false n.value 1 (neither (nat_lt n.value 1) (nat_lt 256 n.value) sized).0)

module _ (ds : List Decl) (stacks : has_bad_stack ds ≡ false) (i : Inst) (d : Decl) (e : instance_of ds i.name ≡ Some d) where
  size_is : stack_size ds i.name ≡ size_in d
  size_is = ap (λ (o : Option Decl). option_and_then size_in o) e

  declared_so : is_instance ds i.name ≡ true
  declared_so = by (is_standard i.name) where
    by : (b : Bool) → b || is_declared sort.Instance ds i.name ≡ true
    by true = refl
    by false = is_there ds i.name d e

  -- an instance that isn't misplaced
  pub within_stack : is_bad_instance ds i ≡ false → element_number i.index < elements_of (size_in d)
  within_stack judged =
      index_within (size_in d) i.index (sym (ap (λ (b : Bool). b && is_bad_index (size_in d) i.index) declared_so) ∙ (ap (λ (o : Option Literal). is_instance ds i.name && is_bad_index o i.index) (sym size_is) ∙ judged))
      (none_passes declares_bad_size ds d (neither (list_any declares_bad_size ds) (list_any (is_misplaced ds) (uses ds)) stacks).0 (numbered_has ds sort.Instance (instance_number ds i.name) d (numbered_so ds i.name d e)))

  pub element_within : Has (uses ds) (of_instance i) → element_number i.index < elements_of (size_in d)
  element_within used = within_stack (none_passes (is_misplaced ds) (uses ds) (of_instance i) (neither (list_any declares_bad_size ds) _ stacks).1 used)
