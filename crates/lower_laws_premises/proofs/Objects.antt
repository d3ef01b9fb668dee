-- Objects: each that is declared stands among those of the lowering under its number, with its kind, and registers have the bits
-- that they declare (C1, C3, C25).
use Rattle.std.proofs.Common.{◌≡◌, inl, inr, ℕ, zero, suc, ◌<◌, Bool, true, false, cond, Option, Some, None, List, [], ◌∷◌, ◌++◌, length, slice_get, refl, sym, ap, ◌∙◌, subst}
use Rattle.std.specs.Prelude.{is_some, is_none, unwrap_or, option_map, option_and_then, filter, filter_map}
use Rattle.std.specs.List.{list_any, cons_option}
use Rattle.std.specs.Option.{option_map_or}
use Rattle.std.specs.Str.{bytes_eq}
use Rattle.std.proofs.lemmas.Option.{slice_get_within, get_or_from_slice_get, slice_get-map}
use Rattle.std.proofs.lemmas.Slice.Eq.{bytes_eq-Decides}
use Rattle.p414_syntax.specs.declared.syntax.Decl.{Decl}
use Rattle.p414_syntax.specs.declared.syntax.Decl.TheVariants as decl
use Rattle.p414_syntax.specs.declared.syntax.Sort.{Sort}
use Rattle.p414_syntax.specs.declared.syntax.Sort.TheVariants as sort
use Rattle.p414_syntax.specs.Attributes.{direct_table_of}
use Rattle.p414_syntax.specs.Names.{Name, has_name, repeats_behind, repeats, name_in, is_in, names_in, number_of, numbered, declaration_of}
use Rattle.p414_syntax.specs.Calls.{is_indirect_counter, is_register, is_meter}
use Rattle.p414_syntax.specs.Twice.{declares_twice, sorts, repeats_in}
use Rattle.p414_sem.specs.Operations.{in_order, object_number}
use Rattle.p414_sem.specs.Signatures.{counts_entries_of, first_name, direct_counter as direct_counter14}
use Rattle.p416_syntax.specs.Kinds.{ObjectKind, counter, direct_counter, register, meter}
use Rattle.lower_laws_base.specs.Context.{Lowering, ObjectName, no_object, object_at}
use Rattle.lower_laws_states.specs.Standing.{ObjectStands}
use Rattle.lower_laws_states.specs.Expansions.{Has}
use Rattle.lower_laws_states.proofs.Members.{neither, none_passes, has_at, picked_has, has_picked}
use Rattle.lower_laws_states.proofs.Declared.{declared_has}
use Rattle.lower_laws_states.proofs.Filling.{in_order_has, has_found}
use Rattle.lower_laws_actions.specs.Fits.{IsObject}
use Rattle.lower_laws_premises.specs.Shown.{object_kind, object_shown, objects_shown}
use Rattle.lower_laws_actions.specs.Actions.{CounterIs}

-- a name that a list doesn't repeat

pub same_itself : (name : Name) → bytes_eq name name ≡ true
same_itself name = (bytes_eq-Decides name name).1 refl

pub not_behind : (before names : List Name) (name : Name) → repeats_behind before names ≡ false → Has before name → Has names name → ⊥
not_behind before [] name once h k = k
not_behind before (m ∷ names) name once h (inl e) = cc (none_passes (bytes_eq m) before name (neither (has_name before m) _ once).0 h, ap (λ (z : Name). bytes_eq z name) e, same_itself name)
not_behind before (m ∷ names) name once h (inr k) = not_behind (before ++ m ∷ []) names name (neither (has_name before m) _ once).1 (still before h) k where
  still : (l : List Name) → Has l name → Has (l ++ m ∷ []) name
  still [] h = absurd h
  still (x ∷ l) (inl e) = inl e
  still (x ∷ l) (inr h) = inr (still l h)

-- of a name that isn't repeated, the declaration at its place is the only one with the name
only_declared : (s : Sort) (name : Name) (d : Decl) → name_in s d ≡ Some name → (before : List Name) (ds : List Decl) → repeats_behind before (filter_map (name_in s) ds) ≡ false → Has ds d → (k : ℕ) → slice_get (filter_map (name_in s) ds) k ≡ Some name → slice_get (filter (is_in s) ds) k ≡ Some d
only_declared s name d named before [] once h k at = absurd h
only_declared s name d named before (e ∷ ds) once h k at = by (name_in s e) refl once at (λ b. only_declared s name d named b ds) where
  last : (l : List Name) (m : Name) → Has (l ++ m ∷ []) m
  last [] m = inl refl
  last (x ∷ l) m = inr (last l m)

  by : (o : Option Name) → name_in s e ≡ o → repeats_behind before (cons_option o (filter_map (name_in s) ds)) ≡ false → slice_get (cons_option o (filter_map (name_in s) ds)) k ≡ Some name → ((before : List Name) → repeats_behind before (filter_map (name_in s) ds) ≡ false → Has ds d → (k : ℕ) → slice_get (filter_map (name_in s) ds) k ≡ Some name → slice_get (filter (is_in s) ds) k ≡ Some d) → slice_get (cond (is_some o) (e ∷ filter (is_in s) ds) (filter (is_in s) ds)) k ≡ Some d
  by None is once at rest = of h where
    of : Has (e ∷ ds) d → slice_get (filter (is_in s) ds) k ≡ Some d
    of (inl same) = absurd (cc (is, named, ap (name_in s) same))
    of (inr h) = rest before once h k at
  by (Some m) is once at rest = of h k at where
    more : repeats_behind (before ++ m ∷ []) (filter_map (name_in s) ds) ≡ false
    more = (neither (has_name before m) _ once).1

    of : Has (e ∷ ds) d → (k : ℕ) → slice_get (m ∷ filter_map (name_in s) ds) k ≡ Some name → slice_get (e ∷ filter (is_in s) ds) k ≡ Some d
    of (inl same) zero at = ap Some same
    of (inl same) (suc k) at = absurd (not_behind (before ++ m ∷ []) (filter_map (name_in s) ds) m more (last before m) (has_at (filter_map (name_in s) ds) k m (subst (λ (z : Name). slice_get (filter_map (name_in s) ds) k ≡ Some z) (sym (cc (is, named, ap (name_in s) same))) at)))
    of (inr h) zero at = absurd (not_behind (before ++ m ∷ []) (filter_map (name_in s) ds) m more (last before m) (has_picked (name_in s) ds d m h (named ∙ sym at)))
    of (inr h) (suc k) at = rest (before ++ m ∷ []) more h k at

sort_once : (ds : List Decl) → declares_twice ds ≡ false → repeats (names_in sort.Object ds) ≡ false
sort_once ds once = (neither _ (repeats (names_in sort.Object ds)) (none_passes (repeats_in ds) sorts sort.Object (neither (list_any (repeats_in ds) sorts) _ once).0 (inr (inr (inr (inr (inr (inr (inr (inl refl)))))))))).1

pub object_declared : (ds : List Decl) → declares_twice ds ≡ false → (d : Decl) (name : Name) → Has ds d → name_in sort.Object d ≡ Some name → declaration_of sort.Object ds name ≡ Some d
object_declared ds once d name h named =
    let n = has_found (names_in sort.Object ds) name (has_picked (name_in sort.Object) ds d name h named) in
    ap (option_and_then (numbered sort.Object ds)) n.1 ∙ only_declared sort.Object name d named [] ds (sort_once ds once) h n.0 n.2

-- objects by their numbers

module _ (c : Lowering) (ds : List Decl) (new : Name → Name) (objects : c.objects ≡ objects_shown new ds) where
  at_number : (name : Name) → Has (names_in sort.Object ds) name → (object_number ds name < length c.objects) × (object_at c.objects (object_number ds name) ≡ object_shown new ds name)
  at_number name h =
      let n = has_found (in_order (names_in sort.Object ds)) name (in_order_has (names_in sort.Object ds) name h) in
      let at : slice_get (objects_shown new ds) n.0 ≡ Some (object_shown new ds name) = slice_get-map (object_shown new ds) (in_order (names_in sort.Object ds)) n.0 ∙ ap (option_map (object_shown new ds)) n.2 in
      subst (λ k. (k < length c.objects) × (object_at c.objects k ≡ object_shown new ds name)) (sym (ap (λ (o : Option ℕ). unwrap_or o (length (in_order (names_in sort.Object ds)))) n.1))
      (subst (λ (l : List ObjectName). (n.0 < length l) × (object_at l n.0 ≡ object_shown new ds name)) (sym objects) (slice_get_within (objects_shown new ds) n.0 _ at, get_or_from_slice_get (objects_shown new ds) n.0 _ no_object at))

  named_there : (name : Name) (d : Decl) → declaration_of sort.Object ds name ≡ Some d → Has (names_in sort.Object ds) name
  named_there name d e = declared_has ds sort.Object name (by (number_of sort.Object ds name) e) where
    by : (o : Option ℕ) → option_and_then (numbered sort.Object ds) o ≡ Some d → is_some o ≡ true
    by None e = absurd (cc e)
    by (Some k) e = refl

  object_there : (name : Name) (d : Decl) → declaration_of sort.Object ds name ≡ Some d → IsObject c (object_kind d) (object_number ds name)
  object_there name d e =
      let at = at_number name (named_there name d e) in
      (at.0, ap (λ (o : ObjectName). o.kind) at.1 ∙ ap (λ (o : Option Decl). option_map_or object_kind o meter) e)

  -- an object of a kind that is declared
  of_kind : (is_kind : Decl → Bool) (kind : ObjectKind) → ((d : Decl) → is_kind d ≡ true → object_kind d ≡ kind) → (object : ℕ) → ObjectStands ds is_kind object → IsObject c kind object
  of_kind is_kind kind means object stands = by (declaration_of sort.Object ds stands.name) refl stands.is_one where
    by : (o : Option Decl) → declaration_of sort.Object ds stands.name ≡ o → option_map_or is_kind o false ≡ true → IsObject c kind object
    by None e f = absurd (cc f)
    by (Some d) e f = subst (IsObject c kind) (sym stands.is_number) (subst (λ (k : ObjectKind). IsObject c k (object_number ds stands.name)) (means d f) (object_there stands.name d e))

  means_counter : (d : Decl) → is_indirect_counter d ≡ true → object_kind d ≡ counter
  means_counter (decl.Counter x) e = by (direct_table_of x.attributes) e where
    by : (o : Option Name) → is_none o ≡ true → cond (is_some o) direct_counter counter ≡ counter
    by None e = refl
    by (Some t) e = absurd (cc e)
  means_counter _ e = absurd (cc e)

  means_register : (d : Decl) → is_register d ≡ true → object_kind d ≡ register
  means_register (decl.Register x) e = refl
  means_register _ e = absurd (cc e)

  means_meter : (d : Decl) → is_meter d ≡ true → object_kind d ≡ meter
  means_meter (decl.Meter x) e = refl
  means_meter _ e = absurd (cc e)

  pub counter_is : (object : ℕ) → ObjectStands ds is_indirect_counter object → IsObject c counter object
  counter_is = of_kind is_indirect_counter counter means_counter

  pub register_is : (object : ℕ) → ObjectStands ds is_register object → IsObject c register object
  register_is = of_kind is_register register means_register

  pub meter_is : (object : ℕ) → ObjectStands ds is_meter object → IsObject c meter object
  meter_is = of_kind is_meter meter means_meter

  -- the direct counter of a table
  pub direct_is : declares_twice ds ≡ false → (table : Name) → CounterIs c (direct_counter14 ds table)
  direct_is once table = by (filter_map (counts_entries_of table) ds) refl where
    counts : (d : Decl) (name : Name) → counts_entries_of table d ≡ Some name → (name_in sort.Object d ≡ Some name) × (object_kind d ≡ direct_counter)
    counts (decl.Counter x) name e = of (direct_table_of x.attributes) refl e where
      of : (o : Option Name) → direct_table_of x.attributes ≡ o → counts_entries_of table (decl.Counter x) ≡ Some name → (Some x.name ≡ Some name) × (cond (is_some (direct_table_of x.attributes)) direct_counter counter ≡ direct_counter)
      of None f e = let none : counts_entries_of table (decl.Counter x) ≡ None = rw f refl in absurd (cc (none, e))
      of (Some t) f e = let some : counts_entries_of table (decl.Counter x) ≡ cond (bytes_eq t table) (Some x.name) None = rw f refl in (told (bytes_eq t table) (sym some ∙ e), ap (λ (o : Option Name). cond (is_some o) direct_counter counter) f) where
        told : (b : Bool) → cond b (Some x.name) None ≡ Some name → Some x.name ≡ Some name
        told true e = e
        told false e = absurd (cc e)
    counts _ name e = absurd (cc e)

    by : (names : List Name) → filter_map (counts_entries_of table) ds ≡ names → CounterIs c (option_map (object_number ds) (first_name names))
    by [] e = tt
    by (name ∷ names) e =
        let d = picked_has (counts_entries_of table) ds name (subst (λ (l : List Name). Has l name) (sym e) (inl refl)) in
        let is = counts d.0 name d.2 in
        subst (λ (k : ObjectKind). IsObject c k (object_number ds name)) is.1 (object_there name d.0 (object_declared ds once d.0 name d.1 is.0))
