-- Calculated fields are of the program (C2, C4, C8, C20, C21, C25).
use Rattle.std.proofs.Common.{◌≡◌, ◌⊎◌, inl, inr, ℕ, suc, ◌<◌, ◌^◌, Bool, true, false, cond, not, ◌&&◌, Option, Some, None, List, [], ◌∷◌, ◌++◌, length, get_or, refl, sym, ap, ◌∙◌, subst, arith}
use Rattle.std.specs.Prelude.{flat_map, is_some, is_none, slice_get, nat_lt, unwrap_or, option_map, option_and_then, option_to_list, Contains, count_by, ◌||◌}
use Rattle.std.specs.List.{list_any}
use Rattle.std.specs.Option.{option_map_or}
use Rattle.match_core.specs.declared.entries.Entries.{Entries}
use Rattle.p414_syntax.specs.declared.lexeme.Literal.{Literal}
use Rattle.p414_syntax.specs.declared.calculations.Calc.{Calc}
use Rattle.p414_syntax.specs.declared.calculations.CalcCond.{CalcCond}
use Rattle.p414_syntax.specs.declared.calculations.CalcCond.TheVariants as calc_cond
use Rattle.p414_syntax.specs.declared.calculations.CalculatedField.{CalculatedField}
use Rattle.p414_syntax.specs.declared.calculations.FieldListCalculation.{FieldListCalculation}
use Rattle.p414_syntax.specs.declared.calculations.Item.{Item}
use Rattle.p414_syntax.specs.declared.calculations.Item.TheVariants as item
use Rattle.p414_syntax.specs.declared.headers.Header.{Header}
use Rattle.p414_syntax.specs.declared.parts.Index.{Index}
use Rattle.p414_syntax.specs.declared.parts.Index.TheVariants.{At, Next, Last}
use Rattle.p414_syntax.specs.declared.parts.Inst.{Inst}
use Rattle.p414_syntax.specs.declared.parts.Ref.{Ref}
use Rattle.p414_syntax.specs.declared.syntax.Decl.{Decl}
use Rattle.p414_syntax.specs.declared.syntax.Decl.TheVariants as decl
use Rattle.p414_syntax.specs.declared.syntax.Rule14.TheVariants as rule
use Rattle.p414_syntax.specs.declared.syntax.Sort.TheVariants as sort
use Rattle.p414_syntax.specs.Views.{HeaderTypeTree}
use Rattle.p414_syntax.specs.Names.{Name, name_in, is_declared, number_of, find_name}
use Rattle.p414_syntax.specs.Breaks.{BreaksNone, IsBroken, program_rules}
use Rattle.p414_syntax.specs.CalculatedFields.{reads_calculated, is_calculated_entry, has_calculated_entry, has_calculated_condition}
use Rattle.p414_syntax.specs.Expansion.{type_fields}
use Rattle.p414_syntax.specs.Fields.{instance_type, ref_width, width_in, field_bits, is_header, is_instance, stack_size}
use Rattle.p414_syntax.specs.Lists.{calculated_in, calculated_fields, is_update, is_verify, calculation_in, calculation_of, input_of, input_names, gives_other_width, condition_reads_standard, is_standard_condition, is_bad_calculated, is_standard_item, inputs_of_field, all_inputs, is_bad_input, has_bare_number, InputsAreBad}
use Rattle.p414_syntax.specs.Payloads.{has_early_payload, input_in, inputs, InputHasEarlyPayload}
use Rattle.p414_syntax.specs.Primitives.{is_standard, standard_width}
use Rattle.p414_syntax.specs.Stacks.{is_bad_index, is_misplaced, declares_bad_size}
use Rattle.p414_syntax.specs.Unsupported.{is_last, is_last_index, is_unsupported_standard, is_unsupported_use, declares_unsupported}
use Rattle.p414_syntax.specs.Uses.{Use, of_sort, of_field, of_instance, uses_of_condition, uses_of_calc, uses_of, uses}
use Rattle.p414_sem.specs.Calculations.{calculation_named, joined_calculation, items_named, no_calculation}
use Rattle.p414_sem.specs.Expanded.{Expanded, items_in_list}
use Rattle.p414_sem.specs.Slots.{standard, declared, standard_field, declared_slot, slot_of, element_of, bits_of_ref}
use Rattle.v1_core.specs.Surroundings.{Surroundings}
use Rattle.agreement_of_meanings.specs.Shown.{Shown, as_header, as_stack, as_metadata, owner_of, slot_width}
use Rattle.lower_laws_base.specs.Context.{StateLayout, HasRoot, Lowering, IsSlot, IsPart, shown_on}
use Rattle.lower_laws_controls.specs.Listing.{Each}
use Rattle.lower_laws_sums.specs.Sums.{IsHeaderSlot, FieldFits}
use Rattle.lower_laws_sums.proofs.Ruled.{ItemFits, IsField, IndexesAlike, ConditionRuled, EntryRuled, FieldRuled, field_fits}
use Rattle.lower_laws_program.specs.Scopes.{block_layout}
use Rattle.lower_laws_program.specs.Controls.{checksum_block}
use Rattle.lower_laws_states.specs.Expansions.{Has}
use Rattle.lower_laws_states.specs.Standing.{ItemStands}
use Rattle.lower_laws_states.proofs.Members.{has_joined, joined_has, picked_has, has_each, neither, none_passes, of_not, not_true}
use Rattle.lower_laws_states.proofs.Declared.{declared_has, named_not_standard, header_there, numbered_so, within_stack}
use Rattle.lower_laws_states.proofs.Items.{accepted_items}
use Rattle.lower_laws_states.proofs.Standing.{found}
use Rattle.lower_laws_states.proofs.Rules.{none_twice, fields_right, stacks_right, all_supported}
use Rattle.lower_laws_premises.specs.Literals.{IsFittingItem}
use Rattle.lower_laws_premises.specs.Shown.{Shows}
use Rattle.lower_laws_premises.proofs.Bits.{bits_stand}
use Rattle.lower_laws_premises.proofs.LayoutFits.{slot_is, bits_are, header_is}
use Rattle.lower_laws_premises.proofs.Hashes.{Comes, comes, items_are, joined, at_list, items_fit}
use Rattle.lower_laws_premises.proofs.Sources.{sized}
use Rattle.lower_laws_declared.specs.Layout.{program_layout}
use Rattle.lower_laws_declared.specs.Objects.{objects_by_number}
use Rattle.lower_laws_declared.proofs.Found.{declaration_found, declaration_named, named_declared}
use Rattle.lower_laws_translated.specs.Given.{IsGiven}
use Rattle.lower_laws_translated.proofs.Leaves.{field_there, instance_there, known}
use Rattle.lower_laws_translated.proofs.Shown.{within, within_shows}

contains : {X : Type 0} (xs : List X) (x : X) → Has xs x → Contains xs x
contains [] x is = absurd is
contains (y ∷ xs) x (inl e) = (0, omega arith, e)
contains (y ∷ xs) x (inr more) = let c = contains xs x more in (suc c.0, omega (arith, c.1), c.2)

each_of : {X : Type 0} (P : X → Type 0) (xs : List X) → ((x : X) → Has xs x → P x) → Each P xs
each_of P [] f = tt
each_of P (x ∷ xs) f = (f x (inl refl), each_of P xs (λ y h. f y (inr h)))

-- a name that is found in a header type

field_found : (t : HeaderTypeTree) (field : Name) → is_none (width_in t field) ≡ false → (k : ℕ) × (find_name (type_fields t) field ≡ Some k)
field_found t field there = of (find_name (type_fields t) field) refl there where
  of : (o : Option ℕ) → find_name (type_fields t) field ≡ o → is_none (option_map field_bits (option_and_then (slice_get t.fields) o)) ≡ false → (k : ℕ) × (find_name (type_fields t) field ≡ Some k)
  of None e there = absurd (cc there)
  of (Some k) e there = (k, e)

pub some_of : {X : Type 0} (o : Option X) → is_none o ≡ false → (x : X) × (o ≡ Some x)
some_of None e = absurd (cc e)
some_of (Some x) e = (x, refl)

some_there : {X : Type 0} (o : Option X) → is_some o ≡ true → (x : X) × (o ≡ Some x)
some_there None e = absurd (cc e)
some_there (Some x) e = (x, refl)

-- indexes of one instance

module _ (ds : List Decl) where
  plain_slot : (r : Ref) → is_standard r.instance.name ≡ false → slot_of ds r ≡ declared_slot ds r
  plain_slot r plain = ap (λ b. cond b (option_map_or standard (standard_field r.field) (declared_slot ds r)) (declared_slot ds r)) plain

  named_field : (r : Ref) → is_standard r.instance.name ≡ false → is_none (ref_width ds r) ≡ false → is_declared sort.Instance ds r.instance.name ≡ true → IsField ds r
  named_field r plain wide there =
      let n = some_there (number_of sort.Instance ds r.instance.name) there in
      let f = by (instance_type ds r.instance.name) (ap (λ b. is_none (cond b (standard_width r.field) (option_and_then (λ t. width_in t r.field) (instance_type ds r.instance.name)))) (sym plain) ∙ wide) in
      record { plain = plain; instance = n.0; there = n.1; field = f.0; has = f.1 }
    where
      by : (o : Option HeaderTypeTree) → is_none (option_and_then (λ t. width_in t r.field) o) ≡ false → (k : ℕ) × (find_name (option_map_or type_fields o []) r.field ≡ Some k)
      by None e = absurd (cc e)
      by (Some t) e = field_found t r.field e

alike : (size : Option Literal) (i j : Option Index) → is_bad_index size i ≡ false → is_bad_index size j ≡ false → is_last_index i ≡ false → is_last_index j ≡ false → IndexesAlike i j
alike None None None a b l m = tt
alike None None (Some j) a b l m = absurd (cc b)
alike None (Some i) j a b l m = absurd (cc a)
alike (Some n) None j a b l m = absurd (cc a)
alike (Some n) (Some i) None a b l m = absurd (cc b)
alike (Some n) (Some (At k)) (Some (At h)) a b l m = tt
alike (Some n) (Some Next) (Some j) a b l m = absurd (cc a)
alike (Some n) (Some Last) (Some j) a b l m = absurd (cc l)
alike (Some n) (Some (At k)) (Some Next) a b l m = absurd (cc b)
alike (Some n) (Some (At k)) (Some Last) a b l m = absurd (cc m)

calculated_is : (d : Decl) (f : CalculatedField) → Has (calculated_in d) f → d ≡ decl.CalculatedField f
calculated_is (decl.CalculatedField x) f (inl e) = ap decl.CalculatedField e
calculated_is (decl.CalculatedField x) f (inr h) = absurd h
calculated_is _ f h = absurd h

calculation_is : (d : Decl) (name : Name) → name_in sort.Calculation d ≡ Some name → (k : FieldListCalculation) × (d ≡ decl.FieldListCalculation k)
calculation_is (decl.FieldListCalculation k) name e = (k, refl)
calculation_is _ name e = absurd (cc e)

-- the layout of the blocks that verify and update has headers and metadata alone

module _ (ds : List Decl) (entries : Entries) where
  abbrev pub sums : StateLayout
  sums = block_layout (program_layout ds entries) (checksum_block (objects_by_number ds))

  root_there : (x : Shown) → HasRoot sums (owner_of x)
  root_there (as_header called fields) = refl
  root_there (as_stack called fields) = refl
  root_there (as_metadata called fields) = refl

module _ (ds : List Decl) (x : Expanded) (given : IsGiven ds x) (entries : Entries) (b : Surroundings) where
  abbrev none : BreaksNone ds program_rules
  none = given.none

  abbrev c : Lowering
  c = within ds given.none given.short x given.expanded entries rule.Sequential [] b 0

  abbrev g : StateLayout
  g = sums ds entries

  shows : Shows c ds
  shows = within_shows ds given.none given.short x given.expanded entries rule.Sequential [] b 0

  slot_to : (r : Ref) → is_standard r.instance.name ≡ false → IsSlot c.layout (slot_of ds r) → IsSlot g (slot_of ds r)
  slot_to r plain is =
      let s = subst (IsSlot c.layout) (plain_slot ds r plain) is in
      subst (IsSlot g) (sym (plain_slot ds r plain)) (s.0, s.1, root_there ds entries (shown_on g _), s.3)

  part_to : (i : Inst) → IsPart c.layout (element_of ds i) → IsPart g (element_of ds i)
  part_to i is = (is.0, is.1, root_there ds entries (shown_on g _))

  field_of : (r : Ref) → Has (uses ds) (of_field r) → is_standard r.instance.name ≡ false → IsSlot g (slot_of ds r) × (slot_width g.names.instances (slot_of ds r) ≡ bits_of_ref ds r)
  field_of r used plain = let f = field_there c ds none shows.instances shows.roots r used in (slot_to r plain f.0, f.1)

  wide : (r : Ref) → Has (uses ds) (of_field r) → is_none (ref_width ds r) ≡ false
  wide r used = known c ds none shows.instances shows.roots (of_field r) used

  not_last : (r : Ref) → Has (uses ds) (of_field r) → is_last_index r.instance.index ≡ false
  not_last r used = (neither (is_last r.instance) (is_unsupported_standard r) (none_passes is_unsupported_use (uses ds) (of_field r) (neither (list_any is_unsupported_use (uses ds)) _ (neither (list_any declares_unsupported ds) _ (all_supported ds none)).1).0 used)).0

  -- rules

  -- C8
  none_read : InputsAreBad ds → ⊥
  unfolding IsBroken
  none_read bad = none.1.1.1.1.1.1.1.0 (inr (inr (inr bad)))

  -- C20
  none_early : InputHasEarlyPayload ds → ⊥
  unfolding IsBroken
  none_early bad = none.1.1.1.1.1.1.1.1.1.1.1.1.1.1.1.1.1.1.1.0 (inr (inl bad))

  -- C21
  none_calculated : has_calculated_condition ds ≡ false
  unfolding IsBroken
  none_calculated = not_true (has_calculated_condition ds) none.1.1.1.1.1.1.1.1.1.1.1.1.1.1.1.1.1.1.1.1.0

  -- a field that is declared to be calculated
  declared_field : (f : CalculatedField) → Has (calculated_fields ds) f → Has ds (decl.CalculatedField f)
  declared_field f h = let d = joined_has calculated_in ds f h in subst (Has ds) (calculated_is d.0 f d.2) d.1

  -- the calculation of an entry
  calculated_by : (name : Name) → Has (uses ds) (of_sort sort.Calculation name) → (k : FieldListCalculation) × (calculation_of ds name ≡ Some k) × Has ds (decl.FieldListCalculation k)
  calculated_by name used =
      let there = of_not (is_declared sort.Calculation ds name) (known c ds none shows.instances shows.roots (of_sort sort.Calculation name) used) in
      let d = picked_has (name_in sort.Calculation) ds name (declared_has ds sort.Calculation name there) in
      let k = calculation_is d.0 name d.2 in
      (k.0, ap (option_and_then calculation_in) (declaration_found ds none sort.Calculation d.0 name d.1 d.2 ∙ ap Some k.1), subst (Has ds) k.1 d.1)

  -- uses

  field_used : (f : CalculatedField) → Has ds (decl.CalculatedField f) → Has (uses ds) (of_field f.field)
  field_used f h = has_joined uses_of ds (decl.CalculatedField f) (of_field f.field) h (inl refl)

  entry_used : (f : CalculatedField) → Has ds (decl.CalculatedField f) → (z : Calc) → Has f.entries z → (u : Use) → Has (uses_of_calc z) u → Has (uses ds) u
  entry_used f h z there u used = has_joined uses_of ds (decl.CalculatedField f) u h (inr (has_joined uses_of_calc f.entries z u there used))

  condition_used : (z : Calc) (k : CalcCond) → z.condition ≡ Some k → (u : Use) → Has (uses_of_condition k) u → Has (uses_of_calc z) u
  condition_used z k e u h = inr (has_joined uses_of_condition (option_to_list z.condition) k u (subst (λ (o : Option CalcCond). Has (option_to_list o) k) (sym e) (inl refl)) h)

  -- all inputs together

  input_used : (f : CalculatedField) → Has (calculated_fields ds) f → (z : Calc) → Has f.entries z → (k : FieldListCalculation) → calculation_of ds z.calculation ≡ Some k → (name : Name) → Has k.input name → Has (all_inputs ds) name
  input_used f h z there k e name n =
      has_joined (inputs_of_field ds) (calculated_fields ds) f name h (has_joined (input_of ds) f.entries z name there (subst (λ (o : Option FieldListCalculation). Has (option_map_or input_names o []) name) (sym e) n))

  all_come : (name : Name) → Has (all_inputs ds) name → Comes ds none given.spelt x given.expanded name
  all_come name h =
      let f = joined_has (inputs_of_field ds) (calculated_fields ds) name h in
      let z = joined_has (input_of ds) f.0.entries name f.2 in
      let k = calculated_by z.0.calculation (entry_used f.0 (declared_field f.0 f.1) z.0 z.1 (of_sort sort.Calculation z.0.calculation) (inl refl)) in
      comes ds none given.spelt x given.expanded k.0 k.2 name (subst (λ (o : Option FieldListCalculation). Has (option_map_or input_names o []) name) k.1 z.2)

  none_standard : (i : Item) → Has (flat_map (items_named ds x) (all_inputs ds)) i → is_standard_item i ≡ false
  none_standard i h =
      let all : List Item = flat_map (items_named ds x) (all_inputs ds) in
      none_passes is_standard_item all i (neither (list_any is_standard_item all) (nat_lt 65536 (length all)) (not_true (is_bad_input all) (λ bad. none_read (all, joined ds none given.spelt x given.expanded (all_inputs ds) all_come, bad)))).0 h

  -- items of an entry's calculation

  item_fit : (i : Item) → ItemStands ds i → IsFittingItem i → is_standard_item i ≡ false → ItemFits g ds i
  item_fit item.Payload stands fits plain = tt
  item_fit (item.Number n) stands fits plain =
      let w = some_there n.width stands in
      subst (λ (o : Option ℕ). n.value < 2 ^ unwrap_or o 0) (sym w.1) (sized n w.0 w.1 fits).2
  item_fit (item.Field r) stands fits plain =
      (slot_to r plain (slot_is c ds shows.instances shows.roots (slot_of ds r) stands), sym (bits_are c ds shows.instances shows.roots (slot_of ds r) stands) ∙ sym (bits_stand ds (none_twice ds none) r stands))
  item_fit (item.Instance i) stands fits plain = tt

  items_there : (f : CalculatedField) → Has (calculated_fields ds) f → (z : Calc) → Has f.entries z → (k : FieldListCalculation) → calculation_of ds z.calculation ≡ Some k → Has ds (decl.FieldListCalculation k) → Each (ItemFits g ds) (flat_map (items_named ds x) k.input)
  items_there f h z there k e k_there =
      each_of (ItemFits g ds) (flat_map (items_named ds x) k.input) (λ i at.
      let name = joined_has (items_named ds x) k.input i at in
      let from = comes ds none given.spelt x given.expanded k k_there name.0 name.1 in
      let own : Has (items_in_list x from.number) i = subst (λ (l : List Item). Has l i) (items_are ds none given.spelt x given.expanded name.0 from) name.2 in
      item_fit i (has_each (ItemStands ds) (items_in_list x from.number) i (accepted_items ds none x given.expanded from.number from.items from.at) own)
      (has_each IsFittingItem (items_in_list x from.number) i (items_fit ds given.spelt from.items (items_in_list x from.number) (given.expanded.each_list from.number from.items from.at) (at_list ds given.spelt from.number from.items from.at)) own)
      (none_standard i (has_joined (items_named ds x) (all_inputs ds) name.0 i (input_used f h z there k e name.0 name.1) name.2)))

  -- fields by name

  declared_by : (r : Ref) → Has (uses ds) (of_field r) → is_standard r.instance.name ≡ false → is_declared sort.Instance ds r.instance.name ≡ true
  declared_by r used plain =
      let f = found ds r.instance.name r.field (ap (λ b. is_none (cond b (standard_width r.field) (option_and_then (λ t. width_in t r.field) (instance_type ds r.instance.name)))) (sym plain) ∙ wide r used) in
      let d = declaration_named ds sort.Instance f.instance r.instance.name f.is in
      named_declared ds sort.Instance f.instance r.instance.name d.0 d.1

  is_field : (r : Ref) → Has (uses ds) (of_field r) → is_standard r.instance.name ≡ false → IsField ds r
  is_field r used plain = named_field ds r plain (wide r used) (declared_by r used plain)

  good_index : (r : Ref) → Has (uses ds) (of_field r) → is_standard r.instance.name ≡ false → is_bad_index (stack_size ds r.instance.name) r.instance.index ≡ false
  good_index r used plain = by (is_instance ds r.instance.name) (some_instance (is_standard r.instance.name)) (none_passes (is_misplaced ds) (uses ds) (of_field r) (neither (list_any declares_bad_size ds) _ (stacks_right ds none)).1 used) where
    some_instance : (b : Bool) → (b || is_declared sort.Instance ds r.instance.name) ≡ true
    some_instance true = refl
    some_instance false = declared_by r used plain

    by : (b : Bool) → b ≡ true → (b && is_bad_index (stack_size ds r.instance.name) r.instance.index) ≡ false → is_bad_index (stack_size ds r.instance.name) r.instance.index ≡ false
    by true e f = f
    by false e f = absurd (cc e)

  alike_there : (r s : Ref) → Has (uses ds) (of_field r) → Has (uses ds) (of_field s) → is_standard r.instance.name ≡ false → is_standard s.instance.name ≡ false → r.instance.name ≡ s.instance.name → IndexesAlike r.instance.index s.instance.index
  alike_there r s used_r used_s plain_r plain_s same =
      alike (stack_size ds s.instance.name) r.instance.index s.instance.index
      (subst (λ (n : Name). is_bad_index (stack_size ds n) r.instance.index ≡ false) same (good_index r used_r plain_r)) (good_index s used_s plain_s) (not_last r used_r) (not_last s used_s)

  -- what C8 judges of a calculated field
  record IsRight (f : CalculatedField) : Type 0 where
    pub header : is_header ds f.field.instance.name ≡ true
    pub widths : list_any (gives_other_width ds f.field) f.entries ≡ false
    pub conditions : list_any is_standard_condition f.entries ≡ false

  right : (f : CalculatedField) → Has (calculated_fields ds) f → IsRight f
  right f h =
      let good = none_passes (is_bad_calculated ds) (calculated_fields ds) f (neither (list_any has_bare_number ds) (list_any (is_bad_calculated ds) (calculated_fields ds)) (fields_right ds none)).1 h in
      let s = neither (not (is_header ds f.field.instance.name) || (nat_lt 16 (count_by is_update f.entries) || nat_lt 16 (count_by is_verify f.entries))) (list_any (gives_other_width ds f.field) f.entries || list_any is_standard_condition f.entries) good in
      let a = neither (not (is_header ds f.field.instance.name)) (nat_lt 16 (count_by is_update f.entries) || nat_lt 16 (count_by is_verify f.entries)) s.0 in
      let z = neither (list_any (gives_other_width ds f.field) f.entries) (list_any is_standard_condition f.entries) s.1 in
      record { header = of_not _ a.0; widths = z.0; conditions = z.1 }

  plain_field : (f : CalculatedField) → Has (calculated_fields ds) f → is_standard f.field.instance.name ≡ false
  plain_field f h =
      let z = header_there ds f.field.instance.name (right f h).header in
      let d = declaration_named ds sort.Instance (decl.Header z.0) f.field.instance.name z.1 in
      named_not_standard ds (none_twice ds none) (decl.Header z.0) f.field.instance.name d.0 d.1

  -- conditions
  condition_ruled : (f : CalculatedField) → Has (calculated_fields ds) f → (z : Calc) → Has f.entries z → (o : Option CalcCond) → z.condition ≡ o → ConditionRuled g ds (calculated_fields ds) o
  condition_ruled f h z there None e = tt
  condition_ruled f h z there (Some (calc_cond.Valid i)) e =
      let plain : is_standard i.name ≡ false = ap (λ (o : Option CalcCond). option_map_or condition_reads_standard o false) (sym e) ∙ none_passes is_standard_condition f.entries z (right f h).conditions there in
      part_to i (instance_there c ds none shows.instances shows.roots i (entry_used f (declared_field f h) z there (of_instance i) (condition_used z (calc_cond.Valid i) e (of_instance i) (inl refl))) plain)
  condition_ruled f h z there (Some (calc_cond.Equal r n)) e =
      let plain : is_standard r.instance.name ≡ false = ap (λ (o : Option CalcCond). option_map_or condition_reads_standard o false) (sym e) ∙ none_passes is_standard_condition f.entries z (right f h).conditions there in
      let used = entry_used f (declared_field f h) z there (of_field r) (condition_used z (calc_cond.Equal r n) e (of_field r) (inl refl)) in (
        (field_of r used plain).0,
        is_field r used plain,
        each_of (λ (s : CalculatedField). r.instance.name ≡ s.field.instance.name → IndexesAlike r.instance.index s.field.instance.index) (calculated_fields ds) (λ s at same. alike_there r s.field used (field_used s (declared_field s at)) plain (plain_field s at) same),
        ap (λ (o : Option CalcCond). option_map_or (reads_calculated ds) o false) (sym e) ∙ none_passes (is_calculated_entry ds) f.entries z (none_passes (has_calculated_entry ds) (calculated_fields ds) f none_calculated h) there,
      )

  entry_ruled : (f : CalculatedField) → Has (calculated_fields ds) f → (z : Calc) → Has f.entries z → EntryRuled g ds x (calculated_fields ds) f.field z
  entry_ruled f h z there =
      let k = calculated_by z.calculation (entry_used f (declared_field f h) z there (of_sort sort.Calculation z.calculation) (inl refl)) in
      let same : flat_map (items_named ds x) k.0.input ≡ (calculation_named ds x z.calculation).items = ap (λ (o : Option FieldListCalculation). (option_map_or (joined_calculation ds x) o no_calculation).items) (sym k.1) in
      record {
        calculation = k.0;
        declared = k.1;
        width = none_passes (gives_other_width ds f.field) f.entries z (right f h).widths there;
        payload = subst (λ (l : List Item). has_early_payload l ≡ false) same (early k.0 k.2);
        items = subst (Each (ItemFits g ds)) same (items_there f h z there k.0 k.1 k.2);
        condition = condition_ruled f h z there z.condition refl;
      }
    where
      early : (k : FieldListCalculation) → Has ds (decl.FieldListCalculation k) → has_early_payload (flat_map (items_named ds x) k.input) ≡ false
      early k h = not_true (has_early_payload (flat_map (items_named ds x) k.input)) (λ bad. none_early (record {
        names = k.input;
        all = flat_map (items_named ds x) k.input;
        input = contains (inputs ds) k.input (has_joined input_in ds (decl.FieldListCalculation k) k.input h (inl refl));
        joined = joined ds none given.spelt x given.expanded k.input (λ name n. comes ds none given.spelt x given.expanded k h name n);
        early = bad;
      }))

  field_ruled : (f : CalculatedField) → Has (calculated_fields ds) f → FieldRuled g ds x (calculated_fields ds) f
  field_ruled f h =
      let plain = plain_field f h in
      let used = field_used f (declared_field f h) in
      let z = header_there ds f.field.instance.name (right f h).header in
      let fits = field_of f.field used plain in
      let part = header_is c ds shows.instances shows.roots (element_of ds f.field.instance) (record { header = z.0; numbered_so = numbered_so ds f.field.instance.name (decl.Header z.0) z.1; element = within_stack ds (stacks_right ds none) f.field.instance (decl.Header z.0) z.1 (none_passes (is_misplaced ds) (uses ds) (of_field f.field) (neither (list_any declares_bad_size ds) _ (stacks_right ds none)).1 used) }) in
      let w = some_of (ref_width ds f.field) (wide f.field used) in
      record {
        slot = subst (IsHeaderSlot g) (sym (plain_slot ds f.field plain)) (subst (IsSlot g) (plain_slot ds f.field plain) fits.0, (part_to f.field.instance part.0, part.1));
        width = fits.1;
        bits = w.0;
        has = w.1;
        is = is_field f.field used plain;
        entries = each_of (EntryRuled g ds x (calculated_fields ds) f.field) f.entries (λ z there. entry_ruled f h z there);
      }

  pub fields_fit : Each (FieldFits g ds x) (calculated_fields ds)
  fields_fit = by (calculated_fields ds) (field_fits g ds x (calculated_fields ds) (each_of (FieldRuled g ds x (calculated_fields ds)) (calculated_fields ds) field_ruled)) where
    by : (fs : List CalculatedField) → ((i : ℕ) → i < length fs → (d : CalculatedField) → FieldFits g ds x (get_or fs i d)) → Each (FieldFits g ds x) fs
    by [] f = tt
    by (z ∷ fs) f = (f 0 (omega arith) z, by fs (λ i lt d. f (suc i) (omega (arith, lt)) d))
