-- What the rules of a program give of its calculated fields.
use Rattle.std.proofs.Common.{◌≡◌, ◌≢◌, ◌⊎◌, inl, inr, eqb, ℕ, ◌<◌, ◌^◌, true, false, not, ◌&&◌, cond, Option, Some, None, List, [], ◌∷◌, length, get_or, refl, sym, ap, ap₂, ◌∙◌, subst}
use Rattle.std.specs.Prelude.{unwrap_or, nat_eq}
use Rattle.std.specs.List.{list_any}
use Rattle.std.specs.Option.{option_map_or}
use Rattle.std.specs.Str.{bytes_eq}
use Rattle.std.proofs.lemmas.Bool.Decides.{eqb_tells}
use Rattle.std.proofs.lemmas.List.Quantifiers.{position-Some}
use Rattle.std.proofs.lemmas.Slice.Eq.{bytes_eq-Decides}
use Rattle.p414_syntax.specs.declared.parts.Index.{Index}
use Rattle.p414_syntax.specs.declared.parts.Index.TheVariants.{At, Next, Last}
use Rattle.p414_syntax.specs.declared.parts.Ref.{Ref}
use Rattle.p414_syntax.specs.declared.calculations.Item.{Item}
use Rattle.p414_syntax.specs.declared.calculations.Item.TheVariants as item
use Rattle.p414_syntax.specs.declared.calculations.Calc.{Calc}
use Rattle.p414_syntax.specs.declared.calculations.CalcCond.{CalcCond}
use Rattle.p414_syntax.specs.declared.calculations.CalcCond.TheVariants as calc_cond
use Rattle.p414_syntax.specs.declared.calculations.CalculatedField.{CalculatedField}
use Rattle.p414_syntax.specs.declared.calculations.FieldListCalculation.{FieldListCalculation}
use Rattle.p414_syntax.specs.declared.syntax.Decl.{Decl}
use Rattle.p414_syntax.specs.declared.syntax.Sort.TheVariants as sort
use Rattle.p414_syntax.specs.Names.{Name, find_name, names_in}
use Rattle.p414_syntax.specs.Fields.{ref_width}
use Rattle.p414_syntax.specs.Lists.{calculation_of, is_other_width, gives_other_width}
use Rattle.p414_syntax.specs.Payloads.{has_early_payload}
use Rattle.p414_syntax.specs.Primitives.{is_standard}
use Rattle.p414_syntax.specs.CalculatedFields.{is_same_index, is_same_field}
use Rattle.p414_sem.specs.Slots.{Slot, standard, declared, element_number, field_names, standard_field, declared_slot, slot_of, element_of, bits_of_ref}
use Rattle.p414_sem.specs.Expanded.{Expanded}
use Rattle.p414_sem.specs.Calculations.{calculation_named, joined_calculation, no_calculation}
use Rattle.agreement_of_meanings.specs.Shown.{slot_width}
use Rattle.agreement_of_meanings.proofs.Names.{same_name}
use Rattle.lower_laws_base.specs.Context.{StateLayout, IsPart, IsSlot}
use Rattle.lower_laws_base.proofs.Gives.{same_number}
use Rattle.lower_laws_controls.specs.Listing.{Each}
use Rattle.lower_laws_controls.proofs.Expanding.{neither}
use Rattle.lower_laws_controls.proofs.Listing.{each_get}
use Rattle.lower_laws_sums.specs.Sums.{ItemsFit, OptionFits, EntryFits, IsHeaderSlot, FieldFits}

-- items

abbrev pub ItemFits : StateLayout → List Decl → Item → Type 0
ItemFits g ds item.Payload = Unit {0}
ItemFits g ds (item.Number n) = n.value < 2 ^ unwrap_or n.width 0
ItemFits g ds (item.Field r) = IsSlot g (slot_of ds r) × (slot_width g.names.instances (slot_of ds r) ≡ bits_of_ref ds r)
ItemFits g ds (item.Instance i) = Unit {0}

-- where the payload stands before no other item
pub items_fit : (g : StateLayout) (ds : List Decl) (items : List Item) → has_early_payload items ≡ false → Each (ItemFits g ds) items → ItemsFit g ds items
items_fit g ds [] early each = tt
items_fit g ds (item.Payload ∷ []) early each = refl
items_fit g ds (item.Payload ∷ next ∷ rest) early each = absurd (cc early)
items_fit g ds (item.Number n ∷ []) early each = (each.0, tt)
items_fit g ds (item.Number n ∷ next ∷ rest) early each = (each.0, items_fit g ds (next ∷ rest) early each.1)
items_fit g ds (item.Field r ∷ []) early each = (each.0.0, each.0.1, tt)
items_fit g ds (item.Field r ∷ next ∷ rest) early each = (each.0.0, each.0.1, items_fit g ds (next ∷ rest) early each.1)
items_fit g ds (item.Instance i ∷ []) early each = tt
items_fit g ds (item.Instance i ∷ next ∷ rest) early each = items_fit g ds (next ∷ rest) early each.1

-- a calculation gives as many bits as the field has
pub width_fits : (ds : List Decl) (x : Expanded) (field : Ref) (c : Calc) (k : FieldListCalculation) (w : ℕ) → calculation_of ds c.calculation ≡ Some k → ref_width ds field ≡ Some w → gives_other_width ds field c ≡ false → (calculation_named ds x c.calculation).width ≡ bits_of_ref ds field
width_fits ds x field c k w there has other =
    ap (λ (o : Option FieldListCalculation). (option_map_or (joined_calculation ds x) o no_calculation).width) there
    ∙ by (eqb_tells k.output_width.value w)
    ∙ ap (λ (o : Option ℕ). unwrap_or o 0) (sym has)
  where
    judged : not (nat_eq k.output_width.value w) ≡ false
    judged =
        ap (λ (o : Option ℕ). option_map_or (λ width. not (nat_eq k.output_width.value width)) o false) (sym has)
        ∙ ap (λ (o : Option FieldListCalculation). option_map_or (is_other_width ds field) o false) (sym there) ∙ other

    by : ((eqb k.output_width.value w ≡ true) × (k.output_width.value ≡ w)) ⊎ ((eqb k.output_width.value w ≡ false) × (k.output_width.value ≢ w)) → k.output_width.value ≡ w
    by (inl same) = same.1
    by (inr differs) = absurd (cc (judged, ap not differs.0))

-- conditions

-- a field of a declared instance, by the numbers of both names
pub record IsField (ds : List Decl) (r : Ref) : Type 0 where
  pub plain : is_standard r.instance.name ≡ false
  pub instance : ℕ
  pub there : find_name (names_in sort.Instance ds) r.instance.name ≡ Some instance
  pub field : ℕ
  pub has : find_name (field_names ds r.instance.name) r.field ≡ Some field

-- an index stands behind neither, or a number behind both
abbrev pub IndexesAlike : Option Index → Option Index → Type 0
IndexesAlike None None = Unit {0}
IndexesAlike (Some (At m)) (Some (At n)) = Unit {0}
IndexesAlike _ _ = ⊥

found_same : (names : List Name) (a b : Name) (i j : ℕ) → find_name names a ≡ Some i → find_name names b ≡ Some j → i ≡ j → a ≡ b
found_same names a b i j f g same =
    let x = position-Some (bytes_eq a) names i [] f in
    let y = position-Some (bytes_eq b) names j [] g in
    (bytes_eq-Decides a (get_or names i [])).0 x.1 ∙ ap (λ k. get_or names k []) same ∙ sym ((bytes_eq-Decides b (get_or names j [])).0 y.1)

slot_is : (ds : List Decl) (r : Ref) (is : IsField ds r) → slot_of ds r ≡ declared is.instance (element_number r.instance.index) is.field
slot_is ds r is =
    ap (λ b. cond b (option_map_or standard (standard_field r.field) (declared_slot ds r)) (declared_slot ds r)) is.plain
    ∙ ap₂ (λ i k. declared i (element_number r.instance.index) k) (ap (λ (o : Option ℕ). unwrap_or o (length (names_in sort.Instance ds))) is.there) (ap (λ (o : Option ℕ). unwrap_or o (length (field_names ds r.instance.name))) is.has)

abbrev parts : Slot → ℕ × ℕ × ℕ
parts (standard which) = (0, 0, 0)
parts (declared i e k) = (i, e, k)

-- fields that stand at one place are one field
same_field : (ds : List Decl) (r s : Ref) → IsField ds r → IsField ds s → (r.instance.name ≡ s.instance.name → IndexesAlike r.instance.index s.instance.index) → slot_of ds r ≡ slot_of ds s → is_same_field r s ≡ true
same_field ds r s a b alike same =
    let at : declared a.instance (element_number r.instance.index) a.field ≡ declared b.instance (element_number s.instance.index) b.field = sym (slot_is ds r a) ∙ same ∙ slot_is ds s b in
    let name = found_same (names_in sort.Instance ds) r.instance.name s.instance.name a.instance b.instance a.there b.there (ap (λ z. (parts z).0) at) in
    let field = found_same (field_names ds s.instance.name) r.field s.field a.field b.field (subst (λ z. find_name (field_names ds z) r.field ≡ Some a.field) name a.has) b.has (ap (λ z. (parts z).2) at) in
    ap₂ (λ x y. x && y) (ap (λ z. bytes_eq z s.instance.name) name ∙ same_name s.instance.name)
    (ap₂ (λ x y. x && y) (indexes r.instance.index s.instance.index (alike name) (ap (λ z. (parts z).1) at)) (ap (λ z. bytes_eq z s.field) field ∙ same_name s.field))
  where
    indexes : (i j : Option Index) → IndexesAlike i j → element_number i ≡ element_number j → is_same_index i j ≡ true
    indexes None None alike e = refl
    indexes (Some (At m)) (Some (At n)) alike e = ap (λ z. nat_eq z n.value) e ∙ same_number n.value
    indexes (Some Next) None alike e = absurd alike
    indexes (Some Last) None alike e = absurd alike
    indexes (Some (At m)) None alike e = absurd alike
    indexes None (Some j) alike e = absurd alike
    indexes (Some (At m)) (Some Next) alike e = absurd alike
    indexes (Some (At m)) (Some Last) alike e = absurd alike
    indexes (Some Next) (Some j) alike e = absurd alike
    indexes (Some Last) (Some j) alike e = absurd alike

-- A condition that reads no calculated field doesn't read this one.
pub apart : (ds : List Decl) (r : Ref) (fs : List CalculatedField) → IsField ds r → Each (λ (f : CalculatedField). IsField ds f.field × (r.instance.name ≡ f.field.instance.name → IndexesAlike r.instance.index f.field.instance.index)) fs → list_any (λ (f : CalculatedField). is_same_field r f.field) fs ≡ false → Each (λ (f : CalculatedField). slot_of ds r ≢ slot_of ds f.field) fs
apart ds r [] is each none = tt
apart ds r (f ∷ fs) is each none =
    let n = neither (is_same_field r f.field) (list_any (λ (f : CalculatedField). is_same_field r f.field) fs) none in
    (λ same. absurd (cc (n.0, same_field ds r f.field is each.0.0 each.0.1 same)), apart ds r fs is each.1 n.1)

-- all calculated fields

abbrev pub ConditionRuled : StateLayout → List Decl → List CalculatedField → Option CalcCond → Type 0
ConditionRuled g ds fs None = Unit {0}
ConditionRuled g ds fs (Some (calc_cond.Valid i)) = IsPart g (element_of ds i)
ConditionRuled g ds fs (Some (calc_cond.Equal r n)) =
    IsSlot g (slot_of ds r) × IsField ds r × Each (λ (f : CalculatedField). r.instance.name ≡ f.field.instance.name → IndexesAlike r.instance.index f.field.instance.index) fs
    × (list_any (λ (f : CalculatedField). is_same_field r f.field) fs ≡ false)

pub record EntryRuled (g : StateLayout) (ds : List Decl) (x : Expanded) (fs : List CalculatedField) (field : Ref) (c : Calc) : Type 0 where
  pub calculation : FieldListCalculation
  pub declared : calculation_of ds c.calculation ≡ Some calculation
  pub width : gives_other_width ds field c ≡ false
  pub payload : has_early_payload (calculation_named ds x c.calculation).items ≡ false
  pub items : Each (ItemFits g ds) (calculation_named ds x c.calculation).items
  pub condition : ConditionRuled g ds fs c.condition

pub record FieldRuled (g : StateLayout) (ds : List Decl) (x : Expanded) (fs : List CalculatedField) (f : CalculatedField) : Type 0 where
  pub slot : IsHeaderSlot g (slot_of ds f.field)
  pub width : slot_width g.names.instances (slot_of ds f.field) ≡ bits_of_ref ds f.field
  pub bits : ℕ
  pub has : ref_width ds f.field ≡ Some bits
  pub is : IsField ds f.field
  pub entries : Each (EntryRuled g ds x fs f.field) f.entries

each_map : {A : Type 0} (P Q : A → Type 0) (xs : List A) → ((x : A) → P x → Q x) → Each P xs → Each Q xs
each_map P Q [] f all = tt
each_map P Q (x ∷ xs) f all = (f x all.0, each_map P Q xs f all.1)

each_both : {A : Type 0} (P Q : A → Type 0) (xs : List A) → Each P xs → Each Q xs → Each (λ x. P x × Q x) xs
each_both P Q [] p q = tt
each_both P Q (x ∷ xs) p q = ((p.0, q.0), each_both P Q xs p.1 q.1)

module _ (g : StateLayout) (ds : List Decl) (x : Expanded) (fs : List CalculatedField) (all : Each (FieldRuled g ds x fs) fs) where
  condition_fits : (o : Option CalcCond) → ConditionRuled g ds fs o → Each (λ (f : CalculatedField). OptionFits g ds (slot_of ds f.field) o) fs
  condition_fits None ruled = each_map (FieldRuled g ds x fs) _ fs (λ f r. tt) all
  condition_fits (Some (calc_cond.Valid i)) ruled = each_map (FieldRuled g ds x fs) _ fs (λ f r. ruled) all
  condition_fits (Some (calc_cond.Equal r n)) ruled =
      each_map (λ (f : CalculatedField). slot_of ds r ≢ slot_of ds f.field) _ fs (λ f other. (ruled.0, other))
      (apart ds r fs ruled.1 (each_both (λ (f : CalculatedField). IsField ds f.field) (λ (f : CalculatedField). r.instance.name ≡ f.field.instance.name → IndexesAlike r.instance.index f.field.instance.index) fs (each_map (FieldRuled g ds x fs) (λ (f : CalculatedField). IsField ds f.field) fs (λ f one. one.is) all) ruled.2) ruled.3)

  entries_fit : (i : ℕ) → i < length fs → (d : CalculatedField) (one : FieldRuled g ds x fs (get_or fs i d)) (cs : List Calc) → Each (EntryRuled g ds x fs (get_or fs i d).field) cs → Each (EntryFits g ds x (slot_of ds (get_or fs i d).field)) cs
  entries_fit i lt d one [] each = tt
  entries_fit i lt d one (c ∷ cs) each =
      let e = each.0 in (
        record {
          condition = each_get (λ (f : CalculatedField). OptionFits g ds (slot_of ds f.field) c.condition) fs i d lt (condition_fits c.condition e.condition);
          items = items_fit g ds (calculation_named ds x c.calculation).items e.payload e.items;
          width = width_fits ds x (get_or fs i d).field c e.calculation one.bits e.declared one.has e.width ∙ sym one.width;
        },
        entries_fit i lt d one cs each.1,
      )

  -- What calls of a field ask holds of each that is declared.
  pub field_fits : (i : ℕ) → i < length fs → (d : CalculatedField) → FieldFits g ds x (get_or fs i d)
  field_fits i lt d =
      let one = each_get (FieldRuled g ds x fs) fs i d lt all in
      record { slot = one.slot; width = one.width; entries = entries_fit i lt d one (get_or fs i d).entries one.entries }
