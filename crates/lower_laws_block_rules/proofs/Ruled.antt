-- What the rules of P4_14 that an accepted program keeps tell of its widths, names, keys and states.
use Rattle.std.proofs.Common.{◌≡◌, ℕ, ◌≤◌, Bool, true, false, ◌||◌, cond, List, [], ◌∷◌, ◌++◌, length, map, filter, Option, Some, refl, ap, ◌∙◌, subst, arith}
use Rattle.std.specs.Prelude.{not, nat_lt}
use Rattle.std.specs.List.{list_any, count_by, AllByRecursion}
use Rattle.std.specs.Option.{option_map_or}
use Rattle.std.specs.Str.{bytes_eq}
use Rattle.std.proofs.lemmas.Bool.{ltb-false}
use Rattle.std.proofs.lemmas.List.Sums.{length-filter}
use Rattle.std.proofs.lemmas.Slice.Eq.{bytes_eq-Decides}
use Rattle.p414_syntax.specs.declared.calculations.Calc.{Calc}
use Rattle.p414_syntax.specs.declared.calculations.CalculatedField.{CalculatedField}
use Rattle.p414_syntax.specs.declared.headers.Field.{Field}
use Rattle.p414_syntax.specs.declared.headers.FieldWidth.{FieldWidth}
use Rattle.p414_syntax.specs.declared.headers.FieldWidth.TheVariants.{Bits, Rest}
use Rattle.p414_syntax.specs.declared.parsers.Parser.{Parser}
use Rattle.p414_syntax.specs.declared.tables.Table.{Table}
use Rattle.p414_syntax.specs.declared.syntax.Decl.{Decl}
use Rattle.p414_syntax.specs.declared.syntax.Decl.TheVariants as decl
use Rattle.p414_syntax.specs.declared.syntax.Sort.TheVariants as sort
use Rattle.p414_syntax.specs.Attributes.{default_action_of}
use Rattle.p414_syntax.specs.Views.{HeaderTypeTree}
use Rattle.p414_syntax.specs.Breaks.{BreaksNone, program_rules, IsBroken}
use Rattle.p414_syntax.specs.Fields.{is_header, type_of, bits_of, field_bits, is_rest, is_rest_field}
use Rattle.p414_syntax.specs.Lists.{calculated_fields, has_bare_number, gives_other_width, is_standard_condition, is_update, is_verify, is_bad_calculated}
use Rattle.p414_syntax.specs.Names.{Name, has_name, repeats_behind, names_in}
use Rattle.p414_syntax.specs.ParserGraph.{states, state_name}
use Rattle.p414_syntax.specs.Tables.{tables, has_bad_keys, has_bad_key, has_two_prefixes, has_two_lpm_keys, listed_in, is_bad_default, defaults_badly}
use Rattle.p414_syntax.specs.Twice.{repeats_in, sorts}
use Rattle.p414_syntax.specs.Widths.{is_bad_field_width, is_bad_field, declares_bad_width, statement_looks_too_far, return_looks_too_far, state_looks_too_far, is_unaligned_header}
use Rattle.p416_syntax.specs.Names.{repeats as repeats16}
use Rattle.agreement_of_meanings.proofs.Names.{same_name}
use Rattle.lower_laws_states.specs.Expansions.{Has}
use Rattle.lower_laws_states.proofs.Bounded.{type_has, no_rest}
use Rattle.lower_laws_states.proofs.Members.{neither, not_true, of_not, none_passes}
use Rattle.lower_laws_states.proofs.Rules.{none_twice, widths_right, layouts_right, fields_right, defaults_right, all_supported}
use Rattle.lower_laws_sums.specs.Sums.{is_used}
use Rattle.lower_laws_rules.proofs.Lists.{neither as both_off}
use Rattle.lower_laws_rules.proofs.Found.{left_false, right_false}
use Rattle.lower_laws_block_rules.specs.Widths.{IsWidth}

-- names that differ as P4_14 counts them differ as P4_16 does

longer : (y x : Name) (zs : List Name) → has_name zs x ≡ true → has_name (zs ++ y ∷ []) x ≡ true
longer y x [] has = absurd (cc has)
longer y x (z ∷ zs) has = at (bytes_eq x z) has (longer y x zs) where
  at : (b : Bool) → b || has_name zs x ≡ true → (has_name zs x ≡ true → has_name (zs ++ y ∷ []) x ≡ true) → b || has_name (zs ++ y ∷ []) x ≡ true
  at true e rest = refl
  at false e rest = rest e

lacks : (before names : List Name) (x : Name) → has_name before x ≡ true → repeats_behind before names ≡ false → has_name names x ≡ false
lacks before [] x has once = refl
lacks before (y ∷ names) x has once = by (bytes_eq x y) refl (lacks (before ++ y ∷ []) names x (longer y x before has) (right_false _ _ once)) where
  by : (b : Bool) → bytes_eq x y ≡ b → has_name names x ≡ false → b || has_name names x ≡ false
  by true same rest = absurd (cc (has, ap (has_name before) ((bytes_eq-Decides x y).0 same) ∙ left_false _ _ once))
  by false other rest = rest

last_there : (y : Name) (zs : List Name) → has_name (zs ++ y ∷ []) y ≡ true
last_there y [] = ap (λ b. b || false) (same_name y)
last_there y (z ∷ zs) = ap (λ b. bytes_eq y z || b) (last_there y zs) ∙ past (bytes_eq y z) where
  past : (b : Bool) → b || true ≡ true
  past true = refl
  past false = refl

once_behind : (before names : List Name) → repeats_behind before names ≡ false → repeats16 names ≡ false
once_behind before [] once = refl
once_behind before (y ∷ names) once = both_off _ _ (lacks (before ++ y ∷ []) names y (last_there y before) (right_false _ _ once)) (once_behind (before ++ y ∷ []) names (right_false _ _ once))

-- states are some of what is declared among parser states and controls
abbrev names_of : List Decl → List Name
names_of ds = names_in sort.Parse ds

states_lack : (ds : List Decl) (x : Name) → has_name (names_of ds) x ≡ false → has_name (map state_name (states ds)) x ≡ false
states_lack [] x e = refl
states_lack (decl.Parser y ∷ ds) x e = both_off _ _ (left_false _ _ e) (states_lack ds x (right_false _ _ e))
states_lack (decl.Control y ∷ ds) x e = states_lack ds x (right_false _ _ e)
states_lack (d ∷ ds) x e = states_lack ds x e

states_differ : (ds : List Decl) → repeats16 (names_of ds) ≡ false → repeats16 (map state_name (states ds)) ≡ false
states_differ [] e = refl
states_differ (decl.Parser y ∷ ds) e = both_off _ _ (states_lack ds y.name (left_false _ _ e)) (states_differ ds (right_false _ _ e))
states_differ (decl.Control y ∷ ds) e = states_differ ds (right_false _ _ e)
states_differ (d ∷ ds) e = states_differ ds e

module _ (ds : List Decl) (none : BreaksNone ds program_rules) where
  -- C1
  pub states_once : repeats16 (map state_name (states ds)) ≡ false
  states_once =
      let all = left_false (list_any (repeats_in ds) sorts) _ (none_twice ds none) in
      let third = left_false (repeats_in ds sort.Parse) _ (right_false (repeats_in ds sort.Instance) _ (right_false (repeats_in ds sort.HeaderType) _ all)) in
      states_differ ds (once_behind [] (names_of ds) (right_false _ _ third))

  -- C11 and C12
  pub keys_right : has_bad_key ds ≡ false
  unfolding IsBroken
  keys_right = not_true (has_bad_key ds) none.1.1.1.1.1.1.1.1.1.1.0

  pub prefixes_right : has_two_lpm_keys ds ≡ false
  unfolding IsBroken
  prefixes_right = not_true (has_two_lpm_keys ds) none.1.1.1.1.1.1.1.1.1.1.1.0

  pub table_keys : (t : Table) → Has (tables ds) t → (has_bad_keys ds t ≡ false) × (has_two_prefixes t ≡ false)
  table_keys t has = (none_passes (has_bad_keys ds) (tables ds) t keys_right has, none_passes has_two_prefixes (tables ds) t prefixes_right has)

  -- C24
  pub default_listed : (t : Table) → Has (tables ds) t → (name : Name) → default_action_of t.attributes ≡ Some name → has_name (listed_in t) name ≡ true
  default_listed t has name is =
      of_not (has_name (listed_in t) name)
      (left_false _ _ (subst (λ (o : Option Name). option_map_or (is_bad_default ds t) o false ≡ false) is (none_passes (defaults_badly ds) (tables ds) t (defaults_right ds none) has)))

  -- C5
  pub state_near : (y : Parser) → Has ds (decl.Parser y) → (list_any statement_looks_too_far y.statements ≡ false) × (return_looks_too_far y.end ≡ false)
  state_near y has = neither _ (return_looks_too_far y.end) (none_passes state_looks_too_far ds (decl.Parser y) (right_false (list_any (is_unaligned_header ds) ds) _ (layouts_right ds none)) has)

  -- C3 and C25: each field of a type that is declared has 1 to 128 bits
  field_wide : (f : Field) → is_bad_field f ≡ false → is_rest_field f ≡ false → IsWidth (field_bits f)
  field_wide f good plain = by f.width good plain where
    by : (w : FieldWidth) → is_bad_field_width w ≡ false → is_rest w ≡ false → IsWidth (bits_of w)
    by (Bits n) good plain = (ltb-false n.value 1 (left_false _ _ good), ltb-false 128 n.value (right_false _ _ good))
    by Rest good plain = absurd (cc plain)

  fields_wide : (fs : List Field) → list_any is_bad_field fs ≡ false → list_any is_rest_field fs ≡ false → AllByRecursion IsWidth (map field_bits fs)
  fields_wide [] good plain = tt
  fields_wide (f ∷ fs) good plain = (field_wide f (left_false _ _ good) (left_false _ _ plain), fields_wide fs (right_false _ _ good) (right_false _ _ plain))

  pub type_wide : (name : Name) (t : HeaderTypeTree) → type_of ds name ≡ Some t → AllByRecursion IsWidth (map field_bits t.fields)
  type_wide name t is =
      let has = type_has ds name t is in
      fields_wide t.fields (none_passes declares_bad_width ds (decl.HeaderType t) (widths_right ds none) has) (no_rest ds (all_supported ds none) t has)

  -- C8
  updates_same : (cs : List Calc) → filter (is_used true) cs ≡ filter is_update cs
  updates_same [] = refl
  updates_same (c ∷ cs) = ap (λ l. cond (is_update c) (c ∷ l) l) (updates_same cs)

  verifies_same : (cs : List Calc) → filter (is_used false) cs ≡ filter is_verify cs
  verifies_same [] = refl
  verifies_same (c ∷ cs) = ap (λ l. cond (is_verify c) (c ∷ l) l) (verifies_same cs)

  pub few_entries : (f : CalculatedField) → Has (calculated_fields ds) f → (updates : Bool) → length (filter (is_used updates) f.entries) ≤ 16
  few_entries f has updates = by updates where
    good : is_bad_calculated ds f ≡ false
    good = none_passes (is_bad_calculated ds) (calculated_fields ds) f (right_false (list_any has_bare_number ds) (list_any (is_bad_calculated ds) (calculated_fields ds)) (fields_right ds none)) has

    counts : nat_lt 16 (count_by is_update f.entries) || nat_lt 16 (count_by is_verify f.entries) ≡ false
    counts =
        right_false (not (is_header ds f.field.instance.name)) (nat_lt 16 (count_by is_update f.entries) || nat_lt 16 (count_by is_verify f.entries))
        (left_false (not (is_header ds f.field.instance.name) || (nat_lt 16 (count_by is_update f.entries) || nat_lt 16 (count_by is_verify f.entries))) (list_any (gives_other_width ds f.field) f.entries || list_any is_standard_condition f.entries) good)

    small : (m n : ℕ) → m ≡ n → n ≤ 16 → m ≤ 16
    small m n e few = omega (arith, e, few)

    by : (u : Bool) → length (filter (is_used u) f.entries) ≤ 16
    by true = small _ _ (ap length (updates_same f.entries) ∙ length-filter is_update f.entries) (ltb-false 16 _ (left_false _ _ counts))
    by false = small _ _ (ap length (verifies_same f.entries) ∙ length-filter is_verify f.entries) (ltb-false 16 _ (right_false _ _ counts))
