-- What primitives count, by how long the field lists are.
use Rattle.std.proofs.Common.{◌≡◌, ℕ, suc, zero, ◌+◌, min, max, Bool, false, ◌||◌, not, is_some, List, [], ◌∷◌, ◌++◌, length, get_or, map, sum_by, flat_map, slice_get, slice_index, inl, inr, Option, Some, None, option_map, option_and_then, refl, sym, ap, ◌∙◌, length-append, arith}
use Rattle.std.specs.List.{list_any}
use Rattle.std.specs.Option.{option_map_or}
use Rattle.std.proofs.lemmas.List.Sums.{sum_by-append, sum_by-cons}
use Rattle.std.proofs.lemmas.List.Folds.{list_any-append}
use Rattle.p414_syntax.specs.declared.calculations.FieldListCalculation.{FieldListCalculation}
use Rattle.p414_syntax.specs.declared.calculations.Item.{Item}
use Rattle.p414_syntax.specs.declared.syntax.Decl.{Decl}
use Rattle.p414_syntax.specs.declared.syntax.Decl.TheVariants as decl
use Rattle.p414_syntax.specs.declared.syntax.Sort.TheVariants as sort
use Rattle.p414_syntax.specs.declared.place.ArgumentPlace.{ArgumentPlace}
use Rattle.p414_syntax.specs.declared.place.ArgumentPlace.TheVariants as place
use Rattle.p414_syntax.specs.Names.{Name, number_of, is_declared}
use Rattle.p414_syntax.specs.Expansion.{lists, list_number, items_in, items_at, ComesTo, Joins}
use Rattle.p414_syntax.specs.Lists.{input_names, calculation_of}
use Rattle.p414_syntax.specs.Uses.{of_sort, uses_of}
use Rattle.p414_syntax.specs.Unknown.{is_unknown, has_unknown_name}
use Rattle.p414_syntax.specs.Arguments.{Argument, number_argument, field_argument, parameter_argument, name_argument, Invocation, PlacedArgument, placed_in}
use Rattle.p414_syntax.specs.Actions.{lists_at, lists_hashed_at, hashed_lists, Count}
use Rattle.p414_list_check.specs.Lengths.{AreLengths}
use Rattle.p414_list_check.proofs.Expanding.{get_within, named_within}
use Rattle.p414_list_check.proofs.ListNames.{same_number}
use Rattle.p414_action_check.specs.internal.Counted.{calculations, list_length, input_length, input_lengths, length_at, hashed_length, primitive_count}
use Rattle.p414_action_check.proofs.Members.{In, in_got}
use Rattle.p414_action_check.proofs.Numbers.{calculation_is}
use Rattle.p414_action_check.proofs.Given.{or_first, or_second}

-- a list that isn't declared
abbrev is_missing : List Decl → Name → Bool
is_missing ds name = not (is_declared sort.List ds name)

-- the lists that a calculation takes are declared

missing_in : (ds : List Decl) (names : List Name) → list_any (is_unknown ds) (map (of_sort sort.List) names) ≡ list_any (is_missing ds) names
missing_in ds [] = refl
missing_in ds (name ∷ names) = ap (λ b. is_missing ds name || b) (missing_in ds names)

first_uses : (ds : List Decl) (d : Decl) (xs : List Decl) → list_any (is_unknown ds) (flat_map uses_of (d ∷ xs)) ≡ false → list_any (is_unknown ds) (uses_of d) ≡ false
first_uses ds d xs e = or_first _ _ (sym (list_any-append (is_unknown ds) (uses_of d) (flat_map uses_of xs)) ∙ e)

later_uses : (ds : List Decl) (d : Decl) (xs : List Decl) → list_any (is_unknown ds) (flat_map uses_of (d ∷ xs)) ≡ false → list_any (is_unknown ds) (flat_map uses_of xs) ≡ false
later_uses ds d xs e = or_second _ _ (sym (list_any-append (is_unknown ds) (uses_of d) (flat_map uses_of xs)) ∙ e)

inputs_there : (ds xs : List Decl) (c : FieldListCalculation) → list_any (is_unknown ds) (flat_map uses_of xs) ≡ false → In c (calculations xs) → list_any (is_missing ds) c.input ≡ false
inputs_there ds [] c e m = absurd m
inputs_there ds (decl.FieldListCalculation x ∷ xs) c e (inl same) =
    ap (λ (y : FieldListCalculation). list_any (is_missing ds) y.input) same ∙ (sym (missing_in ds x.input) ∙ first_uses ds (decl.FieldListCalculation x) xs e)
inputs_there ds (decl.FieldListCalculation x ∷ xs) c e (inr m) = inputs_there ds xs c (later_uses ds (decl.FieldListCalculation x) xs e) m
inputs_there ds (decl.Action x ∷ xs) c e m = inputs_there ds xs c (later_uses ds (decl.Action x) xs e) m
inputs_there ds (decl.FieldList x ∷ xs) c e m = inputs_there ds xs c (later_uses ds (decl.FieldList x) xs e) m
inputs_there ds (decl.HeaderType x ∷ xs) c e m = inputs_there ds xs c (later_uses ds (decl.HeaderType x) xs e) m
inputs_there ds (decl.Header x ∷ xs) c e m = inputs_there ds xs c (later_uses ds (decl.Header x) xs e) m
inputs_there ds (decl.Metadata x ∷ xs) c e m = inputs_there ds xs c (later_uses ds (decl.Metadata x) xs e) m
inputs_there ds (decl.CalculatedField x ∷ xs) c e m = inputs_there ds xs c (later_uses ds (decl.CalculatedField x) xs e) m
inputs_there ds (decl.Parser x ∷ xs) c e m = inputs_there ds xs c (later_uses ds (decl.Parser x) xs e) m
inputs_there ds (decl.Table x ∷ xs) c e m = inputs_there ds xs c (later_uses ds (decl.Table x) xs e) m
inputs_there ds (decl.Counter x ∷ xs) c e m = inputs_there ds xs c (later_uses ds (decl.Counter x) xs e) m
inputs_there ds (decl.Meter x ∷ xs) c e m = inputs_there ds xs c (later_uses ds (decl.Meter x) xs e) m
inputs_there ds (decl.Register x ∷ xs) c e m = inputs_there ds xs c (later_uses ds (decl.Register x) xs e) m
inputs_there ds (decl.Control x ∷ xs) c e m = inputs_there ds xs c (later_uses ds (decl.Control x) xs e) m
inputs_there ds (decl.LeftOut x ∷ xs) c e m = inputs_there ds xs c (later_uses ds (decl.LeftOut x) xs e) m

calculation_among : (ds : List Decl) (o : Option ℕ) (c : FieldListCalculation) → option_and_then (λ n. slice_get (calculations ds) n) o ≡ Some c → In c (calculations ds)
calculation_among ds None c e = absurd (cc e)
calculation_among ds (Some n) c e = in_got (calculations ds) n c e

module _ (ds : List Decl) (known_names : has_unknown_name ds ≡ false) where
  names_of : (name : Name) (o : Option FieldListCalculation) → calculation_of ds name ≡ o → list_any (is_missing ds) (option_map_or input_names o []) ≡ false
  names_of name None e = refl
  names_of name (Some c) e =
      inputs_there ds ds c (or_first _ _ known_names) (calculation_among ds (number_of sort.Calculation ds name) c (sym (calculation_is ds name) ∙ e))

  none_missing_at : (p : ArgumentPlace) (x : Argument) → list_any (is_missing ds) (lists_at ds p x) ≡ false
  none_missing_at place.Calculation (name_argument i) = names_of i.name (calculation_of ds i.name) refl
  none_missing_at place.Calculation (number_argument n) = refl
  none_missing_at place.Calculation (field_argument r) = refl
  none_missing_at place.Calculation (parameter_argument n) = refl
  none_missing_at place.Target x = refl
  none_missing_at place.Source x = refl
  none_missing_at place.Unsigned x = refl
  none_missing_at place.Header x = refl
  none_missing_at place.Stack x = refl
  none_missing_at place.Elements x = refl
  none_missing_at place.Counter x = refl
  none_missing_at place.Register x = refl
  none_missing_at place.Meter x = refl
  none_missing_at place.List x = refl

  none_missing : (ps : List PlacedArgument) → list_any (is_missing ds) (flat_map (lists_hashed_at ds) ps) ≡ false
  none_missing [] = refl
  none_missing (p ∷ ps) =
      list_any-append (is_missing ds) (lists_hashed_at ds p) (flat_map (lists_hashed_at ds) ps)
      ∙ (ap (λ b. b || list_any (is_missing ds) (flat_map (lists_hashed_at ds) ps)) (none_missing_at p.wanted p.argument) ∙ none_missing ps)

-- numbers by calculations

input_there : (ds : List Decl) (lengths : List ℕ) (cs : List FieldListCalculation) (n : ℕ) → get_or (map (input_length ds lengths) cs) n 0 ≡ option_map_or (input_length ds lengths) (slice_get cs n) 0
input_there ds lengths [] n = refl
input_there ds lengths (c ∷ cs) zero = refl
input_there ds lengths (c ∷ cs) (suc n) = input_there ds lengths cs n

input_by : (ds : List Decl) (lengths : List ℕ) (o : Option ℕ) → option_map_or (slice_index (input_lengths ds lengths)) o 0 ≡ option_map_or (input_length ds lengths) (option_and_then (λ n. slice_get (calculations ds) n) o) 0
input_by ds lengths None = refl
input_by ds lengths (Some n) = input_there ds lengths (calculations ds) n

input_is : (ds : List Decl) (lengths : List ℕ) (name : Name) → option_map_or (slice_index (input_lengths ds lengths)) (number_of sort.Calculation ds name) 0 ≡ option_map_or (input_length ds lengths) (calculation_of ds name) 0
input_is ds lengths name = input_by ds lengths (number_of sort.Calculation ds name) ∙ ap (λ o. option_map_or (input_length ds lengths) o 0) (sym (calculation_is ds name))

input_cut : (ds : List Decl) (lengths : List ℕ) (o : Option FieldListCalculation) → min 65537 (sum_by (list_length ds lengths) (option_map_or input_names o [])) ≡ min 65537 (option_map_or (input_length ds lengths) o 0)
input_cut ds lengths None = refl
input_cut ds lengths (Some c) = twice (sum_by (list_length ds lengths) c.input) where
  twice : (n : ℕ) → min 65537 n ≡ min 65537 (min 65537 n)
  twice n = omega arith

lists_cut : (ds : List Decl) (lengths : List ℕ) (p : ArgumentPlace) (x : Argument) → min 65537 (sum_by (list_length ds lengths) (lists_at ds p x)) ≡ min 65537 (length_at ds (input_lengths ds lengths) p x)
lists_cut ds lengths place.Calculation (name_argument i) = input_cut ds lengths (calculation_of ds i.name) ∙ ap (min 65537) (sym (input_is ds lengths i.name))
lists_cut ds lengths place.Calculation (number_argument n) = refl
lists_cut ds lengths place.Calculation (field_argument r) = refl
lists_cut ds lengths place.Calculation (parameter_argument n) = refl
lists_cut ds lengths place.Target x = refl
lists_cut ds lengths place.Source x = refl
lists_cut ds lengths place.Unsigned x = refl
lists_cut ds lengths place.Header x = refl
lists_cut ds lengths place.Stack x = refl
lists_cut ds lengths place.Elements x = refl
lists_cut ds lengths place.Counter x = refl
lists_cut ds lengths place.Register x = refl
lists_cut ds lengths place.Meter x = refl
lists_cut ds lengths place.List x = refl

hashed_cut : (ds : List Decl) (lengths : List ℕ) (ps : List PlacedArgument) → min 65537 (sum_by (list_length ds lengths) (flat_map (lists_hashed_at ds) ps)) ≡ min 65537 (sum_by (hashed_length ds (input_lengths ds lengths)) ps)
hashed_cut ds lengths [] = refl
hashed_cut ds lengths (p ∷ ps) =
    let a : sum_by (list_length ds lengths) (flat_map (lists_hashed_at ds) (p ∷ ps)) ≡ sum_by (list_length ds lengths) (lists_hashed_at ds p) + sum_by (list_length ds lengths) (flat_map (lists_hashed_at ds) ps) = sum_by-append (list_length ds lengths) (lists_hashed_at ds p) (flat_map (lists_hashed_at ds) ps) in
    let b : sum_by (hashed_length ds (input_lengths ds lengths)) (p ∷ ps) ≡ hashed_length ds (input_lengths ds lengths) p + sum_by (hashed_length ds (input_lengths ds lengths)) ps = sum_by-cons (hashed_length ds (input_lengths ds lengths)) p ps in
    let c : min 65537 (sum_by (list_length ds lengths) (lists_hashed_at ds p)) ≡ min 65537 (hashed_length ds (input_lengths ds lengths) p) = lists_cut ds lengths p.wanted p.argument in
    let d = hashed_cut ds lengths ps in
    omega arith

list_there : (ds : List Decl) (o : Option ℕ) (items : List Item) → option_and_then (items_at ds) o ≡ Some items → (l : ℕ) × (o ≡ Some l) × (items_at ds l ≡ Some items)
list_there ds None items e = absurd (cc e)
list_there ds (Some l) items e = (l, refl, e)

declared_number : (o : Option ℕ) → not (is_some o) ≡ false → (l : ℕ) × (o ≡ Some l)
declared_number None e = absurd (cc e)
declared_number (Some l) e = (l, refl)

module _ (ds : List Decl) (lengths : List ℕ) (known : AreLengths ds lengths) where
  joined_long : (names : List Name) (items : List Item) → Joins ds names items → min 65537 (length items) ≡ min 65537 (sum_by (list_length ds lengths) names)
  joined_long [] items none = ap (λ xs. min 65537 (length xs)) none
  joined_long (name ∷ names) items (first, rest, there, behind, is) =
      let found = list_there ds (list_number ds name) there.items there.named in
      let a : slice_index lengths found.0 ≡ min 65537 (length first) = known.long found.0 there.items first found.2 there.expands in
      let b : list_length ds lengths name ≡ slice_index lengths found.0 = ap (λ o. option_map_or (slice_index lengths) o 0) found.1 in
      let c : length items ≡ length first + length rest = ap length is ∙ length-append first rest in
      let d : sum_by (list_length ds lengths) (name ∷ names) ≡ list_length ds lengths name + sum_by (list_length ds lengths) names = sum_by-cons (list_length ds lengths) name names in
      let e = joined_long names rest behind in
      omega arith

  some_joined : (names : List Name) → list_any (is_missing ds) names ≡ false → (items : List Item) × Joins ds names items
  some_joined [] e = ([], refl)
  some_joined (name ∷ names) e =
      let found = declared_number (number_of sort.List ds name) (or_first _ _ e) in
      let number : list_number ds name ≡ Some found.0 = sym (same_number ds name) ∙ found.1 in
      let f = get_within (lists ds) found.0 (named_within ds name found.0 number) in
      let there : items_at ds found.0 ≡ Some f.0.items = ap (option_map items_in) f.1 in
      let first = known.comes found.0 f.0.items there in
      let rest = some_joined names (or_second _ _ e) in
      let comes_to : ComesTo ds name first.0 = record { items = f.0.items; named = ap (option_and_then (items_at ds)) number ∙ there; expands = first.1 } in
      (first.0 ++ rest.0, (first.0, rest.0, comes_to, rest.1, refl))

  -- what primitives count together, by the lengths
  pub count_is : (all : List Invocation) (total : ℕ) → Count ds all total → min 65537 total ≡ min 65537 (sum_by (primitive_count ds (input_lengths ds lengths)) all)
  count_is [] total e = ap (min 65537) e
  count_is (i ∷ rest) total (items, more, joins, behind, is) =
      let a : min 65537 (length items) ≡ min 65537 (sum_by (list_length ds lengths) (hashed_lists ds i)) = joined_long (hashed_lists ds i) items joins in
      let b : min 65537 (sum_by (list_length ds lengths) (hashed_lists ds i)) ≡ min 65537 (sum_by (hashed_length ds (input_lengths ds lengths)) (placed_in ds i)) = hashed_cut ds lengths (placed_in ds i) in
      let c : sum_by (primitive_count ds (input_lengths ds lengths)) (i ∷ rest) ≡ primitive_count ds (input_lengths ds lengths) i + sum_by (primitive_count ds (input_lengths ds lengths)) rest = sum_by-cons (primitive_count ds (input_lengths ds lengths)) i rest in
      let d = count_is rest more behind in
      omega arith

  pub some_count : has_unknown_name ds ≡ false → (all : List Invocation) → (total : ℕ) × Count ds all total
  some_count names [] = (0, refl)
  some_count names (i ∷ rest) =
      let items = some_joined (hashed_lists ds i) (none_missing ds names (placed_in ds i)) in
      let more = some_count names rest in
      (max 1 (length items.0) + more.0, (items.0, more.0, items.1, more.1, refl))
