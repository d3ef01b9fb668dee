-- What a table chooses fits the action: by its entries, and else by its default (C2, C24).
use Rattle.std.proofs.Common.{◌≡◌, ◌⊎◌, inl, inr, ℕ, suc, ◌+◌, ◌<◌, ◌^◌, true, false, not, nat_eq, Option, Some, None, List, [], ◌∷◌, length, map, slice_get, refl, sym, ap, ◌∙◌, subst, arith}
use Rattle.std.specs.Prelude.{IfSome, is_some, option_and_then, option_map, unwrap_or, flat_map}
use Rattle.std.specs.List.{AllZip, list_any}
use Rattle.std.specs.Option.{option_map_or}
use Rattle.std.specs.Str.{bytes_eq}
use Rattle.std.proofs.lemmas.Bool.Decides.{eqb_tells}
use Rattle.std.proofs.lemmas.List.Concat.{flat_map-cons}
use Rattle.std.proofs.lemmas.List.Quantifiers.{position-Some}
use Rattle.std.proofs.lemmas.Option.{slice_get-map, slice_get_within, get_or_from_slice_get}
use Rattle.p4x_bits.specs.declared.rows.Rows.{Rows}
use Rattle.match_core.specs.declared.entries.DefaultCall.{DefaultCall}
use Rattle.match_core.specs.declared.signatures.ActionSig.{ActionSig}
use Rattle.match_core.specs.Fits.{Fits, FitsCall, action_at}
use Rattle.p414_syntax.specs.declared.actions.Action.{Action}
use Rattle.p414_syntax.specs.declared.parts.Number.{Number}
use Rattle.p414_syntax.specs.declared.tables.Table.{Table}
use Rattle.p414_syntax.specs.declared.tables.TableAttr.{TableAttr}
use Rattle.p414_syntax.specs.declared.tables.TableAttr.TheVariants as table_attr
use Rattle.p414_syntax.specs.declared.syntax.Decl.{Decl}
use Rattle.p414_syntax.specs.declared.syntax.Decl.TheVariants as decl
use Rattle.p414_syntax.specs.declared.syntax.Sort.TheVariants as sort
use Rattle.p414_syntax.specs.Attributes.{actions_of, default_action_of, default_arguments_of}
use Rattle.p414_syntax.specs.Names.{Name, has_name, names_in, is_declared}
use Rattle.p414_syntax.specs.Breaks.{BreaksNone, program_rules}
use Rattle.p414_syntax.specs.Arguments.{actions, action_number}
use Rattle.p414_syntax.specs.Tables.{table_in, tables, listed_in, argument_count, takes_other_count, is_bad_default, defaults_badly}
use Rattle.p414_syntax.specs.Unknown.{is_unknown}
use Rattle.p414_syntax.specs.Uses.{Use, of_sort, uses_of_table_attr, uses_of, uses}
use Rattle.p414_sem.specs.State.{State}
use Rattle.p414_sem.specs.Wholes.{whole}
use Rattle.p414_sem.specs.Signatures.{widths_from, parameter_widths, actions_in_order, action_sig, table_sig, table_of, signature14}
use Rattle.p414_sem.specs.Controls.{Setting, fill_of, found, kept_arguments, action_in_table, program_default, chosen}
use Rattle.lower_laws_states.specs.Programs.{FitsChosen}
use Rattle.lower_laws_states.specs.Expansions.{Has}
use Rattle.lower_laws_states.proofs.Writing.{wrapped_below}
use Rattle.lower_laws_states.proofs.Members.{neither, same_name, of_not, none_passes, has_right, has_joined, has_mapped, has_at, picked_has, none_past}
use Rattle.lower_laws_states.proofs.Rules.{none_unknown, defaults_right}
use Rattle.lower_laws_states.proofs.Written.{any_has}
use Rattle.lower_laws_states.proofs.Filling.{in_order_has, has_found, table_numbered, fill_fits}
use Rattle.lower_laws_states.proofs.Tables.{found_within}

kept_fit : (widths : List ℕ) (numbers : List Number) → length widths ≡ length numbers → AllZip (λ (w v : ℕ). v < 2 ^ w) widths (kept_arguments widths numbers)
kept_fit [] numbers e = tt
kept_fit (w ∷ widths) [] e = absurd (omega (arith, e))
kept_fit (w ∷ widths) (n ∷ numbers) e = (wrapped_below w (whole n), kept_fit widths numbers (omega (arith, e)))

pub widths_long : (ds : List Decl) (action p : ℕ) (names : List Name) → length (widths_from ds action p names) ≡ length names
widths_long ds action p [] = refl
widths_long ds action p (name ∷ names) = ap suc (widths_long ds action (p + 1) names)

-- a listed action is declared (C2)
pub listed_used : (attributes : List TableAttr) (name : Name) → Has (actions_of attributes) name → Has (flat_map uses_of_table_attr attributes) (of_sort sort.Action name)
listed_used [] name h = absurd h
listed_used (table_attr.Actions names ∷ rest) name h = has_joined uses_of_table_attr (table_attr.Actions names ∷ rest) (table_attr.Actions names) (of_sort sort.Action name) (inl refl) (has_mapped (of_sort sort.Action) names name h)
listed_used (a ∷ rest) name h =
    subst (λ (l : List Use). Has l (of_sort sort.Action name)) (sym (flat_map-cons uses_of_table_attr a rest)) (has_right (uses_of_table_attr a) (flat_map uses_of_table_attr rest) (of_sort sort.Action name) (listed_used rest name h))

pub declared_table : (d : Decl) (t : Table) → table_in d ≡ Some t → d ≡ decl.Table t
declared_table (decl.Table x) t e = ap decl.Table (cc e)
declared_table _ t e = absurd (cc e)

actions_long : (ds : List Decl) → length (names_in sort.Action ds) ≡ length (actions ds)
actions_long [] = refl
actions_long (decl.Action x ∷ ds) = ap suc (actions_long ds)
actions_long (_ ∷ ds) = actions_long ds

pub action_there : (ds : List Decl) (name : Name) → is_declared sort.Action ds name ≡ true → (n : ℕ) × (a : Action) × (action_number ds name ≡ Some n) × (slice_get (actions ds) n ≡ Some a)
action_there ds name there = by (action_number ds name) refl there where
  at : (n : ℕ) → action_number ds name ≡ Some n → (o : Option Action) → slice_get (actions ds) n ≡ o → (n : ℕ) × (a : Action) × (action_number ds name ≡ Some n) × (slice_get (actions ds) n ≡ Some a)
  at n e None is = absurd (omega (arith, none_past (actions ds) n is, actions_long ds, (position-Some (bytes_eq name) (names_in sort.Action ds) n [] e).0))
  at n e (Some a) is = (n, a, e, is)

  by : (o : Option ℕ) → action_number ds name ≡ o → is_some o ≡ true → (n : ℕ) × (a : Action) × (action_number ds name ≡ Some n) × (slice_get (actions ds) n ≡ Some a)
  by None e there = absurd (cc there)
  by (Some n) e there = at n e (slice_get (actions ds) n) refl

pub counted_so : (o : Option (Rows Number)) → argument_count o ≡ length (unwrap_or o [])
counted_so None = refl
counted_so (Some given) = refl

pub same_count : (a b : ℕ) → not (nat_eq a b) ≡ false → a ≡ b
same_count a b e = by (eqb_tells a b) (of_not (nat_eq a b) e) where
  by : ((nat_eq a b ≡ true) × (a ≡ b)) ⊎ ((nat_eq a b ≡ false) × (a ≡ b → ⊥)) → nat_eq a b ≡ true → a ≡ b
  by (inl same) e = same.1
  by (inr other) e = absurd (cc (other.0, e))

module _ (ds : List Decl) (none : BreaksNone ds program_rules) (name : Name) (t : Table) (e : table_of ds name ≡ Some t) where
  pub table_has : Has (tables ds) t
  table_has = let n = table_numbered ds name t e in has_at (tables ds) n.0 t n.2

  listed_there : (action : Name) → Has (listed_in t) action → is_declared sort.Action ds action ≡ true
  listed_there action h =
      let d = picked_has table_in ds t table_has in
      let used : Has (uses ds) (of_sort sort.Action action) = has_joined uses_of ds d.0 (of_sort sort.Action action) d.1 (subst (λ (x : Decl). Has (uses_of x) (of_sort sort.Action action)) (sym (declared_table d.0 t d.2)) (listed_used t.attributes action h)) in
      of_not _ (none_passes (is_unknown ds) (uses ds) (of_sort sort.Action action) (neither (list_any (is_unknown ds) (uses ds)) _ (none_unknown ds none)).0 used)

  default_fits : (action : Name) → default_action_of t.attributes ≡ Some action → FitsChosen ds t (program_default ds t action)
  default_fits action given =
      let bad : is_bad_default ds t action ≡ false = sym (ap (λ (o : Option Name). option_map_or (is_bad_default ds t) o false) given) ∙ none_passes (defaults_badly ds) (tables ds) t (defaults_right ds none) table_has in
      let parts = neither (not (has_name (listed_in t) action)) _ bad in
      let one = any_has (bytes_eq action) (listed_in t) (of_not (has_name (listed_in t) action) parts.0) in
      let listed : Has (listed_in t) action = subst (Has (listed_in t)) (sym (same_name action one.0 one.2)) one.1 in
      let there = action_there ds action (listed_there action listed) in
      let k = has_found (actions_in_order t) action (in_order_has (listed_in t) action listed) in
      let at : action_in_table t action ≡ k.0 = ap (λ (o : Option ℕ). unwrap_or o (length (actions_in_order t))) k.1 in
      let sig : slice_get (map (action_sig ds) (actions_in_order t)) k.0 ≡ Some (action_sig ds action) = slice_get-map (action_sig ds) (actions_in_order t) k.0 ∙ ap (option_map (action_sig ds)) k.2 in
      let count : length there.1.parameters ≡ length (unwrap_or (default_arguments_of t.attributes) []) =
      same_count _ _ (sym (ap (λ (o : Option Action). option_map_or (takes_other_count (argument_count (default_arguments_of t.attributes))) o false) (ap (option_and_then (slice_get (actions ds))) there.2 ∙ there.3)) ∙ parts.1) ∙ counted_so (default_arguments_of t.attributes) in
      let widths = option_map_or (parameter_widths ds) (action_number ds action) [] in
      let long : length widths ≡ length there.1.parameters =
      ap (λ (o : Option ℕ). length (option_map_or (parameter_widths ds) o [])) there.2
      ∙ (ap (λ (o : Option Action). length (option_map_or (λ (a : Action). widths_from ds there.0 0 a.parameters) o [])) there.3 ∙ widths_long ds there.0 0 there.1.parameters) in
      record {
        listed = omega (arith, at, slice_get_within (map (action_sig ds) (actions_in_order t)) k.0 (action_sig ds action) sig);
        widths =
            subst (λ (a : ActionSig). AllZip (λ (w v : ℕ). v < 2 ^ w) a.widths (kept_arguments widths (unwrap_or (default_arguments_of t.attributes) [])))
            (sym (ap (action_at (table_sig ds t)) at ∙ get_or_from_slice_get (map (action_sig ds) (actions_in_order t)) k.0 (action_sig ds action) _ sig))
            (kept_fit widths (unwrap_or (default_arguments_of t.attributes) []) (long ∙ count));
      }

  -- a default has as many arguments as its action has parameters
  pub default_counted : (action : Name) → default_action_of t.attributes ≡ Some action → length (unwrap_or (default_arguments_of t.attributes) []) ≡ length (option_map_or (parameter_widths ds) (action_number ds action) [])
  default_counted action given =
      let bad : is_bad_default ds t action ≡ false = sym (ap (λ (o : Option Name). option_map_or (is_bad_default ds t) o false) given) ∙ none_passes (defaults_badly ds) (tables ds) t (defaults_right ds none) table_has in
      let parts = neither (not (has_name (listed_in t) action)) _ bad in
      let one = any_has (bytes_eq action) (listed_in t) (of_not (has_name (listed_in t) action) parts.0) in
      let listed : Has (listed_in t) action = subst (Has (listed_in t)) (sym (same_name action one.0 one.2)) one.1 in
      let there = action_there ds action (listed_there action listed) in
      let count : length there.1.parameters ≡ length (unwrap_or (default_arguments_of t.attributes) []) =
      same_count _ _ (sym (ap (λ (o : Option Action). option_map_or (takes_other_count (argument_count (default_arguments_of t.attributes))) o false) (ap (option_and_then (slice_get (actions ds))) there.2 ∙ there.3)) ∙ parts.1) ∙ counted_so (default_arguments_of t.attributes) in
      let long : length (option_map_or (parameter_widths ds) (action_number ds action) []) ≡ length there.1.parameters =
      ap (λ (o : Option ℕ). length (option_map_or (parameter_widths ds) o [])) there.2
      ∙ (ap (λ (o : Option Action). length (option_map_or (λ (a : Action). widths_from ds there.0 0 a.parameters) o [])) there.3 ∙ widths_long ds there.0 0 there.1.parameters) in
      sym (long ∙ count)

-- whatever a packet finds
pub chosen_fits : (c : Setting) → BreaksNone c.decls program_rules → Fits c.entries (signature14 c.decls) → (name : Name) (t : Table) → table_of c.decls name ≡ Some t → (s : State) → IfSome (chosen c t (found c s t)) (FitsChosen c.decls t)
chosen_fits c none entries name t e s = by (found c s t) (found_within c s t) where
  given : (o : Option Name) → default_action_of t.attributes ≡ o → IfSome (option_map (program_default c.decls t) o) (FitsChosen c.decls t)
  given None is = tt
  given (Some action) is = default_fits c.decls none name t e action is

  filled : (o : Option DefaultCall) → (fill_of c t).default ≡ o → IfSome o (λ d. FitsCall (table_sig c.decls t) d.action d.arguments) → IfSome (chosen c t None) (FitsChosen c.decls t)
  filled (Some d) is call = rw is call
  filled None is call = rw is (given (default_action_of t.attributes) refl)

  by : (o : Option ℕ) → IfSome o (λ k. k < length (fill_of c t).entries) → IfSome (chosen c t o) (FitsChosen c.decls t)
  by (Some k) h = ((fill_fits c entries name t e).entries k _ h).call
  by None h = filled (fill_of c t).default refl (fill_fits c entries name t e).call
