-- Keys, tables and actions break no rule.
use Rattle.std.proofs.Common.{◌≡◌, ℕ, suc, ◌+◌, ◌<◌, ◌≤◌, ◌^◌, Bool, true, false, ◌||◌, ◌&&◌, List, [], ◌∷◌, ◌++◌, length, get_or, map, flat_map, Option, Some, None, refl, sym, ap, ap₂, ◌∙◌, subst, arith}
use Rattle.std.specs.Prelude.{not, nat_eq, option_to_list}
use Rattle.std.specs.Option.{option_map_or}
use Rattle.std.specs.Str.{bytes_eq}
use Rattle.std.specs.List.{list_any, AllByRecursion, AllZip}
use Rattle.p416_syntax.specs.declared.controls.ActionName.{ActionName}
use Rattle.p416_syntax.specs.declared.controls.TableKey.{TableKey}
use Rattle.p416_syntax.specs.declared.lexeme.Literal16.{Literal16}
use Rattle.p416_syntax.specs.declared.controls.Property.{Property}
use Rattle.p416_syntax.specs.declared.controls.Property.TheVariants as property
use Rattle.p416_syntax.specs.Properties.{keys_of, actions_of, size_of, counters_of, default_action_of, default_arguments_of}
use Rattle.p416_syntax.specs.Tree.{Exp16, Stmt16, literal, no_arguments, argument}
use Rattle.p416_syntax.specs.Names.{Name, has_name, repeats}
use Rattle.p416_syntax.specs.Kinds.{bits, boolean}
use Rattle.p416_syntax.specs.Scopes.{Scope, Sort, Known, Handed, in_key, handed}
use Rattle.p416_syntax.specs.Calls.{table_key, literal_of, any_literal}
use Rattle.p416_syntax.specs.Expressions.{argument_count}
use Rattle.p416_syntax.specs.Uses.{Places, a_name, a_number, some_action, some_direct_counter, of_action_parameter, many}
use Rattle.p416_syntax.specs.Statements.{declared_in, nesting}
use Rattle.p416_syntax.specs.Declarations.{note_uses, is_exact, key_uses, action_name_uses, sort_parameters, default_place, given_uses, defaults_of, table_uses, parameter_name, parameter_uses, body_uses, action_scope, action_uses}
use Rattle.p416_syntax.specs.Unknown.{is_wanted}
use Rattle.p416_syntax.specs.Tables.{has_bad_keys, is_not_given, is_bad_action, has_bad_actions, is_same_action, sort_plane, is_mixed_up, mixes_up, is_outside_actions, is_bad_table, is_directed_parameter, is_behind}
use Rattle.agreement_of_meanings.specs.Shown.{NamedField, width_of}
use Rattle.lower_laws_base.specs.Context.{Local, Lowering, Sees}
use Rattle.lower_laws_base.specs.Mirror.{plain, sized}
use Rattle.lower_laws_rules.specs.Keeping.{Keeps, Asks, Sits, Given, Part}
use Rattle.lower_laws_rules.specs.Written.{action_param, literals16, Default, TableText, key_property, size_property, counters_property, default_property, declared_action, table16, action16}
use Rattle.lower_laws_rules.specs.Declared.{FitsWidth, name_of_field, bits_given, Listed, plane_of, IsListed, DefaultFits, FitsDefault, FitsCounters, TableFits}
use Rattle.lower_laws_rules.proofs.Lists.{neither, both_false, no_fines, none_kept, behind_kept, first_kept}
use Rattle.lower_laws_rules.proofs.Places.{itself, not_less}
use Rattle.lower_laws_rules.proofs.Sound.{sits_literal}
use Rattle.lower_laws_rules.proofs.Calls.{sits_kept, more_given}
use Rattle.lower_laws_rules.proofs.Trees.{shallow, unheld}
use Rattle.lower_laws_rules.proofs.Parts.{names_fine}
use Rattle.lower_laws_rules.proofs.Types.{bits_type}

-- keys

-- what names mean doesn't depend on the part
pub in_keys : (c : Lowering) (s : Scope) (ls : List Local) → Sees c s ls → Sees c (record s { part = in_key }) ls
in_keys c s ls h =
    let d = h.declares in
    record {
      declares = record { differ = d.differ; apart = d.apart; named = d.named; rooted = d.rooted; copied = d.copied; numbered = d.numbered; stored = d.stored; shape = d.shape; instance = d.instance; field = d.field; standard_is = d.standard_is; standard = d.standard; error = d.error; checksum = d.checksum };
      locals = h.locals;
      distinct = h.distinct;
      apart = h.apart;
    }

pub asks_key : (width : ℕ) (exact can : Bool) → Asks (table_key exact) (bits width) can
asks_key width exact can = record { opens = refl; takes_it = refl; writes = refl }

-- `isValid()` for an exact match
pub asks_valid_key : (exact can : Bool) → exact ≡ true → Asks (table_key exact) boolean can
asks_valid_key exact can is = record { opens = refl; takes_it = ap (λ b. b && true) is; writes = refl }

pub key_kept : (s : Scope) (k : TableKey) (d : ℕ) → Sits (record s { part = in_key }) (table_key (is_exact k)) k.exp d → d ≤ 400 → note_uses k.notes ≡ [] → Keeps (key_uses s k) []
key_kept s k d x few bare = behind_kept (sits_kept x few) (subst (λ us. Keeps us []) (sym bare) none_kept)

-- literals at the places of the parameters of an action

third : (widths : List ℕ) (w : ℕ) (rest : List ℕ) → get_or (map default_place (map bits_given (widths ++ w ∷ rest))) (length widths) any_literal ≡ literal_of (bits w)
third [] w rest = refl
third (v ∷ widths) w rest = third widths w rest

regroup : (xs : List ℕ) (y : ℕ) (zs : List ℕ) → (xs ++ y ∷ []) ++ zs ≡ xs ++ y ∷ zs
regroup [] y zs = refl
regroup (x ∷ xs) y zs = ap (λ (ws : List ℕ). x ∷ ws) (regroup xs y zs)

longer : (xs : List ℕ) (y : ℕ) → length (xs ++ y ∷ []) ≡ length xs + 1
longer [] y = refl
longer (x ∷ xs) y = let e = longer xs y in omega (arith, e)

none_behind : (xs : List ℕ) → xs ++ [] ≡ xs
none_behind [] = refl
none_behind (x ∷ xs) = ap (λ (zs : List ℕ). x ∷ zs) (none_behind xs)

-- behind the arguments of the parameters that stand before
literals_given : (s : Scope) (done widths values : List ℕ) (x : Exp16) → AllZip (λ (width value : ℕ). value < 2 ^ width) widths values → argument_count x ≡ length done → Given s (map default_place (map bits_given (done ++ widths))) any_literal x 1 → Given s (map default_place (map bits_given (done ++ widths))) any_literal (literals16 x widths values) 1 × (argument_count (literals16 x widths values) ≡ length (done ++ widths))
literals_given s done [] [] x all count given = (given, count ∙ ap length (sym (none_behind done)))
literals_given s done [] (v ∷ values) x all count given = absurd all
literals_given s done (w ∷ widths) [] x all count given = absurd all
literals_given s done (w ∷ widths) (v ∷ values) x all count given =
    let more : Given s (map default_place (map bits_given (done ++ w ∷ widths))) any_literal (argument x (literal (sized w v))) 1 = more_given given (ap (λ n. get_or (map default_place (map bits_given (done ++ w ∷ widths))) n any_literal) count ∙ third done w widths) (sits_literal s w v all.0) in
    subst (λ (ws : List ℕ). Given s (map default_place (map bits_given ws)) any_literal (literals16 (argument x (literal (sized w v))) widths values) 1 × (argument_count (literals16 (argument x (literal (sized w v))) widths values) ≡ length ws)) (regroup done w widths)
    (literals_given s (done ++ w ∷ []) widths values (argument x (literal (sized w v))) all.1 (ap (λ n. n + 1) count ∙ sym (longer done w))
    (subst (λ (ws : List ℕ). Given s (map default_place (map bits_given ws)) any_literal (argument x (literal (sized w v))) 1) (sym (regroup done w widths)) more))

given_count : (widths : List ℕ) → length (map bits_given widths) ≡ length widths
given_count [] = refl
given_count (w ∷ widths) = ap suc (given_count widths)

default_kept : (s : Scope) (actions : List Name) (d : Default) → DefaultFits s actions d → Keeps (defaults_of s (Some (declared_action d.action)) (Some (literals16 no_arguments d.widths d.values))) []
default_kept s actions d fits =
    behind_kept
    (first_kept (record { t1 = ap (λ (x : Sort). not (is_wanted some_action x)) fits.known; t2 = refl; t3 = refl; t4 = refl; t5 = refl; t6 = refl; t8 = refl; t9 = refl; t10 = refl; calls = refl }) refl refl none_kept)
    (subst (λ (ps : List Handed). Keeps (given_uses s ps (literals16 no_arguments d.widths d.values)) []) (sym (ap sort_parameters fits.known))
    (first_kept (record { t1 = refl; t2 = refl; t3 = refl; t4 = refl; t5 = refl; t6 = ap₂ takes_other (given_count d.widths) given.1 ∙ ap not (itself (length d.widths)); t8 = refl; t9 = refl; t10 = refl; calls = refl }) refl refl
    (record { fine = given.0.keeps.each; shallow = shallow s places (literals16 no_arguments d.widths d.values) (let small = given.0.depths in omega (arith, small)); holds = unheld s places (literals16 no_arguments d.widths d.values) }))) where
      takes_other : ℕ → ℕ → Bool
      takes_other m n = not (nat_eq m n)

      places : Places
      places = many (map default_place (map bits_given d.widths)) any_literal

      given : Given s (map default_place (map bits_given d.widths)) any_literal (literals16 no_arguments d.widths d.values) 1 × (argument_count (literals16 no_arguments d.widths d.values) ≡ length d.widths)
      given = literals_given s [] d.widths d.values no_arguments fits.values refl (record { depths = omega arith; keeps = no_fines })

-- what a table has, whichever properties stand
abbrev properties : TableText → List Property
properties t = (table16 t).properties

keys_are : (t : TableText) → keys_of (properties t) ≡ t.keys
keys_are t = by t.keys t.size t.counters t.default where
  by : (keys : List TableKey) (size : Option ℕ) (counters : Option Name) (default : Option Default) → keys_of (key_property keys ++ property.Actions (map declared_action t.actions) ∷ (size_property size ++ (counters_property counters ++ default_property default))) ≡ keys
  by (k ∷ keys) size counters default = refl
  by [] (Some n) (Some x) (Some d) = refl
  by [] (Some n) (Some x) None = refl
  by [] (Some n) None (Some d) = refl
  by [] (Some n) None None = refl
  by [] None (Some x) (Some d) = refl
  by [] None (Some x) None = refl
  by [] None None (Some d) = refl
  by [] None None None = refl

pub actions_are : (t : TableText) → actions_of (properties t) ≡ map declared_action t.actions
actions_are t = by t.keys where
  by : (keys : List TableKey) → actions_of (key_property keys ++ property.Actions (map declared_action t.actions) ∷ (size_property t.size ++ (counters_property t.counters ++ default_property t.default))) ≡ map declared_action t.actions
  by [] = refl
  by (k ∷ keys) = refl

-- behind the keys and the actions
behind_actions : {A : Type 0} (f : List Property → A) (t : TableText) → ((ps : List Property) (keys : List TableKey) → f (property.Key keys ∷ ps) ≡ f ps) → ((ps : List Property) (names : List ActionName) → f (property.Actions names ∷ ps) ≡ f ps) → f (properties t) ≡ f (size_property t.size ++ (counters_property t.counters ++ default_property t.default))
behind_actions f t past_keys past_actions = by t.keys where
  by : (keys : List TableKey) → f (key_property keys ++ property.Actions (map declared_action t.actions) ∷ (size_property t.size ++ (counters_property t.counters ++ default_property t.default))) ≡ f (size_property t.size ++ (counters_property t.counters ++ default_property t.default))
  by [] = past_actions _ _
  by (k ∷ keys) = past_keys _ _ ∙ past_actions _ _

abbrev size_number : Option ℕ → Option Literal16
size_number None = None
size_number (Some n) = Some (plain n)

size_is : (t : TableText) → size_of (properties t) ≡ size_number t.size
size_is t = behind_actions size_of t (λ ps keys. refl) (λ ps names. refl) ∙ by t.size t.counters t.default where
  by : (size : Option ℕ) (counters : Option Name) (default : Option Default) → size_of (size_property size ++ (counters_property counters ++ default_property default)) ≡ size_number size
  by (Some n) counters default = refl
  by None None None = refl
  by None None (Some d) = refl
  by None (Some x) None = refl
  by None (Some x) (Some d) = refl

pub counters_are : (t : TableText) → counters_of (properties t) ≡ t.counters
counters_are t = behind_actions counters_of t (λ ps keys. refl) (λ ps names. refl) ∙ by t.size t.counters t.default where
  by : (size : Option ℕ) (counters : Option Name) (default : Option Default) → counters_of (size_property size ++ (counters_property counters ++ default_property default)) ≡ counters
  by (Some n) (Some x) default = refl
  by None (Some x) default = refl
  by (Some n) None None = refl
  by (Some n) None (Some d) = refl
  by None None None = refl
  by None None (Some d) = refl

abbrev default_action : Option Default → Option ActionName
default_action None = None
default_action (Some d) = Some (declared_action d.action)

abbrev default_given : Option Default → Option Exp16
default_given None = None
default_given (Some d) = Some (literals16 no_arguments d.widths d.values)

default_is : (t : TableText) → default_action_of (properties t) ≡ default_action t.default
default_is t = behind_actions default_action_of t (λ ps keys. refl) (λ ps names. refl) ∙ by t.size t.counters t.default where
  by : (size : Option ℕ) (counters : Option Name) (default : Option Default) → default_action_of (size_property size ++ (counters_property counters ++ default_property default)) ≡ default_action default
  by (Some n) (Some x) None = refl
  by (Some n) (Some x) (Some d) = refl
  by None (Some x) None = refl
  by None (Some x) (Some d) = refl
  by (Some n) None None = refl
  by (Some n) None (Some d) = refl
  by None None None = refl
  by None None (Some d) = refl

arguments_are : (t : TableText) → default_arguments_of (properties t) ≡ default_given t.default
arguments_are t = behind_actions default_arguments_of t (λ ps keys. refl) (λ ps names. refl) ∙ by t.size t.counters t.default where
  by : (size : Option ℕ) (counters : Option Name) (default : Option Default) → default_arguments_of (size_property size ++ (counters_property counters ++ default_property default)) ≡ default_given default
  by (Some n) (Some x) None = refl
  by (Some n) (Some x) (Some d) = refl
  by None (Some x) None = refl
  by None (Some x) (Some d) = refl
  by (Some n) None None = refl
  by (Some n) None (Some d) = refl
  by None None None = refl
  by None None (Some d) = refl

-- actions that a table lists

all_bits : (widths : List ℕ) → list_any is_not_given (map bits_given widths) ≡ false
all_bits [] = refl
all_bits (w ∷ widths) = all_bits widths

none_bad : (s : Scope) (names : List Name) (listed : List Listed) → AllZip (IsListed s) names listed → list_any (is_bad_action s) (map declared_action names) ≡ false
none_bad s [] listed all = refl
none_bad s (x ∷ names) [] all = absurd all
none_bad s (x ∷ names) (l ∷ listed) all = neither _ _ (ap (λ (z : Sort). list_any is_not_given (sort_parameters z)) all.0 ∙ all_bits l.widths) (none_bad s names listed all.1)

left_false : (a b : Bool) → a || b ≡ false → a ≡ false
left_false false b e = refl
left_false true b e = e

right_false : (a b : Bool) → a || b ≡ false → b ≡ false
right_false false b e = e
right_false true b e = absurd (cc e)

apart_from : (s : Scope) (x : Name) (l : Listed) (names : List Name) (listed : List Listed) → IsListed s x l → AllZip (IsListed s) names listed → has_name (map plane_of listed) l.plane ≡ false → list_any (is_mixed_up s (declared_action x)) (map declared_action names) ≡ false
apart_from s x l [] listed is all apart = refl
apart_from s x l (y ∷ names) [] is all apart = absurd all
apart_from s x l (y ∷ names) (m ∷ listed) is all apart =
    neither _ _ (both_false (not (bytes_eq x y)) _ (ap₂ bytes_eq (ap (sort_plane x) is) (ap (sort_plane y) all.0) ∙ left_false _ _ apart)) (apart_from s x l names listed is all.1 (right_false _ _ apart))

none_mixed : (s : Scope) (names : List Name) (listed : List Listed) → AllZip (IsListed s) names listed → repeats (map plane_of listed) ≡ false → mixes_up s (map declared_action names) ≡ false
none_mixed s [] listed all apart = refl
none_mixed s (x ∷ names) [] all apart = absurd all
none_mixed s (x ∷ names) (l ∷ listed) all apart = neither _ _ (apart_from s x l names listed all.0 all.1 (left_false _ _ apart)) (none_mixed s names listed all.1 (right_false _ _ apart))

pub among_declared : (names : List Name) (x : Name) → list_any (is_same_action (declared_action x)) (map declared_action names) ≡ has_name names x
among_declared [] x = refl
among_declared (y ∷ names) x = ap (λ b. bytes_eq x y || b) (among_declared names x)

actions_kept : (s : Scope) (names : List Name) (listed : List Listed) → AllZip (IsListed s) names listed → Keeps (flat_map (action_name_uses s) (map declared_action names)) []
actions_kept s [] listed all = none_kept
actions_kept s (x ∷ names) [] all = absurd all
actions_kept s (x ∷ names) (l ∷ listed) all = first_kept (record { t1 = ap (λ (z : Sort). not (is_wanted some_action z)) all.0; t2 = refl; t3 = refl; t4 = refl; t5 = refl; t6 = refl; t8 = refl; t9 = refl; t10 = refl; calls = refl }) refl refl (actions_kept s names listed all.1)

pub table_kept : (s : Scope) (t : TableText) (listed : List Listed) → TableFits s t listed → Keeps (table_uses s (table16 t)) []
table_kept s t listed fits =
    first_kept (record { t1 = refl; t2 = refl; t3 = refl; t4 = refl; t5 = refl; t6 = refl; t8 = refl; t9 = good; t10 = refl; calls = refl }) refl refl
    (behind_kept (behind_kept (behind_kept (behind_kept keys actions) sizes) counters) default) where
      keys : Keeps (flat_map (key_uses s) (keys_of (properties t))) []
      keys = subst (λ ks. Keeps (flat_map (key_uses s) ks) []) (sym (keys_are t)) fits.keys

      actions : Keeps (flat_map (action_name_uses s) (actions_of (properties t))) []
      actions = subst (λ xs. Keeps (flat_map (action_name_uses s) xs) []) (sym (actions_are t)) (actions_kept s t.actions listed fits.actions)

      sizes : Keeps (map a_number (option_to_list (size_of (properties t)))) []
      sizes = subst (λ o. Keeps (map a_number (option_to_list o)) []) (sym (size_is t)) (by t.size) where
        by : (size : Option ℕ) → Keeps (map a_number (option_to_list (size_number size))) []
        by None = none_kept
        by (Some n) = first_kept (record { t1 = refl; t2 = refl; t3 = refl; t4 = refl; t5 = refl; t6 = refl; t8 = refl; t9 = refl; t10 = refl; calls = refl }) refl refl none_kept

      counters : Keeps (map (a_name s some_direct_counter) (option_to_list (counters_of (properties t)))) []
      counters = subst (λ o. Keeps (map (a_name s some_direct_counter) (option_to_list o)) []) (sym (counters_are t)) (by t.counters fits.counters) where
        by : (o : Option Name) → FitsCounters s o → Keeps (map (a_name s some_direct_counter) (option_to_list o)) []
        by None is = none_kept
        by (Some x) is = first_kept (record { t1 = ap (λ (z : Sort). not (is_wanted some_direct_counter z)) is; t2 = refl; t3 = refl; t4 = refl; t5 = refl; t6 = refl; t8 = refl; t9 = refl; t10 = refl; calls = refl }) refl refl none_kept

      default : Keeps (defaults_of s (default_action_of (properties t)) (default_arguments_of (properties t))) []
      default = subst (λ us. Keeps us []) (sym (ap₂ (defaults_of s) (default_is t) (arguments_are t))) (by t.default fits.default) where
        by : (o : Option Default) → FitsDefault s t.actions o → Keeps (defaults_of s (default_action o) (default_given o)) []
        by None is = none_kept
        by (Some d) is = default_kept s t.actions d is

      inside : (o : Option Default) → FitsDefault s t.actions o → option_map_or (is_outside_actions (map declared_action t.actions)) (default_action o) false ≡ false
      inside None is = refl
      inside (Some d) is = ap not (among_declared t.actions d.action ∙ is.among)

      good : is_bad_table s (table16 t) ≡ false
      good = neither _ _ (neither _ _ (ap has_bad_keys (keys_are t) ∙ fits.good) (ap (has_bad_actions s) (actions_are t) ∙ neither _ _ (none_bad s t.actions listed fits.actions) (none_mixed s t.actions listed fits.actions fits.apart)))
          (ap₂ (λ xs o. option_map_or (is_outside_actions xs) o false) (actions_are t) (default_is t) ∙ inside t.default fits.default)

-- statements in their braces
pub body_kept : {s t : Scope} {names : List Name} {deep : ℕ} (braces : ℕ) (x : Stmt16) → Part s t names deep x → repeats names ≡ false → braces + deep ≤ 400 → Keeps (body_uses s braces x) []
body_kept braces x p once few =
    first_kept (names_fine (declared_in x) (ap repeats p.declares ∙ once)) refl refl
    (first_kept (record { t1 = refl; t2 = refl; t3 = refl; t4 = refl; t5 = refl; t6 = refl; t8 = refl; t9 = refl; t10 = refl; calls = refl }) (not_less 400 (braces + nesting x) (let small = p.nests in omega (arith, small, few))) refl p.keeps)

-- actions

parameters_kept : (s : Scope) (fs : List NamedField) → AllByRecursion FitsWidth fs → Keeps (flat_map (parameter_uses s of_action_parameter) (map action_param fs)) []
parameters_kept s [] all = none_kept
parameters_kept s (f ∷ fs) all = behind_kept (bits_type s of_action_parameter f.width all.0.0 all.0.1) (parameters_kept s fs all.1)

undirected : (fs : List NamedField) → list_any is_directed_parameter (map action_param fs) ≡ false
undirected [] = refl
undirected (f ∷ fs) = undirected fs

in_order : (fs : List NamedField) → is_behind (map action_param fs) ≡ false
in_order [] = refl
in_order (f ∷ fs) = neither _ _ (undirected fs) (in_order fs)

parameter_names : (fs : List NamedField) → map parameter_name (map action_param fs) ≡ map name_of_field fs
parameter_names [] = refl
parameter_names (f ∷ fs) = ap (λ (xs : List Name). f.called ∷ xs) (parameter_names fs)

pub action_kept : {t : Scope} {names : List Name} {deep : ℕ} (s : Scope) (plane called : Name) (fs : List NamedField) (body : Stmt16) → repeats (map name_of_field fs) ≡ false → AllByRecursion FitsWidth fs → Part (action_scope s (action16 plane called fs body)) t names deep body → repeats names ≡ false → deep ≤ 399 → Keeps (action_uses s (action16 plane called fs body)) []
action_kept s plane called fs body differ widths p once few =
    first_kept (names_fine _ (ap repeats (parameter_names fs) ∙ differ)) refl refl
    (first_kept (record { t1 = refl; t2 = refl; t3 = refl; t4 = refl; t5 = refl; t6 = refl; t8 = refl; t9 = in_order fs; t10 = refl; calls = refl }) refl refl
    (behind_kept (parameters_kept s fs widths) (body_kept 1 body p once (omega (arith, few)))))

-- an action as tables see it
pub handed_bits : (names : List Known) (fs : List NamedField) → map (handed names) (map action_param fs) ≡ map bits_given (map width_of fs)
handed_bits names [] = refl
handed_bits names (f ∷ fs) = ap (λ (hs : List Handed). bits_given f.width ∷ hs) (handed_bits names fs)
