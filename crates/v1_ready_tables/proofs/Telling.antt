-- The tables that are made ready are those of v1_ready_statements.
use Rattle.std.proofs.Common.{◌≡◌, ℕ, zero, suc, ◌+◌, ◌<◌, Bool, true, false, cond, List, [], ◌∷◌, ◌++◌, length, map, get_or, drop, Option, Some, None, refl, sym, ap, ◌∙◌}
use Rattle.std.specs.Borrow.{Bor}
use Rattle.std.specs.Prelude.{filter_map, unwrap_or, option_map, option_and_then}
use Rattle.std.specs.Option.{option_map_or}
use Rattle.std.specs.Str.{bytes_eq}
use Rattle.name_numbers.specs.Names.{find_name}
use Rattle.p416_syntax.specs.declared.controls.ActionName.{ActionName}
use Rattle.p416_syntax.specs.declared.controls.ActionName.TheVariants.{Declared, NoAction}
use Rattle.p416_syntax.specs.declared.controls.TableKey.{TableKey}
use Rattle.p416_syntax.specs.declared.controls.Table16.{Table16}
use Rattle.p416_syntax.specs.declared.program.Decl16.{Decl16}
use Rattle.p416_syntax.specs.Properties.{keys_of, actions_of, counters_of, default_action_of}
use Rattle.p416_names.specs.SeenKinds.{referred}
use Rattle.p416_names.proofs.Found.{bytes_either, first_named, first_step}
use Rattle.p416_syntax.specs.Names.{Name}
use Rattle.p416_syntax.specs.Scopes.{Scope}
use Rattle.p416_syntax.specs.Tables.{action_plane, table_plane}
use Rattle.v1_core.specs.Signatures.{Object, in_order, place_among, plane_among, action_with, direct_number, key_scope, listed_plane, object_names, or_at_top, own_object, planes_of, table_number, top_object}
use Rattle.v1_core.specs.Tables.{listed_name, name_of_number, own_default}
use Rattle.v1_core.specs.Tables as meaning
use Rattle.v1_core.specs.Ready.{Ready}
use Rattle.v1_ready_forms.specs.Named.{NamedSeat}
use Rattle.v1_ready_blocks.specs.Tables.{Chosen}
use Rattle.v1_ready_statements.specs.Given.{cons_option}
use Rattle.v1_ready_statements.specs.Around.{Around, Found, action_found}
use Rattle.v1_ready_statements.specs.Blocks.{all_of, key_ready, number_in, action_number, action_numbers, chosen_ready, default_ready, with_parts, table_ready}
use Rattle.p416_signature.specs.internal.Gathered.{AreObjects, objects_seen, plane_in, number_in as object_in}
use Rattle.p416_signature.specs.declared.objects.Objects.{Objects}
use Rattle.v1_ready_tables.specs.declared.names.TableNames.{TableNames}
use Rattle.v1_ready_tables.specs.Tables.{AreNames, key_within, number_listed, with_number, chosen_by, default_by, table_by}
use Rattle.v1_ready_tables.specs.internal.Listed.{Listed, declared_as, listed_in, row_plane, row_name, name_among, number_among}
use Rattle.v1_ready_bodies.specs.Fronts.{in_front}
use Rattle.v1_ready_bodies.proofs.Fronts.{all_same, all_mapped, next_items, one_on}

-- the actions that a table lists

pub planes_are : (s : Scope) (actions : List ActionName) → map row_plane (filter_map (listed_in s) actions) ≡ filter_map (listed_plane s) actions
planes_are s [] = refl
planes_are s (NoAction ∷ actions) = planes_are s actions
planes_are s (Declared text ∷ actions) = ap (λ (l : List Name). action_plane s (Declared text) ∷ l) (planes_are s actions)

name_step : (text : Name) (b : Bool) (a : ActionName) (x : Listed) (r : Option Listed) → x.name ≡ text → listed_name a ≡ option_map_or row_name r [] → listed_name (cond b (Declared text) a) ≡ option_map_or row_name (cond b (Some x) r) []
name_step text true a x r is same = sym is
name_step text false a x r is same = same

pub name_is : (s : Scope) (actions : List ActionName) (plane : Name) → listed_name (action_with s actions plane) ≡ option_map_or row_name (first_named row_plane (filter_map (listed_in s) actions) plane) []
name_is s [] plane = refl
name_is s (NoAction ∷ actions) plane = name_is s actions plane
name_is s (Declared text ∷ actions) plane =
    let p = action_plane s (Declared text) in
    let rows = filter_map (listed_in s) actions in
    ap (λ (b : Bool). listed_name (cond b (Declared text) (action_with s actions plane))) (bytes_either plane p)
    ∙ (name_step text (bytes_eq p plane) (action_with s actions plane) (declared_as s text) (first_named row_plane rows plane) refl (name_is s actions plane)
    ∙ ap (λ (r : Option Listed). option_map_or row_name r []) (sym (first_step row_plane (declared_as s text) rows plane)))

-- one more of them, by its place
pub one_at : {A B : Type 0} (f : A → Option B) (xs : List A) (i : ℕ) (d : A) → i < length xs → (ys now : List B) (y : B) (due : Option (List B)) → now ≡ ys ++ y ∷ [] → Some y ≡ f (get_or xs i d) → in_front ys (all_of f (drop i xs)) ≡ due → in_front now (all_of f (drop (i + 1) xs)) ≡ due
one_at f xs i d lt ys now y due pushed is so =
    ap (λ l. in_front l (all_of f (drop (i + 1) xs))) pushed
    ∙ one_on (all_of f (drop i xs)) (all_of f (drop (i + 1) xs)) (f (get_or xs i d)) (ap (all_of f) (next_items xs i d lt)) ys y due is so

-- the numbers of those with control-plane names in order
module _ (s : Scope) (t : Table16) (rows : List Listed) (names planes : List Name) (are : rows ≡ filter_map (listed_in s) (actions_of t.properties)) (named : names ≡ map row_plane rows) where
  planed : names ≡ filter_map (listed_plane s) (actions_of t.properties)
  planed = named ∙ (ap (map row_plane) are ∙ planes_are s (actions_of t.properties))

  numbered : (actions : List Name) → planes ≡ names → (plane : Name) → number_among actions rows planes plane ≡ number_listed actions s t plane
  numbered actions same plane =
      ap (find_name actions)
      (ap (λ (ps : List Name). name_among rows ps plane) (same ∙ named)
      ∙ (ap (λ (xs : List Listed). name_among xs (map row_plane xs) plane) are
      ∙ sym (name_is s (actions_of t.properties) plane)))

  pub numbers_are : (actions : List Name) (ordered : List (Bor Name)) (found : Option (List ℕ)) → planes ≡ names → map referred ordered ≡ in_order names → found ≡ all_of (λ (name : Bor Name). number_among actions rows planes name.now) ordered → found ≡ all_of (number_listed actions s t) (planes_of s t)
  numbers_are actions ordered found same in_turn is =
      is
      ∙ (all_mapped (number_among actions rows planes) referred ordered
      ∙ (ap (all_of (number_among actions rows planes)) (in_turn ∙ ap in_order planed)
      ∙ all_same (number_among actions rows planes) (number_listed actions s t) (numbered actions same) (planes_of s t)))

  pub placed_are : (ordered : List (Bor Name)) (placed : List Name) → map referred ordered ≡ in_order names → placed ≡ map referred ordered → placed ≡ planes_of s t
  placed_are ordered placed in_turn is = is ∙ (in_turn ∙ ap in_order planed)

-- the numbers of actions among those of the control

abbrev first : List Name → Name
first [] = []
first (x ∷ xs) = x

abbrev behind_first : List Name → List Name
behind_first [] = []
behind_first (x ∷ xs) = xs

first_drop : (xs : List Name) (n : ℕ) → first (drop n xs) ≡ get_or xs n []
first_drop [] zero = refl
first_drop [] (suc n) = refl
first_drop (x ∷ xs) zero = refl
first_drop (x ∷ xs) (suc n) = first_drop xs n

rest_drop : (xs : List Name) (n : ℕ) → behind_first (drop n xs) ≡ drop (suc n) xs
rest_drop [] zero = refl
rest_drop [] (suc n) = refl
rest_drop (x ∷ xs) zero = refl
rest_drop (x ∷ xs) (suc n) = rest_drop xs n

found_number : {A : Type 0} (f : Found → A) (g : ℕ → A) → ((x : Found) → f x ≡ g x.number) → (o : Option Found) → option_map f o ≡ option_map g (option_map number_in o)
found_number f g same None = refl
found_number f g same (Some x) = ap Some (same x)

module _ (b : Around) (s : Scope) (t : Table16) (names : List Name) (actions : (text : Name) → find_name names text ≡ option_map number_in (action_found b text)) where
  number_is : (n : ℕ) (plane : Name) → get_or (planes_of s t) n [] ≡ plane → action_number b s t n ≡ number_listed names s t plane
  number_is n plane is =
      sym (actions (name_of_number s t n))
      ∙ ap (λ (p : Name). number_listed names s t p) is

  numbers_from : (n : ℕ) (planes : List Name) → drop n (planes_of s t) ≡ planes → action_numbers b s t n planes ≡ all_of (number_listed names s t) planes
  numbers_from n [] is = refl
  numbers_from n (plane ∷ planes) is =
      ap (λ o. cons_option o (action_numbers b s t (suc n) planes)) (number_is n plane (sym (first_drop (planes_of s t) n) ∙ ap first is))
      ∙ ap (cons_option (number_listed names s t plane)) (numbers_from (suc n) planes (sym (rest_drop (planes_of s t) n) ∙ ap behind_first is))

  chosen_is : (k : meaning.Chosen) → chosen_by names k ≡ chosen_ready b k
  chosen_is k =
      ap (option_map (with_number k)) (actions k.called)
      ∙ sym (found_number (λ (f : Found). with_number k f.number) (with_number k) (λ x. refl) (action_found b k.called))

  default_is : (o : Option meaning.Chosen) → default_by names o ≡ default_ready b o
  default_is None = refl
  default_is (Some k) = ap (option_map (λ c. Some c)) (chosen_is k)

-- direct counters

at_top_is : (ds : List Decl16) (text : Name) (o : Option Name) → unwrap_or o (unwrap_or (plane_among (filter_map top_object ds) text) text) ≡ or_at_top ds text o
at_top_is ds text None = refl
at_top_is ds text (Some plane) = refl

module _ (b : Around) (o : Objects) (own : List Object) (are : AreObjects b.syntax o) (mine : own ≡ filter_map own_object b.locals) where
  pub object_is : (text : Name) → object_in o own text ≡ direct_number b.syntax b.locals text
  object_is text =
      ap (λ (l : List Name). place_among l (plane_in own (objects_seen o.top) text)) are.numbers
      ∙ (ap (λ (top : List Object). place_among (object_names b.syntax) (plane_in own top text)) are.top
      ∙ (ap (λ (l : List Object). place_among (object_names b.syntax) (plane_in l (filter_map top_object b.syntax.decls) text)) mine
      ∙ ap (place_among (object_names b.syntax)) (at_top_is b.syntax.decls text (plane_among (filter_map own_object b.locals) text))))

  direct_is : (named : Option Name) → option_map (object_in o own) named ≡ option_map (direct_number b.syntax b.locals) named
  direct_is None = refl
  direct_is (Some text) = ap (λ (n : ℕ). Some n) (object_is text)

-- a table, from its parts

pub parts_are : (n : TableNames) (s k : Scope) (seats : List NamedSeat) (t : Table16) (written : List TableKey) (number : ℕ) (direct : Option ℕ) (keys : Option (List Ready)) (actions : Option (List ℕ)) (default : Option (Option Chosen)) → number ≡ place_among n.tables.now (table_plane t)
    → direct ≡ option_map (object_in n.objects.now (objects_seen n.own.now)) (counters_of t.properties) → keys ≡ all_of (key_within k seats) written → written ≡ keys_of t.properties → k ≡ key_scope s → actions ≡ all_of (number_listed n.actions.now s t) (planes_of s t)
    → default ≡ default_by n.actions.now (option_and_then (own_default s t) (default_action_of t.properties)) → with_parts number direct keys actions default ≡ table_by n s seats t
parts_are n s k seats t written number direct keys actions default a b c d e f g =
    let number' = place_among n.tables.now (table_plane t) in
    let direct' = option_map (object_in n.objects.now (objects_seen n.own.now)) (counters_of t.properties) in
    let keys' = all_of (key_ready s seats) (keys_of t.properties) in
    let actions' = all_of (number_listed n.actions.now s t) (planes_of s t) in
    ap (λ (x : ℕ). with_parts x direct keys actions default) a
    ∙ (ap (λ (x : Option ℕ). with_parts number' x keys actions default) b
    ∙ (ap (λ (x : Option (List Ready)). with_parts number' direct' x actions default) (c ∙ (ap (all_of (key_within k seats)) d ∙ ap (λ (y : Scope). all_of (key_within y seats) (keys_of t.properties)) e))
    ∙ (ap (λ (x : Option (List ℕ)). with_parts number' direct' keys' x default) f
    ∙ ap (λ (x : Option (Option Chosen)). with_parts number' direct' keys' actions' x) g)))

-- tables

pub table_is : (b : Around) (n : TableNames) (s : Scope) (seats : List NamedSeat) (t : Table16) → AreNames b n → table_by n s seats t ≡ table_ready b s seats t
table_is b n s seats t are =
    let direct = option_map (object_in n.objects.now (objects_seen n.own.now)) (counters_of t.properties) in
    let keys = all_of (key_ready s seats) (keys_of t.properties) in
    let actions = all_of (number_listed n.actions.now s t) (planes_of s t) in
    let own = option_and_then (own_default s t) (default_action_of t.properties) in
    let number' = table_number b.syntax t in
    let direct' = option_map (direct_number b.syntax b.locals) (counters_of t.properties) in
    let actions' = action_numbers b s t 0 (planes_of s t) in
    ap (λ (x : ℕ). with_parts x direct keys actions (default_by n.actions.now own)) (ap (λ (l : List Name). place_among l (table_plane t)) are.tables)
    ∙ (ap (λ (x : Option ℕ). with_parts number' x keys actions (default_by n.actions.now own)) (direct_is b n.objects.now (objects_seen n.own.now) are.objects are.own (counters_of t.properties))
    ∙ (ap (λ (x : Option (List ℕ)). with_parts number' direct' keys x (default_by n.actions.now own)) (sym (numbers_from b s t n.actions.now are.actions 0 (planes_of s t) refl))
    ∙ ap (λ (x : Option (Option Chosen)). with_parts number' direct' keys actions' x) (default_is b s t n.actions.now are.actions own)))

pub tables_are : (b : Around) (n : TableNames) (s : Scope) (seats : List NamedSeat) (ts : List Table16) → AreNames b n → all_of (table_by n s seats) ts ≡ all_of (table_ready b s seats) ts
tables_are b n s seats ts are = all_same (table_by n s seats) (table_ready b s seats) (λ t. table_is b n s seats t are) ts
