-- The signatures of both tables are one, and their actions have the same numbers.
use Rattle.std.proofs.Common.{◌≡◌, ℕ, zero, suc, ◌<◌, Bool, true, false, not, cond, Option, Some, List, [], ◌∷◌, length, map, get_or, refl, sym, ap, ap₂, ◌∙◌, subst, arith}
use Rattle.std.specs.Prelude.{filter, filter_map, fold}
use Rattle.std.specs.List.{cons_option}
use Rattle.std.specs.BTreeSet.{insert_key}
use Rattle.std.specs.Cmp.Lexicographic.{slice_cmp}
use Rattle.std.specs.Ordering.{nat_cmp, match_ordering}
use Rattle.std.specs.declared.cmp.Ordering.{Ordering}
use Rattle.std.specs.declared.cmp.Ordering.TheVariants.{Less, Equal, Greater}
use Rattle.std.specs.Str.{bytes_eq}
use Rattle.std.specs.Option.{option_map_or}
use Rattle.std.proofs.lemmas.Slice.Eq.{bytes_eq-Decides}
use Rattle.state_store.specs.State.{Contents}
use Rattle.match_core.specs.declared.signatures.KeySpec.{KeySpec}
use Rattle.match_core.specs.declared.signatures.ActionSig.{ActionSig}
use Rattle.match_core.specs.declared.signatures.TableSig.{TableSig}
use Rattle.p414_syntax.specs.declared.tables.Table.{Table}
use Rattle.p414_syntax.specs.declared.syntax.Decl.{Decl}
use Rattle.p414_syntax.specs.Attributes.{reads_of}
use Rattle.p414_syntax.specs.Names.{Name}
use Rattle.p414_syntax.specs.Tables.{listed_in}
use Rattle.p414_sem.specs.Operations.{in_order}
use Rattle.p414_sem.specs.Signatures.{table_sig as sig14, actions_in_order, action_sig as action14, key_spec as spec14}
use Rattle.p416_syntax.specs.declared.controls.ActionName.{ActionName}
use Rattle.p416_syntax.specs.declared.controls.Table16.{Table16}
use Rattle.p416_syntax.specs.Properties.{keys_of, actions_of}
use Rattle.p416_syntax.specs.Scopes.{Scope, Sort}
use Rattle.p416_syntax.specs.Declarations.{sort_parameters, parameters_of}
use Rattle.p416_syntax.specs.Tables.{sort_plane}
use Rattle.v1_core.specs.Surroundings.{Surroundings}
use Rattle.v1_core.specs.Signatures.{listed_plane, planes_of, action_with, handed_width, action_sig as action16, key_spec as spec16, table_sig as sig16}
use Rattle.v1_core.specs.Tables.{listed_name, name_of_number}
use Rattle.agreement_of_meanings.proofs.Names.{same_name}
use Rattle.lower_laws_base.specs.Context.{Lowering, Sees}
use Rattle.lower_laws_controls.specs.Listing.{Each, each_once, copy_text, copy_name, CopyListed, TableIs}
use Rattle.lower_laws_controls.proofs.Keys.{specs_same}
use Rattle.lower_laws_controls.proofs.Order.{in_order_once}

-- what holds of all names holds of them in order

each_insert : {K : Type 0} (cmp : K → K → Ordering) (P : K → Type 0) (ks : List K) (k : K) → Each P ks → P k → Each P (insert_key cmp ks k)
each_insert cmp P [] k old new = (new, tt)
each_insert cmp P (x ∷ xs) k old new = by (cmp k x) (each_insert cmp P xs k old.1 new) where
  by : (o : Ordering) → Each P (insert_key cmp xs k) → Each P (match_ordering o (k ∷ x ∷ xs) (x ∷ xs) (x ∷ insert_key cmp xs k))
  by Less rest = (new, old)
  by Equal rest = old
  by Greater rest = (old.0, rest)

pub in_order_all : (P : Name → Type 0) (before names : List Name) → Each P before → Each P names → Each P (fold (insert_key (slice_cmp nat_cmp)) before names)
in_order_all P before [] old all = old
in_order_all P before (name ∷ names) old all =
    in_order_all P (insert_key (slice_cmp nat_cmp) before name) names (each_insert (slice_cmp nat_cmp) P before name old all.0) all.1

pub each_get : {A : Type 0} (P : A → Type 0) (xs : List A) (i : ℕ) (d : A) → i < length xs → Each P xs → P (get_or xs i d)
each_get P [] i d lt all = absurd (omega (arith, lt))
each_get P (x ∷ xs) zero d lt all = all.0
each_get P (x ∷ xs) (suc i) d lt all = each_get P xs i d (omega (arith, lt)) all.1

pub map_same : {A B : Type 0} (f g : A → B) (xs : List A) → Each (λ x. f x ≡ g x) xs → map f xs ≡ map g xs
map_same f g [] all = refl
map_same f g (x ∷ xs) all = ap₂ (λ y ys. y ∷ ys) all.0 (map_same f g xs all.1)

all_more : {A : Type 0} (P Q : A → Type 0) (xs : List A) → ((x : A) → P x → Q x) → Each P xs → Each Q xs
all_more P Q [] f all = tt
all_more P Q (x ∷ xs) f all = (f x all.0, all_more P Q xs f all.1)

pub each_filter : {A : Type 0} (P : A → Type 0) (p : A → Bool) (xs : List A) → Each P xs → Each P (filter p xs)
each_filter P p [] all = tt
each_filter P p (x ∷ xs) all = by (p x) (each_filter P p xs all.1) where
  by : (b : Bool) → Each P (filter p xs) → Each P (cond b (x ∷ filter p xs) (filter p xs))
  by true rest = (all.0, rest)
  by false rest = rest

once_all : (P : Name → Type 0) (names : List Name) → Each P names → Each P (each_once names)
once_all P [] all = tt
once_all P (x ∷ names) all = (all.0, each_filter P (λ y. not (bytes_eq y x)) (each_once names) (once_all P names all.1))

module _ (ds : List Decl) (s : Scope) (copy : Name → Option Name) where
  plane_of_copy : (name : Name) → CopyListed ds s copy name → listed_plane s (copy_name copy name) ≡ Some name
  plane_of_copy name l = ap (λ (z : Sort). Some (sort_plane (copy_text copy name) z)) l.sort

  planes_same : (names : List Name) → Each (CopyListed ds s copy) names → filter_map (listed_plane s) (map (copy_name copy) names) ≡ names
  planes_same [] all = refl
  planes_same (name ∷ names) all =
      ap (λ (o : Option Name). cons_option o (filter_map (listed_plane s) (map (copy_name copy) names))) (plane_of_copy name all.0) ∙ ap (λ l. name ∷ l) (planes_same names all.1)

  -- by its name for the control plane a copy is found
  found_more : (first : Name) (names : List Name) → CopyListed ds s copy first → (name : Name) → (action_with s (map (copy_name copy) names) name ≡ copy_name copy name) × CopyListed ds s copy name → (action_with s (map (copy_name copy) (first ∷ names)) name ≡ copy_name copy name) × CopyListed ds s copy name
  found_more first names l name f = (by (bytes_eq name first) refl, f.1) where
    rest : ActionName
    rest = action_with s (map (copy_name copy) names) name

    opened : action_with s (map (copy_name copy) (first ∷ names)) name ≡ cond (bytes_eq name first) (copy_name copy first) rest
    opened = ap (λ (o : Option Name). cond (option_map_or (bytes_eq name) o false) (copy_name copy first) rest) (plane_of_copy first l)

    by : (b : Bool) → bytes_eq name first ≡ b → action_with s (map (copy_name copy) (first ∷ names)) name ≡ copy_name copy name
    by true e = opened ∙ ap (λ b. cond b (copy_name copy first) (action_with s (map (copy_name copy) names) name)) e ∙ ap (copy_name copy) (sym ((bytes_eq-Decides name first).0 e))
    by false e = opened ∙ ap (λ b. cond b (copy_name copy first) (action_with s (map (copy_name copy) names) name)) e ∙ f.0

  found_first : (first : Name) (names : List Name) → CopyListed ds s copy first → action_with s (map (copy_name copy) (first ∷ names)) first ≡ copy_name copy first
  found_first first names l =
      ap (λ (o : Option Name). cond (option_map_or (bytes_eq first) o false) (copy_name copy first) (action_with s (map (copy_name copy) names) first)) (plane_of_copy first l)
      ∙ ap (λ b. cond b (copy_name copy first) (action_with s (map (copy_name copy) names) first)) (same_name first)

  pub found_all : (names : List Name) → Each (CopyListed ds s copy) names → Each (λ name. (action_with s (map (copy_name copy) names) name ≡ copy_name copy name) × CopyListed ds s copy name) names
  found_all [] all = tt
  found_all (first ∷ names) all =
      ((found_first first names all.0, all.0), all_more _ _ names (found_more first names all.0) (found_all names all.1))

module _ (c : Lowering) (ds : List Decl) (b : Surroundings) (copy : Name → Option Name) (t : Table) (u : Table16) (is : TableIs c ds b copy t u) where
  pub planes_are : planes_of b.scope u ≡ actions_in_order t
  planes_are =
      ap (λ (l : List ActionName). in_order (filter_map (listed_plane b.scope) l)) is.actions
      ∙ ap in_order (planes_same ds b.scope copy (each_once (listed_in t)) (once_all (CopyListed ds b.scope copy) (listed_in t) is.listed)) ∙ in_order_once (listed_in t)

  abbrev Found : Name → Type 0
  Found name = (action_with b.scope (actions_of u.properties) name ≡ copy_name copy name) × CopyListed ds b.scope copy name

  abbrev There : Name → Type 0
  There name = (action_with b.scope (map (copy_name copy) (each_once (listed_in t))) name ≡ copy_name copy name) × CopyListed ds b.scope copy name

  found_here : Each Found (actions_in_order t)
  found_here =
      subst (λ (l : List ActionName). Each (λ name. (action_with b.scope l name ≡ copy_name copy name) × CopyListed ds b.scope copy name) (actions_in_order t)) (sym is.actions)
      (subst (Each There) (in_order_once (listed_in t)) (in_order_all There [] (each_once (listed_in t)) tt (found_all ds b.scope copy (each_once (listed_in t)) (once_all (CopyListed ds b.scope copy) (listed_in t) is.listed))))

  -- the name of the action with a number
  pub numbered_so : (i : ℕ) → i < length (actions_in_order t) → (name_of_number b.scope u i ≡ copy_text copy (get_or (actions_in_order t) i [])) × (copy (get_or (actions_in_order t) i []) ≡ Some (copy_text copy (get_or (actions_in_order t) i [])))
  numbered_so i lt =
      let found = each_get Found (actions_in_order t) i [] lt found_here in (
        ap (λ (l : List Name). listed_name (action_with b.scope (actions_of u.properties) (get_or l i []))) planes_are
            ∙ ap listed_name found.0,
        found.1.copied,
      )

  action_same : (name : Name) → Found name → action16 b.scope u name ≡ action14 ds name
  action_same name found =
      ap (λ (a : ActionName). let x : ActionSig = record { name = name; widths = map handed_width (parameters_of b.scope a) } in x) found.0
      ∙ ap (λ (z : Sort). let x : ActionSig = record { name = name; widths = map handed_width (sort_parameters z) } in x) found.1.sort
      ∙ ap (λ (ws : List ℕ). let x : ActionSig = record { name = name; widths = ws } in x) found.1.widths

  -- one signature
  pub signatures_same : c.world.around ≡ b → c.parameters ≡ [] → Sees c b.scope [] → Contents → sig16 b.setting.syntax b.locals b.scope u ≡ sig14 ds t
  signatures_same around none sees store =
      let keys : map (spec16 b.scope) (keys_of u.properties) ≡ map (spec14 ds) (reads_of t.attributes) = ap (map (spec16 b.scope)) is.keys ∙ specs_same c b around none sees ds store (reads_of t.attributes) is.keys_fit in
      let actions : map (action16 b.scope u) (planes_of b.scope u) ≡ map (action14 ds) (actions_in_order t) = ap (map (action16 b.scope u)) planes_are ∙ map_same (action16 b.scope u) (action14 ds) (actions_in_order t) (all_more Found _ (actions_in_order t) action_same found_here) in
      parts is.plane keys actions is.size is.direct
    where
      parts : {n m : Name} {k l : List KeySpec} {a e : List ActionSig} {x y : ℕ} {f g : Option ℕ} → n ≡ m → k ≡ l → a ≡ e → x ≡ y → f ≡ g → (λ (sig : TableSig). sig) (record { name = n; keys = k; actions = a; size = x; direct = f }) ≡ record { name = m; keys = l; actions = e; size = y; direct = g }
      parts p q r s t = cc
