-- Each copy of an action stands in its place: in the pipeline of a table that lists it, and where a direct counter is counted, among
-- the actions of the counter's table.
use Rattle.std.proofs.Common.{◌≡◌, ◌⊎◌, inl, inr, ℕ, zero, suc, ◌<◌, Bool, true, false, cond, not, ◌&&◌, Option, Some, None, option_map, List, [], ◌∷◌, ◌++◌, length, map, get_or, refl, sym, ap, ap₂, ◌∙◌, subst, arith, append_assoc}
use Rattle.std.specs.Prelude.{◌||◌, filter, nat_eq, slice_get, filter_map, unwrap_or, option_and_then, Contains, position}
use Rattle.std.specs.List.{list_any}
use Rattle.std.specs.Option.{option_map_or}
use Rattle.std.specs.Str.{bytes_eq}
use Rattle.std.proofs.lemmas.Slice.Eq.{bytes_eq-Decides}
use Rattle.std.proofs.lemmas.Option.{slice_get-map}
use Rattle.std.proofs.lemmas.List.Quantifiers.{position-Some}
use Rattle.std.proofs.lemmas.Bool.Decides.{nat_tests}
use Rattle.match_core.specs.declared.entries.Entries.{Entries}
use Rattle.p414_syntax.specs.declared.syntax.Decl.{Decl}
use Rattle.p414_syntax.specs.declared.syntax.Rule14.{Rule14}
use Rattle.p414_syntax.specs.declared.syntax.Sort.TheVariants as sort
use Rattle.p414_syntax.specs.declared.tables.Table.{Table}
use Rattle.p414_syntax.specs.Tree.{Stmt}
use Rattle.p414_syntax.specs.Names.{Name, name_in, names_in, has_name, find_name, repeats_behind}
use Rattle.p414_syntax.specs.Arguments.{action_number}
use Rattle.p414_syntax.specs.ControlExpansion.{PipelineExpands, ingress as ingress_name, egress as egress_name}
use Rattle.p414_syntax.specs.Pipelines.{IsApplied, CountsAsIngress}
use Rattle.p414_syntax.specs.Tables.{tables, table_number, listed_in, listed_by}
use Rattle.p414_sem.specs.Expanded.{Expanded}
use Rattle.p414_sem.specs.Operations.{in_order, object_number}
use Rattle.p414_sem.specs.Signatures.{direct_counter, counts_entries_of, first_name, table_of}
use Rattle.p416_syntax.specs.declared.controls.Local.{Local}
use Rattle.p416_syntax.specs.declared.controls.Local.TheVariants as local
use Rattle.p416_syntax.specs.declared.controls.Table16.{Table16}
use Rattle.p416_syntax.specs.Scopes.{Known, a_table, known_parameter}
use Rattle.p416_syntax.specs.Declarations.{action_scope, known_local, top_names}
use Rattle.p416_syntax.specs.Tables.{is_counted_by}
use Rattle.v1_core.specs.declared.block.Block.{Block}
use Rattle.v1_core.specs.Blocks.{owners_of}
use Rattle.v1_core.specs.Frames.{Owner, of_headers, of_metadata, of_standard, of_variables, of_inner, of_nothing}
use Rattle.lower_laws_names.specs.NewNames.{new_name}
use Rattle.lower_laws_names.specs.Reaches.{Outer, outer_name, declared, copy}
use Rattle.lower_laws_names.specs.Copies.{Listing, listings, Copy, is_same_bit, in_pipeline, is_same_pipeline, is_same_table, plain_copy, counted_copy, one_if, copies_behind, copies, listing_outer, outer_in}
use Rattle.lower_laws_names.proofs.Objects.{next_place}
use Rattle.lower_laws_names.proofs.OneSort.{sort_once}
use Rattle.lower_laws_base.specs.Context.{ObjectName, object_at, HasRoot}
use Rattle.lower_laws_controls.specs.Listing.{each_once, copy_text}
use Rattle.lower_laws_controls.proofs.Expanding.{neither}
use Rattle.lower_laws_states.specs.Expansions.{Has}
use Rattle.lower_laws_states.proofs.Members.{has_right, has_apart, has_at, has_mapped, has_picked, picked_has}
use Rattle.lower_laws_states.proofs.Filling.{has_found, in_order_has, table_names}
use Rattle.lower_laws_states.proofs.Rules.{none_twice}
use Rattle.lower_laws_premises.specs.Placed.{StandsIn, block_place}
use Rattle.lower_laws_premises.proofs.Objects.{not_behind}
use Rattle.lower_laws_premises.proofs.Rules.{has_so}
use Rattle.lower_laws_program.specs.Program.{decls_of, pipeline_parameters}
use Rattle.lower_laws_program.specs.Controls.{old_locals}
use Rattle.lower_laws_controls.specs.Written.{table_text}
use Rattle.lower_laws_rules.specs.Written.{declared_action, table16}
use Rattle.lower_laws_rules.proofs.Names.{other, counted}
use Rattle.lower_laws_rules.proofs.Tables.{actions_are, counters_are}
use Rattle.lower_laws_block_rules.specs.Tables.{text_of}
use Rattle.lower_laws_block_rules.proofs.Names.{map_has, once_has}
use Rattle.lower_laws_block_rules.proofs.Tables.{table_same}
use Rattle.lower_laws_declared.specs.Objects.{object_called, objects_by_number}
use Rattle.lower_laws_declared.proofs.Objects.{objects_count, object_name_at}
use Rattle.lower_laws_translated.specs.Given.{IsGiven}
use Rattle.lower_laws_translated.specs.Translated.{applied_in, number_in, counter_in, counter_called, table_called, is_of_egress, is_in_egress, stands_in, tables_in, copies_in, table_written, action_written, rule_in, locals_in, plan, pipeline_words, no_table}
use Rattle.lower_laws_translated.proofs.Applied.{pipeline_applies}
use Rattle.lower_laws_translated.proofs.Complete.{pipeline_finds}
use Rattle.lower_laws_translated.proofs.Copies.{IsOf, IsLineOf, line_of}
use Rattle.lower_laws_translated.proofs.Listed.{same_bit, kept_true}
use Rattle.lower_laws_translated.proofs.Locals.{copy_numbered, number_is, each_of, action_is}
use Rattle.lower_laws_translated.proofs.Acts.{p, b, control, inner, scope}
use Rattle.lower_laws_translated.proofs.ActionsKept.{Placed}
use Rattle.lower_laws_translated.proofs.Standing.{has_kept, found}
use Rattle.lower_laws_translated.proofs.TablesKept.{parted, direct_of, first_has, slice_within, got_or}

contains : {X : Type 0} (xs : List X) (x : X) → Has xs x → Contains xs x
contains [] x is = absurd is
contains (y ∷ ys) x (inl e) = (0, omega arith, e)
contains (y ∷ ys) x (inr more) = let c = contains ys x more in (suc c.0, omega (arith, c.1), c.2)

-- a name that stands once is found at its place

at_its_place : (before names : List Name) (k : ℕ) (n : Name) → repeats_behind before names ≡ false → slice_get names k ≡ Some n → find_name names n ≡ Some k
at_its_place before [] k n once e = absurd (cc e)
at_its_place before (x ∷ xs) zero n once e =
    next_place [] (bytes_eq n) x xs
    ∙ ap (λ (q : Bool). cond q (Some 0) (option_map (λ (k : ℕ). suc k) (position (bytes_eq n) xs))) ((bytes_eq-Decides n x).1 (sym (the_same e)))
  where
    the_same : Some x ≡ Some n → x ≡ n
    the_same e = cc e
at_its_place before (x ∷ xs) (suc k) n once e =
    let later = (neither (has_name before x) (repeats_behind (before ++ x ∷ []) xs) once).1 in
    next_place [] (bytes_eq n) x xs
    ∙ ap (λ (q : Bool). cond q (Some 0) (option_map (λ (k : ℕ). suc k) (position (bytes_eq n) xs)))
    (other n x (λ same. not_behind (before ++ x ∷ []) xs n later (subst (Has (before ++ x ∷ [])) (sym same) (has_right before (x ∷ []) x (inl refl))) (has_at xs k n e)))
    ∙ ap (option_map (λ (k : ℕ). suc k)) (at_its_place (before ++ x ∷ []) xs k n later e)

-- a copy that counts is that of the first line of its table and action

turned_bits : (a b : ℕ) → nat_eq a b ≡ nat_eq b a
turned_bits a b = by (nat_eq a b) (nat_eq b a) refl refl where
  by : (q r : Bool) → nat_eq a b ≡ q → nat_eq b a ≡ r → q ≡ r
  by true true e f = refl
  by false false e f = refl
  by true false e f = absurd (grind (arith, nat_tests, e, f))
  by false true e f = absurd (grind (arith, nat_tests, e, f))

turned_names : (a b : Name) → bytes_eq a b ≡ bytes_eq b a
turned_names a b = by (bytes_eq a b) (bytes_eq b a) refl refl where
  by : (q r : Bool) → bytes_eq a b ≡ q → bytes_eq b a ≡ r → q ≡ r
  by true true e f = refl
  by false false e f = refl
  by true false e f = absurd (cc (sym f ∙ (bytes_eq-Decides b a).1 (sym ((bytes_eq-Decides a b).0 e))))
  by false true e f = absurd (cc (sym e ∙ (bytes_eq-Decides a b).1 (sym ((bytes_eq-Decides b a).0 f))))

passed : (l : Listing) (before rest : List Listing) → list_any (is_same_table l) before ≡ false → outer_in (before ++ rest) l.table l.action ≡ outer_in rest l.table l.action
passed l [] rest none = refl
passed l (m ∷ before) rest none =
    let s = neither (is_same_table l m) (list_any (is_same_table l) before) none in
    ap (λ (q : Bool). cond q (Some (listing_outer m)) (outer_in (before ++ rest) l.table l.action)) (ap₂ (λ (q r : Bool). q && r) (turned_bits m.table l.table) (turned_names m.action l.action) ∙ s.0)
    ∙ passed l before rest s.1

first_here : (l : Listing) (rest : List Listing) → l.is_counted ≡ true → outer_in (l ∷ rest) l.table l.action ≡ Some (copy l.number l.action)
first_here l rest counts =
    ap (λ (q : Bool). cond q (Some (listing_outer l)) (outer_in rest l.table l.action)) (ap₂ (λ (q r : Bool). q && r) (itself l.table) ((bytes_eq-Decides l.action l.action).1 refl))
    ∙ ap (λ (q : Bool). Some (cond q (copy l.number l.action) (declared sort.Action l.action))) counts
  where
    itself : (n : ℕ) → nat_eq n n ≡ true
    itself n = by (nat_eq n n) refl where
      by : (q : Bool) → nat_eq n n ≡ q → q ≡ true
      by true e = refl
      by false e = absurd (grind (arith, nat_tests, e))

record IsCounted (ls : List Listing) (c : Copy) : Type 0 where
  pub line : Listing
  pub has : Has ls line
  pub counts : line.is_counted ≡ true
  pub is : c ≡ counted_copy line
  pub first : outer_in ls line.table line.action ≡ Some (copy line.number line.action)

counts_first : (before ls : List Listing) (c : Copy) → Has (copies_behind before ls) c → (c.table ≡ None) ⊎ IsCounted (before ++ ls) c
counts_first before [] c h = absurd h
counts_first before (l ∷ ls) c h =
    apart (has_apart (one_if q (plain_copy l)) (one_if r (counted_copy l) ++ copies_behind (before ++ l ∷ []) ls) c h)
    (λ h. subst (λ (all : List Listing). (c.table ≡ None) ⊎ IsCounted all c) (append_assoc before (l ∷ []) ls) (counts_first (before ++ l ∷ []) ls c h))
  where
    q : Bool
    q = not (list_any (is_same_pipeline l) before)

    r : Bool
    r = l.is_counted && not (list_any (is_same_table l) before)

    one_has : (t : Bool) (d : Copy) → Has (one_if t d) c → (t ≡ true) × (d ≡ c)
    one_has true d (inl same) = (refl, same)
    one_has true d (inr h) = absurd h
    one_has false d h = absurd h

    both : (s t : Bool) → (s && not t) ≡ true → (s ≡ true) × (t ≡ false)
    both true false e = (refl, refl)
    both true true e = absurd (cc e)
    both false t e = absurd (cc e)

    apart : Has (one_if q (plain_copy l)) c ⊎ Has (one_if r (counted_copy l) ++ copies_behind (before ++ l ∷ []) ls) c → (Has (copies_behind (before ++ l ∷ []) ls) c → (c.table ≡ None) ⊎ IsCounted (before ++ l ∷ ls) c) → (c.table ≡ None) ⊎ IsCounted (before ++ l ∷ ls) c
    apart (inl h) more = inl (ap (λ (d : Copy). d.table) (sym (one_has q (plain_copy l) h).1))
    apart (inr h) more = at (has_apart (one_if r (counted_copy l)) (copies_behind (before ++ l ∷ []) ls) c h) where
      at : Has (one_if r (counted_copy l)) c ⊎ Has (copies_behind (before ++ l ∷ []) ls) c → (c.table ≡ None) ⊎ IsCounted (before ++ l ∷ ls) c
      at (inl h) =
          let o = one_has r (counted_copy l) h in
          let s = both l.is_counted (list_any (is_same_table l) before) o.0 in
          inr (record { line = l; has = has_right before (l ∷ ls) l (inl refl); counts = s.0; is = sym o.1; first = passed l before (l ∷ ls) s.1 ∙ first_here l ls s.0 })
      at (inr h) = more h

-- what is counted by one of a list is counted by all

any_behind : (q : Known → Bool) (xs ys : List Known) → list_any q ys ≡ true → list_any q (xs ++ ys) ≡ true
any_behind q [] ys e = e
any_behind q (x ∷ xs) ys e = by (q x) (any_behind q xs ys e) where
  by : (c : Bool) → list_any q (xs ++ ys) ≡ true → (c || list_any q (xs ++ ys)) ≡ true
  by true f = refl
  by false f = f

any_front : (q : Known → Bool) (xs ys : List Known) → list_any q xs ≡ true → list_any q (xs ++ ys) ≡ true
any_front q [] ys e = absurd (cc e)
any_front q (x ∷ xs) ys e = by (q x) e (any_front q xs ys) where
  by : (c : Bool) → (c || list_any q xs) ≡ true → (list_any q xs ≡ true → list_any q (xs ++ ys) ≡ true) → (c || list_any q (xs ++ ys)) ≡ true
  by true f more = refl
  by false f more = more f

unkept : {X : Type 0} (q : X → Bool) (xs : List X) (x : X) → Has (filter q xs) x → Has xs x
unkept q [] x h = absurd h
unkept {X} q (y ∷ xs) x h = by (q y) h (unkept q xs x) where
  by : (c : Bool) → Has (cond c (y ∷ filter q xs) (filter q xs)) x → (Has (filter q xs) x → Has xs x) → Has (y ∷ xs) x
  by true (inl same) more = inl same
  by true (inr h) more = inr (more h)
  by false h more = inr (more h)

same_side : (e q : Bool) → q ≡ e → is_same_bit e q ≡ true
same_side true q is = is
same_side false true is = absurd (cc is)
same_side false false is = refl

-- two names of one number are one
one_name : (names : List Name) (n m : Name) (k : ℕ) → find_name names n ≡ Some k → find_name names m ≡ Some k → n ≡ m
one_name names n m k e f =
    (bytes_eq-Decides n (get_or names k [])).0 (position-Some (bytes_eq n) names k [] e).1
    ∙ sym ((bytes_eq-Decides m (get_or names k [])).0 (position-Some (bytes_eq m) names k [] f).1)

-- the table of a line

module _ (ds : List Decl) (x : Expanded) (given : IsGiven ds x) (l : Listing) (has : Has (listings ds (is_in_egress ds x)) l) where
  abbrev pub its : IsLineOf ds (is_in_egress ds x) 0 (tables ds) l
  its = line_of ds (is_in_egress ds x) 0 0 (tables ds) l has

  abbrev pub its_name : Name
  its_name = its.of.name

  at_place : l.table ≡ its.place
  at_place = omega (arith, its.table_is)

  named_there : slice_get (names_in sort.Table ds) its.place ≡ Some its_name
  named_there = ap (λ (l : List Name). slice_get l its.place) (table_names ds) ∙ (slice_get-map (λ (t : Table). t.name) (tables ds) its.place ∙ ap (option_map (λ (t : Table). t.name)) its.there)

  its_number : table_number ds its_name ≡ Some its.place
  its_number = at_its_place [] (names_in sort.Table ds) its.place its_name (sort_once ds (none_twice ds given.none) sort.Table) named_there

  its_table : table_of ds its_name ≡ Some its.of
  its_table = ap (option_and_then (slice_get (tables ds))) its_number ∙ its.there

  called : table_called ds l.table ≡ its_name
  called = ap (table_called ds) at_place ∙ ap (λ (o : Option Table). option_map_or (λ (t : Table). t.name) o []) its.there

  its_side : is_of_egress ds x its_name ≡ l.in_egress
  its_side = ap (is_of_egress ds x) (sym called) ∙ sym its.in_egress

  table_has : Has (names_in sort.Table ds) its_name
  table_has = has_at (names_in sort.Table ds) its.place its_name named_there

  -- the pipeline of the table, by what the expanded statements apply

  not_applied : (pipeline : Name) (s : Stmt) → PipelineExpands ds pipeline s → has_name (applied_in s) its_name ≡ false → IsApplied ds pipeline its.place → ⊥
  not_applied pipeline s expands none is =
      let f = pipeline_finds ds pipeline s expands its.place is in
      let same : f.0 ≡ its_name = one_name (names_in sort.Table ds) f.0 its_name its.place f.1 its_number in
      absurd (cc (sym (has_so (applied_in s) its_name (subst (Has (applied_in s)) same f.2)) ∙ none))

  applied : (pipeline : Name) (s : Stmt) → PipelineExpands ds pipeline s → has_name (applied_in s) its_name ≡ true → IsApplied ds pipeline its.place
  applied pipeline s expands is = pipeline_applies ds its_name its.place its_number pipeline s expands (found (applied_in s) its_name is)

  counts_as_ingress : is_of_egress ds x its_name ≡ false → CountsAsIngress ds its.place
  counts_as_ingress none = by (has_name (applied_in x.ingress) its_name) refl where
    by : (q : Bool) → has_name (applied_in x.ingress) its_name ≡ q → CountsAsIngress ds its.place
    by true is = inl (applied ingress_name x.ingress given.expanded.to_ingress is)
    by false is = inr (not_applied ingress_name x.ingress given.expanded.to_ingress is, not_applied egress_name x.egress given.expanded.to_egress none)

  listed_there : (action : Name) (number : ℕ) → Has (listed_in its.of) action → action_number ds action ≡ Some number → Contains (filter_map (action_number ds) (listed_by ds its.place)) number
  listed_there action number listed is =
      subst (λ (o : Option Table). Contains (filter_map (action_number ds) (option_map_or listed_in o [])) number) (sym its.there)
      (contains (filter_map (action_number ds) (listed_in its.of)) number (has_picked (action_number ds) (listed_in its.of) action number listed is))

  stands_by : (action : Name) (number : ℕ) → Has (listed_in its.of) action → action_number ds action ≡ Some number → (q : Bool) → is_of_egress ds x its_name ≡ q → StandsIn ds q number
  stands_by action number listed is true side = (its.place, applied egress_name x.egress given.expanded.to_egress side, listed_there action number listed is)
  stands_by action number listed is false side = (its.place, counts_as_ingress side, listed_there action number listed is)

  -- a direct counter under its new name, by its number
  counter_named : (j : ℕ) → direct_counter ds its_name ≡ Some j → counter_called ds its_name ≡ Some (object_at (objects_by_number ds) j).called
  counter_named j is = by (first_name (filter_map (counts_entries_of its_name) ds)) refl is where
    by : (o : Option Name) → first_name (filter_map (counts_entries_of its_name) ds) ≡ o → option_map (object_number ds) o ≡ Some j → option_map (new_name ds sort.Object) o ≡ Some (object_at (objects_by_number ds) j).called
    by None e f = absurd (cc f)
    by (Some n) e f =
        let d = picked_has (counts_entries_of its_name) ds n (first_has (filter_map (counts_entries_of its_name) ds) n e) in
        let told = direct_of its_name d.0 n d.2 in
        let names = in_order (names_in sort.Object ds) in
        let k = has_found names n (in_order_has (names_in sort.Object ds) n (has_picked (name_in sort.Object) ds d.0 n d.1 told.0)) in
        let lt : k.0 < length (objects_by_number ds) = omega (arith, slice_within names k.0 n k.2, objects_count ds) in
        let at : object_at (objects_by_number ds) k.0 ≡ object_called ds n = object_name_at ds k.0 lt ∙ ap (object_called ds) (got_or names k.0 n k.2) in
        let numbered : object_number ds n ≡ k.0 = ap (λ (o : Option ℕ). unwrap_or o (length names)) k.1 in
        ap (λ (o : ObjectName). Some o.called) (sym at) ∙ ap (λ (i : ℕ). Some (object_at (objects_by_number ds) i).called) (sym numbered ∙ inside (object_number ds n) j f)
      where
        inside : (i j : ℕ) → Some i ≡ Some j → i ≡ j
        inside i j g = cc g

  -- what the table calls the action of the line, where that is the first line of the action
  text_is : (o : Outer) → outer_in (listings ds (is_in_egress ds x)) l.table l.action ≡ Some o → copy_text ((plan ds x).copy its_name) l.action ≡ outer_name ds o
  text_is o first =
      ap (λ (k : ℕ). unwrap_or (option_map (outer_name ds) (outer_in (listings ds (is_in_egress ds x)) k l.action)) []) (ap (λ (o : Option ℕ). unwrap_or o (length (tables ds))) its_number ∙ sym at_place)
      ∙ ap (λ (o : Option Outer). unwrap_or (option_map (outer_name ds) o) []) first

  written : table_written ds x its_name ≡ table16 (text_of (pipeline_words ds) ds ((plan ds x).copy its_name) ((plan ds x).table its_name) (counter_called ds its_name) its.of)
  written =
      ap (λ (o : Option Table). table_text (pipeline_words ds) ds ((plan ds x).copy its_name) ((plan ds x).table its_name) (counter_called ds its_name) (unwrap_or o (no_table its_name))) its_table
      ∙ table_same (pipeline_words ds) ds ((plan ds x).copy its_name) its.of ((plan ds x).table its_name) (counter_called ds its_name)

  its_sort : (names : List Known) (text : Name) → counter_called ds its_name ≡ Some text → (known_local names (local.Table (table_written ds x its_name))).sort ≡ a_table (map declared_action (map (copy_text ((plan ds x).copy its_name)) (each_once (listed_in its.of)))) (Some text)
  its_sort names text counter =
      let t = text_of (pipeline_words ds) ds ((plan ds x).copy its_name) ((plan ds x).table its_name) (counter_called ds its_name) its.of in
      ap (λ (u : Table16). (known_local names (local.Table u)).sort) written ∙ ap₂ (λ xs o. a_table xs o) (actions_are t) (counters_are t) ∙ ap (λ (o : Option Name). a_table (map declared_action t.actions) o) counter

module _ (ds : List Decl) (x : Expanded) (given : IsGiven ds x) (under : Rule14) (entries : Entries) (e : Bool) (text : Name) (body : Stmt) (which : Block) (owners : owners_of which ≡ of_headers ∷ of_metadata ∷ of_standard ∷ []) (positions : (b ds x given under entries e text body which owners).scope.positions ≡ block_place e) (a : Copy) (has : Has (copies_in ds x e) a) where
  of : IsOf (listings ds (is_in_egress ds x)) a
  of = each_of ds given.none given.short x under e a has

  of_side : a.in_egress ≡ e
  of_side = same_bit e a.in_egress (kept_true (in_pipeline e) (copies ds (is_in_egress ds x)) a has)

  side_is : (l : Listing) → (a ≡ plain_copy l) ⊎ ((l.is_counted ≡ true) × (a ≡ counted_copy l)) → l.in_egress ≡ e
  side_is l (inl same) = ap (λ (d : Copy). d.in_egress) (sym same) ∙ of_side
  side_is l (inr (counts, same)) = ap (λ (d : Copy). d.in_egress) (sym same) ∙ of_side

  number_found : action_number ds a.action ≡ Some (number_in ds a)
  number_found =
      let numbered = copy_numbered ds given.none given.short x under a of in
      numbered.found ∙ ap Some (sym (number_is ds given.none given.short x under a numbered))

  stands : StandsIn ds e (number_in ds a)
  stands =
      stands_by ds x given of.line of.has a.action (number_in ds a) (subst (Has (listed_in (its ds x given of.line of.has).of)) (sym (action_is (listings ds (is_in_egress ds x)) a of)) (its ds x given of.line of.has).listed) number_found e
      (its_side ds x given of.line of.has ∙ side_is of.line of.is)

  abbrev names : List Known
  names = top_names (decls_of (p ds x given under entries e text body which owners))

  abbrev written_name : Name
  written_name = (action_written ds x under a).name

  -- a direct counter that a copy counts
  counter_counts : (j : ℕ) → counter_in ds a ≡ Some j → list_any (is_counted_by (object_at (objects_by_number ds) j).called written_name) (action_scope (b ds x given under entries e text body which owners).scope (action_written ds x under a)).names ≡ true
  counter_counts j is = by (counts_first [] (listings ds (is_in_egress ds x)) a (unkept (in_pipeline e) (copies ds (is_in_egress ds x)) a has)) where
    q : Known → Bool
    q = is_counted_by (object_at (objects_by_number ds) j).called written_name

    locals : List Local
    locals = (control ds x given under entries e text body which owners).locals

    here : (l : Listing) (has_l : Has (listings ds (is_in_egress ds x)) l) → l.in_egress ≡ e → Has locals (local.Table (table_written ds x (its_name ds x given l has_l)))
    here l has_l side =
        let n = its_name ds x given l has_l in
        has_right (old_locals (rule_in ds x under e)) (locals_in ds x under e) (local.Table (table_written ds x n))
        (has_right (map (λ (c : Copy). local.Action (action_written ds x under c)) (copies_in ds x e)) (map (λ (n : Name). local.Table (table_written ds x n)) (tables_in ds x e)) (local.Table (table_written ds x n))
        (has_mapped (λ (n : Name). local.Table (table_written ds x n)) (tables_in ds x e) n (has_kept (stands_in ds x e) (names_in sort.Table ds) n (table_has ds x given l has_l) (same_side e (is_of_egress ds x n) (its_side ds x given l has_l ∙ side)))))

    counts_there : (c : IsCounted (listings ds (is_in_egress ds x)) a) → list_any q (map (known_local names) locals) ≡ true
    counts_there c =
        let l = c.line in
        let i = its ds x given l c.has in
        let n = its_name ds x given l c.has in
        let counter : direct_counter ds n ≡ Some j = ap (direct_counter ds) (sym (called ds x given l c.has)) ∙ ap (λ (o : Option ℕ). option_and_then (λ (k : ℕ). direct_counter ds (table_called ds k)) o) (sym (ap (λ (d : Copy). d.table) c.is)) ∙ is in
        let k = known_local names (local.Table (table_written ds x n)) in
        let t = text_of (pipeline_words ds) ds ((plan ds x).copy n) ((plan ds x).table n) (counter_called ds n) i.of in
        let called_so : copy_text ((plan ds x).copy n) l.action ≡ written_name = text_is ds x given l c.has (copy l.number l.action) c.first ∙ ap (λ (d : Copy). outer_name ds d.outer) (sym c.is) in
        let among : has_name t.actions written_name ≡ true = subst (λ (z : Name). has_name t.actions z ≡ true) called_so (map_has (copy_text ((plan ds x).copy n)) (each_once (listed_in i.of)) l.action (once_has (listed_in i.of) l.action (has_so (listed_in i.of) l.action i.listed))) in
        let sort_is = its_sort ds x given l c.has names (object_at (objects_by_number ds) j).called (counter_named ds x given l c.has j counter) in
        let where_it_is = parted (map (known_local names) locals) k (has_mapped (known_local names) locals (local.Table (table_written ds x n)) (here l c.has (side_is l (inr (c.counts, c.is))))) in
        subst (λ (ks : List Known). list_any q ks ≡ true) (sym where_it_is.2) (counted (object_at (objects_by_number ds) j).called written_name where_it_is.0 where_it_is.1 k t sort_is among)

    by : (a.table ≡ None) ⊎ IsCounted (listings ds (is_in_egress ds x)) a → list_any q (action_scope (b ds x given under entries e text body which owners).scope (action_written ds x under a)).names ≡ true
    by (inl none) = absurd (cc (sym (ap (option_and_then (λ (k : ℕ). direct_counter ds (table_called ds k))) none) ∙ is))
    by (inr c) =
        let top = (b ds x given under entries e text body which owners).scope.names in
        any_behind q (map (known_parameter top) (action_written ds x under a).parameters) top
        (any_front q (map (known_parameter names) pipeline_parameters ++ map (known_local names) locals) names (any_behind q (map (known_parameter names) pipeline_parameters) (map (known_local names) locals) (counts_there c)))

  writes : (o : Owner) → HasRoot (inner ds x given under entries e text body which owners a has).layout o → (inner ds x given under entries e text body which owners a has).can_write o ≡ true
  writes of_headers is = refl
  writes of_metadata is = refl
  writes of_standard is = refl
  writes of_variables is = absurd is
  writes of_inner is = absurd is
  writes of_nothing is = absurd is

  pub copy_placed : Placed ds x given under entries e text body which owners a has
  copy_placed = record {
    stands = stands;
    positions = positions;
    sees = (scope ds x given under entries e text body which owners a has).sees;
    writes = writes;
    part = refl;
    counted = counter_counts;
  }
