-- Each copy of an action does what the action does.
use Rattle.std.proofs.Common.{◌≡◌, ◌⊎◌, inl, inr, ℕ, suc, ◌+◌, ◌-◌, ◌<◌, Bool, true, false, cond, Option, Some, None, List, [], ◌∷◌, ◌++◌, length, map, get_or, refl, sym, ap, ◌∙◌, subst, arith}
use Rattle.std.specs.Prelude.{is_some, filter_map, option_and_then, ◌||◌}
use Rattle.std.specs.List.{list_any}
use Rattle.std.specs.Str.{bytes_eq}
use Rattle.std.proofs.lemmas.Slice.Eq.{bytes_eq-Decides}
use Rattle.std.proofs.lemmas.List.{length-map}
use Rattle.std.proofs.lemmas.List.Quantifiers.{position-Some}
use Rattle.match_core.specs.declared.entries.Entries.{Entries}
use Rattle.p414_syntax.specs.declared.actions.Action.{Action}
use Rattle.p414_syntax.specs.declared.syntax.Decl.{Decl}
use Rattle.p414_syntax.specs.declared.syntax.Decl.TheVariants as decl
use Rattle.p414_syntax.specs.declared.syntax.Rule14.{Rule14}
use Rattle.p414_syntax.specs.declared.syntax.Rule14.TheVariants as rule
use Rattle.p414_syntax.specs.declared.syntax.Sort.TheVariants as sort
use Rattle.p414_syntax.specs.Tree.{Stmt}
use Rattle.p414_syntax.specs.Names.{Name, names_in, is_declared}
use Rattle.p414_syntax.specs.Arguments.{actions}
use Rattle.p414_sem.specs.Controls.{Setting as Setting14}
use Rattle.p414_sem.specs.Expanded.{Expanded}
use Rattle.p414_sem.specs.Operations.{in_order}
use Rattle.p414_sem.specs.Signatures.{direct_counter, parameter_widths}
use Rattle.p416_syntax.specs.declared.controls.Action16.{Action16}
use Rattle.p416_syntax.specs.declared.controls.Control16.{Control16}
use Rattle.p416_syntax.specs.declared.controls.Local.TheVariants as local
use Rattle.p416_syntax.specs.Declarations.{action_in}
use Rattle.v1_core.specs.declared.block.Block.{Block}
use Rattle.v1_core.specs.Frames.{of_headers, of_metadata, of_standard}
use Rattle.v1_core.specs.Surroundings.{Surroundings, action_called, action_named}
use Rattle.v1_core.specs.Blocks.{act, act_at, owners_of, around_control, control_world}
use Rattle.agreement_of_meanings.specs.Shown.{NamedField}
use Rattle.lower_laws_names.specs.NewNames.{new_name}
use Rattle.lower_laws_names.specs.Reaches.{IsNumbered}
use Rattle.lower_laws_names.proofs.OneSort.{is_numbered}
use Rattle.lower_laws_names.specs.Copies.{Copy, listings}
use Rattle.lower_laws_base.specs.Context.{Lowering, Copies, Sees, ObjectName, object_at}
use Rattle.lower_laws_base.specs.Alike.{ActsAlike}
use Rattle.lower_laws_program.specs.Program.{Parts}
use Rattle.lower_laws_program.specs.Scopes.{block_lowering}
use Rattle.lower_laws_program.specs.Fits.{pipeline_block, setting_of}
use Rattle.lower_laws_states.specs.Expansions.{Has}
use Rattle.lower_laws_states.proofs.Members.{has_mapped, mapped_has}
use Rattle.lower_laws_states.proofs.Filling.{has_found}
use Rattle.lower_laws_premises.specs.Scope.{IsCounter, InScope}
use Rattle.lower_laws_premises.proofs.Controls.{copies}
use Rattle.lower_laws_premises.proofs.Rules.{has_so}
use Rattle.lower_laws_premises.proofs.Whole.{action_acts}
use Rattle.lower_laws_declared.specs.Layout.{program_layout, type_words}
use Rattle.lower_laws_declared.specs.Objects.{objects_by_number}
use Rattle.lower_laws_declared.specs.Controls.{DeclaresLocals, pipeline_things}
use Rattle.lower_laws_declared.proofs.Objects.{object_name_at}
use Rattle.lower_laws_declared.proofs.Numbers.{object_there}
use Rattle.lower_laws_declared.proofs.Listed.{pipeline_declares}
use Rattle.lower_laws_declared.proofs.Whole.{pipeline_sees}
use Rattle.lower_laws_declared.proofs.Tables.{old_actions}
use Rattle.lower_laws_translated.specs.Given.{IsGiven}
use Rattle.lower_laws_translated.specs.Translated.{spare_name, new_parameters_of, table_called, number_in, counter_in, is_in_egress, tables_in, copies_in, table_written, action_written, copy_needs, rule_in, locals_in, pipeline_written, translated}
use Rattle.lower_laws_translated.proofs.Scope.{action_sees, action_spares, action_parameters}
use Rattle.lower_laws_translated.proofs.Parameters.{parameters_wide, parameters_inner}
use Rattle.lower_laws_translated.proofs.Copies.{IsOf}
use Rattle.lower_laws_translated.proofs.Locals.{copy_numbered, number_is, each_of, tables_there, locals_are}
use Rattle.lower_laws_translated.proofs.Parts.{parts_are}
use Rattle.lower_laws_translated.proofs.Shown.{within, within_shows}

-- actions by name

action_names : (ds : List Decl) → names_in sort.Action ds ≡ map (λ (a : Action). a.name) (actions ds)
action_names [] = refl
action_names (decl.Action x ∷ ds) = ap (λ (l : List Name). x.name ∷ l) (action_names ds)
action_names (_ ∷ ds) = action_names ds

pub number_within : (ds : List Decl) (name : Name) (n : IsNumbered ds sort.Action name) → n.number < length (actions ds)
number_within ds name n =
    let at = position-Some (bytes_eq name) (names_in sort.Action ds) n.number [] n.found in
    omega (arith, at.0, ap length (action_names ds), length-map (actions ds) (λ (a : Action). a.name))

-- an action that is found by a name is one of these, and has it
called_has : (zs : List Action16) (text : Name) (a : Action16) → action_called zs text ≡ Some a → Has zs a × (a.name ≡ text)
called_has [] text a e = absurd (cc e)
called_has (b ∷ zs) text a e = by (bytes_eq b.name text) refl e (λ f. called_has zs text a f) where
  by : (c : Bool) → bytes_eq b.name text ≡ c → cond c (Some b) (action_called zs text) ≡ Some a → (action_called zs text ≡ Some a → Has zs a × (a.name ≡ text)) → Has (b ∷ zs) a × (a.name ≡ text)
  by true same e more = let is : b ≡ a = cc e in (inl is, ap (λ (z : Action16). z.name) (sym is) ∙ (bytes_eq-Decides b.name text).0 same)
  by false other e more = let m = more e in (inr m.0, m.1)

some_true : {X : Type 0} (q : X → Bool) (xs : List X) (x : X) → Has xs x → q x ≡ true → list_any q xs ≡ true
some_true q [] x h e = absurd h
some_true q (y ∷ xs) x (inl same) e = ap (λ b. b || list_any q xs) (ap q same ∙ e)
some_true q (y ∷ xs) x (inr h) e = by (q y) (some_true q xs x h e) where
  by : (b : Bool) → list_any q xs ≡ true → (b || list_any q xs) ≡ true
  by true f = refl
  by false f = f

module _ (ds : List Decl) (x : Expanded) (given : IsGiven ds x) (under : Rule14) (entries : Entries) (e : Bool) (text : Name) (body : Stmt) (which : Block) (owners : owners_of which ≡ of_headers ∷ of_metadata ∷ of_standard ∷ []) where
  abbrev pub p : Parts
  p = translated ds x under

  abbrev pub control : Control16
  control = pipeline_written ds x under e text body

  abbrev pub b : Surroundings
  b = around_control (setting_of p entries) which control

  abbrev pub c14 : Setting14
  c14 = record { decls = ds; expanded = x; rule = under; entries = entries }

  abbrev pub outer : Lowering
  outer = block_lowering (program_layout ds entries) (type_words ds x) (pipeline_block (rule_in ds x under e) (objects_by_number ds)) (control_world b)

  pub tables_declared : (n : Name) → Has (tables_in ds x e) n → is_declared sort.Table ds n ≡ true
  tables_declared n h = ap is_some (has_found (names_in sort.Table ds) n (tables_there ds given.none given.short x under e n h)).1

  pub own : DeclaresLocals ds (table_written ds x) (pipeline_things ds (is_in_egress ds x) e (tables_in ds x e)) (locals_in ds x under e)
  own = pipeline_declares ds given.none given.short (is_in_egress ds x) e (tables_in ds x e) tables_declared (table_written ds x) (locals_in ds x under e) (locals_are ds given.none given.short x under e)

  pub outer_sees : Sees outer b.scope []
  outer_sees = pipeline_sees ds given.none given.short x given.expanded p (parts_are ds x under) (table_written ds x) _ (locals_in ds x under e) own entries which control (rule_in ds x under e) owners refl refl

  object_named : (j : ℕ) → j < length (objects_by_number ds) → (n : Name) × IsNumbered ds sort.Object n × ((object_at (objects_by_number ds) j).called ≡ new_name ds sort.Object n)
  object_named j lt =
      let n : Name = get_or (in_order (names_in sort.Object ds)) j [] in
      (n, is_numbered ds sort.Object n given.short.few (has_so (names_in sort.Object ds) n (object_there ds given.none given.short x p (parts_are ds x under) j lt)), ap (λ (o : ObjectName). o.called) (object_name_at ds j lt))

  -- the actions of the control are its copies
  actions_written : filter_map action_in control.locals ≡ map (λ (c : Copy). action_written ds x under c) (copies_in ds x e)
  actions_written = old_actions (rule_in ds x under e) (locals_in ds x under e) ∙ by (copies_in ds x e) (tables_in ds x e) where
    by : (cs : List Copy) (ns : List Name) → filter_map action_in (map (λ (c : Copy). local.Action (action_written ds x under c)) cs ++ map (λ (n : Name). local.Table (table_written ds x n)) ns) ≡ map (λ (c : Copy). action_written ds x under c) cs
    by (c ∷ cs) ns = ap (λ (l : List Action16). action_written ds x under c ∷ l) (by cs ns)
    by [] (n ∷ ns) = by [] ns
    by [] [] = refl

  module _ (c : Copy) (has : Has (copies_in ds x e) c) where
    of : IsOf (listings ds (is_in_egress ds x)) c
    of = each_of ds given.none given.short x under e c has

    numbered : IsNumbered ds sort.Action c.action
    numbered = copy_numbered ds given.none given.short x under c of

    abbrev pub number : ℕ
    number = number_in ds c

    pub lt : number < length (actions ds)
    lt = subst (λ k. k < length (actions ds)) (sym (number_is ds given.none given.short x under c numbered)) (number_within ds c.action numbered)

    abbrev pub ps : List NamedField
    ps = new_parameters_of ds number

    abbrev pub calls : ℕ
    calls = length (filter_map action_in control.locals) - 1

    counted : length (filter_map action_in control.locals) ≡ suc calls
    counted = omega (arith, some (filter_map action_in control.locals) (action_written ds x under c) (subst (λ (l : List Action16). Has l (action_written ds x under c)) (sym actions_written) (has_mapped (λ (d : Copy). action_written ds x under d) (copies_in ds x e) c has))) where
      some : (l : List Action16) (a : Action16) → Has l a → 0 < length l
      some [] a h = absurd h
      some (a ∷ l) d h = omega arith

    abbrev pub inner : Lowering
    inner = within ds given.none given.short x given.expanded entries (rule_in ds x under e) ps b calls

    -- where its primitives need copies, the control has them
    copied : copy_needs ds x under c ≡ true → Copies inner
    copied needs =
        subst (λ (r : Rule14). Copies (within ds given.none given.short x given.expanded entries r ps b calls)) (sym (ap (λ b. cond b rule.Parallel rule.Sequential) (some_true (copy_needs ds x under) (copies_in ds x e) c has needs)))
        (copies (program_layout ds entries) (type_words ds x) (objects_by_number ds) spare_name ps b calls)

    counts : IsCounter ds (counter_in ds c)
    counts = by c.table where
      by : (o : Option ℕ) → IsCounter ds (option_and_then (λ n. direct_counter ds (table_called ds n)) o)
      by None = inl refl
      by (Some n) = inr (table_called ds n, refl)

    pub scope : InScope inner c14 b calls (counter_in ds c) number (action_written ds x under c)
    scope = record {
      world = refl;
      sees = action_sees ds (program_layout ds entries) (type_words ds x) (rule_in ds x under e) (objects_by_number ds) ps b calls object_named (parameters_inner ds number given.none given.few_parameters) outer_sees (action_written ds x under c) refl;
      spares = action_spares ds (program_layout ds entries) (type_words ds x) (rule_in ds x under e) (objects_by_number ds) ps b calls object_named (parameters_inner ds number given.none given.few_parameters) outer_sees (action_written ds x under c) refl;
      parameters = action_parameters ds (program_layout ds entries) (type_words ds x) (rule_in ds x under e) (objects_by_number ds) ps b calls object_named (parameters_inner ds number given.none given.few_parameters) outer_sees (action_written ds x under c) refl;
      widths = parameters_wide ds number;
      copies = copied;
      counter = counts;
      body = refl;
    }

    pub copy_acts : ActsAlike outer.layout c14 b (act b) (counter_in ds c) number (parameter_widths ds number) (action_written ds x under c)
    copy_acts =
        subst (λ n. ActsAlike outer.layout c14 b (act_at b n) (counter_in ds c) number (parameter_widths ds number) (action_written ds x under c)) (sym counted)
        (action_acts c14 given.none given.spelt given.expanded inner (within_shows ds given.none given.short x given.expanded entries (rule_in ds x under e) ps b calls) b calls (counter_in ds c) number lt (action_written ds x under c) scope)

  -- an action that is found by a name is one of the copies
  pub record IsCopyOf (name : Name) (a : Action16) : Type 0 where
    pub copy : Copy
    pub has : Has (copies_in ds x e) copy
    pub is : a ≡ action_written ds x under copy
    pub called : (action_written ds x under copy).name ≡ name

  pub found_copy : (name : Name) (a : Action16) → action_named b name ≡ Some a → IsCopyOf name a
  found_copy name a found =
      let h = called_has (filter_map action_in control.locals) name a found in
      let m = mapped_has (λ (c : Copy). action_written ds x under c) (copies_in ds x e) a (subst (λ (l : List Action16). Has l a) actions_written h.0) in
      record { copy = m.0; has = m.1; is = sym m.2; called = ap (λ (z : Action16). z.name) m.2 ∙ h.1 }
