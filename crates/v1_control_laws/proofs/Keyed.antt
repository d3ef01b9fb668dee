-- The keys of a table of an accepted program keep the rules on types and sizes, and no stack tells anything in them.
use Rattle.std.proofs.Common.{◌≡◌, Bool, true, false, cond, Some, List, [], ◌∷◌, ◌++◌, map, flat_map, filter_map, refl, subst, bytes_eq}
use Rattle.std.specs.Prelude.{option_to_list}
use Rattle.p416_syntax.specs.declared.controls.TableKey.{TableKey}
use Rattle.p416_syntax.specs.declared.controls.Table16.{Table16}
use Rattle.p416_syntax.specs.declared.controls.Local.{Local}
use Rattle.p416_syntax.specs.declared.controls.Local.TheVariants as local
use Rattle.p416_syntax.specs.declared.controls.Control16.{Control16}
use Rattle.p416_syntax.specs.Properties.{keys_of, actions_of, size_of, counters_of, default_action_of, default_arguments_of}
use Rattle.p416_syntax.specs.Names.{Name}
use Rattle.p416_syntax.specs.Scopes.{Scope, in_key}
use Rattle.p416_syntax.specs.Calls.{table_key}
use Rattle.p416_syntax.specs.Uses.{a_name, some_direct_counter, a_number, a_table_of, uses}
use Rattle.p416_syntax.specs.Declarations.{note_uses, is_exact, key_uses, action_name_uses, defaults_of, table_in, local_uses}
use Rattle.p416_syntax.specs.Breaks.{program_rules, BreaksNone}
use Rattle.v1_core.specs.declared.block.Block.{Block}
use Rattle.v1_core.specs.Surroundings.{Setting, table_called}
use Rattle.v1_core.specs.Blocks.{control_at}
use Rattle.v1_block_laws.specs.Variables.{scope_in_control}
use Rattle.v1_block_laws.specs.Keeping.{Each}
use Rattle.v1_statement_laws.specs.Meeting.{FindNothing}
use Rattle.v1_control_laws.specs.Controls.{rule_tests}
use Rattle.v1_control_laws.proofs.Outside.{outside_parsers}
use Rattle.v1_control_laws.proofs.Meeting.{front, back, locals_pass}
use Rattle.v1_control_laws.specs.Tables.{KeyFits}
use Rattle.v1_control_laws.proofs.Untold.{told}

module _ (c : Setting) (place : Block) (k : Control16) (accepted : BreaksNone c.syntax program_rules) (stands : control_at c.syntax place ≡ Some k) where
  abbrev scope : Scope
  scope = scope_in_control c.syntax k

  key_fits : (x : TableKey) → FindNothing rule_tests (key_uses scope x) → KeyFits scope x
  key_fits x h =
      let own = front rule_tests (uses (record scope { part = in_key }) (table_key (is_exact x)) x.exp) (note_uses x.notes) h in (
        (own.1.1.0, own.1.0),
        told (record scope { part = in_key }) refl (outside_parsers c.syntax place k accepted stands) x.exp (table_key (is_exact x)) tt
            (record { known = own.0; typed = own.1.1.0; placed = own.1.1.1.1.1.1.1.1.0 }),
      )

  each_fits : (xs : List TableKey) → FindNothing rule_tests (flat_map (key_uses scope) xs) → Each (KeyFits scope) xs
  each_fits [] h = tt
  each_fits (x ∷ xs) h = (key_fits x (front rule_tests (key_uses scope x) (flat_map (key_uses scope) xs) h), each_fits xs (back rule_tests (key_uses scope x) (flat_map (key_uses scope) xs) h))

  -- what is judged in a table among what is declared
  pub table_passes : (locals : List Local) (text : Name) (t : Table16) → FindNothing rule_tests (flat_map (local_uses scope) locals) → table_called (filter_map table_in locals) text ≡ Some t → FindNothing rule_tests (local_uses scope (local.Table t))
  table_passes [] text t h is = absurd (cc is)
  table_passes (local.Instance notes i ∷ locals) text t h is = table_passes locals text t (back rule_tests (local_uses scope (local.Instance notes i)) (flat_map (local_uses scope) locals) h) is
  table_passes (local.Var v ∷ locals) text t h is = table_passes locals text t (back rule_tests (local_uses scope (local.Var v)) (flat_map (local_uses scope) locals) h) is
  table_passes (local.Action a ∷ locals) text t h is = table_passes locals text t (back rule_tests (local_uses scope (local.Action a)) (flat_map (local_uses scope) locals) h) is
  table_passes (local.Table x ∷ locals) text t h is = by (bytes_eq x.name text) is (table_passes locals text t (back rule_tests (local_uses scope (local.Table x)) (flat_map (local_uses scope) locals) h)) where
    by : (b : Bool) → cond b (Some x) (table_called (filter_map table_in locals) text) ≡ Some t → (table_called (filter_map table_in locals) text ≡ Some t → FindNothing rule_tests (local_uses scope (local.Table t))) → FindNothing rule_tests (local_uses scope (local.Table t))
    by true e rest =
        let one : x ≡ t = cc e in
        subst (λ (y : Table16). FindNothing rule_tests (local_uses scope (local.Table y))) one (front rule_tests (local_uses scope (local.Table x)) (flat_map (local_uses scope) locals) h)
    by false e rest = rest e

  pub keys_fit : (text : Name) (t : Table16) → table_called (filter_map table_in k.locals) text ≡ Some t → Each (KeyFits scope) (keys_of t.properties)
  keys_fit text t called =
      let h = table_passes k.locals text t (locals_pass c place k accepted stands) called in
      let keys = flat_map (key_uses scope) (keys_of t.properties) in
      let actions = flat_map (action_name_uses scope) (actions_of t.properties) in
      let size = map a_number (option_to_list (size_of t.properties)) in
      let counters = map (a_name scope some_direct_counter) (option_to_list (counters_of t.properties)) in
      let defaults = defaults_of scope (default_action_of t.properties) (default_arguments_of t.properties) in
      let with_keys = note_uses t.notes ++ a_table_of scope t ∷ keys in
      each_fits (keys_of t.properties)
      (back rule_tests (a_table_of scope t ∷ []) keys
      (back rule_tests (note_uses t.notes) (a_table_of scope t ∷ keys)
      (front rule_tests with_keys actions (front rule_tests (with_keys ++ actions) size (front rule_tests (with_keys ++ actions ++ size) counters (front rule_tests (with_keys ++ actions ++ size ++ counters) defaults h))))))
