-- A copy of an action breaks no rule, where it stands in its place.
use Rattle.std.proofs.Common.{◌≡◌, ℕ, Bool, false, Option, Some, None, List, [], ◌∷◌, map, refl, sym, ap, ◌∙◌, subst}
use Rattle.std.specs.Prelude.{slice_get}
use Rattle.std.specs.Option.{option_map_or}
use Rattle.p414_syntax.specs.declared.actions.Action.{Action}
use Rattle.p414_syntax.specs.Arguments.{actions}
use Rattle.agreement_of_meanings.specs.Shown.{NamedField, width_of}
use Rattle.lower_laws_names.proofs.Proved.{members_differ}
use Rattle.lower_laws_rules.specs.Acting.{IsWidth}
use Rattle.lower_laws_states.proofs.Members.{has_at}
use Rattle.lower_laws_premises.proofs.Widths.{parameters_wide}
use Rattle.lower_laws_translated.proofs.Parameters.{names_same, once_in, parameters_wide as parameters_same}
use Rattle.std.specs.List.{AllByRecursion}
use Rattle.match_core.specs.declared.entries.Entries.{Entries}
use Rattle.p414_syntax.specs.declared.syntax.Decl.{Decl}
use Rattle.p414_syntax.specs.declared.syntax.Rule14.{Rule14}
use Rattle.p414_syntax.specs.Tree.{Stmt}
use Rattle.p414_syntax.specs.Names.{Name}
use Rattle.p414_sem.specs.Expanded.{Expanded}
use Rattle.p416_syntax.specs.Names.{repeats}
use Rattle.p416_syntax.specs.Scopes.{Scope}
use Rattle.p416_syntax.specs.Declarations.{action_scope, action_uses}
use Rattle.v1_core.specs.declared.block.Block.{Block}
use Rattle.v1_core.specs.Blocks.{owners_of}
use Rattle.v1_core.specs.Frames.{of_headers, of_metadata, of_standard}
use Rattle.lower_laws_names.specs.Copies.{Copy}
use Rattle.lower_laws_states.specs.Expansions.{Has}
use Rattle.lower_laws_rules.specs.Keeping.{Keeps}
use Rattle.lower_laws_rules.specs.Declared.{FitsWidth, name_of_field}
use Rattle.lower_laws_premises.proofs.Whole.{InPlace, body_kept}
use Rattle.lower_laws_premises.specs.Placed.{block_place}
use Rattle.lower_laws_block_rules.proofs.Actions.{action_here}
use Rattle.lower_laws_translated.specs.Given.{IsGiven}
use Rattle.lower_laws_translated.specs.Translated.{copies_in, action_written, counter_in, rule_in, new_parameters_of, parameters_from}
use Rattle.lower_laws_translated.proofs.Acts.{b, c14, inner, number, ps, calls, lt, scope}
use Rattle.lower_laws_translated.proofs.Shown.{within_shows}

widths_there : (fs : List NamedField) → AllByRecursion IsWidth (map width_of fs) → AllByRecursion FitsWidth fs
widths_there [] all = tt
widths_there (f ∷ fs) all = ((all.0.0, all.0.1), widths_there fs all.1)

-- names of parameters differ (C1)
parameters_once : (ds : List Decl) (x : Expanded) → IsGiven ds x → (action : ℕ) → repeats (map name_of_field (new_parameters_of ds action)) ≡ false
parameters_once ds x given action = by (slice_get (actions ds) action) refl where
  by : (o : Option Action) → slice_get (actions ds) action ≡ o → repeats (map name_of_field (option_map_or (λ (a : Action). parameters_from ds action 0 a.parameters) o [])) ≡ false
  by None f = refl
  by (Some a) f =
      let h = has_at (actions ds) action a f in
      ap repeats (names_same ds action 0 a.parameters) ∙ members_differ.parameters ds a.parameters (once_in ds action given.none given.few_parameters a h) (given.few_parameters a h)

module _ (ds : List Decl) (x : Expanded) (given : IsGiven ds x) (under : Rule14) (entries : Entries) (e : Bool) (text : Name) (body : Stmt) (which : Block) (owners : owners_of which ≡ of_headers ∷ of_metadata ∷ of_standard ∷ []) (a : Copy) (has : Has (copies_in ds x e) a) where
  abbrev s : Scope
  s = (b ds x given under entries e text body which owners).scope

  -- where the copy stands
  abbrev pub Placed : Type 0
  Placed = InPlace (c14 ds x given under entries e text body which owners) given.none given.spelt given.expanded (inner ds x given under entries e text body which owners a has) (within_shows ds given.none given.short x given.expanded entries (rule_in ds x under e) (ps ds x given under entries e text body which owners a has) (b ds x given under entries e text body which owners) (calls ds x given under entries e text body which owners a has)) (b ds x given under entries e text body which owners) (calls ds x given under entries e text body which owners a has) (counter_in ds a) (number ds x given under entries e text body which owners a has) (lt ds x given under entries e text body which owners a has) (action_written ds x under a) (scope ds x given under entries e text body which owners a has) e (action_scope s (action_written ds x under a)) (action_written ds x under a).name

  pub copy_kept : Placed → Keeps (action_uses s (action_written ds x under a)) []
  copy_kept place =
      action_here (inner ds x given under entries e text body which owners a has) ds _ (block_place e) _ s a.action (action_written ds x under a).name (ps ds x given under entries e text body which owners a has) (action_written ds x under a).body (parameters_once ds x given (number ds x given under entries e text body which owners a has))
      (widths_there (ps ds x given under entries e text body which owners a has) (subst (AllByRecursion IsWidth) (sym (parameters_same ds (number ds x given under entries e text body which owners a has))) (parameters_wide ds given.none given.spelt (number ds x given under entries e text body which owners a has))))
      (body_kept (c14 ds x given under entries e text body which owners) given.none given.spelt given.expanded (inner ds x given under entries e text body which owners a has) (within_shows ds given.none given.short x given.expanded entries (rule_in ds x under e) (ps ds x given under entries e text body which owners a has) (b ds x given under entries e text body which owners) (calls ds x given under entries e text body which owners a has)) (b ds x given under entries e text body which owners) (calls ds x given under entries e text body which owners a has) (counter_in ds a) (number ds x given under entries e text body which owners a has) (lt ds x given under entries e text body which owners a has) (action_written ds x under a) (scope ds x given under entries e text body which owners a has) e (action_scope s (action_written ds x under a)) (action_written ds x under a).name place)
