-- A copy of an action is spelt, where it stands in its place.
use Rattle.std.proofs.Common.{◌≡◌, ◌<◌, ◌≤◌, ◌^◌, Bool, List, [], ◌∷◌, map, refl, sym, ap, subst, arith}
use Rattle.std.specs.Prelude.{is_some}
use Rattle.std.specs.List.{AllByRecursion}
use Rattle.match_core.specs.declared.entries.Entries.{Entries}
use Rattle.p414_syntax.specs.declared.syntax.Decl.{Decl}
use Rattle.p414_syntax.specs.declared.syntax.Rule14.{Rule14}
use Rattle.p414_syntax.specs.declared.syntax.Sort.TheVariants as sort
use Rattle.p414_syntax.specs.Names.{Name, names_in}
use Rattle.p414_syntax.specs.Tree.{Stmt}
use Rattle.p414_sem.specs.Expanded.{Expanded}
use Rattle.p416_syntax.specs.Declarations.{action_scope}
use Rattle.v1_core.specs.declared.block.Block.{Block}
use Rattle.v1_core.specs.Blocks.{owners_of}
use Rattle.v1_core.specs.Frames.{of_headers, of_metadata, of_standard}
use Rattle.agreement_of_meanings.specs.Shown.{NamedField, width_of}
use Rattle.lower_laws_names.specs.Copies.{Copy}
use Rattle.lower_laws_base.specs.Context.{Lowering, words_of, At, now, entry, root_at}
use Rattle.lower_laws_states.specs.Expansions.{Has}
use Rattle.lower_laws_states.proofs.Declared.{declared_has}
use Rattle.lower_laws_premises.proofs.Spelt.{NamesSpelt, body_spelt}
use Rattle.lower_laws_premises.proofs.Widths.{parameters_wide}
use Rattle.lower_laws_rules.specs.Acting.{IsWidth}
use Rattle.lower_laws_rules.specs.Spelling.{SpeltName, SpeltParam, SpeltWords, SpeltAction}
use Rattle.lower_laws_rules.proofs.SpeltParts.{plain_spelt}
use Rattle.lower_laws_block_rules.proofs.NamesSpelt.{LayoutNamed}
use Rattle.lower_laws_declared.specs.Layout.{program_layout}
use Rattle.lower_laws_translated.specs.Given.{IsGiven}
use Rattle.lower_laws_translated.specs.Translated.{parameter_of, counter_in, copies_in, action_written, rule_in}
use Rattle.lower_laws_translated.proofs.Acts.{b, c14, inner, number, lt, ps, calls, scope}
use Rattle.lower_laws_translated.proofs.ActionsKept.{Placed}
use Rattle.lower_laws_translated.proofs.Locals.{copy_numbered, each_of}
use Rattle.lower_laws_translated.proofs.OuterSpelt.{NameSpelt, spelt_at, spare_spelt, sort_read, outer_spelt, objects_spelt, parameters_spelt}
use Rattle.lower_laws_translated.proofs.Parameters.{parameters_wide as parameters_same}
use Rattle.lower_laws_translated.proofs.Shown.{within_shows}

params_spelt : (fs : List NamedField) → AllByRecursion IsWidth (map width_of fs) → AllByRecursion NameSpelt fs → AllByRecursion SpeltParam (map parameter_of fs)
params_spelt [] wide names = tt
params_spelt (f ∷ fs) wide names = let most = wide.0.1 in ((plain_spelt f.width (omega (arith, most)), names.0), params_spelt fs wide.1 names.1)

module _ (ds : List Decl) (x : Expanded) (given : IsGiven ds x) (under : Rule14) (entries : Entries) (named : LayoutNamed (program_layout ds entries)) (e : Bool) (text : Name) (body : Stmt) (which : Block) (owners : owners_of which ≡ of_headers ∷ of_metadata ∷ of_standard ∷ []) (a : Copy) (has : Has (copies_in ds x e) a) where
  abbrev c : Lowering
  c = inner ds x given under entries e text body which owners a has

  abbrev fields : List NamedField
  fields = ps ds x given under entries e text body which owners a has

  roots_spelt : (at : At) → SpeltName (root_at (words_of c) at of_headers) × SpeltName (root_at (words_of c) at of_metadata) × SpeltName (root_at (words_of c) at of_standard)
  roots_spelt now = (refl, refl, refl)
  roots_spelt entry = (refl, refl, refl)

  words_spelt : SpeltWords (words_of c)
  words_spelt at = record {
    roots = roots_spelt at;
    instances = named.instances;
    fields = named.fields;
    parameters = spelt_at fields (parameters_spelt ds x given (number ds x given under entries e text body which owners a has));
  }

  names_spelt : NamesSpelt c
  names_spelt = record { words = words_spelt; objects = objects_spelt ds x given; spares = spare_spelt }

  pub action_spelt : Placed ds x given under entries e text body which owners a has → SpeltAction (action_written ds x under a)
  action_spelt place =
      let of = each_of ds given.none given.short x under e a has in
      let there : Has (names_in sort.Action ds) a.action = declared_has ds sort.Action a.action (ap is_some (copy_numbered ds given.none given.short x under a of).found) in (
        ((sort_read ds x given sort.Action a.action there, tt), refl),
        outer_spelt ds x given a of,
        params_spelt fields
            (subst (AllByRecursion IsWidth) (sym (parameters_same ds (number ds x given under entries e text body which owners a has))) (parameters_wide ds given.none given.spelt (number ds x given under entries e text body which owners a has)))
            (parameters_spelt ds x given (number ds x given under entries e text body which owners a has)),
        body_spelt (c14 ds x given under entries e text body which owners) given.none given.spelt given.expanded c (within_shows ds given.none given.short x given.expanded entries (rule_in ds x under e) fields (b ds x given under entries e text body which owners) (calls ds x given under entries e text body which owners a has)) (b ds x given under entries e text body which owners) (calls ds x given under entries e text body which owners a has) (counter_in ds a) (number ds x given under entries e text body which owners a has) (lt ds x given under entries e text body which owners a has) (action_written ds x under a) (scope ds x given under entries e text body which owners a has) e (action_scope (b ds x given under entries e text body which owners).scope (action_written ds x under a)) (action_written ds x under a).name place names_spelt,
      )
