-- What the rules of P4_14 tell of the tables, the pipelines and the calculated fields of an accepted program.
use Rattle.std.proofs.Common.{◌≡◌, ℕ, Bool, true, List, [], ◌∷◌, Option, Some, None, refl, ap, subst}
use Rattle.std.specs.Prelude.{option_and_then}
use Rattle.std.specs.Option.{option_map_or}
use Rattle.p414_syntax.specs.declared.calculations.Calc.{Calc}
use Rattle.p414_syntax.specs.declared.calculations.CalculatedField.{CalculatedField}
use Rattle.p414_syntax.specs.declared.calculations.FieldListCalculation.{FieldListCalculation}
use Rattle.p414_syntax.specs.declared.tables.Table.{Table}
use Rattle.p414_syntax.specs.declared.syntax.Decl.{Decl}
use Rattle.p414_syntax.specs.declared.syntax.Decl.TheVariants as decl
use Rattle.p414_syntax.specs.declared.syntax.Sort.TheVariants as sort
use Rattle.p414_syntax.specs.Attributes.{reads_of, default_action_of}
use Rattle.p414_syntax.specs.Breaks.{BreaksNone, program_rules}
use Rattle.p414_syntax.specs.Lists.{calculated_fields, calculation_in, calculation_of}
use Rattle.p414_syntax.specs.Names.{Name, numbered, number_of}
use Rattle.p414_syntax.specs.Tables.{tables, listed_in}
use Rattle.p414_syntax.specs.Unsupported.{algorithms, declares_unsupported}
use Rattle.p414_sem.specs.Signatures.{table_of}
use Rattle.p414_sem.specs.Calculations.{joined_calculation, no_calculation, calculation_named}
use Rattle.p414_sem.specs.Expanded.{Expanded, IsExpanded}
use Rattle.p416_syntax.specs.Names.{has_name}
use Rattle.p416_syntax.specs.Kinds.{hash_algorithm}
use Rattle.p416_syntax.specs.BuiltIn.{members_of}
use Rattle.p416_syntax.specs.Scopes.{Scope}
use Rattle.lower_laws_base.specs.Context.{StateLayout, Lowering}
use Rattle.lower_laws_controls.specs.Keys.{KeysFit}
use Rattle.lower_laws_controls.specs.Listing.{Each}
use Rattle.lower_laws_states.specs.Expansions.{Has}
use Rattle.lower_laws_states.proofs.Chosen.{table_has, default_counted}
use Rattle.lower_laws_states.proofs.Declared.{numbered_has}
use Rattle.lower_laws_states.proofs.Members.{none_passes, of_not}
use Rattle.lower_laws_states.proofs.Rules.{all_supported}
use Rattle.lower_laws_sums.specs.Sums.{FieldFits}
use Rattle.lower_laws_rules.specs.Declared.{FitsCounters}
use Rattle.lower_laws_rules.proofs.Found.{left_false}
use Rattle.lower_laws_block_rules.specs.Tables.{IsCopyHere, DefaultStands, TableHere}
use Rattle.lower_laws_block_rules.specs.Sums.{EntryHere, FieldHere}
use Rattle.lower_laws_block_rules.proofs.RuledItems.{ListsWide, calculation_wide}
use Rattle.lower_laws_block_rules.proofs.Ruled.{table_keys, default_listed, few_entries}

module _ (ds : List Decl) (none : BreaksNone ds program_rules) where
  -- tables: kinds of keys and the default; their fields and names are asked

  pub table_ruled : (c : Lowering) (s : Scope) (copy : Name → Option Name) (counter : Option Name) (name : Name) (t : Table) → table_of ds name ≡ Some t → KeysFit c.layout ds (reads_of t.attributes) → Each (IsCopyHere ds s copy) (listed_in t) → FitsCounters s counter → TableHere c ds s copy counter t
  table_ruled c s copy counter name t is keys listed is_counter =
      let has = table_has ds none name t is in
      let good = table_keys ds none t has in
      record { keys = keys; good = good.0; single = good.1; listed = listed; counter_is = is_counter; default = by (default_action_of t.attributes) refl has } where
        by : (o : Option Name) → default_action_of t.attributes ≡ o → Has (tables ds) t → DefaultStands ds t o
        by None e has = tt
        by (Some action) e has = (default_listed ds none t has action e, default_counted ds none name t is action e)

  -- calculated fields: the algorithm (C25) and how many entries there are (C8)

  declared_calculation : (d : Decl) (k : FieldListCalculation) → calculation_in d ≡ Some k → d ≡ decl.FieldListCalculation k
  declared_calculation (decl.FieldListCalculation z) k e = ap decl.FieldListCalculation (cc e)
  declared_calculation _ k e = absurd (cc e)

  calculation_has : (name : Name) (k : FieldListCalculation) → calculation_of ds name ≡ Some k → Has ds (decl.FieldListCalculation k)
  calculation_has name k e = by (number_of sort.Calculation ds name) e where
    at : (n : ℕ) (o : Option Decl) → numbered sort.Calculation ds n ≡ o → option_and_then calculation_in o ≡ Some k → Has ds (decl.FieldListCalculation k)
    at n None is e = absurd (cc e)
    at n (Some d) is e = subst (Has ds) (declared_calculation d k e) (numbered_has ds sort.Calculation n d is)

    by : (o : Option ℕ) → option_and_then calculation_in (option_and_then (numbered sort.Calculation ds) o) ≡ Some k → Has ds (decl.FieldListCalculation k)
    by None e = absurd (cc e)
    by (Some n) e = at n (numbered sort.Calculation ds n) refl e

  pub algorithm_ruled : (x : Expanded) (name : Name) → has_name (members_of hash_algorithm) (calculation_named ds x name).algorithm ≡ true
  algorithm_ruled x name = by (calculation_of ds name) refl where
    by : (o : Option FieldListCalculation) → calculation_of ds name ≡ o → has_name (members_of hash_algorithm) (option_map_or (joined_calculation ds x) o no_calculation).algorithm ≡ true
    by None e = refl
    by (Some k) e = of_not (has_name algorithms k.algorithm) (none_passes declares_unsupported ds (decl.FieldListCalculation k) (left_false _ _ (all_supported ds none)) (calculation_has name k e))

  entries_ruled : (x : Expanded) → IsExpanded ds x → ListsWide ds → (cs : List Calc) → Each (EntryHere ds x) cs
  entries_ruled x is wide [] = tt
  entries_ruled x is wide (c ∷ cs) = (record { algorithm = algorithm_ruled x c.calculation; wide = calculation_wide ds wide x is c.calculation }, entries_ruled x is wide cs)

  pub field_ruled : (g : StateLayout) (x : Expanded) → IsExpanded ds x → ListsWide ds → (updates : Bool) (f : CalculatedField) → Has (calculated_fields ds) f → FieldFits g ds x f → FieldHere g ds x updates f
  field_ruled g x is wide updates f has fits = record { fits = fits; entries = entries_ruled x is wide f.entries; few = few_entries ds none f has updates }
