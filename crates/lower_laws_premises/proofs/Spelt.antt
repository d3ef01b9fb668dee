-- The body of an action of an accepted program is spelt, if the names are.
use Rattle.std.proofs.Common.{◌≡◌, ℕ, ◌<◌, Bool, Option, [], ◌∷◌, length}
use Rattle.p414_syntax.specs.Breaks.{BreaksNone, program_rules}
use Rattle.p414_syntax.specs.Arguments.{actions}
use Rattle.p414_sem.specs.Controls.{Setting as Setting14}
use Rattle.p414_sem.specs.Expanded.{IsExpanded, primitives_at}
use Rattle.p416_syntax.specs.Conditions.{statements}
use Rattle.p416_syntax.specs.declared.controls.Action16.{Action16}
use Rattle.p416_syntax.specs.Names.{Name}
use Rattle.p416_syntax.specs.Scopes.{Scope}
use Rattle.v1_core.specs.Surroundings.{Surroundings}
use Rattle.lower_laws_base.specs.Context.{Lowering, words_of, object_at}
use Rattle.lower_laws_states.proofs.Rules.{stacks_right}
use Rattle.lower_laws_actions.specs.Mirror.{body_stmt}
use Rattle.lower_laws_actions.specs.Runs.{primitives_of}
use Rattle.lower_laws_rules.specs.Spelling.{SpeltName, SpeltStmt, SpeltWords}
use Rattle.lower_laws_rules.proofs.SpeltActs.{SpeltMore}
use Rattle.lower_laws_rules.proofs.SpeltBodies.{body_spelt as spelt_by}
use Rattle.lower_laws_premises.specs.Literals.{IsSpelt}
use Rattle.lower_laws_premises.specs.Scope.{InScope}
use Rattle.lower_laws_premises.specs.Shown.{Shows}
use Rattle.lower_laws_premises.specs.Placed.{block_place}
use Rattle.lower_laws_premises.proofs.LayoutFits.{sizes_few}
use Rattle.lower_laws_premises.proofs.Standing.{all_stand, all_hash}
use Rattle.lower_laws_premises.proofs.Whole.{InPlace, widths, fits, counter_fits}

-- the names that are written
pub record NamesSpelt (c : Lowering) : Type 0 where
  pub words : SpeltWords (words_of c)
  pub objects : (j : ℕ) → j < length c.objects → SpeltName (object_at c.objects j).called
  pub spares : (a i : ℕ) → SpeltName (c.spare a i)

module _ (d : Setting14) (none : BreaksNone d.decls program_rules) (spelt : IsSpelt d.decls) (is : IsExpanded d.decls d.expanded) (c : Lowering) (shows : Shows c d.decls) (b : Surroundings) (calls : ℕ) (direct : Option ℕ) (action : ℕ) (lt : action < length (actions d.decls)) (a : Action16) (scope : InScope c d b calls direct action a) (egress : Bool) (s : Scope) (name : Name) (place : InPlace d none spelt is c shows b calls direct action lt a scope egress s name) (names : NamesSpelt c) where
  facts : SpeltMore c
  facts = record { words = names.words; objects = names.objects; spares = names.spares; sizes = sizes_few c d.decls (stacks_right d.decls none) shows.instances shows.roots }

  pub body_spelt : SpeltStmt statements (body_stmt d.decls (words_of c) d.rule direct (primitives_of d.decls d.expanded (primitives_at d.expanded action)))
  body_spelt =
      spelt_by c d.decls (widths d none spelt is c shows b calls direct action lt a scope egress s name place) facts (block_place egress)
      (primitives_of d.decls d.expanded (primitives_at d.expanded action)) (fits d none spelt is c shows b calls direct action lt a scope) (all_stand d.decls none spelt d.expanded is action lt c shows egress place.stands) (all_hash d.decls none spelt d.expanded is action lt)
      direct (counter_fits d none spelt is c shows direct scope.counter) d.rule
