-- What is asked of an action of a block, as it is written for an action of P4_14 and a table with a direct counter
-- (this project's own; P4_14 1.0.5, "Actions", "Counters"; P4_16 1.2, "Actions"; `v1model.p4`, `direct_counter`).
use Rattle.std.specs.Prelude.{List, None, Option, Some, true, ℕ, ◌≡◌, [], map, ◌∷◌}
use Rattle.p414_syntax.specs.declared.syntax.Decl.{Decl}
use Rattle.p414_syntax.specs.declared.syntax.Rule14.{Rule14}
use Rattle.p414_sem.specs.Operations.{Primitive}
use Rattle.p416_syntax.specs.Kinds.{direct_counter, bits}
use Rattle.v1_core.specs.Surroundings.{Surroundings, World, no_table_applies}
use Rattle.v1_core.specs.Blocks.{act_at}
use Rattle.lower_laws_actions.specs.Apart.{needs_copies}
use Rattle.lower_laws_base.specs.Context.{Copies, Lowering, Sees, Spares, local_of, words_of, HasRoot}
use Rattle.lower_laws_actions.specs.Fits.{IsObject, AllFit}
use Rattle.p414_sem.specs.Expanded.{primitives_at}
use Rattle.p414_sem.specs.Controls.{Setting as Setting14}
use Rattle.p416_syntax.specs.declared.parts.Param.{Param}
use Rattle.p416_syntax.specs.declared.controls.Action16.{Action16}
use Rattle.p416_syntax.specs.Scopes.{Known, kind_of_type}
use Rattle.p416_syntax.specs.Declarations.{action_scope}
use Rattle.agreement_of_meanings.specs.Shown.{NamedField}
use Rattle.lower_laws_actions.specs.Mirror.{body_stmt}
use Rattle.lower_laws_actions.specs.Runs.{primitives_of}
use Rattle.v1_core.specs.Frames.{of_headers, of_metadata, of_standard}

-- the table has no direct counter, or it is an object of the block
abbrev pub CounterIs : Lowering → Option ℕ → Type 0
CounterIs c None = Unit {0}
CounterIs c (Some number) = IsObject c direct_counter number

-- what stands around the statements of an action's body
abbrev pub body_world : Surroundings → ℕ → World
body_world b calls = record { around = b; act = act_at b calls; apply = no_table_applies }

-- the block has the parameters of headers, of metadata and of standard metadata
pub record HasAll (c : Lowering) : Type 0 where
  pub headers : HasRoot c.layout of_headers
  pub metadata : HasRoot c.layout of_metadata
  pub standard : HasRoot c.layout of_standard

-- the parameters of the block have copies where the primitives need them under this rule
abbrev pub RuleFits : Lowering → List Decl → Rule14 → List Primitive → Type 0
RuleFits c ds rule ps = needs_copies ds rule ps ≡ true → Copies c × HasAll c

-- parameters of an action are bits, under these names
abbrev pub AreParameters : List Known → List Param → List NamedField → Type 0
AreParameters names [] [] = Unit {0}
AreParameters names (p ∷ ps) (f ∷ fs) = (p.name ≡ f.called) × (kind_of_type names p.of ≡ bits f.width) × AreParameters names ps fs
AreParameters names _ _ = ⊥

-- What is asked of an action of a block, as it is written for the action with this number and a table with this direct counter.
pub record ActionIs (c : Lowering) (d : Setting14) (b : Surroundings) (calls : ℕ) (direct : Option ℕ) (action : ℕ) (a : Action16) : Type 0 where
  pub world : c.world ≡ body_world b calls
  pub sees : Sees c (action_scope b.scope a) (map local_of c.parameters)
  pub spares : Spares c (map local_of c.parameters) 0
  pub parameters : AreParameters b.scope.names a.parameters c.parameters
  pub counter : CounterIs c direct
  pub fits : AllFit c d.decls (primitives_of d.decls d.expanded (primitives_at d.expanded action))
  pub rule : RuleFits c d.decls d.rule (primitives_of d.decls d.expanded (primitives_at d.expanded action))
  pub body : a.body ≡ body_stmt d.decls (words_of c) d.rule direct (primitives_of d.decls d.expanded (primitives_at d.expanded action))
