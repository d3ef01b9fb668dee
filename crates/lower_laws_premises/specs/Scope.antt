-- What stands in the scope of an action that is written, and how it is written (this project's own; P4_14 1.0.5,
-- "Actions", "Counters"; P4_16 1.2, "Actions", "Name resolution").
use Rattle.std.specs.Prelude.{◌≡◌, ◌⊎◌, ℕ, true, List, Option, None, map}
use Rattle.p414_syntax.specs.declared.syntax.Decl.{Decl}
use Rattle.p414_syntax.specs.declared.syntax.Rule14.{Rule14}
use Rattle.lower_laws_actions.specs.Apart.{needs_copies}
use Rattle.p414_sem.specs.Operations.{Primitive}
use Rattle.p414_syntax.specs.Names.{Name}
use Rattle.p414_sem.specs.Controls.{Setting as Setting14}
use Rattle.p414_sem.specs.Expanded.{primitives_at}
use Rattle.p414_sem.specs.Signatures.{direct_counter, parameter_widths}
use Rattle.p416_syntax.specs.declared.controls.Action16.{Action16}
use Rattle.p416_syntax.specs.Declarations.{action_scope}
use Rattle.v1_core.specs.Surroundings.{Surroundings}
use Rattle.agreement_of_meanings.specs.Shown.{width_of}
use Rattle.lower_laws_base.specs.Context.{local_of, Lowering, words_of, Copies, Sees, Spares}
use Rattle.lower_laws_actions.specs.Mirror.{body_stmt}
use Rattle.lower_laws_actions.specs.Runs.{primitives_of}
use Rattle.lower_laws_actions.specs.Actions.{body_world, AreParameters}

-- where primitives need copies, the parameters of the block have them
abbrev pub HasCopies : Lowering → List Decl → Rule14 → List Primitive → Type 0
HasCopies c ds rule ps = needs_copies ds rule ps ≡ true → Copies c

-- no direct counter, or that of a table
abbrev pub IsCounter : List Decl → Option ℕ → Type 0
IsCounter ds direct = (direct ≡ None) ⊎ ((table : Name) × (direct ≡ direct_counter ds table))

-- The action with this number in its scope: its body's world, the names that it sees, its parameters with their widths,
-- copies where they are needed, a counter or none, and the body that is written for it.
pub record InScope (c : Lowering) (d : Setting14) (b : Surroundings) (calls : ℕ) (direct : Option ℕ) (action : ℕ) (a : Action16) : Type 0 where
  pub world : c.world ≡ body_world b calls
  pub sees : Sees c (action_scope b.scope a) (map local_of c.parameters)
  pub spares : Spares c (map local_of c.parameters) 0
  pub parameters : AreParameters b.scope.names a.parameters c.parameters
  pub widths : map width_of c.parameters ≡ parameter_widths d.decls action
  pub copies : HasCopies c d.decls d.rule (primitives_of d.decls d.expanded (primitives_at d.expanded action))
  pub counter : IsCounter d.decls direct
  pub body : a.body ≡ body_stmt d.decls (words_of c) d.rule direct (primitives_of d.decls d.expanded (primitives_at d.expanded action))
