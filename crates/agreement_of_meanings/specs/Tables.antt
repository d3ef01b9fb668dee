-- A table of P4_14 with one action, and the table of P4_16 that does the same (this project's own).
use Rattle.std.specs.Prelude.{◌≡◌, ℕ, is_some, slice_index_or, IfSome, List, Option, Some, None, option_map, option_and_then, []}
use Rattle.match_core.specs.Best.{entry_at}
use Rattle.p414_syntax.specs.declared.tables.Table.{Table}
use Rattle.p414_syntax.specs.Attributes.{default_action_of as default14}
use Rattle.p414_syntax.specs.Arguments.{action_number}
use Rattle.p414_sem.specs.Effects.{Moment as Moment14, acted_by}
use Rattle.p414_sem.specs.Signatures.{table_sig as sig14, actions_in_order}
use Rattle.p414_sem.specs.Controls.{Setting as Setting14, Chosen as Chosen14, Applied as Applied14, signature_number, fill_of, program_default, counted}
use Rattle.p416_syntax.specs.declared.controls.Action16.{Action16}
use Rattle.p416_syntax.specs.declared.controls.Table16.{Table16}
use Rattle.p416_syntax.specs.Properties.{default_action_of as default16}
use Rattle.p416_syntax.specs.Names.{Name}
use Rattle.v1_core.specs.Frames.{Hit, Moment, with_inner}
use Rattle.v1_core.specs.Signatures.{table_sig as sig16, table_number}
use Rattle.v1_core.specs.Surroundings.{Surroundings, Applied, action_named}
use Rattle.v1_core.specs.Tables.{Chosen, bound_numbers, hit_of, name_of_number, own_default}
use Rattle.agreement_of_meanings.specs.Agrees.{NewNames, Corresponds}

-- the only action of the table is chosen in both, with the same arguments, or none in both
abbrev pub ChosenAgree : Name → Option Chosen14 → Option Chosen → Type 0
ChosenAgree called None None = Unit {0}
ChosenAgree called (Some k) (Some q) =
    (k.action ≡ 0) × (q.number ≡ 0) × (q.called ≡ called) × (q.arguments ≡ k.arguments)
ChosenAgree called _ _ = ⊥

-- an action begins, with these arguments
abbrev pub entered : Surroundings → Action16 → Option Hit → List ℕ → Moment → Moment
entered b a hit arguments m = record (with_inner (bound_numbers b.scope a.parameters arguments) m) { hit = hit }

-- the name in P4_16 of the only action
abbrev pub only_action : Surroundings → Table16 → Name
only_action b u = name_of_number b.scope u 0

-- One action of both tables does the same: it counts a direct counter of the table first, and then does what the action of
-- P4_14 does.
abbrev pub ActsAlike : NewNames → Setting14 → Surroundings → (Action16 → Moment → Moment) → Table → ℕ → Action16 → Type 0
ActsAlike names c b act t action a =
    (entry : Option ℕ) (arguments : List ℕ) (m : Moment14) (n : Moment) → Corresponds names m n →
    Corresponds names (acted_by c.decls c.expanded c.rule action arguments (counted (sig14 c.decls t).direct entry m))
    (act a (entered b a (hit_of (sig14 c.decls t).direct entry) arguments n))

-- the tables have one signature, one number, one fill, and one action each, which do the same
pub record IsAlike (names : NewNames) (c : Setting14) (b : Surroundings) (act : Action16 → Moment → Moment) (t : Table) (u : Table16) (action : ℕ) (a : Action16) : Type 0 where
  pub entries : b.setting.entries ≡ c.entries
  pub number : table_number b.setting.syntax u ≡ signature_number c.decls t
  pub signature : sig16 b.setting.syntax b.locals b.scope u ≡ sig14 c.decls t
  pub listed14 : action_number c.decls (slice_index_or (actions_in_order t) 0 []) ≡ Some action
  pub listed16 : action_named b (only_action b u) ≡ Some a
  pub each_entry : (entry : ℕ) → (entry_at (fill_of c t).entries entry).action ≡ 0
  pub its_default : IfSome (fill_of c t).default (λ d. d.action ≡ 0)
  pub defaults : ChosenAgree (only_action b u) (option_map (program_default c.decls t) (default14 t.attributes)) (option_and_then (own_default b.scope u) (default16 u.properties))
  pub acts : ActsAlike names c b act t action a

-- the applications tell the same, and leave what corresponds
pub record AppliedAgree (names : NewNames) (n : Moment) (x : Applied14) (y : Applied) : Type 0 where
  pub hit : y.hit ≡ x.hit
  pub action : is_some y.action ≡ is_some x.action
  pub moment : Corresponds names x.moment y.moment
  pub inner : y.moment.frame.inner ≡ n.frame.inner
  pub entry : y.moment.hit ≡ n.hit
