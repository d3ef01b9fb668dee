-- States stay what they are while more is held, and the next one stands in front of those behind it.
use Rattle.std.proofs.Common.{◌≡◌, ℕ, ◌+◌, ◌<◌, ◌≤◌, List, ◌∷◌, length, get_or, drop, Option, refl, sym, subst, ap, ◌∙◌, arith}
use Rattle.std.specs.Prelude.{IfSome}
use Rattle.node_lists.proofs.Growth as growth
use Rattle.p416_syntax.specs.declared.parsers.State.{State as Written}
use Rattle.p416_syntax.specs.Names.{Name}
use Rattle.p416_syntax.specs.Scopes.{Scope}
use Rattle.v1_core.specs.Ready.{Ready}
use Rattle.v1_core.specs.Nodes.{ready_of, ready_at}
use Rattle.v1_core.specs.Kept.{Kept, trees}
use Rattle.v1_ready_forms.specs.Named.{NamedSeat}
use Rattle.v1_ready_selects.specs.Selects.{FitsTransition, Transition, select, transition_of}
use Rattle.v1_ready_selects.specs.declared.rows.ReadyTransition.{ReadyTransition}
use Rattle.v1_ready_selects.specs.declared.rows.ReadyTransition.TheVariants as ready_transition
use Rattle.v1_ready_blocks.specs.Nodes.{as_statement, statement_at}
use Rattle.v1_ready_blocks.specs.Statements.{Statement}
use Rattle.v1_ready_states.specs.declared.states.ReadyState.{ReadyState}
use Rattle.v1_ready_states.specs.States.{State}
use Rattle.v1_ready_nodes.specs.Held.{Held, ready_in, trees_in, Grows}
use Rattle.v1_ready_statements.specs.Around.{Around}
use Rattle.v1_ready_statements.specs.Given.{cons_option}
use Rattle.v1_ready_statements.specs.Statements.{number_behind}
use Rattle.v1_ready_bodies.specs.Fronts.{in_front}
use Rattle.v1_ready_bodies.specs.Seen.{seen_statement, IsNodeIn}
use Rattle.v1_ready_bodies.proofs.Keeping.{one_kept}
use Rattle.v1_ready_bodies.proofs.Fronts.{next_items}
use Rattle.v1_ready_bodies.proofs.Grown.{all_kept, all_wider}
use Rattle.v1_ready_parser.specs.Parsers.{state_ready, states_ready, with_transition}
use Rattle.v1_ready_parser.specs.Places.{seen_state, IsStateIn}

pub fits_in : (k : Kept) (found : Option ReadyTransition) → IfSome found (FitsTransition (length k.nodes)) → IfSome found (FitsTransition (length (trees k)))
fits_in k found within = subst (λ (n : ℕ). IfSome found (FitsTransition n)) (sym (growth.count ready_of k.nodes)) within

abbrev sees_key : Held → ℕ → Ready
sees_key h place = ready_at (ready_in h) place

abbrev IsKeyIn : Held → ℕ → Type 0
IsKeyIn h place = place < length (ready_in h)

abbrev a_state : Statement → Transition → State
a_state body transition = record { body = body; transition = transition }

module _ (h g : Held) (grows : Grows h g) where
  key_kept : (place : ℕ) → IsKeyIn h place → sees_key g place ≡ sees_key h place
  key_kept place within = grows.ready.places place within

  key_wider : (place : ℕ) → IsKeyIn h place → IsKeyIn g place
  key_wider place within = let more : length (ready_in h) ≤ length (ready_in g) = grows.ready.grows in omega arith

  transition_kept : (t : ReadyTransition) → FitsTransition (length (ready_in h)) t → transition_of (ready_in g) t ≡ transition_of (ready_in h) t
  transition_kept (ready_transition.Go next) within = refl
  transition_kept (ready_transition.Select keys rows) within = ap (λ (ks : List Ready). select ks rows) (all_kept sees_key IsKeyIn h g key_kept key_wider keys within)

  transition_wider : (t : ReadyTransition) → FitsTransition (length (ready_in h)) t → FitsTransition (length (ready_in g)) t
  transition_wider (ready_transition.Go next) within = tt
  transition_wider (ready_transition.Select keys rows) within = all_wider sees_key IsKeyIn h g key_kept key_wider keys within

  body_kept : (place : ℕ) → place < length (trees_in h) → statement_at (trees_in g) place ≡ statement_at (trees_in h) place
  body_kept place within = ap as_statement (grows.trees place within)

  pub state_kept : (r : ReadyState) → IsStateIn h r → seen_state g r ≡ seen_state h r
  state_kept r within =
      ap (λ (s : Statement). a_state s (transition_of (ready_in g) r.transition)) (body_kept r.body within.body)
      ∙ ap (a_state (statement_at (trees_in h) r.body)) (transition_kept r.transition within.transition)

  pub state_wider : (r : ReadyState) → IsStateIn h r → IsStateIn g r
  state_wider r within = record {
    body = let more : length (trees_in h) ≤ length (trees_in g) = grows.more in let here : r.body < length (trees_in h) = within.body in omega arith;
    transition = transition_wider r.transition within.transition;
  }

-- a state, from its parts
pub state_joined : (mid g : Held) → Grows mid g → (b : Around) (s s' : Scope) (seats seats' : List NamedSeat) (body : Option ℕ) (x : Option Statement) (t : Option Transition) (y : Scope → List NamedSeat → Option Transition) → IsNodeIn mid body → seen_statement mid body ≡ x → t ≡ y s' seats' → s' ≡ s → seats' ≡ seats
    → with_transition (seen_statement g body) t ≡ with_transition x (y s seats)
state_joined mid g grows b s s' seats seats' body x t y within is led scope seated =
    ap (λ z. with_transition z t) (one_kept mid g grows body within ∙ is)
    ∙ ap (with_transition x) (led ∙ (ap (λ (a : Scope). y a seats') scope ∙ ap (y s) seated))

-- the next state
pub next_state : (b : Around) (s : Scope) (seats : List NamedSeat) (n : ℕ) (names : List Name) (states : List Written) (i : ℕ) (x : Written) → i < length states → x ≡ get_or states i x
    → states_ready b s seats n names (drop i states) ≡ cons_option (state_ready b s seats n names x) (states_ready b s seats (number_behind s x.body n) names (drop (i + 1) states))
next_state b s seats n names states i x lt at = ap (states_ready b s seats n names) (next_items states i x lt ∙ ap (λ (y : Written). y ∷ drop (i + 1) states) (sym at))

-- in a scope that is the same, and with a number that is the same

pub state_here : (b : Around) (s t : Scope) (seats there : List NamedSeat) (n : ℕ) (names : List Name) (x : Written) (r : Option State) → s ≡ t → seats ≡ there → r ≡ state_ready b s seats n names x → r ≡ state_ready b t there n names x
state_here b s t seats there n names x r scope seated is = is ∙ (ap (λ (y : Scope). state_ready b y seats n names x) scope ∙ ap (λ (y : List NamedSeat). state_ready b t y n names x) seated)

pub number_here : (b : Around) (s : Scope) (seats : List NamedSeat) (n m : ℕ) (names : List Name) (states : List Written) (i : ℕ) (rows : List State) (due : Option (List State)) → m ≡ n
    → in_front rows (states_ready b s seats n names (drop (i + 1) states)) ≡ due → in_front rows (states_ready b s seats m names (drop (i + 1) states)) ≡ due
number_here b s seats n m names states i rows due same is = ap (λ (k : ℕ). in_front rows (states_ready b s seats k names (drop (i + 1) states))) same ∙ is
