use Rattle.std.proofs.Common.{map, ap, ◌∙◌}
use Rattle.p416_scopes.specs.Seen.{seen_scope}
use Rattle.v1_block_laws.specs.Variables.{control_roots, own_names}
use Rattle.v1_block_seats.specs.Seen.{seen_variable}
use Rattle.v1_ready_forms.specs.Named.{seats_in}
use Rattle.v1_ready_controls.proofs.Standing.{stands}
use Rattle.v1_ready_controls.proofs.control.control_in.Goals as goal

pub returns : goal.returns
returns c =
    let p = c.args.program in
    let numbers = c.in_ok-numbers.numbers in
    stands p c.args.block c.args.control.now (record { scope = c.control_numbers.new.scope; keys = c.in_ok-keys.keys; seats = c.in_ok-seats.seats; own = c.in_ok-own.own; body = numbers.body }) (seen_scope c.in_ok-scope.scope) c.in_ok-first.first c.as_slice-locals.result.now numbers.variables.items numbers.actions.items
    c.as_slice-locals.ensures c.in_ok-scope.ensures.scope c.in_ok-first.ensures c.in_ok-numbers.ensures.variables c.in_ok-numbers.ensures.actions c.in_ok-numbers.ensures.body c.in_ok-numbers.ensures.scope (c.control_numbers.ensures.top ∙ c.in_ok-scope.ensures.top) c.in_ok-keys.ensures.scope c.in_ok-keys.ensures.top
    (c.in_ok-seats.ensures ∙ ap (λ vs. seats_in p.syntax.now (control_roots c.args.block c.args.control.now) (own_names (map seen_variable vs))) c.deref.ensures.value) c.in_ok-own.ensures
