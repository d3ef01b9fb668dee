use Rattle.std.proofs.Common.{sym, subst, ◌∙◌}
use Rattle.p416_scopes.specs.Seen.{seen_scope}
use Rattle.v1_ready_program.specs.Seen.{seen_seats}
use Rattle.v1_ready_tables.specs.Tables.{AreNames}
use Rattle.v1_ready_locals.proofs.Joining.{control_is}
use Rattle.v1_ready_controls.proofs.Standing.{around_is, callees_are, names_are}
use Rattle.v1_ready_controls.proofs.control.parts_of.Goals as goal

pub new-singles-requires : goal.new-singles-requires
new-singles-requires c =
    let told = c.callees_of-callees.ensures in
    callees_are c.args.program c.requires.program c.args.block c.args.control.now c.args.stands c.requires.stands c.callees_of-callees.result told.syntax (told.locals ∙ c.as_slice.ensures) told.actions told.action_names told.tables told.own told.objects told.seats told.checksum_error told.packet_length

pub returns-clause-parts : goal.returns-clause-parts
returns-clause-parts c =
    let p = c.args.program in
    let control = c.args.control.now in
    let block = c.args.block in
    let x = c.args.stands in
    let k = c.callees_of-callees.result in
    let n = c.names_of-names.result in
    let told = c.callees_of-callees.ensures in
    let locals = told.locals ∙ c.as_slice.ensures in
    let are = callees_are p c.requires.program block control x c.requires.stands k told.syntax locals told.actions told.action_names told.tables told.own told.objects told.seats told.checksum_error told.packet_length in
    let named = names_are p c.requires.program block control x c.requires.stands k told.syntax locals told.actions n are c.names_of-names.ensures.tables c.names_of-names.ensures.own c.names_of-names.ensures.objects c.names_of-names.ensures.actions told.action_names in
    c.in_ok-found.ensures.parts
    ∙ control_is p.syntax.now block control c.new-singles.result n (seen_scope x.scope) (seen_seats x.seats) x.own.actions.items x.own.tables.items x.own.variables.items x.body
    (c.new-singles.ensures ∙ around_is p c.requires.program block control x c.requires.stands k told.syntax locals told.actions)
    (subst (λ b. AreNames b n) (sym c.new-singles.ensures) named) c.requires.stands.scope c.requires.stands.seats c.requires.stands.actions c.requires.stands.tables c.requires.stands.variables c.requires.stands.body
