use Rattle.std.proofs.Common.{inr, [], option_to_list, ◌∙◌}
use Rattle.std.proofs.lemmas.Result.{err_from_is_err_and}
use Rattle.p4x_io.proofs.Desks.{moves_on}
use Rattle.p4x_cmd.specs.Carry.{HasProgram}
use Rattle.command_words.specs.Views.{files_of}
use Rattle.file_work.proofs.Phases.{tells_on, reads_since, blames_as}
use Rattle.p4x_cmd.proofs.Order.{order_program, order_entries, order_ports, order_begun}
use Rattle.p4x_cmd.proofs.Phases.{stops_at_entries, stops_at_ports}
use Rattle.p4x_cmd.proofs.carry.prepare.Goals as goal

pub returns-in_err-check_entries-clause-stops : goal.returns-in_err-check_entries-clause-stops
returns-in_err-check_entries-clause-stops g c = λ files told.
    let p = err_from_is_err_and c.from_residual-in_err-check_entries.result c.from_residual-in_err-check_entries.ensures.1 in
    let n = c.args.names.now in
    let first = c.in_ok-program.ensures.moves in
    rw (p.1, p.2) (stops_at_entries (files_of n) files c.in_ok-program.program _ (c.in_ok-program.ensures.gives (files n.program.now) told.0).0
    (c.in_err-check_entries.ensures.gives (files n.entries.now) (first.others n.entries.now tt ∙ told.1.0)))

pub returns-in_err-ports-clause-stops : goal.returns-in_err-ports-clause-stops
returns-in_err-ports-clause-stops g c = λ files told.
    let p = err_from_is_err_and c.from_residual-in_err-ports.result c.from_residual-in_err-ports.ensures.1 in
    let n = c.args.names.now in
    let first = c.in_ok-program.ensures.moves in
    let moves = moves_on [] _ _ _ first c.in_ok-check_entries.ensures.moves in
    let has : HasProgram (files_of n) files c.in_ok-program.program = ((c.in_ok-program.ensures.gives (files n.program.now) told.0).0, c.in_ok-check_entries.ensures.gives (files n.entries.now) (first.others n.entries.now tt ∙ told.1.0)) in
    rw (p.1, p.2) (stops_at_ports (files_of n) files _ _ has (c.in_err-ports.ensures.gives files (tells_on (option_to_list (files_of n).ports) _ _ files moves told.1.1.1)))

pub returns-in_err-ports-clause-cause : goal.returns-in_err-ports-clause-cause
returns-in_err-ports-clause-cause g c =
    let p = err_from_is_err_and c.from_residual-in_err-ports.result c.from_residual-in_err-ports.ensures.1 in
    let moves = moves_on [] _ _ _ c.in_ok-program.ensures.moves c.in_ok-check_entries.ensures.moves in
    rw (p.1, p.2) (blames_as _ _ _ (λ rose. inr (inr (inr (reads_since [] (option_to_list (files_of c.args.names.now).ports) _ _ _ moves rose)))) c.in_err-ports.ensures.cause)

pub returns-clause-moves : goal.returns-clause-moves
returns-clause-moves g c = moves_on [] _ _ _ c.in_ok-program.ensures.moves (moves_on [] _ _ _ c.in_ok-check_entries.ensures.moves c.in_ok-ports.ensures.moves)

pub returns-clause-begins : goal.returns-clause-begins
returns-clause-begins g c = λ files told.
    let n = c.args.names.now in
    let first = c.in_ok-program.ensures.moves in
    let moves = moves_on [] _ _ _ first c.in_ok-check_entries.ensures.moves in
    let has : HasProgram (files_of n) files c.in_ok-program.program = ((c.in_ok-program.ensures.gives (files n.program.now) told.0).0, c.in_ok-check_entries.ensures.gives (files n.entries.now) (first.others n.entries.now tt ∙ told.1.0)) in
    let ports = c.in_ok-ports.ensures.gives files (tells_on (option_to_list (files_of n).ports) _ _ files moves told.1.1.1) in
    (_, (has, ports), c.in_ok-program-2.ensures.program)

pub returns-in_err-program-clause-order : goal.returns-in_err-program-clause-order
returns-in_err-program-clause-order g c =
    let p = err_from_is_err_and c.from_residual.result c.from_residual.ensures.1 in
    rw (p.1, p.2) (order_program _ (files_of c.args.names.now) _ _ c.in_err-program.ensures.only c.in_err-program.ensures.gives)

pub returns-in_err-ports-clause-order : goal.returns-in_err-ports-clause-order
returns-in_err-ports-clause-order g c =
    let p = err_from_is_err_and c.from_residual-in_err-ports.result c.from_residual-in_err-ports.ensures.1 in
    let n = c.args.names.now in
    let first = c.in_ok-program.ensures.moves in
    let moves = moves_on [] _ _ _ first c.in_ok-check_entries.ensures.moves in
    rw (p.1, p.2) (order_ports _ (files_of n) _ c.in_ok-program.program c.in_ok-program.ensures.gives
    (λ file told. c.in_ok-check_entries.ensures.gives file (first.others n.entries.now tt ∙ told)) _ c.in_err-ports.ensures.only
    (λ files told. c.in_err-ports.ensures.gives files (tells_on (option_to_list (files_of n).ports) _ _ files moves told)))

pub returns-clause-order : goal.returns-clause-order
returns-clause-order g c =
    let n = c.args.names.now in
    let first = c.in_ok-program.ensures.moves in
    let moves = moves_on [] _ _ _ first c.in_ok-check_entries.ensures.moves in
    order_begun _ (files_of n) _ c.in_ok-program.program c.in_ok-program.ensures.gives
    (λ file told. c.in_ok-check_entries.ensures.gives file (first.others n.entries.now tt ∙ told)) _ _
    (λ files told. c.in_ok-ports.ensures.gives files (tells_on (option_to_list (files_of n).ports) _ _ files moves told))

pub returns-in_err-check_entries-clause-order : goal.returns-in_err-check_entries-clause-order
returns-in_err-check_entries-clause-order g c =
    let p = err_from_is_err_and c.from_residual-in_err-check_entries.result c.from_residual-in_err-check_entries.ensures.1 in
    let n = c.args.names.now in
    let first = c.in_ok-program.ensures.moves in
    rw (p.1, p.2) (order_entries _ (files_of n) _ c.in_ok-program.program c.in_ok-program.ensures.gives _ c.in_err-check_entries.ensures.only
    (λ file told. c.in_err-check_entries.ensures.gives file (first.others n.entries.now tt ∙ told)))
