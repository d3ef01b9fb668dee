-- What rows come to on a packet of a program is what the program does.
use Rattle.std.proofs.Common.{◌≡◌, List, Result, Ok, Err, ap, ◌∙◌, subst}
use Rattle.std.specs.Prelude.{IfOk}
use Rattle.p414_syntax.specs.declared.syntax.Decl.{Decl}
use Rattle.p414_sem.specs.declared.parsed.Parsed.{Parsed}
use Rattle.p414_sem.specs.Meanings.{Parse14}
use Rattle.p414_sem.specs.Parsing.{Parse}
use Rattle.p414_sem.specs.State.{Instance}
use Rattle.p414_layout.specs.declared.shape.Shape.{Shape}
use Rattle.p414_layout.specs.Shapes.{layout_of}
use Rattle.p414_state.specs.Packets.{Packet, begun_all, with_headers_begun}
use Rattle.p414_state.proofs.Programs.{begun_layout}
use Rattle.p414_ready_parser.specs.declared.parser.ReadyParser.{ReadyParser}
use Rattle.p414_ready_parser.specs.Meaning.{Means}
use Rattle.p414_ready_parser.specs.Running.{ready_parse}
use Rattle.p414_parse_run.specs.Shown.{IsParsed, widths_in}
use Rattle.p414_parse_run.proofs.Widths.{are_widths}

rows_parse : (ds : List Decl) (old : Packet) (parser : ReadyParser) → old.layout ≡ layout_of ds → Means ds parser → ready_parse (widths_in old.layout) parser (with_headers_begun old) ≡ Parse14 ds old.state
rows_parse ds old parser same means =
    ap (λ (l : List Shape). ready_parse (widths_in l) parser (record old.state { instances = begun_all l old.state.instances })) same
    ∙ ap (λ (l : List Instance). ready_parse (widths_in (layout_of ds)) parser (record old.state { instances = l })) (begun_layout ds old.state.instances)
    ∙ means (widths_in (layout_of ds)) (are_widths ds) old.state

pub parsed_as : {E : Type 0} (ds : List Decl) (old new : Packet) (parser : ReadyParser) (made : Result Parsed E) → old.layout ≡ layout_of ds → Means ds parser → IfOk made (IsParsed old new (ready_parse (widths_in old.layout) parser (with_headers_begun old))) → IfOk made (IsParsed old new (Parse14 ds old.state))
parsed_as ds old new parser (Ok end) same means parsed =
    subst (λ (due : Parse). IsParsed old new due end) (rows_parse ds old parser same means) parsed
parsed_as ds old new parser (Err e) same means parsed = _
