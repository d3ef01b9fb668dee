-- An item is parsed as its program says.
use Rattle.std.proofs.Common.{◌≡◌, ℕ, Bool, true, false, cond, List, refl, ap, ◌∙◌}
use Rattle.std.specs.Prelude.{not, Result, Ok}
use Rattle.p414_syntax.specs.declared.syntax.Decl.{Decl}
use Rattle.p414_layout.specs.declared.shape.Shape.{Shape}
use Rattle.p414_layout.specs.Shapes.{layout_of}
use Rattle.p414_parse_run.specs.Shown.{IsParsed, widths_in}
use Rattle.p414_parse_run.proofs.Meaning.{parsed_as}
use Rattle.p414_ready_parser.specs.declared.parser.ReadyParser.{ReadyParser}
use Rattle.p414_ready_parser.specs.Meaning.{Means}
use Rattle.p414_ready_parser.specs.Running.{ready_parse}
use Rattle.p414_sem.specs.declared.parsed.Parsed.{Parsed}
use Rattle.p414_sem.specs.Parsing.{Parse, parsed}
use Rattle.p414_sem.specs.Passes.{held_of, is_accepted}
use Rattle.p414_sem.specs.State.{State}
use Rattle.p414_state.specs.Packets.{Packet, with_headers_begun}
use Rattle.p414_pipe_run.specs.declared.held.Held14.{Held14}
use Rattle.p414_pipe_run.specs.Held.{packed}

not_is : (b : Bool) → not b ≡ cond b false true
not_is true = refl
not_is false = refl

abbrev hold : List Shape → State → Bool → Held14
hold layout s failed = record { packet = record { layout = layout; state = s }; failed = failed }

pub item_parsed : (ds : List Decl) (begun new : Packet) (parser : ReadyParser) (end : Parsed) (accepted : Bool) (s : State) → begun ≡ record { layout = layout_of ds; state = s } → Means ds parser → IsParsed begun new (ready_parse (widths_in begun.layout) parser (with_headers_begun begun)) end → accepted ≡ is_accepted end → record { packet = new; failed = not accepted } ≡ packed ds (held_of (parsed ds s))
item_parsed ds begun new parser end accepted s is means went same =
    let done : Result Parsed ℕ = Ok end in
    let parse : IsParsed begun new (parsed ds begun.state) end = parsed_as {E = ℕ} ds begun new parser done (ap (λ (p : Packet). p.layout) is) means went in
    let at : parsed ds begun.state ≡ parsed ds s = ap (λ (p : Packet). parsed ds p.state) is in
    let layout : new.layout ≡ layout_of ds = parse.layout ∙ ap (λ (p : Packet). p.layout) is in
    let state : new.state ≡ (parsed ds s).state = parse.state ∙ ap (λ (p : Parse). p.state) at in
    let failed : not accepted ≡ (held_of (parsed ds s)).failed =
    ap not (same ∙ ap is_accepted (parse.end ∙ ap (λ (p : Parse). p.end) at)) ∙ not_is (is_accepted (parsed ds s).end) in
    ap (λ (l : List Shape). hold l new.state (not accepted)) layout
    ∙ (ap (λ (t : State). hold (layout_of ds) t (not accepted)) state
    ∙ ap (λ (b : Bool). hold (layout_of ds) (parsed ds s).state b) failed)
