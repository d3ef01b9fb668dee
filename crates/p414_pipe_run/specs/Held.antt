-- What is held of a packet between ingress and egress (P4_14 1.0.5, "Packet Processing and Control Flow").
use Rattle.std.specs.Prelude.{◌≡◌, List}
use Rattle.p414_syntax.specs.declared.syntax.Decl.{Decl}
use Rattle.p414_layout.specs.Shapes.{layout_of}
use Rattle.p414_sem.specs.Passes.{Held}
use Rattle.p414_pipe_run.specs.declared.held.Held14.{Held14}

-- it, without how its instances are laid out
abbrev pub shown_held : Held14 → Held
shown_held h = record { state = h.packet.state; failed = h.failed }

-- it, with its instances laid out as a program declares them
abbrev pub packed : List Decl → Held → Held14
packed ds h = record { packet = record { layout = layout_of ds; state = h.state }; failed = h.failed }

-- it is of the program
abbrev pub IsOfProgram : List Decl → Held14 → Type 0
IsOfProgram ds h = h.packet.layout ≡ layout_of ds
