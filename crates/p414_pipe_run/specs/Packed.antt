-- The machine of the passes that hold packets with their layout, and how it corresponds to the program's machine.
use Rattle.std.specs.Prelude.{◌≡◌, ℕ, List, Option, Some, None}
use Rattle.fabric.specs.declared.items.IngressEnd.{IngressEnd}
use Rattle.fabric.specs.declared.items.IngressNext.{IngressNext}
use Rattle.fabric.specs.declared.items.IngressNext.TheVariants as ingress
use Rattle.fabric.specs.declared.items.EgressEnd.{EgressEnd}
use Rattle.fabric.specs.Fabric.{Machine}
use Rattle.fabric.specs.Owned.{Own}
use Rattle.p414_syntax.specs.declared.syntax.Decl.{Decl}
use Rattle.p414_layout.specs.Shapes.{layout_of}
use Rattle.p414_sem.specs.Controls.{Setting}
use Rattle.p414_sem.specs.Passes.{Preserved, Held, Ended, none_preserved, ingress14, reparse14, egress14}
use Rattle.p414_sem.specs.Runs.{Between}
use Rattle.p414_passes.specs.Kept.{FitsKept}
use Rattle.p414_pipe_run.specs.declared.held.Held14.{Held14}
use Rattle.p414_pipe_run.specs.Held.{shown_held, packed, IsOfProgram}

-- ends with what is held packed

abbrev pub packed_next : List Decl → IngressNext Preserved Held → IngressNext Preserved Held14
packed_next ds (ingress.Resubmit q) = ingress.Resubmit q
packed_next ds ingress.Drop = ingress.Drop
packed_next ds (ingress.Go port h) = ingress.Go port (packed ds h)

abbrev pub packed_ingress : List Decl → IngressEnd Preserved Held → IngressEnd Preserved Held14
packed_ingress ds e = record { clone = e.clone; next = packed_next ds e.next }

abbrev pub packed_clone : List Decl → Option (ℕ × Held) → Option (ℕ × Held14)
packed_clone ds None = None
packed_clone ds (Some asked) = Some (asked.0, packed ds asked.1)

abbrev pub packed_egress : List Decl → EgressEnd Preserved Held → EgressEnd Preserved Held14
packed_egress ds e = record { clone = packed_clone ds e.clone; end = e.end }

-- an answer with what it leaves
abbrev pub left_by : {A : Type 0} → Ended A → Between
left_by e = record { store = e.store; events = e.events }

-- the four functions of a program's passes
abbrev pub packed_machine : Setting → Machine Between Preserved Held14
packed_machine c = record {
  nothing = λ b. (none_preserved c.decls, b);
  ingress = λ b came. let e = ingress14 c b.store came in (packed_ingress c.decls e.answer, left_by e);
  reparse = λ b came. let e = reparse14 c b.store came in (packed c.decls e.answer, left_by e);
  egress = λ b held port kind. let e = egress14 c b.store (shown_held held) port kind in (packed_egress c.decls e.answer, left_by e);
}

-- what is preserved fits the program, and packets that are held are the program's
abbrev pub own14 : Setting → Own Preserved Held14
own14 c = record { kept = FitsKept (layout_of c.decls); held = IsOfProgram c.decls }

-- how what it has corresponds to what the program's machine has: what is preserved is the same, a packet is held without its layout, and
-- states have one store, whatever events stand there

abbrev pub Is : {X : Type 0} → X → X → Type 0
Is x y = x ≡ y

abbrev pub Shows : Held14 → Held → Type 0
Shows h k = shown_held h ≡ k

abbrev pub OneStore : Between → Between → Type 0
OneStore a b = a.store ≡ b.store
