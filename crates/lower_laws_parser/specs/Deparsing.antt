-- What the lowering of the deparser writes, and what stands around it (this project's own; P4_14 1.0.5, "Deparsing";
-- P4_16 1.2, "Deparsing").
use Rattle.std.specs.Prelude.{◌≡◌, ℕ, ◌<◌, false, List, [], ◌∷◌, length, map, get_or, Some, codes}
use Rattle.p414_syntax.specs.declared.syntax.Decl.{Decl}
use Rattle.p414_syntax.specs.declared.syntax.Decl.TheVariants as decl
use Rattle.p414_syntax.specs.declared.syntax.Sort.TheVariants as sort
use Rattle.p414_syntax.specs.Names.{declared_in}
use Rattle.p414_sem.specs.Packing.{widths_of_type}
use Rattle.p416_syntax.specs.Tree.{name, call, member, no_arguments, argument, Stmt16, no_statements, then, expression}
use Rattle.p416_syntax.specs.Names.{Name}
use Rattle.p416_syntax.specs.Kinds.{packet_out}
use Rattle.p416_syntax.specs.Scopes.{Scope}
use Rattle.v1_core.specs.Frames.{of_headers}
use Rattle.agreement_of_meanings.specs.Shown.{Shown, is_metadata, fields_of, width_of, shown_at}
use Rattle.lower_laws_base.specs.Context.{Words, Lowering, Sees, HasRoot, StateLayout, shown_on, now}
use Rattle.lower_laws_base.specs.Mirror.{instance_exp}

-- the instance with this number is emitted, if it is valid ("Deparsing", `emit`)
abbrev pub emit_stmt : Words → Name → ℕ → Stmt16
emit_stmt w packet n =
    expression (call (member (name packet) (codes "emit")) (argument no_arguments (instance_exp w now (shown_at w.names.instances n))))

-- the headers in their order are emitted behind other statements, a stack as a whole
abbrev pub emits_from : Words → Name → Stmt16 → List ℕ → Stmt16
emits_from w packet x [] = x
emits_from w packet x (n ∷ order) = emits_from w packet ((then) x (emit_stmt w packet n)) order

-- the body of the deparser: the headers are emitted in their order (P4_14, "Deparsing")
abbrev pub emits : Words → Name → List ℕ → Stmt16
emits w packet order = emits_from w packet no_statements order

-- The scope of the deparser knows the packet and the headers alone.
pub record Deparses (c : Lowering) (packet : Name) (s : Scope) : Type 0 where
  pub sees : Sees c s []
  pub packet_is : c.packet ≡ Some (record { called = packet; kind = packet_out })
  pub headers : HasRoot c.layout of_headers

-- the fields of a header are shown with their widths
abbrev pub WidthsAre : List Decl → Decl → Shown → Type 0
WidthsAre ds (decl.Header d) x = widths_of_type ds d.header_type ≡ map width_of (fields_of x)
WidthsAre ds _ x = Unit {0}

-- what is emitted are headers and stacks that are there
abbrev pub HeadersStand : StateLayout → List ℕ → Type 0
HeadersStand g [] = Unit {0}
HeadersStand g (n ∷ order) = (n < length g.names.instances) × (is_metadata (shown_on g n) ≡ false) × HeadersStand g order

-- the fields of all headers are shown with their widths
abbrev pub AllWidths : StateLayout → List Decl → Type 0
AllWidths g ds = (k : ℕ) → k < length g.names.instances → (d : Decl) → WidthsAre ds (get_or (declared_in sort.Instance ds) k d) (shown_on g k)
