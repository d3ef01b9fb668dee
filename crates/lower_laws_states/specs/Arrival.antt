-- How a packet came here: what of standard metadata no program writes, which is all but `egress_spec` (P4_14 1.0.5,
-- "Standard Intrinsic Metadata"; the definitions are this project's own).
use Rattle.std.specs.Prelude.{◌≡◌, ℕ, false, List, Some}
use Rattle.std.specs.List.{AllByRecursion}
use Rattle.p414_syntax.specs.declared.calculations.CalculatedField.{CalculatedField}
use Rattle.p414_syntax.specs.declared.parsers.PStmt.{PStmt}
use Rattle.p414_syntax.specs.declared.parsers.PStmt.TheVariants as pstmt
use Rattle.p414_syntax.specs.declared.parsers.Parser.{Parser}
use Rattle.p414_syntax.specs.declared.syntax.Decl.{Decl}
use Rattle.p414_syntax.specs.declared.syntax.Decl.TheVariants as decl
use Rattle.p414_syntax.specs.declared.syntax.Sort.TheVariants as sort
use Rattle.p414_syntax.specs.Names.{Name, declared_in}
use Rattle.p414_syntax.specs.Primitives.{is_standard}
use Rattle.p414_syntax.specs.Lists.{calculated_fields}
use Rattle.p414_sem.specs.declared.standard.Standard.TheVariants.{EgressSpec}
use Rattle.p414_sem.specs.Slots.{Slot, standard, declared, slot_of}
use Rattle.p414_sem.specs.State.{State}
use Rattle.p414_sem.specs.Expanded.{Expanded, primitives_at}
use Rattle.p414_sem.specs.Operations.{Primitive, write, execute_meter, primitive_of}
use Rattle.p414_sem.specs.Effects.{Effect, put_field, take_colour}
use Rattle.p414_sem.specs.Parsing.{state_named}

-- how a packet came here
pub record Arrived : Type 0 where
  pub ingress_port : ℕ
  pub egress_port : ℕ
  pub packet_length : ℕ
  pub instance_type : ℕ

-- how the packet of a state came here
abbrev pub arrival : State → Arrived
arrival s = record { ingress_port = s.ingress_port; egress_port = s.egress_port; packet_length = s.packet_length; instance_type = s.instance_type }

-- it stays as it was
abbrev pub SameArrival : State → State → Type 0
SameArrival before after = arrival after ≡ arrival before

-- a field that a program may write: a declared one, or `egress_spec` ("Standard Intrinsic Metadata")
abbrev pub IsWritable : Slot → Type 0
IsWritable (standard EgressSpec) = Unit {0}
IsWritable (standard _) = ⊥
IsWritable (declared i e f) = Unit {0}

-- an effect that leaves it: the field that gets a number or a colour may be written
abbrev pub EffectKeeps : Effect → Type 0
EffectKeeps (put_field slot n) = IsWritable slot
EffectKeeps (take_colour object index target live) = IsWritable target.slot
EffectKeeps _ = Unit {0}

-- a primitive that leaves it: the target of a write or of a meter may be written
abbrev pub PrimitiveKeeps : Primitive → Type 0
PrimitiveKeeps (write sums target term) = IsWritable target.slot
PrimitiveKeeps (execute_meter object index target) = IsWritable target.slot
PrimitiveKeeps _ = Unit {0}

-- a statement of a parser state that leaves it: the field of `set_metadata` may be written
abbrev pub StatementKeeps : List Decl → PStmt → Type 0
StatementKeeps ds (pstmt.Extract i) = Unit {0}
StatementKeeps ds (pstmt.SetMetadata r v) = IsWritable (slot_of ds r)

-- declared metadata that leaves it: it isn't named `standard_metadata`, so its initial values are no standard fields
abbrev pub InstanceKeeps : Decl → Type 0
InstanceKeeps (decl.Metadata x) = is_standard x.name ≡ false
InstanceKeeps _ = Unit {0}

-- a program that comes to this writes none of it: not in actions, in states of the parser, as metadata begins, or as
-- calculated fields are updated
pub record ProgramKeeps (ds : List Decl) (x : Expanded) : Type 0 where
  pub actions : (n : ℕ) → AllByRecursion (λ i. PrimitiveKeeps (primitive_of ds x i)) (primitives_at x n)
  pub states : (name : Name) (p : Parser) → state_named ds name ≡ Some p → AllByRecursion (StatementKeeps ds) p.statements
  pub instances : AllByRecursion InstanceKeeps (declared_in sort.Instance ds)
  pub calculated : AllByRecursion (λ (f : CalculatedField). IsWritable (slot_of ds f.field)) (calculated_fields ds)
