-- What the lowering writes for parts of the packet, for fields and for sources (this project's own; P4_14 1.0.5,
-- "Primitive Actions", "Field Value Conversions"; P4_16 1.2, "Expressions", "Casts", "Operations on headers",
-- "Operations on header stacks").
use Rattle.std.specs.Prelude.{ℕ, ◌==◌, if◌then◌else◌, codes, Some, None}
use Rattle.p416_syntax.specs.declared.lexeme.Literal16.{Literal16}
use Rattle.p414_sem.specs.Wholes.{wrapped}
use Rattle.p414_sem.specs.Slots.{Slot, standard, declared, Element}
use Rattle.p414_sem.specs.Operations.{Source, number, field, parameter}
use Rattle.p416_syntax.specs.declared.node.CastType.TheVariants as cast_to
use Rattle.p416_syntax.specs.Tree.{Exp16, literal, name, member, index, call, cast, no_arguments, argument, Stmt16, then, assign, expression, if_then}
use Rattle.p416_syntax.specs.Names.{Name}
use Rattle.v1_core.specs.Frames.{Owner, of_headers, of_metadata, of_standard}
use Rattle.agreement_of_meanings.specs.Shown.{Shown, as_header, as_stack, as_metadata, name_of, fields_of, owner_of, field_at, shown_at, standard_word, slot_width}
use Rattle.lower_laws_base.specs.Context.{Words, At, now, entry, root_at}

-- a number without a width ("Literal constants")
abbrev pub plain : ℕ → Literal16
plain n = record { width = None; value = n }

-- a number with a width ("Literal constants")
abbrev pub sized : ℕ → ℕ → Literal16
sized width n = record { width = Some width; value = n }

-- parts of the packet, as it stands or as it was at the entry of the action

-- an instance: the member of the headers or the metadata, or of their copy
abbrev pub instance_exp : Words → At → Shown → Exp16
instance_exp w at x = member (name (root_at w at (owner_of x))) (name_of x)

-- an element of an instance as it is shown: of a stack by its index, else the instance itself
abbrev pub element_exp : Words → At → Shown → ℕ → Exp16
element_exp w at (as_header called fields) e = instance_exp w at (as_header called fields)
element_exp w at (as_stack called fields) e = index (instance_exp w at (as_stack called fields)) (plain e)
element_exp w at (as_metadata called fields) e = instance_exp w at (as_metadata called fields)

-- a header, an element of a stack or metadata, by its numbers
abbrev pub part_exp : Words → At → Element → Exp16
part_exp w at part = element_exp w at (shown_at w.names.instances part.instance) part.element

-- a field, of standard metadata or of an element
abbrev pub slot_exp : Words → At → Slot → Exp16
slot_exp w at (standard which) = member (name (root_at w at of_standard)) (standard_word which)
slot_exp w at (declared i e k) =
    member (element_exp w at (shown_at w.names.instances i) e) (field_at (fields_of (shown_at w.names.instances i)) k).called

-- the bits of the field at a slot
abbrev pub width_in : Words → Slot → ℕ
width_in w slot = slot_width w.names.instances slot

-- bits of a width as bits of another one ("Casts")
abbrev pub resized : ℕ → ℕ → Exp16 → Exp16
resized own width e = if own == width then e else cast (cast_to.Bit (plain width)) e

-- a source modulo 2 ^ width: a literal, a field or a parameter with a cast where its width is another (P4_14, "Field
-- Value Conversions"; "Casts")
abbrev pub source_exp : Words → At → ℕ → Source → Exp16
source_exp w at width (number z) = literal (sized width (wrapped width z))
source_exp w at width (field slot) = resized (width_in w slot) width (slot_exp w at slot)
source_exp w at width (parameter j) =
    let p = field_at w.parameters j in resized p.width width (name p.called)

-- the parameters of the block, copied whole

-- a parameter of the block goes to its copy ("Assignment statement")
abbrev pub copy_stmt : Words → Owner → Stmt16
copy_stmt w o = assign (name (w.copy o)) (name (w.root o))

-- all three parameters of the block go to their copies, behind a statement
abbrev pub copies_stmt : Words → Stmt16 → Stmt16
copies_stmt w x = (then) ((then) ((then) x (copy_stmt w of_headers)) (copy_stmt w of_metadata)) (copy_stmt w of_standard)

-- calls

-- a method without arguments, as `setValid` ("Operations on headers")
abbrev pub method_stmt : Exp16 → Name → Stmt16
method_stmt e word = expression (call (member e word) no_arguments)

-- what drops the packet (`v1model.p4`, `mark_to_drop`)
abbrev pub drop_stmt : Words → Stmt16
drop_stmt w = expression (call (name (codes "mark_to_drop")) (argument no_arguments (name (w.root of_standard))))

-- whether a header is valid ("Operations on headers")
abbrev pub valid_exp : Exp16 → Exp16
valid_exp e = call (member e (codes "isValid")) no_arguments

-- A statement that writes a part happens under the parallel rule where the part's header was valid at the entry: a
-- write to an invalid header has no effect (P4_14, "Primitive Actions").
abbrev pub guarded_part : Words → At → Shown → ℕ → Stmt16 → Stmt16
guarded_part w now x e y = y
guarded_part w entry (as_metadata called fields) e y = y
guarded_part w entry x e y = if_then (valid_exp (element_exp w entry x e)) y

-- the same for a statement that writes a field; standard metadata is always there
abbrev pub guarded : Words → At → Slot → Stmt16 → Stmt16
guarded w at (standard which) y = y
guarded w at (declared i e k) y = guarded_part w at (shown_at w.names.instances i) e y
