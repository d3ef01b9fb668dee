-- The primitives by their names, and what is kept of a call of each (P4_14 1.0.5, "Primitive Actions").
use Rattle.std.specs.Prelude.{ℕ, if◌then◌else◌, false, pos, List, [], length, codes, unwrap_or}
use Rattle.std.specs.Str.{bytes_eq}
use Rattle.state_store.specs.Ports.{drop_port}
use Rattle.fabric.specs.declared.items.RequestKind.TheVariants.{CloneI2E, CloneE2E, Resubmit, Recirculate}
use Rattle.p414_syntax.specs.declared.syntax.Decl.{Decl}
use Rattle.p414_syntax.specs.declared.syntax.Sort.TheVariants as sort
use Rattle.p414_syntax.specs.Names.{Name, names_in, number_of}
use Rattle.p414_syntax.specs.Primitives.{hash}
use Rattle.p414_syntax.specs.Arguments.{Argument, Invocation}
use Rattle.p414_sem.specs.Operations.{Source, Term, number, just, on_mask, sum, difference, conjunction, disjunction, exclusive, left_shift, right_shift, cell, Primitive, write, add_header, remove_header, copy_header, push, pop, count_cell, write_cell, execute_meter, nothing, argument_at, name_in_argument, source, target, element, stack, object, element_count, writes, writes_sum, changes, modifies, egress_spec, clones, repeats_packet}
use Rattle.p414_ready_actions.specs.declared.words.PrimitiveWord.{PrimitiveWord}
use Rattle.p414_ready_actions.specs.declared.words.PrimitiveWord.TheVariants as word
use Rattle.p414_ready_actions.specs.declared.words.Join.{Join}
use Rattle.p414_ready_actions.specs.declared.words.Join.TheVariants as join
use Rattle.p414_ready_actions.specs.declared.rows.ReadySource.{ReadySource}
use Rattle.p414_ready_actions.specs.declared.rows.ReadyTerm.{ReadyTerm}
use Rattle.p414_ready_actions.specs.declared.rows.ReadyTerm.TheVariants as ready_term
use Rattle.p414_ready_actions.specs.declared.rows.ReadyPrimitive.{ReadyPrimitive}
use Rattle.p414_ready_actions.specs.declared.rows.ReadyPrimitive.TheVariants as ready
use Rattle.p414_ready_actions.specs.Rows.{kept_primitive, kept_source, kept_target}

abbrev pub writing_word : Name → PrimitiveWord → PrimitiveWord
writing_word name other =
    if bytes_eq name (codes "modify_field") then word.ModifyField
    else if bytes_eq name (codes "add") then word.Add
    else if bytes_eq name (codes "subtract") then word.Subtract
    else if bytes_eq name (codes "add_to_field") then word.AddToField
    else if bytes_eq name (codes "subtract_from_field") then word.SubtractFromField
    else if bytes_eq name (codes "bit_and") then word.BitAnd
    else if bytes_eq name (codes "bit_or") then word.BitOr
    else if bytes_eq name (codes "bit_xor") then word.BitXor
    else if bytes_eq name (codes "shift_left") then word.ShiftLeft
    else if bytes_eq name (codes "shift_right") then word.ShiftRight
    else other

abbrev pub moving_word : Name → PrimitiveWord → PrimitiveWord
moving_word name other =
    if bytes_eq name (codes "add_header") then word.AddHeader
    else if bytes_eq name (codes "remove_header") then word.RemoveHeader
    else if bytes_eq name (codes "copy_header") then word.CopyHeader
    else if bytes_eq name (codes "push") then word.Push
    else if bytes_eq name (codes "pop") then word.Pop
    else other

abbrev pub storing_word : Name → PrimitiveWord → PrimitiveWord
storing_word name other =
    if bytes_eq name (codes "count") then word.Count
    else if bytes_eq name (codes "register_read") then word.RegisterRead
    else if bytes_eq name (codes "register_write") then word.RegisterWrite
    else if bytes_eq name (codes "execute_meter") then word.ExecuteMeter
    else if bytes_eq name hash then word.Hash
    else other

abbrev pub asking_word : Name → PrimitiveWord → PrimitiveWord
asking_word name other =
    if bytes_eq name (codes "drop") then word.Drops
    else if bytes_eq name (codes "resubmit") then word.Resubmits
    else if bytes_eq name (codes "recirculate") then word.Recirculates
    else if bytes_eq name (codes "clone_ingress_pkt_to_egress") then word.ClonesIngress
    else if bytes_eq name (codes "clone_i2e") then word.ClonesIngress
    else if bytes_eq name (codes "clone_egress_pkt_to_egress") then word.ClonesEgress
    else if bytes_eq name (codes "clone_e2e") then word.ClonesEgress
    else other

-- the primitive with a name; what is left out is as `no_op`
abbrev pub word_of : Name → PrimitiveWord
word_of name = writing_word name (moving_word name (storing_word name (asking_word name word.NoOp)))

-- a call of a primitive with these arguments
abbrev pub called_with : List Argument → Invocation
called_with arguments = record { callee = []; arguments = arguments }

-- two sources, joined

abbrev pub joined_by : Join → Source → Source → Term
joined_by join.OnMask a b = on_mask a b
joined_by join.Sum a b = sum a b
joined_by join.Difference a b = difference a b
joined_by join.And a b = conjunction a b
joined_by join.Or a b = disjunction a b
joined_by join.Xor a b = exclusive a b
joined_by join.LeftShift a b = left_shift a b
joined_by join.RightShift a b = right_shift a b

abbrev pub joined_row : Join → ReadySource → ReadySource → ReadyTerm
joined_row join.OnMask a b = ready_term.OnMask a b
joined_row join.Sum a b = ready_term.Sum a b
joined_row join.Difference a b = ready_term.Difference a b
joined_row join.And a b = ready_term.And a b
joined_row join.Or a b = ready_term.Or a b
joined_row join.Xor a b = ready_term.Xor a b
joined_row join.LeftShift a b = ready_term.LeftShift a b
joined_row join.RightShift a b = ready_term.RightShift a b

-- what a call is, by the word of what is called; a hash has a row of its own
abbrev pub plain_by : List Decl → Invocation → PrimitiveWord → Primitive
plain_by ds i word.ModifyField = modifies ds i
plain_by ds i word.Add = writes_sum ds i sum
plain_by ds i word.Subtract = writes_sum ds i difference
plain_by ds i word.AddToField = changes ds i sum
plain_by ds i word.SubtractFromField = changes ds i difference
plain_by ds i word.BitAnd = writes ds i conjunction
plain_by ds i word.BitOr = writes ds i disjunction
plain_by ds i word.BitXor = writes ds i exclusive
plain_by ds i word.ShiftLeft = writes ds i left_shift
plain_by ds i word.ShiftRight = writes ds i right_shift
plain_by ds i word.AddHeader = add_header (element ds i 0)
plain_by ds i word.RemoveHeader = remove_header (element ds i 0)
plain_by ds i word.CopyHeader = copy_header (element ds i 0) (element ds i 1)
plain_by ds i word.Push = push (stack ds i) (element_count i)
plain_by ds i word.Pop = pop (stack ds i) (element_count i)
plain_by ds i word.Count = count_cell (object ds i 0) (source ds i 1)
plain_by ds i word.RegisterRead = write false (target ds i 0) (cell (object ds i 1) (source ds i 2))
plain_by ds i word.RegisterWrite = write_cell (object ds i 0) (source ds i 1) (source ds i 2)
plain_by ds i word.ExecuteMeter = execute_meter (object ds i 0) (source ds i 1) (target ds i 2)
plain_by ds i word.Hash = nothing
plain_by ds i word.Drops = write false egress_spec (just (number (pos drop_port)))
plain_by ds i word.Resubmits = repeats_packet ds i Resubmit
plain_by ds i word.Recirculates = repeats_packet ds i Recirculate
plain_by ds i word.ClonesIngress = clones ds i CloneI2E
plain_by ds i word.ClonesEgress = clones ds i CloneE2E
plain_by ds i word.NoOp = nothing

-- the number of a calculation; that behind the last of a name that none has
abbrev pub calculation_number : List Decl → Name → ℕ
calculation_number ds name = unwrap_or (number_of sort.Calculation ds name) (length (names_in sort.Calculation ds))

abbrev pub hash_row : List Decl → Invocation → ReadyPrimitive
hash_row ds i =
    ready.Hash (kept_target false (target ds i 0)) (kept_source (source ds i 1))
    (calculation_number ds (name_in_argument (argument_at i 2))) (kept_source (source ds i 3))

abbrev pub row_by : List Decl → Invocation → PrimitiveWord → ReadyPrimitive
row_by ds i word.Hash = hash_row ds i
row_by ds i other = kept_primitive (plain_by ds i other)

-- the row of a call of a primitive
abbrev pub row_of : List Decl → Invocation → ReadyPrimitive
row_of ds i = row_by ds (called_with i.arguments) (word_of i.callee)
