-- What the lowering of actions writes, where operands are read at the moment as it stands, or at the copies of the
-- entry's (this project's own; P4_14 1.0.5, "Actions", "Primitive Actions", "Field Value Conversions", "Checksums and
-- Hash-value Generators", "Clone", "Resubmit", "Recirculate"; P4_16 1.2, "Operations on fixed-width bit types (unsigned
-- integers)", "Casts", "Operations on headers", "Operations on header stacks", "Statements"; the calls are those of
-- `v1model.p4`).
use Rattle.std.specs.Prelude.{ℕ, zero, suc, ◌-◌, ◌^◌, min, max, nat_lt, Bool, true, false, not, ◌&&◌, if◌then◌else◌, pos, negsuc, unwrap_or, ◌==◌, codes, List, [], ◌∷◌, ◌++◌, Option, Some, None}
use Rattle.fabric.specs.declared.items.RequestKind.{RequestKind}
use Rattle.fabric.specs.declared.items.RequestKind.TheVariants.{CloneI2E, CloneE2E, Resubmit, Recirculate}
use Rattle.std.specs.Str.{bytes_eq}
use Rattle.p414_syntax.specs.declared.calculations.Item.{Item}
use Rattle.p414_syntax.specs.declared.calculations.Item.TheVariants as item
use Rattle.p414_syntax.specs.declared.syntax.Decl.{Decl}
use Rattle.p414_syntax.specs.declared.syntax.Rule14.{Rule14}
use Rattle.state_store.specs.Ports.{drop_port}
use Rattle.p414_sem.specs.declared.standard.Standard.TheVariants.{EgressSpec}
use Rattle.p414_sem.specs.Slots.{Slot, standard, Element, Target, slot_of}
use Rattle.p414_sem.specs.Calculations.{Calculation}
use Rattle.p414_sem.specs.Operations.{Source, number, field, parameter, Term, just, on_mask, sum, difference, conjunction, disjunction, exclusive, left_shift, right_shift, cell, hashed, Primitive, write, add_header, remove_header, copy_header, push, pop, count_cell, write_cell, execute_meter, ask, nothing}
use Rattle.p416_syntax.specs.declared.parts.Type16.TheVariants.{Bit}
use Rattle.p416_syntax.specs.declared.node.UnaryOperator.TheVariants.{Not, Complement}
use Rattle.p416_syntax.specs.declared.node.BinaryOperator.{BinaryOperator}
use Rattle.p416_syntax.specs.declared.node.BinaryOperator.TheVariants.{Add, Subtract, SaturatingAdd, SaturatingSubtract, ShiftLeft, ShiftRight, BitAnd, BitOr, BitXor}
use Rattle.p416_syntax.specs.declared.node.CastType.TheVariants as cast_to
use Rattle.p416_syntax.specs.Tree.{Exp16, literal, name, member, call, cast, unary, binary, no_arguments, argument, listed, Stmt16, no_statements, then, block, var, assign, expression, if_then}
use Rattle.p416_syntax.specs.Names.{Name}
use Rattle.lower_laws_actions.specs.Apart.{needs_copies}
use Rattle.lower_laws_base.specs.Context.{Words, object_at, At, now, entry}
use Rattle.agreement_of_meanings.specs.Shown.{field_at, shown_at}
use Rattle.agreement_of_meanings.specs.Agrees.{mark_of}
use Rattle.lower_laws_base.specs.Mirror.{plain, sized, instance_exp, part_exp, slot_exp, width_in, resized, source_exp, method_stmt, valid_exp, drop_stmt, guarded, copies_stmt}

-- numbers

-- an operator on two sources, each at this width ("Operations on fixed-width bit types (unsigned integers)")
abbrev pub both_exp : Words → At → BinaryOperator → ℕ → Source → Source → Exp16
both_exp w at op width a b = binary op (source_exp w at width a) (source_exp w at width b)

-- the bits of the mask from the new number, and the others from the old one (P4_14, "Primitive Actions", `modify_field`
-- with a mask)
abbrev pub masked_exp : Exp16 → Exp16 → Exp16 → Exp16
masked_exp old new mask = binary BitOr (binary BitAnd old (unary Complement mask)) (binary BitAnd new mask)

-- the least width from this one on that the number needs, of so many more
abbrev pub needed_from : ℕ → ℕ → ℕ → ℕ
needed_from zero width n = width
needed_from (suc more) width n = if nat_lt n (2 ^ width) then width else needed_from more (suc width) n

-- bits that a number needs, 1 at least and 128 at most
unfoldable pub needed : ℕ → ℕ
needed n = needed_from 127 1 n

-- a literal below 0 without its sign; any other source as it is
abbrev pub absolute : Source → Source
absolute (number (negsuc k)) = number (pos (suc k))
absolute a = a

-- a literal below 0
abbrev pub is_negative : Source → Bool
is_negative (number (negsuc k)) = true
is_negative _ = false

-- the width of a source by itself: as many bits as a literal needs, and those of a field or a parameter
abbrev pub own_width : Words → Source → ℕ
own_width w (number (pos k)) = needed k
own_width w (number (negsuc k)) = needed (suc k)
own_width w (field slot) = width_in w slot
own_width w (parameter j) = (field_at w.parameters j).width

-- the source at its own width; nothing negative is asked for
abbrev pub own_exp : Words → At → Source → Exp16
own_exp w at (number (pos k)) = literal (sized (needed k) k)
own_exp w at (number (negsuc k)) = no_arguments
own_exp w at (field slot) = slot_exp w at slot
own_exp w at (parameter j) = name (field_at w.parameters j).called

-- a literal behind its sign turns a sum into a difference, and the other way round
abbrev pub signed : Term → Term
signed (sum a (number (negsuc k))) = difference a (number (pos (suc k)))
signed (difference a (number (negsuc k))) = sum a (number (pos (suc k)))
signed term = term

-- the greatest number of the width in place of a greater one: what the wider width has more is added, so that a greater
-- one saturates, and is taken away again (P4_16, "Operations on fixed-width bit types (unsigned integers)", `|+|`)
abbrev pub stop_exp : ℕ → ℕ → Exp16 → Exp16
stop_exp width wide e =
    if width == wide then e
    else
    cast (cast_to.Bit (plain width))
    (binary Subtract (binary SaturatingAdd e (literal (sized wide (2 ^ wide - 2 ^ width)))) (literal (sized wide (2 ^ wide - 2 ^ width))))

-- a width at which both sources are whole, no less than the target's
abbrev pub wide_of : Words → ℕ → Source → Source → ℕ
wide_of w width a b = max width (max (own_width w a) (own_width w b))

-- a sum of two numbers with signs, where true is below 0, kept within the width
abbrev pub signs_exp : Words → At → ℕ → Source → Source → Bool → Bool → Exp16
signs_exp w at width a b false false = let wide = wide_of w width a b in stop_exp width wide (both_exp w at SaturatingAdd wide (absolute a) (absolute b))
signs_exp w at width a b false true = let wide = wide_of w width a b in stop_exp width wide (both_exp w at SaturatingSubtract wide (absolute a) (absolute b))
signs_exp w at width a b true false = let wide = wide_of w width a b in stop_exp width wide (both_exp w at SaturatingSubtract wide (absolute b) (absolute a))
signs_exp w at width a b true true = literal (sized width 0)

-- a sum or a difference that is kept within a width
abbrev pub stopped_exp : Words → At → ℕ → Term → Exp16
stopped_exp w at width (sum a b) = signs_exp w at width a b (is_negative a) (is_negative b)
stopped_exp w at width (difference a b) = signs_exp w at width a b (is_negative a) (not (is_negative b))
stopped_exp w at width _ = no_arguments

-- what a field of this width gets of a term; K is the number of the primitive (P4_14, "Primitive Actions", of which
-- each term is one)
abbrev pub term_exp : Words → At → ℕ → Target → Term → Exp16
term_exp w at K t (just a) = source_exp w at t.width a
term_exp w at K t (on_mask a mask) = masked_exp (source_exp w at t.width (field t.slot)) (source_exp w at t.width a) (source_exp w at t.width mask)
term_exp w at K t (sum a b) = both_exp w at Add t.width a b
term_exp w at K t (difference a b) = both_exp w at Subtract t.width a b
term_exp w at K t (conjunction a b) = both_exp w at BitAnd t.width a b
term_exp w at K t (disjunction a b) = both_exp w at BitOr t.width a b
term_exp w at K t (exclusive a b) = both_exp w at BitXor t.width a b
term_exp w at K t (cell object index) = resized (object_at w.objects object).width t.width (name (w.spare K 0))
term_exp w at K t (left_shift a b) = binary ShiftLeft (source_exp w at t.width a) (own_exp w at b)
term_exp w at K t (right_shift a b) = resized (own_width w a) t.width (binary ShiftRight (own_exp w at a) (own_exp w at b))
term_exp w at K t (hashed base calculation bound) = name (w.spare K 0)

-- what is written to a field: a sum or a difference that saturates (P4_14, "Header Type Declarations", `saturating`),
-- or the term at the field's width
abbrev pub write_exp : Words → At → ℕ → Bool → Target → Term → Exp16
write_exp w at K sums t term = if sums && t.saturating then stopped_exp w at t.width term else term_exp w at K t (signed term)

-- calls of objects

-- a method of the object with this number
abbrev pub object_stmt : Words → ℕ → Name → Exp16 → Stmt16
object_stmt w object word given = expression (call (member (name (object_at w.objects object).called) word) given)

-- a list of one argument
abbrev pub one_argument : Exp16 → Exp16
one_argument e = argument no_arguments e

-- a list of two arguments
abbrev pub two_arguments : Exp16 → Exp16 → Exp16
two_arguments e f = argument (argument no_arguments e) f

-- hashes

-- a call of a function of `v1model.p4`
abbrev pub function_stmt : Name → Exp16 → Stmt16
function_stmt text given = expression (call (name text) given)

-- the bits that an algorithm gives by itself (P4_14, "Checksums and Hash-value Generators")
abbrev pub algorithm_width : Name → ℕ
algorithm_width algorithm =
    if bytes_eq algorithm (codes "csum16") then 16
    else if bytes_eq algorithm (codes "crc16") then 16
    else if bytes_eq algorithm (codes "crc32") then 32 else 128

-- an item of a hash: a number with its width, or a field
abbrev pub item_exp : List Decl → Words → At → Item → Exp16
item_exp ds w at (item.Number n) = literal (sized (unwrap_or n.width 0) n.value)
item_exp ds w at (item.Field r) = slot_exp w at (slot_of ds r)
item_exp ds w at _ = no_arguments

-- the items of a hash as arguments behind others
abbrev pub items_exp : List Decl → Words → At → Exp16 → List Item → Exp16
items_exp ds w at given [] = given
items_exp ds w at given (i ∷ items) = items_exp ds w at (argument given (item_exp ds w at i)) items

-- `hash` of `v1model.p4`: to this variable, by this algorithm, from a base on, over these items, up to a bound
abbrev pub hash_stmt : Name → Name → Exp16 → Exp16 → Exp16 → Stmt16
hash_stmt to algorithm base items bound =
    function_stmt (codes "hash")
    (argument (argument (argument (argument (argument no_arguments (name to)) (member (name (codes "HashAlgorithm")) algorithm)) base) (listed items)) bound)

-- the result cut to the bits that the calculation gives
abbrev pub cut_stmts : List Decl → Words → At → Name → Calculation → List Stmt16
cut_stmts ds w at to calculation =
    var (Bit (plain calculation.width)) to
    ∷ hash_stmt to calculation.algorithm (literal (sized 1 0)) (items_exp ds w at no_arguments calculation.items) (literal (sized (suc calculation.width) (2 ^ calculation.width))) ∷ []

-- a hash to a variable of the term's own: at once, or, where the calculation gives fewer bits than its algorithm, first
-- cut to them
abbrev pub hash_stmts : List Decl → Words → At → ℕ → ℕ → Source → Calculation → Source → Bool → List Stmt16
hash_stmts ds w at K width base calculation bound false =
    var (Bit (plain width)) (w.spare K 0)
    ∷ hash_stmt (w.spare K 0) calculation.algorithm (own_exp w at base) (items_exp ds w at no_arguments calculation.items) (own_exp w at bound) ∷ []
hash_stmts ds w at K width base calculation bound true =
    cut_stmts ds w at (w.spare K 1) calculation
    ++ var (Bit (plain width)) (w.spare K 0)
    ∷ hash_stmt (w.spare K 0) (codes "identity") (own_exp w at base) (argument no_arguments (name (w.spare K 1))) (own_exp w at bound) ∷ []

-- A primitive's front: what a term reads of a register, or its hash, goes to a variable of the term's own.
abbrev pub read_front : List Decl → Words → At → ℕ → ℕ → Term → List Stmt16
read_front ds w at K width (cell object index) =
    var (Bit (plain (object_at w.objects object).width)) (w.spare K 0)
    ∷ object_stmt w object (codes "read") (two_arguments (name (w.spare K 0)) (source_exp w at 32 index)) ∷ []
read_front ds w at K width (hashed base calculation bound) =
    hash_stmts ds w at K width base calculation bound (nat_lt calculation.width (algorithm_width calculation.algorithm))
read_front ds w at K width _ = []

-- the front of a primitive; only a write has one
abbrev pub front : List Decl → Words → At → ℕ → Primitive → List Stmt16
front ds w at K (write sums t term) = read_front ds w at K t.width term
front ds w at K _ = []

-- 511 as it is goes to `egress_spec`, by which P4_14 drops
abbrev pub drops : Slot → Term → Bool
drops (standard EgressSpec) (just (number (pos n))) = n == drop_port
drops _ _ = false

-- the field gets its number, under the parallel rule where its header was valid at the entry
abbrev pub write_guarded : Words → At → ℕ → Bool → Target → Term → Stmt16
write_guarded w at K sums t term = guarded w at t.slot (assign (slot_exp w now t.slot) (write_exp w at K sums t term))

-- a write: the packet is dropped, or the field gets its number
abbrev pub write_stmt : Words → At → ℕ → Bool → Target → Term → Stmt16
write_stmt w at K sums t term = if drops t.slot term then drop_stmt w else write_guarded w at K sums t term

-- a header that wasn't valid at the entry becomes valid anew, in braces: two statements are no branch by themselves
abbrev pub anew_stmts : Words → Element → Stmt16
anew_stmts w part = (then) ((then) no_statements (method_stmt (part_exp w now part) (codes "setInvalid"))) (method_stmt (part_exp w now part) (codes "setValid"))

-- a header that isn't valid becomes valid, with fields that are 0: `setValid` does so as the moment stands; under the
-- parallel rule it is the entry's validity that counts
abbrev pub add_stmt : Words → At → Element → Stmt16
add_stmt w now part = method_stmt (part_exp w now part) (codes "setValid")
add_stmt w entry part = if_then (unary Not (valid_exp (part_exp w entry part))) (block (anew_stmts w part))

-- the name of the variable that a meter's colour goes to, the third of those of its primitive
abbrev pub other_name : Words → ℕ → Name
other_name w K = w.spare K 2

-- a meter's colour goes to a variable of 8 bits, and from there to the field (P4_14, "Meters"; `v1model.p4`, `meter`)
abbrev pub meter_stmts : Words → At → ℕ → ℕ → Source → Target → List Stmt16
meter_stmts w at K object index t =
    (var (Bit (plain 8)) (other_name w K)
    ∷ object_stmt w object (codes "execute_meter") (two_arguments (source_exp w at 32 index) (name (other_name w K))) ∷ [])
    ++ guarded w at t.slot (assign (slot_exp w now t.slot) (resized 8 t.width (name (other_name w K)))) ∷ []

-- requests

-- the mark of a field list that is preserved, and 0 without one
abbrev pub mark_number : Words → Option ℕ → ℕ
mark_number w None = 0
mark_number w (Some list) = unwrap_or (mark_of w.names.marks list) 0

-- the mark as an argument, of 8 bits
abbrev pub mark_exp : Words → Option ℕ → Exp16
mark_exp w list = literal (sized 8 (mark_number w list))

-- a clone of this type to a session, which preserves a list (`v1model.p4`, `clone_preserving_field_list`)
abbrev pub clone_stmt : Words → At → Name → Source → Option ℕ → Stmt16
clone_stmt w at word session list =
    function_stmt (codes "clone_preserving_field_list")
    (argument (argument (argument no_arguments (member (name (codes "CloneType")) word)) (source_exp w at 32 session)) (mark_exp w list))

-- a request: a clone, `resubmit` or `recirculate`, each with the list that it preserves
abbrev pub request_stmt : Words → At → RequestKind → Source → Option ℕ → Stmt16
request_stmt w at CloneI2E session list = clone_stmt w at (codes "I2E") session list
request_stmt w at CloneE2E session list = clone_stmt w at (codes "E2E") session list
request_stmt w at Resubmit session list = function_stmt (codes "resubmit_preserving_field_list") (one_argument (mark_exp w list))
request_stmt w at Recirculate session list = function_stmt (codes "recirculate_preserving_field_list") (one_argument (mark_exp w list))

-- stacks

-- a stack moves by so many elements ("Operations on header stacks", `push_front`, `pop_front`)
abbrev pub stack_stmt : Words → ℕ → Name → ℕ → Stmt16
stack_stmt w i word n =
    expression (call (member (instance_exp w now (shown_at w.names.instances i)) word) (one_argument (literal (sized 32 n))))

-- under the parallel rule the stack is first the one of the entry
abbrev pub stack_copied : Words → At → ℕ → List Stmt16
stack_copied w now i = []
stack_copied w entry i =
    assign (instance_exp w now (shown_at w.names.instances i)) (instance_exp w entry (shown_at w.names.instances i)) ∷ []

-- so many elements of a stack from a place on become valid ("Operations on headers", `setValid`)
abbrev pub elements_set : Words → ℕ → ℕ → ℕ → List Stmt16
elements_set w i e zero = []
elements_set w i e (suc n) =
    method_stmt (part_exp w now (record { instance = i; element = e })) (codes "setValid") ∷ elements_set w i (suc e) n

-- `push`: the stack moves to the back, and the new elements in front become valid, as P4_14 has it ("Primitive
-- Actions")
abbrev pub push_stmts : Words → At → ℕ → ℕ → List Stmt16
push_stmts w at i n = stack_copied w at i ++ stack_stmt w i (codes "push_front") n ∷ elements_set w i 0 (min n (w.size_of i))

-- `pop`: the stack moves to the front (P4_14, "Primitive Actions"; "Operations on header stacks", `pop_front`)
abbrev pub pop_stmts : Words → At → ℕ → ℕ → List Stmt16
pop_stmts w at i n = stack_copied w at i ++ stack_stmt w i (codes "pop_front") n ∷ []

-- the rest of what a primitive does, behind its front
abbrev pub rest : Words → At → ℕ → Primitive → List Stmt16
rest w at K (write sums t term) = write_stmt w at K sums t term ∷ []
rest w at K (add_header part) = add_stmt w at part ∷ []
rest w at K (remove_header part) = method_stmt (part_exp w now part) (codes "setInvalid") ∷ []
rest w at K (copy_header to from) = assign (part_exp w now to) (part_exp w at from) ∷ []
rest w at K (count_cell object index) = object_stmt w object (codes "count") (one_argument (source_exp w at 32 index)) ∷ []
rest w at K (write_cell object index value) =
    object_stmt w object (codes "write") (two_arguments (source_exp w at 32 index) (source_exp w at (object_at w.objects object).width value)) ∷ []
rest w at K (execute_meter object index t) = meter_stmts w at K object index t
rest w at K (ask kind session list) = request_stmt w at kind session list ∷ []
rest w at K (push i n) = push_stmts w at i n
rest w at K (pop i n) = pop_stmts w at i n
rest w at K nothing = []

-- bodies

-- statements one after another behind others
abbrev pub behind_stmts : Stmt16 → List Stmt16 → Stmt16
behind_stmts x [] = x
behind_stmts x (y ∷ ys) = behind_stmts ((then) x y) ys

-- the sequential rule: one primitive after another
abbrev pub in_order : List Decl → Words → ℕ → List Primitive → List Stmt16
in_order ds w K [] = []
in_order ds w K (p ∷ ps) = (front ds w now K p ++ rest w now K p) ++ in_order ds w (suc K) ps

-- the parallel rule: all registers are read first
abbrev pub fronts : List Decl → Words → ℕ → List Primitive → List Stmt16
fronts ds w K [] = []
fronts ds w K (p ∷ ps) = front ds w entry K p ++ fronts ds w (suc K) ps

-- all rests of the parallel rule, one after another
abbrev pub rests : Words → ℕ → List Primitive → List Stmt16
rests w K [] = []
rests w K (p ∷ ps) = rest w entry K p ++ rests w (suc K) ps

-- the statements of the sequential rule, primitives numbered from 0
abbrev pub sequential_stmts : List Decl → Words → List Primitive → List Stmt16
sequential_stmts ds w ps = in_order ds w 0 ps

-- those of the parallel rule: all fronts, then all rests
abbrev pub parallel_stmts : List Decl → Words → List Primitive → List Stmt16
parallel_stmts ds w ps = fronts ds w 0 ps ++ rests w 0 ps

-- a body under the sequential rule, behind what it does first
abbrev pub sequential_body : List Decl → Words → Stmt16 → List Primitive → Stmt16
sequential_body ds w x ps = behind_stmts x (sequential_stmts ds w ps)

-- a body under the parallel rule: the parameters of the block are copied before the first primitive
abbrev pub parallel_body : List Decl → Words → Stmt16 → List Primitive → Stmt16
parallel_body ds w x ps = behind_stmts (copies_stmt w x) (parallel_stmts ds w ps)

-- the copy of an action for a table with a direct counter counts first
abbrev pub counts_first : Words → Option ℕ → Stmt16
counts_first w None = no_statements
counts_first w (Some object) = (then) no_statements (object_stmt w object (codes "count") no_arguments)

-- operands are read at the copies, or, where none are needed, at the moment as it stands
abbrev pub body_stmt : List Decl → Words → Rule14 → Option ℕ → List Primitive → Stmt16
body_stmt ds w rule counter ps =
    if needs_copies ds rule ps then parallel_body ds w (counts_first w counter) ps else sequential_body ds w (counts_first w counter) ps
