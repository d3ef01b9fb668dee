-- T12: H and M together, each stack element by itself, have over 131,072 fields, or the headers of H over 32,768 octets; the
-- variables and action parameters of header, stack or struct types have together over 262,144 fields or over 131,072 octets
-- of headers; the objects that aren't direct have over 4,194,304 cells together, one of these over 1,048,576 or none; or
-- blocks or expression trees nest over 512 deep (the limits are this project's own). A leaf is 1 deep, an operator, a member,
-- an element, a slice, a cast, a call and a list in braces add 1, parentheses nothing. The outermost block is the first;
-- `else if`, and a branch without braces, are no block.
use Rattle.std.specs.Prelude.{ℕ, zero, suc, ◌+◌, ◌*◌, ◌/◌, max, Bool, true, false, ◌||◌, ◌&&◌, nat_lt, List, [], ◌∷◌, length, flat_map, sum_by}
use Rattle.std.specs.List.{list_any}
use Rattle.p416_syntax.specs.declared.controls.Instance.{Instance}
use Rattle.p416_syntax.specs.declared.controls.Instance.TheVariants as instance
use Rattle.p416_syntax.specs.declared.controls.Local.{Local}
use Rattle.p416_syntax.specs.declared.controls.Local.TheVariants as local
use Rattle.p416_syntax.specs.declared.program.Decl16.{Decl16}
use Rattle.p416_syntax.specs.declared.program.Decl16.TheVariants as decl
use Rattle.p416_syntax.specs.declared.program.Syntax16.{Syntax16}
use Rattle.p416_syntax.specs.Tree.{Exp16, literal, member, index, slice, call, lookahead, cast, unary, binary, choice, no_arguments, argument, listed}
use Rattle.p416_syntax.specs.Names.{Name}
use Rattle.p416_syntax.specs.Kinds.{Kind, bits, header, stack, struct, is_header, is_stack, is_struct}
use Rattle.p416_syntax.specs.Scopes.{Layout, FieldKind, fields_in, kind_of_type}
use Rattle.p416_syntax.specs.Uses.{Use, an_expression, a_type, a_body, TypePlace, of_variable, of_action_parameter}
use Rattle.p416_syntax.specs.Declarations.{layouts_of}
use Rattle.p416_syntax.specs.Main.{headers_kind, metadata_kind}

-- depth

abbrev pub depth : Exp16 → ℕ
depth (member e word) = 1 + depth e
depth (index e at) = 1 + depth e
depth (slice e high low) = 1 + depth e
depth (call e given) = 1 + max (depth e) (depth given)
depth (lookahead e to given) = 1 + max (depth e) (depth given)
depth (cast to e) = 1 + depth e
depth (unary operator e) = 1 + depth e
depth (binary operator a b) = 1 + max (depth a) (depth b)
depth (choice c a b) = 1 + max (depth c) (max (depth a) (depth b))
depth no_arguments = 0
depth (argument before last) = max (depth before) (depth last)
depth (listed es) = 1 + depth es
depth _ = 1

-- what is judged nests too deep
abbrev pub is_too_deep : Use → Bool
is_too_deep (an_expression s p e) = nat_lt 512 (depth e)
is_too_deep (a_body d) = nat_lt 512 d
is_too_deep _ = false

-- fields and octets

-- How many fields, or how many octets of headers, a value of a kind has, counted through so many structs within each other. A
-- program that keeps T1 has no struct within itself, so that as many as there are types are all.
abbrev pub bits_in : Kind → ℕ
bits_in (bits w) = w
bits_in _ = 0

abbrev pub field_bits : FieldKind → ℕ
field_bits f = bits_in f.kind

abbrev pub header_fields : List Layout → Name → ℕ
header_fields layouts type = length (fields_in layouts type)

abbrev pub header_octets : List Layout → Name → ℕ
header_octets layouts type = sum_by field_bits (fields_in layouts type) / 8

abbrev pub fields_within : List Layout → ℕ → Kind → ℕ
fields_within layouts n (header type) = header_fields layouts type
fields_within layouts n (stack type size) = size * header_fields layouts type
fields_within layouts zero (struct type) = 0
fields_within layouts (suc n) (struct type) = sum_by (λ f. fields_within layouts n f.kind) (fields_in layouts type)
fields_within layouts n _ = 1

abbrev pub octets_within : List Layout → ℕ → Kind → ℕ
octets_within layouts n (header type) = header_octets layouts type
octets_within layouts n (stack type size) = size * header_octets layouts type
octets_within layouts zero (struct type) = 0
octets_within layouts (suc n) (struct type) = sum_by (λ f. octets_within layouts n f.kind) (fields_in layouts type)
octets_within layouts n _ = 0

abbrev pub fields_of_kind : List Layout → Kind → ℕ
fields_of_kind layouts k = fields_within layouts (length layouts) k

abbrev pub octets_of_kind : List Layout → Kind → ℕ
octets_of_kind layouts k = octets_within layouts (length layouts) k

-- H and M
abbrev pub has_large_headers : Syntax16 → Bool
has_large_headers s =
    nat_lt 131072 (fields_of_kind (layouts_of s.decls) (headers_kind s) + fields_of_kind (layouts_of s.decls) (metadata_kind s))
    || nat_lt 32768 (octets_of_kind (layouts_of s.decls) (headers_kind s))

-- variables and action parameters

abbrev pub is_held : TypePlace → Bool
is_held of_variable = true
is_held of_action_parameter = true
is_held _ = false

abbrev pub is_compound : Kind → Bool
is_compound k = is_header k || (is_stack k || is_struct k)

abbrev pub if_held : Bool → Kind → List Kind
if_held true k = k ∷ []
if_held false k = []

abbrev pub held_kinds : Use → List Kind
held_kinds (a_type s p t) = if_held (is_held p && is_compound (kind_of_type s.names t)) (kind_of_type s.names t)
held_kinds _ = []

abbrev pub has_large_variables : List Layout → List Use → Bool
has_large_variables layouts us =
    nat_lt 262144 (sum_by (fields_of_kind layouts) (flat_map held_kinds us))
    || nat_lt 131072 (sum_by (octets_of_kind layouts) (flat_map held_kinds us))

-- cells

abbrev pub size_value : Exp16 → ℕ
size_value (literal n) = n.value
size_value _ = 0

abbrev pub instance_cells : Instance → List ℕ
instance_cells (instance.Counter size m text) = size_value size ∷ []
instance_cells (instance.DirectCounter m text) = []
instance_cells (instance.Register width size text) = size_value size ∷ []
instance_cells (instance.Meter size m text) = size_value size ∷ []

abbrev pub local_cells : Local → List ℕ
local_cells (local.Instance notes i) = instance_cells i
local_cells _ = []

abbrev pub cells_in : Decl16 → List ℕ
cells_in (decl.Instance notes i) = instance_cells i
cells_in (decl.Control c) = flat_map local_cells c.locals
cells_in _ = []

abbrev pub is_bad_cell_count : ℕ → Bool
is_bad_cell_count n = nat_lt n 1 || nat_lt 1048576 n

abbrev pub cell_sum : List ℕ → ℕ
cell_sum counts = sum_by (λ n. n) counts

abbrev pub has_bad_cells : List Decl16 → Bool
has_bad_cells ds =
    list_any is_bad_cell_count (flat_map cells_in ds) || nat_lt 4194304 (cell_sum (flat_map cells_in ds))
