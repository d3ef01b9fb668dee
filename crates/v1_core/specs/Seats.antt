-- Where the parts of a value stand among those of a frame: a value has its slots, headers and stacks one after another, in the
-- order of declaration (this project's own).
use Rattle.std.specs.Prelude.{ℕ, zero, suc, ◌+◌, ◌*◌, if◌then◌else◌, List, [], ◌∷◌, length, Option, Some, None}
use Rattle.std.specs.Str.{bytes_eq}
use Rattle.p416_syntax.specs.Names.{Name}
use Rattle.p416_syntax.specs.Kinds.{Kind, bits, boolean, error_code, header, stack, struct}
use Rattle.p416_syntax.specs.Scopes.{Layout, FieldKind, fields_in}
use Rattle.p416_syntax.specs.Totals.{bits_in}
use Rattle.v1_core.specs.Values.{Step, to_member, to_element}

-- what stands in a slot
pub data Content : Type 0 where
  some_bits : (width : ℕ) → Content
  a_truth : Content
  an_error : Content

-- what parts a value of a kind has: one slot, those of a header, of a stack or of a struct, or none
pub data Form : Type 0 where
  slot_form : (of : Content) → Form
  header_form : (type : Name) → Form
  stack_form : (type : Name) (size : ℕ) → Form
  struct_form : (type : Name) → Form
  no_form : Form

abbrev pub form_of : Kind → Form
form_of (bits width) = slot_form (some_bits width)
form_of boolean = slot_form a_truth
form_of error_code = slot_form an_error
form_of (header type) = header_form type
form_of (stack type size) = stack_form type size
form_of (struct type) = struct_form type
form_of _ = no_form

-- the first slot, the first header and the first stack of a value
pub record Start : Type 0 where
  pub slot : ℕ
  pub header : ℕ
  pub stack : ℕ

-- behind so many slots, headers and stacks
abbrev pub moved : Start → ℕ → ℕ → ℕ → Start
moved b slots headers stacks =
    record { slot = b.slot + slots; header = b.header + headers; stack = b.stack + stacks }

-- where what stands behind members begins
abbrev pub behind_members : (Form → Start → Start) → List FieldKind → Start → Start
behind_members next [] b = b
behind_members next (f ∷ fields) b = behind_members next fields (next (form_of f.kind) b)

-- where what stands behind a value begins, through so many structs within each other
abbrev pub behind : List Layout → ℕ → Form → Start → Start
behind types n (slot_form of) b = moved b 1 0 0
behind types n (header_form type) b = moved b (length (fields_in types type)) 1 0
behind types n (stack_form type size) b = moved b (size * length (fields_in types type)) size 1
behind types zero (struct_form type) b = b
behind types (suc n) (struct_form type) b = behind_members (λ k s. behind types n k s) (fields_in types type) b
behind types n no_form b = b

-- a part: its form, through how many structs within each other it is looked into, where it begins, and the header of which it
-- is a field
pub record Seat : Type 0 where
  pub depth : ℕ
  pub form : Form
  pub start : Start
  pub owner : Option ℕ

abbrev pub seat : ℕ → Form → Start → Seat
seat depth form start = record { depth = depth; form = form; start = start; owner = None }

abbrev pub behind_seat : List Layout → Seat → Start
behind_seat types s = behind types s.depth s.form s.start

-- the first of the members with a name, or of the fields of a header

abbrev pub member_seat : (Form → Start → Start) → ℕ → List FieldKind → Start → Name → Option Seat
member_seat next n [] b word = None
member_seat next n (f ∷ fields) b word =
    if bytes_eq f.called word then Some (seat n (form_of f.kind) b)
    else member_seat next n fields (next (form_of f.kind) b) word

abbrev pub field_form : FieldKind → Form
field_form f = slot_form (some_bits (bits_in f.kind))

abbrev pub field_seat : ℕ → ℕ → List FieldKind → Start → Name → Option Seat
field_seat owner n [] b word = None
field_seat owner n (f ∷ fields) b word =
    if bytes_eq f.called word then Some (record { depth = n; form = field_form f; start = b; owner = Some owner })
    else field_seat owner n fields (moved b 1 0 0) word

-- the element with a number, of so many that have so many fields each
abbrev pub element_seat : ℕ → Name → ℕ → ℕ → Start → ℕ → Option Seat
element_seat n type fields zero b number = None
element_seat n type fields (suc size) b zero = Some (seat n (header_form type) b)
element_seat n type fields (suc size) b (suc number) = element_seat n type fields size (moved b fields 1 0) number

-- what a step leads to, if it leads anywhere
abbrev pub stepped_seat : List Layout → ℕ → Form → Start → Step → Option Seat
stepped_seat types n (header_form type) b (to_member word) = field_seat b.header n (fields_in types type) b word
stepped_seat types n (stack_form type size) b (to_element number) =
    element_seat n type (length (fields_in types type)) size b number
stepped_seat types (suc n) (struct_form type) b (to_member word) =
    member_seat (λ k s. behind types n k s) n (fields_in types type) b word
stepped_seat types n form b step = None

abbrev pub seat_behind : (Seat → Option Seat) → Option Seat → Option Seat
seat_behind further None = None
seat_behind further (Some s) = further s

-- what steps lead to
abbrev pub seat_at : List Layout → List Step → Seat → Option Seat
seat_at types [] s = Some s
seat_at types (step ∷ path) s =
    seat_behind (λ t. seat_at types path t) (stepped_seat types s.depth s.form s.start step)
