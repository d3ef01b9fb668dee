-- A parameter of an action enters the frame at once: the value of its argument, its parts, or 0.
use Rattle.std.proofs.Common.{◌≡◌, ◌≢◌, ◌⊎◌, inl, inr, ℕ, zero, suc, ◌%◌, ◌^◌, nat_eq, ◌||◌, ◌&&◌, Bool, true, false, cond, Option, Some, None, IfSome, List, [], ◌∷◌, length, refl, sym, ap, ◌∙◌, subst}
use Rattle.std.specs.Prelude.{option_map}
use Rattle.std.specs.Str.{bytes_eq}
use Rattle.std.proofs.lemmas.Bool.{eqb-true}
use Rattle.std.proofs.lemmas.Slice.Eq.{bytes_eq-Decides}
use Rattle.p416_syntax.specs.declared.parts.Direction.{Direction}
use Rattle.p416_syntax.specs.declared.parts.Direction.TheVariants.{In, Out, InOut}
use Rattle.p416_syntax.specs.declared.parts.Param.{Param}
use Rattle.p416_syntax.specs.Tree.{Exp16, literal, truth, error, name, member, index, slice, call, lookahead, cast, unary, binary, choice, parenthesized, no_arguments, argument, listed}
use Rattle.p416_syntax.specs.Kinds.{Kind, bits, unsized, boolean, error_code, header, stack, struct, packet_in, packet_out, errors, enumeration, one_of, table, applied, object, items, nothing, unknown, is_unsized}
use Rattle.p416_syntax.specs.Scopes.{Layout, FieldKind, fields_in, Scope, Handed, kind_of_type}
use Rattle.p416_syntax.specs.Calls.{Place, value, written, place_of}
use Rattle.p416_syntax.specs.Expressions.{kind_of}
use Rattle.p416_syntax.specs.Types.{takes, takes_kind}
use Rattle.p416_syntax.specs.Writes.{is_written_place}
use Rattle.p416_syntax.specs.Breaks.{BreaksNone, program_rules}
use Rattle.p416_syntax.specs.Declarations.{layouts_of}
use Rattle.v1_core.specs.Values.{Value, a_number, number_in, fitted, zero_within, zero_value, members_from}
use Rattle.v1_core.specs.Frames as sem
use Rattle.v1_core.specs.Frames.{read}
use Rattle.v1_core.specs.Surroundings as meaning
use Rattle.v1_core.specs.Slots.{the_variable, parameter_kind}
use Rattle.v1_core.specs.Numbered.{InScope}
use Rattle.v1_core.specs.Expressions as sem_expressions
use Rattle.v1_core.specs.Expressions.{valued, reference_of, value_of}
use Rattle.v1_core.specs.Calls as calls
use Rattle.v1_core.specs.Calls.{by_value, by_reference, argument_at, copied_in}
use Rattle.v1_core.specs.Cells.{Cells, slot_value}
use Rattle.v1_core.specs.Seats.{Content, some_bits, a_truth, an_error, Form, slot_form, header_form, stack_form, struct_form, no_form, form_of, Seat}
use Rattle.v1_core.specs.PackedValues.{content_value, seat_value}
use Rattle.v1_core.specs.Programs.{part_seat}
use Rattle.v1_core.specs.PackedFrames.{IsFrameOf}
use Rattle.v1_core.specs.Ready.{Ended}
use Rattle.v1_ready_forms.specs.Named.{NamedSeat, seats_in}
use Rattle.v1_ready_forms.specs.Ways.{its_value}
use Rattle.v1_ready_laws.specs.Rules.{Keeps, NamesSeated}
use Rattle.v1_ready_blocks.specs.Moments.{Moment, with_cells}
use Rattle.v1_ready_blocks.specs.Places.{put_value, copied, emptied}
use Rattle.v1_ready_blocks.specs.Tests.{Applied, World, Test, test_value, with_test, Source, Sought, source_range, with_source}
use Rattle.v1_ready_blocks.specs.Arguments.{Incoming, value_in, parts_in, zero_in, Outgoing, placed}
use Rattle.v1_ready_blocks.specs.Arguments as incoming
use Rattle.v1_parser_laws.specs.Ranges.{IsRangeOf, all_of}
use Rattle.v1_place_laws.specs.Laws.{FitsSlot}
use Rattle.v1_place_laws.specs.Places.{Meant, meant_by, range_of}
use Rattle.v1_deed_laws.specs.Forms.{IsParted}
use Rattle.v1_ready_statements.specs.Around.{Around, table_found}
use Rattle.v1_ready_statements.specs.Tested.{applies, ready_test, ready_source}
use Rattle.v1_ready_statements.specs.Given.{is_back, is_out, incoming_at}
use Rattle.v1_value_laws.specs.Kinds.{Fine, FormIs}
use Rattle.v1_value_laws.proofs.Taken.{taken}
use Rattle.v1_statement_laws.specs.Behind.{Shown}
use Rattle.v1_statement_laws.specs.Laws.{HasParts}
use Rattle.v1_statement_laws.proofs.Fitting.{whole_fits}
use Rattle.v1_statement_laws.proofs.Sources.{Composite, untold_reads}
use Rattle.v1_statement_laws.proofs.Starting.{range_is}
use Rattle.v1_call_laws.specs.Telling.{ToldNone, IsValueOf, ValueTold, Tells, TestsTell}
use Rattle.v1_call_laws.proofs.Arguments.{argument_is}
use Rattle.v1_call_laws.proofs.Handing.{referred_is}
use Rattle.v1_call_laws.proofs.Targets.{at_once, never_unsized}
use Rattle.v1_call_laws.specs.Sourcing.{PartTold, SourcesTell, FormsAgree}
use Rattle.v1_call_laws.specs.Handing.{IsHanded}
use Rattle.v1_call_laws.proofs.Setting.{IsSet, value_at, emptied_set, copied_set, slot_set, stands_as, seated as variable_seated}
use Rattle.v1_call_laws.proofs.Parameters.{Stands, OutAt, OutWay, out_slot, out_parts, Backs}
use Rattle.v1_call_laws.proofs.Still.{is_plain, sources_stay}
use Rattle.v1_call_laws.proofs.Reading.{Single, single_reads}

-- kinds

pub single_form : (k : Kind) (of : Content) → form_of k ≡ slot_form of → Single k
single_form (bits width) of is = tt
single_form unsized of is = absurd (cc is)
single_form boolean of is = tt
single_form error_code of is = tt
single_form (header type) of is = absurd (cc is)
single_form (stack type many) of is = absurd (cc is)
single_form (struct type) of is = absurd (cc is)
single_form packet_in of is = absurd (cc is)
single_form packet_out of is = absurd (cc is)
single_form errors of is = absurd (cc is)
single_form (enumeration enum) of is = absurd (cc is)
single_form (one_of enum) of is = absurd (cc is)
single_form table of is = absurd (cc is)
single_form applied of is = absurd (cc is)
single_form (object obj) of is = absurd (cc is)
single_form items of is = absurd (cc is)
single_form nothing of is = absurd (cc is)
single_form unknown of is = absurd (cc is)

pub composite_form : (k : Kind) → IsParted (form_of k) → Composite k
composite_form (bits width) h = absurd h
composite_form unsized h = absurd h
composite_form boolean h = absurd h
composite_form error_code h = absurd h
composite_form (header type) h = tt
composite_form (stack type many) h = tt
composite_form (struct type) h = tt
composite_form packet_in h = absurd h
composite_form packet_out h = absurd h
composite_form errors h = absurd h
composite_form (enumeration enum) h = absurd h
composite_form (one_of enum) h = absurd h
composite_form table h = absurd h
composite_form applied h = absurd h
composite_form (object obj) h = absurd h
composite_form items h = absurd h
composite_form nothing h = absurd h
composite_form unknown h = absurd h

pub form_parted : (k : Kind) → Composite k → IsParted (form_of k)
form_parted (bits width) h = absurd h
form_parted unsized h = absurd h
form_parted boolean h = absurd h
form_parted error_code h = absurd h
form_parted (header type) h = tt
form_parted (stack type many) h = tt
form_parted (struct type) h = tt
form_parted packet_in h = absurd h
form_parted packet_out h = absurd h
form_parted errors h = absurd h
form_parted (enumeration enum) h = absurd h
form_parted (one_of enum) h = absurd h
form_parted table h = absurd h
form_parted applied h = absurd h
form_parted (object obj) h = absurd h
form_parted items h = absurd h
form_parted nothing h = absurd h
form_parted unknown h = absurd h

pub has_parts : (k : Kind) → Composite k → HasParts k
has_parts (bits width) h = absurd h
has_parts unsized h = absurd h
has_parts boolean h = absurd h
has_parts error_code h = absurd h
has_parts (header type) h = tt
has_parts (stack type many) h = tt
has_parts (struct type) h = tt
has_parts packet_in h = absurd h
has_parts packet_out h = absurd h
has_parts errors h = absurd h
has_parts (enumeration enum) h = absurd h
has_parts (one_of enum) h = absurd h
has_parts table h = absurd h
has_parts applied h = absurd h
has_parts (object obj) h = absurd h
has_parts items h = absurd h
has_parts nothing h = absurd h
has_parts unknown h = absurd h

either_true : (t : Bool) → (t || (false && false)) ≡ true → t ≡ true
either_true true is = refl
either_true false is = absurd (cc is)

both_true : (t u : Bool) → ((t && u) || (false && false)) ≡ true → (t ≡ true) × (u ≡ true)
both_true true true is = (refl, refl)
both_true true false is = absurd (cc is)
both_true false u is = absurd (cc is)

same_header : (type : List ℕ) (k : Kind) → takes_kind (header type) k ≡ true → k ≡ header type
same_header type (bits width) is = absurd (cc is)
same_header type unsized is = absurd (cc is)
same_header type boolean is = absurd (cc is)
same_header type error_code is = absurd (cc is)
same_header type (header other) is = ap header (sym ((bytes_eq-Decides type other).0 (either_true (bytes_eq type other) is)))
same_header type (stack other many) is = absurd (cc is)
same_header type (struct other) is = absurd (cc is)
same_header type packet_in is = absurd (cc is)
same_header type packet_out is = absurd (cc is)
same_header type errors is = absurd (cc is)
same_header type (enumeration enum) is = absurd (cc is)
same_header type (one_of enum) is = absurd (cc is)
same_header type table is = absurd (cc is)
same_header type applied is = absurd (cc is)
same_header type (object obj) is = absurd (cc is)
same_header type items is = absurd (cc is)
same_header type nothing is = absurd (cc is)
same_header type unknown is = absurd (cc is)

same_struct : (type : List ℕ) (k : Kind) → takes_kind (struct type) k ≡ true → k ≡ struct type
same_struct type (bits width) is = absurd (cc is)
same_struct type unsized is = absurd (cc is)
same_struct type boolean is = absurd (cc is)
same_struct type error_code is = absurd (cc is)
same_struct type (header other) is = absurd (cc is)
same_struct type (stack other many) is = absurd (cc is)
same_struct type (struct other) is = ap struct (sym ((bytes_eq-Decides type other).0 (either_true (bytes_eq type other) is)))
same_struct type packet_in is = absurd (cc is)
same_struct type packet_out is = absurd (cc is)
same_struct type errors is = absurd (cc is)
same_struct type (enumeration enum) is = absurd (cc is)
same_struct type (one_of enum) is = absurd (cc is)
same_struct type table is = absurd (cc is)
same_struct type applied is = absurd (cc is)
same_struct type (object obj) is = absurd (cc is)
same_struct type items is = absurd (cc is)
same_struct type nothing is = absurd (cc is)
same_struct type unknown is = absurd (cc is)

same_stack : (type : List ℕ) (size : ℕ) (k : Kind) → takes_kind (stack type size) k ≡ true → k ≡ stack type size
same_stack type size (bits width) is = absurd (cc is)
same_stack type size unsized is = absurd (cc is)
same_stack type size boolean is = absurd (cc is)
same_stack type size error_code is = absurd (cc is)
same_stack type size (header other) is = absurd (cc is)
same_stack type size (stack other many) is = let two = both_true (bytes_eq type other) (nat_eq size many) is in ap (λ (n : ℕ). stack other n) (sym (eqb-true size many two.1)) ∙ ap (λ (t : List ℕ). stack t size) (sym ((bytes_eq-Decides type other).0 two.0))
same_stack type size (struct other) is = absurd (cc is)
same_stack type size packet_in is = absurd (cc is)
same_stack type size packet_out is = absurd (cc is)
same_stack type size errors is = absurd (cc is)
same_stack type size (enumeration enum) is = absurd (cc is)
same_stack type size (one_of enum) is = absurd (cc is)
same_stack type size table is = absurd (cc is)
same_stack type size applied is = absurd (cc is)
same_stack type size (object obj) is = absurd (cc is)
same_stack type size items is = absurd (cc is)
same_stack type size nothing is = absurd (cc is)
same_stack type size unknown is = absurd (cc is)

pub same_composite : (k j : Kind) → Composite k → takes_kind k j ≡ true → j ≡ k
same_composite (bits width) j h is = absurd h
same_composite unsized j h is = absurd h
same_composite boolean j h is = absurd h
same_composite error_code j h is = absurd h
same_composite (header type) j h is = same_header type j is
same_composite (stack type many) j h is = same_stack type many j is
same_composite (struct type) j h is = same_struct type j is
same_composite packet_in j h is = absurd h
same_composite packet_out j h is = absurd h
same_composite errors j h is = absurd h
same_composite (enumeration enum) j h is = absurd h
same_composite (one_of enum) j h is = absurd h
same_composite table j h is = absurd h
same_composite applied j h is = absurd h
same_composite (object obj) j h is = absurd h
same_composite items j h is = absurd h
same_composite nothing j h is = absurd h
same_composite unknown j h is = absurd h

same_bits : (w : ℕ) (j : Kind) → is_unsized j ≡ false → takes_kind (bits w) j ≡ true → j ≡ bits w
same_bits w (bits width) sized is = ap bits (sym (eqb-true w width (first (nat_eq w width) is))) where
  first : (t : Bool) → (t || (true && false)) ≡ true → t ≡ true
  first true e = refl
  first false e = absurd (cc e)
same_bits w unsized sized is = absurd (cc sized)
same_bits w boolean sized is = absurd (cc is)
same_bits w error_code sized is = absurd (cc is)
same_bits w (header type) sized is = absurd (cc is)
same_bits w (stack type many) sized is = absurd (cc is)
same_bits w (struct type) sized is = absurd (cc is)
same_bits w packet_in sized is = absurd (cc is)
same_bits w packet_out sized is = absurd (cc is)
same_bits w errors sized is = absurd (cc is)
same_bits w (enumeration enum) sized is = absurd (cc is)
same_bits w (one_of enum) sized is = absurd (cc is)
same_bits w table sized is = absurd (cc is)
same_bits w applied sized is = absurd (cc is)
same_bits w (object obj) sized is = absurd (cc is)
same_bits w items sized is = absurd (cc is)
same_bits w nothing sized is = absurd (cc is)
same_bits w unknown sized is = absurd (cc is)

same_truth : (j : Kind) → takes_kind boolean j ≡ true → j ≡ boolean
same_truth (bits width) is = absurd (cc is)
same_truth unsized is = absurd (cc is)
same_truth boolean is = refl
same_truth error_code is = absurd (cc is)
same_truth (header type) is = absurd (cc is)
same_truth (stack type many) is = absurd (cc is)
same_truth (struct type) is = absurd (cc is)
same_truth packet_in is = absurd (cc is)
same_truth packet_out is = absurd (cc is)
same_truth errors is = absurd (cc is)
same_truth (enumeration enum) is = absurd (cc is)
same_truth (one_of enum) is = absurd (cc is)
same_truth table is = absurd (cc is)
same_truth applied is = absurd (cc is)
same_truth (object obj) is = absurd (cc is)
same_truth items is = absurd (cc is)
same_truth nothing is = absurd (cc is)
same_truth unknown is = absurd (cc is)

same_error : (j : Kind) → takes_kind error_code j ≡ true → j ≡ error_code
same_error (bits width) is = absurd (cc is)
same_error unsized is = absurd (cc is)
same_error boolean is = absurd (cc is)
same_error error_code is = refl
same_error (header type) is = absurd (cc is)
same_error (stack type many) is = absurd (cc is)
same_error (struct type) is = absurd (cc is)
same_error packet_in is = absurd (cc is)
same_error packet_out is = absurd (cc is)
same_error errors is = absurd (cc is)
same_error (enumeration enum) is = absurd (cc is)
same_error (one_of enum) is = absurd (cc is)
same_error table is = absurd (cc is)
same_error applied is = absurd (cc is)
same_error (object obj) is = absurd (cc is)
same_error items is = absurd (cc is)
same_error nothing is = absurd (cc is)
same_error unknown is = absurd (cc is)

pub same_single : (k j : Kind) → Single k → is_unsized j ≡ false → takes_kind k j ≡ true → j ≡ k
same_single (bits width) j h sized is = same_bits width j sized is
same_single unsized j h sized is = absurd h
same_single boolean j h sized is = same_truth j is
same_single error_code j h sized is = same_error j is
same_single (header type) j h sized is = absurd h
same_single (stack type many) j h sized is = absurd h
same_single (struct type) j h sized is = absurd h
same_single packet_in j h sized is = absurd h
same_single packet_out j h sized is = absurd h
same_single errors j h sized is = absurd h
same_single (enumeration enum) j h sized is = absurd h
same_single (one_of enum) j h sized is = absurd h
same_single table j h sized is = absurd h
same_single applied j h sized is = absurd h
same_single (object obj) j h sized is = absurd h
same_single items j h sized is = absurd h
same_single nothing j h sized is = absurd h
same_single unknown j h sized is = absurd h

-- a value takes the place of 0 as it takes that of another one
pub single_fits : (types : List Layout) (k : Kind) (of : Content) (x : ℕ) (v : Value) → form_of k ≡ slot_form of → fitted (content_value of x) v ≡ fitted (zero_value types k) v
single_fits types k of x v is = by (length types) k of is where
  by : (n : ℕ) (j : Kind) (c : Content) → form_of j ≡ slot_form c → fitted (content_value c x) v ≡ fitted (zero_within types n j) v
  by n (bits width) (some_bits w) e = let same : width ≡ w = cc e in ap (λ (i : ℕ). a_number i (number_in v % 2 ^ i)) (sym same)
  by n (bits width) a_truth e = absurd (cc e)
  by n (bits width) an_error e = absurd (cc e)
  by n unsized c e = absurd (cc e)
  by n boolean (some_bits w) e = absurd (cc e)
  by n boolean a_truth e = refl
  by n boolean an_error e = absurd (cc e)
  by n error_code (some_bits w) e = absurd (cc e)
  by n error_code a_truth e = absurd (cc e)
  by n error_code an_error e = refl
  by n (header type) c e = absurd (cc e)
  by n (stack type many) c e = absurd (cc e)
  by n (struct type) c e = absurd (cc e)
  by n packet_in c e = absurd (cc e)
  by n packet_out c e = absurd (cc e)
  by n errors c e = absurd (cc e)
  by n (enumeration enum) c e = absurd (cc e)
  by n (one_of enum) c e = absurd (cc e)
  by n table c e = absurd (cc e)
  by n applied c e = absurd (cc e)
  by n (object obj) c e = absurd (cc e)
  by n items c e = absurd (cc e)
  by n nothing c e = absurd (cc e)
  by n unknown c e = absurd (cc e)

members_fit : (zero_of : Kind → Value) (fields : List FieldKind) (v : Value) → fitted (members_from zero_of fields) v ≡ v
members_fit zero_of [] v = refl
members_fit zero_of (f ∷ fields) v = refl

pub composite_fits : (types : List Layout) (k : Kind) (v : Value) → Composite k → fitted (zero_value types k) v ≡ v
composite_fits types k v h = by (length types) k h where
  by : (n : ℕ) (j : Kind) → Composite j → fitted (zero_within types n j) v ≡ v
  by zero (header type) g = refl
  by (suc n) (header type) g = refl
  by zero (stack type many) g = refl
  by (suc n) (stack type many) g = refl
  by zero (struct type) g = refl
  by (suc n) (struct type) g = members_fit (λ k. zero_within types n k) (fields_in types type) v
  by n (bits width) g = absurd g
  by n unsized g = absurd g
  by n boolean g = absurd g
  by n error_code g = absurd g
  by n packet_in g = absurd g
  by n packet_out g = absurd g
  by n errors g = absurd g
  by n (enumeration enum) g = absurd g
  by n (one_of enum) g = absurd g
  by n table g = absurd g
  by n applied g = absurd g
  by n (object obj) g = absurd g
  by n items g = absurd g
  by n nothing g = absurd g
  by n unknown g = absurd g

-- the form of a header, a stack or a struct
pub formed_as : (types : List Layout) (k : Kind) (form : Form) → Composite k → FormIs types k form → form ≡ form_of k
formed_as types (bits width) form h (inl un) = absurd h
formed_as types (bits width) form h (inr g) = absurd h
formed_as types unsized form h (inl un) = absurd h
formed_as types unsized form h (inr g) = absurd h
formed_as types boolean form h (inl un) = absurd h
formed_as types boolean form h (inr g) = absurd h
formed_as types error_code form h (inl un) = absurd h
formed_as types error_code form h (inr g) = absurd h
formed_as types (header type) form h (inl un) = absurd un
formed_as types (header type) form h (inr g) = g.0
formed_as types (stack type many) form h (inl un) = absurd un
formed_as types (stack type many) form h (inr g) = g.0
formed_as types (struct type) form h (inl un) = absurd un
formed_as types (struct type) form h (inr g) = g.0
formed_as types packet_in form h (inl un) = absurd h
formed_as types packet_in form h (inr g) = absurd h
formed_as types packet_out form h (inl un) = absurd h
formed_as types packet_out form h (inr g) = absurd h
formed_as types errors form h (inl un) = absurd h
formed_as types errors form h (inr g) = absurd h
formed_as types (enumeration enum) form h (inl un) = absurd h
formed_as types (enumeration enum) form h (inr g) = absurd h
formed_as types (one_of enum) form h (inl un) = absurd h
formed_as types (one_of enum) form h (inr g) = absurd h
formed_as types table form h (inl un) = absurd h
formed_as types table form h (inr g) = absurd h
formed_as types applied form h (inl un) = absurd h
formed_as types applied form h (inr g) = absurd h
formed_as types (object obj) form h (inl un) = absurd h
formed_as types (object obj) form h (inr g) = absurd h
formed_as types items form h (inl un) = absurd h
formed_as types items form h (inr g) = absurd h
formed_as types nothing form h (inl un) = absurd h
formed_as types nothing form h (inr g) = absurd h
formed_as types unknown form h (inl un) = absurd h
formed_as types unknown form h (inr g) = absurd h

-- directions
pub back_direction : (d : Option Direction) → (is_back d ≡ true) ⊎ ((is_back d ≡ false) × (is_out d ≡ false))
back_direction None = inr (refl, refl)
back_direction (Some In) = inr (refl, refl)
back_direction (Some Out) = inl refl
back_direction (Some InOut) = inl refl

pub copied_fitted : (d : Option Direction) (zero_is v : Value) → is_out d ≡ false → copied_in d zero_is v ≡ fitted zero_is v
copied_fitted None zero_is v is = refl
copied_fitted (Some In) zero_is v is = refl
copied_fitted (Some Out) zero_is v is = absurd (cc is)
copied_fitted (Some InOut) zero_is v is = refl

pub copied_zero : (d : Option Direction) (zero_is v : Value) → is_out d ≡ true → copied_in d zero_is v ≡ zero_is
copied_zero None zero_is v is = absurd (cc is)
copied_zero (Some In) zero_is v is = absurd (cc is)
copied_zero (Some Out) zero_is v is = refl
copied_zero (Some InOut) zero_is v is = absurd (cc is)

pub place_is : (h : Handed) (k : Kind) (t : Bool) → h.kind ≡ k → h.is_written ≡ t → place_of h ≡ cond t (written k) (value k)
place_is h k t kind is = ap (λ (u : Bool). cond u (written h.kind) (value h.kind)) is ∙ ap (λ (j : Kind). cond t (written j) (value j)) kind

at_some : {A : Type 0} (B : A → Type 0) (o : Option A) (x : A) → o ≡ Some x → IfSome o B → B x
at_some {A = A} B o x is h = subst (λ (p : Option A). IfSome p B) is h

module _ (P : Cells → Type 0) (b : Around) (w : meaning.World) (z : World) (s : Scope) (who : InScope) (accepted : BreaksNone b.syntax program_rules) (layouts : s.layouts ≡ layouts_of b.syntax.decls) (seated : NamesSeated s (seats_in b.syntax w.around.roots who)) (fine : Fine s) where
  abbrev seats : List NamedSeat
  seats = seats_in b.syntax w.around.roots who

  abbrev types : List Layout
  types = layouts_of b.syntax.decls

  pub ranged : (t : Seat) → IsRangeOf types t (range_of s.layouts t)
  ranged t = subst (λ (l : List Layout). IsRangeOf types t (range_of l t)) (sym layouts) (range_is types t)

  -- a value that entered
  pub record Entered (n : ℕ) (inc : Incoming) (v : Value) (m : sem.Moment) (k : Moment) : Type 0 where
    pub cells : Cells
    pub placed : placed z.apply inc k ≡ with_cells cells k
    pub shown : Shown P b.syntax who m k
    pub runs : m.stopped ≡ None
    pub set : IsSet b.syntax k.cells cells n v

  -- a single value
  pub slot_enters : TestsTell P b w z s who → (e : Exp16) (q : Place) (k0 : Kind) (of : Content) (n : ℕ) (t : Seat) (x : Test) (m : sem.Moment) (k : Moment) → Stands b n t k0 → ready_test s seats (table_found b) (value k0) e ≡ Some x → Keeps s q e → takes (value k0) e (kind_of s e) ≡ true → form_of k0 ≡ slot_form of → ToldNone s e → applies s e ≡ false → Shown P b.syntax who m k → m.stopped ≡ None
      → Entered n (value_in t.start.slot x) (fitted (zero_value types k0) (value_of w s (value k0) e m).value) (value_of w s (value k0) e m).moment k
  slot_enters tell e q k0 of n t x m k stands ready keeps fit form told none h runs =
      let y : sem_expressions.Valued = value_of w s (value k0) e m in
      let tells : ValueTold P b who (IsValueOf (value k0) (kind_of s e)) y (test_value z.apply x k) = at_some (Tells P b w z s who (value k0) e (IsValueOf (value k0) (kind_of s e))) (ready_test s seats (table_found b) (value k0) e) x ready (tell (value k0) q e keeps told) m k h runs in
      let plain_is = is_plain s seats (table_found b) (value k0) its_value e x none ready in
      let still : (test_value z.apply x k).moment ≡ k = ap (λ (u : Test). (test_value z.apply u k).moment) plain_is.1 in
      let here : t.form ≡ slot_form of = stands.form ∙ form in
      let fits : FitsSlot of None y.value = whole_fits k0 of e (kind_of s e) y.value (sym form) fit tells.holds.class in
      let set : IsSet b.syntax k.cells (put_value t.start.slot None y.value k.cells) n (fitted (value_at b.syntax k.cells n) y.value) = slot_set b.syntax accepted k.cells h.shows.whole n t stands.at stands.within of y.value here fits in
      record {
        cells = put_value t.start.slot None y.value k.cells;
        placed =
            ap (λ (end : Ended). with_test (record { value = end; moment = (test_value z.apply x k).moment }) (incoming.value_placed t.start.slot)) tells.value
            ∙ ap (λ (j : Moment). incoming.value_placed t.start.slot y.value j) still;
        shown = subst (λ (j : Moment). Shown P b.syntax who y.moment j) still tells.shown;
        runs = tells.runs;
        set = subst (λ (v : Value). IsSet b.syntax k.cells (put_value t.start.slot None y.value k.cells) n v) (old_fits y.value here h.shows.whole) set;
      } where
        old_fits : (v : Value) → t.form ≡ slot_form of → IsFrameOf b.syntax k.cells → fitted (value_at b.syntax k.cells n) v ≡ fitted (zero_value types k0) v
        old_fits v here whole =
            ap (λ (old : Value). fitted old v) (stands_as b.syntax accepted k.cells whole n t stands.at stands.within ∙ ap (λ (f : Form). seat_value types k.cells (record { depth = t.depth; form = f; start = t.start; owner = t.owner })) here)
            ∙ single_fits types k0 of (slot_value k.cells t.start.slot) v form

  -- parts
  pub parts_enter : SourcesTell P b w z s who → FormsAgree b.syntax → (e : Exp16) (p q : Place) (k0 : Kind) (n : ℕ) (t : Seat) (x : Source) (m : sem.Moment) (k : Moment) → Stands b n t k0 → ready_source s seats (table_found b) e ≡ Some x → Keeps s q e → takes_kind k0 (kind_of s e) ≡ true → Composite k0 → ToldNone s e → applies s e ≡ false → Shown P b.syntax who m k → m.stopped ≡ None
      → Entered n (parts_in (range_of s.layouts t) x) (fitted (zero_value types k0) (value_of w s p e m).value) (value_of w s p e m).moment k
  parts_enter sources agree e p q k0 n t x m k stands ready keeps fit composite told none h runs =
      let y : sem_expressions.Valued = value_of w s p e m in
      let tells : PartTold P b who (kind_of s e) y (source_range z.apply x k) = at_some (λ (u : Source). (j : sem.Moment) (i : Moment) → Shown P b.syntax who j i → j.stopped ≡ None → PartTold P b who (kind_of s e) (value_of w s p e j) (source_range z.apply u i)) (ready_source s seats (table_found b) e) x ready (sources p q e (subst HasParts (sym (same_composite k0 (kind_of s e) composite fit)) (has_parts k0 composite)) keeps told) m k h runs in
      let still : (source_range z.apply x k).moment ≡ k = at_some (λ (u : Source). (r : ℕ → Moment → Applied) (i : Moment) → (source_range r u i).moment ≡ i) (ready_source s seats (table_found b) e) x ready (sources_stay s seats (table_found b) its_value e none) z.apply k in
      let parted : IsParted t.form = subst IsParted (sym stands.form) (form_parted k0 composite) in
      let same_form : tells.seat.form ≡ t.form = formed_as types k0 tells.seat.form composite (subst (λ (j : Kind). FormIs types j tells.seat.form) (same_composite k0 (kind_of s e) composite fit) tells.form) ∙ sym stands.form in
      let stands_there : y.value ≡ seat_value types k.cells tells.seat = tells.stands ∙ ap (λ (j : Moment). seat_value types j.cells tells.seat) still in
      let set : IsSet b.syntax k.cells (copied tells.range (range_of s.layouts t) k.cells) n (seat_value types k.cells tells.seat) = copied_set b.syntax accepted k.cells h.shows.whole n t stands.at stands.within tells.part tells.seat (range_of s.layouts t) tells.range tells.at parted (agree (all_of (the_variable n)) tells.part t tells.seat (seated_at stands) tells.at same_form parted) (ranged t) tells.ranged in
      record {
        cells = copied tells.range (range_of s.layouts t) k.cells;
        placed =
            ap (λ (r : Sought). with_source (record { range = r; moment = (source_range z.apply x k).moment }) (λ r n. incoming.parts_placed r (range_of s.layouts t) n)) tells.reaches
            ∙ ap (λ (j : Moment). incoming.parts_placed tells.range (range_of s.layouts t) j) still;
        shown = subst (λ (j : Moment). Shown P b.syntax who y.moment j) still tells.shown;
        runs = tells.runs;
        set = subst (λ (v : Value). IsSet b.syntax k.cells (copied tells.range (range_of s.layouts t) k.cells) n v) (sym stands_there ∙ sym (composite_fits types k0 y.value composite)) set;
      } where
        seated_at : Stands b n t k0 → part_seat b.syntax (all_of (the_variable n)) ≡ Some t
        seated_at at = variable_seated b.syntax accepted k.cells h.shows.whole n t at.at at.within

  -- what an l-value is read as
  lvalue_reads : (e : Exp16) (x : Meant) (p : Place) (k0 : Kind) (m : sem.Moment) (k : Moment) → meant_by s seats e ≡ Some x → x.spot.told ≡ None → kind_of s e ≡ k0 → Single k0 ⊎ ((x.slice ≡ None) × Composite k0) → Shown P b.syntax who m k → m.stopped ≡ None → value_of w s p e m ≡ valued (read m.frame (reference_of w.around s e m).reference) m
  lvalue_reads e x p k0 m k means untold kind (inl single) h runs = single_reads P b w s who accepted layouts seated fine e x p m k means untold (subst Single (sym kind) single) h runs
  lvalue_reads e x p k0 m k means untold kind (inr composite) h runs = untold_reads P b w s who accepted layouts e x p m k means composite.0 untold (subst Composite (sym kind) composite.1) h runs

  -- the argument is evaluated
  pub source_argument : (p : Place) (e : Exp16) (x : Source) (m : sem.Moment) → is_written_place p ≡ false → ready_source s seats (table_found b) e ≡ Some x → argument_at w s p e m ≡ by_value (value_of w s p e m)
  source_argument p (literal n) x m unwritten is = ap (λ (u : Bool). cond u (by_reference (reference_of w.around s (literal n) m)) (by_value (value_of w s p (literal n) m))) unwritten
  source_argument p (truth holds) x m unwritten is = ap (λ (u : Bool). cond u (by_reference (reference_of w.around s (truth holds) m)) (by_value (value_of w s p (truth holds) m))) unwritten
  source_argument p error x m unwritten is = ap (λ (u : Bool). cond u (by_reference (reference_of w.around s error m)) (by_value (value_of w s p error m))) unwritten
  source_argument p (name text) x m unwritten is = ap (λ (u : Bool). cond u (by_reference (reference_of w.around s (name text) m)) (by_value (value_of w s p (name text) m))) unwritten
  source_argument p (member e word) x m unwritten is = ap (λ (u : Bool). cond u (by_reference (reference_of w.around s (member e word) m)) (by_value (value_of w s p (member e word) m))) unwritten
  source_argument p (index e at) x m unwritten is = ap (λ (u : Bool). cond u (by_reference (reference_of w.around s (index e at) m)) (by_value (value_of w s p (index e at) m))) unwritten
  source_argument p (slice e high low) x m unwritten is = ap (λ (u : Bool). cond u (by_reference (reference_of w.around s (slice e high low) m)) (by_value (value_of w s p (slice e high low) m))) unwritten
  source_argument p (call g other) x m unwritten is = ap (λ (u : Bool). cond u (by_reference (reference_of w.around s (call g other) m)) (by_value (value_of w s p (call g other) m))) unwritten
  source_argument p (lookahead e to other) x m unwritten is = ap (λ (u : Bool). cond u (by_reference (reference_of w.around s (lookahead e to other) m)) (by_value (value_of w s p (lookahead e to other) m))) unwritten
  source_argument p (cast to e) x m unwritten is = ap (λ (u : Bool). cond u (by_reference (reference_of w.around s (cast to e) m)) (by_value (value_of w s p (cast to e) m))) unwritten
  source_argument p (unary operator e) x m unwritten is = ap (λ (u : Bool). cond u (by_reference (reference_of w.around s (unary operator e) m)) (by_value (value_of w s p (unary operator e) m))) unwritten
  source_argument p (binary operator a d) x m unwritten is = ap (λ (u : Bool). cond u (by_reference (reference_of w.around s (binary operator a d) m)) (by_value (value_of w s p (binary operator a d) m))) unwritten
  source_argument p (choice c a d) x m unwritten is = ap (λ (u : Bool). cond u (by_reference (reference_of w.around s (choice c a d) m)) (by_value (value_of w s p (choice c a d) m))) unwritten
  source_argument p (parenthesized e) x m unwritten is = ap (λ (u : Bool). cond u (by_reference (reference_of w.around s (parenthesized e) m)) (by_value (value_of w s p (parenthesized e) m))) unwritten
  source_argument p no_arguments x m unwritten is = ap (λ (u : Bool). cond u (by_reference (reference_of w.around s no_arguments m)) (by_value (value_of w s p no_arguments m))) unwritten
  source_argument p (argument before last) x m unwritten is = ap (λ (u : Bool). cond u (by_reference (reference_of w.around s (argument before last) m)) (by_value (value_of w s p (argument before last) m))) unwritten
  source_argument p (listed es) x m unwritten is = absurd (cc is)

  -- 0
  pub zero_enters : (n : ℕ) (t : Seat) (k0 : Kind) (m : sem.Moment) (k : Moment) → Stands b n t k0 → Shown P b.syntax who m k → m.stopped ≡ None → Entered n (zero_in (range_of s.layouts t)) (zero_value types k0) m k
  zero_enters n t k0 m k stands h runs = record {
    cells = emptied (range_of s.layouts t) k.cells;
    placed = refl;
    shown = h;
    runs = runs;
    set = subst (λ (v : Value). IsSet b.syntax k.cells (emptied (range_of s.layouts t) k.cells) n v) stands.zero_is (emptied_set b.syntax accepted k.cells h.shows.whole n t stands.at stands.within (range_of s.layouts t) (ranged t));
  }

  -- what entered of an argument and a parameter
  pub record Stepped (E : ℕ → Incoming → Value → sem.Moment → Moment → Type 0) (n : ℕ) (p : Param) (e : Exp16) (x : calls.Given × sem.Moment) (inc : Incoming) (k : Moment) : Type 0 where
    pub entered : E n inc (copied_in p.direction (zero_value types (parameter_kind w.around.scope p)) x.0.value) x.1 k
    pub target : is_back p.direction ≡ true → OutAt b w s who e x.0
    pub kind : is_back p.direction ≡ true → kind_of s e ≡ parameter_kind w.around.scope p

  -- that the kind of a parameter has values
  formed_in : (ks : Kind) (o : Bool) (t : Seat) (e : Exp16) (inc : Incoming) → incoming_at b s seats ks false t e ≡ Some inc → t.form ≢ no_form
  formed_in ks o t e inc got none = by t.form none got where
    by : (f : Form) → f ≡ no_form → incoming_at b s seats ks false (record { depth = t.depth; form = f; start = t.start; owner = t.owner }) e ≡ Some inc → ⊥
    by (slot_form of) is g = cc is
    by (header_form type) is g = cc is
    by (stack_form type size) is g = cc is
    by (struct_form type) is g = cc is
    by no_form is g = cc g

  pub backs : (e : Exp16) (k0 : Kind) (n : ℕ) (t : Seat) (outs : List Outgoing) (m : sem.Moment) (k : Moment) → Stands b n t k0 → OutWay b w s who e t outs → takes_kind k0 (kind_of s e) ≡ true → Shown P b.syntax who m k → m.stopped ≡ None → (x : Meant) × Backs b w s who e k0 x
  backs e k0 n t outs m k stands (out_slot x to of means is form same) fit h runs =
      let single : Single k0 = single_form k0 of (sym stands.form ∙ form) in (
        x,
        record {
          means = means;
          untold = is.untold;
          kind = same_single k0 (kind_of s e) single (never_unsized P b w s who accepted layouts seated fine x e m k is.of means is.untold is.form h runs) fit;
          shape = inl single;
        },
      )
  backs e k0 n t outs m k stands (out_parts x means whole untold parted there same) fit h runs =
      let composite : Composite k0 = composite_form k0 (subst IsParted stands.form parted) in
      (x, record { means = means; untold = untold; kind = same_composite k0 (kind_of s e) composite fit; shape = inr (whole, composite) })

  -- in whatever way it enters
  module _ (E : ℕ → Incoming → Value → sem.Moment → Moment → Type 0) (C : Exp16 → Type 0)
      (slot_in : (e : Exp16) (q : Place) (k0 : Kind) (of : Content) (n : ℕ) (t : Seat) (x : Test) (m : sem.Moment) (k : Moment) → Stands b n t k0 → ready_test s seats (table_found b) (value k0) e ≡ Some x → Keeps s q e → takes (value k0) e (kind_of s e) ≡ true → form_of k0 ≡ slot_form of → ToldNone s e → C e → Shown P b.syntax who m k → m.stopped ≡ None → E n (value_in t.start.slot x) (fitted (zero_value types k0) (value_of w s (value k0) e m).value) (value_of w s (value k0) e m).moment k)
      (all_in : (e : Exp16) (p q : Place) (k0 : Kind) (n : ℕ) (t : Seat) (x : Source) (m : sem.Moment) (k : Moment) → Stands b n t k0 → ready_source s seats (table_found b) e ≡ Some x → Keeps s q e → takes_kind k0 (kind_of s e) ≡ true → Composite k0 → ToldNone s e → C e → Shown P b.syntax who m k → m.stopped ≡ None → E n (parts_in (range_of s.layouts t) x) (fitted (zero_value types k0) (value_of w s p e m).value) (value_of w s p e m).moment k)
      (nothing_in : (n : ℕ) (t : Seat) (k0 : Kind) (m : sem.Moment) (k : Moment) → Stands b n t k0 → Shown P b.syntax who m k → m.stopped ≡ None → E n (zero_in (range_of s.layouts t)) (zero_value types k0) m k) where
    -- of an argument that enters
    record Enters (n : ℕ) (e : Exp16) (inc : Incoming) (k0 : Kind) (m : sem.Moment) (k : Moment) : Type 0 where
      entered : E n inc (fitted (zero_value types k0) (value_of w s (value k0) e m).value) (value_of w s (value k0) e m).moment k
      argument : argument_at w s (value k0) e m ≡ by_value (value_of w s (value k0) e m)

    enters : (e : Exp16) (q : Place) (k0 ks : Kind) (n : ℕ) (t : Seat) (inc : Incoming) (m : sem.Moment) (k : Moment) → Stands b n t k0 → ((of : Content) → form_of k0 ≡ slot_form of → ks ≡ k0) → incoming_at b s seats ks false t e ≡ Some inc → Keeps s q e → takes_kind k0 (kind_of s e) ≡ true → ToldNone s e → C e → Shown P b.syntax who m k → m.stopped ≡ None → Enters n e inc k0 m k
    enters e q k0 ks n t inc m k stands named is keeps fit told none h runs = by t.form refl is where
      with_form : Form → Seat
      with_form f = record { depth = t.depth; form = f; start = t.start; owner = t.owner }

      single : (of : Content) → t.form ≡ slot_form of → (o : Option Test) → ready_test s seats (table_found b) (value ks) e ≡ o → option_map (value_in t.start.slot) o ≡ Some inc → Enters n e inc k0 m k
      single of form None ready got = absurd (cc got)
      single of form (Some x) ready got =
          let kind_form : form_of k0 ≡ slot_form of = sym stands.form ∙ form in
          let at : ready_test s seats (table_found b) (value k0) e ≡ Some x = ap (λ (j : Kind). ready_test s seats (table_found b) (value j) e) (sym (named of kind_form)) ∙ ready in
          let same : value_in t.start.slot x ≡ inc = cc got in
          record {
            entered = subst (λ (i : Incoming). E n i (fitted (zero_value types k0) (value_of w s (value k0) e m).value) (value_of w s (value k0) e m).moment k) same (slot_in e q k0 of n t x m k stands at keeps fit kind_form told none h runs);
            argument = argument_is P b w z s who (value k0) e x m refl at;
          }

      parted : Composite k0 → (u : Seat) → u ≡ t → (o : Option Source) → ready_source s seats (table_found b) e ≡ o → option_map (parts_in (range_of s.layouts u)) o ≡ Some inc → Enters n e inc k0 m k
      parted composite u at None ready got = absurd (cc got)
      parted composite u at (Some x) ready got =
          let same : parts_in (range_of s.layouts u) x ≡ inc = cc got in
          let here : parts_in (range_of s.layouts t) x ≡ inc = ap (λ (v : Seat). parts_in (range_of s.layouts v) x) (sym at) ∙ same in
          record {
            entered = subst (λ (i : Incoming). E n i (fitted (zero_value types k0) (value_of w s (value k0) e m).value) (value_of w s (value k0) e m).moment k) here (all_in e (value k0) q k0 n t x m k stands ready keeps fit composite told none h runs);
            argument = source_argument (value k0) e x m refl ready;
          }

      by : (f : Form) → t.form ≡ f → incoming_at b s seats ks false (with_form f) e ≡ Some inc → Enters n e inc k0 m k
      by (slot_form of) form got = single of form (ready_test s seats (table_found b) (value ks) e) refl got
      by (header_form type) form got = parted (composite_form k0 (subst IsParted (sym form ∙ stands.form) tt)) (with_form (header_form type)) (ap with_form (sym form)) (ready_source s seats (table_found b) e) refl got
      by (stack_form type size) form got = parted (composite_form k0 (subst IsParted (sym form ∙ stands.form) tt)) (with_form (stack_form type size)) (ap with_form (sym form)) (ready_source s seats (table_found b) e) refl got
      by (struct_form type) form got = parted (composite_form k0 (subst IsParted (sym form ∙ stands.form) tt)) (with_form (struct_form type)) (ap with_form (sym form)) (ready_source s seats (table_found b) e) refl got
      by no_form form got = absurd (cc got)

    pub step : w.around.scope.layouts ≡ types → (n : ℕ) (p : Param) (e : Exp16) (hd : Handed) (t : Seat) (inc : Incoming) (outs : List Outgoing) (m : sem.Moment) (k : Moment) → Stands b n t (parameter_kind w.around.scope p) → IsHanded s w.around.scope hd p → Keeps s (place_of hd) e → ToldNone s e → C e → incoming_at b s seats (kind_of_type s.names p.of) (is_out p.direction) t e ≡ Some inc → (is_back p.direction ≡ true → OutWay b w s who e t outs) → Shown P b.syntax who m k → m.stopped ≡ None → Stepped E n p e (argument_at w s (place_of hd) e m) inc k
    step same_types n p e hd t inc outs m k stands handed keeps told none is ways h runs = by (back_direction p.direction) where
      k0 : Kind
      k0 = parameter_kind w.around.scope p

      -- by value
      first : (is_back p.direction ≡ false) × (is_out p.direction ≡ false) → Stepped E n p e (argument_at w s (place_of hd) e m) inc k
      first no_back =
          let got : incoming_at b s seats (kind_of_type s.names p.of) false t e ≡ Some inc = ap (λ (o : Bool). incoming_at b s seats (kind_of_type s.names p.of) o t e) (sym no_back.1) ∙ is in
          let kind : hd.kind ≡ k0 = handed.kind (λ empty. formed_in (kind_of_type s.names p.of) false t e inc got (stands.form ∙ empty)) in
          let place : place_of hd ≡ value k0 = place_is hd k0 false kind (handed.written ∙ no_back.0) in
          let kept : Keeps s (value k0) e = subst (λ (q : Place). Keeps s q e) place keeps in
          let all : Enters n e inc k0 m k = enters e (value k0) k0 (kind_of_type s.names p.of) n t inc m k stands handed.named got kept (taken s (value k0) e kept.0) told none h runs in
          subst (λ (x : calls.Given × sem.Moment). Stepped E n p e x inc k) (sym (ap (λ (q : Place). argument_at w s q e m) place ∙ all.argument))
          (record {
            entered = subst (λ (v : Value). E n inc v (value_of w s (value k0) e m).moment k) (sym (copied_fitted p.direction (zero_value types k0) (value_of w s (value k0) e m).value no_back.1)) all.entered;
            target = λ back. absurd (cc (sym back ∙ no_back.0));
            kind = λ back. absurd (cc (sym back ∙ no_back.0));
          })

      -- by reference

      reference_kept : (kind : hd.kind ≡ k0) → is_back p.direction ≡ true → Keeps s (written k0) e
      reference_kept kind back = subst (λ (q : Place). Keeps s q e) (place_is hd k0 true kind (handed.written ∙ back)) keeps

      referred_at : hd.kind ≡ k0 → is_back p.direction ≡ true → (x : Meant) → meant_by s seats e ≡ Some x → argument_at w s (place_of hd) e m ≡ by_reference (reference_of w.around s e m)
      referred_at kind back x means = ap (λ (q : Place). argument_at w s q e m) (place_is hd k0 true kind (handed.written ∙ back)) ∙ referred_is P b w z s who accepted layouts seated fine (written k0) e x m refl means

      out_kind : OutWay b w s who e t outs → form_of k0 ≢ no_form
      out_kind (out_slot x to of means targets form same) empty = cc (sym form ∙ (stands.form ∙ empty))
      out_kind (out_parts x means whole untold parted there same) empty = subst IsParted (stands.form ∙ empty) parted

      second : is_back p.direction ≡ true → (o : Bool) → is_out p.direction ≡ o → Stepped E n p e (argument_at w s (place_of hd) e m) inc k
      second back o out =
          let way : OutWay b w s who e t outs = ways back in
          let kind : hd.kind ≡ k0 = handed.kind (out_kind way) in
          let kept : Keeps s (written k0) e = reference_kept kind back in
          let x = backs e k0 n t outs m k stands way (taken s (written k0) e kept.0) h runs in
          let found = at_once P b w s who accepted layouts seated fine x.0 e m k x.1.means x.1.untold h runs in
          subst (λ (y : calls.Given × sem.Moment). Stepped E n p e y inc k) (sym (referred_at kind back x.0 x.1.means))
          (record {
            entered = entering kind kept x.0 x.1 found.0 o out (ap (λ (u : Bool). incoming_at b s seats (kind_of_type s.names p.of) u t e) (sym out) ∙ is);
            target = λ again. (x.0, (x.1.means, x.1.untold, found.1));
            kind = λ again. x.1.kind;
          }) where
            entering : hd.kind ≡ k0 → Keeps s (written k0) e → (x : Meant) → Backs b w s who e k0 x → (reference_of w.around s e m).moment ≡ m → (o : Bool) → is_out p.direction ≡ o → incoming_at b s seats (kind_of_type s.names p.of) o t e ≡ Some inc → E n inc (copied_in p.direction (zero_value types k0) (read (reference_of w.around s e m).moment.frame (reference_of w.around s e m).reference)) (reference_of w.around s e m).moment k
            entering kind kept x facts stays true out got =
                let same : zero_in (range_of s.layouts t) ≡ inc = cc got in
                subst (λ (j : sem.Moment). E n inc (copied_in p.direction (zero_value types k0) (read j.frame (reference_of w.around s e m).reference)) j k) (sym stays)
                (subst (λ (i : Incoming). E n i (copied_in p.direction (zero_value types k0) (read m.frame (reference_of w.around s e m).reference)) m k) same
                (subst (λ (v : Value). E n (zero_in (range_of s.layouts t)) v m k) (sym (copied_zero p.direction (zero_value types k0) (read m.frame (reference_of w.around s e m).reference) out)) (nothing_in n t k0 m k stands h runs)))
            entering kind kept x facts stays false out got =
                let all : Enters n e inc k0 m k = enters e (written k0) k0 (kind_of_type s.names p.of) n t inc m k stands handed.named got kept (taken s (written k0) e kept.0) told none h runs in
                let reads : value_of w s (value k0) e m ≡ valued (read m.frame (reference_of w.around s e m).reference) m = lvalue_reads e x (value k0) k0 m k facts.means facts.untold facts.kind facts.shape h runs in
                let there : E n inc (fitted (zero_value types k0) (read m.frame (reference_of w.around s e m).reference)) m k = subst (λ (y : sem_expressions.Valued). E n inc (fitted (zero_value types k0) y.value) y.moment k) reads all.entered in
                subst (λ (j : sem.Moment). E n inc (copied_in p.direction (zero_value types k0) (read j.frame (reference_of w.around s e m).reference)) j k) (sym stays)
                (subst (λ (v : Value). E n inc v m k) (sym (copied_fitted p.direction (zero_value types k0) (read m.frame (reference_of w.around s e m).reference) out)) there)

      by : (is_back p.direction ≡ true) ⊎ ((is_back p.direction ≡ false) × (is_out p.direction ≡ false)) → Stepped E n p e (argument_at w s (place_of hd) e m) inc k
      by (inl back) = second back (is_out p.direction) refl
      by (inr no_back) = first no_back
