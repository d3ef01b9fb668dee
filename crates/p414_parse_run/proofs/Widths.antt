-- The bits of fields by a program's layout are those that its meaning gives them.
use Rattle.std.proofs.Common.{◌≡◌, ℕ, suc, Bool, true, false, ◌||◌, List, [], ◌∷◌, length, map, get_or, slice_get, cond, Option, Some, None, option_map, refl, sym, ap, ◌∙◌, arith}
use Rattle.std.specs.Prelude.{option_and_then, unwrap_or, codes}
use Rattle.std.specs.List.{list_any}
use Rattle.std.specs.Option.{option_map_or}
use Rattle.std.specs.Str.{bytes_eq}
use Rattle.std.proofs.lemmas.Bool.{or_parts}
use Rattle.std.proofs.lemmas.List.{get_or_past, length-map}
use Rattle.std.proofs.lemmas.List.Folds.{list_any_at}
use Rattle.std.proofs.lemmas.List.Quantifiers.{position-Some}
use Rattle.std.proofs.lemmas.Option.{slice_get-map, unwrap_or-slice_get}
use Rattle.std.proofs.lemmas.Slice.Eq.{bytes_eq-Decides}
use Rattle.p414_syntax.specs.declared.headers.Field.{Field}
use Rattle.p414_syntax.specs.declared.parts.Ref.{Ref}
use Rattle.p414_syntax.specs.declared.syntax.Decl.{Decl}
use Rattle.p414_syntax.specs.declared.syntax.Decl.TheVariants as decl
use Rattle.p414_syntax.specs.declared.syntax.Sort.TheVariants as sort
use Rattle.p414_syntax.specs.Views.{HeaderTypeTree}
use Rattle.p414_syntax.specs.Names.{Name, declared_in, find_name, names_in, number_of, numbered, field_name, has_name}
use Rattle.p414_syntax.specs.Primitives.{is_standard, left_out_fields, standard_width}
use Rattle.p414_syntax.specs.Fields.{type_of, type_name_in, instance_type, field_bits, width_in}
use Rattle.p414_syntax.specs.Expansion.{type_fields}
use Rattle.p414_syntax.specs.ParserGraph.{instance_number}
use Rattle.p414_syntax.specs.Twice.{declares_twice, repeats_in, is_reserved, sorts}
use Rattle.p414_sem.specs.declared.standard.Standard.{Standard}
use Rattle.p414_sem.specs.declared.standard.Standard.TheVariants.{IngressPort, EgressSpec, EgressPort, PacketLength, InstanceType}
use Rattle.p414_sem.specs.Slots.{Slot, standard, slot_of, declared_slot, standard_field, field_number, bits_of_ref}
use Rattle.p414_sem.specs.Packing.{type_widths, widths_of}
use Rattle.p414_layout.specs.declared.shape.Shape.{Shape}
use Rattle.p414_layout.specs.Shapes.{shape_at, shape_in, layout_of, no_shape}
use Rattle.p414_layout.proofs.Programs.{widths_named}
use Rattle.p414_slots.specs.Shown.{kept_slot}
use Rattle.p414_parse_run.specs.Fits.{bits_at}
use Rattle.p414_parse_run.specs.Shown.{widths_in}

-- the widths of an instance

same_count : (ds : List Decl) → length (declared_in sort.Instance ds) ≡ length (names_in sort.Instance ds)
same_count [] = refl
same_count (decl.Header x ∷ ds) = ap suc (same_count ds)
same_count (decl.Metadata x ∷ ds) = ap suc (same_count ds)
same_count (decl.HeaderType x ∷ ds) = same_count ds
same_count (decl.FieldList x ∷ ds) = same_count ds
same_count (decl.FieldListCalculation x ∷ ds) = same_count ds
same_count (decl.CalculatedField x ∷ ds) = same_count ds
same_count (decl.Parser x ∷ ds) = same_count ds
same_count (decl.Action x ∷ ds) = same_count ds
same_count (decl.Table x ∷ ds) = same_count ds
same_count (decl.Counter x ∷ ds) = same_count ds
same_count (decl.Meter x ∷ ds) = same_count ds
same_count (decl.Register x ∷ ds) = same_count ds
same_count (decl.Control x ∷ ds) = same_count ds
same_count (decl.LeftOut x ∷ ds) = same_count ds

-- the shape behind the last instance
pub shape_past : (ds : List Decl) → shape_at (layout_of ds) (length (names_in sort.Instance ds)) ≡ no_shape
shape_past ds =
    let many : length (layout_of ds) ≡ length (names_in sort.Instance ds) = length-map (declared_in sort.Instance ds) (shape_in ds) ∙ same_count ds in
    get_or_past (layout_of ds) (length (names_in sort.Instance ds)) no_shape (omega arith)

-- the widths of what stands at a number of the instances
abbrev widths_by : List Decl → Option ℕ → List ℕ
widths_by ds o =
    option_map_or type_widths (option_and_then (type_of ds) (option_and_then type_name_in (option_and_then (numbered sort.Instance ds) o))) []

pub are_widths : (ds : List Decl) (name : Name) → widths_in (layout_of ds) (instance_number ds name) ≡ widths_of ds name
are_widths ds name = by_number (number_of sort.Instance ds name) refl where
  by_number : (o : Option ℕ) → number_of sort.Instance ds name ≡ o → widths_in (layout_of ds) (unwrap_or (number_of sort.Instance ds name) (length (names_in sort.Instance ds))) ≡ widths_of ds name
  by_number (Some n) is = ap (λ (o : Option ℕ). widths_in (layout_of ds) (unwrap_or o (length (names_in sort.Instance ds)))) is ∙ widths_named ds name n is
  by_number None is =
      ap (λ (o : Option ℕ). widths_in (layout_of ds) (unwrap_or o (length (names_in sort.Instance ds)))) is
      ∙ ap (λ (s : Shape). s.widths) (shape_past ds)
      ∙ ap (widths_by ds) (sym is)

-- the bits of a field of an instance

field_at : (fields : List Field) (o : Option ℕ) → get_or (map field_bits fields) (unwrap_or o (length (map field_name fields))) 0 ≡ unwrap_or (option_map field_bits (option_and_then (slice_get fields) o)) 0
field_at fields (Some n) = sym (unwrap_or-slice_get (map field_bits fields) n 0) ∙ ap (λ (o : Option ℕ). unwrap_or o 0) (slice_get-map field_bits fields n)
field_at fields None =
    let many : length (map field_name fields) ≡ length fields = length-map fields field_name in
    let bits : length (map field_bits fields) ≡ length fields = length-map fields field_bits in
    get_or_past (map field_bits fields) (length (map field_name fields)) 0 (omega arith)

field_of_type : (o : Option HeaderTypeTree) (field : Name) → get_or (option_map_or type_widths o []) (unwrap_or (find_name (option_map_or type_fields o []) field) (length (option_map_or type_fields o []))) 0 ≡ unwrap_or (option_and_then (λ (t : HeaderTypeTree). width_in t field) o) 0
field_of_type None field = refl
field_of_type (Some t) field = field_at t.fields (find_name (map field_name t.fields) field)

-- that of a field which the program declares, by its layout
declared_bits : (ds : List Decl) (r : Ref) → bits_at (layout_of ds) (kept_slot (declared_slot ds r)) ≡ unwrap_or (option_and_then (λ (t : HeaderTypeTree). width_in t r.field) (instance_type ds r.instance.name)) 0
declared_bits ds r =
    ap (λ (widths : List ℕ). get_or widths (field_number ds r.instance.name r.field) 0) (are_widths ds r.instance.name)
    ∙ field_of_type (instance_type ds r.instance.name) r.field

-- `standard_metadata` isn't declared

no_standard : (names : List Name) (name : Name) → list_any is_standard names ≡ false → is_standard name ≡ true → find_name names name ≡ None
no_standard names name none is = by_found (find_name names name) refl where
  by_found : (o : Option ℕ) → find_name names name ≡ o → find_name names name ≡ None
  by_found None found = found
  by_found (Some n) found =
      let at = position-Some (bytes_eq name) names n [] found in
      let same : name ≡ get_or names n [] = (bytes_eq-Decides name (get_or names n [])).0 at.1 in
      absurd (cc (sym none ∙ list_any_at is_standard names n [] at.0 (ap is_standard (sym same) ∙ is)))

standard_undeclared : (ds : List Decl) (name : Name) → declares_twice ds ≡ false → is_standard name ≡ true → number_of sort.Instance ds name ≡ None
standard_undeclared ds name once is =
    let here = or_parts (list_any (repeats_in ds) sorts) _ once in
    let types = or_parts (repeats_in ds sort.HeaderType) _ here.0 in
    let instances = or_parts (repeats_in ds sort.Instance) _ types.1 in
    let names = or_parts (list_any (is_reserved sort.Instance) (names_in sort.Instance ds)) _ instances.0 in
    no_standard (names_in sort.Instance ds) name names.0 is

-- the fields of standard metadata

abbrev standard_by : Bool → Bool → Bool → Bool → Bool → Option Standard
standard_by a b c d e =
    cond a (Some IngressPort) (cond b (Some EgressSpec) (cond c (Some EgressPort) (cond d (Some PacketLength) (cond e (Some InstanceType) None))))

standard_bits_by : (layout : List Shape) (a b c d e : Bool) (rest : Option ℕ) (slot : Slot) → unwrap_or rest 0 ≡ 0 → bits_at layout (kept_slot slot) ≡ 0 → bits_at layout (kept_slot (option_map_or standard (standard_by a b c d e) slot)) ≡ unwrap_or (cond (a || (b || (c || false))) (Some 9) (cond (d || (e || false)) (Some 32) rest)) 0
standard_bits_by layout true b c d e rest slot none nowhere = refl
standard_bits_by layout false true c d e rest slot none nowhere = refl
standard_bits_by layout false false true d e rest slot none nowhere = refl
standard_bits_by layout false false false true e rest slot none nowhere = refl
standard_bits_by layout false false false false true rest slot none nowhere = refl
standard_bits_by layout false false false false false rest slot none nowhere = nowhere ∙ sym none

abbrev left_out : Bool → Option ℕ
left_out b = cond b (Some 0) None

left_out_none : (b : Bool) → unwrap_or (left_out b) 0 ≡ 0
left_out_none true = refl
left_out_none false = refl

-- where a field stands that a reference names, and its bits, by whether it is one of standard metadata

abbrev slot_by : List Decl → Ref → Bool → Slot
slot_by ds r b = cond b (option_map_or standard (standard_field r.field) (declared_slot ds r)) (declared_slot ds r)

abbrev width_by : List Decl → Ref → Bool → ℕ
width_by ds r b =
    unwrap_or (cond b (standard_width r.field) (option_and_then (λ (t : HeaderTypeTree). width_in t r.field) (instance_type ds r.instance.name))) 0

standard_bits : (ds : List Decl) (r : Ref) → bits_at (layout_of ds) (kept_slot (declared_slot ds r)) ≡ 0 → bits_at (layout_of ds) (kept_slot (slot_by ds r true)) ≡ width_by ds r true
standard_bits ds r nowhere =
    standard_bits_by (layout_of ds) (bytes_eq r.field (codes "ingress_port")) (bytes_eq r.field (codes "egress_spec")) (bytes_eq r.field (codes "egress_port")) (bytes_eq r.field (codes "packet_length")) (bytes_eq r.field (codes "instance_type"))
    (left_out (has_name left_out_fields r.field)) (declared_slot ds r) (left_out_none (has_name left_out_fields r.field)) nowhere

-- the bits of the field that a reference names
pub ref_bits : (ds : List Decl) (r : Ref) → declares_twice ds ≡ false → bits_at (layout_of ds) (kept_slot (slot_of ds r)) ≡ bits_of_ref ds r
ref_bits ds r once = by_standard (is_standard r.instance.name) refl where
  by_standard : (b : Bool) → is_standard r.instance.name ≡ b → bits_at (layout_of ds) (kept_slot (slot_by ds r (is_standard r.instance.name))) ≡ width_by ds r (is_standard r.instance.name)
  by_standard false is =
      ap (λ (b : Bool). bits_at (layout_of ds) (kept_slot (slot_by ds r b))) is ∙ declared_bits ds r ∙ ap (width_by ds r) (sym is)
  by_standard true is =
      let none : instance_type ds r.instance.name ≡ None =
      ap (λ (o : Option ℕ). option_and_then (type_of ds) (option_and_then type_name_in (option_and_then (numbered sort.Instance ds) o))) (standard_undeclared ds r.instance.name once is) in
      let nowhere : bits_at (layout_of ds) (kept_slot (declared_slot ds r)) ≡ 0 =
      declared_bits ds r ∙ ap (λ (o : Option HeaderTypeTree). unwrap_or (option_and_then (λ (t : HeaderTypeTree). width_in t r.field) o) 0) none in
      ap (λ (b : Bool). bits_at (layout_of ds) (kept_slot (slot_by ds r b))) is
      ∙ standard_bits ds r nowhere
      ∙ ap (width_by ds r) (sym is)
