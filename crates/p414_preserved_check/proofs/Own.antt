-- What is asked of an item that is no list is asked of what it comes to by itself.
use Rattle.std.proofs.Common.{◌≡◌, ℕ, zero, suc, Bool, true, false, ◌||◌, ◌&&◌, nat_lt, List, [], ◌∷◌, length, map, slice_get, Option, Some, None, option_and_then, refl, sym, ap, ◌∙◌, arith}
use Rattle.std.specs.List.{list_any}
use Rattle.std.specs.Option.{option_map_or}
use Rattle.std.specs.Str.{bytes_eq}
use Rattle.std.proofs.lemmas.Bool.{lt-ltb}
use Rattle.p414_syntax.specs.declared.parts.Inst.{Inst}
use Rattle.p414_syntax.specs.declared.calculations.Item.{Item}
use Rattle.p414_syntax.specs.declared.calculations.Item.TheVariants as item
use Rattle.p414_syntax.specs.declared.syntax.Decl.{Decl}
use Rattle.p414_syntax.specs.declared.syntax.Sort.TheVariants as sort
use Rattle.p414_syntax.specs.Names.{Name, has_name, number_of, declared_in}
use Rattle.p414_syntax.specs.Expansion.{own_items, fields_of, field_item}
use Rattle.p414_syntax.specs.Preserved.{is_no_metadata_item, initialized_in, initialized, is_initialized}
use Rattle.p414_syntax.specs.Payloads.{is_payload}
use Rattle.p414_preserved_check.specs.internal.Asking.{is_anything, fills_by, is_no_metadata, no_metadata_by, initial_set, initial_sets, has_field, set_has, initialized_by}
use Rattle.p414_preserved_check.specs.internal.Marks.{AsksOwn}
use Rattle.p414_preserved_check.proofs.Searching.{or_nothing, any_map, common_turned, distinct_any}

-- `payload`

fields_pay_nothing : (i : Inst) (names : List Name) → false ≡ list_any is_payload (map (field_item i) names)
fields_pay_nothing i [] = refl
fields_pay_nothing i (n ∷ names) = fields_pay_nothing i names

pub payload_is : (ds : List Decl) (i : Item) → is_payload i ≡ list_any is_payload (own_items ds i)
payload_is ds (item.Instance i) = fields_pay_nothing i (fields_of ds i.name)
payload_is ds item.Payload = refl
payload_is ds (item.Number n) = refl
payload_is ds (item.Field r) = refl

-- anything

some_field : (i : Inst) (names : List Name) → nat_lt 0 (length names) ≡ list_any is_anything (map (field_item i) names)
some_field i [] = refl
some_field i (n ∷ names) = lt-ltb 0 (length (n ∷ names)) (omega arith)

pub fills_is : (ds : List Decl) (i : Item) → fills_by ds i ≡ list_any is_anything (own_items ds i)
fills_is ds (item.Instance i) = some_field i (fields_of ds i.name)
fills_is ds item.Payload = refl
fills_is ds (item.Number n) = refl
fills_is ds (item.Field r) = refl

-- something other than metadata

or_twice : (b c : Bool) → (b || c) ≡ b → (b || (b || c)) ≡ b
or_twice true c e = refl
or_twice false c e = e

all_alike : (ds : List Decl) (i : Inst) (names : List Name) → (is_no_metadata ds i.name || list_any (is_no_metadata_item ds) (map (field_item i) names)) ≡ is_no_metadata ds i.name
all_alike ds i [] = sym (or_nothing (is_no_metadata ds i.name))
all_alike ds i (n ∷ names) = or_twice (is_no_metadata ds i.name) (list_any (is_no_metadata_item ds) (map (field_item i) names)) (all_alike ds i names)

fields_alike : (ds : List Decl) (i : Inst) (names : List Name) → (nat_lt 0 (length names) && is_no_metadata ds i.name) ≡ list_any (is_no_metadata_item ds) (map (field_item i) names)
fields_alike ds i [] = refl
fields_alike ds i (n ∷ names) =
    ap (λ (b : Bool). b && is_no_metadata ds i.name) (some_field i (n ∷ names)) ∙ sym (all_alike ds i names)

pub no_metadata_is : (ds : List Decl) (i : Item) → no_metadata_by ds i ≡ list_any (is_no_metadata_item ds) (own_items ds i)
no_metadata_is ds (item.Instance i) = fields_alike ds i (fields_of ds i.name)
no_metadata_is ds item.Payload = refl
no_metadata_is ds (item.Number n) = refl
no_metadata_is ds (item.Field r) = or_nothing (is_no_metadata ds r.instance.name)

-- an initial value

set_at : (field : Name) (declared : List Decl) (n : ℕ) → option_map_or (has_field field) (slice_get (map initial_set declared) n) false ≡ has_name (option_map_or initialized_in (slice_get declared n) []) field
set_at field [] n = refl
set_at field (d ∷ declared) zero = distinct_any (bytes_eq field) (initialized_in d)
set_at field (d ∷ declared) (suc n) = set_at field declared n

set_by : (field : Name) (declared : List Decl) (o : Option ℕ) → option_map_or (has_field field) (option_and_then (slice_get (map initial_set declared)) o) false ≡ has_name (option_map_or initialized_in (option_and_then (slice_get declared) o) []) field
set_by field declared None = refl
set_by field declared (Some n) = set_at field declared n

set_is : (ds : List Decl) (sets : List (List Name)) → sets ≡ initial_sets ds → (name field : Name) → set_has ds sets name field ≡ has_name (initialized ds name) field
set_is ds sets e name field =
    ap (λ (s : List (List Name)). set_has ds s name field) e ∙ set_by field (declared_in sort.Instance ds) (number_of sort.Instance ds name)

pub initialized_is : (ds : List Decl) (sets : List (List Name)) → sets ≡ initial_sets ds → (i : Item) → initialized_by ds sets i ≡ list_any (is_initialized ds) (own_items ds i)
initialized_is ds sets e (item.Instance i) =
    common_turned (initialized ds i.name) (fields_of ds i.name) ∙ sym (any_map (is_initialized ds) (field_item i) (fields_of ds i.name))
initialized_is ds sets e item.Payload = refl
initialized_is ds sets e (item.Number n) = refl
initialized_is ds sets e (item.Field r) = set_is ds sets e r.instance.name r.field ∙ or_nothing (has_name (initialized ds r.instance.name) r.field)

-- as records

pub payload_asks : (ds : List Decl) → AsksOwn ds is_payload is_payload
payload_asks ds = record { asks = payload_is ds }

pub fills_asks : (ds : List Decl) → AsksOwn ds is_anything (fills_by ds)
fills_asks ds = record { asks = fills_is ds }

pub no_metadata_asks : (ds : List Decl) → AsksOwn ds (is_no_metadata_item ds) (no_metadata_by ds)
no_metadata_asks ds = record { asks = no_metadata_is ds }

pub initialized_asks : (ds : List Decl) (sets : List (List Name)) → sets ≡ initial_sets ds → AsksOwn ds (is_initialized ds) (initialized_by ds sets)
initialized_asks ds sets e = record { asks = initialized_is ds sets e }
