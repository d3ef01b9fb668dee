-- Objects are found by their names.
use Rattle.std.proofs.Common.{◌≡◌, Bool, true, false, cond, List, [], ◌∷◌, map, Option, Some, refl, sym, ap, ◌∙◌, slice_get}
use Rattle.std.specs.Prelude.{option_and_then}
use Rattle.std.specs.Option.{option_map, option_map_or}
use Rattle.std.specs.Str.{bytes_eq}
use Rattle.state_store.specs.declared.shapes.Shape.{Shape}
use Rattle.state_store.specs.declared.shapes.Shape.TheVariants as shape
use Rattle.name_numbers.specs.Names.{find_name}
use Rattle.p416_names.proofs.Found.{first_step}
use Rattle.p416_syntax.specs.Names.{Name}
use Rattle.v1_core.specs.Signatures.{Object, plane_among, shape_among, shape_of}
use Rattle.p416_signature.specs.internal.Seen.{own_name, plane_of}
use Rattle.p416_signature.specs.internal.Gathered.{first_named, own_shape, shape_in}

plane_step : (b : Bool) (o : Object) (r : Option Object) → cond b (Some o.plane) (option_map plane_of r) ≡ option_map plane_of (cond b (Some o) r)
plane_step true o r = refl
plane_step false o r = refl

plane_first : (os : List Object) (text : Name) → plane_among os text ≡ option_map plane_of (first_named own_name os text)
plane_first [] text = refl
plane_first (o ∷ os) text =
    ap (λ (r : Option Name). cond (bytes_eq (own_name o) text) (Some o.plane) r) (plane_first os text)
    ∙ (plane_step (bytes_eq (own_name o) text) o (first_named own_name os text)
    ∙ ap (option_map plane_of) (sym (first_step own_name o os text)))

plane_at : (os : List Object) (names : List Name) (text : Name) → names ≡ map own_name os → option_map plane_of (option_and_then (slice_get os) (find_name names text)) ≡ plane_among os text
plane_at os names text are = ap (λ (l : List Name). option_map plane_of (option_and_then (slice_get os) (find_name l text))) are ∙ sym (plane_first os text)

pub plane_found : (os : List Object) (names : List Name) (text : Name) (found : Option Object) (plane : Option Name) → names ≡ map own_name os → found ≡ option_and_then (slice_get os) (find_name names text) → plane ≡ option_map plane_of found → plane ≡ plane_among os text
plane_found os names text found plane are is told = told ∙ (ap (option_map plane_of) is ∙ plane_at os names text are)

-- shapes by control-plane names

shape_step : (b : Bool) (o : Object) (r : Option Object) → cond b (shape_of o.instance) (option_map_or own_shape r (shape.Meter 0)) ≡ option_map_or own_shape (cond b (Some o) r) (shape.Meter 0)
shape_step true o r = refl
shape_step false o r = refl

shape_first : (os : List Object) (plane : Name) → shape_among os plane ≡ option_map_or own_shape (first_named plane_of os plane) (shape.Meter 0)
shape_first [] plane = refl
shape_first (o ∷ os) plane =
    ap (λ (s : Shape). cond (bytes_eq o.plane plane) (shape_of o.instance) s) (shape_first os plane)
    ∙ (shape_step (bytes_eq o.plane plane) o (first_named plane_of os plane)
    ∙ ap (λ (r : Option Object). option_map_or own_shape r (shape.Meter 0)) (sym (first_step plane_of o os plane)))

shape_at : (os : List Object) (names : List Name) (plane : Name) → names ≡ map plane_of os → option_map_or own_shape (option_and_then (slice_get os) (find_name names plane)) (shape.Meter 0) ≡ shape_among os plane
shape_at os names plane are = ap (λ (l : List Name). option_map_or own_shape (option_and_then (slice_get os) (find_name l plane)) (shape.Meter 0)) are ∙ sym (shape_first os plane)

pub shape_found : (os : List Object) (names : List Name) (plane : Name) (found : Option Object) (told : Shape) → names ≡ map plane_of os → found ≡ option_and_then (slice_get os) (find_name names plane) → told ≡ shape_in found → told ≡ shape_among os plane
shape_found os names plane found told are is made = made ∙ (ap shape_in is ∙ shape_at os names plane are)
