-- The layout of a program and its states.
use Rattle.std.proofs.Common.{◌≡◌, ℕ, zero, suc, ◌+◌, Bool, true, false, List, [], ◌∷◌, length, map, get_or, sum, Option, Some, None, refl, sym, ap, ap₂, ◌∙◌}
use Rattle.std.specs.Prelude.{option_map, option_and_then, slice_get}
use Rattle.std.specs.Option.{option_map_or}
use Rattle.std.proofs.lemmas.List.{length-map}
use Rattle.std.proofs.lemmas.List.Sums.{sum_by-cons}
use Rattle.p414_syntax.specs.declared.lexeme.Literal.{Literal}
use Rattle.p414_syntax.specs.declared.syntax.Decl.{Decl}
use Rattle.p414_syntax.specs.declared.syntax.Decl.TheVariants as decl
use Rattle.p414_syntax.specs.declared.syntax.Sort.TheVariants as sort
use Rattle.p414_syntax.specs.Views.{HeaderTypeTree}
use Rattle.p414_syntax.specs.Names.{Name, declared_in, numbered, number_of}
use Rattle.p414_syntax.specs.Cells.{literal_value}
use Rattle.p414_syntax.specs.Fields.{type_of, type_name_in, field_bits}
use Rattle.p414_syntax.specs.Totals.{elements_of, field_count, fields_of_type}
use Rattle.p414_sem.specs.State.{Instance, blank_instance, new_instance}
use Rattle.p414_sem.specs.Packing.{type_widths, widths_of_type, widths_of}
use Rattle.p414_layout.specs.declared.shape.Shape.{Shape}
use Rattle.p414_layout.specs.Placed.{total}
use Rattle.p414_layout.specs.Shapes.{count_by, no_shape, shape_in, layout_of, shape_at, blank_of}

elements_are : (size : Option Literal) → count_by (option_map literal_value size) ≡ elements_of size
elements_are (Some n) = refl
elements_are None = refl

many_in : (t : Option HeaderTypeTree) → length (option_map_or type_widths t []) ≡ option_map_or field_count t 0
many_in (Some t) = length-map t.fields field_bits
many_in None = refl

fields_are : (ds : List Decl) (name : Name) → length (widths_of_type ds name) ≡ fields_of_type ds name
fields_are ds name = many_in (type_of ds name)

-- what a declaration makes is blank as the meaning says
blank_is : (ds : List Decl) (d : Decl) → blank_of (shape_in ds d) ≡ new_instance ds d
blank_is ds (decl.Header x) = ap₂ (λ (n k : ℕ). blank_instance false n k) (elements_are x.size) (fields_are ds x.header_type)
blank_is ds (decl.Metadata x) = ap (λ (k : ℕ). blank_instance true 1 k) (fields_are ds x.header_type)
blank_is ds (decl.HeaderType x) = refl
blank_is ds (decl.FieldList x) = refl
blank_is ds (decl.FieldListCalculation x) = refl
blank_is ds (decl.CalculatedField x) = refl
blank_is ds (decl.Parser x) = refl
blank_is ds (decl.Action x) = refl
blank_is ds (decl.Table x) = refl
blank_is ds (decl.Counter x) = refl
blank_is ds (decl.Meter x) = refl
blank_is ds (decl.Register x) = refl
blank_is ds (decl.Control x) = refl
blank_is ds (decl.LeftOut x) = refl

blanks_are : (ds made : List Decl) → map blank_of (map (shape_in ds) made) ≡ map (new_instance ds) made
blanks_are ds [] = refl
blanks_are ds (d ∷ made) = ap₂ (λ (i : Instance) (l : List Instance). i ∷ l) (blank_is ds d) (blanks_are ds made)

pub layout_blank : (ds : List Decl) → map blank_of (layout_of ds) ≡ map (new_instance ds) (declared_in sort.Instance ds)
layout_blank ds = blanks_are ds (declared_in sort.Instance ds)

-- what stands at a number

shape_got : (f : Decl → Shape) (xs : List Decl) (n : ℕ) (d : Decl) → slice_get xs n ≡ Some d → get_or (map f xs) n no_shape ≡ f d
shape_got f [] n d e = absurd (cc e)
shape_got f (x ∷ xs) zero d e = let same : x ≡ d = cc e in ap f same
shape_got f (x ∷ xs) (suc n) d e = shape_got f xs n d e

-- the shape of the instance with this number
pub shape_numbered : (ds : List Decl) (n : ℕ) (d : Decl) → numbered sort.Instance ds n ≡ Some d → shape_at (layout_of ds) n ≡ shape_in ds d
shape_numbered ds n d e = shape_got (shape_in ds) (declared_in sort.Instance ds) n d e

widths_got : (f : Decl → Shape) (xs : List Decl) (n : ℕ) → (get_or (map f xs) n no_shape).widths ≡ option_map_or (λ (d : Decl). (f d).widths) (slice_get xs n) []
widths_got f [] n = refl
widths_got f (x ∷ xs) zero = refl
widths_got f (x ∷ xs) (suc n) = widths_got f xs n

widths_in : (ds : List Decl) (d : Decl) → (shape_in ds d).widths ≡ option_map_or type_widths (option_and_then (type_of ds) (type_name_in d)) []
widths_in ds (decl.Header x) = refl
widths_in ds (decl.Metadata x) = refl
widths_in ds (decl.HeaderType x) = refl
widths_in ds (decl.FieldList x) = refl
widths_in ds (decl.FieldListCalculation x) = refl
widths_in ds (decl.CalculatedField x) = refl
widths_in ds (decl.Parser x) = refl
widths_in ds (decl.Action x) = refl
widths_in ds (decl.Table x) = refl
widths_in ds (decl.Counter x) = refl
widths_in ds (decl.Meter x) = refl
widths_in ds (decl.Register x) = refl
widths_in ds (decl.Control x) = refl
widths_in ds (decl.LeftOut x) = refl

widths_by : (ds : List Decl) (o : Option Decl) → option_map_or (λ (d : Decl). (shape_in ds d).widths) o [] ≡ option_map_or type_widths (option_and_then (type_of ds) (option_and_then type_name_in o)) []
widths_by ds None = refl
widths_by ds (Some d) = widths_in ds d

-- the fields of the instance with a name have the widths that the meaning gives them
pub widths_named : (ds : List Decl) (name : Name) (n : ℕ) → number_of sort.Instance ds name ≡ Some n → (shape_at (layout_of ds) n).widths ≡ widths_of ds name
widths_named ds name n e =
    widths_got (shape_in ds) (declared_in sort.Instance ds) n
    ∙ widths_by ds (slice_get (declared_in sort.Instance ds) n)
    ∙ ap (λ (o : Option ℕ). option_map_or type_widths (option_and_then (type_of ds) (option_and_then type_name_in (option_and_then (numbered sort.Instance ds) o))) []) (sym e)

-- the bits of fields are their sum
pub total_is : (widths : List ℕ) → total widths ≡ sum widths
total_is [] = refl
total_is (w ∷ widths) = ap (λ (n : ℕ). w + n) (total_is widths) ∙ sym (sum_by-cons (λ (x : ℕ). x) w widths)
