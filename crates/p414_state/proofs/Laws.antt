-- Laws for those who let what was read in one moment fall on another.
use Rattle.std.proofs.Common.{◌≡◌, ℕ, suc, ◌<◌, ◌≤◌, Bool, true, false, List, [], ◌∷◌, length, Option, Some, None, replicate, refl, sym, ap, ◌∙◌, ⊎_elim}
use Rattle.std.specs.Prelude.{option_and_then, unwrap_or}
use Rattle.std.specs.Option.{option_map_or}
use Rattle.std.proofs.lemmas.Bool.{cases_lt}
use Rattle.std.proofs.lemmas.List.{set_past}
use Rattle.p414_syntax.specs.declared.syntax.Decl.{Decl}
use Rattle.p414_syntax.specs.declared.syntax.Decl.TheVariants as decl
use Rattle.p414_syntax.specs.declared.syntax.Sort.TheVariants as sort
use Rattle.p414_syntax.specs.Names.{Name, number_of, numbered, names_in}
use Rattle.p414_syntax.specs.Fields.{is_header, is_header_in}
use Rattle.p414_syntax.specs.ParserGraph.{instance_number}
use Rattle.p414_sem.specs.State.{Header, no_header, header_at, elements_at, with_header, with_elements, blank, cleared}
use Rattle.p414_sem.specs.Fitting.{FitsHeader, FitWidths}
use Rattle.p414_layout.specs.declared.shape.Shape.{Shape}
use Rattle.p414_layout.specs.Placed.{total, octets_for}
use Rattle.p414_layout.specs.Shapes.{shape_at, shape_in, element_count, layout_of}
use Rattle.p414_layout.proofs.Programs.{shape_numbered}
use Rattle.p414_state.specs.Packets.{Packet, IsHeader}
use Rattle.p414_state.specs.Headers.{Packed, header_in, HoldsHeader, FitsAt}

-- A header of one instance is one of another instance that has the same fields and is no metadata.
pub held_as : (a b : Shape) (h : Header) (p : Packed) → a.widths ≡ b.widths → b.metadata ≡ false → HoldsHeader a h p → HoldsHeader b h p
held_as a b h p same header holds = record {
  is = ap (λ (w : List ℕ). header_in w p) (sym same) ∙ holds.is;
  packed = record {
    room = holds.packed.room ∙ ap (λ (w : List ℕ). octets_for (total w)) same;
    zeros = λ invalid. holds.packed.zeros invalid ∙ ap (λ (w : List ℕ). replicate (octets_for (total w)) 0) same;
    metadata = λ m. absurd (cc (sym header ∙ m));
  };
}

many_numbers : (widths numbers : List ℕ) → FitWidths widths numbers → length numbers ≡ length widths
many_numbers [] [] fit = refl
many_numbers [] (n ∷ numbers) fit = absurd fit
many_numbers (w ∷ widths) [] fit = absurd fit
many_numbers (w ∷ widths) (n ∷ numbers) fit = ap suc (many_numbers widths numbers fit.1)

-- What is cleared of a header has as many fields as its instance.
pub cleared_is : (p : Packet) (i e : ℕ) (valid : Bool) → FitsAt p i → e < element_count (shape_at p.layout i) → cleared valid (header_at p.state i e) ≡ blank valid (length (shape_at p.layout i).widths)
cleared_is p i e valid fits lt =
    let inside : e < length (elements_at p.state i) = rw fits.count lt in
    let header : FitsHeader (shape_at p.layout i).widths (header_at p.state i e) = fits.each e no_header inside in
    ap (blank valid) (many_numbers (shape_at p.layout i).widths (header_at p.state i e).numbers header.numbers)

-- So a header that was cleared in one moment is the one that is cleared in another.
pub cleared_same : (r m : Packet) (i e : ℕ) (valid : Bool) → r.layout ≡ m.layout → FitsAt r i → FitsAt m i → with_header m.state i e (cleared valid (header_at r.state i e)) ≡ with_header m.state i e (cleared valid (header_at m.state i e))
cleared_same r m i e valid same read now =
    ⊎_elim
    (λ lt.
    let there : e < element_count (shape_at r.layout i) = rw same lt in
    ap (with_header m.state i e)
    (cleared_is r i e valid read there
    ∙ ap (λ (l : List Shape). blank valid (length (shape_at l i).widths)) same
    ∙ sym (cleared_is m i e valid now lt)))
    (λ le.
    let past : length (elements_at m.state i) ≤ e = rw now.count le in
    ap (with_elements m.state i)
    (set_past (elements_at m.state i) e (cleared valid (header_at r.state i e)) past
    ∙ sym (set_past (elements_at m.state i) e (cleared valid (header_at m.state i e)) past)))
    (cases_lt e (element_count (shape_at m.layout i)))

-- What a program names as a header is no metadata by its layout.

header_shape : (ds : List Decl) (d : Decl) → is_header_in d ≡ true → (shape_in ds d).metadata ≡ false
header_shape ds (decl.Header x) is = refl
header_shape ds (decl.Metadata x) is = absurd (cc is)
header_shape ds (decl.HeaderType x) is = refl
header_shape ds (decl.FieldList x) is = refl
header_shape ds (decl.FieldListCalculation x) is = refl
header_shape ds (decl.CalculatedField x) is = refl
header_shape ds (decl.Parser x) is = refl
header_shape ds (decl.Action x) is = refl
header_shape ds (decl.Table x) is = refl
header_shape ds (decl.Counter x) is = refl
header_shape ds (decl.Meter x) is = refl
header_shape ds (decl.Register x) is = refl
header_shape ds (decl.Control x) is = refl
header_shape ds (decl.LeftOut x) is = refl

header_numbered : (ds : List Decl) (n : ℕ) (o : Option Decl) → numbered sort.Instance ds n ≡ o → option_map_or is_header_in o false ≡ true → (shape_at (layout_of ds) n).metadata ≡ false
header_numbered ds n None there is = absurd (cc is)
header_numbered ds n (Some d) there is = ap (λ (s : Shape). s.metadata) (shape_numbered ds n d there) ∙ header_shape ds d is

header_by : (ds : List Decl) (o : Option ℕ) → option_map_or is_header_in (option_and_then (numbered sort.Instance ds) o) false ≡ true → (shape_at (layout_of ds) (unwrap_or o (length (names_in sort.Instance ds)))).metadata ≡ false
header_by ds None is = absurd (cc is)
header_by ds (Some n) is = header_numbered ds n (numbered sort.Instance ds n) refl is

pub header_named : (ds : List Decl) (name : Name) → is_header ds name ≡ true → IsHeader (layout_of ds) (instance_number ds name)
header_named ds name is = record { header = header_by ds (number_of sort.Instance ds name) is }
