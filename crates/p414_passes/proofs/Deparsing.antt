-- The octets that leave.
use Rattle.std.proofs.Common.{◌≡◌, ℕ, zero, suc, ◌+◌, ◌%◌, ◌<◌, ◌≤◌, Bool, true, false, cond, List, [], ◌∷◌, ◌++◌, length, get_or, drop, map, slice_get, Option, Some, None, refl, sym, ap, ap₂, ◌∙◌, arith, append_assoc, append-nil}
use Rattle.std.specs.Prelude.{flat_map, MatchBool}
use Rattle.std.specs.Option.{option_map_or}
use Rattle.p4x_bits.specs.BitLists.{num, bits, octet_bits, IsOctets}
use Rattle.p4x_bits.proofs.BitLists.{octet_is}
use Rattle.p414_syntax.specs.declared.syntax.Decl.{Decl}
use Rattle.p414_syntax.specs.declared.syntax.Decl.TheVariants as decl
use Rattle.p414_syntax.specs.declared.syntax.Sort.TheVariants as sort
use Rattle.p414_syntax.specs.Names.{declared_in}
use Rattle.p414_sem.specs.Expanded.{Expanded}
use Rattle.p414_sem.specs.Packing.{bits_in, octets_in}
use Rattle.p414_sem.specs.Passes.{deparsed, header_octets, octets_at, octets_of}
use Rattle.p414_sem.specs.State.{Header, State, instance_at}
use Rattle.p414_layout.specs.declared.shape.Shape.{Shape}
use Rattle.p414_layout.specs.Placed.{total}
use Rattle.p414_layout.specs.Shapes.{layout_of, shape_at, shape_in}
use Rattle.p414_passes.specs.Leaving.{AreWhole, IsWholeShape, leaving, octets_in_layout, shape_octets}
use Rattle.p414_passes.proofs.Beginning.{shape_whole}
use Rattle.p414_passes.proofs.Keeping.{next_items}

-- octets by their bits

all_rest : (x : ℕ) (xs : List ℕ) → IsOctets (x ∷ xs) → IsOctets xs
all_rest x xs all = λ k d small. all (suc k) d (omega arith)

pub octets_of_bits : (xs : List ℕ) → IsOctets xs → octets_in (octet_bits xs) ≡ xs
unfolding bits
octets_of_bits [] all = refl
octets_of_bits (x ∷ xs) all =
    let first : num (bits 8 x) ≡ x = octet_is x (all 0 0 (omega arith)) in
    ap (λ (n : ℕ). n ∷ octets_in (octet_bits xs)) first ∙ ap (λ (l : List ℕ). x ∷ l) (octets_of_bits xs (all_rest x xs all))

-- a valid header has the octets of its fields, and an invalid one none

abbrev octets_by : Bool → List ℕ → List ℕ
octets_by b octets = cond b octets []

pub valid_put : (widths : List ℕ) (h : Header) (octets old new : List ℕ) → h.valid ≡ true → octet_bits octets ≡ bits_in widths h.numbers → IsOctets octets → new ≡ old ++ octets → new ≡ old ++ header_octets widths h
valid_put widths h octets old new valid same are is =
    is
    ∙ (ap (λ l. old ++ l) (sym (octets_of_bits octets are) ∙ ap octets_in same)
    ∙ ap (λ (b : Bool). old ++ octets_by b (octets_in (bits_in widths h.numbers))) (sym valid))

pub invalid_put : (widths : List ℕ) (h : Header) (old : List ℕ) → h.valid ≡ false → old ≡ old ++ header_octets widths h
invalid_put widths h old valid =
    sym (append-nil old) ∙ ap (λ (b : Bool). old ++ octets_by b (octets_in (bits_in widths h.numbers))) (sym valid)

-- one more element, and one more instance
pub next_octets : {X : Type 0} (f : X → List ℕ) (xs : List X) (i : ℕ) (d : X) (now new due : List ℕ) → i < length xs → new ≡ now ++ f (get_or xs i d) → now ++ flat_map f (drop i xs) ≡ due → new ++ flat_map f (drop (i + 1) xs) ≡ due
next_octets f xs i d now new due lt is all =
    ap (λ l. l ++ flat_map f (drop (i + 1) xs)) is
    ∙ (append_assoc now (f (get_or xs i d)) (flat_map f (drop (i + 1) xs))
    ∙ (ap (λ l. now ++ flat_map f l) (sym (next_items xs i d lt)) ∙ all))

-- an instance by its shape

abbrev shape_by : Bool → List ℕ → List ℕ
shape_by b octets = cond b [] octets

got : (layout : List Shape) (i : ℕ) → i < length layout → slice_get layout i ≡ Some (shape_at layout i)
got [] i lt = absurd (omega arith)
got (s ∷ layout) zero lt = refl
got (s ∷ layout) (suc i) lt = got layout i (omega arith)

not_got : (layout : List Shape) (i : ℕ) → length layout ≤ i → slice_get layout i ≡ None
not_got [] i le = refl
not_got (s ∷ layout) zero le = absurd (omega arith)
not_got (s ∷ layout) (suc i) le = not_got layout i (omega arith)

abbrev octets_by_shape : State → ℕ → Option Shape → List ℕ
octets_by_shape s n o = option_map_or (λ (shape : Shape). shape_octets shape (instance_at s n)) o []

pub header_put : (layout : List Shape) (s : State) (n : ℕ) (old new : List ℕ) → n < length layout → (shape_at layout n).metadata ≡ false → new ≡ old ++ flat_map (header_octets (shape_at layout n).widths) (instance_at s n).elements → new ≡ old ++ octets_in_layout layout s n
header_put layout s n old new lt meta is =
    is
    ∙ (ap (λ (b : Bool). old ++ shape_by b (flat_map (header_octets (shape_at layout n).widths) (instance_at s n).elements)) (sym meta)
    ∙ ap (λ (o : Option Shape). old ++ octets_by_shape s n o) (sym (got layout n lt)))

pub metadata_put : (layout : List Shape) (s : State) (n : ℕ) (old : List ℕ) → n < length layout → (shape_at layout n).metadata ≡ true → old ≡ old ++ octets_in_layout layout s n
metadata_put layout s n old lt meta =
    sym (append-nil old)
    ∙ (ap (λ (b : Bool). old ++ shape_by b (flat_map (header_octets (shape_at layout n).widths) (instance_at s n).elements)) (sym meta)
    ∙ ap (λ (o : Option Shape). old ++ octets_by_shape s n o) (sym (got layout n lt)))

pub none_put : (layout : List Shape) (s : State) (n : ℕ) (old : List ℕ) → length layout ≤ n → old ≡ old ++ octets_in_layout layout s n
none_put layout s n old le =
    sym (append-nil old) ∙ ap (λ (o : Option Shape). old ++ octets_by_shape s n o) (sym (not_got layout n le))

whole_by : (b : Bool) (P Q : Type 0) → b ≡ false → MatchBool b P Q → Q
whole_by true P Q e h = absurd (cc e)
whole_by false P Q e h = h

whole_header : (s : Shape) → s.metadata ≡ false → IsWholeShape s → total s.widths % 8 ≡ 0
whole_header s meta whole = whole_by s.metadata (s.stack ≡ None) (total s.widths % 8 ≡ 0) meta whole

pub whole_at : (layout : List Shape) (n : ℕ) → AreWhole layout → (shape_at layout n).metadata ≡ false → total (shape_at layout n).widths % 8 ≡ 0
whole_at layout n whole meta = whole_header (shape_at layout n) meta (shape_whole layout n whole)

-- of a program

abbrev made_octets : List Decl → State → ℕ → Option Decl → List ℕ
made_octets ds s n o = option_map_or (λ (d : Decl). octets_of ds d (instance_at s n)) o []

same_by : (ds rest : List Decl) (s : State) (n k : ℕ) → octets_by_shape s n (slice_get (map (shape_in ds) (declared_in sort.Instance rest)) k) ≡ made_octets ds s n (slice_get (declared_in sort.Instance rest) k)
same_by ds [] s n k = refl
same_by ds (decl.Header x ∷ rest) s n zero = refl
same_by ds (decl.Header x ∷ rest) s n (suc k) = same_by ds rest s n k
same_by ds (decl.Metadata x ∷ rest) s n zero = refl
same_by ds (decl.Metadata x ∷ rest) s n (suc k) = same_by ds rest s n k
same_by ds (decl.HeaderType x ∷ rest) s n k = same_by ds rest s n k
same_by ds (decl.FieldList x ∷ rest) s n k = same_by ds rest s n k
same_by ds (decl.FieldListCalculation x ∷ rest) s n k = same_by ds rest s n k
same_by ds (decl.CalculatedField x ∷ rest) s n k = same_by ds rest s n k
same_by ds (decl.Parser x ∷ rest) s n k = same_by ds rest s n k
same_by ds (decl.Action x ∷ rest) s n k = same_by ds rest s n k
same_by ds (decl.Table x ∷ rest) s n k = same_by ds rest s n k
same_by ds (decl.Counter x ∷ rest) s n k = same_by ds rest s n k
same_by ds (decl.Meter x ∷ rest) s n k = same_by ds rest s n k
same_by ds (decl.Register x ∷ rest) s n k = same_by ds rest s n k
same_by ds (decl.Control x ∷ rest) s n k = same_by ds rest s n k
same_by ds (decl.LeftOut x ∷ rest) s n k = same_by ds rest s n k

all_same : (ds : List Decl) (s : State) (order : List ℕ) → flat_map (octets_in_layout (layout_of ds) s) order ≡ flat_map (octets_at ds s) order
all_same ds s [] = refl
all_same ds s (n ∷ order) = ap₂ (λ (a b : List ℕ). a ++ b) (same_by ds ds s n n) (all_same ds s order)

pub leaves_as : (ds : List Decl) (x : Expanded) (s : State) → leaving (layout_of ds) x.order s ≡ deparsed ds x s
leaves_as ds x s = ap (λ l. l ++ s.unparsed) (all_same ds s x.order)
