-- L-values from the inside out.
use Rattle.std.proofs.Common.{◌≡◌, ℕ, suc, ◌-◌, ◌<◌, ◌≤◌, Option, Some, None, List, [], ◌∷◌, ◌++◌, length, map, drop, get_or, refl, sym, ap, ◌∙◌, arith, append_assoc}
use Rattle.std.proofs.Math.Seq.{drop-cons}
use Rattle.std.proofs.lemmas.List.{map-append, append-nil, get_or-map}
use Rattle.std.proofs.lemmas.Simd.{map-map}
use Rattle.std.specs.Prelude.{option_map}
use Rattle.p416_syntax.specs.Tree.{Exp16, literal, truth, error, name, member, index, slice, call, lookahead, cast, unary, binary, choice, parenthesized, no_arguments, argument, listed}
use Rattle.p416_syntax.specs.Subtrees.{subexpressions}
use Rattle.p416_syntax.specs.Names.{Name}
use Rattle.p416_syntax.specs.Kinds as kind
use Rattle.p416_syntax.specs.Kinds.{Kind}
use Rattle.p416_syntax.specs.Scopes.{Known, Layout, Scope}
use Rattle.p416_syntax.specs.Expressions.{kind_of}
use Rattle.p416_names.specs.declared.kind.Kind.{Kind as CodeKind}
use Rattle.p416_names.specs.SeenKinds.{seen_kind}
use Rattle.p416_typing.specs.declared.row.Row.{Row}
use Rattle.p416_typing.specs.Rows.{RowOf, left_of, row_of}
use Rattle.p416_typing.specs.Seen.{seen_row}
use Rattle.v1_core.specs.Values as values
use Rattle.v1_core.specs.Values.{to_element}
use Rattle.v1_core.specs.Expressions.{slice_of}
use Rattle.v1_core.specs.Seats.{Form, slot_form, header_form, stack_form, struct_form, no_form, Seat}
use Rattle.v1_ready_forms.specs.Named.{NamedSeat}
use Rattle.v1_ready_forms.specs.Spots.{Told, Spot, spot_behind}
use Rattle.v1_ready_blocks.specs.declared.places.Slice.{Slice}
use Rattle.v1_ready_blocks.specs.Places.{seen_slice}
use Rattle.v1_place_laws.specs.Places.{Meant, meant, behind_meant, slice_meant, member_meant, meant_by}
use Rattle.v1_ready_statements.specs.Targets.{ready_slice, target_of}
use Rattle.v1_ready_places.specs.internal.Chains.{seen_left, part_spot, step, chained}

-- members

pub nothing_has_no_member : (types : List Layout) (k : Kind) (word : Name) → None ≡ member_meant types k word None
nothing_has_no_member types (kind.bits w) word = refl
nothing_has_no_member types kind.unsized word = refl
nothing_has_no_member types kind.boolean word = refl
nothing_has_no_member types kind.error_code word = refl
nothing_has_no_member types (kind.header type) word = refl
nothing_has_no_member types (kind.stack type size) word = refl
nothing_has_no_member types (kind.struct type) word = refl
nothing_has_no_member types kind.packet_in word = refl
nothing_has_no_member types kind.packet_out word = refl
nothing_has_no_member types kind.errors word = refl
nothing_has_no_member types (kind.enumeration of) word = refl
nothing_has_no_member types (kind.one_of of) word = refl
nothing_has_no_member types kind.table word = refl
nothing_has_no_member types kind.applied word = refl
nothing_has_no_member types (kind.object of) word = refl
nothing_has_no_member types kind.items word = refl
nothing_has_no_member types kind.nothing word = refl
nothing_has_no_member types kind.unknown word = refl

pub slice_has_no_member : (types : List Layout) (k : Kind) (word : Name) (x : Spot) (s : values.Slice) → None ≡ member_meant types k word (Some (record { spot = x; slice = Some s }))
slice_has_no_member types (kind.bits w) word x s = refl
slice_has_no_member types kind.unsized word x s = refl
slice_has_no_member types kind.boolean word x s = refl
slice_has_no_member types kind.error_code word x s = refl
slice_has_no_member types (kind.header type) word x s = refl
slice_has_no_member types (kind.stack type size) word x s = refl
slice_has_no_member types (kind.struct type) word x s = refl
slice_has_no_member types kind.packet_in word x s = refl
slice_has_no_member types kind.packet_out word x s = refl
slice_has_no_member types kind.errors word x s = refl
slice_has_no_member types (kind.enumeration of) word x s = refl
slice_has_no_member types (kind.one_of of) word x s = refl
slice_has_no_member types kind.table word x s = refl
slice_has_no_member types kind.applied word x s = refl
slice_has_no_member types (kind.object of) word x s = refl
slice_has_no_member types kind.items word x s = refl
slice_has_no_member types kind.nothing word x s = refl
slice_has_no_member types kind.unknown word x s = refl

pub member_of_whole : (types : List Layout) (k : Kind) (word : Name) (x : Spot) → meant None (part_spot types k word x) ≡ member_meant types k word (Some (record { spot = x; slice = None }))
member_of_whole types (kind.bits w) word x = refl
member_of_whole types kind.unsized word x = refl
member_of_whole types kind.boolean word x = refl
member_of_whole types kind.error_code word x = refl
member_of_whole types (kind.header type) word x = refl
member_of_whole types (kind.stack type size) word x = refl
member_of_whole types (kind.struct type) word x = refl
member_of_whole types kind.packet_in word x = refl
member_of_whole types kind.packet_out word x = refl
member_of_whole types kind.errors word x = refl
member_of_whole types (kind.enumeration of) word x = refl
member_of_whole types (kind.one_of of) word x = refl
member_of_whole types kind.table word x = refl
member_of_whole types kind.applied word x = refl
member_of_whole types (kind.object of) word x = refl
member_of_whole types kind.items word x = refl
member_of_whole types kind.nothing word x = refl
member_of_whole types kind.unknown word x = refl

-- targets

pub told_is_no_target : (x : Seat) (t : Told) (cut : Option values.Slice) → None ≡ target_of (record { spot = record { seat = x; told = Some t }; slice = cut })
told_is_no_target x t cut = by x.form where
  by : (form : Form) → None ≡ target_of (record { spot = record { seat = record x { form = form }; told = Some t }; slice = cut })
  by (slot_form of) = refl
  by (header_form type) = refl
  by (stack_form type size) = refl
  by (struct_form type) = refl
  by no_form = refl

pub sliced_again : (cut : Option Slice) → cut ≡ option_map ready_slice (option_map seen_slice cut)
sliced_again None = refl
sliced_again (Some s) = refl

-- the kinds of first parts

pub lefts_begin : (rows : List Row) → map seen_kind [] ++ map seen_left rows ≡ map seen_left rows
lefts_begin rows = refl

pub lefts_turn : (made now : List CodeKind) (rows rest : List Row) (r : Row) (all : List Kind) → now ≡ made ++ r.left ∷ [] → rows ≡ r ∷ rest → map seen_kind made ++ map seen_left rows ≡ all → map seen_kind now ++ map seen_left rest ≡ all
lefts_turn made now rows rest r all pushed taken is =
    ap (λ ks. map seen_kind ks ++ map seen_left rest) pushed
    ∙ (ap (λ ks. ks ++ map seen_left rest) (map-append seen_kind made (r.left ∷ []))
    ∙ (append_assoc (map seen_kind made) (seen_kind r.left ∷ []) (map seen_left rest)
    ∙ (sym (ap (λ rs. map seen_kind made ++ map seen_left rs) taken) ∙ is)))

pub lefts_end : (made : List CodeKind) (rows : List Row) (all : List Kind) → rows ≡ [] → map seen_kind made ++ map seen_left rows ≡ all → map seen_kind made ≡ all
lefts_end made rows all none is =
    sym (append-nil (map seen_kind made)) ∙ (sym (ap (λ rs. map seen_kind made ++ map seen_left rs) none) ∙ is)

abbrev left_in : RowOf → Kind
left_in r = r.left

-- those of rows that are known of expressions
pub lefts_known : (s : Scope) (top : List Known) (rows : List Row) (es : List Exp16) → map (seen_row top) rows ≡ map (row_of s) es → map seen_left rows ≡ map (left_of s) es
lefts_known s top rows es is =
    sym (map-map left_in (seen_row top) rows) ∙ (ap (map left_in) is ∙ map-map left_in (row_of s) es)

-- one more from the inside out

dropped : {A : Type 0} (xs : List A) (left : ℕ) (d : A) → 0 < left → left ≤ length xs → drop (left - 1) xs ≡ get_or xs (left - 1) d ∷ drop left xs
dropped xs left d some within =
    let next : suc (left - 1) ≡ left = omega arith in
    drop-cons xs (left - 1) d (omega arith) ∙ ap (λ n. get_or xs (left - 1) d ∷ drop n xs) next

kind_known : (s : Scope) (kinds : List CodeKind) (views : List Exp16) (i : ℕ) (d : CodeKind) (f : Exp16) → i < length kinds → i < length views → map seen_kind kinds ≡ map (left_of s) views → seen_kind (get_or kinds i d) ≡ left_of s (get_or views i f)
kind_known s kinds views i d f in_kinds in_views is =
    sym (get_or-map seen_kind kinds i d kind.unknown in_kinds)
    ∙ (ap (λ ks. get_or ks i kind.unknown) is ∙ get_or-map (left_of s) views i f kind.unknown in_views)

pub meant_turn : (s : Scope) (seats : List NamedSeat) (types : List Layout) (kinds : List CodeKind) (views : List Exp16) (left : ℕ) (k d : CodeKind) (e x f : Exp16) (m n : Option Meant) → types ≡ s.layouts → 0 < left → left ≤ length kinds → left ≤ length views → k ≡ get_or kinds (left - 1) d
    → e ≡ get_or views (left - 1) f → e ≡ x → map seen_kind kinds ≡ map (left_of s) views → m ≡ chained s seats (drop left views) → n ≡ step types seats (seen_kind k) x m → n ≡ chained s seats (drop (left - 1) views)
meant_turn s seats types kinds views left k d e x f m n same some in_kinds in_views kind_is view_is head_is known is so =
    so
    ∙ (ap (λ ts. step ts seats (seen_kind k) x m) same
    ∙ (ap (λ y. step s.layouts seats (seen_kind y) x m) kind_is
    ∙ (ap (λ y. step s.layouts seats y x m) (kind_known s kinds views (left - 1) d f (omega arith) (omega arith) known)
    ∙ (ap (λ y. step s.layouts seats (left_of s (get_or views (left - 1) f)) y m) (sym head_is ∙ view_is)
    ∙ (ap (step s.layouts seats (left_of s (get_or views (left - 1) f)) (get_or views (left - 1) f)) is
    ∙ ap (chained s seats) (sym (dropped views left f some in_views)))))))

-- the whole chain

pub chain_is : (s : Scope) (seats : List NamedSeat) (e : Exp16) (more : List Exp16) → chained s seats (subexpressions e ++ more) ≡ meant_by s seats e
chain_is s seats (literal n) more = refl
chain_is s seats (truth b) more = refl
chain_is s seats error more = refl
chain_is s seats (name text) more = refl
chain_is s seats (member e word) more = ap (member_meant s.layouts (kind_of s e) word) (chain_is s seats e more)
chain_is s seats (index e at) more = ap (behind_meant (spot_behind s.layouts (to_element at.value))) (chain_is s seats e more)
chain_is s seats (slice e high low) more = ap (slice_meant (slice_of high low)) (chain_is s seats e more)
chain_is s seats (call e given) more = refl
chain_is s seats (lookahead e to given) more = refl
chain_is s seats (cast to e) more = refl
chain_is s seats (unary operator e) more = refl
chain_is s seats (binary operator a b) more = refl
chain_is s seats (choice c a b) more = refl
chain_is s seats (parenthesized e) more = refl
chain_is s seats no_arguments more = refl
chain_is s seats (argument before last) more = refl
chain_is s seats (listed es) more = refl

pub chain_whole : (s : Scope) (seats : List NamedSeat) (e : Exp16) → chained s seats (subexpressions e) ≡ meant_by s seats e
chain_whole s seats e = ap (chained s seats) (sym (append-nil (subexpressions e))) ∙ chain_is s seats e []
