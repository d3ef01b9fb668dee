-- Lists of another length are no parameters and no blocks that are wanted.
use Rattle.std.proofs.Common.{◌≡◌, ℕ, zero, suc, Bool, true, false, ◌&&◌, ◌<◌, List, [], ◌∷◌, length, map, refl, sym, ap, ◌∙◌, arith, Result, Ok, Err, slice_get}
use Rattle.std.proofs.lemmas.List.{length-map}
use Rattle.std.specs.Prelude.{IfOk}
use Rattle.std.specs.Option.{option_map_or}
use Rattle.p416_syntax.specs.declared.parts.Param.{Param}
use Rattle.p416_syntax.specs.declared.program.Decl16.{Decl16}
use Rattle.p416_syntax.specs.Names.{Name}
use Rattle.p416_main_check.specs.internal.Seen.{parameter_kind}
use Rattle.p416_syntax.specs.Kinds.{Kind, unknown}
use Rattle.p416_syntax.specs.Scopes.{Known}
use Rattle.p416_syntax.specs.declared.program.Syntax16.{Syntax16}
use Rattle.p416_syntax.specs.Declarations.{top_names, layouts_of}
use Rattle.p416_syntax.specs.Main.{wanted_blocks, are_headers, is_metadata, headers_kind, metadata_kind, is_main, Shape, BlockShape, parameter_shape, kind_at, block_of, is_same_shape, are_same_shapes, is_block, are_blocks}

and_false : (b c : Bool) → c ≡ false → (b && c) ≡ false
and_false true c e = e
and_false false c e = refl

shapes_apart : (xs ys : List Shape) → (length xs ≡ length ys → ⊥) → are_same_shapes xs ys ≡ false
shapes_apart [] [] apart = absurd (apart refl)
shapes_apart [] (y ∷ ys) apart = refl
shapes_apart (x ∷ xs) [] apart = refl
shapes_apart (x ∷ xs) (y ∷ ys) apart = and_false (is_same_shape x y) (are_same_shapes xs ys) (shapes_apart xs ys (λ same. apart (ap suc same)))

pub too_few : (wanted : List Shape) (names : List Known) (ps : List Param) → length ps < length wanted → are_same_shapes wanted (map (parameter_shape names) ps) ≡ false
too_few wanted names ps few =
    let long : length (map (parameter_shape names) ps) ≡ length ps = length-map ps (parameter_shape names) in
    shapes_apart wanted (map (parameter_shape names) ps) (λ same. omega arith)

pub too_many : (wanted : List Shape) (names : List Known) (ps : List Param) → length wanted < length ps → are_same_shapes wanted (map (parameter_shape names) ps) ≡ false
too_many wanted names ps many =
    let long : length (map (parameter_shape names) ps) ≡ length ps = length-map ps (parameter_shape names) in
    shapes_apart wanted (map (parameter_shape names) ps) (λ same. omega arith)

blocks_apart : (names : List Known) (ds : List Decl16) (wanted : List BlockShape) (main : List Name) → (length wanted ≡ length main → ⊥) → are_blocks names ds wanted main ≡ false
blocks_apart names ds [] [] apart = absurd (apart refl)
blocks_apart names ds [] (text ∷ main) apart = refl
blocks_apart names ds (b ∷ wanted) [] apart = refl
blocks_apart names ds (b ∷ wanted) (text ∷ main) apart =
    and_false (is_block b (block_of names ds text)) (are_blocks names ds wanted main) (blocks_apart names ds wanted main (λ same. apart (ap suc same)))

pub too_few_blocks : (names : List Known) (ds : List Decl16) (wanted : List BlockShape) (main : List Name) → length main < length wanted → are_blocks names ds wanted main ≡ false
too_few_blocks names ds wanted main few = blocks_apart names ds wanted main (λ same. omega arith)

pub too_many_blocks : (names : List Known) (ds : List Decl16) (wanted : List BlockShape) (main : List Name) → length wanted < length main → are_blocks names ds wanted main ≡ false
too_many_blocks names ds wanted main many = blocks_apart names ds wanted main (λ same. omega arith)

-- the kind of the parameter at a place

pub kind_found : (names : List Known) (ps : List Param) (n : ℕ) → kind_at n (map (parameter_shape names) ps) ≡ option_map_or (parameter_kind names) (slice_get ps n) unknown
kind_found names [] n = refl
kind_found names (p ∷ ps) zero = refl
kind_found names (p ∷ ps) (suc n) = kind_found names ps n

-- the whole of T11

abbrev whole : List Decl16 → List Name → Kind → Kind → Bool
whole ds main h m = are_blocks (top_names ds) ds (wanted_blocks h m) main && (are_headers (layouts_of ds) h && is_metadata (layouts_of ds) m)

main_is : (s : Syntax16) (ds : List Decl16) (main : List Name) (h m : Kind) → s.decls ≡ ds → s.main ≡ main → (h ≡ headers_kind s) × (m ≡ metadata_kind s)
    → is_main s ≡ (are_blocks (top_names ds) ds (wanted_blocks h m) main && (are_headers (layouts_of ds) h && is_metadata (layouts_of ds) m))
main_is s ds main h m of_decls of_main kinds =
    ap (λ k. whole s.decls s.main k (metadata_kind s)) (sym kinds.0)
    ∙ (ap (λ k. whole s.decls s.main h k) (sym kinds.1) ∙ (ap (λ x. whole x s.main h m) of_decls ∙ ap (λ x. whole ds x h m) of_main))

pub not_blocks : (s : Syntax16) (ds : List Decl16) (main : List Name) (h m : Kind) → s.decls ≡ ds → s.main ≡ main → (h ≡ headers_kind s) × (m ≡ metadata_kind s)
    → false ≡ are_blocks (top_names ds) ds (wanted_blocks h m) main → false ≡ is_main s
not_blocks s ds main h m of_decls of_main kinds none = sym (main_is s ds main h m of_decls of_main kinds ∙ rw (sym none) refl)

pub not_headers : (s : Syntax16) (ds : List Decl16) (main : List Name) (h m : Kind) → s.decls ≡ ds → s.main ≡ main → (h ≡ headers_kind s) × (m ≡ metadata_kind s)
    → false ≡ are_headers (layouts_of ds) h → false ≡ is_main s
not_headers s ds main h m of_decls of_main kinds none =
    sym (main_is s ds main h m of_decls of_main kinds ∙ and_false (are_blocks (top_names ds) ds (wanted_blocks h m) main) (are_headers (layouts_of ds) h && is_metadata (layouts_of ds) m) (rw (sym none) refl))

pub main_by : {E : Type 0} (s : Syntax16) (r : Result Bool E) (ds : List Decl16) (main : List Name) (h m : Kind) → s.decls ≡ ds → s.main ≡ main → (h ≡ headers_kind s) × (m ≡ metadata_kind s)
    → true ≡ are_blocks (top_names ds) ds (wanted_blocks h m) main → true ≡ are_headers (layouts_of ds) h → IfOk r (λ holds. holds ≡ is_metadata (layouts_of ds) m) → IfOk r (λ holds. holds ≡ is_main s)
main_by s (Err e) ds main h m of_decls of_main kinds blocks headers is = tt
main_by s (Ok holds) ds main h m of_decls of_main kinds blocks headers is = is ∙ sym (main_is s ds main h m of_decls of_main kinds ∙ rw (sym blocks, sym headers) refl)
