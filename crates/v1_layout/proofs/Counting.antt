-- How many types a program has.
use Rattle.std.proofs.Common.{◌≡◌, ℕ, ◌+◌, List, [], ◌∷◌, length, refl, arith, length-append}
use Rattle.std.specs.Prelude.{flat_map}
use Rattle.p416_syntax.specs.declared.program.Decl16.{Decl16}
use Rattle.p416_syntax.specs.declared.program.Decl16.TheVariants as decl
use Rattle.p416_syntax.specs.Scopes.{Known}
use Rattle.p416_syntax.specs.BuiltIn.{standard_layout}
use Rattle.p416_syntax.specs.Declarations.{top_names, layout_in, layouts_of}
use Rattle.v1_layout.specs.Left.{type_count, counted}

one_counted : (names : List Known) (d : Decl16) → length (layout_in names d) ≡ type_count d
one_counted names (decl.Header h) = refl
one_counted names (decl.Struct x) = refl
one_counted names (decl.Instance notes i) = refl
one_counted names (decl.Parser p) = refl
one_counted names (decl.Control c) = refl

all_counted : (names : List Known) (ds : List Decl16) → length (flat_map (layout_in names) ds) ≡ counted ds
all_counted names [] = refl
all_counted names (d ∷ ds) =
    let first : length (layout_in names d) ≡ type_count d = one_counted names d in
    let rest : length (flat_map (layout_in names) ds) ≡ counted ds = all_counted names ds in
    omega (arith, length-append (layout_in names d) (flat_map (layout_in names) ds))

pub types_counted : (ds : List Decl16) (count : ℕ) → count ≡ counted ds → count + 1 ≡ length (layouts_of ds)
types_counted ds count is =
    let all : length (flat_map (layout_in (top_names ds)) ds) ≡ counted ds = all_counted (top_names ds) ds in
    omega (arith, length-append (flat_map (layout_in (top_names ds)) ds) (standard_layout ∷ []))
