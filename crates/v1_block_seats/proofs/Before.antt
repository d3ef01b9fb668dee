-- Counting declaration by declaration.
use Rattle.std.proofs.Common.{◌≡◌, ℕ, ◌+◌, Bool, true, false, cond, List, [], ◌∷◌, ◌++◌, length, map, sym, ap, ◌∙◌, arith}
use Rattle.std.proofs.lemmas.List.{length-map}
use Rattle.p416_syntax.specs.declared.program.Decl16.{Decl16}
use Rattle.p416_syntax.specs.declared.program.Syntax16.{Syntax16}
use Rattle.p416_syntax.specs.Kinds.{Kind}
use Rattle.p416_names.specs.declared.kind.Kind.{Kind as CodeKind}
use Rattle.p416_names.specs.SeenKinds.{seen_kind}
use Rattle.v1_core.specs.Slots.{kinds_of}
use Rattle.p416_syntax.specs.Names.{Name}
use Rattle.v1_block_laws.specs.Variables.{is_parser, is_control, count_before}

-- kinds that were put behind none
pub counted : (old new : List CodeKind) (ks : List Kind) (n : ℕ) → old ≡ [] → map seen_kind new ≡ map seen_kind old ++ ks → n ≡ length new → n ≡ length ks
counted old new ks n none is count =
    count ∙ (sym (length-map new seen_kind) ∙ (ap length is ∙ ap (λ (l : List CodeKind). length (map seen_kind l ++ ks)) none))

-- the block that is wanted
pub counted_here : (syntax : Syntax16) (test : Decl16 → Bool) (d : Decl16) (ds : List Decl16) (count whole : ℕ) → test d ≡ true → count + count_before syntax test (d ∷ ds) ≡ whole → count ≡ whole
counted_here syntax test d ds count whole passes so =
    let none : count_before syntax test (d ∷ ds) ≡ 0 = ap (λ (b : Bool). cond b 0 (length (kinds_of syntax d) + count_before syntax test ds)) passes in
    omega (arith, so, none)

-- another declaration
pub counted_past : (syntax : Syntax16) (test : Decl16 → Bool) (d : Decl16) (ds : List Decl16) (count own more whole : ℕ) → test d ≡ false → own ≡ length (kinds_of syntax d) → more ≡ count + own → count + count_before syntax test (d ∷ ds) ≡ whole → more + count_before syntax test ds ≡ whole
counted_past syntax test d ds count own more whole fails is further so =
    let here : count_before syntax test (d ∷ ds) ≡ length (kinds_of syntax d) + count_before syntax test ds = ap (λ (b : Bool). cond b 0 (length (kinds_of syntax d) + count_before syntax test ds)) fails in
    omega (arith, so, here, is, further)

-- among all declarations

pub parser_counted : (syntax : Syntax16) (tops ds : List Decl16) (name text : Name) (n : ℕ) → tops ≡ syntax.decls → ds ≡ tops → name ≡ text → n ≡ count_before syntax (is_parser name) ds → n ≡ count_before syntax (is_parser text) syntax.decls
parser_counted syntax tops ds name text n top all named is =
    is ∙ (ap (λ (t : Name). count_before syntax (is_parser t) ds) named ∙ ap (λ (l : List Decl16). count_before syntax (is_parser text) l) (all ∙ top))

pub control_counted : (syntax : Syntax16) (tops ds : List Decl16) (name text : Name) (n : ℕ) → tops ≡ syntax.decls → ds ≡ tops → name ≡ text → n ≡ count_before syntax (is_control name) ds → n ≡ count_before syntax (is_control text) syntax.decls
control_counted syntax tops ds name text n top all named is =
    is ∙ (ap (λ (t : Name). count_before syntax (is_control t) ds) named ∙ ap (λ (l : List Decl16). count_before syntax (is_control text) l) (all ∙ top))
