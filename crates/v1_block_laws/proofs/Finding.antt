-- The declaration of a block among all, and what is declared in front of it.
use Rattle.std.proofs.Common.{◌≡◌, ℕ, ◌+◌, Bool, true, false, cond, Some, List, [], ◌∷◌, ◌++◌, length, flat_map, refl, sym, ap, ◌∙◌, subst, length-append}
use Rattle.std.specs.Str.{bytes_eq}
use Rattle.std.proofs.lemmas.Grind.{flat_map-append}
use Rattle.std.proofs.lemmas.Slice.Eq.{bytes_eq-Decides}
use Rattle.p416_syntax.specs.declared.parsers.Parser16.{Parser16}
use Rattle.p416_syntax.specs.declared.controls.Control16.{Control16}
use Rattle.p416_syntax.specs.declared.program.Decl16.{Decl16}
use Rattle.p416_syntax.specs.declared.program.Decl16.TheVariants as decl
use Rattle.p416_syntax.specs.declared.program.Syntax16.{Syntax16}
use Rattle.p416_syntax.specs.Names.{Name}
use Rattle.p416_syntax.specs.Kinds.{Kind}
use Rattle.v1_core.specs.Slots.{kinds_of, variable_kinds}
use Rattle.v1_core.specs.Parsing.{parser_called}
use Rattle.v1_core.specs.Blocks.{control_called}
use Rattle.v1_block_laws.specs.Variables.{is_parser, is_control, count_before}
use Rattle.v1_block_laws.specs.Standing.{AreOfKinds}
use Rattle.v1_block_laws.proofs.Standing.{in_the_middle}

pub record Found (syntax : Syntax16) (test : Decl16 → Bool) (ds : List Decl16) (d : Decl16) : Type 0 where
  pub before : List Decl16
  pub after : List Decl16
  pub is : ds ≡ before ++ d ∷ after
  pub count : count_before syntax test ds ≡ length (flat_map (kinds_of syntax) before)

here : (syntax : Syntax16) (test : Decl16 → Bool) (ds : List Decl16) (d : Decl16) → test d ≡ true → Found syntax test (d ∷ ds) d
here syntax test ds d passes = record {
  before = [];
  after = ds;
  is = refl;
  count = ap (λ (b : Bool). cond b 0 (length (kinds_of syntax d) + count_before syntax test ds)) passes;
}

further : (syntax : Syntax16) (test : Decl16 → Bool) (ds : List Decl16) (x d : Decl16) → test x ≡ false → Found syntax test ds d → Found syntax test (x ∷ ds) d
further syntax test ds x d fails found =
    let more : length (flat_map (kinds_of syntax) (x ∷ found.before)) ≡ length (kinds_of syntax x) + length (flat_map (kinds_of syntax) found.before) = length-append (kinds_of syntax x) (flat_map (kinds_of syntax) found.before) in
    record {
      before = x ∷ found.before;
      after = found.after;
      is = ap (λ (l : List Decl16). x ∷ l) found.is;
      count =
          ap (λ (b : Bool). cond b 0 (length (kinds_of syntax x) + count_before syntax test ds)) fails
          ∙ (ap (λ (n : ℕ). length (kinds_of syntax x) + n) found.count ∙ sym more);
    }

abbrev pub ParserFound : Syntax16 → List Decl16 → Name → Parser16 → Type 0
ParserFound syntax ds text p = Found syntax (is_parser text) ds (decl.Parser p) × (p.name ≡ text)

abbrev pub ControlFound : Syntax16 → List Decl16 → Name → Control16 → Type 0
ControlFound syntax ds text c = Found syntax (is_control text) ds (decl.Control c) × (c.name ≡ text)

parser_past : (syntax : Syntax16) (ds : List Decl16) (x : Decl16) (text : Name) (p : Parser16) → is_parser text x ≡ false → ParserFound syntax ds text p → ParserFound syntax (x ∷ ds) text p
parser_past syntax ds x text p fails found = (further syntax (is_parser text) ds x (decl.Parser p) fails found.0, found.1)

control_past : (syntax : Syntax16) (ds : List Decl16) (x : Decl16) (text : Name) (c : Control16) → is_control text x ≡ false → ControlFound syntax ds text c → ControlFound syntax (x ∷ ds) text c
control_past syntax ds x text c fails found = (further syntax (is_control text) ds x (decl.Control c) fails found.0, found.1)

pub parser_found : (syntax : Syntax16) (ds : List Decl16) (text : Name) (p : Parser16) → parser_called ds text ≡ Some p → ParserFound syntax ds text p
parser_found syntax [] text p e = absurd (cc e)
parser_found syntax (decl.Header x ∷ ds) text p e = parser_past syntax ds (decl.Header x) text p refl (parser_found syntax ds text p e)
parser_found syntax (decl.Struct x ∷ ds) text p e = parser_past syntax ds (decl.Struct x) text p refl (parser_found syntax ds text p e)
parser_found syntax (decl.Instance notes i ∷ ds) text p e = parser_past syntax ds (decl.Instance notes i) text p refl (parser_found syntax ds text p e)
parser_found syntax (decl.Control k ∷ ds) text p e = parser_past syntax ds (decl.Control k) text p refl (parser_found syntax ds text p e)
parser_found syntax (decl.Parser k ∷ ds) text p e = by (bytes_eq k.name text) refl (parser_found syntax ds text p) e where
  by : (b : Bool) → bytes_eq k.name text ≡ b → (parser_called ds text ≡ Some p → ParserFound syntax ds text p) → cond b (Some k) (parser_called ds text) ≡ Some p → ParserFound syntax (decl.Parser k ∷ ds) text p
  by true same rest is =
      let one : k ≡ p = cc is in
      subst (λ (x : Parser16). ParserFound syntax (decl.Parser k ∷ ds) text x) one (here syntax (is_parser text) ds (decl.Parser k) same, (bytes_eq-Decides k.name text).0 same)
  by false other rest is = parser_past syntax ds (decl.Parser k) text p other (rest is)

pub control_found : (syntax : Syntax16) (ds : List Decl16) (text : Name) (c : Control16) → control_called ds text ≡ Some c → ControlFound syntax ds text c
control_found syntax [] text c e = absurd (cc e)
control_found syntax (decl.Header x ∷ ds) text c e = control_past syntax ds (decl.Header x) text c refl (control_found syntax ds text c e)
control_found syntax (decl.Struct x ∷ ds) text c e = control_past syntax ds (decl.Struct x) text c refl (control_found syntax ds text c e)
control_found syntax (decl.Instance notes i ∷ ds) text c e = control_past syntax ds (decl.Instance notes i) text c refl (control_found syntax ds text c e)
control_found syntax (decl.Parser k ∷ ds) text c e = control_past syntax ds (decl.Parser k) text c refl (control_found syntax ds text c e)
control_found syntax (decl.Control k ∷ ds) text c e = by (bytes_eq k.name text) refl (control_found syntax ds text c) e where
  by : (b : Bool) → bytes_eq k.name text ≡ b → (control_called ds text ≡ Some c → ControlFound syntax ds text c) → cond b (Some k) (control_called ds text) ≡ Some c → ControlFound syntax (decl.Control k ∷ ds) text c
  by true same rest is =
      let one : k ≡ c = cc is in
      subst (λ (x : Control16). ControlFound syntax (decl.Control k ∷ ds) text x) one (here syntax (is_control text) ds (decl.Control k) same, (bytes_eq-Decides k.name text).0 same)
  by false other rest is = control_past syntax ds (decl.Control k) text c other (rest is)

-- the variables of what was found
pub found_stands : (syntax : Syntax16) (test : Decl16 → Bool) (d : Decl16) → Found syntax test syntax.decls d → AreOfKinds (variable_kinds syntax) (count_before syntax test syntax.decls) (kinds_of syntax d)
found_stands syntax test d found =
    let all : flat_map (kinds_of syntax) syntax.decls ≡ flat_map (kinds_of syntax) found.before ++ (kinds_of syntax d ++ flat_map (kinds_of syntax) found.after) =
    ap (flat_map (kinds_of syntax)) found.is ∙ flat_map-append (kinds_of syntax) found.before (d ∷ found.after) in
    subst (λ (n : ℕ). AreOfKinds (variable_kinds syntax) n (kinds_of syntax d)) (sym found.count)
    (subst (λ (l : List Kind). AreOfKinds l (length (flat_map (kinds_of syntax) found.before)) (kinds_of syntax d)) (sym all)
    (in_the_middle (flat_map (kinds_of syntax) found.before) (kinds_of syntax d) (flat_map (kinds_of syntax) found.after)))
