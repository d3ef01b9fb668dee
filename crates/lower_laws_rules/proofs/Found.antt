-- What names mean that are declared once, and what types with these names are.
use Rattle.std.proofs.Common.{◌≡◌, Bool, true, false, ◌||◌, cond, List, [], ◌∷◌, ◌++◌, map, flat_map, Option, Some, None, refl, sym, ap, ◌∙◌, subst}
use Rattle.std.specs.Str.{bytes_eq}
use Rattle.std.proofs.lemmas.Bool.{false≢true}
use Rattle.std.proofs.lemmas.Slice.Eq.{bytes_eq-Decides}
use Rattle.p416_syntax.specs.declared.parts.Header16.{Header16}
use Rattle.p416_syntax.specs.declared.parts.Struct16.{Struct16}
use Rattle.p416_syntax.specs.declared.parsers.Parser16.{Parser16}
use Rattle.p416_syntax.specs.declared.controls.Control16.{Control16}
use Rattle.p416_syntax.specs.declared.program.Decl16.{Decl16}
use Rattle.p416_syntax.specs.declared.program.Decl16.TheVariants as decl
use Rattle.p416_syntax.specs.Names.{Name, has_name, repeats}
use Rattle.p416_syntax.specs.BuiltIn.{built_in, standard_layout}
use Rattle.p416_syntax.specs.Scopes.{Known, Layout, FieldKind, called_of, sort_in, fields_in}
use Rattle.p416_syntax.specs.Expressions.{field_kind_in}
use Rattle.p416_syntax.specs.Declarations.{top_name, top_names, bit_field, struct_field, layout_in, layouts_of}
use Rattle.p416_syntax.specs.Unknown.{declares_twice, declared_name}
use Rattle.lower_laws_rules.specs.Whole.{IsIn}
use Rattle.p416_syntax.specs.Main.{BlockShape, a_parser, a_control, parameter_shape, block_in, or_else, block_of}

pub left_false : (a b : Bool) → a || b ≡ false → a ≡ false
left_false false b e = refl
left_false true b e = e

pub right_false : (a b : Bool) → a || b ≡ false → b ≡ false
right_false false b e = e
right_false true b e = absurd (cc e)

-- a name is itself
pub is_itself : (text : Name) → bytes_eq text text ≡ true
is_itself text = (bytes_eq-Decides text text).1 refl

apart : (xs ys : List Known) (k : Known) (text : Name) → has_name (map called_of (xs ++ k ∷ ys)) text ≡ false → bytes_eq text k.called ≡ false
apart [] ys k text e = left_false _ _ e
apart (x ∷ xs) ys k text e = apart xs ys k text (right_false _ _ e)

-- where no name stands twice, each means what it is declared as
pub found_at : (xs : List Known) (k : Known) (ys more : List Known) → repeats (map called_of (xs ++ k ∷ ys)) ≡ false → sort_in ((xs ++ k ∷ ys) ++ more) k.called ≡ k.sort
found_at [] k ys more e = ap (λ b. cond b k.sort (sort_in (ys ++ more) k.called)) (is_itself k.called)
found_at (x ∷ xs) k ys more e =
    ap (λ b. cond b x.sort (sort_in ((xs ++ k ∷ ys) ++ more) k.called)) (apart xs ys k x.called (left_false _ _ e))
    ∙ found_at xs k ys more (right_false _ _ e)

pub turned : (a b : Name) → bytes_eq a b ≡ false → bytes_eq b a ≡ false
turned a b e = by (bytes_eq b a) refl where
  by : (t : Bool) → bytes_eq b a ≡ t → bytes_eq b a ≡ false
  by false is = is
  by true is = absurd (false≢true (sym e ∙ (bytes_eq-Decides a b).1 (sym ((bytes_eq-Decides b a).0 is))))

-- a name that is none of the inner ones means what it means outside
pub found_beyond : (xs more : List Known) (text : Name) → has_name (map called_of xs) text ≡ false → sort_in (xs ++ more) text ≡ sort_in more text
found_beyond [] more text e = refl
found_beyond (x ∷ xs) more text e =
    ap (λ b. cond b x.sort (sort_in (xs ++ more) text)) (turned text x.called (left_false _ _ e)) ∙ found_beyond xs more text (right_false _ _ e)

-- what is built in, where no name at the top stands twice
has_behind : (xs ys : List Known) (text : Name) → has_name (map called_of (xs ++ ys)) text ≡ false → has_name (map called_of ys) text ≡ false
has_behind [] ys text e = e
has_behind (x ∷ xs) ys text e = has_behind xs ys text (right_false _ _ e)

found_behind : (xs ys : List Known) (text : Name) → repeats (map called_of (xs ++ ys)) ≡ false → has_name (map called_of ys) text ≡ true → sort_in (xs ++ ys) text ≡ sort_in ys text
found_behind [] ys text once has = refl
found_behind (x ∷ xs) ys text once has = ap (λ b. cond b x.sort (sort_in (xs ++ ys) text)) (by (bytes_eq x.called text) refl) ∙ found_behind xs ys text (right_false _ _ once) has where
  by : (t : Bool) → bytes_eq x.called text ≡ t → bytes_eq x.called text ≡ false
  by false is = is
  by true is = absurd (false≢true (sym (has_behind xs ys x.called (left_false _ _ once)) ∙ ap (has_name (map called_of ys)) ((bytes_eq-Decides x.called text).0 is) ∙ has))

pub found_built_in : (ds : List Decl16) (text : Name) → declares_twice ds ≡ false → has_name (map called_of built_in) text ≡ true → sort_in (top_names ds) text ≡ sort_in built_in text
found_built_in ds text once has = found_behind (map top_name ds) built_in text once has

-- declarations at the top

apart_from : (before after : List Decl16) (d x : Decl16) (more : List Known) → has_name (map called_of (map top_name (before ++ d ∷ after) ++ more)) (declared_name x) ≡ false → bytes_eq (declared_name x) (declared_name d) ≡ false
apart_from [] after d x more e = left_false _ _ e
apart_from (y ∷ before) after d x more e = apart_from before after d x more (right_false _ _ e)

pub found_declared : (ds : List Decl16) (d : Decl16) → IsIn ds d → declares_twice ds ≡ false → sort_in (top_names ds) (declared_name d) ≡ (top_name d).sort
found_declared ds d in_it once = subst (λ (z : List Decl16). repeats (map called_of (map top_name z ++ built_in)) ≡ false → sort_in (map top_name z ++ built_in) (declared_name d) ≡ (top_name d).sort) (sym in_it.is) (by in_it.before) once where
  by : (before : List Decl16) → repeats (map called_of (map top_name (before ++ d ∷ in_it.after) ++ built_in)) ≡ false → sort_in (map top_name (before ++ d ∷ in_it.after) ++ built_in) (declared_name d) ≡ (top_name d).sort
  by [] e = ap (λ b. cond b (top_name d).sort (sort_in (map top_name in_it.after ++ built_in) (declared_name d))) (is_itself (declared_name d))
  by (x ∷ before) e =
      ap (λ b. cond b (top_name x).sort (sort_in (map top_name (before ++ d ∷ in_it.after) ++ built_in) (declared_name d))) (apart_from before in_it.after d x built_in (left_false _ _ e))
      ∙ by before (right_false _ _ e)

-- the fields of a type that is declared

pub one_layout : (names : List Known) (d : Decl16) (rest : List Layout) (text : Name) → bytes_eq (declared_name d) text ≡ false → fields_in (layout_in names d ++ rest) text ≡ fields_in rest text
one_layout names (decl.Header h) rest text e = ap (λ b. cond b (map bit_field h.fields) (fields_in rest text)) e
one_layout names (decl.Struct x) rest text e = ap (λ b. cond b (map (struct_field names) x.fields) (fields_in rest text)) e
one_layout names (decl.Instance notes i) rest text e = refl
one_layout names (decl.Parser p) rest text e = refl
one_layout names (decl.Control c) rest text e = refl

pub grouped : (xs ys zs : List Layout) → (xs ++ ys) ++ zs ≡ xs ++ (ys ++ zs)
grouped [] ys zs = refl
grouped (x ∷ xs) ys zs = ap (λ (ls : List Layout). x ∷ ls) (grouped xs ys zs)

fields_behind : (names : List Known) (before after : List Decl16) (d : Decl16) (fields : List FieldKind) (more : List Known) (rest : List Layout) → repeats (map called_of (map top_name (before ++ d ∷ after) ++ more)) ≡ false → layout_in names d ≡ record { called = declared_name d; fields = fields } ∷ [] → fields_in (flat_map (layout_in names) (before ++ d ∷ after) ++ rest) (declared_name d) ≡ fields
fields_behind names [] after d fields more rest once is =
    ap (λ ls. fields_in ((ls ++ flat_map (layout_in names) after) ++ rest) (declared_name d)) is
    ∙ ap (λ b. cond b fields (fields_in (flat_map (layout_in names) after ++ rest) (declared_name d))) (is_itself (declared_name d))
fields_behind names (x ∷ before) after d fields more rest once is =
    ap (λ ls. fields_in ls (declared_name d)) (grouped (layout_in names x) (flat_map (layout_in names) (before ++ d ∷ after)) rest)
    ∙ one_layout names x (flat_map (layout_in names) (before ++ d ∷ after) ++ rest) (declared_name d) (apart_from before after d x more (left_false _ _ once))
    ∙ fields_behind names before after d fields more rest (right_false _ _ once) is

pub header_found : (ds : List Decl16) (h : Header16) → IsIn ds (decl.Header h) → declares_twice ds ≡ false → fields_in (layouts_of ds) h.name ≡ map bit_field h.fields
header_found ds h in_it once =
    subst (λ (z : List Decl16). repeats (map called_of (top_names z)) ≡ false → fields_in (flat_map (layout_in (top_names ds)) z ++ standard_layout ∷ []) h.name ≡ map bit_field h.fields) (sym in_it.is)
    (λ e. fields_behind (top_names ds) in_it.before in_it.after (decl.Header h) (map bit_field h.fields) built_in (standard_layout ∷ []) e refl) once

pub struct_found : (ds : List Decl16) (x : Struct16) → IsIn ds (decl.Struct x) → declares_twice ds ≡ false → fields_in (layouts_of ds) x.name ≡ map (struct_field (top_names ds)) x.fields
struct_found ds x in_it once =
    subst (λ (z : List Decl16). repeats (map called_of (top_names z)) ≡ false → fields_in (flat_map (layout_in (top_names ds)) z ++ standard_layout ∷ []) x.name ≡ map (struct_field (top_names ds)) x.fields) (sym in_it.is)
    (λ e. fields_behind (top_names ds) in_it.before in_it.after (decl.Struct x) (map (struct_field (top_names ds)) x.fields) built_in (standard_layout ∷ []) e refl) once

-- a field of fields whose names differ
abbrev pub field_name_of : FieldKind → Name
field_name_of f = f.called

field_apart : (xs ys : List FieldKind) (f x : FieldKind) → has_name (map field_name_of (xs ++ f ∷ ys)) x.called ≡ false → bytes_eq x.called f.called ≡ false
field_apart [] ys f x e = left_false _ _ e
field_apart (y ∷ xs) ys f x e = field_apart xs ys f x (right_false _ _ e)

pub field_found : (xs : List FieldKind) (f : FieldKind) (ys : List FieldKind) → repeats (map field_name_of (xs ++ f ∷ ys)) ≡ false → field_kind_in (xs ++ f ∷ ys) f.called ≡ Some f.kind
field_found [] f ys e = ap (λ b. cond b (Some f.kind) (field_kind_in ys f.called)) (is_itself f.called)
field_found (x ∷ xs) f ys e = ap (λ b. cond b (Some x.kind) (field_kind_in (xs ++ f ∷ ys) f.called)) (field_apart xs ys f x (left_false _ _ e)) ∙ field_found xs f ys (right_false _ _ e)

-- the block with a name

other_block : (names : List Known) (d : Decl16) (text : Name) → bytes_eq (declared_name d) text ≡ false → block_in names text d ≡ None
other_block names (decl.Header h) text e = refl
other_block names (decl.Struct x) text e = refl
other_block names (decl.Instance notes i) text e = refl
other_block names (decl.Parser p) text e = ap (λ b. cond b (Some (record { sort = a_parser; parameters = map (parameter_shape names) p.parameters })) None) e
other_block names (decl.Control c) text e = ap (λ b. cond b (Some (record { sort = a_control; parameters = map (parameter_shape names) c.parameters })) None) e

block_behind : (names : List Known) (before after : List Decl16) (d : Decl16) (block : BlockShape) (more : List Known) → repeats (map called_of (map top_name (before ++ d ∷ after) ++ more)) ≡ false → block_in names (declared_name d) d ≡ Some block → block_of names (before ++ d ∷ after) (declared_name d) ≡ Some block
block_behind names [] after d block more once is = ap (λ (o : Option BlockShape). or_else o (block_of names after (declared_name d))) is
block_behind names (x ∷ before) after d block more once is =
    ap (λ (o : Option BlockShape). or_else o (block_of names (before ++ d ∷ after) (declared_name d))) (other_block names x (declared_name d) (apart_from before after d x more (left_false _ _ once)))
    ∙ block_behind names before after d block more (right_false _ _ once) is

pub parser_found : (names : List Known) (ds : List Decl16) (p : Parser16) → IsIn ds (decl.Parser p) → declares_twice ds ≡ false → block_of names ds p.name ≡ Some (record { sort = a_parser; parameters = map (parameter_shape names) p.parameters })
parser_found names ds p in_it once =
    subst (λ (z : List Decl16). repeats (map called_of (top_names z)) ≡ false → block_of names z p.name ≡ Some (record { sort = a_parser; parameters = map (parameter_shape names) p.parameters })) (sym in_it.is)
    (λ e. block_behind names in_it.before in_it.after (decl.Parser p) _ built_in e (ap (λ b. cond b (Some (record { sort = a_parser; parameters = map (parameter_shape names) p.parameters })) None) (is_itself p.name))) once

pub control_found : (names : List Known) (ds : List Decl16) (c : Control16) → IsIn ds (decl.Control c) → declares_twice ds ≡ false → block_of names ds c.name ≡ Some (record { sort = a_control; parameters = map (parameter_shape names) c.parameters })
control_found names ds c in_it once =
    subst (λ (z : List Decl16). repeats (map called_of (top_names z)) ≡ false → block_of names z c.name ≡ Some (record { sort = a_control; parameters = map (parameter_shape names) c.parameters })) (sym in_it.is)
    (λ e. block_behind names in_it.before in_it.after (decl.Control c) _ built_in e (ap (λ b. cond b (Some (record { sort = a_control; parameters = map (parameter_shape names) c.parameters })) None) (is_itself c.name))) once
