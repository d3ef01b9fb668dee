-- Names at the top that are declared once: what each means, and what stands behind it.
use Rattle.std.proofs.Common.{◌≡◌, inl, inr, Bool, true, false, ◌||◌, cond, Option, Some, None, List, [], ◌∷◌, ◌++◌, map, refl, ap, ◌∙◌, subst, append_assoc}
use Rattle.std.specs.Prelude.{flat_map}
use Rattle.std.specs.List.{list_any}
use Rattle.std.specs.Str.{bytes_eq}
use Rattle.std.proofs.lemmas.List.Concat.{flat_map-cons}
use Rattle.p416_syntax.specs.declared.parts.StructField.{StructField}
use Rattle.p416_syntax.specs.declared.parts.Struct16.{Struct16}
use Rattle.p416_syntax.specs.declared.parsers.Parser16.{Parser16}
use Rattle.p416_syntax.specs.declared.controls.Control16.{Control16}
use Rattle.p416_syntax.specs.declared.program.Decl16.{Decl16}
use Rattle.p416_syntax.specs.declared.program.Decl16.TheVariants as decl
use Rattle.p416_syntax.specs.Names.{Name, has_name, repeats}
use Rattle.p416_syntax.specs.Kinds.{Kind}
use Rattle.p416_syntax.specs.Scopes.{Known, called_of, sort_in, FieldKind, Layout, fields_in}
use Rattle.p416_syntax.specs.Declarations.{top_name, layout_in, bit_field, struct_field}
use Rattle.p416_syntax.specs.Expressions.{field_kind_in}
use Rattle.v1_core.specs.Blocks.{control_called}
use Rattle.v1_core.specs.Parsing.{parser_called}
use Rattle.v1_core.specs.Passes.{struct_called}
use Rattle.agreement_of_meanings.proofs.Names.{same_name}
use Rattle.p416_syntax.specs.Main.{a_parser, a_control, parameter_shape, block_of, or_else}
use Rattle.lower_laws_passes.specs.Preserving.{field_named}
use Rattle.lower_laws_passes.specs.Types.{member_of}
use Rattle.lower_laws_program.specs.Scopes.{IsClear}
use Rattle.lower_laws_states.specs.Expansions.{Has}

pub has_more : {X : Type 0} (xs ys : List X) (x : X) → Has xs x → Has (xs ++ ys) x
has_more [] ys x has = absurd has
has_more (z ∷ xs) ys x (inl same) = inl same
has_more (z ∷ xs) ys x (inr more) = inr (has_more xs ys x more)

pub has_behind : {X : Type 0} (xs ys : List X) (x : X) → Has ys x → Has (xs ++ ys) x
has_behind [] ys x has = has
has_behind (z ∷ xs) ys x has = inr (has_behind xs ys x has)

pub has_mapped : {X Y : Type 0} (h : X → Y) (xs : List X) (x : X) → Has xs x → Has (map h xs) (h x)
has_mapped h [] x has = absurd has
has_mapped h (z ∷ xs) x (inl same) = inl (ap h same)
has_mapped h (z ∷ xs) x (inr more) = inr (has_mapped h xs x more)

neither : (a b : Bool) → a || b ≡ false → (a ≡ false) × (b ≡ false)
neither true b is = absurd (cc is)
neither false b is = (refl, is)

-- a name that isn't among these isn't the name of one of them
other_than : (names : List Name) (first text : Name) → has_name names first ≡ false → Has names text → bytes_eq first text ≡ false
other_than [] first text none has = absurd has
other_than (y ∷ names) first text none (inl same) = subst (λ z. bytes_eq first z ≡ false) same (neither (bytes_eq first y) (list_any (bytes_eq first) names) none).0
other_than (y ∷ names) first text none (inr more) = other_than names first text (neither (bytes_eq first y) (list_any (bytes_eq first) names) none).1 more

-- names in scope

pub sort_has : (names : List Known) (k : Known) → repeats (map called_of names) ≡ false → Has names k → sort_in names k.called ≡ k.sort
sort_has [] k once has = absurd has
sort_has (z ∷ names) k once (inl same) =
    ap (λ b. cond b z.sort (sort_in names k.called)) (ap (λ (y : Known). bytes_eq y.called k.called) same ∙ same_name k.called) ∙ ap (λ (y : Known). y.sort) same
sort_has (z ∷ names) k once (inr more) =
    let apart = neither (has_name (map called_of names) z.called) (repeats (map called_of names)) once in
    ap (λ b. cond b z.sort (sort_in names k.called)) (other_than (map called_of names) z.called k.called apart.0 (has_mapped called_of names k more))
    ∙ sort_has names k apart.1 more

pub sort_behind : (near names : List Known) (text : Name) → IsClear near text → sort_in (near ++ names) text ≡ sort_in names text
sort_behind [] names text clear = refl
sort_behind (k ∷ near) names text clear = ap (λ b. cond b k.sort (sort_in (near ++ names) text)) clear.0 ∙ sort_behind near names text clear.1

-- fields of a struct

pub kind_has : (h : StructField → FieldKind) → ((f : StructField) → (h f).called ≡ f.name) → (fields : List StructField) (f : StructField) → repeats (map (λ (x : StructField). x.name) fields) ≡ false → Has fields f → field_kind_in (map h fields) f.name ≡ Some (h f).kind
kind_has h named [] f once has = absurd has
kind_has h named (z ∷ fields) f once (inl same) =
    ap (λ b. cond b (Some (h z).kind) (field_kind_in (map h fields) f.name)) (ap (λ y. bytes_eq y f.name) (named z) ∙ ap (λ (y : StructField). bytes_eq y.name f.name) same ∙ same_name f.name)
    ∙ ap (λ (y : StructField). let o : Option Kind = Some (h y).kind in o) same
kind_has h named (z ∷ fields) f once (inr more) =
    let apart = neither (has_name (map (λ (x : StructField). x.name) fields) z.name) (repeats (map (λ (x : StructField). x.name) fields)) once in
    ap (λ b. cond b (Some (h z).kind) (field_kind_in (map h fields) f.name)) (ap (λ y. bytes_eq y f.name) (named z) ∙ other_than (map (λ (x : StructField). x.name) fields) z.name f.name apart.0 (has_mapped (λ (x : StructField). x.name) fields f more))
    ∙ kind_has h named fields f apart.1 more

-- declarations

abbrev pub decl_name : Decl16 → Name
decl_name d = (top_name d).called

-- what one declaration tells of a name that isn't its own

layout_apart : (names : List Known) (d : Decl16) (more : List Layout) (text : Name) → bytes_eq (decl_name d) text ≡ false → fields_in (layout_in names d ++ more) text ≡ fields_in more text
layout_apart names (decl.Header h) more text other = ap (λ b. cond b (map bit_field h.fields) (fields_in more text)) other
layout_apart names (decl.Struct x) more text other = ap (λ b. cond b (map (struct_field names) x.fields) (fields_in more text)) other
layout_apart names (decl.Instance notes i) more text other = refl
layout_apart names (decl.Parser p) more text other = refl
layout_apart names (decl.Control c) more text other = refl

-- the layout of a header or a struct
abbrev pub IsLayout : List Known → Decl16 → List FieldKind → Type 0
IsLayout names (decl.Header h) fields = map bit_field h.fields ≡ fields
IsLayout names (decl.Struct x) fields = map (struct_field names) x.fields ≡ fields
IsLayout names _ fields = ⊥

layout_here : (names : List Known) (d : Decl16) (fields : List FieldKind) (more : List Layout) → IsLayout names d fields → fields_in (layout_in names d ++ more) (decl_name d) ≡ fields
layout_here names (decl.Header h) fields more is = ap (λ b. cond b (map bit_field h.fields) (fields_in more h.name)) (same_name h.name) ∙ is
layout_here names (decl.Struct x) fields more is = ap (λ b. cond b (map (struct_field names) x.fields) (fields_in more x.name)) (same_name x.name) ∙ is
layout_here names (decl.Instance notes i) fields more is = absurd is
layout_here names (decl.Parser p) fields more is = absurd is
layout_here names (decl.Control c) fields more is = absurd is

layouts_cons : (names : List Known) (d : Decl16) (ds : List Decl16) (more : List Layout) → flat_map (layout_in names) (d ∷ ds) ++ more ≡ layout_in names d ++ (flat_map (layout_in names) ds ++ more)
layouts_cons names d ds more = ap (λ (l : List Layout). l ++ more) (flat_map-cons (layout_in names) d ds) ∙ append_assoc (layout_in names d) (flat_map (layout_in names) ds) more

pub layout_has : (names : List Known) (ds : List Decl16) (more : List Layout) (d : Decl16) (fields : List FieldKind) → repeats (map decl_name ds) ≡ false → Has ds d → IsLayout names d fields → fields_in (flat_map (layout_in names) ds ++ more) (decl_name d) ≡ fields
layout_has names [] more d fields once has is = absurd has
layout_has names (z ∷ ds) more d fields once (inl same) is =
    ap (λ (l : List Layout). fields_in l (decl_name d)) (layouts_cons names z ds more)
    ∙ ap (λ (y : Decl16). fields_in (layout_in names y ++ (flat_map (layout_in names) ds ++ more)) (decl_name d)) same
    ∙ layout_here names d fields (flat_map (layout_in names) ds ++ more) is
layout_has names (z ∷ ds) more d fields once (inr behind) is =
    let apart = neither (has_name (map decl_name ds) (decl_name z)) (repeats (map decl_name ds)) once in
    ap (λ (l : List Layout). fields_in l (decl_name d)) (layouts_cons names z ds more)
    ∙ layout_apart names z (flat_map (layout_in names) ds ++ more) (decl_name d) (other_than (map decl_name ds) (decl_name z) (decl_name d) apart.0 (has_mapped decl_name ds d behind))
    ∙ layout_has names ds more d fields apart.1 behind is

-- no declaration has this name
abbrev pub NoneCalled : List Decl16 → Name → Type 0
NoneCalled [] text = Unit {0}
NoneCalled (d ∷ ds) text = (bytes_eq (decl_name d) text ≡ false) × NoneCalled ds text

pub layout_none : (names : List Known) (ds : List Decl16) (more : List Layout) (text : Name) → NoneCalled ds text → fields_in (flat_map (layout_in names) ds ++ more) text ≡ fields_in more text
layout_none names [] more text none = refl
layout_none names (z ∷ ds) more text none =
    ap (λ (l : List Layout). fields_in l text) (layouts_cons names z ds more) ∙ layout_apart names z (flat_map (layout_in names) ds ++ more) text none.0 ∙ layout_none names ds more text none.1

-- a struct, the parser and a control by their names

pub struct_has : (ds : List Decl16) (x : Struct16) → repeats (map decl_name ds) ≡ false → Has ds (decl.Struct x) → struct_called ds x.name ≡ x.fields
struct_has [] x once has = absurd has
struct_has (z ∷ ds) x once (inl same) =
    ap (λ (y : Decl16). struct_called (y ∷ ds) x.name) same ∙ ap (λ b. cond b x.fields (struct_called ds x.name)) (same_name x.name)
struct_has (z ∷ ds) x once (inr more) =
    let apart = neither (has_name (map decl_name ds) (decl_name z)) (repeats (map decl_name ds)) once in
    skip z (other_than (map decl_name ds) (decl_name z) x.name apart.0 (has_mapped decl_name ds (decl.Struct x) more)) ∙ struct_has ds x apart.1 more where
      skip : (d : Decl16) → bytes_eq (decl_name d) x.name ≡ false → struct_called (d ∷ ds) x.name ≡ struct_called ds x.name
      skip (decl.Header h) other = refl
      skip (decl.Struct y) other = ap (λ b. cond b y.fields (struct_called ds x.name)) other
      skip (decl.Instance notes i) other = refl
      skip (decl.Parser p) other = refl
      skip (decl.Control c) other = refl

pub parser_has : (ds : List Decl16) (p : Parser16) → repeats (map decl_name ds) ≡ false → Has ds (decl.Parser p) → parser_called ds p.name ≡ Some p
parser_has [] p once has = absurd has
parser_has (z ∷ ds) p once (inl same) =
    ap (λ (y : Decl16). parser_called (y ∷ ds) p.name) same ∙ ap (λ b. cond b (Some p) (parser_called ds p.name)) (same_name p.name)
parser_has (z ∷ ds) p once (inr more) =
    let apart = neither (has_name (map decl_name ds) (decl_name z)) (repeats (map decl_name ds)) once in
    skip z (other_than (map decl_name ds) (decl_name z) p.name apart.0 (has_mapped decl_name ds (decl.Parser p) more)) ∙ parser_has ds p apart.1 more where
      skip : (d : Decl16) → bytes_eq (decl_name d) p.name ≡ false → parser_called (d ∷ ds) p.name ≡ parser_called ds p.name
      skip (decl.Header h) other = refl
      skip (decl.Struct y) other = refl
      skip (decl.Instance notes i) other = refl
      skip (decl.Parser q) other = ap (λ b. cond b (Some q) (parser_called ds p.name)) other
      skip (decl.Control c) other = refl

pub control_has : (ds : List Decl16) (c : Control16) → repeats (map decl_name ds) ≡ false → Has ds (decl.Control c) → control_called ds c.name ≡ Some c
control_has [] c once has = absurd has
control_has (z ∷ ds) c once (inl same) =
    ap (λ (y : Decl16). control_called (y ∷ ds) c.name) same ∙ ap (λ b. cond b (Some c) (control_called ds c.name)) (same_name c.name)
control_has (z ∷ ds) c once (inr more) =
    let apart = neither (has_name (map decl_name ds) (decl_name z)) (repeats (map decl_name ds)) once in
    skip z (other_than (map decl_name ds) (decl_name z) c.name apart.0 (has_mapped decl_name ds (decl.Control c) more)) ∙ control_has ds c apart.1 more where
      skip : (d : Decl16) → bytes_eq (decl_name d) c.name ≡ false → control_called (d ∷ ds) c.name ≡ control_called ds c.name
      skip (decl.Header h) other = refl
      skip (decl.Struct y) other = refl
      skip (decl.Instance notes i) other = refl
      skip (decl.Parser q) other = refl
      skip (decl.Control e) other = ap (λ b. cond b (Some e) (control_called ds c.name)) other

-- what is declared and what is built in

pub names_once : (ds : List Decl16) (more : List Known) → repeats (map called_of (map top_name ds ++ more)) ≡ false → repeats (map decl_name ds) ≡ false
names_once [] more once = refl
names_once (d ∷ ds) more once =
    let apart = neither (has_name (map called_of (map top_name ds ++ more)) (decl_name d)) (repeats (map called_of (map top_name ds ++ more))) once in
    ap (λ b. b || repeats (map decl_name ds)) (front ds apart.0) ∙ names_once ds more apart.1 where
      front : (es : List Decl16) → has_name (map called_of (map top_name es ++ more)) (decl_name d) ≡ false → has_name (map decl_name es) (decl_name d) ≡ false
      front [] none = refl
      front (e ∷ es) none =
          let both = neither (bytes_eq (decl_name d) (decl_name e)) (has_name (map called_of (map top_name es ++ more)) (decl_name d)) none in
          ap (λ b. b || has_name (map decl_name es) (decl_name d)) both.0 ∙ front es both.1

pub none_called : (ds : List Decl16) (more : List Known) (k : Known) → repeats (map called_of (map top_name ds ++ more)) ≡ false → Has more k → NoneCalled ds k.called
none_called [] more k once has = tt
none_called (d ∷ ds) more k once has =
    let apart = neither (has_name (map called_of (map top_name ds ++ more)) (decl_name d)) (repeats (map called_of (map top_name ds ++ more))) once in
    (other_than (map called_of (map top_name ds ++ more)) (decl_name d) k.called apart.0 (has_mapped called_of (map top_name ds ++ more) k (has_behind (map top_name ds) more k has)), none_called ds more k apart.1 has)

-- the block with a name
pub block_has : (names : List Known) (ds : List Decl16) (p : Parser16) → repeats (map decl_name ds) ≡ false → Has ds (decl.Parser p) → block_of names ds p.name ≡ Some (record { sort = a_parser; parameters = map (parameter_shape names) p.parameters })
block_has names [] p once has = absurd has
block_has names (z ∷ ds) p once (inl same) =
    ap (λ (y : Decl16). block_of names (y ∷ ds) p.name) same
    ∙ ap (λ b. or_else (cond b (Some (record { sort = a_parser; parameters = map (parameter_shape names) p.parameters })) None) (block_of names ds p.name)) (same_name p.name)
block_has names (z ∷ ds) p once (inr more) =
    let apart = neither (has_name (map decl_name ds) (decl_name z)) (repeats (map decl_name ds)) once in
    skip z (other_than (map decl_name ds) (decl_name z) p.name apart.0 (has_mapped decl_name ds (decl.Parser p) more)) ∙ block_has names ds p apart.1 more where
      skip : (d : Decl16) → bytes_eq (decl_name d) p.name ≡ false → block_of names (d ∷ ds) p.name ≡ block_of names ds p.name
      skip (decl.Header h) other = refl
      skip (decl.Struct y) other = refl
      skip (decl.Instance notes i) other = refl
      skip (decl.Parser q) other = ap (λ b. or_else (cond b (Some (record { sort = a_parser; parameters = map (parameter_shape names) q.parameters })) None) (block_of names ds p.name)) other
      skip (decl.Control c) other = ap (λ b. or_else (cond b (Some (record { sort = a_control; parameters = map (parameter_shape names) c.parameters })) None) (block_of names ds p.name)) other

-- a field by its name
pub named_has : (fields : List StructField) (f : StructField) → repeats (map member_of fields) ≡ false → Has fields f → field_named fields f.name ≡ Some f
named_has [] f once has = absurd has
named_has (z ∷ fields) f once (inl same) =
    ap (λ b. cond b (Some z) (field_named fields f.name)) (ap (λ (y : StructField). bytes_eq y.name f.name) same ∙ same_name f.name) ∙ ap (λ (y : StructField). let o : Option StructField = Some y in o) same
named_has (z ∷ fields) f once (inr more) =
    let apart = neither (has_name (map member_of fields) z.name) (repeats (map member_of fields)) once in
    ap (λ b. cond b (Some z) (field_named fields f.name)) (other_than (map member_of fields) z.name f.name apart.0 (has_mapped member_of fields f more))
    ∙ named_has fields f apart.1 more
