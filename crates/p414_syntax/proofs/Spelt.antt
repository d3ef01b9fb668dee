-- What is known of each part of a syntax that a text can have: its names are identifiers.
use Rattle.std.proofs.Common.{◌≡◌, ℕ, true, List, [], ◌∷◌, ◌++◌, sym, ◌∙◌, arith}
use Rattle.std.specs.Prelude.{All}
use Rattle.std.specs.List.{list_all, flat_map}
use Rattle.std.proofs.lemmas.Bool.{and_parts}
use Rattle.std.proofs.lemmas.List.Elements.{All-cons}
use Rattle.std.proofs.lemmas.List.Folds.{list_all-append}
use Rattle.p414_syntax.specs.declared.keyword.Keyword.TheVariants as key
use Rattle.p414_syntax.specs.declared.lexeme.Lexeme.{Lexeme}
use Rattle.p414_syntax.specs.SpeltLexemes.{is_identifier, is_spelt_lexeme}
use Rattle.p414_syntax.specs.declared.parts.Inst.{Inst}
use Rattle.p414_syntax.specs.declared.parts.Ref.{Ref}
use Rattle.p414_syntax.specs.declared.headers.Field.{Field}
use Rattle.p414_syntax.specs.declared.syntax.Decl.{Decl}
use Rattle.p414_syntax.specs.declared.syntax.Decl.TheVariants as decl
use Rattle.p414_syntax.specs.declared.syntax.Syntax14.{Syntax14}
use Rattle.p414_syntax.specs.Views.{HeaderTypeTree}
use Rattle.p414_syntax.specs.Words.{name, keyword, brace_open, brace_close, dot}
use Rattle.p414_syntax.specs.Written.{written, written_decl, written_header_type, written_field, written_tail, written_inst, written_option, written_index, written_ref, in_braces}
use Rattle.p414_syntax.specs.Conditions.{is_syntax, is_decl}
use Rattle.p414_syntax.specs.Spelt.{is_spelt14}

-- the tokens are ones that a text can have
pub record AreSpelt (tokens : List Lexeme) : Type 0 where
  pub all : list_all is_spelt_lexeme tokens ≡ true

first_of : (token : Lexeme) (rest : List Lexeme) → AreSpelt (token ∷ rest) → is_spelt_lexeme token ≡ true
first_of token rest h = (and_parts (is_spelt_lexeme token) (list_all is_spelt_lexeme rest) h.all).0

rest_of : (token : Lexeme) (rest : List Lexeme) → AreSpelt (token ∷ rest) → AreSpelt rest
rest_of token rest h = record { all = (and_parts (is_spelt_lexeme token) (list_all is_spelt_lexeme rest) h.all).1 }

front_of : (xs ys : List Lexeme) → AreSpelt (xs ++ ys) → AreSpelt xs
front_of xs ys h = record { all = (and_parts (list_all is_spelt_lexeme xs) (list_all is_spelt_lexeme ys) (sym (list_all-append is_spelt_lexeme xs ys) ∙ h.all)).0 }

behind_of : (xs ys : List Lexeme) → AreSpelt (xs ++ ys) → AreSpelt ys
behind_of xs ys h = record { all = (and_parts (list_all is_spelt_lexeme xs) (list_all is_spelt_lexeme ys) (sym (list_all-append is_spelt_lexeme xs ys) ∙ h.all)).1 }

-- each of what is written one after another
each_of : {A : Type 0} (write : A → List Lexeme) (xs : List A) → AreSpelt (flat_map write xs) → All (λ x. AreSpelt (write x)) xs
each_of write [] h = λ k d l. absurd (omega arith)
each_of write (x ∷ xs) h = All-cons (λ y. AreSpelt (write y)) x xs (front_of (write x) (flat_map write xs) h) (each_of write xs (behind_of (write x) (flat_map write xs) h))

-- a name behind one token
name_behind : (token : Lexeme) (text : List ℕ) (rest : List Lexeme) → AreSpelt (token ∷ name text ∷ rest) → is_identifier text ≡ true
name_behind token text rest h = first_of (name text) rest (rest_of token (name text ∷ rest) h)

-- each declaration of a syntax that a text can have is written with such tokens, and keeps to the grammar
pub decls_spelt : (s : Syntax14) → is_spelt14 s ≡ true → All (λ d. AreSpelt (written_decl d)) s.decls
decls_spelt s h = each_of written_decl s.decls (record { all = (and_parts (is_syntax s) (list_all is_spelt_lexeme (written s)) h).1 })

pub decls_kept : (s : Syntax14) → is_spelt14 s ≡ true → list_all is_decl s.decls ≡ true
decls_kept s h = (and_parts (is_syntax s) (list_all is_spelt_lexeme (written s)) h).0

-- the name that a declaration declares, if it declares one
abbrev pub names_of : Decl → List (List ℕ)
names_of (decl.HeaderType h) = h.name ∷ []
names_of (decl.Header h) = h.name ∷ []
names_of (decl.Metadata m) = m.name ∷ []
names_of (decl.FieldList l) = l.name ∷ []
names_of (decl.FieldListCalculation c) = c.name ∷ []
names_of (decl.CalculatedField c) = []
names_of (decl.Parser p) = p.name ∷ []
names_of (decl.Action a) = a.name ∷ []
names_of (decl.Table t) = t.name ∷ []
names_of (decl.Counter s) = s.name ∷ []
names_of (decl.Meter s) = s.name ∷ []
names_of (decl.Register s) = s.name ∷ []
names_of (decl.Control c) = c.name ∷ []
names_of (decl.LeftOut l) = l.name ∷ []

-- a name alone in a list
alone : (text : List ℕ) → is_identifier text ≡ true → All (λ n. is_identifier n ≡ true) (text ∷ [])
alone text h = All-cons (λ n. is_identifier n ≡ true) text [] h (λ k d l. absurd (omega arith))

-- a declared name is an identifier
pub names_spelt : (d : Decl) → AreSpelt (written_decl d) → All (λ n. is_identifier n ≡ true) (names_of d)
names_spelt (decl.HeaderType h) e = alone h.name (name_behind _ _ _ e)
names_spelt (decl.Header h) e = alone h.name (name_behind _ _ _ (rest_of _ _ e))
names_spelt (decl.Metadata m) e = alone m.name (name_behind _ _ _ (rest_of _ _ e))
names_spelt (decl.FieldList l) e = alone l.name (name_behind _ _ _ e)
names_spelt (decl.FieldListCalculation c) e = alone c.name (name_behind _ _ _ e)
names_spelt (decl.CalculatedField c) e = λ k d l. absurd (omega arith)
names_spelt (decl.Parser p) e = alone p.name (name_behind _ _ _ e)
names_spelt (decl.Action a) e = alone a.name (name_behind _ _ _ e)
names_spelt (decl.Table t) e = alone t.name (name_behind _ _ _ e)
names_spelt (decl.Counter s) e = alone s.name (name_behind _ _ _ e)
names_spelt (decl.Meter s) e = alone s.name (name_behind _ _ _ e)
names_spelt (decl.Register s) e = alone s.name (name_behind _ _ _ e)
names_spelt (decl.Control c) e = alone c.name (name_behind _ _ _ e)
names_spelt (decl.LeftOut l) e = alone l.name (name_behind _ _ _ e)

-- a field's name is an identifier
pub field_spelt : (f : Field) → AreSpelt (written_field f) → is_identifier f.name ≡ true
field_spelt f e = first_of _ _ e

pub fields_spelt : (h : HeaderTypeTree) → AreSpelt (written_header_type h) → All (λ f. AreSpelt (written_field f)) h.fields
fields_spelt h e =
    let body = keyword key.Fields ∷ (in_braces (flat_map written_field h.fields) ++ flat_map written_tail h.tails) in
    let inner = front_of body (brace_close ∷ []) (rest_of brace_open (body ++ brace_close ∷ []) (rest_of _ _ (rest_of _ _ e))) in
    let braces = front_of (in_braces (flat_map written_field h.fields)) (flat_map written_tail h.tails) (rest_of (keyword key.Fields) _ inner) in
    each_of written_field h.fields (front_of (flat_map written_field h.fields) (brace_close ∷ []) (rest_of brace_open _ braces))

-- each name of an instance and of a reference is one
pub inst_spelt : (i : Inst) → AreSpelt (written_inst i) → is_identifier i.name ≡ true
inst_spelt i e = first_of (name i.name) (written_option written_index i.index) e

pub ref_spelt : (r : Ref) → AreSpelt (written_ref r) → (is_identifier r.instance.name ≡ true) × (is_identifier r.field ≡ true)
ref_spelt r e = (
  inst_spelt r.instance (front_of (written_inst r.instance) (dot ∷ name r.field ∷ []) e),
  name_behind dot r.field [] (behind_of (written_inst r.instance) (dot ∷ name r.field ∷ []) e),
)
