-- Parts that are written one after another, each with its parentheses, come to the whole with its parentheses.
use Rattle.std.proofs.Common.{◌≡◌, List, [], ◌∷◌, ◌++◌, map, refl, sym, ap, ◌∙◌, append_assoc}
use Rattle.std.specs.List.{flat_map}
use Rattle.std.proofs.lemmas.List.{map-append}
use Rattle.p416_syntax.specs.declared.keyword.Keyword16.TheVariants as key
use Rattle.p416_tok.specs.declared.kind.TokenKind16.{TokenKind16}
use Rattle.p416_syntax.specs.declared.parsers.Simple.{Simple}
use Rattle.p416_syntax.specs.declared.parsers.SelectCase.{SelectCase}
use Rattle.p416_syntax.specs.declared.parsers.Parser16.{Parser16}
use Rattle.p416_syntax.specs.declared.controls.TableKey.{TableKey}
use Rattle.p416_syntax.specs.declared.controls.Property.TheVariants as property
use Rattle.p416_syntax.specs.declared.controls.Table16.{Table16}
use Rattle.p416_syntax.specs.declared.controls.Control16.{Control16}
use Rattle.p416_syntax.specs.declared.program.Decl16.{Decl16}
use Rattle.p416_syntax.specs.Tree.{Exp16}
use Rattle.p416_syntax.specs.Tokens.{Seen16, id, quoted, comma, equals, paren_open, paren_close, brace_open, brace_close, in_parens, in_braces}
use Rattle.p416_syntax.specs.Written.{by_commas, written_notes, written_params, written_exp, written_var, written_simple, written_case, written_state, written_parser, written_key, written_property, written_table, written_block, written_local, written_control, written_decl}
use Rattle.token_sheet.specs.Words.{Word}
use Rattle.p416_spelling.specs.Words.{word16, words16}
use Rattle.p416_parentheses.specs.Expressions.{full}
use Rattle.p416_parentheses.specs.Syntax.{full_stmt, full_var, full_simple, full_case, full_state, full_parser, full_key, full_property, full_table, full_local, full_control, full_decl}

abbrev Ws : Type 0
Ws = List (Word TokenKind16)

each : {A : Type 0} (f : A → List Seen16) (g : A → A) (xs : List A) → flat_map (λ x. f (g x)) xs ≡ flat_map f (map g xs)
each f g [] = refl
each f g (x ∷ xs) = ap (λ ts. f (g x) ++ ts) (each f g xs)

commas : {A : Type 0} (f : A → List Seen16) (g : A → A) (xs : List A) → by_commas (λ x. f (g x)) xs ≡ by_commas f (map g xs)
commas f g [] = refl
commas f g (x ∷ xs) = ap (λ ts. f (g x) ++ ts) (each (λ y. comma ∷ f y) g xs)

-- two runs of tokens are one
more : (s t u : Ws) (a b : List Seen16) → t ≡ s ++ words16 a → u ≡ t ++ words16 b → u ≡ s ++ words16 (a ++ b)
more s t u a b p q =
    q ∙ ap (λ ws. ws ++ words16 b) p ∙ append_assoc s (words16 a) (words16 b) ∙ ap (λ ws. s ++ ws) (sym (map-append word16 a b))

-- the last parts of what stands in braces
closed : (s t u : Ws) (a b : List Seen16) → a ≡ b → t ≡ s ++ words16 a → u ≡ t ++ words16 (brace_close ∷ []) → u ≡ s ++ words16 (b ++ brace_close ∷ [])
closed s t u a b e p q = more s t u b (brace_close ∷ []) (p ∙ ap (λ ts. s ++ words16 ts) e) q

-- keysets and `select`
pub tuple_written : (s0 s1 s2 s3 : Ws) (ss : List Simple)
    → s1 ≡ s0 ++ words16 (paren_open ∷ []) → s2 ≡ s1 ++ words16 (by_commas (λ s. written_simple (full_simple s)) ss) → s3 ≡ s2 ++ words16 (paren_close ∷ [])
    → s3 ≡ s0 ++ words16 (in_parens (by_commas written_simple (map full_simple ss)))
tuple_written s0 s1 s2 s3 ss a b c =
    let inside = by_commas written_simple (map full_simple ss) in
    more s0 s1 s3 (paren_open ∷ []) (inside ++ paren_close ∷ []) a
    (more s1 s2 s3 inside (paren_close ∷ []) (b ∙ ap (λ ts. s1 ++ words16 ts) (commas written_simple full_simple ss)) c)

pub select_written : (s0 s1 s2 s3 s4 s5 : Ws) (es : List Exp16) (cs : List SelectCase)
    → s1 ≡ s0 ++ words16 (quoted key.Select ∷ paren_open ∷ []) → s2 ≡ s1 ++ words16 (by_commas (λ e. written_exp (full e)) es)
    → s3 ≡ s2 ++ words16 (paren_close ∷ brace_open ∷ []) → s4 ≡ s3 ++ words16 (flat_map (λ c. written_case (full_case c)) cs) → s5 ≡ s4 ++ words16 (brace_close ∷ [])
    → s5 ≡ s0 ++ words16 (quoted key.Select ∷ (in_parens (by_commas written_exp (map full es)) ++ in_braces (flat_map written_case (map full_case cs))))
select_written s0 s1 s2 s3 s4 s5 es cs a b c d e =
    let keys = by_commas written_exp (map full es) in
    let chosen = flat_map written_case (map full_case cs) in
    more s0 s1 s5 (quoted key.Select ∷ paren_open ∷ []) (keys ++ paren_close ∷ in_braces chosen) a
    (more s1 s2 s5 keys (paren_close ∷ in_braces chosen) (b ∙ ap (λ ts. s1 ++ words16 ts) (commas written_exp full es))
    (more s2 s3 s5 (paren_close ∷ brace_open ∷ []) (chosen ++ brace_close ∷ []) c (closed s3 s4 s5 (flat_map (λ x. written_case (full_case x)) cs) chosen (each written_case full_case cs) d e)))
    ∙ ap (λ ts. s0 ++ words16 (quoted key.Select ∷ paren_open ∷ ts)) (sym (append_assoc keys (paren_close ∷ []) (in_braces chosen)))

pub parser_written : (s0 s1 s2 s3 s4 s5 s6 : Ws) (p : Parser16)
    → s1 ≡ s0 ++ words16 (quoted key.Parser ∷ id p.name ∷ []) → s2 ≡ s1 ++ words16 (written_params p.parameters) → s3 ≡ s2 ++ words16 (brace_open ∷ [])
    → s4 ≡ s3 ++ words16 (flat_map (λ v. written_var (full_var v)) p.vars) → s5 ≡ s4 ++ words16 (flat_map (λ s. written_state (full_state s)) p.states) → s6 ≡ s5 ++ words16 (brace_close ∷ [])
    → s6 ≡ s0 ++ words16 (written_parser (full_parser p))
parser_written s0 s1 s2 s3 s4 s5 s6 p a b c d e f =
    let params = written_params p.parameters in
    let vars = flat_map written_var (map full_var p.vars) in
    let states = flat_map written_state (map full_state p.states) in
    let inside = vars ++ (states ++ brace_close ∷ []) in
    more s0 s1 s6 (quoted key.Parser ∷ id p.name ∷ []) (params ++ brace_open ∷ inside) a
    (more s1 s2 s6 params (brace_open ∷ inside) b
    (more s2 s3 s6 (brace_open ∷ []) inside c
    (more s3 s4 s6 vars (states ++ brace_close ∷ []) (d ∙ ap (λ ts. s3 ++ words16 ts) (each written_var full_var p.vars))
    (closed s4 s5 s6 (flat_map (λ x. written_state (full_state x)) p.states) states (each written_state full_state p.states) e f))))
    ∙ ap (λ ts. s0 ++ words16 (quoted key.Parser ∷ id p.name ∷ (params ++ brace_open ∷ ts))) (sym (append_assoc vars states (brace_close ∷ [])))

-- tables
pub keys_written : (s0 s1 s2 s3 : Ws) (ks : List TableKey)
    → s1 ≡ s0 ++ words16 (quoted key.Key ∷ equals ∷ brace_open ∷ []) → s2 ≡ s1 ++ words16 (flat_map (λ k. written_key (full_key k)) ks) → s3 ≡ s2 ++ words16 (brace_close ∷ [])
    → s3 ≡ s0 ++ words16 (written_property (full_property (property.Key ks)))
keys_written s0 s1 s2 s3 ks a b c =
    let inside = flat_map written_key (map full_key ks) in
    more s0 s1 s3 (quoted key.Key ∷ equals ∷ brace_open ∷ []) (inside ++ brace_close ∷ []) a
    (closed s1 s2 s3 (flat_map (λ x. written_key (full_key x)) ks) inside (each written_key full_key ks) b c)

pub table_written : (s0 s1 s2 s3 s4 s5 : Ws) (t : Table16)
    → s1 ≡ s0 ++ words16 (written_notes t.notes) → s2 ≡ s1 ++ words16 (quoted key.Table ∷ id t.name ∷ []) → s3 ≡ s2 ++ words16 (brace_open ∷ [])
    → s4 ≡ s3 ++ words16 (flat_map (λ p. written_property (full_property p)) t.properties) → s5 ≡ s4 ++ words16 (brace_close ∷ [])
    → s5 ≡ s0 ++ words16 (written_table (full_table t))
table_written s0 s1 s2 s3 s4 s5 t a b c d e =
    let inside = flat_map written_property (map full_property t.properties) in
    more s0 s1 s5 (written_notes t.notes) (quoted key.Table ∷ id t.name ∷ in_braces inside) a
    (more s1 s2 s5 (quoted key.Table ∷ id t.name ∷ []) (in_braces inside) b
    (more s2 s3 s5 (brace_open ∷ []) (inside ++ brace_close ∷ []) c
    (closed s3 s4 s5 (flat_map (λ x. written_property (full_property x)) t.properties) inside (each written_property full_property t.properties) d e)))

-- controls
pub control_written : (s0 s1 s2 s3 s4 s5 s6 s7 : Ws) (c : Control16)
    → s1 ≡ s0 ++ words16 (quoted key.Control ∷ id c.name ∷ []) → s2 ≡ s1 ++ words16 (written_params c.parameters) → s3 ≡ s2 ++ words16 (brace_open ∷ [])
    → s4 ≡ s3 ++ words16 (flat_map (λ l. written_local (full_local l)) c.locals) → s5 ≡ s4 ++ words16 (quoted key.Apply ∷ [])
    → s6 ≡ s5 ++ words16 (written_block (full_stmt c.body)) → s7 ≡ s6 ++ words16 (brace_close ∷ [])
    → s7 ≡ s0 ++ words16 (written_control (full_control c))
control_written s0 s1 s2 s3 s4 s5 s6 s7 c a b d e f g h =
    let params = written_params c.parameters in
    let locals = flat_map written_local (map full_local c.locals) in
    let body = written_block (full_stmt c.body) in
    let inside = locals ++ quoted key.Apply ∷ (body ++ brace_close ∷ []) in
    more s0 s1 s7 (quoted key.Control ∷ id c.name ∷ []) (params ++ brace_open ∷ inside) a
    (more s1 s2 s7 params (brace_open ∷ inside) b
    (more s2 s3 s7 (brace_open ∷ []) inside d
    (more s3 s4 s7 locals (quoted key.Apply ∷ (body ++ brace_close ∷ [])) (e ∙ ap (λ ts. s3 ++ words16 ts) (each written_local full_local c.locals))
    (more s4 s5 s7 (quoted key.Apply ∷ []) (body ++ brace_close ∷ []) f (more s5 s6 s7 body (brace_close ∷ []) g h)))))
    ∙ ap (λ ts. s0 ++ words16 (quoted key.Control ∷ id c.name ∷ (params ++ brace_open ∷ ts))) (sym (append_assoc locals (quoted key.Apply ∷ body) (brace_close ∷ [])))

-- all declarations
pub decls_written : (s0 s1 : Ws) (ds : List Decl16) → s1 ≡ s0 ++ words16 (flat_map (λ d. written_decl (full_decl d)) ds) → s1 ≡ s0 ++ words16 (flat_map written_decl (map full_decl ds))
decls_written s0 s1 ds a = a ∙ ap (λ ts. s0 ++ words16 ts) (each written_decl full_decl ds)
