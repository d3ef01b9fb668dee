-- That the rows of declarations have the meaning of their words.
use Rattle.std.proofs.Common.{◌≡◌, ℕ, true, ◌&&◌, List, [], ◌∷◌, ◌++◌, map, refl, sym, ap, ap₂, subst, ◌∙◌, append_assoc}
use Rattle.std.specs.List.{flat_map, list_all}
use Rattle.predictive_parser.proofs.Meanings.{MeansWord, RowsShow, NoneShows}
use Rattle.predictive_parser.specs.Values.{newest, older}
use Rattle.p416_syntax.specs.declared.keyword.Keyword16.TheVariants as key
use Rattle.p416_syntax.specs.declared.lexeme.Include16.TheVariants as include
use Rattle.p416_syntax.specs.declared.parts.Note.{Note}
use Rattle.p416_syntax.specs.declared.parts.Type16.{Type16}
use Rattle.p416_syntax.specs.declared.parts.Param.{Param}
use Rattle.p416_syntax.specs.declared.parts.BitField.{BitField}
use Rattle.p416_syntax.specs.declared.parts.StructField.{StructField}
use Rattle.p416_syntax.specs.declared.parsers.Var.{Var}
use Rattle.p416_syntax.specs.declared.parsers.State.{State}
use Rattle.p416_syntax.specs.declared.controls.Instance.{Instance}
use Rattle.p416_syntax.specs.declared.controls.Local.{Local}
use Rattle.p416_syntax.specs.declared.program.Decl16.{Decl16}
use Rattle.p416_syntax.specs.declared.program.Decl16.TheVariants as decl
use Rattle.p416_syntax.specs.Tree.{Stmt16, no_statements}
use Rattle.p416_syntax.specs.Tokens.{Seen16, id, quoted, number, include_line, less, greater, comma, semicolon, paren_open, paren_close, brace_open, brace_close}
use Rattle.p416_syntax.specs.Written.{after_commas, written_notes, written_type, written_param, written_stmt, written_var, written_state, written_instance, written_block, written_local, written_control, written_bit_field, written_struct_field, written_parser, written_decl, written_block_name, written_main}
use Rattle.p416_syntax.specs.Parentheses.{bare_var, bare_state, bare_local}
use Rattle.p416_syntax.specs.Conditions.{with_parentheses, is_some_listed, are_notes, is_var, is_state, is_instance, is_local, is_stmt, statements, is_struct_field, is_decl}
use Rattle.p416_reader.specs.declared.symbols.Word.TheVariants as word
use Rattle.p416_reader.specs.declared.symbols.StateAction.TheVariants as state_act
use Rattle.p416_reader.specs.declared.symbols.ControlAction.TheVariants as control_act
use Rattle.p416_reader.specs.declared.symbols.DeclWord.{DeclWord}
use Rattle.p416_reader.specs.declared.symbols.DeclWord.TheVariants as declare
use Rattle.p416_reader.specs.declared.symbols.DeclAction.TheVariants as act
use Rattle.p416_reader.specs.declared.built.Built.{Built}
use Rattle.p416_reader.specs.internal.Actions.{cleared, with_stmt, put_state, put_control, put_decl}
use Rattle.p416_reader.specs.internal.Rows.{grammar16}
use Rattle.p416_reader.proofs.Forms.{stmts_of}
use Rattle.p416_reader.proofs.Meaning.{meaning16, after_all, extended_by, add_stmt, add_var, add_state, add_local, add_decl, add_block, Program, written_decls, is_program, after_decl}
use Rattle.p416_reader.proofs.Lists.{extended_by_list, all_added, both, left_true, right_true}
use Rattle.p416_reader.proofs.Fixed.{fixed16, by_name, by_number}
use Rattle.p416_reader.proofs.ExpressionLaws.{written_stmts, stmts_are, stmts_built}
use Rattle.p416_reader.proofs.Sound.Controls.{notes_good}

abbrev pub Means : DeclWord → Built → List Seen16 → Built → Type 0
Means w b us end = MeansWord grammar16 fixed16 meaning16 (word.Decl w) b us end

abbrev pub Rows : DeclWord → Built → Type 0
Rows w b = RowsShow grammar16 fixed16 meaning16 (word.Decl w) b (grammar16.rows (word.Decl w))

-- a declaration in front of others

abbrev in_front : Decl16 → Program → Program
in_front d p = record { decls = d ∷ p.decls; main = p.main }

front_tokens : (d : Decl16) (p : Program) (us vs : List Seen16) → us ≡ written_decl d → vs ≡ written_decls p → us ++ vs ≡ written_decls (in_front d p)
front_tokens d p us vs f g = ap₂ ◌++◌ f g ∙ sym (append_assoc (written_decl d) (flat_map written_decl p.decls) (written_main p.main))

front_is : (d : Decl16) (p : Program) → is_decl with_parentheses d ≡ true → is_program p ≡ true → is_program (in_front d p) ≡ true
front_is d p h k =
    both (is_decl with_parentheses d && list_all (is_decl with_parentheses) p.decls) (is_some_listed p.main)
    (both (is_decl with_parentheses d) (list_all (is_decl with_parentheses) p.decls) h (left_true (list_all (is_decl with_parentheses) p.decls) (is_some_listed p.main) k))
    (right_true (list_all (is_decl with_parentheses) p.decls) (is_some_listed p.main) k)

-- what is built behind a declaration
abbrev then_decls : Program → Built → Built
then_decls p b = after_all add_block p.main (after_all add_decl p.decls b)

decl_means : (d : Decl16) (us vs : List Seen16) (p : Program) (b end : Built) → us ≡ written_decl d → is_decl with_parentheses d ≡ true → ((vs ≡ written_decls p) × (is_program p ≡ true)) → add_decl d b ≡ end → Means declare.Decls b (us ++ vs) (then_decls p end)
decl_means d us vs p b end f h k e = (in_front d p, (front_tokens d p us vs f k.0, front_is d p h k.1), ap (then_decls p) e)

-- the same, where the tokens are grouped otherwise
decl_stands : (d : Decl16) (us vs ws : List Seen16) (p : Program) (b end : Built) → ws ≡ us ++ vs → us ≡ written_decl d → is_decl with_parentheses d ≡ true → ((vs ≡ written_decls p) × (is_program p ≡ true)) → add_decl d b ≡ end → Means declare.Decls b ws (then_decls p end)
decl_stands d us vs ws p b end g f h k e = subst (λ ts. Means declare.Decls b ts (then_decls p end)) (sym g) (decl_means d us vs p b end f h k e)

-- headers and structs

abbrev bit_fields : Built → List (List BitField) → Built
bit_fields b lists = record b { decls = record b.decls { bit_fields = lists } }

abbrev struct_fields : Built → List (List StructField) → Built
struct_fields b lists = record b { decls = record b.decls { struct_fields = lists } }

header_means : (text : List ℕ) (fs : List BitField) (us vs : List Seen16) (p : Program) (b : Built) → us ≡ flat_map written_bit_field fs → ((vs ≡ written_decls p) × (is_program p ≡ true))
    → Means declare.Decls b (quoted key.Header ∷ id text ∷ brace_open ∷ (us ++ brace_close ∷ vs)) (then_decls p (put_decl act.Header (bit_fields (record b { parts = record b.parts { names = text ∷ b.parts.names } }) (extended_by fs ([] ∷ b.decls.bit_fields)))))
header_means text fs us vs p b f k =
    decl_stands (decl.Header (record { name = text; fields = fs })) (quoted key.Header ∷ id text ∷ brace_open ∷ (us ++ brace_close ∷ [])) vs _ p b _
    (ap (λ l. quoted key.Header ∷ id text ∷ brace_open ∷ l) (sym (append_assoc us (brace_close ∷ []) vs)))
    (ap (λ l. quoted key.Header ∷ id text ∷ brace_open ∷ (l ++ brace_close ∷ [])) f) refl k
    (ap (λ lists. put_decl act.Header (bit_fields (record b { parts = record b.parts { names = text ∷ b.parts.names } }) lists)) (sym (extended_by_list fs [] b.decls.bit_fields)))

struct_means : (text : List ℕ) (fs : List StructField) (us vs : List Seen16) (p : Program) (b : Built) → ((us ≡ flat_map written_struct_field fs) × (list_all is_struct_field fs ≡ true)) → ((vs ≡ written_decls p) × (is_program p ≡ true))
    → Means declare.Decls b (quoted key.Struct ∷ id text ∷ brace_open ∷ (us ++ brace_close ∷ vs)) (then_decls p (put_decl act.Struct (struct_fields (record b { parts = record b.parts { names = text ∷ b.parts.names } }) (extended_by fs ([] ∷ b.decls.struct_fields)))))
struct_means text fs us vs p b h k =
    decl_stands (decl.Struct (record { name = text; fields = fs })) (quoted key.Struct ∷ id text ∷ brace_open ∷ (us ++ brace_close ∷ [])) vs _ p b _
    (ap (λ l. quoted key.Struct ∷ id text ∷ brace_open ∷ l) (sym (append_assoc us (brace_close ∷ []) vs)))
    (ap (λ l. quoted key.Struct ∷ id text ∷ brace_open ∷ (l ++ brace_close ∷ [])) h.0) h.1 k
    (ap (λ lists. put_decl act.Struct (struct_fields (record b { parts = record b.parts { names = text ∷ b.parts.names } }) lists)) (sym (extended_by_list fs [] b.decls.struct_fields)))

-- parsers and controls

-- with a name and these parameters
abbrev headed : Built → List ℕ → List (List Param) → Built
headed b text lists = record b { parts = record b.parts { names = text ∷ b.parts.names; params = lists } }

abbrev vars : Built → List (List Var) → Built
vars b lists = record (cleared b) { states = record b.states { vars = lists } }

abbrev states_in : Built → List (List State) → Built
states_in b lists = record (cleared b) { states = record b.states { states = lists } }

abbrev locals : Built → List (List Local) → Built
locals b lists = record (cleared b) { controls = record b.controls { locals = lists } }

parser_tokens : (text : List ℕ) (q : Param) (qs : List Param) (ws : List Var) (ss : List State) (us vs xs ys zs : List Seen16) → us ≡ written_param q → vs ≡ after_commas written_param qs → xs ≡ flat_map written_var ws → ys ≡ flat_map written_state ss
    → quoted key.Parser ∷ id text ∷ paren_open ∷ (us ++ (vs ++ paren_close ∷ brace_open ∷ (xs ++ (ys ++ brace_close ∷ zs)))) ≡ written_parser (record { name = text; parameters = q ∷ qs; vars = ws; states = ss }) ++ zs
parser_tokens text q qs ws ss us vs xs ys zs f g h k =
    let front = written_param q ++ after_commas written_param qs in
    let inside = flat_map written_var ws ++ flat_map written_state ss in
    ap (λ l. quoted key.Parser ∷ id text ∷ paren_open ∷ l)
    (ap₂ ◌++◌ f (ap₂ (λ l m. l ++ paren_close ∷ brace_open ∷ m) g (ap₂ (λ l m. l ++ (m ++ brace_close ∷ zs)) h k ∙ sym (append_assoc (flat_map written_var ws) (flat_map written_state ss) (brace_close ∷ zs))))
    ∙ sym (append_assoc (written_param q) (after_commas written_param qs) (paren_close ∷ brace_open ∷ (inside ++ brace_close ∷ zs)))
    ∙ ap (λ l. front ++ paren_close ∷ brace_open ∷ l) (sym (append_assoc inside (brace_close ∷ []) zs))
    ∙ sym (append_assoc front (paren_close ∷ []) ((brace_open ∷ (inside ++ brace_close ∷ [])) ++ zs))
    ∙ sym (append_assoc (front ++ paren_close ∷ []) (brace_open ∷ (inside ++ brace_close ∷ [])) zs))

parser_built : (text : List ℕ) (q : Param) (qs : List Param) (ws : List Var) (ss : List State) (b : Built)
    → add_decl (decl.Parser (record { name = text; parameters = q ∷ qs; vars = ws; states = ss })) b
    ≡ put_decl act.Parser (after_all add_state ss (put_state state_act.NoStates (after_all add_var ws (put_state state_act.NoVars (headed b text (extended_by qs ((q ∷ []) ∷ b.parts.params)))))))
parser_built text q qs ws ss b =
    let c = vars (headed b text ((q ∷ qs) ∷ b.parts.params)) (map bare_var ws ∷ b.states.vars) in
    sym (ap (λ lists. put_decl act.Parser (after_all add_state ss (put_state state_act.NoStates (after_all add_var ws (put_state state_act.NoVars (headed b text lists)))))) (extended_by_list qs (q ∷ []) b.parts.params)
    ∙ ap (λ d. put_decl act.Parser (after_all add_state ss (put_state state_act.NoStates d))) (all_added add_var bare_var (vars (headed b text ((q ∷ qs) ∷ b.parts.params))) (λ v lists. refl) ws [] b.states.vars)
    ∙ ap (put_decl act.Parser) (all_added add_state bare_state (states_in c) (λ s lists. refl) ss [] b.states.states))

control_tokens : (text : List ℕ) (q : Param) (qs : List Param) (ls : List Local) (ss : List Stmt16) (us vs xs ys zs : List Seen16) → us ≡ written_param q → vs ≡ after_commas written_param qs → xs ≡ flat_map written_local ls → ys ≡ flat_map written_stmt ss
    → quoted key.Control ∷ id text ∷ paren_open ∷ (us ++ (vs ++ paren_close ∷ brace_open ∷ (xs ++ quoted key.Apply ∷ brace_open ∷ (ys ++ brace_close ∷ brace_close ∷ zs))))
    ≡ written_control (record { name = text; parameters = q ∷ qs; locals = ls; body = stmts_of ss }) ++ zs
control_tokens text q qs ls ss us vs xs ys zs f g h k =
    let front = written_param q ++ after_commas written_param qs in
    let block = written_block (stmts_of ss) in
    let inside = flat_map written_local ls ++ quoted key.Apply ∷ block in
    ap (λ l. quoted key.Control ∷ id text ∷ paren_open ∷ l)
    (ap₂ ◌++◌ f (ap₂ (λ l m. l ++ paren_close ∷ brace_open ∷ m) g
    (ap₂ (λ l m. l ++ quoted key.Apply ∷ brace_open ∷ (m ++ brace_close ∷ brace_close ∷ zs)) h (k ∙ sym (written_stmts ss))
    ∙ ap (λ l. flat_map written_local ls ++ quoted key.Apply ∷ brace_open ∷ l) (sym (append_assoc (written_stmt (stmts_of ss)) (brace_close ∷ []) (brace_close ∷ zs)))
    ∙ sym (append_assoc (flat_map written_local ls) (quoted key.Apply ∷ block) (brace_close ∷ zs))))
    ∙ sym (append_assoc (written_param q) (after_commas written_param qs) (paren_close ∷ brace_open ∷ (inside ++ brace_close ∷ zs)))
    ∙ ap (λ l. front ++ paren_close ∷ brace_open ∷ l) (sym (append_assoc inside (brace_close ∷ []) zs))
    ∙ sym (append_assoc front (paren_close ∷ []) ((brace_open ∷ (inside ++ brace_close ∷ [])) ++ zs))
    ∙ sym (append_assoc (front ++ paren_close ∷ []) (brace_open ∷ (inside ++ brace_close ∷ [])) zs))

-- what is built where a control has these declarations and this is its block
abbrev control_end : Built → Built
control_end c = put_decl act.Control (put_state state_act.TakeBlock c)

abbrev block_from : Built → List Stmt16 → Built
block_from c ss = after_all add_stmt ss (with_stmt c.bodies.is_open c.bodies.exps (no_statements ∷ c.bodies.stmts) c)

control_built : (text : List ℕ) (q : Param) (qs : List Param) (ls : List Local) (ss : List Stmt16) (b : Built)
    → add_decl (decl.Control (record { name = text; parameters = q ∷ qs; locals = ls; body = stmts_of ss })) b
    ≡ control_end (block_from (after_all add_local ls (put_control control_act.NoLocals (headed b text (extended_by qs ((q ∷ []) ∷ b.parts.params))))) ss)
control_built text q qs ls ss b =
    let c = locals (headed b text ((q ∷ qs) ∷ b.parts.params)) (map bare_local ls ∷ b.controls.locals) in
    sym (ap (λ lists. control_end (block_from (after_all add_local ls (put_control control_act.NoLocals (headed b text lists))) ss)) (extended_by_list qs (q ∷ []) b.parts.params)
    ∙ ap (λ d. control_end (block_from d ss)) (all_added add_local bare_local (locals (headed b text ((q ∷ qs) ∷ b.parts.params))) (λ l lists. refl) ls [] b.controls.locals)
    ∙ ap control_end (stmts_built ss c.bodies.is_open c.bodies.exps c.bodies.stmts c))

-- instances

object_means : (n : Note) (ns : List Note) (i : Instance) (us vs ws xs : List Seen16) (p : Program) (b : Built) → ((us ++ vs ≡ written_notes (n ∷ ns)) × (are_notes (n ∷ ns) ≡ true)) → ((ws ≡ written_instance i) × (is_instance with_parentheses i ≡ true)) → ((xs ≡ written_decls p) × (is_program p ≡ true))
    → Means declare.Decls b (us ++ (vs ++ (ws ++ semicolon ∷ xs))) (then_decls p (add_decl (decl.Instance (n ∷ ns) i) b))
object_means n ns i us vs ws xs p b h k m =
    decl_stands (decl.Instance (n ∷ ns) i) ((us ++ vs) ++ (ws ++ semicolon ∷ [])) xs _ p b _
    (sym (append_assoc us vs (ws ++ semicolon ∷ xs)) ∙ ap (λ l. (us ++ vs) ++ l) (sym (append_assoc ws (semicolon ∷ []) xs)) ∙ sym (append_assoc (us ++ vs) (ws ++ semicolon ∷ []) xs))
    (ap₂ (λ l r. l ++ (r ++ semicolon ∷ [])) h.0 k.0) (both (are_notes (n ∷ ns)) (is_instance with_parentheses i) h.1 k.1) m refl

-- what is built where the annotations are the newest of these lists
abbrev object_end : Program → Instance → Built → List (List Note) → Built
object_end p i b lists = then_decls p (add_decl (decl.Instance (newest [] lists) i) (record b { parts = record b.parts { notes = older lists } }))

decls_rows : (b : Built) → Rows declare.Decls b
decls_rows b = (
  by_name _ (λ text us fs h vs p k. header_means text fs us vs p b h k),
  (
    by_name _ (λ text us fs h vs p k. struct_means text fs us vs p b h k),
    (
      by_name _ (λ text us q h vs qs k xs ws m ys ss l zs p o.
          decl_stands (decl.Parser (record { name = text; parameters = q ∷ qs; vars = ws; states = ss })) (written_parser (record { name = text; parameters = q ∷ qs; vars = ws; states = ss })) zs _ p b _
          (parser_tokens text q qs ws ss us vs xs ys zs h k m.0 l.0) refl
          (both (list_all (is_var with_parentheses) ws) (list_all (is_state with_parentheses) ss) m.1 l.1) o (parser_built text q qs ws ss b)),
      (
        by_name _ (λ text us q h vs qs k xs ls m ys ss l zs p o.
            decl_stands (decl.Control (record { name = text; parameters = q ∷ qs; locals = ls; body = stmts_of ss })) (written_control (record { name = text; parameters = q ∷ qs; locals = ls; body = stmts_of ss })) zs _ p b _
            (control_tokens text q qs ls ss us vs xs ys zs h k m.0 l.0) refl
            (both (list_all (is_local with_parentheses) ls) (is_stmt with_parentheses statements (stmts_of ss)) m.1 (stmts_are ss l.1)) o (control_built text q qs ls ss b)),
        (
          by_name _ (λ text us names h. (
            record { decls = []; main = text ∷ names },
            (ap (λ l. quoted key.V1Switch ∷ paren_open ∷ id text ∷ paren_open ∷ paren_close ∷ l) (ap (λ l. l ++ paren_close ∷ quoted key.Main ∷ semicolon ∷ []) h ∙ sym (append_assoc (after_commas written_block_name names) (paren_close ∷ []) (quoted key.Main ∷ semicolon ∷ []))), refl),
            refl,
          )),
          (
            λ us i h vs p k.
                decl_stands (decl.Instance [] i) (us ++ semicolon ∷ []) vs _ p b _ (sym (append_assoc us (semicolon ∷ []) vs)) (ap (λ l. l ++ semicolon ∷ []) h.0) h.1 k refl,
            (
              λ us n h vs ns k ws i m xs p l.
                  subst (λ lists. Means declare.Decls b (us ++ (vs ++ (ws ++ semicolon ∷ xs))) (object_end p i b lists)) (sym (extended_by_list ns (n ∷ []) b.parts.notes))
                  (object_means n ns i us vs ws xs p b (ap₂ ◌++◌ h.0 k.0, notes_good n ns h.1 k.1 k.2) m l),
              tt,
            ),
          ),
        ),
      ),
    ),
  ),
)

-- fields of structs

field_tokens : (ns : List Note) (t : Type16) (text : List ℕ) (fs : List StructField) (us vs ws : List Seen16) → us ≡ written_notes ns → vs ≡ written_type t → ws ≡ flat_map written_struct_field fs
    → us ++ (vs ++ id text ∷ semicolon ∷ ws) ≡ written_struct_field (record { notes = ns; of = t; name = text }) ++ flat_map written_struct_field fs
field_tokens ns t text fs us vs ws f g h =
    ap₂ ◌++◌ f (ap₂ (λ l m. l ++ id text ∷ semicolon ∷ m) g h ∙ sym (append_assoc (written_type t) (id text ∷ semicolon ∷ []) (flat_map written_struct_field fs)))
    ∙ sym (append_assoc (written_notes ns) (written_type t ++ id text ∷ semicolon ∷ []) (flat_map written_struct_field fs))

-- what is built where the annotations of a field are the newest of these lists
abbrev field_end : List StructField → Type16 → List ℕ → Built → List (List Note) → Built
field_end fs t text b lists =
    after_decl declare.Fields fs (put_decl act.AddField (record b { parts = record b.parts { names = text ∷ b.parts.names; types = t ∷ b.parts.types; notes = lists } }))

fields_rows : (b : Built) → Rows declare.Fields b
fields_rows b = (
  λ us t h. by_name _ (λ text vs fs k. (record { notes = []; of = t; name = text } ∷ fs, (field_tokens [] t text fs [] us vs refl h k.0, k.1), refl)),
  (
    λ us n h vs ns k ws t m. by_name _ (λ text xs fs l. (
      record { notes = n ∷ ns; of = t; name = text } ∷ fs,
      (
        sym (append_assoc us vs (ws ++ id text ∷ semicolon ∷ xs)) ∙ field_tokens (n ∷ ns) t text fs (us ++ vs) ws xs (ap₂ ◌++◌ h.0 k.0) m l.0,
        both (are_notes (n ∷ ns)) (list_all is_struct_field fs) (notes_good n ns h.1 k.1 k.2) l.1,
      ),
      ap (field_end fs t text b) (sym (extended_by_list ns (n ∷ []) b.parts.notes)),
    )),
    tt,
  ),
)

-- all of them

pub rows_mean : (w : DeclWord) (b : Built) → Rows w b
rows_mean declare.Program b = (λ us p h. (p, (ap (λ l. include_line include.Core ∷ include_line include.V1Model ∷ l) h.0, h.1), refl), tt)
rows_mean declare.Decls b = decls_rows b
rows_mean declare.BitFields b = (by_number _ (λ n. by_name _ (λ text us fs h. (record { width = n; name = text } ∷ fs, ap (λ l. quoted key.Bit ∷ less ∷ number n ∷ greater ∷ id text ∷ semicolon ∷ l) h, refl))), tt)
rows_mean declare.Fields b = fields_rows b
rows_mean declare.MoreBlocks b = (by_name _ (λ text us names h. (text ∷ names, ap (λ l. comma ∷ id text ∷ paren_open ∷ paren_close ∷ l) h, refl)), tt)

pub none_means : (w : DeclWord) (b : Built) → NoneShows grammar16 fixed16 meaning16 (word.Decl w) b (grammar16.otherwise (word.Decl w))
none_means declare.Program b = tt
none_means declare.Decls b = tt
none_means declare.BitFields b = ([], refl, refl)
none_means declare.Fields b = ([], (refl, refl), refl)
none_means declare.MoreBlocks b = ([], refl, refl)
