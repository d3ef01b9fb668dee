-- Declarations and whole programs: what is written so is read.
use Rattle.std.proofs.Common.{◌≡◌, ℕ, Bool, true, List, [], ◌∷◌, ◌++◌, map, refl, ap, ◌∙◌, append_assoc}
use Rattle.std.specs.List.{flat_map, list_all}
use Rattle.predictive_parser.specs.declared.symbol.Symbol.TheVariants.{Put}
use Rattle.p416_syntax.specs.declared.keyword.Keyword16.TheVariants as key
use Rattle.p416_syntax.specs.declared.lexeme.Include16.TheVariants as include
use Rattle.p416_syntax.specs.declared.parts.Note.{Note}
use Rattle.p416_syntax.specs.declared.parts.Note.TheVariants as note
use Rattle.p416_syntax.specs.declared.parts.Type16.{Type16}
use Rattle.p416_syntax.specs.declared.parts.Type16.TheVariants as kind
use Rattle.p416_syntax.specs.declared.parts.Param.{Param}
use Rattle.p416_syntax.specs.declared.parts.BitField.{BitField}
use Rattle.p416_syntax.specs.declared.parts.Header16.{Header16}
use Rattle.p416_syntax.specs.declared.parts.StructField.{StructField}
use Rattle.p416_syntax.specs.declared.parts.Struct16.{Struct16}
use Rattle.p416_syntax.specs.declared.parsers.Var.{Var}
use Rattle.p416_syntax.specs.declared.parsers.State.{State}
use Rattle.p416_syntax.specs.declared.controls.Instance.{Instance}
use Rattle.p416_syntax.specs.declared.controls.Instance.TheVariants as instance
use Rattle.p416_syntax.specs.declared.controls.Local.{Local}
use Rattle.p416_syntax.specs.declared.program.Decl16.{Decl16}
use Rattle.p416_syntax.specs.declared.program.Decl16.TheVariants as decl
use Rattle.p416_syntax.specs.Tree.{Stmt16}
use Rattle.p416_syntax.specs.Tokens.{Seen16, id, quoted, number, include_line, comma, semicolon, less, greater, paren_open, paren_close, brace_open, brace_close, in_braces}
use Rattle.p416_syntax.specs.Written.{after_commas, by_commas, written_block_name, written_note, written_notes, written_type, written_param, written_params, written_stmt, written_block, written_var, written_state, written_instance, written_local, written_bit_field, written_struct_field, written_decl, written_main}
use Rattle.p416_syntax.specs.Parentheses.{bare_var, bare_state, bare_local}
use Rattle.p416_syntax.specs.Conditions.{with_parentheses, is_some_listed, is_note, is_named_once, are_notes, is_stmt, statements, is_var, is_state, is_instance, is_object, is_parser, is_local, is_control, is_struct_field, is_struct, is_decl}
use Rattle.p416_reader.specs.declared.symbols.Action.TheVariants as action
use Rattle.p416_reader.specs.declared.symbols.PartAction.TheVariants as part_act
use Rattle.p416_reader.specs.declared.symbols.DeclAction.TheVariants as decl_act
use Rattle.p416_reader.specs.declared.symbols.Word.TheVariants as word
use Rattle.p416_reader.specs.declared.symbols.PartWord.TheVariants as part
use Rattle.p416_reader.specs.declared.symbols.StateWord.TheVariants as state
use Rattle.p416_reader.specs.declared.symbols.ControlWord.TheVariants as control
use Rattle.p416_reader.specs.declared.symbols.DeclWord.TheVariants as declare
use Rattle.p416_reader.specs.declared.built.Built.{Built}
use Rattle.p416_reader.specs.internal.Classes.{with_name}
use Rattle.p416_reader.specs.internal.Actions.{cleared}
use Rattle.p416_reader.specs.internal.Rows as rows
use Rattle.p416_reader.specs.internal.Rows.{Sym, part_sym, control_sym, decl_sym}
use Rattle.p416_reader.proofs.Meaning.{after_word, after_all, add_var, add_state, add_local, add_decl, add_block}
use Rattle.p416_reader.proofs.Lists.{left_true, right_true, all_added}
use Rattle.p416_reader.proofs.Readings.{Goes, Calm, ReadsCalm, ◌▷◌, reads, does, from, giving, skips, first_of, extended_is}
use Rattle.p416_reader.proofs.Complete.Parts.{never, same, reads_type, reads_param, reads_more_params, reads_first_note}
use Rattle.p416_reader.proofs.Complete.Statements.{braced_read}
use Rattle.p416_reader.proofs.Complete.States.{reads_vars, reads_states}
use Rattle.p416_reader.proofs.Complete.Controls.{with_notes, notes_sym, notes_behind, reads_instance, reads_locals}

abbrev decls_sym : Sym
decls_sym = decl_sym declare.Decls

abbrev DeclReads : Decl16 → Type 0
DeclReads d = (symbols : List Sym) (b : Built) (rest : List Seen16) → Goes (decls_sym ∷ symbols) b (written_decl d ++ rest) (decls_sym ∷ symbols) (add_decl d b) rest

-- headers and structs

pub reads_bit_fields : (fs : List BitField) → ReadsCalm (word.Decl declare.BitFields) fs (flat_map written_bit_field fs)
reads_bit_fields [] symbols b rest c = skips (word.Decl declare.BitFields) symbols b rest refl refl c
reads_bit_fields (f ∷ fs) symbols b rest c =
    reads (quoted key.Bit ∷ less ∷ number f.width ∷ greater ∷ id f.name ∷ semicolon ∷ []) refl ▷ does ▷ reads_bit_fields fs symbols _ rest c

braced_tokens : {A : Type 0} (written : A → List Seen16) (xs : List A) (rest : List Seen16) → in_braces (flat_map written xs) ++ rest ≡ brace_open ∷ (flat_map written xs ++ brace_close ∷ rest)
braced_tokens written xs rest = ap (λ ts. brace_open ∷ ts) (append_assoc (flat_map written xs) (brace_close ∷ []) rest)

header_read : (h : Header16) → DeclReads (decl.Header h)
header_read h symbols b rest =
    from _ (ap (λ ts. quoted key.Header ∷ id h.name ∷ ts) (braced_tokens written_bit_field h.fields rest))
    (reads (quoted key.Header ∷ id h.name ∷ brace_open ∷ []) refl ▷ does
    ▷ giving (ap (λ ls. record (with_name h.name b) { decls = record b.decls { bit_fields = ls } }) (extended_is h.fields [] b.decls.bit_fields))
    (reads_bit_fields h.fields _ (record (with_name h.name b) { decls = record b.decls { bit_fields = [] ∷ b.decls.bit_fields } }) (brace_close ∷ rest) refl)
    ▷ reads (brace_close ∷ []) refl ▷ does)

abbrev fields_sym : Sym
fields_sym = decl_sym declare.Fields

type_begun : (t : Type16) (symbols : List Sym) (b : Built) (ts : List Seen16)
    → Goes (fields_sym ∷ symbols) b (written_type t ++ ts) (part_sym part.TypeOf ∷ rows.a_name ∷ rows.semicolon ∷ Put (action.Part part_act.NoNotes) ∷ Put (action.Decl decl_act.AddField) ∷ fields_sym ∷ symbols) b (written_type t ++ ts)
type_begun (kind.Bit w) symbols b ts = same refl
type_begun kind.Bool symbols b ts = same refl
type_begun (kind.Named text size) symbols b ts = same refl

note_begun : (n : Note) (symbols : List Sym) (b : Built) (ts : List Seen16)
    → Goes (fields_sym ∷ symbols) b (written_note n ++ ts) (part_sym part.FirstNote ∷ notes_sym ∷ part_sym part.TypeOf ∷ rows.a_name ∷ rows.semicolon ∷ Put (action.Decl decl_act.AddField) ∷ fields_sym ∷ symbols) b (written_note n ++ ts)
note_begun (note.Name text) symbols b ts = same refl
note_begun (note.FieldList lists) symbols b ts = same refl

calm_type : (t : Type16) (rest : List Seen16) → Calm (word.Part part.Notes) (written_type t ++ rest)
calm_type (kind.Bit w) rest = refl
calm_type kind.Bool rest = refl
calm_type (kind.Named text size) rest = refl

abbrev FieldReads : List Note → Type16 → List ℕ → Type 0
FieldReads notes t text =
    (symbols : List Sym) (b : Built) (rest : List Seen16)
    → Goes (fields_sym ∷ symbols) b (written_struct_field (record { notes = notes; of = t; name = text }) ++ rest) (fields_sym ∷ symbols)
    (after_word (word.Decl declare.Fields) (record { notes = notes; of = t; name = text } ∷ []) b) rest

field_read : (notes : List Note) (t : Type16) (text : List ℕ) → are_notes notes ≡ true → FieldReads notes t text
field_read [] t text h symbols b rest =
    from _ (append_assoc (written_type t) (id text ∷ semicolon ∷ []) rest)
    (type_begun t symbols b (id text ∷ semicolon ∷ rest) ▷ reads_type t _ b (id text ∷ semicolon ∷ rest) refl ▷ reads (id text ∷ semicolon ∷ []) refl ▷ does ▷ does)
field_read (n ∷ ns) t text h symbols b rest =
    let each = left_true (list_all is_note (n ∷ ns)) (is_named_once (n ∷ ns)) h in
    from _
    (append_assoc (written_notes (n ∷ ns)) (written_type t ++ id text ∷ semicolon ∷ []) rest
    ∙ first_of written_note n ns ((written_type t ++ id text ∷ semicolon ∷ []) ++ rest)
    ∙ ap (λ ts. written_note n ++ (written_notes ns ++ ts)) (append_assoc (written_type t) (id text ∷ semicolon ∷ []) rest))
    (note_begun n symbols b (written_notes ns ++ (written_type t ++ id text ∷ semicolon ∷ rest))
    ▷ reads_first_note n (left_true (is_note n) (list_all is_note ns) each) _ b (written_notes ns ++ (written_type t ++ id text ∷ semicolon ∷ rest))
    ▷ notes_behind (n ∷ []) ns (right_true (is_note n) (list_all is_note ns) each) (right_true (list_all is_note (n ∷ ns)) (is_named_once (n ∷ ns)) h) _ b (written_type t ++ id text ∷ semicolon ∷ rest) (calm_type t (id text ∷ semicolon ∷ rest))
    ▷ reads_type t _ (with_notes (n ∷ ns) b) (id text ∷ semicolon ∷ rest) refl ▷ reads (id text ∷ semicolon ∷ []) refl ▷ does)

pub reads_fields : (fs : List StructField) → list_all is_struct_field fs ≡ true → ReadsCalm (word.Decl declare.Fields) fs (flat_map written_struct_field fs)
reads_fields [] h symbols b rest c = skips (word.Decl declare.Fields) symbols b rest refl refl c
reads_fields (f ∷ fs) h symbols b rest c =
    from _ (first_of written_struct_field f fs rest)
    (field_read f.notes f.of f.name (left_true (is_struct_field f) (list_all is_struct_field fs) h) symbols b (flat_map written_struct_field fs ++ rest)
    ▷ reads_fields fs (right_true (is_struct_field f) (list_all is_struct_field fs) h) symbols _ rest c)

struct_read : (s : Struct16) → is_struct s ≡ true → DeclReads (decl.Struct s)
struct_read s h symbols b rest =
    from _ (ap (λ ts. quoted key.Struct ∷ id s.name ∷ ts) (braced_tokens written_struct_field s.fields rest))
    (reads (quoted key.Struct ∷ id s.name ∷ brace_open ∷ []) refl ▷ does
    ▷ giving (ap (λ ls. record (with_name s.name b) { decls = record b.decls { struct_fields = ls } }) (extended_is s.fields [] b.decls.struct_fields))
    (reads_fields s.fields h _ (record (with_name s.name b) { decls = record b.decls { struct_fields = [] ∷ b.decls.struct_fields } }) (brace_close ∷ rest) refl)
    ▷ reads (brace_close ∷ []) refl ▷ does)

-- objects

instance_begun : (i : Instance) (symbols : List Sym) (b : Built) (rest : List Seen16)
    → Goes (decls_sym ∷ symbols) b (written_instance i ++ rest) (control_sym control.Instance ∷ rows.semicolon ∷ Put (action.Part part_act.NoNotes) ∷ Put (action.Decl decl_act.Object) ∷ decls_sym ∷ symbols) b (written_instance i ++ rest)
instance_begun (instance.Counter e m text) symbols b rest = same refl
instance_begun (instance.DirectCounter m text) symbols b rest = same refl
instance_begun (instance.Register w e text) symbols b rest = same refl
instance_begun (instance.Meter e m text) symbols b rest = same refl

object_begun : (n : Note) (symbols : List Sym) (b : Built) (ts : List Seen16)
    → Goes (decls_sym ∷ symbols) b (written_note n ++ ts) (part_sym part.FirstNote ∷ notes_sym ∷ control_sym control.Instance ∷ rows.semicolon ∷ Put (action.Decl decl_act.Object) ∷ decls_sym ∷ symbols) b (written_note n ++ ts)
object_begun (note.Name text) symbols b ts = same refl
object_begun (note.FieldList lists) symbols b ts = same refl

calm_instance : (i : Instance) (rest : List Seen16) → Calm (word.Part part.Notes) (written_instance i ++ rest)
calm_instance (instance.Counter e m text) rest = refl
calm_instance (instance.DirectCounter m text) rest = refl
calm_instance (instance.Register w e text) rest = refl
calm_instance (instance.Meter e m text) rest = refl

object_read : (notes : List Note) (i : Instance) → is_object with_parentheses notes i ≡ true → DeclReads (decl.Instance notes i)
object_read [] i h symbols b rest =
    from _ (append_assoc (written_instance i) (semicolon ∷ []) rest)
    (instance_begun i symbols b (semicolon ∷ rest) ▷ reads_instance i h _ b (semicolon ∷ rest) ▷ reads (semicolon ∷ []) refl ▷ does ▷ does)
object_read (n ∷ ns) i h symbols b rest =
    let notes = left_true (are_notes (n ∷ ns)) (is_instance with_parentheses i) h in
    let each = left_true (list_all is_note (n ∷ ns)) (is_named_once (n ∷ ns)) notes in
    from _
    (append_assoc (written_notes (n ∷ ns)) (written_instance i ++ semicolon ∷ []) rest
    ∙ first_of written_note n ns ((written_instance i ++ semicolon ∷ []) ++ rest)
    ∙ ap (λ ts. written_note n ++ (written_notes ns ++ ts)) (append_assoc (written_instance i) (semicolon ∷ []) rest))
    (object_begun n symbols b (written_notes ns ++ (written_instance i ++ semicolon ∷ rest))
    ▷ reads_first_note n (left_true (is_note n) (list_all is_note ns) each) _ b (written_notes ns ++ (written_instance i ++ semicolon ∷ rest))
    ▷ notes_behind (n ∷ []) ns (right_true (is_note n) (list_all is_note ns) each) (right_true (list_all is_note (n ∷ ns)) (is_named_once (n ∷ ns)) notes) _ b (written_instance i ++ semicolon ∷ rest) (calm_instance i (semicolon ∷ rest))
    ▷ reads_instance i (right_true (are_notes (n ∷ ns)) (is_instance with_parentheses i) h) _ (with_notes (n ∷ ns) b) (semicolon ∷ rest) ▷ reads (semicolon ∷ []) refl ▷ does)

-- parsers

abbrev with_params : List (List Param) → Built → Built
with_params ls b = record b { parts = record b.parts { params = ls } }

-- parameters, at least one, behind the opening parenthesis
params_read : (p : Param) (ps : List Param) (symbols : List Sym) (b : Built) (rest : List Seen16)
    → Goes (Put (action.Part part_act.NoParams) ∷ part_sym part.Param ∷ part_sym part.MoreParams ∷ rows.paren_close ∷ symbols) b (by_commas written_param (p ∷ ps) ++ paren_close ∷ rest) symbols (with_params ((p ∷ ps) ∷ b.parts.params) b) rest
params_read p ps symbols b rest =
    from _ (append_assoc (written_param p) (after_commas written_param ps) (paren_close ∷ rest))
    (does ▷ reads_param p _ _ (after_commas written_param ps ++ paren_close ∷ rest)
    ▷ giving (ap (λ ls. with_params ls b) (extended_is ps (p ∷ []) b.parts.params)) (reads_more_params ps _ (with_params ((p ∷ []) ∷ b.parts.params) b) (paren_close ∷ rest) refl)
    ▷ reads (paren_close ∷ []) refl)

block_tokens : (ps : List Param) (ws rest : List Seen16) → (written_params ps ++ in_braces ws) ++ rest ≡ paren_open ∷ (by_commas written_param ps ++ paren_close ∷ brace_open ∷ (ws ++ brace_close ∷ rest))
block_tokens ps ws rest =
    ap (λ ts. paren_open ∷ ts)
    (append_assoc (by_commas written_param ps ++ paren_close ∷ []) (in_braces ws) rest
    ∙ append_assoc (by_commas written_param ps) (paren_close ∷ []) (in_braces ws ++ rest)
    ∙ ap (λ ts. by_commas written_param ps ++ paren_close ∷ brace_open ∷ ts) (append_assoc ws (brace_close ∷ []) rest))

abbrev with_vars : Built → List (List Var) → Built
with_vars b ls = record (cleared b) { states = record b.states { vars = ls } }

abbrev with_states : Built → List (List State) → Built
with_states b ls = record (cleared b) { states = record b.states { states = ls } }

calm_states : (ss : List State) (rest : List Seen16) → Calm (word.State state.Vars) (flat_map written_state ss ++ brace_close ∷ rest)
calm_states [] rest = refl
calm_states (s ∷ ss) rest = refl

parser_of : (name : List ℕ) (p : Param) (ps : List Param) (vs : List Var) (ss : List State) → list_all (is_var with_parentheses) vs ≡ true → list_all (is_state with_parentheses) ss ≡ true
    → DeclReads (decl.Parser (record { name = name; parameters = p ∷ ps; vars = vs; states = ss }))
parser_of name p ps vs ss hv hs symbols b rest =
    let b1 = with_params ((p ∷ ps) ∷ b.parts.params) (with_name name b) in
    let b2 = with_vars b1 (map bare_var vs ∷ b.states.vars) in
    from _
    (ap (λ ts. quoted key.Parser ∷ id name ∷ ts) (block_tokens (p ∷ ps) (flat_map written_var vs ++ flat_map written_state ss) rest)
    ∙ ap (λ ts. quoted key.Parser ∷ id name ∷ paren_open ∷ (by_commas written_param (p ∷ ps) ++ paren_close ∷ brace_open ∷ ts)) (append_assoc (flat_map written_var vs) (flat_map written_state ss) (brace_close ∷ rest)))
    (reads (quoted key.Parser ∷ id name ∷ paren_open ∷ []) refl
    ▷ params_read p ps _ (with_name name b) (brace_open ∷ (flat_map written_var vs ++ (flat_map written_state ss ++ brace_close ∷ rest)))
    ▷ reads (brace_open ∷ []) refl ▷ does
    ▷ giving (all_added add_var bare_var (with_vars b1) (λ x ls. refl) vs [] b.states.vars)
    (reads_vars vs hv _ (with_vars b1 ([] ∷ b.states.vars)) (flat_map written_state ss ++ brace_close ∷ rest) (calm_states ss rest))
    ▷ does
    ▷ giving (all_added add_state bare_state (with_states b2) (λ x ls. refl) ss [] b.states.states)
    (reads_states ss hs _ (with_states b2 ([] ∷ b.states.states)) (brace_close ∷ rest) refl)
    ▷ reads (brace_close ∷ []) refl ▷ does)

parser_by : (name : List ℕ) (ps : List Param) (vs : List Var) (ss : List State) → is_parser with_parentheses (record { name = name; parameters = ps; vars = vs; states = ss }) ≡ true
    → DeclReads (decl.Parser (record { name = name; parameters = ps; vars = vs; states = ss }))
parser_by name [] vs ss h = absurd (never h)
parser_by name (p ∷ ps) vs ss h =
    parser_of name p ps vs ss (left_true (list_all (is_var with_parentheses) vs) (list_all (is_state with_parentheses) ss) h) (right_true (list_all (is_var with_parentheses) vs) (list_all (is_state with_parentheses) ss) h)

-- controls

abbrev with_locals : Built → List (List Local) → Built
with_locals b ls = record (cleared b) { controls = record b.controls { locals = ls } }

control_tokens : (ls : List Local) (ws rest : List Seen16)
    → (flat_map written_local ls ++ quoted key.Apply ∷ in_braces ws) ++ brace_close ∷ rest ≡ flat_map written_local ls ++ quoted key.Apply ∷ brace_open ∷ (ws ++ brace_close ∷ brace_close ∷ rest)
control_tokens ls ws rest =
    append_assoc (flat_map written_local ls) (quoted key.Apply ∷ in_braces ws) (brace_close ∷ rest)
    ∙ ap (λ ts. flat_map written_local ls ++ quoted key.Apply ∷ brace_open ∷ ts) (append_assoc ws (brace_close ∷ []) (brace_close ∷ rest))

control_of : (name : List ℕ) (p : Param) (ps : List Param) (ls : List Local) (s : Stmt16) → list_all (is_local with_parentheses) ls ≡ true → is_stmt with_parentheses statements s ≡ true
    → DeclReads (decl.Control (record { name = name; parameters = p ∷ ps; locals = ls; body = s }))
control_of name p ps ls s hl hs symbols b rest =
    let b1 = with_params ((p ∷ ps) ∷ b.parts.params) (with_name name b) in
    let b2 = with_locals b1 (map bare_local ls ∷ b.controls.locals) in
    from _
    (ap (λ ts. quoted key.Control ∷ id name ∷ ts) (block_tokens (p ∷ ps) (flat_map written_local ls ++ quoted key.Apply ∷ written_block s) rest)
    ∙ ap (λ ts. quoted key.Control ∷ id name ∷ paren_open ∷ (by_commas written_param (p ∷ ps) ++ paren_close ∷ brace_open ∷ ts)) (control_tokens ls (written_stmt s) rest))
    (reads (quoted key.Control ∷ id name ∷ paren_open ∷ []) refl
    ▷ params_read p ps _ (with_name name b) (brace_open ∷ (flat_map written_local ls ++ quoted key.Apply ∷ brace_open ∷ (written_stmt s ++ brace_close ∷ brace_close ∷ rest)))
    ▷ reads (brace_open ∷ []) refl ▷ does
    ▷ giving (all_added add_local bare_local (with_locals b1) (λ x ms. refl) ls [] b.controls.locals)
    (reads_locals ls hl _ (with_locals b1 ([] ∷ b.controls.locals)) (quoted key.Apply ∷ brace_open ∷ (written_stmt s ++ brace_close ∷ brace_close ∷ rest)) refl)
    ▷ reads (quoted key.Apply ∷ brace_open ∷ []) refl ▷ does
    ▷ braced_read s hs _ b2 [] (brace_close ∷ rest) ▷ does
    ▷ reads (brace_close ∷ []) refl ▷ does)

control_by : (name : List ℕ) (ps : List Param) (ls : List Local) (s : Stmt16) → is_control with_parentheses (record { name = name; parameters = ps; locals = ls; body = s }) ≡ true
    → DeclReads (decl.Control (record { name = name; parameters = ps; locals = ls; body = s }))
control_by name [] ls s h = absurd (never h)
control_by name (p ∷ ps) ls s h =
    control_of name p ps ls s (left_true (list_all (is_local with_parentheses) ls) (is_stmt with_parentheses statements s) h) (right_true (list_all (is_local with_parentheses) ls) (is_stmt with_parentheses statements s) h)

decl_read : (d : Decl16) → is_decl with_parentheses d ≡ true → DeclReads d
decl_read (decl.Header x) h = header_read x
decl_read (decl.Struct s) h = struct_read s h
decl_read (decl.Instance notes i) h = object_read notes i h
decl_read (decl.Parser p) h = parser_by p.name p.parameters p.vars p.states h
decl_read (decl.Control c) h = control_by c.name c.parameters c.locals c.body h

-- whole programs

more_blocks : (names : List (List ℕ)) → ReadsCalm (word.Decl declare.MoreBlocks) names (after_commas written_block_name names)
more_blocks [] symbols b rest c = skips (word.Decl declare.MoreBlocks) symbols b rest refl refl c
more_blocks (n ∷ names) symbols b rest c = reads (comma ∷ id n ∷ paren_open ∷ paren_close ∷ []) refl ▷ does ▷ more_blocks names symbols _ rest c

main_read : (n : List ℕ) (names : List (List ℕ)) (b : Built) → Goes (decls_sym ∷ []) b (written_main (n ∷ names)) [] (after_all add_block (n ∷ names) b) []
main_read n names b =
    from _
    (ap (λ ts. quoted key.V1Switch ∷ paren_open ∷ id n ∷ paren_open ∷ paren_close ∷ ts) (append_assoc (after_commas written_block_name names) (paren_close ∷ []) (quoted key.Main ∷ semicolon ∷ [])))
    (reads (quoted key.V1Switch ∷ paren_open ∷ id n ∷ paren_open ∷ paren_close ∷ []) refl ▷ does
    ▷ more_blocks names _ _ (paren_close ∷ quoted key.Main ∷ semicolon ∷ []) refl
    ▷ reads (paren_close ∷ quoted key.Main ∷ semicolon ∷ []) refl)

abbrev are_decls : List Decl16 → Bool
are_decls ds = list_all (is_decl with_parentheses) ds

decls_read : (ds : List Decl16) (n : List ℕ) (names : List (List ℕ)) (b : Built) → are_decls ds ≡ true
    → Goes (decls_sym ∷ []) b (flat_map written_decl ds ++ written_main (n ∷ names)) [] (after_all add_block (n ∷ names) (after_all add_decl ds b)) []
decls_read [] n names b h = main_read n names b
decls_read (d ∷ ds) n names b h =
    from _ (first_of written_decl d ds (written_main (n ∷ names)))
    (decl_read d (left_true (is_decl with_parentheses d) (are_decls ds) h) [] b (flat_map written_decl ds ++ written_main (n ∷ names))
    ▷ decls_read ds n names (add_decl d b) (right_true (is_decl with_parentheses d) (are_decls ds) h))

-- A program is read of all its tokens.
pub program_read : (ds : List Decl16) (names : List (List ℕ)) (b : Built) → are_decls ds ≡ true → is_some_listed names ≡ true
    → Goes (decl_sym declare.Program ∷ []) b (include_line include.Core ∷ include_line include.V1Model ∷ (flat_map written_decl ds ++ written_main names)) [] (after_all add_block names (after_all add_decl ds b)) []
program_read ds [] b h k = absurd (never k)
program_read ds (n ∷ names) b h k = reads (include_line include.Core ∷ include_line include.V1Model ∷ []) refl ▷ decls_read ds n names b h
