-- Each part of a syntax whose tokens can stand in a text has such tokens.
use Rattle.std.proofs.Common.{◌≡◌, ℕ, true, List, [], ◌∷◌, ◌++◌, sym, ◌∙◌}
use Rattle.std.specs.List.{flat_map}
use Rattle.std.proofs.lemmas.List.Folds.{list_all-append}
use Rattle.std.proofs.lemmas.Bool.{and_parts}
use Rattle.p416_syntax.specs.declared.lexeme.Literal16.{Literal16}
use Rattle.p416_syntax.specs.declared.mark.Mark16.{Mark16}
use Rattle.p416_syntax.specs.declared.keyword.Keyword16.TheVariants as key
use Rattle.p416_syntax.specs.SpeltLexemes.{is_identifier16, is_name16}
use Rattle.p416_syntax.specs.declared.parts.Note.{Note}
use Rattle.p416_syntax.specs.declared.parts.Param.{Param}
use Rattle.p416_syntax.specs.declared.parts.Header16.{Header16}
use Rattle.p416_syntax.specs.declared.parts.StructField.{StructField}
use Rattle.p416_syntax.specs.declared.parts.Struct16.{Struct16}
use Rattle.p416_syntax.specs.declared.parts.Member.{Member}
use Rattle.p416_syntax.specs.declared.parsers.Var.{Var}
use Rattle.p416_syntax.specs.declared.parsers.SelectCase.{SelectCase}
use Rattle.p416_syntax.specs.declared.parsers.State.{State}
use Rattle.p416_syntax.specs.declared.parsers.Parser16.{Parser16}
use Rattle.p416_syntax.specs.declared.controls.Instance.{Instance}
use Rattle.p416_syntax.specs.declared.controls.Action16.{Action16}
use Rattle.p416_syntax.specs.declared.controls.ActionName.{ActionName}
use Rattle.p416_syntax.specs.declared.controls.TableKey.{TableKey}
use Rattle.p416_syntax.specs.declared.controls.Property.TheVariants as property
use Rattle.p416_syntax.specs.declared.controls.Table16.{Table16}
use Rattle.p416_syntax.specs.declared.controls.Control16.{Control16}
use Rattle.p416_syntax.specs.Tree.{Exp16}
use Rattle.p416_syntax.specs.Tokens.{Seen16, id, quoted, number, mark, comma, colon, semicolon, less, greater, paren_close, brace_close, in_parens, in_braces, is_spelt_seen}
use Rattle.p416_syntax.specs.Written.{written_option, by_commas, written_notes, written_type, written_bit, written_direction, written_param, written_params, written_member, written_exp, written_initial, written_stmt, written_block, written_var, written_keyset, written_target, written_case, written_transition, written_state, written_parser, written_instance, written_object, written_action, written_action_name, written_key, written_property, written_table, written_local, written_control, written_bit_field, written_header, written_struct_field, written_struct}
use Rattle.p416_decl_writer.specs.Tokens.{are_spelt}

-- a name is an identifier
pub name_put : (text : List ℕ) → is_name16 text ≡ true → is_identifier16 text ≡ true
name_put text h = (and_parts (is_identifier16 text) _ h).0

-- in front of others, and behind others
front : (xs ys : List Seen16) → are_spelt (xs ++ ys) ≡ true → are_spelt xs ≡ true
front xs ys h = (and_parts (are_spelt xs) (are_spelt ys) (sym (list_all-append is_spelt_seen xs ys) ∙ h)).0

behind : (xs ys : List Seen16) → are_spelt (xs ++ ys) ≡ true → are_spelt ys ≡ true
behind xs ys h = (and_parts (are_spelt xs) (are_spelt ys) (sym (list_all-append is_spelt_seen xs ys) ∙ h)).1

first : (x : Seen16) (xs : List Seen16) → are_spelt (x ∷ xs) ≡ true → is_spelt_seen x ≡ true
first x xs h = (and_parts (is_spelt_seen x) (are_spelt xs) h).0

rest : (x : Seen16) (xs : List Seen16) → are_spelt (x ∷ xs) ≡ true → are_spelt xs ≡ true
rest x xs h = (and_parts (is_spelt_seen x) (are_spelt xs) h).1

-- behind others the last is a name
last_name : (xs : List Seen16) (text : List ℕ) → are_spelt (xs ++ id text ∷ []) ≡ true → is_name16 text ≡ true
last_name xs text h = first (id text) [] (behind xs (id text ∷ []) h)

-- fields
pub header_fields : (h : Header16) → are_spelt (written_header h) ≡ true → are_spelt (flat_map written_bit_field h.fields) ≡ true
header_fields h s = let fields = flat_map written_bit_field h.fields in front fields (brace_close ∷ []) (rest (id h.name) (in_braces fields) s)

pub struct_fields : (t : Struct16) → are_spelt (written_struct t) ≡ true → are_spelt (flat_map written_struct_field t.fields) ≡ true
struct_fields t s = let fields = flat_map written_struct_field t.fields in front fields (brace_close ∷ []) (rest (id t.name) (in_braces fields) s)

pub field_type : (f : StructField) → are_spelt (written_struct_field f) ≡ true → are_spelt (written_type f.of) ≡ true
field_type f s = front (written_type f.of) (id f.name ∷ semicolon ∷ []) (behind (written_notes f.notes) (written_type f.of ++ id f.name ∷ semicolon ∷ []) s)

pub field_name : (f : StructField) → are_spelt (written_struct_field f) ≡ true → is_name16 f.name ≡ true
field_name f s = first (id f.name) (semicolon ∷ []) (behind (written_type f.of) (id f.name ∷ semicolon ∷ []) (behind (written_notes f.notes) (written_type f.of ++ id f.name ∷ semicolon ∷ []) s))

-- parameters and variables
pub params_inside : (ps : List Param) → are_spelt (written_params ps) ≡ true → are_spelt (by_commas written_param ps) ≡ true
params_inside ps s = front (by_commas written_param ps) (paren_close ∷ []) s

pub param_name : (p : Param) → are_spelt (written_param p) ≡ true → is_name16 p.name ≡ true
param_name p s = last_name (written_type p.of) p.name (behind (written_option written_direction p.direction) (written_type p.of ++ id p.name ∷ []) s)

pub var_name : (v : Var) → are_spelt (written_var v) ≡ true → is_name16 v.name ≡ true
var_name v s = let more = written_option written_initial v.initial ++ semicolon ∷ [] in first (id v.name) more (behind (written_type v.of) (id v.name ∷ more) s)

pub var_initial : (v : Var) → are_spelt (written_var v) ≡ true → are_spelt (written_option written_initial v.initial) ≡ true
var_initial v s =
    let initial = written_option written_initial v.initial in
    front initial (semicolon ∷ []) (rest (id v.name) (initial ++ semicolon ∷ []) (behind (written_type v.of) (id v.name ∷ (initial ++ semicolon ∷ [])) s))

-- objects
pub sized_name : (size : Exp16) (m : Member) (text : List ℕ) → are_spelt (in_parens (written_exp size ++ comma ∷ written_member m) ++ id text ∷ []) ≡ true → is_name16 text ≡ true
sized_name size m text s = last_name ((written_exp size ++ comma ∷ written_member m) ++ paren_close ∷ []) text s

pub direct_name : (m : Member) (text : List ℕ) → are_spelt (quoted key.DirectCounter ∷ (in_parens (written_member m) ++ id text ∷ [])) ≡ true → is_name16 text ≡ true
direct_name m text s = last_name (written_member m ++ paren_close ∷ []) text s

pub register_name : (width : Literal16) (size : Exp16) (text : List ℕ) → are_spelt (quoted key.Register ∷ less ∷ (written_bit width ++ greater ∷ (in_parens (written_exp size) ++ id text ∷ []))) ≡ true → is_name16 text ≡ true
register_name width size text s =
    let behind_width = (written_exp size ++ paren_close ∷ []) ++ id text ∷ [] in
    last_name (written_exp size ++ paren_close ∷ []) text (rest (number width) behind_width s)

pub object_instance : (notes : List Note) (i : Instance) → are_spelt (written_object notes i) ≡ true → are_spelt (written_instance i) ≡ true
object_instance notes i s = front (written_instance i) (semicolon ∷ []) (behind (written_notes notes) (written_instance i ++ semicolon ∷ []) s)

-- states and parsers
pub pair_second : (a b : Exp16) (m : Mark16) → are_spelt (written_exp a ++ mark m ∷ written_exp b) ≡ true → are_spelt (written_exp b) ≡ true
pair_second a b m s = behind (written_exp a) (mark m ∷ written_exp b) s

pub case_target : (c : SelectCase) → are_spelt (written_case c) ≡ true → are_spelt (written_target c.target) ≡ true
case_target c s = front (written_target c.target) (semicolon ∷ []) (behind (written_keyset c.keyset) (colon ∷ (written_target c.target ++ semicolon ∷ [])) s)

pub select_cases : (es : List Exp16) (cs : List SelectCase) → are_spelt (quoted key.Select ∷ (in_parens (by_commas written_exp es) ++ in_braces (flat_map written_case cs))) ≡ true → are_spelt (flat_map written_case cs) ≡ true
select_cases es cs s = front (flat_map written_case cs) (brace_close ∷ []) (behind (by_commas written_exp es ++ paren_close ∷ []) (in_braces (flat_map written_case cs)) s)

pub select_keys : (es : List Exp16) (cs : List SelectCase) → are_spelt (quoted key.Select ∷ (in_parens (by_commas written_exp es) ++ in_braces (flat_map written_case cs))) ≡ true → are_spelt (by_commas written_exp es) ≡ true
select_keys es cs s = let keys = by_commas written_exp es in front keys (paren_close ∷ []) (front (keys ++ paren_close ∷ []) (in_braces (flat_map written_case cs)) s)

pub state_body : (t : State) → are_spelt (written_state t) ≡ true → are_spelt (written_stmt t.body) ≡ true
state_body t s =
    let inside = written_stmt t.body ++ written_transition t.transition in
    front (written_stmt t.body) (written_transition t.transition) (front inside (brace_close ∷ []) (rest (id t.name) (in_braces inside) s))

pub state_transition : (t : State) → are_spelt (written_state t) ≡ true → are_spelt (written_transition t.transition) ≡ true
state_transition t s =
    let inside = written_stmt t.body ++ written_transition t.transition in
    behind (written_stmt t.body) (written_transition t.transition) (front inside (brace_close ∷ []) (rest (id t.name) (in_braces inside) s))

pub parser_params : (p : Parser16) → are_spelt (written_parser p) ≡ true → are_spelt (written_params p.parameters) ≡ true
parser_params p s =
    let inside = in_braces (flat_map written_var p.vars ++ flat_map written_state p.states) in
    front (written_params p.parameters) inside (rest (id p.name) (written_params p.parameters ++ inside) s)

parser_inside : (p : Parser16) → are_spelt (written_parser p) ≡ true → are_spelt (flat_map written_var p.vars ++ flat_map written_state p.states) ≡ true
parser_inside p s =
    let inside = flat_map written_var p.vars ++ flat_map written_state p.states in
    front inside (brace_close ∷ []) (behind (written_params p.parameters) (in_braces inside) (rest (id p.name) (written_params p.parameters ++ in_braces inside) s))

pub parser_vars : (p : Parser16) → are_spelt (written_parser p) ≡ true → are_spelt (flat_map written_var p.vars) ≡ true
parser_vars p s = front (flat_map written_var p.vars) (flat_map written_state p.states) (parser_inside p s)

pub parser_states : (p : Parser16) → are_spelt (written_parser p) ≡ true → are_spelt (flat_map written_state p.states) ≡ true
parser_states p s = behind (flat_map written_var p.vars) (flat_map written_state p.states) (parser_inside p s)

-- actions, tables and controls
action_heading : (a : Action16) → are_spelt (written_action a) ≡ true → are_spelt (id a.name ∷ (written_params a.parameters ++ written_block a.body)) ≡ true
action_heading a s = behind (written_notes a.notes) (quoted key.Action ∷ id a.name ∷ (written_params a.parameters ++ written_block a.body)) s

pub action_called : (a : Action16) → are_spelt (written_action a) ≡ true → is_name16 a.name ≡ true
action_called a s = first (id a.name) (written_params a.parameters ++ written_block a.body) (action_heading a s)

pub action_params : (a : Action16) → are_spelt (written_action a) ≡ true → are_spelt (written_params a.parameters) ≡ true
action_params a s = front (written_params a.parameters) (written_block a.body) (rest (id a.name) (written_params a.parameters ++ written_block a.body) (action_heading a s))

pub action_body : (a : Action16) → are_spelt (written_action a) ≡ true → are_spelt (written_block a.body) ≡ true
action_body a s = behind (written_params a.parameters) (written_block a.body) (rest (id a.name) (written_params a.parameters ++ written_block a.body) (action_heading a s))

pub key_kind : (k : TableKey) → are_spelt (written_key k) ≡ true → is_name16 k.kind ≡ true
key_kind k s = let more = written_notes k.notes ++ semicolon ∷ [] in first (id k.kind) more (behind (written_exp k.exp) (colon ∷ id k.kind ∷ more) s)

pub key_notes : (k : TableKey) → are_spelt (written_key k) ≡ true → are_spelt (written_notes k.notes) ≡ true
key_notes k s =
    let more = written_notes k.notes ++ semicolon ∷ [] in
    front (written_notes k.notes) (semicolon ∷ []) (rest (id k.kind) more (behind (written_exp k.exp) (colon ∷ id k.kind ∷ more) s))

pub default_arguments : (a : ActionName) (given : Exp16) → are_spelt (written_property (property.DefaultAction a given)) ≡ true → are_spelt (written_exp given) ≡ true
default_arguments a given s =
    let inside = written_exp given ++ paren_close ∷ [] in
    front (written_exp given) (paren_close ∷ []) (front inside (semicolon ∷ []) (behind (written_action_name a) (in_parens (written_exp given) ++ semicolon ∷ []) s))

table_heading : (t : Table16) → are_spelt (written_table t) ≡ true → are_spelt (id t.name ∷ in_braces (flat_map written_property t.properties)) ≡ true
table_heading t s = behind (written_notes t.notes) (quoted key.Table ∷ id t.name ∷ in_braces (flat_map written_property t.properties)) s

pub table_called : (t : Table16) → are_spelt (written_table t) ≡ true → is_name16 t.name ≡ true
table_called t s = first (id t.name) (in_braces (flat_map written_property t.properties)) (table_heading t s)

pub table_properties : (t : Table16) → are_spelt (written_table t) ≡ true → are_spelt (flat_map written_property t.properties) ≡ true
table_properties t s =
    let inside = flat_map written_property t.properties in
    front inside (brace_close ∷ []) (rest (id t.name) (in_braces inside) (table_heading t s))

pub control_params : (c : Control16) → are_spelt (written_control c) ≡ true → are_spelt (written_params c.parameters) ≡ true
control_params c s =
    let inside = in_braces (flat_map written_local c.locals ++ quoted key.Apply ∷ written_block c.body) in
    front (written_params c.parameters) inside (rest (id c.name) (written_params c.parameters ++ inside) s)

control_inside : (c : Control16) → are_spelt (written_control c) ≡ true → are_spelt (flat_map written_local c.locals ++ quoted key.Apply ∷ written_block c.body) ≡ true
control_inside c s =
    let inside = flat_map written_local c.locals ++ quoted key.Apply ∷ written_block c.body in
    front inside (brace_close ∷ []) (behind (written_params c.parameters) (in_braces inside) (rest (id c.name) (written_params c.parameters ++ in_braces inside) s))

pub control_locals : (c : Control16) → are_spelt (written_control c) ≡ true → are_spelt (flat_map written_local c.locals) ≡ true
control_locals c s = front (flat_map written_local c.locals) (quoted key.Apply ∷ written_block c.body) (control_inside c s)

pub control_body : (c : Control16) → are_spelt (written_control c) ≡ true → are_spelt (written_block c.body) ≡ true
control_body c s = behind (flat_map written_local c.locals) (quoted key.Apply ∷ written_block c.body) (control_inside c s)
