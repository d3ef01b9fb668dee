-- Objects, actions, tables and what else a control declares: what is written so is read.
use Rattle.std.proofs.Common.{◌≡◌, ℕ, Bool, true, false, not, ◌&&◌, List, [], ◌∷◌, ◌++◌, map, refl, sym, ap, ◌∙◌, subst, append_assoc, append-nil}
use Rattle.std.specs.List.{flat_map, list_all}
use Rattle.predictive_parser.specs.declared.symbol.Symbol.TheVariants.{Put}
use Rattle.predictive_parser.specs.Values.{newest, extended}
use Rattle.p416_syntax.specs.declared.keyword.Keyword16.TheVariants as key
use Rattle.p416_syntax.specs.Keywords.{keyword_text16}
use Rattle.p416_syntax.specs.declared.parts.Note.{Note}
use Rattle.p416_syntax.specs.declared.parts.Note.TheVariants as note
use Rattle.p416_syntax.specs.declared.parts.Param.{Param}
use Rattle.p416_syntax.specs.declared.parts.Member.{Member}
use Rattle.p416_syntax.specs.declared.parts.Type16.{Type16}
use Rattle.p416_syntax.specs.declared.parts.Type16.TheVariants as kind
use Rattle.p416_syntax.specs.declared.parsers.Var.{Var}
use Rattle.p416_syntax.specs.declared.controls.Instance.{Instance}
use Rattle.p416_syntax.specs.declared.controls.Instance.TheVariants as instance
use Rattle.p416_syntax.specs.declared.controls.Action16.{Action16}
use Rattle.p416_syntax.specs.declared.controls.ActionName.{ActionName}
use Rattle.p416_syntax.specs.declared.controls.ActionName.TheVariants as action_name
use Rattle.p416_syntax.specs.declared.controls.TableKey.{TableKey}
use Rattle.p416_syntax.specs.declared.controls.Property.{Property}
use Rattle.p416_syntax.specs.declared.controls.Property.TheVariants as property
use Rattle.p416_syntax.specs.declared.controls.Table16.{Table16}
use Rattle.p416_syntax.specs.declared.controls.Local.{Local}
use Rattle.p416_syntax.specs.declared.controls.Local.TheVariants as local
use Rattle.p416_syntax.specs.Tree.{Exp16, Stmt16}
use Rattle.p416_syntax.specs.Tokens.{Seen16, id, quoted, number, colon, comma, semicolon, equals, less, greater, paren_open, paren_close, brace_open, brace_close, in_parens, in_braces}
use Rattle.p416_syntax.specs.Written.{written_option, by_commas, written_note, written_notes, written_type, written_param, written_params, written_member, written_exp, written_stmt, written_initial, written_instance, written_action_name, written_listed_action, written_key, property_word, written_property, written_local}
use Rattle.p416_syntax.specs.Parentheses.{bare_key, bare_property}
use Rattle.p416_syntax.specs.Conditions.{with_parentheses, is_among, all_different, is_note, is_named_once, are_notes, are_arguments, is_stmt, statements, is_var, is_instance, is_object, is_action, is_key, is_property, property_texts, are_properties, is_table, is_local}
use Rattle.p416_reader.specs.declared.symbols.Class.TheVariants as class
use Rattle.p416_reader.specs.declared.symbols.Action.TheVariants as action
use Rattle.p416_reader.specs.declared.symbols.PartAction.TheVariants as part_act
use Rattle.p416_reader.specs.declared.symbols.StateAction.TheVariants as state_act
use Rattle.p416_reader.specs.declared.symbols.ControlAction.TheVariants as control_act
use Rattle.p416_reader.specs.declared.symbols.BodyAction.TheVariants as act
use Rattle.p416_reader.specs.declared.symbols.Word.TheVariants as word
use Rattle.p416_reader.specs.declared.symbols.PartWord.TheVariants as part
use Rattle.p416_reader.specs.declared.symbols.BodyWord.TheVariants as body
use Rattle.p416_reader.specs.declared.symbols.StateWord.TheVariants as state
use Rattle.p416_reader.specs.declared.symbols.ControlWord.TheVariants as control
use Rattle.p416_reader.specs.declared.built.Built.{Built}
use Rattle.p416_reader.specs.internal.Classes.{with_name}
use Rattle.p416_reader.specs.internal.Actions.{cleared}
use Rattle.p416_reader.specs.internal.Rows as rows
use Rattle.p416_reader.specs.internal.Rows.{Sym, part_sym, body_sym, state_sym, control_sym}
use Rattle.p416_reader.proofs.Forms.{is_full}
use Rattle.p416_reader.proofs.Meaning.{after_word, after_all, add_name, add_key, add_property, add_local, table_words, needed_text}
use Rattle.p416_reader.proofs.Lists.{left_true, right_true, all_added}
use Rattle.p416_reader.proofs.Readings.{Goes, Calm, Reads, ReadsCalm, ◌▷◌, reads, does, from, giving, skips, first_of, extended_is, takes_row, is_new_text, next_words}
use Rattle.p416_reader.proofs.Complete.Parts.{never, same, reads_type, reads_params, reads_member, reads_notes, reads_first_note}
use Rattle.p416_reader.proofs.Complete.Expressions.{operators_sym, begins, like_operand}
use Rattle.p416_reader.proofs.Complete.Trees.{full_read, exp_read, all_read}
use Rattle.p416_reader.proofs.Complete.Statements.{stmts_sym, braced_read}
use Rattle.p416_reader.proofs.Complete.States.{reads_initial, var_tokens}

-- annotations behind those that are open

abbrev pub with_notes : List Note → Built → Built
with_notes ns b = record b { parts = record b.parts { notes = ns ∷ b.parts.notes } }

abbrev pub notes_sym : Sym
notes_sym = part_sym part.Notes

-- behind the first annotations
pub notes_behind : (before ns : List Note) → list_all is_note ns ≡ true → is_named_once (before ++ ns) ≡ true → (symbols : List Sym) (b : Built) (rest : List Seen16) → Calm (word.Part part.Notes) rest
    → Goes (notes_sym ∷ symbols) (with_notes before b) (written_notes ns ++ rest) symbols (with_notes (before ++ ns) b) rest
notes_behind before ns h k symbols b rest c =
    giving (ap (λ ls. record b { parts = record b.parts { notes = ls } }) (extended_is ns before b.parts.notes)) (reads_notes ns symbols (with_notes before b) rest h k c)

-- objects

sized_tokens : (we : List Seen16) (m : Member) (text : List ℕ) (rest : List Seen16)
    → (in_parens (we ++ comma ∷ written_member m) ++ id text ∷ []) ++ rest ≡ paren_open ∷ (we ++ comma ∷ (written_member m ++ paren_close ∷ id text ∷ rest))
sized_tokens we m text rest =
    ap (λ ts. paren_open ∷ ts)
    (append_assoc ((we ++ comma ∷ written_member m) ++ paren_close ∷ []) (id text ∷ []) rest
    ∙ append_assoc (we ++ comma ∷ written_member m) (paren_close ∷ []) (id text ∷ rest)
    ∙ append_assoc we (comma ∷ written_member m) (paren_close ∷ id text ∷ rest))

size_tokens : (we : List Seen16) (text : List ℕ) (rest : List Seen16) → (in_parens we ++ id text ∷ []) ++ rest ≡ paren_open ∷ (we ++ paren_close ∷ id text ∷ rest)
size_tokens we text rest = ap (λ ts. paren_open ∷ ts) (append_assoc (we ++ paren_close ∷ []) (id text ∷ []) rest ∙ append_assoc we (paren_close ∷ []) (id text ∷ rest))

pub reads_instance : (i : Instance) → is_instance with_parentheses i ≡ true → Reads (word.Control control.Instance) i (written_instance i)
reads_instance (instance.Counter e m text) h symbols b rest =
    from _ (ap (λ ts. quoted key.Counter ∷ ts) (sized_tokens (written_exp e) m text rest))
    (reads (quoted key.Counter ∷ paren_open ∷ []) refl ▷ exp_read e h _ b (comma ∷ (written_member m ++ paren_close ∷ id text ∷ rest)) refl ▷ does
    ▷ reads (comma ∷ []) refl ▷ reads_member m _ _ (paren_close ∷ id text ∷ rest) ▷ reads (paren_close ∷ id text ∷ []) refl ▷ does)
reads_instance (instance.DirectCounter m text) h symbols b rest =
    reads (quoted key.DirectCounter ∷ paren_open ∷ []) refl ▷ reads_member m _ b (paren_close ∷ id text ∷ rest) ▷ reads (paren_close ∷ id text ∷ []) refl ▷ does
reads_instance (instance.Register w e text) h symbols b rest =
    from _ (ap (λ ts. quoted key.Register ∷ less ∷ quoted key.Bit ∷ less ∷ number w ∷ greater ∷ greater ∷ ts) (size_tokens (written_exp e) text rest))
    (reads (quoted key.Register ∷ less ∷ quoted key.Bit ∷ less ∷ number w ∷ greater ∷ greater ∷ paren_open ∷ []) refl
    ▷ exp_read e h _ _ (paren_close ∷ id text ∷ rest) refl ▷ does ▷ reads (paren_close ∷ id text ∷ []) refl ▷ does)
reads_instance (instance.Meter e m text) h symbols b rest =
    from _ (ap (λ ts. quoted key.Meter ∷ ts) (sized_tokens (written_exp e) m text rest))
    (reads (quoted key.Meter ∷ paren_open ∷ []) refl ▷ exp_read e h _ b (comma ∷ (written_member m ++ paren_close ∷ id text ∷ rest)) refl ▷ does
    ▷ reads (comma ∷ []) refl ▷ reads_member m _ _ (paren_close ∷ id text ∷ rest) ▷ reads (paren_close ∷ id text ∷ []) refl ▷ does)

-- actions

action_tokens : (name : List ℕ) (ps : List Param) (ws rest : List Seen16)
    → (quoted key.Action ∷ id name ∷ (written_params ps ++ in_braces ws)) ++ rest ≡ quoted key.Action ∷ id name ∷ paren_open ∷ (by_commas written_param ps ++ paren_close ∷ brace_open ∷ (ws ++ brace_close ∷ rest))
action_tokens name ps ws rest =
    ap (λ ts. quoted key.Action ∷ id name ∷ paren_open ∷ ts)
    (append_assoc (by_commas written_param ps ++ paren_close ∷ []) (in_braces ws) rest
    ∙ append_assoc (by_commas written_param ps) (paren_close ∷ []) (in_braces ws ++ rest)
    ∙ ap (λ ts. by_commas written_param ps ++ paren_close ∷ brace_open ∷ ts) (append_assoc ws (brace_close ∷ []) rest))

abbrev with_params : List (List Param) → Built → Built
with_params ls b = record b { parts = record b.parts { params = ls } }

-- behind `action NAME (`
pub action_rest : (a : Action16) → is_stmt with_parentheses statements a.body ≡ true → (symbols : List Sym) (b : Built) (rest : List Seen16)
    → Goes (Put (action.Part part_act.NoParams) ∷ part_sym part.Params ∷ rows.paren_close ∷ rows.brace_open ∷ Put (action.Body act.NoStatements) ∷ stmts_sym ∷ rows.brace_close ∷ Put (action.State state_act.TakeBlock) ∷ symbols)
    (with_name a.name b) (by_commas written_param a.parameters ++ paren_close ∷ brace_open ∷ (written_stmt a.body ++ brace_close ∷ rest))
    symbols (after_word (word.Control control.ActionDecl) a b) rest
action_rest a h symbols b rest =
    does
    ▷ giving (ap (λ ls. with_params ls (with_name a.name b)) (extended_is a.parameters [] b.parts.params))
    (reads_params a.parameters _ (with_params ([] ∷ b.parts.params) (with_name a.name b)) (paren_close ∷ brace_open ∷ (written_stmt a.body ++ brace_close ∷ rest)) refl)
    ▷ reads (paren_close ∷ brace_open ∷ []) refl ▷ does
    ▷ braced_read a.body h _ (with_params (a.parameters ∷ b.parts.params) (with_name a.name b)) b.bodies.stmts rest ▷ does

-- names of actions

names_added : (as_ ys : List ActionName) (ls : List (List ActionName)) (b : Built)
    → after_all add_name as_ (record b { controls = record b.controls { action_lists = ys ∷ ls } }) ≡ record b { controls = record b.controls { action_lists = (ys ++ as_) ∷ ls } }
names_added [] ys ls b = ap (λ l. record b { controls = record b.controls { action_lists = l ∷ ls } }) (sym (append-nil ys))
names_added (a ∷ as_) ys ls b =
    names_added as_ (ys ++ a ∷ []) ls b ∙ ap (λ l. record b { controls = record b.controls { action_lists = l ∷ ls } }) (append_assoc ys (a ∷ []) as_)

pub reads_action_lines : (as_ : List ActionName) → ReadsCalm (word.Control control.ActionLines) as_ (flat_map written_listed_action as_)
reads_action_lines [] symbols b rest c = skips (word.Control control.ActionLines) symbols b rest refl refl c
reads_action_lines (action_name.Declared text ∷ as_) symbols b rest c = reads (id text ∷ semicolon ∷ []) refl ▷ does ▷ reads_action_lines as_ symbols _ rest c
reads_action_lines (action_name.NoAction ∷ as_) symbols b rest c = reads (quoted key.NoAction ∷ semicolon ∷ []) refl ▷ does ▷ reads_action_lines as_ symbols _ rest c

-- keys

abbrev are_keys : List TableKey → Bool
are_keys ks = list_all (is_key with_parentheses) ks

key_tokens : (k : TableKey) (rest : List Seen16) → written_key k ++ rest ≡ written_exp k.exp ++ colon ∷ id k.kind ∷ (written_notes k.notes ++ semicolon ∷ rest)
key_tokens k rest =
    append_assoc (written_exp k.exp) (colon ∷ id k.kind ∷ (written_notes k.notes ++ semicolon ∷ [])) rest
    ∙ ap (λ ts. written_exp k.exp ++ colon ∷ id k.kind ∷ ts) (append_assoc (written_notes k.notes) (semicolon ∷ []) rest)

pub reads_keys : (ks : List TableKey) → are_keys ks ≡ true → ReadsCalm (word.Control control.Keys) ks (flat_map written_key ks)
reads_keys [] h symbols b rest c = skips (word.Control control.Keys) symbols b rest refl refl c
reads_keys (k ∷ ks) h symbols b rest c =
    let hk = left_true (is_key with_parentheses k) (are_keys ks) h in
    let he = left_true (is_full k.exp) (are_notes k.notes) hk in
    let hn = right_true (is_full k.exp) (are_notes k.notes) hk in
    from _ (first_of written_key k ks rest ∙ key_tokens k (flat_map written_key ks ++ rest))
    (like_operand (word.Control control.Keys) []
    (operators_sym 0 11 ∷ Put (action.State state_act.TakeExp) ∷ rows.colon ∷ rows.a_name ∷ Put (action.Part part_act.NoNotes) ∷ notes_sym ∷ rows.semicolon ∷ Put (action.Control control_act.AddKey) ∷ control_sym control.Keys ∷ [])
    symbols b k.exp (colon ∷ id k.kind ∷ (written_notes k.notes ++ semicolon ∷ (flat_map written_key ks ++ rest))) (begins 0 k.exp he) refl (λ f. refl)
    ▷ full_read k.exp he _ b (colon ∷ id k.kind ∷ (written_notes k.notes ++ semicolon ∷ (flat_map written_key ks ++ rest))) refl
    ▷ does ▷ reads (colon ∷ id k.kind ∷ []) refl ▷ does
    ▷ notes_behind [] k.notes (left_true (list_all is_note k.notes) (is_named_once k.notes) hn) (right_true (list_all is_note k.notes) (is_named_once k.notes) hn) _ _ (semicolon ∷ (flat_map written_key ks ++ rest)) refl
    ▷ reads (semicolon ∷ []) refl ▷ does ▷ reads_keys ks (right_true (is_key with_parentheses k) (are_keys ks) h) symbols _ rest c)

-- properties: what stands behind the word of each

abbrev with_keys : Built → List (List TableKey) → Built
with_keys b ls = record (cleared b) { controls = record b.controls { keys = ls } }

keys_value : (ks : List TableKey) → are_keys ks ≡ true → (symbols : List Sym) (b : Built) (rest : List Seen16)
    → Goes (rows.assign ∷ rows.brace_open ∷ Put (action.Control control_act.NoKeys) ∷ control_sym control.Keys ∷ rows.brace_close ∷ Put (action.Control control_act.AddKeys) ∷ symbols) b
    (equals ∷ (in_braces (flat_map written_key ks) ++ rest)) symbols (add_property (property.Key ks) b) rest
keys_value ks h symbols b rest =
    from _ (ap (λ ts. equals ∷ brace_open ∷ ts) (append_assoc (flat_map written_key ks) (brace_close ∷ []) rest))
    (reads (equals ∷ brace_open ∷ []) refl ▷ does
    ▷ giving (all_added add_key bare_key (with_keys b) (λ x ls. refl) ks [] b.controls.keys) (reads_keys ks h _ (with_keys b ([] ∷ b.controls.keys)) (brace_close ∷ rest) refl)
    ▷ reads (brace_close ∷ []) refl ▷ does)

abbrev actions_symbols : List Sym
actions_symbols =
    rows.assign ∷ rows.brace_open ∷ Put (action.Control control_act.NoNames) ∷ control_sym control.ActionRef ∷ rows.semicolon ∷ Put (action.Control control_act.AddName) ∷ control_sym control.ActionLines ∷ rows.brace_close ∷ Put (action.Control control_act.AddActions) ∷ []

actions_value : (a : ActionName) (as_ : List ActionName) (symbols : List Sym) (b : Built) (rest : List Seen16)
    → Goes (actions_symbols ++ symbols) b (equals ∷ (in_braces (flat_map written_listed_action (a ∷ as_)) ++ rest)) symbols (add_property (property.Actions (a ∷ as_)) b) rest
actions_value (action_name.Declared text) as_ symbols b rest =
    from _ (ap (λ ts. equals ∷ brace_open ∷ id text ∷ semicolon ∷ ts) (append_assoc (flat_map written_listed_action as_) (brace_close ∷ []) rest))
    (reads (equals ∷ brace_open ∷ id text ∷ semicolon ∷ []) refl ▷ does
    ▷ giving (names_added as_ (action_name.Declared text ∷ []) b.controls.action_lists b)
    (reads_action_lines as_ _ (record b { controls = record b.controls { action_lists = (action_name.Declared text ∷ []) ∷ b.controls.action_lists } }) (brace_close ∷ rest) refl)
    ▷ reads (brace_close ∷ []) refl ▷ does)
actions_value action_name.NoAction as_ symbols b rest =
    from _ (ap (λ ts. equals ∷ brace_open ∷ quoted key.NoAction ∷ semicolon ∷ ts) (append_assoc (flat_map written_listed_action as_) (brace_close ∷ []) rest))
    (reads (equals ∷ brace_open ∷ quoted key.NoAction ∷ semicolon ∷ []) refl ▷ does
    ▷ giving (names_added as_ (action_name.NoAction ∷ []) b.controls.action_lists b)
    (reads_action_lines as_ _ (record b { controls = record b.controls { action_lists = (action_name.NoAction ∷ []) ∷ b.controls.action_lists } }) (brace_close ∷ rest) refl)
    ▷ reads (brace_close ∷ []) refl ▷ does)

arguments_tokens : (we rest : List Seen16) → (in_parens we ++ semicolon ∷ []) ++ rest ≡ paren_open ∷ (we ++ paren_close ∷ semicolon ∷ rest)
arguments_tokens we rest = ap (λ ts. paren_open ∷ ts) (append_assoc (we ++ paren_close ∷ []) (semicolon ∷ []) rest ∙ append_assoc we (paren_close ∷ []) (semicolon ∷ rest))

abbrev default_symbols : List Sym
default_symbols =
    rows.assign ∷ control_sym control.ActionRef ∷ rows.paren_open ∷ Put (action.Body act.NoArguments) ∷ body_sym body.Items ∷ rows.paren_close ∷ rows.semicolon ∷ Put (action.Control control_act.AddDefault) ∷ []

default_value : (a : ActionName) (xs : Exp16) → are_arguments with_parentheses xs ≡ true → (symbols : List Sym) (b : Built) (rest : List Seen16)
    → Goes (default_symbols ++ symbols) b (equals ∷ ((written_action_name a ++ (in_parens (written_exp xs) ++ semicolon ∷ [])) ++ rest)) symbols (add_property (property.DefaultAction a xs) b) rest
default_value (action_name.Declared text) xs h symbols b rest =
    from _ (ap (λ ts. equals ∷ id text ∷ ts) (arguments_tokens (written_exp xs) rest))
    (reads (equals ∷ id text ∷ paren_open ∷ []) refl ▷ does
    ▷ all_read false xs h _ (after_word (word.Control control.ActionRef) (action_name.Declared text) b) b.bodies.exps (paren_close ∷ semicolon ∷ rest) refl
    ▷ reads (paren_close ∷ semicolon ∷ []) refl ▷ does)
default_value action_name.NoAction xs h symbols b rest =
    from _ (ap (λ ts. equals ∷ quoted key.NoAction ∷ ts) (arguments_tokens (written_exp xs) rest))
    (reads (equals ∷ quoted key.NoAction ∷ paren_open ∷ []) refl ▷ does
    ▷ all_read false xs h _ (after_word (word.Control control.ActionRef) action_name.NoAction b) b.bodies.exps (paren_close ∷ semicolon ∷ rest) refl
    ▷ reads (paren_close ∷ semicolon ∷ []) refl ▷ does)

abbrev property_text : Property → List ℕ
property_text p = keyword_text16 (property_word p)

abbrev props_sym : Sym
props_sym = control_sym control.Properties

abbrev more_props_sym : Sym
more_props_sym = control_sym control.MoreProperties

-- a property behind `actions`
next_property : (p : Property) → is_property with_parentheses p ≡ true → (symbols : List Sym) (b : Built) (rest : List Seen16) → is_among (property_text p) (table_words b) ≡ false
    → Goes (more_props_sym ∷ symbols) b (written_property p ++ rest) (more_props_sym ∷ symbols) (add_property p b) rest
next_property (property.Key ks) h symbols b rest n =
    takes_row (word.Control control.MoreProperties) (class.NewProperty key.Key) _ _ symbols b (quoted key.Key) _ (ap not n) refl ▷ keys_value ks h (more_props_sym ∷ symbols) b rest
next_property (property.Actions []) h symbols b rest n = absurd (never h)
next_property (property.Actions (a ∷ as_)) h symbols b rest n =
    takes_row (word.Control control.MoreProperties) (class.NewProperty key.Actions) _ _ symbols b (quoted key.Actions) _ (ap not n) refl ▷ actions_value a as_ (more_props_sym ∷ symbols) b rest
next_property (property.Size m) h symbols b rest n =
    takes_row (word.Control control.MoreProperties) (class.NewProperty key.Size) _ _ symbols b (quoted key.Size) _ (ap not n) refl ▷ reads (equals ∷ number m ∷ semicolon ∷ []) refl ▷ does
next_property (property.Counters text) h symbols b rest n =
    takes_row (word.Control control.MoreProperties) (class.NewProperty key.Counters) _ _ symbols b (quoted key.Counters) _ (ap not n) refl ▷ reads (equals ∷ id text ∷ semicolon ∷ []) refl ▷ does
next_property (property.DefaultAction a xs) h symbols b rest n =
    takes_row (word.Control control.MoreProperties) (class.NewProperty key.DefaultAction) _ _ symbols b (quoted key.DefaultAction) _ (ap not n) refl ▷ default_value a xs h (more_props_sym ∷ symbols) b rest

same_text : (p : Property) → property_text (bare_property p) ≡ property_text p
same_text (property.Key ks) = refl
same_text (property.Actions names) = refl
same_text (property.Size m) = refl
same_text (property.Counters text) = refl
same_text (property.DefaultAction a xs) = refl

texts_next : (p : Property) (ps : List Property) (lists : List (List Property)) → all_different (map property_text (newest [] lists) ++ property_text p ∷ map property_text ps) ≡ true
    → all_different (map property_text (newest [] (extended (bare_property p ∷ []) lists)) ++ map property_text ps) ≡ true
texts_next p ps lists h =
    next_words property_text (bare_property p) ps lists (subst (λ t. all_different (map property_text (newest [] lists) ++ t ∷ map property_text ps) ≡ true) (sym (same_text p)) h)

abbrev are_each : List Property → Bool
are_each ps = list_all (is_property with_parentheses) ps

reads_more_properties : (ps : List Property) → are_each ps ≡ true → (symbols : List Sym) (b : Built) (rest : List Seen16) → all_different (table_words b ++ property_texts ps) ≡ true → Calm (word.Control control.MoreProperties) rest
    → Goes (more_props_sym ∷ symbols) b (flat_map written_property ps ++ rest) symbols (after_all add_property ps b) rest
reads_more_properties [] h symbols b rest d c = skips (word.Control control.MoreProperties) symbols b rest refl refl c
reads_more_properties (p ∷ ps) h symbols b rest d c =
    from _ (first_of written_property p ps rest)
    (next_property p (left_true (is_property with_parentheses p) (are_each ps) h) symbols b (flat_map written_property ps ++ rest) (is_new_text (table_words b) (property_text p) (property_texts ps) d)
    ▷ reads_more_properties ps (right_true (is_property with_parentheses p) (are_each ps) h) symbols (add_property p b) rest (texts_next p ps b.controls.properties d) c)

pub reads_properties : (ps : List Property) → are_each ps ≡ true → is_among needed_text (property_texts ps) ≡ true → (symbols : List Sym) (b : Built) (rest : List Seen16) → all_different (table_words b ++ property_texts ps) ≡ true → Calm (word.Control control.MoreProperties) rest
    → Goes (props_sym ∷ symbols) b (flat_map written_property ps ++ rest) symbols (after_all add_property ps b) rest
reads_properties [] h a symbols b rest d c = absurd (never a)
reads_properties (property.Actions [] ∷ ps) h a symbols b rest d c = absurd (never h)
reads_properties (property.Actions (x ∷ xs) ∷ ps) h a symbols b rest d c =
    from _ (first_of written_property (property.Actions (x ∷ xs)) ps rest)
    (reads (quoted key.Actions ∷ []) refl ▷ actions_value x xs (more_props_sym ∷ symbols) b (flat_map written_property ps ++ rest)
    ▷ reads_more_properties ps h symbols _ rest (texts_next (property.Actions (x ∷ xs)) ps b.controls.properties d) c)
reads_properties (property.Key ks ∷ ps) h a symbols b rest d c =
    from _ (first_of written_property (property.Key ks) ps rest)
    (takes_row (word.Control control.Properties) (class.NewProperty key.Key) _ _ symbols b (quoted key.Key) _ (ap not (is_new_text (table_words b) (keyword_text16 key.Key) (property_texts ps) d)) refl
    ▷ keys_value ks (left_true (are_keys ks) (are_each ps) h) (props_sym ∷ symbols) b (flat_map written_property ps ++ rest)
    ▷ reads_properties ps (right_true (are_keys ks) (are_each ps) h) a symbols _ rest (texts_next (property.Key ks) ps b.controls.properties d) c)
reads_properties (property.Size m ∷ ps) h a symbols b rest d c =
    takes_row (word.Control control.Properties) (class.NewProperty key.Size) _ _ symbols b (quoted key.Size) _ (ap not (is_new_text (table_words b) (keyword_text16 key.Size) (property_texts ps) d)) refl
    ▷ reads (equals ∷ number m ∷ semicolon ∷ []) refl ▷ does
    ▷ reads_properties ps h a symbols _ rest (texts_next (property.Size m) ps b.controls.properties d) c
reads_properties (property.Counters text ∷ ps) h a symbols b rest d c =
    takes_row (word.Control control.Properties) (class.NewProperty key.Counters) _ _ symbols b (quoted key.Counters) _ (ap not (is_new_text (table_words b) (keyword_text16 key.Counters) (property_texts ps) d)) refl
    ▷ reads (equals ∷ id text ∷ semicolon ∷ []) refl ▷ does
    ▷ reads_properties ps h a symbols _ rest (texts_next (property.Counters text) ps b.controls.properties d) c
reads_properties (property.DefaultAction x xs ∷ ps) h a symbols b rest d c =
    from _ (first_of written_property (property.DefaultAction x xs) ps rest)
    (takes_row (word.Control control.Properties) (class.NewProperty key.DefaultAction) _ _ symbols b (quoted key.DefaultAction) _ (ap not (is_new_text (table_words b) (keyword_text16 key.DefaultAction) (property_texts ps) d)) refl
    ▷ default_value x xs (left_true (are_arguments with_parentheses xs) (are_each ps) h) (props_sym ∷ symbols) b (flat_map written_property ps ++ rest)
    ▷ reads_properties ps (right_true (are_arguments with_parentheses xs) (are_each ps) h) a symbols _ rest (texts_next (property.DefaultAction x xs) ps b.controls.properties d) c)

-- tables

abbrev with_properties : Built → List (List Property) → Built
with_properties b ls = record (cleared b) { controls = record b.controls { properties = ls } }

-- behind `table NAME {`
table_rest : (t : Table16) → are_properties with_parentheses t.properties ≡ true → (symbols : List Sym) (b : Built) (rest : List Seen16)
    → Goes (Put (action.Control control_act.NoProperties) ∷ props_sym ∷ rows.brace_close ∷ symbols) (with_name t.name b) (flat_map written_property t.properties ++ brace_close ∷ rest) symbols (after_word (word.Control control.TableDecl) t b) rest
table_rest t h symbols b rest =
    let each = left_true (are_each t.properties) (all_different (property_texts t.properties) && is_among needed_text (property_texts t.properties)) h in
    let once = right_true (are_each t.properties) (all_different (property_texts t.properties) && is_among needed_text (property_texts t.properties)) h in
    does
    ▷ giving (all_added add_property bare_property (with_properties (with_name t.name b)) (λ x ls. refl) t.properties [] b.controls.properties)
    (reads_properties t.properties each (right_true (all_different (property_texts t.properties)) (is_among needed_text (property_texts t.properties)) once) _ (with_properties (with_name t.name b) ([] ∷ b.controls.properties)) (brace_close ∷ rest)
    (left_true (all_different (property_texts t.properties)) (is_among needed_text (property_texts t.properties)) once) refl)
    ▷ reads (brace_close ∷ []) refl

-- what a control declares, behind its annotations

abbrev locals_sym : Sym
locals_sym = control_sym control.Locals

abbrev noted_sym : Sym
noted_sym = control_sym control.Noted

instance_noted : (i : Instance) (symbols : List Sym) (b : Built) (rest : List Seen16)
    → Goes (noted_sym ∷ symbols) b (written_instance i ++ rest) (control_sym control.Instance ∷ rows.semicolon ∷ Put (action.Control control_act.AddObject) ∷ symbols) b (written_instance i ++ rest)
instance_noted (instance.Counter e m text) symbols b rest = same refl
instance_noted (instance.DirectCounter m text) symbols b rest = same refl
instance_noted (instance.Register w e text) symbols b rest = same refl
instance_noted (instance.Meter e m text) symbols b rest = same refl

instance_local : (i : Instance) (symbols : List Sym) (b : Built) (rest : List Seen16)
    → Goes (locals_sym ∷ symbols) b (written_instance i ++ rest) (control_sym control.Instance ∷ rows.semicolon ∷ Put (action.Part part_act.NoNotes) ∷ Put (action.Control control_act.AddObject) ∷ locals_sym ∷ symbols) b (written_instance i ++ rest)
instance_local (instance.Counter e m text) symbols b rest = same refl
instance_local (instance.DirectCounter m text) symbols b rest = same refl
instance_local (instance.Register w e text) symbols b rest = same refl
instance_local (instance.Meter e m text) symbols b rest = same refl

abbrev LocalReads : Local → Type 0
LocalReads l = (symbols : List Sym) (b : Built) (rest : List Seen16) → Goes (locals_sym ∷ symbols) b (written_local l ++ rest) (locals_sym ∷ symbols) (add_local l b) rest

note_begun : (n : Note) (symbols : List Sym) (b : Built) (rest : List Seen16)
    → Goes (locals_sym ∷ symbols) b (written_note n ++ rest) (part_sym part.FirstNote ∷ notes_sym ∷ noted_sym ∷ locals_sym ∷ symbols) b (written_note n ++ rest)
note_begun (note.Name text) symbols b rest = same refl
note_begun (note.FieldList lists) symbols b rest = same refl

-- annotations in front of what is declared
notes_begun : (n : Note) (ns : List Note) → are_notes (n ∷ ns) ≡ true → (symbols : List Sym) (b : Built) (rest : List Seen16) → Calm (word.Part part.Notes) rest
    → Goes (locals_sym ∷ symbols) b (written_notes (n ∷ ns) ++ rest) (noted_sym ∷ locals_sym ∷ symbols) (with_notes (n ∷ ns) b) rest
notes_begun n ns h symbols b rest c =
    let each = left_true (list_all is_note (n ∷ ns)) (is_named_once (n ∷ ns)) h in
    from _ (first_of written_note n ns rest)
    (note_begun n symbols b (written_notes ns ++ rest)
    ▷ reads_first_note n (left_true (is_note n) (list_all is_note ns) each) _ b (written_notes ns ++ rest)
    ▷ notes_behind (n ∷ []) ns (right_true (is_note n) (list_all is_note ns) each) (right_true (list_all is_note (n ∷ ns)) (is_named_once (n ∷ ns)) h) _ b rest c)

calm_instance : (i : Instance) (rest : List Seen16) → Calm (word.Part part.Notes) (written_instance i ++ rest)
calm_instance (instance.Counter e m text) rest = refl
calm_instance (instance.DirectCounter m text) rest = refl
calm_instance (instance.Register w e text) rest = refl
calm_instance (instance.Meter e m text) rest = refl

object_read : (notes : List Note) (i : Instance) → is_object with_parentheses notes i ≡ true → LocalReads (local.Instance notes i)
object_read [] i h symbols b rest =
    from _ (append_assoc (written_instance i) (semicolon ∷ []) rest)
    (instance_local i symbols b (semicolon ∷ rest) ▷ reads_instance i h _ b (semicolon ∷ rest) ▷ reads (semicolon ∷ []) refl ▷ does ▷ does)
object_read (n ∷ ns) i h symbols b rest =
    from _ (append_assoc (written_notes (n ∷ ns)) (written_instance i ++ semicolon ∷ []) rest ∙ ap (λ ts. written_notes (n ∷ ns) ++ ts) (append_assoc (written_instance i) (semicolon ∷ []) rest))
    (notes_begun n ns (left_true (are_notes (n ∷ ns)) (is_instance with_parentheses i) h) symbols b (written_instance i ++ semicolon ∷ rest) (calm_instance i (semicolon ∷ rest))
    ▷ instance_noted i (locals_sym ∷ symbols) (with_notes (n ∷ ns) b) (semicolon ∷ rest)
    ▷ reads_instance i (right_true (are_notes (n ∷ ns)) (is_instance with_parentheses i) h) _ (with_notes (n ∷ ns) b) (semicolon ∷ rest) ▷ reads (semicolon ∷ []) refl ▷ does)

action_read : (notes : List Note) (name : List ℕ) (ps : List Param) (s : Stmt16)
    → is_action with_parentheses (record { notes = notes; name = name; parameters = ps; body = s }) ≡ true → LocalReads (local.Action (record { notes = notes; name = name; parameters = ps; body = s }))
action_read [] name ps s h symbols b rest =
    from _ (action_tokens name ps (written_stmt s) rest)
    (reads (quoted key.Action ∷ id name ∷ paren_open ∷ []) refl ▷ action_rest (record { notes = []; name = name; parameters = ps; body = s }) h _ b rest ▷ does ▷ does)
action_read (n ∷ ns) name ps s h symbols b rest =
    from _ (append_assoc (written_notes (n ∷ ns)) (quoted key.Action ∷ id name ∷ (written_params ps ++ in_braces (written_stmt s))) rest ∙ ap (λ ts. written_notes (n ∷ ns) ++ ts) (action_tokens name ps (written_stmt s) rest))
    (notes_begun n ns (left_true (are_notes (n ∷ ns)) (is_stmt with_parentheses statements s) h) symbols b _ refl
    ▷ reads (quoted key.Action ∷ id name ∷ paren_open ∷ []) refl
    ▷ action_rest (record { notes = []; name = name; parameters = ps; body = s }) (right_true (are_notes (n ∷ ns)) (is_stmt with_parentheses statements s) h) _ (with_notes (n ∷ ns) b) rest ▷ does)

table_tokens : (name : List ℕ) (ps : List Property) (rest : List Seen16)
    → (quoted key.Table ∷ id name ∷ in_braces (flat_map written_property ps)) ++ rest ≡ quoted key.Table ∷ id name ∷ brace_open ∷ (flat_map written_property ps ++ brace_close ∷ rest)
table_tokens name ps rest = ap (λ ts. quoted key.Table ∷ id name ∷ brace_open ∷ ts) (append_assoc (flat_map written_property ps) (brace_close ∷ []) rest)

table_read : (notes : List Note) (name : List ℕ) (ps : List Property) → is_table with_parentheses (record { notes = notes; name = name; properties = ps }) ≡ true → LocalReads (local.Table (record { notes = notes; name = name; properties = ps }))
table_read [] name ps h symbols b rest =
    from _ (table_tokens name ps rest)
    (reads (quoted key.Table ∷ id name ∷ brace_open ∷ []) refl ▷ table_rest (record { notes = []; name = name; properties = ps }) h _ b rest ▷ does ▷ does)
table_read (n ∷ ns) name ps h symbols b rest =
    from _ (append_assoc (written_notes (n ∷ ns)) (quoted key.Table ∷ id name ∷ in_braces (flat_map written_property ps)) rest ∙ ap (λ ts. written_notes (n ∷ ns) ++ ts) (table_tokens name ps rest))
    (notes_begun n ns (left_true (are_notes (n ∷ ns)) (are_properties with_parentheses ps) h) symbols b _ refl
    ▷ reads (quoted key.Table ∷ id name ∷ brace_open ∷ []) refl
    ▷ table_rest (record { notes = []; name = name; properties = ps }) (right_true (are_notes (n ∷ ns)) (are_properties with_parentheses ps) h) _ (with_notes (n ∷ ns) b) rest ▷ does)

var_begun : (t : Type16) (symbols : List Sym) (b : Built) (ts : List Seen16)
    → Goes (locals_sym ∷ symbols) b (written_type t ++ ts) (part_sym part.TypeOf ∷ rows.a_name ∷ state_sym state.InitialOption ∷ rows.semicolon ∷ Put (action.Control control_act.AddVar) ∷ locals_sym ∷ symbols) b (written_type t ++ ts)
var_begun (kind.Bit w) symbols b ts = same refl
var_begun kind.Bool symbols b ts = same refl
var_begun (kind.Named text size) symbols b ts = same refl

var_read : (v : Var) → is_var with_parentheses v ≡ true → LocalReads (local.Var v)
var_read v h symbols b rest =
    from _ (var_tokens v rest)
    (var_begun v.of symbols b (id v.name ∷ (written_option written_initial v.initial ++ semicolon ∷ rest))
    ▷ reads_type v.of _ b (id v.name ∷ (written_option written_initial v.initial ++ semicolon ∷ rest)) refl
    ▷ reads (id v.name ∷ []) refl
    ▷ reads_initial v.initial h _ _ (semicolon ∷ rest) refl
    ▷ reads (semicolon ∷ []) refl ▷ does)

local_read : (l : Local) → is_local with_parentheses l ≡ true → LocalReads l
local_read (local.Instance notes i) h = object_read notes i h
local_read (local.Var v) h = var_read v h
local_read (local.Action a) h = action_read a.notes a.name a.parameters a.body h
local_read (local.Table t) h = table_read t.notes t.name t.properties h

abbrev are_locals : List Local → Bool
are_locals ls = list_all (is_local with_parentheses) ls

pub reads_locals : (ls : List Local) → are_locals ls ≡ true → ReadsCalm (word.Control control.Locals) ls (flat_map written_local ls)
reads_locals [] h symbols b rest c = skips (word.Control control.Locals) symbols b rest refl refl c
reads_locals (l ∷ ls) h symbols b rest c =
    from _ (first_of written_local l ls rest)
    (local_read l (left_true (is_local with_parentheses l) (are_locals ls) h) symbols b (flat_map written_local ls ++ rest)
    ▷ reads_locals ls (right_true (is_local with_parentheses l) (are_locals ls) h) symbols (add_local l b) rest c)
