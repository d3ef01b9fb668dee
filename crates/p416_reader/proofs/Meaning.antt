-- What each word of the grammar stands for: a part of the syntax, with its parentheses, the tokens that it is spelled with,
-- and what is built behind it, without parentheses.
use Rattle.std.proofs.Common.{◌≡◌, ℕ, Bool, true, false, List, [], ◌∷◌, ◌++◌, map, Option, Some, None}
use Rattle.std.specs.List.{flat_map, list_all}
use Rattle.std.specs.Option.{option_map}
use Rattle.predictive_parser.proofs.Meanings.{Meaning}
use Rattle.predictive_parser.specs.Values.{newest, older, extended}
use Rattle.p416_syntax.specs.declared.keyword.Keyword16.TheVariants as key
use Rattle.p416_syntax.specs.declared.lexeme.Literal16.{Literal16}
use Rattle.p416_syntax.specs.Keywords.{keyword_text16}
use Rattle.p416_syntax.specs.declared.parts.Note.{Note}
use Rattle.p416_syntax.specs.declared.parts.Type16.{Type16}
use Rattle.p416_syntax.specs.declared.parts.Param.{Param}
use Rattle.p416_syntax.specs.declared.parts.Member.{Member}
use Rattle.p416_syntax.specs.declared.parts.Member.TheVariants as member_of
use Rattle.p416_syntax.specs.declared.parts.HashAlgorithm.{HashAlgorithm}
use Rattle.p416_syntax.specs.declared.parts.CounterType.{CounterType}
use Rattle.p416_syntax.specs.declared.parts.MeterType.{MeterType}
use Rattle.p416_syntax.specs.declared.parts.CloneType.{CloneType}
use Rattle.p416_syntax.specs.declared.parts.BitField.{BitField}
use Rattle.p416_syntax.specs.declared.parts.StructField.{StructField}
use Rattle.p416_syntax.specs.declared.parsers.Var.{Var}
use Rattle.p416_syntax.specs.declared.parsers.Target.{Target}
use Rattle.p416_syntax.specs.declared.parsers.Simple.{Simple}
use Rattle.p416_syntax.specs.declared.parsers.Keyset.{Keyset}
use Rattle.p416_syntax.specs.declared.parsers.SelectCase.{SelectCase}
use Rattle.p416_syntax.specs.declared.parsers.Transition.{Transition}
use Rattle.p416_syntax.specs.declared.parsers.State.{State}
use Rattle.p416_syntax.specs.declared.controls.Instance.{Instance}
use Rattle.p416_syntax.specs.declared.controls.Action16.{Action16}
use Rattle.p416_syntax.specs.declared.controls.ActionName.{ActionName}
use Rattle.p416_syntax.specs.declared.controls.TableKey.{TableKey}
use Rattle.p416_syntax.specs.declared.controls.Property.{Property}
use Rattle.p416_syntax.specs.declared.controls.Table16.{Table16}
use Rattle.p416_syntax.specs.declared.controls.Local.{Local}
use Rattle.p416_syntax.specs.declared.controls.Local.TheVariants as local_of
use Rattle.p416_syntax.specs.declared.program.Decl16.{Decl16}
use Rattle.p416_syntax.specs.declared.program.Syntax16.{Syntax16}
use Rattle.p416_syntax.specs.Tree.{Exp16, binary, choice, argument, Stmt16, then, assign, expression, var, var_is, case_of, if_then, if_else}
use Rattle.p416_syntax.specs.Members.{hash_text, counter_text, meter_text, clone_text}
use Rattle.p416_syntax.specs.Tokens.{Seen16, id, quoted, number, lookahead_text, dot, paren_open, bracket_open, semicolon, equals}
use Rattle.p416_syntax.specs.Written.{written_option, after_commas, by_commas, written_number, written_note, written_notes, written_size, written_type, written_param, written_member, written_exp, written_stmt, written_initial, written_var, written_target, written_simple, written_keyset, written_case, written_transition, written_state, written_instance, written_action, written_action_name, written_listed_action, written_key, written_property, property_word, written_table, written_local, written_bit_field, written_struct_field, written_decl, written_block_name, written_main, written}
use Rattle.p416_syntax.specs.Parentheses.{bare_exp, bare_stmt, bare_var, bare_simple, bare_keyset, bare_case, bare_transition, bare_state, bare_instance, bare_key, bare_property, bare_local, bare_decl}
use Rattle.p416_syntax.specs.Conditions.{with_parentheses, is_among, all_different, is_option, is_note, is_named_once, is_call, is_stmt, ends_in_if, statement, statements, are_properties, is_var, is_simple, is_parenthesized, is_keyset, is_case, is_transition, is_state, is_instance, is_action, is_key, is_property, property_texts, is_table, is_local, is_struct_field, is_syntax}
use Rattle.p416_reader.specs.declared.symbols.Word.{Word}
use Rattle.p416_reader.specs.declared.symbols.Word.TheVariants as word
use Rattle.p416_reader.specs.declared.symbols.PartWord.{PartWord}
use Rattle.p416_reader.specs.declared.symbols.PartWord.TheVariants as part
use Rattle.p416_reader.specs.declared.symbols.BodyWord.{BodyWord}
use Rattle.p416_reader.specs.declared.symbols.BodyWord.TheVariants as body
use Rattle.p416_reader.specs.declared.symbols.StateWord.{StateWord}
use Rattle.p416_reader.specs.declared.symbols.StateWord.TheVariants as state
use Rattle.p416_reader.specs.declared.symbols.ControlWord.{ControlWord}
use Rattle.p416_reader.specs.declared.symbols.ControlWord.TheVariants as control
use Rattle.p416_reader.specs.declared.symbols.DeclWord.{DeclWord}
use Rattle.p416_reader.specs.declared.symbols.DeclWord.TheVariants as declare
use Rattle.p416_reader.specs.declared.built.Built.{Built}
use Rattle.p416_reader.specs.declared.parts.Parts.{Parts}
use Rattle.p416_reader.specs.internal.Classes.{is_type_like, last_exp}
use Rattle.p416_reader.specs.internal.Actions.{first_exp, first_stmt, last_name, last_literal, last_type, without_name, without_literal, without_type, cleared, with_exps, with_stmt, with_parts, with_property, with_local, with_instance, with_decl, type_of}
use Rattle.p416_reader.proofs.Forms.{is_full, is_of, is_argument, Suffix, written_suffix, is_suffix, with_suffix, bare_suffix, Tail, done, by, chosen, written_tail, is_tail, is_some_tail, stmts_of, CasePart, written_case_part, End, assigned, ended, NamedEnd, plain, declared, SimpleEnd, simple_with, written_end, is_simple_end, bare_end, ParenRest, written_rest, is_rest, keyset_behind, bare_rest, OpenRest, written_open, is_open_rest, keyset_open, bare_open}

-- these, done one after another
abbrev pub after_all : {A : Type 0} → (A → Built → Built) → List A → Built → Built
after_all put [] b = b
after_all put (x ∷ xs) b = after_all put xs (put x b)

-- the newest list, with these put behind it one by one
abbrev pub extended_by : {A : Type 0} → List A → List (List A) → List (List A)
extended_by [] lists = lists
extended_by (x ∷ xs) lists = extended_by xs (extended (x ∷ []) lists)

-- annotations, types, parameters and members

abbrev pub PartValue : PartWord → Type 0
PartValue part.TypeOf = Type16
PartValue part.SizeOption = Option Literal16
PartValue part.FirstNote = Note
PartValue part.Notes = List Note
PartValue part.MoreNumbers = List Literal16
PartValue part.Param = Param
PartValue part.Params = List Param
PartValue part.MoreParams = List Param
PartValue part.Member = Member
PartValue part.HashMember = HashAlgorithm
PartValue part.CounterMember = CounterType
PartValue part.MeterMember = MeterType
PartValue part.CloneMember = CloneType

abbrev pub newest_notes : Built → List Note
newest_notes b = newest [] b.parts.notes

abbrev pub PartSpells : (w : PartWord) → PartValue w → Built → List Seen16 → Type 0
PartSpells part.TypeOf t b us = us ≡ written_type t
PartSpells part.SizeOption n b us = us ≡ written_option written_size n
PartSpells part.FirstNote n b us = (us ≡ written_note n) × (is_note n ≡ true)
PartSpells part.Notes ns b us =
    (us ≡ written_notes ns) × (list_all is_note ns ≡ true) × (is_named_once (newest_notes b) ≡ true → is_named_once (newest_notes b ++ ns) ≡ true)
PartSpells part.MoreNumbers ns b us = us ≡ after_commas written_number ns
PartSpells part.Param p b us = us ≡ written_param p
PartSpells part.Params ps b us = us ≡ by_commas written_param ps
PartSpells part.MoreParams ps b us = us ≡ after_commas written_param ps
PartSpells part.Member m b us = us ≡ written_member m
PartSpells part.HashMember m b us = us ≡ id (hash_text m) ∷ []
PartSpells part.CounterMember m b us = us ≡ id (counter_text m) ∷ []
PartSpells part.MeterMember m b us = us ≡ id (meter_text m) ∷ []
PartSpells part.CloneMember m b us = us ≡ id (clone_text m) ∷ []

abbrev pub after_part : (w : PartWord) → PartValue w → Parts → Parts
after_part part.TypeOf t p = record p { types = t ∷ p.types }
after_part part.SizeOption n p = record p { literal_options = n ∷ p.literal_options }
after_part part.FirstNote n p = record p { notes = (n ∷ []) ∷ p.notes }
after_part part.Notes ns p = record p { notes = extended_by ns p.notes }
after_part part.MoreNumbers ns p = record p { literal_lists = extended_by ns p.literal_lists }
after_part part.Param q p = record p { params = extended (q ∷ []) p.params }
after_part part.Params qs p = record p { params = extended_by qs p.params }
after_part part.MoreParams qs p = record p { params = extended_by qs p.params }
after_part part.Member m p = record p { members = m ∷ p.members }
after_part part.HashMember m p = record p { members = member_of.HashAlgorithm m ∷ p.members }
after_part part.CounterMember m p = record p { members = member_of.CounterType m ∷ p.members }
after_part part.MeterMember m p = record p { members = member_of.MeterType m ∷ p.members }
after_part part.CloneMember m p = record p { members = member_of.CloneType m ∷ p.members }

-- expressions and statements

abbrev pub BodyValue : BodyWord → Type 0
BodyValue body.Exp = Exp16
BodyValue body.Operand = Exp16
BodyValue body.PlainOperand = Exp16
BodyValue body.AfterParen = Exp16
BodyValue body.SomePostfix = Suffix × List Suffix
BodyValue body.Postfix = List Suffix
BodyValue body.AfterDot = Suffix
BodyValue body.AfterLookahead = Suffix
BodyValue body.AfterNumber = Suffix
BodyValue body.Args = List Exp16
BodyValue body.Arg = Exp16
BodyValue body.MoreArgs = List Exp16
BodyValue body.Items = List Exp16
BodyValue body.MoreItems = List Exp16
BodyValue (body.Operators least most) = Tail
BodyValue body.SomeOperators = Tail
BodyValue body.PlainStmt = Stmt16
BodyValue body.Stmt = Stmt16
BodyValue body.Stmts = List Stmt16
BodyValue body.StmtEnd = End
BodyValue body.NamedEnd = NamedEnd
BodyValue body.VarEnd = Option Exp16
BodyValue body.ElseOption = Option Stmt16
BodyValue body.Cases = List CasePart

abbrev pub is_statement : Stmt16 → Bool
is_statement s = is_stmt with_parentheses statement s

abbrev pub are_statements : List Stmt16 → Bool
are_statements ss = list_all is_statement ss

abbrev pub is_case_part : CasePart → Bool
is_case_part c = are_statements c.inside

abbrev pub written_else : Stmt16 → List Seen16
written_else s = quoted key.Else ∷ written_stmt s

abbrev pub EndSpells : End → Built → List Seen16 → Type 0
EndSpells (assigned value) b us = (us ≡ equals ∷ (written_exp value ++ semicolon ∷ [])) × (is_full value ≡ true)
EndSpells ended b us = (us ≡ semicolon ∷ []) × (is_call (last_exp b) ≡ true)

abbrev pub VarEndSpells : Option Exp16 → List Seen16 → Type 0
VarEndSpells initial us = (us ≡ written_option written_initial initial ++ semicolon ∷ []) × (is_option is_full initial ≡ true)

abbrev pub NamedEndSpells : NamedEnd → Built → List Seen16 → Type 0
NamedEndSpells (plain end) b us = EndSpells end b us
NamedEndSpells (declared text initial) b us =
    (us ≡ id text ∷ (written_option written_initial initial ++ semicolon ∷ [])) × (is_option is_full initial ≡ true) × (is_type_like (last_exp b) ≡ true)

abbrev pub ElseSpells : Option Stmt16 → Built → List Seen16 → Type 0
ElseSpells None b us = us ≡ []
ElseSpells (Some s) b us = (us ≡ written_else s) × (is_statement s ≡ true) × (b.bodies.is_open ≡ false)

abbrev pub BodySpells : (w : BodyWord) → BodyValue w → Built → List Seen16 → Type 0
BodySpells body.Exp e b us = (us ≡ written_exp e) × (is_full e ≡ true)
BodySpells body.Operand e b us = (us ≡ written_exp e) × (is_of 11 e ≡ true)
BodySpells body.PlainOperand e b us = (us ≡ written_exp e) × (is_of 11 e ≡ true) × (is_parenthesized e ≡ false)
BodySpells body.AfterParen e b us = (paren_open ∷ us ≡ written_exp e) × (is_of 11 e ≡ true)
BodySpells body.SomePostfix ss b us = (us ≡ written_suffix ss.0 ++ flat_map written_suffix ss.1) × (is_suffix ss.0 ≡ true) × (list_all is_suffix ss.1 ≡ true)
BodySpells body.Postfix ss b us = (us ≡ flat_map written_suffix ss) × (list_all is_suffix ss ≡ true)
BodySpells body.AfterDot s b us = (dot ∷ us ≡ written_suffix s) × (is_suffix s ≡ true)
BodySpells body.AfterLookahead s b us = (dot ∷ id lookahead_text ∷ us ≡ written_suffix s) × (is_suffix s ≡ true)
BodySpells body.AfterNumber s b us = (bracket_open ∷ number (last_literal b.parts) ∷ us ≡ written_suffix s) × (is_suffix s ≡ true)
BodySpells body.Args es b us = (us ≡ by_commas written_exp es) × (list_all is_argument es ≡ true)
BodySpells body.Arg e b us = (us ≡ written_exp e) × (is_argument e ≡ true)
BodySpells body.MoreArgs es b us = (us ≡ after_commas written_exp es) × (list_all is_argument es ≡ true)
BodySpells body.Items es b us = (us ≡ by_commas written_exp es) × (list_all is_full es ≡ true)
BodySpells body.MoreItems es b us = (us ≡ after_commas written_exp es) × (list_all is_full es ≡ true)
BodySpells (body.Operators least most) t b us = (us ≡ written_tail t) × (is_tail least most t ≡ true)
BodySpells body.SomeOperators t b us = (us ≡ written_tail t) × (is_tail 0 11 t ≡ true) × (is_some_tail t ≡ true)
BodySpells body.PlainStmt s b us = (us ≡ written_stmt s) × (is_statement s ≡ true)
BodySpells body.Stmt s b us = (us ≡ written_stmt s) × (is_statement s ≡ true)
BodySpells body.Stmts ss b us = (us ≡ flat_map written_stmt ss) × (are_statements ss ≡ true)
BodySpells body.StmtEnd end b us = EndSpells end b us
BodySpells body.NamedEnd end b us = NamedEndSpells end b us
BodySpells body.VarEnd initial b us = VarEndSpells initial us
BodySpells body.ElseOption other b us = ElseSpells other b us
BodySpells body.Cases cs b us = (us ≡ flat_map written_case_part cs) × (list_all is_case_part cs ≡ true)

-- what is built: an expression, and what stands behind one

abbrev pub with_exp : Exp16 → Built → Built
with_exp e b = with_exps (bare_exp e ∷ b.bodies.exps) b

abbrev pub put_suffix : Suffix → Built → Built
put_suffix s b = with_exps (with_suffix (first_exp b.bodies.exps) (bare_suffix s) ∷ older b.bodies.exps) b

abbrev pub put_argument : Exp16 → Built → Built
put_argument e b = with_exps (argument (first_exp b.bodies.exps) (bare_exp e) ∷ older b.bodies.exps) b

-- the number that stands behind `[` is taken off
abbrev pub put_index : Suffix → Built → Built
put_index s b = put_suffix s (with_parts (without_literal b.parts) b)

abbrev pub put_tail : Tail → Built → Built
put_tail done b = b
put_tail (by operator right rest) b = put_tail rest (with_exps (binary operator (first_exp b.bodies.exps) (bare_exp right) ∷ older b.bodies.exps) b)
put_tail (chosen a c) b = with_exps (choice (first_exp b.bodies.exps) (bare_exp a) (bare_exp c) ∷ older b.bodies.exps) b

abbrev pub put_stmt : Stmt16 → Built → Built
put_stmt s b = with_stmt (ends_in_if (bare_stmt s)) b.bodies.exps (bare_stmt s ∷ b.bodies.stmts) b

abbrev pub add_stmt : Stmt16 → Built → Built
add_stmt s b = with_stmt (ends_in_if (bare_stmt s)) b.bodies.exps (then (first_stmt b.bodies.stmts) (bare_stmt s) ∷ older b.bodies.stmts) b

abbrev pub put_end : End → Built → Built
put_end (assigned value) b = with_stmt false (older b.bodies.exps) (assign (first_exp b.bodies.exps) (bare_exp value) ∷ b.bodies.stmts) b
put_end ended b = with_stmt false (older b.bodies.exps) (expression (first_exp b.bodies.exps) ∷ b.bodies.stmts) b

abbrev pub var_of : Type16 → List ℕ → Option Exp16 → Stmt16
var_of of text None = var of text
var_of of text (Some value) = var_is of text value

abbrev pub put_var_end : Option Exp16 → Built → Built
put_var_end initial b =
    with_stmt false b.bodies.exps (var_of (last_type b.parts) (last_name b.parts) (option_map bare_exp initial) ∷ b.bodies.stmts)
    (with_parts (without_type (without_name b.parts)) b)

abbrev pub put_named_end : NamedEnd → Built → Built
put_named_end (plain end) b = put_end end b
put_named_end (declared text initial) b =
    with_stmt false (older b.bodies.exps) (var_of (type_of (first_exp b.bodies.exps)) text (option_map bare_exp initial) ∷ b.bodies.stmts) b

abbrev pub put_else : Option Stmt16 → Built → Built
put_else None b = with_stmt true (older b.bodies.exps) (if_then (first_exp b.bodies.exps) (first_stmt b.bodies.stmts) ∷ older b.bodies.stmts) b
put_else (Some s) b =
    with_stmt (ends_in_if (bare_stmt s)) (older b.bodies.exps) (if_else (first_exp b.bodies.exps) (first_stmt b.bodies.stmts) (bare_stmt s) ∷ older b.bodies.stmts) b

abbrev pub put_case_part : CasePart → Built → Built
put_case_part c b = with_stmt false b.bodies.exps (case_of (first_stmt b.bodies.stmts) c.label (bare_stmt (stmts_of c.inside)) ∷ older b.bodies.stmts) b

abbrev pub after_body : (w : BodyWord) → BodyValue w → Built → Built
after_body body.Exp e b = with_exp e b
after_body body.Operand e b = with_exp e b
after_body body.PlainOperand e b = with_exp e b
after_body body.AfterParen e b = with_exp e b
after_body body.SomePostfix ss b = after_all put_suffix ss.1 (put_suffix ss.0 b)
after_body body.Postfix ss b = after_all put_suffix ss b
after_body body.AfterDot s b = put_suffix s b
after_body body.AfterLookahead s b = put_suffix s b
after_body body.AfterNumber s b = put_index s b
after_body body.Args es b = after_all put_argument es b
after_body body.Arg e b = put_argument e b
after_body body.MoreArgs es b = after_all put_argument es b
after_body body.Items es b = after_all put_argument es b
after_body body.MoreItems es b = after_all put_argument es b
after_body (body.Operators least most) t b = put_tail t b
after_body body.SomeOperators t b = put_tail t b
after_body body.PlainStmt s b = put_stmt s b
after_body body.Stmt s b = put_stmt s b
after_body body.Stmts ss b = after_all add_stmt ss b
after_body body.StmtEnd end b = put_end end b
after_body body.NamedEnd end b = put_named_end end b
after_body body.VarEnd initial b = put_var_end initial b
after_body body.ElseOption other b = put_else other b
after_body body.Cases cs b = after_all put_case_part cs b

-- parsers and their states

abbrev pub StateValue : StateWord → Type 0
StateValue state.Target = Target
StateValue state.Simple = Simple
StateValue state.SimpleEnd = SimpleEnd
StateValue state.MoreSimples = List Simple
StateValue state.SelectCases = List SelectCase
StateValue state.KeysetParen = Keyset
StateValue state.KeysetParenEnd = OpenRest
StateValue state.AfterKeysetParen = ParenRest
StateValue state.Transition = Transition
StateValue state.AfterTransition = Transition
StateValue state.MoreExps = List Exp16
StateValue state.Vars = List Var
StateValue state.InitialOption = Option Exp16
StateValue state.States = List State

abbrev pub StateSpells : (w : StateWord) → StateValue w → List Seen16 → Type 0
StateSpells state.Target t us = us ≡ written_target t
StateSpells state.Simple s us = (us ≡ written_simple s) × (is_simple with_parentheses s ≡ true)
StateSpells state.SimpleEnd end us = (us ≡ written_end end) × (is_simple_end end ≡ true)
StateSpells state.MoreSimples ss us = (us ≡ after_commas written_simple ss) × (list_all (is_simple with_parentheses) ss ≡ true)
StateSpells state.SelectCases cs us = (us ≡ flat_map written_case cs) × (list_all (is_case with_parentheses) cs ≡ true)
StateSpells state.KeysetParen k us = (paren_open ∷ us ≡ written_keyset k) × (is_keyset with_parentheses k ≡ true)
StateSpells state.KeysetParenEnd o us = (us ≡ written_open o) × (is_open_rest o ≡ true)
StateSpells state.AfterKeysetParen r us = (us ≡ written_rest r) × (is_rest r ≡ true)
StateSpells state.Transition t us = (us ≡ written_transition t) × (is_transition with_parentheses t ≡ true)
StateSpells state.AfterTransition t us = (quoted key.Transition ∷ us ≡ written_transition t) × (is_transition with_parentheses t ≡ true)
StateSpells state.MoreExps es us = (us ≡ after_commas written_exp es) × (list_all is_full es ≡ true)
StateSpells state.Vars vs us = (us ≡ flat_map written_var vs) × (list_all (is_var with_parentheses) vs ≡ true)
StateSpells state.InitialOption i us = (us ≡ written_option written_initial i) × (is_option is_full i ≡ true)
StateSpells state.States ss us = (us ≡ flat_map written_state ss) × (list_all (is_state with_parentheses) ss ≡ true)

abbrev pub put_simple : Simple → Built → Built
put_simple s b = record (cleared b) { states = record b.states { simples = bare_simple s ∷ b.states.simples } }

abbrev pub put_keyset : Keyset → Built → Built
put_keyset k b = record (cleared b) { states = record b.states { keysets = k ∷ b.states.keysets } }

abbrev pub add_simple : Simple → Built → Built
add_simple s b = record (cleared b) { states = record b.states { simple_lists = extended (bare_simple s ∷ []) b.states.simple_lists } }

abbrev pub add_case : SelectCase → Built → Built
add_case c b = record (cleared b) { states = record b.states { cases = extended (bare_case c ∷ []) b.states.cases } }

abbrev pub put_transition : Transition → Built → Built
put_transition t b = record (cleared b) { states = record b.states { transitions = bare_transition t ∷ b.states.transitions } }

abbrev pub add_exp : Exp16 → Built → Built
add_exp e b = record (cleared b) { states = record b.states { exp_lists = extended (bare_exp e ∷ []) b.states.exp_lists } }

abbrev pub add_var : Var → Built → Built
add_var v b = record (cleared b) { states = record b.states { vars = extended (bare_var v ∷ []) b.states.vars } }

abbrev pub add_state : State → Built → Built
add_state s b = record (cleared b) { states = record b.states { states = extended (bare_state s ∷ []) b.states.states } }

abbrev pub same_exp : Exp16 → Exp16
same_exp e = e

abbrev pub after_state : (w : StateWord) → StateValue w → Built → Built
after_state state.Target t b = record b { states = record b.states { targets = t ∷ b.states.targets } }
after_state state.Simple s b = put_simple s b
after_state state.SimpleEnd end b = record (cleared b) { states = record b.states { simples = simple_with (first_exp b.bodies.exps) (bare_end end) ∷ b.states.simples } }
after_state state.MoreSimples ss b = after_all add_simple ss b
after_state state.SelectCases cs b = after_all add_case cs b
after_state state.KeysetParen k b = put_keyset (bare_keyset k) b
after_state state.KeysetParenEnd o b = put_keyset (keyset_open same_exp (first_exp b.bodies.exps) (bare_open o)) b
after_state state.AfterKeysetParen r b = put_keyset (keyset_behind same_exp (first_exp b.bodies.exps) (bare_rest r)) b
after_state state.Transition t b = put_transition t b
after_state state.AfterTransition t b = put_transition t b
after_state state.MoreExps es b = after_all add_exp es b
after_state state.Vars vs b = after_all add_var vs b
after_state state.InitialOption i b = record (cleared b) { states = record b.states { exp_options = option_map bare_exp i ∷ b.states.exp_options } }
after_state state.States ss b = after_all add_state ss b

-- controls

abbrev pub ControlValue : ControlWord → Type 0
ControlValue control.Instance = Instance
ControlValue control.ActionDecl = Action16
ControlValue control.TableDecl = Table16
ControlValue control.Property = Property
ControlValue control.Properties = List Property
ControlValue control.MoreProperties = List Property
ControlValue control.ActionRef = ActionName
ControlValue control.ActionLines = List ActionName
ControlValue control.Keys = List TableKey
ControlValue control.Noted = Local
ControlValue control.Locals = List Local

-- the words of the properties that the table has so far
abbrev pub table_words : Built → List (List ℕ)
table_words b = property_texts (newest [] b.controls.properties)

abbrev pub needed_text : List ℕ
needed_text = keyword_text16 key.Actions

-- where no two of these words were the same, no two of these and those are
abbrev pub StayDifferent : List (List ℕ) → List (List ℕ) → Type 0
StayDifferent before words = all_different before ≡ true → all_different (before ++ words) ≡ true

-- what a control declares, without the annotations in front
abbrev pub bare_notes : Local → List Note
bare_notes (local_of.Instance notes i) = notes
bare_notes (local_of.Var v) = []
bare_notes (local_of.Action a) = a.notes
bare_notes (local_of.Table t) = t.notes

abbrev pub written_noted : Local → List Seen16
written_noted (local_of.Instance notes i) = written_instance i ++ semicolon ∷ []
written_noted (local_of.Var v) = []
written_noted (local_of.Action a) = written_action (record { notes = []; name = a.name; parameters = a.parameters; body = a.body })
written_noted (local_of.Table t) = written_table (record { notes = []; name = t.name; properties = t.properties })

abbrev pub is_noted : Local → Bool
is_noted (local_of.Instance notes i) = is_instance with_parentheses i
is_noted (local_of.Var v) = false
is_noted (local_of.Action a) = is_stmt with_parentheses statements a.body
is_noted (local_of.Table t) = are_properties with_parentheses t.properties

abbrev pub ControlSpells : (w : ControlWord) → ControlValue w → Built → List Seen16 → Type 0
ControlSpells control.Instance i b us = (us ≡ written_instance i) × (is_instance with_parentheses i ≡ true)
ControlSpells control.ActionDecl a b us = (us ≡ written_action a) × (a.notes ≡ []) × (is_action with_parentheses a ≡ true)
ControlSpells control.TableDecl t b us = (us ≡ written_table t) × (t.notes ≡ []) × (is_table with_parentheses t ≡ true)
ControlSpells control.Property p b us =
    (us ≡ written_property p) × (is_property with_parentheses p ≡ true) × (is_among needed_text (property_texts (p ∷ [])) ≡ false) × (is_among (keyword_text16 (property_word p)) (table_words b) ≡ false)
ControlSpells control.Properties ps b us =
    (us ≡ flat_map written_property ps) × (list_all (is_property with_parentheses) ps ≡ true) × (is_among needed_text (property_texts ps) ≡ true)
    × (is_among needed_text (table_words b) ≡ false → StayDifferent (table_words b) (property_texts ps))
ControlSpells control.MoreProperties ps b us =
    (us ≡ flat_map written_property ps) × (list_all (is_property with_parentheses) ps ≡ true) × StayDifferent (table_words b) (property_texts ps)
ControlSpells control.ActionRef a b us = us ≡ written_action_name a
ControlSpells control.ActionLines as_ b us = us ≡ flat_map written_listed_action as_
ControlSpells control.Keys ks b us = (us ≡ flat_map written_key ks) × (list_all (is_key with_parentheses) ks ≡ true)
ControlSpells control.Noted l b us = (us ≡ written_noted l) × (bare_notes l ≡ newest_notes b) × (is_noted l ≡ true)
ControlSpells control.Locals ls b us = (us ≡ flat_map written_local ls) × (list_all (is_local with_parentheses) ls ≡ true)

abbrev pub add_key : TableKey → Built → Built
add_key k b = record (cleared b) { controls = record b.controls { keys = extended (bare_key k ∷ []) b.controls.keys } }

abbrev pub add_name : ActionName → Built → Built
add_name a b = record b { controls = record b.controls { action_lists = extended (a ∷ []) b.controls.action_lists } }

abbrev pub add_property : Property → Built → Built
add_property p b = with_property (bare_property p) b

abbrev pub add_local : Local → Built → Built
add_local l b = with_local (bare_local l) b

abbrev pub after_control : (w : ControlWord) → ControlValue w → Built → Built
after_control control.Instance i b = with_instance (bare_instance i) b
after_control control.ActionDecl a b =
    record (cleared b) {
      parts = record b.parts { names = a.name ∷ b.parts.names; params = a.parameters ∷ b.parts.params };
      states = record b.states { blocks = bare_stmt a.body ∷ b.states.blocks };
    }
after_control control.TableDecl t b =
    record (cleared b) {
      parts = record b.parts { names = t.name ∷ b.parts.names };
      controls = record b.controls { properties = map bare_property t.properties ∷ b.controls.properties };
    }
after_control control.Property p b = add_property p b
after_control control.Properties ps b = after_all add_property ps b
after_control control.MoreProperties ps b = after_all add_property ps b
after_control control.ActionRef a b = record b { controls = record b.controls { action_names = a ∷ b.controls.action_names } }
after_control control.ActionLines as_ b = after_all add_name as_ b
after_control control.Keys ks b = after_all add_key ks b
after_control control.Noted l b = add_local l (record b { parts = record b.parts { notes = older b.parts.notes } })
after_control control.Locals ls b = after_all add_local ls b

-- declarations

-- declarations, and the names of the blocks in `main`
pub record Program : Type 0 where
  pub decls : List Decl16
  pub main : List (List ℕ)

abbrev pub DeclValue : DeclWord → Type 0
DeclValue declare.Program = Program
DeclValue declare.Decls = Program
DeclValue declare.BitFields = List BitField
DeclValue declare.Fields = List StructField
DeclValue declare.MoreBlocks = List (List ℕ)

abbrev pub syntax_of : Program → Syntax16
syntax_of p = record { decls = p.decls; main = p.main }

abbrev pub written_decls : Program → List Seen16
written_decls p = flat_map written_decl p.decls ++ written_main p.main

abbrev pub is_program : Program → Bool
is_program p = is_syntax with_parentheses (syntax_of p)

abbrev pub DeclSpells : (w : DeclWord) → DeclValue w → List Seen16 → Type 0
DeclSpells declare.Program p us = (us ≡ written (syntax_of p)) × (is_program p ≡ true)
DeclSpells declare.Decls p us = (us ≡ written_decls p) × (is_program p ≡ true)
DeclSpells declare.BitFields fs us = us ≡ flat_map written_bit_field fs
DeclSpells declare.Fields fs us = (us ≡ flat_map written_struct_field fs) × (list_all is_struct_field fs ≡ true)
DeclSpells declare.MoreBlocks names us = us ≡ after_commas written_block_name names

abbrev pub add_decl : Decl16 → Built → Built
add_decl d b = with_decl (bare_decl d) b

abbrev pub add_block : List ℕ → Built → Built
add_block text b = record b { decls = record b.decls { main = b.decls.main ++ text ∷ [] } }

abbrev pub after_decl : (w : DeclWord) → DeclValue w → Built → Built
after_decl declare.Program p b = after_all add_block p.main (after_all add_decl p.decls b)
after_decl declare.Decls p b = after_all add_block p.main (after_all add_decl p.decls b)
after_decl declare.BitFields fs b = record b { decls = record b.decls { bit_fields = extended_by fs b.decls.bit_fields } }
after_decl declare.Fields fs b = record b { decls = record b.decls { struct_fields = extended_by fs b.decls.struct_fields } }
after_decl declare.MoreBlocks names b = after_all add_block names b

-- the grammar

abbrev pub Value : Word → Type 0
Value (word.Part w) = PartValue w
Value (word.Body w) = BodyValue w
Value (word.State w) = StateValue w
Value (word.Control w) = ControlValue w
Value (word.Decl w) = DeclValue w

abbrev pub SpellsWord : (w : Word) → Value w → Built → List Seen16 → Type 0
SpellsWord (word.Part w) value b us = PartSpells w value b us
SpellsWord (word.Body w) value b us = BodySpells w value b us
SpellsWord (word.State w) value b us = StateSpells w value us
SpellsWord (word.Control w) value b us = ControlSpells w value b us
SpellsWord (word.Decl w) value b us = DeclSpells w value us

abbrev pub after_word : (w : Word) → Value w → Built → Built
after_word (word.Part w) value b = record b { parts = after_part w value b.parts }
after_word (word.Body w) value b = after_body w value b
after_word (word.State w) value b = after_state w value b
after_word (word.Control w) value b = after_control w value b
after_word (word.Decl w) value b = after_decl w value b

abbrev pub meaning16 : Meaning Word Seen16 Built
meaning16 = record { Value = Value; Spells = SpellsWord; after = after_word }
