-- A syntax whose names and numbers are as is asked is spelt.
use Rattle.std.proofs.Common.{◌≡◌, ℕ, suc, Bool, true, false, ◌&&◌, List, [], ◌∷◌, ◌++◌, flat_map, Option, Some, None, refl, sym, ap, ◌∙◌, subst}
use Rattle.std.specs.Prelude.{not}
use Rattle.std.specs.List.{list_all, AllByRecursion}
use Rattle.std.proofs.lemmas.List.Folds.{list_all-append}
use Rattle.p416_syntax.specs.declared.lexeme.Literal16.{Literal16}
use Rattle.p416_syntax.specs.declared.parts.Direction.{Direction}
use Rattle.p416_syntax.specs.declared.parts.Direction.TheVariants.{In, Out, InOut}
use Rattle.p416_syntax.specs.declared.node.UnaryOperator.{UnaryOperator}
use Rattle.p416_syntax.specs.declared.node.UnaryOperator.TheVariants.{Not, Complement, Negate}
use Rattle.p416_syntax.specs.declared.node.BinaryOperator.{BinaryOperator}
use Rattle.p416_syntax.specs.declared.node.BinaryOperator.TheVariants.{Multiply, Add, Subtract, SaturatingAdd, SaturatingSubtract, Concatenate, ShiftLeft, ShiftRight, BitAnd, BitXor, BitOr, Less, LessEqual, Greater, GreaterEqual, Equal, NotEqual, And, Or}
use Rattle.p416_syntax.specs.declared.parts.HashAlgorithm.TheVariants.{Csum16, Crc16, Crc32, Identity}
use Rattle.p416_syntax.specs.declared.parts.CounterType.TheVariants as counter_type
use Rattle.p416_syntax.specs.declared.parts.MeterType.TheVariants as meter_type
use Rattle.p416_syntax.specs.declared.parts.CloneType.TheVariants as clone_type
use Rattle.p416_syntax.specs.declared.parts.Member.{Member}
use Rattle.p416_syntax.specs.declared.parts.Member.TheVariants as member_of
use Rattle.p416_syntax.specs.declared.parts.Note.{Note}
use Rattle.p416_syntax.specs.declared.parts.Note.TheVariants as note
use Rattle.p416_syntax.specs.declared.parts.Type16.{Type16}
use Rattle.p416_syntax.specs.declared.parts.Type16.TheVariants as kind
use Rattle.p416_syntax.specs.declared.parts.Param.{Param}
use Rattle.p416_syntax.specs.declared.parts.BitField.{BitField}
use Rattle.p416_syntax.specs.declared.parts.StructField.{StructField}
use Rattle.p416_syntax.specs.declared.node.CaseLabel.{CaseLabel}
use Rattle.p416_syntax.specs.declared.node.CaseLabel.TheVariants as label
use Rattle.p416_syntax.specs.declared.parsers.Var.{Var}
use Rattle.p416_syntax.specs.declared.parsers.Target.{Target}
use Rattle.p416_syntax.specs.declared.parsers.Target.TheVariants as target
use Rattle.p416_syntax.specs.declared.parsers.Simple.{Simple}
use Rattle.p416_syntax.specs.declared.parsers.Simple.TheVariants as simple
use Rattle.p416_syntax.specs.declared.parsers.Keyset.{Keyset}
use Rattle.p416_syntax.specs.declared.parsers.Keyset.TheVariants as keyset
use Rattle.p416_syntax.specs.declared.parsers.SelectCase.{SelectCase}
use Rattle.p416_syntax.specs.declared.parsers.Transition.{Transition}
use Rattle.p416_syntax.specs.declared.parsers.Transition.TheVariants as transition
use Rattle.p416_syntax.specs.declared.parsers.State.{State}
use Rattle.p416_syntax.specs.declared.parsers.Parser16.{Parser16}
use Rattle.p416_syntax.specs.declared.controls.Instance.{Instance}
use Rattle.p416_syntax.specs.declared.controls.Instance.TheVariants as instance
use Rattle.p416_syntax.specs.declared.controls.Action16.{Action16}
use Rattle.p416_syntax.specs.declared.controls.ActionName.{ActionName}
use Rattle.p416_syntax.specs.declared.controls.ActionName.TheVariants as action_name
use Rattle.p416_syntax.specs.declared.controls.TableKey.{TableKey}
use Rattle.p416_syntax.specs.declared.controls.Property.{Property}
use Rattle.p416_syntax.specs.declared.controls.Property.TheVariants as property
use Rattle.p416_syntax.specs.declared.controls.Table16.{Table16}
use Rattle.p416_syntax.specs.declared.controls.Local.{Local}
use Rattle.p416_syntax.specs.declared.controls.Local.TheVariants as local
use Rattle.p416_syntax.specs.declared.controls.Control16.{Control16}
use Rattle.p416_syntax.specs.declared.program.Decl16.{Decl16}
use Rattle.p416_syntax.specs.declared.program.Decl16.TheVariants as decl
use Rattle.p416_syntax.specs.declared.program.Syntax16.{Syntax16}
use Rattle.p416_syntax.specs.declared.node.CastType.{CastType}
use Rattle.p416_syntax.specs.declared.node.CastType.TheVariants as cast_to
use Rattle.p416_syntax.specs.Tree.{Exp16, literal, truth, error, name, member, index, call, lookahead, cast, unary, binary, no_arguments, argument, listed, Stmt16, no_statements, then, block, var, assign, expression, if_then, if_else, switch, no_cases, case_of}
use Rattle.p416_syntax.specs.Tokens.{Seen16, id, string, greater, is_spelt_seen, seen_word, paren_close, brace_close, in_parens, in_braces, comma, semicolon}
use Rattle.p416_syntax.specs.Operators.{unary_token, binary_tokens, binary_power}
use Rattle.p416_syntax.specs.Written.{written_option, written_initial, after_commas, by_commas, written_number, written_block_name, written_note, written_notes, written_bit, written_type, written_direction, written_param, written_params, written_member, written_truth, written_cast, comma_behind, written_exp, written_label, written_run, written_stmt, written_var, written_target, written_simple, written_keyset, written_case, written_transition, written_state, written_parser, written_instance, written_object, written_action, written_action_name, written_listed_action, written_key, written_property, written_table, written_local, written_control, written_bit_field, written_struct_field, written_decl, written_main}
use Rattle.p416_syntax.specs.Conditions.{without_parentheses, ExpPlace, one as at_one, many as at_many, is_exp_at, StmtPlace, statements, statement, cases, is_stmt, is_note, are_notes, is_option, is_var, is_keyset, is_case, is_exp, is_transition, is_state, is_parser, is_instance, is_object, is_action, is_key, is_property, is_table, is_local, is_control, is_struct_field, is_decl}
use Rattle.p416_syntax.specs.Spelt.{is_spelt16}
use Rattle.p416_syntax.specs.Names.{Name}
use Rattle.lower_laws_rules.specs.Spelling.{SpeltNumber, SpeltName, SpeltType, SpeltCast, SpeltPlace, one, many, SpeltAt, SpeltExp, SpeltLabel, SpeltStmt, SpeltNote, SpeltNotes, SpeltParam, SpeltVar, SpeltTarget, SpeltSimple, SpeltKeyset, SpeltCase, SpeltTransition, SpeltState, SpeltParser, SpeltInstance, SpeltAction, SpeltActionName, SpeltKey, SpeltProperty, SpeltTable, SpeltLocal, SpeltControl, SpeltBitField, SpeltStructField, SpeltDecl, SpeltProgram}
use Rattle.lower_laws_rules.proofs.Lists.{both_true}

abbrev Tokens : List Seen16 → Type 0
Tokens ts = list_all is_spelt_seen ts ≡ true

-- a part keeps to the grammar, and is written with such tokens
pub record Good (grammar : Bool) (tokens : List Seen16) : Type 0 where
  pub keeps : grammar ≡ true
  pub spelt : Tokens tokens

behind : (xs ys : List Seen16) → Tokens xs → Tokens ys → Tokens (xs ++ ys)
behind xs ys a b = list_all-append is_spelt_seen xs ys ∙ both_true _ _ a b

in_marks : (xs : List Seen16) (y : Seen16) → Tokens xs → is_spelt_seen y ≡ true → Tokens (xs ++ y ∷ [])
in_marks xs y a b = behind xs (y ∷ []) a (both_true _ _ b refl)

parens : (xs : List Seen16) → Tokens xs → Tokens (in_parens xs)
parens xs a = in_marks xs paren_close a refl

braces : (xs : List Seen16) → Tokens xs → Tokens (in_braces xs)
braces xs a = in_marks xs brace_close a refl

each_flat : {X : Type 0} (f : X → List Seen16) (P : X → Type 0) → ((x : X) → P x → Tokens (f x)) → (xs : List X) → AllByRecursion P xs → Tokens (flat_map f xs)
each_flat f P each [] all = refl
each_flat f P each (x ∷ xs) all = behind (f x) (flat_map f xs) (each x all.0) (each_flat f P each xs all.1)

each_test : {X : Type 0} (test : X → Bool) (P : X → Type 0) → ((x : X) → P x → test x ≡ true) → (xs : List X) → AllByRecursion P xs → list_all test xs ≡ true
each_test test P each [] all = refl
each_test test P each (x ∷ xs) all = both_true _ _ (each x all.0) (each_test test P each xs all.1)

each_comma : {X : Type 0} (f : X → List Seen16) (P : X → Type 0) → ((x : X) → P x → Tokens (f x)) → (xs : List X) → AllByRecursion P xs → Tokens (by_commas f xs)
each_comma f P each [] all = refl
each_comma f P each (x ∷ xs) all = behind (f x) (after_commas f xs) (each x all.0) (each_flat (λ y. comma ∷ f y) P each xs all.1)

one_token : {b : Bool} → b ≡ true → b && true ≡ true
one_token is = both_true _ _ is refl

bit_spelt : (n : Literal16) → SpeltNumber n → Tokens (written_bit n)
bit_spelt n is = one_token is

type_spelt : (t : Type16) → SpeltType t → Tokens (written_type t)
type_spelt (kind.Bit n) is = one_token is
type_spelt kind.Bool is = refl
type_spelt (kind.Named text None) is = one_token is
type_spelt (kind.Named text (Some n)) is = both_true _ _ is.0 (one_token is.1)

-- expressions

unary_ok : (op : UnaryOperator) → is_spelt_seen (unary_token op) ≡ true
unary_ok Not = refl
unary_ok Complement = refl
unary_ok Negate = refl

binary_ok : (op : BinaryOperator) → Tokens (binary_tokens op)
binary_ok Multiply = refl
binary_ok Add = refl
binary_ok Subtract = refl
binary_ok SaturatingAdd = refl
binary_ok SaturatingSubtract = refl
binary_ok Concatenate = refl
binary_ok ShiftLeft = refl
binary_ok ShiftRight = refl
binary_ok BitAnd = refl
binary_ok BitXor = refl
binary_ok BitOr = refl
binary_ok Less = refl
binary_ok LessEqual = refl
binary_ok Greater = refl
binary_ok GreaterEqual = refl
binary_ok Equal = refl
binary_ok NotEqual = refl
binary_ok And = refl
binary_ok Or = refl

truth_ok : (b : Bool) → Tokens (written_truth b)
truth_ok true = refl
truth_ok false = refl

cast_ok : (t : CastType) → SpeltCast t → Tokens (written_cast t)
cast_ok (cast_to.Bit n) is = one_token is
cast_ok cast_to.Bool is = refl

comma_ok : (e : Exp16) → Tokens (comma_behind e)
comma_ok no_arguments = refl
comma_ok e = refl

abbrev place : ℕ → SpeltPlace → ExpPlace
place least (one b) = at_one least b
place least (many b) = at_many b

pub exp_spelt : (least : ℕ) (p : SpeltPlace) (e : Exp16) → SpeltAt p e → Good (is_exp_at without_parentheses (place least p) e) (written_exp e)
exp_spelt least (one b) (literal n) is = record { keeps = refl; spelt = one_token is }
exp_spelt least (one b) (truth value) is = record { keeps = refl; spelt = truth_ok value }
exp_spelt least (one b) error is = record { keeps = refl; spelt = refl }
exp_spelt least (one b) (name text) is = record { keeps = refl; spelt = one_token is }
exp_spelt least (one b) (member e word) is =
    let x = exp_spelt 12 (one false) e is.0 in
    record { keeps = x.keeps; spelt = behind (written_exp e) (_ ∷ seen_word word ∷ []) x.spelt (one_token is.1) }
exp_spelt least (one b) (index e at) is =
    let x = exp_spelt 12 (one false) e is.0 in
    record { keeps = x.keeps; spelt = behind (written_exp e) (_ ∷ _ ∷ _ ∷ []) x.spelt (one_token is.1) }
exp_spelt least (one b) (call e given) is =
    let x = exp_spelt 12 (one false) e is.0 in
    let y = exp_spelt 0 (many true) given is.1 in
    record { keeps = both_true _ _ x.keeps y.keeps; spelt = behind (written_exp e) (in_parens (written_exp given)) x.spelt (parens (written_exp given) y.spelt) }
exp_spelt least (one b) (lookahead e of given) is =
    let x = exp_spelt 12 (one false) e is.0 in
    let y = exp_spelt 0 (many true) given is.2 in
    record { keeps = both_true _ _ x.keeps y.keeps; spelt = behind (written_exp e) (_ ∷ _ ∷ _ ∷ (written_type of ++ _ ∷ in_parens (written_exp given))) x.spelt (behind (written_type of) (_ ∷ in_parens (written_exp given)) (type_spelt of is.1) (parens (written_exp given) y.spelt)) }
exp_spelt least (one b) (cast to e) is =
    let x = exp_spelt 11 (one false) e is.1 in
    record { keeps = x.keeps; spelt = behind (in_parens (written_cast to)) (written_exp e) (parens (written_cast to) (cast_ok to is.0)) x.spelt }
exp_spelt least (one b) (unary op e) is =
    let x = exp_spelt 11 (one false) e is in
    record { keeps = x.keeps; spelt = both_true _ _ (unary_ok op) x.spelt }
exp_spelt least (one b) (binary op e f) is =
    let x = exp_spelt (binary_power op) (one false) e is.0 in
    let y = exp_spelt (suc (binary_power op)) (one false) f is.1 in
    record { keeps = both_true _ _ x.keeps y.keeps; spelt = behind (written_exp e) (binary_tokens op ++ written_exp f) x.spelt (behind (binary_tokens op) (written_exp f) (binary_ok op) y.spelt) }
exp_spelt least (one b) (listed items) is =
    let x = exp_spelt 0 (many false) items is.1 in
    record { keeps = both_true _ _ is.0 x.keeps; spelt = braces (written_exp items) x.spelt }
exp_spelt least (many b) no_arguments is = record { keeps = refl; spelt = refl }
exp_spelt least (many b) (argument before last) is =
    let x = exp_spelt 0 (many b) before is.0 in
    let y = exp_spelt 0 (one b) last is.1 in
    record { keeps = both_true _ _ x.keeps y.keeps; spelt = behind (written_exp before) (comma_behind before ++ written_exp last) x.spelt (behind (comma_behind before) (written_exp last) (comma_ok before) y.spelt) }
exp_spelt least p e is = absurd is

whole_exp : (e : Exp16) → SpeltExp e → Good (is_exp without_parentheses e) (written_exp e)
whole_exp e is = exp_spelt 0 (one false) e is

-- statements

label_ok : (l : CaseLabel) → SpeltLabel l → Tokens (written_label l)
label_ok label.Default is = refl
label_ok (label.Action text) is = one_token is

pub stmt_spelt : (p : StmtPlace) (x : Stmt16) → SpeltStmt p x → Good (is_stmt without_parentheses p x) (written_stmt x)
stmt_spelt statements no_statements is = record { keeps = refl; spelt = refl }
stmt_spelt statements (then before last) is =
    let a = stmt_spelt statements before is.0 in
    let b = stmt_spelt statement last is.1 in
    record { keeps = both_true _ _ a.keeps b.keeps; spelt = behind (written_stmt before) (written_stmt last) a.spelt b.spelt }
stmt_spelt statement (block body) is = let a = stmt_spelt statements body is in record { keeps = a.keeps; spelt = braces (written_stmt body) a.spelt }
stmt_spelt statement (var of text) is = record { keeps = refl; spelt = behind (written_type of) (_ ∷ _ ∷ []) (type_spelt of is.0) (one_token is.1) }
stmt_spelt statement (assign e f) is =
    let a = whole_exp e is.0 in
    let b = whole_exp f is.1 in
    record { keeps = both_true _ _ a.keeps b.keeps; spelt = behind (written_exp e) (_ ∷ (written_exp f ++ _ ∷ [])) a.spelt (behind (written_exp f) (_ ∷ []) b.spelt refl) }
stmt_spelt statement (expression e) is = let a = whole_exp e is.0 in record { keeps = both_true _ _ a.keeps is.1; spelt = behind (written_exp e) (_ ∷ []) a.spelt refl }
stmt_spelt statement (if_then c x) is =
    let a = whole_exp c is.0 in
    let b = stmt_spelt statement x is.1 in
    record { keeps = both_true _ _ a.keeps b.keeps; spelt = behind (in_parens (written_exp c)) (written_stmt x) (parens (written_exp c) a.spelt) b.spelt }
stmt_spelt statement (if_else c x y) is =
    let a = whole_exp c is.0 in
    let b = stmt_spelt statement x is.1 in
    let d = stmt_spelt statement y is.3 in
    record { keeps = both_true _ _ a.keeps (both_true _ _ (both_true _ _ b.keeps (ap not is.2)) d.keeps); spelt = behind (in_parens (written_exp c)) (written_stmt x ++ _ ∷ written_stmt y) (parens (written_exp c) a.spelt) (behind (written_stmt x) (_ ∷ written_stmt y) b.spelt d.spelt) }
stmt_spelt statement (switch table cs) is =
    let a = stmt_spelt cases cs is.1 in
    record { keeps = a.keeps; spelt = behind (in_parens (written_run table)) (in_braces (written_stmt cs)) (parens (written_run table) (one_token is.0)) (braces (written_stmt cs) a.spelt) }
stmt_spelt cases no_cases is = record { keeps = refl; spelt = refl }
stmt_spelt cases (case_of before of body) is =
    let a = stmt_spelt cases before is.0 in
    let b = stmt_spelt statements body is.2 in
    record { keeps = both_true _ _ a.keeps b.keeps; spelt = behind (written_stmt before) (written_label of ++ _ ∷ in_braces (written_stmt body)) a.spelt (behind (written_label of) (_ ∷ in_braces (written_stmt body)) (label_ok of is.1) (braces (written_stmt body) b.spelt)) }
stmt_spelt p x is = absurd is

-- declarations

note_spelt : (x : Note) → SpeltNote x → Good (is_note x) (written_note x)
note_spelt (note.Name text) is = record { keeps = refl; spelt = parens (string text ∷ []) (one_token is) }
note_spelt (note.FieldList ns) is = record { keeps = is.0; spelt = parens (by_commas written_number ns) (each_comma written_number SpeltNumber (λ n x. one_token x) ns is.1) }

notes_spelt : (notes : List Note) → SpeltNotes notes → Good (are_notes notes) (written_notes notes)
notes_spelt notes is = record {
  keeps = both_true _ _ (each_test is_note SpeltNote (λ x a. (note_spelt x a).keeps) notes is.0) is.1;
  spelt = each_flat written_note SpeltNote (λ x a. (note_spelt x a).spelt) notes is.0;
}

direction_ok : (o : Option Direction) → Tokens (written_option written_direction o)
direction_ok None = refl
direction_ok (Some In) = refl
direction_ok (Some Out) = refl
direction_ok (Some InOut) = refl

param_spelt : (p : Param) → SpeltParam p → Tokens (written_param p)
param_spelt p is = behind (written_option written_direction p.direction) (written_type p.of ++ _ ∷ []) (direction_ok p.direction) (behind (written_type p.of) (_ ∷ []) (type_spelt p.of is.0) (one_token is.1))

params_spelt : (ps : List Param) → AllByRecursion SpeltParam ps → Tokens (written_params ps)
params_spelt ps all = parens (by_commas written_param ps) (each_comma written_param SpeltParam param_spelt ps all)

var_spelt : (v : Var) → SpeltVar v → Good (is_var without_parentheses v) (written_var v)
var_spelt v is = record {
  keeps = ap (is_option (is_exp without_parentheses)) is.2;
  spelt = behind (written_type v.of) (_ ∷ (written_option written_initial v.initial ++ _ ∷ [])) (type_spelt v.of is.0)
      (both_true _ _ is.1 (subst (λ o. Tokens (written_option written_initial o ++ semicolon ∷ [])) (sym is.2) refl));
}

target_spelt : (t : Target) → SpeltTarget t → Tokens (written_target t)
target_spelt (target.State text) is = one_token is
target_spelt target.Accept is = refl
target_spelt target.Reject is = refl

simple_spelt : (x : Simple) → SpeltSimple x → Good (is_keyset without_parentheses (keyset.One x)) (written_simple x)
simple_spelt simple.Default is = record { keeps = refl; spelt = refl }
simple_spelt (simple.Value (literal n)) is = record { keeps = refl; spelt = one_token is }
simple_spelt (simple.Mask e f) is =
    let a = whole_exp e is.0 in
    let b = whole_exp f is.1 in
    record { keeps = one_token (both_true _ _ a.keeps b.keeps); spelt = behind (written_exp e) (_ ∷ written_exp f) a.spelt b.spelt }
simple_spelt x is = absurd is

keyset_spelt : (k : Keyset) → SpeltKeyset k → Good (is_keyset without_parentheses k) (written_keyset k)
keyset_spelt (keyset.One x) is = simple_spelt x is
keyset_spelt (keyset.Tuple xs) is = absurd is

case_spelt : (x : SelectCase) → SpeltCase x → Good (is_case without_parentheses x) (written_case x)
case_spelt x is =
    let a = keyset_spelt x.keyset is.0 in
    record { keeps = a.keeps; spelt = behind (written_keyset x.keyset) (_ ∷ (written_target x.target ++ _ ∷ [])) a.spelt (behind (written_target x.target) (_ ∷ []) (target_spelt x.target is.1) refl) }

transition_spelt : (x : Transition) → SpeltTransition x → Good (is_transition without_parentheses x) (written_transition x)
transition_spelt (transition.Go t) is = record { keeps = refl; spelt = behind (written_target t) (_ ∷ []) (target_spelt t is) refl }
transition_spelt (transition.Select es cs) is = record {
  keeps = both_true _ _ (both_true _ _ is.0 (each_test (is_exp without_parentheses) SpeltExp (λ e a. (whole_exp e a).keeps) es is.1)) (each_test (is_case without_parentheses) SpeltCase (λ x a. (case_spelt x a).keeps) cs is.2);
  spelt = behind (in_parens (by_commas written_exp es)) (in_braces (flat_map written_case cs)) (parens (by_commas written_exp es) (each_comma written_exp SpeltExp (λ e a. (whole_exp e a).spelt) es is.1)) (braces (flat_map written_case cs) (each_flat written_case SpeltCase (λ x a. (case_spelt x a).spelt) cs is.2));
}

state_spelt : (x : State) → SpeltState x → Good (is_state without_parentheses x) (written_state x)
state_spelt x is =
    let a = stmt_spelt statements x.body is.1 in
    let b = transition_spelt x.transition is.2 in
    record { keeps = both_true _ _ a.keeps b.keeps; spelt = both_true _ _ is.0 (braces (written_stmt x.body ++ written_transition x.transition) (behind (written_stmt x.body) (written_transition x.transition) a.spelt b.spelt)) }

pub parser_spelt : (p : Parser16) → SpeltParser p → Good (is_parser without_parentheses p) (written_parser p)
parser_spelt p is = record {
  keeps = both_true _ _ is.1 (both_true _ _ (each_test (is_var without_parentheses) SpeltVar (λ v a. (var_spelt v a).keeps) p.vars is.3) (each_test (is_state without_parentheses) SpeltState (λ x a. (state_spelt x a).keeps) p.states is.4));
  spelt = both_true _ _ is.0 (behind (written_params p.parameters) (in_braces (flat_map written_var p.vars ++ flat_map written_state p.states)) (params_spelt p.parameters is.2)
      (braces (flat_map written_var p.vars ++ flat_map written_state p.states) (behind (flat_map written_var p.vars) (flat_map written_state p.states) (each_flat written_var SpeltVar (λ v a. (var_spelt v a).spelt) p.vars is.3) (each_flat written_state SpeltState (λ x a. (state_spelt x a).spelt) p.states is.4))));
}

member_ok : (m : Member) → Tokens (written_member m)
member_ok (member_of.HashAlgorithm Csum16) = refl
member_ok (member_of.HashAlgorithm Crc16) = refl
member_ok (member_of.HashAlgorithm Crc32) = refl
member_ok (member_of.HashAlgorithm Identity) = refl
member_ok (member_of.CounterType counter_type.Packets) = refl
member_ok (member_of.CounterType counter_type.Bytes) = refl
member_ok (member_of.CounterType counter_type.PacketsAndBytes) = refl
member_ok (member_of.MeterType meter_type.Packets) = refl
member_ok (member_of.MeterType meter_type.Bytes) = refl
member_ok (member_of.CloneType clone_type.I2E) = refl
member_ok (member_of.CloneType clone_type.E2E) = refl

instance_spelt : (i : Instance) → SpeltInstance i → Good (is_instance without_parentheses i) (written_instance i)
instance_spelt (instance.Counter size m text) is =
    let a = whole_exp size is.0 in
    record { keeps = a.keeps; spelt = behind (in_parens (written_exp size ++ _ ∷ written_member m)) (_ ∷ []) (parens (written_exp size ++ _ ∷ written_member m) (behind (written_exp size) (_ ∷ written_member m) a.spelt (member_ok m))) (one_token is.1) }
instance_spelt (instance.DirectCounter m text) is = record { keeps = refl; spelt = behind (in_parens (written_member m)) (id text ∷ []) (parens (written_member m) (member_ok m)) (one_token is) }
instance_spelt (instance.Register width size text) is =
    let a = whole_exp size is.1 in
    record { keeps = a.keeps; spelt = behind (written_bit width) (greater ∷ (in_parens (written_exp size) ++ id text ∷ [])) (bit_spelt width is.0) (behind (in_parens (written_exp size)) (id text ∷ []) (parens (written_exp size) a.spelt) (one_token is.2)) }
instance_spelt (instance.Meter size m text) is =
    let a = whole_exp size is.0 in
    record { keeps = a.keeps; spelt = behind (in_parens (written_exp size ++ _ ∷ written_member m)) (_ ∷ []) (parens (written_exp size ++ _ ∷ written_member m) (behind (written_exp size) (_ ∷ written_member m) a.spelt (member_ok m))) (one_token is.1) }

object_spelt : (notes : List Note) (i : Instance) → SpeltNotes notes → SpeltInstance i → Good (is_object without_parentheses notes i) (written_object notes i)
object_spelt notes i is it =
    let a = notes_spelt notes is in
    let b = instance_spelt i it in
    record { keeps = both_true _ _ a.keeps b.keeps; spelt = behind (written_notes notes) (written_instance i ++ _ ∷ []) a.spelt (behind (written_instance i) (_ ∷ []) b.spelt refl) }

action_spelt : (a : Action16) → SpeltAction a → Good (is_action without_parentheses a) (written_action a)
action_spelt a is =
    let x = notes_spelt a.notes is.0 in
    let y = stmt_spelt statements a.body is.3 in
    record { keeps = both_true _ _ x.keeps y.keeps; spelt = behind (written_notes a.notes) (_ ∷ _ ∷ (written_params a.parameters ++ in_braces (written_stmt a.body))) x.spelt (both_true _ _ is.1 (behind (written_params a.parameters) (in_braces (written_stmt a.body)) (params_spelt a.parameters is.2) (braces (written_stmt a.body) y.spelt))) }

action_name_spelt : (a : ActionName) → SpeltActionName a → Tokens (written_action_name a)
action_name_spelt (action_name.Declared text) is = one_token is
action_name_spelt action_name.NoAction is = refl

key_spelt : (k : TableKey) → SpeltKey k → Good (is_key without_parentheses k) (written_key k)
key_spelt k is =
    let x = whole_exp k.exp is.0 in
    let y = notes_spelt k.notes is.2 in
    record { keeps = both_true _ _ x.keeps y.keeps; spelt = behind (written_exp k.exp) (_ ∷ _ ∷ (written_notes k.notes ++ _ ∷ [])) x.spelt (both_true _ _ is.1 (behind (written_notes k.notes) (_ ∷ []) y.spelt refl)) }

property_spelt : (p : Property) → SpeltProperty p → Good (is_property without_parentheses p) (written_property p)
property_spelt (property.Key ks) is = record { keeps = each_test (is_key without_parentheses) SpeltKey (λ k a. (key_spelt k a).keeps) ks is; spelt = braces (flat_map written_key ks) (each_flat written_key SpeltKey (λ k a. (key_spelt k a).spelt) ks is) }
property_spelt (property.Actions names) is = record { keeps = is.0; spelt = braces (flat_map written_listed_action names) (each_flat written_listed_action SpeltActionName (λ a x. behind (written_action_name a) (_ ∷ []) (action_name_spelt a x) refl) names is.1) }
property_spelt (property.Size n) is = record { keeps = refl; spelt = one_token is }
property_spelt (property.Counters text) is = record { keeps = refl; spelt = one_token is }
property_spelt (property.DefaultAction a given) is =
    let x = exp_spelt 0 (many false) given is.1 in
    record { keeps = x.keeps; spelt = behind (written_action_name a) (in_parens (written_exp given) ++ _ ∷ []) (action_name_spelt a is.0) (behind (in_parens (written_exp given)) (_ ∷ []) (parens (written_exp given) x.spelt) refl) }

table_spelt : (t : Table16) → SpeltTable t → Good (is_table without_parentheses t) (written_table t)
table_spelt t is =
    let x = notes_spelt t.notes is.0 in
    record {
      keeps = both_true _ _ x.keeps (both_true _ _ (each_test (is_property without_parentheses) SpeltProperty (λ p a. (property_spelt p a).keeps) t.properties is.2) is.3);
      spelt = behind (written_notes t.notes) (_ ∷ _ ∷ in_braces (flat_map written_property t.properties)) x.spelt (both_true _ _ is.1 (braces (flat_map written_property t.properties) (each_flat written_property SpeltProperty (λ p a. (property_spelt p a).spelt) t.properties is.2)));
    }

local_spelt : (l : Local) → SpeltLocal l → Good (is_local without_parentheses l) (written_local l)
local_spelt (local.Instance notes i) is = object_spelt notes i is.0 is.1
local_spelt (local.Var v) is = var_spelt v is
local_spelt (local.Action a) is = action_spelt a is
local_spelt (local.Table t) is = table_spelt t is

pub control_spelt : (c : Control16) → SpeltControl c → Good (is_control without_parentheses c) (written_control c)
control_spelt c is =
    let x = stmt_spelt statements c.body is.4 in
    record {
      keeps = both_true _ _ is.1 (both_true _ _ (each_test (is_local without_parentheses) SpeltLocal (λ l a. (local_spelt l a).keeps) c.locals is.3) x.keeps);
      spelt = both_true _ _ is.0 (behind (written_params c.parameters) (in_braces (flat_map written_local c.locals ++ _ ∷ in_braces (written_stmt c.body))) (params_spelt c.parameters is.2)
          (braces (flat_map written_local c.locals ++ _ ∷ in_braces (written_stmt c.body)) (behind (flat_map written_local c.locals) (_ ∷ in_braces (written_stmt c.body)) (each_flat written_local SpeltLocal (λ l a. (local_spelt l a).spelt) c.locals is.3) (braces (written_stmt c.body) x.spelt))));
    }

bit_field_spelt : (f : BitField) → SpeltBitField f → Tokens (written_bit_field f)
bit_field_spelt f is = behind (written_bit f.width) (id f.name ∷ semicolon ∷ []) (bit_spelt f.width is.0) (one_token is.1)

struct_field_spelt : (f : StructField) → SpeltStructField f → Good (is_struct_field f) (written_struct_field f)
struct_field_spelt f is =
    let x = notes_spelt f.notes is.0 in
    record { keeps = x.keeps; spelt = behind (written_notes f.notes) (written_type f.of ++ _ ∷ _ ∷ []) x.spelt (behind (written_type f.of) (_ ∷ _ ∷ []) (type_spelt f.of is.1) (one_token is.2)) }

pub decl_spelt : (d : Decl16) → SpeltDecl d → Good (is_decl without_parentheses d) (written_decl d)
decl_spelt (decl.Header h) is = record { keeps = refl; spelt = both_true _ _ is.0 (braces (flat_map written_bit_field h.fields) (each_flat written_bit_field SpeltBitField bit_field_spelt h.fields is.1)) }
decl_spelt (decl.Struct x) is = record {
  keeps = each_test is_struct_field SpeltStructField (λ f a. (struct_field_spelt f a).keeps) x.fields is.1;
  spelt = both_true _ _ is.0 (braces (flat_map written_struct_field x.fields) (each_flat written_struct_field SpeltStructField (λ f a. (struct_field_spelt f a).spelt) x.fields is.1));
}
decl_spelt (decl.Instance notes i) is = object_spelt notes i is.0 is.1
decl_spelt (decl.Parser p) is = parser_spelt p is
decl_spelt (decl.Control c) is = control_spelt c is

main_spelt : (names : List Name) → AllByRecursion SpeltName names → Tokens (written_main names)
main_spelt names all = behind (in_parens (by_commas written_block_name names)) (_ ∷ _ ∷ []) (parens (by_commas written_block_name names) (each_comma written_block_name SpeltName (λ text x. one_token x) names all)) refl

pub program_spelt : (s : Syntax16) → SpeltProgram s → is_spelt16 s ≡ true
program_spelt s is =
    both_true _ _ (both_true _ _ (each_test (is_decl without_parentheses) SpeltDecl (λ d a. (decl_spelt d a).keeps) s.decls is.decls) is.some)
    (behind (flat_map written_decl s.decls) (written_main s.main) (each_flat written_decl SpeltDecl (λ d a. (decl_spelt d a).spelt) s.decls is.decls) (main_spelt s.main is.main))
