-- What the grammar of P4_16 asks of a syntax besides its words and marks: how operators group, what stands at most once or at least once, and which of two alternatives is meant where both could be written so
-- (P4_16 1.2, "P4 grammar"; the reserved words and the tightness of operators are this project's own).
use Rattle.std.specs.Prelude.{ℕ, suc, Bool, true, false, not, ◌&&◌, nat_le, List, [], ◌∷◌, map, Option, Some, None}
use Rattle.std.specs.List.{list_all, list_any}
use Rattle.std.specs.Str.{bytes_eq}
use Rattle.p416_syntax.specs.declared.keyword.Keyword16.TheVariants as key
use Rattle.p416_syntax.specs.Keywords.{keyword_text16}
use Rattle.p416_syntax.specs.declared.parts.Note.{Note}
use Rattle.p416_syntax.specs.declared.parts.Note.TheVariants as note
use Rattle.p416_syntax.specs.declared.parts.Type16.{Type16}
use Rattle.p416_syntax.specs.declared.parts.Type16.TheVariants as kind
use Rattle.p416_syntax.specs.declared.parts.Param.{Param}
use Rattle.p416_syntax.specs.declared.parts.BitField.{BitField}
use Rattle.p416_syntax.specs.declared.parts.Header16.{Header16}
use Rattle.p416_syntax.specs.declared.parts.StructField.{StructField}
use Rattle.p416_syntax.specs.declared.parts.Struct16.{Struct16}
use Rattle.p416_syntax.specs.declared.node.CaseLabel.{CaseLabel}
use Rattle.p416_syntax.specs.declared.node.CaseLabel.TheVariants as label
use Rattle.p416_syntax.specs.declared.parsers.Var.{Var}
use Rattle.p416_syntax.specs.declared.parsers.Target.{Target}
use Rattle.p416_syntax.specs.declared.parsers.Target.TheVariants as target
use Rattle.p416_syntax.specs.declared.parsers.Simple.{Simple}
use Rattle.p416_syntax.specs.declared.parsers.Simple.TheVariants as simple
use Rattle.p416_syntax.specs.declared.parsers.Keyset.{Keyset}
use Rattle.p416_syntax.specs.declared.parsers.Keyset.TheVariants as keyset
use Rattle.p416_syntax.specs.declared.parsers.SelectCase.{SelectCase}
use Rattle.p416_syntax.specs.declared.parsers.Transition.{Transition}
use Rattle.p416_syntax.specs.declared.parsers.Transition.TheVariants as transition
use Rattle.p416_syntax.specs.declared.parsers.State.{State}
use Rattle.p416_syntax.specs.declared.parsers.Parser16.{Parser16}
use Rattle.p416_syntax.specs.declared.controls.Instance.{Instance}
use Rattle.p416_syntax.specs.declared.controls.Instance.TheVariants as instance
use Rattle.p416_syntax.specs.declared.controls.Action16.{Action16}
use Rattle.p416_syntax.specs.declared.controls.ActionName.{ActionName}
use Rattle.p416_syntax.specs.declared.controls.ActionName.TheVariants as action_name
use Rattle.p416_syntax.specs.declared.controls.TableKey.{TableKey}
use Rattle.p416_syntax.specs.declared.controls.Property.{Property}
use Rattle.p416_syntax.specs.declared.controls.Property.TheVariants as property
use Rattle.p416_syntax.specs.declared.controls.Table16.{Table16}
use Rattle.p416_syntax.specs.declared.controls.Local.{Local}
use Rattle.p416_syntax.specs.declared.controls.Local.TheVariants as local
use Rattle.p416_syntax.specs.declared.controls.Control16.{Control16}
use Rattle.p416_syntax.specs.declared.program.Decl16.{Decl16}
use Rattle.p416_syntax.specs.declared.program.Decl16.TheVariants as decl
use Rattle.p416_syntax.specs.declared.program.Syntax16.{Syntax16}
use Rattle.p416_syntax.specs.Tree.{Exp16, literal, truth, error, name, member, index, slice, call, lookahead, cast, unary, binary, choice, parenthesized, no_arguments, argument, listed, Stmt16, no_statements, then, block, empty, var, var_is, assign, expression, if_then, if_else, switch, no_cases, case_of}
use Rattle.p416_syntax.specs.Operators.{postfix_power, prefix_power, binary_power, choice_power}
use Rattle.p416_syntax.specs.Written.{property_word}

abbrev pub is_among : List ℕ → List (List ℕ) → Bool
is_among text texts = list_any (bytes_eq text) texts

-- no text stands twice
abbrev pub all_different : List (List ℕ) → Bool
all_different [] = true
all_different (text ∷ texts) = not (is_among text texts) && all_different texts

abbrev pub is_some_listed : {A : Type 0} → List A → Bool
is_some_listed [] = false
is_some_listed (x ∷ xs) = true

-- what may be left out
abbrev pub is_option : {A : Type 0} → (A → Bool) → Option A → Bool
is_option is_good None = true
is_option is_good (Some x) = is_good x

-- annotations

abbrev pub is_note : Note → Bool
is_note (note.Name text) = true
is_note (note.FieldList lists) = is_some_listed lists

-- `@name` stands there
abbrev pub is_name_note : Note → Bool
is_name_note (note.Name text) = true
is_name_note (note.FieldList lists) = false

-- `@name` stands at most once
abbrev pub is_named_once : List Note → Bool
is_named_once [] = true
is_named_once (note.Name text ∷ notes) = not (list_any is_name_note notes)
is_named_once (note.FieldList lists ∷ notes) = is_named_once notes

abbrev pub are_notes : List Note → Bool
are_notes notes = list_all is_note notes && is_named_once notes

-- expressions

-- A syntax as it is written, with its parentheses, or without them. Where they stand, operators group as they bind; where
-- they don't, parentheses could stand around any operand.
pub data Form : Type 0 where
  with_parentheses : Form
  without_parentheses : Form

-- an operator of this power may stand where operators bind at least so tightly
abbrev pub fits : Form → ℕ → ℕ → Bool
fits with_parentheses least power = nat_le least power
fits without_parentheses least power = true

abbrev pub has_parentheses : Form → Bool
has_parentheses with_parentheses = true
has_parentheses without_parentheses = false

-- Where a tree of expressions stands: as one expression, whose operators outside parentheses bind at least so tightly; or
-- as an argument list. A list in braces may stand in place of an argument, but not within another.
pub data ExpPlace : Type 0 where
  one : (least : ℕ) (is_argument : Bool) → ExpPlace
  many : (has_lists : Bool) → ExpPlace

-- The left operand of an operator may hold operators as tight as it, the right one only tighter ones, so these group to the
-- left. `c ? a : b` groups to the right.
abbrev pub is_exp_at : Form → ExpPlace → Exp16 → Bool
is_exp_at m (one least is_argument) (literal n) = true
is_exp_at m (one least is_argument) (truth value) = true
is_exp_at m (one least is_argument) error = true
is_exp_at m (one least is_argument) (name text) = true
is_exp_at m (one least is_argument) (member e text) = is_exp_at m (one postfix_power false) e
is_exp_at m (one least is_argument) (index e at) = is_exp_at m (one postfix_power false) e
is_exp_at m (one least is_argument) (slice e high low) = is_exp_at m (one postfix_power false) e
is_exp_at m (one least is_argument) (call e arguments) =
    is_exp_at m (one postfix_power false) e && is_exp_at m (many true) arguments
is_exp_at m (one least is_argument) (lookahead e of arguments) =
    is_exp_at m (one postfix_power false) e && is_exp_at m (many true) arguments
is_exp_at m (one least is_argument) (cast to e) = fits m least prefix_power && is_exp_at m (one prefix_power false) e
is_exp_at m (one least is_argument) (unary operator e) = fits m least prefix_power && is_exp_at m (one prefix_power false) e
is_exp_at m (one least is_argument) (binary operator a b) =
    fits m least (binary_power operator)
    && (is_exp_at m (one (binary_power operator) false) a && is_exp_at m (one (suc (binary_power operator)) false) b)
is_exp_at m (one least is_argument) (choice c a b) =
    fits m least choice_power
    && (is_exp_at m (one (suc choice_power) false) c && (is_exp_at m (one 0 false) a && is_exp_at m (one choice_power false) b))
is_exp_at m (one least is_argument) (parenthesized e) = has_parentheses m && is_exp_at m (one 0 false) e
is_exp_at m (one least is_argument) (listed items) = is_argument && is_exp_at m (many false) items
is_exp_at m (many has_lists) no_arguments = true
is_exp_at m (many has_lists) (argument before last) =
    is_exp_at m (many has_lists) before && is_exp_at m (one 0 has_lists) last
is_exp_at m _ _ = false

abbrev pub is_exp : Form → Exp16 → Bool
is_exp m e = is_exp_at m (one 0 false) e

abbrev pub are_arguments : Form → Exp16 → Bool
are_arguments m e = is_exp_at m (many false) e

-- a call, maybe in parentheses
abbrev pub is_call : Exp16 → Bool
is_call (call e given) = true
is_call (lookahead e of given) = true
is_call (parenthesized e) = is_call e
is_call _ = false

-- statements

-- the statement ends in an `if` without `else`, so that an `else` behind it would belong to that
abbrev pub ends_in_if : Stmt16 → Bool
ends_in_if (if_then c holds) = true
ends_in_if (if_else c holds other) = ends_in_if other
ends_in_if _ = false

-- where a tree of statements stands: as a list of statements, as a statement or as a list of cases
pub data StmtPlace : Type 0 where
  statements : StmtPlace
  statement : StmtPlace
  cases : StmtPlace

abbrev pub is_stmt : Form → StmtPlace → Stmt16 → Bool
is_stmt m statements no_statements = true
is_stmt m statements (then before last) = is_stmt m statements before && is_stmt m statement last
is_stmt m statement (block ss) = is_stmt m statements ss
is_stmt m statement empty = true
is_stmt m statement (var of text) = true
is_stmt m statement (var_is of text value) = is_exp m value
is_stmt m statement (assign target value) = is_exp m target && is_exp m value
is_stmt m statement (expression e) = is_exp m e && is_call e
is_stmt m statement (if_then c holds) = is_exp m c && is_stmt m statement holds
is_stmt m statement (if_else c holds other) =
    is_exp m c && ((is_stmt m statement holds && not (ends_in_if holds)) && is_stmt m statement other)
is_stmt m statement (switch table cs) = is_stmt m cases cs
is_stmt m cases no_cases = true
is_stmt m cases (case_of before of ss) = is_stmt m cases before && is_stmt m statements ss
is_stmt m _ _ = false

abbrev pub is_var : Form → Var → Bool
is_var m v = is_option (is_exp m) v.initial

-- parser states

abbrev pub is_simple : Form → Simple → Bool
is_simple m simple.Default = true
is_simple m simple.Any = true
is_simple m (simple.Mask a b) = is_exp m a && is_exp m b
is_simple m (simple.Range a b) = is_exp m a && is_exp m b
is_simple m (simple.Value e) = is_exp m e

abbrev pub is_parenthesized : Exp16 → Bool
is_parenthesized (parenthesized e) = true
is_parenthesized _ = false

abbrev pub is_parenthesized_value : Simple → Bool
is_parenthesized_value (simple.Value e) = is_parenthesized e
is_parenthesized_value _ = false

-- a value in parentheses by itself is a tuple of one
abbrev pub is_keyset : Form → Keyset → Bool
is_keyset m (keyset.Tuple ss) = is_some_listed ss && list_all (is_simple m) ss
is_keyset m (keyset.One s) = is_simple m s && not (is_parenthesized_value s)

abbrev pub is_case : Form → SelectCase → Bool
is_case m c = is_keyset m c.keyset

abbrev pub is_transition : Form → Transition → Bool
is_transition m (transition.Go t) = true
is_transition m (transition.Select es cs) = (is_some_listed es && list_all (is_exp m) es) && list_all (is_case m) cs

abbrev pub is_state : Form → State → Bool
is_state m s = is_stmt m statements s.body && is_transition m s.transition

abbrev pub is_parser : Form → Parser16 → Bool
is_parser m p = is_some_listed p.parameters && (list_all (is_var m) p.vars && list_all (is_state m) p.states)

-- controls

abbrev pub is_instance : Form → Instance → Bool
is_instance m (instance.Counter size of text) = is_exp m size
is_instance m (instance.DirectCounter of text) = true
is_instance m (instance.Register width size text) = is_exp m size
is_instance m (instance.Meter size of text) = is_exp m size

abbrev pub is_object : Form → List Note → Instance → Bool
is_object m notes i = are_notes notes && is_instance m i

abbrev pub is_action : Form → Action16 → Bool
is_action m a = are_notes a.notes && is_stmt m statements a.body

abbrev pub is_key : Form → TableKey → Bool
is_key m k = is_exp m k.exp && are_notes k.notes

abbrev pub is_property : Form → Property → Bool
is_property m (property.Key ks) = list_all (is_key m) ks
is_property m (property.Actions names) = is_some_listed names
is_property m (property.Size n) = true
is_property m (property.Counters text) = true
is_property m (property.DefaultAction a arguments) = are_arguments m arguments

-- the texts of the words that properties begin with
abbrev pub property_texts : List Property → List (List ℕ)
property_texts ps = map (λ p. keyword_text16 (property_word p)) ps

-- each property stands at most once, and `actions` stands
abbrev pub are_properties : Form → List Property → Bool
are_properties m ps =
    list_all (is_property m) ps
    && (all_different (property_texts ps) && is_among (keyword_text16 key.Actions) (property_texts ps))

abbrev pub is_table : Form → Table16 → Bool
is_table m t = are_notes t.notes && are_properties m t.properties

abbrev pub is_local : Form → Local → Bool
is_local m (local.Instance notes i) = is_object m notes i
is_local m (local.Var v) = is_var m v
is_local m (local.Action a) = is_action m a
is_local m (local.Table t) = is_table m t

abbrev pub is_control : Form → Control16 → Bool
is_control m c = is_some_listed c.parameters && (list_all (is_local m) c.locals && is_stmt m statements c.body)

-- declarations

abbrev pub is_struct_field : StructField → Bool
is_struct_field f = are_notes f.notes

abbrev pub is_struct : Struct16 → Bool
is_struct s = list_all is_struct_field s.fields

abbrev pub is_decl : Form → Decl16 → Bool
is_decl m (decl.Header h) = true
is_decl m (decl.Struct s) = is_struct s
is_decl m (decl.Instance notes i) = is_object m notes i
is_decl m (decl.Parser p) = is_parser m p
is_decl m (decl.Control c) = is_control m c

abbrev pub is_syntax : Form → Syntax16 → Bool
is_syntax m s = list_all (is_decl m) s.decls && is_some_listed s.main
