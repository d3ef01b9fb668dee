-- What the grammar of P4_14 asks of a syntax besides its words and marks: how operators group, what stands at most once
-- or at least once, and which of two alternatives is meant where both could be written so. Where an earlier alternative
-- of a line can be written with the same tokens, that one is meant (P4_14 1.0.5, "Summary of P4 BNF"; the tightness of
-- operators, and that no word is reserved everywhere, are this project's own).
use Rattle.std.specs.Prelude.{ℕ, zero, suc, Bool, true, false, not, ◌&&◌, nat_eq, nat_le, List, [], ◌∷◌, ◌++◌, map, Option, Some, None}
use Rattle.std.specs.List.{list_all, list_any}
use Rattle.std.specs.Str.{bytes_eq}
use Rattle.p414_syntax.specs.declared.keyword.Keyword.TheVariants as key
use Rattle.p414_syntax.specs.Keywords.{keyword_text}
use Rattle.p414_syntax.specs.declared.lexeme.Lexeme.{Lexeme}
use Rattle.p414_syntax.specs.declared.lexeme.Lexeme.TheVariants as lexeme
use Rattle.p414_syntax.specs.declared.mark.Mark.{Mark}
use Rattle.p414_syntax.specs.declared.mark.Mark.TheVariants as mark
use Rattle.p414_syntax.specs.declared.parts.Inst.{Inst}
use Rattle.p414_syntax.specs.declared.parts.Index.{Index}
use Rattle.p414_syntax.specs.declared.parts.Ref.{Ref}
use Rattle.p414_syntax.specs.declared.calculations.Item.{Item}
use Rattle.p414_syntax.specs.declared.calculations.Item.TheVariants as item
use Rattle.p414_syntax.specs.declared.parsers.PValue.{PValue}
use Rattle.p414_syntax.specs.declared.parsers.PValue.TheVariants as pvalue
use Rattle.p414_syntax.specs.declared.parsers.PStmt.{PStmt}
use Rattle.p414_syntax.specs.declared.parsers.PStmt.TheVariants as pstmt
use Rattle.p414_syntax.specs.declared.parsers.CaseValues.{CaseValues}
use Rattle.p414_syntax.specs.declared.parsers.CaseValues.TheVariants as case_values
use Rattle.p414_syntax.specs.declared.parsers.Case.{Case}
use Rattle.p414_syntax.specs.declared.parsers.Return.{Return}
use Rattle.p414_syntax.specs.declared.parsers.Return.TheVariants as end_of
use Rattle.p414_syntax.specs.declared.tables.TableAttr.{TableAttr}
use Rattle.p414_syntax.specs.declared.tables.TableAttr.TheVariants as table_attr
use Rattle.p414_syntax.specs.declared.objects.StateAttr.{StateAttr}
use Rattle.p414_syntax.specs.declared.node.Label.{Label}
use Rattle.p414_syntax.specs.declared.node.Label.TheVariants as label
use Rattle.p414_syntax.specs.declared.syntax.Decl.{Decl}
use Rattle.p414_syntax.specs.declared.syntax.Decl.TheVariants as decl
use Rattle.p414_syntax.specs.declared.syntax.Syntax14.{Syntax14}
use Rattle.p414_syntax.specs.Tree.{Expr, valid, truth, field, number, parenthesized, unary, binary, Stmt, no_statements, then, apply, apply_branches, if_then, call, no_else, else_block, else_if, no_branches, branch}
use Rattle.p414_syntax.specs.Views.{TailTree, HeaderTypeTree}
use Rattle.p414_syntax.specs.Operators.{unary_power, binary_power}
use Rattle.p414_syntax.specs.Written.{tail_word, tail_expr, table_word, state_word, label_text}

abbrev pub is_among : List ℕ → List (List ℕ) → Bool
is_among text texts = list_any (bytes_eq text) texts

-- no text stands twice
abbrev pub all_different : List (List ℕ) → Bool
all_different [] = true
all_different (text ∷ texts) = not (is_among text texts) && all_different texts

abbrev pub is_some_listed : {A : Type 0} → List A → Bool
is_some_listed [] = false
is_some_listed (x ∷ xs) = true

-- the instance is this word alone, without an index
abbrev pub is_bare_index : Option Index → Bool
is_bare_index None = true
is_bare_index (Some i) = false

abbrev pub is_bare : List ℕ → Inst → Bool
is_bare word i = bytes_eq i.name word && is_bare_index i.index

-- expressions

-- the words that are never names in an expression
abbrev pub expression_words : List (List ℕ)
expression_words = map keyword_text (key.And ∷ key.Or ∷ key.Not ∷ key.True ∷ key.False ∷ key.Valid ∷ [])

abbrev pub is_expression_name : List ℕ → Bool
is_expression_name text = not (is_among text expression_words)

abbrev pub is_expression_field : Ref → Bool
is_expression_field r = is_expression_name r.instance.name && is_expression_name r.field

-- An expression whose operators outside parentheses bind at least so tightly. The left operand of an operator may
-- hold operators as tight as it, the right one only tighter ones, so these group to the left.
abbrev pub is_expr : ℕ → Expr → Bool
is_expr least (valid i) = is_expression_name i.name
is_expr least (truth value) = true
is_expr least (field r) = is_expression_field r
is_expr least (number n) = true
is_expr least (parenthesized e) = is_expr 0 e
is_expr least (unary operator e) = nat_le least (unary_power operator) && is_expr (unary_power operator) e
is_expr least (binary operator a b) =
    nat_le least (binary_power operator)
    && (is_expr (binary_power operator) a && is_expr (suc (binary_power operator)) b)

-- header types: `length` and `max_length` stand at most once each

abbrev pub is_tail : TailTree → Bool
is_tail t = is_expr 0 (tail_expr t)

abbrev pub is_header_type : HeaderTypeTree → Bool
is_header_type h = list_all is_tail h.tails && all_different (map tail_word h.tails)

-- field lists and calculations

-- the word `payload` by itself is the payload
abbrev pub is_item : Item → Bool
is_item item.Payload = true
is_item (item.Number n) = true
is_item (item.Field r) = true
is_item (item.Instance i) = not (is_bare (keyword_text key.Payload) i)

-- parser states

-- `latest` without an index before a field is the instance that was extracted last
abbrev pub is_pvalue : PValue → Bool
is_pvalue (pvalue.Current offset bits) = true
is_pvalue (pvalue.Latest f) = true
is_pvalue (pvalue.Field r) = not (is_bare (keyword_text key.Latest) r.instance)
is_pvalue (pvalue.Number n) = true

-- a value in a select is no number
abbrev pub is_select_value : PValue → Bool
is_select_value (pvalue.Current offset bits) = true
is_select_value (pvalue.Latest f) = true
is_select_value (pvalue.Field r) = not (is_bare (keyword_text key.Latest) r.instance)
is_select_value (pvalue.Number n) = false

abbrev pub is_pstmt : PStmt → Bool
is_pstmt (pstmt.Extract i) = true
is_pstmt (pstmt.SetMetadata r v) = is_pvalue v

abbrev pub is_case_values : CaseValues → Bool
is_case_values case_values.Default = true
is_case_values (case_values.Values ms) = is_some_listed ms

abbrev pub is_case : Case → Bool
is_case c = is_case_values c.values

abbrev pub is_return : Return → Bool
is_return (end_of.Select vs cs) =
    (is_some_listed vs && list_all is_select_value vs) && (is_some_listed cs && list_all is_case cs)
is_return (end_of.State s) = true
is_return (end_of.ParseError e) = true

-- tables: each attribute stands at most once, and `actions` or `action_profile` stands

abbrev pub is_table_attr : TableAttr → Bool
is_table_attr (table_attr.Reads rs) = true
is_table_attr (table_attr.Actions names) = is_some_listed names
is_table_attr (table_attr.MinSize n) = true
is_table_attr (table_attr.MaxSize n) = true
is_table_attr (table_attr.Size n) = true
is_table_attr (table_attr.SupportTimeout on) = true
is_table_attr (table_attr.DefaultAction a arguments) = true
is_table_attr (table_attr.ActionProfile p) = true

-- one of these words begins an attribute
abbrev pub has_word : List (List ℕ) → List (List ℕ) → Bool
has_word needed words = list_any (λ word. is_among word needed) words

abbrev pub table_needs : List (List ℕ)
table_needs = keyword_text key.Actions ∷ keyword_text key.ActionProfile ∷ []

abbrev pub are_table_attrs : List TableAttr → Bool
are_table_attrs attrs =
    list_all is_table_attr attrs
    && (all_different (map table_word attrs) && has_word table_needs (map table_word attrs))

-- counters, meters and registers: each attribute stands at most once; a counter and a meter have `type`, a register has
-- `width` or `layout`

abbrev pub counter_needs : List (List ℕ)
counter_needs = keyword_text key.Counts ∷ []

abbrev pub register_needs : List (List ℕ)
register_needs = keyword_text key.Width ∷ keyword_text key.Layout ∷ []

abbrev pub are_state_attrs : List (List ℕ) → List StateAttr → Bool
are_state_attrs needed attrs = all_different (map state_word attrs) && has_word needed (map state_word attrs)

-- controls

abbrev pub outcomes : List (List ℕ)
outcomes = keyword_text key.Hit ∷ keyword_text key.Miss ∷ []

abbrev pub own_labels : List (List ℕ)
own_labels = keyword_text key.Hit ∷ keyword_text key.Miss ∷ keyword_text key.Default ∷ []

-- no action is meant under one of these words
abbrev pub is_label : Label → Bool
is_label label.Hit = true
is_label label.Miss = true
is_label label.Default = true
is_label (label.Action a) = not (is_among a own_labels)

-- the labels of a list of branches, as texts
abbrev pub labels_of : Stmt → List (List ℕ)
labels_of (branch before l body) = labels_of before ++ label_text l ∷ []
labels_of no_branches = []
labels_of no_statements = []
labels_of (then before last) = []
labels_of (apply table) = []
labels_of (apply_branches table bs) = []
labels_of (if_then condition body other) = []
labels_of (call control) = []
labels_of no_else = []
labels_of (else_block body) = []
labels_of (else_if statement) = []

abbrev pub is_outcome : List ℕ → Bool
is_outcome text = is_among text outcomes

-- `hit` or `miss` stands beside another label
abbrev pub is_mixed : List (List ℕ) → Bool
is_mixed labels = list_any is_outcome labels && list_any (λ text. not (is_outcome text)) labels

-- each label stands once, and `hit` and `miss` stand with no other
abbrev pub are_labels : List (List ℕ) → Bool
are_labels labels = all_different labels && not (is_mixed labels)

-- where a tree of statements stands
pub data StmtPlace : Type 0 where
  block : StmtPlace
  statement : StmtPlace
  behind_if : StmtPlace
  branches : StmtPlace

abbrev pub is_if : Stmt → Bool
is_if (if_then condition body other) = true
is_if _ = false

-- a list of statements, a statement, what stands behind an `if` block, or a list of branches
abbrev pub is_stmt : StmtPlace → Stmt → Bool
is_stmt block no_statements = true
is_stmt block (then before last) = is_stmt block before && is_stmt statement last
is_stmt statement (apply table) = true
is_stmt statement (apply_branches table bs) = is_stmt branches bs && are_labels (labels_of bs)
is_stmt statement (if_then condition body other) =
    is_expr 0 condition && (is_stmt block body && is_stmt behind_if other)
is_stmt statement (call control) = true
is_stmt behind_if no_else = true
is_stmt behind_if (else_block body) = is_stmt block body
is_stmt behind_if (else_if s) = is_if s && is_stmt statement s
is_stmt branches no_branches = true
is_stmt branches (branch before l body) = is_stmt branches before && (is_label l && is_stmt block body)
is_stmt _ _ = false

-- declarations that are left out: braces in their group are balanced

pub data Brace : Type 0 where
  opens : Brace
  closes : Brace
  neither : Brace

abbrev pub brace_of_mark : Mark → Brace
brace_of_mark mark.BraceOpen = opens
brace_of_mark mark.BraceClose = closes
brace_of_mark _ = neither

abbrev pub brace_of : Lexeme → Brace
brace_of (lexeme.Name text) = neither
brace_of (lexeme.Number n) = neither
brace_of (lexeme.Mark m) = brace_of_mark m

-- what a token does to the number of open braces, and what is said of the tokens behind it with that number
abbrev pub behind_brace : Brace → ℕ → (ℕ → Bool) → Bool
behind_brace opens depth rest = rest (suc depth)
behind_brace closes zero rest = false
behind_brace closes (suc depth) rest = rest depth
behind_brace neither depth rest = rest depth

-- the tokens close as many braces as they open and as are open before them
abbrev pub is_balanced : ℕ → List Lexeme → Bool
is_balanced depth [] = nat_eq depth 0
is_balanced depth (token ∷ tokens) = behind_brace (brace_of token) depth (λ d. is_balanced d tokens)

abbrev pub is_group : Option (List Lexeme) → Bool
is_group None = true
is_group (Some tokens) = is_balanced 0 tokens

-- declarations

abbrev pub is_decl : Decl → Bool
is_decl (decl.HeaderType h) = is_header_type h
is_decl (decl.Header h) = true
is_decl (decl.Metadata m) = true
is_decl (decl.FieldList l) = list_all is_item l.items
is_decl (decl.FieldListCalculation c) = is_some_listed c.input
is_decl (decl.CalculatedField c) = is_some_listed c.entries
is_decl (decl.Parser p) = list_all is_pstmt p.statements && is_return p.end
is_decl (decl.Action a) = true
is_decl (decl.Table t) = are_table_attrs t.attributes
is_decl (decl.Counter s) = are_state_attrs counter_needs s.attributes
is_decl (decl.Meter s) = are_state_attrs counter_needs s.attributes
is_decl (decl.Register s) = are_state_attrs register_needs s.attributes
is_decl (decl.Control c) = is_stmt block c.body
is_decl (decl.LeftOut l) = is_group l.group

abbrev pub is_syntax : Syntax14 → Bool
is_syntax s = list_all is_decl s.decls
