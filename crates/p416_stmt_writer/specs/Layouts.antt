-- The table of what each statement is written with, part by part, what the parts say, and how much work they are. What stands
-- between two tokens is no part of it.
use Rattle.std.specs.Prelude.{◌≡◌, ℕ, ◌+◌, Bool, List, [], ◌∷◌, ◌++◌, map}
use Rattle.std.specs.List.{flat_map, list_all}
use Rattle.p416_syntax.specs.declared.keyword.Keyword16.TheVariants as key
use Rattle.p416_syntax.specs.declared.mark.Mark16.{Mark16}
use Rattle.p416_syntax.specs.declared.mark.Mark16.TheVariants as mark_of
use Rattle.p416_tok.specs.declared.kind.TokenKind16.{TokenKind16}
use Rattle.p416_syntax.specs.declared.parts.Type16.{Type16}
use Rattle.p416_syntax.specs.declared.node.CaseLabel.{CaseLabel}
use Rattle.p416_syntax.specs.declared.views.StmtHead.{StmtHead}
use Rattle.p416_syntax.specs.declared.views.StmtHead.TheVariants as head
use Rattle.p416_syntax.specs.Tree.{Exp16, Stmt16, no_statements, then, block, empty, var, var_is, assign, expression, if_then, if_else, switch, no_cases, case_of}
use Rattle.p416_syntax.specs.Heads.{of_head}
use Rattle.p416_syntax.specs.Tokens.{Seen16, id, quoted, brace_open, colon, in_parens, is_spelt_seen}
use Rattle.p416_syntax.specs.Written.{written_exp, written_type, written_stmt, written_label, written_run}
use Rattle.token_sheet.specs.Words.{Word}
use Rattle.p416_parentheses.specs.Syntax.{full_stmt}
use Rattle.p416_spelling.specs.Words.{words16}
use Rattle.p416_sheet.specs.declared.sheet.Token16.{Token16}
use Rattle.p416_sheet.specs.declared.sheet.Token16.TheVariants as token
use Rattle.p416_sheet.specs.Tokens.{words_put, is_put}
use Rattle.p416_exp_writer.specs.declared.work.Form.{Form}
use Rattle.p416_exp_writer.specs.declared.work.Form.TheVariants as form
use Rattle.p416_exp_writer.specs.Placed.{written_as}
use Rattle.p416_exp_writer.specs.Spelt.{is_spelt_exp}
use Rattle.p416_stmt_writer.specs.declared.work.Work.{Work}
use Rattle.p416_stmt_writer.specs.declared.work.Work.TheVariants as work

-- a step of what is left, without what stands in front of it
pub data Step : Type 0 where
  put : Token16 → Step
  type_of : Type16 → Step
  exp_as : Form → Exp16 → Step
  run_of : List ℕ → Step
  label_of : CaseLabel → Step
  part : Stmt16 → Step

abbrev pub step_of : Work → Step
step_of (work.Put gap t) = put t
step_of (work.Type gap of) = type_of of.now
step_of (work.Exp gap f e) = exp_as f e
step_of (work.Run gap table) = run_of table
step_of (work.Label gap of) = label_of of.now
step_of (work.Stmt gap level s) = part s

abbrev pub steps : List Work → List Step
steps works = map step_of works

-- the words of what is left
abbrev pub said : Step → List (Word TokenKind16)
said (put t) = words_put t
said (type_of of) = words16 (written_type of)
said (exp_as f e) = words16 (written_exp (written_as f e))
said (run_of table) = words16 (quoted key.Switch ∷ (in_parens (written_run table) ++ brace_open ∷ []))
said (label_of of) = words16 (written_label of ++ colon ∷ brace_open ∷ [])
said (part s) = words16 (written_stmt (full_stmt s))

abbrev pub all_said : List Step → List (Word TokenKind16)
all_said ss = flat_map said ss

-- each token can stand in a text
abbrev pub are_spelt : List Seen16 → Bool
are_spelt tokens = list_all is_spelt_seen tokens

abbrev pub is_spelt_step : Step → Bool
is_spelt_step (put t) = is_put t
is_spelt_step (type_of of) = are_spelt (written_type of)
is_spelt_step (exp_as f e) = is_spelt_exp e
is_spelt_step (run_of table) = is_spelt_seen (id table)
is_spelt_step (label_of of) = are_spelt (written_label of)
is_spelt_step (part s) = are_spelt (written_stmt s)

abbrev pub are_spelt_steps : List Step → Bool
are_spelt_steps ss = list_all is_spelt_step ss

-- how much work is left
abbrev pub stmt_weight : Stmt16 → ℕ
stmt_weight no_statements = 1
stmt_weight (then before last) = 20 + (stmt_weight before + stmt_weight last)
stmt_weight (block ss) = 20 + stmt_weight ss
stmt_weight empty = 20
stmt_weight (var of called) = 20
stmt_weight (var_is of called e) = 20
stmt_weight (assign e f) = 20
stmt_weight (expression e) = 20
stmt_weight (if_then e a) = 20 + stmt_weight a
stmt_weight (if_else e a b) = 20 + (stmt_weight a + stmt_weight b)
stmt_weight (switch table cs) = 20 + stmt_weight cs
stmt_weight no_cases = 1
stmt_weight (case_of before of ss) = 20 + (stmt_weight before + stmt_weight ss)

abbrev pub weight : Step → ℕ
weight (put t) = 1
weight (type_of of) = 1
weight (exp_as f e) = 1
weight (run_of table) = 1
weight (label_of of) = 1
weight (part s) = stmt_weight s

abbrev pub all_weight : List Step → ℕ
all_weight [] = 0
all_weight (s ∷ ss) = weight s + all_weight ss

abbrev pub put_mark : Mark16 → Step
put_mark m = put (token.Mark m)

abbrev pub semicolon_step : Step
semicolon_step = put_mark mark_of.Semicolon

-- the parts of a statement, of a list of statements or of a list of cases, in order
abbrev pub layout : StmtHead → List Step
layout head.NoStatements = []
layout (head.Then before last) = part before ∷ part last ∷ []
layout (head.Block ss) = put_mark mark_of.BraceOpen ∷ part ss ∷ put_mark mark_of.BraceClose ∷ []
layout head.Empty = semicolon_step ∷ []
layout (head.Var of called) = type_of of.now ∷ put (token.Name called.now) ∷ semicolon_step ∷ []
layout (head.VarIs of called e) =
    type_of of.now ∷ put (token.Name called.now) ∷ put_mark mark_of.Assign ∷ exp_as form.Full e ∷ semicolon_step ∷ []
layout (head.Assign e f) = exp_as form.Full e ∷ put_mark mark_of.Assign ∷ exp_as form.Full f ∷ semicolon_step ∷ []
layout (head.Expression e) = exp_as form.Full e ∷ semicolon_step ∷ []
layout (head.If e a) =
    put (token.Word key.If) ∷ put_mark mark_of.ParenOpen ∷ exp_as form.Within e ∷ put_mark mark_of.ParenClose ∷ part a ∷ []
layout (head.IfElse e a b) =
    put (token.Word key.If) ∷ put_mark mark_of.ParenOpen ∷ exp_as form.Within e ∷ put_mark mark_of.ParenClose ∷ part a
    ∷ put (token.Word key.Else) ∷ part b ∷ []
layout (head.Switch table cs) = run_of table.now ∷ part cs ∷ put_mark mark_of.BraceClose ∷ []
layout head.NoCases = []
layout (head.Case before of ss) = part before ∷ label_of of.now ∷ part ss ∷ put_mark mark_of.BraceClose ∷ []

-- the parts of the statement stand in front of what was left
pub record IsPushed (s : Stmt16) (old new : List Work) : Type 0 where
  pub outermost : StmtHead
  pub tree : s ≡ of_head outermost
  pub parts : steps new ≡ layout outermost ++ steps old
