-- The table of what each expression is written with, part by part, what the parts say, and how much work they are.
use Rattle.std.specs.Prelude.{◌≡◌, ℕ, ◌+◌, Bool, true, false, ◌&&◌, List, [], ◌∷◌, ◌++◌}
use Rattle.std.specs.List.{flat_map, list_all}
use Rattle.p416_syntax.specs.declared.keyword.Keyword16.{Keyword16}
use Rattle.p416_syntax.specs.declared.keyword.Keyword16.TheVariants as key
use Rattle.p416_syntax.specs.declared.mark.Mark16.{Mark16}
use Rattle.p416_syntax.specs.declared.mark.Mark16.TheVariants as mark_of
use Rattle.p416_syntax.specs.SpeltLexemes.{is_identifier16, is_spelt_literal16}
use Rattle.p416_tok.specs.declared.kind.TokenKind16.{TokenKind16}
use Rattle.p416_syntax.specs.declared.node.UnaryOperator.{UnaryOperator}
use Rattle.p416_syntax.specs.declared.node.UnaryOperator.TheVariants as prefix
use Rattle.p416_syntax.specs.declared.node.BinaryOperator.{BinaryOperator}
use Rattle.p416_syntax.specs.declared.node.BinaryOperator.TheVariants as operator_of
use Rattle.p416_syntax.specs.declared.views.ExpHead.{ExpHead}
use Rattle.p416_syntax.specs.declared.views.ExpHead.TheVariants as head
use Rattle.p416_syntax.specs.Tree.{Exp16, literal, truth, error, name, member, index, slice, call, lookahead, cast, unary, binary, choice, parenthesized, no_arguments, argument, listed}
use Rattle.p416_syntax.specs.Heads.{of_exp_head}
use Rattle.p416_syntax.specs.Tokens.{id, number, opens, seen_word, lookahead_text, dot, bracket_open, bracket_close, colon, greater, paren_open, in_parens}
use Rattle.p416_syntax.specs.Written.{written_exp, written_type, written_cast}
use Rattle.token_sheet.specs.declared.blanks.Gap.{Gap}
use Rattle.token_sheet.specs.declared.blanks.Gap.TheVariants.{Nothing, Space}
use Rattle.token_sheet.specs.Words.{Word}
use Rattle.p416_sheet.specs.declared.sheet.Token16.{Token16}
use Rattle.p416_sheet.specs.declared.sheet.Token16.TheVariants as token
use Rattle.p416_spelling.specs.Words.{words16}
use Rattle.p416_sheet.specs.Tokens.{words_put, is_put}
use Rattle.p416_exp_writer.specs.declared.work.Part.{Part}
use Rattle.p416_exp_writer.specs.declared.work.Part.TheVariants as part
use Rattle.p416_exp_writer.specs.declared.work.Form.{Form}
use Rattle.p416_exp_writer.specs.declared.work.Form.TheVariants as form
use Rattle.p416_exp_writer.specs.declared.work.Work.{Work}
use Rattle.p416_exp_writer.specs.declared.work.Work.TheVariants.{Say, Visit}
use Rattle.p416_exp_writer.specs.Placed.{is_wrapped_as, written_as}
use Rattle.p416_exp_writer.specs.Spelt.{is_spelt_exp, is_spelt_type, is_spelt_cast}

-- the words of what is said, and of what is left to be said
abbrev pub said_part : Part → List (Word TokenKind16)
said_part (part.Put gap t) = words_put t
said_part (part.Member word) = words16 (dot ∷ seen_word word ∷ [])
said_part (part.Index at) = words16 (bracket_open ∷ number at ∷ bracket_close ∷ [])
said_part (part.Slice high low) = words16 (bracket_open ∷ number high ∷ colon ∷ number low ∷ bracket_close ∷ [])
said_part (part.Lookahead of) =
    words16 (dot ∷ id lookahead_text ∷ opens ∷ (written_type of.now ++ greater ∷ paren_open ∷ []))
said_part (part.Cast gap to) = words16 (in_parens (written_cast to))

abbrev pub said : Work → List (Word TokenKind16)
said (Say p) = said_part p
said (Visit gap f e) = words16 (written_exp (written_as f e))

abbrev pub all_said : List Work → List (Word TokenKind16)
all_said works = flat_map said works

-- each token can stand in a text
abbrev pub is_part_spelt : Part → Bool
is_part_spelt (part.Put gap t) = is_put t
is_part_spelt (part.Member word) = is_identifier16 word
is_part_spelt (part.Index at) = is_spelt_literal16 at
is_part_spelt (part.Slice high low) = is_spelt_literal16 high && is_spelt_literal16 low
is_part_spelt (part.Lookahead of) = is_spelt_type of.now
is_part_spelt (part.Cast gap to) = is_spelt_cast to

abbrev pub is_spelt_work : Work → Bool
is_spelt_work (Say p) = is_part_spelt p
is_spelt_work (Visit gap f e) = is_spelt_exp e

abbrev pub are_spelt_works : List Work → Bool
are_spelt_works works = list_all is_spelt_work works

-- how much work is left
abbrev pub exp_weight : Exp16 → ℕ
exp_weight (literal n) = 20
exp_weight (truth value) = 20
exp_weight error = 20
exp_weight (name text) = 20
exp_weight (member e word) = 20 + exp_weight e
exp_weight (index e at) = 20 + exp_weight e
exp_weight (slice e high low) = 20 + exp_weight e
exp_weight (call e given) = 20 + (exp_weight e + exp_weight given)
exp_weight (lookahead e of given) = 20 + (exp_weight e + exp_weight given)
exp_weight (cast to e) = 20 + exp_weight e
exp_weight (unary operator e) = 20 + exp_weight e
exp_weight (binary operator a b) = 20 + (exp_weight a + exp_weight b)
exp_weight (choice c a b) = 20 + (exp_weight c + (exp_weight a + exp_weight b))
exp_weight (parenthesized e) = 20 + exp_weight e
exp_weight no_arguments = 20
exp_weight (argument before last) = 20 + (exp_weight before + exp_weight last)
exp_weight (listed items) = 20 + exp_weight items

abbrev pub form_weight : Form → ℕ
form_weight form.Within = 0
form_weight form.Full = 4
form_weight form.Base = 4

abbrev pub weight : Work → ℕ
weight (Say p) = 1
weight (Visit gap f e) = form_weight f + exp_weight e

abbrev pub all_weight : List Work → ℕ
all_weight [] = 0
all_weight (work ∷ works) = weight work + all_weight works

-- the words and marks of the table
abbrev pub put_mark : Gap → Mark16 → Work
put_mark gap m = Say (part.Put gap (token.Mark m))

abbrev pub truth_word : Bool → Keyword16
truth_word true = key.True
truth_word false = key.False

abbrev pub prefix_mark : UnaryOperator → Mark16
prefix_mark prefix.Not = mark_of.Bang
prefix_mark prefix.Complement = mark_of.Tilde
prefix_mark prefix.Negate = mark_of.Minus

abbrev pub operator_token : BinaryOperator → Token16
operator_token operator_of.Multiply = token.Mark mark_of.Star
operator_token operator_of.Add = token.Mark mark_of.Plus
operator_token operator_of.Subtract = token.Mark mark_of.Minus
operator_token operator_of.SaturatingAdd = token.Mark mark_of.SaturatingPlus
operator_token operator_of.SaturatingSubtract = token.Mark mark_of.SaturatingMinus
operator_token operator_of.Concatenate = token.Mark mark_of.PlusPlus
operator_token operator_of.ShiftLeft = token.Mark mark_of.ShiftLeft
operator_token operator_of.ShiftRight = token.ShiftRight
operator_token operator_of.BitAnd = token.Mark mark_of.Ampersand
operator_token operator_of.BitXor = token.Mark mark_of.Caret
operator_token operator_of.BitOr = token.Mark mark_of.Bar
operator_token operator_of.Less = token.Mark mark_of.Less
operator_token operator_of.LessEqual = token.Mark mark_of.LessEqual
operator_token operator_of.Greater = token.Mark mark_of.Greater
operator_token operator_of.GreaterEqual = token.Mark mark_of.GreaterEqual
operator_token operator_of.Equal = token.Mark mark_of.Equal
operator_token operator_of.NotEqual = token.Mark mark_of.NotEqual
operator_token operator_of.And = token.Mark mark_of.AndAnd
operator_token operator_of.Or = token.Mark mark_of.OrOr

abbrev pub is_no_arguments : Exp16 → Bool
is_no_arguments no_arguments = true
is_no_arguments _ = false

-- the last argument of a list, behind a comma where others stand before it
abbrev pub argument_layout : Bool → Gap → Exp16 → Exp16 → List Work
argument_layout true gap before last = Visit gap form.Full last ∷ []
argument_layout false gap before last =
    Visit gap form.Within before ∷ put_mark Nothing mark_of.Comma ∷ Visit Space form.Full last ∷ []

-- what opens the parentheses of a call
abbrev pub call_opening : Part
call_opening = part.Put Nothing (token.Mark mark_of.ParenOpen)

-- what is called, and the arguments in their parentheses
abbrev pub call_layout : Gap → Exp16 → Part → Exp16 → List Work
call_layout gap e opening given =
    Visit gap form.Base e ∷ Say opening ∷ Visit Nothing form.Within given ∷ put_mark Nothing mark_of.ParenClose ∷ []

-- the parts of an expression in order, with what stands in front of the first
abbrev pub layout : Gap → ExpHead → List Work
layout gap (head.Literal n) = Say (part.Put gap (token.Number n)) ∷ []
layout gap (head.Truth value) = Say (part.Put gap (token.Word (truth_word value))) ∷ []
layout gap head.Error = Say (part.Put gap (token.Word key.Error)) ∷ []
layout gap (head.Name text) = Say (part.Put gap (token.Name text.now)) ∷ []
layout gap (head.Member e word) = Visit gap form.Base e ∷ Say (part.Member word.now) ∷ []
layout gap (head.Index e at) = Visit gap form.Base e ∷ Say (part.Index at) ∷ []
layout gap (head.Slice e high low) = Visit gap form.Base e ∷ Say (part.Slice high low) ∷ []
layout gap (head.Call e given) = call_layout gap e call_opening given
layout gap (head.Lookahead e of given) = call_layout gap e (part.Lookahead of) given
layout gap (head.Cast to e) = Say (part.Cast gap to) ∷ Visit Space form.Full e ∷ []
layout gap (head.Unary operator e) = put_mark gap (prefix_mark operator) ∷ Visit Nothing form.Full e ∷ []
layout gap (head.Binary operator a b) =
    Visit gap form.Full a ∷ Say (part.Put Space (operator_token operator)) ∷ Visit Space form.Full b ∷ []
layout gap (head.Choice c a b) =
    Visit gap form.Full c ∷ put_mark Space mark_of.Question ∷ Visit Space form.Full a
    ∷ put_mark Space mark_of.Colon ∷ Visit Space form.Full b ∷ []
layout gap head.NoArguments = []
layout gap (head.Argument before last) = argument_layout (is_no_arguments before) gap before last
layout gap (head.Listed items) =
    put_mark gap mark_of.BraceOpen ∷ Visit Space form.Within items ∷ put_mark Space mark_of.BraceClose ∷ []

-- the same, in parentheses or not
abbrev pub wrapped_layout : Bool → Gap → ExpHead → Exp16 → List Work
wrapped_layout true gap h e =
    put_mark gap mark_of.ParenOpen ∷ Visit Nothing form.Within e ∷ put_mark Nothing mark_of.ParenClose ∷ []
wrapped_layout false gap h e = layout gap h

-- the parts of the expression stand in front of what was left
pub record IsPushed (gap : Gap) (f : Form) (e : Exp16) (old new : List Work) : Type 0 where
  pub outermost : ExpHead
  pub tree : e ≡ of_exp_head outermost
  pub parts : new ≡ wrapped_layout (is_wrapped_as f e) gap outermost e ++ old
