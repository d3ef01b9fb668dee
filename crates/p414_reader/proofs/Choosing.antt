-- The row that is chosen of an expression's word is the first that fits.
use Rattle.std.proofs.Common.{◌≡◌, ℕ, zero, suc, ◌+◌, get_or, true, false, List, [], ◌∷◌, map, Option, Some, None, Result, IfOk, sym, ap, ◌∙◌, subst}
use Rattle.std.specs.Prelude.{slice_get}
use Rattle.std.proofs.Math.Numerals.{add-one}
use Rattle.std.proofs.lemmas.Result.{IfOk-weaker}
use Rattle.predictive_parser.specs.Grammar.{first_fit, with_more, plain_lines, ◌⇒◌}
use Rattle.predictive_parser.specs.Choices.{Chooses}
use Rattle.predictive_parser.specs.declared.symbol.Symbol.TheVariants.{Token, Put}
use Rattle.p414_syntax.specs.declared.lexeme.Lexeme.{Lexeme}
use Rattle.p414_syntax.specs.declared.mark.Mark.TheVariants.{ParenOpen}
use Rattle.p414_syntax.specs.declared.node.BinaryOperator.{BinaryOperator}
use Rattle.p414_syntax.specs.Operators.{binary_power}
use Rattle.p414_syntax.specs.declared.keyword.Keyword.TheVariants as key
use Rattle.p414_reader.specs.declared.symbols.Class.{Class}
use Rattle.p414_reader.specs.declared.symbols.Class.TheVariants as class
use Rattle.p414_reader.specs.declared.symbols.Action.TheVariants as action
use Rattle.p414_reader.specs.declared.symbols.PartAction.TheVariants as part
use Rattle.p414_reader.specs.declared.symbols.BodyAction.TheVariants as body
use Rattle.p414_reader.specs.declared.symbols.PartWord.TheVariants.{IndexOption}
use Rattle.p414_reader.specs.declared.symbols.BodyWord.TheVariants.{Expr, Operators, ExprInst}
use Rattle.p414_reader.specs.declared.built.Built.{Built}
use Rattle.p414_reader.specs.internal.Classes.{prefix_of, infix_of}
use Rattle.p414_reader.specs.internal.Rows.{Sym, Rows, grammar14, prefix_rest, infix_rest, operand_rest, body_sym, part_sym, paren_open, paren_close, dot}
use Rattle.p414_reader.specs.internal.Coded.{ChoosesLine, body_coded}

pub same_token : (a b : Lexeme) (o : Option Lexeme) → o ≡ Some a → o ≡ Some b → a ≡ b
same_token a b None e f = cc
same_token a b (Some t) e f = cc

abbrev infix_row : ℕ → ℕ → BinaryOperator → List Sym
infix_row least power operator = body_sym (Expr (power + 1)) ∷ Put (action.Body (body.Binary operator)) ∷ body_sym (Operators least power) ∷ []

infix_row_is : (least power : ℕ) (operator : BinaryOperator) → power ≡ binary_power operator → infix_row least power operator ≡ infix_rest least (Some operator)
infix_row_is least power operator e =
    ap (λ p. infix_row least p operator) e ∙ ap (λ n. body_sym (Expr n) ∷ Put (action.Body (body.Binary operator)) ∷ body_sym (Operators least (binary_power operator)) ∷ []) (add-one (binary_power operator))

-- the row of an operator behind an operand
pub chosen_operator : {E : Type 0} (least most power : ℕ) (operator : BinaryOperator) (more : List Sym)
    (tokens : List Lexeme) (place : ℕ) (built : Built) (r : Result (Option Class) E) (old new : List Sym)
    → IfOk r (λ chosen. (token : Lexeme) → slice_get tokens place ≡ Some token
    → Chooses chosen (first_fit grammar14 token built (map (with_more more) (plain_lines ((class.Infix least most ⇒ infix_row least power operator) ∷ [])))) old new)
    → power ≡ binary_power operator
    → ((token : Lexeme) → slice_get tokens place ≡ Some token → infix_of token ≡ Some operator)
    → IfOk r (λ chosen. ChoosesLine tokens place built (body_coded (Operators least most)) more chosen old new)
chosen_operator least most power operator more tokens place built r old new h p is =
    IfOk-weaker r _ _
    (λ chosen f token s.
    subst (λ rest. Chooses chosen (first_fit grammar14 token built (map (with_more more) (plain_lines ((class.Infix least most ⇒ rest) ∷ [])))) old new)
    (infix_row_is least power operator p ∙ ap (infix_rest least) (sym (is token s))) (f token s)) h

-- the rows of an expression, where these symbols stand behind an operator before an operand
abbrev pub operand_rows : ℕ → List Sym → Rows
operand_rows least prefix =
    (class.Number ⇒ Put (action.Body body.Number) ∷ operand_rest least)
    ∷ (class.Word key.True ⇒ Put (action.Body (body.Truth true)) ∷ operand_rest least)
    ∷ (class.Word key.False ⇒ Put (action.Body (body.Truth false)) ∷ operand_rest least)
    ∷ (class.Word key.Valid ⇒ paren_open ∷ body_sym ExprInst ∷ paren_close ∷ Put (action.Body body.Valid) ∷ operand_rest least)
    ∷ (class.Mark ParenOpen ⇒ body_sym (Expr 0) ∷ paren_close ∷ Put (action.Body body.Parenthesized) ∷ operand_rest least)
    ∷ (class.Prefix least ⇒ prefix)
    ∷ (class.ExpressionName ⇒ part_sym IndexOption ∷ Put (action.Part part.Inst) ∷ dot ∷ Token class.ExpressionName ∷ Put (action.Part part.Ref) ∷ Put (action.Body body.Field) ∷ operand_rest least)
    ∷ []

pub chosen_operand : {E : Type 0} (least : ℕ) (prefix more : List Sym)
    (tokens : List Lexeme) (place : ℕ) (built : Built) (r : Result (Option Class) E) (old new : List Sym)
    → IfOk r (λ chosen. (token : Lexeme) → slice_get tokens place ≡ Some token
    → Chooses chosen (first_fit grammar14 token built (map (with_more more) (plain_lines (operand_rows least prefix)))) old new)
    → (token : Lexeme) → slice_get tokens place ≡ Some token → prefix ≡ prefix_rest least (prefix_of token)
    → IfOk r (λ chosen. ChoosesLine tokens place built (body_coded (Expr least)) more chosen old new)
chosen_operand least prefix more tokens place built r old new h token s e =
    IfOk-weaker r _ _
    (λ chosen f next t.
    subst (λ x. Chooses chosen x old new)
    (ap (λ p. first_fit grammar14 next built (map (with_more more) (plain_lines (operand_rows least p)))) (e ∙ ap (λ a. prefix_rest least (prefix_of a)) (same_token token next (slice_get tokens place) s t)))
    (f next t)) h
