-- The row that is chosen of operators is the first that fits.
use Rattle.std.proofs.Common.{◌≡◌, ℕ, List, [], ◌∷◌, map, Option, Some, None, Result, IfOk, ap, ◌∙◌, subst}
use Rattle.std.specs.Prelude.{slice_get}
use Rattle.std.proofs.lemmas.Result.{IfOk-weaker}
use Rattle.predictive_parser.specs.Grammar.{first_fit, with_more, plain_lines, ◌⇒◌}
use Rattle.predictive_parser.specs.Choices.{Chooses}
use Rattle.p416_syntax.specs.Tokens.{Seen16}
use Rattle.p416_reader.specs.declared.symbols.Class.{Class}
use Rattle.p416_reader.specs.declared.symbols.Class.TheVariants as class
use Rattle.p416_reader.specs.declared.built.Built.{Built}
use Rattle.p416_reader.specs.internal.Classes.{infix_of}
use Rattle.p416_reader.specs.internal.Rows.{Sym, Rows, grammar16, infix_rest, question_rest}
use Rattle.p416_reader.specs.internal.Coded.{ChoosesLine, OperatorLines}

pub same_token : (a b : Seen16) (o : Option Seen16) → o ≡ Some a → o ≡ Some b → a ≡ b
same_token a b None e f = cc
same_token a b (Some t) e f = cc

-- the rows of operators, where these symbols stand behind an operator
abbrev rows_with : ℕ → ℕ → List Sym → Rows
rows_with least most infix_ = (class.Infix least most ⇒ infix_) ∷ (class.Question least most ⇒ question_rest) ∷ []

pub chosen_operator : {E : Type 0} (least most : ℕ) (rest more : List Sym)
    (tokens : List Seen16) (place : ℕ) (built : Built) (r : Result (Option Class) E) (old new : List Sym)
    → IfOk r (λ chosen. (token : Seen16) → slice_get tokens place ≡ Some token
    → Chooses chosen (first_fit grammar16 token built (map (with_more more) (plain_lines (rows_with least most rest)))) old new)
    → (token : Seen16) → slice_get tokens place ≡ Some token → rest ≡ infix_rest least (infix_of token)
    → IfOk r (λ chosen. ChoosesLine tokens place built (OperatorLines least most) more chosen old new)
chosen_operator least most rest more tokens place built r old new h token s e =
    IfOk-weaker r _ _
    (λ chosen f next t.
    subst (λ x. Chooses chosen x old new)
    (ap (λ p. first_fit grammar16 next built (map (with_more more) (plain_lines (rows_with least most p)))) (e ∙ ap (λ a. infix_rest least (infix_of a)) (same_token token next (slice_get tokens place) s t)))
    (f next t)) h
