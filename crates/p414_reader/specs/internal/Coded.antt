-- The rows of the grammar that code chooses from by a method, since they depend on how tightly an operator binds (this
-- project's own). All others are constants of the code.
use Rattle.std.specs.Prelude.{ℕ, List, [], map, Option, Some, ◌≡◌, slice_get}
use Rattle.predictive_parser.specs.Grammar.{Line, plain_lines, first_fit, with_more}
use Rattle.predictive_parser.specs.Choices.{Chooses}
use Rattle.p414_syntax.specs.declared.lexeme.Lexeme.{Lexeme}
use Rattle.p414_reader.specs.declared.symbols.Class.{Class}
use Rattle.p414_reader.specs.declared.symbols.Action.{Action}
use Rattle.p414_reader.specs.declared.symbols.Word.{Word}
use Rattle.p414_reader.specs.declared.symbols.Word.TheVariants as word
use Rattle.p414_reader.specs.declared.symbols.BodyWord.{BodyWord}
use Rattle.p414_reader.specs.declared.symbols.BodyWord.TheVariants.{Expr, Operators, ExprInst, AfterApply, ApplyEnd, AfterIf, ElseOption, AfterElse, Branches}
use Rattle.p414_reader.specs.declared.symbols.BodyWord.TheVariants as body_word
use Rattle.p414_reader.specs.declared.built.Built.{Built}
use Rattle.p414_reader.specs.internal.Rows.{Sym, body_rows, grammar14}

abbrev pub Lines : Type 0
Lines = List (Line Class Action Word Lexeme)

-- the rows of a word for expressions and controls that depend on a number
abbrev pub body_coded : BodyWord → Lines
body_coded (Expr least) = plain_lines (body_rows (Expr least))
body_coded (Operators least most) = plain_lines (body_rows (Operators least most))
body_coded ExprInst = []
body_coded body_word.Statements = []
body_coded AfterApply = []
body_coded ApplyEnd = []
body_coded AfterIf = []
body_coded ElseOption = []
body_coded AfterElse = []
body_coded Branches = []

-- the same of all words
abbrev pub coded : Word → Lines
coded (word.Part w) = []
coded (word.Header w) = []
coded (word.Calculation w) = []
coded (word.State w) = []
coded (word.Call w) = []
coded (word.Table w) = []
coded (word.Object w) = []
coded (word.Body w) = body_coded w
coded word.LeftOutEnd = []
coded word.Group = []
coded word.Decls = []

-- The class is that of the first of the lines that fits the token at the place, and its symbols are put in front of the
-- others, with more behind them.
abbrev pub ChoosesLine : List Lexeme → ℕ → Built → Lines → List Sym → Option Class → List Sym → List Sym → Type 0
ChoosesLine tokens place built lines more class old new =
    (token : Lexeme) → slice_get tokens place ≡ Some token → Chooses class (first_fit grammar14 token built (map (with_more more) lines)) old new
