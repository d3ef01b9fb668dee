-- The rows of the grammar that code chooses from by a method, since they depend on how tightly an operator binds (this
-- project's own). All others are constants of the code.
use Rattle.std.specs.Prelude.{ℕ, List, [], map, Option, Some, ◌≡◌, slice_get}
use Rattle.predictive_parser.specs.Grammar.{Line, plain_lines, first_fit, with_more}
use Rattle.predictive_parser.specs.Choices.{Chooses}
use Rattle.p416_syntax.specs.Tokens.{Seen16}
use Rattle.p416_reader.specs.declared.symbols.Class.{Class}
use Rattle.p416_reader.specs.declared.symbols.Action.{Action}
use Rattle.p416_reader.specs.declared.symbols.Word.{Word}
use Rattle.p416_reader.specs.declared.symbols.Word.TheVariants as word
use Rattle.p416_reader.specs.declared.symbols.BodyWord.{BodyWord}
use Rattle.p416_reader.specs.declared.symbols.BodyWord.TheVariants as body_word
use Rattle.p416_reader.specs.declared.built.Built.{Built}
use Rattle.p416_reader.specs.internal.Rows.{Sym, operator_rows, grammar16}

abbrev pub Lines : Type 0
Lines = List (Line Class Action Word Seen16)

-- the rows of operators that bind so tightly
abbrev pub OperatorLines : ℕ → ℕ → Lines
OperatorLines least most = plain_lines (operator_rows least most)

-- the rows of a word for expressions that depend on a number
abbrev pub body_coded : BodyWord → Lines
body_coded body_word.Exp = []
body_coded body_word.Operand = []
body_coded body_word.PlainOperand = []
body_coded body_word.AfterParen = []
body_coded body_word.SomePostfix = []
body_coded body_word.Postfix = []
body_coded body_word.AfterDot = []
body_coded body_word.AfterLookahead = []
body_coded body_word.AfterNumber = []
body_coded body_word.Args = []
body_coded body_word.Arg = []
body_coded body_word.MoreArgs = []
body_coded body_word.Items = []
body_coded body_word.MoreItems = []
body_coded (body_word.Operators least most) = OperatorLines least most
body_coded body_word.SomeOperators = OperatorLines 0 11
body_coded body_word.PlainStmt = []
body_coded body_word.Stmt = []
body_coded body_word.Stmts = []
body_coded body_word.StmtEnd = []
body_coded body_word.NamedEnd = []
body_coded body_word.VarEnd = []
body_coded body_word.ElseOption = []
body_coded body_word.Cases = []

-- the same of all words
abbrev pub coded : Word → Lines
coded (word.Part w) = []
coded (word.Body w) = body_coded w
coded (word.State w) = []
coded (word.Control w) = []
coded (word.Decl w) = []

-- The class is that of the first of the lines that fits the token at the place, and its symbols are put in front of the
-- others, with more behind them.
abbrev pub ChoosesLine : List Seen16 → ℕ → Built → Lines → List Sym → Option Class → List Sym → List Sym → Type 0
ChoosesLine tokens place built lines more class old new =
    (token : Seen16) → slice_get tokens place ≡ Some token → Chooses class (first_fit grammar16 token built (map (with_more more) lines)) old new
