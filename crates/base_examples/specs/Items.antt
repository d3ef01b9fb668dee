-- The grammar of items, as the parser reads it.
use Rattle.std.specs.Prelude.{ℕ, suc, Bool, true, false, nat_lt, nat_le, ◌&&◌, List, [], ◌∷◌, ◌++◌}
use Rattle.base_examples.specs.declared.item_reader.Lexeme.{Lexeme}
use Rattle.base_examples.specs.declared.item_reader.Lexeme.TheVariants as token
use Rattle.base_examples.specs.declared.item_reader.Class.{Class}
use Rattle.base_examples.specs.declared.item_reader.Class.TheVariants as class
use Rattle.base_examples.specs.declared.item_reader.Phrase.{Phrase}
use Rattle.base_examples.specs.declared.item_reader.Phrase.TheVariants.{Item, Tail, ListEnd, More}
use Rattle.base_examples.specs.declared.item_reader.Event.{Event}
use Rattle.base_examples.specs.declared.item_reader.Event.TheVariants as event
use Rattle.predictive_parser.specs.declared.symbol.Symbol.TheVariants.{Token, Put, Word}
use Rattle.predictive_parser.specs.declared.symbol.Otherwise.{Otherwise}
use Rattle.predictive_parser.specs.declared.symbol.Otherwise.TheVariants.{Refuse, Pass, Build}
use Rattle.predictive_parser.specs.Grammar.{Grammar, Row, Plain, Like, Line, plain_lines, ◌⇒◌}
use Rattle.base_examples.specs.Syntax.{power}

abbrev pub is_operator : ℕ → ℕ → ℕ → Bool
is_operator least most power = nat_lt 0 power && nat_le least power && nat_le power most

abbrev pub accepts : Class → Lexeme → Bool
accepts class.AnyName (token.Name name) = true
accepts (class.Operator least most) token = is_operator least most (power token)
accepts class.Open token.Open = true
accepts class.Close token.Close = true
accepts class.Comma token.Comma = true
accepts class token = false

-- a name that is taken is built
abbrev pub shift : Lexeme → List Event → List Event
shift (token.Name name) built = built ++ event.Name name ∷ []
shift token.Plus built = built
shift token.Times built = built
shift token.Open built = built
shift token.Close built = built
shift token.Comma built = built

abbrev pub rows : Phrase → List (Row Class Event Phrase Lexeme)
rows (Item least) =
    (class.AnyName ⇒ Word (Tail least 9) ∷ [])
    ∷ (class.Open ⇒ Word ListEnd ∷ Word (Tail least 9) ∷ [])
    ∷ []
rows (Tail least most) =
    Plain (class.Operator least most) (λ token. Word (Item (suc (power token))) ∷ Put (event.Both token) ∷ Word (Tail least (power token)) ∷ [])
    ∷ []
rows ListEnd =
    (class.Close ⇒ Put event.Nil ∷ Put event.List ∷ [])
    ∷ Like (Item 0) (Word More ∷ Token class.Close ∷ Put event.Cons ∷ Put event.List ∷ [])
    ∷ []
rows More = (class.Comma ⇒ Word (Item 0) ∷ Word More ∷ Put event.Cons ∷ []) ∷ []

-- the rows that depend on a number or on the token
abbrev pub coded : Phrase → List (Line Class Event Phrase Lexeme)
coded (Item least) = plain_lines (rows (Item least))
coded (Tail least most) = plain_lines (rows (Tail least most))
coded ListEnd = []
coded More = []

abbrev pub otherwise : Phrase → Otherwise Event
otherwise (Item least) = Refuse
otherwise (Tail least most) = Pass
otherwise ListEnd = Refuse
otherwise More = Build event.Nil

abbrev pub items : Grammar Class Event Phrase Lexeme (List Event)
items = record {
  accepts = λ class token built. accepts class token;
  shift = λ class token built. shift token built;
  put = λ action built. built ++ action ∷ [];
  rows = rows;
  otherwise = otherwise;
}
