-- Items with operators between them and lists of items in parentheses, and the tokens that they are
-- written with.
use Rattle.std.specs.Prelude.{◌≡◌, ℕ, suc, ◌<◌, ◌≤◌, List, [], ◌∷◌, ◌++◌}
use Rattle.base_examples.specs.declared.item_reader.Lexeme.{Lexeme}
use Rattle.base_examples.specs.declared.item_reader.Lexeme.TheVariants as token
use Rattle.base_examples.specs.declared.item_reader.Event.{Event}
use Rattle.base_examples.specs.declared.item_reader.Event.TheVariants as event

-- a name, two items with an operator between them, or a list of items
mutual
  pub data Item : Type 0 where
    Name : ℕ → Item
    Both : Lexeme → Item → Item → Item
    Group : Items → Item

  pub data Items : Type 0 where
    None_left : Items
    First : Item → Items → Items

-- how tight an operator binds, and 0 for what is none
abbrev pub power : Lexeme → ℕ
power token.Plus = 1
power token.Times = 2
power (token.Name name) = 0
power token.Open = 0
power token.Close = 0
power token.Comma = 0

abbrev mutual
  -- An item whose operators outside parentheses bind at least so tight. The left one of two operators
  -- that bind alike is done first.
  pub Spells : ℕ → Item → List Lexeme → Type 0
  Spells least (Name name) tokens = tokens ≡ token.Name name ∷ []
  Spells least (Both operator left right) tokens =
      (first : List Lexeme) × (second : List Lexeme) × (tokens ≡ first ++ operator ∷ second) × (0 < power operator) × (least ≤ power operator)
      × Spells (power operator) left first × Spells (suc (power operator)) right second
  Spells least (Group None_left) tokens = tokens ≡ token.Open ∷ token.Close ∷ []
  Spells least (Group (First item items)) tokens =
      (part : List Lexeme) × (more : List Lexeme) × (tokens ≡ token.Open ∷ (part ++ (more ++ token.Close ∷ []))) × Spells 0 item part × SpellsMore items more

  -- a comma and an item, for each item
  pub SpellsMore : Items → List Lexeme → Type 0
  SpellsMore None_left tokens = tokens ≡ []
  SpellsMore (First item items) tokens =
      (part : List Lexeme) × (more : List Lexeme) × (tokens ≡ token.Comma ∷ (part ++ more)) × Spells 0 item part × SpellsMore items more

abbrev mutual
  -- an item, its parts first
  pub postorder : Item → List Event
  postorder (Name name) = event.Name name ∷ []
  postorder (Both operator left right) = postorder left ++ (postorder right ++ event.Both operator ∷ [])
  postorder (Group items) = postorders items ++ event.List ∷ []

  pub postorders : Items → List Event
  postorders None_left = event.Nil ∷ []
  postorders (First item items) = postorder item ++ (postorders items ++ event.Cons ∷ [])
