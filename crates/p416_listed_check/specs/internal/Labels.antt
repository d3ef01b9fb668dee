-- Labels that name none of the actions that a table lists.
use Rattle.std.specs.Prelude.{◌≡◌, ℕ, ◌+◌, Bool, true, false, not, ◌&&◌, List}
use Rattle.std.specs.List.{list_any}
use Rattle.p416_syntax.specs.declared.node.CaseLabel.{CaseLabel}
use Rattle.p416_syntax.specs.declared.node.CaseLabel.TheVariants as label
use Rattle.p416_syntax.specs.Tree.{Stmt16, case_of}
use Rattle.p416_syntax.specs.Names.{Name}
use Rattle.p416_syntax.specs.Scopes.{Sort, Known, sort_in}
use Rattle.p416_listed_check.specs.Pairs.{Pair, is_same_pair}
use Rattle.p416_listed_check.specs.Listings.{is_table}

-- a table of these pairs lists an action, where it is known to be a table
abbrev pub is_listed : Bool → List Pair → Name → Name → Bool
is_listed known pairs table action = known && list_any (is_same_pair (table, action)) pairs

abbrev pub is_outside_listed : Bool → List Pair → Name → CaseLabel → Bool
is_outside_listed known pairs table label.Default = false
is_outside_listed known pairs table (label.Action text) = not (is_listed known pairs table text)

-- where a name means a table, these names have it
abbrev pub Tells : List Known → Name → Sort → Type 0
Tells names text sort = is_table sort ≡ true → sort_in names text ≡ sort

-- how many cases there are
abbrev pub case_count : Stmt16 → ℕ
case_count (case_of before l body) = case_count before + 1
case_count _ = 0
