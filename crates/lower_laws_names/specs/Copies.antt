-- The copies of actions: one for each pipeline whose tables list the action, under the action's new name; and one for
-- each table that lists it and has a direct counter, which counts first (this project's own; P4_14 1.0.5, "Actions",
-- "Table Declarations", "Counters"; P4_16 1.2, "Actions"; `v1model.p4`, `direct_counter`). Whether a table stands in
-- egress is told by its number.
use Rattle.std.specs.Prelude.{◌≡◌, ℕ, ◌+◌, ◌^◌, ◌<◌, Bool, true, false, not, ◌&&◌, is_some, nat_eq, if◌then◌else◌, List, [], ◌∷◌, ◌++◌, length, map, filter, codes, Option, Some, None}
use Rattle.std.specs.List.{list_any}
use Rattle.std.specs.Str.{bytes_eq}
use Rattle.p414_syntax.specs.declared.tables.Table.{Table}
use Rattle.p414_syntax.specs.declared.syntax.Decl.{Decl}
use Rattle.p414_syntax.specs.declared.syntax.Sort.{Sort}
use Rattle.p414_syntax.specs.declared.syntax.Sort.TheVariants as sort
use Rattle.p414_syntax.specs.Names.{Name}
use Rattle.p414_syntax.specs.Tables.{tables, listed_in}
use Rattle.p414_sem.specs.Signatures.{direct_counter}
use Rattle.lower_laws_names.specs.Declared.{Among}
use Rattle.lower_laws_names.specs.Reaches.{IsNumbered, Outer, declared, copy}

-- a table lists an action: the number of the table, and that of the line among the lines of all tables
pub record Listing : Type 0 where
  pub table : ℕ
  pub number : ℕ
  pub action : Name
  pub is_counted : Bool
  pub in_egress : Bool

-- the lines of a table, of which the first has this number
abbrev pub lines_from : Bool → Bool → ℕ → ℕ → List Name → List Listing
lines_from counted egress table number [] = []
lines_from counted egress table number (name ∷ names) =
    record { table = table; number = number; action = name; is_counted = counted; in_egress = egress }
    ∷ lines_from counted egress table (number + 1) names

module _ (ds : List Decl) (egress : ℕ → Bool) where
  -- the lines of these tables, of which the first has this number, from this line on
  abbrev pub listings_from : ℕ → ℕ → List Table → List Listing
  listings_from table number [] = []
  listings_from table number (t ∷ ts) =
      lines_from (is_some (direct_counter ds t.name)) (egress table) table number (listed_in t)
      ++ listings_from (table + 1) (number + length (listed_in t)) ts

  -- the lines of all tables, in the order of declaration
  abbrev pub listings : List Listing
  listings = listings_from 0 0 (tables ds)

-- a copy of an action, that of the table with a direct counter where there is a table
pub record Copy : Type 0 where
  pub action : Name
  pub in_egress : Bool
  pub table : Option ℕ
  pub outer : Outer

-- two truth values are one
abbrev pub is_same_bit : Bool → Bool → Bool
is_same_bit true b = b
is_same_bit false b = not b

-- the same action of the same pipeline, or of the same table
abbrev pub is_same_pipeline : Listing → Listing → Bool
is_same_pipeline l m = is_same_bit l.in_egress m.in_egress && bytes_eq l.action m.action

-- the same action of the same table
abbrev pub is_same_table : Listing → Listing → Bool
is_same_table l m = nat_eq l.table m.table && bytes_eq l.action m.action

-- the copy of an action for a pipeline
abbrev pub plain_copy : Listing → Copy
plain_copy l =
    record { action = l.action; in_egress = l.in_egress; table = None; outer = declared sort.Action l.action }

-- the copy of an action for a table with a direct counter
abbrev pub counted_copy : Listing → Copy
counted_copy l =
    record { action = l.action; in_egress = l.in_egress; table = Some l.table; outer = copy l.number l.action }

-- a list of one copy, or of none
abbrev pub one_if : Bool → Copy → List Copy
one_if true c = c ∷ []
one_if false c = []

-- the copies of these lines, behind those lines
abbrev pub copies_behind : List Listing → List Listing → List Copy
copies_behind before [] = []
copies_behind before (l ∷ ls) =
    one_if (not (list_any (is_same_pipeline l) before)) (plain_copy l)
    ++ (one_if (l.is_counted && not (list_any (is_same_table l) before)) (counted_copy l)
    ++ copies_behind (before ++ l ∷ []) ls)

-- the copies of a program, each where its first line stands
abbrev pub copies : List Decl → (ℕ → Bool) → List Copy
copies ds egress = copies_behind [] (listings ds egress)

-- what a table calls an action that it lists: its copy, where it has a direct counter
abbrev pub listing_outer : Listing → Outer
listing_outer l = if l.is_counted then copy l.number l.action else declared sort.Action l.action

-- what this table calls this action, if it lists it
abbrev pub outer_in : List Listing → ℕ → Name → Option Outer
outer_in [] table action = None
outer_in (l ∷ ls) table action =
    if nat_eq l.table table && bytes_eq l.action action then Some (listing_outer l) else outer_in ls table action

-- the copies of a pipeline, in egress or in ingress
abbrev pub in_pipeline : Bool → Copy → Bool
in_pipeline egress c = is_same_bit egress c.in_egress

-- the copies of a pipeline, as things of the outer reach
abbrev pub outers : Bool → List Copy → List Outer
outers egress cs = map (λ (c : Copy). c.outer) (filter (in_pipeline egress) cs)

-- each action that a table lists is declared, and the lines have numbers
abbrev pub LinesFit : List Decl → List Listing → Type 0
LinesFit ds [] = Unit {0}
LinesFit ds (l ∷ ls) = IsNumbered ds sort.Action l.action × (l.number < 2 ^ 32) × LinesFit ds ls

-- a sort of the program has each of these names, under small numbers
abbrev pub AllNumbered : List Decl → Sort → List Name → Type 0
AllNumbered ds s [] = Unit {0}
AllNumbered ds s (n ∷ names) = IsNumbered ds s n × AllNumbered ds s names

-- the parameters and variables that a control may have
abbrev pub control_words : List Name
control_words =
    codes "hdr" ∷ codes "meta" ∷ codes "sm" ∷ codes "old_hdr" ∷ codes "old_meta" ∷ codes "old_sm" ∷ []

-- A table finds each of its actions among the copies of its pipeline.
abbrev pub IsFound : List Decl → (ℕ → Bool) → Type 0
IsFound ds egress =
    (table : ℕ) (action : Name) (o : Outer) → outer_in (listings ds egress) table action ≡ Some o →
    Among o (outers (egress table) (copies ds egress))
