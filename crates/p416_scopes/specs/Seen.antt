-- Which scope of the rules a scope of code is.
use Rattle.std.specs.Prelude.{ℕ, List, [], ◌∷◌, slice_get}
use Rattle.std.specs.Option.{option_map_or}
use Rattle.p416_syntax.specs.declared.program.Decl16.{Decl16}
use Rattle.p416_syntax.specs.Names.{Name}
use Rattle.p416_syntax.specs.Scopes as rule
use Rattle.p416_syntax.specs.Scopes.{Known, known, undeclared}
use Rattle.p416_syntax.specs.Declarations.{top_scope, top_names, layouts_of}
use Rattle.p416_names.specs.declared.sort.Sort.{Sort}
use Rattle.p416_names.specs.Seen.{seen_sort}
use Rattle.p416_scopes.specs.declared.scope.Part.{Part}
use Rattle.p416_scopes.specs.declared.scope.Part.TheVariants as part_of
use Rattle.p416_scopes.specs.declared.scope.Scope.{Scope}
use Rattle.p416_scopes.specs.declared.enter.Declared.{Declared}

abbrev pub seen_part : Part → rule.Part
seen_part part_of.InParser = rule.in_parser
seen_part part_of.InApply = rule.in_apply
seen_part (part_of.InAction text) = rule.in_action text.now
seen_part part_of.InKey = rule.in_key
seen_part part_of.Elsewhere = rule.elsewhere

-- these names, the last one first, and behind them those further out
abbrev pub own_names : List Known → List Name → List Sort → List Known → List Known
own_names top [] sorts outer = outer
own_names top (name ∷ names) [] outer = outer
own_names top (name ∷ names) (x ∷ sorts) outer = own_names top names sorts (known (seen_sort top x) name ∷ outer)

abbrev pub seen_scope : Scope → rule.Scope
seen_scope s = record {
  layouts = layouts_of s.top.now;
  names = own_names (top_names s.top.now) s.names s.sorts.items (top_names s.top.now);
  positions = s.positions.now;
  part = seen_part s.part;
}

-- the scope at the top, in a part of a block that stands at these places of `main`
abbrev pub outer_scope : List Decl16 → List ℕ → rule.Part → rule.Scope
outer_scope ds positions part = record (top_scope ds positions) { part = part }

-- the sort at a place
abbrev pub sort_at : List Known → List Sort → ℕ → rule.Sort
sort_at top sorts place = option_map_or (seen_sort top) (slice_get sorts place) undeclared

-- what a name is declared as
abbrev pub seen_declared : List Known → Declared → Known
seen_declared top d = known (seen_sort top d.sort) d.name.now
