-- What is found, the sources and the steps of code.
use Rattle.std.specs.Prelude.{ℕ, ◌<◌, List, [], ◌∷◌, length, map, Option, option_map, IfSome}
use Rattle.p416_syntax.specs.Scopes.{Layout}
use Rattle.v1_ready_forms.specs.Ways.{Way}
use Rattle.v1_ready_blocks.specs.declared.places.RangePlace.{RangePlace}
use Rattle.v1_ready_blocks.specs.Tests.{Source}
use Rattle.v1_ready_blocks.specs.Nodes.{Tree, source_at}
use Rattle.v1_ready_program.specs.Seen.{seen_spot}
use Rattle.v1_ready_program.specs.internal.Ways.{way_at}
use Rattle.v1_ready_nodes.specs.Held.{Held, trees_in}
use Rattle.v1_ready_statements.specs.Tested.{way_range}
use Rattle.v1_ready_tests.specs.internal.Coded.{seen_test, IsTestIn}
use Rattle.v1_ready_operands.specs.declared.follow.Taken.{Taken}
use Rattle.v1_ready_operands.specs.declared.follow.Taken.TheVariants as taken
use Rattle.v1_ready_operands.specs.declared.found.Found.{Found as CodeFound}
use Rattle.v1_ready_operands.specs.declared.found.Found.TheVariants as found_of
use Rattle.v1_ready_operands.specs.internal.SourcePasses.{Found, parts_found, choice_found}

-- what a step leads to, given the ways that stand before it
abbrev pub taken_range : List Layout → List Way → Taken → Option RangePlace
taken_range types ways (taken.On next behind) = way_range types (way_at ways behind) (seen_spot next)
taken_range types ways (taken.End found) = found

-- the way on from there stands before this place
abbrev pub IsBefore : ℕ → Taken → Type 0
IsBefore n (taken.On next behind) = behind < n
IsBefore n (taken.End found) = Unit {0}

abbrev pub seen_found : Held → CodeFound → Found
seen_found h (found_of.Parts range) = parts_found range
seen_found h (found_of.Chosen test) = choice_found (seen_test h test)

abbrev pub seen_founds : Held → List CodeFound → List Found
seen_founds h fs = map (seen_found h) fs

abbrev pub IsFoundIn : Held → CodeFound → Type 0
IsFoundIn h (found_of.Parts range) = Unit {0}
IsFoundIn h (found_of.Chosen test) = IsTestIn h test

abbrev pub AreFoundIn : Held → List CodeFound → Type 0
AreFoundIn h [] = Unit {0}
AreFoundIn h (f ∷ fs) = IsFoundIn h f × AreFoundIn h fs

-- over these trees, and among so many

abbrev pub source_over : List Tree → Option ℕ → Option Source
source_over ts place = option_map (source_at ts) place

abbrev pub sources_over : List Tree → List (Option ℕ) → List (Option Source)
sources_over ts places = map (source_over ts) places

abbrev pub IsSourceAmong : ℕ → Option ℕ → Type 0
IsSourceAmong m place = IfSome place (λ i. i < m)

abbrev pub AreSourcesAmong : ℕ → List (Option ℕ) → Type 0
AreSourcesAmong m [] = Unit {0}
AreSourcesAmong m (x ∷ xs) = IsSourceAmong m x × AreSourcesAmong m xs

-- over what is held

abbrev pub seen_source : Held → Option ℕ → Option Source
seen_source h place = source_over (trees_in h) place

abbrev pub seen_sources : Held → List (Option ℕ) → List (Option Source)
seen_sources h places = sources_over (trees_in h) places

abbrev pub IsSourceIn : Held → Option ℕ → Type 0
IsSourceIn h place = IsSourceAmong (length (trees_in h)) place

abbrev pub AreSourcesIn : Held → List (Option ℕ) → Type 0
AreSourcesIn h places = AreSourcesAmong (length (trees_in h)) places
