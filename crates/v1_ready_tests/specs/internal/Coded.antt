-- What the marks, values and parts of code are.
use Rattle.std.specs.Prelude.{ℕ, ◌<◌, List, [], ◌∷◌, length, map, Option, option_map, IfSome}
use Rattle.v1_core.specs.Ready.{Ready}
use Rattle.v1_ready_blocks.specs.Tests.{Test}
use Rattle.v1_ready_blocks.specs.Nodes.{Tree, test_at}
use Rattle.v1_ready_program.specs.internal.Coded.{seen_plan, seen_value, IsValueIn}
use Rattle.v1_ready_nodes.specs.Held.{Held, ready_in, trees_in}
use Rattle.v1_ready_tests.specs.declared.made.Made.{Made as CodeMade}
use Rattle.v1_ready_tests.specs.declared.made.Made.TheVariants as made_of
use Rattle.v1_ready_tests.specs.declared.made.MadeParts.{MadeParts as CodeParts}
use Rattle.v1_ready_tests.specs.declared.plans.Marked.{Marked as CodeMarked}
use Rattle.v1_ready_tests.specs.internal.Passes.{Marked, Made, plainly, tested, MadeParts}

abbrev pub seen_marked : CodeMarked → Marked
seen_marked p = record { mark = record { alone = p.alone; applied = p.applied }; plan = seen_plan p.plan }

-- over these expressions and trees

abbrev pub test_over : List Tree → Option ℕ → Option Test
test_over ts place = option_map (test_at ts) place

abbrev pub made_over : List Ready → List Tree → CodeMade → Made
made_over es ts (made_of.Plain place) = plainly (seen_value es place)
made_over es ts (made_of.Tested own place) = tested own (test_over ts place)

abbrev pub all_over : List Ready → List Tree → List CodeMade → List Made
all_over es ts vs = map (made_over es ts) vs

abbrev pub parts_over : List Ready → List Tree → CodeParts → MadeParts
parts_over es ts x =
    record { first = made_over es ts x.first; second = made_over es ts x.second; third = made_over es ts x.third }

-- these are among so many expressions, and so many trees

abbrev pub IsTestAmong : ℕ → Option ℕ → Type 0
IsTestAmong m place = IfSome place (λ i. i < m)

abbrev pub IsMadeAmong : ℕ → ℕ → CodeMade → Type 0
IsMadeAmong n m (made_of.Plain place) = IsValueIn n place
IsMadeAmong n m (made_of.Tested own place) = IsTestAmong m place

abbrev pub AreMadeAmong : ℕ → ℕ → List CodeMade → Type 0
AreMadeAmong n m [] = Unit {0}
AreMadeAmong n m (v ∷ vs) = IsMadeAmong n m v × AreMadeAmong n m vs

abbrev pub ArePartsAmong : ℕ → ℕ → CodeParts → Type 0
ArePartsAmong n m x = IsMadeAmong n m x.first × IsMadeAmong n m x.second × IsMadeAmong n m x.third

-- over what is held

abbrev pub seen_test : Held → Option ℕ → Option Test
seen_test h place = test_over (trees_in h) place

abbrev pub seen_made : Held → CodeMade → Made
seen_made h v = made_over (ready_in h) (trees_in h) v

abbrev pub seen_all : Held → List CodeMade → List Made
seen_all h vs = all_over (ready_in h) (trees_in h) vs

abbrev pub seen_made_parts : Held → CodeParts → MadeParts
seen_made_parts h x = parts_over (ready_in h) (trees_in h) x

abbrev pub IsTestIn : Held → Option ℕ → Type 0
IsTestIn h place = IsTestAmong (length (trees_in h)) place

abbrev pub IsMadeIn : Held → CodeMade → Type 0
IsMadeIn h v = IsMadeAmong (length (ready_in h)) (length (trees_in h)) v

abbrev pub AreMadeIn : Held → List CodeMade → Type 0
AreMadeIn h vs = AreMadeAmong (length (ready_in h)) (length (trees_in h)) vs

abbrev pub ArePartsMade : Held → CodeParts → Type 0
ArePartsMade h x = ArePartsAmong (length (ready_in h)) (length (trees_in h)) x
