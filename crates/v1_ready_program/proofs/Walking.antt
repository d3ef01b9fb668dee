-- The steps of ways: what `node_lists` proves of any list of nodes.
use Rattle.std.proofs.Common.{◌≡◌, ℕ, ◌<◌, List, [], length, get_or, refl, ap}
use Rattle.node_lists.specs.Trees.{grow, AllInOrder}
use Rattle.node_lists.proofs.Growth as growth
use Rattle.v1_ready_forms.specs.Ways.{its_value, through_member, through_element, through_told}
use Rattle.v1_ready_program.specs.declared.ways.Step.{Step}
use Rattle.v1_ready_program.specs.declared.ways.Step.TheVariants as step
use Rattle.v1_ready_program.specs.internal.Ways.{IsStep, way_at, way_of}

-- the way of a step depends on no ways but the one behind it
of_behind : growth.OfChildren its_value way_of IsStep
of_behind n ways others step.Value o h = refl
of_behind n ways others step.Validity o h = refl
of_behind n ways others (step.Member word w) o h = ap (λ t. through_member word.now t) (h w o)
of_behind n ways others (step.Element number w) o h = ap (λ t. through_element number t) (h w o)
of_behind n ways others (step.Told which w) o h = ap (λ t. through_told which t) (h w o)

read : (steps : List Step) (i : ℕ) (x : Step) → AllInOrder IsStep 0 steps → i < length (grow way_of [] steps) → x ≡ get_or steps i x → (way_at (grow way_of [] steps) i ≡ way_of (grow way_of [] steps) x) × IsStep i x
read steps i x order within is = growth.node_tree its_value way_of IsStep of_behind steps i x order within is

pub read_way : (steps : List Step) (i : ℕ) (x : Step) → AllInOrder IsStep 0 steps → i < length (grow way_of [] steps) → x ≡ get_or steps i x → way_at (grow way_of [] steps) i ≡ way_of (grow way_of [] steps) x
read_way steps i x order within is = (read steps i x order within is).0

pub read_order : (steps : List Step) (i : ℕ) (x : Step) → AllInOrder IsStep 0 steps → i < length (grow way_of [] steps) → x ≡ get_or steps i x → IsStep i x
read_order steps i x order within is = (read steps i x order within is).1

pub ways_count : (steps : List Step) → length (grow way_of [] steps) ≡ length steps
ways_count steps = growth.count way_of steps
