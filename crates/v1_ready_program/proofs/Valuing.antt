-- More expressions: values by the places of earlier ones stay what they were.
use Rattle.std.proofs.Common.{◌≡◌, ℕ, suc, ◌-◌, ◌<◌, ◌≤◌, Option, Some, None, List, [], ◌∷◌, ◌++◌, length, map, drop, get_or, refl, sym, ap, ◌∙◌, arith}
use Rattle.std.proofs.Math.Seq.{drop-cons}
use Rattle.p416_syntax.specs.Tree.{Exp16}
use Rattle.v1_ready_program.specs.declared.plans.Plan.{Plan as CodePlan}
use Rattle.p416_syntax.specs.Scopes.{Scope}
use Rattle.p416_typing.specs.Rows.{row_of}
use Rattle.v1_ready_forms.specs.Named.{NamedSeat}
use Rattle.v1_ready_program.specs.internal.Passes.{Ask, front, behind_front, parts_asked, plans, built_step, built}
use Rattle.node_lists.specs.Trees.{Adds}
use Rattle.node_lists.proofs.Growth as growth
use Rattle.v1_core.specs.Ready.{Ready}
use Rattle.v1_core.specs.Nodes.{nothing, ready_at, ready_of}
use Rattle.v1_core.specs.Kept.{Kept, trees}
use Rattle.std.specs.Option.{IfSome}
use Rattle.v1_ready_program.specs.Seen.{Keeps}
use Rattle.v1_ready_program.specs.internal.Coded.{seen_plan, seen_value, seen_values, IsValueIn, AreValuesIn}

pub keeps_same : (es : List Ready) → Keeps es es
keeps_same es = record { places = λ i within. refl; grows = omega arith }

pub keeps_more : (a b c : List Ready) → Keeps a b → Keeps b c → Keeps a c
keeps_more a b c first second = record {
  places = λ i within. let wide : length a ≤ length b = first.grows in second.places i (omega arith) ∙ first.places i within;
  grows = let one : length a ≤ length b = first.grows in let two : length b ≤ length c = second.grows in omega arith;
}

pub keeps_adds : (old new : List Ready) (place : ℕ) (r : Ready) → Adds old new place r → Keeps old new
keeps_adds old new place r adds = record {
  places = growth.adds_keeps old new place r adds nothing;
  grows = omega (arith, growth.adds_len old new place r adds);
}

pub value_added : (old new : List Ready) (place : ℕ) (r : Ready) → Adds old new place r → Some (ready_at new place) ≡ Some r
value_added old new place r adds = ap Some (growth.adds_tree old new place r adds nothing)

pub place_added : (old new : List Ready) (place : ℕ) (r : Ready) → Adds old new place r → place < length new
place_added old new place r adds = growth.adds_place old new place r adds

module _ (old new : List Ready) (keeps : Keeps old new) where
  value_kept : (v : Option ℕ) → IsValueIn (length old) v → seen_value new v ≡ seen_value old v
  value_kept None within = refl
  value_kept (Some i) within = ap Some (keeps.places i within)

  pub values_kept : (vs : List (Option ℕ)) → AreValuesIn (length old) vs → seen_values new vs ≡ seen_values old vs
  values_kept [] within = refl
  values_kept (v ∷ vs) within =
      ap (λ a. a ∷ seen_values new vs) (value_kept v within.0) ∙ ap (λ more. seen_value old v ∷ more) (values_kept vs within.1)

  value_wider : (v : Option ℕ) → IsValueIn (length old) v → IsValueIn (length new) v
  value_wider None within = tt
  value_wider (Some i) within = let more : length old ≤ length new = keeps.grows in omega arith

  pub values_wider : (vs : List (Option ℕ)) → AreValuesIn (length old) vs → AreValuesIn (length new) vs
  values_wider [] within = tt
  values_wider (v ∷ vs) within = (value_wider v within.0, values_wider vs within.1)

pub value_within : (k : Kept) (v : Option ℕ) → IsValueIn (length (trees k)) v → IfSome v (λ place. place < length k.nodes)
value_within k None within = tt
value_within k (Some place) within = let same : length (trees k) ≡ length k.nodes = growth.count ready_of k.nodes in omega arith

-- the next expression from the inside out

dropped : {A : Type 0} (xs : List A) (left : ℕ) (d : A) → 0 < left → left ≤ length xs → drop (left - 1) xs ≡ get_or xs (left - 1) d ∷ drop left xs
dropped xs left d some within =
    let next : suc (left - 1) ≡ left = omega arith in
    drop-cons xs (left - 1) d (omega arith) ∙ ap (λ n. get_or xs (left - 1) d ∷ drop n xs) next

pub built_turn : (plans : List CodePlan) (views : List Exp16) (left : ℕ) (p q : CodePlan) (e f : Exp16) (vs ws : List (Option Ready)) → 0 < left → left ≤ length plans → left ≤ length views → p ≡ get_or plans (left - 1) q → e ≡ get_or views (left - 1) f → vs ≡ built (map seen_plan (drop left plans)) (drop left views)
    → ws ≡ built_step (seen_plan p) e vs → ws ≡ built (map seen_plan (drop (left - 1) plans)) (drop (left - 1) views)
built_turn plans views left p q e f vs ws some in_plans in_views plan_is view_is is so =
    so
    ∙ (ap (λ x. built_step (seen_plan x) e vs) plan_is
    ∙ (ap (λ x. built_step (seen_plan (get_or plans (left - 1) q)) x vs) view_is
    ∙ (ap (built_step (seen_plan (get_or plans (left - 1) q)) (get_or views (left - 1) f)) is
    ∙ sym (ap (λ ps. built (map seen_plan ps) (drop (left - 1) views)) (dropped plans left q some in_plans)
    ∙ ap (built (map seen_plan (get_or plans (left - 1) q ∷ drop left plans))) (dropped views left f some in_views)))))

-- as many plans as expressions
pub plans_long : (s : Scope) (seats : List NamedSeat) (qs : List Ask) (es : List Exp16) → length (plans s seats qs es) ≡ length es
plans_long s seats qs [] = refl
plans_long s seats qs (e ∷ es) = ap suc (plans_long s seats (parts_asked (row_of s e) (front qs) e ++ behind_front qs) es)
