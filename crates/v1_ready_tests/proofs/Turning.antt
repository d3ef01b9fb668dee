-- One more expression from the inside out.
use Rattle.std.proofs.Common.{◌≡◌, ℕ, suc, ◌-◌, ◌<◌, ◌≤◌, Option, List, [], ◌∷◌, ◌++◌, length, map, drop, get_or, refl, sym, ap, ◌∙◌, arith}
use Rattle.std.proofs.Math.Seq.{drop-cons}
use Rattle.p416_syntax.specs.Tree.{Exp16}
use Rattle.p416_syntax.specs.Names.{Name}
use Rattle.p416_syntax.specs.Scopes.{Scope}
use Rattle.p416_typing.specs.Rows.{row_of}
use Rattle.v1_ready_forms.specs.Named.{NamedSeat}
use Rattle.v1_ready_program.specs.internal.Passes.{Ask, front, behind_front, parts_asked}
use Rattle.v1_ready_tests.specs.declared.plans.Marked.{Marked as CodeMarked}
use Rattle.v1_ready_tests.specs.internal.Coded.{seen_marked}
use Rattle.v1_ready_tests.specs.internal.Passes.{Made, marked_plans, made_step, all_made}

dropped : {A : Type 0} (xs : List A) (left : ℕ) (d : A) → 0 < left → left ≤ length xs → drop (left - 1) xs ≡ get_or xs (left - 1) d ∷ drop left xs
dropped xs left d some within =
    let next : suc (left - 1) ≡ left = omega arith in
    drop-cons xs (left - 1) d (omega arith) ∙ ap (λ n. get_or xs (left - 1) d ∷ drop n xs) next

pub made_turn : (tables : Name → Option ℕ) (plans : List CodeMarked) (views : List Exp16) (left : ℕ) (p q : CodeMarked) (e f : Exp16) (vs ws : List Made) → 0 < left → left ≤ length plans → left ≤ length views → p ≡ get_or plans (left - 1) q
    → e ≡ get_or views (left - 1) f → vs ≡ all_made tables (map seen_marked (drop left plans)) (drop left views) → ws ≡ made_step tables (seen_marked p) e vs → ws ≡ all_made tables (map seen_marked (drop (left - 1) plans)) (drop (left - 1) views)
made_turn tables plans views left p q e f vs ws some in_plans in_views plan_is view_is is so =
    so
    ∙ (ap (λ x. made_step tables (seen_marked x) e vs) plan_is
    ∙ (ap (λ x. made_step tables (seen_marked (get_or plans (left - 1) q)) x vs) view_is
    ∙ (ap (made_step tables (seen_marked (get_or plans (left - 1) q)) (get_or views (left - 1) f)) is
    ∙ sym (ap (λ ps. all_made tables (map seen_marked ps) (drop (left - 1) views)) (dropped plans left q some in_plans)
    ∙ ap (all_made tables (map seen_marked (get_or plans (left - 1) q ∷ drop left plans))) (dropped views left f some in_views)))))

-- as many plans as expressions
pub plans_long : (s : Scope) (seats : List NamedSeat) (qs : List Ask) (es : List Exp16) → length (marked_plans s seats qs es) ≡ length es
plans_long s seats qs [] = refl
plans_long s seats qs (e ∷ es) = ap suc (plans_long s seats (parts_asked (row_of s e) (front qs) e ++ behind_front qs) es)
