-- One turn of the way from the outside in.
use Rattle.std.proofs.Common.{◌≡◌, ℕ, suc, ◌+◌, ◌<◌, List, [], ◌∷◌, ◌++◌, length, map, drop, get_or, sym, ap, ◌∙◌, arith, append_assoc}
use Rattle.std.proofs.Math.Seq.{drop-cons}
use Rattle.std.proofs.lemmas.List.{map-append}
use Rattle.p416_syntax.specs.Tree.{Exp16}
use Rattle.p416_syntax.specs.Scopes.{Scope}
use Rattle.p416_typing.specs.Rows.{RowOf, row_of}
use Rattle.v1_ready_forms.specs.Named.{NamedSeat}
use Rattle.v1_ready_program.specs.declared.plans.Plan.{Plan as CodePlan}
use Rattle.v1_ready_program.specs.internal.Coded.{seen_plan}
use Rattle.v1_ready_program.specs.internal.Passes.{Ask, Plan, front, behind_front, parts_asked, planned, plans}

next : (views : List Exp16) (i : ℕ) (v : Exp16) → i < length views → v ≡ get_or views i v → drop i views ≡ v ∷ drop (i + 1) views
next views i v within is =
    let one : suc i ≡ i + 1 = omega arith in
    drop-cons views i v within ∙ (ap (λ x. x ∷ drop (suc i) views) (sym is) ∙ ap (λ n. v ∷ drop n views) one)

pub record IsRowNext (s : Scope) (v : Exp16) (row : RowOf) (rest : List RowOf) (more : List Exp16) : Type 0 where
  pub row_is : row ≡ row_of s v
  pub rest_is : rest ≡ map (row_of s) more

pub rows_turn : (s : Scope) (views : List Exp16) (i : ℕ) (v : Exp16) (rows : List RowOf) (row : RowOf) (rest : List RowOf) → i < length views → v ≡ get_or views i v → rows ≡ row ∷ rest → rows ≡ map (row_of s) (drop i views) → IsRowNext s v row rest (drop (i + 1) views)
rows_turn s views i v rows row rest within is taken known =
    let both : row ∷ rest ≡ row_of s v ∷ map (row_of s) (drop (i + 1) views) = sym taken ∙ (known ∙ ap (map (row_of s)) (next views i v within is)) in
    record { row_is = cc both; rest_is = cc both }

pub plans_turn : (s : Scope) (seats : List NamedSeat) (views : List Exp16) (i : ℕ) (v : Exp16) (made now : List CodePlan) (p : CodePlan) (qs rs : List Ask) (whole : List Plan) → i < length views → v ≡ get_or views i v → now ≡ made ++ p ∷ [] → seen_plan p ≡ planned s seats (row_of s v) (front qs) v
    → rs ≡ parts_asked (row_of s v) (front qs) v ++ behind_front qs → map seen_plan made ++ plans s seats qs (drop i views) ≡ whole → map seen_plan now ++ plans s seats rs (drop (i + 1) views) ≡ whole
plans_turn s seats views i v made now p qs rs whole within is pushed plan_is asks so =
    ap (λ ps. map seen_plan ps ++ plans s seats rs (drop (i + 1) views)) pushed
    ∙ (ap (λ ps. ps ++ plans s seats rs (drop (i + 1) views)) (map-append seen_plan made (p ∷ []))
    ∙ (append_assoc (map seen_plan made) (seen_plan p ∷ []) (plans s seats rs (drop (i + 1) views))
    ∙ (ap (λ x. map seen_plan made ++ x ∷ plans s seats rs (drop (i + 1) views)) plan_is
    ∙ (ap (λ q. map seen_plan made ++ planned s seats (row_of s v) (front qs) v ∷ plans s seats q (drop (i + 1) views)) asks
    ∙ (sym (ap (λ es. map seen_plan made ++ plans s seats qs es) (next views i v within is)) ∙ so)))))
