-- What is known of an expression tells whether it is the application of a table; and one turn of the way from the outside in.
use Rattle.std.proofs.Common.{◌≡◌, ℕ, suc, ◌+◌, ◌<◌, Bool, List, [], ◌∷◌, ◌++◌, length, map, drop, get_or, refl, sym, ap, ◌∙◌, arith, append_assoc}
use Rattle.std.proofs.Math.Seq.{drop-cons}
use Rattle.std.proofs.lemmas.List.{map-append}
use Rattle.p416_syntax.specs.Tree.{Exp16}
use Rattle.p416_syntax.specs.Scopes.{Known, Scope}
use Rattle.p416_syntax.specs.Expressions.{kind_of}
use Rattle.p416_names.specs.SeenKinds.{seen_kind}
use Rattle.p416_typing.specs.declared.row.Row.{Row}
use Rattle.p416_typing.specs.Rows.{RowOf, row_of}
use Rattle.p416_typing.specs.Seen.{seen_row}
use Rattle.v1_ready_forms.specs.Named.{NamedSeat}
use Rattle.v1_ready_program.specs.internal.Passes.{Ask, Plan, front, behind_front, parts_asked, planned}
use Rattle.v1_ready_tests.specs.declared.plans.Marked.{Marked as CodeMarked}
use Rattle.v1_ready_tests.specs.internal.Coded.{seen_marked}
use Rattle.v1_ready_tests.specs.internal.Passes.{applied_call, is_value_asked, Marked, marked, marked_plans}

pub application_known : (s : Scope) (top : List Known) (row : Row) (e : Exp16) → seen_row top row ≡ row_of s e → applied_call e (seen_kind row.kind) ≡ applied_call e (kind_of s e)
application_known s top row e known = ap (λ (r : RowOf). applied_call e r.kind) known

-- the mark and the plan of an expression are what is made of it
pub marked_is : (s : Scope) (seats : List NamedSeat) (q : Ask) (e : Exp16) (alone applied : Bool) (plan : Plan) → alone ≡ is_value_asked q → applied ≡ applied_call e (kind_of s e) → plan ≡ planned s seats (row_of s e) q e
    → (record { mark = record { alone = alone; applied = applied }; plan = plan }) ≡ marked s seats q e
marked_is s seats q e alone applied plan alone_is applied_is plan_is = rw (alone_is, applied_is, plan_is) refl

next : (views : List Exp16) (i : ℕ) (v : Exp16) → i < length views → v ≡ get_or views i v → drop i views ≡ v ∷ drop (i + 1) views
next views i v within is =
    let one : suc i ≡ i + 1 = omega arith in
    drop-cons views i v within ∙ (ap (λ x. x ∷ drop (suc i) views) (sym is) ∙ ap (λ n. v ∷ drop n views) one)

pub marked_turn : (s : Scope) (seats : List NamedSeat) (views : List Exp16) (i : ℕ) (v : Exp16) (made now : List CodeMarked) (p : CodeMarked) (qs rs : List Ask) (whole : List Marked) → i < length views → v ≡ get_or views i v → now ≡ made ++ p ∷ []
    → seen_marked p ≡ marked s seats (front qs) v → rs ≡ parts_asked (row_of s v) (front qs) v ++ behind_front qs → map seen_marked made ++ marked_plans s seats qs (drop i views) ≡ whole → map seen_marked now ++ marked_plans s seats rs (drop (i + 1) views) ≡ whole
marked_turn s seats views i v made now p qs rs whole within is pushed mark_is asks so =
    ap (λ ps. map seen_marked ps ++ marked_plans s seats rs (drop (i + 1) views)) pushed
    ∙ (ap (λ ps. ps ++ marked_plans s seats rs (drop (i + 1) views)) (map-append seen_marked made (p ∷ []))
    ∙ (append_assoc (map seen_marked made) (seen_marked p ∷ []) (marked_plans s seats rs (drop (i + 1) views))
    ∙ (ap (λ x. map seen_marked made ++ x ∷ marked_plans s seats rs (drop (i + 1) views)) mark_is
    ∙ (ap (λ q. map seen_marked made ++ marked s seats (front qs) v ∷ marked_plans s seats q (drop (i + 1) views)) asks
    ∙ (sym (ap (λ es. map seen_marked made ++ marked_plans s seats qs es) (next views i v within is)) ∙ so)))))
