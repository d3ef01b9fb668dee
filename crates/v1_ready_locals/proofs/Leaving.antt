-- Behind an action names and seats are what they were, and parameters are seated from the last one on.
use Rattle.std.proofs.Common.{◌≡◌, ℕ, suc, ◌+◌, ◌-◌, ◌<◌, ◌≤◌, List, [], ◌∷◌, ◌++◌, length, get_or, map, drop, Option, refl, sym, ap, ◌∙◌, arith, length-append}
use Rattle.std.proofs.Math.Seq.{drop-append_seam, drop-cons}
use Rattle.std.proofs.lemmas.List.{drop_all}
use Rattle.p416_syntax.specs.declared.parts.Param.{Param}
use Rattle.p416_syntax.specs.declared.program.Decl16.{Decl16}
use Rattle.p416_syntax.specs.declared.controls.Action16.{Action16}
use Rattle.p416_syntax.specs.Tree.{Stmt16}
use Rattle.p416_syntax.specs.Scopes.{Scope, Part, known_parameter}
use Rattle.p416_syntax.specs.Declarations.{action_scope}
use Rattle.p416_scopes.specs.declared.scope.Scope.{Scope as CodeScope}
use Rattle.p416_scopes.specs.Seen.{seen_scope, seen_part}
use Rattle.p416_visits.specs.Left.{height, shortened}
use Rattle.p416_visits.proofs.Visiting.{scope_height}
use Rattle.v1_ready_forms.specs.Named.{NamedSeat, named_seat}
use Rattle.v1_ready_statements.specs.Around.{Around, declared_seat, variable_seat}
use Rattle.v1_ready_blocks.specs.Statements.{Statement}
use Rattle.v1_ready_statements.specs.Statements.{ready_of_statement}
use Rattle.v1_ready_statements.specs.Blocks.{body_ready, parameter_seats}
use Rattle.v1_ready_operands.specs.declared.callees.OwnAction.{OwnAction}
use Rattle.v1_ready_operands.specs.Callees.{seen_action}

left_over : {X : Type 0} (xs ys : List X) (n : ℕ) → length ys ≡ n → drop (length (xs ++ ys) - n) (xs ++ ys) ≡ ys
left_over xs ys n is =
    let short : length (xs ++ ys) - n ≡ length xs = omega (arith, length-append xs ys, is) in
    ap (λ k. drop k (xs ++ ys)) short ∙ drop-append_seam xs ys

pub action_left : (c : CodeScope) (ds : List Decl16) (a : Action16) (len : ℕ) (p : Part) (mid new : Scope) → length c.names ≡ length c.sorts.items → ds ≡ c.top.now → len ≡ length c.names → p ≡ seen_part c.part → mid ≡ action_scope (seen_scope c) a → new ≡ record (shortened (height ds len) mid) { part = p } → new ≡ seen_scope c
action_left c ds a len p mid new same top of_len part of_mid is =
    is
    ∙ (ap (λ (t : Scope). record (shortened (height ds len) t) { part = p }) of_mid
    ∙ (ap (λ ns. record (seen_scope c) { names = ns; part = p })
    (left_over (map (known_parameter (seen_scope c).names) a.parameters) (seen_scope c).names (height ds len)
    (scope_height c same ∙ (ap (height c.top.now) (sym of_len) ∙ ap (λ es. height es len) (sym top))))
    ∙ ap (λ q. record (seen_scope c) { part = q }) part))

-- seats

abbrev seated : Around → ℕ → List Param → List NamedSeat
seated b n [] = []
seated b n (p ∷ parameters) = named_seat p.name (variable_seat b n) ∷ seated b (suc n) parameters

seats_are : (b : Around) (n : ℕ) (parameters : List Param) (seats : List NamedSeat) → parameter_seats b n parameters seats ≡ seated b n parameters ++ seats
seats_are b n [] seats = refl
seats_are b n (p ∷ parameters) seats = ap (declared_seat b p.name n) (seats_are b (suc n) parameters seats)

pub seats_left : (b : Around) (n : ℕ) (parameters : List Param) (seats mid : List NamedSeat) (k : ℕ) → mid ≡ parameter_seats b n parameters seats → k ≡ length seats → drop (length mid - k) mid ≡ seats
seats_left b n parameters seats mid k is of =
    ap (λ all. drop (length all - k) all) (is ∙ seats_are b n parameters seats) ∙ left_over (seated b n parameters) seats k (sym of)

dropped : {A : Type 0} (xs : List A) (left : ℕ) (d : A) → 0 < left → left ≤ length xs → drop (left - 1) xs ≡ get_or xs (left - 1) d ∷ drop left xs
dropped xs left d some within =
    let next : suc (left - 1) ≡ left = omega arith in
    drop-cons xs (left - 1) d (omega arith) ∙ ap (λ n. get_or xs (left - 1) d ∷ drop n xs) next

pub parameters_turn : (b : Around) (n : ℕ) (ps : List Param) (left number : ℕ) (p d : Param) (seats old new : List NamedSeat) → 0 < left → left ≤ length ps → p ≡ get_or ps (left - 1) d → number ≡ n + (left - 1) → old ≡ parameter_seats b (n + left) (drop left ps) seats
    → new ≡ declared_seat b p.name number old → new ≡ parameter_seats b (n + (left - 1)) (drop (left - 1) ps) seats
parameters_turn b n ps left number p d seats old new some within is at held so =
    let further : n + left ≡ suc (n + (left - 1)) = omega arith in
    so
    ∙ (ap (λ k. declared_seat b p.name k old) at
    ∙ (ap (λ (x : Param). declared_seat b x.name (n + (left - 1)) old) is
    ∙ (ap (declared_seat b (get_or ps (left - 1) d).name (n + (left - 1))) (held ∙ ap (λ k. parameter_seats b k (drop left ps) seats) further)
    ∙ sym (ap (λ xs. parameter_seats b (n + (left - 1)) xs seats) (dropped ps left d some within)))))

pub all_seated : (b : Around) (n left : ℕ) (ps : List Param) (seats : List NamedSeat) → left ≡ length ps → seats ≡ parameter_seats b (n + left) (drop left ps) seats
all_seated b n left ps seats is = ap (λ xs. parameter_seats b (n + left) xs seats) (sym (none_left ps left is)) where
  none_left : (xs : List Param) (k : ℕ) → k ≡ length xs → drop k xs ≡ []
  none_left xs k same = drop_all k xs (omega (arith, same))

pub first_seated : (b : Around) (n left : ℕ) (ps : List Param) (seats now : List NamedSeat) → left ≡ 0 → now ≡ parameter_seats b (n + left) (drop left ps) seats → now ≡ parameter_seats b n ps seats
first_seated b n left ps seats now is so =
    let none : n + left ≡ n = omega (arith, is) in
    so ∙ (ap (λ k. parameter_seats b k (drop left ps) seats) none ∙ ap (λ k. parameter_seats b n (drop k ps) seats) is)

-- the statements of an action
pub body_told : (b : Around) (s : Scope) (seats : List NamedSeat) (own : OwnAction) (t : Scope) (there : List NamedSeat) (number : ℕ) (body : Stmt16) (r : Option Statement) → t ≡ action_scope s own.action.now → there ≡ parameter_seats b own.first own.action.now.parameters seats
    → number ≡ own.first + length own.action.now.parameters → body ≡ own.action.now.body → r ≡ ready_of_statement b t there number body → r ≡ body_ready b s seats (seen_action own)
body_told b s seats own t there number body r scope seat at is so =
    let a = own.action.now in
    let s' = action_scope s a in
    let seats' = parameter_seats b own.first a.parameters seats in
    so
    ∙ (ap (λ (x : Scope). ready_of_statement b x there number body) scope
    ∙ (ap (λ (x : List NamedSeat). ready_of_statement b s' x number body) seat
    ∙ (ap (λ (x : ℕ). ready_of_statement b s' seats' x body) at
    ∙ ap (ready_of_statement b s' seats' (own.first + length a.parameters)) is)))
