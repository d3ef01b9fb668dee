-- Behind an action the scope of its control is what it was.
use Rattle.std.proofs.Common.{◌≡◌, ℕ, ◌-◌, List, ◌++◌, length, map, drop, sym, ap, ◌∙◌, arith, length-append}
use Rattle.std.proofs.Math.Seq.{drop-append_seam}
use Rattle.p416_syntax.specs.declared.program.Decl16.{Decl16}
use Rattle.p416_syntax.specs.declared.controls.Action16.{Action16}
use Rattle.p416_syntax.specs.Scopes.{Scope, Part, known_parameter}
use Rattle.p416_syntax.specs.Declarations.{action_scope}
use Rattle.p416_scopes.specs.declared.scope.Scope.{Scope as CodeScope}
use Rattle.p416_scopes.specs.Seen.{seen_scope, seen_part}
use Rattle.p416_visits.specs.Left.{height, shortened}
use Rattle.p416_visits.proofs.Visiting.{scope_height}

left_over : {X : Type 0} (xs ys : List X) (n : ℕ) → length ys ≡ n → drop (length (xs ++ ys) - n) (xs ++ ys) ≡ ys
left_over xs ys n is =
    let short : length (xs ++ ys) - n ≡ length xs = omega (arith, length-append xs ys, is) in
    ap (λ k. drop k (xs ++ ys)) short ∙ drop-append_seam xs ys

pub action_left : (c : CodeScope) (ds : List Decl16) (a : Action16) (len : ℕ) (p : Part) (mid new : Scope) → length c.names ≡ length c.sorts.items → ds ≡ c.top.now → len ≡ length c.names → p ≡ seen_part c.part → mid ≡ action_scope (seen_scope c) a → new ≡ record (shortened (height ds len) mid) { part = p } → new ≡ seen_scope c
action_left c ds a len p mid new same top of_len part of_mid is =
    is
    ∙ (ap (λ (t : Scope). record (shortened (height ds len) t) { part = p }) of_mid
    ∙ (ap (λ ns. record (seen_scope c) { names = ns; part = p })
    (left_over (map (known_parameter (seen_scope c).names) a.parameters) (seen_scope c).names (height ds len)
    (scope_height c same ∙ (ap (height c.top.now) (sym of_len) ∙ ap (λ es. height es len) (sym top))))
    ∙ ap (λ q. record (seen_scope c) { part = q }) part))
