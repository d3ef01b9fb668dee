-- Numbering what is declared, one behind another.
use Rattle.std.proofs.Common.{◌≡◌, ℕ, suc, ◌+◌, List, [], ◌∷◌, ◌++◌, length, flat_map, ap, ◌∙◌, arith, append_assoc, length-append}
use Rattle.p416_syntax.specs.declared.parsers.Var.{Var}
use Rattle.p416_syntax.specs.declared.controls.Local.{Local}
use Rattle.p416_syntax.specs.Scopes.{Scope}
use Rattle.v1_core.specs.Slots.{local_kinds}
use Rattle.v1_core.specs.Numbered.{Variable}
use Rattle.v1_block_laws.specs.Variables.{variable, vars_from, own_variables, locals_from}
use Rattle.v1_block_seats.specs.Numbers.{own_action, actions_from}

pub one_var_more : (n m : ℕ) (v : Var) (vars : List Var) (old new whole : List Variable) → new ≡ old ++ variable v.name n ∷ [] → m ≡ n + 1 → old ++ vars_from n (v ∷ vars) ≡ whole → new ++ vars_from m vars ≡ whole
one_var_more n m v vars old new whole is next so =
    let later : m ≡ suc n = omega (arith, next) in
    ap (λ (xs : List Variable). xs ++ vars_from m vars) is
    ∙ (append_assoc old (variable v.name n ∷ []) (vars_from m vars)
    ∙ (ap (λ (k : ℕ). old ++ variable v.name n ∷ vars_from k vars) later ∙ so))

-- what a control declares, in the scope t, which is what it was

pub one_local_more : (s t : Scope) (n m k : ℕ) (x : Local) (locals : List Local) (old new whole : List Variable) → t ≡ s → k ≡ length (local_kinds t x) → new ≡ old ++ own_variables n x → m ≡ n + k → old ++ locals_from s n (x ∷ locals) ≡ whole → new ++ locals_from s m locals ≡ whole
one_local_more s t n m k x locals old new whole same count is next so =
    ap (λ (xs : List Variable). xs ++ locals_from s m locals) is
    ∙ (append_assoc old (own_variables n x) (locals_from s m locals)
    ∙ (ap (λ (j : ℕ). old ++ (own_variables n x ++ locals_from s j locals)) (next ∙ ap (λ (j : ℕ). n + j) (count ∙ ap (λ (u : Scope). length (local_kinds u x)) same)) ∙ so))

pub one_action_more : (s t : Scope) (n m k : ℕ) (x : Local) (locals : List Local) (old new whole : List ℕ) → t ≡ s → k ≡ length (local_kinds t x) → new ≡ old ++ own_action n x → m ≡ n + k → old ++ actions_from s n (x ∷ locals) ≡ whole → new ++ actions_from s m locals ≡ whole
one_action_more s t n m k x locals old new whole same count is next so =
    ap (λ (xs : List ℕ). xs ++ actions_from s m locals) is
    ∙ (append_assoc old (own_action n x) (actions_from s m locals)
    ∙ (ap (λ (j : ℕ). old ++ (own_action n x ++ actions_from s j locals)) (next ∙ ap (λ (j : ℕ). n + j) (count ∙ ap (λ (u : Scope). length (local_kinds u x)) same)) ∙ so))

pub one_further : (s t : Scope) (n m k whole : ℕ) (x : Local) (locals : List Local) → t ≡ s → k ≡ length (local_kinds t x) → m ≡ n + k → n + length (flat_map (local_kinds s) (x ∷ locals)) ≡ whole → m + length (flat_map (local_kinds s) locals) ≡ whole
one_further s t n m k whole x locals same count next so =
    let both : length (flat_map (local_kinds s) (x ∷ locals)) ≡ length (local_kinds s x) + length (flat_map (local_kinds s) locals) = length-append (local_kinds s x) (flat_map (local_kinds s) locals) in
    let own : k ≡ length (local_kinds s x) = count ∙ ap (λ (u : Scope). length (local_kinds u x)) same in
    omega (arith, next, so, both, own)
