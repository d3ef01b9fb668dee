-- Where the statements behind a statement stand.
use Rattle.std.proofs.Common.{◌≡◌, ℕ, suc, ◌+◌, ◌≤◌, List, [], ◌∷◌, ◌++◌, length, refl, sym, ap, ◌∙◌, subst, arith, append_assoc, length-append}
use Rattle.std.proofs.lemmas.List.Elements.{filter_map-append}
use Rattle.p416_syntax.specs.declared.parts.Type16.{Type16}
use Rattle.p416_syntax.specs.declared.program.Syntax16.{Syntax16}
use Rattle.p416_syntax.specs.declared.node.CaseLabel.{CaseLabel}
use Rattle.p416_syntax.specs.Tree.{Exp16, Stmt16, no_statements, then, block, empty, var, var_is, assign, expression, if_then, if_else, switch, no_cases, case_of}
use Rattle.p416_syntax.specs.Names.{Name}
use Rattle.p416_syntax.specs.Kinds.{Kind}
use Rattle.p416_syntax.specs.Scopes.{Scope, kind_of_type}
use Rattle.p416_syntax.specs.Statements.{behind, with_variable, visit, visits}
use Rattle.v1_core.specs.Slots.{variable_kinds, kinds_in, visited_kind}
use Rattle.v1_core.specs.Surroundings.{Root}
use Rattle.v1_core.specs.Numbered.{Variable, InScope}
use Rattle.v1_ready_forms.specs.Named.{seats_in}
use Rattle.v1_ready_laws.specs.Rules.{with_inner_ones}
use Rattle.v1_block_laws.specs.Standing.{AreOfKinds}
use Rattle.v1_block_laws.specs.Apart.{AreBetween, AreInBody}
use Rattle.v1_block_laws.specs.Variables.{variable}
use Rattle.v1_block_laws.proofs.Standing.{apart}
use Rattle.v1_block_laws.proofs.Apart.{body_declares}
use Rattle.v1_block_laws.proofs.Blocks.{variable_seated}
use Rattle.v1_value_laws.proofs.Scopes.{variable_is_fine}
use Rattle.v1_ready_statements.specs.Around.{Around}
use Rattle.v1_ready_statements.specs.Statements.{number_behind, seats_behind}
use Rattle.v1_statement_laws.specs.Behind.{declared_from, InContext}

-- the kinds of the variables in two statements

pub kinds_then : (s : Scope) (before last : Stmt16) → kinds_in s ((then) before last) ≡ kinds_in s before ++ kinds_in (behind before s) last
kinds_then s before last = filter_map-append visited_kind (visits s before) (visits (behind before s) last)

pub kinds_else : (s : Scope) (c : Exp16) (positive negative : Stmt16) → kinds_in s (if_else c positive negative) ≡ kinds_in s positive ++ kinds_in s negative
kinds_else s c positive negative = filter_map-append visited_kind (visits s positive) (visits s negative)

pub kinds_cases : (s : Scope) (before body : Stmt16) (l : CaseLabel) → kinds_in s (case_of before l body) ≡ kinds_in s before ++ kinds_in s body
kinds_cases s before body l = filter_map-append visited_kind (visits s before) (visit s (case_of before l body) ∷ visits s body)

-- two lists of kinds, one behind the other
pub record Both (all : List Kind) (n : ℕ) (to : ℕ) (front back : List Kind) : Type 0 where
  pub front_are : AreOfKinds all n front
  pub back_are : AreOfKinds all (n + length front) back
  pub front_fits : n + length front ≤ to
  pub back_fits : n + length front + length back ≤ to

pub both_kinds : (all : List Kind) (n to : ℕ) (kinds front back : List Kind) → kinds ≡ front ++ back → AreOfKinds all n kinds → n + length kinds ≤ to → Both all n to front back
both_kinds all n to kinds front back is are fits =
    let two = apart all n front back (subst (AreOfKinds all n) is are) in
    let many : length kinds ≡ length front + length back = ap length is ∙ length-append front back in
    record {
      front_are = two.0;
      back_are = two.1;
      front_fits = omega (arith, fits, many);
      back_fits = omega (arith, fits, many);
    }

-- the next number

between_later : (from next later : ℕ) (vs : List Variable) → next ≤ later → AreBetween from next vs → AreBetween from later vs
between_later from next later [] le h = tt
between_later from next later (v ∷ vs) le h = (h.0, omega (arith, le, h.1), between_later from next later vs le h.2)

body_later : (count from to next later : ℕ) (who : InScope) → next ≤ later → later ≤ to → AreInBody count from to next who → AreInBody count from to later who
body_later count from to next later who le fits h = record {
  begun = omega (arith, le, h.begun);
  left = fits;
  variables = h.variables;
  outside = h.outside;
  inner = h.inner;
  between = between_later from next later who.inner le h.between;
}

module _ (syntax : Syntax16) (roots : List Root) (from to : ℕ) where
  pub context_later : (n later : ℕ) (s : Scope) (who : InScope) → n ≤ later → later ≤ to → InContext syntax roots from to n s who → InContext syntax roots from to later s who
  context_later n later s who le fits h = record {
    layouts = h.layouts;
    fine = h.fine;
    seated = h.seated;
    body = body_later (length (variable_kinds syntax)) from to n later who le fits h.body;
  }

  pub context_declared : (n : ℕ) (s : Scope) (who : InScope) (t : Type16) (called : Name) → AreOfKinds (variable_kinds syntax) n (kind_of_type s.names t ∷ []) → n + 1 ≤ to → InContext syntax roots from to n s who → InContext syntax roots from to (n + 1) (with_variable t called s) (with_inner_ones (variable called n ∷ []) who)
  context_declared n s who t called are fits h = record {
    layouts = h.layouts;
    fine = variable_is_fine s t called h.fine;
    seated = variable_seated syntax s roots who t called n are h.seated;
    body =
        subst (λ (k : ℕ). AreInBody (length (variable_kinds syntax)) from to k (with_inner_ones (variable called n ∷ []) who)) (one_more n)
        (body_declares (length (variable_kinds syntax)) from to n called who (omega (arith, fits)) are.0.within h.body);
  } where
    one_more : (k : ℕ) → suc k ≡ k + 1
    one_more k = omega arith

  -- behind a statement
  pub context_behind : (x : Stmt16) (n : ℕ) (s : Scope) (who : InScope) → AreOfKinds (variable_kinds syntax) n (kinds_in s x) → n + length (kinds_in s x) ≤ to → InContext syntax roots from to n s who → InContext syntax roots from to (n + length (kinds_in s x)) (behind x s) (with_inner_ones (declared_from s n x) who)
  context_behind no_statements n s who are fits h = context_later n (n + length (kinds_in s no_statements)) s who (omega arith) fits h
  context_behind ((then) before last) n s who are fits h =
      let two = both_kinds (variable_kinds syntax) n to (kinds_in s ((then) before last)) (kinds_in s before) (kinds_in (behind before s) last) (kinds_then s before last) are fits in
      let many : length (kinds_in s ((then) before last)) ≡ length (kinds_in s before) + length (kinds_in (behind before s) last) =
      ap length (kinds_then s before last) ∙ length-append (kinds_in s before) (kinds_in (behind before s) last) in
      let first : InContext syntax roots from to (n + length (kinds_in s before)) (behind before s) (with_inner_ones (declared_from s n before) who) = context_behind before n s who two.front_are two.front_fits h in
      let second = context_behind last (n + length (kinds_in s before)) (behind before s) (with_inner_ones (declared_from s n before) who) two.back_are two.back_fits first in
      subst (λ (k : ℕ). InContext syntax roots from to k (behind ((then) before last) s) (with_inner_ones (declared_from s n ((then) before last)) who)) (same_end n (length (kinds_in s before)) (length (kinds_in (behind before s) last)) (length (kinds_in s ((then) before last))) many)
      (subst (λ (vs : List Variable). InContext syntax roots from to (n + length (kinds_in s before) + length (kinds_in (behind before s) last)) (behind ((then) before last) s) (record who { inner = vs }))
      (sym (append_assoc (declared_from (behind before s) (n + length (kinds_in s before)) last) (declared_from s n before) who.inner)) second) where
        same_end : (n a b c : ℕ) → c ≡ a + b → n + a + b ≡ n + c
        same_end n a b c is = omega (arith, is)
  context_behind (block body) n s who are fits h = context_later n (n + length (kinds_in s (block body))) s who (omega arith) fits h
  context_behind empty n s who are fits h = context_later n (n + length (kinds_in s empty)) s who (omega arith) fits h
  context_behind (var t called) n s who are fits h = context_declared n s who t called are fits h
  context_behind (var_is t called e) n s who are fits h = context_declared n s who t called are fits h
  context_behind (assign target e) n s who are fits h = context_later n (n + length (kinds_in s (assign target e))) s who (omega arith) fits h
  context_behind (expression e) n s who are fits h = context_later n (n + length (kinds_in s (expression e))) s who (omega arith) fits h
  context_behind (if_then c positive) n s who are fits h = context_later n (n + length (kinds_in s (if_then c positive))) s who (omega arith) fits h
  context_behind (if_else c positive negative) n s who are fits h = context_later n (n + length (kinds_in s (if_else c positive negative))) s who (omega arith) fits h
  context_behind (switch table cases) n s who are fits h = context_later n (n + length (kinds_in s (switch table cases))) s who (omega arith) fits h
  context_behind no_cases n s who are fits h = context_later n (n + length (kinds_in s no_cases)) s who (omega arith) fits h
  context_behind (case_of before l body) n s who are fits h = context_later n (n + length (kinds_in s (case_of before l body))) s who (omega arith) fits h

-- the seats behind a statement are those of the names behind it
pub seats_are : (b : Around) (roots : List Root) (x : Stmt16) (n : ℕ) (s : Scope) (who : InScope) → seats_behind b s n x (seats_in b.syntax roots who) ≡ seats_in b.syntax roots (with_inner_ones (declared_from s n x) who)
seats_are b roots no_statements n s who = refl
seats_are b roots ((then) before last) n s who =
    ap (seats_behind b (behind before s) (number_behind s before n) last) (seats_are b roots before n s who)
    ∙ (seats_are b roots last (n + length (kinds_in s before)) (behind before s) (with_inner_ones (declared_from s n before) who)
    ∙ ap (λ (vs : List Variable). seats_in b.syntax roots (record who { inner = vs })) (sym (append_assoc (declared_from (behind before s) (n + length (kinds_in s before)) last) (declared_from s n before) who.inner)))
seats_are b roots (block body) n s who = refl
seats_are b roots empty n s who = refl
seats_are b roots (var t called) n s who = refl
seats_are b roots (var_is t called e) n s who = refl
seats_are b roots (assign target e) n s who = refl
seats_are b roots (expression e) n s who = refl
seats_are b roots (if_then c positive) n s who = refl
seats_are b roots (if_else c positive negative) n s who = refl
seats_are b roots (switch table cases) n s who = refl
seats_are b roots no_cases n s who = refl
seats_are b roots (case_of before l body) n s who = refl
