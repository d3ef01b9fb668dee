-- Turns of the loop that counts parameters.
use Rattle.std.proofs.Common.{◌≡◌, ℕ, ◌+◌, ◌<◌, List, ◌++◌, length, get_or, drop, map, option_to_list, Option, Some, None, refl, sym, ap, ◌∙◌, append_assoc}
use Rattle.std.specs.List.{cons_option}
use Rattle.p414_syntax.specs.declared.actions.Action.{Action}
use Rattle.p414_syntax.specs.declared.syntax.Decl.{Decl}
use Rattle.p414_list_check.proofs.Loops.{next_items}
use Rattle.p414_syntax.specs.Arguments.{action_in, actions}

kept_by : {B : Type 0} (f : Action → B) (o : Option Action) (rest : List Action) → map f (cons_option o rest) ≡ map f (option_to_list o) ++ map f rest
kept_by f None rest = refl
kept_by f (Some x) rest = refl

pub count_now : {B : Type 0} (f : Action → B) (decls : List Decl) (i : ℕ) (d : Decl) (old new whole : List B) → i < length decls → new ≡ old ++ map f (option_to_list (action_in (get_or decls i d))) → old ++ map f (actions (drop i decls)) ≡ whole → new ++ map f (actions (drop (i + 1) decls)) ≡ whole
count_now f decls i d old new whole h is same =
    ap (λ l. l ++ map f (actions (drop (i + 1) decls))) is
    ∙ (append_assoc old (map f (option_to_list (action_in (get_or decls i d)))) (map f (actions (drop (i + 1) decls)))
    ∙ (ap (λ l. old ++ l) (sym (kept_by f (action_in (get_or decls i d)) (actions (drop (i + 1) decls))))
    ∙ (sym (ap (λ xs. old ++ map f (actions xs)) (next_items decls i d h)) ∙ same)))
