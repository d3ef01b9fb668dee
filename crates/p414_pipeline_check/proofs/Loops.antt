-- Turns of the loops over declarations and statements.
use Rattle.std.proofs.Common.{◌≡◌, ℕ, ◌+◌, ◌<◌, List, ◌++◌, length, get_or, drop, map, option_to_list, Option, Some, None, refl, sym, ap, ◌∙◌, append_assoc}
use Rattle.std.specs.Prelude.{filter_map, flat_map}
use Rattle.std.specs.List.{cons_option}
use Rattle.p414_syntax.specs.declared.tables.Table.{Table}
use Rattle.p414_syntax.specs.declared.syntax.Decl.{Decl}
use Rattle.p414_syntax.specs.Tree.{Stmt}
use Rattle.p414_syntax.specs.Views.{ControlTree}
use Rattle.p414_syntax.specs.ControlExpansion.{controls, control_in}
use Rattle.p414_syntax.specs.Tables.{tables, table_in}
use Rattle.p414_control_check.specs.Edges.{with_edges}
use Rattle.p414_control_check.proofs.Loops.{next_items, edges_on}

-- edges that statements lead to
pub statements_now : (f : Stmt → List ℕ) (ss : List Stmt) (i : ℕ) (d : Stmt) (old new whole : List (List ℕ)) → i < length ss → new ≡ with_edges old (f (get_or ss i d)) → with_edges old (flat_map f (drop i ss)) ≡ whole → with_edges new (flat_map f (drop (i + 1) ss)) ≡ whole
statements_now f ss i d old new whole h is same =
    ap (λ g. with_edges g (flat_map f (drop (i + 1) ss))) is
    ∙ (sym (edges_on old (f (get_or ss i d)) (flat_map f (drop (i + 1) ss)))
    ∙ (sym (ap (λ xs. with_edges old (flat_map f xs)) (next_items ss i d h)) ∙ same))

-- what is kept of a declaration

kept_by : {X B : Type 0} (f : X → B) (o : Option X) (rest : List X) → map f (cons_option o rest) ≡ map f (option_to_list o) ++ map f rest
kept_by f None rest = refl
kept_by f (Some x) rest = refl

kept_now : {X B : Type 0} (kept : Decl → Option X) (f : X → B) (decls : List Decl) (i : ℕ) (d : Decl) (old new whole : List B) → i < length decls → new ≡ old ++ map f (option_to_list (kept (get_or decls i d))) → old ++ map f (filter_map kept (drop i decls)) ≡ whole → new ++ map f (filter_map kept (drop (i + 1) decls)) ≡ whole
kept_now kept f decls i d old new whole h is same =
    ap (λ l. l ++ map f (filter_map kept (drop (i + 1) decls))) is
    ∙ (append_assoc old (map f (option_to_list (kept (get_or decls i d)))) (map f (filter_map kept (drop (i + 1) decls)))
    ∙ (ap (λ l. old ++ l) (sym (kept_by f (kept (get_or decls i d)) (filter_map kept (drop (i + 1) decls))))
    ∙ (sym (ap (λ xs. old ++ map f (filter_map kept xs)) (next_items decls i d h)) ∙ same)))

pub control_now : {B : Type 0} (f : ControlTree → B) (decls : List Decl) (i : ℕ) (d : Decl) (old new whole : List B) → i < length decls → new ≡ old ++ map f (option_to_list (control_in (get_or decls i d))) → old ++ map f (controls (drop i decls)) ≡ whole → new ++ map f (controls (drop (i + 1) decls)) ≡ whole
control_now f decls i d old new whole h is same = kept_now control_in f decls i d old new whole h is same

pub table_now : {B : Type 0} (f : Table → B) (decls : List Decl) (i : ℕ) (d : Decl) (old new whole : List B) → i < length decls → new ≡ old ++ map f (option_to_list (table_in (get_or decls i d))) → old ++ map f (tables (drop i decls)) ≡ whole → new ++ map f (tables (drop (i + 1) decls)) ≡ whole
table_now f decls i d old new whole h is same = kept_now table_in f decls i d old new whole h is same
