-- The kinds of variables, one declaration behind another.
use Rattle.std.proofs.Common.{◌≡◌, ℕ, List, [], ◌∷◌, ◌++◌, map, ap, ◌∙◌, append_assoc}
use Rattle.std.specs.Prelude.{flat_map}
use Rattle.p416_syntax.specs.declared.parsers.Parser16.{Parser16}
use Rattle.p416_syntax.specs.declared.controls.Control16.{Control16}
use Rattle.p416_syntax.specs.declared.program.Decl16.{Decl16}
use Rattle.p416_syntax.specs.declared.program.Decl16.TheVariants as decl
use Rattle.p416_syntax.specs.declared.program.Syntax16.{Syntax16}
use Rattle.p416_syntax.specs.Tree.{Stmt16}
use Rattle.p416_syntax.specs.Kinds.{Kind}
use Rattle.p416_syntax.specs.Scopes.{Scope}
use Rattle.p416_syntax.specs.BuiltIn.{standard}
use Rattle.p416_syntax.specs.Declarations.{top_scope, parser_scope, control_scope}
use Rattle.p416_syntax.specs.Main.{positions_from, headers_kind, metadata_kind}
use Rattle.v1_core.specs.Slots.{kinds_in, var_kind, state_kinds, local_kinds, parser_kinds, control_kinds, kinds_of}
use Rattle.v1_core.specs.Programs.{frame_kinds}

-- the next of many
pub next_told : {A : Type 0} (f : A → List Kind) (x : A) (rest : List A) (old new whole y : List Kind) → y ≡ f x → new ≡ old ++ y → old ++ flat_map f (x ∷ rest) ≡ whole → new ++ flat_map f rest ≡ whole
next_told f x rest old new whole y own is so =
    ap (λ xs. xs ++ flat_map f rest) (is ∙ ap (λ z. old ++ z) own) ∙ (append_assoc old (f x) (flat_map f rest) ∙ so)

-- the statements of an action, in its scope
pub body_told : (old new : List Kind) (s t : Scope) (x : Stmt16) → t ≡ s → new ≡ old ++ kinds_in t x → new ≡ old ++ kinds_in s x
body_told old new s t x is so = so ∙ ap (λ u. old ++ kinds_in u x) is

-- two behind each other
pub two_told : (old mid new xs ys : List Kind) → mid ≡ old ++ xs → new ≡ mid ++ ys → new ≡ old ++ (xs ++ ys)
two_told old mid new xs ys first second = second ∙ (ap (λ l. l ++ ys) first ∙ append_assoc old xs ys)

pub parser_told : (old mid new : List Kind) (s t : Scope) (p : Parser16) → t ≡ s → mid ≡ old ++ map (var_kind t) p.vars → new ≡ mid ++ flat_map (state_kinds t) p.states → new ≡ old ++ parser_kinds s p
parser_told old mid new s t p is first second =
    two_told old mid new (map (var_kind t) p.vars) (flat_map (state_kinds t) p.states) first second ∙ ap (λ u. old ++ parser_kinds u p) is

pub control_told : (old mid new : List Kind) (s t u : Scope) (c : Control16) → t ≡ s → u ≡ t → mid ≡ old ++ flat_map (local_kinds t) c.locals → new ≡ mid ++ kinds_in u c.body → new ≡ old ++ control_kinds s c
control_told old mid new s t u c is same first second =
    two_told old mid new (flat_map (local_kinds t) c.locals) (kinds_in u c.body) first second
    ∙ ap (λ v. old ++ (flat_map (local_kinds t) c.locals ++ kinds_in v c.body)) same ∙ ap (λ v. old ++ control_kinds v c) is

pub declared_parser : (syntax : Syntax16) (ds : List Decl16) (places : List ℕ) (p : Parser16) (old new : List Kind) → ds ≡ syntax.decls → places ≡ positions_from 0 syntax.main p.name → new ≡ old ++ parser_kinds (parser_scope (top_scope ds places) p) p → new ≡ old ++ kinds_of syntax (decl.Parser p)
declared_parser syntax ds places p old new top at is =
    is ∙ (ap (λ es. old ++ parser_kinds (parser_scope (top_scope es places) p) p) top
    ∙ ap (λ ns. old ++ parser_kinds (parser_scope (top_scope syntax.decls ns) p) p) at)

pub declared_control : (syntax : Syntax16) (ds : List Decl16) (places : List ℕ) (c : Control16) (old new : List Kind) → ds ≡ syntax.decls → places ≡ positions_from 0 syntax.main c.name → new ≡ old ++ control_kinds (control_scope (top_scope ds places) c) c → new ≡ old ++ kinds_of syntax (decl.Control c)
declared_control syntax ds places c old new top at is =
    is ∙ (ap (λ es. old ++ control_kinds (control_scope (top_scope es places) c) c) top
    ∙ ap (λ ns. old ++ control_kinds (control_scope (top_scope syntax.decls ns) c) c) at)

pub all_told : (syntax : Syntax16) (h m k : Kind) (ds : List Decl16) (old new : List Kind) → h ≡ headers_kind syntax → m ≡ metadata_kind syntax → k ≡ standard → ds ≡ syntax.decls → old ≡ h ∷ m ∷ k ∷ [] → new ≡ old ++ flat_map (kinds_of syntax) ds → new ≡ frame_kinds syntax
all_told syntax h m k ds old new of_h of_m of_k top is so =
    so ∙ (ap (λ l. l ++ flat_map (kinds_of syntax) ds) is
    ∙ (ap (λ x. x ∷ m ∷ k ∷ flat_map (kinds_of syntax) ds) of_h
    ∙ (ap (λ x. headers_kind syntax ∷ x ∷ k ∷ flat_map (kinds_of syntax) ds) of_m
    ∙ (ap (λ x. headers_kind syntax ∷ metadata_kind syntax ∷ x ∷ flat_map (kinds_of syntax) ds) of_k
    ∙ ap (λ es. headers_kind syntax ∷ metadata_kind syntax ∷ standard ∷ flat_map (kinds_of syntax) es) top))))
