-- An action whose body breaks no rule is a declaration of a control that breaks none.
use Rattle.std.proofs.Common.{◌≡◌, ℕ, true, false, List, ◌∷◌, [], map, arith}
use Rattle.std.specs.List.{AllByRecursion}
use Rattle.p414_syntax.specs.declared.syntax.Decl.{Decl}
use Rattle.p416_syntax.specs.Tree.{Stmt16}
use Rattle.p416_syntax.specs.Names.{Name, repeats}
use Rattle.p416_syntax.specs.Scopes.{Scope}
use Rattle.p416_syntax.specs.Declarations.{action_scope, action_uses}
use Rattle.p416_syntax.specs.Externs.{are_allowed}
use Rattle.agreement_of_meanings.specs.Shown.{NamedField}
use Rattle.lower_laws_base.specs.Context.{Lowering}
use Rattle.lower_laws_rules.specs.Keeping.{Keeps}
use Rattle.lower_laws_rules.specs.Written.{action16}
use Rattle.lower_laws_rules.specs.Declared.{FitsWidth, name_of_field}
use Rattle.lower_laws_rules.proofs.Tables.{action_kept}
use Rattle.lower_laws_rules.specs.Acting.{WidthsFit}
use Rattle.lower_laws_rules.proofs.Bodies.{BodyKeeps}

-- what `body_keeps` gives of a body is what `LocalHere` asks of an action
pub action_here : (c : Lowering) (ds : List Decl) (widths : WidthsFit c) (positions : List ℕ) (allowed : are_allowed (2 ∷ 3 ∷ []) positions ≡ true) (s : Scope) (plane called : Name) (fs : List NamedField) (body : Stmt16) → repeats (map name_of_field fs) ≡ false → AllByRecursion FitsWidth fs → BodyKeeps c ds widths positions allowed (action_scope s (action16 plane called fs body)) body → Keeps (action_uses s (action16 plane called fs body)) []
action_here c ds widths positions allowed s plane called fs body differ wide b = action_kept s plane called fs body differ wide b.part b.once (omega arith)
