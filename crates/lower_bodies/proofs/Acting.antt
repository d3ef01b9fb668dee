-- The body of an action of a program, by its rows.
use Rattle.std.proofs.Common.{◌≡◌, ℕ, List, Option, sym, ap, ◌∙◌, subst}
use Rattle.std.specs.Global.{Vec}
use Rattle.p414_syntax.specs.declared.syntax.Decl.{Decl}
use Rattle.p414_syntax.specs.declared.syntax.Rule14.{Rule14}
use Rattle.p414_sem.specs.Expanded.{primitives_at}
use Rattle.p414_slots.specs.declared.slot.FieldSlot.{FieldSlot}
use Rattle.p414_ready_actions.specs.declared.rows.ReadyPrimitive.{ReadyPrimitive}
use Rattle.p414_ready_actions.specs.Meaning.{AreRows}
use Rattle.p416_syntax.specs.Tree.{Stmt16}
use Rattle.lower_laws_actions.specs.Runs.{primitives_of}
use Rattle.lower_expressions.specs.declared.table.WordsTable.{WordsTable}
use Rattle.lower_primitives.specs.Kept.{AreKept}
use Rattle.lower_bodies.specs.Bodies.{IsBodyOf, rows_body}
use Rattle.lower_bodies.specs.Reading.{AreRead, rows_need}
use Rattle.lower_bodies.proofs.Alike.{need_same}
use Rattle.lower_bodies.proofs.Calling.{called_rows_are_kept}
use Rattle.lower_bodies.proofs.SameBodies.{body_same}

pub action_is : (ds : List Decl) (t : WordsTable) (read : List (Vec FieldSlot)) (rule : Rule14) (counter : Option ℕ) (action : ℕ) (rows slice : List ReadyPrimitive) (list : Stmt16) → AreRead t read → AreRows ds action rows → slice ≡ rows → list ≡ rows_body t (rows_need read rule slice) counter slice → IsBodyOf ds t rule counter action list
action_is ds t read rule counter action rows slice list reads are same is = λ x expands lt has.
    let all = primitives_at x action in
    let kept : AreKept ds t (primitives_of ds x all) rows =
    subst (AreKept ds t (primitives_of ds x all)) (sym (are all (expands.each_action action lt))) (called_rows_are_kept ds x t all has) in
    is ∙ ap (λ (l : List ReadyPrimitive). rows_body t (rows_need read rule l) counter l) same
    ∙ body_same ds t (rows_need read rule rows) rule counter (primitives_of ds x all) rows kept (need_same ds t read reads rule (primitives_of ds x all) rows kept)
