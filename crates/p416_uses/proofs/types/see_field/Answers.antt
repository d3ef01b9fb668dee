use Rattle.p416_syntax.specs.Uses.{of_field, type_uses}
use Rattle.p416_syntax.specs.Declarations.{note_uses}
use Rattle.p416_scopes.specs.Seen.{seen_scope}
use Rattle.p416_expression_uses.proofs.Finding.{after_then}
use Rattle.p416_uses.proofs.types.see_field.Goals as goal

pub returns : goal.returns
returns c =
    after_then c.args.found.now c.see_notes.new.found c.see_type.new.found (note_uses c.args.field.now.notes) (type_uses (seen_scope c.args.scope.now) of_field c.args.field.now.of)
    (rw c.as_slice.ensures at c.see_notes.ensures) c.in_ok-see_type.ensures
