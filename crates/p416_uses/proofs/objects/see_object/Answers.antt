use Rattle.p416_syntax.specs.Declarations.{note_uses, instance_uses}
use Rattle.p416_scopes.specs.Seen.{seen_scope}
use Rattle.p416_expression_uses.proofs.Finding.{after_then}
use Rattle.p416_uses.proofs.objects.see_object.Goals as goal

pub returns : goal.returns
returns c =
    after_then c.args.found.now c.see_notes.new.found c.see_instance.new.found (note_uses c.args.notes.now) (instance_uses (seen_scope c.args.scope.now) c.args.instance.now)
    c.see_notes.ensures c.in_ok-see_instance.ensures
