use Rattle.std.proofs.Common.{rules}
use Rattle.p416_syntax.specs.Calls.{table_key}
use Rattle.p416_syntax.specs.Uses.{uses}
use Rattle.p416_syntax.specs.Declarations.{is_exact, note_uses}
use Rattle.p416_scopes.specs.Seen.{seen_scope}
use Rattle.p416_expression_uses.proofs.Finding.{after_then}
use Rattle.p416_uses.proofs.tables.see_key.Goals as goal

pub returns : goal.returns
returns c =
    after_then c.args.found.now c.see_at.new.found c.see_notes.new.found (uses (seen_scope c.args.scope.now) (table_key (is_exact c.args.key.now)) c.args.key.now.exp) (note_uses c.args.key.now.notes)
    (search rules) (search rules)
