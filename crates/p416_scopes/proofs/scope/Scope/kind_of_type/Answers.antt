use Rattle.std.proofs.Common.{ap, ◌∙◌}
use Rattle.p416_syntax.specs.Declarations.{top_names}
use Rattle.p416_syntax.specs.Scopes.{sort_in}
use Rattle.p416_names.specs.Seen.{kind_of_named}
use Rattle.p416_names.proofs.Found.{named_type}
use Rattle.p416_scopes.specs.Seen.{seen_scope}
use Rattle.p416_scopes.proofs.scope.Scope.kind_of_type.Goals as goal

-- src/methods.rt:55:5
pub returns-in-Named : goal.returns-in-Named
returns-in-Named c =
    rw c.in-Named.is
    (c.named_kind.ensures (top_names c.args.self.now.top.now)
    ∙ (ap (λ s. kind_of_named s c.in-Named.size) (c.sort_of.ensures ∙ ap (sort_in (seen_scope c.args.self.now).names) c.as_slice.ensures)
    ∙ named_type (seen_scope c.args.self.now).names c.in-Named.name c.in-Named.size))
