use Rattle.p416_syntax.specs.Statements.{labels_of}
use Rattle.p416_syntax.specs.Declarations.{top_names}
use Rattle.p416_names.specs.Seen.{seen_sort}
use Rattle.p416_scopes.specs.Seen.{seen_scope}
use Rattle.p416_listed_check.specs.Listings.{tables_in}
use Rattle.p416_listed_check.proofs.Entering.{scope_tells}
use Rattle.p416_listed_check.proofs.Labelling.{outside_of}
use Rattle.p416_listed_check.proofs.labels.has_outside_label.Goals as goal

pub returns-clause-outside : goal.returns-clause-outside
returns-clause-outside c =
    outside_of (seen_scope c.args.scope.now) c.as_slice-called.result.now c.args.table.now (seen_sort (top_names c.args.scope.now.top.now) c.sort_of.result) c.in_ok-known.known c.enter_sort.new.self.1 (labels_of c.args.cases.now)
    c.some_outside-outside.result c.as_slice-called.ensures c.sort_of.ensures
    (c.in_ok-known.ensures.known (top_names c.args.scope.now.top.now) (tables_in (seen_scope c.args.scope.now).names)
    (scope_tells (seen_scope c.args.scope.now) c.as_slice-called.result.now (seen_sort (top_names c.args.scope.now.top.now) c.sort_of.result) c.sort_of.ensures) c.requires)
    c.some_outside-outside.ensures

pub returns-clause-listed : goal.returns-clause-listed
returns-clause-listed c =
    c.in_ok-known.ensures.listed (top_names c.args.scope.now.top.now) (tables_in (seen_scope c.args.scope.now).names)
    (scope_tells (seen_scope c.args.scope.now) c.as_slice-called.result.now (seen_sort (top_names c.args.scope.now.top.now) c.sort_of.result) c.sort_of.ensures) c.requires
