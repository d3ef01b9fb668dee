use Rattle.std.proofs.Common.{◌≡◌, ◌++◌, map, filter_map, drop}
use Rattle.p416_syntax.specs.Declarations.{table_in}
use Rattle.p416_scopes.specs.Seen.{seen_scope}
use Rattle.p416_signature.specs.internal.Gathered.{objects_seen, sig_in}
use Rattle.p416_signature.proofs.control.add_tables.Given as goal

abbrev pub invariant-loop-declared : goal.invariant-loop-declared
invariant-loop-declared l =
    l.found ++ map (sig_in (seen_scope l.scope) (objects_seen l.own) l.objects) (filter_map table_in (drop l.declared-index l.locals))
    ≡ l.fn.found ++ map (sig_in (seen_scope l.scope) (objects_seen l.own) l.objects) (filter_map table_in l.locals)
