use Rattle.std.proofs.Common.{◌≡◌, ◌||◌, drop, filter_map}
use Rattle.std.specs.List.{list_any}
use Rattle.p416_syntax.specs.Declarations.{table_in}
use Rattle.p416_listed_check.specs.Pairs.{Pair, is_same_pair}
use Rattle.p416_counter_check.specs.internal.Pairs.{is_pair_of}
use Rattle.p416_counter_check.proofs.pairs.add_locals.Given as goal

abbrev pub invariant-loop-declared : goal.invariant-loop-declared
invariant-loop-declared l =
    (p : Pair) → (list_any (is_same_pair p) l.set || list_any (is_pair_of p) (filter_map table_in (drop l.declared-index l.locals))) ≡ (list_any (is_same_pair p) l.fn.set || list_any (is_pair_of p) (filter_map table_in l.locals))
