use Rattle.match_core.proofs.Grouped.{code_length}
use Rattle.match_core.proofs.groups.put_entry.Goals as goal

pub put_code-requires-clause-same : goal.put_code-requires-clause-same
put_code-requires-clause-same c = rw (c.as_slice.ensures, c.in_ok-code.ensures) (code_length c.args.specs.now c.args.ones.now c.requires.fits)
