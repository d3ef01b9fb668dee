use Rattle.std.proofs.Common.{rules}
use Rattle.run_stream.proofs.stream.Stream.new.Goals as goal

pub returns : goal.returns
returns c = search rules
