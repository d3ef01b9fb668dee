use Rattle.std.proofs.Common.{◌∙◌}
use Rattle.v1_ready_whole.proofs.names.program_names.Goals as goal

pub returns : goal.returns
returns c = record { places = c.in_ok-places.ensures ∙ c.as_slice.ensures; objects = c.in_ok-objects.ensures; tables = c.in_ok-tables.ensures }
