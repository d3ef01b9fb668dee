use Rattle.lower_laws_names.proofs.Objects.{same_objects}
use Rattle.lower_laws_names.proofs.objects_are_same.Goals as goal

pub returns : goal.returns
returns c = same_objects
