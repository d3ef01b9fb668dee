use Rattle.v1_value_laws.proofs.Classes.{values_of_classes}
use Rattle.v1_value_laws.proofs.values_are_of_their_classes.Goals as goal

pub returns : goal.returns
returns c = values_of_classes
