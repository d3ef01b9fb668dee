-- The laws.
use Rattle.v1_control_laws.specs.Controls.{Waiting}
use Rattle.v1_control_laws.proofs.Meeting.{program_passes}
use Rattle.v1_program_laws.specs.ValueLaws.{ValuesAssigned, ValuesBegin, InitialsOfControls, InitialsFollow}
use Rattle.v1_program_laws.proofs.ControlValues.{assigns, initials}
use Rattle.v1_program_laws.proofs.Controls.{initials_do, initials_follow}

pub values_assigned : ValuesAssigned
values_assigned o b w z from to n s who e f accepted at tell kept judged told asks = assigns (Waiting b.syntax o) b w z from to n s who accepted at tell e f kept judged told asks

pub values_begin : ValuesBegin
values_begin o b w z from to n s who t called e accepted at tell are fits kept = initials (Waiting b.syntax o) b w z from to n s who accepted at tell t called e are fits kept

pub initials_of_controls : InitialsOfControls
initials_of_controls c place k z accepted stands tell told = initials_do c place k accepted stands (program_passes c.syntax accepted) z tell told

pub initials_follow_tables : InitialsFollow
initials_follow_tables c place k z accepted stands tables = initials_follow c place k accepted stands (program_passes c.syntax accepted) z tables
