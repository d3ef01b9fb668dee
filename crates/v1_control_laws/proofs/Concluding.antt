-- Of an accepted program the rules say what the joining asks for.
use Rattle.v1_control_laws.specs.Controls.{rule_tests}
use Rattle.v1_control_laws.specs.Laws.{ControlsShow}
use Rattle.v1_control_laws.proofs.Meeting.{bodies_free, bodies_meet_rules, control_meets_rules}
use Rattle.v1_control_laws.proofs.Rooted.{control_rooted}
use Rattle.v1_control_laws.proofs.Joining.{control_shows}

pub controls_show : ControlsShow
controls_show c place k r fill accepted stands is action_leaves leaves tables initials m j h waits runs =
    let rooted = control_rooted c.syntax place k accepted stands in
    control_shows c place k accepted stands r is rooted.first rooted.others rooted.are (bodies_free c place k accepted stands) rule_tests action_leaves
    (bodies_meet_rules c place k accepted stands) fill leaves tables (control_meets_rules c place k accepted stands) initials m j h waits runs
