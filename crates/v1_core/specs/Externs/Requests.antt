-- Requests for further passes (`v1model.p4`, `clone_preserving_field_list`, `resubmit_preserving_field_list` and
-- `recirculate_preserving_field_list`). The last request of each kind in a block counts.
use Rattle.std.specs.Prelude.{ℕ, if◌then◌else◌, codes, Some}
use Rattle.std.specs.Str.{bytes_eq}
use Rattle.fabric.specs.declared.items.RequestKind.{RequestKind}
use Rattle.fabric.specs.declared.items.RequestKind.TheVariants.{CloneI2E, CloneE2E, Resubmit, Recirculate}
use Rattle.p416_syntax.specs.Names.{Name}
use Rattle.v1_core.specs.Frames.{Moment, with_frame, with_request}

abbrev pub requested : RequestKind → ℕ → ℕ → Moment → Moment
requested kind session list m = with_frame m (with_request kind (Some (session, list)) m.frame)

-- the kind of clone that a member of `CloneType` names
abbrev pub clone_kind : Name → RequestKind
clone_kind word = if bytes_eq word (codes "I2E") then CloneI2E else CloneE2E

-- `clone_preserving_field_list(CloneType.X, session, list)`
abbrev pub clone_preserving : Name → ℕ → ℕ → Moment → Moment
clone_preserving word session list m = requested (clone_kind word) session list m

-- `resubmit_preserving_field_list(list)`
abbrev pub resubmit_preserving : ℕ → Moment → Moment
resubmit_preserving list m = requested Resubmit 0 list m

-- `recirculate_preserving_field_list(list)`
abbrev pub recirculate_preserving : ℕ → Moment → Moment
recirculate_preserving list m = requested Recirculate 0 list m
