use Rattle.std.proofs.Common.{ap, ◌∙◌, slice_get}
use Rattle.std.specs.Option.{option_map}
use Rattle.p416_names.specs.internal.Tables.{bits_of_field}
use Rattle.p416_names.proofs.layout.field_at.Goals as goal

-- src/layout.rt:125:1
pub returns-in-Header : goal.returns-in-Header
returns-in-Header c =
    λ names. rw c.in-Header.is (c.bits_at.ensures names ∙ ap (λ fs. option_map bits_of_field (slice_get fs c.args.place)) c.as_slice.ensures)
