use Rattle.std.proofs.Common.{◌≡◌, ◌+◌, ◌≤◌, length}
use Rattle.std.specs.Str.Lines.{lines}
use Rattle.entries_file.specs.Reading.{read_lines}
use Rattle.entries_file.specs.internal.Drafts.{drafted, IsDraft}
use Rattle.entries_file.proofs.reader.read_lines.Given as goal

abbrev pub invariant-loop-one : goal.invariant-loop-one
invariant-loop-one l = record {
  draft_is : IsDraft l.signature l.draft;
  same : read_lines l.signature (drafted l.initial.draft) 1 (lines l.text) ≡ read_lines l.signature (drafted l.draft) l.line (lines l.rest);
  few : l.line + length l.rest ≤ 1 + length l.text;
}

abbrev pub decreases-loop-one : goal.decreases-loop-one
decreases-loop-one l = length l.rest
