use Rattle.std.proofs.Common.{◌≡◌, ◌<◌, ◌∙◌, [], length, ap, arith}
use Rattle.std.proofs.lemmas.List.{get_or_default}
use Rattle.match_core.specs.declared.entries.Entry.{Entry}
use Rattle.match_core.specs.Matching.{prefix_length}
use Rattle.match_core.specs.Best.{entry_at}
use Rattle.match_core.specs.internal.Codes.{code_of}
use Rattle.match_core.specs.internal.Groups.{group_found}
use Rattle.match_core.proofs.Coded.{code_turn}
use Rattle.match_core.proofs.groups.levels_by_group.Goals as goal

pub loop-i-preserved : goal.loop-i-preserved
loop-i-preserved c =
    let d : Entry = record { keys = []; priority = 0; action = 0; arguments = [] } in
    let within : c.loop-i.i < length c.args.entries.now = omega arith in
    let ones : c.as_slice-ones.result.now ≡ (entry_at c.args.entries.now c.loop-i.i).keys =
    c.as_slice-ones.ensures ∙ ap (λ (e : Entry). e.keys) (get_or_default c.args.entries.now c.loop-i.i c.index-entries-i.result d within) in
    record {
      are = c.in_ok-put_entry.ensures.are;
      index = code_turn c.args.specs.now c.args.entries.now c.loop-i.i (prefix_length c.as_slice-ones.result.now) (code_of c.args.specs.now c.as_slice-ones.result.now)
          (group_found c.args.specs.now c.loop-i.groups.entries) (group_found c.args.specs.now c.put_entry.new.groups.entries)
          (ap prefix_length ones) (ap (code_of c.args.specs.now) ones) c.loop-i.invariant.index c.in_ok-put_entry.ensures.put;
    }
