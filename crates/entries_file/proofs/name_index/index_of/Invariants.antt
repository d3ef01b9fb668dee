use Rattle.std.proofs.Common.{map, take}
use Rattle.entries_file.specs.internal.Drafts.{IsNameIndex}
use Rattle.entries_file.proofs.name_index.index_of.Given as goal

abbrev pub invariant-loop-i : goal.invariant-loop-i
invariant-loop-i g l = IsNameIndex (λ key. key.now) l.map (map g.T.Listed.listed (take l.i l.items))
