use Rattle.std.proofs.Common.{map}
use Rattle.entries_file.proofs.KeyLaws.{KeysSoFar}
use Rattle.entries_file.proofs.key_forms.read_keys.Given as goal

abbrev pub invariant-loop-i : goal.invariant-loop-i
invariant-loop-i l = KeysSoFar l.specs (map (λ word. word.now) l.words) l.i l.is_wide l.keys
