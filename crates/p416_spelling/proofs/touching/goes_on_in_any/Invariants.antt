use Rattle.std.proofs.Common.{◌≡◌, [], ◌∷◌, ◌++◌, drop}
use Rattle.std.specs.List.{list_any}
use Rattle.token_division.specs.Pieces.{begins}
use Rattle.p416_syntax.specs.Marks.{mark_text16}
use Rattle.p416_spelling.proofs.touching.goes_on_in_any.Given as goal

abbrev pub invariant-loop-mark : goal.invariant-loop-mark
invariant-loop-mark l = list_any (λ other. begins (mark_text16 other) (l.octets ++ l.next ∷ [])) (drop l.mark-index l.marks) ≡ list_any (λ other. begins (mark_text16 other) (l.octets ++ l.next ∷ [])) l.marks
