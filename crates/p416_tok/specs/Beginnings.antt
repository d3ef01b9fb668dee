-- Marks by their first octet. Only a private function and proofs name it: nothing here needs to be believed.
use Rattle.std.specs.Prelude.{ℕ, Bool, true, nat_eq, List, [], ◌∷◌}
use Rattle.p416_syntax.specs.declared.mark.Mark16.{Mark16}
use Rattle.p416_syntax.specs.Marks.{mark_text16}

-- a text that begins with this octet may begin with these
abbrev pub may_begin : ℕ → List ℕ → Bool
may_begin first [] = true
may_begin first (octet ∷ octets) = nat_eq octet first

abbrev pub mark_begins_with : ℕ → Mark16 → Bool
mark_begins_with first mark = may_begin first (mark_text16 mark)
