-- The tokens of a syntax with its parentheses spell it.
use Rattle.std.proofs.Common.{◌≡◌, true, refl}
use Rattle.std.specs.List.{list_all}
use Rattle.std.proofs.lemmas.Bool.{and_parts}
use Rattle.p416_syntax.specs.declared.program.Syntax16.{Syntax16}
use Rattle.p416_syntax.specs.Tokens.{is_spelt_seen}
use Rattle.p416_syntax.specs.Written.{written}
use Rattle.p416_syntax.specs.Conditions.{without_parentheses, is_syntax}
use Rattle.p416_syntax.specs.Spells.{Spells16}
use Rattle.p416_syntax.specs.Spelt.{is_spelt16}
use Rattle.p416_parentheses.specs.Syntax.{full_syntax}
use Rattle.p416_parentheses.proofs.Kept.{kept_keeps}
use Rattle.p416_parentheses.proofs.Spelt.{full_spelt_by}
use Rattle.p416_parentheses.proofs.Same.{same_syntax}

pub spells_full : (s : Syntax16) → is_spelt16 s ≡ true → Spells16 s (written (full_syntax s))
spells_full s h =
    let keeps = (and_parts (is_syntax without_parentheses s) (list_all is_spelt_seen (written s)) h).0 in
    record { in_full = full_syntax s; same = same_syntax s keeps; tokens_are = refl; keeps = kept_keeps s keeps }

-- and each of them can stand in a text
pub full_spelt : (s : Syntax16) → is_spelt16 s ≡ true → list_all is_spelt_seen (written (full_syntax s)) ≡ true
full_spelt s h = full_spelt_by s (and_parts (is_syntax without_parentheses s) (list_all is_spelt_seen (written s)) h).1
