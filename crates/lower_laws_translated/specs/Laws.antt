-- What holds of the program that is written (this project's own; both languages are meant as a whole: P4_14
-- 1.0.5, and P4_16 1.2 with `v1model.p4`).
use Rattle.std.specs.Prelude.{◌≡◌, ◌≤◌, ◌^◌, true, false, length}
use Rattle.std.specs.List.{list_any}
use Rattle.p414_syntax.specs.declared.syntax.Rule14.{Rule14}
use Rattle.p414_syntax.specs.declared.syntax.Syntax14.{Syntax14}
use Rattle.p414_syntax.specs.Spelt.{is_spelt14}
use Rattle.p414_syntax.specs.Written.{written}
use Rattle.match_core.specs.declared.entries.Entries.{Entries}
use Rattle.p414_syntax.specs.Breaks.{BreaksNone, program_rules}
use Rattle.p414_sem.specs.Expanded.{Expanded, IsExpanded}
use Rattle.p416_syntax.specs.declared.program.Syntax16.{Syntax16}
use Rattle.p416_syntax.specs.Breaks.{BreaksNone as BreaksNone16, program_rules as program_rules16, program_uses}
use Rattle.p416_syntax.specs.Spelt.{is_spelt16}
use Rattle.lower_laws_rules.specs.Keeping.{is_deep, names_group}
use Rattle.lower_laws_program.specs.Program.{syntax_of}
use Rattle.lower_laws_program.specs.Fits.{Carries}
use Rattle.lower_laws_translated.specs.Translated.{translated}

-- A program of P4_16 carries one of P4_14 under this rule, whatever entries there are; it breaks no rule, is spelt, nests nowhere deeper
-- than 400, and names no member `mcast_grp` of standard metadata.
pub record IsTranslation (s : Syntax14) (x : Expanded) (rule : Rule14) (t : Syntax16) : Type 0 where
  pub carries : (entries : Entries) → Carries (record { decls = s.decls; expanded = x; rule = rule; entries = entries }) t
  pub none : BreaksNone16 t program_rules16
  pub spelt : is_spelt16 t ≡ true
  pub shallow : list_any is_deep (program_uses t) ≡ false
  pub unnamed : list_any names_group (program_uses t) ≡ false

-- What is written for a program that was read, with no more tokens than have numbers of 32 bits, breaks no rule and comes to this is a
-- translation of it, under both rules.
abbrev pub TranslationsHold : Type 0
TranslationsHold =
    (s : Syntax14) (x : Expanded) → is_spelt14 s ≡ true → BreaksNone s.decls program_rules → IsExpanded s.decls x → length (written s) ≤ 2 ^ 32 →
    (rule : Rule14) → IsTranslation s x rule (syntax_of (translated s.decls x rule))
