-- What holds of the parser that is written, among the other parts of a program's translation (this project's own).
use Rattle.std.specs.Prelude.{◌≡◌, ◌≤◌, ◌^◌, true, List, length}
use Rattle.match_core.specs.declared.entries.Entries.{Entries}
use Rattle.p414_syntax.specs.declared.syntax.Decl.{Decl}
use Rattle.p414_syntax.specs.declared.syntax.Rule14.{Rule14}
use Rattle.p414_syntax.specs.declared.syntax.Syntax14.{Syntax14}
use Rattle.p414_syntax.specs.Spelt.{is_spelt14}
use Rattle.p414_syntax.specs.Written.{written}
use Rattle.p414_syntax.specs.Breaks.{BreaksNone, program_rules}
use Rattle.p414_sem.specs.Expanded.{Expanded, IsExpanded}
use Rattle.p416_syntax.specs.declared.parsers.Parser16.{Parser16}
use Rattle.lower_laws_base.specs.Blocks.{ParserAlike}
use Rattle.lower_laws_program.specs.Program.{Parts, syntax_of}
use Rattle.lower_laws_program.specs.Fits.{setting_of}
use Rattle.lower_laws_declared.specs.Layout.{program_layout}
use Rattle.lower_laws_translated.specs.Given.{IsGiven}
use Rattle.lower_laws_translated.specs.Translated.{translated}
use Rattle.lower_laws_translated.specs.Laws.{IsTranslation}
use Rattle.lower_parser.specs.Written.{IsAccepted, lowered_parser}

-- the parts of a program with this parser
abbrev pub with_parser : Parts → Parser16 → Parts
with_parser p q = record p { parser = q }

-- From states that agree, this parser ends as that of the program does, in one of its four ways, in states that agree: the same octets
-- are left, `parser_error` is that of the end, and `checksum_error`, store, events and requests stay as they were.
abbrev pub EndsAlike : List Decl → Parser16 → Type 0
EndsAlike ds q =
    (x : Expanded) → IsGiven ds x → (rule : Rule14) (entries : Entries) →
    ParserAlike (program_layout ds entries) (record { decls = ds; expanded = x; rule = rule; entries = entries }) (setting_of (with_parser (translated ds x rule) q) entries)

-- With this parser among the parts of a program's translation, the translation carries the program, breaks no rule of P4_16, is spelt,
-- nests nowhere deeper than 400, and names no member `mcast_grp` of standard metadata.
abbrev pub Translates : List Decl → Parser16 → Type 0
Translates ds q =
    (s : Syntax14) (x : Expanded) → s.decls ≡ ds → is_spelt14 s ≡ true → BreaksNone s.decls program_rules → IsExpanded s.decls x → length (written s) ≤ 2 ^ 32 →
    (rule : Rule14) → IsTranslation s x rule (syntax_of (with_parser (translated s.decls x rule) q))

-- the parser of declarations that were read from a text, and break no rule
pub record IsParserOf (ds : List Decl) (q : Parser16) : Type 0 where
  pub is : q ≡ lowered_parser ds
  pub ends : EndsAlike ds q
  pub translates : Translates ds q

-- it is that parser, where the declarations were read and break no rule
abbrev pub IsLowered : List Decl → Parser16 → Type 0
IsLowered ds q = IsAccepted ds → IsParserOf ds q
