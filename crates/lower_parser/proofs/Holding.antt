-- The laws of the lowering hold of the parser that is written.
use Rattle.std.proofs.Common.{◌≡◌, List, [], ◌++◌, map, refl, sym, ap, ◌∙◌, subst}
use Rattle.match_core.specs.declared.entries.Entries.{Entries}
use Rattle.p414_syntax.specs.declared.parsers.Parser.{Parser}
use Rattle.p414_syntax.specs.declared.syntax.Decl.{Decl}
use Rattle.p414_syntax.specs.declared.syntax.Decl.TheVariants as decl
use Rattle.p414_syntax.specs.declared.syntax.Rule14.{Rule14}
use Rattle.p414_syntax.specs.Names.{Name}
use Rattle.p414_syntax.specs.ParserGraph.{state_in, states}
use Rattle.p414_sem.specs.Expanded.{Expanded}
use Rattle.p414_sem.specs.Parsing.{state_named}
use Rattle.p414_ready_parser.specs.declared.parser.ReadyParser.{ReadyParser}
use Rattle.p414_ready_parser.specs.Rows.{ready_rows}
use Rattle.p416_syntax.specs.declared.parsers.Parser16.{Parser16}
use Rattle.p416_syntax.specs.declared.parsers.State.{State}
use Rattle.std.specs.Prelude.{Some, codes}
use Rattle.lower_laws_base.specs.Blocks.{ParserAlike}
use Rattle.lower_laws_base.specs.Context.{Words}
use Rattle.lower_laws_parser.specs.Words.{next_of, state_of}
use Rattle.lower_laws_states.proofs.Accepted.{state_has}
use Rattle.lower_laws_states.proofs.Members.{has_picked}
use Rattle.lower_laws_program.specs.Fits.{setting_of}
use Rattle.lower_laws_program.specs.Program.{parser_parameters, syntax_of}
use Rattle.lower_laws_program.proofs.Parser.{parser_alike}
use Rattle.lower_laws_program.proofs.Source.{never_stopped}
use Rattle.lower_laws_program.proofs.States.{state_fits}
use Rattle.lower_laws_declared.specs.Layout.{program_layout, type_words}
use Rattle.lower_laws_translated.specs.Given.{IsGiven}
use Rattle.lower_laws_translated.specs.Laws.{IsTranslation}
use Rattle.lower_laws_translated.specs.Translated.{translated}
use Rattle.lower_laws_translated.proofs.BlocksKept.{types, once, parser, read}
use Rattle.lower_laws_translated.proofs.Whole.{translations_hold}
use Rattle.lower_parser.specs.Laws.{with_parser, EndsAlike, Translates, IsLowered}
use Rattle.lower_parser.specs.Rows.{row_front}
use Rattle.lower_parser.specs.Written.{NamesAre, lowered_parser, parser_names}
use Rattle.lower_parser.proofs.SameParsers.{states_same}

own_alike : (ds : List Decl) (x : Expanded) (given : IsGiven ds x) (rule : Rule14) (entries : Entries) → ParserAlike (program_layout ds entries) (record { decls = ds; expanded = x; rule = rule; entries = entries }) (setting_of (translated ds x rule) entries)
own_alike ds x given rule entries =
    let g = program_layout ds entries in
    let t = type_words ds x in
    let p = translated ds x rule in
    let fits = types ds x given rule entries in
    parser_alike g ds x t p fits (once ds x given rule entries) (setting_of p entries) refl (parser ds x given rule entries) (never_stopped ds given.none)
    (λ called y is.
    let there = state_has ds called y is in
    state_fits g ds x t p.types fits given.none (setting_of p entries) p.parser _ y there (read ds x given rule entries y (has_picked state_in ds (decl.Parser y) y there refl)).0)

ends_alike : (ds : List Decl) (q : Parser16) → q ≡ lowered_parser ds → EndsAlike ds q
ends_alike ds q is = subst (EndsAlike ds) (sym is) (λ x given rule entries. own_alike ds x given rule entries)

translates : (ds : List Decl) (q : Parser16) → q ≡ lowered_parser ds → Translates ds q
translates ds q is = subst (Translates ds) (sym is) (λ s x same spelt none expanded few rule.
    subst (λ (es : List Decl). IsTranslation s x rule (syntax_of (with_parser (translated s.decls x rule) (lowered_parser es)))) same
    (translations_hold s x spelt none expanded few rule))

-- the parser of these states is the one that the laws speak of
pub parser_is : (ds : List Decl) (w : Words) (ready : ReadyParser) (states_made : List State) (q : Parser16) → NamesAre ds w → ready ≡ ready_rows ds
    → states_made ≡ row_front w ready.initials (next_of ds (parser_names ds) (codes "start")) ++ map (state_of ds (parser_names ds)) (states ds)
    → q ≡ record { name = codes "P"; parameters = parser_parameters; vars = []; states = states_made } → IsLowered ds q
parser_is ds w ready states_made q names rows made is accepted =
    let same : q ≡ lowered_parser ds = is ∙ ap (λ (xs : List State). record { name = codes "P"; parameters = parser_parameters; vars = []; states = xs }) (states_same ds w names accepted ready states_made rows made) in
    record { is = same; ends = ends_alike ds q same; translates = translates ds q same }
