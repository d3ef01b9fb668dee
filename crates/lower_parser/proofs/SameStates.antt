-- What is written for the row of a state is what the mirror writes for the state: its end, and the whole.
use Rattle.std.proofs.Common.{◌≡◌, ℕ, List, [], ◌∷◌, map, sum, refl, sym, ap, ap₂, ◌∙◌, Option, None, subst}
use Rattle.p414_syntax.specs.declared.parsers.Case.{Case}
use Rattle.p414_syntax.specs.declared.parsers.PValue.{PValue}
use Rattle.p414_syntax.specs.declared.parsers.Return.{Return}
use Rattle.p414_syntax.specs.declared.parsers.Return.TheVariants as end_of
use Rattle.p414_syntax.specs.declared.parsers.Parser.{Parser}
use Rattle.p414_syntax.specs.declared.parts.Inst.{Inst}
use Rattle.p414_syntax.specs.declared.syntax.Decl.{Decl}
use Rattle.p414_syntax.specs.declared.syntax.Sort.TheVariants as sort
use Rattle.p414_syntax.specs.Names.{Name}
use Rattle.p414_syntax.specs.ParserGraph.{states}
use Rattle.p414_syntax.specs.Uses.{last_of}
use Rattle.p414_ready_parser.specs.declared.rows.ReadyState.{ReadyState}
use Rattle.p414_ready_parser.specs.declared.rows.SelectPart.{SelectPart}
use Rattle.p414_ready_parser.specs.Rows.{statement_rows, select_part, key_bits, end_row, state_row}
use Rattle.p416_syntax.specs.declared.parsers.SelectCase.{SelectCase}
use Rattle.p416_syntax.specs.declared.parsers.Target.{Target}
use Rattle.p416_syntax.specs.declared.parsers.Target.TheVariants as target
use Rattle.p416_syntax.specs.declared.parsers.Transition.{Transition}
use Rattle.p416_syntax.specs.declared.parsers.Transition.TheVariants as transition
use Rattle.p416_syntax.specs.declared.parsers.State.{State}
use Rattle.p416_syntax.specs.Tree.{Exp16, Stmt16, no_statements}
use Rattle.agreement_of_meanings.specs.Lowered.{select_cases}
use Rattle.lower_laws_base.specs.Context.{Words}
use Rattle.lower_laws_names.specs.NewNames.{new_name}
use Rattle.lower_laws_states.specs.Expansions.{Has}
use Rattle.lower_laws_parser.specs.Words.{next_of, key_exp, transition_of, state_of, body_of}
use Rattle.lower_parser.specs.Has.{StateHas, PartsHave}
use Rattle.lower_parser.specs.Elements.{element_in}
use Rattle.lower_parser.specs.Rows.{element_of, rows_behind, row_key, parts_in}
use Rattle.lower_parser.specs.Written.{NamesAre, parser_names}
use Rattle.lower_parser.proofs.Leading.{state_called_so}
use Rattle.lower_parser.proofs.Same.{last_same, bits_same, rows_same, key_same}

-- the element that a state extracted last
pub element_same : (ds : List Decl) (row : ReadyState) (x : Parser) (element : Option ℕ) → row ≡ state_row ds x → element ≡ element_of None row.statements → element ≡ element_in (last_of None x.statements)
element_same ds row x element is from = from ∙ ap (λ (r : ReadyState). element_of None r.statements) is ∙ last_same ds None x.statements

-- a select
pub select_same : (ds : List Decl) (t : Words) → NamesAre ds t → (x : Parser) (vs : List PValue) (cs : List Case) (element : Option ℕ) (parts : List SelectPart) (bits : ℕ) (keys : List Exp16) (cases : List SelectCase)
    → x.end ≡ end_of.Select vs cs → element ≡ element_in (last_of None x.statements) → parts ≡ parts_in (end_row ds (last_of None x.statements) x.end) → bits ≡ key_bits parts
    → keys ≡ row_key t element parts ∷ [] → cases ≡ select_cases bits (next_of ds (parser_names ds)) cs
    → transition.Select keys cases ≡ transition_of ds (parser_names ds) (last_of None x.statements) x.end
select_same ds t same x vs cs element parts bits keys cases ends from joined wide made listed =
    let last = last_of None x.statements in
    let there : parts ≡ map (select_part ds last) vs = joined ∙ ap (λ e. parts_in (end_row ds last e)) ends in
    let key : keys ≡ key_exp ds (parser_names ds) last vs ∷ [] = made ∙ ap₂ (λ e ps. row_key t e ps ∷ []) from there ∙ ap (λ k. k ∷ []) (key_same ds t same last vs) in
    ap₂ transition.Select key (listed ∙ ap (λ width. select_cases width (next_of ds (parser_names ds)) cs) (wide ∙ ap key_bits there ∙ bits_same ds last vs))
    ∙ ap (transition_of ds (parser_names ds) last) (sym ends)

-- the values of a state's row
pub parts_same : (ds : List Decl) (row : ReadyState) (x : Parser) (parts : List SelectPart) → row ≡ state_row ds x → parts ≡ parts_in row.end → parts ≡ parts_in (end_row ds (last_of None x.statements) x.end)
parts_same ds row x parts is from = from ∙ ap (λ (r : ReadyState). parts_in r.end) is

pub parts_have : (w : Words) (row : ReadyState) (parts : List SelectPart) → StateHas w row → parts ≡ parts_in row.end → PartsHave w parts
parts_have w row parts has from = subst (PartsHave w) (sym from) has.parts

-- a state that another one follows
pub go_same : (ds : List Decl) (x : Parser) (called : Name) (to : Target) → x.end ≡ end_of.State called → to ≡ next_of ds (parser_names ds) called → transition.Go to ≡ transition_of ds (parser_names ds) (last_of None x.statements) x.end
go_same ds x called to ends is = ap transition.Go is ∙ ap (transition_of ds (parser_names ds) (last_of None x.statements)) (sym ends)

pub reject_same : (ds : List Decl) (x : Parser) (called : Name) → x.end ≡ end_of.ParseError called → transition.Go target.Reject ≡ transition_of ds (parser_names ds) (last_of None x.statements) x.end
reject_same ds x called ends = ap (transition_of ds (parser_names ds) (last_of None x.statements)) (sym ends)

abbrev pub made_state : Name → Stmt16 → Transition → State
made_state called body end = record { name = called; body = body; transition = end }

-- the whole state
pub state_same : (ds : List Decl) (t : Words) → NamesAre ds t → (row : ReadyState) (x : Parser) (called : Name) (body : Stmt16) (end : Transition)
    → row ≡ state_row ds x → Has (states ds) x → called ≡ new_name ds sort.Parse x.name → body ≡ rows_behind t None no_statements row.statements
    → end ≡ transition_of ds (parser_names ds) (last_of None x.statements) x.end → made_state called body end ≡ state_of ds (parser_names ds) x
state_same ds t same row x called body end is there named written ends =
    let name_is : called ≡ (parser_names ds).state x.name = named ∙ state_called_so ds x there in
    let body_is : body ≡ body_of ds (parser_names ds) None no_statements x.statements = written ∙ ap (λ (r : ReadyState). rows_behind t None no_statements r.statements) is ∙ rows_same ds t same None no_statements x.statements in
    ap₂ (λ n b. made_state n b end) name_is body_is
    ∙ ap (made_state ((parser_names ds).state x.name) (body_of ds (parser_names ds) None no_statements x.statements)) ends
