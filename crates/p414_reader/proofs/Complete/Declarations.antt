-- Declarations that are spelled with tokens are read of them.
use Rattle.std.proofs.Common.{◌≡◌, ℕ, zero, suc, true, false, not, ◌&&◌, ◌||◌, List, [], ◌∷◌, ◌++◌, codes, map, Option, Some, None, refl, sym, ap, subst, ◌∙◌, append_assoc, append-nil, eqb-true, arith}
use Rattle.std.specs.List.{flat_map, list_all}
use Rattle.predictive_parser.specs.declared.symbol.Symbol.TheVariants.{Token}
use Rattle.predictive_parser.specs.declared.symbol.Symbol.TheVariants as symbol
use Rattle.p414_syntax.specs.declared.keyword.Keyword.TheVariants as key
use Rattle.p414_syntax.specs.declared.lexeme.Lexeme.{Lexeme}
use Rattle.p414_syntax.specs.declared.lexeme.Lexeme.TheVariants as lexeme
use Rattle.p414_syntax.specs.declared.mark.Mark.{Mark}
use Rattle.p414_syntax.specs.declared.mark.Mark.TheVariants as mark
use Rattle.p414_syntax.specs.declared.node.BinaryOperator.{BinaryOperator}
use Rattle.p414_syntax.specs.declared.headers.Header.{Header}
use Rattle.p414_syntax.specs.declared.headers.Metadata.{Metadata}
use Rattle.p414_syntax.specs.declared.calculations.FieldList.{FieldList}
use Rattle.p414_syntax.specs.declared.calculations.FieldListCalculation.{FieldListCalculation}
use Rattle.p414_syntax.specs.declared.calculations.CalculatedField.{CalculatedField}
use Rattle.p414_syntax.specs.declared.calculations.Calc.{Calc}
use Rattle.p414_syntax.specs.declared.parsers.Parser.{Parser}
use Rattle.p414_syntax.specs.declared.parsers.Return.{Return}
use Rattle.p414_syntax.specs.declared.parsers.Return.TheVariants as end_of
use Rattle.p414_syntax.specs.declared.actions.Action.{Action}
use Rattle.p414_syntax.specs.declared.tables.Table.{Table}
use Rattle.p414_syntax.specs.declared.objects.StateAttr.{StateAttr}
use Rattle.p414_syntax.specs.declared.objects.Stateful.{Stateful}
use Rattle.p414_syntax.specs.declared.syntax.LeftOutKind.{LeftOutKind}
use Rattle.p414_syntax.specs.declared.syntax.LeftOutKind.TheVariants as left_out
use Rattle.p414_syntax.specs.declared.syntax.LeftOut.{LeftOut}
use Rattle.p414_syntax.specs.declared.syntax.Decl.{Decl}
use Rattle.p414_syntax.specs.declared.syntax.Decl.TheVariants as decl
use Rattle.p414_syntax.specs.Views.{HeaderTypeTree, ControlTree}
use Rattle.p414_syntax.specs.Words.{name, keyword, brace_open, brace_close, paren_open, paren_close, semicolon, colon}
use Rattle.p414_syntax.specs.Written.{attribute, written_literal, written_name, name_line, written_tail, tail_word, written_ref, written_calc, written_call, written_group, written_kind, written_header_type, written_header, written_field_list, written_calculation, written_calculated, written_action, written_control, written_pstmt, written_return, written_parser, in_braces, table_word, written_table_attr, written_table, state_word, written_state_attr, written_stateful, written_decl}
use Rattle.p414_syntax.specs.Conditions.{all_different, is_tail, is_header_type, is_item, is_pstmt, is_return, is_table_attr, are_table_attrs, table_needs, has_word, are_state_attrs, counter_needs, register_needs, is_some_listed, block, is_stmt, is_balanced, is_group, is_decl}
use Rattle.p414_reader.specs.declared.symbols.Class.TheVariants as class
use Rattle.p414_reader.specs.declared.symbols.DeclKind.TheVariants as kind
use Rattle.p414_reader.specs.declared.symbols.Word.TheVariants as word
use Rattle.p414_reader.specs.declared.symbols.HeaderWord.TheVariants as header
use Rattle.p414_reader.specs.declared.symbols.StateWord.TheVariants as state
use Rattle.p414_reader.specs.declared.symbols.BodyWord.TheVariants as body
use Rattle.p414_reader.specs.declared.built.Built.{Built}
use Rattle.p414_reader.specs.internal.Built.{no_bodies}
use Rattle.p414_reader.specs.internal.Classes.{infix_of}
use Rattle.p414_reader.specs.internal.Rows as rows
use Rattle.p414_reader.specs.internal.Rows.{Sym}
use Rattle.p414_reader.proofs.Readings.{Goes, Calm, Reads, ◌▷◌, reads, does, from, giving, skips, builds, both, extended_is}
use Rattle.p414_reader.proofs.Closing.{is_some}
use Rattle.p414_reader.proofs.Complete.Expressions.{next_power, power_of, expr_read}
use Rattle.p414_reader.proofs.Complete.Controls.{never, body_read}
use Rattle.p414_reader.proofs.Complete.Parts.{reads_name_lines, reads_ref}
use Rattle.p414_reader.proofs.Complete.Headers.{ReadsExpr, reads_fields, reads_tails, reads_size, reads_metadata_end}
use Rattle.p414_reader.proofs.Complete.Calculations.{reads_items, reads_calc, reads_calcs}
use Rattle.p414_reader.proofs.Complete.States.{reads_statements, reads_return}
use Rattle.p414_reader.proofs.Complete.Calls.{reads_params, reads_calls}
use Rattle.p414_reader.proofs.Complete.Tables.{reads_attrs}
use Rattle.p414_reader.proofs.Complete.Objects.{reads_counter_attrs, reads_register_attrs}

abbrev decls_sym : Sym
decls_sym = symbol.Word word.Decls

-- a declaration is behind the others
abbrev with_decl : Decl → Built → Built
with_decl d b = record b { bodies = no_bodies; decls = b.decls ++ d ∷ [] }

abbrev ReadsDecl : Decl → Type 0
ReadsDecl d = (symbols : List Sym) (b : Built) (rest : List Lexeme) → Calm (word.Header header.MetadataEnd) rest → Goes (decls_sym ∷ symbols) b (written_decl d ++ rest) (decls_sym ∷ symbols) (with_decl d b) rest

-- expressions in attributes of a header type
no_infix : (rest : List Lexeme) → Calm (word.Body (body.Expr 0)) rest → next_power rest ≡ 0
no_infix [] c = refl
no_infix (t ∷ ts) c = go (infix_of t) c
  where
    go : (o : Option BinaryOperator) → not (is_some o || false) ≡ true → power_of o ≡ 0
    go None h = refl
    go (Some operator) h = cc

reads_expr : ReadsExpr
reads_expr e h symbols b rest c = expr_read e symbols b rest h (no_infix rest c)

header_type_read : (h : HeaderTypeTree) → is_header_type h ≡ true → ReadsDecl (decl.HeaderType h)
header_type_read h k symbols b rest c =
    let p = both (list_all is_tail h.tails) (all_different (map tail_word h.tails)) k in
    from (written_header_type h ++ rest) (simp append_assoc)
    (reads (keyword key.HeaderType ∷ name h.name ∷ brace_open ∷ keyword key.Fields ∷ brace_open ∷ []) refl ▷ does
    ▷ giving (ap (λ ls. record (named h.name b) { headers = record b.headers { fields = ls } }) (extended_is h.fields [] b.headers.fields))
    (reads_fields h.fields _ _ (brace_close ∷ (flat_map written_tail h.tails ++ brace_close ∷ rest)) refl)
    ▷ reads (brace_close ∷ []) refl ▷ does
    ▷ giving (ap (λ ls. record (named h.name b) { headers = record b.headers { fields = h.fields ∷ b.headers.fields }; bodies = record b.bodies { tails = ls } }) (extended_is h.tails [] b.bodies.tails))
    (reads_tails reads_expr h.tails p.0 _ _ (brace_close ∷ rest) p.1 refl)
    ▷ reads (brace_close ∷ []) refl ▷ does)
  where
    named : List ℕ → Built → Built
    named text b = record b { parts = record b.parts { names = text ∷ b.parts.names } }

header_read : (h : Header) → ReadsDecl (decl.Header h)
header_read h symbols b rest c =
    from (written_header h ++ rest) (simp append_assoc)
    (reads (keyword key.Header ∷ name h.header_type ∷ name h.name ∷ []) refl ▷ reads_size h.size _ _ (semicolon ∷ rest) refl ▷ reads (semicolon ∷ []) refl ▷ does)

metadata_read : (m : Metadata) → ReadsDecl (decl.Metadata m)
metadata_read m symbols b rest c =
    reads (keyword key.Metadata ∷ name m.header_type ∷ name m.name ∷ []) refl ▷ reads_metadata_end m.initials _ _ rest c ▷ does

field_list_read : (l : FieldList) → list_all is_item l.items ≡ true → ReadsDecl (decl.FieldList l)
field_list_read l k symbols b rest c =
    from (written_field_list l ++ rest) (simp append_assoc)
    (reads (keyword key.FieldList ∷ name l.name ∷ brace_open ∷ []) refl ▷ does
    ▷ giving (ap (λ ls. record b { parts = record b.parts { names = l.name ∷ b.parts.names }; calculations = record b.calculations { items = ls } }) (extended_is l.items [] b.calculations.items))
    (reads_items l.items k _ _ (brace_close ∷ rest) refl)
    ▷ reads (brace_close ∷ []) refl ▷ does)

-- a list of field lists that isn't empty
calculation_input : (c : FieldListCalculation) (first : List ℕ) (more : List (List ℕ)) → c.input ≡ first ∷ more → ReadsDecl (decl.FieldListCalculation c)
calculation_input c first more e symbols b rest k =
    subst (λ input. Goes (decls_sym ∷ symbols) b (written_calculation (with_input input) ++ rest) (decls_sym ∷ symbols) (with_decl (decl.FieldListCalculation (with_input input)) b) rest) (sym e)
    (from (written_calculation (with_input (first ∷ more)) ++ rest) calculation_tokens
    (reads (keyword key.FieldListCalculation ∷ name c.name ∷ brace_open ∷ keyword key.Input ∷ brace_open ∷ name first ∷ semicolon ∷ []) refl ▷ does
    ▷ giving (ap (λ ls. record b { parts = record b.parts { names = c.name ∷ b.parts.names; name_lists = ls } }) (extended_is more (first ∷ []) b.parts.name_lists))
    (reads_name_lines more _ _ (brace_close ∷ keyword key.Algorithm ∷ colon ∷ name c.algorithm ∷ semicolon ∷ keyword key.OutputWidth ∷ colon ∷ lexeme.Number c.output_width ∷ semicolon ∷ brace_close ∷ rest) refl)
    ▷ reads (brace_close ∷ keyword key.Algorithm ∷ colon ∷ name c.algorithm ∷ semicolon ∷ keyword key.OutputWidth ∷ colon ∷ lexeme.Number c.output_width ∷ semicolon ∷ brace_close ∷ []) refl ▷ does))
  where
    with_input : List (List ℕ) → FieldListCalculation
    with_input input = record c { input = input }

    attributes : List Lexeme
    attributes = attribute (codes "algorithm") (written_name c.algorithm) ++ attribute (codes "output_width") (written_literal c.output_width)

    calculation_tokens : written_calculation (with_input (first ∷ more)) ++ rest
        ≡ keyword key.FieldListCalculation ∷ name c.name ∷ brace_open ∷ keyword key.Input ∷ brace_open ∷ name first ∷ semicolon ∷ (flat_map name_line more ++ brace_close ∷ (attributes ++ brace_close ∷ rest))
    calculation_tokens =
        ap (λ ts. keyword key.FieldListCalculation ∷ name c.name ∷ brace_open ∷ keyword key.Input ∷ brace_open ∷ name first ∷ semicolon ∷ ts)
        (append_assoc ((flat_map name_line more ++ brace_close ∷ []) ++ attributes) (brace_close ∷ []) rest
        ∙ append_assoc (flat_map name_line more ++ brace_close ∷ []) attributes (brace_close ∷ rest)
        ∙ append_assoc (flat_map name_line more) (brace_close ∷ []) (attributes ++ brace_close ∷ rest))

action_read : (a : Action) → ReadsDecl (decl.Action a)
action_read a symbols b rest k =
    from (written_action a ++ rest) (simp append_assoc)
    (reads (keyword key.Action ∷ name a.name ∷ paren_open ∷ []) refl ▷ does
    ▷ giving (ap (λ ls. record b { parts = record b.parts { names = a.name ∷ b.parts.names; name_lists = ls } }) (extended_is a.parameters [] b.parts.name_lists))
    (reads_params a.parameters _ _ (paren_close ∷ brace_open ∷ (flat_map written_call a.calls ++ brace_close ∷ rest)) refl)
    ▷ reads (paren_close ∷ brace_open ∷ []) refl ▷ does
    ▷ giving (ap (λ ls. record b { parts = record b.parts { names = a.name ∷ b.parts.names; name_lists = a.parameters ∷ b.parts.name_lists }; calls = record b.calls { calls = ls } }) (extended_is a.calls [] b.calls.calls))
    (reads_calls a.calls _ _ (brace_close ∷ rest) refl)
    ▷ reads (brace_close ∷ []) refl ▷ does)

control_read : (c : ControlTree) → is_stmt block c.body ≡ true → ReadsDecl (decl.Control c)
control_read c h symbols b rest k =
    from (written_control c ++ rest) (simp append_assoc)
    (reads (keyword key.Control ∷ name c.name ∷ brace_open ∷ []) refl ▷ does
    ▷ body_read c.body _ (record b { parts = record b.parts { names = c.name ∷ b.parts.names } }) rest h
    ▷ does)

-- the tokens of a group

abbrev groups_with : List (Option (List Lexeme)) → Built → Built
groups_with gs b = record b { groups = gs }

left_out_word : (k : LeftOutKind) (n : List ℕ) (symbols : List Sym) (b : Built) (rest : List Lexeme)
    → Goes (decls_sym ∷ symbols) b (written_kind k ∷ name n ∷ rest) (symbol.Word word.LeftOutEnd ∷ (rows.decl_rest (kind.LeftOut k) ++ symbols)) (record b { parts = record b.parts { names = n ∷ b.parts.names } }) rest
left_out_word left_out.ParserValueSet n symbols b rest = reads (keyword key.ParserValueSet ∷ name n ∷ []) refl
left_out_word left_out.ParserException n symbols b rest = reads (keyword key.ParserException ∷ name n ∷ []) refl
left_out_word left_out.ActionProfile n symbols b rest = reads (keyword key.ActionProfile ∷ name n ∷ []) refl
left_out_word left_out.ActionSelector n symbols b rest = reads (keyword key.ActionSelector ∷ name n ∷ []) refl

abbrev group_sym : Sym
group_sym = symbol.Word word.Group

abbrev group_close : Sym
group_close = Token class.GroupClose

-- so many braces are open
abbrev opens_left : ℕ → List Sym → List Sym
opens_left zero symbols = symbols
opens_left (suc depth) symbols = group_close ∷ group_sym ∷ opens_left depth symbols

group_passes : (symbols : List Sym) (b : Built) (rest : List Lexeme) → Calm word.Group rest → Goes (group_sym ∷ symbols) b rest symbols b rest
group_passes symbols b rest c = skips word.Group symbols b rest refl refl c

-- what a token of a group leads to, where the tokens behind it are read
abbrev Behind : Lexeme → List Lexeme → List Lexeme → List (Option (List Lexeme)) → List Sym → Built → List Lexeme → List (Option (List Lexeme)) → Type 0
Behind t tokens before gs symbols b rest end =
    (d : ℕ) → is_balanced d tokens ≡ true
    → Goes (group_sym ∷ opens_left d (rows.brace_close ∷ symbols)) (groups_with (Some (before ++ t ∷ []) ∷ gs) b) (tokens ++ brace_close ∷ rest) symbols (groups_with end b) rest

mark_reads : (m : Mark) (depth : ℕ) (tokens before : List Lexeme) (gs : List (Option (List Lexeme))) (symbols : List Sym) (b : Built) (rest : List Lexeme) (end : List (Option (List Lexeme)))
    → is_balanced depth (lexeme.Mark m ∷ tokens) ≡ true → Behind (lexeme.Mark m) tokens before gs symbols b rest end
    → Goes (group_sym ∷ opens_left depth (rows.brace_close ∷ symbols)) (groups_with (Some before ∷ gs) b) (lexeme.Mark m ∷ (tokens ++ brace_close ∷ rest)) symbols (groups_with end b) rest
mark_reads mark.BraceOpen depth tokens before gs symbols b rest end h f = reads (brace_open ∷ []) refl ▷ f (suc depth) h
mark_reads mark.BraceClose zero tokens before gs symbols b rest end h f = absurd (never h)
mark_reads mark.BraceClose (suc depth) tokens before gs symbols b rest end h f =
    group_passes _ _ (brace_close ∷ (tokens ++ brace_close ∷ rest)) refl ▷ reads (brace_close ∷ []) refl ▷ f depth h
mark_reads mark.Assign depth tokens before gs symbols b rest end h f = reads (lexeme.Mark mark.Assign ∷ []) refl ▷ f depth h
mark_reads mark.Less depth tokens before gs symbols b rest end h f = reads (lexeme.Mark mark.Less ∷ []) refl ▷ f depth h
mark_reads mark.Greater depth tokens before gs symbols b rest end h f = reads (lexeme.Mark mark.Greater ∷ []) refl ▷ f depth h
mark_reads mark.LessEqual depth tokens before gs symbols b rest end h f = reads (lexeme.Mark mark.LessEqual ∷ []) refl ▷ f depth h
mark_reads mark.GreaterEqual depth tokens before gs symbols b rest end h f = reads (lexeme.Mark mark.GreaterEqual ∷ []) refl ▷ f depth h
mark_reads mark.Equal depth tokens before gs symbols b rest end h f = reads (lexeme.Mark mark.Equal ∷ []) refl ▷ f depth h
mark_reads mark.NotEqual depth tokens before gs symbols b rest end h f = reads (lexeme.Mark mark.NotEqual ∷ []) refl ▷ f depth h
mark_reads mark.ShiftLeft depth tokens before gs symbols b rest end h f = reads (lexeme.Mark mark.ShiftLeft ∷ []) refl ▷ f depth h
mark_reads mark.ShiftRight depth tokens before gs symbols b rest end h f = reads (lexeme.Mark mark.ShiftRight ∷ []) refl ▷ f depth h
mark_reads mark.Plus depth tokens before gs symbols b rest end h f = reads (lexeme.Mark mark.Plus ∷ []) refl ▷ f depth h
mark_reads mark.Minus depth tokens before gs symbols b rest end h f = reads (lexeme.Mark mark.Minus ∷ []) refl ▷ f depth h
mark_reads mark.Star depth tokens before gs symbols b rest end h f = reads (lexeme.Mark mark.Star ∷ []) refl ▷ f depth h
mark_reads mark.Ampersand depth tokens before gs symbols b rest end h f = reads (lexeme.Mark mark.Ampersand ∷ []) refl ▷ f depth h
mark_reads mark.Bar depth tokens before gs symbols b rest end h f = reads (lexeme.Mark mark.Bar ∷ []) refl ▷ f depth h
mark_reads mark.Caret depth tokens before gs symbols b rest end h f = reads (lexeme.Mark mark.Caret ∷ []) refl ▷ f depth h
mark_reads mark.Tilde depth tokens before gs symbols b rest end h f = reads (lexeme.Mark mark.Tilde ∷ []) refl ▷ f depth h
mark_reads mark.ParenOpen depth tokens before gs symbols b rest end h f = reads (lexeme.Mark mark.ParenOpen ∷ []) refl ▷ f depth h
mark_reads mark.ParenClose depth tokens before gs symbols b rest end h f = reads (lexeme.Mark mark.ParenClose ∷ []) refl ▷ f depth h
mark_reads mark.BracketOpen depth tokens before gs symbols b rest end h f = reads (lexeme.Mark mark.BracketOpen ∷ []) refl ▷ f depth h
mark_reads mark.BracketClose depth tokens before gs symbols b rest end h f = reads (lexeme.Mark mark.BracketClose ∷ []) refl ▷ f depth h
mark_reads mark.Semicolon depth tokens before gs symbols b rest end h f = reads (lexeme.Mark mark.Semicolon ∷ []) refl ▷ f depth h
mark_reads mark.Colon depth tokens before gs symbols b rest end h f = reads (lexeme.Mark mark.Colon ∷ []) refl ▷ f depth h
mark_reads mark.Comma depth tokens before gs symbols b rest end h f = reads (lexeme.Mark mark.Comma ∷ []) refl ▷ f depth h
mark_reads mark.Dot depth tokens before gs symbols b rest end h f = reads (lexeme.Mark mark.Dot ∷ []) refl ▷ f depth h

token_reads : (t : Lexeme) (depth : ℕ) (tokens before : List Lexeme) (gs : List (Option (List Lexeme))) (symbols : List Sym) (b : Built) (rest : List Lexeme) (end : List (Option (List Lexeme)))
    → is_balanced depth (t ∷ tokens) ≡ true → Behind t tokens before gs symbols b rest end
    → Goes (group_sym ∷ opens_left depth (rows.brace_close ∷ symbols)) (groups_with (Some before ∷ gs) b) (t ∷ (tokens ++ brace_close ∷ rest)) symbols (groups_with end b) rest
token_reads (lexeme.Name text) depth tokens before gs symbols b rest end h f = reads (lexeme.Name text ∷ []) refl ▷ f depth h
token_reads (lexeme.Number n) depth tokens before gs symbols b rest end h f = reads (lexeme.Number n ∷ []) refl ▷ f depth h
token_reads (lexeme.Mark m) depth tokens before gs symbols b rest end h f = mark_reads m depth tokens before gs symbols b rest end h f

-- Tokens that close as many braces as they open and as are open are read into the group.
group_reads : (tokens : List Lexeme) (depth : ℕ) (before : List Lexeme) (gs : List (Option (List Lexeme))) (symbols : List Sym) (b : Built) (rest : List Lexeme) → is_balanced depth tokens ≡ true
    → Goes (group_sym ∷ opens_left depth (rows.brace_close ∷ symbols)) (groups_with (Some before ∷ gs) b) (tokens ++ brace_close ∷ rest) symbols (groups_with (Some (before ++ tokens) ∷ gs) b) rest
group_reads [] zero before gs symbols b rest h =
    giving (ap (λ l. groups_with (Some l ∷ gs) b) (sym (append-nil before))) (group_passes _ _ (brace_close ∷ rest) refl ▷ reads (brace_close ∷ []) refl)
group_reads [] (suc depth) before gs symbols b rest h = let e : suc depth ≡ 0 = eqb-true (suc depth) 0 h in absurd (omega (arith, e))
group_reads (t ∷ tokens) depth before gs symbols b rest h =
    token_reads t depth tokens before gs symbols b rest (Some (before ++ t ∷ tokens) ∷ gs) h
    (λ d k. giving (ap (λ l. groups_with (Some l ∷ gs) b) (append_assoc before (t ∷ []) tokens)) (group_reads tokens d (before ++ t ∷ []) gs symbols b rest k))

left_out_end : (g : Option (List Lexeme)) → is_group g ≡ true → Reads word.LeftOutEnd g (written_group g)
left_out_end None h symbols b rest = reads (semicolon ∷ []) refl ▷ does
left_out_end (Some tokens) h symbols b rest =
    from (written_group (Some tokens) ++ rest) (ap (λ ts. brace_open ∷ ts) (append_assoc tokens (brace_close ∷ []) rest))
    (reads (brace_open ∷ []) refl ▷ does ▷ group_reads tokens 0 [] b.groups symbols b rest h)

left_out_read : (l : LeftOut) → is_group l.group ≡ true → ReadsDecl (decl.LeftOut l)
left_out_read l h symbols b rest c = left_out_word l.kind l.name symbols b (written_group l.group ++ rest) ▷ left_out_end l.group h _ _ rest ▷ does

-- a list of entries that isn't empty
calculated_entries : (c : CalculatedField) (first : Calc) (more : List Calc) → c.entries ≡ first ∷ more → ReadsDecl (decl.CalculatedField c)
calculated_entries c first more e symbols b rest k =
    subst (λ entries. Goes (decls_sym ∷ symbols) b (written_calculated (with_entries entries) ++ rest) (decls_sym ∷ symbols) (with_decl (decl.CalculatedField (with_entries entries)) b) rest) (sym e)
    (from (written_calculated (with_entries (first ∷ more)) ++ rest) calculated_tokens
    (reads (keyword key.CalculatedField ∷ []) refl ▷ reads_ref c.field _ _ (brace_open ∷ (written_calc first ++ (flat_map written_calc more ++ brace_close ∷ rest)))
    ▷ reads (brace_open ∷ []) refl ▷ does
    ▷ reads_calc first _ _ (flat_map written_calc more ++ brace_close ∷ rest)
    ▷ giving (ap (λ ls. record b { parts = record b.parts { fields = c.field ∷ b.parts.fields }; calculations = record b.calculations { entries = ls } }) (extended_is more (first ∷ []) b.calculations.entries))
    (reads_calcs more _ _ (brace_close ∷ rest) refl)
    ▷ reads (brace_close ∷ []) refl ▷ does))
  where
    with_entries : List Calc → CalculatedField
    with_entries entries = record c { entries = entries }

    calculated_tokens : written_calculated (with_entries (first ∷ more)) ++ rest
        ≡ keyword key.CalculatedField ∷ (written_ref c.field ++ brace_open ∷ (written_calc first ++ (flat_map written_calc more ++ brace_close ∷ rest)))
    calculated_tokens =
        ap (λ ts. keyword key.CalculatedField ∷ ts)
        (append_assoc (written_ref c.field) (brace_open ∷ ((written_calc first ++ flat_map written_calc more) ++ brace_close ∷ [])) rest
        ∙ ap (λ ts. written_ref c.field ++ brace_open ∷ ts)
        (append_assoc (written_calc first ++ flat_map written_calc more) (brace_close ∷ []) rest ∙ append_assoc (written_calc first) (flat_map written_calc more) (brace_close ∷ rest)))

-- what ends a state is no statement
calm_return : (e : Return) (tokens : List Lexeme) → Calm (word.State state.Statements) (written_return e ++ tokens)
calm_return (end_of.Select vs cs) tokens = refl
calm_return (end_of.State s) tokens = refl
calm_return (end_of.ParseError e) tokens = refl

parser_read : (p : Parser) → (list_all is_pstmt p.statements && is_return p.end) ≡ true → ReadsDecl (decl.Parser p)
parser_read p h symbols b rest k =
    let q = both (list_all is_pstmt p.statements) (is_return p.end) h in
    from (written_parser p ++ rest)
    (ap (λ ts. keyword key.Parser ∷ name p.name ∷ brace_open ∷ ts) (append_assoc (flat_map written_pstmt p.statements ++ written_return p.end) (brace_close ∷ []) rest ∙ append_assoc (flat_map written_pstmt p.statements) (written_return p.end) (brace_close ∷ rest)))
    (reads (keyword key.Parser ∷ name p.name ∷ brace_open ∷ []) refl ▷ does
    ▷ giving (ap (λ ls. record b { parts = record b.parts { names = p.name ∷ b.parts.names }; states = record b.states { statements = ls } }) (extended_is p.statements [] b.states.statements))
    (reads_statements p.statements q.0 _ _ (written_return p.end ++ brace_close ∷ rest) (calm_return p.end (brace_close ∷ rest)))
    ▷ reads_return p.end q.1 _ _ (brace_close ∷ rest)
    ▷ reads (brace_close ∷ []) refl ▷ does)

-- a declaration of attributes in braces
attributes_tokens : {A : Type 0} (written : A → List Lexeme) (word_ text : List ℕ) (attrs : List A) (rest : List Lexeme)
    → (name word_ ∷ name text ∷ in_braces (flat_map written attrs)) ++ rest ≡ name word_ ∷ name text ∷ brace_open ∷ (flat_map written attrs ++ brace_close ∷ rest)
attributes_tokens written word_ text attrs rest = ap (λ ts. name word_ ∷ name text ∷ brace_open ∷ ts) (append_assoc (flat_map written attrs) (brace_close ∷ []) rest)

table_read : (t : Table) → are_table_attrs t.attributes ≡ true → ReadsDecl (decl.Table t)
table_read t h symbols b rest k =
    let p = both (list_all is_table_attr t.attributes) (all_different (map table_word t.attributes) && has_word table_needs (map table_word t.attributes)) h in
    let q = both (all_different (map table_word t.attributes)) (has_word table_needs (map table_word t.attributes)) p.1 in
    from (written_table t ++ rest) (attributes_tokens written_table_attr (codes "table") t.name t.attributes rest)
    (reads (keyword key.Table ∷ name t.name ∷ brace_open ∷ []) refl ▷ does
    ▷ giving (ap (λ ls. record b { parts = record b.parts { names = t.name ∷ b.parts.names }; tables = record b.tables { attributes = ls } }) (extended_is t.attributes [] b.tables.attributes))
    (reads_attrs t.attributes p.0 q.1 _ _ (brace_close ∷ rest) q.0 refl)
    ▷ reads (brace_close ∷ []) refl ▷ does)

abbrev object_built : Stateful → List (List StateAttr) → Built → Built
object_built s ls b = record b { parts = record b.parts { names = s.name ∷ b.parts.names }; objects = ls }

counter_read : (s : Stateful) → are_state_attrs counter_needs s.attributes ≡ true → ReadsDecl (decl.Counter s)
counter_read s h symbols b rest k =
    let q = both (all_different (map state_word s.attributes)) (has_word counter_needs (map state_word s.attributes)) h in
    from (written_stateful (codes "counter") s ++ rest) (attributes_tokens written_state_attr (codes "counter") s.name s.attributes rest)
    (reads (keyword key.Counter ∷ name s.name ∷ brace_open ∷ []) refl ▷ does
    ▷ giving (ap (λ ls. object_built s ls b) (extended_is s.attributes [] b.objects)) (reads_counter_attrs s.attributes q.1 _ _ (brace_close ∷ rest) q.0 refl)
    ▷ reads (brace_close ∷ []) refl ▷ does)

meter_read : (s : Stateful) → are_state_attrs counter_needs s.attributes ≡ true → ReadsDecl (decl.Meter s)
meter_read s h symbols b rest k =
    let q = both (all_different (map state_word s.attributes)) (has_word counter_needs (map state_word s.attributes)) h in
    from (written_stateful (codes "meter") s ++ rest) (attributes_tokens written_state_attr (codes "meter") s.name s.attributes rest)
    (reads (keyword key.Meter ∷ name s.name ∷ brace_open ∷ []) refl ▷ does
    ▷ giving (ap (λ ls. object_built s ls b) (extended_is s.attributes [] b.objects)) (reads_counter_attrs s.attributes q.1 _ _ (brace_close ∷ rest) q.0 refl)
    ▷ reads (brace_close ∷ []) refl ▷ does)

register_read : (s : Stateful) → are_state_attrs register_needs s.attributes ≡ true → ReadsDecl (decl.Register s)
register_read s h symbols b rest k =
    let q = both (all_different (map state_word s.attributes)) (has_word register_needs (map state_word s.attributes)) h in
    from (written_stateful (codes "register") s ++ rest) (attributes_tokens written_state_attr (codes "register") s.name s.attributes rest)
    (reads (keyword key.Register ∷ name s.name ∷ brace_open ∷ []) refl ▷ does
    ▷ giving (ap (λ ls. object_built s ls b) (extended_is s.attributes [] b.objects)) (reads_register_attrs s.attributes q.1 _ _ (brace_close ∷ rest) q.0 refl)
    ▷ reads (brace_close ∷ []) refl ▷ does)

-- lists that aren't empty

calculation_read : (c : FieldListCalculation) → is_some_listed c.input ≡ true → ReadsDecl (decl.FieldListCalculation c)
calculation_read c h = go c.input refl h
  where
    go : (input : List (List ℕ)) → c.input ≡ input → is_some_listed input ≡ true → ReadsDecl (decl.FieldListCalculation c)
    go [] e k = absurd (never k)
    go (first ∷ more) e k = calculation_input c first more e

calculated_read : (c : CalculatedField) → is_some_listed c.entries ≡ true → ReadsDecl (decl.CalculatedField c)
calculated_read c h = go c.entries refl h
  where
    go : (entries : List Calc) → c.entries ≡ entries → is_some_listed entries ≡ true → ReadsDecl (decl.CalculatedField c)
    go [] e k = absurd (never k)
    go (first ∷ more) e k = calculated_entries c first more e

decl_read : (d : Decl) → is_decl d ≡ true → ReadsDecl d
decl_read (decl.HeaderType h) k = header_type_read h k
decl_read (decl.Header h) k = header_read h
decl_read (decl.Metadata m) k = metadata_read m
decl_read (decl.FieldList l) k = field_list_read l k
decl_read (decl.FieldListCalculation c) k = calculation_read c k
decl_read (decl.CalculatedField c) k = calculated_read c k
decl_read (decl.Parser p) k = parser_read p k
decl_read (decl.Action a) k = action_read a
decl_read (decl.Table t) k = table_read t k
decl_read (decl.Counter s) k = counter_read s k
decl_read (decl.Meter s) k = meter_read s k
decl_read (decl.Register s) k = register_read s k
decl_read (decl.Control c) k = control_read c k
decl_read (decl.LeftOut l) k = left_out_read l k

-- a declaration begins with a word

calm_kind : (k : LeftOutKind) (tokens : List Lexeme) → Calm (word.Header header.MetadataEnd) (written_kind k ∷ tokens)
calm_kind left_out.ParserValueSet tokens = refl
calm_kind left_out.ParserException tokens = refl
calm_kind left_out.ActionProfile tokens = refl
calm_kind left_out.ActionSelector tokens = refl

calm_decl : (d : Decl) (tokens : List Lexeme) → Calm (word.Header header.MetadataEnd) (written_decl d ++ tokens)
calm_decl (decl.HeaderType h) tokens = refl
calm_decl (decl.Header h) tokens = refl
calm_decl (decl.Metadata m) tokens = refl
calm_decl (decl.FieldList l) tokens = refl
calm_decl (decl.FieldListCalculation c) tokens = refl
calm_decl (decl.CalculatedField c) tokens = refl
calm_decl (decl.Parser p) tokens = refl
calm_decl (decl.Action a) tokens = refl
calm_decl (decl.Table t) tokens = refl
calm_decl (decl.Counter s) tokens = refl
calm_decl (decl.Meter s) tokens = refl
calm_decl (decl.Register s) tokens = refl
calm_decl (decl.Control c) tokens = refl
calm_decl (decl.LeftOut l) tokens = calm_kind l.kind (name l.name ∷ (written_group l.group ++ tokens))

calm_decls : (ds : List Decl) → Calm (word.Header header.MetadataEnd) (flat_map written_decl ds)
calm_decls [] = refl
calm_decls (d ∷ ds) = calm_decl d (flat_map written_decl ds)

-- Declarations are read up to the end of the tokens.
pub decls_read : (ds : List Decl) (b : Built) → list_all is_decl ds ≡ true → Goes (decls_sym ∷ []) b (flat_map written_decl ds) [] (record b { bodies = no_bodies; decls = b.decls ++ ds }) []
decls_read [] b h =
    giving (ap (λ l. record b { bodies = no_bodies; decls = l }) (sym (append-nil b.decls))) (builds word.Decls _ [] b [] refl refl refl)
decls_read (d ∷ ds) b h =
    let p = both (is_decl d) (list_all is_decl ds) h in
    giving (ap (λ l. record b { bodies = no_bodies; decls = l }) (append_assoc b.decls (d ∷ []) ds))
    (decl_read d p.0 [] b (flat_map written_decl ds) (calm_decls ds) ▷ decls_read ds (with_decl d b) p.1)
