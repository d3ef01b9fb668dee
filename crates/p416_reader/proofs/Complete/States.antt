-- Parsers, their variables and their states: what is written so is read.
use Rattle.std.proofs.Common.{◌≡◌, Bool, true, ◌&&◌, List, [], ◌∷◌, ◌++◌, map, Option, Some, None, refl, ap, ◌∙◌, append_assoc}
use Rattle.std.specs.List.{flat_map, list_all}
use Rattle.predictive_parser.specs.declared.symbol.Symbol.TheVariants.{Put}
use Rattle.p416_syntax.specs.declared.keyword.Keyword16.TheVariants as key
use Rattle.p416_syntax.specs.declared.parts.Type16.{Type16}
use Rattle.p416_syntax.specs.declared.parts.Type16.TheVariants as kind
use Rattle.p416_syntax.specs.declared.parsers.Var.{Var}
use Rattle.p416_syntax.specs.declared.parsers.Target.{Target}
use Rattle.p416_syntax.specs.declared.parsers.Target.TheVariants as target
use Rattle.p416_syntax.specs.declared.parsers.SelectCase.{SelectCase}
use Rattle.p416_syntax.specs.declared.parsers.Transition.{Transition}
use Rattle.p416_syntax.specs.declared.parsers.Transition.TheVariants as transition
use Rattle.p416_syntax.specs.declared.parsers.State.{State}
use Rattle.p416_syntax.specs.Tree.{Exp16}
use Rattle.p416_syntax.specs.Tokens.{Seen16, id, quoted, colon, comma, semicolon, equals, paren_open, paren_close, brace_open, brace_close, in_braces}
use Rattle.p416_syntax.specs.Written.{written_option, after_commas, written_exp, written_stmt, written_type, written_initial, written_var, written_target, written_keyset, written_case, written_transition, written_state}
use Rattle.p416_syntax.specs.Parentheses.{bare_exp, bare_case}
use Rattle.p416_syntax.specs.Conditions.{with_parentheses, is_option, is_exp, is_case, is_transition, is_stmt, statements, is_state, is_var}
use Rattle.p416_reader.specs.declared.symbols.Action.TheVariants as action
use Rattle.p416_reader.specs.declared.symbols.StateAction.TheVariants as state_act
use Rattle.p416_reader.specs.declared.symbols.Word.TheVariants as word
use Rattle.p416_reader.specs.declared.symbols.BodyWord.TheVariants as body
use Rattle.p416_reader.specs.declared.symbols.PartWord.TheVariants as part
use Rattle.p416_reader.specs.declared.symbols.StateWord.TheVariants as state
use Rattle.p416_reader.specs.declared.built.Built.{Built}
use Rattle.p416_reader.specs.internal.Classes.{with_name}
use Rattle.p416_reader.specs.internal.Actions.{cleared}
use Rattle.p416_reader.specs.internal.Rows as rows
use Rattle.p416_reader.specs.internal.Rows.{Sym, part_sym, state_sym}
use Rattle.p416_reader.proofs.Forms.{is_full}
use Rattle.p416_reader.proofs.Meaning.{add_exp, add_case}
use Rattle.p416_reader.proofs.Lists.{left_true, right_true, all_added}
use Rattle.p416_reader.proofs.Readings.{Goes, Calm, Reads, ReadsCalm, ◌▷◌, reads, does, from, giving, skips, builds, calmer, first_of, calm_commas}
use Rattle.p416_reader.proofs.Complete.Parts.{never, same, reads_type}
use Rattle.p416_reader.proofs.Complete.Trees.{exp_read}
use Rattle.p416_reader.proofs.Complete.Statements.{list_read}
use Rattle.p416_reader.proofs.Complete.Keysets.{reads_keyset}

pub reads_target : (t : Target) → Reads (word.State state.Target) t (written_target t)
reads_target (target.State text) symbols b rest = reads (id text ∷ []) refl ▷ does
reads_target target.Accept symbols b rest = reads (quoted key.Accept ∷ []) refl ▷ does
reads_target target.Reject symbols b rest = reads (quoted key.Reject ∷ []) refl ▷ does

-- cases

case_tokens : (c : SelectCase) (rest : List Seen16) → written_case c ++ rest ≡ written_keyset c.keyset ++ colon ∷ (written_target c.target ++ semicolon ∷ rest)
case_tokens c rest =
    append_assoc (written_keyset c.keyset) (colon ∷ (written_target c.target ++ semicolon ∷ [])) rest
    ∙ ap (λ ts. written_keyset c.keyset ++ colon ∷ ts) (append_assoc (written_target c.target) (semicolon ∷ []) rest)

abbrev are_cases : List SelectCase → Bool
are_cases cs = list_all (is_case with_parentheses) cs

pub reads_cases : (cs : List SelectCase) → are_cases cs ≡ true → ReadsCalm (word.State state.SelectCases) cs (flat_map written_case cs)
reads_cases [] h symbols b rest c = skips (word.State state.SelectCases) symbols b rest refl refl c
reads_cases (x ∷ cs) h symbols b rest c =
    from _ (first_of written_case x cs rest ∙ case_tokens x (flat_map written_case cs ++ rest))
    (reads_keyset x.keyset (left_true (is_case with_parentheses x) (are_cases cs) h) symbols b (written_target x.target ++ semicolon ∷ (flat_map written_case cs ++ rest))
    ▷ reads (colon ∷ []) refl ▷ reads_target x.target _ _ (semicolon ∷ (flat_map written_case cs ++ rest)) ▷ reads (semicolon ∷ []) refl ▷ does
    ▷ reads_cases cs (right_true (is_case with_parentheses x) (are_cases cs) h) symbols _ rest c)

-- transitions

abbrev are_exps : List Exp16 → Bool
are_exps es = list_all (is_exp with_parentheses) es

pub reads_more_exps : (es : List Exp16) → are_exps es ≡ true → ReadsCalm (word.State state.MoreExps) es (after_commas written_exp es)
reads_more_exps [] h symbols b rest c = skips (word.State state.MoreExps) symbols b rest refl refl c
reads_more_exps (e ∷ es) h symbols b rest c =
    from _ (first_of (λ x. comma ∷ written_exp x) e es rest)
    (reads (comma ∷ []) refl
    ▷ exp_read e (left_true (is_exp with_parentheses e) (are_exps es) h) _ b (after_commas written_exp es ++ rest)
    (calm_commas (word.Body body.Exp) written_exp es rest refl (calmer (word.Body body.Exp) (word.State state.MoreExps) rest refl c))
    ▷ does ▷ reads_more_exps es (right_true (is_exp with_parentheses e) (are_exps es) h) symbols _ rest c)

abbrev with_exp_lists : Built → List (List Exp16) → Built
with_exp_lists b ls = record (cleared b) { states = record b.states { exp_lists = ls } }

abbrev with_cases : Built → List (List SelectCase) → Built
with_cases b ls = record (cleared b) { states = record b.states { cases = ls } }

select_tokens : (e : Exp16) (es : List Exp16) (cs : List SelectCase) (rest : List Seen16)
    → written_transition (transition.Select (e ∷ es) cs) ++ rest
    ≡ quoted key.Transition ∷ quoted key.Select ∷ paren_open ∷ (written_exp e ++ (after_commas written_exp es ++ paren_close ∷ brace_open ∷ (flat_map written_case cs ++ brace_close ∷ rest)))
select_tokens e es cs rest =
    ap (λ ts. quoted key.Transition ∷ quoted key.Select ∷ paren_open ∷ ts)
    (append_assoc ((written_exp e ++ after_commas written_exp es) ++ paren_close ∷ []) (in_braces (flat_map written_case cs)) rest
    ∙ append_assoc (written_exp e ++ after_commas written_exp es) (paren_close ∷ []) (in_braces (flat_map written_case cs) ++ rest)
    ∙ append_assoc (written_exp e) (after_commas written_exp es) (paren_close ∷ (in_braces (flat_map written_case cs) ++ rest))
    ∙ ap (λ ts. written_exp e ++ (after_commas written_exp es ++ paren_close ∷ brace_open ∷ ts)) (append_assoc (flat_map written_case cs) (brace_close ∷ []) rest))

select_read : (e : Exp16) (es : List Exp16) (cs : List SelectCase) → is_full e ≡ true → are_exps es ≡ true → are_cases cs ≡ true
    → Reads (word.State state.Transition) (transition.Select (e ∷ es) cs) (written_transition (transition.Select (e ∷ es) cs))
select_read e es cs h k l symbols b rest =
    from _ (select_tokens e es cs rest)
    (reads (quoted key.Transition ∷ quoted key.Select ∷ paren_open ∷ []) refl ▷ does
    ▷ exp_read e h _ _ (after_commas written_exp es ++ paren_close ∷ brace_open ∷ (flat_map written_case cs ++ brace_close ∷ rest))
    (calm_commas (word.Body body.Exp) written_exp es (paren_close ∷ brace_open ∷ (flat_map written_case cs ++ brace_close ∷ rest)) refl refl)
    ▷ does
    ▷ giving (all_added add_exp bare_exp (with_exp_lists b) (λ x ls. refl) es (bare_exp e ∷ []) b.states.exp_lists)
    (reads_more_exps es k _ (with_exp_lists b ((bare_exp e ∷ []) ∷ b.states.exp_lists)) (paren_close ∷ brace_open ∷ (flat_map written_case cs ++ brace_close ∷ rest)) refl)
    ▷ reads (paren_close ∷ brace_open ∷ []) refl ▷ does
    ▷ giving (all_added add_case bare_case (with_cases (with_exp_lists b ((bare_exp e ∷ map bare_exp es) ∷ b.states.exp_lists))) (λ x ls. refl) cs [] b.states.cases)
    (reads_cases cs l _ (with_cases (with_exp_lists b ((bare_exp e ∷ map bare_exp es) ∷ b.states.exp_lists)) ([] ∷ b.states.cases)) (brace_close ∷ rest) refl)
    ▷ reads (brace_close ∷ []) refl ▷ does)

go_read : (t : Target) → Reads (word.State state.Transition) (transition.Go t) (written_transition (transition.Go t))
go_read (target.State text) symbols b rest = reads (quoted key.Transition ∷ id text ∷ semicolon ∷ []) refl ▷ does
go_read target.Accept symbols b rest = reads (quoted key.Transition ∷ quoted key.Accept ∷ semicolon ∷ []) refl ▷ does
go_read target.Reject symbols b rest = reads (quoted key.Transition ∷ quoted key.Reject ∷ semicolon ∷ []) refl ▷ does

pub reads_transition : (t : Transition) → is_transition with_parentheses t ≡ true → Reads (word.State state.Transition) t (written_transition t)
reads_transition (transition.Go t) h = go_read t
reads_transition (transition.Select [] cs) h = absurd (never h)
reads_transition (transition.Select (e ∷ es) cs) h =
    let p = left_true (is_full e && are_exps es) (are_cases cs) h in
    select_read e es cs (left_true (is_full e) (are_exps es) p) (right_true (is_full e) (are_exps es) p) (right_true (is_full e && are_exps es) (are_cases cs) h)

-- variables

pub reads_initial : (i : Option Exp16) → is_option is_full i ≡ true → ReadsCalm (word.State state.InitialOption) i (written_option written_initial i)
reads_initial None h symbols b rest c = builds (word.State state.InitialOption) (action.State state_act.NoExp) symbols b rest refl refl c
reads_initial (Some e) h symbols b rest c =
    reads (equals ∷ []) refl ▷ exp_read e h _ b rest (calmer (word.Body body.Exp) (word.State state.InitialOption) rest refl c) ▷ does

pub var_tokens : (v : Var) (rest : List Seen16) → written_var v ++ rest ≡ written_type v.of ++ id v.name ∷ (written_option written_initial v.initial ++ semicolon ∷ rest)
var_tokens v rest =
    append_assoc (written_type v.of) (id v.name ∷ (written_option written_initial v.initial ++ semicolon ∷ [])) rest
    ∙ ap (λ ts. written_type v.of ++ id v.name ∷ ts) (append_assoc (written_option written_initial v.initial) (semicolon ∷ []) rest)

var_begun : (t : Type16) (symbols : List Sym) (b : Built) (ts : List Seen16)
    → Goes (state_sym state.Vars ∷ symbols) b (written_type t ++ ts) (part_sym part.TypeOf ∷ rows.a_name ∷ state_sym state.InitialOption ∷ rows.semicolon ∷ Put (action.State state_act.AddVar) ∷ state_sym state.Vars ∷ symbols) b (written_type t ++ ts)
var_begun (kind.Bit w) symbols b ts = same refl
var_begun kind.Bool symbols b ts = same refl
var_begun (kind.Named text size) symbols b ts = same refl

abbrev are_vars : List Var → Bool
are_vars vs = list_all (is_var with_parentheses) vs

pub reads_vars : (vs : List Var) → are_vars vs ≡ true → ReadsCalm (word.State state.Vars) vs (flat_map written_var vs)
reads_vars [] h symbols b rest c = skips (word.State state.Vars) symbols b rest refl refl c
reads_vars (v ∷ vs) h symbols b rest c =
    from _ (first_of written_var v vs rest ∙ var_tokens v (flat_map written_var vs ++ rest))
    (var_begun v.of symbols b (id v.name ∷ (written_option written_initial v.initial ++ semicolon ∷ (flat_map written_var vs ++ rest)))
    ▷ reads_type v.of _ b (id v.name ∷ (written_option written_initial v.initial ++ semicolon ∷ (flat_map written_var vs ++ rest))) refl
    ▷ reads (id v.name ∷ []) refl
    ▷ reads_initial v.initial (left_true (is_var with_parentheses v) (are_vars vs) h) _ _ (semicolon ∷ (flat_map written_var vs ++ rest)) refl
    ▷ reads (semicolon ∷ []) refl ▷ does ▷ reads_vars vs (right_true (is_var with_parentheses v) (are_vars vs) h) symbols _ rest c)

-- states

calm_transition : (t : Transition) (rest : List Seen16) → Calm (word.Body body.Stmts) (written_transition t ++ rest)
calm_transition (transition.Go t) rest = refl
calm_transition (transition.Select es cs) rest = refl

state_tokens : (s : State) (rest : List Seen16)
    → written_state s ++ rest ≡ quoted key.State ∷ id s.name ∷ brace_open ∷ (written_stmt s.body ++ (written_transition s.transition ++ brace_close ∷ rest))
state_tokens s rest =
    ap (λ ts. quoted key.State ∷ id s.name ∷ brace_open ∷ ts)
    (append_assoc (written_stmt s.body ++ written_transition s.transition) (brace_close ∷ []) rest ∙ append_assoc (written_stmt s.body) (written_transition s.transition) (brace_close ∷ rest))

abbrev are_states : List State → Bool
are_states ss = list_all (is_state with_parentheses) ss

pub reads_states : (ss : List State) → are_states ss ≡ true → ReadsCalm (word.State state.States) ss (flat_map written_state ss)
reads_states [] h symbols b rest c = skips (word.State state.States) symbols b rest refl refl c
reads_states (s ∷ ss) h symbols b rest c =
    let k = left_true (is_state with_parentheses s) (are_states ss) h in
    let hb = left_true (is_stmt with_parentheses statements s.body) (is_transition with_parentheses s.transition) k in
    let ht = right_true (is_stmt with_parentheses statements s.body) (is_transition with_parentheses s.transition) k in
    from _ (first_of written_state s ss rest ∙ state_tokens s (flat_map written_state ss ++ rest))
    (reads (quoted key.State ∷ id s.name ∷ brace_open ∷ []) refl ▷ does
    ▷ list_read s.body hb _ (with_name s.name b) b.bodies.stmts (written_transition s.transition ++ brace_close ∷ (flat_map written_state ss ++ rest)) (calm_transition s.transition (brace_close ∷ (flat_map written_state ss ++ rest)))
    ▷ does
    ▷ reads_transition s.transition ht _ _ (brace_close ∷ (flat_map written_state ss ++ rest))
    ▷ reads (brace_close ∷ []) refl ▷ does ▷ reads_states ss (right_true (is_state with_parentheses s) (are_states ss) h) symbols _ rest c)
