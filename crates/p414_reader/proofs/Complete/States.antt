-- Parser states: what is written so is read.
use Rattle.std.proofs.Common.{◌≡◌, ℕ, Bool, true, false, not, cond, List, [], ◌∷◌, ◌++◌, codes, Option, Some, None, refl, sym, ap, ◌∙◌, subst, append_assoc}
use Rattle.std.specs.List.{flat_map, list_all}
use Rattle.std.specs.Str.{bytes_eq}
use Rattle.predictive_parser.specs.declared.symbol.Symbol.TheVariants.{Put}
use Rattle.predictive_parser.specs.Grammar.{Like}
use Rattle.p414_syntax.specs.declared.keyword.Keyword.TheVariants as key
use Rattle.p414_syntax.specs.declared.lexeme.Literal.{Literal}
use Rattle.p414_syntax.specs.declared.lexeme.Lexeme.{Lexeme}
use Rattle.p414_syntax.specs.declared.lexeme.Lexeme.TheVariants as lexeme
use Rattle.p414_syntax.specs.declared.parts.Sign.{Sign}
use Rattle.p414_syntax.specs.declared.parts.Sign.TheVariants as sign
use Rattle.p414_syntax.specs.declared.parts.Index.{Index}
use Rattle.p414_syntax.specs.declared.parsers.PValue.{PValue}
use Rattle.p414_syntax.specs.declared.parsers.PValue.TheVariants as pvalue
use Rattle.p414_syntax.specs.declared.parsers.PStmt.{PStmt}
use Rattle.p414_syntax.specs.declared.parsers.PStmt.TheVariants as pstmt
use Rattle.p414_syntax.specs.declared.parsers.Masked.{Masked}
use Rattle.p414_syntax.specs.declared.parsers.CaseValues.{CaseValues}
use Rattle.p414_syntax.specs.declared.parsers.CaseValues.TheVariants as case_values
use Rattle.p414_syntax.specs.declared.parsers.CaseTarget.{CaseTarget}
use Rattle.p414_syntax.specs.declared.parsers.CaseTarget.TheVariants as target
use Rattle.p414_syntax.specs.declared.parsers.Case.{Case}
use Rattle.p414_syntax.specs.declared.parsers.Return.{Return}
use Rattle.p414_syntax.specs.declared.parsers.Return.TheVariants as end_of
use Rattle.p414_syntax.specs.Words.{name, keyword, brace_open, brace_close, bracket_open, bracket_close, paren_open, paren_close, semicolon, colon, comma, dot, plus, minus}
use Rattle.p414_syntax.specs.Written.{written_option, after_commas, written_index, written_pvalue, written_pstmt, written_masked, written_target, written_case, written_return}
use Rattle.p414_syntax.specs.Conditions.{is_bare, is_pvalue, is_select_value, is_pstmt, is_case_values, is_case, is_return}
use Rattle.p414_reader.specs.declared.symbols.Class.TheVariants as class
use Rattle.p414_reader.specs.declared.symbols.Action.TheVariants as action
use Rattle.p414_reader.specs.declared.symbols.StateAction.TheVariants as state_action
use Rattle.p414_reader.specs.declared.symbols.Word.TheVariants as word
use Rattle.p414_reader.specs.declared.symbols.PartWord.TheVariants as part
use Rattle.p414_reader.specs.declared.symbols.StateWord.TheVariants as state
use Rattle.p414_reader.specs.declared.built.Built.{Built}
use Rattle.p414_reader.specs.internal.Rows.{Sym, state_sym}
use Rattle.p414_reader.specs.internal.Actions.{with_value}
use Rattle.p414_reader.proofs.Readings.{Goes, Reads, ReadsCalm, ◌▷◌, reads, does, from, giving, skips, builds, calmer, first_of, extended_is, both, is_word, takes_past, takes_past_two, like, like_end, calm_commas, not_true}
use Rattle.p414_reader.proofs.Complete.Parts.{reads_index_in, reads_index_option, reads_inst, reads_ref, reads_mask_option, ref_tokens}

-- values

-- a field of the instance with this name
abbrev ReadsField : Option Index → List ℕ → List ℕ → Type 0
ReadsField i f text =
    Reads (word.State state.SelectValue)
    (pvalue.Field (record { instance = record { name = text; index = i }; field = f }))
    (written_pvalue (pvalue.Field (record { instance = record { name = text; index = i }; field = f })))

reads_current_field : (i : Option Index) (f : List ℕ) → ReadsField i f (codes "current")
reads_current_field None f symbols b rest = reads (keyword key.Current ∷ dot ∷ name f ∷ []) refl ▷ does ▷ does
reads_current_field (Some i) f symbols b rest =
    reads (keyword key.Current ∷ bracket_open ∷ []) refl ▷ reads_index_in i _ _ (bracket_close ∷ dot ∷ name f ∷ rest)
    ▷ reads (bracket_close ∷ dot ∷ name f ∷ []) refl ▷ does ▷ does

reads_latest_field : (i : Option Index) (f : List ℕ) → not (is_bare (codes "latest") (record { name = codes "latest"; index = i })) ≡ true → ReadsField i f (codes "latest")
reads_latest_field None f k symbols b rest = cc
reads_latest_field (Some i) f k symbols b rest =
    reads (keyword key.Latest ∷ bracket_open ∷ []) refl ▷ reads_index_in i _ _ (bracket_close ∷ dot ∷ name f ∷ rest)
    ▷ reads (bracket_close ∷ dot ∷ name f ∷ []) refl ▷ does ▷ does

reads_field : (text : List ℕ) (i : Option Index) (f : List ℕ) → not (is_bare (codes "latest") (record { name = text; index = i })) ≡ true → ReadsField i f text
reads_field text i f = go (bytes_eq (codes "current") text) (bytes_eq (codes "latest") text) refl refl
  where
    go : (t s : Bool) → bytes_eq (codes "current") text ≡ t → bytes_eq (codes "latest") text ≡ s → not (is_bare (codes "latest") (record { name = text; index = i })) ≡ true → ReadsField i f text
    go true s e h k symbols b rest = subst (ReadsField i f) (sym (is_word (codes "current") text e)) (reads_current_field i f) symbols b rest
    go false true e h k symbols b rest =
        let q = is_word (codes "latest") text h in
        subst (ReadsField i f) (sym q) (reads_latest_field i f (subst (λ t. not (is_bare (codes "latest") (record { name = t; index = i })) ≡ true) q k)) symbols b rest
    go false false e h k symbols b rest =
        from (written_pvalue (pvalue.Field (record { instance = record { name = text; index = i }; field = f })) ++ rest) (ref_tokens (record { instance = record { name = text; index = i }; field = f }) rest)
        (takes_past_two (bytes_eq (codes "current") text) (bytes_eq (codes "latest") text) (word.State state.SelectValue) class.Name _ _ _ symbols b (name text) (written_option written_index i ++ dot ∷ name f ∷ rest) e h refl
        ▷ reads_index_option i _ _ (dot ∷ name f ∷ rest) refl ▷ does
        ▷ reads (dot ∷ name f ∷ []) refl ▷ does
        ▷ giving (ap (λ (t : Bool). with_value (cond t (pvalue.Latest f) (pvalue.Field (record { instance = record { name = text; index = i }; field = f }))) b) (not_true (is_bare (codes "latest") (record { name = text; index = i })) k)) does)

pub reads_select_value : (v : PValue) → is_select_value v ≡ true → Reads (word.State state.SelectValue) v (written_pvalue v)
reads_select_value (pvalue.Current offset bits) k symbols b rest =
    reads (keyword key.Current ∷ paren_open ∷ lexeme.Number offset ∷ comma ∷ lexeme.Number bits ∷ paren_close ∷ []) refl ▷ does
reads_select_value (pvalue.Latest f) k symbols b rest = reads (keyword key.Latest ∷ dot ∷ name f ∷ []) refl ▷ does
reads_select_value (pvalue.Field r) k symbols b rest = reads_field r.instance.name r.instance.index r.field k symbols b rest
reads_select_value (pvalue.Number n) k symbols b rest = cc

reads_number_value : (s : Option Sign) (n : Literal) → Reads (word.State state.Value) (pvalue.Number (record { sign = s; literal = n })) (written_pvalue (pvalue.Number (record { sign = s; literal = n })))
reads_number_value None n symbols b rest = reads (lexeme.Number n ∷ []) refl ▷ does ▷ does
reads_number_value (Some sign.Plus) n symbols b rest = reads (plus ∷ lexeme.Number n ∷ []) refl ▷ does ▷ does
reads_number_value (Some sign.Minus) n symbols b rest = reads (minus ∷ lexeme.Number n ∷ []) refl ▷ does ▷ does

-- a value that begins with a name is one that may stand in a select
like_value : (text : List ℕ) (symbols : List Sym) (b : Built) (tokens : List Lexeme)
    → Goes (state_sym state.Value ∷ symbols) b (name text ∷ tokens) (state_sym state.SelectValue ∷ symbols) b (name text ∷ tokens)
like_value text symbols b tokens = like_end (word.State state.Value) (word.State state.SelectValue) (Like (word.Part part.Number) (Put (action.State state_action.ValueNumber) ∷ []) ∷ []) [] symbols b (name text) tokens refl refl refl refl refl

pub reads_value : (v : PValue) → is_pvalue v ≡ true → Reads (word.State state.Value) v (written_pvalue v)
reads_value (pvalue.Current offset bits) k symbols b rest = like_value (codes "current") symbols b _ ▷ reads_select_value (pvalue.Current offset bits) k symbols b rest
reads_value (pvalue.Latest f) k symbols b rest = like_value (codes "latest") symbols b _ ▷ reads_select_value (pvalue.Latest f) k symbols b rest
reads_value (pvalue.Field r) k symbols b rest = like_value r.instance.name symbols b _ ▷ reads_select_value (pvalue.Field r) k symbols b rest
reads_value (pvalue.Number n) k symbols b rest = reads_number_value n.sign n.literal symbols b rest

pub reads_more_values : (vs : List PValue) → list_all is_select_value vs ≡ true → ReadsCalm (word.State state.MoreValues) vs (after_commas written_pvalue vs)
reads_more_values [] k symbols b rest c = skips (word.State state.MoreValues) symbols b rest refl refl c
reads_more_values (v ∷ vs) k symbols b rest c =
    let p = both (is_select_value v) (list_all is_select_value vs) k in
    from (after_commas written_pvalue (v ∷ vs) ++ rest) (first_of (λ x. comma ∷ written_pvalue x) v vs rest)
    (reads (comma ∷ []) refl ▷ reads_select_value v p.0 _ _ (after_commas written_pvalue vs ++ rest) ▷ does ▷ reads_more_values vs p.1 symbols _ rest c)

-- statements

pub reads_statements : (ss : List PStmt) → list_all is_pstmt ss ≡ true → ReadsCalm (word.State state.Statements) ss (flat_map written_pstmt ss)
reads_statements [] k symbols b rest c = skips (word.State state.Statements) symbols b rest refl refl c
reads_statements (pstmt.Extract i ∷ ss) k symbols b rest c =
    from (flat_map written_pstmt (pstmt.Extract i ∷ ss) ++ rest) (simp append_assoc)
    (reads (keyword key.Extract ∷ paren_open ∷ []) refl ▷ reads_inst i _ _ (paren_close ∷ semicolon ∷ (flat_map written_pstmt ss ++ rest)) refl
    ▷ reads (paren_close ∷ semicolon ∷ []) refl ▷ does ▷ reads_statements ss k symbols _ rest c)
reads_statements (pstmt.SetMetadata r v ∷ ss) k symbols b rest c =
    let p = both (is_pvalue v) (list_all is_pstmt ss) k in
    from (flat_map written_pstmt (pstmt.SetMetadata r v ∷ ss) ++ rest) (simp append_assoc)
    (reads (keyword key.SetMetadata ∷ paren_open ∷ []) refl
    ▷ from _ (sym (ref_tokens r (comma ∷ (written_pvalue v ++ paren_close ∷ semicolon ∷ (flat_map written_pstmt ss ++ rest)))))
    (reads_ref r _ _ (comma ∷ (written_pvalue v ++ paren_close ∷ semicolon ∷ (flat_map written_pstmt ss ++ rest))))
    ▷ reads (comma ∷ []) refl ▷ reads_value v p.0 _ _ (paren_close ∷ semicolon ∷ (flat_map written_pstmt ss ++ rest))
    ▷ reads (paren_close ∷ semicolon ∷ []) refl ▷ does ▷ reads_statements ss p.1 symbols _ rest c)

-- cases

abbrev ReadsState : List ℕ → Type 0
ReadsState text = ReadsCalm (word.State state.Target) (target.State text) (written_target (target.State text))

reads_error_state : ReadsState (codes "parse_error")
reads_error_state symbols b rest c = reads (keyword key.ParseError ∷ []) refl ▷ builds (word.State state.AfterError) _ symbols b rest refl refl c

reads_state : (text : List ℕ) → ReadsState text
reads_state text = go (bytes_eq (codes "parse_error") text) refl
  where
    go : (t : Bool) → bytes_eq (codes "parse_error") text ≡ t → ReadsState text
    go true e symbols b rest c = subst ReadsState (sym (is_word (codes "parse_error") text e)) reads_error_state symbols b rest c
    go false e symbols b rest c = takes_past (bytes_eq (codes "parse_error") text) (word.State state.Target) class.Name _ _ symbols b (name text) rest e refl ▷ does

pub reads_target : (t : CaseTarget) → ReadsCalm (word.State state.Target) t (written_target t)
reads_target (target.ParseError e) symbols b rest c = reads (keyword key.ParseError ∷ name e ∷ []) refl ▷ does
reads_target (target.State s) symbols b rest c = reads_state s symbols b rest c

pub reads_more_masked : (ms : List Masked) → ReadsCalm (word.State state.MoreMasked) ms (after_commas written_masked ms)
reads_more_masked [] symbols b rest c = skips (word.State state.MoreMasked) symbols b rest refl refl c
reads_more_masked (m ∷ ms) symbols b rest c =
    from (after_commas written_masked (m ∷ ms) ++ rest) (first_of (λ x. comma ∷ written_masked x) m ms rest)
    (reads (comma ∷ lexeme.Number m.value ∷ []) refl
    ▷ reads_mask_option m.mask _ _ (after_commas written_masked ms ++ rest) (calm_commas (word.Part part.MaskOption) written_masked ms rest refl (calmer (word.Part part.MaskOption) (word.State state.MoreMasked) rest refl c))
    ▷ does ▷ reads_more_masked ms symbols _ rest c)

abbrev ReadsCase : CaseTarget → CaseValues → Type 0
ReadsCase t vs = is_case_values vs ≡ true → Reads (word.State state.Case) (record { values = vs; target = t }) (written_case (record { values = vs; target = t }))

reads_case_of : (vs : CaseValues) (t : CaseTarget) → ReadsCase t vs
reads_case_of case_values.Default t k symbols b rest =
    from (written_case (record { values = case_values.Default; target = t }) ++ rest) (simp append_assoc)
    (reads (keyword key.Default ∷ colon ∷ []) refl ▷ reads_target t _ _ (semicolon ∷ rest) refl ▷ reads (semicolon ∷ []) refl ▷ does)
reads_case_of (case_values.Values []) t k symbols b rest = cc
reads_case_of (case_values.Values (m ∷ ms)) t k symbols b rest =
    let after = colon ∷ (written_target t ++ semicolon ∷ rest) in
    from (written_case (record { values = case_values.Values (m ∷ ms); target = t }) ++ rest)
    (append_assoc (written_masked m ++ after_commas written_masked ms) (colon ∷ (written_target t ++ semicolon ∷ [])) rest
    ∙ append_assoc (written_masked m) (after_commas written_masked ms) (colon ∷ (written_target t ++ semicolon ∷ []) ++ rest)
    ∙ ap (λ ts. written_masked m ++ (after_commas written_masked ms ++ colon ∷ ts)) (append_assoc (written_target t) (semicolon ∷ []) rest))
    (reads (lexeme.Number m.value ∷ []) refl ▷ does
    ▷ reads_mask_option m.mask _ _ (after_commas written_masked ms ++ after) (calm_commas (word.Part part.MaskOption) written_masked ms after refl refl) ▷ does
    ▷ giving (ap (λ ls. record b { states = record b.states { masked = ls } }) (extended_is ms (m ∷ []) b.states.masked)) (reads_more_masked ms _ _ after refl) ▷ does
    ▷ reads (colon ∷ []) refl ▷ reads_target t _ _ (semicolon ∷ rest) refl ▷ reads (semicolon ∷ []) refl ▷ does)

pub reads_case : (c : Case) → is_case c ≡ true → Reads (word.State state.Case) c (written_case c)
reads_case c k = reads_case_of c.values c.target k

like_case : (vs : CaseValues) (t : CaseTarget) → is_case_values vs ≡ true → (symbols : List Sym) (b : Built) (rest : List Lexeme)
    → Goes (state_sym state.Cases ∷ symbols) b (written_case (record { values = vs; target = t }) ++ rest)
    (state_sym state.Case ∷ state_sym state.Cases ∷ symbols) b (written_case (record { values = vs; target = t }) ++ rest)
like_case case_values.Default t k symbols b rest = like (word.State state.Cases) (word.State state.Case) [] _ symbols b (keyword key.Default) _ _ refl refl refl refl
like_case (case_values.Values []) t k symbols b rest = cc
like_case (case_values.Values (m ∷ ms)) t k symbols b rest = like (word.State state.Cases) (word.State state.Case) [] _ symbols b (lexeme.Number m.value) _ _ refl refl refl refl

pub reads_cases : (cs : List Case) → list_all is_case cs ≡ true → ReadsCalm (word.State state.Cases) cs (flat_map written_case cs)
reads_cases [] k symbols b rest c = skips (word.State state.Cases) symbols b rest refl refl c
reads_cases (a ∷ cs) k symbols b rest c =
    let p = both (is_case a) (list_all is_case cs) k in
    from (flat_map written_case (a ∷ cs) ++ rest) (first_of written_case a cs rest)
    (like_case a.values a.target p.0 symbols b (flat_map written_case cs ++ rest)
    ▷ reads_case a p.0 _ _ (flat_map written_case cs ++ rest) ▷ reads_cases cs p.1 symbols _ rest c)

-- the end of a state

abbrev ReadsReturn : List ℕ → Type 0
ReadsReturn text = Reads (word.State state.Return) (end_of.State text) (written_return (end_of.State text))

reads_return_select : ReadsReturn (codes "select")
reads_return_select symbols b rest = reads (keyword key.Return ∷ keyword key.Select ∷ semicolon ∷ []) refl ▷ does

reads_return_state : (text : List ℕ) → ReadsReturn text
reads_return_state text = go (bytes_eq (codes "select") text) refl
  where
    go : (t : Bool) → bytes_eq (codes "select") text ≡ t → ReadsReturn text
    go true e symbols b rest = subst ReadsReturn (sym (is_word (codes "select") text e)) reads_return_select symbols b rest
    go false e symbols b rest =
        reads (keyword key.Return ∷ []) refl
        ▷ takes_past (bytes_eq (codes "select") text) (word.State state.AfterReturn) class.Name _ _ symbols b (name text) (semicolon ∷ rest) e refl
        ▷ reads (semicolon ∷ []) refl ▷ does

reads_select : (v : PValue) (vs : List PValue) (a : Case) (cs : List Case) → is_return (end_of.Select (v ∷ vs) (a ∷ cs)) ≡ true
    → Reads (word.State state.Return) (end_of.Select (v ∷ vs) (a ∷ cs)) (written_return (end_of.Select (v ∷ vs) (a ∷ cs)))
reads_select v vs a cs k symbols b rest =
    let p = both (list_all is_select_value (v ∷ vs)) (list_all is_case (a ∷ cs)) k in
    let q = both (is_select_value v) (list_all is_select_value vs) p.0 in
    let r = both (is_case a) (list_all is_case cs) p.1 in
    let body = written_case a ++ (flat_map written_case cs ++ brace_close ∷ rest) in
    let b1 = record b { states = record b.states { value_lists = (v ∷ vs) ∷ b.states.value_lists } } in
    from (written_return (end_of.Select (v ∷ vs) (a ∷ cs)) ++ rest) (simp append_assoc)
    (reads (keyword key.Return ∷ keyword key.Select ∷ paren_open ∷ []) refl ▷ does
    ▷ reads_select_value v q.0 _ _ (after_commas written_pvalue vs ++ paren_close ∷ brace_open ∷ body) ▷ does
    ▷ giving (ap (λ ls. record b { states = record b.states { value_lists = ls } }) (extended_is vs (v ∷ []) b.states.value_lists))
    (reads_more_values vs q.1 _ _ (paren_close ∷ brace_open ∷ body) refl)
    ▷ reads (paren_close ∷ brace_open ∷ []) refl ▷ does
    ▷ reads_case a r.0 _ _ (flat_map written_case cs ++ brace_close ∷ rest)
    ▷ giving (ap (λ ls. record b1 { states = record b1.states { cases = ls } }) (extended_is cs (a ∷ []) b.states.cases))
    (reads_cases cs r.1 _ _ (brace_close ∷ rest) refl)
    ▷ reads (brace_close ∷ []) refl ▷ does)

pub reads_return : (e : Return) → is_return e ≡ true → Reads (word.State state.Return) e (written_return e)
reads_return (end_of.Select [] cs) k symbols b rest = cc
reads_return (end_of.Select (v ∷ vs) []) k symbols b rest = let p = both (list_all is_select_value (v ∷ vs)) false k in cc
reads_return (end_of.Select (v ∷ vs) (a ∷ cs)) k symbols b rest = reads_select v vs a cs k symbols b rest
reads_return (end_of.State s) k symbols b rest = reads_return_state s symbols b rest
reads_return (end_of.ParseError e) k symbols b rest = reads (keyword key.ParseError ∷ name e ∷ semicolon ∷ []) refl ▷ does
