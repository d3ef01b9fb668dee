-- That the rows of parsers and their states have the meaning of their words.
use Rattle.std.proofs.Common.{◌≡◌, ℕ, true, false, ◌&&◌, ◌||◌, List, [], ◌∷◌, ◌++◌, map, Option, Some, None, refl, sym, ap, ap₂, subst, ◌∙◌, append_assoc}
use Rattle.std.specs.List.{flat_map, list_all}
use Rattle.predictive_parser.proofs.Meanings.{MeansWord, RowsShow, NoneShows}
use Rattle.p416_syntax.specs.declared.keyword.Keyword16.TheVariants as key
use Rattle.p416_syntax.specs.declared.parts.Type16.{Type16}
use Rattle.p416_syntax.specs.declared.node.CastType.TheVariants as cast_to
use Rattle.p416_syntax.specs.declared.parsers.Target.{Target}
use Rattle.p416_syntax.specs.declared.parsers.Target.TheVariants as target_of
use Rattle.p416_syntax.specs.declared.parsers.Simple.{Simple}
use Rattle.p416_syntax.specs.declared.parsers.Simple.TheVariants as simple
use Rattle.p416_syntax.specs.declared.parsers.Keyset.{Keyset}
use Rattle.p416_syntax.specs.declared.parsers.Keyset.TheVariants as keyset
use Rattle.p416_syntax.specs.declared.parsers.SelectCase.{SelectCase}
use Rattle.p416_syntax.specs.declared.parsers.Transition.{Transition}
use Rattle.p416_syntax.specs.declared.parsers.Transition.TheVariants as transition_of
use Rattle.p416_syntax.specs.declared.parsers.State.{State}
use Rattle.p416_syntax.specs.Tree.{Exp16, cast, parenthesized, Stmt16}
use Rattle.p416_syntax.specs.Tokens.{Seen16, id, quoted, number, less, greater, comma, colon, semicolon, equals, mask, dots, paren_open, paren_close, brace_open, brace_close}
use Rattle.p416_syntax.specs.Written.{written_option, after_commas, written_type, written_initial, written_exp, written_stmt, written_var, written_target, written_simple, written_keyset, written_case, written_transition, written_state}
use Rattle.p416_syntax.specs.Parentheses.{bare_exp, bare_simple, bare_keyset, bare_case}
use Rattle.p416_syntax.specs.Conditions.{with_parentheses, is_option, is_stmt, statements, is_parenthesized, is_var, is_simple, is_keyset, is_case, is_transition, is_state}
use Rattle.p416_reader.specs.declared.symbols.Word.TheVariants as word
use Rattle.p416_reader.specs.declared.symbols.StateWord.{StateWord}
use Rattle.p416_reader.specs.declared.symbols.StateWord.TheVariants as state
use Rattle.p416_reader.specs.declared.symbols.StateAction.TheVariants as act
use Rattle.p416_reader.specs.declared.built.Built.{Built}
use Rattle.p416_reader.specs.internal.Actions.{cleared, first_exp, put_state}
use Rattle.p416_reader.specs.internal.Rows.{grammar16}
use Rattle.p416_reader.proofs.Forms.{is_full, is_of, Suffix, is_suffix, bare_suffix, Tail, done, written_tail, is_tail, is_some_tail, with_tail, bare_tail, stmts_of, is_some_end, SimpleEnd, alone, masked, ranged, simple_with, written_end, is_simple_end, bare_end, single, longer, is_rest, keyset_behind, tuple, closes, keyset_open}
use Rattle.p416_reader.proofs.Meaning.{meaning16, after_all, with_exp, put_suffix, put_tail, put_simple, put_keyset, add_simple, add_case, put_transition, add_exp, add_state, same_exp, after_state}
use Rattle.p416_reader.proofs.Lists.{all_added, both}
use Rattle.p416_reader.proofs.Fixed.{fixed16, by_name, by_number}
use Rattle.p416_reader.proofs.ExpressionLaws.{written_stmts, stmts_are, stmts_built}
use Rattle.p416_reader.proofs.Sound.Expressions.{full_tokens, full_is, full_built}
use Rattle.p416_reader.proofs.Sound.Keysets.{with_is, bare_with, simple_tokens, plain_tail, plain_with, one_is, open_tokens, open_is, bare_opened, suffixes_first, suffixes_clear, tail_first, tail_clear}

abbrev pub Means : StateWord → Built → List Seen16 → Built → Type 0
Means w b us end = MeansWord grammar16 fixed16 meaning16 (word.State w) b us end

abbrev pub Rows : StateWord → Built → Type 0
Rows w b = RowsShow grammar16 fixed16 meaning16 (word.State w) b (grammar16.rows (word.State w))

-- an operand that is written so, and what is known of it
abbrev SpellsOperand : Exp16 → List Seen16 → Type 0
SpellsOperand e us = (us ≡ written_exp e) × (is_of 11 e ≡ true)

abbrev SpellsTail : Tail → List Seen16 → Type 0
SpellsTail t us = (us ≡ written_tail t) × (is_tail 0 11 t ≡ true)

abbrev SpellsEnd : SimpleEnd → List Seen16 → Type 0
SpellsEnd end us = (us ≡ written_end end) × (is_simple_end end ≡ true)

-- what is built behind an operand, operators and the end of a part of a keyset

abbrev behind : Exp16 → Tail → SimpleEnd → Built → Built
behind e t end b = after_state state.SimpleEnd end (put_tail t (with_exp e b))

simple_built : (e : Exp16) (t : Tail) (end : SimpleEnd) (b : Built) → put_simple (simple_with (with_tail e t) end) b ≡ behind e t end b
simple_built e t end b =
    ap (λ s. record (cleared b) { states = record b.states { simples = s ∷ b.states.simples } }) (bare_with (with_tail e t) end)
    ∙ ap (after_state state.SimpleEnd end) (full_built e t b)

simple_means : (e : Exp16) (t : Tail) (end : SimpleEnd) (us vs ws : List Seen16) (b : Built) → SpellsOperand e us → SpellsTail t vs → SpellsEnd end ws → Means state.Simple b (us ++ (vs ++ ws)) (behind e t end b)
simple_means e t end us vs ws b h k m = (
  simple_with (with_tail e t) end,
  (simple_tokens e t end us vs ws h.0 k.0 m.0, with_is (with_tail e t) end (full_is e t h.1 k.1) m.1),
  simple_built e t end b,
)

-- the same as a keyset of one, where what is in parentheses isn't the whole value

one_stands : (e : Exp16) (t : Tail) (end : SimpleEnd) → is_of 11 e ≡ true → is_tail 0 11 t ≡ true → is_simple_end end ≡ true → is_parenthesized e ≡ false → is_keyset with_parentheses (keyset.One (simple_with (with_tail e t) end)) ≡ true
one_stands e t end h k m plain = one_is (with_tail e t) end (full_is e t h k) m (plain_with (with_tail e t) end (plain_tail e t plain))

one_built : (e : Exp16) (t : Tail) (end : SimpleEnd) (b : Built) → put_keyset (keyset.One (bare_simple (simple_with (with_tail e t) end))) b ≡ put_state act.KeysetOne (behind e t end b)
one_built e t end b = ap (put_state act.KeysetOne) (simple_built e t end b)

-- cases

case_tokens : (k : Keyset) (t : Target) (us vs ws : List Seen16) (cs : List SelectCase) → us ≡ written_keyset k → vs ≡ written_target t → ws ≡ flat_map written_case cs
    → us ++ colon ∷ (vs ++ semicolon ∷ ws) ≡ written_case (record { keyset = k; target = t }) ++ flat_map written_case cs
case_tokens k t us vs ws cs f g h =
    ap₂ (λ l m. l ++ colon ∷ m) f
    (ap₂ (λ l m. l ++ semicolon ∷ m) g h ∙ sym (append_assoc (written_target t) (semicolon ∷ []) (flat_map written_case cs)))
    ∙ sym (append_assoc (written_keyset k) (colon ∷ (written_target t ++ semicolon ∷ [])) (flat_map written_case cs))

-- what is built behind a keyset and a state, before more cases
abbrev case_behind : Target → List SelectCase → Built → Built
case_behind t cs b = after_all add_case cs (put_state act.AddCase (after_state state.Target t b))

case_means : (k : Keyset) (t : Target) (us vs ws : List Seen16) (cs : List SelectCase) (b end : Built) → us ≡ written_keyset k → is_keyset with_parentheses k ≡ true → vs ≡ written_target t → ((ws ≡ flat_map written_case cs) × (list_all (is_case with_parentheses) cs ≡ true))
    → put_keyset (bare_keyset k) b ≡ end → Means state.SelectCases b (us ++ colon ∷ (vs ++ semicolon ∷ ws)) (case_behind t cs end)
case_means k t us vs ws cs b end f h g l e = (
  record { keyset = k; target = t } ∷ cs,
  (case_tokens k t us vs ws cs f g l.0, both (is_keyset with_parentheses k) (list_all (is_case with_parentheses) cs) h l.1),
  ap (case_behind t cs) e,
)

operand_case : (e : Exp16) (t : Tail) (end : SimpleEnd) (us vs ws xs ys : List Seen16) (to : Target) (cs : List SelectCase) (b : Built) → ((us ≡ written_exp e) × (is_of 11 e ≡ true) × (is_parenthesized e ≡ false)) → SpellsTail t vs → SpellsEnd end ws → xs ≡ written_target to
    → ((ys ≡ flat_map written_case cs) × (list_all (is_case with_parentheses) cs ≡ true)) → Means state.SelectCases b (us ++ (vs ++ (ws ++ colon ∷ (xs ++ semicolon ∷ ys)))) (case_behind to cs (put_state act.KeysetOne (behind e t end b)))
operand_case e t end us vs ws xs ys to cs b h k m g l =
    let rest = colon ∷ (xs ++ semicolon ∷ ys) in
    let one = case_means (keyset.One (simple_with (with_tail e t) end)) to (us ++ (vs ++ ws)) xs ys cs b (put_state act.KeysetOne (behind e t end b)) (simple_tokens e t end us vs ws h.0 k.0 m.0) (one_stands e t end h.1 k.1 m.1 h.2) g l (one_built e t end b) in
    subst (λ ts. Means state.SelectCases b ts (case_behind to cs (put_state act.KeysetOne (behind e t end b))))
    (append_assoc us (vs ++ ws) rest ∙ ap (λ r. us ++ r) (append_assoc vs ws rest)) one

-- several parts of a keyset, in parentheses

simples_built : (ss : List Simple) (x : Simple) (b : Built) → after_all add_simple ss (record (cleared b) { states = record b.states { simple_lists = (x ∷ []) ∷ b.states.simple_lists } }) ≡ record (cleared b) { states = record b.states { simple_lists = (x ∷ map bare_simple ss) ∷ b.states.simple_lists } }
simples_built ss x b =
    all_added add_simple bare_simple (λ ls. record (cleared b) { states = record b.states { simple_lists = ls } }) (λ s ls. refl) ss (x ∷ []) b.states.simple_lists

tuple_built : (x : Simple) (ss : List Simple) (b : Built) → put_keyset (keyset.Tuple (x ∷ map bare_simple ss)) b ≡ put_state act.KeysetTuple (after_all add_simple ss (record (cleared b) { states = record b.states { simple_lists = (x ∷ []) ∷ b.states.simple_lists } }))
tuple_built x ss b = ap (put_state act.KeysetTuple) (sym (simples_built ss x b))

paren_rows : (b : Built) → Rows state.KeysetParen b
paren_rows b = (
  λ us ss h. (keyset.Tuple (simple.Default ∷ ss), (ap (λ l. paren_open ∷ quoted key.Default ∷ (l ++ paren_close ∷ [])) h.0, h.1), tuple_built simple.Default ss b),
  (
    λ us ss h. (keyset.Tuple (simple.Any ∷ ss), (ap (λ l. paren_open ∷ quoted key.Underscore ∷ (l ++ paren_close ∷ [])) h.0, h.1), tuple_built simple.Any ss b),
    (
      by_number _ (λ n us e h vs t k ws end m. (
        keyset.One (simple_with (with_tail (cast (cast_to.Bit n) e) t) end),
        (
          simple_tokens (cast (cast_to.Bit n) e) t end (paren_open ∷ quoted key.Bit ∷ less ∷ number n ∷ greater ∷ paren_close ∷ us) vs ws (ap (λ l. paren_open ∷ quoted key.Bit ∷ less ∷ number n ∷ greater ∷ paren_close ∷ l) h.0) k.0 m.0,
          one_stands (cast (cast_to.Bit n) e) t end h.1 k.1 m.1 refl,
        ),
        one_built (cast (cast_to.Bit n) e) t end b,
      )),
      (
        λ us e h vs t k ws end m. (
          keyset.One (simple_with (with_tail (cast cast_to.Bool e) t) end),
          (
            simple_tokens (cast cast_to.Bool e) t end (paren_open ∷ quoted key.Bool ∷ paren_close ∷ us) vs ws (ap (λ l. paren_open ∷ quoted key.Bool ∷ paren_close ∷ l) h.0) k.0 m.0,
            one_stands (cast cast_to.Bool e) t end h.1 k.1 m.1 refl,
          ),
          one_built (cast cast_to.Bool e) t end b,
        ),
        (
          λ us e h vs t k ws o m.
              let x = with_tail e t in (
                keyset_open parenthesized x o,
                (
                  ap (λ l. paren_open ∷ l) (sym (append_assoc us vs ws) ∙ ap₂ ◌++◌ (full_tokens e t us vs h.0 k.0) m.0) ∙ open_tokens x o,
                  open_is x o (full_is e t h.1 k.1) m.1,
                ),
                ap (λ s. put_keyset s b) (bare_opened x o) ∙ ap (after_state state.KeysetParenEnd o) (full_built e t b),
              ),
          tt,
        ),
      ),
    ),
  ),
)

-- a tuple whose first part is known so far
open_tuple : (first : Exp16) (end : SimpleEnd) (ss : List Simple) (b : Built) → put_keyset (keyset_open same_exp first (tuple (bare_end end) (map bare_simple ss))) b ≡ put_state act.KeysetTuple (after_all add_simple ss (record (cleared b) { states = record b.states { simple_lists = (simple_with first (bare_end end) ∷ []) ∷ b.states.simple_lists } }))
open_tuple first end ss b = tuple_built (simple_with first (bare_end end)) ss b

paren_end_rows : (b : Built) → Rows state.KeysetParenEnd b
paren_end_rows b = (
  λ us e h vs ss k. (
    tuple (masked e) ss,
    (ap₂ (λ l m. mask ∷ (l ++ (m ++ paren_close ∷ []))) h.0 k.0, both (is_full e) (list_all (is_simple with_parentheses) ss) h.1 k.1),
    open_tuple (first_exp b.bodies.exps) (masked e) ss b,
  ),
  (
    λ us e h vs ss k. (
      tuple (ranged e) ss,
      (ap₂ (λ l m. dots ∷ (l ++ (m ++ paren_close ∷ []))) h.0 k.0, both (is_full e) (list_all (is_simple with_parentheses) ss) h.1 k.1),
      open_tuple (first_exp b.bodies.exps) (ranged e) ss b,
    ),
    (
      λ us s h vs ss k. (
        tuple alone (s ∷ ss),
        (
          ap (λ l. comma ∷ l) (ap₂ (λ l m. l ++ (m ++ paren_close ∷ [])) h.0 k.0 ∙ sym (append_assoc (written_simple s) (after_commas written_simple ss) (paren_close ∷ []))),
          both (is_simple with_parentheses s) (list_all (is_simple with_parentheses) ss) h.1 k.1,
        ),
        open_tuple (first_exp b.bodies.exps) alone (s ∷ ss) b,
      ),
      (λ us r h. (closes r, (ap (λ l. paren_close ∷ l) h.0, h.1), refl), tt),
    ),
  ),
)

-- what stands behind parentheses

-- the end of a part of a keyset, where the newest expression is this
abbrev ends_on : SimpleEnd → Exp16 → Built → Built
ends_on end e c = record c { states = record c.states { simples = simple_with e (bare_end end) ∷ c.states.simples } }

longer_built : (ss : List Suffix) (t : Tail) (end : SimpleEnd) (b : Built) → put_keyset (keyset_behind same_exp (first_exp b.bodies.exps) (longer (map bare_suffix ss) (bare_tail t) (bare_end end))) b ≡ put_state act.KeysetOne (after_state state.SimpleEnd end (put_tail t (after_all put_suffix ss b)))
longer_built ss t end b =
    sym (ap₂ (λ e c. put_state act.KeysetOne (ends_on end e c))
    (tail_first t (after_all put_suffix ss b) ∙ ap (λ e. with_tail e (bare_tail t)) (suffixes_first ss b)) (tail_clear t (after_all put_suffix ss b) ∙ suffixes_clear ss b))

after_rows : (b : Built) → Rows state.AfterKeysetParen b
after_rows b = (
  λ us e h. (longer [] done (masked e), (ap (λ l. mask ∷ l) h.0, h.1), refl),
  (
    λ us e h. (longer [] done (ranged e), (ap (λ l. dots ∷ l) h.0, h.1), refl),
    (
      λ us ss h vs t k ws end m. (
        longer (ss.0 ∷ ss.1) t end,
        (
          ap₂ ◌++◌ h.0 (ap₂ ◌++◌ k.0 m.0),
          both (list_all is_suffix (ss.0 ∷ ss.1)) (is_tail 0 11 t && is_simple_end end) (both (is_suffix ss.0) (list_all is_suffix ss.1) h.1 h.2) (both (is_tail 0 11 t) (is_simple_end end) k.1 m.1),
        ),
        longer_built (ss.0 ∷ ss.1) t end b,
      ),
      (
        λ us t h ws end m. (
          longer [] t end,
          (
            ap₂ ◌++◌ h.0 m.0,
            some_tail t end h.2 (both (is_tail 0 11 t) (is_simple_end end) h.1 m.1),
          ),
          longer_built [] t end b,
        ),
        tt,
      ),
    ),
  ),
)
  where
    some_tail : (t : Tail) (end : SimpleEnd) → is_some_tail t ≡ true → (is_tail 0 11 t && is_simple_end end) ≡ true → is_rest (longer [] t end) ≡ true
    some_tail t end h k = subst (λ c. ((false || (c || is_some_end end)) && (is_tail 0 11 t && is_simple_end end)) ≡ true) (sym h) k

-- transitions

select_tokens : (e : Exp16) (es : List Exp16) (cs : List SelectCase) (us vs ws : List Seen16) → us ≡ written_exp e → vs ≡ after_commas written_exp es → ws ≡ flat_map written_case cs
    → quoted key.Transition ∷ quoted key.Select ∷ paren_open ∷ (us ++ (vs ++ paren_close ∷ brace_open ∷ (ws ++ brace_close ∷ []))) ≡ written_transition (transition_of.Select (e ∷ es) cs)
select_tokens e es cs us vs ws f g h =
    let rest = paren_close ∷ brace_open ∷ (flat_map written_case cs ++ brace_close ∷ []) in
    ap (λ l. quoted key.Transition ∷ quoted key.Select ∷ paren_open ∷ l)
    (ap₂ (λ l m. l ++ m) f (ap₂ (λ l m. l ++ paren_close ∷ brace_open ∷ (m ++ brace_close ∷ [])) g h)
    ∙ sym (append_assoc (written_exp e) (after_commas written_exp es) rest)
    ∙ sym (append_assoc (written_exp e ++ after_commas written_exp es) (paren_close ∷ []) (brace_open ∷ (flat_map written_case cs ++ brace_close ∷ []))))

-- with these lists of expressions, and of cases
abbrev exp_lists : Built → List (List Exp16) → Built
exp_lists b ls = record (cleared b) { states = record b.states { exp_lists = ls } }

abbrev case_lists : Built → List (List SelectCase) → Built
case_lists b ls = record (cleared b) { states = record b.states { cases = ls } }

select_built : (e : Exp16) (es : List Exp16) (cs : List SelectCase) (b : Built)
    → put_transition (transition_of.Select (e ∷ es) cs) b
    ≡ put_state act.Select (after_all add_case cs (put_state act.NoCases (after_all add_exp es (exp_lists b ((bare_exp e ∷ []) ∷ b.states.exp_lists)))))
select_built e es cs b =
    let c = exp_lists b ((bare_exp e ∷ map bare_exp es) ∷ b.states.exp_lists) in
    sym (ap (λ d. put_state act.Select (after_all add_case cs (put_state act.NoCases d)))
    (all_added add_exp bare_exp (exp_lists b) (λ x ls. refl) es (bare_exp e ∷ []) b.states.exp_lists)
    ∙ ap (put_state act.Select) (all_added add_case bare_case (case_lists c) (λ x ls. refl) cs [] b.states.cases))

after_transition_rows : (b : Built) → Rows state.AfterTransition b
after_transition_rows b = (
  λ us e h vs es k ws cs m. (
    transition_of.Select (e ∷ es) cs,
    (
      select_tokens e es cs us vs ws h.0 k.0 m.0,
      both (list_all is_full (e ∷ es)) (list_all (is_case with_parentheses) cs) (both (is_full e) (list_all is_full es) h.1 k.1) m.1,
    ),
    select_built e es cs b,
  ),
  (λ us t h. (transition_of.Go t, (ap (λ l. quoted key.Transition ∷ (l ++ semicolon ∷ [])) h, refl), refl), tt),
)

-- variables and states

pub var_tokens : (t : Type16) (text : List ℕ) (i : Option Exp16) (us vs ws xs : List Seen16) → us ≡ written_type t → vs ≡ written_option written_initial i → ws ≡ xs
    → us ++ id text ∷ (vs ++ semicolon ∷ ws) ≡ written_var (record { of = t; name = text; initial = i }) ++ xs
var_tokens t text i us vs ws xs f g h =
    ap₂ (λ l m. l ++ id text ∷ m) f (ap₂ (λ l m. l ++ semicolon ∷ m) g h ∙ sym (append_assoc (written_option written_initial i) (semicolon ∷ []) xs))
    ∙ sym (append_assoc (written_type t) (id text ∷ (written_option written_initial i ++ semicolon ∷ [])) xs)

state_tokens : (text : List ℕ) (ss : List Stmt16) (t : Transition) (us vs ws : List Seen16) (more : List State) → us ≡ flat_map written_stmt ss → vs ≡ written_transition t → ws ≡ flat_map written_state more
    → quoted key.State ∷ id text ∷ brace_open ∷ (us ++ (vs ++ brace_close ∷ ws)) ≡ written_state (record { name = text; body = stmts_of ss; transition = t }) ++ flat_map written_state more
state_tokens text ss t us vs ws more f g h =
    ap (λ l. quoted key.State ∷ id text ∷ brace_open ∷ l)
    (sym (append_assoc us vs (brace_close ∷ ws))
    ∙ ap₂ (λ l m. l ++ brace_close ∷ m) (ap₂ ◌++◌ (f ∙ sym (written_stmts ss)) g) h
    ∙ sym (append_assoc (written_stmt (stmts_of ss) ++ written_transition t) (brace_close ∷ []) (flat_map written_state more)))

state_rows : (b : Built) → Rows state.States b
state_rows b = (
  by_name _ (λ text us ss h vs t k ws more m. (
    record { name = text; body = stmts_of ss; transition = t } ∷ more,
    (
      state_tokens text ss t us vs ws more h.0 k.0 m.0,
      both (is_stmt with_parentheses statements (stmts_of ss) && is_transition with_parentheses t) (list_all (is_state with_parentheses) more)
          (both (is_stmt with_parentheses statements (stmts_of ss)) (is_transition with_parentheses t) (stmts_are ss h.1) k.1) m.1,
    ),
    ap (λ c. after_all add_state more (put_state act.AddState (put_transition t (put_state act.TakeBlock c))))
        (sym (stmts_built ss b.bodies.is_open b.bodies.exps b.bodies.stmts (record b { parts = record b.parts { names = text ∷ b.parts.names } }))),
  )),
  tt,
)

-- all of them

cases_rows : (b : Built) → Rows state.SelectCases b
cases_rows b = (
  λ us t h vs cs k. case_means (keyset.One simple.Default) t (quoted key.Default ∷ []) us vs cs b (put_keyset (keyset.One simple.Default) b) refl refl h k refl,
  (
    λ us t h vs cs k. case_means (keyset.One simple.Any) t (quoted key.Underscore ∷ []) us vs cs b (put_keyset (keyset.One simple.Any) b) refl refl h k refl,
    (
      λ us s h vs t k ws cs m. case_means s t (paren_open ∷ us) vs ws cs b (put_keyset (bare_keyset s) b) h.0 h.1 k m refl,
      (λ us e h vs t k ws end m xs to g ys cs l. operand_case e t end us vs ws xs ys to cs b h k m g l, tt),
    ),
  ),
)

simple_rows : (b : Built) → Rows state.Simple b
simple_rows b = (
  (simple.Default, (refl, refl), refl),
  ((simple.Any, (refl, refl), refl), (λ us e h vs t k ws end m. simple_means e t end us vs ws b h k m, tt)),
)

pub rows_mean : (w : StateWord) (b : Built) → Rows w b
rows_mean state.Target b = (by_name _ (λ text. (target_of.State text, refl, refl)), ((target_of.Accept, refl, refl), ((target_of.Reject, refl, refl), tt)))
rows_mean state.Simple b = simple_rows b
rows_mean state.SimpleEnd b = (
  λ us e h. (masked e, (ap (λ l. mask ∷ l) h.0, h.1), refl),
  (λ us e h. (ranged e, (ap (λ l. dots ∷ l) h.0, h.1), refl), tt),
)
rows_mean state.MoreSimples b = (λ us s h vs ss k. (s ∷ ss, (ap₂ (λ l m. comma ∷ (l ++ m)) h.0 k.0, both (is_simple with_parentheses s) (list_all (is_simple with_parentheses) ss) h.1 k.1), refl), tt)
rows_mean state.SelectCases b = cases_rows b
rows_mean state.KeysetParen b = paren_rows b
rows_mean state.KeysetParenEnd b = paren_end_rows b
rows_mean state.AfterKeysetParen b = after_rows b
rows_mean state.Transition b = (λ us t h. (t, (h.0, h.1), refl), tt)
rows_mean state.AfterTransition b = after_transition_rows b
rows_mean state.MoreExps b = (λ us e h vs es k. (e ∷ es, (ap₂ (λ l m. comma ∷ (l ++ m)) h.0 k.0, both (is_full e) (list_all is_full es) h.1 k.1), refl), tt)
rows_mean state.Vars b = (
  λ us t h. by_name _ (λ text vs i k ws more m. (
    record { of = t; name = text; initial = i } ∷ more,
    (var_tokens t text i us vs ws (flat_map written_var more) h k.0 m.0, both (is_option is_full i) (list_all (is_var with_parentheses) more) k.1 m.1),
    refl,
  )),
  tt,
)
rows_mean state.InitialOption b = (λ us e h. (Some e, (ap (λ l. equals ∷ l) h.0, h.1), refl), tt)
rows_mean state.States b = state_rows b

pub none_means : (w : StateWord) (b : Built) → NoneShows grammar16 fixed16 meaning16 (word.State w) b (grammar16.otherwise (word.State w))
none_means state.Target b = tt
none_means state.Simple b = tt
none_means state.SimpleEnd b = (alone, (refl, refl), refl)
none_means state.MoreSimples b = ([], (refl, refl), refl)
none_means state.SelectCases b = ([], (refl, refl), refl)
none_means state.KeysetParen b = tt
none_means state.KeysetParenEnd b = tt
none_means state.AfterKeysetParen b = (single, (refl, refl), refl)
none_means state.Transition b = tt
none_means state.AfterTransition b = tt
none_means state.MoreExps b = ([], (refl, refl), refl)
none_means state.Vars b = ([], (refl, refl), refl)
none_means state.InitialOption b = (None, (refl, refl), refl)
none_means state.States b = ([], (refl, refl), refl)
