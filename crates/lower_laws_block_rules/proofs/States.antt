-- States of parsers break no rule.
use Rattle.std.proofs.Common.{◌≡◌, ℕ, suc, ◌+◌, ◌<◌, ◌≤◌, ◌^◌, ◌%◌, Bool, true, false, cond, List, [], ◌∷◌, ◌++◌, length, map, Option, Some, None, refl, sym, ap, ◌∙◌, subst, arith}
use Rattle.std.specs.Prelude.{nat_lt, is_some, sum, sum_by}
use Rattle.std.specs.List.{list_any, AllByRecursion}
use Rattle.std.proofs.lemmas.Bool.{ltb-true}
use Rattle.std.proofs.lemmas.List.Sums.{sum-map, sum_by-cons}
use Rattle.p414_syntax.specs.declared.lexeme.Literal.{Literal}
use Rattle.p414_syntax.specs.declared.parts.Inst.{Inst}
use Rattle.p414_syntax.specs.declared.parsers.Masked.{Masked}
use Rattle.p414_syntax.specs.declared.parsers.CaseValues.{CaseValues}
use Rattle.p414_syntax.specs.declared.parsers.CaseValues.TheVariants as case_values
use Rattle.p414_syntax.specs.declared.parsers.CaseTarget.{CaseTarget}
use Rattle.p414_syntax.specs.declared.parsers.CaseTarget.TheVariants as case_target
use Rattle.p414_syntax.specs.declared.parsers.Case.{Case}
use Rattle.p414_syntax.specs.declared.parsers.PValue.{PValue}
use Rattle.p414_syntax.specs.declared.parsers.PStmt.{PStmt}
use Rattle.p414_syntax.specs.declared.parsers.PStmt.TheVariants as pstmt
use Rattle.p414_syntax.specs.declared.parsers.Return.{Return}
use Rattle.p414_syntax.specs.declared.parsers.Return.TheVariants as end_of
use Rattle.p414_syntax.specs.declared.parsers.Parser.{Parser}
use Rattle.p414_syntax.specs.declared.syntax.Decl.{Decl}
use Rattle.p414_syntax.specs.Names.{Name}
use Rattle.p414_syntax.specs.Selects.{value_bits}
use Rattle.p414_syntax.specs.Uses.{last_behind, last_of}
use Rattle.p414_syntax.specs.Widths.{statement_looks_too_far}
use Rattle.p414_sem.specs.Slots.{Slot, standard, declared, slot_of}
use Rattle.p414_sem.specs.Parsing.{state_named}
use Rattle.p416_syntax.specs.declared.parsers.Target.{Target}
use Rattle.p416_syntax.specs.declared.parsers.SelectCase.{SelectCase}
use Rattle.p416_syntax.specs.declared.node.BinaryOperator.TheVariants.{Concatenate}
use Rattle.p416_syntax.specs.Tree.{Exp16, binary, Stmt16, no_statements, then, assign}
use Rattle.p416_syntax.specs.Kinds.{bits}
use Rattle.p416_syntax.specs.Scopes.{Scope, a_state, sort_of}
use Rattle.p416_syntax.specs.Declarations.{target_uses, transition_uses}
use Rattle.v1_core.specs.Frames.{of_standard}
use Rattle.agreement_of_meanings.specs.Shown.{owner_of}
use Rattle.agreement_of_meanings.specs.Lowered.{simple_of, case_to, value_cases, cases_of, target16, select_cases, IsState, LeadToStates}
use Rattle.lower_laws_base.specs.Context.{Lowering, words_of, shown_in, now, IsSlot}
use Rattle.lower_laws_base.specs.Mirror.{width_in, slot_exp}
use Rattle.lower_laws_parser.specs.Words.{ParserWords, stmt_of, value_exp, body_of, part_exp, key_from, key_exp, width_of_key, next_by, next_of, transition_of, state_of}
use Rattle.lower_laws_parser.specs.Parsing.{ValueFits, StmtFits, BodyFits, ValuesFit, IsSome, EndFits, StateFits, parser_words}
use Rattle.lower_laws_rules.specs.Keeping.{Keeps, Sound, Part}
use Rattle.lower_laws_rules.specs.Standing.{slot_owner}
use Rattle.lower_laws_rules.specs.Declared.{StateKeeps}
use Rattle.lower_laws_rules.proofs.Lists.{none_kept, behind_kept, first_kept}
use Rattle.lower_laws_rules.proofs.Places.{deeper, writable}
use Rattle.lower_laws_rules.proofs.Sound.{sits_plain, sound_concatenated}
use Rattle.lower_laws_rules.proofs.Calls.{sits_kept}
use Rattle.lower_laws_rules.proofs.Parts.{part_none, part_then, part_put}
use Rattle.lower_laws_rules.proofs.Sources.{sound_slot}
use Rattle.lower_laws_rules.proofs.Externs.{part_extract}
use Rattle.lower_laws_rules.proofs.Found.{left_false, right_false}
use Rattle.lower_laws_rules.proofs.Controls.{target_state, target_accept, case_default, CaseKeeps, transition_go, transition_select, state_kept}
use Rattle.lower_laws_block_rules.specs.Parsers.{SelectValue, EndHere, StateHere}
use Rattle.lower_laws_block_rules.proofs.Values.{ParsesHere, sound_packet, sound_extracted, sound_value}
use Rattle.lower_laws_block_rules.proofs.Keys.{cut}

-- the sum, by recursion
abbrev pub total : {A : Type 0} → (A → ℕ) → List A → ℕ
total f [] = 0
total f (x ∷ xs) = f x + total f xs

totals_by : {A : Type 0} (f : A → ℕ) (xs : List A) → total f xs ≡ sum_by f xs
totals_by f [] = refl
totals_by f (x ∷ xs) = ap (λ (n : ℕ). f x + n) (totals_by f xs) ∙ sym (sum_by-cons f x xs)

totals : {A : Type 0} (f : A → ℕ) (xs : List A) → total f xs ≡ sum (map f xs)
totals f xs = totals_by f xs ∙ sym (sum-map f xs)

module _ (c : Lowering) (ds : List Decl) (packet : Name) (state : Name → Name) (s : Scope) (here : ParsesHere c ds packet s) where
  abbrev p : ParserWords
  p = parser_words c packet state

  -- statements

  one_part : (last : Option Inst) (q : PStmt) → StmtFits c ds last q → statement_looks_too_far q ≡ false → Part s s [] 0 (stmt_of ds p last q)
  one_part last (pstmt.Extract i) fits near = part_extract (sound_packet c ds packet state s here) (sound_extracted c ds packet state s here i fits) here.at (omega arith) (omega arith)
  one_part last (pstmt.SetMetadata r v) fits near =
      let slot = slot_of ds r in
      subst (λ (w : ℕ). Part s s [] 0 (assign (slot_exp (words_of c) now slot) (value_exp ds p last w v))) (sym fits.1)
      (part_put (writable (can slot fits.0) (sound_slot c s [] here.parses.sees now tt slot fits.0))
      (sound_value c ds packet state s here last (width_in (words_of c) slot) v (here.wide slot fits.0) fits.2 near) (omega arith) (omega arith)) where
        can : (slot : Slot) → IsSlot c.layout slot → c.can_write (slot_owner c slot) ≡ true
        can (standard which) is = here.writes of_standard is
        can (declared i e k) is = here.writes (owner_of (shown_in c i)) is.2

  body_part : (last : Option Inst) (x : Stmt16) (qs : List PStmt) → Part s s [] 0 x → BodyFits c ds last qs → list_any statement_looks_too_far qs ≡ false → Part s s [] 0 (body_of ds p last x qs)
  body_part last x [] part fits near = part
  body_part last x (q ∷ qs) part fits near = body_part (last_behind last q) ((then) x (stmt_of ds p last q)) qs (part_then part (one_part last q fits.0 (left_false _ _ near))) fits.1 (right_false _ _ near)

  -- selects: one joined key

  sound_part : (last : Option Inst) (v : PValue) → ValueFits c ds last v → SelectValue ds last v → Sound s (part_exp ds p last v) (bits (value_bits ds last v)) false 5
  sound_part last v fits is = sound_value c ds packet state s here last (value_bits ds last v) v is.1 fits is.0

  sound_from : (last : Option Inst) (e : Exp16) (width d : ℕ) (vs : List PValue) → Sound s e (bits width) false d → 5 ≤ d → ValuesFit c ds last vs → AllByRecursion (SelectValue ds last) vs → width + total (value_bits ds last) vs ≤ 128 → Sound s (key_from ds p last e vs) (bits (width + total (value_bits ds last) vs)) false (d + length vs)
  sound_from last e width d [] x least fits is few = deeper (d + 0) (omega arith) (subst (λ (w : ℕ). Sound s e (bits w) false d) (omega arith) x)
  sound_from last e width d (v ∷ vs) x least fits is few =
      let w = value_bits ds last v in
      let rest = total (value_bits ds last) vs in
      deeper (d + length (v ∷ vs)) (omega arith)
      (subst (λ (n : ℕ). Sound s (key_from ds p last e (v ∷ vs)) (bits n) false (suc d + length vs)) (omega arith)
      (sound_from last (binary Concatenate e (part_exp ds p last v)) (width + w) (suc d) vs (deeper (suc d) (omega (arith, least)) (sound_concatenated (omega (arith, few)) x (sound_part last v fits.0 is.0))) (omega (arith, least)) fits.1 is.1 (omega (arith, few))))

  -- no value is without bits, so that there are no more than 128
  counted : (last : Option Inst) (vs : List PValue) → AllByRecursion (SelectValue ds last) vs → length vs ≤ total (value_bits ds last) vs
  counted last [] is = omega arith
  counted last (v ∷ vs) is = let more = counted last vs is.1 in let some = is.0.1.0 in omega (arith, more, some)

  sound_key : (last : Option Inst) (vs : List PValue) → IsSome vs → ValuesFit c ds last vs → AllByRecursion (SelectValue ds last) vs → total (value_bits ds last) vs ≤ 128 → Sound s (key_exp ds p last vs) (bits (total (value_bits ds last) vs)) false 200
  sound_key last [] some fits is few = absurd some
  sound_key last (v ∷ vs) some fits is few =
      let more = counted last vs is.1 in
      deeper 200 (omega (arith, more, few)) (sound_from last (part_exp ds p last v) (value_bits ds last v) 5 vs (sound_part last v fits.0 is.0) (omega arith) fits.1 is.1 few)

  -- cases

  module _ (known : (called : Name) → is_some (state_named ds called) ≡ true → sort_of s (state called) ≡ a_state) where
    pub next_kept : (called : Name) → Keeps (target_uses s (next_of ds p called)) []
    next_kept called = by (is_some (state_named ds called)) refl where
      by : (b : Bool) → is_some (state_named ds called) ≡ b → Keeps (target_uses s (next_by ds p b called)) []
      by true is = target_state s (state called) (known called is)
      by false is = target_accept s

    to_kept : (t : CaseTarget) → IsState t → Keeps (target_uses s (target16 (next_of ds p) t)) []
    to_kept (case_target.State called) is = next_kept called
    to_kept (case_target.ParseError called) is = absurd is

    one_case : (width n : ℕ) (mask : Option Literal) (t : Target) → n < 2 ^ width → Keeps (target_uses s t) [] → CaseKeeps s width (case_to t (simple_of width n mask))
    one_case width n None t lt goes =
        first_kept (record { t1 = refl; t2 = refl; t3 = refl; t4 = refl; t5 = refl; t6 = refl; t8 = refl; t9 = refl; t10 = refl; calls = refl }) refl refl
        (behind_kept (behind_kept (sits_kept (sits_plain s width n lt) (omega arith)) none_kept) goes)
    one_case width n (Some mask) t lt goes =
        first_kept (record { t1 = refl; t2 = refl; t3 = refl; t4 = refl; t5 = refl; t6 = refl; t8 = refl; t9 = refl; t10 = refl; calls = refl }) refl refl
        (behind_kept (behind_kept (behind_kept (sits_kept (sits_plain s width n lt) (omega arith)) (sits_kept (sits_plain s width (mask.value % 2 ^ width) (cut width mask.value)) (omega arith))) none_kept) goes)

    values_kept : (width : ℕ) (t : Target) (values : List Masked) → Keeps (target_uses s t) [] → AllByRecursion (CaseKeeps s width) (value_cases width t values)
    values_kept width t [] goes = tt
    values_kept width t (m ∷ values) goes = by (nat_lt m.value.value (2 ^ width)) refl (values_kept width t values goes) where
      by : (b : Bool) → nat_lt m.value.value (2 ^ width) ≡ b → AllByRecursion (CaseKeeps s width) (value_cases width t values) → AllByRecursion (CaseKeeps s width) (cond b (case_to t (simple_of width m.value.value m.mask) ∷ value_cases width t values) (value_cases width t values))
      by true lt rest = (one_case width m.value.value m.mask t (ltb-true m.value.value (2 ^ width) lt) goes, rest)
      by false lt rest = rest

    both_lists : (width : ℕ) (xs ys : List SelectCase) → AllByRecursion (CaseKeeps s width) xs → AllByRecursion (CaseKeeps s width) ys → AllByRecursion (CaseKeeps s width) (xs ++ ys)
    both_lists width [] ys a b = b
    both_lists width (x ∷ xs) ys a b = (a.0, both_lists width xs ys a.1 b)

    case_kept : (width : ℕ) (t : Target) (v : CaseValues) → Keeps (target_uses s t) [] → AllByRecursion (CaseKeeps s width) (cases_of width t v)
    case_kept width t case_values.Default goes = (case_default s width t goes, tt)
    case_kept width t (case_values.Values values) goes = values_kept width t values goes

    cases_kept : (width : ℕ) (cases : List Case) → LeadToStates cases → AllByRecursion (CaseKeeps s width) (select_cases width (next_of ds p) cases)
    cases_kept width [] lead = tt
    cases_kept width (x ∷ cases) lead = both_lists width _ _ (case_kept width (target16 (next_of ds p) x.target) x.values (to_kept x.target lead.0)) (cases_kept width cases lead.1)

    end_kept : (last : Option Inst) (e : Return) → EndFits c ds p last e → EndHere ds last e → Keeps (transition_uses s (transition_of ds p last e)) []
    end_kept last (end_of.Select vs cases) fits is =
        transition_select s (select_cases (width_of_key ds p last vs) (next_of ds p) cases)
        (subst (λ (w : ℕ). Sound s (key_exp ds p last vs) (bits w) false 200) (totals (value_bits ds last) vs) (sound_key last vs fits.0 fits.1 is (subst (λ (w : ℕ). w ≤ 128) (sym (totals (value_bits ds last) vs)) fits.2))) (omega arith)
        (cases_kept (width_of_key ds p last vs) cases fits.3)
    end_kept last (end_of.State called) fits is = transition_go s (next_of ds p called) (next_kept called)
    end_kept last (end_of.ParseError called) fits is = absurd fits

    pub state_of_kept : (x : Parser) → StateFits c ds p x → StateHere ds x → StateKeeps s (state_of ds p x)
    state_of_kept x fits is =
        state_kept s (state_of ds p x) (body_part None no_statements x.statements part_none fits.body is.statements) (omega arith)
        (end_kept (last_of None x.statements) x.end fits.end is.end)
