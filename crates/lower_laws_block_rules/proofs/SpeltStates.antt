-- States of parsers are spelt, where names are.
use Rattle.std.proofs.Common.{◌≡◌, ℕ, ◌+◌, ◌<◌, ◌≤◌, ◌^◌, ◌%◌, Bool, true, false, cond, List, [], ◌∷◌, ◌++◌, length, Option, Some, None, refl, sym, subst, arith}
use Rattle.std.specs.Prelude.{codes, nat_lt, is_some}
use Rattle.std.specs.List.{list_any, AllByRecursion}
use Rattle.std.proofs.lemmas.Bool.{ltb-true}
use Rattle.std.proofs.Math.Nat.{pow-le-pow_right}
use Rattle.p414_syntax.specs.declared.lexeme.Literal.{Literal}
use Rattle.p414_syntax.specs.declared.parts.Index.{Index}
use Rattle.p414_syntax.specs.declared.parts.Index.TheVariants.{At, Next, Last}
use Rattle.p414_syntax.specs.declared.parts.Inst.{Inst}
use Rattle.p414_syntax.specs.declared.parsers.Masked.{Masked}
use Rattle.p414_syntax.specs.declared.parsers.CaseValues.{CaseValues}
use Rattle.p414_syntax.specs.declared.parsers.CaseValues.TheVariants as case_values
use Rattle.p414_syntax.specs.declared.parsers.CaseTarget.{CaseTarget}
use Rattle.p414_syntax.specs.declared.parsers.CaseTarget.TheVariants as case_target
use Rattle.p414_syntax.specs.declared.parsers.Case.{Case}
use Rattle.p414_syntax.specs.declared.parsers.PValue.{PValue}
use Rattle.p414_syntax.specs.declared.parsers.PValue.TheVariants as pvalue
use Rattle.p414_syntax.specs.declared.parsers.PStmt.{PStmt}
use Rattle.p414_syntax.specs.declared.parsers.PStmt.TheVariants as pstmt
use Rattle.p414_syntax.specs.declared.parsers.Return.{Return}
use Rattle.p414_syntax.specs.declared.parsers.Return.TheVariants as end_of
use Rattle.p414_syntax.specs.declared.parsers.Parser.{Parser}
use Rattle.p414_syntax.specs.declared.syntax.Decl.{Decl}
use Rattle.p414_syntax.specs.Names.{Name}
use Rattle.p414_syntax.specs.ParserGraph.{instance_number}
use Rattle.p414_syntax.specs.Selects.{value_bits}
use Rattle.p414_syntax.specs.Uses.{last_behind, last_of}
use Rattle.p414_syntax.specs.Widths.{looks_too_far, statement_looks_too_far}
use Rattle.p414_sem.specs.Wholes.{whole, wrapped}
use Rattle.p414_sem.specs.Slots.{slot_of, field_number}
use Rattle.p414_sem.specs.Parsing.{state_named}
use Rattle.p416_syntax.specs.declared.parsers.Target.{Target}
use Rattle.p416_syntax.specs.declared.parsers.SelectCase.{SelectCase}
use Rattle.p416_syntax.specs.Conditions.{statements, statement}
use Rattle.p416_syntax.specs.Tree.{Exp16, binary, Stmt16, no_statements, then}
use Rattle.p416_syntax.specs.declared.node.BinaryOperator.TheVariants.{Concatenate}
use Rattle.agreement_of_meanings.specs.Lowered.{case_to, simple_of, value_cases, cases_of, target16, select_cases}
use Rattle.lower_laws_base.specs.Context.{Lowering, words_of, shown_in, instances_of, now}
use Rattle.lower_laws_base.specs.Mirror.{width_in, element_exp}
use Rattle.lower_laws_base.proofs.Wrap.{wrap_below}
use Rattle.lower_laws_parser.specs.Words.{ParserWords, indexed, inst_exp, latest_field, field_called, value_exp, stmt_of, body_of, part_exp, key_from, key_exp, width_of_key, next_by, next_of, transition_of, state_of}
use Rattle.lower_laws_parser.specs.Parsing.{IsIndex, LatestFits, ValueFits, StmtFits, BodyFits, ValuesFit, IsSome, EndFits, StateFits, parser_words}
use Rattle.lower_laws_rules.specs.Spelling.{SpeltName, SpeltWord, SpeltExp, SpeltStmt, SpeltTarget, SpeltCase, SpeltTransition, SpeltState}
use Rattle.lower_laws_rules.proofs.SpeltParts.{plain_spelt, sized_spelt, word_spelt, resized_spelt, as_argument, instance_spelt, element_spelt}
use Rattle.lower_laws_rules.proofs.Found.{left_false, right_false}
use Rattle.lower_laws_block_rules.specs.Widths.{IsWidth, SlotsWide, SpeltHere}
use Rattle.lower_laws_block_rules.specs.Parsers.{SelectValue, EndHere, StateHere}
use Rattle.lower_laws_block_rules.proofs.Keys.{cut}
use Rattle.lower_laws_block_rules.proofs.Values.{looks_near}
use Rattle.lower_laws_block_rules.proofs.SpeltConditions.{slot_here}

-- a number of so many bits has under 128
narrow : (width n : ℕ) → width ≤ 128 → n < 2 ^ width → n < 2 ^ 128
narrow width n few lt = below n (2 ^ width) (2 ^ 128) lt (pow-le-pow_right (omega arith) few) where
  below : (a b d : ℕ) → a < b → b ≤ d → a < d
  below a b d lt le = omega (arith, lt, le)

module _ (c : Lowering) (ds : List Decl) (packet : Name) (state : Name → Name) (wide : SlotsWide c) (facts : SpeltHere c) (packet_is : SpeltName packet) (states_are : (called : Name) → is_some (state_named ds called) ≡ true → SpeltName (state called)) where
  abbrev p : ParserWords
  p = parser_words c packet state

  abbrev of : Inst → ℕ
  of i = instance_number ds i.name

  element_here : (k e : ℕ) → k < length (instances_of c) → e < c.layout.size_of k → SpeltExp (element_exp (words_of c) now (shown_in c k) e)
  element_here k e lt less = let few = facts.sizes k lt in element_spelt (words_of c) now facts.words k e lt (omega (arith, few, less))

  indexed_here : (word : Name) → SpeltWord word → (k : ℕ) (index : Option Index) → k < length (instances_of c) → IsIndex c k index → SpeltExp (indexed ds p word (shown_in c k) index)
  indexed_here word named k (Some Next) lt is = (instance_spelt (words_of c) now facts.words (shown_in c k) (facts.words.instances k lt), named)
  indexed_here word named k (Some (At n)) lt is = element_here k n.value lt is
  indexed_here word named k (Some Last) lt is = absurd is
  indexed_here word named k None lt is = element_here k 0 lt is

  -- values

  latest_here : (last : Option Inst) (width : ℕ) (called : Name) → IsWidth width → LatestFits c ds last called → SpeltExp (latest_field ds p last width called)
  latest_here None width called w fits = absurd fits
  latest_here (Some i) width called w fits =
      resized_spelt _ width _ w.0 w.1
      (indexed_here (codes "last") refl (of i) i.index fits.0.instance fits.0.index, word_spelt (field_called ds p i called) (facts.words.fields (of i) (field_number ds i.name called) fits.0.instance fits.1))

  value_here : (last : Option Inst) (width : ℕ) (v : PValue) → IsWidth width → ValueFits c ds last v → looks_too_far v ≡ false → SpeltExp (value_exp ds p last width v)
  value_here last width (pvalue.Current offset taken) w fits near =
      let reach = looks_near taken.value (offset.value + taken.value) near in
      resized_spelt _ width _ w.0 w.1 (resized_spelt _ taken.value _ reach.0 (let few = reach.1 in omega (arith, few)) (packet_is, plain_spelt (offset.value + taken.value) (let few = reach.1 in omega (arith, few)), tt))
  value_here last width (pvalue.Latest called) w fits near = latest_here last width called w fits
  value_here last width (pvalue.Field r) w fits near = resized_spelt (width_in (words_of c) (slot_of ds r)) width _ w.0 w.1 (slot_here c facts (slot_of ds r) fits)
  value_here last width (pvalue.Number n) w fits near = sized_spelt width (wrapped width (whole n)) w.0 w.1 (wrap_below width (whole n))

  -- statements

  one_here : (last : Option Inst) (q : PStmt) → StmtFits c ds last q → statement_looks_too_far q ≡ false → SpeltStmt statement (stmt_of ds p last q)
  one_here last (pstmt.Extract i) fits near =
      (((packet_is, refl), (tt, as_argument (inst_exp ds p i) (indexed_here (codes "next") refl (of i) i.index fits.instance fits.index))), refl)
  one_here last (pstmt.SetMetadata r v) fits near = (slot_here c facts (slot_of ds r) fits.0, value_here last _ v (subst IsWidth (sym fits.1) (wide (slot_of ds r) fits.0)) fits.2 near)

  body_here : (last : Option Inst) (x : Stmt16) (qs : List PStmt) → SpeltStmt statements x → BodyFits c ds last qs → list_any statement_looks_too_far qs ≡ false → SpeltStmt statements (body_of ds p last x qs)
  body_here last x [] part fits near = part
  body_here last x (q ∷ qs) part fits near = body_here (last_behind last q) ((then) x (stmt_of ds p last q)) qs (part, one_here last q fits.0 (left_false _ _ near)) fits.1 (right_false _ _ near)

  -- selects

  part_spelt : (last : Option Inst) (v : PValue) → ValueFits c ds last v → SelectValue ds last v → SpeltExp (part_exp ds p last v)
  part_spelt last v fits is = value_here last (value_bits ds last v) v is.1 fits is.0

  from_spelt : (last : Option Inst) (e : Exp16) (vs : List PValue) → SpeltExp e → ValuesFit c ds last vs → AllByRecursion (SelectValue ds last) vs → SpeltExp (key_from ds p last e vs)
  from_spelt last e [] x fits is = x
  from_spelt last e (v ∷ vs) x fits is = from_spelt last (binary Concatenate e (part_exp ds p last v)) vs (x, part_spelt last v fits.0 is.0) fits.1 is.1

  key_spelt : (last : Option Inst) (vs : List PValue) → IsSome vs → ValuesFit c ds last vs → AllByRecursion (SelectValue ds last) vs → SpeltExp (key_exp ds p last vs)
  key_spelt last [] some fits is = absurd some
  key_spelt last (v ∷ vs) some fits is = from_spelt last (part_exp ds p last v) vs (part_spelt last v fits.0 is.0) fits.1 is.1

  pub next_spelt : (called : Name) → SpeltTarget (next_of ds p called)
  next_spelt called = by (is_some (state_named ds called)) refl where
    by : (b : Bool) → is_some (state_named ds called) ≡ b → SpeltTarget (next_by ds p b called)
    by true is = states_are called is
    by false is = tt

  to_spelt : (t : CaseTarget) → SpeltTarget (target16 (next_of ds p) t)
  to_spelt (case_target.State called) = next_spelt called
  to_spelt (case_target.ParseError called) = tt

  values_spelt : (width : ℕ) → width ≤ 128 → (t : Target) (values : List Masked) → SpeltTarget t → AllByRecursion SpeltCase (value_cases width t values)
  values_spelt width few t [] is = tt
  values_spelt width few t (m ∷ values) is = by (nat_lt m.value.value (2 ^ width)) refl (values_spelt width few t values is) where
    simple : (n : ℕ) (mask : Option Literal) → n < 2 ^ width → SpeltCase (case_to t (simple_of width n mask))
    simple n None lt = (plain_spelt n (narrow width n few lt), is)
    simple n (Some mask) lt = ((plain_spelt n (narrow width n few lt), plain_spelt (mask.value % 2 ^ width) (narrow width _ few (cut width mask.value))), is)

    by : (b : Bool) → nat_lt m.value.value (2 ^ width) ≡ b → AllByRecursion SpeltCase (value_cases width t values) → AllByRecursion SpeltCase (cond b (case_to t (simple_of width m.value.value m.mask) ∷ value_cases width t values) (value_cases width t values))
    by true lt rest = (simple m.value.value m.mask (ltb-true m.value.value (2 ^ width) lt), rest)
    by false lt rest = rest

  case_spelt : (width : ℕ) → width ≤ 128 → (t : Target) (v : CaseValues) → SpeltTarget t → AllByRecursion SpeltCase (cases_of width t v)
  case_spelt width few t case_values.Default is = ((tt, is), tt)
  case_spelt width few t (case_values.Values values) is = values_spelt width few t values is

  both_lists : (xs ys : List SelectCase) → AllByRecursion SpeltCase xs → AllByRecursion SpeltCase ys → AllByRecursion SpeltCase (xs ++ ys)
  both_lists [] ys a b = b
  both_lists (x ∷ xs) ys a b = (a.0, both_lists xs ys a.1 b)

  cases_spelt : (width : ℕ) → width ≤ 128 → (cases : List Case) → AllByRecursion SpeltCase (select_cases width (next_of ds p) cases)
  cases_spelt width few [] = tt
  cases_spelt width few (x ∷ cases) = both_lists _ _ (case_spelt width few (target16 (next_of ds p) x.target) x.values (to_spelt x.target)) (cases_spelt width few cases)

  end_spelt : (last : Option Inst) (e : Return) → EndFits c ds p last e → EndHere ds last e → SpeltTransition (transition_of ds p last e)
  end_spelt last (end_of.Select vs cases) fits is = (refl, (key_spelt last vs fits.0 fits.1 is, tt), cases_spelt (width_of_key ds p last vs) fits.2 cases)
  end_spelt last (end_of.State called) fits is = next_spelt called
  end_spelt last (end_of.ParseError called) fits is = absurd fits

  pub state_here : (x : Parser) → StateFits c ds p x → StateHere ds x → SpeltName (state x.name) → SpeltState (state_of ds p x)
  state_here x fits is named = (named, body_here None no_statements x.statements tt fits.body is.statements, end_spelt (last_of None x.statements) x.end fits.end is.end)
