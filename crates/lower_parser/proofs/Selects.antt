-- Turns of the loops over the cases of a select and over their values.
use Rattle.std.proofs.Common.{◌≡◌, ℕ, ◌+◌, ◌^◌, ◌<◌, nat_lt, Bool, true, false, cond, List, [], ◌∷◌, ◌++◌, length, get_or, drop, refl, sym, ap, ◌∙◌, append_assoc}
use Rattle.std.proofs.lemmas.List.{drop_more}
use Rattle.p414_syntax.specs.declared.parsers.Masked.{Masked}
use Rattle.p414_syntax.specs.declared.parsers.Case.{Case}
use Rattle.p414_syntax.specs.Names.{Name}
use Rattle.p416_syntax.specs.declared.parsers.SelectCase.{SelectCase}
use Rattle.p416_syntax.specs.declared.parsers.Target.{Target}
use Rattle.agreement_of_meanings.specs.Lowered.{simple_of, case_to, value_cases, cases_of, target16, select_cases}

value_first : (width : ℕ) (t : Target) (m : Masked) (values : List Masked) → value_cases width t (m ∷ values) ≡ value_cases width t (m ∷ []) ++ value_cases width t values
value_first width t m values = by (nat_lt m.value.value (2 ^ width)) where
  by : (b : Bool) → cond b (case_to t (simple_of width m.value.value m.mask) ∷ value_cases width t values) (value_cases width t values) ≡ cond b (case_to t (simple_of width m.value.value m.mask) ∷ []) [] ++ value_cases width t values
  by true = refl
  by false = refl

pub value_turn : (width : ℕ) (t : Target) (values : List Masked) (i : ℕ) (d : Masked) (old new z : List SelectCase) → i < length values → new ≡ old ++ value_cases width t (get_or values i d ∷ []) → old ++ value_cases width t (drop i values) ≡ z → new ++ value_cases width t (drop (i + 1) values) ≡ z
value_turn width t values i d old new z lt is same =
    let m = get_or values i d in
    let rest = drop (i + 1) values in
    ap (λ l. l ++ value_cases width t rest) is
    ∙ append_assoc old (value_cases width t (m ∷ [])) (value_cases width t rest)
    ∙ ap (λ l. old ++ l) (sym (value_first width t m rest))
    ∙ ap (λ l. old ++ value_cases width t l) (sym (drop_more values i d lt))
    ∙ same

pub case_turn : (width : ℕ) (next : Name → Target) (cases : List Case) (i : ℕ) (d : Case) (old new z : List SelectCase) → i < length cases → new ≡ old ++ cases_of width (target16 next (get_or cases i d).target) (get_or cases i d).values → old ++ select_cases width next (drop i cases) ≡ z → new ++ select_cases width next (drop (i + 1) cases) ≡ z
case_turn width next cases i d old new z lt is same =
    let c = get_or cases i d in
    let rest = drop (i + 1) cases in
    ap (λ l. l ++ select_cases width next rest) is
    ∙ append_assoc old (cases_of width (target16 next c.target) c.values) (select_cases width next rest)
    ∙ ap (λ l. old ++ select_cases width next l) (sym (drop_more cases i d lt))
    ∙ same
