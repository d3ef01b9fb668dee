-- The rows of a select lead to the same.
use Rattle.std.proofs.Common.{◌≡◌, ℕ, ◌+◌, ◌*◌, ◌%◌, ◌^◌, Bool, true, false, ◌||◌, ◌&&◌, cond, nat_lt, ℤ, List, [], ◌∷◌, ◌++◌, map, flat_map, Option, Some, None, option_map, refl, sym, ap, ◌∙◌}
use Rattle.std.specs.Prelude.{filter_map, fold, sum}
use Rattle.std.specs.List.{cons_option, list_any}
use Rattle.p414_syntax.specs.declared.lexeme.Literal.{Literal}
use Rattle.p414_syntax.specs.declared.parts.Inst.{Inst}
use Rattle.p414_syntax.specs.declared.parsers.PValue.{PValue}
use Rattle.p414_syntax.specs.declared.parsers.Masked.{Masked}
use Rattle.p414_syntax.specs.declared.parsers.CaseValues.{CaseValues}
use Rattle.p414_syntax.specs.declared.parsers.CaseValues.TheVariants as case_values
use Rattle.p414_syntax.specs.declared.parsers.CaseTarget.{CaseTarget}
use Rattle.p414_syntax.specs.declared.parsers.CaseTarget.TheVariants as case_target
use Rattle.p414_syntax.specs.declared.parsers.Case.{Case}
use Rattle.p414_syntax.specs.declared.parsers.Return.{Return}
use Rattle.p414_syntax.specs.declared.parsers.Return.TheVariants as end_of
use Rattle.p414_syntax.specs.declared.syntax.Decl.{Decl}
use Rattle.p414_syntax.specs.ParserGraph.{state_number}
use Rattle.p414_syntax.specs.Selects.{value_bits}
use Rattle.p414_sem.specs.Parsing.{Latest, latest_instance, parser_value, joined, joined_from, key_of, key_width, matches_value, matches_case, target_of_key, Step, to, ended, leads, selects, returns, Progress, goes_on, stops}
use Rattle.p414_sem.specs.State.{State}
use Rattle.p414_sem.specs.Wholes.{wrapped}
use Rattle.p414_ready_parser.specs.declared.rows.CaseTest.{CaseTest}
use Rattle.p414_ready_parser.specs.declared.rows.CaseRow.{CaseRow}
use Rattle.p414_ready_parser.specs.declared.rows.Next.{Next}
use Rattle.p414_ready_parser.specs.Rows.{next_by, next_row, case_next, select_part, part_width, key_bits, test_by, test_of, tests_of, row_to, case_rows, end_row}
use Rattle.p414_ready_parser.specs.Running as run
use Rattle.p414_ready_parser.proofs.Valuing.{element_in, low, value_is}
use Rattle.p414_ready_parser.proofs.Doing.{going, EndsWith}

-- the key

joined_is : (width : ℕ) (o : Option ℤ) (p front : Option ℕ) → option_map (wrapped width) o ≡ option_map (low width) p → run.join_by width front p ≡ joined width o front
joined_is width None None None e = refl
joined_is width None None (Some n) e = refl
joined_is width None (Some k) front e = absurd (cc e)
joined_is width (Some z) None front e = absurd (cc e)
joined_is width (Some z) (Some k) None e = refl
joined_is width (Some z) (Some k) (Some n) e =
    let value : wrapped width z ≡ k % 2 ^ width = cc e in
    ap (λ m. Some (n * 2 ^ width + m)) (sym value)

key_from : (ds : List Decl) (l : Option Latest) (s : State) (values : List PValue) (front : Option ℕ) → fold (run.join_part (element_in l) s) front (map (select_part ds (option_map latest_instance l)) values) ≡ joined_from ds l s front values
key_from ds l s [] front = refl
key_from ds l s (v ∷ values) front =
    ap (λ o. fold (run.join_part (element_in l) s) o (map (select_part ds (option_map latest_instance l)) values))
    (joined_is (value_bits ds (option_map latest_instance l) v) (parser_value ds l s v) _ front (value_is ds l s (value_bits ds (option_map latest_instance l) v) v))
    ∙ key_from ds l s values (joined (value_bits ds (option_map latest_instance l) v) (parser_value ds l s v) front)

widths_are : (ds : List Decl) (l : Option Latest) (values : List PValue) → map part_width (map (select_part ds (option_map latest_instance l)) values) ≡ map (value_bits ds (option_map latest_instance l)) values
widths_are ds l [] = refl
widths_are ds l (v ∷ values) = ap (λ ws. value_bits ds (option_map latest_instance l) v ∷ ws) (widths_are ds l values)

width_is : (ds : List Decl) (l : Option Latest) (values : List PValue) → key_bits (map (select_part ds (option_map latest_instance l)) values) ≡ key_width ds l values
width_is ds l values = ap sum (widths_are ds l values)

-- rows

row_over : (n : Next) (key : ℕ) (tests : List CaseTest) (rest : List CaseRow) → run.row_for (map (row_to n) tests ++ rest) key ≡ cond (list_any (λ t. run.takes t key) tests) n (run.row_for rest key)
row_over n key [] rest = refl
row_over n key (t ∷ tests) rest = by_first (run.takes t key) (row_over n key tests rest) where
  by_first : (b : Bool) → run.row_for (map (row_to n) tests ++ rest) key ≡ cond (list_any (λ t. run.takes t key) tests) n (run.row_for rest key)
      → cond b n (run.row_for (map (row_to n) tests ++ rest) key) ≡ cond (b || list_any (λ t. run.takes t key) tests) n (run.row_for rest key)
  by_first true e = refl
  by_first false e = e

plain : (b : Bool) → (b || false) ≡ b
plain true = refl
plain false = refl

any_cons : (key : ℕ) (o : Option CaseTest) (rest : List CaseTest) (b c : Bool) → list_any (λ t. run.takes t key) (cons_option o []) ≡ b → list_any (λ t. run.takes t key) rest ≡ c → list_any (λ t. run.takes t key) (cons_option o rest) ≡ (b || c)
any_cons key None rest b c e f = f ∙ ap (λ x. x || c) e
any_cons key (Some t) rest b c e f = ap (λ x. run.takes t key || x) f ∙ ap (λ x. x || c) (sym (plain (run.takes t key)) ∙ e)

one_value : (key : ℕ) (fits : Bool) (t : CaseTest) → list_any (λ u. run.takes u key) (cons_option (cond fits (Some t) None) []) ≡ (fits && run.takes t key)
one_value key true t = plain (run.takes t key)
one_value key false t = refl

value_takes : (width key : ℕ) (m : Literal) (mask : Option Literal) → list_any (λ t. run.takes t key) (cons_option (test_of width (record { value = m; mask = mask })) []) ≡ matches_value width key (record { value = m; mask = mask })
value_takes width key m None = one_value key (nat_lt m.value (2 ^ width)) (test_by m.value None)
value_takes width key m (Some mask) = one_value key (nat_lt m.value (2 ^ width)) (test_by m.value (Some mask))

values_take : (width key : ℕ) (values : List Masked) → list_any (λ t. run.takes t key) (filter_map (test_of width) values) ≡ list_any (matches_value width key) values
values_take width key [] = refl
values_take width key (m ∷ values) =
    any_cons key (test_of width m) (filter_map (test_of width) values) (matches_value width key m) (list_any (matches_value width key) values)
    (value_takes width key m.value m.mask) (values_take width key values)

case_takes : (width key : ℕ) (vs : CaseValues) (t : CaseTarget) → list_any (λ t. run.takes t key) (tests_of width vs) ≡ matches_case width key (record { values = vs; target = t })
case_takes width key case_values.Default t = refl
case_takes width key (case_values.Values values) t = values_take width key values

-- where rows lead

-- a step, as rows tell it
abbrev pub step_as : List Decl → Step → run.GoingTo
step_as ds (to name s) = run.to (next_row ds name) s
step_as ds (ended end s) = run.ended end s

lead_by : (o : Option ℕ) (s : State) → run.lead (next_by o) s ≡ run.to (next_by o) s
lead_by None s = refl
lead_by (Some n) s = refl

target_leads : (ds : List Decl) (s : State) (t : CaseTarget) → run.lead (case_next ds t) s ≡ step_as ds (leads s (Some t))
target_leads ds s (case_target.ParseError name) = refl
target_leads ds s (case_target.State name) = lead_by (state_number ds name) s

cases_lead : (ds : List Decl) (s : State) (width key : ℕ) (cases : List Case) → run.lead (run.row_for (flat_map (case_rows ds width) cases) key) s ≡ step_as ds (leads s (target_of_key width key cases))
cases_lead ds s width key [] = refl
cases_lead ds s width key (c ∷ cases) =
    ap (λ n. run.lead n s) (row_over (case_next ds c.target) key (tests_of width c.values) (flat_map (case_rows ds width) cases))
    ∙ (ap (λ b. run.lead (cond b (case_next ds c.target) (run.row_for (flat_map (case_rows ds width) cases) key)) s) (case_takes width key c.values c.target)
    ∙ by_case (matches_case width key c) (cases_lead ds s width key cases))
  where
    by_case : (b : Bool) → run.lead (run.row_for (flat_map (case_rows ds width) cases) key) s ≡ step_as ds (leads s (target_of_key width key cases))
        → run.lead (cond b (case_next ds c.target) (run.row_for (flat_map (case_rows ds width) cases) key)) s ≡ step_as ds (leads s (cond b (Some c.target) (target_of_key width key cases)))
    by_case true e = target_leads ds s c.target
    by_case false e = e

select_by : (ds : List Decl) (s : State) (width : ℕ) (cases : List Case) (key : Option ℕ) → run.select_by (flat_map (case_rows ds width) cases) s key ≡ step_as ds (selects width cases s key)
select_by ds s width cases None = refl
select_by ds s width cases (Some key) = cases_lead ds s width key cases

-- how a state ends

ends_on : (ds : List Decl) (end : Return) (l : Option Latest) (s : State) → run.end_by (end_row ds (option_map latest_instance l) end) (run.goes_on (element_in l) s) ≡ step_as ds (returns ds end (goes_on l s))
ends_on ds (end_of.State name) l s = lead_by (state_number ds name) s
ends_on ds (end_of.ParseError name) l s = refl
ends_on ds (end_of.Select values cases) l s =
    ap (λ w. run.select_by (flat_map (case_rows ds w) cases) s (run.ready_key (element_in l) s (map (select_part ds (option_map latest_instance l)) values))) (width_is ds l values)
    ∙ (ap (run.select_by (flat_map (case_rows ds (key_width ds l values)) cases) s) (key_from ds l s values (Some 0))
    ∙ select_by ds s (key_width ds l values) cases (key_of ds l s values))

pub ends_same : (ds : List Decl) (end : Return) (p : Progress) (last : Option Inst) → EndsWith p last → run.end_by (end_row ds last end) (going p) ≡ step_as ds (returns ds end p)
ends_same ds end (stops parsed s) last e = refl
ends_same ds end (goes_on l s) last e =
    sym (ap (λ i. run.end_by (end_row ds i end) (run.goes_on (element_in l) s)) e) ∙ ends_on ds end l s
