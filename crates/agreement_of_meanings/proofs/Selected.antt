-- Selects on one key correspond.
use Rattle.std.proofs.Common.{◌≡◌, ℕ, ◌%◌, ◌^◌, ◌<◌, nat_lt, ◌==◌, ◌&&◌, ◌||◌, Bool, true, false, cond, Option, Some, None, option_map, is_some, List, [], ◌∷◌, ◌++◌, bit_and, refl, sym, ap, ap₂, ◌∙◌, subst, arith, pow_pos}
use Rattle.std.specs.List.{list_any}
use Rattle.std.proofs.Math.Bool.{and-true}
use Rattle.std.proofs.Math.Nat.{mod-eq_of_lt, mod-lt}
use Rattle.std.proofs.lemmas.Nat.{and_mod, and_le_l}
use Rattle.std.proofs.lemmas.Bool.{ltb-true}
use Rattle.p414_syntax.specs.declared.lexeme.Literal.{Literal}
use Rattle.p414_syntax.specs.declared.parsers.Masked.{Masked}
use Rattle.p414_syntax.specs.declared.parsers.CaseValues.{CaseValues}
use Rattle.p414_syntax.specs.declared.parsers.CaseValues.TheVariants as case_values
use Rattle.p414_syntax.specs.declared.parsers.CaseTarget.{CaseTarget}
use Rattle.p414_syntax.specs.declared.parsers.CaseTarget.TheVariants as case_target
use Rattle.p414_syntax.specs.declared.parsers.Case.{Case}
use Rattle.p414_sem.specs.State.{State}
use Rattle.p414_sem.specs.Parsing.{matches_value, matches_case, target_of_key, leads as leads14, selects}
use Rattle.p416_syntax.specs.declared.parsers.Target.{Target}
use Rattle.p416_syntax.specs.declared.parsers.SelectCase.{SelectCase}
use Rattle.p416_syntax.specs.Names.{Name}
use Rattle.p416_syntax.specs.Kinds.{bits}
use Rattle.v1_core.specs.declared.parser_error.ParserError.TheVariants.{NoMatch}
use Rattle.v1_core.specs.Values.{a_number}
use Rattle.v1_core.specs.Frames.{Moment, raised}
use Rattle.v1_core.specs.Parsing.{Key, Keys, matches_keyset, first_match, finished, to_found, selected}
use Rattle.agreement_of_meanings.specs.Agrees.{NewNames, GoesOn, StepAgrees, KeyAgrees}
use Rattle.agreement_of_meanings.specs.Lowered.{simple_of, case_to, value_cases, cases_of, target16, select_cases, IsState, LeadToStates}
use Rattle.agreement_of_meanings.proofs.Extracted.{raised_stops}

-- the one key, of so many bits
abbrev pub key_with : ℕ → ℕ → Key
key_with width key = record { kind = bits width; value = a_number width key }

abbrev pub lone : ℕ → ℕ → List Key
lone width key = key_with width key ∷ []

-- a value

masked_same : (width key mask : ℕ) → key < 2 ^ width → bit_and key (mask % 2 ^ width) ≡ bit_and key mask
masked_same width key mask fits =
    let some = pow_pos width in
    let small : bit_and key mask < 2 ^ width = omega (arith, and_le_l key mask) in
    ap (λ (n : ℕ). bit_and n (mask % 2 ^ width)) (sym (mod-eq_of_lt fits)) ∙ sym (and_mod key mask width) ∙ mod-eq_of_lt small

mod_twice : (mask width : ℕ) → mask % 2 ^ width % 2 ^ width ≡ mask % 2 ^ width
mod_twice mask width = mod-eq_of_lt (mod-lt mask (pow_pos width))

value_matches : (width key : ℕ) (value : Literal) (mask : Option Literal) (t : Target) → key < 2 ^ width → nat_lt value.value (2 ^ width) ≡ true → matches_keyset (lone width key) (case_to t (simple_of width value.value mask)).keyset ≡ matches_value width key (record { value = value; mask = mask })
value_matches width key value None t fits small =
    and-true _ ∙ ap (λ (n : ℕ). key == n) (mod-eq_of_lt (ltb-true _ _ small)) ∙ ap (λ (b : Bool). b && (key == value.value)) (sym small)
value_matches width key value (Some mask) t fits small =
    let v : value.value % 2 ^ width ≡ value.value = mod-eq_of_lt (ltb-true _ _ small) in
    and-true _
    ∙ ap₂ (λ (a b : ℕ). bit_and key a == bit_and b a) (mod_twice mask.value width) v
    ∙ ap₂ (λ (a b : ℕ). a == b) (masked_same width key mask.value fits) (masked_same width value.value mask.value (ltb-true _ _ small))
    ∙ ap (λ (b : Bool). b && (bit_and key mask.value == bit_and value.value mask.value)) (sym small)

-- one that doesn't fit matches nothing
too_large : (width key : ℕ) (m : Masked) → nat_lt m.value.value (2 ^ width) ≡ false → matches_value width key m ≡ false
too_large width key m large = rw large refl

-- the first of some cases, else what else is found
abbrev pub or_else : Option Target → Option Target → Option Target
or_else None t = t
or_else (Some t) other = Some t

first_of_both : (keys : List Key) (front back : List SelectCase) → first_match keys (front ++ back) ≡ or_else (first_match keys front) (first_match keys back)
first_of_both keys [] back = refl
first_of_both keys (a ∷ front) back = by (matches_keyset keys a.keyset) (first_of_both keys front back) where
  by : (b : Bool) → first_match keys (front ++ back) ≡ or_else (first_match keys front) (first_match keys back) → cond b (Some a.target) (first_match keys (front ++ back)) ≡ or_else (cond b (Some a.target) (first_match keys front)) (first_match keys back)
  by true e = refl
  by false e = e

values_match : (width key : ℕ) (t : Target) (values : List Masked) → key < 2 ^ width → first_match (lone width key) (value_cases width t values) ≡ cond (list_any (matches_value width key) values) (Some t) None
values_match width key t [] fits = refl
values_match width key t (m ∷ values) fits = by (nat_lt m.value.value (2 ^ width)) refl (values_match width key t values fits) where
  joined : (b : Bool) → first_match (lone width key) (value_cases width t values) ≡ cond (list_any (matches_value width key) values) (Some t) None → cond b (Some t) (first_match (lone width key) (value_cases width t values)) ≡ cond (b || list_any (matches_value width key) values) (Some t) None
  joined true rest = refl
  joined false rest = rest

  by : (b : Bool) → nat_lt m.value.value (2 ^ width) ≡ b → first_match (lone width key) (value_cases width t values) ≡ cond (list_any (matches_value width key) values) (Some t) None → first_match (lone width key) (cond b (case_to t (simple_of width m.value.value m.mask) ∷ value_cases width t values) (value_cases width t values)) ≡ cond (matches_value width key m || list_any (matches_value width key) values) (Some t) None
  by true small rest =
      ap (λ (b : Bool). cond b (Some t) (first_match (lone width key) (value_cases width t values))) (value_matches width key m.value m.mask t fits small)
      ∙ joined (matches_value width key m) rest
  by false large rest = rest ∙ ap (λ (b : Bool). cond (b || list_any (matches_value width key) values) (Some t) None) (sym (too_large width key m large))

case_matches : (width key : ℕ) (t : Target) (values : CaseValues) (target : CaseTarget) → key < 2 ^ width → first_match (lone width key) (cases_of width t values) ≡ cond (matches_case width key (record { values = values; target = target })) (Some t) None
case_matches width key t case_values.Default target fits = refl
case_matches width key t (case_values.Values values) target fits = values_match width key t values fits

pub cases_match : (width key : ℕ) (next : Name → Target) (cases : List Case) → key < 2 ^ width → first_match (lone width key) (select_cases width next cases) ≡ option_map (target16 next) (target_of_key width key cases)
cases_match width key next [] fits = refl
cases_match width key next (c ∷ cases) fits =
    first_of_both (lone width key) (cases_of width (target16 next c.target) c.values) (select_cases width next cases)
    ∙ ap₂ or_else (case_matches width key (target16 next c.target) c.values c.target fits) (cases_match width key next cases fits)
    ∙ by (matches_case width key c) where
      by : (b : Bool) → or_else (cond b (Some (target16 next c.target)) None) (option_map (target16 next) (target_of_key width key cases)) ≡ option_map (target16 next) (cond b (Some c.target) (target_of_key width key cases))
      by true = refl
      by false = refl

-- where a select leads

-- what is found leads to a state
abbrev pub FindsState : Option CaseTarget → Type 0
FindsState None = Unit {0}
FindsState (Some t) = IsState t

finds_state : (width key : ℕ) (cases : List Case) → LeadToStates cases → FindsState (target_of_key width key cases)
finds_state width key [] states = tt
finds_state width key (c ∷ cases) states = by (matches_case width key c) (finds_state width key cases states.1) where
  by : (b : Bool) → FindsState (target_of_key width key cases) → FindsState (cond b (Some c.target) (target_of_key width key cases))
  by true rest = states.0
  by false rest = rest

leads_alike : (names : NewNames) (next : Name → Target) (s : State) (m : Moment) (t : Option CaseTarget) → FindsState t → GoesOn names s m → StepAgrees names next (leads14 s t) (to_found (option_map (target16 next) t) m)
leads_alike names next s m None state packet = (raised NoMatch m, refl, raised_stops NoMatch m packet.runs)
leads_alike names next s m (Some (case_target.State name)) state packet = (m, refl, packet)
leads_alike names next s m (Some (case_target.ParseError name)) state packet = absurd state

pub select_leads : (names : NewNames) (next : Name → Target) (width : ℕ) (s : State) (cases : List Case) (key : Option ℕ) (x : Keys) → LeadToStates cases → KeyAgrees names width s key x → StepAgrees names next (selects width cases s key) (selected (select_cases width next cases) x)
select_leads names next width s cases None x states agrees =
    (x.moment, ap (λ (b : Bool). cond b (finished x.moment) (to_found (first_match x.keys (select_cases width next cases)) x.moment)) (ap is_some agrees), agrees)
select_leads names next width s cases (Some key) x states agrees =
    subst (StepAgrees names next (leads14 s (target_of_key width key cases))) (sym same)
    (leads_alike names next s x.moment (target_of_key width key cases) (finds_state width key cases states) agrees.2) where
      same : selected (select_cases width next cases) x ≡ to_found (option_map (target16 next) (target_of_key width key cases)) x.moment
      same =
          ap (λ (b : Bool). cond b (finished x.moment) (to_found (first_match x.keys (select_cases width next cases)) x.moment)) (ap is_some agrees.2.runs)
          ∙ ap (λ (t : Option Target). to_found t x.moment) (ap (λ (keys : List Key). first_match keys (select_cases width next cases)) agrees.0 ∙ cases_match width key next cases agrees.1)
