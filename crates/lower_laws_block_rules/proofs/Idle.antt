-- No states of what is written follow each other in a circle without an extraction, since none do in P4_14 (T7 by C9).
use Rattle.std.proofs.Common.{◌≡◌, ◌≢◌, inl, inr, ℕ, suc, ◌+◌, ◌^◌, Bool, true, false, cond, List, [], ◌∷◌, ◌++◌, length, map, flat_map, filter_map, Option, Some, None, refl, sym, ap, ◌∙◌, subst, arith}
use Rattle.std.specs.Prelude.{nat_lt, is_some, position, option_map, option_to_list, Contains}
use Rattle.std.specs.List.{AllByRecursion, cons_option}
use Rattle.std.specs.Str.{bytes_eq}
use Rattle.std.proofs.lemmas.Slice.Eq.{bytes_eq-Decides}
use Rattle.digraph.specs.Graphs.{Among}
use Rattle.p414_syntax.specs.declared.parts.Inst.{Inst}
use Rattle.p414_syntax.specs.declared.parsers.Masked.{Masked}
use Rattle.p414_syntax.specs.declared.parsers.CaseValues.{CaseValues}
use Rattle.p414_syntax.specs.declared.parsers.CaseValues.TheVariants as case_values
use Rattle.p414_syntax.specs.declared.parsers.CaseTarget.{CaseTarget}
use Rattle.p414_syntax.specs.declared.parsers.CaseTarget.TheVariants as case_target
use Rattle.p414_syntax.specs.declared.parsers.Case.{Case}
use Rattle.p414_syntax.specs.declared.parsers.PStmt.{PStmt}
use Rattle.p414_syntax.specs.declared.parsers.PStmt.TheVariants as pstmt
use Rattle.p414_syntax.specs.declared.parsers.Return.{Return}
use Rattle.p414_syntax.specs.declared.parsers.Return.TheVariants as end_of
use Rattle.p414_syntax.specs.declared.parsers.Parser.{Parser}
use Rattle.p414_syntax.specs.declared.syntax.Decl.{Decl}
use Rattle.p414_syntax.specs.Names.{Name}
use Rattle.p414_syntax.specs.ParserGraph.{state_name, extracted_by, target_of, case_target_of, targets_of}
use Rattle.p414_sem.specs.Parsing.{state_named}
use Rattle.p416_syntax.specs.declared.parsers.Target.{Target}
use Rattle.p416_syntax.specs.declared.parsers.SelectCase.{SelectCase}
use Rattle.p416_syntax.specs.declared.parsers.State.{State}
use Rattle.p416_syntax.specs.Tree.{Stmt16, then}
use Rattle.p416_syntax.specs.Declarations.{target_name, state_name as name16}
use Rattle.p416_syntax.specs.ParserStates.{extracts, case_target as target_in, targets_of as targets16}
use Rattle.agreement_of_meanings.specs.Lowered.{case_to, simple_of, value_cases, cases_of, target16, select_cases}
use Rattle.agreement_of_meanings.proofs.Names.{same_name, other_name, differ_names}
use Rattle.lower_laws_parser.specs.Words.{ParserWords, stmt_of, body_of, next_by, next_of as next16, transition_of, state_of, width_of_key}
use Rattle.lower_laws_parser.proofs.Named.{position_past, position_here}
use Rattle.lower_laws_rules.proofs.Found.{left_false, right_false}
use Rattle.lower_laws_states.specs.Expansions.{Has}

pub contains_of : (x : ℕ) (xs : List ℕ) → Among x xs → Contains xs x
contains_of x [] never = absurd never
contains_of x (y ∷ xs) (inl same) = (0, omega arith, sym same)
contains_of x (y ∷ xs) (inr more) = let k = contains_of x xs more in (suc k.0, (let lt = k.1 in omega (arith, lt)), k.2)

module _ (ds : List Decl) (p : ParserWords) (differ : (a b : Name) → a ≢ b → p.state a ≢ p.state b) where
  -- a body without an extraction

  pub body_idle : (last : Option Inst) (x : Stmt16) (qs : List PStmt) → extracts (body_of ds p last x qs) ≡ false → (extracts x ≡ false) × (flat_map (extracted_by ds) qs ≡ [])
  body_idle last x [] idle = (idle, refl)
  body_idle last x (pstmt.Extract i ∷ qs) idle = absurd (cc (right_false (extracts x) true (body_idle (Some i) ((then) x (stmt_of ds p last (pstmt.Extract i))) qs idle).0))
  body_idle last x (pstmt.SetMetadata r v ∷ qs) idle =
      let rest = body_idle last ((then) x (stmt_of ds p last (pstmt.SetMetadata r v))) qs idle in (left_false (extracts x) false rest.0, rest.1)

  -- each state that a state leads to bears the new name of one to which the state of P4_14 leads

  abbrev pub Leads : List Name → List Name → Type 0
  Leads to texts = AllByRecursion (λ text. (called : Name) × (text ≡ p.state called) × Has to called) texts

  leads_more : (to : List Name) (x : Name) (texts : List Name) → Leads to texts → Leads (x ∷ to) texts
  leads_more to x [] all = tt
  leads_more to x (text ∷ texts) all = ((all.0.0, all.0.1, inr all.0.2), leads_more to x texts all.1)

  leads_past : (to : List Name) (o : Option Name) (texts : List Name) → Leads to texts → Leads (cons_option o to) texts
  leads_past to None texts all = all
  leads_past to (Some x) texts all = leads_more to x texts all

  leads_both : (to xs ys : List Name) → Leads to xs → Leads to ys → Leads to (xs ++ ys)
  leads_both to [] ys a b = b
  leads_both to (x ∷ xs) ys a b = (a.0, leads_both to xs ys a.1 b)

  leads_cons : (to : List Name) (o : Option Name) (texts : List Name) → Leads to (option_to_list o) → Leads to texts → Leads to (cons_option o texts)
  leads_cons to None texts a b = b
  leads_cons to (Some x) texts a b = (a.0, b)

  values_lead : (to : List Name) (width : ℕ) (t : Target) (values : List Masked) → Leads to (option_to_list (target_name t)) → Leads to (filter_map target_in (value_cases width t values))
  values_lead to width t [] a = tt
  values_lead to width t (m ∷ values) a = by (nat_lt m.value.value (2 ^ width)) (values_lead to width t values a) where
    by : (b : Bool) → Leads to (filter_map target_in (value_cases width t values)) → Leads to (filter_map target_in (cond b (case_to t (simple_of width m.value.value m.mask) ∷ value_cases width t values) (value_cases width t values)))
    by true rest = leads_cons to (target_name t) _ a rest
    by false rest = rest

  case_leads : (to : List Name) (width : ℕ) (t : Target) (v : CaseValues) → Leads to (option_to_list (target_name t)) → Leads to (filter_map target_in (cases_of width t v))
  case_leads to width t case_values.Default a = leads_cons to (target_name t) [] a tt
  case_leads to width t (case_values.Values values) a = values_lead to width t values a

  pub next_leads : (to : List Name) (called : Name) → Leads (called ∷ to) (option_to_list (target_name (next16 ds p called)))
  next_leads to called = by (is_some (state_named ds called)) where
    by : (b : Bool) → Leads (called ∷ to) (option_to_list (target_name (next_by ds p b called)))
    by true = ((called, refl, inl refl), tt)
    by false = tt

  to_leads : (to : List Name) (t : CaseTarget) → Leads (cons_option (target_of t) to) (option_to_list (target_name (target16 (next16 ds p) t)))
  to_leads to (case_target.State called) = next_leads to called
  to_leads to (case_target.ParseError called) = tt

  split : (xs ys : List SelectCase) → filter_map target_in (xs ++ ys) ≡ filter_map target_in xs ++ filter_map target_in ys
  split [] ys = refl
  split (x ∷ xs) ys = by (target_in x) (split xs ys) where
    by : (o : Option Name) → filter_map target_in (xs ++ ys) ≡ filter_map target_in xs ++ filter_map target_in ys → cons_option o (filter_map target_in (xs ++ ys)) ≡ cons_option o (filter_map target_in xs) ++ filter_map target_in ys
    by None e = e
    by (Some t) e = ap (λ l. t ∷ l) e

  cases_lead : (width : ℕ) (cases : List Case) → Leads (filter_map case_target_of cases) (filter_map target_in (select_cases width (next16 ds p) cases))
  cases_lead width [] = tt
  cases_lead width (x ∷ cases) =
      let to = filter_map case_target_of cases in
      subst (Leads (cons_option (target_of x.target) to)) (sym (split (cases_of width (target16 (next16 ds p) x.target) x.values) (select_cases width (next16 ds p) cases)))
      (leads_both _ _ _ (case_leads _ width (target16 (next16 ds p) x.target) x.values (to_leads to x.target)) (leads_past to (target_of x.target) _ (cases_lead width cases)))

  pub end_leads : (last : Option Inst) (e : Return) → Leads (targets_of e) (targets16 (transition_of ds p last e))
  end_leads last (end_of.Select vs cases) = cases_lead (width_of_key ds p last vs) cases
  end_leads last (end_of.State called) = next_leads [] called
  end_leads last (end_of.ParseError called) = tt

  -- numbers of states, behind those that stand in front

  shifted : (k : ℕ) (o : Option ℕ) → option_map suc (option_map (λ n. k + n) o) ≡ option_map (λ n. suc k + n) o
  shifted k None = refl
  shifted k (Some n) = ap (λ (m : ℕ). Some m) (omega arith)

  unshifted : (o : Option ℕ) → o ≡ option_map (λ n. 0 + n) o
  unshifted None = refl
  unshifted (Some n) = ap (λ (m : ℕ). Some m) (omega arith)

  own_number : (called : Name) (ys : List Parser) → position (bytes_eq (p.state called)) (map name16 (map (state_of ds p) ys)) ≡ position (bytes_eq called) (map state_name ys)
  own_number called [] = refl
  own_number called (y ∷ ys) = by (bytes_eq called y.name) refl (own_number called ys) where
    rest : List Name
    rest = map name16 (map (state_of ds p) ys)

    by : (b : Bool) → bytes_eq called y.name ≡ b → position (bytes_eq (p.state called)) rest ≡ position (bytes_eq called) (map state_name ys) → position (bytes_eq (p.state called)) (p.state y.name ∷ rest) ≡ position (bytes_eq called) (y.name ∷ map state_name ys)
    by true same more =
        position_here (bytes_eq (p.state called)) (p.state y.name) rest (ap (λ z. bytes_eq (p.state called) (p.state z)) (sym ((bytes_eq-Decides called y.name).0 same)) ∙ same_name (p.state called))
        ∙ sym (position_here (bytes_eq called) y.name (map state_name ys) same)
    by false other more =
        position_past (bytes_eq (p.state called)) (p.state y.name) rest (other_name (p.state called) (p.state y.name) (differ called y.name (differ_names called y.name other)))
        ∙ ap (option_map suc) more ∙ sym (position_past (bytes_eq called) y.name (map state_name ys) other)

  -- none of these bears the new name of a state
  abbrev pub AreOther : List State → Type 0
  AreOther front = AllByRecursion (λ x. (called : Name) → p.state called ≢ x.name) front

  pub number_behind : (front : List State) (ys : List Parser) → AreOther front → (called : Name) → position (bytes_eq (p.state called)) (map name16 (front ++ map (state_of ds p) ys)) ≡ option_map (λ n. length front + n) (position (bytes_eq called) (map state_name ys))
  number_behind [] ys other called = own_number called ys ∙ unshifted (position (bytes_eq called) (map state_name ys))
  number_behind (x ∷ front) ys other called =
      position_past (bytes_eq (p.state called)) x.name (map name16 (front ++ map (state_of ds p) ys)) (other_name (p.state called) x.name (other.0 called))
      ∙ ap (option_map suc) (number_behind front ys other.1 called) ∙ shifted (length front) (position (bytes_eq called) (map state_name ys))
