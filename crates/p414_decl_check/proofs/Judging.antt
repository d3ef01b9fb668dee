-- From the first rule that a test finds broken to what is said of a program.
use Rattle.std.proofs.Common.{◌≡◌, inl, inr, Bool, true, false, cond, MatchBool, List, [], ◌∷◌, ◌++◌, Option, Some, None, MatchOption, Result, Ok, Err, refl, sym, ap, subst, ◌∙◌}
use Rattle.p414_syntax.specs.declared.syntax.Decl.{Decl}
use Rattle.p414_syntax.specs.declared.syntax.Syntax14.{Syntax14}
use Rattle.p414_syntax.specs.declared.rule.ProgramRule.{ProgramRule}
use Rattle.p414_syntax.specs.declared.rule.ProgramRule.TheVariants.{C1, C8}
use Rattle.p414_syntax.specs.Twice.{declares_twice}
use Rattle.p414_syntax.specs.Unknown.{has_unknown_name}
use Rattle.p414_syntax.specs.Widths.{has_bad_width, has_bad_layout}
use Rattle.p414_syntax.specs.Stacks.{has_bad_stack}
use Rattle.p414_syntax.specs.Selects.{has_bad_select}
use Rattle.p414_syntax.specs.Totals.{has_too_much}
use Rattle.p414_syntax.specs.Lists.{HasBadList}
use Rattle.p414_syntax.specs.Breaks.{IsBroken, IsFirstBroken, BreaksNone, Breaks14, declaration_rules, body_rules, rule_fault}
use Rattle.p414_decl_check.specs.declared.fault.DeclFault.{DeclFault}
use Rattle.p414_decl_check.specs.declared.fault.DeclFault.TheVariants.{Memory, Refused}
use Rattle.p414_decl_check.specs.Answers.{flat_rules, Blames, IsAnswer, BlamesLeast}
use Rattle.p414_syntax.specs.Exact.{IsExact}
use Rattle.p414_decl_check.specs.internal.Judged.{is_flat_broken, first_broken, behind_c1}

-- a rule is broken exactly where its test says so
abbrev Judges : List Decl → ProgramRule → Type 0
Judges ds rule = MatchBool (is_flat_broken ds rule) (IsBroken ds rule) (IsBroken ds rule → ⊥)

abbrev AllJudge : List Decl → List ProgramRule → Type 0
AllJudge ds [] = Unit {0}
AllJudge ds (rule ∷ rules) = Judges ds rule × AllJudge ds rules

by_test : (b : Bool) → MatchBool b (b ≡ true) (b ≡ true → ⊥)
by_test true = refl
by_test false = λ e. cc e

all_judge : (ds : List Decl) → AllJudge ds behind_c1
unfolding IsBroken
all_judge ds = (
  by_test (has_unknown_name ds),
  (
    by_test (has_bad_width ds),
    (
      by_test (has_bad_stack ds),
      (by_test (has_bad_layout ds), (by_test (has_bad_select ds), (by_test (has_too_much ds), _))),
    ),
  ),
)

first_step : (ds : List Decl) (r rule : ProgramRule) (rs : List ProgramRule) (b : Bool) → MatchBool b (IsBroken ds r) (IsBroken ds r → ⊥) → (first_broken ds rs ≡ Some rule → IsFirstBroken ds rs rule) → cond b (Some r) (first_broken ds rs) ≡ Some rule → IsFirstBroken ds (r ∷ rs) rule
first_step ds r rule rs true broken rest e = inl (broken, cc e)
first_step ds r rule rs false whole rest e = inr (whole, rest e)

first_is : (ds : List Decl) (rule : ProgramRule) (rules : List ProgramRule) → AllJudge ds rules → first_broken ds rules ≡ Some rule → IsFirstBroken ds rules rule
first_is ds rule [] h e = absurd (cc e)
first_is ds rule (r ∷ rs) h e = first_step ds r rule rs (is_flat_broken ds r) h.0 (first_is ds rule rs h.1) e

none_step : (ds : List Decl) (r : ProgramRule) (rs : List ProgramRule) (b : Bool) → MatchBool b (IsBroken ds r) (IsBroken ds r → ⊥) → (first_broken ds rs ≡ None → BreaksNone ds rs) → cond b (Some r) (first_broken ds rs) ≡ None → BreaksNone ds (r ∷ rs)
none_step ds r rs true broken rest e = absurd (cc e)
none_step ds r rs false whole rest e = (whole, rest e)

none_is : (ds : List Decl) (rules : List ProgramRule) → AllJudge ds rules → first_broken ds rules ≡ None → BreaksNone ds rules
none_is ds [] h e = _
none_is ds (r ∷ rs) h e = none_step ds r rs (is_flat_broken ds r) h.0 (none_is ds rs h.1) e

not_twice : (ds : List Decl) → declares_twice ds ≡ false → IsBroken ds C1 → ⊥
unfolding IsBroken
not_twice ds once twice = cc (once, twice)

-- C1 is broken
pub blames_first : (ds : List Decl) → declares_twice ds ≡ true → Blames ds flat_rules (rule_fault C1)
unfolding IsBroken
blames_first ds twice = (C1, inl (twice, refl), refl)

-- C1 isn't broken, but a later rule
pub blames_later : (ds : List Decl) (rule : ProgramRule) → declares_twice ds ≡ false → first_broken ds behind_c1 ≡ Some rule → Blames ds flat_rules (rule_fault rule)
blames_later ds rule once e = (rule, inr (not_twice ds once, first_is ds rule behind_c1 (all_judge ds) e), refl)

-- none is broken
pub breaks_none : (ds : List Decl) → declares_twice ds ≡ false → first_broken ds behind_c1 ≡ None → BreaksNone ds flat_rules
breaks_none ds once e = (not_twice ds once, none_is ds behind_c1 (all_judge ds) e)

-- the same as answers, by what the names are and what the rules behind C1 come to

abbrev pub AreNames : List Decl → Option (List Decl) → Type 0
AreNames ds found = MatchOption found (declares_twice ds ≡ true) (λ names. (declares_twice ds ≡ false) × (names ≡ ds))

pub answer_first : (ds : List Decl) (found : Option (List Decl)) (fault : DeclFault) → AreNames ds found → found ≡ None → fault ≡ Refused (rule_fault C1) → IsAnswer ds flat_rules (Err fault)
answer_first ds found fault h none is =
    let twice : declares_twice ds ≡ true = subst (λ (o : Option (List Decl)). AreNames ds o) none h in
    subst (λ (f : DeclFault). IsAnswer ds flat_rules (Err f)) (sym is) (blames_first ds twice)

pub answer_later : (ds : List Decl) (found : Option (List Decl)) (names : List Decl) (behind : Option ProgramRule) (rule : ProgramRule) (fault : DeclFault) → AreNames ds found → found ≡ Some names → behind ≡ first_broken names behind_c1 → behind ≡ Some rule → fault ≡ Refused (rule_fault rule) → IsAnswer ds flat_rules (Err fault)
answer_later ds found names behind rule fault h some e broken is =
    let once : (declares_twice ds ≡ false) × (names ≡ ds) = subst (λ (o : Option (List Decl)). AreNames ds o) some h in
    let first : first_broken ds behind_c1 ≡ Some rule = ap (λ n. first_broken n behind_c1) (sym once.1) ∙ (sym e ∙ broken) in
    subst (λ (f : DeclFault). IsAnswer ds flat_rules (Err f)) (sym is) (blames_later ds rule once.0 first)

pub answer_names : (ds : List Decl) (found : Option (List Decl)) (names : List Decl) (behind : Option ProgramRule) → AreNames ds found → found ≡ Some names → behind ≡ first_broken names behind_c1 → behind ≡ None → IsAnswer ds flat_rules (Ok names)
answer_names ds found names behind h some e none =
    let once : (declares_twice ds ≡ false) × (names ≡ ds) = subst (λ (o : Option (List Decl)). AreNames ds o) some h in
    let first : first_broken ds behind_c1 ≡ None = ap (λ n. first_broken n behind_c1) (sym once.1) ∙ (sym e ∙ none) in
    (breaks_none ds once.0 first, once.1)

-- further rules behind these

further : (ds : List Decl) (rule : ProgramRule) (rules more : List ProgramRule) → IsFirstBroken ds rules rule → IsFirstBroken ds (rules ++ more) rule
further ds rule [] more h = absurd h
further ds rule (r ∷ rules) more (inl h) = inl h
further ds rule (r ∷ rules) more (inr h) = inr (h.0, further ds rule rules more h.1)

first_behind : (ds : List Decl) (rule : ProgramRule) (rules : List ProgramRule) → BreaksNone ds rules → IsBroken ds rule → IsFirstBroken ds (rules ++ rule ∷ []) rule
first_behind ds rule [] h broken = inl (broken, refl)
first_behind ds rule (r ∷ rules) h broken = inr (h.0, first_behind ds rule rules h.1 broken)

none_behind : (ds : List Decl) (rule : ProgramRule) (rules : List ProgramRule) → BreaksNone ds rules → (IsBroken ds rule → ⊥) → BreaksNone ds (rules ++ rule ∷ [])
none_behind ds rule [] h whole = (whole, _)
none_behind ds rule (r ∷ rules) h whole = (h.0, none_behind ds rule rules h.1 whole)

pub blames_lists : (ds : List Decl) → BreaksNone ds flat_rules → HasBadList ds → Blames ds declaration_rules (rule_fault C8)
unfolding IsBroken
blames_lists ds none bad = (C8, first_behind ds C8 flat_rules none bad, refl)

pub breaks_no_rule : (ds : List Decl) → BreaksNone ds flat_rules → (HasBadList ds → ⊥) → BreaksNone ds declaration_rules
unfolding IsBroken
breaks_no_rule ds none whole = none_behind ds C8 flat_rules none whole

-- what is blamed is the least rule of all that is broken
pub least_of_all : (s : Syntax14) (names : Result (List Decl) DeclFault) → IsAnswer s.decls declaration_rules names → BlamesLeast s names
unfolding Breaks14
least_of_all s (Ok ds) h = _
least_of_all s (Err Memory) h = _
least_of_all s (Err (Refused f)) (rule, first, is) = (rule, further s.decls rule declaration_rules body_rules first, is)

-- the same as answers, by whether C8 is broken

pub answer_lists : (ds : List Decl) (bad : Bool) (fault : DeclFault) → BreaksNone ds flat_rules → IsExact bad (HasBadList ds) → bad ≡ true → fault ≡ Refused (rule_fault C8) → IsAnswer ds declaration_rules (Err fault)
answer_lists ds bad fault none exact e is =
    subst (λ (f : DeclFault). IsAnswer ds declaration_rules (Err f)) (sym is) (blames_lists ds none (subst (λ (b : Bool). IsExact b (HasBadList ds)) e exact))

pub answer_whole : (ds : List Decl) (bad : Bool) → BreaksNone ds flat_rules → IsExact bad (HasBadList ds) → bad ≡ false → IsAnswer ds declaration_rules (Ok ds)
answer_whole ds bad none exact e = (breaks_no_rule ds none (subst (λ (b : Bool). IsExact b (HasBadList ds)) e exact), refl)
