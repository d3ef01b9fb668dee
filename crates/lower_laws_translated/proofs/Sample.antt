-- A program that meets all that the last law asks, so that it speaks of some: a parser that extracts nothing, and an ingress that does
-- nothing.
use Rattle.std.proofs.Common.{◌≡◌, ◌⊎◌, inl, inr, ℕ, zero, suc, ◌+◌, ◌<◌, Bool, true, false, ◌||◌, Some, List, [], ◌∷◌, ◌++◌, refl, sym, ap, ap₂, ◌∙◌, subst, arith}
use Rattle.std.specs.Prelude.{IsTrue, codes, flat_map, slice_get, Contains}
use Rattle.std.specs.List.{list_any}
use Rattle.std.proofs.lemmas.List.Concat.{flat_map-cons}
use Rattle.p414_syntax.specs.declared.calculations.Item.{Item}
use Rattle.p414_syntax.specs.declared.parsers.Return.TheVariants as end_of
use Rattle.p414_syntax.specs.declared.syntax.Decl.{Decl}
use Rattle.p414_syntax.specs.declared.syntax.Decl.TheVariants as decl
use Rattle.p414_syntax.specs.declared.syntax.Rule14.{Rule14}
use Rattle.p414_syntax.specs.declared.syntax.Syntax14.{Syntax14}
use Rattle.p414_syntax.specs.Actions.{Count, HasBadAction}
use Rattle.p414_syntax.specs.Arguments.{Invocation}
use Rattle.p414_syntax.specs.ActionExpansion.{actions_called_by}
use Rattle.p414_syntax.specs.Breaks.{IsBroken, BreaksNone, program_rules}
use Rattle.p414_syntax.specs.CalculatedFields.{has_calculated_condition}
use Rattle.p414_syntax.specs.Calls.{has_wrong_call, HasWrongCall}
use Rattle.p414_syntax.specs.Cells.{has_bad_cells}
use Rattle.p414_syntax.specs.ControlExpansion.{StatementExpands, NoStatements, controls, controls_called_by, ingress, egress}
use Rattle.p414_syntax.specs.Controls.{statement_count, HasBadControl}
use Rattle.p414_syntax.specs.Expansion.{held_by}
use Rattle.p414_syntax.specs.Expressions.{has_mistyped_expression, has_minus_sign}
use Rattle.p414_syntax.specs.Lists.{has_flat_fault, is_bad_input, HasBadList}
use Rattle.p414_syntax.specs.Nesting.{nesting, has_deep_expression, HasDeepNesting}
use Rattle.p414_syntax.specs.Parameters.{has_misused_parameter}
use Rattle.p414_syntax.specs.ParserGraph.{extracts_of, next_of, walk_extracts, HasIdleCycle, IsExtracted, IsHeaderOrder}
use Rattle.p414_syntax.specs.Payloads.{is_payload, HasBadPayload}
use Rattle.p414_syntax.specs.Pipelines.{applied_by, IsTableShared, HasMisplacedRequest}
use Rattle.p414_syntax.specs.Preserved.{is_no_metadata_item, preserves_too_many, HasBadPreservedList, is_initialized, PreservesInitialized}
use Rattle.p414_syntax.specs.Selects.{has_bad_select}
use Rattle.p414_syntax.specs.Stacks.{has_bad_stack}
use Rattle.p414_syntax.specs.Tables.{has_bad_key, has_two_lpm_keys, has_bad_default}
use Rattle.p414_syntax.specs.Targets.{has_bad_target}
use Rattle.p414_syntax.specs.Totals.{has_too_much}
use Rattle.p414_syntax.specs.Tree.{Stmt, no_statements}
use Rattle.p414_syntax.specs.Twice.{declares_twice}
use Rattle.p414_syntax.specs.Unknown.{has_unknown_name}
use Rattle.p414_syntax.specs.Unsupported.{has_unsupported}
use Rattle.p414_syntax.specs.Views.{ControlTree}
use Rattle.p414_syntax.specs.Walks.{IsCycle}
use Rattle.p414_syntax.specs.Widths.{has_bad_width, has_bad_layout}
use Rattle.p414_sem.specs.Expanded.{Expanded, IsExpanded}
use Rattle.lower_laws_program.specs.Program.{syntax_of}
use Rattle.lower_laws_translated.specs.Laws.{IsTranslation}
use Rattle.lower_laws_translated.specs.Translated.{translated}
use Rattle.lower_laws_translated.proofs.Whole.{translations_hold}

abbrev pub sample : Syntax14
sample = record {
  decls =
      decl.Parser (record { name = codes "start"; statements = []; end = end_of.State (codes "ingress") })
      ∷ decl.Control (record { name = codes "ingress"; body = no_statements }) ∷ [];
}

-- what it comes to
abbrev pub expanded : Expanded
expanded = record { actions = []; lists = []; ingress = no_statements; egress = no_statements; order = [] }

abbrev ds : List Decl
ds = sample.decls

no : (b : Bool) → b ≡ false → IsTrue b → ⊥
no true e f = cc e
no false e f = cc f

-- graphs without edges

nothing_in : {X : Type 0} (xs : List X) (x : X) → xs ≡ [] → Contains xs x → ⊥
nothing_in {X} xs x none has = by (subst (λ (l : List X). Contains l x) none has) where
  by : Contains [] x → ⊥
  by is = omega (arith, is.1)

no_cycle : (next : ℕ → List ℕ) → ((a : ℕ) → next a ≡ []) → (a : ℕ) (between : List ℕ) → IsCycle next a between → ⊥
no_cycle next none a [] cycle = nothing_in (next a) a (none a) cycle.0
no_cycle next none a (b ∷ between) cycle = nothing_in (next a) b (none a) cycle.0

all_empty : (f : ℕ → List ℕ) → ((n : ℕ) → f n ≡ []) → (walk : List ℕ) → flat_map f walk ≡ []
all_empty f none [] = refl
all_empty f none (n ∷ walk) = flat_map-cons f n walk ∙ ap₂ (λ (a b : List ℕ). a ++ b) (none n) (all_empty f none walk)

-- states

leads_nowhere : (s : ℕ) → next_of ds s ≡ []
leads_nowhere zero = refl
leads_nowhere (suc s) = refl

extracts_nothing : (s : ℕ) → extracts_of ds s ≡ []
extracts_nothing zero = refl
extracts_nothing (suc s) = refl

idle : HasIdleCycle ds → ⊥
idle h = no_cycle (next_of ds) leads_nowhere h.state h.between h.cycle

not_extracted : (x : ℕ) → IsExtracted ds x → ⊥
not_extracted x is = nothing_in (walk_extracts ds is.walk) x (all_empty (extracts_of ds) extracts_nothing is.walk) is.extracted

no_pair : (before between behind : List ℕ) (x y : ℕ) → [] ≡ before ++ y ∷ between ++ x ∷ behind → ⊥
no_pair [] between behind x y e = cc e
no_pair (b ∷ before) between behind x y e = cc e

order_is : IsHeaderOrder ds []
order_is = record {
  instances = record {
    each = λ x is. absurd (not_extracted x is);
    extracted = λ x is. absurd (nothing_in [] x refl is);
    once = λ before between behind x e. no_pair before between behind x x e;
  };
  pairs = λ before between behind x y e is. no_pair before between behind x y e;
}

-- controls

nothing_stays : (a x : Stmt) → StatementExpands ds a x → a ≡ no_statements → x ≡ no_statements
nothing_stays _ _ NoStatements e = refl
nothing_stays _ _ _ e = absurd (cc e)

calls_none : (n : ℕ) → controls_called_by ds n ≡ []
calls_none zero = refl
calls_none (suc n) = refl

bad_control : HasBadControl ds → ⊥
bad_control (inl (n, between, cycle)) = no_cycle (controls_called_by ds) calls_none n between cycle
bad_control (inr long) =
    let a : statement_count long.ingress_body ≡ 0 = ap statement_count (nothing_stays no_statements long.ingress_body long.ingress_expands refl) in
    let b : statement_count long.egress_body ≡ 0 = ap statement_count long.egress_expands in
    omega (arith, long.long, a, b)

too_deep : (n : ℕ) (body : Stmt) (c : ControlTree) → slice_get (controls ds) n ≡ Some c → StatementExpands ds c.body body → 64 < 1 + nesting body → ⊥
too_deep zero body c e p deep =
    let same : record { name = ingress; body = no_statements } ≡ c = cc e in
    let flat : nesting body ≡ 0 = ap nesting (nothing_stays c.body body p (ap (λ (t : ControlTree). t.body) (sym same))) in
    omega (arith, flat, deep)
too_deep (suc n) body c e p deep = cc e

deep_nesting : HasDeepNesting ds → ⊥
deep_nesting (inl e) = no (has_deep_expression ds) refl e
deep_nesting (inr h) = too_deep h.control h.body h.expands.control h.expands.numbered h.expands.expands h.deep

-- tables, lists and actions, of which there are none

applies_none : (n : ℕ) → applied_by ds n ≡ []
applies_none zero = refl
applies_none (suc n) = refl

shared : IsTableShared ds → ⊥
shared (table, a, b) = nothing_in (flat_map (applied_by ds) a.walk) table (all_empty (applied_by ds) applies_none a.walk) a.applied

bad_list : HasBadList ds → ⊥
bad_list (inl e) = no (has_flat_fault ds) refl e
bad_list (inr (inl (l, between, cycle))) = no_cycle (held_by ds) (λ l. refl) l between cycle
bad_list (inr (inr (inl long))) = let e = long.numbered in cc e
bad_list (inr (inr (inr (items, joined, bad)))) = no (is_bad_input []) refl (subst (λ (l : List Item). IsTrue (is_bad_input l)) joined bad)

bad_action : HasBadAction ds → ⊥
bad_action (inl (a, between, cycle)) = no_cycle (actions_called_by ds) (λ a. refl) a between cycle
bad_action (inr (inl long)) = let e = long.expands.numbered in cc e
bad_action (inr (inr long)) =
    let none : Count ds [] long.total = subst (λ (l : List Invocation). Count ds l long.total) long.joined long.counts in
    omega (arith, none, long.long)

wrong_call : HasWrongCall ds → ⊥
wrong_call (inl e) = no (has_wrong_call ds || has_mistyped_expression ds) refl e
wrong_call (inr (fine, wrong)) = let e = wrong.expands.numbered in cc e

bad_preserved : HasBadPreservedList ds → ⊥
bad_preserved (inl e) = no (preserves_too_many ds) refl e
bad_preserved (inr (items, joined, bad)) = no (list_any (is_no_metadata_item ds) []) refl (subst (λ (l : List Item). IsTrue (list_any (is_no_metadata_item ds) l)) joined bad)

preserves_initialized : PreservesInitialized ds → ⊥
preserves_initialized (items, joined, bad) = no (list_any (is_initialized ds) []) refl (subst (λ (l : List Item). IsTrue (list_any (is_initialized ds) l)) joined bad)

bad_payload : HasBadPayload ds → ⊥
bad_payload (inl h) = let e = h.numbered in cc e
bad_payload (inr (inl h)) = nothing_in [] h.names refl h.input
bad_payload (inr (inr (items, joined, bad))) = no (list_any is_payload []) refl (subst (λ (l : List Item). IsTrue (list_any is_payload l)) joined bad)

misplaced : HasMisplacedRequest ds → ⊥
misplaced (inl (table, applied, lists)) = nothing_in [] lists.action refl lists.listed
misplaced (inr (table, counts, lists)) = nothing_in [] lists.action refl lists.listed

breaks_none : BreaksNone ds program_rules
unfolding IsBroken
breaks_none = (
  no (declares_twice ds) refl,
  (
    no (has_unknown_name ds) refl,
    (
      no (has_bad_width ds) refl,
      (
        no (has_bad_stack ds) refl,
        (
          no (has_bad_layout ds) refl,
          (
            no (has_bad_select ds) refl,
            (
              no (has_too_much ds) refl,
              (
                bad_list,
                (
                  idle,
                  (
                    λ h. h [] order_is,
                    (
                      no (has_bad_key ds) refl,
                      (
                        no (has_two_lpm_keys ds) refl,
                        (
                          wrong_call,
                          (
                            no (has_bad_target ds) refl,
                            (
                              bad_action,
                              (
                                bad_control,
                                (
                                  shared,
                                  (
                                    bad_preserved,
                                    (
                                      preserves_initialized,
                                      (
                                        bad_payload,
                                        (
                                          no (has_calculated_condition ds) refl,
                                          (
                                            misplaced,
                                            (no (has_bad_cells ds) refl, (no (has_bad_default ds) refl, (no (has_unsupported ds) refl, (no (has_minus_sign ds) refl, (no (has_misused_parameter ds) refl, (deep_nesting, tt)))))),
                                          ),
                                        ),
                                      ),
                                    ),
                                  ),
                                ),
                              ),
                            ),
                          ),
                        ),
                      ),
                    ),
                  ),
                ),
              ),
            ),
          ),
        ),
      ),
    ),
  ),
)

is_expanded : IsExpanded ds expanded
is_expanded = record {
  all_actions = refl;
  each_action = λ n lt. absurd (omega (arith, lt));
  all_lists = refl;
  each_list = λ n items e. absurd (cc e);
  to_ingress = NoStatements;
  to_egress = refl;
  to_order = record { is_order = order_is; least = λ other is. tt };
}

pub sample_translates : (rule : Rule14) → IsTranslation sample expanded rule (syntax_of (translated sample.decls expanded rule))
sample_translates rule = translations_hold sample expanded refl breaks_none is_expanded (omega arith) rule
