-- What each rule is broken by, as an exact answer.
use Rattle.std.proofs.Common.{◌≡◌, ◌⊎◌, inl, inr, ℕ, Bool, true, false, not, ◌||◌, Option, Some, None, List, [], ◌∷◌, ◌++◌, map, flat_map, IsTrue, refl, sym, ap, ◌∙◌, subst}
use Rattle.std.specs.List.{list_any}
use Rattle.std.proofs.lemmas.Bool.{false≢true}
use Rattle.digraph.specs.Expansions.{HasCycle}
use Rattle.p416_syntax.specs.declared.program.Decl16.{Decl16}
use Rattle.p416_syntax.specs.declared.program.Syntax16.{Syntax16}
use Rattle.p416_syntax.specs.declared.rule.ProgramRule.{ProgramRule}
use Rattle.p416_syntax.specs.declared.rule.ProgramRule.TheVariants.{T1, T2, T3, T4, T5, T6, T7, T8, T9, T10, T11, T12}
use Rattle.p416_syntax.specs.Exact.{IsExact}
use Rattle.p416_syntax.specs.Names.{Name}
use Rattle.p416_syntax.specs.Kinds.{Kind}
use Rattle.p416_syntax.specs.Uses.{Use, an_expression, a_type, a_name, names_of_scope, a_width, a_size, a_number, a_header, a_member, a_keyset, a_count, a_switch, some_parameters, some_counters, a_table_of, a_body}
use Rattle.p416_syntax.specs.Declarations.{layouts_of}
use Rattle.p416_syntax.specs.Unknown.{is_misnamed, struct_graph}
use Rattle.p416_syntax.specs.Sizes.{leaves_size}
use Rattle.p416_syntax.specs.Types.{is_mistyped}
use Rattle.p416_syntax.specs.Literals.{overflows}
use Rattle.p416_syntax.specs.Writes.{writes_constant}
use Rattle.p416_syntax.specs.Arguments.{is_miscounted}
use Rattle.p416_syntax.specs.Applications.{applies_wrongly}
use Rattle.p416_syntax.specs.Tables.{is_bad_in_table, has_shared_names}
use Rattle.p416_syntax.specs.Externs.{is_outside_block}
use Rattle.p416_syntax.specs.Main.{is_main}
use Rattle.p416_syntax.specs.Totals.{has_large_headers, has_large_variables, has_bad_cells, held_kinds}
use Rattle.p416_syntax.specs.Breaks.{has_use, scope_of, HasCallCycle, SomeDeclaration, SomeBreaks, program_uses, IsBroken, BreaksNone}
use Rattle.p416_counter_check.specs.Counting.{is_counted_use}
use Rattle.p416_action_check.specs.Cycles.{CallsItself, SomeCallsItself}
use Rattle.p416_expression_uses.specs.First.{UseRule, use_rule, first_by, use_rules, is_bad_elsewhere}
use Rattle.p416_expression_uses.specs.Found.{Found, nothing_found, after_all}
use Rattle.p416_expression_uses.proofs.Finding.{held_found}
use Rattle.p416_types.specs.internal.Seen.{counts_wrongly, is_found, IsFirstOf, is_misnamed_at_top, AreNamed}
use Rattle.p416_types.specs.internal.Steps.{uses_from_t4, uses_from_t7, uses_from_t9, uses_from_t10}
use Rattle.p416_types.proofs.Uses.{uses_have, uses_exact, not_true, found_here, left_after}

-- what is broken in a declaration alone

pub by_declarations : (P : Type 0) (b : Bool) → IsExact b P → IsExact b (P ⊎ ⊥)
by_declarations P true h = inl h
by_declarations P false h = by_case where
  by_case : P ⊎ ⊥ → ⊥
  by_case (inl p) = h p
  by_case (inr never) = never

-- the rules that are tests of uses

pub t1 : (s : Syntax16) → AreNamed s → (b : Bool) → b ≡ list_any is_misnamed (program_uses s) → IsExact b (IsBroken s T1)
unfolding IsBroken
t1 s named true e = inl (uses_exact s is_misnamed true e)
t1 s named false e = by_case where
  by_case : SomeBreaks T1 s ⊎ (IsTrue (is_misnamed_at_top s) ⊎ HasCycle (struct_graph s.decls)) → ⊥
  by_case (inl some) = uses_exact s is_misnamed false e some
  by_case (inr (inl misnamed)) = false≢true (sym named.named ∙ misnamed)
  by_case (inr (inr cycle)) = named.acyclic cycle

pub t2 : (s : Syntax16) (b : Bool) → b ≡ list_any leaves_size (program_uses s) → IsExact b (IsBroken s T2)
unfolding IsBroken
t2 s b e = by_declarations (SomeBreaks T2 s) b (uses_exact s leaves_size b e)

pub t3 : (s : Syntax16) (b : Bool) → b ≡ list_any is_mistyped (program_uses s) → IsExact b (IsBroken s T3)
unfolding IsBroken
t3 s b e = by_declarations (SomeBreaks T3 s) b (uses_exact s is_mistyped b e)

pub t4 : (s : Syntax16) (b : Bool) → b ≡ list_any overflows (program_uses s) → IsExact b (IsBroken s T4)
unfolding IsBroken
t4 s b e = by_declarations (SomeBreaks T4 s) b (uses_exact s overflows b e)

pub t5 : (s : Syntax16) (b : Bool) → b ≡ list_any writes_constant (program_uses s) → IsExact b (IsBroken s T5)
unfolding IsBroken
t5 s b e = by_declarations (SomeBreaks T5 s) b (uses_exact s writes_constant b e)

pub t6 : (s : Syntax16) (b : Bool) → b ≡ list_any is_miscounted (program_uses s) → IsExact b (IsBroken s T6)
unfolding IsBroken
t6 s b e = by_declarations (SomeBreaks T6 s) b (uses_exact s is_miscounted b e)

pub t10 : (s : Syntax16) (b : Bool) → b ≡ list_any is_outside_block (program_uses s) → IsExact b (IsBroken s T10)
unfolding IsBroken
t10 s b e = by_declarations (SomeBreaks T10 s) b (uses_exact s is_outside_block b e)

pub t10_found : (s : Syntax16) (f : Found) (b : Bool) → IsFirstOf uses_from_t10 s f → b ≡ is_found f.rule T10 → IsExact b (IsBroken s T10)
t10_found s f b left is = t10 s b (is ∙ found_here (use_rule T10 is_outside_block) [] (program_uses s) f.rule left refl)

-- a rule that was kept is kept by each use
pub kept_by : (s : Syntax16) (x : UseRule) → ((b : Bool) → b ≡ list_any x.test (program_uses s) → IsExact b (IsBroken s x.rule)) → (IsBroken s x.rule → ⊥) → list_any x.test (program_uses s) ≡ true → ⊥
kept_by s x exact kept e = kept (exact true (sym e))

-- T8

or_left : (P Q : Decl16 → Type 0) (ds : List Decl16) → SomeDeclaration P ds → SomeDeclaration (λ d. P d ⊎ Q d) ds
or_left P Q [] h = h
or_left P Q (d ∷ ds) (inl here) = inl (inl here)
or_left P Q (d ∷ ds) (inr behind) = inr (or_left P Q ds behind)

or_other : (P Q : Decl16 → Type 0) (ds : List Decl16) → SomeDeclaration Q ds → SomeDeclaration (λ d. P d ⊎ Q d) ds
or_other P Q [] h = h
or_other P Q (d ∷ ds) (inl here) = inl (inr here)
or_other P Q (d ∷ ds) (inr behind) = inr (or_other P Q ds behind)

one_way : (P Q : Decl16 → Type 0) (ds : List Decl16) → SomeDeclaration (λ d. P d ⊎ Q d) ds → SomeDeclaration P ds ⊎ SomeDeclaration Q ds
one_way P Q [] h = absurd h
one_way P Q (d ∷ ds) (inl (inl here)) = inl (inl here)
one_way P Q (d ∷ ds) (inl (inr here)) = inr (inl here)
one_way P Q (d ∷ ds) (inr behind) =
    elim (one_way P Q ds behind) [
      | inl p ↦ inl (inr p)
      | inr q ↦ inr (inr q)
    ]

abbrev Applies : Syntax16 → Decl16 → Type 0
Applies s d = IsTrue (has_use applies_wrongly (scope_of s d) d)

abbrev Cycles : Syntax16 → Decl16 → Type 0
Cycles s d = HasCallCycle (scope_of s d) d

t8_use : (s : Syntax16) → list_any applies_wrongly (program_uses s) ≡ true → IsBroken s T8
unfolding IsBroken
t8_use s e = inl (or_left (Applies s) (Cycles s) s.decls (uses_have s applies_wrongly e))

t8_cycle : (s : Syntax16) (b : Bool) → false ≡ list_any applies_wrongly (program_uses s) → IsExact b (SomeDeclaration (Cycles s) s.decls) → IsExact b (IsBroken s T8)
unfolding IsBroken
t8_cycle s true none h = inl (or_other (Applies s) (Cycles s) s.decls h)
t8_cycle s false none h = by_case where
  by_both : SomeDeclaration (Applies s) s.decls ⊎ SomeDeclaration (Cycles s) s.decls → ⊥
  by_both (inl p) = uses_exact s applies_wrongly false none p
  by_both (inr q) = h q

  by_case : SomeDeclaration (λ d. Applies s d ⊎ Cycles s d) s.decls ⊎ ⊥ → ⊥
  by_case (inl some) = by_both (one_way (Applies s) (Cycles s) s.decls some)
  by_case (inr never) = never

pub t8_found : (s : Syntax16) (f : Found) (b : Bool) → IsFirstOf uses_from_t7 s f → b ≡ is_found f.rule T8 → b ≡ true → IsBroken s T8
t8_found s f b left is e = t8_use s (sym (found_here (use_rule T8 applies_wrongly) uses_from_t9 (program_uses s) f.rule left refl) ∙ (sym is ∙ e))

pub t8_else : (s : Syntax16) (f : Found) (b : Bool) (ds : List Decl16) (main : List Name) (cycle : Bool) → s.decls ≡ ds → s.main ≡ main → IsFirstOf uses_from_t7 s f → b ≡ is_found f.rule T8 → b ≡ false
    → IsExact cycle (SomeCallsItself ds main) → IsExact cycle (IsBroken s T8)
t8_else s f b ds main cycle of_decls of_main left is e h =
    t8_cycle s cycle (sym e ∙ (is ∙ found_here (use_rule T8 applies_wrongly) uses_from_t9 (program_uses s) f.rule left refl))
    (subst (λ (xs : List Name). IsExact cycle (SomeCallsItself s.decls xs)) (sym of_main) (subst (λ (xs : List Decl16). IsExact cycle (SomeCallsItself xs main)) (sym of_decls) h))

pub t8_kept : (s : Syntax16) → (IsBroken s T8 → ⊥) → list_any applies_wrongly (program_uses s) ≡ true → ⊥
t8_kept s kept e = kept (t8_use s e)

-- T9

or_false : (b : Bool) → b ≡ (b || false)
or_false true = refl
or_false false = refl

use_split : (u : Use) → is_bad_in_table u ≡ (is_bad_elsewhere u || is_counted_use u)
use_split (an_expression s p e) = refl
use_split (a_type s p t) = refl
use_split (a_name s wanted text) = refl
use_split (names_of_scope names) = refl
use_split (a_width n) = refl
use_split (a_size n) = refl
use_split (a_number n) = refl
use_split (a_header x) = refl
use_split (a_member wanted m) = refl
use_split (a_keyset keys k) = refl
use_split (a_count wanted n) = refl
use_split (a_switch s text labels) = or_false (is_bad_in_table (a_switch s text labels))
use_split (some_parameters ps) = or_false (is_bad_in_table (some_parameters ps))
use_split (some_counters names) = or_false (is_bad_in_table (some_counters names))
use_split (a_table_of s t) = or_false (is_bad_in_table (a_table_of s t))
use_split (a_body d) = refl

regroup : (a b c d : Bool) → ((a || b) || (c || d)) ≡ ((a || c) || (b || d))
regroup true b c d = refl
regroup false true true d = refl
regroup false true false d = refl
regroup false false c d = refl

uses_split : (us : List Use) → list_any is_bad_in_table us ≡ (list_any is_bad_elsewhere us || list_any is_counted_use us)
uses_split [] = refl
uses_split (u ∷ us) =
    ap (λ (b : Bool). b || list_any is_bad_in_table us) (use_split u)
    ∙ (ap (λ (b : Bool). (is_bad_elsewhere u || is_counted_use u) || b) (uses_split us)
    ∙ regroup (is_bad_elsewhere u) (is_counted_use u) (list_any is_bad_elsewhere us) (list_any is_counted_use us))

t9_use : (s : Syntax16) → list_any is_bad_in_table (program_uses s) ≡ true → IsBroken s T9
unfolding IsBroken
t9_use s e = inl (uses_have s is_bad_in_table e)

t9_whole : (s : Syntax16) (shared : Bool) → false ≡ list_any is_bad_in_table (program_uses s) → shared ≡ has_shared_names s.decls → IsExact shared (IsBroken s T9)
unfolding IsBroken
t9_whole s true none e = inr (sym e)
t9_whole s false none e = by_case where
  by_case : SomeBreaks T9 s ⊎ IsTrue (has_shared_names s.decls) → ⊥
  by_case (inl some) = uses_exact s is_bad_in_table false none some
  by_case (inr whole) = false≢true (e ∙ whole)

or_here : (a b : Bool) → a ≡ true → (a || b) ≡ true
or_here true b e = refl
or_here false b e = absurd (false≢true e)

or_there : (a b : Bool) → b ≡ true → (a || b) ≡ true
or_there true b e = refl
or_there false b e = e

neither : (a b : Bool) → a ≡ false → b ≡ false → false ≡ (a || b)
neither true b e f = absurd (false≢true (sym e))
neither false b e f = sym f

elsewhere_is : (s : Syntax16) (f : Found) (b : Bool) → IsFirstOf uses_from_t9 s f → b ≡ is_found f.rule T9 → b ≡ list_any is_bad_elsewhere (program_uses s)
elsewhere_is s f b left is = is ∙ found_here (use_rule T9 is_bad_elsewhere) uses_from_t10 (program_uses s) f.rule left refl

pub t9_found : (s : Syntax16) (f : Found) (b : Bool) → IsFirstOf uses_from_t9 s f → b ≡ is_found f.rule T9 → b ≡ true → IsBroken s T9
t9_found s f b left is e = t9_use s (uses_split (program_uses s) ∙ or_here (list_any is_bad_elsewhere (program_uses s)) (list_any is_counted_use (program_uses s)) (sym (elsewhere_is s f b left is) ∙ e))

pub t9_outside : (s : Syntax16) (outside : Bool) → outside ≡ counts_wrongly (program_uses s) → outside ≡ true → IsBroken s T9
t9_outside s outside is e = t9_use s (uses_split (program_uses s) ∙ or_there (list_any is_bad_elsewhere (program_uses s)) (list_any is_counted_use (program_uses s)) (sym is ∙ e))

pub t9_else : (s : Syntax16) (f : Found) (b outside shared : Bool) → IsFirstOf uses_from_t9 s f → b ≡ is_found f.rule T9 → b ≡ false → outside ≡ counts_wrongly (program_uses s) → outside ≡ false → shared ≡ has_shared_names s.decls → IsExact shared (IsBroken s T9)
t9_else s f b outside shared left is e out none h =
    t9_whole s shared
    (neither (list_any is_bad_elsewhere (program_uses s)) (list_any is_counted_use (program_uses s)) (sym (elsewhere_is s f b left is) ∙ e) (sym out ∙ none) ∙ sym (uses_split (program_uses s))) h

pub t9_kept : (s : Syntax16) → (IsBroken s T9 → ⊥) → list_any is_bad_elsewhere (program_uses s) ≡ true → ⊥
t9_kept s kept e = kept (t9_use s (uses_split (program_uses s) ∙ or_here (list_any is_bad_elsewhere (program_uses s)) (list_any is_counted_use (program_uses s)) e))

-- T11

no_declaration : (ds : List Decl16) → SomeDeclaration (λ d. ⊥) ds → ⊥
no_declaration [] h = h
no_declaration (d ∷ ds) (inl never) = never
no_declaration (d ∷ ds) (inr behind) = no_declaration ds behind

pub t11 : (s : Syntax16) (right : Bool) → right ≡ is_main s → IsExact (not right) (IsBroken s T11)
unfolding IsBroken
t11 s true e = by_case where
  by_case : SomeDeclaration (λ d. ⊥) s.decls ⊎ IsTrue (not (is_main s)) → ⊥
  by_case (inl some) = no_declaration s.decls some
  by_case (inr wrong) = false≢true (ap not e ∙ wrong)
t11 s false e = inr (ap not (sym e))

-- T12

pub t12_deep : (s : Syntax16) (b : Bool) → IsExact b (SomeBreaks T12 s) → b ≡ true → IsBroken s T12
unfolding IsBroken
t12_deep s b h e = inl (subst (λ (x : Bool). IsExact x (SomeBreaks T12 s)) e h)

pub t12_else : (s : Syntax16) (b large : Bool) → IsExact b (SomeBreaks T12 s) → b ≡ false → large ≡ (has_large_headers s || has_large_variables (layouts_of s.decls) (program_uses s) || has_bad_cells s.decls) → IsExact large (IsBroken s T12)
unfolding IsBroken
t12_else s b true h e is = inr (sym is)
t12_else s b false h e is = by_case where
  by_case : SomeBreaks T12 s ⊎ IsTrue (has_large_headers s || has_large_variables (layouts_of s.decls) (program_uses s) || has_bad_cells s.decls) → ⊥
  by_case (inl some) = subst (λ (x : Bool). IsExact x (SomeBreaks T12 s)) e h some
  by_case (inr whole) = false≢true (is ∙ whole)

-- what the variables hold
pub held_is : (us : List Use) (f : Found) (kinds : List Kind) → f ≡ after_all nothing_found us → kinds ≡ f.held → flat_map held_kinds us ≡ kinds
held_is us f kinds found held = sym (held ∙ (ap (λ (x : Found). x.held) found ∙ held_found nothing_found us))

pub total_first : (a b c h : Bool) → h ≡ a → h ≡ true → true ≡ (a || b || c)
total_first true b c h is e = refl
total_first false b c h is e = absurd (false≢true (sym is ∙ e))

pub total_second : (a b c h v : Bool) → h ≡ a → h ≡ false → v ≡ b → v ≡ true → true ≡ (a || b || c)
total_second true b c h v is e here f = refl
total_second false true c h v is e here f = refl
total_second false false c h v is e here f = absurd (false≢true (sym here ∙ f))

pub total_third : (a b c h v x : Bool) → h ≡ a → h ≡ false → v ≡ b → v ≡ false → x ≡ c → x ≡ (a || b || c)
total_third true b c h v x is e here f last = absurd (false≢true (sym e ∙ is))
total_third false true c h v x is e here f last = absurd (false≢true (sym f ∙ here))
total_third false false c h v x is e here f last = last
