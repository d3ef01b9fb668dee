-- Which tests of uses are left where lower rules aren't broken, and what is found in all declarations.
use Rattle.std.proofs.Common.{◌≡◌, ℕ, zero, suc, ◌+◌, ◌<◌, min, Bool, true, false, ◌||◌, Ok, Err, Result, Option, Some, None, MatchOption, List, [], ◌∷◌, ◌++◌, length, get_or, drop, map, flat_map, inl, inr, IsTrue, refl, sym, ap, ◌∙◌, subst, add-one, drop-cons, arith}
use Rattle.std.specs.Prelude.{IfOk}
use Rattle.std.specs.List.{list_any}
use Rattle.std.proofs.lemmas.List.{length-map}
use Rattle.std.proofs.lemmas.List.Folds.{list_any-append}
use Rattle.digraph.specs.Expansions.{HasCycle}
use Rattle.p416_syntax.specs.declared.program.Decl16.{Decl16}
use Rattle.p416_syntax.specs.declared.program.Syntax16.{Syntax16}
use Rattle.p416_syntax.specs.declared.rule.ProgramRule.{ProgramRule}
use Rattle.p416_syntax.specs.declared.rule.ProgramRule.TheVariants.{T1, T2, T3, T4, T5, T6, T7, T8, T9, T10, T11, T12}
use Rattle.p416_syntax.specs.Names.{Name}
use Rattle.p416_syntax.specs.Uses.{Use}
use Rattle.p416_syntax.specs.Unknown.{is_misnamed, declares_twice, declared_name, struct_graph}
use Rattle.p416_syntax.specs.Declarations.{top_scope, declaration_uses}
use Rattle.p416_syntax.specs.Main.{positions_from}
use Rattle.p416_syntax.specs.Sizes.{leaves_size}
use Rattle.p416_syntax.specs.Types.{is_mistyped}
use Rattle.p416_syntax.specs.Literals.{overflows}
use Rattle.p416_syntax.specs.Writes.{writes_constant}
use Rattle.p416_syntax.specs.Arguments.{is_miscounted}
use Rattle.p416_syntax.specs.Applications.{applies_wrongly}
use Rattle.p416_syntax.specs.Breaks.{is_no_block, IsBroken, BreaksNone, uses_in, program_uses, program_rules, rule_fault}
use Rattle.p416_counter_check.specs.Counting.{is_counted_use}
use Rattle.p416_expression_uses.specs.First.{UseRule, use_rule, first_by, first_in, use_rules, lower, is_bad_elsewhere}
use Rattle.p416_expression_uses.specs.Found.{Found, CountedIn, nothing_found, after_all, counted_of}
use Rattle.p416_expression_uses.proofs.Finding.{rule_found, counted_found, after_both}
use Rattle.p416_types.specs.declared.fault.Check16.{Check16}
use Rattle.p416_types.specs.declared.fault.Check16.TheVariants.{Refused}
use Rattle.p416_types.specs.internal.Seen.{uses_at_top, uses_of_all, counts_wrongly, IsFirstOf, is_misnamed_at_top, AreNamed}
use Rattle.p416_types.specs.internal.Steps.{Keeps, rules_from_t1, rules_from_t4, rules_from_t7, rules_from_t10, uses_from_t4, uses_from_t7, uses_from_t9, uses_from_t10}
use Rattle.p416_types.proofs.Uses.{left_after}
use Rattle.p416_types.proofs.Exactly.{t1, t2, t3, t4, t5, t6, kept_by, t8_kept, t9_kept}

-- the first rule that uses break, of all that are tests of uses

pub first_of_all : (s : Syntax16) (f : Found) → f ≡ after_all nothing_found (program_uses s) → IsFirstOf use_rules s f
unfolding first_in
first_of_all s f is = ap (λ (x : Found). x.rule) is ∙ rule_found nothing_found (program_uses s)

module _ (s : Syntax16) (f : Found) where
  pub left_of_t4 : AreNamed s → IsFirstOf use_rules s f → BreaksNone s rules_from_t1 → IsFirstOf uses_from_t4 s f
  left_of_t4 named left none =
      left_after (use_rule T3 is_mistyped) uses_from_t4 s f
      (left_after (use_rule T2 leaves_size) (use_rule T3 is_mistyped ∷ uses_from_t4) s f
      (left_after (use_rule T1 is_misnamed) (use_rule T2 leaves_size ∷ use_rule T3 is_mistyped ∷ uses_from_t4) s f left (kept_by s (use_rule T1 is_misnamed) (t1 s named) none.0))
      (kept_by s (use_rule T2 leaves_size) (t2 s) none.1.0))
      (kept_by s (use_rule T3 is_mistyped) (t3 s) none.1.1.0)

  pub left_of_t7 : IsFirstOf uses_from_t4 s f → BreaksNone s rules_from_t4 → IsFirstOf uses_from_t7 s f
  left_of_t7 left none =
      left_after (use_rule T6 is_miscounted) uses_from_t7 s f
      (left_after (use_rule T5 writes_constant) (use_rule T6 is_miscounted ∷ uses_from_t7) s f
      (left_after (use_rule T4 overflows) (use_rule T5 writes_constant ∷ use_rule T6 is_miscounted ∷ uses_from_t7) s f left (kept_by s (use_rule T4 overflows) (t4 s) none.0))
      (kept_by s (use_rule T5 writes_constant) (t5 s) none.1.0))
      (kept_by s (use_rule T6 is_miscounted) (t6 s) none.1.1.0)

  pub left_of_t9 : IsFirstOf uses_from_t7 s f → (IsBroken s T8 → ⊥) → IsFirstOf uses_from_t9 s f
  left_of_t9 left kept = left_after (use_rule T8 applies_wrongly) uses_from_t9 s f left (t8_kept s kept)

  pub left_of_t10 : IsFirstOf uses_from_t7 s f → BreaksNone s rules_from_t7 → IsFirstOf uses_from_t10 s f
  left_of_t10 left none = left_after (use_rule T9 is_bad_elsewhere) uses_from_t10 s f (left_of_t9 left none.1.0) (t9_kept s none.1.1.0)

-- names at the top and in `main`

pub misnamed_first : (s : Syntax16) (ds : List Decl16) (twice : Bool) → ds ≡ s.decls → twice ≡ declares_twice ds → twice ≡ true → true ≡ is_misnamed_at_top s
misnamed_first s ds twice same is e = ap (λ (b : Bool). b || list_any (is_no_block s) s.main) (sym e ∙ (is ∙ ap declares_twice same))

pub misnamed_second : (s : Syntax16) (ds : List Decl16) (main : List Name) (twice stray : Bool) → ds ≡ s.decls → main ≡ s.main → twice ≡ declares_twice ds → twice ≡ false → stray ≡ list_any (is_no_block s) main → stray ≡ is_misnamed_at_top s
misnamed_second s ds main twice stray same same_main is e here =
    here ∙ (ap (list_any (is_no_block s)) same_main ∙ ap (λ (b : Bool). b || list_any (is_no_block s) s.main) (sym e ∙ (is ∙ ap declares_twice same)))

-- a rule of T1 that is broken at the top

pub t1_misnamed : (s : Syntax16) (misnamed : Bool) (fault : Check16) → misnamed ≡ is_misnamed_at_top s → misnamed ≡ true → fault ≡ Refused (rule_fault T1) → Keeps s program_rules (Err fault)
unfolding IsBroken
t1_misnamed s misnamed fault is e told = subst (λ (x : Check16). Keeps s program_rules (Err x)) (sym told) (T1, inl (inr (inl (sym is ∙ e)), refl), refl)

pub t1_cycle : (s : Syntax16) (ds : List Decl16) (fault : Check16) → s.decls ≡ ds → HasCycle (struct_graph ds) → fault ≡ Refused (rule_fault T1) → Keeps s program_rules (Err fault)
unfolding IsBroken
t1_cycle s ds fault of_decls cycle told =
    subst (λ (x : Check16). Keeps s program_rules (Err x)) (sym told) (T1, inl (inr (inr (subst (λ (xs : List Decl16). HasCycle (struct_graph xs)) (sym of_decls) cycle)), refl), refl)

pub named_by : (s : Syntax16) (ds : List Decl16) → is_misnamed_at_top s ≡ false → s.decls ≡ ds → (HasCycle (struct_graph ds) → ⊥) → AreNamed s
named_by s ds named of_decls acyclic = record { named = named; acyclic = λ cycle. acyclic (subst (λ (xs : List Decl16). HasCycle (struct_graph xs)) of_decls cycle) }

-- one more declaration

counted_by_drop : (xs ys : List CountedIn) → drop (length xs) (xs ++ ys) ≡ ys
counted_by_drop [] ys = refl
counted_by_drop (x ∷ xs) ys = counted_by_drop xs ys

pub counted_here : (f : Found) (us : List Use) (new : Found) → new ≡ after_all f us → drop (length f.counted) new.counted ≡ flat_map counted_of us
counted_here f us new is =
    ap (λ (x : Found). drop (length f.counted) x.counted) is
    ∙ (ap (drop (length f.counted)) (counted_found f us) ∙ counted_by_drop f.counted (flat_map counted_of us))

pub count_is : {X : Type 0} (f : X → CountedIn) (xs : List X) (all : List CountedIn) → map f xs ≡ all → length xs ≡ length all
count_is f xs all is = sym (length-map xs f) ∙ ap length is

map_drop : {X : Type 0} (f : X → CountedIn) (xs : List X) (n : ℕ) → map f (drop n xs) ≡ drop n (map f xs)
map_drop f xs zero = refl
map_drop f [] (suc n) = refl
map_drop f (x ∷ xs) (suc n) = map_drop f xs n

drop_none : {X : Type 0} (xs : List X) (m : ℕ) → xs ≡ [] → drop m xs ≡ []
drop_none xs zero e = e
drop_none xs (suc m) e = rw e refl

drop_min : {X : Type 0} (xs : List X) (n : ℕ) → drop (min n (length xs)) xs ≡ drop n xs
drop_min [] n = drop_none [] (min n 0) refl ∙ sym (drop_none [] n refl)
drop_min {X} (x ∷ xs) zero =
    let none : min zero (suc (length xs)) ≡ zero = omega arith in
    ap (λ (m : ℕ). drop m (x ∷ xs)) none
drop_min {X} (x ∷ xs) (suc n) =
    let less : min (suc n) (suc (length xs)) ≡ suc (min n (length xs)) = omega arith in
    ap (λ (m : ℕ). drop m (x ∷ xs)) less ∙ drop_min xs n

pub counted_drop : {X : Type 0} (f : X → CountedIn) (xs : List X) (n : ℕ) (all : List CountedIn) → map f xs ≡ all → map f (drop (min n (length xs)) xs) ≡ drop n all
counted_drop {X} f xs n all is = ap (λ (ys : List X). map f ys) (drop_min xs n) ∙ (map_drop f xs n ∙ ap (drop n) is)

-- whether a declaration counts outside its tables
pub outside_one : (ds : List Decl16) (main : List Name) (d : Decl16) (positions : List ℕ) (f new : Found) (counted : List CountedIn) (before : ℕ) (outside : Bool) → positions ≡ positions_from 0 main (declared_name d) → before ≡ length f.counted
    → new ≡ after_all f (declaration_uses (top_scope ds positions) d) → counted ≡ drop before new.counted
    → ((xs : List Decl16) (ps : List ℕ) → counted ≡ flat_map counted_of (declaration_uses (top_scope xs ps) d) → outside ≡ list_any is_counted_use (declaration_uses (top_scope xs ps) d))
    → outside ≡ counts_wrongly (uses_at_top ds main d)
outside_one ds main d positions f new counted before outside standing count is behind told =
    told ds positions (behind ∙ (ap (λ (n : ℕ). drop n new.counted) count ∙ counted_here f (declaration_uses (top_scope ds positions) d) new is))
    ∙ ap (λ (ps : List ℕ). counts_wrongly (declaration_uses (top_scope ds ps) d)) standing

pub found_one : (ds : List Decl16) (main : List Name) (d : Decl16) (positions : List ℕ) (f new : Found) → positions ≡ positions_from 0 main (declared_name d) → new ≡ after_all f (declaration_uses (top_scope ds positions) d) → new ≡ after_all f (uses_at_top ds main d)
found_one ds main d positions f new standing is = is ∙ ap (λ (ps : List ℕ). after_all f (declaration_uses (top_scope ds ps) d)) standing

next_items : {X : Type 0} (xs : List X) (i : ℕ) (d : X) → i < length xs → drop i xs ≡ get_or xs i d ∷ drop (i + 1) xs
next_items xs i d h = rw (add-one, drop-cons xs i d h) refl

pub found_more : (ds : List Decl16) (main : List Name) (decls : List Decl16) (i : ℕ) (d : Decl16) (old new whole : Found) → i < length decls → d ≡ get_or decls i d → new ≡ after_all old (uses_at_top ds main d)
    → after_all old (uses_of_all ds main (drop i decls)) ≡ whole → after_all new (uses_of_all ds main (drop (i + 1) decls)) ≡ whole
found_more ds main decls i d old new whole lt here is same =
    ap (λ (f : Found). after_all f (uses_of_all ds main (drop (i + 1) decls))) is
    ∙ (sym (after_both old (uses_at_top ds main d) (uses_of_all ds main (drop (i + 1) decls)))
    ∙ (ap (λ (x : Decl16). after_all old (uses_of_all ds main (x ∷ drop (i + 1) decls))) here
    ∙ (sym (ap (λ (xs : List Decl16). after_all old (uses_of_all ds main xs)) (next_items decls i d lt)) ∙ same)))

or_assoc : (a b c : Bool) → ((a || b) || c) ≡ (a || (b || c))
or_assoc true b c = refl
or_assoc false b c = refl

pub outside_more : (ds : List Decl16) (main : List Name) (decls : List Decl16) (i : ℕ) (d : Decl16) (old new here whole : Bool) → i < length decls → d ≡ get_or decls i d → here ≡ counts_wrongly (uses_at_top ds main d) → new ≡ (old || here)
    → (old || counts_wrongly (uses_of_all ds main (drop i decls))) ≡ whole → (new || counts_wrongly (uses_of_all ds main (drop (i + 1) decls))) ≡ whole
outside_more ds main decls i d old new here whole lt item is put same =
    ap (λ (b : Bool). b || counts_wrongly (uses_of_all ds main (drop (i + 1) decls))) put
    ∙ (or_assoc old here (counts_wrongly (uses_of_all ds main (drop (i + 1) decls)))
    ∙ (ap (λ (b : Bool). old || (b || counts_wrongly (uses_of_all ds main (drop (i + 1) decls)))) is
    ∙ (ap (λ (b : Bool). old || b) (sym (both_counted (uses_at_top ds main d) (uses_of_all ds main (drop (i + 1) decls))))
    ∙ (ap (λ (x : Decl16). old || counts_wrongly (uses_of_all ds main (x ∷ drop (i + 1) decls))) item
    ∙ (sym (ap (λ (xs : List Decl16). old || counts_wrongly (uses_of_all ds main xs)) (next_items decls i d lt)) ∙ same)))))
  where
    both_counted : (xs ys : List Use) → counts_wrongly (xs ++ ys) ≡ (counts_wrongly xs || counts_wrongly ys)
    both_counted xs ys = list_any-append is_counted_use xs ys

-- what is seen of a program by the names at its top and in `main`
pub uses_are : (s : Syntax16) (ds : List Decl16) (main : List Name) → s.decls ≡ ds → s.main ≡ main → uses_of_all ds main s.decls ≡ program_uses s
uses_are s ds main of_decls of_main =
    ap (λ (xs : List Decl16). uses_of_all xs main s.decls) (sym of_decls) ∙ ap (λ (xs : List Name). uses_of_all s.decls xs s.decls) (sym of_main)

pub seen_found : (s : Syntax16) (ds decls : List Decl16) (main : List Name) (old new : Found) → s.decls ≡ ds → s.main ≡ main → decls ≡ s.decls → old ≡ nothing_found → new ≡ after_all old (uses_of_all ds main decls) → new ≡ after_all nothing_found (program_uses s)
seen_found s ds decls main old new of_decls of_main same begun is =
    is
    ∙ (ap (λ (f : Found). after_all f (uses_of_all ds main decls)) begun
    ∙ ap (after_all nothing_found) (ap (uses_of_all ds main) same ∙ uses_are s ds main of_decls of_main))

pub seen_outside : (s : Syntax16) (ds decls : List Decl16) (main : List Name) (outside : Bool) → s.decls ≡ ds → s.main ≡ main → decls ≡ s.decls → outside ≡ counts_wrongly (uses_of_all ds main decls) → outside ≡ counts_wrongly (program_uses s)
seen_outside s ds decls main outside of_decls of_main same is = is ∙ ap counts_wrongly (ap (uses_of_all ds main) same ∙ uses_are s ds main of_decls of_main)

-- what is told by cases on what may be there

pub none_told : {X : Type 0} (P : Type 0) (Q : X → Type 0) (o : Option X) → MatchOption o P Q → o ≡ None → P
none_told P Q o told is = subst (λ x. MatchOption x P Q) is told

pub some_told : {X : Type 0} (P : Type 0) (Q : X → Type 0) (o : Option X) (x : X) → MatchOption o P Q → o ≡ Some x → Q x
some_told P Q o x told is = subst (λ y. MatchOption y P Q) is told
