-- The sample program breaks none of the twelve rules; changes of it break the rule with their number, and no lower one.
use Rattle.std.proofs.Common.{arith, ◌≡◌, ◌⊎◌, inl, inr, ℕ, zero, suc, ◌<◌, Bool, true, false, ◌||◌, List, [], ◌∷◌, IsTrue, refl, sym, ◌∙◌}
use Rattle.std.specs.List.{list_any}
use Rattle.std.proofs.lemmas.Bool.{false≢true}
use Rattle.std.proofs.Math.Nat.{lt_irrefl, lt_trans}
use Rattle.digraph.specs.Graphs.{Among, successors, Edge, Onward, Walk}
use Rattle.digraph.specs.Expansions.{HasCycle}
use Rattle.p416_syntax.specs.declared.program.Decl16.{Decl16}
use Rattle.p416_syntax.specs.declared.program.Syntax16.{Syntax16}
use Rattle.p416_syntax.specs.declared.rule.ProgramRule.TheVariants.{T2, T7, T8, T11}
use Rattle.p416_syntax.specs.Uses.{Use}
use Rattle.p416_syntax.specs.Unknown.{is_misnamed, struct_graph}
use Rattle.p416_syntax.specs.Sizes.{leaves_size}
use Rattle.p416_syntax.specs.Types.{is_mistyped}
use Rattle.p416_syntax.specs.Literals.{overflows}
use Rattle.p416_syntax.specs.Writes.{writes_constant}
use Rattle.p416_syntax.specs.Arguments.{is_miscounted}
use Rattle.p416_syntax.specs.Tables.{is_bad_in_table}
use Rattle.p416_syntax.specs.Externs.{is_outside_block}
use Rattle.p416_syntax.specs.Totals.{is_too_deep}
use Rattle.p416_syntax.specs.Breaks.{SomeDeclaration, SomeBreaks, IsBroken, BreaksNone, program_rules, Breaks16, scope_of, has_use}
use Rattle.p416_rules_examples.specs.Samples.{program, none, wide}

-- laws

left_false : (a b : Bool) → (a || b) ≡ false → a ≡ false
left_false true b e = e
left_false false b e = refl

right_false : (a b : Bool) → (a || b) ≡ false → b ≡ false
right_false true b e = absurd (false≢true (sym e))
right_false false b e = e

-- a test that no declaration passes says that what it tells holds of none
pub none_passes : (P : Decl16 → Type 0) (test : Decl16 → Bool) → ((d : Decl16) → P d → IsTrue (test d)) → (ds : List Decl16) → list_any test ds ≡ false → SomeDeclaration P ds → ⊥
none_passes P test is [] fails some = some
none_passes P test is (d ∷ ds) fails (inl p) = false≢true (sym (left_false (test d) (list_any test ds) fails) ∙ is d p)
none_passes P test is (d ∷ ds) fails (inr some) = none_passes P test is ds (right_false (test d) (list_any test ds) fails) some

-- a graph each of whose edges leads to a lesser number has no cycle
abbrev pub Falls : List (List ℕ) → Type 0
Falls g = (a b : ℕ) → Among b (successors g a) → b < a

walk_falls : (g : List (List ℕ)) (c a : ℕ) → Falls g → Walk g a c → c < a
walk_falls g c a falls (Edge e i) = falls e c i
walk_falls g c a falls (Onward e d i rest) = lt_trans (walk_falls g c d falls rest) (falls e d i)

pub no_cycle : (g : List (List ℕ)) → Falls g → HasCycle g → ⊥
no_cycle g falls cycle = lt_irrefl cycle.0 (walk_falls g cycle.0 cycle.0 falls cycle.1)

nothing_falls : Falls []
nothing_falls a b among = absurd among

one_falls : Falls ([] ∷ [])
one_falls zero b among = absurd among
one_falls (suc a) b among = absurd among

structs_fall : Falls (struct_graph (program none).decls)
structs_fall zero b among = absurd among
structs_fall (suc zero) b (inl e) = omega (arith, e)
structs_fall (suc zero) b (inr among) = absurd among
structs_fall (suc (suc zero)) b among = absurd among
structs_fall (suc (suc (suc zero))) b among = absurd among
structs_fall (suc (suc (suc (suc zero)))) b among = absurd among
structs_fall (suc (suc (suc (suc (suc zero))))) b among = absurd among
structs_fall (suc (suc (suc (suc (suc (suc zero)))))) b among = absurd among
structs_fall (suc (suc (suc (suc (suc (suc (suc zero))))))) b among = absurd among
structs_fall (suc (suc (suc (suc (suc (suc (suc (suc zero)))))))) b among = absurd among
structs_fall (suc (suc (suc (suc (suc (suc (suc (suc (suc a))))))))) b among = absurd among

-- what is neither
neither : {A B : Type 0} → (A → ⊥) → (B → ⊥) → A ⊎ B → ⊥
neither no_a no_b (inl a) = no_a a
neither no_a no_b (inr b) = no_b b

never : ⊥ → ⊥
never b = b

-- no declaration of the program has a use that the test finds
keeps : (s : Syntax16) (test : Use → Bool) → list_any (λ d. has_use test (scope_of s d) d) s.decls ≡ false → SomeDeclaration (λ d. IsTrue (has_use test (scope_of s d) d)) s.decls → ⊥
keeps s test fails = none_passes (λ d. IsTrue (has_use test (scope_of s d) d)) (λ d. has_use test (scope_of s d) d) (λ d passes. passes) s.decls fails

-- the program

keeps_t7 : SomeBreaks T7 (program none) → ⊥
keeps_t7 =
    neither never (neither never (neither never (neither (neither false≢true (no_cycle ([] ∷ []) one_falls))
    (neither never (neither never (neither never (neither never (neither never never))))))))

flat_or : {A : Type 0} → (A → ⊥) → (false ≡ true) ⊎ A → ⊥
flat_or no_a = neither false≢true no_a

keeps_t8 : SomeBreaks T8 (program none) → ⊥
keeps_t8 =
    neither (flat_or never) (neither (flat_or never) (neither (flat_or never) (neither (flat_or never)
    (neither (flat_or (no_cycle [] nothing_falls)) (neither (flat_or (no_cycle [] nothing_falls))
    (neither (flat_or (no_cycle [] nothing_falls)) (neither (flat_or (no_cycle [] nothing_falls))
    (neither (flat_or (no_cycle [] nothing_falls)) never))))))))

keeps_t11 : SomeBreaks T11 (program none) → ⊥
keeps_t11 =
    neither never (neither never (neither never (neither never (neither never (neither never (neither never
    (neither never (neither never never))))))))

pub breaks_none : BreaksNone (program none) program_rules
unfolding IsBroken
breaks_none = (
  neither (keeps (program none) is_misnamed refl) (neither false≢true (no_cycle (struct_graph (program none).decls) structs_fall)),
  (
    neither (keeps (program none) leaves_size refl) never,
    (
      neither (keeps (program none) is_mistyped refl) never,
      (
        neither (keeps (program none) overflows refl) never,
        (
          neither (keeps (program none) writes_constant refl) never,
          (
            neither (keeps (program none) is_miscounted refl) never,
            (
              neither keeps_t7 never,
              (
                neither keeps_t8 never,
                (
                  neither (keeps (program none) is_bad_in_table refl) false≢true,
                  (
                    neither (keeps (program none) is_outside_block refl) never,
                    (
                      neither keeps_t11 false≢true,
                      (neither (keeps (program none) is_too_deep refl) false≢true, tt),
                    ),
                  ),
                ),
              ),
            ),
          ),
        ),
      ),
    ),
  ),
)

-- a width of 129 bits breaks T2, and no lower rule
pub wide_breaks_t2 : Breaks16 (program wide) 2
unfolding Breaks16 IsBroken
wide_breaks_t2 =
    (T2, refl, inr (neither (keeps (program wide) is_misnamed refl) (neither false≢true (no_cycle (struct_graph (program wide).decls) structs_fall)), inl (inl (inl refl), refl)))
