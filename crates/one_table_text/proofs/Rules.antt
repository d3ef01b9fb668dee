-- A program of the one-table form breaks none of the twelve rules: what isn't closed in it are the fields, two names and
-- the port.
use Rattle.std.proofs.Common.{◌≡◌, ◌⊎◌, inl, inr, refl, sym, ◌∙◌, ap, arith, ℕ, zero, suc, ◌+◌, ◌/◌, ◌<◌, ◌≤◌, ◌^◌, Bool, true, false, ◌||◌, nat_le, List, [], ◌∷◌, ◌++◌, drop, length, map, flat_map, IsTrue}
use Rattle.std.specs.Prelude.{nat_lt, sum_by}
use Rattle.std.specs.List.{list_any}
use Rattle.std.proofs.lemmas.Bool.{and_parts, false≢true}
use Rattle.std.proofs.lemmas.Bool.Decides.{nat_tests}
use Rattle.std.proofs.Math.Nat.{lt_irrefl, lt_trans}
use Rattle.state_store.specs.Ports.{drop_port}
use Rattle.digraph.specs.Graphs.{Among, successors, Edge, Onward, Walk}
use Rattle.digraph.specs.Expansions.{HasCycle}
use Rattle.p416_syntax.specs.declared.program.Decl16.{Decl16}
use Rattle.p416_syntax.specs.declared.program.Syntax16.{Syntax16}
use Rattle.p416_syntax.specs.declared.rule.ProgramRule.TheVariants.{T1, T7, T8, T9, T11, T12}
use Rattle.p416_syntax.specs.Uses.{Use}
use Rattle.p416_syntax.specs.Unknown.{is_misnamed, struct_graph}
use Rattle.p416_syntax.specs.Sizes.{leaves_size}
use Rattle.p416_syntax.specs.Types.{is_mistyped}
use Rattle.p416_syntax.specs.Literals.{overflows}
use Rattle.p416_syntax.specs.Writes.{writes_constant}
use Rattle.p416_syntax.specs.Arguments.{is_miscounted}
use Rattle.p416_syntax.specs.Applications.{applies_wrongly}
use Rattle.p416_syntax.specs.Tables.{is_bad_in_table}
use Rattle.p416_syntax.specs.Externs.{is_outside_block}
use Rattle.p416_syntax.specs.Declarations.{layouts_of, field_width}
use Rattle.p416_syntax.specs.Kinds.{Kind}
use Rattle.p416_syntax.specs.Main.{headers_kind, metadata_kind}
use Rattle.p416_syntax.specs.Totals.{is_too_deep, held_kinds, fields_of_kind, octets_of_kind, has_large_headers, has_large_variables, has_bad_cells, field_bits}
use Rattle.p416_syntax.specs.Breaks.{SomeDeclaration, SomeBreaks, WholeBreaks, IsBroken, BreaksNone, program_rules, scope_of, has_use, uses_in, program_uses}
use Rattle.p414_one_table.specs.declared.program.Field.{Field}
use Rattle.one_table_text.specs.declared.one_table.OneTable16.{OneTable16}
use Rattle.one_table_text.specs.Programs.{program16, decls16, header16}
use Rattle.one_table_text.specs.Lawful.{is_header, is_lawful}
use Rattle.one_table_text.proofs.Fields.{fields16, kinds, or_false, no_width, Lawful, lawful_is}

-- laws

left_false : (a b : Bool) → (a || b) ≡ false → a ≡ false
left_false true b e = e
left_false false b e = refl

right_false : (a b : Bool) → (a || b) ≡ false → b ≡ false
right_false true b e = absurd (false≢true (sym e))
right_false false b e = e

-- a test that no declaration passes says that what it tells holds of none
none_passes : (P : Decl16 → Type 0) (test : Decl16 → Bool) → ((d : Decl16) → P d → IsTrue (test d)) → (ds : List Decl16) → list_any test ds ≡ false → SomeDeclaration P ds → ⊥
none_passes P test is [] fails some = some
none_passes P test is (d ∷ ds) fails (inl p) = false≢true (sym (left_false (test d) (list_any test ds) fails) ∙ is d p)
none_passes P test is (d ∷ ds) fails (inr some) = none_passes P test is ds (right_false (test d) (list_any test ds) fails) some

-- a graph each of whose edges leads to a lesser number has no cycle
abbrev Falls : List (List ℕ) → Type 0
Falls g = (a b : ℕ) → Among b (successors g a) → b < a

walk_falls : (g : List (List ℕ)) (c a : ℕ) → Falls g → Walk g a c → c < a
walk_falls g c a falls (Edge e i) = falls e c i
walk_falls g c a falls (Onward e d i rest) = lt_trans (walk_falls g c d falls rest) (falls e d i)

no_cycle : (g : List (List ℕ)) → Falls g → HasCycle g → ⊥
no_cycle g falls cycle = lt_irrefl cycle.0 (walk_falls g cycle.0 cycle.0 falls cycle.1)

nothing_falls : Falls []
nothing_falls a b among = absurd among

one_falls : Falls ([] ∷ [])
one_falls zero b among = absurd among
one_falls (suc a) b among = absurd among

-- the second declaration holds the first
abbrev structs : List (List ℕ)
structs = [] ∷ (0 ∷ []) ∷ [] ∷ [] ∷ [] ∷ [] ∷ [] ∷ [] ∷ [] ∷ []

structs_fall : Falls structs
structs_fall zero b among = absurd among
structs_fall (suc zero) b (inl e) = omega (arith, e)
structs_fall (suc zero) b (inr among) = absurd among
structs_fall (suc (suc zero)) b among = absurd among
structs_fall (suc (suc (suc zero))) b among = absurd among
structs_fall (suc (suc (suc (suc zero)))) b among = absurd among
structs_fall (suc (suc (suc (suc (suc zero))))) b among = absurd among
structs_fall (suc (suc (suc (suc (suc (suc zero)))))) b among = absurd among
structs_fall (suc (suc (suc (suc (suc (suc (suc zero))))))) b among = absurd among
structs_fall (suc (suc (suc (suc (suc (suc (suc (suc zero)))))))) b among = absurd among
structs_fall (suc (suc (suc (suc (suc (suc (suc (suc (suc a))))))))) b among = absurd among

-- what is neither
neither : {A B : Type 0} → (A → ⊥) → (B → ⊥) → A ⊎ B → ⊥
neither no_a no_b (inl a) = no_a a
neither no_a no_b (inr b) = no_b b

never : ⊥ → ⊥
never b = b

isnt : (b : Bool) → b ≡ false → IsTrue b → ⊥
isnt b fails holds = false≢true (sym fails ∙ holds)

-- no declaration has a use that a test finds: the header has none, and neither have those behind it
abbrev test_at : Syntax16 → (Use → Bool) → Decl16 → Bool
test_at s test d = has_use test (scope_of s d) d

abbrev header_has : OneTable16 → (Use → Bool) → Bool
header_has q test = test_at (program16 q) test (header16 q.fields)

abbrev rest_has : OneTable16 → (Use → Bool) → Bool
rest_has q test = list_any (test_at (program16 q) test) (drop 1 (decls16 q))

abbrev Finds : OneTable16 → (Use → Bool) → Type 0
Finds q test = SomeDeclaration (λ d. IsTrue (test_at (program16 q) test d)) (program16 q).decls

keeps : (q : OneTable16) (test : Use → Bool) → header_has q test ≡ false → rest_has q test ≡ false → Finds q test → ⊥
unfolding program16
keeps q test header rest =
    none_passes (λ d. IsTrue (test_at (program16 q) test d)) (test_at (program16 q) test) (λ d passes. passes) (decls16 q)
    (or_false (header_has q test) (rest_has q test) header rest)

-- the rules that are a test

module _ (q : OneTable16) where
  keeps_t3 : Finds q is_mistyped → ⊥
  unfolding program16
  keeps_t3 = keeps q is_mistyped (no_width is_mistyped (λ f. refl) q.fields) refl

  keeps_t5 : Finds q writes_constant → ⊥
  unfolding program16
  keeps_t5 = keeps q writes_constant (no_width writes_constant (λ f. refl) q.fields) refl

  keeps_t6 : Finds q is_miscounted → ⊥
  unfolding program16
  keeps_t6 = keeps q is_miscounted (no_width is_miscounted (λ f. refl) q.fields) refl

  keeps_t9 : Finds q is_bad_in_table → ⊥
  unfolding program16
  keeps_t9 = keeps q is_bad_in_table (no_width is_bad_in_table (λ f. refl) q.fields) refl

  keeps_t10 : Finds q is_outside_block → ⊥
  unfolding program16
  keeps_t10 = keeps q is_outside_block (no_width is_outside_block (λ f. refl) q.fields) refl

  keeps_t12 : Finds q is_too_deep → ⊥
  unfolding program16
  keeps_t12 = keeps q is_too_deep (no_width is_too_deep (λ f. refl) q.fields) refl

  keeps_t1 : Lawful q.fields → Finds q is_misnamed → ⊥
  unfolding program16
  keeps_t1 is = keeps q is_misnamed (or_false _ _ is.names (no_width is_misnamed (λ f. refl) q.fields)) refl

  keeps_t2 : Lawful q.fields → Finds q leaves_size → ⊥
  unfolding program16
  keeps_t2 is = keeps q leaves_size (rw (is.widths, is.some, is.octets, is.sizes) refl) refl

  port_fits : nat_le q.port drop_port ≡ true → nat_le (2 ^ 9) q.port ≡ false
  port_fits h = grind (arith, nat_tests)

  keeps_t4 : nat_le q.port drop_port ≡ true → Finds q overflows → ⊥
  unfolding program16
  keeps_t4 port = keeps q overflows (no_width overflows (λ f. refl) q.fields) (rw (port_fits port) refl)

  keeps_t7 : SomeBreaks T7 (program16 q) → ⊥
  unfolding program16
  keeps_t7 =
      neither never (neither never (neither never (neither (neither false≢true (no_cycle ([] ∷ []) one_falls))
      (neither never (neither never (neither never (neither never (neither never never))))))))

  flat_or : {A : Type 0} → (A → ⊥) → (false ≡ true) ⊎ A → ⊥
  flat_or no_a = neither false≢true no_a

  keeps_t8 : SomeBreaks T8 (program16 q) → ⊥
  unfolding program16
  keeps_t8 =
      neither (neither (isnt (header_has q applies_wrongly) (no_width applies_wrongly (λ f. refl) q.fields)) never)
      (neither (flat_or never) (neither (flat_or never) (neither (flat_or never)
      (neither (flat_or (no_cycle [] nothing_falls)) (neither (flat_or (no_cycle ([] ∷ []) one_falls))
      (neither (flat_or (no_cycle [] nothing_falls)) (neither (flat_or (no_cycle [] nothing_falls))
      (neither (flat_or (no_cycle [] nothing_falls)) never))))))))

  keeps_t11 : SomeBreaks T11 (program16 q) → ⊥
  unfolding program16
  keeps_t11 =
      neither never (neither never (neither never (neither never (neither never (neither never (neither never
      (neither never (neither never never))))))))

  -- all fields and octets

  no_struct_cycle : HasCycle (struct_graph (program16 q).decls) → ⊥
  unfolding program16
  no_struct_cycle = no_cycle structs structs_fall

  fields_bound : (x y n : ℕ) → x ≡ 0 + n → y ≡ 0 → n ≤ 64 → nat_lt 131072 (x + y) ≡ false
  fields_bound x y n is none few = grind (arith, nat_tests)

  octets_bound : (x n : ℕ) → x ≡ 0 + n / 8 → n ≤ 8192 → nat_lt 32768 x ≡ false
  octets_bound x n is few = grind (arith, nat_tests)

  small_headers : Lawful q.fields → has_large_headers (program16 q) ≡ false
  unfolding program16
  small_headers is =
      or_false _ _ (fields_bound (fields_of_kind (layouts_of (decls16 q)) (headers_kind (program16 q))) (fields_of_kind (layouts_of (decls16 q)) (metadata_kind (program16 q))) (length (kinds q.fields)) refl refl is.count)
      (octets_bound (octets_of_kind (layouts_of (decls16 q)) (headers_kind (program16 q))) (sum_by field_bits (kinds q.fields)) refl is.bits)

  none_held : (fields : List Field) (rest : List Use) → flat_map held_kinds (map field_width (fields16 fields) ++ rest) ≡ flat_map held_kinds rest
  none_held [] rest = refl
  none_held (f ∷ fields) rest = none_held fields rest

  small_variables : has_large_variables (layouts_of (program16 q).decls) (program_uses (program16 q)) ≡ false
  unfolding program16
  small_variables =
      ap (λ (ks : List Kind). nat_lt 262144 (sum_by (fields_of_kind (layouts_of (decls16 q))) ks) || nat_lt 131072 (sum_by (octets_of_kind (layouts_of (decls16 q))) ks))
      (none_held q.fields (flat_map (uses_in (program16 q)) (drop 1 (decls16 q))))

  -- what a rule asks of all declarations together

  whole_t1 : WholeBreaks T1 (program16 q) → ⊥
  unfolding program16
  whole_t1 = neither false≢true no_struct_cycle

  whole_t9 : WholeBreaks T9 (program16 q) → ⊥
  unfolding program16
  whole_t9 = false≢true

  whole_t11 : WholeBreaks T11 (program16 q) → ⊥
  unfolding program16
  whole_t11 = false≢true

  no_cells : has_bad_cells (program16 q).decls ≡ false
  unfolding program16
  no_cells = refl

  whole_t12 : Lawful q.fields → WholeBreaks T12 (program16 q) → ⊥
  whole_t12 is =
      isnt (has_large_headers (program16 q) || has_large_variables (layouts_of (program16 q).decls) (program_uses (program16 q)) || has_bad_cells (program16 q).decls)
      (or_false (has_large_headers (program16 q) || has_large_variables (layouts_of (program16 q).decls) (program_uses (program16 q))) (has_bad_cells (program16 q).decls)
      (or_false (has_large_headers (program16 q)) (has_large_variables (layouts_of (program16 q).decls) (program_uses (program16 q))) (small_headers is) small_variables) no_cells)

pub breaks_none : (q : OneTable16) → is_lawful q ≡ true → BreaksNone (program16 q) program_rules
unfolding IsBroken
breaks_none q h =
    let parts = and_parts (is_header q.fields) (nat_le q.port drop_port) h in
    let fields : Lawful q.fields = lawful_is q.fields parts.0 in (
      neither (keeps_t1 q fields) (whole_t1 q),
      (
        neither (keeps_t2 q fields) never,
        (
          neither (keeps_t3 q) never,
          (
            neither (keeps_t4 q parts.1) never,
            (
              neither (keeps_t5 q) never,
              (
                neither (keeps_t6 q) never,
                (
                  neither (keeps_t7 q) never,
                  (
                    neither (keeps_t8 q) never,
                    (
                      neither (keeps_t9 q) (whole_t9 q),
                      (
                        neither (keeps_t10 q) never,
                        (neither (keeps_t11 q) (whole_t11 q), (neither (keeps_t12 q) (whole_t12 q fields), tt)),
                      ),
                    ),
                  ),
                ),
              ),
            ),
          ),
        ),
      ),
    )
