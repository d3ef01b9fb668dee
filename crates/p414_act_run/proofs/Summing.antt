-- The results of the calculations that are kept are those of the program.
use Rattle.std.proofs.Common.{◌≡◌, ℕ, ◌%◌, ◌^◌, ◌<◌, Bool, true, false, cond, List, [], ◌∷◌, ◌++◌, length, map, slice_get, Option, Some, None, option_map, refl, sym, ap, ap₂, ◌∙◌, subst, append_assoc, arith}
use Rattle.std.specs.Prelude.{filter_map, flat_map, option_and_then, unwrap_or, codes}
use Rattle.std.specs.List.{cons_option}
use Rattle.std.specs.Option.{option_map_or}
use Rattle.std.specs.Str.{bytes_eq}
use Rattle.std.proofs.lemmas.Nat.{mod_below}
use Rattle.std.proofs.lemmas.Option.{slice_get-map}
use Rattle.state_store.specs.State.{Contents}
use Rattle.calc_core.specs.Calculations.{csum16, crc16, crc32, identity}
use Rattle.p414_syntax.specs.declared.calculations.FieldListCalculation.{FieldListCalculation}
use Rattle.p414_syntax.specs.declared.calculations.Item.{Item}
use Rattle.p414_syntax.specs.declared.syntax.Decl.{Decl}
use Rattle.p414_syntax.specs.declared.syntax.Decl.TheVariants as decl
use Rattle.p414_syntax.specs.declared.syntax.Rule14.{Rule14}
use Rattle.p414_syntax.specs.declared.syntax.Sort.TheVariants as sort
use Rattle.p414_syntax.specs.Names.{Name, names_in, number_of}
use Rattle.p414_syntax.specs.Expansion.{list_number}
use Rattle.p414_syntax.specs.Lists.{calculation_of}
use Rattle.p414_syntax.specs.Arguments.{actions}
use Rattle.p414_sem.specs.State.{State}
use Rattle.p414_sem.specs.Effects.{Moment}
use Rattle.p414_sem.specs.Meanings.{Act14}
use Rattle.p414_state.specs.Packets.{Packet}
use Rattle.p414_sem.specs.Expanded.{Expanded, IsExpanded, items_in_list}
use Rattle.p414_sem.specs.Calculations as sem
use Rattle.p414_sem.specs.Calculations.{item_bits, items_named, joined_calculation, no_calculation, calculation_named, result_of, summed}
use Rattle.p414_action_check.proofs.Numbers.{calculation_is}
use Rattle.p414_field_lists.specs.declared.rows.ItemRow.{ItemRow}
use Rattle.p414_field_lists.specs.Meaning.{MeansLists}
use Rattle.p414_ready_actions.specs.declared.rows.ReadyPrimitive.{ReadyPrimitive}
use Rattle.p414_ready_actions.specs.Running.{rows_acted}
use Rattle.p414_ready_actions.specs.Meaning.{AreSums, Means}
use Rattle.p414_ready_actions.specs.Words.{calculation_number}
use Rattle.p414_act_run.specs.declared.calculations.Algorithm.TheVariants as algorithm
use Rattle.p414_act_run.specs.declared.calculations.ReadyCalculation.{ReadyCalculation}
use Rattle.p414_act_run.specs.Moments.{IsMoved, moment}
use Rattle.p414_act_run.specs.Sums.{algorithm_of, calculations, inputs_bits, kept_calculation, result_by, summed_by, sums_in}

-- algorithms

one_of : (a b c : Bool) (bits : List Bool) → summed_by (cond a algorithm.Csum16 (cond b algorithm.Crc16 (cond c algorithm.Crc32 algorithm.Identity))) bits ≡ cond a (csum16 bits) (cond b (crc16 bits) (cond c (crc32 bits) (identity bits)))
one_of true b c bits = refl
one_of false true c bits = refl
one_of false false true bits = refl
one_of false false false bits = refl

algorithm_is : (name : Name) (bits : List Bool) → summed_by (algorithm_of name) bits ≡ summed name bits
algorithm_is name bits = one_of (bytes_eq name (codes "csum16")) (bytes_eq name (codes "crc16")) (bytes_eq name (codes "crc32")) bits

-- the calculation with a number

nothing_past : (ds : List Decl) → slice_get (calculations ds) (length (names_in sort.Calculation ds)) ≡ None
nothing_past [] = refl
nothing_past (decl.FieldListCalculation x ∷ ds) = nothing_past ds
nothing_past (decl.HeaderType x ∷ ds) = nothing_past ds
nothing_past (decl.Header x ∷ ds) = nothing_past ds
nothing_past (decl.Metadata x ∷ ds) = nothing_past ds
nothing_past (decl.FieldList x ∷ ds) = nothing_past ds
nothing_past (decl.CalculatedField x ∷ ds) = nothing_past ds
nothing_past (decl.Parser x ∷ ds) = nothing_past ds
nothing_past (decl.Action x ∷ ds) = nothing_past ds
nothing_past (decl.Table x ∷ ds) = nothing_past ds
nothing_past (decl.Counter x ∷ ds) = nothing_past ds
nothing_past (decl.Meter x ∷ ds) = nothing_past ds
nothing_past (decl.Register x ∷ ds) = nothing_past ds
nothing_past (decl.Control x ∷ ds) = nothing_past ds
nothing_past (decl.LeftOut x ∷ ds) = nothing_past ds

at_number : (ds : List Decl) (o : Option ℕ) → slice_get (map (kept_calculation ds) (calculations ds)) (unwrap_or o (length (names_in sort.Calculation ds))) ≡ option_map (kept_calculation ds) (option_and_then (λ n. slice_get (calculations ds) n) o)
at_number ds (Some n) = slice_get-map (kept_calculation ds) (calculations ds) n
at_number ds None =
    slice_get-map (kept_calculation ds) (calculations ds) (length (names_in sort.Calculation ds))
    ∙ ap (option_map (kept_calculation ds)) (nothing_past ds)

row_named : (ds : List Decl) (name : Name) → slice_get (map (kept_calculation ds) (calculations ds)) (calculation_number ds name) ≡ option_map (kept_calculation ds) (calculation_of ds name)
row_named ds name = at_number ds (number_of sort.Calculation ds name) ∙ sym (ap (option_map (kept_calculation ds)) (calculation_is ds name))

-- bits

bits_both : (ds : List Decl) (s : State) (xs ys : List Item) → sem.list_bits ds s (xs ++ ys) ≡ sem.list_bits ds s xs ++ sem.list_bits ds s ys
bits_both ds s [] ys = refl
bits_both ds s (x ∷ xs) ys =
    ap (λ (bits : List Bool). item_bits ds s x ++ bits) (bits_both ds s xs ys)
    ∙ sym (append_assoc (item_bits ds s x) (sem.list_bits ds s xs) (sem.list_bits ds s ys))

no_rest : (n : ℕ) → 0 ≡ n % 2 ^ 0
no_rest n = let lt : n % 1 < 1 = mod_below n 1 (omega arith) in omega (arith, lt)

module _ (ds : List Decl) (lists : List (List ItemRow)) (means : MeansLists ds lists) (x : Expanded) (expanded : IsExpanded ds x) where
  input_is : (s : State) (o : Option ℕ) (rest : List ℕ) (items : List Item) → inputs_bits lists s rest ≡ sem.list_bits ds s items → inputs_bits lists s (cons_option o rest) ≡ sem.list_bits ds s (option_map_or (items_in_list x) o [] ++ items)
  input_is s None rest items same = same
  input_is s (Some n) rest items same =
      ap₂ (λ (a b : List Bool). a ++ b) (means.bits x expanded n s) same ∙ sym (bits_both ds s (items_in_list x n) items)

  inputs_are : (s : State) (names : List Name) → inputs_bits lists s (filter_map (list_number ds) names) ≡ sem.list_bits ds s (flat_map (items_named ds x) names)
  inputs_are s [] = refl
  inputs_are s (name ∷ names) =
      input_is s (list_number ds name) (filter_map (list_number ds) names) (flat_map (items_named ds x) names) (inputs_are s names)

  result_is : (s : State) (o : Option FieldListCalculation) → option_map_or (result_by lists s) (option_map (kept_calculation ds) o) 0 ≡ result_of ds s (option_map_or (joined_calculation ds x) o no_calculation)
  result_is s None = no_rest (summed (codes "identity") [])
  result_is s (Some c) =
      ap (λ n. n % 2 ^ c.output_width.value)
      (algorithm_is c.algorithm (inputs_bits lists s (filter_map (list_number ds) c.input)) ∙ ap (summed c.algorithm) (inputs_are s c.input))

  pub sums_are : (rows : List ReadyCalculation) → rows ≡ map (kept_calculation ds) (calculations ds) → AreSums ds x (sums_in (record { lists = lists; rows = rows }))
  sums_are rows are name s =
      ap (λ (rs : List ReadyCalculation). option_map_or (result_by lists s) (slice_get rs (calculation_number ds name)) 0) are
      ∙ (ap (λ (o : Option ReadyCalculation). option_map_or (result_by lists s) o 0) (row_named ds name)
      ∙ result_is s (calculation_of ds name))

-- what rows leave is what the action leaves
pub act_moves : (ds : List Decl) (n : ℕ) (rows : List ReadyPrimitive) (sums : ℕ → State → ℕ) (rule : Rule14) (arguments : List ℕ) (old new : Packet) (before behind : Contents) → Means ds n rows → ((x : Expanded) → IsExpanded ds x → AreSums ds x sums) → IsMoved old new before behind (rows_acted sums rule arguments rows (moment old before)) → (x : Expanded) → IsExpanded ds x → n < length (actions ds) → IsMoved old new before behind (Act14 ds x rule n arguments (moment old before))
act_moves ds n rows sums rule arguments old new before behind means summed moved x expanded lt =
    subst (λ (m : Moment). IsMoved old new before behind m) (means x expanded lt sums (summed x expanded) rule arguments (moment old before)) moved
