-- What the rules of P4_16 ask of the primitives of an accepted program: algorithms and widths of hashes (C3, C25), one type for a
-- header that is copied (C13), and where requests are made (C22).
use Rattle.std.proofs.Common.{◌≡◌, inl, inr, ℕ, ◌<◌, ◌≤◌, Bool, true, false, cond, ◌||◌, Option, Some, None, List, [], ◌∷◌, length, refl, sym, ap, ◌∙◌, subst, arith}
use Rattle.std.specs.Prelude.{codes, nat_lt, is_some, unwrap_or, filter, option_and_then}
use Rattle.std.specs.List.{list_any}
use Rattle.std.specs.Option.{option_map_or}
use Rattle.std.specs.Str.{bytes_eq}
use Rattle.std.proofs.lemmas.Bool.{ltb-true, ltb-false}
use Rattle.std.proofs.lemmas.List.Quantifiers.{position-Some}
use Rattle.std.proofs.lemmas.Option.{slice_get-get_or}
use Rattle.fabric.specs.declared.items.RequestKind.{RequestKind}
use Rattle.fabric.specs.declared.items.RequestKind.TheVariants.{CloneI2E, CloneE2E, Resubmit, Recirculate}
use Rattle.p414_syntax.specs.declared.lexeme.Literal.{Literal}
use Rattle.p414_syntax.specs.declared.calculations.FieldListCalculation.{FieldListCalculation}
use Rattle.p414_syntax.specs.declared.calculations.Item.{Item}
use Rattle.p414_syntax.specs.declared.calculations.Item.TheVariants as item
use Rattle.p414_syntax.specs.declared.syntax.Decl.{Decl}
use Rattle.p414_syntax.specs.declared.syntax.Decl.TheVariants as decl
use Rattle.p414_syntax.specs.declared.syntax.Sort.TheVariants as sort
use Rattle.p414_syntax.specs.Names.{Name, has_name, is_in, names_in, declared_in, number_of, numbered, is_declared}
use Rattle.p414_syntax.specs.Breaks.{BreaksNone, program_rules}
use Rattle.p414_syntax.specs.Arguments.{Invocation, actions}
use Rattle.p414_syntax.specs.Lists.{calculation_in, calculation_of}
use Rattle.p414_syntax.specs.Pipelines.{is_call_of, ingress_requests, egress_requests}
use Rattle.p414_syntax.specs.Unsupported.{algorithms, declares_unsupported}
use Rattle.p414_syntax.specs.Widths.{declares_bad_width}
use Rattle.p414_sem.specs.Calculations.{Calculation, no_calculation, joined_calculation}
use Rattle.p414_sem.specs.Expanded.{Expanded, IsExpanded, primitives_at}
use Rattle.p414_sem.specs.Operations.{Source, Term, hashed, Primitive, write, copy_header, ask, primitive_of}
use Rattle.p416_syntax.specs.Kinds.{hash_algorithm}
use Rattle.p416_syntax.specs.BuiltIn.{members_of}
use Rattle.lower_laws_base.specs.Context.{Lowering}
use Rattle.lower_laws_states.specs.Standing.{PrimitiveStands as Names14}
use Rattle.lower_laws_states.specs.Expansions.{Has}
use Rattle.lower_laws_states.proofs.Members.{neither, of_not, none_passes, has_each, each_weaker, has_at}
use Rattle.lower_laws_states.proofs.Rules.{widths_right, all_supported}
use Rattle.lower_laws_states.proofs.Named.{names_long}
use Rattle.lower_laws_states.proofs.Standing.{accepted_stands}
use Rattle.lower_laws_actions.specs.Mirror.{algorithm_width}
use Rattle.lower_laws_actions.specs.Runs.{primitives_of}
use Rattle.lower_laws_rules.specs.Acting.{IsWidth, TermStands, PrimitiveStands}
use Rattle.lower_laws_rules.proofs.Bodies.{AllStand}
use Rattle.lower_laws_rules.proofs.SpeltActs.{NumbersFit, HashFits}
use Rattle.lower_laws_rules.proofs.SpeltBodies.{AllHash}
use Rattle.lower_laws_premises.specs.Literals.{IsSpelt, IsFittingItem}
use Rattle.lower_laws_premises.specs.Counts.{IsHashed, callers, TermCounts, PrimitiveCounts}
use Rattle.lower_laws_premises.specs.Shown.{Shows}
use Rattle.lower_laws_premises.specs.Placed.{StandsIn, block_place}
use Rattle.lower_laws_premises.proofs.Sources.{sized}
use Rattle.lower_laws_premises.proofs.Counting.{first_of, second_of}
use Rattle.lower_laws_premises.proofs.LayoutFits.{type_same}
use Rattle.lower_laws_premises.proofs.Rules.{none_misplaced}
use Rattle.lower_laws_premises.proofs.Hashes.{calculation_has, IsHashItem, hash_items}
use Rattle.lower_laws_premises.proofs.Fits.{accepted_counts}

passes : {X : Type 0} (p : X → Bool) (xs : List X) (x : X) → Has (filter p xs) x → p x ≡ true
passes p [] x h = absurd h
passes {X} p (y ∷ xs) x h = by (p y) refl h (passes p xs x) where
  by : (b : Bool) → p y ≡ b → Has (cond b (y ∷ filter p xs) (filter p xs)) x → (Has (filter p xs) x → p x ≡ true) → p x ≡ true
  by true e (inl same) rest = ap p (sym same) ∙ e
  by true e (inr h) rest = rest h
  by false e h rest = rest h

-- a calculation that is declared
calculation_there : (ds : List Decl) (name : Name) → is_declared sort.Calculation ds name ≡ true → (f : FieldListCalculation) × (calculation_of ds name ≡ Some f)
calculation_there ds name there = by (number_of sort.Calculation ds name) refl there where
  sorted : (d : Decl) → is_in sort.Calculation d ≡ true → (f : FieldListCalculation) × (calculation_in d ≡ Some f)
  sorted (decl.FieldListCalculation f) e = (f, refl)
  sorted _ e = absurd (cc e)

  at : (k : ℕ) → k < length (declared_in sort.Calculation ds) → (o : Option Decl) → numbered sort.Calculation ds k ≡ o → (f : FieldListCalculation) × (option_and_then calculation_in o ≡ Some f)
  at k lt None e = absurd (cc (e, slice_get-get_or (declared_in sort.Calculation ds) k (decl.Header (record { header_type = []; name = []; size = None })) lt))
  at k lt (Some d) e = sorted d (passes (is_in sort.Calculation) ds d (has_at (declared_in sort.Calculation ds) k d e))

  by : (o : Option ℕ) → number_of sort.Calculation ds name ≡ o → is_some o ≡ true → (f : FieldListCalculation) × (option_and_then calculation_in (option_and_then (numbered sort.Calculation ds) o) ≡ Some f)
  by None e f = absurd (cc f)
  by (Some k) e f = at k (omega (arith, (position-Some (bytes_eq name) (names_in sort.Calculation ds) k [] e).0, names_long ds sort.Calculation)) (numbered sort.Calculation ds k) refl

few_bits : (algorithm : Name) → algorithm_width algorithm ≤ 128
few_bits algorithm = by (bytes_eq algorithm (codes "csum16")) (bytes_eq algorithm (codes "crc16")) (bytes_eq algorithm (codes "crc32")) where
  by : (a b c : Bool) → cond a 16 (cond b 16 (cond c 32 128)) ≤ 128
  by true b c = omega arith
  by false true c = omega arith
  by false false true = omega arith
  by false false false = omega arith

number_wide : (w : Option ℕ) (n : Literal) → n.width ≡ w → is_some w ≡ true → IsFittingItem (item.Number n) → IsWidth (unwrap_or w 0)
number_wide None n e there is = absurd (cc there)
number_wide (Some w) n e there is = let s = sized n w e is in (s.0, s.1)

any_so : {X : Type 0} (p : X → Bool) (xs : List X) (x : X) → Has xs x → p x ≡ true → list_any p xs ≡ true
any_so p [] x h e = absurd h
any_so {X} p (y ∷ xs) x (inl same) e = first_of (p y) (list_any p xs) (ap p same ∙ e)
any_so {X} p (y ∷ xs) x (inr h) e = second_of (p y) (list_any p xs) (any_so p xs x h e)

-- which pipeline's requests these are
of_one : (a : Bool) → a || false ≡ true → a ≡ true
of_one true e = refl
of_one false e = absurd (cc e)

module _ (ds : List Decl) (none : BreaksNone ds program_rules) (spelt : IsSpelt ds) (x : Expanded) (is : IsExpanded ds x) where
  hash_stands : (c : Calculation) → IsHashed ds x c → (has_name (members_of hash_algorithm) c.algorithm ≡ true) × IsWidth c.width
  hash_stands c stands =
      let f = calculation_there ds stands.inst.name stands.there in
      let h = calculation_has ds stands.inst.name f.0 f.1 in
      let bounds = neither (nat_lt f.0.output_width.value 1) (nat_lt 128 f.0.output_width.value) (none_passes declares_bad_width ds (decl.FieldListCalculation f.0) (widths_right ds none) h) in
      subst (λ (d : Calculation). (has_name (members_of hash_algorithm) d.algorithm ≡ true) × IsWidth d.width) (sym (stands.is ∙ ap (λ (o : Option FieldListCalculation). option_map_or (joined_calculation ds x) o no_calculation) f.1))
      (of_not (has_name algorithms f.0.algorithm) (none_passes declares_unsupported ds (decl.FieldListCalculation f.0) (neither (list_any declares_unsupported ds) _ (all_supported ds none)).0 h), (ltb-false f.0.output_width.value 1 bounds.0, ltb-false 128 f.0.output_width.value bounds.1))

  term_stands : (t : Term) → TermCounts ds x t → TermStands t
  term_stands (hashed base calculation bound) counts = hash_stands calculation counts.2
  term_stands _ counts = tt

  number_fits : (i : Item) → IsHashItem ds none spelt x is i → NumbersFit i
  number_fits (item.Number n) h = number_wide n.width n refl h.stands h.fits
  number_fits item.Payload h = tt
  number_fits (item.Field r) h = tt
  number_fits (item.Instance i) h = tt

  hash_fits : (i : Invocation) (p : Primitive) → PrimitiveCounts ds x i p → HashFits p
  hash_fits i (write sums t (hashed base calculation bound)) counts =
      (each_weaker (IsHashItem ds none spelt x is) NumbersFit number_fits calculation.items (hash_items ds none spelt x is calculation counts.1.2), λ e. let lt = ltb-true calculation.width (algorithm_width calculation.algorithm) e in let few = few_bits calculation.algorithm in omega (arith, lt, few))
  hash_fits i (write sums t term) counts = tt
  hash_fits i p counts = tt

  -- requests

  module _ (n : ℕ) (lt : n < length (actions ds)) where
    -- a call of the action is none of the requests of the other pipeline
    not_of_ingress : StandsIn ds true n → (i : Invocation) → Has (primitives_at x n) i → has_name ingress_requests i.callee ≡ true → ⊥
    not_of_ingress at i h e = none_misplaced ds none (inl (at.0, at.1, record { action = n; all = primitives_at x n; listed = at.2; expands = is.each_action n lt; called = any_so (is_call_of ingress_requests) (primitives_at x n) i h e }))

    not_of_egress : StandsIn ds false n → (i : Invocation) → Has (primitives_at x n) i → has_name egress_requests i.callee ≡ true → ⊥
    not_of_egress at i h e = none_misplaced ds none (inr (at.0, at.1, record { action = n; all = primitives_at x n; listed = at.2; expands = is.each_action n lt; called = any_so (is_call_of egress_requests) (primitives_at x n) i h e }))

    request_stands : (e : Bool) → StandsIn ds e n → (c : Lowering) (i : Invocation) → Has (primitives_at x n) i → (kind : RequestKind) (session : Source) (list : Option ℕ) → has_name (callers kind) i.callee ≡ true → PrimitiveStands c (block_place e) (ask kind session list)
    request_stands false at c i h CloneI2E session list called = refl
    request_stands false at c i h Resubmit session list called = refl
    request_stands false at c i h CloneE2E session list called = absurd (not_of_egress at i h (second_of _ _ called))
    request_stands false at c i h Recirculate session list called = absurd (not_of_egress at i h (first_of _ _ (of_one _ called)))
    request_stands true at c i h CloneE2E session list called = refl
    request_stands true at c i h Recirculate session list called = refl
    request_stands true at c i h CloneI2E session list called = absurd (not_of_ingress at i h (second_of _ _ called))
    request_stands true at c i h Resubmit session list called = absurd (not_of_ingress at i h (first_of _ _ (of_one _ called)))

    module _ (c : Lowering) (shows : Shows c ds) (e : Bool) (at : StandsIn ds e n) where
      primitive_stands : (count : ℕ) (i : Invocation) → Has (primitives_at x n) i → (p : Primitive) → Names14 ds x count p → PrimitiveCounts ds x i p → PrimitiveStands c (block_place e) p
      primitive_stands count i h (write sums t term) stands counts = term_stands term counts.1
      primitive_stands count i h (copy_header to from) stands counts = type_same c ds shows.instances shows.roots to from stands
      primitive_stands count i h (ask kind session list) stands counts = request_stands e at c i h kind session list counts.0
      primitive_stands count i h p stands counts = tt

      all_of : (all : List Invocation) → ((i : Invocation) → Has all i → PrimitiveStands c (block_place e) (primitive_of ds x i)) → AllStand c (block_place e) (primitives_of ds x all)
      all_of [] each = tt
      all_of (i ∷ all) each = (each i (inl refl), all_of all (λ j h. each j (inr h)))

      -- all primitives of the action
      pub all_stand : AllStand c (block_place e) (primitives_of ds x (primitives_at x n))
      all_stand =
          let count = length (is.each_action n lt).action.parameters in
          all_of (primitives_at x n) (λ i h. primitive_stands count i h (primitive_of ds x i) (has_each (λ j. Names14 ds x count (primitive_of ds x j)) (primitives_at x n) i (accepted_stands ds none x is n lt) h) (accepted_counts ds none spelt x is n lt i h))

    hash_of : (all : List Invocation) → ((i : Invocation) → Has all i → HashFits (primitive_of ds x i)) → AllHash (primitives_of ds x all)
    hash_of [] each = tt
    hash_of (i ∷ all) each = (each i (inl refl), hash_of all (λ j h. each j (inr h)))

    pub all_hash : AllHash (primitives_of ds x (primitives_at x n))
    all_hash = hash_of (primitives_at x n) (λ i h. hash_fits i (primitive_of ds x i) (accepted_counts ds none spelt x is n lt i h))
