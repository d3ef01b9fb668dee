-- What is written of calculated fields breaks no rule.
use Rattle.std.proofs.Common.{◌≡◌, ℕ, suc, ◌+◌, ◌≤◌, ◌^◌, max, Bool, true, false, cond, List, [], ◌∷◌, length, filter, Option, Some, None, refl, sym, subst, arith}
use Rattle.std.specs.Prelude.{codes, nat_lt, unwrap_or, fold}
use Rattle.std.proofs.lemmas.Bool.{ltb-true}
use Rattle.p414_syntax.specs.declared.calculations.Item.{Item}
use Rattle.p414_syntax.specs.declared.calculations.Item.TheVariants as item
use Rattle.p414_syntax.specs.declared.calculations.CalcCond.{CalcCond}
use Rattle.p414_syntax.specs.declared.calculations.CalcCond.TheVariants as calc_cond
use Rattle.p414_syntax.specs.declared.calculations.Calc.{Calc}
use Rattle.p414_syntax.specs.declared.calculations.CalculatedField.{CalculatedField}
use Rattle.p414_syntax.specs.declared.syntax.Decl.{Decl}
use Rattle.p414_syntax.specs.Lists.{calculated_fields}
use Rattle.p414_sem.specs.Slots.{Slot, standard, declared, slot_of, element_of}
use Rattle.p414_sem.specs.Expanded.{Expanded}
use Rattle.p414_sem.specs.Calculations.{Calculation, calculation_named}
use Rattle.p416_syntax.specs.declared.node.UnaryOperator.TheVariants.{Not}
use Rattle.p416_syntax.specs.declared.node.BinaryOperator.TheVariants.{Equal, And}
use Rattle.p416_syntax.specs.Tree.{Exp16, literal, truth, name, call, expression, no_arguments, argument, unary, binary, Stmt16, no_statements, then}
use Rattle.p416_syntax.specs.Names.{Name, has_name}
use Rattle.p416_syntax.specs.Kinds.{bits, boolean, hash_algorithm}
use Rattle.p416_syntax.specs.BuiltIn.{members_of}
use Rattle.p416_syntax.specs.Scopes.{Scope}
use Rattle.p416_syntax.specs.Calls.{any_bits}
use Rattle.p416_syntax.specs.Externs.{are_allowed}
use Rattle.v1_core.specs.Frames.{Owner}
use Rattle.agreement_of_meanings.specs.Shown.{Shown, as_header, as_stack, as_metadata, is_metadata, owner_of}
use Rattle.lower_laws_base.specs.Context.{Lowering, words_of, shown_in, element_kind, HasRoot, now, a_function, an_enumeration, Sees, IsSlot}
use Rattle.lower_laws_base.specs.Mirror.{sized, width_in, slot_exp, valid_exp}
use Rattle.lower_laws_controls.specs.Listing.{Each}
use Rattle.lower_laws_controls.proofs.Listing.{each_filter}
use Rattle.lower_laws_sums.specs.Sums.{items_exp, has_payload, condition_exp, header_exp, call_word, sum_arguments, sum_stmt, by_condition, entries_stmt, is_used, field_stmt, sums_stmt, ItemsFit, ConditionFits, OptionFits, EntryFits, IsHeaderSlot}
use Rattle.lower_laws_rules.specs.Keeping.{Sound, Given, Part}
use Rattle.lower_laws_rules.specs.Standing.{can_at, slot_owner}
use Rattle.lower_laws_rules.proofs.Lists.{no_fines}
use Rattle.lower_laws_rules.proofs.Places.{deeper, writable, sits, sits_deeper, asks_any}
use Rattle.lower_laws_rules.proofs.Sound.{sound_literal, sound_truth, sound_not, sound_pair, sound_and}
use Rattle.lower_laws_rules.proofs.Calls.{more_given}
use Rattle.lower_laws_rules.proofs.Parts.{part_none, part_then}
use Rattle.lower_laws_rules.proofs.Sources.{sound_part, sound_slot}
use Rattle.lower_laws_rules.proofs.Externs.{sound_valid, part_verify, part_update}
use Rattle.lower_laws_block_rules.specs.Widths.{SlotsWide}
use Rattle.lower_laws_block_rules.specs.Sums.{EntryHere, FieldHere}
use Rattle.lower_laws_block_rules.proofs.Conditions.{sound_is_valid}

-- where such calls stand in `main`
abbrev pub sum_position : Bool → ℕ
sum_position false = 1
sum_position true = 4

pub header_slot : (c : Lowering) (slot : Slot) → IsHeaderSlot c.layout slot → IsSlot c.layout slot
header_slot c (standard which) is = absurd is
header_slot c (declared i e k) is = is.0

module _ (c : Lowering) (ds : List Decl) (s : Scope) (sees : Sees c s []) (wide : SlotsWide c) where
  -- items

  given : (items : List Item) (before : Exp16) → ItemsFit c.layout ds items → Given s [] any_bits before 4 → Given s [] any_bits (items_exp (words_of c) ds before items) 4
  given [] before fits x = x
  given (item.Payload ∷ rest) before fits x = subst (λ (r : List Item). Given s [] any_bits (items_exp (words_of c) ds before r) 4) (sym fits) x
  given (item.Number n ∷ rest) before fits x =
      let width = unwrap_or n.width 0 in
      given rest (argument before (literal (sized width n.value))) fits.1 (more_given x refl (sits_deeper 4 (omega arith) (sits (sound_literal s width n.value fits.0) any_bits (asks_any width false))))
  given (item.Field r ∷ rest) before fits x =
      let slot = slot_of ds r in
      given rest (argument before (slot_exp (words_of c) now slot)) fits.2 (more_given x refl (sits (sound_slot c s [] sees now tt slot fits.0) any_bits (asks_any (width_in (words_of c) slot) (can_at c now (slot_owner c slot)))))
  given (item.Instance i ∷ rest) before fits x = given rest before fits x

  -- conditions

  pub sound_entry : (slot : Slot) (k : CalcCond) → ConditionFits c.layout ds slot k → Sound s (condition_exp (words_of c) ds k) boolean false 5
  sound_entry slot (calc_cond.Valid i) fits = sound_is_valid c ds s [] sees wide (element_of ds i) fits
  sound_entry slot (calc_cond.Equal r n) fits = by (nat_lt n.value (2 ^ width)) refl where
    width : ℕ
    width = width_in (words_of c) (slot_of ds r)

    by : (b : Bool) → nat_lt n.value (2 ^ width) ≡ b → Sound s (cond b (binary Equal (slot_exp (words_of c) now (slot_of ds r)) (literal (sized width n.value))) (truth false)) boolean false 5
    by true lt = sound_pair Equal refl (sound_slot c s [] sees now tt (slot_of ds r) fits.0) (sound_literal s width n.value (ltb-true n.value (2 ^ width) lt))
    by false lt = deeper 5 (omega arith) (sound_truth s false)

  valid_header : (x : Shown) (type : Name) (can : Bool) (e : Exp16) → is_metadata x ≡ false → Sound s e (element_kind x type) can 3 → Sound s (valid_exp e) boolean false 5
  valid_header (as_header called fields) type can e is p = sound_valid p
  valid_header (as_stack called fields) type can e is p = sound_valid p
  valid_header (as_metadata called fields) type can e is p = absurd (cc is)

  pub sound_header : (slot : Slot) → IsHeaderSlot c.layout slot → Sound s (header_exp (words_of c) slot) boolean false 6
  sound_header (standard which) is = absurd is
  sound_header (declared i e k) is =
      deeper 6 (omega arith) (valid_header (shown_in c i) (c.type_of i) _ _ is.1.1 (sound_part c s [] sees now tt (record { instance = i; element = e }) is.1.0))

  module _ (x : Expanded) (updates : Bool) (at : are_allowed (sum_position updates ∷ []) s.positions ≡ true) (writes : (o : Owner) → HasRoot c.layout o → c.can_write o ≡ true) where
    -- one call

    summed : (slot : Slot) (e : Exp16) (d : ℕ) (k : Calculation) → IsHeaderSlot c.layout slot → Sound s e boolean false d → d ≤ 390 → ItemsFit c.layout ds k.items → has_name (members_of hash_algorithm) k.algorithm ≡ true → Part s s [] 0 (sum_stmt (words_of c) ds updates slot e k)
    summed slot e d k is test few items among = by updates at (has_payload k.items) where
      written : (slot : Slot) → IsHeaderSlot c.layout slot → c.can_write (slot_owner c slot) ≡ true
      written (standard which) is = absurd is
      written (declared i e k) is = writes (owner_of (shown_in c i)) is.0.2

      field : Sound s (slot_exp (words_of c) now slot) (bits (width_in (words_of c) slot)) true 4
      field = writable (written slot is) (sound_slot c s [] sees now tt slot (header_slot c slot is))

      list : Given s [] any_bits (items_exp (words_of c) ds no_arguments k.items) 4
      list = given k.items no_arguments items (record { depths = omega arith; keeps = no_fines })

      by : (u : Bool) → are_allowed (sum_position u ∷ []) s.positions ≡ true → (p : Bool) → Part s s [] 0 (expression (call (name (call_word u p)) (sum_arguments (words_of c) ds slot e k)))
      by false at false = part_verify (sees.declares.named (a_function (codes "verify_checksum")) refl) refl (sees.declares.named (an_enumeration hash_algorithm) tt) among at test list field few (omega arith) (omega arith)
      by false at true = part_verify (sees.declares.named (a_function (codes "verify_checksum_with_payload")) refl) refl (sees.declares.named (an_enumeration hash_algorithm) tt) among at test list field few (omega arith) (omega arith)
      by true at false = part_update (sees.declares.named (a_function (codes "update_checksum")) refl) refl (sees.declares.named (an_enumeration hash_algorithm) tt) among at test list field few (omega arith) (omega arith)
      by true at true = part_update (sees.declares.named (a_function (codes "update_checksum_with_payload")) refl) refl (sees.declares.named (an_enumeration hash_algorithm) tt) among at test list field few (omega arith) (omega arith)

    abbrev word_of : Calc → Calculation
    word_of entry = calculation_named ds x entry.calculation

    -- behind each entry the condition is one deeper
    abbrev Entries : Slot → List Calc → Type 0
    Entries slot cs = (before : Stmt16) (e : Exp16) (d : ℕ) → IsHeaderSlot c.layout slot → Part s s [] 0 before → Sound s e boolean false d → 6 ≤ d → d + length cs ≤ 40 → Each (EntryFits c.layout ds x slot) cs → Each (EntryHere ds x) cs → Part s s [] 0 (entries_stmt (words_of c) ds x updates slot before e cs)

    entries : (slot : Slot) (cs : List Calc) → Entries slot cs
    entries slot [] before e d is p test least few fits here = p
    entries slot (entry ∷ rest) before e d is p test least few fits here = by entry.condition fits.0.condition (entries slot rest) where
      by : (o : Option CalcCond) → OptionFits c.layout ds slot o → Entries slot rest → Part s s [] 0 (by_condition o ((then) before (sum_stmt (words_of c) ds updates slot e (word_of entry))) (λ k. entries_stmt (words_of c) ds x updates slot ((then) before (sum_stmt (words_of c) ds updates slot (binary And e (condition_exp (words_of c) ds k)) (word_of entry))) (binary And e (unary Not (condition_exp (words_of c) ds k))) rest))
      by None fit more = part_then p (summed slot e d (word_of entry) is test (omega (arith, few)) fits.0.items here.0.algorithm)
      by (Some k) fit more =
          let cond_sound = sound_entry slot k fit in
          more ((then) before (sum_stmt (words_of c) ds updates slot (binary And e (condition_exp (words_of c) ds k)) (word_of entry))) (binary And e (unary Not (condition_exp (words_of c) ds k))) (suc d) is
          (part_then p (summed slot (binary And e (condition_exp (words_of c) ds k)) (suc (max d 5)) (word_of entry) is (sound_and test cond_sound) (omega (arith, few, least)) fits.0.items here.0.algorithm))
          (deeper (suc d) (omega (arith, least)) (sound_and test (sound_not s _ 5 false cond_sound))) (omega (arith, least)) (omega (arith, few)) fits.1 here.1

    pub part_field : (before : Stmt16) (f : CalculatedField) → Part s s [] 0 before → FieldHere c.layout ds x updates f → Part s s [] 0 (field_stmt (words_of c) ds x updates before f)
    part_field before f p here =
        let few = here.few in
        entries (slot_of ds f.field) (filter (is_used updates) f.entries) before _ 6 here.fits.slot p (sound_header (slot_of ds f.field) here.fits.slot) (omega arith) (omega (arith, few))
        (each_filter (EntryFits c.layout ds x (slot_of ds f.field)) (is_used updates) f.entries here.fits.entries) (each_filter (EntryHere ds x) (is_used updates) f.entries here.entries)

    part_fields : (before : Stmt16) (fs : List CalculatedField) → Part s s [] 0 before → Each (FieldHere c.layout ds x updates) fs → Part s s [] 0 (fold (field_stmt (words_of c) ds x updates) before fs)
    part_fields before [] p here = p
    part_fields before (f ∷ fs) p here = part_fields (field_stmt (words_of c) ds x updates before f) fs (part_field before f p here.0) here.1

    pub part_sums : Each (FieldHere c.layout ds x updates) (calculated_fields ds) → Part s s [] 0 (sums_stmt (words_of c) ds x updates)
    part_sums here = part_fields no_statements (calculated_fields ds) part_none here
