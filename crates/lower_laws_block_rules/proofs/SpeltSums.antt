-- What is written of calculated fields is spelt, where names are.
use Rattle.std.proofs.Common.{◌≡◌, ℕ, ◌^◌, Bool, true, false, cond, List, [], ◌∷◌, filter, Option, Some, None, refl, sym, subst}
use Rattle.std.specs.Prelude.{nat_lt, unwrap_or, fold}
use Rattle.std.specs.List.{AllByRecursion}
use Rattle.std.proofs.lemmas.Bool.{ltb-true}
use Rattle.p414_syntax.specs.declared.calculations.Item.{Item}
use Rattle.p414_syntax.specs.declared.calculations.Item.TheVariants as item
use Rattle.p414_syntax.specs.declared.calculations.CalcCond.{CalcCond}
use Rattle.p414_syntax.specs.declared.calculations.CalcCond.TheVariants as calc_cond
use Rattle.p414_syntax.specs.declared.calculations.Calc.{Calc}
use Rattle.p414_syntax.specs.declared.calculations.CalculatedField.{CalculatedField}
use Rattle.p414_syntax.specs.declared.syntax.Decl.{Decl}
use Rattle.p414_syntax.specs.Lists.{calculated_fields}
use Rattle.p414_sem.specs.Slots.{Slot, standard, declared, slot_of, element_of}
use Rattle.p414_sem.specs.Expanded.{Expanded}
use Rattle.p414_sem.specs.Calculations.{Calculation, calculation_named}
use Rattle.p416_syntax.specs.declared.node.UnaryOperator.TheVariants.{Not}
use Rattle.p416_syntax.specs.declared.node.BinaryOperator.TheVariants.{Equal, And}
use Rattle.p416_syntax.specs.Conditions.{statements, statement}
use Rattle.p416_syntax.specs.Tree.{Exp16, literal, truth, no_arguments, argument, unary, binary, Stmt16, no_statements, then}
use Rattle.p416_syntax.specs.Names.{has_name}
use Rattle.p416_syntax.specs.Kinds.{hash_algorithm}
use Rattle.p416_syntax.specs.BuiltIn.{members_of}
use Rattle.lower_laws_base.specs.Context.{Lowering, words_of, now}
use Rattle.lower_laws_base.specs.Mirror.{sized, width_in, slot_exp}
use Rattle.lower_laws_controls.specs.Listing.{Each}
use Rattle.lower_laws_controls.proofs.Listing.{each_filter}
use Rattle.lower_laws_sums.specs.Sums.{items_exp, has_payload, condition_exp, header_exp, call_word, sum_stmt, by_condition, entries_stmt, is_used, field_stmt, sums_stmt, ItemsFit, ConditionFits, OptionFits, EntryFits, IsHeaderSlot}
use Rattle.lower_laws_rules.specs.Spelling.{SpeltName, SpeltWord, SpeltAt, many, SpeltExp, SpeltStmt}
use Rattle.lower_laws_rules.proofs.SpeltParts.{sized_spelt, as_argument}
use Rattle.lower_laws_block_rules.specs.Widths.{SlotsWide, SpeltHere}
use Rattle.lower_laws_block_rules.specs.Sums.{ItemWide, EntryHere, FieldHere}
use Rattle.lower_laws_block_rules.proofs.SpeltConditions.{slot_here, part_here, valid_here}
use Rattle.lower_laws_block_rules.proofs.KeyKinds.{each_named}
use Rattle.lower_laws_block_rules.proofs.Sums.{header_slot}

module _ (c : Lowering) (ds : List Decl) (wide : SlotsWide c) (facts : SpeltHere c) where
  items_here : (items : List Item) (before : Exp16) → ItemsFit c.layout ds items → AllByRecursion ItemWide items → SpeltAt (many false) before → SpeltAt (many false) (items_exp (words_of c) ds before items)
  items_here [] before fits w is = is
  items_here (item.Payload ∷ rest) before fits w is = items_here rest before (subst (ItemsFit c.layout ds) (sym fits) tt) w.1 is
  items_here (item.Number n ∷ rest) before fits w is =
      let width = unwrap_or n.width 0 in
      items_here rest (argument before (literal (sized width n.value))) fits.1 w.1 (is, sized_spelt width n.value w.0.0 w.0.1 fits.0)
  items_here (item.Field r ∷ rest) before fits w is = items_here rest (argument before (slot_exp (words_of c) now (slot_of ds r))) fits.2 w.1 (is, slot_here c facts (slot_of ds r) fits.0)
  items_here (item.Instance i ∷ rest) before fits w is = items_here rest before fits w.1 is

  entry_here : (slot : Slot) (k : CalcCond) → ConditionFits c.layout ds slot k → SpeltExp (condition_exp (words_of c) ds k)
  entry_here slot (calc_cond.Valid i) fits = valid_here c facts ds wide (element_of ds i) fits
  entry_here slot (calc_cond.Equal r n) fits = by (nat_lt n.value (2 ^ width)) refl where
    width : ℕ
    width = width_in (words_of c) (slot_of ds r)

    by : (b : Bool) → nat_lt n.value (2 ^ width) ≡ b → SpeltExp (cond b (binary Equal (slot_exp (words_of c) now (slot_of ds r)) (literal (sized width n.value))) (truth false))
    by true lt = let w = wide (slot_of ds r) fits.0 in (slot_here c facts (slot_of ds r) fits.0, sized_spelt width n.value w.0 w.1 (ltb-true n.value (2 ^ width) lt))
    by false lt = tt

  header_here : (slot : Slot) → IsHeaderSlot c.layout slot → SpeltExp (header_exp (words_of c) slot)
  header_here (standard which) is = absurd is
  header_here (declared i e k) is = ((part_here c facts (record { instance = i; element = e }) is.1.0, refl), tt)

  module _ (x : Expanded) (updates : Bool) where
    word_here : (u p : Bool) → SpeltName (call_word u p)
    word_here false false = refl
    word_here false true = refl
    word_here true false = refl
    word_here true true = refl

    summed : (slot : Slot) (e : Exp16) (k : Calculation) → IsHeaderSlot c.layout slot → SpeltExp e → ItemsFit c.layout ds k.items → AllByRecursion ItemWide k.items → has_name (members_of hash_algorithm) k.algorithm ≡ true → SpeltStmt statement (sum_stmt (words_of c) ds updates slot e k)
    summed slot e k is test items w among = (
      (
        word_here updates (has_payload k.items),
        (
          (((tt, as_argument e test), (refl, items_here k.items no_arguments items w tt)), as_argument (slot_exp (words_of c) now slot) (slot_here c facts slot (header_slot c slot is))),
          (refl, each_named (members_of hash_algorithm) SpeltWord (refl, (refl, (refl, (refl, tt)))) k.algorithm among),
        ),
      ),
      refl,
    )

    abbrev word_of : Calc → Calculation
    word_of entry = calculation_named ds x entry.calculation

    abbrev Entries : Slot → List Calc → Type 0
    Entries slot cs = (before : Stmt16) (e : Exp16) → IsHeaderSlot c.layout slot → SpeltStmt statements before → SpeltExp e → Each (EntryFits c.layout ds x slot) cs → Each (EntryHere ds x) cs → SpeltStmt statements (entries_stmt (words_of c) ds x updates slot before e cs)

    entries : (slot : Slot) (cs : List Calc) → Entries slot cs
    entries slot [] before e is p test fits here = p
    entries slot (entry ∷ rest) before e is p test fits here = by entry.condition fits.0.condition (entries slot rest) where
      by : (o : Option CalcCond) → OptionFits c.layout ds slot o → Entries slot rest → SpeltStmt statements (by_condition o ((then) before (sum_stmt (words_of c) ds updates slot e (word_of entry))) (λ k. entries_stmt (words_of c) ds x updates slot ((then) before (sum_stmt (words_of c) ds updates slot (binary And e (condition_exp (words_of c) ds k)) (word_of entry))) (binary And e (unary Not (condition_exp (words_of c) ds k))) rest))
      by None fit more = (p, summed slot e (word_of entry) is test fits.0.items here.0.wide here.0.algorithm)
      by (Some k) fit more =
          let one = entry_here slot k fit in
          more ((then) before (sum_stmt (words_of c) ds updates slot (binary And e (condition_exp (words_of c) ds k)) (word_of entry))) (binary And e (unary Not (condition_exp (words_of c) ds k))) is
          (p, summed slot (binary And e (condition_exp (words_of c) ds k)) (word_of entry) is (test, one) fits.0.items here.0.wide here.0.algorithm)
          (test, one) fits.1 here.1

    fields_here : (before : Stmt16) (fs : List CalculatedField) → SpeltStmt statements before → Each (FieldHere c.layout ds x updates) fs → SpeltStmt statements (fold (field_stmt (words_of c) ds x updates) before fs)
    fields_here before [] p here = p
    fields_here before (f ∷ fs) p here =
        fields_here (field_stmt (words_of c) ds x updates before f) fs
        (entries (slot_of ds f.field) (filter (is_used updates) f.entries) before (header_exp (words_of c) (slot_of ds f.field)) here.0.fits.slot p (header_here (slot_of ds f.field) here.0.fits.slot)
        (each_filter (EntryFits c.layout ds x (slot_of ds f.field)) (is_used updates) f.entries here.0.fits.entries) (each_filter (EntryHere ds x) (is_used updates) f.entries here.0.entries)) here.1

    pub sums_here : Each (FieldHere c.layout ds x updates) (calculated_fields ds) → SpeltStmt statements (sums_stmt (words_of c) ds x updates)
    sums_here here = fields_here no_statements (calculated_fields ds) tt here
