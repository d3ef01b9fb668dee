-- C18 and C19 from what is found of the preserved lists.
use Rattle.std.proofs.Common.{◌≡◌, ℕ, ◌<◌, ◌≤◌, inl, inr, Bool, true, List, length, sym, ap, ◌∙◌, arith}
use Rattle.std.proofs.lemmas.Bool.{lt-ltb, ltb-true}
use Rattle.p414_syntax.specs.declared.calculations.Item.{Item}
use Rattle.p414_syntax.specs.declared.syntax.Decl.{Decl}
use Rattle.p414_syntax.specs.Names.{Name}
use Rattle.p414_syntax.specs.Arguments.{all_invocations}
use Rattle.p414_syntax.specs.Distinct.{distinct}
use Rattle.p414_syntax.specs.Exact.{IsExact}
use Rattle.p414_syntax.specs.Preserved.{preserved_lists, is_no_metadata_item, is_initialized, PreservesBad, HasBadPreservedList, PreservesInitialized}
use Rattle.p414_preserved_check.specs.declared.named.Wanted.TheVariants.{List as AList}
use Rattle.p414_preserved_check.specs.internal.Marks.{AreMarks, joins_marked}
use Rattle.p414_preserved_check.specs.internal.Named.{named_by}
use Rattle.p414_preserved_check.proofs.Marking.{exact_by, exact_same, joins_is, joins_back}
use Rattle.p414_preserved_check.proofs.NamedLists.{preserved_are}

module _ (ds : List Decl) (names : List Name) (is : names ≡ distinct (named_by AList (all_invocations ds))) where
  all_are : names ≡ preserved_lists ds
  all_are = is ∙ sym (preserved_are ds)

  pub too_many : (n : ℕ) → n ≡ length names → 255 < n → HasBadPreservedList ds
  too_many n e h =
      let same : n ≡ length (preserved_lists ds) = e ∙ ap length all_are in
      inl (lt-ltb 255 (length (preserved_lists ds)) (omega arith))

  there : (p : Item → Bool) (marks : List ℕ) → AreMarks ds p marks → joins_marked ds marks names ≡ true → PreservesBad p ds
  there p marks known e = joins_is ds p marks known (preserved_lists ds) (ap (joins_marked ds marks) (sym all_are) ∙ e)

  back : (p : Item → Bool) (marks : List ℕ) → AreMarks ds p marks → PreservesBad p ds → joins_marked ds marks names ≡ true
  back p marks known h = ap (joins_marked ds marks) all_are ∙ joins_back ds p marks known (preserved_lists ds) h

  few_back : (n : ℕ) → n ≡ length names → n ≤ 255 → (marks : List ℕ) → AreMarks ds (is_no_metadata_item ds) marks → HasBadPreservedList ds → joins_marked ds marks names ≡ true
  few_back n e h marks known (inl many) =
      let over : 255 < length (preserved_lists ds) = ltb-true 255 (length (preserved_lists ds)) many in
      let same : n ≡ length (preserved_lists ds) = e ∙ ap length all_are in
      absurd (omega arith)
  few_back n e h marks known (inr bad) = back (is_no_metadata_item ds) marks known bad

  pub few : (n : ℕ) → n ≡ length names → n ≤ 255 → (marks : List ℕ) → AreMarks ds (is_no_metadata_item ds) marks → (bad : Bool) → bad ≡ joins_marked ds marks names → IsExact bad (HasBadPreservedList ds)
  few n e h marks known bad same =
      exact_same bad (joins_marked ds marks names) (HasBadPreservedList ds) same
      (exact_by (joins_marked ds marks names) (HasBadPreservedList ds) (λ t. inr (there (is_no_metadata_item ds) marks known t)) (few_back n e h marks known))

  pub initialized_exact : (marks : List ℕ) → AreMarks ds (is_initialized ds) marks → (bad : Bool) → bad ≡ joins_marked ds marks names → IsExact bad (PreservesInitialized ds)
  initialized_exact marks known bad same =
      exact_same bad (joins_marked ds marks names) (PreservesInitialized ds) same
      (exact_by (joins_marked ds marks names) (PreservesInitialized ds) (there (is_initialized ds) marks known) (back (is_initialized ds) marks known))
