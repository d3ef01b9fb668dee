-- Three rules that are tests of uses, one after another.
use Rattle.std.proofs.Common.{◌≡◌, Bool, true, false, List, [], ◌∷◌, Err, refl, sym, ◌∙◌}
use Rattle.std.specs.List.{list_any}
use Rattle.p416_syntax.specs.declared.program.Syntax16.{Syntax16}
use Rattle.p416_syntax.specs.declared.rule.ProgramRule.{ProgramRule}
use Rattle.p416_syntax.specs.Exact.{IsExact}
use Rattle.p416_syntax.specs.Breaks.{program_uses, IsBroken, BreaksNone, rule_fault}
use Rattle.p416_expression_uses.specs.First.{UseRule}
use Rattle.p416_expression_uses.specs.Found.{Found}
use Rattle.p416_types.specs.declared.fault.Check16.{Check16}
use Rattle.p416_types.specs.declared.fault.Check16.TheVariants.{Refused}
use Rattle.p416_types.specs.internal.Seen.{is_found, IsFirstOf}
use Rattle.p416_types.specs.internal.Steps.{Keeps}
use Rattle.p416_types.proofs.Orders.{exactly_false, told_first, told_second, told_third, keeps_three}
use Rattle.p416_types.proofs.Uses.{lacks, found_here, left_after}
use Rattle.p416_types.proofs.Exactly.{kept_by}

-- a rule is exactly told by a truth value that says whether some use breaks it
abbrev pub Tells : Syntax16 → UseRule → Type 0
Tells s x = (b : Bool) → b ≡ list_any x.test (program_uses s) → IsExact b (IsBroken s x.rule)

module _ (s : Syntax16) (f : Found) (x y z : UseRule) (rest : List UseRule) (tells_x : Tells s x) (tells_y : Tells s y) (tells_z : Tells s z)
    (free_x : lacks x.rule (y ∷ z ∷ rest) ≡ true) (free_y : lacks y.rule (z ∷ rest) ≡ true) (free_z : lacks z.rule rest ≡ true) (left : IsFirstOf (x ∷ y ∷ z ∷ rest) s f) where
  exact_x : (a : Bool) → a ≡ is_found f.rule x.rule → IsExact a (IsBroken s x.rule)
  exact_x a is = tells_x a (is ∙ found_here x (y ∷ z ∷ rest) (program_uses s) f.rule left free_x)

  left_y : (a : Bool) → a ≡ is_found f.rule x.rule → a ≡ false → IsFirstOf (y ∷ z ∷ rest) s f
  left_y a is e = left_after x (y ∷ z ∷ rest) s f left (kept_by s x tells_x (exactly_false (IsBroken s x.rule) a (exact_x a is) e))

  exact_y : (a b : Bool) → a ≡ is_found f.rule x.rule → a ≡ false → b ≡ is_found f.rule y.rule → IsExact b (IsBroken s y.rule)
  exact_y a b is e ib = tells_y b (ib ∙ found_here y (z ∷ rest) (program_uses s) f.rule (left_y a is e) free_y)

  left_z : (a b : Bool) → a ≡ is_found f.rule x.rule → a ≡ false → b ≡ is_found f.rule y.rule → b ≡ false → IsFirstOf (z ∷ rest) s f
  left_z a b is e ib eb = left_after y (z ∷ rest) s f (left_y a is e) (kept_by s y tells_y (exactly_false (IsBroken s y.rule) b (exact_y a b is e ib) eb))

  exact_z : (a b d : Bool) → a ≡ is_found f.rule x.rule → a ≡ false → b ≡ is_found f.rule y.rule → b ≡ false → d ≡ is_found f.rule z.rule → IsExact d (IsBroken s z.rule)
  exact_z a b d is e ib eb id = tells_z d (id ∙ found_here z rest (program_uses s) f.rule (left_z a b is e ib eb) free_z)

  pub first : (a : Bool) (fault : Check16) → a ≡ is_found f.rule x.rule → a ≡ true → fault ≡ Refused (rule_fault x.rule) → Keeps s (x.rule ∷ y.rule ∷ z.rule ∷ []) (Err fault)
  first a fault is e told = told_first s x.rule (y.rule ∷ z.rule ∷ []) a fault (exact_x a is) e told

  pub second : (a b : Bool) (fault : Check16) → a ≡ is_found f.rule x.rule → a ≡ false → b ≡ is_found f.rule y.rule → b ≡ true → fault ≡ Refused (rule_fault y.rule) → Keeps s (x.rule ∷ y.rule ∷ z.rule ∷ []) (Err fault)
  second a b fault is e ib eb told = told_second s x.rule y.rule (z.rule ∷ []) a b fault (exact_x a is) e (exact_y a b is e ib) eb told

  pub third : (a b d : Bool) (fault : Check16) → a ≡ is_found f.rule x.rule → a ≡ false → b ≡ is_found f.rule y.rule → b ≡ false → d ≡ is_found f.rule z.rule → d ≡ true → fault ≡ Refused (rule_fault z.rule)
      → Keeps s (x.rule ∷ y.rule ∷ z.rule ∷ []) (Err fault)
  third a b d fault is e ib eb id ed told = told_third s x.rule y.rule z.rule [] a b d fault (exact_x a is) e (exact_y a b is e ib) eb (exact_z a b d is e ib eb id) ed told

  pub none : (a b d : Bool) → a ≡ is_found f.rule x.rule → a ≡ false → b ≡ is_found f.rule y.rule → b ≡ false → d ≡ is_found f.rule z.rule → d ≡ false → BreaksNone s (x.rule ∷ y.rule ∷ z.rule ∷ [])
  none a b d is e ib eb id ed = keeps_three s x.rule y.rule z.rule a b d (exact_x a is) e (exact_y a b is e ib) eb (exact_z a b d is e ib eb id) ed
