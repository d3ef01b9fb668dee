-- What stands in a header's place or a stack's place of an expanded primitive: one that is declared, with an index within it
-- (C4, C13, C27), and both sides of copy_header have one type (C13).
use Rattle.std.proofs.Common.{◌≡◌, ◌<◌, Bool, true, false, ◌&&◌, not, Option, Some, List, [], ◌∷◌, ◌++◌, length, refl, sym, ap, ap₂, ◌∙◌, subst, arith}
use Rattle.std.specs.Prelude.{codes, get_or, is_none, flat_map, option_and_then, option_to_list}
use Rattle.std.specs.Str.{bytes_eq}
use Rattle.p414_syntax.specs.declared.headers.Header.{Header}
use Rattle.p414_syntax.specs.declared.parts.Inst.{Inst}
use Rattle.p414_syntax.specs.declared.syntax.Decl.{Decl}
use Rattle.p414_syntax.specs.declared.syntax.Decl.TheVariants as decl
use Rattle.p414_syntax.specs.declared.place.ArgumentPlace.TheVariants as place
use Rattle.p414_syntax.specs.Fields.{instance_of, type_name_in}
use Rattle.p414_syntax.specs.Arguments.{Argument, number_argument, field_argument, parameter_argument, name_argument, Invocation}
use Rattle.p414_syntax.specs.Calls.{optional_count, type_names, differ, copies_other_type, is_wrong_call, is_stack}
use Rattle.p414_syntax.specs.Stacks.{has_bad_stack}
use Rattle.p414_syntax.specs.Totals.{elements_of}
use Rattle.p414_sem.specs.Slots.{element_number}
use Rattle.p414_sem.specs.Operations.{argument_at}
use Rattle.lower_laws_states.proofs.Members.{neither, same_name}
use Rattle.lower_laws_states.proofs.Declared.{header_there, stack_there, element_within}
use Rattle.lower_laws_states.proofs.Used.{header_used}
use Rattle.lower_laws_states.proofs.Written.{taken, wanted_so, IsJudged}

pub both : (a b : Bool) → a && b ≡ true → b ≡ true
both true b e = e
both false b e = absurd (cc e)

module _ (ds : List Decl) (stacks : has_bad_stack ds ≡ false) where
  -- an argument in a header's place
  pub record IsHeader (a : Argument) : Type 0 where
    pub inst : Inst
    pub header : Header
    pub is : a ≡ name_argument inst
    pub declared : instance_of ds inst.name ≡ Some (decl.Header header)
    pub within : element_number inst.index < elements_of header.size

  pub header_argument : (a : Argument) → IsJudged ds place.Header a → IsHeader a
  header_argument (number_argument n) right = absurd (cc right.takes_it)
  header_argument (field_argument r) right = absurd (cc right.takes_it)
  header_argument (parameter_argument n) right = absurd (cc (right.written refl).1)
  header_argument (name_argument i) right =
      let there = header_there ds i.name right.takes_it in record {
        inst = i;
        header = there.0;
        is = refl;
        declared = there.1;
        within = element_within ds stacks i (decl.Header there.0) there.1 (header_used ds i (right.written refl).0);
      }

  -- an argument in a stack's place
  pub record IsStack (a : Argument) : Type 0 where
    pub inst : Inst
    pub header : Header
    pub is : a ≡ name_argument inst
    pub declared : instance_of ds inst.name ≡ Some (decl.Header header)
    pub sized : is_stack ds inst.name ≡ true

  pub stack_argument : (a : Argument) → IsJudged ds place.Stack a → IsStack a
  stack_argument (number_argument n) right = absurd (cc right.takes_it)
  stack_argument (field_argument r) right = absurd (cc right.takes_it)
  stack_argument (parameter_argument n) right = absurd (cc (right.written refl).1)
  stack_argument (name_argument i) right =
      let sized = both (is_none i.index) (is_stack ds i.name) right.takes_it in
      let there = stack_there ds i.name sized in record { inst = i; header = there.0; is = refl; declared = there.1; sized = sized }

  pub same_type : (i j : Inst) (h k : Header) → instance_of ds i.name ≡ Some (decl.Header h) → instance_of ds j.name ≡ Some (decl.Header k) → differ (flat_map (type_names ds) (name_argument i ∷ name_argument j ∷ [])) ≡ false → h.header_type ≡ k.header_type
  same_type i j h k e f same = by (instance_of ds i.name) (instance_of ds j.name) e f same where
    by : (o p : Option Decl) → o ≡ Some (decl.Header h) → p ≡ Some (decl.Header k) → differ (option_to_list (option_and_then type_name_in o) ++ (option_to_list (option_and_then type_name_in p) ++ [])) ≡ false → h.header_type ≡ k.header_type
    by o p e f same = same_name h.header_type k.header_type (only (bytes_eq h.header_type k.header_type) (sym (ap₂ (λ (p q : Option Decl). differ (option_to_list (option_and_then type_name_in p) ++ (option_to_list (option_and_then type_name_in q) ++ []))) e f) ∙ same)) where
      only : (b : Bool) → not (b && true) ≡ false → b ≡ true
      only true e = refl
      only false e = absurd (cc e)

pub two_of : (l : List Argument) (d : Argument) → length l ≡ 2 → l ≡ get_or l 0 d ∷ get_or l 1 d ∷ []
two_of [] d e = absurd (omega (arith, e))
two_of (a ∷ []) d e = absurd (omega (arith, e))
two_of (a ∷ b ∷ []) d e = refl
two_of (a ∷ b ∷ c ∷ l) d e = absurd (omega (arith, e))

-- both sides of copy_header, and nothing else
pub alike : (ds : List Decl) (i : Invocation) → is_wrong_call ds i ≡ false → bytes_eq i.callee (codes "copy_header") ≡ true → differ (flat_map (type_names ds) (argument_at i 0 ∷ argument_at i 1 ∷ [])) ≡ false
alike ds i right e =
    let all = taken ds i (place.Header ∷ place.Header ∷ []) (wanted_so ds i (codes "copy_header") _ e refl) right in
    subst (λ (l : List Argument). differ (flat_map (type_names ds) l) ≡ false) (two_of i.arguments _ (omega (arith, all.count, all.most, ap optional_count (same_name i.callee (codes "copy_header") e))))
    (of_right (bytes_eq i.callee (codes "copy_header")) _ e (neither _ (copies_other_type ds i) right).1)
  where
    of_right : (a b : Bool) → a ≡ true → a && b ≡ false → b ≡ false
    of_right true b e f = f
    of_right false b e f = absurd (cc e)
