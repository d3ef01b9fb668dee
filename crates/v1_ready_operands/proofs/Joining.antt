-- What is found and joined of an expression is what is asked of it.
use Rattle.std.proofs.Common.{◌≡◌, ℕ, Option, None, List, [], ◌∷◌, ◌++◌, refl, sym, ap, ◌∙◌}
use Rattle.std.proofs.lemmas.List.{append_assoc, append-nil}
use Rattle.p416_syntax.specs.Tree.{Exp16, literal, truth, error, name, member, index, slice, call, lookahead, cast, unary, binary, choice, parenthesized, no_arguments, argument, listed}
use Rattle.p416_syntax.specs.Subtrees.{subexpressions}
use Rattle.p416_syntax.specs.Names.{Name}
use Rattle.p416_syntax.specs.Kinds as kind
use Rattle.p416_syntax.specs.Kinds.{Kind}
use Rattle.p416_syntax.specs.Scopes.{Scope}
use Rattle.p416_syntax.specs.Calls.{Place, value, owner}
use Rattle.p416_syntax.specs.Expressions.{kind_of}
use Rattle.v1_ready_forms.specs.Named.{NamedSeat}
use Rattle.v1_ready_forms.specs.Ways.{Way, its_value, through_element}
use Rattle.v1_ready_blocks.specs.Tests.{Source}
use Rattle.v1_ready_program.specs.internal.Passes.{Ask, passed, asked, member_way}
use Rattle.v1_ready_statements.specs.Tested.{ready_test, member_source, asked_source, ready_source}
use Rattle.v1_ready_operands.specs.internal.SourcePasses.{Found, choice_found, founds, join_one, joined}

member_asked : (k : Kind) (word : Name) (way : Way) (of : Way → Option Source) → of (member_way k word way) ≡ member_source k word way of
member_asked (kind.bits w) word way of = refl
member_asked kind.unsized word way of = refl
member_asked kind.boolean word way of = refl
member_asked kind.error_code word way of = refl
member_asked (kind.header type) word way of = refl
member_asked (kind.stack type size) word way of = refl
member_asked (kind.struct type) word way of = refl
member_asked kind.packet_in word way of = refl
member_asked kind.packet_out word way of = refl
member_asked kind.errors word way of = refl
member_asked (kind.enumeration x) word way of = refl
member_asked (kind.one_of x) word way of = refl
member_asked kind.table word way of = refl
member_asked kind.applied word way of = refl
member_asked (kind.object x) word way of = refl
member_asked kind.items word way of = refl
member_asked kind.nothing word way of = refl
member_asked kind.unknown word way of = refl

module _ (s : Scope) (seats : List NamedSeat) (tables : Name → Option ℕ) where
  abbrev seek : List Ask → List Exp16 → List Found
  seek qs es = founds s seats tables qs es

  -- of what is passed over nothing is found

  abbrev Passes : Exp16 → Type 0
  Passes e = (qs : List Ask) (more : List Exp16) → seek (passed ∷ qs) (subexpressions e ++ more) ≡ seek qs more

  two : (a b : Exp16) → Passes a → Passes b → (qs : List Ask) (more : List Exp16) → seek (passed ∷ passed ∷ qs) ((subexpressions a ++ subexpressions b) ++ more) ≡ seek qs more
  two a b of_a of_b qs more =
      ap (seek (passed ∷ passed ∷ qs)) (append_assoc (subexpressions a) (subexpressions b) more)
      ∙ (of_a (passed ∷ qs) (subexpressions b ++ more) ∙ of_b qs more)

  three : (c a b : Exp16) → Passes c → Passes a → Passes b → (qs : List Ask) (more : List Exp16) → seek (passed ∷ passed ∷ passed ∷ qs) ((subexpressions c ++ subexpressions a ++ subexpressions b) ++ more) ≡ seek qs more
  three c a b of_c of_a of_b qs more =
      ap (λ es. seek (passed ∷ passed ∷ passed ∷ qs) (es ++ more)) (append_assoc (subexpressions c) (subexpressions a) (subexpressions b))
      ∙ (ap (seek (passed ∷ passed ∷ passed ∷ qs)) (append_assoc (subexpressions c) (subexpressions a ++ subexpressions b) more)
      ∙ (of_c (passed ∷ passed ∷ qs) ((subexpressions a ++ subexpressions b) ++ more) ∙ two a b of_a of_b qs more))

  passes : (e : Exp16) → Passes e
  passes (literal n) qs more = refl
  passes (truth b) qs more = refl
  passes error qs more = refl
  passes (name text) qs more = refl
  passes (member e word) qs more = passes e qs more
  passes (index e at) qs more = passes e qs more
  passes (slice e high low) qs more = passes e qs more
  passes (call e given) qs more = two e given (passes e) (passes given) qs more
  passes (lookahead e to given) qs more = two e given (passes e) (passes given) qs more
  passes (cast to e) qs more = passes e qs more
  passes (unary operator e) qs more = passes e qs more
  passes (binary operator a b) qs more = two a b (passes a) (passes b) qs more
  passes (choice c a b) qs more = three c a b (passes c) (passes a) (passes b) qs more
  passes (parenthesized e) qs more = passes e qs more
  passes no_arguments qs more = refl
  passes (argument before last) qs more = two before last (passes before) (passes last) qs more
  passes (listed es) qs more = passes es qs more

  -- and of what is asked this

  abbrev Joins : Exp16 → Type 0
  Joins e = (p : Place) (way : Way) (qs : List Ask) (more : List Exp16) → joined (seek (asked p way ∷ qs) (subexpressions e ++ more)) ≡ asked_source s seats tables way e ∷ joined (seek qs more)

  abbrev nothing_found : List Found → List (Option Source)
  nothing_found fs = None ∷ joined fs

  abbrev in_front : List Ask → List Exp16 → Option Source → List (Option Source)
  in_front qs more x = x ∷ joined (seek qs more)

  chosen : (c a b : Exp16) (way : Way) (fs : List Found) (qs : List Ask) (more : List Exp16) → joined fs ≡ asked_source s seats tables way a ∷ asked_source s seats tables way b ∷ joined (seek qs more)
      → joined (choice_found (ready_test s seats tables (value kind.boolean) c) ∷ fs) ≡ asked_source s seats tables way (choice c a b) ∷ joined (seek qs more)
  chosen c a b way fs qs more is = ap (join_one (choice_found (ready_test s seats tables (value kind.boolean) c))) is

  both : (c a b : Exp16) → Joins a → Joins b → (way : Way) (qs : List Ask) (more : List Exp16)
      → joined (seek (passed ∷ asked owner way ∷ asked owner way ∷ qs) ((subexpressions c ++ subexpressions a ++ subexpressions b) ++ more))
      ≡ asked_source s seats tables way a ∷ asked_source s seats tables way b ∷ joined (seek qs more)
  both c a b of_a of_b way qs more =
      let behind = asked owner way ∷ asked owner way ∷ qs in
      ap (λ es. joined (seek (passed ∷ behind) (es ++ more))) (append_assoc (subexpressions c) (subexpressions a) (subexpressions b))
      ∙ (ap (λ es. joined (seek (passed ∷ behind) es)) (append_assoc (subexpressions c) (subexpressions a ++ subexpressions b) more)
      ∙ (ap joined (passes c behind ((subexpressions a ++ subexpressions b) ++ more))
      ∙ (ap (λ es. joined (seek behind es)) (append_assoc (subexpressions a) (subexpressions b) more)
      ∙ (of_a owner way (asked owner way ∷ qs) (subexpressions b ++ more) ∙ ap (λ xs. asked_source s seats tables way a ∷ xs) (of_b owner way qs more)))))

  pub joins : (e : Exp16) → Joins e
  joins (literal n) p way qs more = refl
  joins (truth b) p way qs more = refl
  joins error p way qs more = refl
  joins (name text) p way qs more = refl
  joins (member e word) p way qs more =
      joins e owner (member_way (kind_of s e) word way) qs more
      ∙ ap (in_front qs more) (member_asked (kind_of s e) word way (λ further. asked_source s seats tables further e))
  joins (index e at) p way qs more = joins e owner (through_element at.value way) qs more
  joins (slice e high low) p way qs more = ap nothing_found (passes e qs more)
  joins (call e given) p way qs more = ap nothing_found (two e given (passes e) (passes given) qs more)
  joins (lookahead e to given) p way qs more = ap nothing_found (two e given (passes e) (passes given) qs more)
  joins (cast to e) p way qs more = ap nothing_found (passes e qs more)
  joins (unary operator e) p way qs more = ap nothing_found (passes e qs more)
  joins (binary operator a b) p way qs more = ap nothing_found (two a b (passes a) (passes b) qs more)
  joins (choice c a b) p way qs more =
      chosen c a b way (seek (passed ∷ asked owner way ∷ asked owner way ∷ qs) ((subexpressions c ++ subexpressions a ++ subexpressions b) ++ more)) qs more
      (both c a b (joins a) (joins b) way qs more)
  joins (parenthesized e) p way qs more = ap nothing_found (passes e qs more)
  joins no_arguments p way qs more = refl
  joins (argument before last) p way qs more = ap nothing_found (two before last (passes before) (passes last) qs more)
  joins (listed es) p way qs more = ap nothing_found (passes es qs more)

  -- an expression by itself
  pub joins_whole : (e : Exp16) → joined (seek (asked owner its_value ∷ []) (subexpressions e)) ≡ ready_source s seats tables e ∷ []
  joins_whole e = ap (λ es. joined (seek (asked owner its_value ∷ []) es)) (sym (append-nil (subexpressions e))) ∙ joins e owner its_value [] []
