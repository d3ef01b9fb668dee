-- What the two passes build of an expression is what is asked of it.
use Rattle.std.proofs.Common.{◌≡◌, Option, Some, None, List, [], ◌∷◌, ◌++◌, refl, sym, ap, ◌∙◌}
use Rattle.std.proofs.lemmas.List.{append_assoc, append-nil}
use Rattle.std.specs.Prelude.{suc, ◌-◌, option_map}
use Rattle.p416_syntax.specs.Tree.{Exp16, literal, truth, error, name, member, index, slice, call, lookahead, cast, unary, binary, choice, parenthesized, no_arguments, argument, listed}
use Rattle.p416_syntax.specs.Subtrees.{subexpressions}
use Rattle.p416_syntax.specs.Names.{Name}
use Rattle.p416_syntax.specs.Kinds as kind
use Rattle.p416_syntax.specs.Kinds.{Kind}
use Rattle.p416_syntax.specs.Scopes.{Scope, kind_of_type}
use Rattle.p416_syntax.specs.Calls.{Place, value, any_bits, owner, a_stack}
use Rattle.p416_syntax.specs.Expressions.{kind_of}
use Rattle.p416_syntax.specs.Uses.{unary_place, left_place, right_place, cast_place, chosen_place}
use Rattle.v1_core.specs.Ready as ready
use Rattle.v1_core.specs.Ready.{Ready}
use Rattle.v1_core.specs.Values.{a_truth, an_error}
use Rattle.v1_core.specs.Expressions.{literal_number, number_of_error}
use Rattle.p416_syntax.specs.declared.node.CastType.{CastType}
use Rattle.p416_syntax.specs.declared.node.CastType.TheVariants as cast_to
use Rattle.v1_ready_forms.specs.Named.{NamedSeat}
use Rattle.v1_ready_forms.specs.Ways.{Way, its_value, its_validity, through_member, through_element, through_told}
use Rattle.v1_ready_forms.specs.Expressions.{alone, only_error, member_ready, method_ready, name_ready, lookahead_ready, cast_ready, asked_ready}
use Rattle.v1_ready_program.specs.internal.Passes.{Ask, passed, asked, called, Plan, nothing, leaf, same, sliced, unary_by, binary_by, choice_by, member_asks, validity_asked, method_asks, alone_by, leaf_by, if_error, member_plan, lookahead_plan, cast_plan, plans, Parts, no_parts, only, parts_in, behind_parts, made, built, ready_by}

module _ (s : Scope) (seats : List NamedSeat) where
  -- what is built behind these asks of these expressions
  abbrev after : List Ask → List Exp16 → List (Option Ready)
  after qs es = built (plans s seats qs es) es

  abbrev Builds : Exp16 → Type 0
  Builds e = (q : Ask) (qs : List Ask) (more : List Exp16) → after (q ∷ qs) (subexpressions e ++ more) ≡ ready_by s seats q e ∷ after qs more

  -- parts, one behind another

  pub two : (a b : Exp16) → Builds a → Builds b → (p q : Ask) (qs : List Ask) (more : List Exp16)
      → after (p ∷ q ∷ qs) ((subexpressions a ++ subexpressions b) ++ more) ≡ ready_by s seats p a ∷ ready_by s seats q b ∷ after qs more
  two a b of_a of_b p q qs more =
      ap (after (p ∷ q ∷ qs)) (append_assoc (subexpressions a) (subexpressions b) more)
      ∙ (of_a p (q ∷ qs) (subexpressions b ++ more) ∙ ap (λ vs. ready_by s seats p a ∷ vs) (of_b q qs more))

  pub three : (c a b : Exp16) → Builds c → Builds a → Builds b → (o p q : Ask) (qs : List Ask) (more : List Exp16)
      → after (o ∷ p ∷ q ∷ qs) ((subexpressions c ++ subexpressions a ++ subexpressions b) ++ more)
      ≡ ready_by s seats o c ∷ ready_by s seats p a ∷ ready_by s seats q b ∷ after qs more
  three c a b of_c of_a of_b o p q qs more =
      ap (λ es. after (o ∷ p ∷ q ∷ qs) (es ++ more)) (append_assoc (subexpressions c) (subexpressions a) (subexpressions b))
      ∙ (ap (after (o ∷ p ∷ q ∷ qs)) (append_assoc (subexpressions c) (subexpressions a ++ subexpressions b) more)
      ∙ (of_c o (p ∷ q ∷ qs) ((subexpressions a ++ subexpressions b) ++ more)
      ∙ ap (λ vs. ready_by s seats o c ∷ vs) (two a b of_a of_b p q qs more)))

  -- plans that make nothing unless the value is asked

  alone_made : (way : Way) (plan : Plan) (x : Parts) → made (alone_by way plan) x ≡ alone way (made plan x)
  alone_made its_value plan x = refl
  alone_made its_validity plan x = refl
  alone_made (through_member word way) plan x = refl
  alone_made (through_element n way) plan x = refl
  alone_made (through_told which way) plan x = refl

  leaf_made : (o : Option Ready) (x : Parts) → made (leaf_by o) x ≡ o
  leaf_made (Some r) x = refl
  leaf_made None x = refl

  -- what stands before a member, and before a method

  error_made : (e : Exp16) (plan : Plan) (x : Parts) (r : Option Ready) → made plan x ≡ r → made (if_error e plan) x ≡ only_error e r
  error_made (literal n) plan x r is = refl
  error_made (truth b) plan x r is = refl
  error_made error plan x r is = is
  error_made (name text) plan x r is = refl
  error_made (member f word) plan x r is = refl
  error_made (index f n) plan x r is = refl
  error_made (slice f high low) plan x r is = refl
  error_made (call f inner) plan x r is = refl
  error_made (lookahead f to inner) plan x r is = refl
  error_made (cast to f) plan x r is = refl
  error_made (unary operator f) plan x r is = refl
  error_made (binary operator a b) plan x r is = refl
  error_made (choice c a b) plan x r is = refl
  error_made (parenthesized f) plan x r is = refl
  error_made no_arguments plan x r is = refl
  error_made (argument before last) plan x r is = refl
  error_made (listed es) plan x r is = refl

  member_made : (k : Kind) (word : Name) (way : Way) (e : Exp16)
      → made (member_plan k e word way) (only (ready_by s seats (member_asks k word way) e)) ≡ member_ready k e word way (λ further. asked_ready s seats owner further e)
  member_made (kind.bits w) word way e = refl
  member_made kind.unsized word way e = refl
  member_made kind.boolean word way e = refl
  member_made kind.error_code word way e = refl
  member_made (kind.header type) word way e = refl
  member_made (kind.stack type size) word way e = refl
  member_made (kind.struct type) word way e = refl
  member_made kind.packet_in word way e = refl
  member_made kind.packet_out word way e = refl
  member_made kind.errors word way e =
      error_made e (alone_by way (leaf (ready.constant (an_error (number_of_error word))))) (only None) (alone way (Some (ready.constant (an_error (number_of_error word)))))
      (alone_made way (leaf (ready.constant (an_error (number_of_error word)))) (only None))
  member_made (kind.enumeration of) word way e = refl
  member_made (kind.one_of of) word way e = refl
  member_made kind.table word way e = refl
  member_made kind.applied word way e = refl
  member_made (kind.object of) word way e = refl
  member_made kind.items word way e = refl
  member_made kind.nothing word way e = refl
  member_made kind.unknown word way e = refl

  validity_made : (way : Way) (e : Exp16) → ready_by s seats (validity_asked way) e ≡ alone way (asked_ready s seats owner its_validity e)
  validity_made its_value e = refl
  validity_made its_validity e = refl
  validity_made (through_member word way) e = refl
  validity_made (through_element n way) e = refl
  validity_made (through_told which way) e = refl

  method_made : (k : Kind) (way : Way) (e : Exp16) → ready_by s seats (method_asks k way) e ≡ method_ready k way (λ further. asked_ready s seats owner further e)
  method_made (kind.bits w) way e = refl
  method_made kind.unsized way e = refl
  method_made kind.boolean way e = refl
  method_made kind.error_code way e = refl
  method_made (kind.header type) way e = validity_made way e
  method_made (kind.stack type size) way e = refl
  method_made (kind.struct type) way e = refl
  method_made kind.packet_in way e = refl
  method_made kind.packet_out way e = refl
  method_made kind.errors way e = refl
  method_made (kind.enumeration of) way e = refl
  method_made (kind.one_of of) way e = refl
  method_made kind.table way e = refl
  method_made kind.applied way e = refl
  method_made (kind.object of) way e = refl
  method_made kind.items way e = refl
  method_made kind.nothing way e = refl
  method_made kind.unknown way e = refl

  lookahead_made : (k : Kind) (x : Parts) → made (lookahead_plan k) x ≡ lookahead_ready k
  lookahead_made (kind.bits w) x = refl
  lookahead_made kind.unsized x = refl
  lookahead_made kind.boolean x = refl
  lookahead_made kind.error_code x = refl
  lookahead_made (kind.header type) x = refl
  lookahead_made (kind.stack type size) x = refl
  lookahead_made (kind.struct type) x = refl
  lookahead_made kind.packet_in x = refl
  lookahead_made kind.packet_out x = refl
  lookahead_made kind.errors x = refl
  lookahead_made (kind.enumeration of) x = refl
  lookahead_made (kind.one_of of) x = refl
  lookahead_made kind.table x = refl
  lookahead_made kind.applied x = refl
  lookahead_made (kind.object of) x = refl
  lookahead_made kind.items x = refl
  lookahead_made kind.nothing x = refl
  lookahead_made kind.unknown x = refl

  cast_made : (to : CastType) (x : Parts) → made (cast_plan to) x ≡ option_map (cast_ready to) x.first
  cast_made (cast_to.Bit w) x = refl
  cast_made cast_to.Bool x = refl

  -- the place of a call and its arguments don't matter
  call_same : (e given : Exp16) (p : Place) (way : Way) → asked_ready s seats any_bits way (call e e) ≡ asked_ready s seats p way (call e given)
  call_same (literal n) given p way = refl
  call_same (truth b) given p way = refl
  call_same error given p way = refl
  call_same (name text) given p way = refl
  call_same (member e word) given p way = refl
  call_same (index e n) given p way = refl
  call_same (slice e high low) given p way = refl
  call_same (call e inner) given p way = refl
  call_same (lookahead e to inner) given p way = refl
  call_same (cast to e) given p way = refl
  call_same (unary operator e) given p way = refl
  call_same (binary operator a b) given p way = refl
  call_same (choice c a b) given p way = refl
  call_same (parenthesized e) given p way = refl
  call_same no_arguments given p way = refl
  call_same (argument before last) given p way = refl
  call_same (listed es) given p way = refl

  -- an expression whose parts are built
  abbrev step : Exp16 → Plan → List (Option Ready) → List (Option Ready)
  step e plan vs = made plan (parts_in e vs) ∷ behind_parts e vs

  abbrev in_front : (qs : List Ask) (more : List Exp16) → Option Ready → List (Option Ready)
  in_front qs more v = v ∷ after qs more

  pub builds : (e : Exp16) → Builds e
  builds (literal n) passed qs more = refl
  builds (literal n) (asked p way) qs more =
      ap (in_front qs more) (alone_made way (leaf (ready.constant (literal_number p n))) no_parts)
  builds (literal n) (called way) qs more = refl
  builds (truth b) passed qs more = refl
  builds (truth b) (asked p way) qs more =
      ap (in_front qs more) (alone_made way (leaf (ready.constant (a_truth b))) no_parts)
  builds (truth b) (called way) qs more = refl
  builds error passed qs more = refl
  builds error (asked p way) qs more = refl
  builds error (called way) qs more = refl
  builds (name text) passed qs more = refl
  builds (name text) (asked p way) qs more =
      ap (in_front qs more) (leaf_made (name_ready s.layouts seats way text) no_parts)
  builds (name text) (called way) qs more = refl
  builds (member e word) passed qs more = ap (step (member e word) nothing) (builds e passed qs more)
  builds (member e word) (asked p way) qs more =
      ap (step (member e word) (member_plan (kind_of s e) e word way)) (builds e (member_asks (kind_of s e) word way) qs more) ∙ ap (in_front qs more) (member_made (kind_of s e) word way e)
  builds (member e word) (called way) qs more =
      ap (step (member e word) same) (builds e (method_asks (kind_of s e) way) qs more) ∙ ap (in_front qs more) (method_made (kind_of s e) way e)
  builds (index e n) passed qs more = ap (step (index e n) nothing) (builds e passed qs more)
  builds (index e n) (asked p way) qs more =
      ap (step (index e n) same) (builds e (asked a_stack (through_element n.value way)) qs more)
  builds (index e n) (called way) qs more = ap (step (index e n) nothing) (builds e passed qs more)
  builds (slice e high low) passed qs more =
      ap (step (slice e high low) nothing) (builds e passed qs more)
  builds (slice e high low) (asked p way) qs more =
      ap (step (slice e high low) (alone_by way (sliced low.value (suc high.value - low.value)))) (builds e (asked any_bits its_value) qs more) ∙ ap (in_front qs more) (alone_made way (sliced low.value (suc high.value - low.value)) (only (asked_ready s seats any_bits its_value e)))
  builds (slice e high low) (called way) qs more =
      ap (step (slice e high low) nothing) (builds e passed qs more)
  builds (call e given) passed qs more =
      ap (step (call e given) nothing) (two e given (builds e) (builds given) passed passed qs more)
  builds (call e given) (asked p way) qs more =
      ap (step (call e given) same) (two e given (builds e) (builds given) (called way) passed qs more) ∙ ap (in_front qs more) (call_same e given p way)
  builds (call e given) (called way) qs more =
      ap (step (call e given) nothing) (two e given (builds e) (builds given) passed passed qs more)
  builds (lookahead e to given) passed qs more =
      ap (step (lookahead e to given) nothing) (two e given (builds e) (builds given) passed passed qs more)
  builds (lookahead e to given) (asked p way) qs more =
      ap (step (lookahead e to given) (alone_by way (lookahead_plan (kind_of_type s.names to)))) (two e given (builds e) (builds given) passed passed qs more) ∙ ap (in_front qs more) (alone_made way (lookahead_plan (kind_of_type s.names to)) (only None) ∙ ap (alone way) (lookahead_made (kind_of_type s.names to) (only None)))
  builds (lookahead e to given) (called way) qs more =
      ap (step (lookahead e to given) nothing) (two e given (builds e) (builds given) passed passed qs more)
  builds (cast to e) passed qs more = ap (step (cast to e) nothing) (builds e passed qs more)
  builds (cast to e) (asked p way) qs more =
      ap (step (cast to e) (alone_by way (cast_plan to))) (builds e (asked (cast_place to) its_value) qs more) ∙ ap (in_front qs more) (alone_made way (cast_plan to) (only (asked_ready s seats (cast_place to) its_value e)) ∙ ap (alone way) (cast_made to (only (asked_ready s seats (cast_place to) its_value e))))
  builds (cast to e) (called way) qs more = ap (step (cast to e) nothing) (builds e passed qs more)
  builds (unary operator e) passed qs more =
      ap (step (unary operator e) nothing) (builds e passed qs more)
  builds (unary operator e) (asked p way) qs more =
      ap (step (unary operator e) (alone_by way (unary_by operator))) (builds e (asked (unary_place p operator (kind_of s e)) its_value) qs more) ∙ ap (in_front qs more) (alone_made way (unary_by operator) (only (asked_ready s seats (unary_place p operator (kind_of s e)) its_value e)))
  builds (unary operator e) (called way) qs more =
      ap (step (unary operator e) nothing) (builds e passed qs more)
  builds (binary operator a b) passed qs more =
      ap (step (binary operator a b) nothing) (two a b (builds a) (builds b) passed passed qs more)
  builds (binary operator a b) (asked p way) qs more =
      ap (step (binary operator a b) (alone_by way (binary_by operator))) (two a b (builds a) (builds b) (asked (left_place p operator (kind_of s a) (kind_of s b)) its_value) (asked (right_place p operator (kind_of s a) (kind_of s b)) its_value) qs more) ∙ ap (in_front qs more) (alone_made way (binary_by operator) (record { first = asked_ready s seats (left_place p operator (kind_of s a) (kind_of s b)) its_value a; second = asked_ready s seats (right_place p operator (kind_of s a) (kind_of s b)) its_value b; third = None }))
  builds (binary operator a b) (called way) qs more =
      ap (step (binary operator a b) nothing) (two a b (builds a) (builds b) passed passed qs more)
  builds (choice c a b) passed qs more =
      ap (step (choice c a b) nothing) (three c a b (builds c) (builds a) (builds b) passed passed passed qs more)
  builds (choice c a b) (asked p way) qs more =
      ap (step (choice c a b) choice_by) (three c a b (builds c) (builds a) (builds b) (asked (value kind.boolean) its_value) (asked (chosen_place p (kind_of s a) (kind_of s b)) way) (asked (chosen_place p (kind_of s a) (kind_of s b)) way) qs more)
  builds (choice c a b) (called way) qs more =
      ap (step (choice c a b) nothing) (three c a b (builds c) (builds a) (builds b) passed passed passed qs more)
  builds (parenthesized e) passed qs more =
      ap (step (parenthesized e) nothing) (builds e passed qs more)
  builds (parenthesized e) (asked p way) qs more =
      ap (step (parenthesized e) nothing) (builds e passed qs more)
  builds (parenthesized e) (called way) qs more =
      ap (step (parenthesized e) nothing) (builds e passed qs more)
  builds no_arguments passed qs more = refl
  builds no_arguments (asked p way) qs more = refl
  builds no_arguments (called way) qs more = refl
  builds (argument before last) passed qs more =
      ap (step (argument before last) nothing) (two before last (builds before) (builds last) passed passed qs more)
  builds (argument before last) (asked p way) qs more =
      ap (step (argument before last) nothing) (two before last (builds before) (builds last) passed passed qs more)
  builds (argument before last) (called way) qs more =
      ap (step (argument before last) nothing) (two before last (builds before) (builds last) passed passed qs more)
  builds (listed es) passed qs more = ap (step (listed es) nothing) (builds es passed qs more)
  builds (listed es) (asked p way) qs more = ap (step (listed es) nothing) (builds es passed qs more)
  builds (listed es) (called way) qs more = ap (step (listed es) nothing) (builds es passed qs more)

  -- an expression by itself
  pub builds_whole : (e : Exp16) (q : Ask) → after (q ∷ []) (subexpressions e) ≡ ready_by s seats q e ∷ []
  builds_whole e q = ap (after (q ∷ [])) (sym (append-nil (subexpressions e))) ∙ builds e q [] []
