-- An expression is judged from its front to its end as it is judged within itself.
use Rattle.std.proofs.Common.{◌≡◌, ℕ, ◌+◌, ◌-◌, ◌<◌, List, [], ◌∷◌, ◌++◌, length, drop, map, get_or, refl, sym, ap, ◌∙◌, arith, add-one, drop-cons}
use Rattle.std.proofs.lemmas.List.{append_assoc, append-nil}
use Rattle.p416_syntax.specs.Tree.{Exp16, literal, truth, error, name, member, index, slice, call, lookahead, cast, unary, binary, choice, parenthesized, no_arguments, argument, listed}
use Rattle.p416_syntax.specs.Subtrees.{subexpressions}
use Rattle.p416_syntax.specs.Kinds.{boolean}
use Rattle.p416_syntax.specs.Scopes.{Scope, Known}
use Rattle.p416_syntax.specs.Calls.{Place, value, any_bits, owner, a_stack, callee, unasked, method_signature}
use Rattle.p416_syntax.specs.Expressions.{kind_of, signature_of, argument_count}
use Rattle.p416_syntax.specs.Uses.{Use, Places, one, many, owner_place, wanted_by, cast_place, unary_place, left_place, right_place, chosen_place, uses_at}
use Rattle.p416_names.specs.SeenKinds.{seen_kind}
use Rattle.p416_typing.specs.declared.row.Row.{Row}
use Rattle.p416_typing.specs.Seen.{seen_row}
use Rattle.p416_typing.specs.Rows.{RowOf, row_of}
use Rattle.p416_typing.specs.internal.Steps.{top_of, rest_of}
use Rattle.p416_expression_uses.specs.Found.{Found, after_all}
use Rattle.p416_expression_uses.specs.internal.Runs.{Spot, passed, placed, single, front, behind_front, filled_parts, place_in, list_parts, parts_by, own_at, run, spot_uses}
use Rattle.p416_expression_uses.proofs.Finding.{after_both}

module _ (s : Scope) where
  abbrev Runs : Exp16 → Type 0
  Runs e = (q : Spot) (qs : List Spot) (more : List Exp16) → run s (q ∷ qs) (subexpressions e ++ more) ≡ spot_uses s q e ++ run s qs more

  -- parts, one behind another

  one_part : (a : Exp16) → Runs a → (own : List Use) (q : Spot) (qs : List Spot) (more : List Exp16)
      → own ++ run s (q ∷ qs) (subexpressions a ++ more) ≡ (own ++ spot_uses s q a) ++ run s qs more
  one_part a of_a own q qs more = ap (λ us. own ++ us) (of_a q qs more) ∙ sym (append_assoc own (spot_uses s q a) (run s qs more))

  two_parts : (a b : Exp16) → Runs a → Runs b → (own : List Use) (p q : Spot) (qs : List Spot) (more : List Exp16)
      → own ++ run s (p ∷ q ∷ qs) ((subexpressions a ++ subexpressions b) ++ more) ≡ ((own ++ spot_uses s p a) ++ spot_uses s q b) ++ run s qs more
  two_parts a b of_a of_b own p q qs more =
      ap (λ es. own ++ run s (p ∷ q ∷ qs) es) (append_assoc (subexpressions a) (subexpressions b) more)
      ∙ (one_part a of_a own p (q ∷ qs) (subexpressions b ++ more) ∙ one_part b of_b (own ++ spot_uses s p a) q qs more)

  three_parts : (c a b : Exp16) → Runs c → Runs a → Runs b → (own : List Use) (o p q : Spot) (qs : List Spot) (more : List Exp16)
      → own ++ run s (o ∷ p ∷ q ∷ qs) ((subexpressions c ++ subexpressions a ++ subexpressions b) ++ more)
      ≡ (((own ++ spot_uses s o c) ++ spot_uses s p a) ++ spot_uses s q b) ++ run s qs more
  three_parts c a b of_c of_a of_b own o p q qs more =
      ap (λ es. own ++ run s (o ∷ p ∷ q ∷ qs) es) (append_assoc (subexpressions c ++ subexpressions a) (subexpressions b) more)
      ∙ (two_parts c a of_c of_a own o p (q ∷ qs) (subexpressions b ++ more) ∙ one_part b of_b ((own ++ spot_uses s o c) ++ spot_uses s p a) q qs more)

  -- the number of arguments before the last one
  before_last : (before last : Exp16) (wanted : List Place) (otherwise : Place)
      → single (get_or wanted (argument_count before + 1 - 1) otherwise) ≡ single (get_or wanted (argument_count before) otherwise)
  before_last before last wanted otherwise =
      let same : argument_count before + 1 - 1 ≡ argument_count before = omega arith in
      ap (λ n. single (get_or wanted n otherwise)) same

  pub run_behind : (e : Exp16) → Runs e
  run_behind (literal n) passed qs more = refl
  run_behind (literal n) (placed (one p)) qs more = refl
  run_behind (literal n) (placed (many w o)) qs more = refl
  run_behind (truth b) passed qs more = refl
  run_behind (truth b) (placed (one p)) qs more = refl
  run_behind (truth b) (placed (many w o)) qs more = refl
  run_behind error passed qs more = refl
  run_behind error (placed (one p)) qs more = refl
  run_behind error (placed (many w o)) qs more = refl
  run_behind (name text) passed qs more = refl
  run_behind (name text) (placed (one p)) qs more = refl
  run_behind (name text) (placed (many w o)) qs more = refl
  run_behind (member e word) passed qs more = one_part e (run_behind e) [] passed qs more
  run_behind (member e word) (placed (one p)) qs more =
      one_part e (run_behind e) (own_at s (single p) (member e word)) (single (owner_place p (method_signature (kind_of s e) word))) qs more
  run_behind (member e word) (placed (many w o)) qs more = one_part e (run_behind e) [] passed qs more
  run_behind (index e n) passed qs more = one_part e (run_behind e) [] passed qs more
  run_behind (index e n) (placed (one p)) qs more = one_part e (run_behind e) (own_at s (single p) (index e n)) (single a_stack) qs more
  run_behind (index e n) (placed (many w o)) qs more = one_part e (run_behind e) [] passed qs more
  run_behind (slice e high low) passed qs more = one_part e (run_behind e) [] passed qs more
  run_behind (slice e high low) (placed (one p)) qs more = one_part e (run_behind e) (own_at s (single p) (slice e high low)) (single any_bits) qs more
  run_behind (slice e high low) (placed (many w o)) qs more = one_part e (run_behind e) [] passed qs more
  run_behind (call e given) passed qs more = two_parts e given (run_behind e) (run_behind given) [] passed passed qs more
  run_behind (call e given) (placed (one p)) qs more =
      two_parts e given (run_behind e) (run_behind given) (own_at s (single p) (call e given)) (single callee) (placed (many (wanted_by (signature_of s e)) unasked)) qs more
  run_behind (call e given) (placed (many w o)) qs more = two_parts e given (run_behind e) (run_behind given) [] passed passed qs more
  run_behind (lookahead e to given) passed qs more = two_parts e given (run_behind e) (run_behind given) [] passed passed qs more
  run_behind (lookahead e to given) (placed (one p)) qs more =
      two_parts e given (run_behind e) (run_behind given) (own_at s (single p) (lookahead e to given)) (single owner) (placed (many [] unasked)) qs more
  run_behind (lookahead e to given) (placed (many w o)) qs more = two_parts e given (run_behind e) (run_behind given) [] passed passed qs more
  run_behind (cast to e) passed qs more = one_part e (run_behind e) [] passed qs more
  run_behind (cast to e) (placed (one p)) qs more = one_part e (run_behind e) (own_at s (single p) (cast to e)) (single (cast_place to)) qs more
  run_behind (cast to e) (placed (many w o)) qs more = one_part e (run_behind e) [] passed qs more
  run_behind (unary operator e) passed qs more = one_part e (run_behind e) [] passed qs more
  run_behind (unary operator e) (placed (one p)) qs more =
      one_part e (run_behind e) (own_at s (single p) (unary operator e)) (single (unary_place p operator (kind_of s e))) qs more
  run_behind (unary operator e) (placed (many w o)) qs more = one_part e (run_behind e) [] passed qs more
  run_behind (binary operator a b) passed qs more = two_parts a b (run_behind a) (run_behind b) [] passed passed qs more
  run_behind (binary operator a b) (placed (one p)) qs more =
      two_parts a b (run_behind a) (run_behind b) (own_at s (single p) (binary operator a b))
      (single (left_place p operator (kind_of s a) (kind_of s b))) (single (right_place p operator (kind_of s a) (kind_of s b))) qs more
  run_behind (binary operator a b) (placed (many w o)) qs more = two_parts a b (run_behind a) (run_behind b) [] passed passed qs more
  run_behind (choice c a b) passed qs more = three_parts c a b (run_behind c) (run_behind a) (run_behind b) [] passed passed passed qs more
  run_behind (choice c a b) (placed (one p)) qs more =
      three_parts c a b (run_behind c) (run_behind a) (run_behind b) (own_at s (single p) (choice c a b)) (single (value boolean))
      (single (chosen_place p (kind_of s a) (kind_of s b))) (single (chosen_place p (kind_of s a) (kind_of s b))) qs more
  run_behind (choice c a b) (placed (many w o)) qs more = three_parts c a b (run_behind c) (run_behind a) (run_behind b) [] passed passed passed qs more
  run_behind (parenthesized e) passed qs more = one_part e (run_behind e) [] passed qs more
  run_behind (parenthesized e) (placed (one p)) qs more = one_part e (run_behind e) (own_at s (single p) (parenthesized e)) passed qs more
  run_behind (parenthesized e) (placed (many w o)) qs more = one_part e (run_behind e) [] passed qs more
  run_behind no_arguments passed qs more = refl
  run_behind no_arguments (placed (one p)) qs more = refl
  run_behind no_arguments (placed (many w o)) qs more = refl
  run_behind (argument before last) passed qs more = two_parts before last (run_behind before) (run_behind last) [] passed passed qs more
  run_behind (argument before last) (placed (one p)) qs more =
      two_parts before last (run_behind before) (run_behind last) (own_at s (single p) (argument before last)) passed passed qs more
  run_behind (argument before last) (placed (many w o)) qs more =
      ap (λ q. run s (placed (many w o) ∷ q ∷ qs) ((subexpressions before ++ subexpressions last) ++ more)) (before_last before last w o)
      ∙ two_parts before last (run_behind before) (run_behind last) [] (placed (many w o)) (single (get_or w (argument_count before) o)) qs more
  run_behind (listed es) passed qs more = one_part es (run_behind es) [] passed qs more
  run_behind (listed es) (placed (one p)) qs more = one_part es (run_behind es) (own_at s (single p) (listed es)) (placed (many [] any_bits)) qs more
  run_behind (listed es) (placed (many w o)) qs more = one_part es (run_behind es) [] passed qs more

  -- an expression by itself
  pub run_whole : (e : Exp16) (places : Places) → run s (placed places ∷ []) (subexpressions e) ≡ uses_at s places e
  run_whole e places =
      ap (run s (placed places ∷ [])) (sym (append-nil (subexpressions e)))
      ∙ (run_behind e (placed places) [] [] ∙ append-nil (uses_at s places e))

  -- one turn
  pub run_turn : (qs mid new : List Spot) (q : Spot) (r : RowOf) (x h : Exp16) (found next : Found)
      → new ≡ parts_by r q h ++ mid → mid ≡ behind_front qs → q ≡ front qs → next ≡ after_all found (own_at s q x) → x ≡ h → r ≡ row_of s x
      → (rest : List Exp16) → after_all next (run s new rest) ≡ after_all found (run s qs (x ∷ rest))
  run_turn qs mid new q r x h found next of_new of_mid of_front of_next of_head of_row rest =
      ap (λ f. after_all f (run s new rest)) of_next
      ∙ (ap (λ spots. after_all (after_all found (own_at s q x)) (run s spots rest)) (of_new ∙ spots_are)
      ∙ (ap (λ p. after_all (after_all found (own_at s p x)) (run s (parts_by (row_of s x) (front qs) x ++ behind_front qs) rest)) of_front
      ∙ sym (after_both found (own_at s (front qs) x) (run s (parts_by (row_of s x) (front qs) x ++ behind_front qs) rest))))
    where
      spots_are : parts_by r q h ++ mid ≡ parts_by (row_of s x) (front qs) x ++ behind_front qs
      spots_are = rw (of_front, of_mid, of_row, sym of_head) refl

  -- an expression that was judged
  pub whole_told : (f g : Found) (e : Exp16) (places : Places) (spots : List Spot) (views : List Exp16) → spots ≡ placed places ∷ [] → views ≡ subexpressions e
      → g ≡ after_all f (run s spots views) → g ≡ after_all f (uses_at s places e)
  whole_told f g e places spots views of_spots of_views is =
      is ∙ (ap (λ qs. after_all f (run s qs views)) of_spots ∙ (ap (λ es. after_all f (run s (placed places ∷ []) es)) of_views ∙ ap (after_all f) (run_whole e places)))

-- what is known of the first of the expressions

pub row_here : (s : Scope) (rows : List RowOf) (r : RowOf) (x : Exp16) → r ≡ top_of rows → top_of rows ≡ row_of s x → r ≡ row_of s x
row_here s rows r x is known = is ∙ known

pub root_is : (s : Scope) (e : Exp16) → top_of (map (row_of s) (subexpressions e)) ≡ row_of s e
root_is s (literal n) = refl
root_is s (truth b) = refl
root_is s error = refl
root_is s (name text) = refl
root_is s (member e word) = refl
root_is s (index e n) = refl
root_is s (slice e high low) = refl
root_is s (call e given) = refl
root_is s (lookahead e to given) = refl
root_is s (cast to e) = refl
root_is s (unary operator e) = refl
root_is s (binary operator a b) = refl
root_is s (choice c a b) = refl
root_is s (parenthesized e) = refl
root_is s no_arguments = refl
root_is s (argument before last) = refl
root_is s (listed es) = refl

pub root_stays : (s : Scope) (e : Exp16) → top_of (map (row_of s) (subexpressions e)) ∷ rest_of (map (row_of s) (subexpressions e)) ≡ map (row_of s) (subexpressions e)
root_stays s (literal n) = refl
root_stays s (truth b) = refl
root_stays s error = refl
root_stays s (name text) = refl
root_stays s (member e word) = refl
root_stays s (index e n) = refl
root_stays s (slice e high low) = refl
root_stays s (call e given) = refl
root_stays s (lookahead e to given) = refl
root_stays s (cast to e) = refl
root_stays s (unary operator e) = refl
root_stays s (binary operator a b) = refl
root_stays s (choice c a b) = refl
root_stays s (parenthesized e) = refl
root_stays s no_arguments = refl
root_stays s (argument before last) = refl
root_stays s (listed es) = refl

pub root_kind : (top : List Known) (row : Row) (rows : List RowOf) (s : Scope) (e : Exp16) → seen_row top row ≡ top_of rows → rows ≡ map (row_of s) (subexpressions e)
    → seen_kind row.kind ≡ kind_of s e
root_kind top row rows s e is known = ap (λ (v : RowOf). v.kind) (is ∙ (ap top_of known ∙ root_is s e))

pub rows_told : (rows new : List RowOf) (s : Scope) (e : Exp16) (views : List Exp16) → new ≡ top_of rows ∷ rest_of rows → rows ≡ map (row_of s) (subexpressions e) → views ≡ subexpressions e
    → new ≡ map (row_of s) views
rows_told rows new s e views is known of_views =
    is ∙ (ap (λ rs. top_of rs ∷ rest_of rs) known ∙ (root_stays s e ∙ ap (map (row_of s)) (sym of_views)))

-- a turn of the loop over the expressions

pub next : {X : Type 0} (xs : List X) (i : ℕ) (x : X) → i < length xs → x ≡ get_or xs i x → drop i xs ≡ x ∷ drop (i + 1) xs
next xs i x lt is =
    let e : drop i xs ≡ get_or xs i x ∷ drop (i + 1) xs = rw (add-one, drop-cons xs i x lt) refl in
    e ∙ ap (λ y. y ∷ drop (i + 1) xs) (sym is)

pub run_on : (s : Scope) (views : List Exp16) (i : ℕ) (x : Exp16) (qs new : List Spot) (found after_it whole : Found) → i < length views → x ≡ get_or views i x
    → ((rest : List Exp16) → after_all after_it (run s new rest) ≡ after_all found (run s qs (x ∷ rest))) → after_all found (run s qs (drop i views)) ≡ whole
    → after_all after_it (run s new (drop (i + 1) views)) ≡ whole
run_on s views i x qs new found after_it whole lt is step so =
    step (drop (i + 1) views) ∙ (ap (λ es. after_all found (run s qs es)) (sym (next views i x lt is)) ∙ so)

pub rows_on : (s : Scope) (views : List Exp16) (i : ℕ) (x : Exp16) (rows new : List RowOf) → i < length views → x ≡ get_or views i x
    → new ≡ rest_of rows → rows ≡ map (row_of s) (drop i views) → new ≡ map (row_of s) (drop (i + 1) views)
rows_on s views i x rows new lt is step known = step ∙ ap rest_of (known ∙ ap (map (row_of s)) (next views i x lt is))

-- the parts of an argument list, the last of which has the place with its number
pub list_told : (wanted : List Place) (otherwise : Place) (count n : ℕ) (p : Place) (q : Spot) (e : Exp16) (old new : List Spot) → n ≡ count - 1 → p ≡ place_in wanted otherwise n → q ≡ single p
    → new ≡ filled_parts (placed (many wanted otherwise)) q e ++ old → new ≡ list_parts wanted otherwise count e ++ old
list_told wanted otherwise count n p q e old new of_number of_place of_spot is =
    is ∙ ap (λ r. filled_parts (placed (many wanted otherwise)) r e ++ old) (of_spot ∙ (ap single of_place ∙ ap (λ m. single (place_in wanted otherwise m)) of_number))
