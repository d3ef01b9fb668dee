-- The stack holds what is known of the expressions that were gone through whole.
use Rattle.std.proofs.Common.{◌≡◌, ℕ, ◌+◌, Bool, true, false, cond, nat_eq, if◌then◌else◌, List, [], ◌∷◌, ◌++◌, map, refl, sym, ap, ◌∙◌, arith}
use Rattle.std.proofs.lemmas.Bool.Decides.{nat_tests}
use Rattle.std.proofs.lemmas.List.{append_assoc, append-nil, map-append}
use Rattle.p416_syntax.specs.Tree.{Exp16, literal, truth, error, name, member, index, slice, call, lookahead, cast, unary, binary, choice, parenthesized, no_arguments, argument, listed}
use Rattle.p416_syntax.specs.Subtrees.{subexpressions}
use Rattle.std.specs.Prelude.{codes}
use Rattle.std.specs.Str.{bytes_eq}
use Rattle.p416_syntax.specs.Names.{Name}
use Rattle.std.specs.Prelude.{Option}
use Rattle.p416_syntax.specs.Kinds.{Kind}
use Rattle.p416_syntax.specs.Calls.{Signature}
use Rattle.p416_syntax.specs.Scopes.{Scope, sort_of}
use Rattle.p416_syntax.specs.Expressions.{kind_of, signature_of, call_kind, argument_count, sort_kind, sort_signature, can_write}
use Rattle.p416_syntax.specs.Uses.{arguments_of}
use Rattle.p416_syntax.specs.Externs.{clone_positions, first_clone_positions}
use Rattle.p416_typing.specs.Rows.{RowOf, row_of}
use Rattle.p416_typing.specs.internal.Steps.{no_row, word_positions, member_row, argument_row, call_row, pushed, values_of, rows_of, top_of}

-- a call gives what the signature of what is called says
call_gives : (s : Scope) (e given : Exp16) → kind_of s (call e given) ≡ call_kind (signature_of s e)
call_gives s (literal n) given = refl
call_gives s (truth b) given = refl
call_gives s error given = refl
call_gives s (name text) given = refl
call_gives s (member e word) given = refl
call_gives s (index e at) given = refl
call_gives s (slice e high low) given = refl
call_gives s (call e inner) given = refl
call_gives s (lookahead e to inner) given = refl
call_gives s (cast to e) given = refl
call_gives s (unary operator e) given = refl
call_gives s (binary operator a b) given = refl
call_gives s (choice c a b) given = refl
call_gives s (parenthesized e) given = refl
call_gives s no_arguments given = refl
call_gives s (argument before last) given = refl
call_gives s (listed es) given = refl

-- the first of a list with one argument more

first_more : (before last : Exp16) → first_clone_positions (arguments_of before ++ last ∷ []) ≡ (if nat_eq (argument_count before) 0 then clone_positions last else first_clone_positions (arguments_of before))
first_more (argument before more) last = first_kept (arguments_of before) more last ∙ sym (not_none (argument_count before) _ _)
  where
    first_kept : (es : List Exp16) (e f : Exp16) → first_clone_positions ((es ++ e ∷ []) ++ f ∷ []) ≡ first_clone_positions (es ++ e ∷ [])
    first_kept [] e f = refl
    first_kept (x ∷ es) e f = refl

    not_none : (n : ℕ) (xs ys : List ℕ) → (if nat_eq (n + 1) 0 then xs else ys) ≡ ys
    not_none n xs ys = let apart : nat_eq (n + 1) 0 ≡ false = grind (arith, nat_tests) in ap (λ b. cond b xs ys) apart
first_more (literal n) last = refl
first_more (truth b) last = refl
first_more error last = refl
first_more (name text) last = refl
first_more (member e word) last = refl
first_more (index e at) last = refl
first_more (slice e high low) last = refl
first_more (call e given) last = refl
first_more (lookahead e to given) last = refl
first_more (cast to e) last = refl
first_more (unary operator e) last = refl
first_more (binary operator a b) last = refl
first_more (choice c a b) last = refl
first_more (parenthesized e) last = refl
first_more no_arguments last = refl
first_more (listed es) last = refl

-- where a clone is made by a member of this name

member_place : (e : Exp16) (word : Name) (b : Bool) → bytes_eq word (codes "I2E") ≡ b → word_positions word ≡ clone_positions (member e word)
member_place e word true is = rw is refl
member_place e word false is = rw is refl

member_more : (s : Scope) (e : Exp16) (word : Name) → member_row s (row_of s e) word ≡ row_of s (member e word)
member_more s e word = ap (λ positions. record (row_of s (member e word)) { clone = positions }) (member_place e word (bytes_eq word (codes "I2E")) refl)

argument_more : (s : Scope) (before last : Exp16) → argument_row (row_of s before) (row_of s last) ≡ row_of s (argument before last)
argument_more s before last = ap (λ positions. record no_row { count = argument_count before + 1; first = positions }) (sym (first_more before last))

call_more : (s : Scope) (e given : Exp16) → call_row (row_of s e) (row_of s given) ≡ row_of s (call e given)
call_more s e given =
    ap (λ k. record no_row { kind = k; called = signature_of s e; given = argument_count given; given_first = first_clone_positions (arguments_of given) }) (sym (call_gives s e given))

-- a row whose parts are told one by one

pub name_known : (s : Scope) (text : Name) (k : Kind) (callee : Option Signature) (can : Bool) → k ≡ sort_kind (sort_of s text) → callee ≡ sort_signature (sort_of s text) text → can ≡ can_write s (name text)
    → record no_row { kind = k; callee = callee; can_write = can } ≡ row_of s (name text)
name_known s text k callee can of_kind of_callee of_can = rw (of_kind, of_callee, of_can) refl

pub argument_known : (n : ℕ) (positions : List ℕ) (before last : RowOf) → n ≡ before.count + 1 → positions ≡ (argument_row before last).first
    → record no_row { count = n; first = positions } ≡ argument_row before last
argument_known n positions before last of_count of_first = rw (of_count, of_first) refl

module _ (s : Scope) where
  -- parts, one behind another
  two : (a b : Exp16) (more : List Exp16)
      → ((rest : List Exp16) → values_of s (subexpressions a ++ rest) ≡ row_of s a ∷ values_of s rest)
      → ((rest : List Exp16) → values_of s (subexpressions b ++ rest) ≡ row_of s b ∷ values_of s rest)
      → values_of s ((subexpressions a ++ subexpressions b) ++ more) ≡ row_of s a ∷ row_of s b ∷ values_of s more
  two a b more of_a of_b =
      ap (values_of s) (append_assoc (subexpressions a) (subexpressions b) more)
      ∙ (of_a (subexpressions b ++ more) ∙ ap (λ vs. row_of s a ∷ vs) (of_b more))

  three : (c a b : Exp16) (more : List Exp16)
      → ((rest : List Exp16) → values_of s (subexpressions c ++ rest) ≡ row_of s c ∷ values_of s rest)
      → ((rest : List Exp16) → values_of s (subexpressions a ++ rest) ≡ row_of s a ∷ values_of s rest)
      → ((rest : List Exp16) → values_of s (subexpressions b ++ rest) ≡ row_of s b ∷ values_of s rest)
      → values_of s ((subexpressions c ++ subexpressions a ++ subexpressions b) ++ more) ≡ row_of s c ∷ row_of s a ∷ row_of s b ∷ values_of s more
  three c a b more of_c of_a of_b =
      ap (λ es. values_of s (es ++ more)) (append_assoc (subexpressions c) (subexpressions a) (subexpressions b))
      ∙ (ap (values_of s) (append_assoc (subexpressions c) (subexpressions a ++ subexpressions b) more)
      ∙ (of_c ((subexpressions a ++ subexpressions b) ++ more) ∙ ap (λ vs. row_of s c ∷ vs) (two a b more of_a of_b)))

  pub values_behind : (e : Exp16) (more : List Exp16) → values_of s (subexpressions e ++ more) ≡ row_of s e ∷ values_of s more
  values_behind (literal n) more = refl
  values_behind (truth b) more = refl
  values_behind error more = refl
  values_behind (name text) more = refl
  values_behind (member e word) more = ap (pushed s (member e word)) (values_behind e more) ∙ ap (λ v. v ∷ values_of s more) (member_more s e word)
  values_behind (index e at) more = ap (pushed s (index e at)) (values_behind e more)
  values_behind (slice e high low) more = ap (pushed s (slice e high low)) (values_behind e more)
  values_behind (call e given) more =
      ap (pushed s (call e given)) (two e given more (values_behind e) (values_behind given)) ∙ ap (λ v. v ∷ values_of s more) (call_more s e given)
  values_behind (lookahead e to given) more = ap (pushed s (lookahead e to given)) (two e given more (values_behind e) (values_behind given))
  values_behind (cast to e) more = ap (pushed s (cast to e)) (values_behind e more)
  values_behind (unary operator e) more = ap (pushed s (unary operator e)) (values_behind e more)
  values_behind (binary operator a b) more = ap (pushed s (binary operator a b)) (two a b more (values_behind a) (values_behind b))
  values_behind (choice c a b) more = ap (pushed s (choice c a b)) (three c a b more (values_behind c) (values_behind a) (values_behind b))
  values_behind (parenthesized e) more = ap (pushed s (parenthesized e)) (values_behind e more)
  values_behind no_arguments more = refl
  values_behind (argument before last) more =
      ap (pushed s (argument before last)) (two before last more (values_behind before) (values_behind last)) ∙ ap (λ v. v ∷ values_of s more) (argument_more s before last)
  values_behind (listed es) more = ap (pushed s (listed es)) (values_behind es more)

  -- the same of the rows

  abbrev Rows : Exp16 → Type 0
  Rows e = (rest : List Exp16) → rows_of s (subexpressions e ++ rest) ≡ map (row_of s) (subexpressions e) ++ rows_of s rest

  two_rows : (a b : Exp16) (more : List Exp16) → Rows a → Rows b
      → rows_of s ((subexpressions a ++ subexpressions b) ++ more) ≡ map (row_of s) (subexpressions a ++ subexpressions b) ++ rows_of s more
  two_rows a b more of_a of_b =
      ap (rows_of s) (append_assoc (subexpressions a) (subexpressions b) more)
      ∙ (of_a (subexpressions b ++ more)
      ∙ (ap (λ rs. map (row_of s) (subexpressions a) ++ rs) (of_b more)
      ∙ (sym (append_assoc (map (row_of s) (subexpressions a)) (map (row_of s) (subexpressions b)) (rows_of s more))
      ∙ ap (λ rs. rs ++ rows_of s more) (sym (map-append (row_of s) (subexpressions a) (subexpressions b))))))

  three_rows : (c a b : Exp16) (more : List Exp16) → Rows c → Rows a → Rows b
      → rows_of s ((subexpressions c ++ subexpressions a ++ subexpressions b) ++ more) ≡ map (row_of s) (subexpressions c ++ subexpressions a ++ subexpressions b) ++ rows_of s more
  three_rows c a b more of_c of_a of_b =
      ap (λ es. rows_of s (es ++ more)) (append_assoc (subexpressions c) (subexpressions a) (subexpressions b))
      ∙ (ap (rows_of s) (append_assoc (subexpressions c) (subexpressions a ++ subexpressions b) more)
      ∙ (of_c ((subexpressions a ++ subexpressions b) ++ more)
      ∙ (ap (λ rs. map (row_of s) (subexpressions c) ++ rs) (two_rows a b more of_a of_b)
      ∙ (sym (append_assoc (map (row_of s) (subexpressions c)) (map (row_of s) (subexpressions a ++ subexpressions b)) (rows_of s more))
      ∙ (ap (λ rs. rs ++ rows_of s more) (sym (map-append (row_of s) (subexpressions c) (subexpressions a ++ subexpressions b)))
      ∙ ap (λ es. map (row_of s) es ++ rows_of s more) (sym (append_assoc (subexpressions c) (subexpressions a) (subexpressions b))))))))

  -- the row of an expression, in front of those of its parts
  in_front : (e : Exp16) (parts more : List Exp16) → top_of (values_of s (e ∷ parts ++ more)) ≡ row_of s e → rows_of s (parts ++ more) ≡ map (row_of s) parts ++ rows_of s more
      → rows_of s (e ∷ parts ++ more) ≡ row_of s e ∷ map (row_of s) parts ++ rows_of s more
  in_front e parts more top rest = rw (top, rest) refl

  pub rows_behind : (e : Exp16) → Rows e
  rows_behind (literal n) more = refl
  rows_behind (truth b) more = refl
  rows_behind error more = refl
  rows_behind (name text) more = refl
  rows_behind (member e word) more = in_front (member e word) (subexpressions e) more (ap top_of (values_behind (member e word) more)) (rows_behind e more)
  rows_behind (index e at) more = in_front (index e at) (subexpressions e) more (ap top_of (values_behind (index e at) more)) (rows_behind e more)
  rows_behind (slice e high low) more = in_front (slice e high low) (subexpressions e) more (ap top_of (values_behind (slice e high low) more)) (rows_behind e more)
  rows_behind (call e given) more =
      in_front (call e given) (subexpressions e ++ subexpressions given) more (ap top_of (values_behind (call e given) more)) (two_rows e given more (rows_behind e) (rows_behind given))
  rows_behind (lookahead e to given) more =
      in_front (lookahead e to given) (subexpressions e ++ subexpressions given) more (ap top_of (values_behind (lookahead e to given) more)) (two_rows e given more (rows_behind e) (rows_behind given))
  rows_behind (cast to e) more = in_front (cast to e) (subexpressions e) more (ap top_of (values_behind (cast to e) more)) (rows_behind e more)
  rows_behind (unary operator e) more = in_front (unary operator e) (subexpressions e) more (ap top_of (values_behind (unary operator e) more)) (rows_behind e more)
  rows_behind (binary operator a b) more =
      in_front (binary operator a b) (subexpressions a ++ subexpressions b) more (ap top_of (values_behind (binary operator a b) more)) (two_rows a b more (rows_behind a) (rows_behind b))
  rows_behind (choice c a b) more =
      in_front (choice c a b) (subexpressions c ++ subexpressions a ++ subexpressions b) more (ap top_of (values_behind (choice c a b) more)) (three_rows c a b more (rows_behind c) (rows_behind a) (rows_behind b))
  rows_behind (parenthesized e) more = in_front (parenthesized e) (subexpressions e) more (ap top_of (values_behind (parenthesized e) more)) (rows_behind e more)
  rows_behind no_arguments more = refl
  rows_behind (argument before last) more =
      in_front (argument before last) (subexpressions before ++ subexpressions last) more (ap top_of (values_behind (argument before last) more)) (two_rows before last more (rows_behind before) (rows_behind last))
  rows_behind (listed es) more = in_front (listed es) (subexpressions es) more (ap top_of (values_behind (listed es) more)) (rows_behind es more)

  -- what was gone through is one expression
  pub rows_whole : (e : Exp16) → rows_of s (subexpressions e) ≡ map (row_of s) (subexpressions e)
  rows_whole e = ap (rows_of s) (sym (append-nil (subexpressions e))) ∙ (rows_behind e [] ∙ append-nil (map (row_of s) (subexpressions e)))
