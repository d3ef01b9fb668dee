-- Looking from the outside in finds the applications of tables in an expression.
use Rattle.std.proofs.Common.{◌≡◌, ℕ, suc, ◌+◌, ◌<◌, ◌&&◌, ◌||◌, Bool, true, false, List, [], ◌∷◌, ◌++◌, length, drop, get_or, refl, sym, ap, ◌∙◌, arith, append_assoc}
use Rattle.std.proofs.Math.Seq.{drop-cons}
use Rattle.std.proofs.Math.Bool.{or-false}
use Rattle.std.proofs.lemmas.List.{append-nil}
use Rattle.p416_syntax.specs.Tree.{Exp16, literal, truth, error, name, member, index, slice, call, lookahead, cast, unary, binary, choice, parenthesized, no_arguments, argument, listed}
use Rattle.p416_syntax.specs.Subtrees.{subexpressions}
use Rattle.p416_syntax.specs.Scopes.{Known, Scope}
use Rattle.p416_syntax.specs.Expressions.{kind_of}
use Rattle.p416_names.specs.SeenKinds.{seen_kind}
use Rattle.p416_typing.specs.declared.row.Row.{Row}
use Rattle.p416_typing.specs.Rows.{RowOf, row_of}
use Rattle.p416_typing.specs.Seen.{seen_row}
use Rattle.v1_ready_statements.specs.Tested.{is_application, applies}
use Rattle.v1_ready_statements.specs.Given.{any_applies}
use Rattle.v1_ready_tests.specs.internal.Passes.{applied_call}
use Rattle.v1_ready_actions.specs.internal.Looked.{front_looked, rest_looked, parts_looked, any_looked}

-- what is known of an expression tells whether it is the application of a table

call_is : (s : Scope) (e : Exp16) → applied_call e (kind_of s e) ≡ is_application s e
call_is s (literal n) = refl
call_is s (truth holds) = refl
call_is s error = refl
call_is s (name text) = refl
call_is s (member e word) = refl
call_is s (index e at) = refl
call_is s (slice e high low) = refl
call_is s (call e given) = refl
call_is s (lookahead e to given) = refl
call_is s (cast to e) = refl
call_is s (unary operator e) = refl
call_is s (binary operator a b) = refl
call_is s (choice c a b) = refl
call_is s (parenthesized e) = refl
call_is s no_arguments = refl
call_is s (argument before last) = refl
call_is s (listed es) = refl

pub application_is : (s : Scope) (top : List Known) (row : Row) (e f : Exp16) → seen_row top row ≡ row_of s e → e ≡ f → applied_call f (seen_kind row.kind) ≡ is_application s e
application_is s top row e f known same = ap (λ x. applied_call x (seen_kind row.kind)) (sym same) ∙ (ap (λ (r : RowOf). applied_call e r.kind) known ∙ call_is s e)

-- truth values

skip : (here x : Bool) → ((here && false) || x) ≡ x
skip true x = refl
skip false x = refl

join : (here a b x : Bool) → ((here && a) || ((here && b) || x)) ≡ ((here && (a || b)) || x)
join true true b x = refl
join true false b x = refl
join false a b x = refl

-- one expression with all within it

looked_law : (s : Scope) (e : Exp16) (here : Bool) (looked : List Bool) (es : List Exp16) → any_looked s (here ∷ looked) (subexpressions e ++ es) ≡ ((here && applies s e) || any_looked s looked es)
looked_law s (literal n) here looked es = refl
looked_law s (truth holds) here looked es = refl
looked_law s error here looked es = refl
looked_law s (name text) here looked es = refl
looked_law s no_arguments here looked es = refl
looked_law s (member e word) here looked es = skip here (any_looked s (here ∷ looked) (subexpressions e ++ es)) ∙ looked_law s e here looked es
looked_law s (index e at) here looked es = skip here (any_looked s (here ∷ looked) (subexpressions e ++ es)) ∙ looked_law s e here looked es
looked_law s (slice e high low) here looked es = skip here (any_looked s (here ∷ looked) (subexpressions e ++ es)) ∙ looked_law s e here looked es
looked_law s (cast to e) here looked es = skip here (any_looked s (here ∷ looked) (subexpressions e ++ es)) ∙ looked_law s e here looked es
looked_law s (unary operator e) here looked es = skip here (any_looked s (here ∷ looked) (subexpressions e ++ es)) ∙ looked_law s e here looked es
looked_law s (parenthesized e) here looked es = ap (λ x. (here && false) || x) (looked_law s e false looked es)
looked_law s (listed e) here looked es = ap (λ x. (here && false) || x) (looked_law s e false looked es)
looked_law s (call e given) here looked es =
    ap (λ x. (here && is_application s (call e given)) || x)
    (ap (any_looked s (here ∷ false ∷ looked)) (append_assoc (subexpressions e) (subexpressions given) es)
    ∙ (looked_law s e here (false ∷ looked) (subexpressions given ++ es)
    ∙ ap (λ x. (here && applies s e) || x) (looked_law s given false looked es)))
    ∙ join here (is_application s (call e given)) (applies s e) (any_looked s looked es)
looked_law s (lookahead e to given) here looked es =
    ap (λ x. (here && false) || x)
    (ap (any_looked s (false ∷ false ∷ looked)) (append_assoc (subexpressions e) (subexpressions given) es)
    ∙ (looked_law s e false (false ∷ looked) (subexpressions given ++ es) ∙ looked_law s given false looked es))
looked_law s (argument e last) here looked es =
    ap (λ x. (here && false) || x)
    (ap (any_looked s (false ∷ false ∷ looked)) (append_assoc (subexpressions e) (subexpressions last) es)
    ∙ (looked_law s e false (false ∷ looked) (subexpressions last ++ es) ∙ looked_law s last false looked es))
looked_law s (binary operator a b) here looked es =
    skip here (any_looked s (here ∷ here ∷ looked) ((subexpressions a ++ subexpressions b) ++ es))
    ∙ (ap (any_looked s (here ∷ here ∷ looked)) (append_assoc (subexpressions a) (subexpressions b) es)
    ∙ (looked_law s a here (here ∷ looked) (subexpressions b ++ es)
    ∙ (ap (λ x. (here && applies s a) || x) (looked_law s b here looked es)
    ∙ join here (applies s a) (applies s b) (any_looked s looked es))))
looked_law s (choice c a b) here looked es =
    skip here (any_looked s (here ∷ here ∷ here ∷ looked) (((subexpressions c ++ subexpressions a) ++ subexpressions b) ++ es))
    ∙ (ap (λ xs. any_looked s (here ∷ here ∷ here ∷ looked) (xs ++ es)) (append_assoc (subexpressions c) (subexpressions a) (subexpressions b))
    ∙ (ap (any_looked s (here ∷ here ∷ here ∷ looked)) (append_assoc (subexpressions c) (subexpressions a ++ subexpressions b) es)
    ∙ (looked_law s c here (here ∷ here ∷ looked) ((subexpressions a ++ subexpressions b) ++ es)
    ∙ (ap (λ xs. (here && applies s c) || any_looked s (here ∷ here ∷ looked) xs) (append_assoc (subexpressions a) (subexpressions b) es)
    ∙ (ap (λ x. (here && applies s c) || x) (looked_law s a here (here ∷ looked) (subexpressions b ++ es))
    ∙ (ap (λ x. (here && applies s c) || ((here && applies s a) || x)) (looked_law s b here looked es)
    ∙ (join here (applies s c) (applies s a) ((here && applies s b) || any_looked s looked es)
    ∙ join here (applies s c || applies s a) (applies s b) (any_looked s looked es))))))))

pub looked_whole : (s : Scope) (e : Exp16) → any_looked s (true ∷ []) (subexpressions e) ≡ applies s e
looked_whole s e =
    ap (any_looked s (true ∷ [])) (sym (append-nil (subexpressions e))) ∙ (looked_law s e true [] [] ∙ or-false (applies s e))

-- one turn of the way from the outside in

next : (views : List Exp16) (i : ℕ) (v : Exp16) → i < length views → v ≡ get_or views i v → drop i views ≡ v ∷ drop (i + 1) views
next views i v within is =
    let one : suc i ≡ i + 1 = omega arith in
    drop-cons views i v within ∙ (ap (λ x. x ∷ drop (suc i) views) (sym is) ∙ ap (λ n. v ∷ drop n views) one)

module _ (s : Scope) (views : List Exp16) (i : ℕ) (v : Exp16) (looked rest : List Bool) (found whole : Bool) (within : i < length views) (is : v ≡ get_or views i v) (told : found ≡ (front_looked looked && is_application s v)) (so : any_looked s looked (drop i views) ≡ whole) where
  here : (found || any_looked s (parts_looked (front_looked looked) v ++ rest_looked looked) (drop (i + 1) views)) ≡ whole
  here =
      ap (λ x. x || any_looked s (parts_looked (front_looked looked) v ++ rest_looked looked) (drop (i + 1) views)) told
      ∙ (sym (ap (any_looked s looked) (next views i v within is)) ∙ so)

  -- it is found
  pub looked_found : found ≡ true → true ≡ whole
  looked_found told_so = sym (ap (λ x. x || any_looked s (parts_looked (front_looked looked) v ++ rest_looked looked) (drop (i + 1) views)) told_so) ∙ here

  -- or it is sought behind it
  pub looked_turn : found ≡ false → rest ≡ parts_looked (front_looked looked) v ++ rest_looked looked → any_looked s rest (drop (i + 1) views) ≡ whole
  looked_turn no_one rest_is =
      ap (λ xs. any_looked s xs (drop (i + 1) views)) rest_is
      ∙ (sym (ap (λ x. x || any_looked s (parts_looked (front_looked looked) v ++ rest_looked looked) (drop (i + 1) views)) no_one) ∙ here)

-- one of several expressions

module _ (s : Scope) (es rest : List Exp16) (e : Exp16) (one whole : Bool) (taken : es ≡ e ∷ rest) (told : one ≡ applies s e) (so : any_applies s es ≡ whole) where
  first : (one || any_applies s rest) ≡ whole
  first = ap (λ x. x || any_applies s rest) told ∙ (sym (ap (any_applies s) taken) ∙ so)

  pub given_found : one ≡ true → true ≡ whole
  given_found told_so = sym (ap (λ x. x || any_applies s rest) told_so) ∙ first

  pub given_turn : one ≡ false → any_applies s rest ≡ whole
  given_turn not_one = sym (ap (λ x. x || any_applies s rest) not_one) ∙ first
