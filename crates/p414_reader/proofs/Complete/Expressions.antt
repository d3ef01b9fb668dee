-- An expression that is spelled with tokens is read of them.
use Rattle.std.proofs.Common.{◌≡◌, ◌≢◌, ℕ, suc, ◌<◌, ◌≤◌, Bool, true, false, ◌&&◌, nat_le, List, [], ◌∷◌, ◌++◌, codes, Option, Some, None, refl, sym, ap, subst, arith, append_assoc, bytes_eq, leb-true}
use Rattle.std.proofs.lemmas.Bool.{le-leb, lt-leb}
use Rattle.predictive_parser.specs.declared.symbol.Symbol.TheVariants.{Token, Put}
use Rattle.predictive_parser.specs.Machine.{Takes, Passes, next_of}
use Rattle.predictive_parser.specs.Grammar.{move}
use Rattle.predictive_parser.proofs.Chains.{Leads, then, reads, put, token, takes, passes}
use Rattle.predictive_parser.proofs.Closings.{calm, build}
use Rattle.p414_syntax.specs.declared.keyword.Keyword.TheVariants as key
use Rattle.p414_syntax.specs.declared.lexeme.Literal.{Literal}
use Rattle.p414_syntax.specs.declared.lexeme.Lexeme.{Lexeme}
use Rattle.p414_syntax.specs.declared.lexeme.Lexeme.TheVariants as lexeme
use Rattle.p414_syntax.specs.declared.parts.Index.{Index}
use Rattle.p414_syntax.specs.declared.parts.Index.TheVariants as index
use Rattle.p414_syntax.specs.declared.parts.Inst.{Inst}
use Rattle.p414_syntax.specs.declared.parts.Ref.{Ref}
use Rattle.p414_syntax.specs.declared.node.UnaryOperator.{UnaryOperator}
use Rattle.p414_syntax.specs.declared.node.UnaryOperator.TheVariants as unary_operator
use Rattle.p414_syntax.specs.declared.node.BinaryOperator.{BinaryOperator}
use Rattle.p414_syntax.specs.declared.node.BinaryOperator.TheVariants as binary_operator
use Rattle.p414_syntax.specs.Tree.{Expr, valid, truth, field, number, parenthesized, unary, binary}
use Rattle.p414_syntax.specs.Words.{name, keyword, paren_open, paren_close, bracket_open, bracket_close, dot}
use Rattle.p414_syntax.specs.Operators.{unary_token, unary_power, binary_token, binary_power}
use Rattle.p414_syntax.specs.Written.{written_option, written_index, written_expr}
use Rattle.p414_syntax.specs.Conditions.{is_among, expression_words, is_expression_name, is_expr}
use Rattle.p414_reader.specs.declared.symbols.Class.TheVariants as class
use Rattle.p414_reader.specs.declared.symbols.Action.TheVariants as action
use Rattle.p414_reader.specs.declared.symbols.PartAction.TheVariants as part
use Rattle.p414_reader.specs.declared.symbols.BodyAction.TheVariants as body
use Rattle.p414_reader.specs.declared.symbols.Word.TheVariants as word
use Rattle.p414_reader.specs.declared.symbols.PartWord.TheVariants as part_word
use Rattle.p414_reader.specs.declared.symbols.BodyWord.TheVariants as body_word
use Rattle.p414_reader.specs.declared.built.Built.{Built}
use Rattle.p414_reader.specs.internal.Classes.{infix_of, with_name}
use Rattle.p414_reader.specs.internal.Actions.{with_expr}
use Rattle.p414_reader.specs.internal.Rows as rows
use Rattle.p414_reader.specs.internal.Rows.{Sym, grammar14, part_sym, body_sym, operand_rest, prefix_rest, infix_rest}
use Rattle.p414_reader.proofs.Lists.{left_true, right_true, not_true, neither_left, neither_right, text_differs}
use Rattle.p414_reader.proofs.Closing.{closing14, closed14}

abbrev pub Goes : List Sym → Built → List Lexeme → List Sym → Built → List Lexeme → Type 0
Goes symbols b tokens left c rest = Leads grammar14 symbols b tokens left c rest

-- the same of tokens that are written in another way
pub from : {symbols left : List Sym} {b c : Built} {us rest : List Lexeme} (ts : List Lexeme) → ts ≡ us → Goes symbols b us left c rest → Goes symbols b ts left c rest
from {symbols} {left} {b} {c} {us} {rest} ts e g = subst (λ vs. Goes symbols b vs left c rest) (sym e) g

-- how tightly the operator binds that the next token is, if it is one between operands

abbrev pub power_of : Option BinaryOperator → ℕ
power_of None = 0
power_of (Some operator) = binary_power operator

abbrev pub next_power : List Lexeme → ℕ
next_power [] = 0
next_power (t ∷ ts) = power_of (infix_of t)

operator_small : (o : BinaryOperator) → (0 < binary_power o) × (binary_power o ≤ 10) × (binary_power o ≢ 3)
operator_small binary_operator.Multiply = (omega arith, omega arith, λ e. omega arith)
operator_small binary_operator.Add = (omega arith, omega arith, λ e. omega arith)
operator_small binary_operator.Subtract = (omega arith, omega arith, λ e. omega arith)
operator_small binary_operator.ShiftLeft = (omega arith, omega arith, λ e. omega arith)
operator_small binary_operator.ShiftRight = (omega arith, omega arith, λ e. omega arith)
operator_small binary_operator.BitAnd = (omega arith, omega arith, λ e. omega arith)
operator_small binary_operator.BitXor = (omega arith, omega arith, λ e. omega arith)
operator_small binary_operator.BitOr = (omega arith, omega arith, λ e. omega arith)
operator_small binary_operator.Less = (omega arith, omega arith, λ e. omega arith)
operator_small binary_operator.LessEqual = (omega arith, omega arith, λ e. omega arith)
operator_small binary_operator.Greater = (omega arith, omega arith, λ e. omega arith)
operator_small binary_operator.GreaterEqual = (omega arith, omega arith, λ e. omega arith)
operator_small binary_operator.Equal = (omega arith, omega arith, λ e. omega arith)
operator_small binary_operator.NotEqual = (omega arith, omega arith, λ e. omega arith)
operator_small binary_operator.And = (omega arith, omega arith, λ e. omega arith)
operator_small binary_operator.Or = (omega arith, omega arith, λ e. omega arith)

-- the tokens of operators are those operators

infix_is : (o : BinaryOperator) → infix_of (binary_token o) ≡ Some o
infix_is binary_operator.Multiply = refl
infix_is binary_operator.Add = refl
infix_is binary_operator.Subtract = refl
infix_is binary_operator.ShiftLeft = refl
infix_is binary_operator.ShiftRight = refl
infix_is binary_operator.BitAnd = refl
infix_is binary_operator.BitXor = refl
infix_is binary_operator.BitOr = refl
infix_is binary_operator.Less = refl
infix_is binary_operator.LessEqual = refl
infix_is binary_operator.Greater = refl
infix_is binary_operator.GreaterEqual = refl
infix_is binary_operator.Equal = refl
infix_is binary_operator.NotEqual = refl
infix_is binary_operator.And = refl
infix_is binary_operator.Or = refl

-- Behind an operand, an operator is taken that binds tightly enough and not too tightly.
infix_moves : (least most : ℕ) (t : Lexeme) (b : Built) (o : BinaryOperator) → infix_of t ≡ Some o → nat_le least (binary_power o) ≡ true → nat_le (binary_power o) most ≡ true → move grammar14 (body_sym (body_word.Operators least most)) (Some t) b ≡ Takes (infix_rest least (Some o)) b
infix_moves least most t b o e l m = rw (e, l, m) refl

-- One that binds less is left.
operators_leave : (least most : ℕ) (ts : List Lexeme) (b : Built) → next_power ts < least → move grammar14 (body_sym (body_word.Operators least most)) (next_of ts) b ≡ Passes b
operators_leave least most [] b h = refl
operators_leave least most (t ∷ ts) b h = go (infix_of t) refl h
  where
    go : (o : Option BinaryOperator) → infix_of t ≡ o → power_of o < least → move grammar14 (body_sym (body_word.Operators least most)) (Some t) b ≡ Passes b
    go None e l = rw e refl
    go (Some operator) e l = rw (e, lt-leb least (binary_power operator) l) refl

leave : (least most : ℕ) (symbols : List Sym) (b : Built) (ts : List Lexeme) → next_power ts < least → Goes (body_sym (body_word.Operators least most) ∷ symbols) b ts symbols b ts
leave least most symbols b ts h = passes grammar14 (body_sym (body_word.Operators least most)) symbols b b ts (operators_leave least most ts b h)

-- an operator before an operand

prefix_moves : (least : ℕ) (o : UnaryOperator) (b : Built) → nat_le least (unary_power o) ≡ true → move grammar14 (body_sym (body_word.Expr least)) (Some (unary_token o)) b ≡ Takes (prefix_rest least (Some o)) b
prefix_moves least unary_operator.Negate b h = rw h refl
prefix_moves least unary_operator.Complement b h = rw h refl
prefix_moves least unary_operator.Not b h = rw h refl

unary_small : (o : UnaryOperator) → unary_power o ≤ 11
unary_small unary_operator.Negate = omega arith
unary_small unary_operator.Complement = omega arith
unary_small unary_operator.Not = omega arith

-- none between operands binds exactly as tightly
less_unary : (o : UnaryOperator) (ts : List Lexeme) → next_power ts ≤ unary_power o → next_power ts < unary_power o
less_unary unary_operator.Negate [] h = omega arith
less_unary unary_operator.Complement [] h = omega arith
less_unary unary_operator.Not [] h = omega arith
less_unary o (t ∷ ts) h = go o (infix_of t) h
  where
    go : (o : UnaryOperator) (i : Option BinaryOperator) → power_of i ≤ unary_power o → power_of i < unary_power o
    go unary_operator.Negate None l = omega arith
    go unary_operator.Complement None l = omega arith
    go unary_operator.Not None l = omega arith
    go unary_operator.Negate (Some i) l = omega (arith, (operator_small i).1)
    go unary_operator.Complement (Some i) l = omega (arith, (operator_small i).1)
    go unary_operator.Not (Some i) l = let n = (operator_small i).2 in omega (arith, n)

-- names

-- the words that stand for something else in an expression
record NoWord (text : List ℕ) : Type 0 where
  no_not : bytes_eq (codes "not") text ≡ false
  no_true : bytes_eq (codes "true") text ≡ false
  no_false : bytes_eq (codes "false") text ≡ false
  no_valid : bytes_eq (codes "valid") text ≡ false

no_word : (text : List ℕ) → is_expression_name text ≡ true → NoWord text
no_word text h =
    let all = not_true (is_among text expression_words) h in
    let l0 = neither_right (bytes_eq text (codes "and")) _ all in
    let l1 = neither_right (bytes_eq text (codes "or")) _ l0 in
    let l2 = neither_right (bytes_eq text (codes "not")) _ l1 in
    let l3 = neither_right (bytes_eq text (codes "true")) _ l2 in
    let l4 = neither_right (bytes_eq text (codes "false")) _ l3 in
    record {
      no_not = text_differs text (codes "not") (neither_left (bytes_eq text (codes "not")) _ l1);
      no_true = text_differs text (codes "true") (neither_left (bytes_eq text (codes "true")) _ l2);
      no_false = text_differs text (codes "false") (neither_left (bytes_eq text (codes "false")) _ l3);
      no_valid = text_differs text (codes "valid") (neither_left (bytes_eq text (codes "valid")) false l4);
    }

-- what follows the name of an instance, of which a field is read
abbrev field_rest : ℕ → List Sym
field_rest least =
    part_sym part_word.IndexOption ∷ Put (action.Part part.Inst) ∷ rows.dot ∷ Token class.ExpressionName ∷ Put (action.Part part.Ref) ∷ Put (action.Body body.Field) ∷ operand_rest least

name_moves : (least : ℕ) (text : List ℕ) (b : Built) → is_expression_name text ≡ true → move grammar14 (body_sym (body_word.Expr least)) (Some (name text)) b ≡ Takes (field_rest least) (with_name text b)
name_moves least text b h = let n = no_word text h in rw (n.no_true, n.no_false, n.no_valid, n.no_not, h) refl

instance_moves : (text : List ℕ) (b : Built) → is_expression_name text ≡ true → move grammar14 (body_sym body_word.ExprInst) (Some (name text)) b ≡ Takes (part_sym part_word.IndexOption ∷ Put (action.Part part.Inst) ∷ []) (with_name text b)
instance_moves text b h = rw h refl

abbrev with_index : Option Index → Built → Built
with_index i b = record b { parts = record b.parts { indexes = i ∷ b.parts.indexes } }

index_read : (i : Option Index) (symbols : List Sym) (b : Built) (rest : List Lexeme) → calm grammar14 closing14 (word.Part part_word.IndexOption) rest ≡ true → Goes (part_sym part_word.IndexOption ∷ symbols) b (written_option written_index i ++ rest) symbols (with_index i b) rest
index_read None symbols b rest h = build grammar14 closing14 closed14 (word.Part part_word.IndexOption) (action.Part part.NoIndex) symbols b rest refl refl h
index_read (Some (index.At n)) symbols b rest h = reads grammar14 (bracket_open ∷ lexeme.Number n ∷ bracket_close ∷ []) refl
index_read (Some index.Next) symbols b rest h = reads grammar14 (bracket_open ∷ keyword key.Next ∷ bracket_close ∷ []) refl
index_read (Some index.Last) symbols b rest h = reads grammar14 (bracket_open ∷ keyword key.Last ∷ bracket_close ∷ []) refl

-- expressions

abbrev Reads : ℕ → Expr → Type 0
Reads q e =
    (m : ℕ) (symbols : List Sym) (b : Built) (rest : List Lexeme) → m ≤ q → q ≤ 12 → next_power rest ≤ q
    → (r : ℕ) × (q ≤ r) × Goes (body_sym (body_word.Expr m) ∷ symbols) b (written_expr e ++ rest) (body_sym (body_word.Operators m r) ∷ symbols) (with_expr e b) rest

truth_read : (q : ℕ) (value : Bool) → Reads q (truth value)
truth_read q true m symbols b rest h k l =
    (12, k, then (reads grammar14 (keyword key.True ∷ []) refl) (put grammar14 (action.Body (body.Truth true)) (operand_rest m ++ symbols) b rest))
truth_read q false m symbols b rest h k l =
    (12, k, then (reads grammar14 (keyword key.False ∷ []) refl) (put grammar14 (action.Body (body.Truth false)) (operand_rest m ++ symbols) b rest))

number_read : (q : ℕ) (n : Literal) → Reads q (number n)
number_read q n m symbols b rest h k l =
    (12, k, then (reads grammar14 (lexeme.Number n ∷ []) refl) (put grammar14 (action.Body body.Number) (operand_rest m ++ symbols) _ rest))

valid_read : (q : ℕ) (i : Inst) → is_expression_name i.name ≡ true → Reads q (valid i)
valid_read q i n m symbols b rest h k l = (
  12,
  k,
  from (written_expr (valid i) ++ rest) (ap (λ ts. keyword key.Valid ∷ paren_open ∷ name i.name ∷ ts) (append_assoc (written_option written_index i.index) (paren_close ∷ []) rest))
      (then (reads grammar14 (keyword key.Valid ∷ paren_open ∷ []) refl)
      (then (takes grammar14 (body_sym body_word.ExprInst) (rows.paren_close ∷ Put (action.Body body.Valid) ∷ (operand_rest m ++ symbols)) _ b (with_name i.name b) (name i.name) _ (instance_moves i.name b n))
      (then (index_read i.index _ (with_name i.name b) (paren_close ∷ rest) refl)
      (then (put grammar14 (action.Part part.Inst) _ _ _)
      (then (reads grammar14 (paren_close ∷ []) refl)
      (put grammar14 (action.Body body.Valid) (operand_rest m ++ symbols) _ rest)))))),
)

field_read : (q : ℕ) (r : Ref) → is_expression_name r.instance.name ≡ true → is_expression_name r.field ≡ true → Reads q (field r)
field_read q r n p m symbols b rest h k l = (
  12,
  k,
  from (written_expr (field r) ++ rest) (ap (λ ts. name r.instance.name ∷ ts) (append_assoc (written_option written_index r.instance.index) (dot ∷ name r.field ∷ []) rest))
      (then (takes grammar14 (body_sym (body_word.Expr m)) symbols (field_rest m) b (with_name r.instance.name b) (name r.instance.name) _ (name_moves m r.instance.name b n))
      (then (index_read r.instance.index _ (with_name r.instance.name b) (dot ∷ name r.field ∷ rest) refl)
      (then (put grammar14 (action.Part part.Inst) _ _ _)
      (then (reads grammar14 (dot ∷ []) refl)
      (then (token grammar14 class.ExpressionName _ _ (name r.field) rest p)
      (then (put grammar14 (action.Part part.Ref) _ _ rest)
      (put grammar14 (action.Body body.Field) (operand_rest m ++ symbols) _ rest))))))),
)

parenthesized_read : (q : ℕ) (e : Expr) → Reads 0 e → Reads q (parenthesized e)
parenthesized_read q e f m symbols b rest h k l =
    let r = f 0 (rows.paren_close ∷ Put (action.Body body.Parenthesized) ∷ (operand_rest m ++ symbols)) b (paren_close ∷ rest) (omega arith) (omega arith) (omega arith) in (
      12,
      k,
      from (written_expr (parenthesized e) ++ rest) (ap (λ ts. paren_open ∷ ts) (append_assoc (written_expr e) (paren_close ∷ []) rest))
          (then (reads grammar14 (paren_open ∷ []) refl)
          (then r.2
          (then (reads grammar14 (paren_close ∷ []) refl)
          (put grammar14 (action.Body body.Parenthesized) (operand_rest m ++ symbols) _ rest)))),
    )

unary_read : (q : ℕ) (o : UnaryOperator) (e : Expr) → q ≤ unary_power o → Reads (unary_power o) e → Reads q (unary o e)
unary_read q o e le f m symbols b rest h k l =
    let up = unary_power o in
    let id : up ≤ up = omega arith in
    let small : up ≤ 12 = omega (arith, unary_small o) in
    let l' : next_power rest ≤ up = omega (arith, le, l) in
    let h' : m ≤ up = omega (arith, le, h) in
    let r = f up (Put (action.Body (body.Unary o)) ∷ body_sym (body_word.Operators m up) ∷ symbols) b rest id small l' in (
      up,
      le,
      then (takes grammar14 (body_sym (body_word.Expr m)) symbols _ b b (unary_token o) (written_expr e ++ rest) (prefix_moves m o b (le-leb m up h')))
          (then r.2
          (then (leave up r.0 _ (with_expr e b) rest (less_unary o rest l'))
          (put grammar14 (action.Body (body.Unary o)) _ (with_expr e b) rest))),
    )

binary_read : (q : ℕ) (o : BinaryOperator) (x y : Expr) → q ≤ binary_power o → Reads (binary_power o) x → Reads (suc (binary_power o)) y → Reads q (binary o x y)
binary_read q o x y le f g m symbols b rest h k l =
    let p = binary_power o in
    let small : suc p ≤ 12 = omega (arith, (operator_small o).1) in
    let small' : p ≤ 12 = omega (arith, (operator_small o).1) in
    let id : p ≤ p = omega arith in
    let id' : suc p ≤ suc p = omega arith in
    let h' : m ≤ p = omega (arith, le, h) in
    let l' : next_power rest ≤ suc p = omega (arith, le, l) in
    let l'' : next_power rest < suc p = omega (arith, le, l) in
    let here' : next_power (binary_token o ∷ (written_expr y ++ rest)) ≤ p = subst (λ i. power_of i ≤ p) (sym (infix_is o)) id in
    let r = f m symbols b (binary_token o ∷ (written_expr y ++ rest)) h' small' here' in
    let s = g (suc p) (Put (action.Body (body.Binary o)) ∷ body_sym (body_word.Operators m p) ∷ symbols) (with_expr x b) rest id' small l' in (
      p,
      le,
      from (written_expr (binary o x y) ++ rest) (append_assoc (written_expr x) (binary_token o ∷ written_expr y) rest)
          (then r.2
          (then (takes grammar14 (body_sym (body_word.Operators m r.0)) symbols _ (with_expr x b) (with_expr x b) (binary_token o) (written_expr y ++ rest) (infix_moves m r.0 (binary_token o) (with_expr x b) o (infix_is o) (le-leb m p h') (le-leb p r.0 r.1)))
          (then s.2
          (then (leave (suc p) s.0 _ (with_expr y (with_expr x b)) rest l'')
          (put grammar14 (action.Body (body.Binary o)) _ (with_expr y (with_expr x b)) rest))))),
    )

expr_reads : (q : ℕ) (e : Expr) → is_expr q e ≡ true → Reads q e
expr_reads q (valid i) h = valid_read q i h
expr_reads q (truth value) h = truth_read q value
expr_reads q (field r) h = field_read q r (left_true _ _ h) (right_true _ _ h)
expr_reads q (number n) h = number_read q n
expr_reads q (parenthesized e) h = parenthesized_read q e (expr_reads 0 e h)
expr_reads q (unary o e) h =
    let up = unary_power o in
    unary_read q o e (leb-true q up (left_true (nat_le q up) (is_expr up e) h)) (expr_reads up e (right_true (nat_le q up) (is_expr up e) h))
expr_reads q (binary o x y) h =
    let p = binary_power o in
    let k = right_true (nat_le q p) (is_expr p x && is_expr (suc p) y) h in
    binary_read q o x y (leb-true q p (left_true (nat_le q p) (is_expr p x && is_expr (suc p) y) h))
    (expr_reads p x (left_true (is_expr p x) (is_expr (suc p) y) k))
    (expr_reads (suc p) y (right_true (is_expr p x) (is_expr (suc p) y) k))

none_left : (most : ℕ) (ts : List Lexeme) (b : Built) → next_power ts ≡ 0 → move grammar14 (body_sym (body_word.Operators 0 most)) (next_of ts) b ≡ Passes b
none_left most [] b k = refl
none_left most (t ∷ ts) b k = go (infix_of t) refl k
  where
    go : (o : Option BinaryOperator) → infix_of t ≡ o → power_of o ≡ 0 → move grammar14 (body_sym (body_word.Operators 0 most)) (Some t) b ≡ Passes b
    go None i z = rw i refl
    go (Some operator) i z = absurd (omega (arith, z, (operator_small operator).0))

-- A whole expression is read before a token that is no operator between operands.
pub expr_read : (e : Expr) (symbols : List Sym) (b : Built) (rest : List Lexeme) → is_expr 0 e ≡ true → next_power rest ≡ 0 → Goes (body_sym (body_word.Expr 0) ∷ symbols) b (written_expr e ++ rest) symbols (with_expr e b) rest
expr_read e symbols b rest h n =
    let r = expr_reads 0 e h 0 symbols b rest (omega arith) (omega arith) (omega (arith, n)) in
    then r.2 (passes grammar14 (body_sym (body_word.Operators 0 r.0)) symbols (with_expr e b) (with_expr e b) rest (none_left r.0 rest (with_expr e b) n))
