-- The codes of trees. Proofs tell values apart by them.
use Rattle.std.specs.Prelude.{◌≡◌, Bool, true, false, List, [], ◌∷◌, ◌++◌, refl}
use Rattle.std.proofs.Common.{◌∙◌, ap, append_assoc}
use Rattle.std.specs.Coded.{Coded, code_by, coded×, coded_bool, coded_list}
use Rattle.node_lists.specs.Codes.{on_one, on_two, stack, Puts, behind_one, behind_two, coded_tree}
use Rattle.p416_syntax.specs.declared.node.ExpNode.{ExpNode}
use Rattle.p416_syntax.specs.declared.node.ExpNode.TheVariants.{Literal, Truth, Error, Name, Member, Index, Slice, Call, Lookahead, Cast, Unary, Binary, Choice, NoArguments, Argument, Listed}
use Rattle.p416_syntax.specs.declared.node.StmtNode.{StmtNode}
use Rattle.p416_syntax.specs.declared.node.StmtNode.TheVariants.{NoStatements, Then, Block, Empty, Var, VarIs, Assign, Expression, If, IfElse, Switch, NoCases, Case}
use Rattle.p416_syntax.specs.contracts.node.ExpNode as exp_node
use Rattle.p416_syntax.specs.contracts.node.StmtNode as stmt_node
use Rattle.p416_syntax.specs.Tree.{Exp16, literal, truth, error, name, member, index, slice, call, lookahead, cast, unary, binary, choice, parenthesized, no_arguments, argument, listed, Stmt16, no_statements, then, block, empty, var, var_is, assign, expression, if_then, if_else, switch, no_cases, case_of, Trees}

-- a function of the topmost three of a stack
abbrev pub on_three : {T : Type 0} → (T → T → T → T) → List T → List T
on_three f [] = []
on_three f (c ∷ []) = []
on_three f (c ∷ b ∷ []) = []
on_three f (c ∷ b ∷ a ∷ rest) = f a b c ∷ rest

-- a mark behind those of three trees
module _ {M T : Type 0} (step : M → List T → List T) where
  pub behind_three : (first second third : List M) (a b c : T) (m : M) → Puts step first a → Puts step second b → Puts step third c → (ms : List M) (ts : List T) → stack step ((first ++ (second ++ (third ++ m ∷ []))) ++ ms) ts ≡ stack step (m ∷ ms) (c ∷ b ∷ a ∷ ts)
  behind_three first second third a b c m puts puts_second puts_third ms ts =
      ap (λ l. stack step l ts) (append_assoc first (second ++ (third ++ m ∷ [])) ms) ∙ puts _ ts ∙ behind_two step second third b c m puts_second puts_third ms (a ∷ ts)

-- A node of an expression, or parentheses: then the truth value is true, and the node says nothing. A child's place in a
-- node says nothing either: it is on top of the stack.
abbrev pub ExpMark : Type 0
ExpMark = Bool × ExpNode

abbrev pub node : ExpNode → ExpMark
node n = (false, n)

abbrev pub parens : ExpMark
parens = (true, Error)

-- the marks of an expression
abbrev pub exp_marks : Exp16 → List ExpMark
exp_marks (literal number) = node (Literal number) ∷ []
exp_marks (truth value) = node (Truth value) ∷ []
exp_marks error = node Error ∷ []
exp_marks (name text) = node (Name text) ∷ []
exp_marks (member a word) = exp_marks a ++ node (Member 0 word) ∷ []
exp_marks (index a at) = exp_marks a ++ node (Index 0 at) ∷ []
exp_marks (slice a high low) = exp_marks a ++ node (Slice 0 high low) ∷ []
exp_marks (call a b) = exp_marks a ++ (exp_marks b ++ node (Call 0 0) ∷ [])
exp_marks (lookahead a to b) = exp_marks a ++ (exp_marks b ++ node (Lookahead 0 to 0) ∷ [])
exp_marks (cast to a) = exp_marks a ++ node (Cast to 0) ∷ []
exp_marks (unary operator a) = exp_marks a ++ node (Unary operator 0) ∷ []
exp_marks (binary operator a b) = exp_marks a ++ (exp_marks b ++ node (Binary operator 0 0) ∷ [])
exp_marks (choice a b c) = exp_marks a ++ (exp_marks b ++ (exp_marks c ++ node (Choice 0 0 0) ∷ []))
exp_marks (parenthesized a) = exp_marks a ++ parens ∷ []
exp_marks no_arguments = node NoArguments ∷ []
exp_marks (argument a b) = exp_marks a ++ (exp_marks b ++ node (Argument 0 0) ∷ [])
exp_marks (listed a) = exp_marks a ++ node (Listed 0) ∷ []

-- what a node does to a stack of expressions
abbrev pub node_step : ExpNode → List Exp16 → List Exp16
node_step (Literal number) es = literal number ∷ es
node_step (Truth value) es = truth value ∷ es
node_step Error es = error ∷ es
node_step (Name text) es = name text ∷ es
node_step (Member i word) es = on_one (λ a. member a word) es
node_step (Index i at) es = on_one (λ a. index a at) es
node_step (Slice i high low) es = on_one (λ a. slice a high low) es
node_step (Call i j) es = on_two call es
node_step (Lookahead i to j) es = on_two (λ a b. lookahead a to b) es
node_step (Cast to i) es = on_one (cast to) es
node_step (Unary operator i) es = on_one (unary operator) es
node_step (Binary operator i j) es = on_two (binary operator) es
node_step (Choice i j k) es = on_three choice es
node_step NoArguments es = no_arguments ∷ es
node_step (Argument i j) es = on_two argument es
node_step (Listed i) es = on_one listed es

abbrev pub mark_step : Bool → ExpNode → List Exp16 → List Exp16
mark_step true n es = on_one parenthesized es
mark_step false n es = node_step n es

abbrev pub exp_step : ExpMark → List Exp16 → List Exp16
exp_step m es = mark_step m.0 m.1 es

pub exp_puts : (e : Exp16) → Puts exp_step (exp_marks e) e
exp_puts (literal number) = λ ms es. refl
exp_puts (truth value) = λ ms es. refl
exp_puts error = λ ms es. refl
exp_puts (name text) = λ ms es. refl
exp_puts (member a word) = behind_one exp_step (exp_marks a) a (node (Member 0 word)) (exp_puts a)
exp_puts (index a at) = behind_one exp_step (exp_marks a) a (node (Index 0 at)) (exp_puts a)
exp_puts (slice a high low) = behind_one exp_step (exp_marks a) a (node (Slice 0 high low)) (exp_puts a)
exp_puts (call a b) = behind_two exp_step (exp_marks a) (exp_marks b) a b (node (Call 0 0)) (exp_puts a) (exp_puts b)
exp_puts (lookahead a to b) = behind_two exp_step (exp_marks a) (exp_marks b) a b (node (Lookahead 0 to 0)) (exp_puts a) (exp_puts b)
exp_puts (cast to a) = behind_one exp_step (exp_marks a) a (node (Cast to 0)) (exp_puts a)
exp_puts (unary operator a) = behind_one exp_step (exp_marks a) a (node (Unary operator 0)) (exp_puts a)
exp_puts (binary operator a b) = behind_two exp_step (exp_marks a) (exp_marks b) a b (node (Binary operator 0 0)) (exp_puts a) (exp_puts b)
exp_puts (choice a b c) = behind_three exp_step (exp_marks a) (exp_marks b) (exp_marks c) a b c (node (Choice 0 0 0)) (exp_puts a) (exp_puts b) (exp_puts c)
exp_puts (parenthesized a) = behind_one exp_step (exp_marks a) a parens (exp_puts a)
exp_puts no_arguments = λ ms es. refl
exp_puts (argument a b) = behind_two exp_step (exp_marks a) (exp_marks b) a b (node (Argument 0 0)) (exp_puts a) (exp_puts b)
exp_puts (listed a) = behind_one exp_step (exp_marks a) a (node (Listed 0)) (exp_puts a)

abbrev pub coded_exp : Coded Exp16
coded_exp = coded_tree (coded× coded_bool exp_node.the_row.coded) no_arguments exp_step exp_marks exp_puts

-- a statement's node with the expressions that it holds
abbrev pub StmtMark : Type 0
StmtMark = StmtNode × (Exp16 × Exp16)

abbrev pub bare : StmtNode → StmtMark
bare n = (n, (error, error))

abbrev pub stmt_marks : Stmt16 → List StmtMark
stmt_marks no_statements = bare NoStatements ∷ []
stmt_marks (then a b) = stmt_marks a ++ (stmt_marks b ++ bare (Then 0 0) ∷ [])
stmt_marks (block a) = stmt_marks a ++ bare (Block 0) ∷ []
stmt_marks empty = bare Empty ∷ []
stmt_marks (var of called) = bare (Var of called) ∷ []
stmt_marks (var_is of called a) = (VarIs of called 0, (a, error)) ∷ []
stmt_marks (assign a b) = (Assign 0 0, (a, b)) ∷ []
stmt_marks (expression a) = (Expression 0, (a, error)) ∷ []
stmt_marks (if_then a b) = stmt_marks b ++ (If 0 0, (a, error)) ∷ []
stmt_marks (if_else a b c) = stmt_marks b ++ (stmt_marks c ++ (IfElse 0 0 0, (a, error)) ∷ [])
stmt_marks (switch table a) = stmt_marks a ++ bare (Switch table 0) ∷ []
stmt_marks no_cases = bare NoCases ∷ []
stmt_marks (case_of a label b) = stmt_marks a ++ (stmt_marks b ++ bare (Case 0 label 0) ∷ [])

abbrev pub stmt_node_step : StmtNode → Exp16 → Exp16 → List Stmt16 → List Stmt16
stmt_node_step NoStatements d e ss = no_statements ∷ ss
stmt_node_step (Then i j) d e ss = on_two then ss
stmt_node_step (Block i) d e ss = on_one block ss
stmt_node_step Empty d e ss = empty ∷ ss
stmt_node_step (Var of called) d e ss = var of called ∷ ss
stmt_node_step (VarIs of called i) d e ss = var_is of called d ∷ ss
stmt_node_step (Assign i j) d e ss = assign d e ∷ ss
stmt_node_step (Expression i) d e ss = expression d ∷ ss
stmt_node_step (If i j) d e ss = on_one (if_then d) ss
stmt_node_step (IfElse i j k) d e ss = on_two (if_else d) ss
stmt_node_step (Switch table i) d e ss = on_one (switch table) ss
stmt_node_step NoCases d e ss = no_cases ∷ ss
stmt_node_step (Case i label j) d e ss = on_two (λ a b. case_of a label b) ss

abbrev pub stmt_step : StmtMark → List Stmt16 → List Stmt16
stmt_step m ss = stmt_node_step m.0 m.1.0 m.1.1 ss

pub stmt_puts : (s : Stmt16) → Puts stmt_step (stmt_marks s) s
stmt_puts no_statements = λ ms ss. refl
stmt_puts (then a b) = behind_two stmt_step (stmt_marks a) (stmt_marks b) a b (bare (Then 0 0)) (stmt_puts a) (stmt_puts b)
stmt_puts (block a) = behind_one stmt_step (stmt_marks a) a (bare (Block 0)) (stmt_puts a)
stmt_puts empty = λ ms ss. refl
stmt_puts (var of called) = λ ms ss. refl
stmt_puts (var_is of called a) = λ ms ss. refl
stmt_puts (assign a b) = λ ms ss. refl
stmt_puts (expression a) = λ ms ss. refl
stmt_puts (if_then a b) = behind_one stmt_step (stmt_marks b) b ((If 0 0, (a, error))) (stmt_puts b)
stmt_puts (if_else a b c) = behind_two stmt_step (stmt_marks b) (stmt_marks c) b c ((IfElse 0 0 0, (a, error))) (stmt_puts b) (stmt_puts c)
stmt_puts (switch table a) = behind_one stmt_step (stmt_marks a) a (bare (Switch table 0)) (stmt_puts a)
stmt_puts no_cases = λ ms ss. refl
stmt_puts (case_of a label b) = behind_two stmt_step (stmt_marks a) (stmt_marks b) a b (bare (Case 0 label 0)) (stmt_puts a) (stmt_puts b)

abbrev pub coded_stmt : Coded Stmt16
coded_stmt = coded_tree (coded× stmt_node.the_row.coded (coded× coded_exp coded_exp)) no_statements stmt_step stmt_marks stmt_puts

abbrev pub coded_trees : Coded Trees
coded_trees =
    code_by (List Exp16 × List Stmt16) (coded× (coded_list coded_exp) (coded_list coded_stmt)) (λ t. (t.exps, t.stmts)) (λ p. record { exps = p.0; stmts = p.1 }) (λ _. refl)
