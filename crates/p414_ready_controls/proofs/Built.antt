-- Nodes that were put one by one are those of the statements.
use Rattle.std.proofs.Common.{◌≡◌, ℕ, suc, ◌+◌, ◌-◌, ◌<◌, List, [], ◌∷◌, ◌++◌, length, get_or, drop, map, option_to_list, Option, Some, None, refl, sym, ap, ap₂, ◌∙◌, append_assoc, append-nil, length-append, drop-cons, add-one, arith}
use Rattle.std.specs.Prelude.{filter_map}
use Rattle.std.specs.List.{cons_option}
use Rattle.std.proofs.lemmas.List.{drop_all, map-append}
use Rattle.p414_syntax.specs.declared.syntax.Decl.{Decl}
use Rattle.p414_syntax.specs.Subtrees.{subtrees}
use Rattle.p414_syntax.specs.Tree.{Stmt, no_statements, then, apply, apply_branches, if_then, call, no_else, else_block, else_if, no_branches, branch}
use Rattle.p414_ready_conditions.specs.Rows.{truth_rows}
use Rattle.p414_ready_controls.specs.declared.nodes.ControlNode.{ControlNode}
use Rattle.p414_ready_controls.specs.declared.nodes.ControlNode.TheVariants as node
use Rattle.p414_ready_controls.specs.Nodes.{kept_label, named_by, named_in, with_named, branches_node, table_place, size, node_of, nodes_of}
use Rattle.p414_ready_controls.specs.internal.Building.{Built, nothing_built, part, put_one, put_two, put_node, put_all}

next_items : {X : Type 0} (xs : List X) (i : ℕ) (d : X) → i < length xs → drop i xs ≡ get_or xs i d ∷ drop (i + 1) xs
next_items xs i d h = rw (add-one, drop-cons xs i d h) refl

-- statements that were put in the order from the last to the first

pub none_put : (ds : List Decl) (ss : List Stmt) (count : ℕ) → count ≡ length ss → nothing_built ≡ put_all ds (drop (count - 0) ss) nothing_built
none_put ds ss count is =
    let past : drop (count - 0) ss ≡ [] = drop_all (count - 0) ss (omega (arith, is)) in
    sym (ap (λ (rest : List Stmt). put_all ds rest nothing_built) past)

pub one_put : (ds : List Decl) (ss : List Stmt) (count done : ℕ) (d s : Stmt) (old new : Built) → count ≡ length ss → done < count → old ≡ put_all ds (drop (count - done) ss) nothing_built → get_or ss (count - 1 - done) d ≡ s → new ≡ put_node ds s old → new ≡ put_all ds (drop (count - (done + 1)) ss) nothing_built
one_put ds ss count done d s old new is lt so here put =
    let at : count - (done + 1) ≡ count - 1 - done = omega arith in
    let behind : count - 1 - done + 1 ≡ count - done = omega (arith, lt) in
    let within : count - 1 - done < length ss = omega (arith, is, lt) in
    let all : drop (count - (done + 1)) ss ≡ s ∷ drop (count - done) ss =
    ap (λ n. drop n ss) at ∙ (next_items ss (count - 1 - done) d within ∙ ap₂ (λ (t : Stmt) (n : ℕ). t ∷ drop n ss) here behind) in
    put ∙ (ap (put_node ds s) so ∙ sym (ap (λ (rest : List Stmt). put_all ds rest nothing_built) all))

pub all_put : (ds : List Decl) (ss : List Stmt) (count : ℕ) (built : Built) → built ≡ put_all ds (drop (count - count) ss) nothing_built → built ≡ put_all ds ss nothing_built
all_put ds ss count built is =
    let none : count - count ≡ 0 = omega arith in is ∙ ap (λ n. put_all ds (drop n ss) nothing_built) none

-- what is put of a statement and all that stands within it

put_behind : (ds : List Decl) (ss ts : List Stmt) (b : Built) → put_all ds (ss ++ ts) b ≡ put_all ds ss (put_all ds ts b)
put_behind ds [] ts b = refl
put_behind ds (s ∷ ss) ts b = ap (put_node ds s) (put_behind ds ss ts b)

module _ (ds : List Decl) where
  abbrev over : Stmt → Built → Built
  over s b = record { nodes = nodes_of ds s ++ b.nodes; parts = part (size s) (named_in ds s) ∷ b.parts }

  one_over : (n : ControlNode) (a : Stmt) (b : Built) → put_one n (over a b) ≡ record { nodes = n ∷ (nodes_of ds a ++ b.nodes); parts = part (suc (size a)) None ∷ b.parts }
  one_over n a b =
      let more : size a + 1 ≡ suc (size a) = omega arith in
      ap (λ (k : ℕ). record { nodes = n ∷ (nodes_of ds a ++ b.nodes); parts = part k None ∷ b.parts }) more

  two_over : (n : ControlNode) (named : Option (List ℕ)) (a c : Stmt) (b : Built) → put_two n named (over a (over c b)) ≡ record { nodes = n ∷ (map (node_of ds) (subtrees a ++ subtrees c) ++ b.nodes); parts = part (suc (length (subtrees a ++ subtrees c))) named ∷ b.parts }
  two_over n named a c b =
      let many : size a + size c + 1 ≡ suc (length (subtrees a ++ subtrees c)) = omega (arith, length-append (subtrees a) (subtrees c)) in
      let both : nodes_of ds a ++ (nodes_of ds c ++ b.nodes) ≡ map (node_of ds) (subtrees a ++ subtrees c) ++ b.nodes =
      sym (append_assoc (nodes_of ds a) (nodes_of ds c) b.nodes) ∙ ap (λ (l : List ControlNode). l ++ b.nodes) (sym (map-append (node_of ds) (subtrees a) (subtrees c))) in
      ap₂ (λ (l : List ControlNode) (k : ℕ). record { nodes = n ∷ l; parts = part k named ∷ b.parts }) both many

  put_two_of : (a c : Stmt) (b : Built) → put_all ds (subtrees a) (over c b) ≡ over a (over c b) → put_all ds (subtrees c) b ≡ over c b → put_all ds (subtrees a ++ subtrees c) b ≡ over a (over c b)
  put_two_of a c b first second =
      put_behind ds (subtrees a) (subtrees c) b ∙ (ap (put_all ds (subtrees a)) second ∙ first)

  put_subtrees : (s : Stmt) (b : Built) → put_all ds (subtrees s) b ≡ over s b
  put_subtrees no_statements b = refl
  put_subtrees (then a c) b =
      ap (put_node ds (then a c)) (put_two_of a c b (put_subtrees a (over c b)) (put_subtrees c b))
      ∙ two_over (node.Both (size a)) None a c b
  put_subtrees (apply table) b = refl
  put_subtrees (apply_branches table a) b =
      ap (put_node ds (apply_branches table a)) (put_subtrees a b)
      ∙ one_over (branches_node (table_place ds table) (named_in ds a)) a b
  put_subtrees (if_then c x y) b =
      ap (put_node ds (if_then c x y)) (put_two_of x y b (put_subtrees x (over y b)) (put_subtrees y b))
      ∙ two_over (node.If (truth_rows ds c) (size x)) None x y b
  put_subtrees (call control) b = refl
  put_subtrees no_else b = refl
  put_subtrees (else_block a) b = ap (put_node ds (else_block a)) (put_subtrees a b) ∙ one_over node.Inner a b
  put_subtrees (else_if a) b = ap (put_node ds (else_if a)) (put_subtrees a b) ∙ one_over node.Inner a b
  put_subtrees no_branches b = refl
  put_subtrees (branch x l y) b =
      ap (put_node ds (branch x l y)) (put_two_of x y b (put_subtrees x (over y b)) (put_subtrees y b))
      ∙ two_over (node.Branch (kept_label ds l) (size x)) (with_named (named_in ds x) (named_by ds l)) x y b

pub nodes_built : (ds : List Decl) (s : Stmt) (ss : List Stmt) (built : Built) (nodes : List ControlNode) → ss ≡ subtrees s → built ≡ put_all ds ss nothing_built → nodes ≡ built.nodes → nodes ≡ nodes_of ds s
nodes_built ds s ss built nodes all put is =
    is
    ∙ (ap (λ (b : Built). b.nodes) (put ∙ (ap (λ (l : List Stmt). put_all ds l nothing_built) all ∙ put_subtrees ds s nothing_built))
    ∙ append-nil (nodes_of ds s))

-- the nodes of one more control are put last

kept_by : {X B : Type 0} (f : X → B) (o : Option X) (rest : List X) → map f (cons_option o rest) ≡ map f (option_to_list o) ++ map f rest
kept_by f None rest = refl
kept_by f (Some x) rest = refl

pub control_put : {A X B : Type 0} (pick : A → Option X) (f : X → B) (items : List A) (i : ℕ) (d : A) (old new whole : List B) → i < length items → new ≡ old ++ map f (option_to_list (pick (get_or items i d))) → old ++ map f (filter_map pick (drop i items)) ≡ whole → new ++ map f (filter_map pick (drop (i + 1) items)) ≡ whole
control_put pick f items i d old new whole lt is same =
    ap (λ l. l ++ map f (filter_map pick (drop (i + 1) items))) is
    ∙ (append_assoc old (map f (option_to_list (pick (get_or items i d)))) (map f (filter_map pick (drop (i + 1) items)))
    ∙ (ap (λ l. old ++ l) (sym (kept_by f (pick (get_or items i d)) (filter_map pick (drop (i + 1) items))))
    ∙ (sym (ap (λ l. old ++ map f (filter_map pick l)) (next_items items i d lt)) ∙ same)))
