-- What is behind the node in front.
use Rattle.std.proofs.Common.{◌≡◌, ℕ, zero, suc, Bool, true, false, cond, List, [], ◌∷◌, ◌++◌, length, map, drop, slice_get, Option, Some, None, refl, sym, ap, ap₂, ◌∙◌, subst, append_assoc, append-nil}
use Rattle.std.proofs.lemmas.List.{map-append}
use Rattle.std.specs.Prelude.{option_and_then, slice_index_or}
use Rattle.p414_syntax.specs.declared.node.Label.{Label}
use Rattle.p414_syntax.specs.Subtrees.{subtrees}
use Rattle.p414_syntax.specs.Tree.{Stmt}
use Rattle.p414_syntax.specs.Views.{ControlTree}
use Rattle.p414_syntax.specs.Names.{Name}
use Rattle.p414_syntax.specs.ControlExpansion.{controls, control_number, StatementExpands, NoStatements, Then, Apply, ApplyBranches, If, Call, NoElse, ElseBlock, ElseIf, NoBranches, Branch}
use Rattle.p414_sem.specs.Conditions.{holds}
use Rattle.p414_sem.specs.Effects.{Moment}
use Rattle.p414_sem.specs.Controls.{Setting, applied, run, runs_block, has_block_of}
use Rattle.p414_ready_conditions.specs.Rows.{truth_rows}
use Rattle.p414_ready_controls.specs.declared.nodes.ControlNode.{ControlNode}
use Rattle.p414_ready_controls.specs.declared.nodes.ControlNode.TheVariants as node
use Rattle.p414_ready_controls.specs.Nodes.{kept_label, named_in, branches_node, table_place, size, node_of, nodes_of, body_nodes, control_nodes}
use Rattle.p414_control_run.specs.declared.taken.Taken.{Taken}
use Rattle.p414_control_run.specs.Branches.{takes_label}
use Rattle.p414_control_run.specs.Leads.{Left, TakesAs, Leads, Ends, Goes, left_of, body_at, FrontLeads}
use Rattle.p414_control_run.proofs.Naming.{takes_blocks}

drop_front : {X : Type 0} (xs ys : List X) → drop (length xs) (xs ++ ys) ≡ ys
drop_front [] ys = refl
drop_front (x ∷ xs) ys = drop_front xs ys

length_map : {X Y : Type 0} (f : X → Y) (xs : List X) → length (map f xs) ≡ length xs
length_map f [] = refl
length_map f (x ∷ xs) = ap suc (length_map f xs)

module _ (c : Setting) (bodies : List (List ControlNode)) where
  -- nodes of two parts, one behind the other

  abbrev both : Stmt → Stmt → List ControlNode → List ControlNode
  both a b more = map (node_of c.decls) (subtrees a ++ subtrees b) ++ more

  first_of : (a b : Stmt) (more : List ControlNode) → both a b more ≡ nodes_of c.decls a ++ (nodes_of c.decls b ++ more)
  first_of a b more =
      ap (λ (l : List ControlNode). l ++ more) (map-append (node_of c.decls) (subtrees a) (subtrees b))
      ∙ append_assoc (nodes_of c.decls a) (nodes_of c.decls b) more

  second_of : (a b : Stmt) (more : List ControlNode) → drop (size a) (both a b more) ≡ nodes_of c.decls b ++ more
  second_of a b more =
      ap₂ (λ (n : ℕ) (l : List ControlNode). drop n l) (sym (length_map (node_of c.decls) (subtrees a))) (first_of a b more)
      ∙ drop_front (nodes_of c.decls a) (nodes_of c.decls b ++ more)

  -- at the nodes of a statement what is behind the first of them leads on

  abbrev Behind : Option Taken → ControlNode → List ControlNode → List Left → Moment → Moment → Type 0
  Behind = FrontLeads c bodies

  chosen : (t : Option Taken) (takes : Label → Bool) (a b to_a to_b : Stmt) (more : List ControlNode) (left : List Left) (m due : Moment) (first : Bool) → TakesAs c.decls t takes → StatementExpands c.decls a to_a → StatementExpands c.decls b to_b → Leads c left (cond first (run c takes to_a m) (run c takes to_b m)) due → Leads c (left_of t (cond first (both a b more) (drop (size a) (both a b more))) ∷ left) m due
  chosen t takes a b to_a to_b more left m due true so ea eb later =
      Goes t (both a b more) (nodes_of c.decls b ++ more) left takes a to_a m due so (first_of a b more) ea later
  chosen t takes a b to_a to_b more left m due false so ea eb later =
      Goes t (drop (size a) (both a b more)) more left takes b to_b m due so (second_of a b more) eb later

  branched : (t : Option Taken) (takes : Label → Bool) (a b to_a to_b : Stmt) (l : Label) (more : List ControlNode) (left : List Left) (m due : Moment) (k b2 : Bool) → k ≡ b2 → TakesAs c.decls t takes → StatementExpands c.decls a to_a → StatementExpands c.decls b to_b → Leads c left (cond b2 (run c takes to_b m) (run c takes to_a m)) due → Leads c (left_of t (cond k (drop (size a) (both a b more)) (both a b more)) ∷ left) m due
  branched t takes a b to_a to_b l more left m due k true is so ea eb later =
      subst (λ (v : Bool). Leads c (left_of t (cond v (drop (size a) (both a b more)) (both a b more)) ∷ left) m due) (sym is)
      (Goes t (drop (size a) (both a b more)) more left takes b to_b m due so (second_of a b more) eb later)
  branched t takes a b to_a to_b l more left m due k false is so ea eb later =
      subst (λ (v : Bool). Leads c (left_of t (cond v (drop (size a) (both a b more)) (both a b more)) ∷ left) m due) (sym is)
      (Goes t (both a b more) (nodes_of c.decls b ++ more) left takes a to_a m due so (first_of a b more) ea later)

  applied_branches : (t : Option Taken) (table : Name) (a to_a : Stmt) (o : Option (List ℕ)) (more : List ControlNode) (left : List Left) (m due : Moment) → named_in c.decls a ≡ o → StatementExpands c.decls a to_a → Leads c left (run c (runs_block (applied c table m) (has_block_of (applied c table m).action to_a)) to_a (applied c table m).moment) due → Behind t (branches_node (table_place c.decls table) o) (nodes_of c.decls a ++ more) left m due
  applied_branches t table a to_a None more left m due is ea later = _
  applied_branches t table a to_a (Some named) more left m due is ea later = record {
    name = table;
    place = refl;
    leads = λ taken was.
        Goes (Some taken) (nodes_of c.decls a ++ more) more left
        (runs_block (applied c table m) (has_block_of (applied c table m).action to_a)) a to_a (applied c table m).moment due
        (takes_blocks c.decls named (applied c table m) taken a to_a was ea is) refl ea later;
  }

  pub called : (t : Option Taken) (takes : Label → Bool) (name : Name) (control : ControlTree) (body : Stmt) (o : Option ℕ) (left : List Left) (m due : Moment) → bodies ≡ control_nodes c.decls → option_and_then (slice_get (controls c.decls)) o ≡ Some control → TakesAs c.decls t takes → StatementExpands c.decls control.body body → Leads c left (run c takes body m) due → Leads c (left_of t (body_at bodies o) ∷ left) m due
  called t takes name control body None left m due all there so ex later = absurd (cc there)
  called t takes name control body (Some k) left m due all there so ex later =
      Goes t (body_at bodies (Some k)) [] left takes control.body body m due so
      (ap (λ (l : List (List ControlNode)). slice_index_or l k []) all
      ∙ (at_number (controls c.decls) k there ∙ sym (append-nil (nodes_of c.decls control.body)))) ex later where
        at_number : (cs : List ControlTree) (n : ℕ) → slice_get cs n ≡ Some control → slice_index_or (map (body_nodes c.decls) cs) n [] ≡ nodes_of c.decls control.body
        at_number [] n e = absurd (cc e)
        at_number (x ∷ cs) zero e = let same : x ≡ control = cc e in ap (λ (d : ControlTree). nodes_of c.decls d.body) same
        at_number (x ∷ cs) (suc n) e = at_number cs n e

  -- by cases on what a statement comes to
  moved : (t : Option Taken) (n k : ControlNode) (rest tail : List ControlNode) (left : List Left) (m due : Moment) → Behind t n tail left m due → n ∷ tail ≡ k ∷ rest → Behind t k rest left m due
  moved t n k rest tail left m due leads e =
      let same : n ≡ k = cc e in
      let last : tail ≡ rest = cc e in
      subst (λ (j : ControlNode). Behind t j rest left m due) same (subst (λ (l : List ControlNode). Behind t n l left m due) last leads)

  behind : bodies ≡ control_nodes c.decls → (t : Option Taken) (takes : Label → Bool) (s to : Stmt) (more : List ControlNode) (n : ControlNode) (rest : List ControlNode) (left : List Left) (m due : Moment) → TakesAs c.decls t takes → StatementExpands c.decls s to → Leads c left (run c takes to m) due → nodes_of c.decls s ++ more ≡ n ∷ rest → Behind t n rest left m due
  behind all t takes _ _ more n rest left m due so NoStatements later e = moved t node.Nothing n rest more left m due later e
  behind all t takes _ _ more n rest left m due so NoElse later e = moved t node.Nothing n rest more left m due later e
  behind all t takes _ _ more n rest left m due so NoBranches later e = moved t node.Nothing n rest more left m due later e
  behind all t takes _ _ more n rest left m due so (Then a b to_a to_b ea eb) later e =
      moved t (node.Both (size a)) n rest (both a b more) left m due
      (Goes t (both a b more) (nodes_of c.decls b ++ more) (left_of t (drop (size a) (both a b more)) ∷ left) takes a to_a m due so (first_of a b more) ea
      (Goes t (drop (size a) (both a b more)) more left takes b to_b (run c takes to_a m) due so (second_of a b more) eb later)) e
  behind all t takes _ _ more n rest left m due so (Apply table) later e =
      moved t (node.Apply (table_place c.decls table)) n rest more left m due (record { name = table; place = refl; leads = later }) e
  behind all t takes _ _ more n rest left m due so (ApplyBranches table a to_a ea) later e =
      moved t (branches_node (table_place c.decls table) (named_in c.decls a)) n rest (nodes_of c.decls a ++ more) left m due
      (applied_branches t table a to_a (named_in c.decls a) more left m due refl ea later) e
  behind all t takes _ _ more n rest left m due so (If cond_ a b to_a to_b ea eb) later e =
      moved t (node.If (truth_rows c.decls cond_) (size a)) n rest (both a b more) left m due
      (record {
        condition = cond_;
        are = refl;
        leads = chosen t takes a b to_a to_b more left m due (holds c.decls m.state cond_) so ea eb later;
      }) e
  behind all t takes _ _ more n rest left m due so (Call name control body at ex) later e =
      moved t (node.Call (control_number c.decls name)) n rest more left m due
      (called t takes name control body (control_number c.decls name) left m due all at so ex later) e
  behind all t takes _ _ more n rest left m due so (ElseBlock a to_a ea) later e =
      moved t node.Inner n rest (nodes_of c.decls a ++ more) left m due
      (Goes t (nodes_of c.decls a ++ more) more left takes a to_a m due so refl ea later) e
  behind all t takes _ _ more n rest left m due so (ElseIf a to_a ea) later e =
      moved t node.Inner n rest (nodes_of c.decls a ++ more) left m due
      (Goes t (nodes_of c.decls a ++ more) more left takes a to_a m due so refl ea later) e
  behind all t takes _ _ more n rest left m due so (Branch a b to_a to_b l ea eb) later e =
      moved t (node.Branch (kept_label c.decls l) (size a)) n rest (both a b more) left m due
      (branched t takes a b to_a to_b l more left m due (takes_label t (kept_label c.decls l)) (takes l) (so.so l) so ea eb later) e

  pub front : bodies ≡ control_nodes c.decls → (t : Option Taken) (nodes : List ControlNode) (n : ControlNode) (rest : List ControlNode) (left : List Left) (m due : Moment) → nodes ≡ n ∷ rest → Leads c (left_of t nodes ∷ left) m due → FrontLeads c bodies t n rest left m due
  front all t nodes n rest left m due is (Goes _ _ more _ takes s to _ _ so are ex later) =
      behind all t takes s to more n rest left m due so ex later (sym are ∙ is)

-- where nothing is still to be run, the moment is the one that was led to
pub ended : (c : Setting) (m due : Moment) → Leads c [] m due → m ≡ due
ended c m due (Ends _) = refl
