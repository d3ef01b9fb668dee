-- Statements break no rule.
use Rattle.std.proofs.Common.{◌≡◌, ℕ, suc, ◌<◌, ◌≤◌, max, Bool, true, false, ◌||◌, ◌&&◌, cond, Option, List, [], ◌∷◌, ◌++◌, refl, sym, ap, ap₂, ◌∙◌, subst, arith}
use Rattle.std.specs.List.{list_any}
use Rattle.std.specs.Prelude.{not}
use Rattle.std.proofs.lemmas.Grind.{flat_map-append}
use Rattle.std.proofs.lemmas.List.Folds.{list_any-append}
use Rattle.p416_syntax.specs.declared.node.CaseLabel.{CaseLabel}
use Rattle.p416_syntax.specs.declared.node.CaseLabel.TheVariants as label_of
use Rattle.p416_syntax.specs.declared.controls.ActionName.{ActionName}
use Rattle.p416_syntax.specs.declared.parts.Type16.TheVariants.{Bit}
use Rattle.p416_syntax.specs.Tree.{Exp16, Stmt16, no_statements, then, block, var, assign, expression, if_then, if_else, switch, no_cases, case_of}
use Rattle.p416_syntax.specs.Names.{Name, repeats}
use Rattle.p416_syntax.specs.Kinds.{Kind, bits, header, stack, struct, boolean, is_packet}
use Rattle.p416_syntax.specs.Scopes.{Scope, Sort, an_action, a_table, sort_of, Handed}
use Rattle.p416_syntax.specs.Calls.{value, target, statement, unasked}
use Rattle.p416_syntax.specs.Expressions.{is_chosen}
use Rattle.p416_syntax.specs.Uses.{one, a_name, some_action, some_table, uses_at, names_of_scope}
use Rattle.p416_syntax.specs.Statements.{with_variable, visits, visit_uses, labels_of, label_uses, assigned_place, behind, declared_in, statement_uses}
use Rattle.p416_syntax.specs.Unknown.{is_wanted}
use Rattle.p416_syntax.specs.Applications.{applies_nothing}
use Rattle.p416_syntax.specs.Tables.{is_outside_label, listed_by}
use Rattle.lower_laws_base.specs.Mirror.{plain}
use Rattle.lower_laws_rules.specs.Keeping.{Fine, Keeps, Asks, Sound, Part}
use Rattle.lower_laws_rules.proofs.Lists.{neither, none_kept, behind_kept, first_kept}
use Rattle.lower_laws_rules.proofs.Found.{is_itself}
use Rattle.lower_laws_rules.proofs.Places.{itself, sits, asks_value, asks_truth}
use Rattle.lower_laws_rules.proofs.Sound.{width_fine}
use Rattle.lower_laws_rules.proofs.Calls.{sits_kept}

pub part_none : {s : Scope} → Part s s [] 0 no_statements
part_none = record { goes = refl; declares = refl; nests = omega arith; keeps = none_kept }

pub part_then : {s t u : Scope} {a b : List Name} {m n : ℕ} {x y : Stmt16} → Part s t a m x → Part t u b n y → Part s u (a ++ b) (max m n) ((then) x y)
part_then {s} {x = x} {y} p q = record {
  goes = ap (behind y) p.goes ∙ q.goes;
  declares = ap₂ (λ xs ys. xs ++ ys) p.declares q.declares;
  nests = let few = p.nests in let small = q.nests in omega (arith, few, small);
  keeps = subst (λ us. Keeps us []) (sym (flat_map-append visit_uses (visits s x) (visits (behind x s) y)))
      (behind_kept p.keeps (subst (λ (z : Scope). Keeps (statement_uses z y) []) (sym p.goes) q.keeps));
}

pub nests_deeper : {s t : Scope} {names : List Name} {m : ℕ} {x : Stmt16} (n : ℕ) → m ≤ n → Part s t names m x → Part s t names n x
nests_deeper n le p = record { goes = p.goes; declares = p.declares; nests = let few = p.nests in omega (arith, few, le); keeps = p.keeps }

-- a call
pub part_call : {s : Scope} {e : Exp16} {k : Kind} {can : Bool} {d : ℕ} → Sound s e k can d → d ≤ 400 → Part s s [] 0 (expression e)
part_call x few = record {
  goes = refl;
  declares = refl;
  nests = omega arith;
  keeps = behind_kept (sits_kept (sits x statement (record { opens = refl; takes_it = refl; writes = refl })) few) none_kept;
}

-- an assignment

pub part_assign : {s : Scope} {e f : Exp16} {k : Kind} {can : Bool} {d n : ℕ} → is_chosen k ≡ true → Asks (value k) k can → Sound s e k true d → Sound s f k can n → d ≤ 400 → n ≤ 400 → Part s s [] 0 (assign e f)
part_assign {s} {e} {f} {k} whole asks x y few small = record {
  goes = refl;
  declares = refl;
  nests = omega arith;
  keeps = behind_kept
      (behind_kept (sits_kept (sits x target (record { opens = refl; takes_it = refl; writes = refl })) few)
      (subst (λ q. Keeps (uses_at s (one q) f) []) (sym (ap assigned_place x.kind ∙ ap (λ b. cond (b || is_packet k) (value k) unasked) whole)) (sits_kept (sits y (value k) asks) small))) none_kept;
}

pub part_put : {s : Scope} {e f : Exp16} {width d n : ℕ} {can : Bool} → Sound s e (bits width) true d → Sound s f (bits width) can n → d ≤ 400 → n ≤ 400 → Part s s [] 0 (assign e f)
part_put {width = width} {can = can} x y few small = part_assign refl (asks_value width can) x y few small

pub part_header : {s : Scope} {e f : Exp16} {type : Name} {d n : ℕ} {can : Bool} → Sound s e (header type) true d → Sound s f (header type) can n → d ≤ 400 → n ≤ 400 → Part s s [] 0 (assign e f)
part_header {type = type} x y few small = part_assign refl (record { opens = refl; takes_it = ap (λ b. b || false) (is_itself type); writes = refl }) x y few small

pub part_stack : {s : Scope} {e f : Exp16} {type : Name} {size d n : ℕ} {can : Bool} → Sound s e (stack type size) true d → Sound s f (stack type size) can n → d ≤ 400 → n ≤ 400 → Part s s [] 0 (assign e f)
part_stack {type = type} {size} x y few small = part_assign refl (record { opens = refl; takes_it = ap₂ (λ b c. (b && c) || false) (is_itself type) (itself size); writes = refl }) x y few small

pub part_struct : {s : Scope} {e f : Exp16} {type : Name} {d n : ℕ} {can : Bool} → Sound s e (struct type) true d → Sound s f (struct type) can n → d ≤ 400 → n ≤ 400 → Part s s [] 0 (assign e f)
part_struct {type = type} x y few small = part_assign refl (record { opens = refl; takes_it = ap (λ b. b || false) (is_itself type); writes = refl }) x y few small

-- a variable of bits
pub part_variable : (s : Scope) (width : ℕ) (called : Name) → 0 < width → width ≤ 128 → Part s (with_variable (Bit (plain width)) called s) (called ∷ []) 0 (var (Bit (plain width)) called)
part_variable s width called some most = record {
  goes = refl;
  declares = refl;
  nests = omega arith;
  keeps = first_kept (record { t1 = refl; t2 = refl; t3 = refl; t4 = refl; t5 = refl; t6 = refl; t8 = refl; t9 = refl; t10 = refl; calls = refl }) refl refl
      (first_kept (width_fine width some most) refl refl none_kept);
}

pub names_fine : (names : List Name) → repeats names ≡ false → Fine (names_of_scope names)
names_fine names once = record { t1 = once; t2 = refl; t3 = refl; t4 = refl; t5 = refl; t6 = refl; t8 = refl; t9 = refl; t10 = refl; calls = refl }

-- a block, whose names differ
pub part_block : {s t : Scope} {names : List Name} {deep : ℕ} {x : Stmt16} → Part s t names deep x → repeats names ≡ false → Part s s [] (suc deep) (block x)
part_block {x = x} p once = record {
  goes = refl;
  declares = refl;
  nests = let few = p.nests in omega (arith, few);
  keeps = first_kept (names_fine (declared_in x) (ap repeats p.declares ∙ once)) refl refl p.keeps;
}

-- branches

pub part_if : {s t : Scope} {names : List Name} {deep d : ℕ} {c : Exp16} {x : Stmt16} {can : Bool} → Sound s c boolean can d → d ≤ 400 → Part s t names deep x → Part s s [] deep (if_then c x)
part_if {can = can} test few p = record {
  goes = refl;
  declares = refl;
  nests = p.nests;
  keeps = behind_kept (sits_kept (sits test (value boolean) (asks_truth can)) few) p.keeps;
}

pub part_if_else : {s t u : Scope} {a b : List Name} {m n d : ℕ} {c : Exp16} {x y : Stmt16} {can : Bool} → Sound s c boolean can d → d ≤ 400 → Part s t a m x → Part s u b n y → Part s s [] (max m n) (if_else c x y)
part_if_else {s} {x = x} {y} {can} test few p q = record {
  goes = refl;
  declares = refl;
  nests = let small = p.nests in let less = q.nests in omega (arith, small, less);
  keeps = behind_kept (sits_kept (sits test (value boolean) (asks_truth can)) few)
      (subst (λ us. Keeps us []) (sym (flat_map-append visit_uses (visits s x) (visits s y))) (behind_kept p.keeps q.keeps));
}

-- Cases of a `switch` on what a table ran: the table lists the actions that are named.
pub record Branches (s : Scope) (actions : List ActionName) (deep : ℕ) (x : Stmt16) : Type 0 where
  pub part : Part s s [] deep x
  pub labels : list_any (is_outside_label actions) (labels_of x) ≡ false

pub no_branches : {s : Scope} {actions : List ActionName} → Branches s actions 0 no_cases
no_branches = record { part = record { goes = refl; declares = refl; nests = omega arith; keeps = none_kept }; labels = refl }

one_branch : {s t : Scope} {actions : List ActionName} {names : List Name} {m n : ℕ} {x y : Stmt16} (label : CaseLabel) → Keeps (label_uses s label) [] → is_outside_label actions label ≡ false → Branches s actions m x → Part s t names n y → repeats names ≡ false → Branches s actions (max m (suc n)) (case_of x label y)
one_branch {s} {actions = actions} {x = x} {y} label named listed b p once = record {
  part = record {
    goes = refl;
    declares = refl;
    nests = let few = b.part.nests in let small = p.nests in omega (arith, few, small);
    keeps = subst (λ us. Keeps us []) (sym (flat_map-append visit_uses (visits s x) (_ ∷ visits s y)))
        (behind_kept b.part.keeps (behind_kept (behind_kept named (first_kept (names_fine (declared_in y) (ap repeats p.declares ∙ once)) refl refl none_kept)) p.keeps));
  };
  labels = list_any-append (is_outside_label actions) (labels_of x) (label ∷ []) ∙ neither _ _ b.labels (neither _ _ listed refl);
}

action_known : {s : Scope} {text plane : Name} {ps : List Handed} → sort_of s text ≡ an_action plane ps → Fine (a_name s some_action text)
action_known known = record { t1 = ap (λ (x : Sort). not (is_wanted some_action x)) known; t2 = refl; t3 = refl; t4 = refl; t5 = refl; t6 = refl; t8 = refl; t9 = refl; t10 = refl; calls = refl }

pub branch : {s t : Scope} {actions : List ActionName} {names : List Name} {m n : ℕ} {x y : Stmt16} {text plane : Name} {ps : List Handed} → sort_of s text ≡ an_action plane ps → is_outside_label actions (label_of.Action text) ≡ false → Branches s actions m x → Part s t names n y → repeats names ≡ false → Branches s actions (max m (suc n)) (case_of x (label_of.Action text) y)
branch {text = text} known listed b p once = one_branch (label_of.Action text) (first_kept (action_known known) refl refl none_kept) listed b p once

pub branch_default : {s t : Scope} {actions : List ActionName} {names : List Name} {m n : ℕ} {x y : Stmt16} → Branches s actions m x → Part s t names n y → repeats names ≡ false → Branches s actions (max m (suc n)) (case_of x label_of.Default y)
branch_default b p once = one_branch label_of.Default none_kept refl b p once

pub part_switch : {s : Scope} {table : Name} {actions : List ActionName} {counters : Option Name} {deep : ℕ} {x : Stmt16} → sort_of s table ≡ a_table actions counters → applies_nothing s.part ≡ false → Branches s actions deep x → Part s s [] deep (switch table x)
part_switch {s} {x = x} known applies b = record {
  goes = refl;
  declares = refl;
  nests = b.part.nests;
  keeps = behind_kept
      (first_kept (record { t1 = ap (λ (z : Sort). not (is_wanted some_table z)) known; t2 = refl; t3 = refl; t4 = refl; t5 = refl; t6 = refl; t8 = refl; t9 = refl; t10 = refl; calls = refl }) refl refl
      (first_kept (record { t1 = refl; t2 = refl; t3 = refl; t4 = refl; t5 = refl; t6 = refl; t8 = applies; t9 = ap (λ (z : Sort). list_any (is_outside_label (listed_by z)) (labels_of x)) known ∙ b.labels; t10 = refl; calls = refl }) refl refl none_kept)) b.part.keeps;
}
