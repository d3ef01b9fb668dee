-- Lists of statements, branches and labels, and the trees that they are folded into.
use Rattle.std.proofs.Common.{◌≡◌, ℕ, Bool, true, false, not, if◌then◌else◌, List, [], ◌∷◌, ◌++◌, map, codes, refl, sym, ap, subst, ◌∙◌, append_assoc, append-nil, bytes_eq}
use Rattle.std.specs.List.{flat_map, list_all}
use Rattle.p414_syntax.specs.declared.node.Label.{Label}
use Rattle.p414_syntax.specs.declared.node.Label.TheVariants as label
use Rattle.p414_syntax.specs.Tree as tree
use Rattle.p414_syntax.specs.Tree.{Stmt, no_statements, no_branches, branch}
use Rattle.p414_syntax.specs.Written.{label_text, written_stmt}
use Rattle.p414_syntax.specs.Conditions.{is_among, all_different, is_mixed, are_labels, own_labels, is_label, labels_of, statement, block, branches, is_stmt}
use Rattle.predictive_parser.specs.Values.{newest, extended}
use Rattle.p414_reader.specs.internal.Classes.{may_follow}
use Rattle.p414_reader.specs.internal.Actions.{label_of}
use Rattle.p414_reader.proofs.Meaning.{BranchPart, written_branch, is_branch, branch_text, with_stmts, with_branches}
use Rattle.p414_reader.proofs.Lists.{both, left_true, right_true, not_true, text_is, text_differs, neither_of, different_one_more}

-- statements

-- a list of statements with more behind it
abbrev pub block_behind : Stmt → List Stmt → Stmt
block_behind before [] = before
block_behind before (s ∷ ss) = block_behind (tree.then before s) ss

abbrev pub block_of : List Stmt → Stmt
block_of ss = block_behind no_statements ss

pub with_stmts_is : (ss : List Stmt) (before : Stmt) (stack : List Stmt) → with_stmts ss (before ∷ stack) ≡ block_behind before ss ∷ stack
with_stmts_is [] before stack = refl
with_stmts_is (s ∷ ss) before stack = with_stmts_is ss (tree.then before s) stack

pub with_stmts_append : (ss more : List Stmt) (stack : List Stmt) → with_stmts (ss ++ more) stack ≡ with_stmts more (with_stmts ss stack)
with_stmts_append [] more stack = refl
with_stmts_append (s ∷ ss) more stack = with_stmts_append ss more _

written_behind : (ss : List Stmt) (before : Stmt) → written_stmt (block_behind before ss) ≡ written_stmt before ++ flat_map written_stmt ss
written_behind [] before = sym (append-nil (written_stmt before))
written_behind (s ∷ ss) before = written_behind ss (tree.then before s) ∙ append_assoc (written_stmt before) (written_stmt s) (flat_map written_stmt ss)

pub written_block : (ss : List Stmt) → written_stmt (block_of ss) ≡ flat_map written_stmt ss
written_block ss = written_behind ss no_statements

is_behind : (ss : List Stmt) (before : Stmt) → is_stmt block before ≡ true → list_all (is_stmt statement) ss ≡ true → is_stmt block (block_behind before ss) ≡ true
is_behind [] before h k = h
is_behind (s ∷ ss) before h k =
    is_behind ss (tree.then before s) (both (is_stmt block before) (is_stmt statement s) h (left_true (is_stmt statement s) (list_all (is_stmt statement) ss) k))
    (right_true (is_stmt statement s) (list_all (is_stmt statement) ss) k)

pub is_block : (ss : List Stmt) → list_all (is_stmt statement) ss ≡ true → is_stmt block (block_of ss) ≡ true
is_block ss k = is_behind ss no_statements refl k

-- branches

abbrev pub branches_behind : Stmt → List BranchPart → Stmt
branches_behind before [] = before
branches_behind before (b ∷ bs) = branches_behind (branch before b.label b.inside) bs

abbrev pub branches_of : List BranchPart → Stmt
branches_of bs = branches_behind no_branches bs

pub with_branches_is : (bs : List BranchPart) (before : Stmt) (stack : List Stmt) → with_branches bs (before ∷ stack) ≡ branches_behind before bs ∷ stack
with_branches_is [] before stack = refl
with_branches_is (b ∷ bs) before stack = with_branches_is bs (branch before b.label b.inside) stack

written_branches_behind : (bs : List BranchPart) (before : Stmt) → written_stmt (branches_behind before bs) ≡ written_stmt before ++ flat_map written_branch bs
written_branches_behind [] before = sym (append-nil (written_stmt before))
written_branches_behind (b ∷ bs) before =
    written_branches_behind bs (branch before b.label b.inside) ∙ append_assoc (written_stmt before) (written_branch b) (flat_map written_branch bs)

pub written_branches : (bs : List BranchPart) → written_stmt (branches_of bs) ≡ flat_map written_branch bs
written_branches bs = written_branches_behind bs no_branches

are_behind : (bs : List BranchPart) (before : Stmt) → is_stmt branches before ≡ true → list_all is_branch bs ≡ true → is_stmt branches (branches_behind before bs) ≡ true
are_behind [] before h k = h
are_behind (b ∷ bs) before h k =
    are_behind bs (branch before b.label b.inside) (both (is_stmt branches before) (is_branch b) h (left_true (is_branch b) (list_all is_branch bs) k))
    (right_true (is_branch b) (list_all is_branch bs) k)

pub are_branches : (bs : List BranchPart) → list_all is_branch bs ≡ true → is_stmt branches (branches_of bs) ≡ true
are_branches bs k = are_behind bs no_branches refl k

labels_behind : (bs : List BranchPart) (before : Stmt) → labels_of (branches_behind before bs) ≡ labels_of before ++ map branch_text bs
labels_behind [] before = sym (append-nil (labels_of before))
labels_behind (b ∷ bs) before =
    labels_behind bs (branch before b.label b.inside) ∙ append_assoc (labels_of before) (branch_text b ∷ []) (map branch_text bs)

pub labels_of_branches : (bs : List BranchPart) → labels_of (branches_of bs) ≡ map branch_text bs
labels_of_branches bs = labels_behind bs no_branches

-- labels

abbrev Labelled : List ℕ → Label → Type 0
Labelled text l = (label_text l ≡ text) × (is_label l ≡ true)

pub label_is : (text : List ℕ) → Labelled text (label_of text)
label_is text = is_hit (bytes_eq (codes "hit") text) refl
  where
    action : bytes_eq (codes "hit") text ≡ false → bytes_eq (codes "miss") text ≡ false → bytes_eq (codes "default") text ≡ false → not (is_among text own_labels) ≡ true
    action h m d =
        ap not (neither_of (bytes_eq text (codes "hit")) (is_among text (codes "miss" ∷ codes "default" ∷ [])) (text_differs (codes "hit") text h)
        (neither_of (bytes_eq text (codes "miss")) (is_among text (codes "default" ∷ [])) (text_differs (codes "miss") text m)
        (neither_of (bytes_eq text (codes "default")) false (text_differs (codes "default") text d) refl)))

    is_default : (yes : Bool) → bytes_eq (codes "default") text ≡ yes → bytes_eq (codes "hit") text ≡ false → bytes_eq (codes "miss") text ≡ false → Labelled text (if yes then label.Default else label.Action text)
    is_default true e h m = (sym (text_is (codes "default") text e), refl)
    is_default false e h m = (refl, action h m e)

    is_miss : (yes : Bool) → bytes_eq (codes "miss") text ≡ yes → bytes_eq (codes "hit") text ≡ false → Labelled text (if yes then label.Miss else (if bytes_eq (codes "default") text then label.Default else label.Action text))
    is_miss true e h = (sym (text_is (codes "miss") text e), refl)
    is_miss false e h = is_default (bytes_eq (codes "default") text) refl h e

    is_hit : (yes : Bool) → bytes_eq (codes "hit") text ≡ yes → Labelled text (if yes then label.Hit else (if bytes_eq (codes "miss") text then label.Miss else (if bytes_eq (codes "default") text then label.Default else label.Action text)))
    is_hit true e = (sym (text_is (codes "hit") text e), refl)
    is_hit false e = is_miss (bytes_eq (codes "miss") text) refl e

one_more : (text : List ℕ) (labels : List (List ℕ)) → may_follow labels text ≡ true → are_labels labels ≡ true → are_labels (labels ++ text ∷ []) ≡ true
one_more text labels f h =
    both (all_different (labels ++ text ∷ [])) (not (is_mixed (labels ++ text ∷ [])))
    (different_one_more text labels (not_true (is_among text labels) (left_true (not (is_among text labels)) (not (is_mixed (labels ++ text ∷ []))) f))
    (left_true (all_different labels) (not (is_mixed labels)) h))
    (right_true (not (is_among text labels)) (not (is_mixed (labels ++ text ∷ []))) f)

-- a label behind those of the newest list, and more behind it
pub labels_more : (text : List ℕ) (texts : List (List ℕ)) (lists : List (List (List ℕ))) → may_follow (newest [] lists) text ≡ true →
    (are_labels (newest [] (extended (text ∷ []) lists)) ≡ true → are_labels (newest [] (extended (text ∷ []) lists) ++ texts) ≡ true) →
    are_labels (newest [] lists) ≡ true → are_labels (newest [] lists ++ text ∷ texts) ≡ true
labels_more text texts [] f g h = g (one_more text [] f h)
labels_more text texts (list ∷ lists) f g h =
    subst (λ (l : List (List ℕ)). are_labels l ≡ true) (append_assoc list (text ∷ []) texts) (g (one_more text list f h))
