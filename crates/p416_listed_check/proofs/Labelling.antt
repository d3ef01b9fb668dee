-- Labels, and the actions that a table lists.
use Rattle.std.proofs.Common.{◌≡◌, ◌+◌, ◌<◌, Bool, true, false, not, ◌||◌, List, [], ◌∷◌, refl, sym, ap, ◌∙◌, arith}
use Rattle.std.specs.List.{list_any}
use Rattle.std.proofs.lemmas.List.Folds.{list_any-append}
use Rattle.p416_syntax.specs.declared.node.CaseLabel.{CaseLabel}
use Rattle.p416_syntax.specs.declared.node.CaseLabel.TheVariants as label
use Rattle.p416_syntax.specs.declared.controls.ActionName.{ActionName}
use Rattle.p416_syntax.specs.declared.controls.ActionName.TheVariants as action_name
use Rattle.p416_syntax.specs.Tree.{Stmt16, case_of}
use Rattle.p416_syntax.specs.Names.{Name}
use Rattle.p416_syntax.specs.Scopes.{Sort, Scope, sort_of}
use Rattle.p416_syntax.specs.Statements.{labels_of}
use Rattle.p416_syntax.specs.Tables.{is_same_action, is_outside_label, listed_by}
use Rattle.p416_listed_check.specs.Pairs.{Pair}
use Rattle.p416_listed_check.specs.internal.Labels.{is_listed, is_outside_listed, case_count}

-- what a table lists tells which labels are outside

label_is : (known : Bool) (pairs : List Pair) (table : Name) (actions : List ActionName) → ((action : Name) → is_listed known pairs table action ≡ list_any (is_same_action (action_name.Declared action)) actions) → (l : CaseLabel) → is_outside_listed known pairs table l ≡ is_outside_label actions l
label_is known pairs table actions are label.Default = refl
label_is known pairs table actions are (label.Action text) = ap not (are text)

labels_are : (known : Bool) (pairs : List Pair) (table : Name) (actions : List ActionName) → ((action : Name) → is_listed known pairs table action ≡ list_any (is_same_action (action_name.Declared action)) actions) → (ls : List CaseLabel)
    → list_any (is_outside_listed known pairs table) ls ≡ list_any (is_outside_label actions) ls
labels_are known pairs table actions are [] = refl
labels_are known pairs table actions are (l ∷ ls) =
    ap (λ (b : Bool). b || list_any (is_outside_listed known pairs table) ls) (label_is known pairs table actions are l)
    ∙ ap (λ (b : Bool). is_outside_label actions l || b) (labels_are known pairs table actions are ls)

pub outside_of : (s : Scope) (text wanted : Name) (sort : Sort) (known : Bool) (pairs : List Pair) (ls : List CaseLabel) (outside : Bool) → text ≡ wanted → sort ≡ sort_of s text
    → ((action : Name) → is_listed known pairs text action ≡ list_any (is_same_action (action_name.Declared action)) (listed_by sort)) → outside ≡ list_any (is_outside_listed known pairs text) ls
    → outside ≡ list_any (is_outside_label (listed_by (sort_of s wanted))) ls
outside_of s text wanted sort known pairs ls outside same of_sort are is =
    is
    ∙ (labels_are known pairs text (listed_by sort) are ls
    ∙ ap (λ (found : List ActionName). list_any (is_outside_label found) ls) (ap listed_by of_sort ∙ ap (λ (t : Name). listed_by (sort_of s t)) same))

-- the labels of cases, the last one first

or_last : (a b : Bool) → b ≡ false → (a || (b || false)) ≡ a
or_last true b e = refl
or_last false true e = e
or_last false false e = refl

or_found : (a b : Bool) → b ≡ true → (a || (b || false)) ≡ true
or_found true b e = refl
or_found false true e = refl
or_found false false e = e

pub label_on : (known : Bool) (pairs : List Pair) (table : Name) (left before : Stmt16) (l : CaseLabel) (body : Stmt16) (outside whole : Bool) → left ≡ case_of before l body → outside ≡ is_outside_listed known pairs table l → outside ≡ false
    → list_any (is_outside_listed known pairs table) (labels_of left) ≡ whole → list_any (is_outside_listed known pairs table) (labels_of before) ≡ whole
label_on known pairs table left before l body outside whole is here isnt same =
    sym
    (list_any-append (is_outside_listed known pairs table) (labels_of before) (l ∷ [])
    ∙ or_last (list_any (is_outside_listed known pairs table) (labels_of before)) (is_outside_listed known pairs table l) (sym here ∙ isnt))
    ∙ (sym (ap (λ (x : Stmt16). list_any (is_outside_listed known pairs table) (labels_of x)) is) ∙ same)

pub label_found : (known : Bool) (pairs : List Pair) (table : Name) (left before : Stmt16) (l : CaseLabel) (body : Stmt16) (outside whole : Bool) → left ≡ case_of before l body → outside ≡ is_outside_listed known pairs table l → outside ≡ true
    → list_any (is_outside_listed known pairs table) (labels_of left) ≡ whole → true ≡ whole
label_found known pairs table left before l body outside whole is here does same =
    sym
    (list_any-append (is_outside_listed known pairs table) (labels_of before) (l ∷ [])
    ∙ or_found (list_any (is_outside_listed known pairs table) (labels_of before)) (is_outside_listed known pairs table l) (sym here ∙ does))
    ∙ (sym (ap (λ (x : Stmt16). list_any (is_outside_listed known pairs table) (labels_of x)) is) ∙ same)

pub no_label : (known : Bool) (pairs : List Pair) (table : Name) (left : Stmt16) (whole : Bool) → labels_of left ≡ [] → list_any (is_outside_listed known pairs table) (labels_of left) ≡ whole → false ≡ whole
no_label known pairs table left whole is same = sym (ap (list_any (is_outside_listed known pairs table)) is) ∙ same

pub fewer : (cases before : Stmt16) (l : CaseLabel) (body : Stmt16) → cases ≡ case_of before l body → case_count before < case_count cases
fewer cases before l body is = rw is (omega arith)
