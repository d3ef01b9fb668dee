-- Numbers above all labels.
use Rattle.std.proofs.Common.{◌≡◌, ℕ, ◌+◌, ◌<◌, ◌≤◌, ⊎_elim, List, [], get_or, length, sym, ◌∙◌, subst, arith}
use Rattle.std.proofs.lemmas.Bool.{cases_eq}
use Rattle.std.proofs.lemmas.List.{get_or_default}
use Rattle.digraph.specs.Graphs.{Among}
use Rattle.digraph.proofs.Walking.{edge_within}
use Rattle.least_order.specs.Labelled.{labels_of}

-- the labels of one node more are below a number
pub count_more : (labels : List (List ℕ)) (i old new : ℕ) (row names : List ℕ) → i < length labels → row ≡ get_or labels i row → names ≡ row
    → ((a x : ℕ) → a < i → Among x (labels_of labels a) → x < old) → old ≤ new → ((x : ℕ) → Among x names → x < new)
    → (a x : ℕ) → a < i + 1 → Among x (labels_of labels a) → x < new
count_more labels i old new row names lt is are before le above a x less among =
    ⊎_elim
    (λ same.
    above x
    (subst (λ (xs : List ℕ). Among x xs) (get_or_default labels i [] row lt ∙ (sym is ∙ sym are))
    (subst (λ (z : ℕ). Among x (labels_of labels z)) same among)))
    (λ differs. let low = before a x (omega (arith, less, differs)) among in omega (arith, low, le))
    (cases_eq a i)

pub count_every : (labels : List (List ℕ)) (n count : ℕ) → length labels ≤ n → ((a x : ℕ) → a < n → Among x (labels_of labels a) → x < count) → (a x : ℕ) → Among x (labels_of labels a) → x < count
count_every labels n count done before a x among =
    let lt = edge_within labels a x among in
    before a x (omega (arith, lt, done)) among
