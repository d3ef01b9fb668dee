-- What the sizes of a graph of lists, counted up to one, say of the expanded lists.
use Rattle.std.proofs.Common.{◌≡◌, ℕ, ◌+◌, min, Bool, true, false, cond, not, ◌||◌, nat_lt, is_some, is_none, IsTrue, List, [], ◌∷◌, ◌++◌, length, map, sum_by, Option, Some, None, MatchOption, option_and_then, option_map, refl, sym, ap, ◌∙◌, subst, arith}
use Rattle.std.specs.List.{list_any}
use Rattle.std.proofs.lemmas.Bool.{and_parts, and_from, or_parts, or_from, not-true, not_from_false}
use Rattle.std.proofs.lemmas.List.{length-map}
use Rattle.std.proofs.lemmas.List.Sums.{sum_by-cons}
use Rattle.std.proofs.lemmas.List.Folds.{list_any-append}
use Rattle.std.specs.Global.{Vec}
use Rattle.digraph.specs.Graphs.{IsClosed}
use Rattle.digraph.specs.Expansions.{AreSizes, HasCycle}
use Rattle.p414_syntax.specs.declared.calculations.Item.{Item}
use Rattle.p414_syntax.specs.declared.syntax.Decl.{Decl}
use Rattle.p414_syntax.specs.Names.{Name}
use Rattle.p414_syntax.specs.Lists.{HoldsItself}
use Rattle.p414_syntax.specs.Exact.{IsExact}
use Rattle.p414_syntax.specs.Expansion.{lists, list_number, items_in, items_at, inner_number, own_items, Expands, ComesTo, Joins}
use Rattle.p414_list_check.specs.internal.Expanded.{list_row, list_graph, capped_count, own_counts}
use Rattle.p414_list_check.proofs.Expanding.{CountsOwn, get_within, named_within}
use Rattle.p414_list_check.proofs.Holding.{closed, holds_itself}
use Rattle.p414_list_check.proofs.Sized.{size_is, some_items}
use Rattle.p414_preserved_check.specs.internal.Marks.{own_has, one_if, own_mark, own_marks, AsksOwn, AreMarks, is_marked, marked_by, is_marked_name, is_missing, joins_marked}

-- an answer by both ways
pub exact_by : (answer : Bool) (P : Type 0) → (answer ≡ true → P) → (P → answer ≡ true) → IsExact answer P
exact_by true P there back = there refl
exact_by false P there back = λ p. absurd (cc (back p))

pub exact_same : (a b : Bool) (P : Type 0) → a ≡ b → IsExact b P → IsExact a P
exact_same a b P e h = subst (λ c. IsExact c P) (sym e) h

-- counting up to one

abbrev pub weight_of : (Item → Bool) → Item → ℕ
weight_of p i = one_if (p i)

abbrev pub own_of : List Decl → (Item → Bool) → Item → ℕ
own_of ds p i = cond (is_some (inner_number ds i)) 0 (sum_by (weight_of p) (own_items ds i))

at_most_one : (b : Bool) → min 1 (one_if b) ≡ one_if b
at_most_one true = refl
at_most_one false = refl

one_more : (a b : Bool) (n m : ℕ) → min 1 n ≡ one_if a → min 1 m ≡ one_if b → min 1 (n + m) ≡ one_if (a || b)
one_more true b n m e f = let h : min 1 n ≡ 1 = e in omega arith
one_more false true n m e f = let h : min 1 m ≡ 1 = f in omega arith
one_more false false n m e f = let h : min 1 n ≡ 0 = e in let k : min 1 m ≡ 0 = f in omega arith

some_sum : {X : Type 0} (f : X → ℕ) (q : X → Bool) → ((x : X) → min 1 (f x) ≡ one_if (q x)) → (xs : List X) → min 1 (sum_by f xs) ≡ one_if (list_any q xs)
some_sum f q each [] = refl
some_sum f q each (x ∷ xs) = ap (min 1) (sum_by-cons f x xs) ∙ one_more (q x) (list_any q xs) (f x) (sum_by f xs) (each x) (some_sum f q each xs)

own_by : (ds : List Decl) (p : Item → Bool) (i : Item) (b : Bool) → min 1 (cond b 0 (sum_by (weight_of p) (own_items ds i))) ≡ one_if (cond b false (list_any p (own_items ds i)))
own_by ds p i true = refl
own_by ds p i false = some_sum (weight_of p) p (λ x. at_most_one (p x)) (own_items ds i)

own_one : (ds : List Decl) (p by : Item → Bool) → AsksOwn ds p by → (i : Item) → min 1 (own_of ds p i) ≡ one_if (own_has ds by i)
own_one ds p by asks i =
    own_by ds p i (is_some (inner_number ds i)) ∙ ap (λ (c : Bool). one_if (cond (is_some (inner_number ds i)) false c)) (sym (asks.asks i))

same_map : {X Y : Type 0} (f g : X → Y) → ((x : X) → f x ≡ g x) → (xs : List X) → map f xs ≡ map g xs
same_map f g same xs = λ i. map (λ x. same x i) xs

same_counts : (ds : List Decl) (p by : Item → Bool) → AsksOwn ds p by → own_counts 1 (own_of ds p) ds ≡ own_marks ds by
same_counts ds p by asks =
    same_map (capped_count 1 (own_of ds p)) (own_mark ds by) (λ l. some_sum (own_of ds p) (own_has ds by) (own_one ds p by asks) l.items) (lists ds)

counts : (ds : List Decl) (p : Item → Bool) → CountsOwn ds (weight_of p) (own_of ds p)
counts ds p = record {
  alone = λ i e. sym (ap (λ (o : Option ℕ). cond (is_some o) 0 (sum_by (weight_of p) (own_items ds i))) e);
  inner = λ i l e. ap (λ (o : Option ℕ). cond (is_some o) 0 (sum_by (weight_of p) (own_items ds i))) e;
}

known_by : (ds : List Decl) (p : Item → Bool) (sizes : List ℕ) → AreSizes (list_graph ds) (own_counts 1 (own_of ds p) ds) 1 sizes → AreMarks ds p sizes
known_by ds p sizes known = record {
  comes = λ l items there. some_items ds (weight_of p) (own_of ds p) (counts ds p) 1 sizes known l items there;
  mark = λ l items all there e. size_is ds (weight_of p) (own_of ds p) (counts ds p) 1 sizes known l items all there e ∙ some_sum (weight_of p) p (λ x. at_most_one (p x)) all;
}

-- sizes counted up to one are marks
pub marks_by : (ds : List Decl) (p by : Item → Bool) → AsksOwn ds p by → (sizes : List ℕ) → AreSizes (list_graph ds) (own_marks ds by) 1 sizes → AreMarks ds p sizes
marks_by ds p by asks sizes known = known_by ds p sizes (subst (λ own. AreSizes (list_graph ds) own 1 sizes) (sym (same_counts ds p by asks)) known)

pub own_each : (ds : List Decl) (by : Item → Bool) → length (own_marks ds by) ≡ length (list_graph ds)
own_each ds by = length-map (lists ds) (own_mark ds by) ∙ sym (length-map (lists ds) (list_row ds))

-- a mark, read

over_zero : (b : Bool) → nat_lt 0 (one_if b) ≡ b
over_zero true = refl
over_zero false = refl

pub marked_is : (ds : List Decl) (p : Item → Bool) (marks : List ℕ) → AreMarks ds p marks → (l : ℕ) (items all : List Item) → items_at ds l ≡ Some items → Expands ds items all → is_marked marks l ≡ list_any p all
marked_is ds p marks known l items all there e = ap (nat_lt 0) (known.mark l items all there e) ∙ over_zero (list_any p all)

-- the list with a name

pub named_of : (ds : List Decl) (o : Option ℕ) (items : List Item) → option_and_then (items_at ds) o ≡ Some items → (l : ℕ) × (o ≡ Some l) × (items_at ds l ≡ Some items)
named_of ds None items e = absurd (cc e)
named_of ds (Some l) items e = (l, refl, e)

pub named_is : (ds : List Decl) (p : Item → Bool) (marks : List ℕ) → AreMarks ds p marks → (name : Name) (all : List Item) → ComesTo ds name all → is_marked_name ds marks name ≡ list_any p all
named_is ds p marks known name all there =
    let f = named_of ds (list_number ds name) there.items there.named in
    ap (marked_by marks) f.1 ∙ marked_is ds p marks known f.0 there.items all f.2 there.expands

pub never_missing : (ds : List Decl) (name : Name) (all : List Item) → ComesTo ds name all → is_missing ds name ≡ false
never_missing ds name all there =
    let f = named_of ds (list_number ds name) there.items there.named in
    ap (λ (o : Option ℕ). is_none o) f.1

comes_at : (ds : List Decl) (p : Item → Bool) (marks : List ℕ) → AreMarks ds p marks → (name : Name) (o : Option ℕ) → list_number ds name ≡ o → is_none o ≡ false → (all : List Item) × ComesTo ds name all
comes_at ds p marks known name None is e = absurd (cc e)
comes_at ds p marks known name (Some l) is e =
    let f = get_within (lists ds) l (named_within ds name l is) in
    let there : items_at ds l ≡ Some f.0.items = ap (option_map items_in) f.1 in
    let h = known.comes l f.0.items there in
    (h.0, record { items = f.0.items; named = ap (option_and_then (items_at ds)) is ∙ there; expands = h.1 })

pub named_comes : (ds : List Decl) (p : Item → Bool) (marks : List ℕ) → AreMarks ds p marks → (name : Name) → is_missing ds name ≡ false → (all : List Item) × ComesTo ds name all
named_comes ds p marks known name e = comes_at ds p marks known name (list_number ds name) refl e

-- lists with these names, joined

pub or_same : (a b c d : Bool) → a ≡ c → b ≡ d → (a || b) ≡ (c || d)
or_same a b c d e f = λ i. e i || f i

pub never_missing_all : (ds : List Decl) (names : List Name) (all : List Item) → Joins ds names all → list_any (is_missing ds) names ≡ false
never_missing_all ds [] all none = refl
never_missing_all ds (name ∷ names) all (first, rest, there, behind, is) =
    or_from (is_missing ds name) (list_any (is_missing ds) names) (never_missing ds name first there) (never_missing_all ds names rest behind)

pub marked_all : (ds : List Decl) (p : Item → Bool) (marks : List ℕ) → AreMarks ds p marks → (names : List Name) (all : List Item) → Joins ds names all → list_any (is_marked_name ds marks) names ≡ list_any p all
marked_all ds p marks known [] all none = sym (ap (list_any p) none)
marked_all ds p marks known (name ∷ names) all (first, rest, there, behind, is) =
    or_same (is_marked_name ds marks name) (list_any (is_marked_name ds marks) names) (list_any p first) (list_any p rest) (named_is ds p marks known name first there) (marked_all ds p marks known names rest behind)
    ∙ (sym (list_any-append p first rest) ∙ sym (ap (list_any p) is))

pub join_all : (ds : List Decl) (p : Item → Bool) (marks : List ℕ) → AreMarks ds p marks → (names : List Name) → list_any (is_missing ds) names ≡ false → (all : List Item) × Joins ds names all
join_all ds p marks known [] e = ([], refl)
join_all ds p marks known (name ∷ names) e =
    let h = or_parts (is_missing ds name) (list_any (is_missing ds) names) e in
    let first = named_comes ds p marks known name h.0 in
    let rest = join_all ds p marks known names h.1 in
    (first.0 ++ rest.0, (first.0, rest.0, first.1, rest.1, refl))

abbrev pub JoinsWith : List Decl → (Item → Bool) → List Name → Type 0
JoinsWith ds p names = (items : List Item) × Joins ds names items × IsTrue (list_any p items)

pub joins_is : (ds : List Decl) (p : Item → Bool) (marks : List ℕ) → AreMarks ds p marks → (names : List Name) → joins_marked ds marks names ≡ true → JoinsWith ds p names
joins_is ds p marks known names e =
    let h = and_parts (not (list_any (is_missing ds) names)) (list_any (is_marked_name ds marks) names) e in
    let j = join_all ds p marks known names (not-true (list_any (is_missing ds) names) h.0) in
    (j.0, j.1, sym (marked_all ds p marks known names j.0 j.1) ∙ h.1)

pub joins_back : (ds : List Decl) (p : Item → Bool) (marks : List ℕ) → AreMarks ds p marks → (names : List Name) → JoinsWith ds p names → joins_marked ds marks names ≡ true
joins_back ds p marks known names (all, joins, t) =
    and_from (not (list_any (is_missing ds) names)) (list_any (is_marked_name ds marks) names)
    (not_from_false (list_any (is_missing ds) names) (never_missing_all ds names all joins))
    (marked_all ds p marks known names all joins ∙ t)

pub joins_exact : (ds : List Decl) (p : Item → Bool) (marks : List ℕ) → AreMarks ds p marks → (names : List Name) → IsExact (joins_marked ds marks names) (JoinsWith ds p names)
joins_exact ds p marks known names =
    exact_by (joins_marked ds marks names) (JoinsWith ds p names) (joins_is ds p marks known names) (joins_back ds p marks known names)

-- from what the calls on the graph answer

pub closed_by : (ds : List Decl) (g : List (List ℕ)) → g ≡ list_graph ds → IsClosed g
closed_by ds g e = subst (λ (n : List (List ℕ)). IsClosed n) (sym e) (closed ds)

marks_in : (ds : List Decl) (g : List (List ℕ)) (own : List ℕ) (sizes : List ℕ) → g ≡ list_graph ds → AreSizes g own 1 sizes → (p by : Item → Bool) → AsksOwn ds p by → own ≡ own_marks ds by → AreMarks ds p sizes
marks_in ds g own sizes e known p by asks is =
    marks_by ds p by asks sizes (subst (λ (o : List ℕ). AreSizes (list_graph ds) o 1 sizes) is (subst (λ (n : List (List ℕ)). AreSizes n own 1 sizes) e known))

pub marks_found : (ds : List Decl) (g : List (List ℕ)) (own : List ℕ) (found : Option (Vec ℕ)) (marks : Vec ℕ) → g ≡ list_graph ds → MatchOption found (HasCycle g) (λ s. AreSizes g own 1 s.items) → found ≡ Some marks → (p by : Item → Bool) → AsksOwn ds p by → own ≡ own_marks ds by → AreMarks ds p marks.items
marks_found ds g own found marks e h is =
    marks_in ds g own marks.items e (subst (λ (o : Option (Vec ℕ)). MatchOption o (HasCycle g) (λ s. AreSizes g own 1 s.items)) is h)

pub never_cyclic : (ds : List Decl) (g : List (List ℕ)) (own : List ℕ) (found : Option (Vec ℕ)) → (HoldsItself ds → ⊥) → g ≡ list_graph ds → MatchOption found (HasCycle g) (λ s. AreSizes g own 1 s.items) → found ≡ None → ⊥
never_cyclic ds g own found never e h is =
    never (holds_itself ds (subst (λ (n : List (List ℕ)). HasCycle n) e (subst (λ (o : Option (Vec ℕ)). MatchOption o (HasCycle g) (λ s. AreSizes g own 1 s.items)) is h)))
