-- Names are put in order one by one.
use Rattle.std.proofs.Common.{◌≡◌, ℕ, ◌+◌, ◌<◌, List, [], ◌∷◌, length, get_or, drop, map, Option, Some, None, refl, sym, ap, ◌∙◌}
use Rattle.std.specs.Prelude.{option_to_list}
use Rattle.std.specs.Borrow.{Bor}
use Rattle.std.specs.BTreeSet.{insert_key}
use Rattle.std.specs.Cmp.Lexicographic.{slice_cmp}
use Rattle.std.specs.List.{cons_option}
use Rattle.std.specs.Ordering.{nat_cmp, match_ordering}
use Rattle.std.specs.declared.cmp.Ordering.{Ordering}
use Rattle.std.specs.declared.cmp.Ordering.TheVariants.{Less, Equal, Greater}
use Rattle.p414_syntax.specs.declared.syntax.Decl.{Decl}
use Rattle.p414_syntax.specs.declared.syntax.Sort.{Sort}
use Rattle.p414_syntax.specs.References.{referred}
use Rattle.p414_list_check.proofs.Loops.{next_items}
use Rattle.p414_syntax.specs.Names.{Name, name_in, names_in}
use Rattle.p414_signature.specs.internal.Gathered.{put_in_order, put_all}

-- references are put in order as what they refer to

by_order : (o : Ordering) (a b c x y z : List Name) → a ≡ x → b ≡ y → c ≡ z → match_ordering o a b c ≡ match_ordering o x y z
by_order Less a b c x y z e f g = e
by_order Equal a b c x y z e f g = f
by_order Greater a b c x y z e f g = g

moved : (o : Ordering) (f : List (Bor Name) → List Name) (a b c : List (Bor Name)) → f (match_ordering o a b c) ≡ match_ordering o (f a) (f b) (f c)
moved Less f a b c = refl
moved Equal f a b c = refl
moved Greater f a b c = refl

abbrev by_name : Bor Name → Bor Name → Ordering
by_name x y = slice_cmp nat_cmp x.now y.now

put_as : (keys : List (Bor Name)) (key : Bor Name) → map referred (insert_key by_name keys key) ≡ put_in_order (map referred keys) key.now
put_as [] key = refl
put_as (x ∷ keys) key =
    moved (by_name key x) (map referred) (key ∷ x ∷ keys) (x ∷ keys) (x ∷ insert_key by_name keys key)
    ∙ by_order (by_name key x) _ _ _ _ _ _ refl refl (ap (λ l. x.now ∷ l) (put_as keys key))

pub put_is : (old new : List (Bor Name)) (key : Bor Name) → new ≡ insert_key by_name old key → map referred new ≡ put_in_order (map referred old) key.now
put_is old new key is = ap (map referred) is ∙ put_as old key

-- a name of a list
pub put_now : (names : List Name) (i : ℕ) (d : Name) (old new whole : List Name) → i < length names → new ≡ put_in_order old (get_or names i d) → put_all old (drop i names) ≡ whole → put_all new (drop (i + 1) names) ≡ whole
put_now names i d old new whole lt is same =
    ap (λ l. put_all l (drop (i + 1) names)) is ∙ (sym (ap (put_all old) (next_items names i d lt)) ∙ same)

-- a name that a declaration has in a sort, if it has one

more_by : (o : Option Name) (old rest : List Name) → put_all old (cons_option o rest) ≡ put_all (put_all old (option_to_list o)) rest
more_by None old rest = refl
more_by (Some name) old rest = refl

pub put_of_sort : (sort : Sort) (decls : List Decl) (i : ℕ) (d : Decl) (old new whole : List Name) → i < length decls → new ≡ put_all old (option_to_list (name_in sort (get_or decls i d))) → put_all old (names_in sort (drop i decls)) ≡ whole → put_all new (names_in sort (drop (i + 1) decls)) ≡ whole
put_of_sort sort decls i d old new whole lt is same =
    ap (λ l. put_all l (names_in sort (drop (i + 1) decls))) is
    ∙ (sym (more_by (name_in sort (get_or decls i d)) old (names_in sort (drop (i + 1) decls)))
    ∙ (sym (ap (λ l. put_all old (names_in sort l)) (next_items decls i d lt)) ∙ same))
