-- Names are put in order one by one.
use Rattle.std.proofs.Common.{◌≡◌, ℕ, ◌+◌, ◌<◌, List, [], ◌∷◌, length, get_or, drop, map, refl, sym, ap, ◌∙◌, add-one, drop-cons}
use Rattle.std.specs.Borrow.{Bor}
use Rattle.std.specs.BTreeSet.{insert_key}
use Rattle.std.specs.Cmp.Lexicographic.{slice_cmp}
use Rattle.std.specs.Ordering.{nat_cmp, match_ordering}
use Rattle.std.specs.declared.cmp.Ordering.{Ordering}
use Rattle.std.specs.declared.cmp.Ordering.TheVariants.{Less, Equal, Greater}
use Rattle.p416_syntax.specs.Names.{Name}
use Rattle.p416_names.specs.SeenKinds.{referred}
use Rattle.p416_signature.specs.internal.Gathered.{put_in_order, put_all}

-- references are put in order as what they refer to

by_order : (o : Ordering) (a b c x y z : List Name) → a ≡ x → b ≡ y → c ≡ z → match_ordering o a b c ≡ match_ordering o x y z
by_order Less a b c x y z e f g = e
by_order Equal a b c x y z e f g = f
by_order Greater a b c x y z e f g = g

moved : (o : Ordering) (f : List (Bor Name) → List Name) (a b c : List (Bor Name)) → f (match_ordering o a b c) ≡ match_ordering o (f a) (f b) (f c)
moved Less f a b c = refl
moved Equal f a b c = refl
moved Greater f a b c = refl

abbrev by_name : Bor Name → Bor Name → Ordering
by_name x y = slice_cmp nat_cmp x.now y.now

put_as : (keys : List (Bor Name)) (key : Bor Name) → map referred (insert_key by_name keys key) ≡ put_in_order (map referred keys) key.now
put_as [] key = refl
put_as (x ∷ keys) key =
    moved (by_name key x) (map referred) (key ∷ x ∷ keys) (x ∷ keys) (x ∷ insert_key by_name keys key)
    ∙ by_order (by_name key x) _ _ _ _ _ _ refl refl (ap (λ l. x.now ∷ l) (put_as keys key))

pub put_is : (old new : List (Bor Name)) (key : Bor Name) → new ≡ insert_key by_name old key → map referred new ≡ put_in_order (map referred old) key.now
put_is old new key is = ap (map referred) is ∙ put_as old key

-- a name of a list

next_items : {X : Type 0} (xs : List X) (i : ℕ) (d : X) → i < length xs → drop i xs ≡ get_or xs i d ∷ drop (i + 1) xs
next_items xs i d h = rw (add-one, drop-cons xs i d h) refl

pub put_now : (names : List (Bor Name)) (i : ℕ) (d : Bor Name) (old new whole : List Name) → i < length names → new ≡ put_in_order old ((get_or names i d).now) → put_all old (map referred (drop i names)) ≡ whole → put_all new (map referred (drop (i + 1) names)) ≡ whole
put_now names i d old new whole lt is same =
    ap (λ l. put_all l (map referred (drop (i + 1) names))) is ∙ (sym (ap (λ l. put_all old (map referred l)) (next_items names i d lt)) ∙ same)
