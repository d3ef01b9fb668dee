-- Numbers that are counted up to a limit are above a lesser one where the numbers themselves are.
use Rattle.std.proofs.Common.{◌≡◌, ℕ, suc, ◌+◌, ◌-◌, ◌<◌, Bool, true, false, ◌||◌, List, length, map, flat_map, get_or, drop, min, sum_by, sym, ap, ◌∙◌, arith, add-one, drop-cons}
use Rattle.std.specs.Prelude.{nat_lt}
use Rattle.std.proofs.lemmas.Bool.Decides.{nat_tests}
use Rattle.std.proofs.lemmas.List.Sums.{sum_by-cons}
use Rattle.p416_syntax.specs.declared.program.Decl16.{Decl16}
use Rattle.p416_syntax.specs.declared.program.Syntax16.{Syntax16}
use Rattle.p416_syntax.specs.Kinds.{Kind}
use Rattle.p416_syntax.specs.Scopes.{Layout}
use Rattle.p416_syntax.specs.Uses.{Use}
use Rattle.p416_syntax.specs.Declarations.{layouts_of}
use Rattle.p416_syntax.specs.Main.{headers_kind, metadata_kind}
use Rattle.p416_syntax.specs.Totals.{fields_of_kind, octets_of_kind, has_large_headers, held_kinds, has_large_variables}

sum_of : (a b : ℕ) → nat_lt 131072 (min 1048576 a + min 1048576 b) ≡ nat_lt 131072 (a + b)
sum_of a b = grind (arith, nat_tests)

pub sum_over : (a b x y : ℕ) (found : Bool) → x ≡ min 1048576 a → y ≡ min 1048576 b → found ≡ nat_lt 131072 (x + y) → found ≡ nat_lt 131072 (a + b)
sum_over a b x y found e f is = is ∙ (ap (λ n. nat_lt 131072 (n + y)) e ∙ (ap (λ n. nat_lt 131072 (min 1048576 a + n)) f ∙ sum_of a b))

one_of : (a : ℕ) → nat_lt 32768 (min 1048576 a) ≡ nat_lt 32768 a
one_of a = grind (arith, nat_tests)

pub one_over : (a x : ℕ) (found : Bool) → x ≡ min 1048576 a → found ≡ nat_lt 32768 x → found ≡ nat_lt 32768 a
one_over a x found e is = is ∙ (ap (nat_lt 32768) e ∙ one_of a)

-- the rules' own words

pub large_headers : (ds : List Decl16) (h m : Kind) (s : Syntax16) (found : Bool) → s.decls ≡ ds → headers_kind s ≡ h → metadata_kind s ≡ m
    → found ≡ (nat_lt 131072 (fields_of_kind (layouts_of ds) h + fields_of_kind (layouts_of ds) m) || nat_lt 32768 (octets_of_kind (layouts_of ds) h)) → found ≡ has_large_headers s
large_headers ds h m s found same e f is =
    is
    ∙ (ap (λ decls. nat_lt 131072 (fields_of_kind (layouts_of decls) h + fields_of_kind (layouts_of decls) m) || nat_lt 32768 (octets_of_kind (layouts_of decls) h)) (sym same)
    ∙ (ap (λ k. nat_lt 131072 (fields_of_kind (layouts_of s.decls) k + fields_of_kind (layouts_of s.decls) m) || nat_lt 32768 (octets_of_kind (layouts_of s.decls) k)) (sym e)
    ∙ ap (λ k. nat_lt 131072 (fields_of_kind (layouts_of s.decls) (headers_kind s) + fields_of_kind (layouts_of s.decls) k) || nat_lt 32768 (octets_of_kind (layouts_of s.decls) (headers_kind s))) (sym f)))

pub large_variables : (layouts : List Layout) (ks : List Kind) (us : List Use) (found : Bool) → flat_map held_kinds us ≡ ks
    → found ≡ (nat_lt 262144 (sum_by (fields_of_kind layouts) ks) || nat_lt 131072 (sum_by (octets_of_kind layouts) ks)) → found ≡ has_large_variables layouts us
large_variables layouts ks us found e is = is ∙ ap (λ k. nat_lt 262144 (sum_by (fields_of_kind layouts) k) || nat_lt 131072 (sum_by (octets_of_kind layouts) k)) (sym e)

-- one turn of a sum: what is left for the kinds behind, or that it isn't enough

sum_from : {X Y : Type 0} (f : Y → ℕ) (g : X → Y) (xs : List X) (i : ℕ) (item : X) → i < length xs → item ≡ get_or xs i item → sum_by f (map g (drop i xs)) ≡ f (g item) + sum_by f (map g (drop (i + 1) xs))
sum_from f g xs i item lt here = rw (add-one, drop-cons xs i item lt, ← here) (sum_by-cons f (g item) (map g (drop (suc i) xs)))

less_left : (left n x rest : ℕ) → left < 1048576 → n ≡ min 1048576 x → nat_lt left n ≡ false → nat_lt (left - n) rest ≡ nat_lt left (x + rest)
less_left left n x rest small is enough = grind (arith, nat_tests)

over_left : (left n x rest : ℕ) → n ≡ min 1048576 x → nat_lt left n ≡ true → nat_lt left (x + rest) ≡ true
over_left left n x rest is over = grind (arith, nat_tests)

pub within_now : {X Y : Type 0} (f : Y → ℕ) (g : X → Y) (xs : List X) (i : ℕ) (item : X) (left n : ℕ) (whole : Bool) → left < 1048576 → i < length xs → item ≡ get_or xs i item → n ≡ min 1048576 (f (g item)) → nat_lt left n ≡ false
    → nat_lt left (sum_by f (map g (drop i xs))) ≡ whole → nat_lt (left - n) (sum_by f (map g (drop (i + 1) xs))) ≡ whole
within_now f g xs i item left n whole small lt here is enough same =
    less_left left n (f (g item)) (sum_by f (map g (drop (i + 1) xs))) small is enough ∙ (ap (nat_lt left) (sym (sum_from f g xs i item lt here)) ∙ same)

pub over_now : {X Y : Type 0} (f : Y → ℕ) (g : X → Y) (xs : List X) (i : ℕ) (item : X) (left n : ℕ) (whole : Bool) → i < length xs → item ≡ get_or xs i item → n ≡ min 1048576 (f (g item)) → nat_lt left n ≡ true
    → nat_lt left (sum_by f (map g (drop i xs))) ≡ whole → true ≡ whole
over_now f g xs i item left n whole lt here is over same =
    sym (over_left left n (f (g item)) (sum_by f (map g (drop (i + 1) xs))) is over) ∙ (ap (nat_lt left) (sym (sum_from f g xs i item lt here)) ∙ same)
