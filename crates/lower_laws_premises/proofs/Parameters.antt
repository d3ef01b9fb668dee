-- What uses of parameters ask together, and which primitives take a number where.
use Rattle.std.proofs.Common.{◌≡◌, ℕ, zero, suc, ◌+◌, Bool, true, false, cond, ◌||◌, max, Option, Some, None, List, [], ◌∷◌, fold, slice_get, refl, subst, arith}
use Rattle.std.specs.Prelude.{codes}
use Rattle.std.specs.List.{AllByRecursion}
use Rattle.std.specs.Str.{bytes_eq}
use Rattle.p414_syntax.specs.declared.place.ArgumentPlace.{ArgumentPlace}
use Rattle.p414_syntax.specs.declared.place.ArgumentPlace.TheVariants as place
use Rattle.p414_syntax.specs.Names.{Name, has_name}
use Rattle.p414_syntax.specs.Primitives.{places_of, two_sources, shifts, one_source, one_header, stack_moves, without_arguments, one_list, clones, hash}
use Rattle.p414_syntax.specs.Arguments.{PlacedArgument}
use Rattle.p414_syntax.specs.Parameters.{is_read}
use Rattle.p414_sem.specs.Signatures.{indexed, is_unsigned, is_use_of, use_widths_from, greatest}
use Rattle.lower_laws_rules.specs.Acting.{IsWidth}

-- the greatest of numbers that are widths is one

pub most_wide : (n : ℕ) (ns : List ℕ) → IsWidth n → AllByRecursion IsWidth ns → IsWidth (fold max n ns)
most_wide n [] w each = w
most_wide n (m ∷ ns) w each = most_wide (max n m) ns (let some = w.0 in let few = w.1 in let more = each.0.1 in (omega (arith, some), omega (arith, few, more))) each.1

pub greatest_wide : (ns : List ℕ) → AllByRecursion IsWidth ns → IsWidth (greatest ns)
greatest_wide [] each = (omega arith, omega arith)
greatest_wide (n ∷ ns) each = most_wide n ns each.0 each.1

-- what the uses of a parameter ask
pub uses_wide : (bits : ℕ → ℕ) (p : ℕ) (list : List PlacedArgument) (k : ℕ) → ((j : ℕ) (a : PlacedArgument) → slice_get list j ≡ Some a → is_use_of p a.argument ≡ true → IsWidth (bits (k + j))) → AllByRecursion IsWidth (use_widths_from bits p k list)
uses_wide bits p [] k each = tt
uses_wide bits p (a ∷ rest) k each = by (is_use_of p a.argument) refl (uses_wide bits p rest (k + 1) (λ j b at used. subst (λ n. IsWidth (bits n)) (moved k j) (each (suc j) b at used))) where
  moved : (k j : ℕ) → k + suc j ≡ k + 1 + j
  moved k j = omega arith

  here : (k : ℕ) → k + 0 ≡ k
  here k = omega arith

  by : (b : Bool) → is_use_of p a.argument ≡ b → AllByRecursion IsWidth (use_widths_from bits p (k + 1) rest) → AllByRecursion IsWidth (cond b (bits k ∷ use_widths_from bits p (k + 1) rest) (use_widths_from bits p (k + 1) rest))
  by true e more = (subst (λ n. IsWidth (bits n)) (here k) (each 0 a refl e), more)
  by false e more = more

-- The first argument of a primitive that takes a number is a target; but for those that take an index or a session, and
-- `register_write`.
pub data Takes (name : Name) (ps : List ArgumentPlace) : Type 0 where
  to_target : (rest : List ArgumentPlace) → ps ≡ place.Target ∷ rest → Takes name ps
  to_register : bytes_eq name (codes "register_write") ≡ true → Takes name ps
  to_index : has_name indexed name ≡ true → ((k : ℕ) (p : ArgumentPlace) → slice_get ps k ≡ Some p → is_read p ≡ true → is_unsigned p ≡ true) → Takes name ps
  to_nothing : ((k : ℕ) (p : ArgumentPlace) → slice_get ps k ≡ Some p → is_read p ≡ false) → Takes name ps

abbrev pub IsTaking : Name → Option (List ArgumentPlace) → Type 0
IsTaking name None = Unit {0}
IsTaking name (Some ps) = Takes name ps

choose : (name : Name) (o p : Option (List ArgumentPlace)) (b : Bool) → (b ≡ true → IsTaking name o) → IsTaking name p → IsTaking name (cond b o p)
choose name o p true this other = this refl
choose name o p false this other = other

-- of lists of places that are short
one_of : (q : ArgumentPlace) (P : ArgumentPlace → Type 0) → P q → (k : ℕ) (p : ArgumentPlace) → slice_get (q ∷ []) k ≡ Some p → P p
one_of q P a zero p e = subst P (cc e) a
one_of q P a (suc k) p e = absurd (cc e)

two_of : (q r : ArgumentPlace) (P : ArgumentPlace → Type 0) → P q → P r → (k : ℕ) (p : ArgumentPlace) → slice_get (q ∷ r ∷ []) k ≡ Some p → P p
two_of q r P a b zero p e = subst P (cc e) a
two_of q r P a b (suc zero) p e = subst P (cc e) b
two_of q r P a b (suc (suc k)) p e = absurd (cc e)

three_of : (q r s : ArgumentPlace) (P : ArgumentPlace → Type 0) → P q → P r → P s → (k : ℕ) (p : ArgumentPlace) → slice_get (q ∷ r ∷ s ∷ []) k ≡ Some p → P p
three_of q r s P a b d zero p e = subst P (cc e) a
three_of q r s P a b d (suc zero) p e = subst P (cc e) b
three_of q r s P a b d (suc (suc zero)) p e = subst P (cc e) d
three_of q r s P a b d (suc (suc (suc k))) p e = absurd (cc e)

none_of : (P : ArgumentPlace → Type 0) (k : ℕ) (p : ArgumentPlace) → slice_get [] k ≡ Some p → P p
none_of P k p e = absurd (cc e)

abbrev Indexes : ArgumentPlace → Type 0
Indexes p = is_read p ≡ true → is_unsigned p ≡ true

unread : (p : ArgumentPlace) → is_read p ≡ false → Indexes p
unread p e f = absurd (cc (e, f))

index_first : (b : Bool) → b ≡ true → (rest : Bool) → b || rest ≡ true
index_first true e rest = refl
index_first false e rest = absurd (cc e)

behind : (a b : Bool) → b ≡ true → a || b ≡ true
behind true b e = refl
behind false b e = e

-- an index that is taken by `execute_meter`, or a session
meter_or_clone : (a b d e f : Bool) → e || f ≡ true → a || (b || (d || (e || f))) ≡ true
meter_or_clone a b d e f is = behind a (b || (d || (e || f))) (behind b (d || (e || f)) (behind d (e || f) is))

by_meter : (name : Name) → bytes_eq name (codes "execute_meter") ≡ true → has_name indexed name ≡ true
by_meter name e = meter_or_clone (bytes_eq name (codes "count")) (bytes_eq name (codes "register_read")) (bytes_eq name (codes "register_write")) (bytes_eq name (codes "execute_meter")) (has_name clones name) (index_first (bytes_eq name (codes "execute_meter")) e (has_name clones name))

by_clone : (name : Name) → has_name clones name ≡ true → has_name indexed name ≡ true
by_clone name e = meter_or_clone (bytes_eq name (codes "count")) (bytes_eq name (codes "register_read")) (bytes_eq name (codes "register_write")) (bytes_eq name (codes "execute_meter")) (has_name clones name) (behind (bytes_eq name (codes "execute_meter")) (has_name clones name) e)

pub taking : (name : Name) → IsTaking name (places_of name)
taking name =
    choose name _ _ (has_name two_sources name) (λ e. to_target _ refl)
    (choose name _ _ (has_name shifts name) (λ e. to_target _ refl)
    (choose name _ _ (has_name one_source name) (λ e. to_target _ refl)
    (choose name _ _ (has_name one_header name) (λ e. to_nothing (one_of place.Header (λ p. is_read p ≡ false) refl))
    (choose name _ _ (bytes_eq name (codes "copy_header")) (λ e. to_nothing (two_of place.Header place.Header (λ p. is_read p ≡ false) refl refl))
    (choose name _ _ (has_name stack_moves name) (λ e. to_nothing (two_of place.Stack place.Elements (λ p. is_read p ≡ false) refl refl))
    (choose name _ _ (bytes_eq name (codes "count")) (λ e. to_index (index_first (bytes_eq name (codes "count")) e _) (two_of place.Counter place.Unsigned Indexes (unread place.Counter refl) (λ e. refl)))
    (choose name _ _ (bytes_eq name (codes "register_read")) (λ e. to_target _ refl)
    (choose name _ _ (bytes_eq name (codes "register_write")) (λ e. to_register e)
    (choose name _ _ (bytes_eq name (codes "execute_meter")) (λ e. to_index (by_meter name e) (three_of place.Meter place.Unsigned place.Target Indexes (unread place.Meter refl) (λ e. refl) (unread place.Target refl)))
    (choose name _ _ (bytes_eq name hash) (λ e. to_target _ refl)
    (choose name _ _ (has_name without_arguments name) (λ e. to_nothing (none_of (λ p. is_read p ≡ false)))
    (choose name _ _ (has_name one_list name) (λ e. to_nothing (one_of place.List (λ p. is_read p ≡ false) refl))
    (choose name _ _ (has_name clones name) (λ e. to_index (by_clone name e) (two_of place.Unsigned place.List Indexes (λ e. refl) (unread place.List refl))) tt)))))))))))))
