-- Names of what stands within an action, its parameters and the variables of its primitives: no name of the text, and none of an
-- object.
use Rattle.std.proofs.Common.{◌≡◌, ◌≢◌, ℕ, ◌+◌, ◌<◌, ◌≤◌, ◌^◌, Bool, true, false, cond, ◌&&◌, List, [], ◌∷◌, ◌++◌, length, refl, sym, ap, ap₂, ◌∙◌, subst, arith}
use Rattle.std.specs.Prelude.{nat_le, ◌||◌}
use Rattle.token_division.specs.Octets.{is_decimal, is_word}
use Rattle.std.specs.List.{list_all}
use Rattle.std.specs.Str.{bytes_eq}
use Rattle.std.proofs.lemmas.Slice.Eq.{bytes_eq-Decides}
use Rattle.std.proofs.lemmas.Bool.Decides.{nat_tests}
use Rattle.p414_syntax.specs.declared.syntax.Decl.{Decl}
use Rattle.p414_syntax.specs.declared.syntax.Sort.TheVariants as sort
use Rattle.p414_syntax.specs.Names.{Name, has_name}
use Rattle.lower_laws_names.specs.Words.{outer_words}
use Rattle.lower_laws_names.specs.Made.{Thing, called, made}
use Rattle.lower_laws_names.specs.NewNames.{made_thing, new_name, thing, parameter_thing}
use Rattle.lower_laws_names.specs.Reaches.{IsProper, IsNumbered}
use Rattle.lower_laws_names.proofs.Things.{made_not_outside, made_short, apart_differ}
use Rattle.lower_laws_names.proofs.Sorts.{proper}
use Rattle.lower_laws_names.proofs.Proved.{members_differ}

-- it is hidden by nothing that a block declares, and hides nothing
pub record IsInner (ds : List Decl) (text : Name) : Type 0 where
  pub outside : has_name outer_words text ≡ false
  pub object : (n : Name) → IsNumbered ds sort.Object n → text ≢ new_name ds sort.Object n

-- each new name is short
pub called_short : (x : Thing) → IsProper x → length (called x) ≤ 64
called_short x p = by x.stays refl where
  by : (b : Bool) → x.stays ≡ b → length (cond b x.name (made x.letter x.number x.name)) ≤ 64
  by true e = p.short e
  by false e = made_short x.letter x.number x.name p.small

-- parameters

pub parameter_inner : (ds : List Decl) (k : ℕ) (p : Name) → k < 2 ^ 32 → IsInner ds (called (parameter_thing ds k p))
parameter_inner ds k p small = record {
  outside = members_differ.outside ds k p small;
  object = λ n d. members_differ.objects ds k p n small d;
}

-- variables: near ones are made, far ones are long

pub made_proper : (a k : ℕ) (n : Name) → is_decimal a ≡ false → is_word a ≡ true → k < 2 ^ 32 → IsProper (made_thing a k n)
made_proper a k n letter word small =
    record { letter = letter; word = word; small = small; short = λ e. absurd (cc e); plain = λ e. absurd (cc e); unreserved = λ e. absurd (cc e) }

pub made_inner : (ds : List Decl) (a k : ℕ) (n : Name) → is_decimal a ≡ false → is_word a ≡ true → (111 ≡ a → ⊥) → k < 2 ^ 32 → IsInner ds (made a k n)
made_inner ds a k n letter word differ small = record {
  outside = made_not_outside a k n small;
  object = λ m d same. apart_differ (thing ds sort.Object m) (made_thing a k n) (proper ds sort.Object m d) (made_proper a k n letter word small) (record { tag = λ both. differ both.0; names = λ e f. absurd (cc f) }) (sym same);
}

short_words : list_all (λ (n : Name). nat_le (length n) 64) outer_words ≡ true
short_words = refl

pub long_none : (ws : List Name) (text : Name) → list_all (λ (n : Name). nat_le (length n) 64) ws ≡ true → 65 ≤ length text → has_name ws text ≡ false
long_none [] text all long = refl
long_none (w ∷ ws) text all long =
    let s = split (nat_le (length w) 64) (list_all (λ (n : Name). nat_le (length n) 64) ws) all in
    ap₂ (λ (a b : Bool). a || b) (unlike (bytes_eq text w) refl s.0) (long_none ws text s.1 long)
  where
    split : (a b : Bool) → (a && b) ≡ true → (a ≡ true) × (b ≡ true)
    split true b e = (refl, e)
    split false b e = absurd (cc e)

    unlike : (b : Bool) → bytes_eq text w ≡ b → nat_le (length w) 64 ≡ true → bytes_eq text w ≡ false
    unlike false e le = e
    unlike true e le =
        let same : text ≡ w = (bytes_eq-Decides text w).0 e in
        let short : nat_le (length text) 64 ≡ true = subst (λ (z : Name). nat_le (length z) 64 ≡ true) (sym same) le in
        absurd (grind (arith, nat_tests, short, long))

pub long_inner : (ds : List Decl) (text : Name) → 65 ≤ length text → IsInner ds text
long_inner ds text long = record {
  outside = long_none outer_words text short_words long;
  object = λ n d same. omega (arith, long, ap (λ (z : Name). length z) same, called_short (thing ds sort.Object n) (proper ds sort.Object n d));
}
