-- Names of a desk in memory, as what is known of one of them changes.
use Rattle.std.proofs.Common.{◌≡◌, ◌≢◌, ℕ, zero, suc, ◌+◌, ◌<◌, Bool, true, false, cond, List, [], ◌∷◌, ◌++◌, length, take, set, get_or, Option, Some, None, refl, sym, ◌∙◌, ap, subst, arith}
use Rattle.std.specs.Str.{bytes_eq}
use Rattle.std.proofs.lemmas.Slice.Eq.{bytes_eq-Decides}
use Rattle.std.proofs.lemmas.List.{get_or_read, take_more}
use Rattle.p4x_io.specs.Memory.{Known, Named, known_at, file_in, after_read}
use Rattle.p4x_io.specs.internal.Slots.{IsFirst}
use Rattle.std.specs.Option.{option_map}

-- one more that has another name
pub none_push : (name : List ℕ) (names : List Named) (s : Named) → known_at names name ≡ None → bytes_eq s.name name ≡ false → known_at (names ++ s ∷ []) name ≡ None
none_push name [] s none other = rw other refl
none_push name (t ∷ names) s none other = go (bytes_eq t.name name) none (λ is. none_push name names s is other)
  where
    go : (b : Bool) → cond b (Some t.known) (known_at names name) ≡ None → (known_at names name ≡ None → known_at (names ++ s ∷ []) name ≡ None) → cond b (Some t.known) (known_at (names ++ s ∷ []) name) ≡ None
    go true is rest = absurd (cc)
    go false is rest = rest is

pub none_more : (name : List ℕ) (names : List Named) (i : ℕ) (s : Named) → i < length names → s ≡ get_or names i s → known_at (take i names) name ≡ None → bytes_eq s.name name ≡ false → known_at (take (i + 1) names) name ≡ None
none_more name names i s inside is none other = ap (λ l. known_at l name) (take_more names i s inside ∙ ap (λ x. take i names ++ x ∷ []) (sym is)) ∙ none_push name (take i names) s none other

-- one of the name behind others
pub first_at : (name : List ℕ) (names : List Named) (i : ℕ) (d : Named) → i < length names → known_at (take i names) name ≡ None → bytes_eq (get_or names i d).name name ≡ true → known_at names name ≡ Some (get_or names i d).known
first_at name [] i d inside none same = absurd (omega arith)
first_at name (t ∷ names) zero d inside none same = ap (λ b. cond b (Some t.known) (known_at names name)) same
first_at name (t ∷ names) (suc i) d inside none same = go (bytes_eq t.name name) none (λ is. first_at name names i d (omega arith) is same)
  where
    go : (b : Bool) → cond b (Some t.known) (known_at (take i names) name) ≡ None → (known_at (take i names) name ≡ None → known_at names name ≡ Some (get_or names i d).known) → cond b (Some t.known) (known_at names name) ≡ Some (get_or names i d).known
    go true is rest = absurd (cc)
    go false is rest = rest is

-- the same one after a change that keeps its name
pub first_set : (name : List ℕ) (names : List Named) (i : ℕ) (s : Named) → i < length names → known_at (take i names) name ≡ None → bytes_eq s.name name ≡ true → known_at (set names i s) name ≡ Some s.known
first_set name [] i s inside none same = absurd (omega arith)
first_set name (t ∷ names) zero s inside none same = ap (λ b. cond b (Some s.known) (known_at names name)) same
first_set name (t ∷ names) (suc i) s inside none same = go (bytes_eq t.name name) none (λ is. first_set name names i s (omega arith) is same)
  where
    go : (b : Bool) → cond b (Some t.known) (known_at (take i names) name) ≡ None → (known_at (take i names) name ≡ None → known_at (set names i s) name ≡ Some s.known) → cond b (Some t.known) (known_at (set names i s) name) ≡ Some s.known
    go true is rest = absurd (cc)
    go false is rest = rest is

-- one of another name
pub other_set : (name : List ℕ) (names : List Named) (i : ℕ) (d s : Named) → i < length names → bytes_eq (get_or names i d).name name ≡ false → s.name ≡ (get_or names i d).name → known_at (set names i s) name ≡ known_at names name
other_set name [] i d s inside other same = absurd (omega arith)
other_set name (t ∷ names) zero d s inside other same =
    let now : bytes_eq s.name name ≡ false = ap (λ (l : List ℕ). bytes_eq l name) same ∙ other in
    ap (λ b. cond b (Some s.known) (known_at names name)) now ∙ ap (λ b. cond b (Some t.known) (known_at names name)) (sym other)
other_set name (t ∷ names) (suc i) d s inside other same = ap (cond (bytes_eq t.name name) (Some t.known)) (other_set name names i d s (omega arith) other same)

-- a name that differs from the one that is held
pub differs : (held name n : List ℕ) → bytes_eq held name ≡ true → n ≢ name → bytes_eq held n ≡ false
differs held name n same other = go (bytes_eq held n) refl
  where
    go : (b : Bool) → bytes_eq held n ≡ b → b ≡ false
    go true is = absurd (other (sym ((bytes_eq-Decides held n).0 is) ∙ (bytes_eq-Decides held name).0 same))
    go false is = refl

pub first : (name : List ℕ) (names : List Named) (i : ℕ) (s : Named) → i < length names → s ≡ get_or names i s → known_at (take i names) name ≡ None → bytes_eq s.name name ≡ true → IsFirst name names i
first name names i s inside read none same = record {
  inside = inside;
  is = λ d. first_at name names i d inside none (named d);
  after = λ d t keeps. first_set name names i t inside none (ap (λ (l : List ℕ). bytes_eq l name) keeps ∙ named d);
  others = λ d t keeps n other. other_set n names i d t inside (differs (get_or names i d).name name n (named d) other) keeps;
}
  where
    named : (d : Named) → bytes_eq (get_or names i d).name name ≡ true
    named d = ap (λ x. bytes_eq x.name name) (sym (get_or_read names i s inside read d)) ∙ same

-- reading changes no file
pub file_after_read : (k : Option Known) → file_in (option_map after_read k) ≡ file_in k
file_after_read None = refl
file_after_read (Some k) = refl

-- one that is read changes no file
pub files_after_read : (name : List ℕ) (names : List Named) (i : ℕ) (d t : Named) → IsFirst name names i → t.name ≡ (get_or names i d).name → t.known ≡ after_read (get_or names i d).known → (n : List ℕ) → file_in (known_at (set names i t) n) ≡ file_in (known_at names n)
files_after_read name names i d t first keeps same n = go (bytes_eq n name) refl
  where
    here : known_at (set names i t) name ≡ option_map after_read (known_at names name)
    here = first.after d t keeps ∙ ap (λ (k : Known). Some k) same ∙ sym (ap (option_map after_read) (first.is d))

    go : (b : Bool) → bytes_eq n name ≡ b → file_in (known_at (set names i t) n) ≡ file_in (known_at names n)
    go true is = subst (λ (m : List ℕ). file_in (known_at (set names i t) m) ≡ file_in (known_at names m)) (sym ((bytes_eq-Decides n name).0 is)) (ap file_in here ∙ file_after_read (known_at names name))
    go false is = ap file_in (first.others d t keeps n (λ (e : n ≡ name). absurd (cc ((bytes_eq-Decides n name).1 e, is))))

-- one more, at another name
pub other_push : (name : List ℕ) (names : List Named) (s : Named) → bytes_eq s.name name ≡ false → known_at (names ++ s ∷ []) name ≡ known_at names name
other_push name [] s other = ap (λ b. cond b (Some s.known) None) other
other_push name (t ∷ names) s other = ap (cond (bytes_eq t.name name) (Some t.known)) (other_push name names s other)

-- and at its own
pub own_push : (name : List ℕ) (names : List Named) (s : Named) → known_at names name ≡ None → s.name ≡ name → known_at (names ++ s ∷ []) name ≡ Some s.known
own_push name [] s none named = ap (λ b. cond b (Some s.known) None) ((bytes_eq-Decides s.name name).1 named)
own_push name (t ∷ names) s none named = go (bytes_eq t.name name) none (λ is. own_push name names s is named)
  where
    go : (b : Bool) → cond b (Some t.known) (known_at names name) ≡ None → (known_at names name ≡ None → known_at (names ++ s ∷ []) name ≡ Some s.known) → cond b (Some t.known) (known_at (names ++ s ∷ []) name) ≡ Some s.known
    go true is rest = absurd (cc)
    go false is rest = rest is
