-- What is kept of labels, with one more.
use Rattle.std.proofs.Common.{◌≡◌, ℕ, Bool, true, false, List, [], ◌∷◌, ◌++◌, refl, sym, ap, ap₂, ◌∙◌}
use Rattle.std.specs.Prelude.{not, ◌||◌, Vec}
use Rattle.std.specs.List.{list_any}
use Rattle.std.specs.Str.{bytes_eq}
use Rattle.std.specs.BTreeMap.{is_at}
use Rattle.std.specs.BTreeSet.{BTreeSet, insert_key}
use Rattle.std.specs.Cmp.Lexicographic.{slice_cmp}
use Rattle.std.proofs.Common.{Ordering, Less, Equal, Greater}
use Rattle.std.specs.Ordering.{nat_cmp, match_ordering}
use Rattle.std.specs.declared.alloc.Global.{Global}
use Rattle.std.proofs.lemmas.List.Folds.{list_any-append}
use Rattle.std.proofs.lemmas.Map.Lookups.{exact_bytes}
use Rattle.std.proofs.lemmas.Map.Text.{is_eq-slice_cmp}
use Rattle.p414_syntax.specs.Conditions.{is_among, is_outcome}
use Rattle.p414_reader.specs.internal.Labels.{IsRecord}

abbrev pub Key : Type 0
Key = Vec ℕ Global

abbrev pub key_cmp : Key → Key → Ordering
key_cmp x y = slice_cmp nat_cmp x.items y.items

abbrev finds : List ℕ → Key → Bool
finds text key = bytes_eq text key.items

or_swap : (a b c : Bool) → (a || (b || c)) ≡ (b || (a || c))
or_swap true true c = refl
or_swap true false c = refl
or_swap false true c = refl
or_swap false false c = refl

or_again : (a b : Bool) → (a || b) ≡ (a || (a || b))
or_again true b = refl
or_again false b = refl

or_none : (a : Bool) → (a || false) ≡ a
or_none true = refl
or_none false = refl

or_turn : (a b : Bool) → (a || b) ≡ (b || a)
or_turn true true = refl
or_turn true false = refl
or_turn false true = refl
or_turn false false = refl

insert_any : (text : List ℕ) (key : Key) (keys : List Key) → list_any (finds text) (insert_key key_cmp keys key) ≡ (finds text key || list_any (finds text) keys)
insert_any text key [] = refl
insert_any text key (x ∷ xs) = by_order (key_cmp key x) refl (insert_any text key xs)
  where
    by_order : (o : Ordering) → key_cmp key x ≡ o → list_any (finds text) (insert_key key_cmp xs key) ≡ (finds text key || list_any (finds text) xs)
        → list_any (finds text) (match_ordering o (key ∷ x ∷ xs) (x ∷ xs) (x ∷ insert_key key_cmp xs key)) ≡ (finds text key || (finds text x || list_any (finds text) xs))
    by_order Less e rest = refl
    by_order Equal e rest =
        let same : finds text x ≡ finds text key = ap (bytes_eq text) (sym (exact_bytes key.items x.items e)) in
        ap (λ b. b || list_any (finds text) xs) same ∙ or_again (finds text key) _ ∙ ap (λ b. finds text key || (b || list_any (finds text) xs)) (sym same)
    by_order Greater e rest = ap (λ b. finds text x || b) rest ∙ or_swap (finds text x) (finds text key) _

pub one_more : {texts texts' : List (List ℕ)} {seen seen' : BTreeSet Key} {a b a' b' : Bool} {text : List ℕ} (key : Key) → IsRecord texts seen a b
    → texts' ≡ texts ++ text ∷ [] → key.items ≡ text → seen'.keys ≡ insert_key key_cmp seen.keys key
    → a' ≡ (a || is_outcome text) → b' ≡ (b || not (is_outcome text)) → IsRecord texts' seen' a' b'
one_more {texts} {texts'} {seen} {seen'} {a} {b} {a'} {b'} {text} key h ts k s ea eb = rw ts (record {
  members = λ q.
      let found : list_any (λ (x : Key). is_at (λ (y : Key). slice_cmp nat_cmp q y.items) x) seen'.keys ≡ list_any (finds q) seen'.keys = any_same q seen'.keys in
      let before : list_any (finds q) seen.keys ≡ is_among q texts = sym (any_same q seen.keys) ∙ h.members q in
      found ∙ ap (list_any (finds q)) s ∙ insert_any q key seen.keys ∙ ap₂ (λ x y. x || y) (ap (bytes_eq q) k) before
      ∙ or_turn (bytes_eq q text) (is_among q texts) ∙ sym (list_any-append (bytes_eq q) texts (text ∷ []) ∙ ap (λ x. is_among q texts || x) (or_none (bytes_eq q text)));
  outcome = ea ∙ ap (λ x. x || is_outcome text) h.outcome ∙ sym (list_any-append is_outcome texts (text ∷ []) ∙ ap (λ x. list_any is_outcome texts || x) (or_none (is_outcome text)));
  other =
      eb ∙ ap (λ x. x || not (is_outcome text)) h.other
      ∙ sym (list_any-append (λ t. not (is_outcome t)) texts (text ∷ []) ∙ ap (λ x. list_any (λ t. not (is_outcome t)) texts || x) (or_none (not (is_outcome text))));
})
  where
    any_same : (q : List ℕ) (keys : List Key) → list_any (λ (x : Key). is_at (λ (y : Key). slice_cmp nat_cmp q y.items) x) keys ≡ list_any (finds q) keys
    any_same q [] = refl
    any_same q (x ∷ xs) = ap₂ (λ u v. u || v) (is_eq-slice_cmp q x.items) (any_same q xs)
