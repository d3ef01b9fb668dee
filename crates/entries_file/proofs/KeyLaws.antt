-- The keys of an entry, word by word.
use Rattle.std.proofs.Common.{◌≡◌, ℕ, ◌+◌, ◌<◌, ◌≤◌, Bool, true, false, not, cond, List, [], ◌∷◌, ◌++◌, drop, length, map, get_or, refl, sym, ap, ◌∙◌, arith, add-one, drop-cons, append_assoc, Option, Some, None, is_none}
use Rattle.std.specs.Prelude.{◌||◌}
use Rattle.std.specs.Option.{option_map_or}
use Rattle.std.proofs.lemmas.List.{length-map, get_or-map, append-nil, drop_all}
use Rattle.match_core.specs.declared.signatures.KeySpec.{KeySpec}
use Rattle.match_core.specs.declared.entries.KeyMatch.{KeyMatch}
use Rattle.entries_file.specs.declared.key_forms.KeyRead.{KeyRead}
use Rattle.entries_file.specs.declared.key_forms.KeyRead.TheVariants.{Misformed, TooWide, Key}
use Rattle.entries_file.specs.KeyForms.{key_fits, key_of, keys_of}
use Rattle.entries_file.specs.internal.Kept.{read_as}
use Rattle.entries_file.specs.Rules.{has_misformed, is_wide_key, has_wide_key}

-- a key that is read
misformed_by : (b : Bool) (key : KeyMatch) → Misformed ≡ cond b (Key key) TooWide → ⊥
misformed_by true key is = cc
misformed_by false key is = cc

misformed_none : (width : ℕ) (o : Option KeyMatch) → Misformed ≡ read_as width o → o ≡ None
misformed_none width None is = refl
misformed_none width (Some key) is = absurd (misformed_by (key_fits width key) key is)

wide_by : (b : Bool) (key : KeyMatch) → TooWide ≡ cond b (Key key) TooWide → not b ≡ true
wide_by true key is = absurd (cc)
wide_by false key is = refl

key_by_fit : (b : Bool) (key other : KeyMatch) → Key other ≡ cond b (Key key) TooWide → (key ≡ other) × (not b ≡ false)
key_by_fit true key other is = (cc, refl)
key_by_fit false key other is = absurd (cc)

wide_some : (width : ℕ) (o : Option KeyMatch) → TooWide ≡ read_as width o → (is_none o ≡ false) × (option_map_or (λ key. not (key_fits width key)) o false ≡ true)
wide_some width None is = absurd (cc)
wide_some width (Some key) is = (refl, wide_by (key_fits width key) key is)

key_some : (width : ℕ) (o : Option KeyMatch) (key : KeyMatch) → Key key ≡ read_as width o → (o ≡ Some key) × (option_map_or (λ key. not (key_fits width key)) o false ≡ false)
key_some width None key is = absurd (cc)
key_some width (Some other) key is =
    let parts = key_by_fit (key_fits width other) other key is in
    (ap Some parts.0, parts.1)

-- what stands from a place on, and the rest behind it
pub record Behind (specs : List KeySpec) (texts : List (List ℕ)) (i : ℕ) (spec : KeySpec) (text : List ℕ) : Type 0 where
  pub spec_is : drop i specs ≡ spec ∷ drop (i + 1) specs
  pub text_is : drop i texts ≡ text ∷ drop (i + 1) texts

pub or_false : (a b : Bool) → a ≡ false → (a || b) ≡ b
or_false true b is = absurd (cc)
or_false false b is = refl

pub or_middle : (a b c : Bool) → b ≡ true → (a || (b || c)) ≡ (true || c)
or_middle true b c is = refl
or_middle false true c is = refl
or_middle false false c is = absurd (cc)

pub or_nothing : (a : Bool) → (a || false) ≡ a
or_nothing true = refl
or_nothing false = refl

-- an item of a list, seen through a function
pub seen_at : {X : Type 0} (f : X → List ℕ) (xs : List X) (i : ℕ) (d : X) → i < length xs → drop i (map f xs) ≡ f (get_or xs i d) ∷ drop (i + 1) (map f xs)
seen_at f xs i d lt =
    let within : i < length (map f xs) = rw (length-map xs f) lt in
    let head : drop i (map f xs) ≡ get_or (map f xs) i [] ∷ drop (i + 1) (map f xs) = rw add-one (drop-cons (map f xs) i [] within) in
    head ∙ ap (λ (t : List ℕ). t ∷ drop (i + 1) (map f xs)) (get_or-map f xs i d [] lt)

pub item_at : {X : Type 0} (xs : List X) (i : ℕ) (d : X) → i < length xs → drop i xs ≡ get_or xs i d ∷ drop (i + 1) xs
item_at xs i d lt = rw add-one (drop-cons xs i d lt)

pub formed_at : (specs : List KeySpec) (texts : List (List ℕ)) (i : ℕ) (spec : KeySpec) (text : List ℕ) → Behind specs texts i spec text → has_misformed (drop i specs) (drop i texts) ≡ (is_none (key_of spec text) || has_misformed (drop (i + 1) specs) (drop (i + 1) texts))
formed_at specs texts i spec text behind = rw (behind.spec_is, behind.text_is) refl

pub wide_at : (specs : List KeySpec) (texts : List (List ℕ)) (i : ℕ) (spec : KeySpec) (text : List ℕ) → Behind specs texts i spec text → has_wide_key (drop i specs) (drop i texts) ≡ (is_wide_key spec text || has_wide_key (drop (i + 1) specs) (drop (i + 1) texts))
wide_at specs texts i spec text behind = rw (behind.spec_is, behind.text_is) refl

pub keys_at : (specs : List KeySpec) (texts : List (List ℕ)) (i : ℕ) (spec : KeySpec) (text : List ℕ) (key : KeyMatch) → Behind specs texts i spec text → key_of spec text ≡ Some key → keys_of (drop i specs) (drop i texts) ≡ key ∷ keys_of (drop (i + 1) specs) (drop (i + 1) texts)
keys_at specs texts i spec text key behind is = rw (behind.spec_is, behind.text_is, is) refl

-- the keys so far: what is left decides the tests, and the keys go on behind those that were read
pub record KeysSoFar (specs : List KeySpec) (texts : List (List ℕ)) (i : ℕ) (is_wide : Bool) (keys : List KeyMatch) : Type 0 where
  pub formed : has_misformed specs texts ≡ has_misformed (drop i specs) (drop i texts)
  pub wide : has_wide_key specs texts ≡ (is_wide || has_wide_key (drop i specs) (drop i texts))
  pub found : is_wide ≡ false → keys_of specs texts ≡ keys ++ keys_of (drop i specs) (drop i texts)

pub keys_start : (specs : List KeySpec) (texts : List (List ℕ)) → KeysSoFar specs texts 0 false []
keys_start specs texts = record { formed = refl; wide = refl; found = λ _. refl }

-- the key at a place is read
pub record ReadsKey {X : Type 0} (now : X → List ℕ) (specs : List KeySpec) (words : List X) (i : ℕ) (read : KeyRead) : Type 0 where
  pub spec : KeySpec
  pub word : X
  pub behind : Behind specs (map now words) i spec (now word)
  pub is : read ≡ read_as spec.width (key_of spec (now word))

pub reads_key : {X : Type 0} (now : X → List ℕ) (specs : List KeySpec) (words : List X) (i : ℕ) (d : KeySpec) (e : X) (read : KeyRead) → i < length specs → length words ≡ length specs
    → read ≡ read_as (get_or specs i d).width (key_of (get_or specs i d) (now (get_or words i e))) → ReadsKey now specs words i read
reads_key now specs words i d e read lt same is = record {
  spec = get_or specs i d;
  word = get_or words i e;
  behind = record { spec_is = item_at specs i d lt; text_is = seen_at now words i e (omega arith) };
  is = is;
}

pub keys_bad : {X : Type 0} (now : X → List ℕ) (specs : List KeySpec) (words : List X) (i : ℕ) (is_wide : Bool) (keys : List KeyMatch) (read : KeyRead) → KeysSoFar specs (map now words) i is_wide keys → ReadsKey now specs words i read → read ≡ Misformed → has_misformed specs (map now words) ≡ true
keys_bad now specs words i is_wide keys read so_far reads bad =
    let none : key_of reads.spec (now reads.word) ≡ None = misformed_none reads.spec.width (key_of reads.spec (now reads.word)) (sym bad ∙ reads.is) in
    so_far.formed ∙ (formed_at specs (map now words) i reads.spec (now reads.word) reads.behind ∙ (rw none refl))

pub keys_wide : {X : Type 0} (now : X → List ℕ) (specs : List KeySpec) (words : List X) (i : ℕ) (is_wide : Bool) (keys : List KeyMatch) (read : KeyRead) → KeysSoFar specs (map now words) i is_wide keys → ReadsKey now specs words i read → read ≡ TooWide → KeysSoFar specs (map now words) (i + 1) true keys
keys_wide now specs words i is_wide keys read so_far reads bad =
    let some = wide_some reads.spec.width (key_of reads.spec (now reads.word)) (sym bad ∙ reads.is) in
    record {
      formed = so_far.formed ∙ (formed_at specs (map now words) i reads.spec (now reads.word) reads.behind ∙ (rw some.0 refl));
      wide = so_far.wide ∙ (ap (λ (b : Bool). is_wide || b) (wide_at specs (map now words) i reads.spec (now reads.word) reads.behind)
          ∙ or_middle is_wide (is_wide_key reads.spec (now reads.word)) _ some.1);
      found = λ not_wide. absurd (cc);
    }

pub keys_more : {X : Type 0} (now : X → List ℕ) (specs : List KeySpec) (words : List X) (i : ℕ) (is_wide : Bool) (keys : List KeyMatch) (read : KeyRead) (key : KeyMatch) → KeysSoFar specs (map now words) i is_wide keys → ReadsKey now specs words i read → read ≡ Key key → KeysSoFar specs (map now words) (i + 1) is_wide (keys ++ key ∷ [])
keys_more now specs words i is_wide keys read key so_far reads good =
    let some = key_some reads.spec.width (key_of reads.spec (now reads.word)) key (sym good ∙ reads.is) in
    record {
      formed = so_far.formed ∙ (formed_at specs (map now words) i reads.spec (now reads.word) reads.behind ∙ (rw some.0 refl));
      wide = so_far.wide ∙ ap (λ (b : Bool). is_wide || b)
          (wide_at specs (map now words) i reads.spec (now reads.word) reads.behind ∙ or_false (is_wide_key reads.spec (now reads.word)) _ some.1);
      found = λ not_wide. so_far.found not_wide
          ∙ (ap (λ (ks : List KeyMatch). keys ++ ks) (keys_at specs (map now words) i reads.spec (now reads.word) key reads.behind some.0)
          ∙ sym (append_assoc keys (key ∷ []) (keys_of (drop (i + 1) specs) (drop (i + 1) (map now words)))));
    }

pub keys_end : (specs : List KeySpec) (texts : List (List ℕ)) (i : ℕ) (is_wide : Bool) (keys : List KeyMatch) → length specs ≤ i → KeysSoFar specs texts i is_wide keys → (has_misformed specs texts ≡ false) × (has_wide_key specs texts ≡ is_wide) × (is_wide ≡ false → keys_of specs texts ≡ keys)
keys_end specs texts i is_wide keys le so_far =
    let none : drop i specs ≡ [] = drop_all i specs le in (
      so_far.formed ∙ (rw none refl),
      so_far.wide ∙ (rw none (or_nothing is_wide)),
      λ not_wide. so_far.found not_wide ∙ (rw none (append-nil keys)),
    )
