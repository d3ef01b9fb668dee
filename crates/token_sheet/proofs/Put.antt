-- One word more on a sheet.
use Rattle.std.proofs.Common.{◌≡◌, ℕ, zero, suc, ◌+◌, ◌-◌, Bool, true, false, nat_eq, List, [], ◌∷◌, ◌++◌, length, get_or, take, drop, refl, sym, ap, ◌∙◌, subst, arith, append_assoc, append-nil, length-append, Option, Some, None, replicate}
use Rattle.std.specs.List.{list_all}
use Rattle.std.specs.Prelude.{◌&&◌, ◌||◌, not}
use Rattle.std.proofs.Math.Seq.{drop-append_seam}
use Rattle.std.proofs.lemmas.Bool.{and_parts}
use Rattle.std.proofs.lemmas.Bool.Decides.{nat_tests}
use Rattle.token_division.specs.declared.division.Token.{Token}
use Rattle.token_division.specs.Octets.{is_blank}
use Rattle.token_division.specs.Division.{Front, place_after}
use Rattle.token_sheet.specs.declared.blanks.Blanks.{Blanks}
use Rattle.token_sheet.specs.Words.{word, joined, Meets, words_in, sheet_words}
use Rattle.token_sheet.specs.Spelling.{Spells, Parts, IsSpelling}
use Rattle.token_sheet.specs.Blanks.{blank_octets, may_follow, may_touch, AreEnough}
use Rattle.token_sheet.specs.Ready.{HasTokens, IsReady, Ends, last_of}
use Rattle.token_sheet.proofs.Tokens.{part_stays, new_octets, words_stay, touches_last, push_apart, push_two}
use Rattle.token_sheet.proofs.Pages.{first_behind, ready_blanks, ready_token, words_of}

spaces_blank : (n : ℕ) → list_all is_blank (replicate n 32) ≡ true
spaces_blank zero = refl
spaces_blank (suc n) = spaces_blank n

or_true : (a : Bool) → (a || true) ≡ true
or_true true = refl
or_true false = refl

behind_spaces : (n : ℕ) (is_first : Bool) → first_behind is_first (replicate n 32) ≡ is_first
behind_spaces zero is_first = refl
behind_spaces (suc n) is_first = behind_spaces n is_first

feeds_blank : (m n : ℕ) → list_all is_blank (replicate m 10 ++ replicate n 32) ≡ true
feeds_blank zero n = spaces_blank n
feeds_blank (suc m) n = feeds_blank m n

behind_feeds : (m n : ℕ) → first_behind true (replicate m 10 ++ replicate n 32) ≡ true
behind_feeds zero n = behind_spaces n true
behind_feeds (suc m) n = behind_feeds m n

-- what stands in front of the new word
record Fronted {K : Type 0} (front : Front K) (parts : Parts K) (meets : Meets K) (begins_line : K → Bool) (text : List ℕ) (ts : List (Token K)) (kind : K) (next : ℕ) (page : List ℕ) : Type 0 where
  pub last : Option K
  pub start : ℕ
  pub is_first : Bool
  pub has : HasTokens front parts page ts last start is_first
  pub parted : may_follow parts last (drop start page) next ≡ true
  pub apart : may_touch meets last kind ≡ true
  pub line : begins_line kind ≡ true → is_first ≡ true

module _ {K : Type 0} (front : Front K) (parts : Parts K) (meets : Meets K) (spells : Spells K) (begins_line : K → Bool) (laws : IsSpelling front spells parts begins_line) where
  fronted : (text : List ℕ) (ts : List (Token K)) (last : Option K) (start : ℕ) (is_first : Bool) (kind : K) (next : ℕ) (line : Bool) (further spaces : ℕ) → HasTokens front parts text ts last start is_first → AreEnough parts meets begins_line last (drop start text) is_first kind next (record { line = line; further = further; spaces = spaces }) → Fronted front parts meets begins_line text ts kind next (text ++ blank_octets (record { line = line; further = further; spaces = spaces }))
  fronted text ts last start is_first kind next true further spaces r e = record {
    last = None;
    start = start;
    is_first = first_behind is_first (10 ∷ (replicate further 10 ++ replicate spaces 32));
    has = ready_blanks front parts spells begins_line laws 10 (replicate further 10 ++ replicate spaces 32) text ts last start is_first r (feeds_blank further spaces) (e.far refl);
    parted = refl;
    apart = refl;
    line = λ _. behind_feeds further spaces;
  }
  fronted text ts last start is_first kind next false further zero r e =
      let both = and_parts (may_follow parts last (drop start text) next) (may_touch meets last kind) (e.near refl) in
      subst (λ (xs : List ℕ). Fronted front parts meets begins_line text ts kind next xs) (sym (append-nil text))
      (record { last = last; start = start; is_first = is_first; has = r; parted = both.0; apart = both.1; line = e.line })
  fronted text ts last start is_first kind next false further (suc spaces) r e = let some : nat_eq (suc spaces) 0 ≡ false = grind (arith, nat_tests) in record {
    last = None;
    start = start;
    is_first = first_behind is_first (replicate (suc spaces) 32);
    has = ready_blanks front parts spells begins_line laws 32 (replicate spaces 32) text ts last start is_first r (spaces_blank spaces) (e.far some);
    parted = refl;
    apart = refl;
    line = λ b. behind_spaces (suc spaces) is_first ∙ e.line b;
  }

  -- the new word doesn't touch the last one, where that is told
  not_joined : (n : ℕ) (before : Option (Token K)) (last : Option K) (t : Token K) → Ends n before last → may_touch meets last t.kind ≡ true → t.from ≡ n → touches_last meets before t ≡ false
  not_joined n None last t e m f = refl
  not_joined n (Some b) None t e m f =
      let other : nat_eq b.to t.from ≡ false = grind (arith, nat_tests, e, f) in
      ap (λ x. meets b.kind t.kind && x) other ∙ and_false (meets b.kind t.kind)
    where
      and_false : (a : Bool) → (a && false) ≡ false
      and_false true = refl
      and_false false = refl
  not_joined n (Some b) (Some k) t e m f = ap (λ x. x && nat_eq b.to t.from) (ap (λ j. meets j t.kind) e.0 ∙ by (meets k t.kind) m)
    where
      by : (x : Bool) → not x ≡ true → x ≡ false
      by true h = absurd (cc)
      by false h = refl

  pub record Grown (text new : List ℕ) (kind : K) (octets : List ℕ) (start : ℕ) : Type 0 where
    pub ready : IsReady front parts new (Some kind) start false
    pub words : sheet_words front meets new ≡ sheet_words front meets text ++ word kind octets ∷ []

  abbrev placed : List ℕ → K → List ℕ → Token K
  placed page kind octets = record { kind = kind; «from» = length page; to = length page + length octets; place = place_after page }

  grown_by : (text page : List ℕ) (ts : List (Token K)) (kind : K) (octets : List ℕ) → sheet_words front meets text ≡ words_in meets page ts → Fronted front parts meets begins_line text ts kind (get_or octets 0 0) page → spells kind octets → Grown text (page ++ octets) kind octets (length page)
  grown_by text page ts kind octets same f s =
      let t = placed page kind octets in
      let h = ready_token front parts spells begins_line laws page ts f.last f.start f.is_first kind octets f.has s f.line f.parted in
      record {
        ready = record { tokens = ts ++ t ∷ []; has = h };
        words =
            words_of front parts spells begins_line laws meets (page ++ octets) (ts ++ t ∷ []) (Some kind) (length page) false h
            ∙ push_apart meets (page ++ octets) None ts t (not_joined (length page) (last_of None ts) f.last t f.has.ends f.apart refl)
            ∙ (λ i. words_stay meets ts page octets f.has.within i ++ record { kind = kind; octets = new_octets page octets i; is_joined = false } ∷ [])
            ∙ ap (λ ws. ws ++ word kind octets ∷ []) (sym same);
      }

  -- what stood on the sheet stays
  stays : (text more : List ℕ) (last : Option K) (start : ℕ) (is_first : Bool) (r : IsReady front parts text last start is_first) → sheet_words front meets text ≡ words_in meets (text ++ more) r.tokens
  stays text more last start is_first r = words_of front parts spells begins_line laws meets text r.tokens last start is_first r.has ∙ sym (words_stay meets r.tokens text more r.has.within)

  pub grown : (text new : List ℕ) (last : Option K) (start at : ℕ) (is_first : Bool) (kind : K) (octets token : List ℕ) (blanks : Blanks) → IsReady front parts text last start is_first → token ≡ drop start text → AreEnough parts meets begins_line last token is_first kind (get_or octets 0 0) blanks → spells kind octets → new ≡ (text ++ blank_octets blanks) ++ octets → at ≡ length (text ++ blank_octets blanks) → Grown text new kind octets at
  grown text new last start at is_first kind octets token blanks r same e s n l =
      let enough = subst (λ (xs : List ℕ). AreEnough parts meets begins_line last xs is_first kind (get_or octets 0 0) blanks) same e in
      let page = text ++ blank_octets blanks in
      let f = fronted text r.tokens last start is_first kind (get_or octets 0 0) blanks.line blanks.further blanks.spaces r.has enough in
      let g = grown_by text page r.tokens kind octets (stays text (blank_octets blanks) last start is_first r) f s in
      subst (λ (xs : List ℕ). Grown text xs kind octets at) (sym n) (subst (λ (k : ℕ). Grown text (page ++ octets) kind octets k) (sym l) g)

  -- two words, the second of which touches the first
  pub record GrownByTwo (text new : List ℕ) (first second : K) (octets more : List ℕ) (start : ℕ) : Type 0 where
    pub ready : IsReady front parts new (Some second) start false
    pub words : sheet_words front meets new ≡ sheet_words front meets text ++ joined first octets ∷ word second more ∷ []

  pub record AreJoined (first second : K) (octets more : List ℕ) : Type 0 where
    pub first_spelled : spells first octets
    pub second_spelled : spells second more
    pub parted : parts first octets (get_or more 0 0) ≡ true
    pub meet : meets first second ≡ true
    pub inside : begins_line second ≡ false

  two_by : (text page : List ℕ) (ts : List (Token K)) (first second : K) (octets more : List ℕ) → sheet_words front meets text ≡ words_in meets page ts → Fronted front parts meets begins_line text ts first (get_or octets 0 0) page → AreJoined first second octets more → GrownByTwo text ((page ++ octets) ++ more) first second octets more (length (page ++ octets))
  two_by text page ts first second octets more same f j =
      let t₁ = placed page first octets in
      let t₂ = placed (page ++ octets) second more in
      let h = ready_token front parts spells begins_line laws page ts f.last f.start f.is_first first octets f.has j.first_spelled f.line f.parted in
      let parted : parts first (drop (length page) (page ++ octets)) (get_or more 0 0) ≡ true = ap (λ x. parts first x (get_or more 0 0)) (drop-append_seam page octets) ∙ j.parted in
      let k = ready_token front parts spells begins_line laws (page ++ octets) (ts ++ t₁ ∷ []) (Some first) (length page) false second more h j.second_spelled (λ c. absurd (let z = sym j.inside ∙ c in cc)) parted in
      let there : nat_eq (length page + length octets) (length (page ++ octets)) ≡ true = grind (arith, nat_tests, length-append page octets) in
      let inner : take (length page + length octets - length page) (drop (length page) ((page ++ octets) ++ more)) ≡ octets = part_stays (length page) (length page + length octets) (page ++ octets) more (omega (arith, length-append page octets)) ∙ new_octets page octets in
      record {
        ready = record { tokens = (ts ++ t₁ ∷ []) ++ t₂ ∷ []; has = k };
        words =
            words_of front parts spells begins_line laws meets ((page ++ octets) ++ more) ((ts ++ t₁ ∷ []) ++ t₂ ∷ []) (Some second) (length (page ++ octets)) false k
            ∙ push_two meets ((page ++ octets) ++ more) None ts t₁ t₂ (not_joined (length page) (last_of None ts) f.last t₁ f.has.ends f.apart refl) (ap (λ x. x && nat_eq (length page + length octets) (length (page ++ octets))) j.meet ∙ there)
            ∙ (λ i. words_in meets (append_assoc page octets more i) ts ++ record { kind = first; octets = inner i; is_joined = true } ∷ record { kind = second; octets = new_octets (page ++ octets) more i; is_joined = false } ∷ [])
            ∙ ap (λ ws. ws ++ joined first octets ∷ word second more ∷ []) (words_stay meets ts page (octets ++ more) f.has.within ∙ sym same);
      }

  pub grown_by_two : (text new : List ℕ) (last : Option K) (start at : ℕ) (is_first : Bool) (first second : K) (octets more token : List ℕ) (blanks : Blanks) → IsReady front parts text last start is_first → token ≡ drop start text → AreEnough parts meets begins_line last token is_first first (get_or octets 0 0) blanks → AreJoined first second octets more → new ≡ ((text ++ blank_octets blanks) ++ octets) ++ more → at ≡ length ((text ++ blank_octets blanks) ++ octets) → GrownByTwo text new first second octets more at
  grown_by_two text new last start at is_first first second octets more token blanks r same e j n l =
      let enough = subst (λ (xs : List ℕ). AreEnough parts meets begins_line last xs is_first first (get_or octets 0 0) blanks) same e in
      let page = text ++ blank_octets blanks in
      let f = fronted text r.tokens last start is_first first (get_or octets 0 0) blanks.line blanks.further blanks.spaces r.has enough in
      let g = two_by text page r.tokens first second octets more (stays text (blank_octets blanks) last start is_first r) f j in
      subst (λ (xs : List ℕ). GrownByTwo text xs first second octets more at) (sym n) (subst (λ (k : ℕ). GrownByTwo text ((page ++ octets) ++ more) first second octets more k) (sym l) g)
