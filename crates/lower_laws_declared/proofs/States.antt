-- The new names of states: one to one, no built-in name, and not that of the state of initial values.
use Rattle.std.proofs.Common.{◌≡◌, ◌≢◌, inl, inr, ℕ, ◌+◌, ◌<◌, ◌≤◌, ◌^◌, Bool, true, false, not, ◌&&◌, cond, List, [], ◌∷◌, ◌++◌, length, map, refl, sym, ap, ◌∙◌, subst, arith}
use Rattle.std.specs.Prelude.{codes, replicate}
use Rattle.std.specs.List.{list_any, AllByRecursion}
use Rattle.std.specs.Str.{bytes_eq}
use Rattle.std.proofs.lemmas.Bool.{true≢false}
use Rattle.std.proofs.lemmas.List.{length-append}
use Rattle.std.proofs.lemmas.Slice.Eq.{bytes_eq-Decides}
use Rattle.p414_syntax.specs.declared.parsers.Parser.{Parser}
use Rattle.p414_syntax.specs.declared.syntax.Decl.{Decl}
use Rattle.p414_syntax.specs.declared.syntax.Decl.TheVariants as decl14
use Rattle.p414_syntax.specs.declared.syntax.Sort.{Sort}
use Rattle.p414_syntax.specs.declared.syntax.Sort.TheVariants as sort
use Rattle.p414_syntax.specs.Names.{Name, has_name, is_declared}
use Rattle.p414_syntax.specs.ParserGraph.{states as states14, state_in}
use Rattle.p416_syntax.specs.Declarations.{known_state}
use Rattle.p416_syntax.specs.BuiltIn.{functions}
use Rattle.lower_laws_names.specs.Words.{outer_words}
use Rattle.lower_laws_names.specs.Made.{line, Thing, made, can_stay_outside}
use Rattle.lower_laws_names.specs.NewNames.{gives_initials, stays, thing, new_name}
use Rattle.lower_laws_names.specs.Reaches.{IsNumbered}
use Rattle.lower_laws_names.proofs.Things.{made_short}
use Rattle.lower_laws_names.proofs.Sorts.{proper, sort_differs, state_outside, not_start}
use Rattle.lower_laws_names.proofs.OneSort.{is_numbered}
use Rattle.lower_laws_states.specs.Expansions.{Has}
use Rattle.lower_laws_states.proofs.Members.{picked_has, neither, of_not}
use Rattle.lower_laws_states.proofs.Accepted.{declared_state}
use Rattle.lower_laws_parser.specs.Words.{ParserWords, state_of}
use Rattle.lower_laws_program.specs.Scopes.{IsClear, enumerations}
use Rattle.lower_laws_program.proofs.Clear.{all_of}
use Rattle.lower_laws_declared.specs.Parser.{by_declared, state_called, begun_with}
use Rattle.lower_laws_declared.proofs.Found.{declared_named, named_declared}

-- lists

same_behind : (xs a b : List ℕ) → xs ++ a ≡ xs ++ b → a ≡ b
same_behind [] a b e = e
same_behind (x ∷ xs) a b e = same_behind xs a b (cc e)

-- each of a list passes
abbrev pub AllPass : (Name → Bool) → List Name → Type 0
AllPass p all = AllByRecursion (λ n. p n ≡ true) all

pub all_pass : (p : Name → Bool) (all : List Name) → list_any (λ n. not (p n)) all ≡ false → AllPass p all
all_pass p [] e = tt
all_pass p (n ∷ all) e = let both = neither (not (p n)) (list_any (λ n. not (p n)) all) e in (of_not (p n) both.0, all_pass p all both.1)

module _ (ds : List Decl) (few : length ds ≤ 2 ^ 32) where
  pub numbered_here : (s : Sort) (n : Name) → is_declared s ds n ≡ true → IsNumbered ds s n
  numbered_here s n there = is_numbered ds s n few (declared_named ds s n there)

  -- a new name has at most 64 octets
  pub new_is_short : (s : Sort) (n : Name) → IsNumbered ds s n → length (new_name ds s n) ≤ 64
  new_is_short s n is = by (stays ds s n) refl where
    x : Thing
    x = thing ds s n

    by : (b : Bool) → stays ds s n ≡ b → length (cond b n (made x.letter x.number n)) ≤ 64
    by true e = (proper ds s n is).short e
    by false e = made_short x.letter x.number n (proper ds s n is).small

  long : (n : Name) → length (replicate 65 line ++ n) ≡ 65 + length n
  long n = let e : length (replicate 65 line) ≡ 65 = refl in length-append (replicate 65 line) n ∙ ap (λ (k : ℕ). k + length n) e

  short_or_long : (a b : Name) → IsNumbered ds sort.Parse a → new_name ds sort.Parse a ≢ replicate 65 line ++ b
  short_or_long a b is same = omega (arith, new_is_short sort.Parse a is, long b, ap length same)

  -- one to one
  pub states_apart : (a b : Name) → a ≢ b → state_called ds a ≢ state_called ds b
  states_apart a b apart = by (is_declared sort.Parse ds a) (is_declared sort.Parse ds b) refl refl where
    by : (p q : Bool) → is_declared sort.Parse ds a ≡ p → is_declared sort.Parse ds b ≡ q → by_declared p ds a ≢ by_declared q ds b
    by true true e f same = sort_differs ds sort.Parse a b (numbered_here sort.Parse a e) (numbered_here sort.Parse b f) apart same
    by true false e f same = short_or_long a b (numbered_here sort.Parse a e) same
    by false true e f same = short_or_long b a (numbered_here sort.Parse b f) (sym same)
    by false false e f same = apart (same_behind (replicate 65 line) a b same)

  pub declared_so : (n : Name) → is_declared sort.Parse ds n ≡ true → state_called ds n ≡ new_name ds sort.Parse n
  declared_so n there = ap (λ (b : Bool). by_declared b ds n) there

  -- the state of initial values has its name to itself
  pub start_apart : list_any gives_initials ds ≡ true → (n : Name) → state_called ds n ≢ codes "start"
  start_apart begun n = by (is_declared sort.Parse ds n) refl where
    by : (b : Bool) → is_declared sort.Parse ds n ≡ b → by_declared b ds n ≢ codes "start"
    by true e same = not_start ds n (numbered_here sort.Parse n e) begun same
    by false e same = omega (arith, long n, ap length same)

  -- where there is none, `start` stays
  pub start_stays : list_any gives_initials ds ≡ false → is_declared sort.Parse ds (codes "start") ≡ true → state_called ds (codes "start") ≡ codes "start"
  start_stays none there =
      declared_so (codes "start") there
      ∙ ap (λ (b : Bool). cond (can_stay_outside (codes "start") && not (bytes_eq (codes "start") (codes "start") && b)) (codes "start") (made (thing ds sort.Parse (codes "start")).letter (thing ds sort.Parse (codes "start")).number (codes "start"))) none

  -- no built-in name

  pub state_declared : (x : Parser) → Has (states14 ds) x → is_declared sort.Parse ds x.name ≡ true
  state_declared x h =
      let d = picked_has state_in ds x h in
      named_declared ds sort.Parse (decl14.Parser x) x.name (subst (Has ds) (declared_state d.0 x d.2) d.1) refl

  not_outer : (n text : Name) → IsNumbered ds sort.Parse n → has_name outer_words text ≡ true → bytes_eq (new_name ds sort.Parse n) text ≡ false
  not_outer n text is outer = by (bytes_eq (new_name ds sort.Parse n) text) refl where
    by : (b : Bool) → bytes_eq (new_name ds sort.Parse n) text ≡ b → b ≡ false
    by false e = refl
    by true e = absurd (true≢false (sym outer ∙ ap (has_name outer_words) (sym ((bytes_eq-Decides _ text).0 e)) ∙ state_outside ds n is))

  clear_states : (words : ParserWords) → ((n : Name) → words.state n ≡ state_called ds n) → (text : Name) → has_name outer_words text ≡ true → (xs : List Parser) → ((x : Parser) → Has xs x → Has (states14 ds) x) → IsClear (map known_state (map (state_of ds words) xs)) text
  clear_states words same text outer [] among = tt
  clear_states words same text outer (x ∷ xs) among =
      let there = state_declared x (among x (inl refl)) in (
        ap (λ (n : Name). bytes_eq n text) (same x.name ∙ declared_so x.name there) ∙ not_outer x.name text (numbered_here sort.Parse x.name there) outer,
        clear_states words same text outer xs (λ y h. among y (inr h)),
      )

  pub clear_begun : (b : Bool) (words : ParserWords) → ((n : Name) → words.state n ≡ state_called ds n) → (text : Name) → has_name outer_words text && not (bytes_eq (codes "start") text) ≡ true → IsClear (map known_state (begun_with b ds words)) text
  clear_begun b words same text outer = by b (both (has_name outer_words text) _ outer) where
    both : (p q : Bool) → p && not q ≡ true → (p ≡ true) × (q ≡ false)
    both true false e = (refl, refl)
    both true true e = absurd (cc e)
    both false q e = absurd (cc e)

    by : (b : Bool) → (has_name outer_words text ≡ true) × (bytes_eq (codes "start") text ≡ false) → IsClear (map known_state (begun_with b ds words)) text
    by true is = (is.1, clear_states words same text is.0 (states14 ds) (λ x h. h))
    by false is = clear_states words same text is.0 (states14 ds) (λ x h. h)

  pub functions_clear : (b : Bool) (words : ParserWords) → ((n : Name) → words.state n ≡ state_called ds n) → AllByRecursion (IsClear (map known_state (begun_with b ds words))) functions
  functions_clear b words same = all_of _ (IsClear (map known_state (begun_with b ds words))) (clear_begun b words same) functions (all_pass (λ text. has_name outer_words text && not (bytes_eq (codes "start") text)) functions refl)

  pub enumerations_clear : (b : Bool) (words : ParserWords) → ((n : Name) → words.state n ≡ state_called ds n) → AllByRecursion (IsClear (map known_state (begun_with b ds words))) enumerations
  enumerations_clear b words same = all_of _ (IsClear (map known_state (begun_with b ds words))) (clear_begun b words same) enumerations (all_pass (λ text. has_name outer_words text && not (bytes_eq (codes "start") text)) enumerations refl)
