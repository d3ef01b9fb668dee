-- Further rules of an accepted program, each as a fact.
use Rattle.std.proofs.Common.{◌≡◌, inl, inr, ◌≤◌, ◌⊎◌, Bool, true, false, cond, List, [], ◌∷◌, ◌++◌, length, refl, sym, subst}
use Rattle.std.specs.Str.{bytes_eq}
use Rattle.std.proofs.lemmas.Bool.{ltb-false}
use Rattle.p414_syntax.specs.declared.syntax.Decl.{Decl}
use Rattle.p414_syntax.specs.Names.{Name, has_name}
use Rattle.p414_syntax.specs.Breaks.{BreaksNone, IsBroken, program_rules}
use Rattle.p414_syntax.specs.Distinct.{distinct, distinct_behind}
use Rattle.p414_syntax.specs.Payloads.{HashesPayload}
use Rattle.p414_syntax.specs.Pipelines.{HasMisplacedRequest}
use Rattle.p414_syntax.specs.Preserved.{preserved_lists, preserves_too_many}
use Rattle.lower_laws_states.specs.Expansions.{Has}
use Rattle.lower_laws_states.proofs.Members.{not_true, none_passes, same_name, has_apart}
use Rattle.lower_laws_states.proofs.Written.{any_has}
use Rattle.lower_laws_premises.proofs.Objects.{same_itself}

module _ (ds : List Decl) (none : BreaksNone ds program_rules) where
  -- C18
  pub few_preserved : length (preserved_lists ds) ≤ 255
  unfolding IsBroken
  few_preserved = ltb-false 255 (length (preserved_lists ds)) (not_true (preserves_too_many ds) (λ e. none.1.1.1.1.1.1.1.1.1.1.1.1.1.1.1.1.1.0 (inl e)))

  -- C20
  pub none_hashed : HashesPayload ds → ⊥
  unfolding IsBroken
  none_hashed h = none.1.1.1.1.1.1.1.1.1.1.1.1.1.1.1.1.1.1.1.0 (inr (inr h))

  -- C22
  pub none_misplaced : HasMisplacedRequest ds → ⊥
  unfolding IsBroken
  none_misplaced = none.1.1.1.1.1.1.1.1.1.1.1.1.1.1.1.1.1.1.1.1.1.0

-- a name of a list is one of the names that the list has, each once

found : (names : List Name) (name : Name) → has_name names name ≡ true → Has names name
found names name e = let one = any_has (bytes_eq name) names e in subst (Has names) (sym (same_name name one.0 one.2)) one.1

distinct_has : (before names : List Name) (name : Name) → Has names name → Has before name ⊎ Has (distinct_behind before names) name
distinct_has before [] name h = absurd h
distinct_has before (m ∷ names) name h = by (has_name before m) refl h (λ b. distinct_has b names name) where
  at_end : Has (before ++ m ∷ []) name ⊎ Has (distinct_behind (before ++ m ∷ []) names) name → Has before name ⊎ Has (m ∷ distinct_behind (before ++ m ∷ []) names) name
  at_end (inl h) = of (has_apart before (m ∷ []) name h) where
    of : Has before name ⊎ Has (m ∷ []) name → Has before name ⊎ Has (m ∷ distinct_behind (before ++ m ∷ []) names) name
    of (inl h) = inl h
    of (inr (inl e)) = inr (inl e)
    of (inr (inr h)) = absurd h
  at_end (inr h) = inr (inr h)

  by : (b : Bool) → has_name before m ≡ b → Has (m ∷ names) name → ((before : List Name) → Has names name → Has before name ⊎ Has (distinct_behind before names) name) → Has before name ⊎ Has (cond b (distinct_behind before names) (m ∷ distinct_behind (before ++ m ∷ []) names)) name
  by true e (inl same) rest = inl (subst (Has before) same (found before m e))
  by true e (inr h) rest = rest before h
  by false e (inl same) rest = inr (inl same)
  by false e (inr h) rest = at_end (rest (before ++ m ∷ []) h)

pub each_distinct : (names : List Name) (name : Name) → Has names name → Has (distinct names) name
each_distinct names name h = of (distinct_has [] names name h) where
  of : Has [] name ⊎ Has (distinct names) name → Has (distinct names) name
  of (inl h) = absurd h
  of (inr h) = h

pub has_so : (names : List Name) (name : Name) → Has names name → has_name names name ≡ true
has_so names name h = of (has_name names name) refl where
  of : (b : Bool) → has_name names name ≡ b → b ≡ true
  of true e = refl
  of false e = absurd (cc (none_passes (bytes_eq name) names name e h, same_itself name))
