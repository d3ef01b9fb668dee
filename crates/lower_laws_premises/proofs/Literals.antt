-- Each number in an action or in a list is one that a text can have, behind expansion too.
use Rattle.std.proofs.Common.{◌≡◌, inl, inr, Bool, true, false, ◌&&◌, cond, Option, Some, None, List, [], ◌∷◌, map, refl, sym, ap, ◌∙◌, subst, ℕ}
use Rattle.std.specs.Prelude.{flat_map, is_some, slice_get, unwrap_or, option_and_then}
use Rattle.std.specs.List.{list_all, AllByRecursion}
use Rattle.p414_syntax.specs.declared.lexeme.Literal.{Literal}
use Rattle.p414_syntax.specs.declared.lexeme.Lexeme.{Lexeme}
use Rattle.p414_syntax.specs.declared.lexeme.Lexeme.TheVariants as lexeme
use Rattle.p414_syntax.specs.SpeltLexemes.{is_spelt_lexeme, is_spelt_literal}
use Rattle.p414_syntax.specs.declared.actions.Action.{Action}
use Rattle.p414_syntax.specs.declared.actions.Arg.{Arg}
use Rattle.p414_syntax.specs.declared.actions.Arg.TheVariants as arg
use Rattle.p414_syntax.specs.declared.actions.Call.{Call}
use Rattle.p414_syntax.specs.declared.calculations.FieldList.{FieldList}
use Rattle.p414_syntax.specs.declared.calculations.Item.TheVariants as item
use Rattle.p414_syntax.specs.declared.parts.Number.{Number}
use Rattle.p414_syntax.specs.declared.syntax.Decl.{Decl}
use Rattle.p414_syntax.specs.declared.syntax.Decl.TheVariants as decl
use Rattle.p414_syntax.specs.Written.{in_parens, by_commas, after_commas, written_option, written_sign, written_name, written_arg, written_call, written_action, written_item, written_decl}
use Rattle.p414_syntax.specs.Names.{Name, find_name}
use Rattle.p414_syntax.specs.Arguments.{Argument, number_argument, field_argument, parameter_argument, name_argument, Invocation, parameter_or_name, argument_of, invocation_of, invocations_of, action_in, actions, action_number, action_of}
use Rattle.p414_syntax.specs.ActionExpansion.{given_for, invoked_with, body_with, ActionExpands}
use Rattle.lower_laws_states.specs.Expansions.{Has}
use Rattle.lower_laws_states.proofs.Members.{has_left, has_right, has_joined, has_at, has_each, each_has, each_weaker, mapped_has, picked_has}
use Rattle.lower_laws_states.proofs.Expansion.{expanded, each_mapped}
use Rattle.lower_laws_premises.specs.Literals.{IsSpelt, IsFitting}

-- what passes a test that all pass
pub all_pass : {X : Type 0} (p : X → Bool) (xs : List X) (x : X) → list_all p xs ≡ true → Has xs x → p x ≡ true
all_pass p [] x e h = absurd h
all_pass {X} p (y ∷ xs) x e h = by (p y) refl e h (all_pass p xs x) where
  by : (b : Bool) → p y ≡ b → b && list_all p xs ≡ true → Has (y ∷ xs) x → (list_all p xs ≡ true → Has xs x → p x ≡ true) → p x ≡ true
  by true is e (inl same) rest = ap p (sym same) ∙ is
  by true is e (inr h) rest = rest e h
  by false is e h rest = absurd (cc e)

pub commas_has : {A : Type 0} (written : A → List Lexeme) (xs : List A) (x : A) (t : Lexeme) → Has xs x → Has (written x) t → Has (by_commas written xs) t
commas_has written [] x t h k = absurd h
commas_has {A} written (y ∷ xs) x t (inl e) k = has_left (written y) (after_commas written xs) t (subst (λ (z : A). Has (written z) t) (sym e) k)
commas_has written (y ∷ xs) x t (inr h) k = has_right (written y) (after_commas written xs) t (has_joined (λ x. lexeme.Mark _ ∷ written x) xs x t h (inr k))

call_written : (c : Call) (n : Number) → Has c.arguments (arg.Number n) → Has (written_call c) (lexeme.Number n.literal)
call_written c n h =
    let t = lexeme.Number n.literal in
    inr (has_left (in_parens (by_commas written_arg c.arguments)) _ t
    (inr (has_left (by_commas written_arg c.arguments) _ t (commas_has written_arg c.arguments (arg.Number n) t h (has_right (written_option written_sign n.sign) _ t (inl refl))))))

action_written : (a : Action) (c : Call) (t : Lexeme) → Has a.calls c → Has (written_call c) t → Has (written_action a) t
action_written a c t h k = inr (inr (has_right (in_parens (by_commas written_name a.parameters)) _ t (inr (has_left (flat_map written_call a.calls) _ t (has_joined written_call a.calls c t h k)))))

-- a number in an action
argument_written : (parameters : List Name) (x : Arg) (n : Number) → argument_of parameters x ≡ number_argument n → x ≡ arg.Number n
argument_written parameters (arg.Number m) n e = ap arg.Number (cc e)
argument_written parameters (arg.Field r) n e = absurd (cc e)
argument_written parameters (arg.Instance i) n e = absurd (by (is_some i.index) (find_name parameters i.name) e) where
  by : (b : Bool) (o : Option ℕ) → cond b (name_argument i) (parameter_or_name o i) ≡ number_argument n → ⊥
  by true o e = cc e
  by false None e = cc e
  by false (Some k) e = cc e

pub declared_action : (d : Decl) (a : Action) → action_in d ≡ Some a → d ≡ decl.Action a
declared_action (decl.Action x) a e = ap decl.Action (cc e)
declared_action _ a e = absurd (cc e)

pub has_action : (ds : List Decl) (name : Name) (a : Action) → action_of ds name ≡ Some a → Has (actions ds) a
has_action ds name a e = by (action_number ds name) e where
  by : (o : Option ℕ) → option_and_then (slice_get (actions ds)) o ≡ Some a → Has (actions ds) a
  by None e = absurd (cc e)
  by (Some n) e = has_at (actions ds) n a e

module _ (ds : List Decl) (spelt : IsSpelt ds) where
  token_fits : (d : Decl) (n : Literal) → Has ds d → Has (written_decl d) (lexeme.Number n) → is_spelt_literal n ≡ true
  token_fits d n h k = all_pass is_spelt_lexeme (flat_map written_decl ds) (lexeme.Number n) spelt.tokens (has_joined written_decl ds d (lexeme.Number n) h k)

  argument_fits : (a : Action) → Has (actions ds) a → (c : Call) → Has a.calls c → (x : Arg) → Has c.arguments x → IsFitting (argument_of a.parameters x)
  argument_fits a declared c called x h = by (argument_of a.parameters x) refl where
    by : (y : Argument) → argument_of a.parameters x ≡ y → IsFitting y
    by (number_argument n) e =
        let d = picked_has action_in ds a declared in
        token_fits d.0 n.literal d.1 (subst (λ (z : Decl). Has (written_decl z) (lexeme.Number n.literal)) (sym (declared_action d.0 a d.2)) (action_written a c (lexeme.Number n.literal) called (call_written c n (subst (Has c.arguments) (argument_written a.parameters x n e) h))))
    by (field_argument r) e = tt
    by (parameter_argument k) e = tt
    by (name_argument i) e = tt

  abbrev AllFitting : Invocation → Type 0
  AllFitting i = AllByRecursion IsFitting i.arguments

  call_fits : (a : Action) (j : Invocation) → Has (actions ds) a → Has (invocations_of a) j → AllFitting j
  call_fits a j declared there =
      let c = mapped_has (invocation_of a.parameters) a.calls j there in
      subst AllFitting c.2 (each_mapped IsFitting (argument_of a.parameters) c.0.arguments (λ x h. argument_fits a declared c.0 c.1 x h))

  -- behind expansion

  given_fits : (given : List Argument) → AllByRecursion IsFitting given → (a : Argument) → IsFitting a → IsFitting (given_for given a)
  given_fits given each (parameter_argument n) is = by (slice_get given n) refl where
    by : (o : Option Argument) → slice_get given n ≡ o → IsFitting (unwrap_or o (parameter_argument n))
    by None e = tt
    by (Some g) e = has_each IsFitting given g each (has_at given n g e)
  given_fits given each (number_argument n) is = is
  given_fits given each (field_argument r) is = tt
  given_fits given each (name_argument i) is = tt

  all_given_fit : (given : List Argument) → AllByRecursion IsFitting given → (list : List Argument) → AllByRecursion IsFitting list → AllByRecursion IsFitting (map (given_for given) list)
  all_given_fit given each [] is = tt
  all_given_fit given each (a ∷ list) is = (given_fits given each a is.0, all_given_fit given each list is.1)

  inner_fit : (i : Invocation) (a : Action) → AllFitting i → action_of ds i.callee ≡ Some a → AllByRecursion AllFitting (body_with i.arguments a)
  inner_fit i a fits named = each_mapped AllFitting (invoked_with i.arguments) (invocations_of a) (λ j there. all_given_fit i.arguments fits j.arguments (call_fits a j (has_action ds i.callee a named) there))

  -- what an action comes to
  pub primitives_fit : (n : ℕ) (all : List Invocation) → ActionExpands ds n all → AllByRecursion AllFitting all
  primitives_fit n all e =
      each_weaker _ AllFitting (λ i is. is.0) all
      (expanded ds AllFitting inner_fit (invocations_of e.action) all e.expands
      (each_has AllFitting (invocations_of e.action) (λ j there. call_fits e.action j (has_at (actions ds) n e.action e.numbered) there)))

  -- a number in a list that is declared
  pub item_fits : (l : FieldList) (n : Literal) → Has ds (decl.FieldList l) → Has l.items (item.Number n) → is_spelt_literal n ≡ true
  item_fits l n h k = token_fits (decl.FieldList l) n h (inr (inr (inr (has_left (flat_map written_item l.items) _ (lexeme.Number n) (has_joined written_item l.items (item.Number n) (lexeme.Number n) k (inl refl))))))
