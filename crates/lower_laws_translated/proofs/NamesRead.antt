-- Names of a text are identifiers, so the new names of what is declared are spelt.
use Rattle.std.proofs.Common.{◌≡◌, inl, inr, ℕ, ◌<◌, ◌^◌, Bool, true, not, ◌&&◌, Some, List, ◌∷◌, ◌++◌, refl, ap, ap₂}
use Rattle.std.specs.Prelude.{flat_map}
use Rattle.p414_syntax.specs.declared.keyword.Keyword.TheVariants as key
use Rattle.p414_syntax.specs.declared.lexeme.Lexeme.TheVariants as lexeme
use Rattle.p414_syntax.specs.declared.actions.Action.{Action}
use Rattle.p414_syntax.specs.declared.headers.Field.{Field}
use Rattle.p414_syntax.specs.declared.syntax.Decl.{Decl}
use Rattle.p414_syntax.specs.declared.syntax.Decl.TheVariants as decl
use Rattle.p414_syntax.specs.declared.syntax.Sort.{Sort}
use Rattle.p414_syntax.specs.declared.syntax.Sort.TheVariants as sort
use Rattle.p414_syntax.specs.SpeltLexemes.{is_identifier, is_spelt_lexeme}
use Rattle.p414_syntax.specs.Views.{HeaderTypeTree}
use Rattle.p414_syntax.specs.Words.{keyword}
use Rattle.p414_syntax.specs.Written.{in_parens, in_braces, by_commas, written_name, written_field, written_tail, written_decl}
use Rattle.p414_syntax.specs.Names.{Name, name_in}
use Rattle.lower_laws_names.specs.Made.{called}
use Rattle.lower_laws_names.specs.NewNames.{new_name, thing, field_thing, parameter_thing}
use Rattle.lower_laws_names.specs.Reaches.{IsWritable, IsNumbered}
use Rattle.lower_laws_names.proofs.Proved.{names_are_writable}
use Rattle.lower_laws_states.specs.Expansions.{Has}
use Rattle.lower_laws_states.proofs.Members.{has_left, has_joined}
use Rattle.lower_laws_rules.specs.Spelling.{SpeltName}
use Rattle.lower_laws_premises.specs.Literals.{IsSpelt}
use Rattle.lower_laws_premises.proofs.Literals.{all_pass, commas_has}

-- the token of a name that is declared

inside : (a b : Name) → Some a ≡ Some b → a ≡ b
inside a b e = cc e

same_token : (a b : Name) → Some a ≡ Some b → lexeme.Name a ≡ lexeme.Name b
same_token a b e = ap (λ (n : Name). lexeme.Name n) (inside a b e)

token_of : (s : Sort) (d : Decl) (n : Name) → name_in s d ≡ Some n → Has (written_decl d) (lexeme.Name n)
token_of sort.HeaderType (decl.HeaderType x) n e = inr (inl (same_token x.name n e))
token_of sort.Instance (decl.Header x) n e = inr (inr (inl (same_token x.name n e)))
token_of sort.Instance (decl.Metadata x) n e = inr (inr (inl (same_token x.name n e)))
token_of sort.Parse (decl.Parser x) n e = inr (inl (same_token x.name n e))
token_of sort.Parse (decl.Control x) n e = inr (inl (same_token x.name n e))
token_of sort.Action (decl.Action x) n e = inr (inl (same_token x.name n e))
token_of sort.Table (decl.Table x) n e = inr (inl (same_token x.name n e))
token_of sort.List (decl.FieldList x) n e = inr (inl (same_token x.name n e))
token_of sort.Calculation (decl.FieldListCalculation x) n e = inr (inl (same_token x.name n e))
token_of sort.Object (decl.Counter x) n e = inr (inl (same_token x.name n e))
token_of sort.Object (decl.Meter x) n e = inr (inl (same_token x.name n e))
token_of sort.Object (decl.Register x) n e = inr (inl (same_token x.name n e))
token_of _ _ n e = absurd (cc e)

-- what can be written is spelt
pub writable_spelt : (n : Name) → IsWritable n → SpeltName n
writable_spelt n is = ap₂ (λ (a b : Bool). a && not b) is.spelt is.unreserved

module _ (ds : List Decl) (spelt : IsSpelt ds) where
  read : (d : Decl) (n : Name) → Has ds d → Has (written_decl d) (lexeme.Name n) → is_identifier n ≡ true
  read d n h k = all_pass is_spelt_lexeme (flat_map written_decl ds) (lexeme.Name n) spelt.tokens (has_joined written_decl ds d (lexeme.Name n) h k)

  pub declared_read : (s : Sort) (d : Decl) (n : Name) → Has ds d → name_in s d ≡ Some n → is_identifier n ≡ true
  declared_read s d n h e = read d n h (token_of s d n e)

  pub field_read : (t : HeaderTypeTree) (f : Field) → Has ds (decl.HeaderType t) → Has t.fields f → is_identifier f.name ≡ true
  field_read t f h k =
      let token = lexeme.Name f.name in
      read (decl.HeaderType t) f.name h
      (inr (inr (inr (has_left (keyword key.Fields ∷ (in_braces (flat_map written_field t.fields) ++ flat_map written_tail t.tails)) _ token
      (inr (has_left (in_braces (flat_map written_field t.fields)) _ token (inr (has_left (flat_map written_field t.fields) _ token (has_joined written_field t.fields f token k (inl refl))))))))))

  pub parameter_read : (a : Action) (n : Name) → Has ds (decl.Action a) → Has a.parameters n → is_identifier n ≡ true
  parameter_read a n h k =
      let token = lexeme.Name n in
      read (decl.Action a) n h (inr (inr (has_left (in_parens (by_commas written_name a.parameters)) _ token (inr (has_left (by_commas written_name a.parameters) _ token (commas_has written_name a.parameters n token k (inl refl)))))))

  -- new names
  pub new_name_spelt : (s : Sort) (d : Decl) (n : Name) → Has ds d → name_in s d ≡ Some n → IsNumbered ds s n → SpeltName (new_name ds s n)
  new_name_spelt s d n h e numbered = writable_spelt (new_name ds s n) (names_are_writable.writable (thing ds s n) (names_are_writable.of_sorts ds s n numbered) (declared_read s d n h e))

  pub new_field_spelt : (t : HeaderTypeTree) (f : Field) (k : ℕ) → Has ds (decl.HeaderType t) → Has t.fields f → k < 2 ^ 32 → SpeltName (called (field_thing k f.name))
  new_field_spelt t f k h has small = writable_spelt (called (field_thing k f.name)) (names_are_writable.writable (field_thing k f.name) (names_are_writable.of_fields k f.name small) (field_read t f h has))

  pub new_parameter_spelt : (a : Action) (n : Name) (k : ℕ) → Has ds (decl.Action a) → Has a.parameters n → k < 2 ^ 32 → SpeltName (called (parameter_thing ds k n))
  new_parameter_spelt a n k h has small = writable_spelt (called (parameter_thing ds k n)) (names_are_writable.writable (parameter_thing ds k n) (names_are_writable.of_parameters ds k n small) (parameter_read a n h has))
