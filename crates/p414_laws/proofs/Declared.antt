-- Where no name is unknown, each control that is called is there.
use Rattle.std.proofs.Common.{◌≡◌, ℕ, suc, zero, Bool, true, false, not, ◌||◌, List, [], ◌∷◌, ◌++◌, map, slice_get, Option, Some, None, option_and_then, option_map, refl, sym, ap, ◌∙◌, subst}
use Rattle.std.specs.Prelude.{flat_map, IsTrue}
use Rattle.std.specs.List.{list_any}
use Rattle.std.specs.Str.{bytes_eq}
use Rattle.std.proofs.lemmas.List.Folds.{list_any-append}
use Rattle.std.proofs.lemmas.Grind.{flat_map-append}
use Rattle.p414_syntax.specs.declared.parsers.Parser.{Parser}
use Rattle.p414_syntax.specs.declared.syntax.Decl.{Decl}
use Rattle.p414_syntax.specs.declared.syntax.Decl.TheVariants as decl
use Rattle.p414_syntax.specs.declared.syntax.Sort.TheVariants as sort
use Rattle.p414_syntax.specs.Tree.{Stmt, no_statements, then, apply, apply_branches, if_then, call, no_else, else_block, else_if, no_branches, branch}
use Rattle.p414_syntax.specs.Subtrees.{subtrees}
use Rattle.p414_syntax.specs.Views.{ControlTree}
use Rattle.p414_syntax.specs.Names.{Name, names_in, declared_in, number_of, is_control}
use Rattle.p414_syntax.specs.Uses.{Use, own_uses, uses_of, uses}
use Rattle.p414_syntax.specs.Unknown.{is_unknown, parse_of, has_unknown_name}
use Rattle.p414_syntax.specs.ControlExpansion.{controls, control_name, control_number}
use Rattle.p414_control_check.proofs.Expanding.{CallsAreThere, AllAreThere}
use Rattle.p414_laws.proofs.Places.{position_here, position_past}

-- a control that is declared has a number

abbrev at_place : List Decl → Option ℕ → Option Decl
at_place ds o = option_and_then (slice_get ds) o

next_place : (d : Decl) (ds : List Decl) (o : Option ℕ) → at_place (d ∷ ds) (option_map suc o) ≡ at_place ds o
next_place d ds None = refl
next_place d ds (Some n) = refl

abbrev HasNumber : List Decl → Name → Type 0
HasNumber ds name = (n : ℕ) × (control_number ds name ≡ Some n)

behind_state : (x : Parser) (ds : List Decl) (name : Name) (b : Bool) → bytes_eq name x.name ≡ b → is_control (parse_of (decl.Parser x ∷ ds) name) ≡ true → (is_control (parse_of ds name) ≡ true → HasNumber ds name) → HasNumber ds name
behind_state x ds name true is e more = absurd (cc (ap (λ o. is_control (at_place (decl.Parser x ∷ declared_in sort.Parse ds) o)) (position_here (bytes_eq name) x.name (names_in sort.Parse ds) is), e))
behind_state x ds name false is e more =
    more
    (sym (ap is_control (next_place (decl.Parser x) (declared_in sort.Parse ds) (number_of sort.Parse ds name)))
    ∙ (sym (ap (λ o. is_control (at_place (decl.Parser x ∷ declared_in sort.Parse ds) o)) (position_past (bytes_eq name) x.name (names_in sort.Parse ds) is)) ∙ e))

behind_control : (x : ControlTree) (ds : List Decl) (name : Name) (b : Bool) → bytes_eq name x.name ≡ b → is_control (parse_of (decl.Control x ∷ ds) name) ≡ true → (is_control (parse_of ds name) ≡ true → HasNumber ds name) → HasNumber (decl.Control x ∷ ds) name
behind_control x ds name true is e more = (0, position_here (bytes_eq name) x.name (map control_name (controls ds)) is)
behind_control x ds name false is e more =
    let found = more
    (sym (ap is_control (next_place (decl.Control x) (declared_in sort.Parse ds) (number_of sort.Parse ds name)))
    ∙ (sym (ap (λ o. is_control (at_place (decl.Control x ∷ declared_in sort.Parse ds) o)) (position_past (bytes_eq name) x.name (names_in sort.Parse ds) is)) ∙ e)) in
    (suc found.0, position_past (bytes_eq name) x.name (map control_name (controls ds)) is ∙ ap (option_map suc) found.1)

pub has_number : (ds : List Decl) (name : Name) → is_control (parse_of ds name) ≡ true → HasNumber ds name
has_number [] name e = absurd (cc e)
has_number (decl.Parser x ∷ ds) name e = behind_state x ds name (bytes_eq name x.name) refl e (has_number ds name)
has_number (decl.Control x ∷ ds) name e = behind_control x ds name (bytes_eq name x.name) refl e (has_number ds name)
has_number (decl.HeaderType x ∷ ds) name e = has_number ds name e
has_number (decl.Header x ∷ ds) name e = has_number ds name e
has_number (decl.Metadata x ∷ ds) name e = has_number ds name e
has_number (decl.FieldList x ∷ ds) name e = has_number ds name e
has_number (decl.FieldListCalculation x ∷ ds) name e = has_number ds name e
has_number (decl.CalculatedField x ∷ ds) name e = has_number ds name e
has_number (decl.Action x ∷ ds) name e = has_number ds name e
has_number (decl.Table x ∷ ds) name e = has_number ds name e
has_number (decl.Counter x ∷ ds) name e = has_number ds name e
has_number (decl.Meter x ∷ ds) name e = has_number ds name e
has_number (decl.Register x ∷ ds) name e = has_number ds name e
has_number (decl.LeftOut x ∷ ds) name e = has_number ds name e

-- no name of these is unknown

or_left : (a b : Bool) → (a || b) ≡ false → a ≡ false
or_left true b e = e
or_left false b e = refl

or_right : (a b : Bool) → (a || b) ≡ false → b ≡ false
or_right true b e = absurd (cc e)
or_right false b e = e

not_false : (a : Bool) → not a ≡ false → a ≡ true
not_false true e = refl
not_false false e = absurd (cc e)

is_false : (b : Bool) → (IsTrue b → ⊥) → b ≡ false
is_false true h = absurd (h refl)
is_false false h = refl

module _ (ds : List Decl) where
  abbrev some_unknown : List Use → Bool
  some_unknown us = list_any (is_unknown ds) us

  abbrev NoneUnknown : List Stmt → Type 0
  NoneUnknown ss = some_unknown (flat_map own_uses ss) ≡ false

  none_first : (us more : List Use) → some_unknown (us ++ more) ≡ false → some_unknown us ≡ false
  none_first us more e = or_left _ (some_unknown more) (sym (list_any-append (is_unknown ds) us more) ∙ e)

  none_behind : (us more : List Use) → some_unknown (us ++ more) ≡ false → some_unknown more ≡ false
  none_behind us more e = or_right (some_unknown us) _ (sym (list_any-append (is_unknown ds) us more) ∙ e)

  none_left : (xs ys : List Stmt) → NoneUnknown (xs ++ ys) → NoneUnknown xs
  none_left xs ys e = none_first (flat_map own_uses xs) (flat_map own_uses ys) (sym (ap some_unknown (flat_map-append own_uses xs ys)) ∙ e)

  none_right : (xs ys : List Stmt) → NoneUnknown (xs ++ ys) → NoneUnknown ys
  none_right xs ys e = none_behind (flat_map own_uses xs) (flat_map own_uses ys) (sym (ap some_unknown (flat_map-append own_uses xs ys)) ∙ e)

  none_within : (s : Stmt) (ss : List Stmt) → NoneUnknown (s ∷ ss) → NoneUnknown ss
  none_within s ss e = none_behind (own_uses s) (flat_map own_uses ss) e

  pub calls_there : (s : Stmt) → NoneUnknown (subtrees s) → CallsAreThere ds s
  calls_there no_statements e = _
  calls_there (then a b) e = let h = none_within (then a b) (subtrees a ++ subtrees b) e in (calls_there a (none_left (subtrees a) (subtrees b) h), calls_there b (none_right (subtrees a) (subtrees b) h))
  calls_there (apply t) e = _
  calls_there (apply_branches t a) e = calls_there a (none_within (apply_branches t a) (subtrees a) e)
  calls_there (if_then c a b) e = let h = none_within (if_then c a b) (subtrees a ++ subtrees b) e in (calls_there a (none_left (subtrees a) (subtrees b) h), calls_there b (none_right (subtrees a) (subtrees b) h))
  calls_there (call name) e = has_number ds name (not_false (is_control (parse_of ds name)) (or_left _ false e))
  calls_there no_else e = _
  calls_there (else_block a) e = calls_there a (none_within (else_block a) (subtrees a) e)
  calls_there (else_if a) e = calls_there a (none_within (else_if a) (subtrees a) e)
  calls_there no_branches e = _
  calls_there (branch a l b) e = let h = none_within (branch a l b) (subtrees a ++ subtrees b) e in (calls_there a (none_left (subtrees a) (subtrees b) h), calls_there b (none_right (subtrees a) (subtrees b) h))

  in_control : (x : ControlTree) (more : List ControlTree) (n : ℕ) (c : ControlTree) → slice_get (x ∷ more) n ≡ Some c → NoneUnknown (subtrees x.body) → ((m : ℕ) → slice_get more m ≡ Some c → NoneUnknown (subtrees c.body)) → NoneUnknown (subtrees c.body)
  in_control x more zero c is first rest = let same : x ≡ c = cc is in subst (λ (t : ControlTree). NoneUnknown (subtrees t.body)) same first
  in_control x more (suc n) c is first rest = rest n is

  in_controls : (es : List Decl) → some_unknown (flat_map uses_of es) ≡ false → (n : ℕ) (c : ControlTree) → slice_get (controls es) n ≡ Some c → NoneUnknown (subtrees c.body)
  in_controls [] e n c is = absurd (cc is)
  in_controls (decl.Control x ∷ es) e n c is =
      in_control x (controls es) n c is (none_first (uses_of (decl.Control x)) (flat_map uses_of es) e)
      (λ m h. in_controls es (none_behind (uses_of (decl.Control x)) (flat_map uses_of es) e) m c h)
  in_controls (decl.HeaderType x ∷ es) e n c is = in_controls es (none_behind (uses_of (decl.HeaderType x)) (flat_map uses_of es) e) n c is
  in_controls (decl.Header x ∷ es) e n c is = in_controls es (none_behind (uses_of (decl.Header x)) (flat_map uses_of es) e) n c is
  in_controls (decl.Metadata x ∷ es) e n c is = in_controls es (none_behind (uses_of (decl.Metadata x)) (flat_map uses_of es) e) n c is
  in_controls (decl.FieldList x ∷ es) e n c is = in_controls es (none_behind (uses_of (decl.FieldList x)) (flat_map uses_of es) e) n c is
  in_controls (decl.FieldListCalculation x ∷ es) e n c is = in_controls es (none_behind (uses_of (decl.FieldListCalculation x)) (flat_map uses_of es) e) n c is
  in_controls (decl.CalculatedField x ∷ es) e n c is = in_controls es (none_behind (uses_of (decl.CalculatedField x)) (flat_map uses_of es) e) n c is
  in_controls (decl.Parser x ∷ es) e n c is = in_controls es (none_behind (uses_of (decl.Parser x)) (flat_map uses_of es) e) n c is
  in_controls (decl.Action x ∷ es) e n c is = in_controls es (none_behind (uses_of (decl.Action x)) (flat_map uses_of es) e) n c is
  in_controls (decl.Table x ∷ es) e n c is = in_controls es (none_behind (uses_of (decl.Table x)) (flat_map uses_of es) e) n c is
  in_controls (decl.Counter x ∷ es) e n c is = in_controls es (none_behind (uses_of (decl.Counter x)) (flat_map uses_of es) e) n c is
  in_controls (decl.Meter x ∷ es) e n c is = in_controls es (none_behind (uses_of (decl.Meter x)) (flat_map uses_of es) e) n c is
  in_controls (decl.Register x ∷ es) e n c is = in_controls es (none_behind (uses_of (decl.Register x)) (flat_map uses_of es) e) n c is
  in_controls (decl.LeftOut x ∷ es) e n c is = in_controls es (none_behind (uses_of (decl.LeftOut x)) (flat_map uses_of es) e) n c is

  pub all_there : (IsTrue (has_unknown_name ds) → ⊥) → AllAreThere ds
  all_there known n c is =
      calls_there c.body
      (in_controls ds (or_left (some_unknown (uses ds)) _ (is_false (has_unknown_name ds) known)) n c is)
