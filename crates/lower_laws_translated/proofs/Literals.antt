-- The controls of a program that was read stand as the rules ask: literals in conditions have 1 to 128 bits, and nothing nests too deep
-- (C28).
use Rattle.std.proofs.Common.{◌≡◌, ◌⊎◌, inl, inr, true, List, [], ◌∷◌, ◌++◌, refl, sym, ◌∙◌, subst}
use Rattle.std.specs.Prelude.{flat_map}
use Rattle.p414_syntax.specs.declared.lexeme.Lexeme.{Lexeme}
use Rattle.p414_syntax.specs.declared.lexeme.Lexeme.TheVariants as lexeme
use Rattle.p414_syntax.specs.SpeltLexemes.{is_spelt_lexeme}
use Rattle.p414_syntax.specs.declared.syntax.Decl.{Decl}
use Rattle.p414_syntax.specs.declared.syntax.Decl.TheVariants as decl
use Rattle.p414_syntax.specs.Subtrees.{subtrees, own_conditions}
use Rattle.p414_syntax.specs.Tree.{Expr, valid, truth as truth14, field, number, parenthesized, unary as unary_of, binary as binary_of, Stmt, no_statements, then as then14, apply, apply_branches, if_then as if14, call as call14, no_else, else_block, else_if, no_branches, branch}
use Rattle.p414_syntax.specs.Written.{in_parens, in_braces, written_name, written_expr, written_stmt, written_decl}
use Rattle.p414_syntax.specs.Names.{Name}
use Rattle.p414_syntax.specs.Breaks.{BreaksNone, IsBroken, program_rules}
use Rattle.p414_syntax.specs.Expressions.{conditions_in, conditions_of}
use Rattle.p414_syntax.specs.Nesting.{HasDeepNesting}
use Rattle.lower_laws_base.specs.Context.{Lowering}
use Rattle.lower_laws_states.specs.Expansions.{Has}
use Rattle.lower_laws_states.proofs.Members.{has_left, has_right, has_apart, has_joined, joined_has, each_has}
use Rattle.lower_laws_premises.specs.Literals.{IsSpelt}
use Rattle.lower_laws_premises.proofs.Literals.{all_pass}
use Rattle.lower_laws_controls.specs.Expanding.{ControlsFit}
use Rattle.lower_laws_block_rules.specs.Widths.{LiteralsWide}
use Rattle.lower_laws_block_rules.specs.Expanding.{ControlsStand}
use Rattle.lower_laws_block_rules.proofs.Expanding.{literal_wide}

-- where something of a list of trees stands

pick : {X Y : Type 0} (f : X → List Y) (s : X) (a b : List X) (y : Y) → Has (flat_map f (s ∷ a ++ b)) y → Has (f s) y ⊎ (Has (flat_map f a) y ⊎ Has (flat_map f b) y)
pick {X} {Y} f s a b y h = by (joined_has f (s ∷ a ++ b) y h) where
  at : (z : X) → Has a z ⊎ Has b z → Has (f z) y → Has (flat_map f a) y ⊎ Has (flat_map f b) y
  at z (inl h) own = inl (has_joined f a z y h own)
  at z (inr h) own = inr (has_joined f b z y h own)

  by : (z : X) × Has (s ∷ a ++ b) z × Has (f z) y → Has (f s) y ⊎ (Has (flat_map f a) y ⊎ Has (flat_map f b) y)
  by (z, inl same, own) = inl (subst (λ (w : X). Has (f w) y) (sym same) own)
  by (z, inr h, own) = inr (at z (has_apart a b z h) own)

pick_one : {X Y : Type 0} (f : X → List Y) (s : X) (a : List X) (y : Y) → Has (flat_map f (s ∷ a)) y → Has (f s) y ⊎ Has (flat_map f a) y
pick_one {X} {Y} f s a y h = by (joined_has f (s ∷ a) y h) where
  by : (z : X) × Has (s ∷ a) z × Has (f z) y → Has (f s) y ⊎ Has (flat_map f a) y
  by (z, inl same, own) = inl (subst (λ (w : X). Has (f w) y) (sym same) own)
  by (z, inr h, own) = inr (has_joined f a z y h own)

either : {A B C : Type 0} → A ⊎ B → (A → C) → (B → C) → C
either (inl a) f g = f a
either (inr b) f g = g b

abbrev Told : List Lexeme → Type 0
Told ks = (k : Lexeme) → Has ks k → is_spelt_lexeme k ≡ true

wide : (e : Expr) → Told (written_expr e) → LiteralsWide e
wide (valid i) told = tt
wide (truth14 b) told = tt
wide (field r) told = tt
wide (number n) told = literal_wide n (told (lexeme.Number n) (inl refl))
wide (parenthesized a) told = wide a (λ k h. told k (inr (has_left (written_expr a) _ k h)))
wide (unary_of o a) told = wide a (λ k h. told k (inr h))
wide (binary_of o a b) told = (wide a (λ k h. told k (has_left (written_expr a) _ k h)), wide b (λ k h. told k (has_right (written_expr a) _ k (inr h))))

all_wide : (s : Stmt) → Told (written_stmt s) → (e : Expr) → Has (flat_map own_conditions (subtrees s)) e → LiteralsWide e
all_wide (then14 a b) told e h =
    either (pick own_conditions (then14 a b) (subtrees a) (subtrees b) e h) (λ own. absurd own)
    (λ g. either g (λ h. all_wide a (λ k t. told k (has_left (written_stmt a) (written_stmt b) k t)) e h) (λ h. all_wide b (λ k t. told k (has_right (written_stmt a) (written_stmt b) k t)) e h))
all_wide (apply_branches n bs) told e h =
    either (pick_one own_conditions (apply_branches n bs) (subtrees bs) e h) (λ own. absurd own)
    (λ h. all_wide bs (λ k t. told k (inr (has_right (in_parens (written_name n)) (in_braces (written_stmt bs)) k (inr (has_left (written_stmt bs) _ k t))))) e h)
all_wide (if14 c a b) told e h =
    either (pick own_conditions (if14 c a b) (subtrees a) (subtrees b) e h)
    (λ own. either own
    (λ same. subst LiteralsWide same (wide c (λ k t. told k (inr (has_left (in_parens (written_expr c)) (in_braces (written_stmt a) ++ written_stmt b) k (inr (has_left (written_expr c) _ k t)))))))
    (λ none. absurd none))
    (λ g. either g
    (λ h. all_wide a (λ k t. told k (inr (has_right (in_parens (written_expr c)) (in_braces (written_stmt a) ++ written_stmt b) k (has_left (in_braces (written_stmt a)) (written_stmt b) k (inr (has_left (written_stmt a) _ k t)))))) e h)
    (λ h. all_wide b (λ k t. told k (inr (has_right (in_parens (written_expr c)) (in_braces (written_stmt a) ++ written_stmt b) k (has_right (in_braces (written_stmt a)) (written_stmt b) k t)))) e h))
all_wide (else_block a) told e h = either (pick_one own_conditions (else_block a) (subtrees a) e h) (λ own. absurd own) (λ h. all_wide a (λ k t. told k (inr (inr (has_left (written_stmt a) _ k t)))) e h)
all_wide (else_if a) told e h = either (pick_one own_conditions (else_if a) (subtrees a) e h) (λ own. absurd own) (λ h. all_wide a (λ k t. told k (inr t)) e h)
all_wide (branch a l b) told e h =
    either (pick own_conditions (branch a l b) (subtrees a) (subtrees b) e h) (λ own. absurd own)
    (λ g. either g (λ h. all_wide a (λ k t. told k (has_left (written_stmt a) _ k t)) e h) (λ h. all_wide b (λ k t. told k (has_right (written_stmt a) _ k (inr (inr (has_left (written_stmt b) _ k t))))) e h))
all_wide (apply n) told e h = either (pick_one own_conditions (apply n) [] e h) (λ own. absurd own) (λ h. absurd h)
all_wide (call14 n) told e h = either (pick_one own_conditions (call14 n) [] e h) (λ own. absurd own) (λ h. absurd h)
all_wide no_statements told e h = either (pick_one own_conditions no_statements [] e h) (λ own. absurd own) (λ h. absurd h)
all_wide no_else told e h = either (pick_one own_conditions no_else [] e h) (λ own. absurd own) (λ h. absurd h)
all_wide no_branches told e h = either (pick_one own_conditions no_branches [] e h) (λ own. absurd own) (λ h. absurd h)

module _ (ds : List Decl) (none : BreaksNone ds program_rules) (spelt : IsSpelt ds) where
  literals_wide : (d : Decl) → Has ds d → (e : Expr) → Has (conditions_in d) e → LiteralsWide e
  literals_wide (decl.Control z) there e h =
      all_wide z.body (λ k t. all_pass is_spelt_lexeme (flat_map written_decl ds) k spelt.tokens (has_joined written_decl ds (decl.Control z) k there (inr (inr (inr (has_left (written_stmt z.body) _ k t)))))) e h
  literals_wide _ there e h = absurd h

  -- C28
  none_deep : HasDeepNesting ds → ⊥
  unfolding IsBroken
  none_deep = none.1.1.1.1.1.1.1.1.1.1.1.1.1.1.1.1.1.1.1.1.1.1.1.1.1.1.1.0

  pub controls_stand : (c : Lowering) (P : Name → Type 0) → ControlsFit c.layout ds P → ControlsStand ds
  controls_stand c P fits = record {
    grammar = λ name z found. (fits name z found).is;
    literals = each_has LiteralsWide (conditions_of ds) (λ e h. let d = joined_has conditions_in ds e h in literals_wide d.0 d.1 e d.2);
    shallow = none_deep;
  }
