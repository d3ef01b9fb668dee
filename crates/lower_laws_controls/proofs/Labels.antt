-- The branch of the action that ran, and the case of its copy.
use Rattle.std.proofs.Common.{◌≡◌, Bool, true, false, not, ◌||◌, cond, List, Option, Some, None, refl, sym, ap, ap₂, ◌∙◌}
use Rattle.std.specs.Str.{bytes_eq}
use Rattle.std.proofs.lemmas.Slice.Eq.{bytes_eq-Decides}
use Rattle.p414_syntax.specs.declared.node.Label.{Label}
use Rattle.p414_syntax.specs.declared.node.Label.TheVariants as label
use Rattle.p414_syntax.specs.declared.syntax.Decl.{Decl}
use Rattle.p414_syntax.specs.Tree.{Stmt, no_statements as nothing14, then as then14, apply, apply_branches, if_then as if14, call as call14, no_else, else_block, else_if, no_branches, branch}
use Rattle.p414_syntax.specs.Names.{Name}
use Rattle.p414_sem.specs.Controls.{Applied as Applied14, names_action as names14, has_block_of, runs_block}
use Rattle.p416_syntax.specs.declared.node.CaseLabel.{CaseLabel}
use Rattle.p416_syntax.specs.declared.node.CaseLabel.TheVariants as case_label
use Rattle.v1_core.specs.Statements.{names_action as names16, is_default, has_label}
use Rattle.agreement_of_meanings.proofs.Names.{same_name, other_name}
use Rattle.lower_laws_base.specs.Context.{Words, StateLayout}
use Rattle.lower_laws_controls.specs.Controls.{Plan, at_actions}
use Rattle.lower_laws_controls.specs.Alike.{ActionsAgree, is_same_label, has_same, IsActionLabel, StatementFits}
use Rattle.lower_laws_controls.proofs.Branches.{has_taken, TakenOnce, FollowsCopy, FollowsLabel, Follows, low, labels_same}

true_name : (a b : Name) → bytes_eq a b ≡ true → a ≡ b
true_name a b e = (bytes_eq-Decides a b).0 e

split_or : (a b : Bool) → (a || b) ≡ false → (a ≡ false) × (b ≡ false)
split_or true b e = absurd (cc e)
split_or false b e = (refl, e)

abbrev Differ : (Name → Option Name) → Type 0
Differ copy = (a b text : Name) → copy a ≡ Some text → copy b ≡ Some text → a ≡ b

-- a label of P4_16 names the copy that ran where that of P4_14 names the action

names_same : (copy : Name → Option Name) → Differ copy → (act q : Option Name) → ActionsAgree copy act q → (z text : Name) → copy z ≡ Some text → names16 q (case_label.Action text) ≡ names14 act (label.Action z)
names_same copy differ None None agree z text is = refl
names_same copy differ None (Some q) agree z text is = absurd agree
names_same copy differ (Some a) None agree z text is = absurd agree
names_same copy differ (Some a) (Some q) agree z text is = by (bytes_eq text q) (bytes_eq z a) refl refl where
  by : (x y : Bool) → bytes_eq text q ≡ x → bytes_eq z a ≡ y → x ≡ y
  by true true e f = refl
  by false false e f = refl
  by true false e f =
      let same : z ≡ a = differ z a text is (agree ∙ ap Some (sym (true_name text q e))) in
      absurd (cc (f, same_name a, same))
  by false true e f =
      let same : Some text ≡ Some q = sym is ∙ ap copy (true_name z a f) ∙ agree in
      absurd (cc (e, same_name q, same))

names_none : (copy : Name → Option Name) (act q : Option Name) → ActionsAgree copy act q → (z : Name) → copy z ≡ None → names14 act (label.Action z) ≡ false
names_none copy None q agree z is = refl
names_none copy (Some a) None agree z is = absurd agree
names_none copy (Some a) (Some q) agree z is = other_name z a (λ same. absurd (cc (is, agree, same)))

names_default : (q : Option Name) → names16 q case_label.Default ≡ false
names_default None = refl
names_default (Some q) = refl

default_names : (act : Option Name) → names14 act label.Default ≡ false
default_names None = refl
default_names (Some q) = refl

module _ (w : Words) (ds : List Decl) (k : Plan) (t : Name) (differ : Differ (k.copy t)) (a : Applied14) (q : Option Name) (agree : ActionsAgree (k.copy t) a.action q) (g : StateLayout) (P : Name → Type 0) where
  abbrev Fit : Stmt → Type 0
  Fit x = StatementFits g ds P (at_actions t) x

  -- whether some branch is named

  follows_names : (x : Stmt) → Fit x → Follows (k.copy t) (names14 a.action) (names16 q) x
  follows_names (branch before l body) fits = (by l fits.0.0, follows_names before fits.1) where
    copied : (z : Name) (o : Option Name) → k.copy t z ≡ o → FollowsCopy o (names14 a.action (label.Action z)) (names16 q)
    copied z (Some text) e = names_same (k.copy t) differ a.action q agree z text e
    copied z None e = names_none (k.copy t) a.action q agree z e

    by : (l : Label) → IsActionLabel l → FollowsLabel (k.copy t) (names14 a.action) (names16 q) l
    by label.Hit is = absurd is
    by label.Miss is = absurd is
    by label.Default is = names_default q ∙ sym (default_names a.action)
    by (label.Action z) is = copied z (k.copy t z) refl
  follows_names no_branches fits = tt
  follows_names nothing14 fits = absurd fits
  follows_names (then14 b d) fits = absurd fits.0
  follows_names (apply b) fits = absurd fits.0
  follows_names (apply_branches b d) fits = absurd fits.0
  follows_names (if14 e b d) fits = absurd fits.0
  follows_names (call14 b) fits = absurd fits
  follows_names no_else fits = absurd fits
  follows_names (else_block b) fits = absurd fits.0
  follows_names (else_if b) fits = absurd fits.0

  block_of : (act : Option Name) (x : Stmt) → Fit x → has_taken (names14 act) x ≡ has_block_of act x
  block_of act (branch before l body) fits = ap (λ b. names14 act l || b) (block_of act before fits.1)
  block_of act no_branches fits = refl
  block_of act nothing14 fits = absurd fits
  block_of act (then14 b d) fits = absurd fits.0
  block_of act (apply b) fits = absurd fits.0
  block_of act (apply_branches b d) fits = absurd fits.0
  block_of act (if14 e b d) fits = absurd fits.0
  block_of act (call14 b) fits = absurd fits
  block_of act no_else fits = absurd fits
  block_of act (else_block b) fits = absurd fits.0
  block_of act (else_if b) fits = absurd fits.0

  pub named_same : (x : Stmt) → Fit x → has_label (names16 q) (low w ds k t x) ≡ has_block_of a.action x
  named_same x fits = labels_same w ds k t g P (names14 a.action) (names16 q) x fits (follows_names x fits) ∙ block_of a.action x fits

  -- branches among those of the statement

  module _ (named : Bool) where
    abbrev Among : Stmt → Type 0
    Among x = named ≡ false → has_block_of a.action x ≡ false

    among_before : (l : Label) (before body : Stmt) → Among (branch before l body) → Among before
    among_before l before body among e = (split_or (names14 a.action l) (has_block_of a.action before) (among e)).1

    pub follows : (cases : CaseLabel → Bool) → ((l : CaseLabel) → cases l ≡ cond named (names16 q l) (is_default l)) → (x : Stmt) → Fit x → Among x → Follows (k.copy t) (runs_block a named) cases x
    follows cases is (branch before l body) fits among = (by l fits.0.0 (λ e. (split_or (names14 a.action l) (has_block_of a.action before) (among e)).0), follows cases is before fits.1 (among_before l before body among)) where
      chosen : (z text : Name) → k.copy t z ≡ Some text → (b : Bool) → (b ≡ false → names14 a.action (label.Action z) ≡ false) → cond b (names16 q (case_label.Action text)) false ≡ names14 a.action (label.Action z)
      chosen z text e true free = names_same (k.copy t) differ a.action q agree z text e
      chosen z text e false free = sym (free refl)

      copied : (z : Name) → (named ≡ false → names14 a.action (label.Action z) ≡ false) → (o : Option Name) → k.copy t z ≡ o → FollowsCopy o (names14 a.action (label.Action z)) cases
      copied z free (Some text) e = is (case_label.Action text) ∙ chosen z text e named free
      copied z free None e = names_none (k.copy t) a.action q agree z e

      others : (b : Bool) → cond b (names16 q case_label.Default) true ≡ not b
      others true = names_default q
      others false = refl

      by : (l : Label) → IsActionLabel l → (named ≡ false → names14 a.action l ≡ false) → FollowsLabel (k.copy t) (runs_block a named) cases l
      by label.Hit ok free = absurd ok
      by label.Miss ok free = absurd ok
      by label.Default ok free = is case_label.Default ∙ others named
      by (label.Action z) ok free = copied z free (k.copy t z) refl
    follows cases is no_branches fits among = tt
    follows cases is nothing14 fits among = absurd fits
    follows cases is (then14 b d) fits among = absurd fits.0
    follows cases is (apply b) fits among = absurd fits.0
    follows cases is (apply_branches b d) fits among = absurd fits.0
    follows cases is (if14 e b d) fits among = absurd fits.0
    follows cases is (call14 b) fits among = absurd fits
    follows cases is no_else fits among = absurd fits
    follows cases is (else_block b) fits among = absurd fits.0
    follows cases is (else_if b) fits among = absurd fits.0

    -- the other labels, where this one is taken

    untaken_default : (x : Stmt) → Fit x → named ≡ false → has_block_of a.action x ≡ false → has_same label.Default x ≡ false → has_taken (runs_block a named) x ≡ false
    untaken_default (branch before l body) fits off none apart =
        let n = split_or (names14 a.action l) (has_block_of a.action before) none in
        let s = split_or (is_same_label label.Default l) (has_same label.Default before) apart in
        ap₂ (λ (b d : Bool). b || d) (by l fits.0.0 n.0 s.0) (untaken_default before fits.1 off n.1 s.1)
      where
        by : (l : Label) → IsActionLabel l → names14 a.action l ≡ false → is_same_label label.Default l ≡ false → runs_block a named l ≡ false
        by label.Hit ok n s = absurd ok
        by label.Miss ok n s = absurd ok
        by label.Default ok n s = absurd (cc s)
        by (label.Action z) ok n s = n
    untaken_default no_branches fits off none apart = refl
    untaken_default nothing14 fits off none apart = absurd fits
    untaken_default (then14 b d) fits off none apart = absurd fits.0
    untaken_default (apply b) fits off none apart = absurd fits.0
    untaken_default (apply_branches b d) fits off none apart = absurd fits.0
    untaken_default (if14 e b d) fits off none apart = absurd fits.0
    untaken_default (call14 b) fits off none apart = absurd fits
    untaken_default no_else fits off none apart = absurd fits
    untaken_default (else_block b) fits off none apart = absurd fits.0
    untaken_default (else_if b) fits off none apart = absurd fits.0

    untaken_action : (z : Name) (x : Stmt) → Fit x → named ≡ true → names14 a.action (label.Action z) ≡ true → has_same (label.Action z) x ≡ false → has_taken (runs_block a named) x ≡ false
    untaken_action z (branch before l body) fits on names apart =
        let s = split_or (is_same_label (label.Action z) l) (has_same (label.Action z) before) apart in
        ap₂ (λ (b d : Bool). b || d) (by l fits.0.0 s.0) (untaken_action z before fits.1 on names s.1)
      where
        other : (act : Option Name) (y : Name) → names14 act (label.Action z) ≡ true → bytes_eq z y ≡ false → names14 act (label.Action y) ≡ false
        other None y n s = refl
        other (Some r) y n s = other_name y r (λ same. absurd (cc (s, true_name z r n, same, same_name z)))

        by : (l : Label) → IsActionLabel l → is_same_label (label.Action z) l ≡ false → runs_block a named l ≡ false
        by label.Hit ok s = absurd ok
        by label.Miss ok s = absurd ok
        by label.Default ok s = ap not on
        by (label.Action y) ok s = other a.action y names s
    untaken_action z no_branches fits on names apart = refl
    untaken_action z nothing14 fits on names apart = absurd fits
    untaken_action z (then14 b d) fits on names apart = absurd fits.0
    untaken_action z (apply b) fits on names apart = absurd fits.0
    untaken_action z (apply_branches b d) fits on names apart = absurd fits.0
    untaken_action z (if14 e b d) fits on names apart = absurd fits.0
    untaken_action z (call14 b) fits on names apart = absurd fits
    untaken_action z no_else fits on names apart = absurd fits
    untaken_action z (else_block b) fits on names apart = absurd fits.0
    untaken_action z (else_if b) fits on names apart = absurd fits.0

    pub once : (x : Stmt) → Fit x → Among x → TakenOnce (runs_block a named) x
    once (branch before l body) fits among = (by l fits.0.0 fits.0.1 (λ e. (split_or (names14 a.action l) (has_block_of a.action before) (among e)).0), once before fits.1 (among_before l before body among)) where
      lit : (b : Bool) → not b ≡ true → b ≡ false
      lit true e = absurd (cc e)
      lit false e = refl

      on : (b d : Bool) → (b ≡ false → d ≡ false) → d ≡ true → b ≡ true
      on true d free e = refl
      on false d free e = absurd (cc (free refl, e))

      by : (l : Label) → IsActionLabel l → has_same l before ≡ false → (named ≡ false → names14 a.action l ≡ false) → runs_block a named l ≡ true → has_taken (runs_block a named) before ≡ false
      by label.Hit ok apart free e = absurd ok
      by label.Miss ok apart free e = absurd ok
      by label.Default ok apart free e = untaken_default before fits.1 (lit named e) (among_before l before body among (lit named e)) apart
      by (label.Action z) ok apart free e = untaken_action z before fits.1 (on named (names14 a.action (label.Action z)) free e) e apart
    once no_branches fits among = tt
    once nothing14 fits among = absurd fits
    once (then14 b d) fits among = absurd fits.0
    once (apply b) fits among = absurd fits.0
    once (apply_branches b d) fits among = absurd fits.0
    once (if14 e b d) fits among = absurd fits.0
    once (call14 b) fits among = absurd fits
    once no_else fits among = absurd fits
    once (else_block b) fits among = absurd fits.0
    once (else_if b) fits among = absurd fits.0
