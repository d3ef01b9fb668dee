-- Variables of primitives, and statements one behind another.
use Rattle.std.proofs.Common.{◌≡◌, ◌≢◌, ℕ, suc, ◌≤◌, true, false, cond, List, [], ◌∷◌, ◌++◌, refl, sym, ap, ◌∙◌, subst, arith}
use Rattle.std.specs.List.{AllByRecursion}
use Rattle.p416_syntax.specs.declared.parts.Type16.TheVariants.{Bit}
use Rattle.p416_syntax.specs.Tree.{Stmt16, then, name}
use Rattle.p416_syntax.specs.Names.{Name, has_name}
use Rattle.p416_syntax.specs.Kinds.{bits}
use Rattle.p416_syntax.specs.Scopes.{Scope, a_value, sort_in}
use Rattle.p416_syntax.specs.Statements.{with_variable}
use Rattle.lower_laws_base.specs.Context.{Local, Lowering, Sees, IsFresh}
use Rattle.lower_laws_base.specs.Mirror.{plain}
use Rattle.lower_laws_base.proofs.Running.{sees_more}
use Rattle.lower_laws_actions.specs.Mirror.{behind_stmts}
use Rattle.lower_laws_actions.proofs.Lists.{Free, free_later}
use Rattle.lower_laws_rules.specs.Keeping.{Sound, Part}
use Rattle.lower_laws_rules.specs.Standing.{Among, HasParameters}
use Rattle.lower_laws_rules.proofs.Found.{is_itself}
use Rattle.lower_laws_rules.proofs.Names.{none_of, once_behind}
use Rattle.lower_laws_rules.proofs.Sound.{sound_name}
use Rattle.lower_laws_rules.proofs.Parts.{part_then, nests_deeper}
use Rattle.lower_laws_rules.specs.Acting.{Steps, Declared}

-- what is known where statements of an action stand
pub record Around (c : Lowering) (positions : List ℕ) (s : Scope) (ls : List Local) (b d : ℕ) : Type 0 where
  pub sees : Sees c s ls
  pub given : HasParameters c ls
  pub free : Free c ls b d
  pub at : s.positions ≡ positions

pub among_more : {ls : List Local} {l : Local} (x : Local) → Among ls l → Among (x ∷ ls) l
among_more x a = record { place = suc a.place; within = let lt = a.within in omega (arith, lt); stands = a.stands }

abbrev pub bits_local : Name → ℕ → Local
bits_local called width = record { called = called; kind = bits width }

pub around_more : {c : Lowering} {positions : List ℕ} {s : Scope} {ls : List Local} {b d e f : ℕ} (width : ℕ) (called : Name) → Around c positions s ls b d → IsFresh c ls called → Free c (bits_local called width ∷ ls) e f → Around c positions (with_variable (Bit (plain width)) called s) (bits_local called width ∷ ls) e f
around_more {c} {s = s} {ls} width called a fresh free = record {
  sees = sees_more c s ls a.sees (Bit (plain width)) called fresh;
  given = λ j lt. among_more (bits_local called width) (a.given j lt);
  free = free;
  at = a.at;
}

pub sound_variable : (s : Scope) (width : ℕ) (called : Name) → Sound (with_variable (Bit (plain width)) called s) (name called) (bits width) true 1
sound_variable s width called = sound_name (with_variable (Bit (plain width)) called s) called (bits width) true (ap (λ b. cond b (a_value (bits width) true) (sort_in s.names called)) (is_itself called))

-- statements one behind another

none_behind : (xs : List Name) → xs ++ [] ≡ xs
none_behind [] = refl
none_behind (x ∷ xs) = ap (λ (zs : List Name). x ∷ zs) (none_behind xs)

grouped : (xs ys zs : List Name) → (xs ++ ys) ++ zs ≡ xs ++ (ys ++ zs)
grouped [] ys zs = refl
grouped (x ∷ xs) ys zs = ap (λ (ws : List Name). x ∷ ws) (grouped xs ys zs)

pub one_step : {s t : Scope} {names : List Name} {y : Stmt16} → Part s t names 0 y → Steps s (y ∷ []) t names
one_step {t = t} {names} p = (t, names, [], nests_deeper 1 (omega arith) p, (refl, refl), sym (none_behind names))

pub steps_behind : (s t u : Scope) (ys zs : List Stmt16) (a b : List Name) → Steps s ys t a → Steps t zs u b → Steps s (ys ++ zs) u (a ++ b)
steps_behind s t u [] zs a b first more = subst (λ r. Steps r zs u (a ++ b)) (sym first.0) (subst (λ (ns : List Name). Steps t zs u (ns ++ b)) (sym first.1) more)
steps_behind s t u (y ∷ ys) zs a b first more =
    (first.0, first.1, first.2 ++ b, first.3, steps_behind first.0 t u ys zs first.2 b first.4 more, ap (λ (ns : List Name). ns ++ b) first.5 ∙ grouped first.1 first.2 b)

pub part_steps : (r s t : Scope) (x : Stmt16) (ys : List Stmt16) (a b : List Name) → Part r s a 1 x → Steps s ys t b → Part r t (a ++ b) 1 (behind_stmts x ys)
part_steps r s t x [] a b p steps = subst (λ (z : Scope). Part r z (a ++ b) 1 x) steps.0 (subst (λ (ns : List Name). Part r s ns 1 x) (sym (ap (λ (ns : List Name). a ++ ns) steps.1 ∙ none_behind a)) p)
part_steps r s t x (y ∷ ys) a b p steps =
    subst (λ (ns : List Name). Part r t ns 1 (behind_stmts ((then) x y) ys)) (grouped a steps.1 steps.2 ∙ ap (λ (ns : List Name). a ++ ns) (sym steps.5))
    (part_steps r steps.0 t ((then) x y) ys (a ++ steps.1) steps.2 (part_then p steps.3) steps.4)

-- names that are declared

pub none_declared : {c : Lowering} {P : ℕ → ℕ → Type 0} → Declared c [] P
none_declared = record { once = refl; each = tt }

pub one_declared : {c : Lowering} {P : ℕ → ℕ → Type 0} (a i : ℕ) → P a i → Declared c (c.spare a i ∷ []) P
one_declared a i p = record { once = refl; each = ((a, i, refl, p), tt) }

pub wider : {c : Lowering} {names : List Name} {P Q : ℕ → ℕ → Type 0} → ((a i : ℕ) → P a i → Q a i) → Declared c names P → Declared c names Q
wider {c} {names} {P} {Q} more d = record { once = d.once; each = by names d.each } where
  by : (xs : List Name) → AllByRecursion (λ x. (a : ℕ) × (i : ℕ) × (x ≡ c.spare a i) × P a i) xs → AllByRecursion (λ x. (a : ℕ) × (i : ℕ) × (x ≡ c.spare a i) × Q a i) xs
  by [] all = tt
  by (x ∷ xs) all = ((all.0.0, all.0.1, all.0.2, more all.0.0 all.0.1 all.0.3), by xs all.1)

pub declared_behind : {c : Lowering} {xs ys : List Name} {P Q R : ℕ → ℕ → Type 0} → ((a i e j : ℕ) → c.spare a i ≡ c.spare e j → (a ≡ e) × (i ≡ j)) → ((a i : ℕ) → P a i → Q a i → ⊥) → ((a i : ℕ) → P a i → R a i) → ((a i : ℕ) → Q a i → R a i) → Declared c xs P → Declared c ys Q → Declared c (xs ++ ys) R
declared_behind {c} {xs} {ys} {P} {Q} {R} differ apart p q x y = record {
  once = once_behind xs ys x.once y.once (by xs x.each);
  each = both xs (wider p x).each;
} where
  others : (text : Name) (a i : ℕ) → text ≡ c.spare a i → P a i → (zs : List Name) → AllByRecursion (λ z. (e : ℕ) × (j : ℕ) × (z ≡ c.spare e j) × Q e j) zs → AllByRecursion (λ z. text ≢ z) zs
  others text a i is of [] all = tt
  others text a i is of (z ∷ zs) all =
      (λ same. let s = differ a i all.0.0 all.0.1 (sym is ∙ same ∙ all.0.2) in apart a i of (subst (λ k. Q k i) (sym s.0) (subst (λ k. Q all.0.0 k) (sym s.1) all.0.3)), others text a i is of zs all.1)

  by : (zs : List Name) → AllByRecursion (λ z. (a : ℕ) × (i : ℕ) × (z ≡ c.spare a i) × P a i) zs → AllByRecursion (λ z. has_name ys z ≡ false) zs
  by [] all = tt
  by (z ∷ zs) all = (none_of z ys (others z all.0.0 all.0.1 all.0.2 all.0.3 ys y.each), by zs all.1)

  both : (zs : List Name) → AllByRecursion (λ z. (a : ℕ) × (i : ℕ) × (z ≡ c.spare a i) × R a i) zs → AllByRecursion (λ z. (a : ℕ) × (i : ℕ) × (z ≡ c.spare a i) × R a i) (zs ++ ys)
  both [] all = (wider q y).each
  both (z ∷ zs) all = (all.0, both zs all.1)

-- what statements leave
pub record Went (c : Lowering) (positions : List ℕ) (s : Scope) (ls : List Local) (b d : ℕ) (ys : List Stmt16) (P : ℕ → ℕ → Type 0) : Type 0 where
  pub scope : Scope
  pub locals : List Local
  pub names : List Name
  pub steps : Steps s ys scope names
  pub around : Around c positions scope locals b d
  pub declared : Declared c names P
  pub keeps : (l : Local) → Among ls l → Among locals l

-- nothing is declared
pub went_one : {c : Lowering} {positions : List ℕ} {s : Scope} {ls : List Local} {b d : ℕ} {y : Stmt16} {P : ℕ → ℕ → Type 0} → Around c positions s ls b d → Part s s [] 1 y → Went c positions s ls b d (y ∷ []) P
went_one {s = s} {ls} a p = record { scope = s; locals = ls; names = []; steps = (s, [], [], p, (refl, refl), refl); around = a; declared = none_declared; keeps = λ l among. among }

pub went_none : {c : Lowering} {positions : List ℕ} {s : Scope} {ls : List Local} {b d : ℕ} {P : ℕ → ℕ → Type 0} → Around c positions s ls b d → Went c positions s ls b d [] P
went_none {s = s} {ls} a = record { scope = s; locals = ls; names = []; steps = (refl, refl); around = a; declared = none_declared; keeps = λ l among. among }

abbrev pub went_behind : {c : Lowering} {positions : List ℕ} {s : Scope} {ls : List Local} {b d e f : ℕ} {ys zs : List Stmt16} {P Q R : ℕ → ℕ → Type 0} → ((a i : ℕ) → P a i → Q a i → ⊥) → ((a i : ℕ) → P a i → R a i) → ((a i : ℕ) → Q a i → R a i) → (first : Went c positions s ls b d ys P) → Went c positions first.scope first.locals e f zs Q → Went c positions s ls e f (ys ++ zs) R
went_behind {s = s} {ys = ys} {zs} apart p q first more = record {
  scope = more.scope;
  locals = more.locals;
  names = first.names ++ more.names;
  steps = steps_behind s first.scope more.scope ys zs first.names more.names first.steps more.steps;
  around = more.around;
  declared = declared_behind first.around.free.differ apart p q first.declared more.declared;
  keeps = λ l among. more.keeps l (first.keeps l among);
}

pub later : {c : Lowering} {positions : List ℕ} {s : Scope} {ls : List Local} {b d : ℕ} (e f : ℕ) → b ≤ e → d ≤ f → Around c positions s ls b d → Around c positions s ls e f
later {c} {ls = ls} {b} {d} e f le lt a = record { sees = a.sees; given = a.given; free = free_later c ls b d e f le lt a.free; at = a.at }
