-- Places of values, all together.
use Rattle.std.proofs.Common.{◌≡◌, ◌≢◌, ◌⊎◌, inl, inr, leb, eqb, ℕ, suc, ◌<◌, ◌≤◌, Bool, true, false, ◌||◌, ◌&&◌, Option, None, refl, sym, ap, ◌∙◌, subst, arith}
use Rattle.std.specs.Prelude.{not, nat_eq, nat_lt, nat_le, is_none}
use Rattle.std.proofs.lemmas.Bool.Decides.{leb_tells, eqb_tells}
use Rattle.std.proofs.lemmas.Bool.{false≢true}
use Rattle.p416_syntax.specs.Tree.{Exp16, no_arguments}
use Rattle.p416_syntax.specs.Names.{Name}
use Rattle.p416_syntax.specs.Kinds.{Kind, bits, boolean, is_plain}
use Rattle.p416_syntax.specs.Scopes.{Scope, a_value}
use Rattle.p416_syntax.specs.Calls.{Place, value, any_bits, callee, literal_of, any_literal, owner, Signature}
use Rattle.p416_syntax.specs.Expressions.{kind_of, can_write, member_kind}
use Rattle.p416_syntax.specs.Uses.{an_expression, owner_place}
use Rattle.p416_syntax.specs.Unknown.{is_unknown_expression, fits_place, is_unknown_member}
use Rattle.p416_syntax.specs.Sizes.{leaves_in}
use Rattle.p416_syntax.specs.Types.{takes}
use Rattle.p416_syntax.specs.Literals.{overflows}
use Rattle.p416_syntax.specs.Writes.{is_written_place}
use Rattle.p416_syntax.specs.Arguments.{is_miscounted_call}
use Rattle.p416_syntax.specs.Applications.{applies_nothing, is_application, called_name}
use Rattle.p416_syntax.specs.Tables.{is_counted_outside}
use Rattle.p416_syntax.specs.Externs.{is_misplaced_expression}
use Rattle.lower_laws_rules.specs.Keeping.{Fine, is_open, Asks, Sound, Sits}
use Rattle.lower_laws_rules.proofs.Lists.{both_false}

-- numbers

pub not_less : (a b : ℕ) → b ≤ a → nat_lt a b ≡ false
not_less a b le = by (leb_tells (suc a) b) where
  by : ((leb (suc a) b ≡ true) × (suc a ≤ b)) ⊎ ((leb (suc a) b ≡ false) × (b < suc a)) → leb (suc a) b ≡ false
  by (inl more) = absurd (omega (arith, more.1, le))
  by (inr less) = less.0

pub beyond : (a b : ℕ) → b < a → nat_le a b ≡ false
beyond a b lt = by (leb_tells a b) where
  by : ((leb a b ≡ true) × (a ≤ b)) ⊎ ((leb a b ≡ false) × (b < a)) → leb a b ≡ false
  by (inl more) = absurd (omega (arith, more.1, lt))
  by (inr less) = less.0

pub itself : (a : ℕ) → nat_eq a a ≡ true
itself a = by (eqb_tells a a) where
  by : ((eqb a a ≡ true) × (a ≡ a)) ⊎ ((eqb a a ≡ false) × (a ≢ a)) → eqb a a ≡ true
  by (inl same) = same.0
  by (inr other) = absurd (other.1 refl)

pub never : {A : Type 0} → false ≡ true → A
never e = absurd (false≢true e)

-- what places of values have in common
pub record Opened (p : Place) : Type 0 where
  pub of_any : (e : Exp16) (k : Kind) → takes p e k ≡ takes p no_arguments k
  pub of_value : (k : Kind) (can : Bool) → fits_place p (a_value k can) ≡ true
  pub of_member : (s : Scope) (e : Exp16) (word : Name) → is_unknown_member s p e word ≡ (is_none (member_kind s.layouts (kind_of s e) word) && not (is_plain (kind_of s e)))
  pub owned : (g : Option Signature) → owner_place p g ≡ owner
  pub uncounted : (s : Scope) (e : Exp16) → is_counted_outside s p e ≡ false
  pub uncalled : (s : Scope) (e : Exp16) → called_name s p e ≡ None

pub opened : (p : Place) → is_open p ≡ true → Opened p
opened callee is = never is
opened (literal_of k) is = never is
opened any_literal is = never is
opened p is = record { of_any = λ e k. refl; of_value = λ k can. refl; of_member = λ s e word. refl; owned = λ g. refl; uncounted = λ s e. refl; uncalled = λ s e. refl }

written_well : (w can is : Bool) → (can ≡ true → is ≡ true) → w && not can ≡ false → w && not is ≡ false
written_well false can is so e = refl
written_well true true is so e = ap not (so refl)
written_well true false is so e = absurd (false≢true (sym e))

-- what an expression at a place of values is itself judged by
pub value_fine : (s : Scope) (p : Place) (e : Exp16) (k : Kind) (can : Bool) → Asks p k can → kind_of s e ≡ k → (can ≡ true → can_write s e ≡ true) → is_unknown_expression s p e ≡ false → leaves_in s e ≡ false → overflows (an_expression s p e) ≡ false → is_miscounted_call s e ≡ false → applies_nothing s.part && is_application s e ≡ false → is_misplaced_expression s e ≡ false → Fine (an_expression s p e)
value_fine s p e k can asks kind writes known size fits count applied place =
    let o = opened p asks.opens in
    record {
      t1 = known;
      t2 = size;
      t3 = ap (λ (z : Kind). not (takes p e z)) kind ∙ ap not (o.of_any e k ∙ asks.takes_it);
      t4 = fits;
      t5 = written_well (is_written_place p) can (can_write s e) writes asks.writes;
      t6 = count;
      t8 = applied;
      t9 = o.uncounted s e;
      t10 = place;
      calls = o.uncalled s e;
    }

-- no table is applied
pub unapplied : (s : Scope) → applies_nothing s.part && false ≡ false
unapplied s = both_false (applies_nothing s.part) false refl

-- places

pub asks_value : (width : ℕ) (can : Bool) → Asks (value (bits width)) (bits width) can
asks_value width can = record { opens = refl; takes_it = ap (λ t. t || false) (itself width); writes = refl }

pub asks_any : (width : ℕ) (can : Bool) → Asks any_bits (bits width) can
asks_any width can = record { opens = refl; takes_it = refl; writes = refl }

pub asks_truth : (can : Bool) → Asks (value boolean) boolean can
asks_truth can = record { opens = refl; takes_it = refl; writes = refl }

pub sits : {s : Scope} {e : Exp16} {k : Kind} {can : Bool} {d : ℕ} → Sound s e k can d → (p : Place) → Asks p k can → Sits s p e d
sits x p asks = record { depths = x.depths; keeps = x.keeps p asks }

-- it may nest deeper, and not be written

pub sits_deeper : {s : Scope} {p : Place} {e : Exp16} {d : ℕ} (n : ℕ) → d ≤ n → Sits s p e d → Sits s p e n
sits_deeper n le x = record { depths = let small = x.depths in omega (arith, small, le); keeps = x.keeps }

pub deeper : {s : Scope} {e : Exp16} {k : Kind} {can : Bool} {d : ℕ} (n : ℕ) → d ≤ n → Sound s e k can d → Sound s e k can n
deeper n le x = record { kind = x.kind; writes = x.writes; depths = let small = x.depths in omega (arith, small, le); keeps = x.keeps }

pub read_only : {s : Scope} {e : Exp16} {k : Kind} {can : Bool} {d : ℕ} → Sound s e k can d → Sound s e k false d
read_only {can = can} x = record {
  kind = x.kind;
  writes = never;
  depths = x.depths;
  keeps = λ p asks. x.keeps p (record { opens = asks.opens; takes_it = asks.takes_it; writes = less (is_written_place p) can asks.writes });
} where
  less : (w b : Bool) → w && true ≡ false → w && not b ≡ false
  less false b e = refl
  less true b e = absurd (false≢true (sym e))

pub writable : {s : Scope} {e : Exp16} {k : Kind} {can : Bool} {d : ℕ} → can ≡ true → Sound s e k can d → Sound s e k true d
writable {s} {e} {k} {can} {d} is x = subst (λ b. Sound s e k b d) is x
