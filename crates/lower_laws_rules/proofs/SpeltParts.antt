-- Places, fields and sources are spelt where the names that are written are.
use Rattle.std.proofs.Common.{◌≡◌, ◌⊎◌, inl, inr, leb, eqb, ℕ, suc, ◌<◌, ◌≤◌, ◌^◌, Bool, true, false, cond, length, Option, Some, None, refl, arith}
use Rattle.std.specs.Prelude.{nat_lt, nat_le}
use Rattle.std.proofs.lemmas.Bool.{false≢true}
use Rattle.std.proofs.lemmas.Bool.Decides.{leb_tells}
use Rattle.std.proofs.Math.Nat.{pow-le-pow_right}
use Rattle.p414_sem.specs.Wholes.{wrapped}
use Rattle.p414_sem.specs.Slots.{Slot, standard, declared}
use Rattle.p414_sem.specs.Operations.{Source, number, field, parameter}
use Rattle.p414_sem.specs.declared.standard.Standard.{Standard}
use Rattle.p414_sem.specs.declared.standard.Standard.TheVariants.{IngressPort, EgressSpec, EgressPort, PacketLength, InstanceType}
use Rattle.p416_syntax.specs.declared.keyword.Keyword16.{Keyword16}
use Rattle.p416_syntax.specs.declared.node.CastType.TheVariants as cast_to
use Rattle.p416_syntax.specs.Tree.{Exp16, listed, name, cast}
use Rattle.p416_syntax.specs.Tokens.{is_spelt_seen, seen_as, keyword_among}
use Rattle.p416_syntax.specs.Keywords.{all_keywords16}
use Rattle.p416_syntax.specs.Names.{Name}
use Rattle.agreement_of_meanings.specs.Shown.{Shown, as_header, as_stack, as_metadata, name_of, fields_of, field_at, shown_at, standard_word}
use Rattle.lower_laws_base.specs.Context.{Words, At}
use Rattle.lower_laws_base.specs.Mirror.{plain, sized, instance_exp, element_exp, slot_exp, width_in, resized, source_exp}
use Rattle.lower_laws_base.proofs.Wrap.{wrap_below}
use Rattle.lower_laws_rules.specs.Spelling.{one, SpeltAt, SpeltNumber, SpeltName, SpeltWord, SpeltExp, SpeltNames}
use Rattle.lower_laws_rules.proofs.Lists.{both_true}

-- numbers

less : (a b : ℕ) → a < b → nat_lt a b ≡ true
less a b lt = by (leb_tells (suc a) b) where
  by : ((leb (suc a) b ≡ true) × (suc a ≤ b)) ⊎ ((leb (suc a) b ≡ false) × (b < suc a)) → leb (suc a) b ≡ true
  by (inl is) = is.0
  by (inr past) = absurd (omega (arith, past.1, lt))

at_most : (a b : ℕ) → a ≤ b → nat_le a b ≡ true
at_most a b le = by (leb_tells a b) where
  by : ((leb a b ≡ true) × (a ≤ b)) ⊎ ((leb a b ≡ false) × (b < a)) → leb a b ≡ true
  by (inl is) = is.0
  by (inr past) = absurd (omega (arith, past.1, le))

pub plain_spelt : (n : ℕ) → n < 2 ^ 128 → SpeltNumber (plain n)
plain_spelt n small = less n (2 ^ 128) small

pub sized_spelt : (width n : ℕ) → 0 < width → width ≤ 128 → n < 2 ^ width → SpeltNumber (sized width n)
sized_spelt width n some most fits =
    let wide : 2 ^ width ≤ 2 ^ 128 = pow-le-pow_right (omega arith) most in
    both_true _ _ (both_true _ _ (at_most 1 width (omega (arith, some))) (at_most width 128 most)) (less n (2 ^ 128) (below n (2 ^ width) (2 ^ 128) fits wide)) where
      below : (a b d : ℕ) → a < b → b ≤ d → a < d
      below a b d lt le = omega (arith, lt, le)

-- a name may stand behind a dot
pub word_spelt : (text : Name) → SpeltName text → SpeltWord text
word_spelt text is = by (keyword_among text all_keywords16) where
  by : (o : Option Keyword16) → is_spelt_seen (seen_as text o) ≡ true
  by None = is
  by (Some word) = refl

standard_spelt : (which : Standard) → SpeltWord (standard_word which)
standard_spelt IngressPort = refl
standard_spelt EgressSpec = refl
standard_spelt EgressPort = refl
standard_spelt PacketLength = refl
standard_spelt InstanceType = refl

pub resized_spelt : (own width : ℕ) (e : Exp16) → 0 < width → width ≤ 128 → SpeltExp e → SpeltExp (resized own width e)
resized_spelt own width e some most is = by (eqb own width) where
  by : (b : Bool) → SpeltExp (cond b e (cast (cast_to.Bit (plain width)) e))
  by true = is
  by false = (plain_spelt width (omega (arith, most)), is)

-- an expression may be an argument, where a list in braces may stand too
pub as_argument : (e : Exp16) → SpeltExp e → SpeltAt (one true) e
as_argument (listed items) is = absurd (false≢true is.0)
as_argument e is = is

-- parts of the packet and sources

module _ (w : Words) (at : At) (words : SpeltNames w at) where
  part_spelt : (x : Shown) (e : ℕ) → SpeltName (name_of x) → e < 2 ^ 128 → SpeltExp (element_exp w at x e)
  part_spelt (as_header called fields) e is small = (words.roots.0, word_spelt called is)
  part_spelt (as_stack called fields) e is small = ((words.roots.0, word_spelt called is), plain_spelt e small)
  part_spelt (as_metadata called fields) e is small = (words.roots.1, word_spelt called is)

  pub instance_spelt : (x : Shown) → SpeltName (name_of x) → SpeltExp (instance_exp w at x)
  instance_spelt (as_header called fields) is = (words.roots.0, word_spelt called is)
  instance_spelt (as_stack called fields) is = (words.roots.0, word_spelt called is)
  instance_spelt (as_metadata called fields) is = (words.roots.1, word_spelt called is)

  pub element_spelt : (i e : ℕ) → i < length w.names.instances → e < 2 ^ 128 → SpeltExp (element_exp w at (shown_at w.names.instances i) e)
  element_spelt i e lt small = part_spelt (shown_at w.names.instances i) e (words.instances i lt) small

  abbrev InWords : Slot → Type 0
  InWords (standard which) = Unit {0}
  InWords (declared i e k) = (i < length w.names.instances) × (e < 2 ^ 128) × (k < length (fields_of (shown_at w.names.instances i)))

  pub slot_spelt : (slot : Slot) → InWords slot → SpeltExp (slot_exp w at slot)
  slot_spelt (standard which) is = (words.roots.2, standard_spelt which)
  slot_spelt (declared i e k) is = (element_spelt i e is.0 is.1, word_spelt (field_at (fields_of (shown_at w.names.instances i)) k).called (words.fields i k is.0 is.2))

  abbrev SourceInWords : Source → Type 0
  SourceInWords (number z) = Unit {0}
  SourceInWords (field slot) = InWords slot
  SourceInWords (parameter j) = j < length w.parameters

  pub source_spelt : (width : ℕ) (a : Source) → 0 < width → width ≤ 128 → SourceInWords a → SpeltExp (source_exp w at width a)
  source_spelt width (number z) some most is = sized_spelt width (wrapped width z) some most (wrap_below width z)
  source_spelt width (field slot) some most is = resized_spelt (width_in w slot) width (slot_exp w at slot) some most (slot_spelt slot is)
  source_spelt width (parameter j) some most is = resized_spelt (field_at w.parameters j).width width (name (field_at w.parameters j).called) some most (words.parameters j is)
