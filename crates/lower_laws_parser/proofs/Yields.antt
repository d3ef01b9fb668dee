-- Values of a parser: numbers, or none where the packet is too short.
use Rattle.std.proofs.Common.{◌≡◌, ◌≢◌, ◌⊎◌, inl, inr, eqb, ℕ, ◌+◌, ◌*◌, ◌<◌, ◌%◌, ◌^◌, Bool, true, false, cond, nat_lt, Option, Some, None, List, length, take, drop, refl, ap, ◌∙◌, subst, arith, ◌==◌}
use Rattle.std.specs.Prelude.{pos, is_some, option_map}
use Rattle.std.proofs.lemmas.Bool.{ltb-true}
use Rattle.std.proofs.lemmas.Nat.{mod_below, pow_pos}
use Rattle.std.proofs.lemmas.Bool.Decides.{eqb_tells}
use Rattle.p4x_bits.specs.BitLists.{num, octet_bits}
use Rattle.p414_syntax.specs.declared.syntax.Decl.{Decl}
use Rattle.p414_sem.specs.Wholes.{wrapped}
use Rattle.p414_sem.specs.State.{State}
use Rattle.p414_sem.specs.Parsing.{has_bits as has_bits14, current_bits}
use Rattle.p416_syntax.specs.declared.node.CastType.TheVariants as cast_to
use Rattle.p416_syntax.specs.Tree.{Exp16, name, cast}
use Rattle.p416_syntax.specs.Kinds.{Kind, bits, packet_in}
use Rattle.p416_syntax.specs.Scopes.{Scope}
use Rattle.p416_syntax.specs.Calls.{Place}
use Rattle.p416_syntax.specs.Expressions.{kind_of, lookahead_kind}
use Rattle.v1_core.specs.declared.parser_error.ParserError.TheVariants.{PacketTooShort}
use Rattle.v1_core.specs.Values.{a_number}
use Rattle.v1_core.specs.Frames.{Moment, raised}
use Rattle.v1_core.specs.Surroundings.{World}
use Rattle.v1_core.specs.Expressions.{Valued, valued, value_of, has_bits}
use Rattle.lower_laws_base.specs.Mirror.{plain, resized}
use Rattle.lower_laws_base.proofs.Gives.{gives_resized}
use Rattle.lower_laws_parser.specs.Words.{ParserWords, ahead_exp}
use Rattle.lower_laws_parser.proofs.Bits.{num_of_take_below, length-octet_bits, ahead_cut}
use Rattle.lower_laws_base.specs.Gives.{Gives}

-- where an error has stopped the parser
abbrev pub too_short : Moment → Moment
too_short n = record n { stopped = Some PacketTooShort }

-- evaluating it leaves this moment as it is
abbrev pub Halts : World → Scope → Exp16 → Moment → Type 0
Halts w s e n = (q : Place) → (value_of w s q e n).moment ≡ n

abbrev pub Yielded : World → Scope → Moment → Exp16 → ℕ → Option ℕ → Type 0
Yielded w s n e width (Some k) = ((q : Place) → value_of w s q e n ≡ valued (a_number width k) n) × (k < 2 ^ width)
Yielded w s n e width None = (q : Place) → (value_of w s q e n).moment ≡ too_short n

pub record Yields (w : World) (s : Scope) (n : Moment) (e : Exp16) (width : ℕ) (z : Option ℕ) : Type 0 where
  pub kind : kind_of s e ≡ bits width
  pub value : Yielded w s n e width z
  pub halts : Halts w s e (too_short n)

module _ (w : World) (s : Scope) (n : Moment) where
  pub halts_resized : (e : Exp16) (own width : ℕ) (m : Moment) → Halts w s e m → Halts w s (resized own width e) m
  halts_resized e own width m halts q = by (own == width) where
    by : (b : Bool) → (value_of w s q (cond b e (cast (cast_to.Bit (plain width)) e)) m).moment ≡ m
    by true = halts q
    by false = halts _

  -- a number that is always there
  pub yields_given : (e : Exp16) (width k : ℕ) → k < 2 ^ width → Gives w s n e width k → Halts w s e (too_short n) → Yields w s n e width (Some k)
  yields_given e width k fits g halts = record { kind = g.kind; value = (g.value, fits); halts = halts }

  gives_of : (e : Exp16) (width k : ℕ) → kind_of s e ≡ bits width → Yielded w s n e width (Some k) → Gives w s n e width k
  gives_of e width k kind value = record { kind = kind; value = value.0 }

  cut : ℕ → ℕ → ℕ
  cut width k = k % 2 ^ width

  short_resized : (e : Exp16) (own width : ℕ) → ((q : Place) → (value_of w s q e n).moment ≡ too_short n) → (q : Place) → (value_of w s q (resized own width e) n).moment ≡ too_short n
  short_resized e own width short q = by (own == width) where
    by : (b : Bool) → (value_of w s q (cond b e (cast (cast_to.Bit (plain width)) e)) n).moment ≡ too_short n
    by true = short q
    by false = short _

  kind_resized : (e : Exp16) (own width : ℕ) → kind_of s e ≡ bits own → kind_of s (resized own width e) ≡ bits width
  kind_resized e own width kind = by (eqb_tells own width) where
    by : ((eqb own width ≡ true) × (own ≡ width)) ⊎ ((eqb own width ≡ false) × (own ≢ width)) → kind_of s (resized own width e) ≡ bits width
    by (inl same) = ap (λ b. kind_of s (cond b e (cast (cast_to.Bit (plain width)) e))) same.0 ∙ kind ∙ ap bits same.1
    by (inr other) = ap (λ b. kind_of s (cond b e (cast (cast_to.Bit (plain width)) e))) other.0

  pub yields_resized : (e : Exp16) (own width : ℕ) (z : Option ℕ) → Yields w s n e own z → Yields w s n (resized own width e) width (option_map (λ k. k % 2 ^ width) z)
  yields_resized e own width (Some k) y = record {
    kind = kind_resized e own width y.kind;
    value = ((gives_resized w s n e own width k y.value.1 (gives_of e own k y.kind y.value)).value, mod_below k (2 ^ width) (pow_pos width));
    halts = halts_resized e own width (too_short n) y.halts;
  }
  yields_resized e own width None y = record {
    kind = kind_resized e own width y.kind;
    value = short_resized e own width y.value;
    halts = halts_resized e own width (too_short n) y.halts;
  }

-- the bits in front
abbrev pub ahead : State → ℕ → Option ℕ
ahead s count = cond (has_bits14 s count) (Some (num (take count (octet_bits s.unparsed)))) None

module _ (w : World) (s : Scope) (ds : List Decl) (p : ParserWords) (packet : kind_of s (name p.packet) ≡ packet_in) (t : State) (n : Moment) (same : n.unparsed ≡ t.unparsed) (runs : n.stopped ≡ None) where
  raised_now : raised PacketTooShort n ≡ too_short n
  raised_now = ap (λ b. let m : Moment = cond b n (record n { stopped = Some PacketTooShort }) in m) (ap is_some runs)

  halted : (count : ℕ) (b : Bool) → (let x : Valued = cond b (valued (a_number count (num (take count (octet_bits n.unparsed)))) (too_short n)) (valued (a_number count 0) (raised PacketTooShort (too_short n))) in x).moment ≡ too_short n
  halted count true = refl
  halted count false = refl

  pub yields_ahead : (count : ℕ) → Yields w s n (ahead_exp ds p count) count (ahead t count)
  yields_ahead count = record {
    kind = ap (λ (k : Kind). lookahead_kind k (bits count)) packet;
    value = by (has_bits14 t count) (ap (λ (l : List ℕ). nat_lt count (8 * length l + 1)) same);
    halts = λ q. halted count (has_bits (too_short n) count);
  } where
    by : (b : Bool) → has_bits n count ≡ b → Yielded w s n (ahead_exp ds p count) count (cond b (Some (num (take count (octet_bits t.unparsed)))) None)
    by true is = (
      λ q. ap (λ (b : Bool). let x : Valued = cond b (valued (a_number count (num (take count (octet_bits n.unparsed)))) n) (valued (a_number count 0) (raised PacketTooShort n)) in x) is
          ∙ ap (λ l. valued (a_number count (num (take count (octet_bits l)))) n) same,
      num_of_take_below count (octet_bits t.unparsed),
    )
    by false is = λ q.
        ap (λ (b : Bool). let x : Valued = cond b (valued (a_number count (num (take count (octet_bits n.unparsed)))) n) (valued (a_number count 0) (raised PacketTooShort n)) in x.moment) is
        ∙ raised_now

  -- the bits behind those in front
  current_is : (offset width : ℕ) → option_map (λ k. k % 2 ^ width) (ahead t (offset + width)) ≡ cond (has_bits14 t (offset + width)) (Some (num (take width (drop offset (octet_bits t.unparsed))))) None
  current_is offset width = by (has_bits14 t (offset + width)) refl where
    by : (b : Bool) → has_bits14 t (offset + width) ≡ b → option_map (λ k. k % 2 ^ width) (cond b (Some (num (take (offset + width) (octet_bits t.unparsed)))) None) ≡ cond b (Some (num (take width (drop offset (octet_bits t.unparsed))))) None
    by true is = ap (λ (k : ℕ). Some k) (ahead_cut offset width (octet_bits t.unparsed) (omega (arith, length-octet_bits t.unparsed, ltb-true _ _ is)))
    by false is = refl

  current_wraps : (offset width to : ℕ) → option_map (λ k. k % 2 ^ to) (option_map (λ k. k % 2 ^ width) (ahead t (offset + width))) ≡ option_map (wrapped to) (current_bits t offset width)
  current_wraps offset width to =
      ap (option_map (λ k. k % 2 ^ to)) (current_is offset width) ∙ by (has_bits14 t (offset + width)) where
        by : (b : Bool) → option_map (λ k. k % 2 ^ to) (cond b (Some (num (take width (drop offset (octet_bits t.unparsed))))) None) ≡ option_map (wrapped to) (cond b (Some (pos (num (take width (drop offset (octet_bits t.unparsed)))))) None)
        by true = refl
        by false = refl

  pub yields_current : (offset width to : ℕ) → Yields w s n (resized width to (resized (offset + width) width (ahead_exp ds p (offset + width)))) to (option_map (wrapped to) (current_bits t offset width))
  yields_current offset width to =
      subst (Yields w s n (resized width to (resized (offset + width) width (ahead_exp ds p (offset + width)))) to) (current_wraps offset width to)
      (yields_resized w s n _ width to _ (yields_resized w s n _ (offset + width) width _ (yields_ahead (offset + width))))
