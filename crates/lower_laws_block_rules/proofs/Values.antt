-- Values in parsers break no rule.
use Rattle.std.proofs.Common.{◌≡◌, ℕ, zero, suc, ◌+◌, ◌<◌, ◌≤◌, Bool, true, false, ◌||◌, List, [], ◌∷◌, length, Option, Some, None, refl, sym, ap, subst, arith}
use Rattle.std.specs.Prelude.{codes, nat_eq, nat_lt}
use Rattle.std.proofs.lemmas.Bool.{ltb-false}
use Rattle.p414_syntax.specs.declared.parts.Index.{Index}
use Rattle.p414_syntax.specs.declared.parts.Index.TheVariants.{At, Next, Last}
use Rattle.p414_syntax.specs.declared.parts.Inst.{Inst}
use Rattle.p414_syntax.specs.declared.parsers.PValue.{PValue}
use Rattle.p414_syntax.specs.declared.parsers.PValue.TheVariants as pvalue
use Rattle.p414_syntax.specs.declared.syntax.Decl.{Decl}
use Rattle.p414_syntax.specs.Names.{Name}
use Rattle.p414_syntax.specs.ParserGraph.{instance_number}
use Rattle.p414_syntax.specs.Widths.{looks_too_far}
use Rattle.p414_sem.specs.Wholes.{whole}
use Rattle.p414_sem.specs.Slots.{slot_of, field_number}
use Rattle.p414_sem.specs.Operations.{number, field}
use Rattle.p416_syntax.specs.Tree.{Exp16, name, member}
use Rattle.p416_syntax.specs.Kinds.{Kind, bits, header, stack, packet_in}
use Rattle.p416_syntax.specs.Scopes.{Scope, in_parser}
use Rattle.p416_syntax.specs.Externs.{are_allowed}
use Rattle.v1_core.specs.Frames.{Owner}
use Rattle.agreement_of_meanings.specs.Shown.{Shown, as_header, as_stack, as_metadata, is_metadata, owner_of}
use Rattle.lower_laws_base.specs.Context.{StateLayout, Lowering, words_of, shown_in, instances_of, element_kind, instance_kind, HasRoot, now, Sees}
use Rattle.lower_laws_base.specs.Between.{between}
use Rattle.lower_laws_base.specs.Mirror.{instance_exp, element_exp}
use Rattle.lower_laws_parser.specs.Words.{ParserWords, indexed, inst_exp, latest_exp, latest_field, field_called, field_bits, value_exp}
use Rattle.lower_laws_parser.specs.Parsing.{IsIndex, InstFits, LatestFits, ValueFits, Parses, parser_words}
use Rattle.lower_laws_rules.specs.Keeping.{Sound}
use Rattle.lower_laws_rules.specs.Standing.{can_at, HasParameters}
use Rattle.lower_laws_rules.proofs.Places.{deeper, writable}
use Rattle.lower_laws_rules.proofs.Sound.{sound_name, sound_member, sound_resized, sound_lookahead}
use Rattle.lower_laws_rules.proofs.Found.{right_false}
use Rattle.lower_laws_rules.proofs.Sources.{sound_instance, sound_part, sound_source}
use Rattle.lower_laws_rules.proofs.Externs.{sound_next, sound_last}
use Rattle.lower_laws_block_rules.specs.Widths.{IsWidth, SlotsWide}
use Rattle.lower_laws_block_rules.proofs.Deparser.{packet_known}

-- C5
pub looks_near : (width reach : ℕ) → (nat_eq width 0 || nat_lt 128 reach) ≡ false → (0 < width) × (reach ≤ 128)
looks_near width reach e = (some width e, ltb-false 128 reach (right_false _ _ e)) where
  some : (w : ℕ) → (nat_eq w 0 || nat_lt 128 reach) ≡ false → 0 < w
  some zero e = absurd (cc e)
  some (suc w) e = omega arith

-- a parser in its scope: where it stands in `main`, what it writes
pub record ParsesHere (c : Lowering) (ds : List Decl) (packet : Name) (s : Scope) : Type 0 where
  pub parses : Parses c ds packet s
  pub wide : SlotsWide c
  pub part : s.part ≡ in_parser
  pub at : are_allowed (0 ∷ []) s.positions ≡ true
  pub writes : (o : Owner) → HasRoot c.layout o → c.can_write o ≡ true

module _ (c : Lowering) (ds : List Decl) (packet : Name) (state : Name → Name) (s : Scope) (here : ParsesHere c ds packet s) where
  abbrev p : ParserWords
  p = parser_words c packet state

  sees : Sees c s []
  sees = here.parses.sees

  pub sound_packet : Sound s (name packet) packet_in false 1
  sound_packet = sound_name s packet packet_in false (packet_known c s [] sees packet packet_in here.parses.packet_is)

  -- what is extracted, and what was

  abbrev of : Inst → ℕ
  of i = instance_number ds i.name

  has_root : (x : Shown) → HasRoot c.layout (owner_of x)
  has_root x = subst (λ (g : StateLayout). HasRoot g (owner_of x)) (sym here.parses.whole) (by x) where
    by : (x : Shown) → HasRoot (between c.layout) (owner_of x)
    by (as_header called fields) = refl
    by (as_stack called fields) = refl
    by (as_metadata called fields) = refl

  abbrev may : ℕ → Bool
  may k = can_at c now (owner_of (shown_in c k))

  sound_whole : (k : ℕ) → k < length (instances_of c) → Sound s (instance_exp (words_of c) now (shown_in c k)) (instance_kind (shown_in c k) (c.type_of k) (c.layout.size_of k)) (may k) 2
  sound_whole k lt = sound_instance c s [] sees now tt (shown_in c k) (c.type_of k) (c.layout.size_of k) (has_root (shown_in c k)) (sees.declares.instance k lt (has_root (shown_in c k)))

  header_is : (x : Shown) (type : Name) → is_metadata x ≡ false → element_kind x type ≡ header type
  header_is (as_header called fields) type is = refl
  header_is (as_stack called fields) type is = refl
  header_is (as_metadata called fields) type is = absurd (cc is)

  sound_element : (k e : ℕ) → k < length (instances_of c) → is_metadata (shown_in c k) ≡ false → e < c.layout.size_of k → Sound s (element_exp (words_of c) now (shown_in c k) e) (header (c.type_of k)) (may k) 3
  sound_element k e lt plain less =
      subst (λ (z : Kind). Sound s (element_exp (words_of c) now (shown_in c k) e) z (may k) 3) (header_is (shown_in c k) (c.type_of k) plain)
      (sound_part c s [] sees now tt (record { instance = k; element = e }) (lt, less, has_root (shown_in c k)))

  -- `next` or `last` of a stack, or an element
  abbrev Behind : Name → Type 0
  Behind word = (e : Exp16) (type : Name) (size : ℕ) (can : Bool) → Sound s e (stack type size) can 2 → Sound s (member e word) (header type) can 3

  sound_indexed : (word : Name) → Behind word → (k : ℕ) (index : Option Index) → k < length (instances_of c) → is_metadata (shown_in c k) ≡ false → IsIndex c k index → Sound s (indexed ds p word (shown_in c k) index) (header (c.type_of k)) (may k) 3
  sound_indexed word takes k (Some Next) lt plain is =
      takes _ (c.type_of k) (c.layout.size_of k) (may k)
      (subst (λ (x : Shown). Sound s (instance_exp (words_of c) now (shown_in c k)) (instance_kind x (c.type_of k) (c.layout.size_of k)) (may k) 2) is.2 (sound_whole k lt))
  sound_indexed word takes k (Some (At n)) lt plain is = sound_element k n.value lt plain is
  sound_indexed word takes k (Some Last) lt plain is = absurd is
  sound_indexed word takes k None lt plain is = sound_element k 0 lt plain is

  pub sound_extracted : (i : Inst) → InstFits c ds i → Sound s (inst_exp ds p i) (header (c.type_of (of i))) true 3
  sound_extracted i fits = writable (here.writes (owner_of (shown_in c (of i))) (has_root (shown_in c (of i)))) (sound_indexed (codes "next") (λ e type size can x. sound_next x here.part) (of i) i.index fits.instance fits.plain fits.index)

  sound_latest : (i : Inst) → InstFits c ds i → Sound s (latest_exp ds p i) (header (c.type_of (of i))) (may (of i)) 3
  sound_latest i fits = sound_indexed (codes "last") (λ e type size can x. sound_last x here.part) (of i) i.index fits.instance fits.plain fits.index

  -- values

  latest_sound : (last : Option Inst) (width : ℕ) (called : Name) → IsWidth width → LatestFits c ds last called → Sound s (latest_field ds p last width called) (bits width) false 5
  latest_sound None width called w fits = absurd fits
  latest_sound (Some i) width called w fits =
      sound_resized s _ (field_bits ds p i called) width 4 (may (of i)) w.0 w.1
      (sound_member s (latest_exp ds p i) (header (c.type_of (of i))) (may (of i)) 3 (field_called ds p i called) (bits (field_bits ds p i called)) (sound_latest i fits.0)
      (sees.declares.field (of i) (field_number ds i.name called) fits.0.instance (has_root (shown_in c (of i))) fits.1) refl refl)

  given : HasParameters c []
  given j lt = absurd (omega (arith, lt, ap length here.parses.parameters))

  pub sound_value : (last : Option Inst) (width : ℕ) (v : PValue) → IsWidth width → ValueFits c ds last v → looks_too_far v ≡ false → Sound s (value_exp ds p last width v) (bits width) false 5
  sound_value last width (pvalue.Current offset taken) w fits near =
      let reach = looks_near taken.value (offset.value + taken.value) near in
      deeper 5 (omega arith)
      (sound_resized s _ taken.value width 3 false w.0 w.1
      (sound_resized s _ (offset.value + taken.value) taken.value 2 false reach.0 (let few = reach.1 in omega (arith, few))
      (sound_lookahead (offset.value + taken.value) (let some = reach.0 in omega (arith, some)) reach.1 sound_packet here.at)))
  sound_value last width (pvalue.Latest called) w fits near = latest_sound last width called w fits
  sound_value last width (pvalue.Field r) w fits near = sound_source c s [] sees now tt given width (field (slot_of ds r)) w.0 w.1 fits
  sound_value last width (pvalue.Number n) w fits near = sound_source c s [] sees now tt given width (number (whole n)) w.0 w.1 tt
