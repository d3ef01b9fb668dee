-- Keys of tables are of known kinds, at most one has prefixes, and they are spelt.
use Rattle.std.proofs.Common.{◌≡◌, ℕ, ◌≤◌, Bool, true, false, ◌||◌, ◌&&◌, cond, List, [], ◌∷◌, length, map, filter, Option, Some, None, refl, sym, subst, arith}
use Rattle.std.specs.Prelude.{not, is_some, codes}
use Rattle.std.specs.List.{list_any, count_by, AllByRecursion}
use Rattle.std.specs.Str.{bytes_eq}
use Rattle.std.proofs.lemmas.Bool.{ltb-false}
use Rattle.std.proofs.lemmas.List.{length-map}
use Rattle.std.proofs.lemmas.List.Sums.{length-filter}
use Rattle.std.proofs.lemmas.Slice.Eq.{bytes_eq-Decides}
use Rattle.p414_syntax.specs.declared.lexeme.Literal.{Literal}
use Rattle.p414_syntax.specs.declared.tables.ReadKey.{ReadKey}
use Rattle.p414_syntax.specs.declared.tables.ReadKey.TheVariants as read_key
use Rattle.p414_syntax.specs.declared.tables.Read.{Read}
use Rattle.p414_syntax.specs.declared.parts.Ref.{Ref}
use Rattle.p414_syntax.specs.declared.tables.Table.{Table}
use Rattle.p414_syntax.specs.declared.syntax.Decl.{Decl}
use Rattle.p414_syntax.specs.Attributes.{reads_of}
use Rattle.p414_syntax.specs.Tables.{field_kinds, is_header_key, is_field_key, is_bad_key, has_bad_keys, is_lpm_key, has_two_prefixes}
use Rattle.p414_sem.specs.Slots.{Slot, standard, declared, slot_of, element_of}
use Rattle.p414_sem.specs.declared.standard.Standard.TheVariants.{IngressPort, EgressSpec, EgressPort, PacketLength, InstanceType}
use Rattle.p416_syntax.specs.SpeltLexemes.{is_identifier16}
use Rattle.p416_syntax.specs.Keywords.{is_reserved16}
use Rattle.p416_syntax.specs.declared.controls.TableKey.{TableKey}
use Rattle.p416_syntax.specs.Names.{Name, has_name}
use Rattle.p416_syntax.specs.Tables.{match_kinds, is_prefix_key, has_bad_keys as has_bad_keys16}
use Rattle.lower_laws_base.specs.Context.{Lowering, words_of, IsSlot}
use Rattle.lower_laws_base.specs.Mirror.{width_in}
use Rattle.lower_laws_controls.specs.Keys.{slot_word, key_of, KeyFits, KeysFit}
use Rattle.lower_laws_rules.specs.Spelling.{SpeltName, SpeltKey}
use Rattle.lower_laws_rules.proofs.SpeltParts.{sized_spelt}
use Rattle.lower_laws_rules.proofs.Found.{left_false, right_false}
use Rattle.lower_laws_rules.proofs.Names.{keys_good}
use Rattle.lower_laws_block_rules.specs.Widths.{SlotsWide, SpeltHere}
use Rattle.lower_laws_block_rules.proofs.SpeltConditions.{slot_here, part_here}
use Rattle.lower_laws_block_rules.proofs.Keys.{cut}

-- what holds of each name of a list
pub each_named : (names : List Name) (P : Name → Type 0) → AllByRecursion P names → (text : Name) → has_name names text ≡ true → P text
each_named [] P all text has = absurd (cc has)
each_named (first ∷ names) P all text has = by (bytes_eq text first) refl has (each_named names P all.1 text) where
  by : (b : Bool) → bytes_eq text first ≡ b → b || list_any (bytes_eq text) names ≡ true → (has_name names text ≡ true → P text) → P text
  by true same is rest = subst P (sym ((bytes_eq-Decides text first).0 same)) all.0
  by false other is rest = rest is

-- a name is an identifier
pub identifier_of : (text : Name) → SpeltName text → is_identifier16 text ≡ true
identifier_of text is = by (is_identifier16 text) (not (is_reserved16 text)) is where
  by : (a b : Bool) → a && b ≡ true → a ≡ true
  by true b e = refl
  by false b e = e

-- the kind of a field that is a key (C11)
field_kind : (ds : List Decl) (r : Read) (f : Ref) → r.key ≡ read_key.Field f → is_bad_key ds r ≡ false → has_name field_kinds r.kind ≡ true
field_kind ds r f is good = by (bytes_eq r.kind (codes "valid")) (has_name field_kinds r.kind) (subst (λ (k : ReadKey). cond (bytes_eq r.kind (codes "valid")) (not (is_header_key ds k) || is_some r.mask) (not (is_field_key k) || not (has_name field_kinds r.kind)) ≡ false) is good) where
  by : (b k : Bool) → cond b true (not k) ≡ false → k ≡ true
  by true k e = absurd (cc e)
  by false true e = refl
  by false false e = absurd (cc e)

module _ (c : Lowering) (ds : List Decl) where
  abbrev key : Read → TableKey
  key r = key_of (words_of c) ds r

  kind_known : (r : Read) → is_bad_key ds r ≡ false → has_name match_kinds (key r).kind ≡ true
  kind_known r good = by r.key refl where
    by : (k : ReadKey) → r.key ≡ k → has_name match_kinds (key (record r { key = k })).kind ≡ true
    by (read_key.Field f) is = field_kind ds r f is good
    by (read_key.Instance i) is = refl

  kinds_known : (reads : List Read) → list_any (is_bad_key ds) reads ≡ false → AllByRecursion (λ k. has_name match_kinds k.kind ≡ true) (map key reads)
  kinds_known [] good = tt
  kinds_known (r ∷ reads) good = (kind_known r (left_false _ _ good), kinds_known reads (right_false _ _ good))

  prefixes_fewer : (reads : List Read) → length (filter is_prefix_key (map key reads)) ≤ length (filter is_lpm_key reads)
  prefixes_fewer [] = omega arith
  prefixes_fewer (r ∷ reads) = by r.key (is_lpm_key r) (prefixes_fewer reads) where
    by : (k : ReadKey) (b : Bool) → length (filter is_prefix_key (map key reads)) ≤ length (filter is_lpm_key reads) → length (cond (is_prefix_key (key (record r { key = k }))) (key r ∷ filter is_prefix_key (map key reads)) (filter is_prefix_key (map key reads))) ≤ length (cond (is_lpm_key r) (r ∷ filter is_lpm_key reads) (filter is_lpm_key reads))
    by (read_key.Field f) b le = both (is_lpm_key r) where
      both : (b : Bool) → length (cond b (key r ∷ filter is_prefix_key (map key reads)) (filter is_prefix_key (map key reads))) ≤ length (cond b (r ∷ filter is_lpm_key reads) (filter is_lpm_key reads))
      both true = omega (arith, le)
      both false = le
    by (read_key.Instance i) b le = more (is_lpm_key r) where
      more : (b : Bool) → length (filter is_prefix_key (map key reads)) ≤ length (cond b (r ∷ filter is_lpm_key reads) (filter is_lpm_key reads))
      more true = omega (arith, le)
      more false = le

  -- C11 and C12
  pub keys_are_good : (t : Table) → has_bad_keys ds t ≡ false → has_two_prefixes t ≡ false → has_bad_keys16 (map key (reads_of t.attributes)) ≡ false
  keys_are_good t good single =
      let reads = reads_of t.attributes in
      keys_good (map key reads) (kinds_known reads (left_false _ _ good))
      (fewer (count_by is_prefix_key (map key reads)) (count_by is_lpm_key reads) _ _ (length-filter is_prefix_key (map key reads)) (length-filter is_lpm_key reads) (prefixes_fewer reads) (ltb-false 1 (count_by is_lpm_key reads) single))
      (same (length (map key reads)) (length reads) (length-map reads key) (ltb-false 64 (length reads) (right_false _ _ good))) where
        fewer : (a b m n : ℕ) → m ≡ a → n ≡ b → m ≤ n → b ≤ 1 → a ≤ 1
        fewer a b m n e f le few = omega (arith, e, f, le, few)

        same : (a b : ℕ) → a ≡ b → b ≤ 64 → a ≤ 64
        same a b e few = omega (arith, e, few)

  -- keys are spelt

  module _ (wide : SlotsWide c) (facts : SpeltHere c) where
    word_is : (slot : Slot) → IsSlot c.layout slot → is_identifier16 (slot_word (words_of c) slot) ≡ true
    word_is (standard IngressPort) is = refl
    word_is (standard EgressSpec) is = refl
    word_is (standard EgressPort) is = refl
    word_is (standard PacketLength) is = refl
    word_is (standard InstanceType) is = refl
    word_is (declared i e k) is = identifier_of (slot_word (words_of c) (declared i e k)) (facts.words.fields i k is.0 is.3)

    key_here : (r : Read) → KeyFits c.layout ds r.key → is_bad_key ds r ≡ false → SpeltKey (key r)
    key_here r fits good = by r.key refl r.mask fits where
      by : (k : ReadKey) → r.key ≡ k → (m : Option Literal) → KeyFits c.layout ds k → SpeltKey (key (record { key = k; mask = m; kind = r.kind }))
      by (read_key.Field f) is None fits = (slot_here c facts (slot_of ds f) fits.0, each_named field_kinds SpeltName (refl, (refl, (refl, (refl, tt)))) r.kind (field_kind ds r f is good), (tt, refl))
      by (read_key.Field f) is (Some mask) fits =
          let width = width_in (words_of c) (slot_of ds f) in
          let w = wide (slot_of ds f) fits.0 in (
            (slot_here c facts (slot_of ds f) fits.0, sized_spelt width _ w.0 w.1 (cut width mask.value)),
            each_named field_kinds SpeltName (refl, (refl, (refl, (refl, tt)))) r.kind (field_kind ds r f is good),
            ((word_is (slot_of ds f) fits.0, tt), refl),
          )
      by (read_key.Instance i) is m fits = (((part_here c facts (element_of ds i) fits.0, refl), tt), refl, (tt, refl))

    pub keys_here : (reads : List Read) → KeysFit c.layout ds reads → list_any (is_bad_key ds) reads ≡ false → AllByRecursion SpeltKey (map key reads)
    keys_here [] fits good = tt
    keys_here (r ∷ reads) fits good = (key_here r fits.0 (left_false _ _ good), keys_here reads fits.1 (right_false _ _ good))
