-- What tells entries and sessions apart.
use Rattle.std.proofs.Common.{◌≡◌, inl, inr, ℕ, zero, suc, ◌<◌, Bool, true, false, not, cond, nat_eq, eq-eqb, leb, List, [], ◌∷◌, ◌++◌, get_or, length, replicate, refl, sym, ap, ◌∙◌, subst, arith}
use Rattle.std.specs.Prelude.{◌||◌, ◌&&◌}
use Rattle.std.specs.Str.{bytes_eq}
use Rattle.std.specs.Ordering.{nat_cmp, is_eq}
use Rattle.std.specs.Cmp.Lexicographic.{slice_cmp, texts_ties}
use Rattle.std.proofs.lemmas.Bool.{cases_eq}
use Rattle.std.proofs.lemmas.Bool.Decides.{nat_tests}
use Rattle.std.proofs.lemmas.List.{get_or-set_same, get_or-set_other}
use Rattle.std.proofs.lemmas.List.Folds.{list_any-append}
use Rattle.match_core.specs.declared.signatures.TableSig.{TableSig}
use Rattle.match_core.specs.declared.signatures.Signature.{Signature}
use Rattle.match_core.specs.declared.entries.Entry.{Entry}
use Rattle.match_core.specs.declared.entries.TableFill.{TableFill}
use Rattle.match_core.specs.declared.signatures.KeySpec.{KeySpec}
use Rattle.entries_file.specs.Filling.{empty_fill, entry_put, table_at}
use Rattle.match_core.specs.Identity.{identity}
use Rattle.entries_file.specs.Rules.{has_same, is_full}
use Rattle.entries_file.specs.declared.key_set.KeySet.{KeySet}
use Rattle.entries_file.specs.internal.KeySets.{has_key}

not_not : (b : Bool) → not (not b) ≡ b
not_not true = refl
not_not false = refl

not_eqb : (a b : ℕ) → (a ≡ b → ⊥) → nat_eq a b ≡ false
not_eqb a b apart = grind (arith, nat_tests)

either_way : (a b : Bool) → cond b true a ≡ (a || (b || false))
either_way true true = refl
either_way true false = refl
either_way false true = refl
either_way false false = refl

-- a list of numbers is told from another by its first number or by the others
ties : (table t : ℕ) (id same : List ℕ) → is_eq (slice_cmp nat_cmp (table ∷ id) (t ∷ same)) ≡ (nat_eq table t && bytes_eq id same)
ties table t id same = sym (texts_ties (table ∷ id) (t ∷ same))

-- the fills with one more entry
pub fill_here : (fills : List TableFill) (table : ℕ) (entry : Entry) → table < length fills
    → get_or (entry_put fills table entry) table empty_fill ≡ record { entries = (get_or fills table empty_fill).entries ++ entry ∷ []; default = (get_or fills table empty_fill).default }
fill_here fills table entry lt = get_or-set_same fills table _ empty_fill lt

pub fill_other : (fills : List TableFill) (table t : ℕ) (entry : Entry) → (t ≡ table → ⊥) → get_or (entry_put fills table entry) t empty_fill ≡ get_or fills t empty_fill
fill_other fills table t entry apart = get_or-set_other fills table t _ empty_fill apart

same_more : (specs : List KeySpec) (fill : TableFill) (entry : Entry) (same : List ℕ) → cond (bytes_eq (identity specs entry) same) true (has_same specs fill same) ≡ has_same specs (record { entries = fill.entries ++ entry ∷ []; default = fill.default }) same
same_more specs fill entry same =
    either_way (has_same specs fill same) (bytes_eq (identity specs entry) same)
    ∙ sym (list_any-append (λ (old : Entry). bytes_eq (identity specs old) same) fill.entries (entry ∷ []))

-- the keys of a table's entries are found
abbrev pub KeysFound : Signature → List TableFill → KeySet → Type 0
KeysFound g fills keys = (t : ℕ) (same : List ℕ) → has_key keys (t ∷ same) ≡ has_same (table_at g t).keys (get_or fills t empty_fill) same

found_here : (g : Signature) (fills : List TableFill) (table : ℕ) (entry : Entry) (same : List ℕ) → table < length fills
    → cond (nat_eq table table && bytes_eq (identity (table_at g table).keys entry) same) true (has_same (table_at g table).keys (get_or fills table empty_fill) same) ≡ has_same (table_at g table).keys (get_or (entry_put fills table entry) table empty_fill) same
found_here g fills table entry same lt =
    let equal : nat_eq table table ≡ true = eq-eqb table table refl in
    rw (equal, fill_here fills table entry lt) (same_more (table_at g table).keys (get_or fills table empty_fill) entry same)

found_other : (g : Signature) (fills : List TableFill) (table t : ℕ) (entry : Entry) (same : List ℕ) → (t ≡ table → ⊥)
    → cond (nat_eq table t && bytes_eq (identity (table_at g table).keys entry) same) true (has_same (table_at g t).keys (get_or fills t empty_fill) same) ≡ has_same (table_at g t).keys (get_or (entry_put fills table entry) t empty_fill) same
found_other g fills table t entry same apart =
    let differ : nat_eq table t ≡ false = not_eqb table t (λ e. apart (sym e)) in
    rw (differ, fill_other fills table t entry apart) refl

found_by : (g : Signature) (fills : List TableFill) (table t : ℕ) (entry : Entry) (same : List ℕ) → table < length fills
    → cond (nat_eq table t && bytes_eq (identity (table_at g table).keys entry) same) true (has_same (table_at g t).keys (get_or fills t empty_fill) same) ≡ has_same (table_at g t).keys (get_or (entry_put fills table entry) t empty_fill) same
found_by g fills table t entry same lt =
    elim (cases_eq t table) [
      | inl equal ↦
          subst (λ (n : ℕ). cond (nat_eq table n && bytes_eq (identity (table_at g table).keys entry) same) true (has_same (table_at g n).keys (get_or fills n empty_fill) same) ≡ has_same (table_at g n).keys (get_or (entry_put fills table entry) n empty_fill) same)
          (sym equal) (found_here g fills table entry same lt)
      | inr apart ↦ found_other g fills table t entry same apart
    ]

-- one more entry is found
pub keys_put : (g : Signature) (fills : List TableFill) (before after : KeySet) (table : ℕ) (entry : Entry) (key : List ℕ) → table < length fills → key ≡ table ∷ identity (table_at g table).keys entry → KeysFound g fills before
    → ((q : List ℕ) → has_key after q ≡ cond (is_eq (slice_cmp nat_cmp key q)) true (has_key before q)) → KeysFound g (entry_put fills table entry) after
keys_put g fills before after table entry key lt is found puts t same =
    puts (t ∷ same)
    ∙ (rw (is, ties table t (identity (table_at g table).keys entry) same, found t same) (found_by g fills table t entry same lt))

-- no entry has the key that was new
pub key_new : (g : Signature) (fills : List TableFill) (before : KeySet) (table : ℕ) (entry : Entry) (key : List ℕ) (is_new : Bool) → key ≡ table ∷ identity (table_at g table).keys entry → KeysFound g fills before
    → is_new ≡ not (has_key before key) → not is_new ≡ has_same (table_at g table).keys (get_or fills table empty_fill) (identity (table_at g table).keys entry)
key_new g fills before table entry key is_new is found added =
    ap not added ∙ (not_not (has_key before key)
    ∙ (ap (has_key before) is ∙ found table (identity (table_at g table).keys entry)))

-- before the first line no table has an entry
nothing_at : (n t : ℕ) → get_or (replicate n empty_fill) t empty_fill ≡ empty_fill
nothing_at zero t = refl
nothing_at (suc n) zero = refl
nothing_at (suc n) (suc t) = nothing_at n t

pub none_same : (specs : List KeySpec) (fills : List TableFill) (n t : ℕ) (same : List ℕ) → fills ≡ replicate n empty_fill → has_same specs (get_or fills t empty_fill) same ≡ false
none_same specs fills n t same are = rw (are, nothing_at n t) refl

room_left : (size count : ℕ) → count < size → leb size count ≡ false
room_left size count lt = grind (arith, nat_tests)

-- a table with room isn't full
pub not_full : (sig known : TableSig) (fill seen : TableFill) (count : ℕ) → sig ≡ known → fill ≡ seen → count ≡ length fill.entries → count < sig.size → is_full known seen ≡ false
not_full sig known fill seen count same_sig same_fill is lt =
    let size : sig.size ≡ known.size = ap (λ (t : TableSig). t.size) same_sig in
    let entries : length fill.entries ≡ length seen.entries = ap (λ (f : TableFill). length f.entries) same_fill in
    room_left known.size (length seen.entries) (omega arith)
