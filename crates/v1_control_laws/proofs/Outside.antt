-- A control of an accepted program stands at a place of `main` that isn't the parser's.
use Rattle.std.proofs.Common.{◌≡◌, ℕ, zero, suc, ◌+◌, ◌<◌, ◌&&◌, ◌||◌, Bool, true, false, cond, Some, List, [], ◌∷◌, length, get_or, refl, sym, ap, ◌∙◌, subst, arith, bytes_eq}
use Rattle.std.specs.List.{list_all}
use Rattle.std.proofs.Math.Dec.{eqb-suc-zero}
use Rattle.std.proofs.lemmas.Slice.Eq.{bytes_eq-Decides}
use Rattle.p416_syntax.specs.declared.controls.Control16.{Control16}
use Rattle.p416_syntax.specs.declared.program.Decl16.{Decl16}
use Rattle.p416_syntax.specs.declared.program.Decl16.TheVariants as decl
use Rattle.p416_syntax.specs.declared.program.Syntax16.{Syntax16}
use Rattle.p416_syntax.specs.Names.{Name}
use Rattle.p416_syntax.specs.Scopes.{Known}
use Rattle.p416_syntax.specs.Calls.{parser_position}
use Rattle.p416_syntax.specs.Declarations.{top_names}
use Rattle.p416_syntax.specs.Main.{positions_from, positions_of, BlockShape, is_block, block_of, wanted_blocks, are_blocks, are_headers, is_metadata, headers_kind, metadata_kind}
use Rattle.p416_syntax.specs.Declarations.{layouts_of}
use Rattle.p416_syntax.specs.Externs.{is_some_position, is_allowed_at, are_allowed}
use Rattle.p416_syntax.specs.Breaks.{program_rules, BreaksNone}
use Rattle.v1_core.specs.declared.block.Block.{Block}
use Rattle.v1_core.specs.declared.block.Block.TheVariants.{Verify, Ingress, Egress, Compute, Deparse}
use Rattle.v1_core.specs.Blocks.{control_called, control_at, position_of}
use Rattle.v1_block_laws.proofs.Tests.{left_true}
use Rattle.v1_block_laws.proofs.Accepted.{main_kept}

-- a control has the name by which it is found
called_so : (ds : List Decl16) (text : Name) (k : Control16) → control_called ds text ≡ Some k → k.name ≡ text
called_so [] text k is = absurd (cc is)
called_so (decl.Header x ∷ ds) text k is = called_so ds text k is
called_so (decl.Struct x ∷ ds) text k is = called_so ds text k is
called_so (decl.Instance notes i ∷ ds) text k is = called_so ds text k is
called_so (decl.Parser p ∷ ds) text k is = called_so ds text k is
called_so (decl.Control c ∷ ds) text k is = by (bytes_eq c.name text) refl (called_so ds text k) is where
  by : (t : Bool) → bytes_eq c.name text ≡ t → (control_called ds text ≡ Some k → k.name ≡ text) → cond t (Some c) (control_called ds text) ≡ Some k → k.name ≡ text
  by true same rest e =
      let one : c ≡ k = cc e in
      ap (λ (x : Control16). x.name) (sym one) ∙ (bytes_eq-Decides c.name text).0 same
  by false same rest e = rest e

-- it stands at each place of `main` that has its name

-- one of these isn't the first place
abbrev IsLater : List ℕ → Type 0
IsLater positions = list_all (is_allowed_at (parser_position ∷ [])) positions ≡ false

later_first : (n : ℕ) (positions : List ℕ) → IsLater (suc n ∷ positions)
later_first n positions = ap (λ (t : Bool). (t || false) && list_all (is_allowed_at (parser_position ∷ [])) positions) (eqb-suc-zero n)

later_more : (n : ℕ) (positions : List ℕ) → IsLater positions → IsLater (n ∷ positions)
later_more n positions h = by (is_allowed_at (parser_position ∷ []) n) where
  by : (t : Bool) → (t && list_all (is_allowed_at (parser_position ∷ [])) positions) ≡ false
  by true = h
  by false = refl

stands_later : (main : List Name) (n i : ℕ) (text : Name) → i < length main → get_or main i [] ≡ text → 0 < n + i → IsLater (positions_from n main text)
stands_later [] n i text within is later = absurd (none i within) where
  none : (m : ℕ) → m < 0 → ⊥
  none m lt = omega arith
stands_later (x ∷ main) n zero text within is later = by n (bytes_eq x text) ((bytes_eq-Decides x text).1 is) later where
  by : (m : ℕ) (t : Bool) → t ≡ true → 0 < m + 0 → IsLater (cond t (m ∷ positions_from (suc m) main text) (positions_from (suc m) main text))
  by zero t e lt = absurd (never lt) where
    never : 0 < 0 + 0 → ⊥
    never l = omega (arith, l)
  by (suc m) true e lt = later_first m (positions_from (suc (suc m)) main text)
  by (suc m) false e lt = absurd (cc e)
stands_later (x ∷ main) n (suc i) text within is later =
    by (bytes_eq x text) (stands_later main (suc n) i text (less i (length main) within) is (more n i)) where
      less : (j l : ℕ) → suc j < suc l → j < l
      less j l lt = omega (arith, lt)

      more : (m j : ℕ) → 0 < suc m + j
      more m j = omega arith

      by : (t : Bool) → IsLater (positions_from (suc n) main text) → IsLater (cond t (n ∷ positions_from (suc n) main text) (positions_from (suc n) main text))
      by true h = later_more n (positions_from (suc n) main text) h
      by false h = h

-- `main` has a place for each block
as_many : (names : List Known) (ds : List Decl16) (wanted : List BlockShape) (main : List Name) → are_blocks names ds wanted main ≡ true → length main ≡ length wanted
as_many names ds [] [] are = refl
as_many names ds [] (text ∷ main) are = absurd (cc are)
as_many names ds (w ∷ wanted) [] are = absurd (cc are)
as_many names ds (w ∷ wanted) (text ∷ main) are = ap suc (as_many names ds wanted main (second (is_block w (block_of names ds text)) (are_blocks names ds wanted main) are)) where
  second : (a b : Bool) → (a && b) ≡ true → b ≡ true
  second true b e = e
  second false b e = absurd (cc e)

place_within : (place : Block) → position_of place < 6
place_within Verify = omega arith
place_within Ingress = omega arith
place_within Egress = omega arith
place_within Compute = omega arith
place_within Deparse = omega arith

place_later : (place : Block) → 0 < 0 + position_of place
place_later Verify = omega arith
place_later Ingress = omega arith
place_later Egress = omega arith
place_later Compute = omega arith
place_later Deparse = omega arith

not_allowed : (positions : List ℕ) → IsLater positions → are_allowed (parser_position ∷ []) positions ≡ false
not_allowed positions h = by (is_some_position positions) where
  by : (t : Bool) → (t && list_all (is_allowed_at (parser_position ∷ [])) positions) ≡ false
  by true = h
  by false = refl

pub outside_parsers : (syntax : Syntax16) (place : Block) (k : Control16) → BreaksNone syntax program_rules → control_at syntax place ≡ Some k → are_allowed (parser_position ∷ []) (positions_of syntax k.name) ≡ false
outside_parsers syntax place k accepted stands =
    let blocks : Bool = are_blocks (top_names syntax.decls) syntax.decls (wanted_blocks (headers_kind syntax) (metadata_kind syntax)) syntax.main in
    let structs : Bool = are_headers (layouts_of syntax.decls) (headers_kind syntax) && is_metadata (layouts_of syntax.decls) (metadata_kind syntax) in
    let many : length syntax.main ≡ 6 = as_many (top_names syntax.decls) syntax.decls (wanted_blocks (headers_kind syntax) (metadata_kind syntax)) syntax.main (left_true blocks structs (main_kept syntax accepted)) in
    let within : position_of place < length syntax.main = subst (λ (n : ℕ). position_of place < n) (sym many) (place_within place) in
    not_allowed (positions_of syntax k.name)
    (stands_later syntax.main 0 (position_of place) k.name within (sym (called_so syntax.decls (get_or syntax.main (position_of place) []) k stands)) (place_later place))
