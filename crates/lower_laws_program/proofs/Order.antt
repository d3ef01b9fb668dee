-- The order in which headers leave holds headers of the program.
use Rattle.std.proofs.Common.{◌≡◌, inl, inr, ℕ, zero, suc, ◌<◌, false, Option, Some, None, List, [], ◌∷◌, length, refl, subst, arith}
use Rattle.std.specs.Prelude.{Contains, flat_map, slice_get, slice_index_or}
use Rattle.std.specs.List.{list_any}
use Rattle.std.specs.Option.{option_map_or}
use Rattle.p414_syntax.specs.declared.parts.Inst.{Inst}
use Rattle.p414_syntax.specs.declared.parsers.PStmt.{PStmt}
use Rattle.p414_syntax.specs.declared.parsers.PStmt.TheVariants as pstmt
use Rattle.p414_syntax.specs.declared.parsers.Parser.{Parser}
use Rattle.p414_syntax.specs.declared.syntax.Decl.{Decl}
use Rattle.p414_syntax.specs.declared.syntax.Decl.TheVariants as decl
use Rattle.p414_syntax.specs.Breaks.{BreaksNone, program_rules}
use Rattle.p414_syntax.specs.Fields.{instance_of, is_header}
use Rattle.p414_syntax.specs.declared.headers.Header.{Header}
use Rattle.p414_syntax.specs.ParserGraph.{state_in, states, instance_number, extracted_by, extracts_in, extracts_of, IsExtracted}
use Rattle.p414_syntax.specs.Targets.{extracted_in, statements_in, extracts, is_no_header}
use Rattle.p414_sem.specs.Expanded.{Expanded, IsExpanded}
use Rattle.lower_laws_states.specs.Expansions.{Has}
use Rattle.lower_laws_states.specs.Fits.{widths_at}
use Rattle.lower_laws_states.proofs.Members.{has_joined, joined_has, picked_has, has_at, neither, of_not, none_passes}
use Rattle.lower_laws_states.proofs.Declared.{numbered_so, header_there}
use Rattle.lower_laws_states.proofs.Accepted.{declared_state}
use Rattle.lower_laws_states.proofs.Rules.{targets_right}
use Rattle.agreement_of_meanings.specs.Shown.{is_metadata, fields_of, width_of}
use Rattle.lower_laws_base.specs.Context.{StateLayout, shown_on}
use Rattle.lower_laws_base.specs.Types.{DeclsShown}
use Rattle.lower_laws_parser.specs.Deparsing.{HeadersStand}
use Rattle.lower_laws_program.proofs.Standing.{inside, its, is_plain}
use Rattle.std.proofs.Common.{map}

contains_has : {X : Type 0} (xs : List X) (x : X) → Contains xs x → Has xs x
contains_has [] x is = absurd (omega (arith, is.1))
contains_has {X} (y ∷ ys) x is = by (contains_has ys x) is.0 is.1 is.2 where
  by : (Contains ys x → Has ys x) → (k : ℕ) → k < length (y ∷ ys) → slice_index_or (y ∷ ys) k x ≡ x → Has (y ∷ ys) x
  by more zero lt e = inl e
  by more (suc k) lt e = inr (more (k, omega (arith, lt), e))

has_contains : {X : Type 0} (xs : List X) (x : X) → Has xs x → Contains xs x
has_contains [] x is = absurd is
has_contains (y ∷ ys) x (inl e) = (0, omega arith, e)
has_contains (y ∷ ys) x (inr more) = let c = has_contains ys x more in (suc c.0, omega (arith, c.1), c.2)

module _ (g : StateLayout) (ds : List Decl) (shown : DeclsShown g ds) (widths : (k : ℕ) → k < length g.names.instances → widths_at ds k ≡ map width_of (fields_of (shown_on g k))) (none : BreaksNone ds program_rules) where
  abbrev IsHeader : ℕ → Type 0
  IsHeader n = (n < length g.names.instances) × (is_metadata (shown_on g n) ≡ false)

  -- what a state extracts is a header
  pub extracted_header : (p : Parser) → Has ds (decl.Parser p) → (i : Inst) → Has p.statements (pstmt.Extract i) → (h : Header) × (instance_of ds i.name ≡ Some (decl.Header h))
  extracted_header p declared i has =
      let among : Has (extracts ds) i = has_joined extracted_in (flat_map statements_in ds) (pstmt.Extract i) i (has_joined statements_in ds (decl.Parser p) (pstmt.Extract i) declared has) (inl refl) in
      let right = none_passes (is_no_header ds) (extracts ds) i (neither (list_any (is_no_header ds) (extracts ds)) _ (targets_right ds none)).0 among in
      header_there ds i.name (of_not (is_header ds i.name) right)

  extract_is : (p : Parser) → Has ds (decl.Parser p) → (i : Inst) → Has p.statements (pstmt.Extract i) → IsHeader (instance_number ds i.name)
  extract_is p declared i has =
      let h = extracted_header p declared i has in
      let there = numbered_so ds i.name (decl.Header h.0) h.1 in (
        inside g ds shown widths (instance_number ds i.name) (decl.Header h.0) there,
        is_plain ds h.0 (shown_on g (instance_number ds i.name)) (g.size_of (instance_number ds i.name)) (its g ds shown widths (instance_number ds i.name) (decl.Header h.0) there),
      )

  extracted_is : (n : ℕ) → IsExtracted ds n → IsHeader n
  extracted_is n is =
      let there = joined_has (extracts_of ds) is.walk n (contains_has _ n is.extracted) in
      by there.0 (slice_get (states ds) there.0) refl there.2 where
        by : (s : ℕ) (o : Option Parser) → slice_get (states ds) s ≡ o → Has (option_map_or (extracts_in ds) o []) n → IsHeader n
        by s None e has = absurd has
        by s (Some p) e has =
            let d = picked_has state_in ds p (has_at (states ds) s p e) in
            let q = joined_has (extracted_by ds) p.statements n has in
            at p (subst (Has ds) (declared_state d.0 p d.2) d.1) q.0 q.1 q.2 where
              at : (p : Parser) → Has ds (decl.Parser p) → (q : PStmt) → Has p.statements q → Has (extracted_by ds q) n → IsHeader n
              at p declared (pstmt.Extract i) has (inl same) = subst IsHeader same (extract_is p declared i has)
              at p declared (pstmt.Extract i) has (inr more) = absurd more
              at p declared (pstmt.SetMetadata r v) has is = absurd is

  all_stand : (order : List ℕ) → ((n : ℕ) → Has order n → IsHeader n) → HeadersStand g order
  all_stand [] each = tt
  all_stand (n ∷ order) each = let first = each n (inl refl) in (first.0, first.1, all_stand order (λ k has. each k (inr has)))

  pub order_stands : (x : Expanded) → IsExpanded ds x → HeadersStand g x.order
  order_stands x is = all_stand x.order (λ n has. extracted_is n (is.to_order.is_order.instances.extracted n (has_contains x.order n has)))
