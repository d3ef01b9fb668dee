-- What a state of the parser leaves of the octets, and where it leads.
use Rattle.std.proofs.Common.{◌≡◌, ◌⊎◌, inl, inr, ℕ, ◌+◌, ◌*◌, ◌/◌, ◌<◌, ◌≤◌, Bool, true, false, cond, Option, Some, None, List, [], ◌∷◌, ◌++◌, length, drop, sum, fold, refl, sym, ap, ◌∙◌, subst, arith, length-drop, append_assoc}
use Rattle.std.specs.Prelude.{flat_map, filter_map, ℤ}
use Rattle.std.specs.List.{AllByRecursion}
use Rattle.std.proofs.lemmas.Bool.{ltb-true}
use Rattle.std.proofs.lemmas.List.{append-nil}
use Rattle.std.proofs.lemmas.List.Concat.{flat_map-cons}
use Rattle.p414_syntax.specs.declared.parts.Index.{Index}
use Rattle.p414_syntax.specs.declared.parts.Index.TheVariants.{At, Next, Last}
use Rattle.p414_syntax.specs.declared.parts.Inst.{Inst}
use Rattle.p414_syntax.specs.declared.parts.Ref.{Ref}
use Rattle.p414_syntax.specs.declared.parsers.PStmt.{PStmt}
use Rattle.p414_syntax.specs.declared.parsers.PStmt.TheVariants as pstmt
use Rattle.p414_syntax.specs.declared.parsers.CaseTarget.{CaseTarget}
use Rattle.p414_syntax.specs.declared.parsers.CaseTarget.TheVariants as case_target
use Rattle.p414_syntax.specs.declared.parsers.Case.{Case}
use Rattle.p414_syntax.specs.declared.parsers.Return.{Return}
use Rattle.p414_syntax.specs.declared.parsers.Return.TheVariants as end_of
use Rattle.p414_syntax.specs.declared.parsers.Parser.{Parser}
use Rattle.p414_syntax.specs.declared.syntax.Decl.{Decl}
use Rattle.p414_syntax.specs.Names.{Name}
use Rattle.p414_syntax.specs.ParserGraph.{extracted_by, extracts_in, case_target_of, targets_of}
use Rattle.p414_sem.specs.declared.standard.Standard.TheVariants.{IngressPort, EgressSpec, EgressPort, PacketLength, InstanceType}
use Rattle.p414_sem.specs.declared.parsed.Parsed.TheVariants.{OutOfPacket, OutOfBounds}
use Rattle.p414_sem.specs.Slots.{Slot, standard, declared, field_target}
use Rattle.p414_sem.specs.State.{State, is_valid, header_at, with_header, with_field, written}
use Rattle.p414_sem.specs.Packing.{widths_of}
use Rattle.p414_sem.specs.Parsing.{Latest, Progress, goes_on, stops, has_bits, is_full, filled, taken, moved, extracted_element, extracted, set, parser_value, does_next, Step, to, ended, leads, selects, matches_case, target_of_key, returns, steps, key_of, key_width}
use Rattle.lower_laws_states.specs.Expansions.{Has}

-- a header is one octet or more
abbrev pub WideStmt : List Decl → PStmt → Type 0
WideStmt ds (pstmt.Extract i) = 8 ≤ sum (widths_of ds i.name)
WideStmt ds (pstmt.SetMetadata r v) = Unit {0}

abbrev pub WideBody : List Decl → List PStmt → Type 0
WideBody ds qs = AllByRecursion (WideStmt ds) qs

-- nothing was extracted, or there are fewer octets
abbrev pub Shrinks : ℕ → List ℕ → ℕ → Type 0
Shrinks u extracts v = ((extracts ≡ []) × (v ≡ u)) ⊎ (v < u)

abbrev pub Behind : ℕ → List ℕ → Progress → Type 0
Behind u extracts (goes_on latest s) = Shrinks u extracts (length s.unparsed)
Behind u extracts (stops end s) = Unit {0}

pub unparsed_kept : (s : State) (slot : Slot) (n : ℕ) → (written s slot n).unparsed ≡ s.unparsed
unparsed_kept s (standard IngressPort) n = refl
unparsed_kept s (standard EgressSpec) n = refl
unparsed_kept s (standard EgressPort) n = refl
unparsed_kept s (standard PacketLength) n = refl
unparsed_kept s (standard InstanceType) n = refl
unparsed_kept s (declared i e k) n = by (is_valid s i e) where
  by : (valid : Bool) → (cond valid (with_header s i e (with_field (header_at s i e) k n)) s).unparsed ≡ s.unparsed
  by true = refl
  by false = refl

moved_kept : (ds : List Decl) (called : Name) (ix : Option Index) (s : State) → (moved ds (record { name = called; index = ix }) s).unparsed ≡ s.unparsed
moved_kept ds called None s = refl
moved_kept ds called (Some (At n)) s = refl
moved_kept ds called (Some Last) s = refl
moved_kept ds called (Some Next) s = refl

-- as many octets as were taken are gone
less : (bits u : ℕ) → 8 ≤ bits → bits < 8 * u + 1 → (l : List ℕ) → length l ≡ u → length (drop (bits / 8) l) < u
less bits u wide enough l is = omega (arith, length-drop (bits / 8) l, is, wide, enough)

-- it was no more before
at_most : (u v : ℕ) (extracts : List ℕ) → Shrinks u extracts v → v ≤ u
at_most u v extracts (inl a) = omega (arith, a.1)
at_most u v extracts (inr b) = omega (arith, b)

extract_behind : (ds : List Decl) (u : ℕ) (extracts : List ℕ) (i : Inst) (s : State) → 8 ≤ sum (widths_of ds i.name) → length s.unparsed ≤ u → Behind u extracts (extracted ds i s)
extract_behind ds u extracts i s wide few = by (is_full ds s i) (has_bits s (sum (widths_of ds i.name))) refl where
  t : State
  t = taken ds i (filled ds i s)

  by : (full enough : Bool) → has_bits s (sum (widths_of ds i.name)) ≡ enough → Behind u extracts (cond full (stops OutOfBounds s) (cond enough (goes_on (Some (record { instance = i; element = extracted_element ds s i })) (moved ds i t)) (stops OutOfPacket s)))
  by true enough e = tt
  by false false e = tt
  by false true e =
      let gone : length (moved ds i t).unparsed < length s.unparsed = subst (λ (l : List ℕ). length l < length s.unparsed) (sym (moved_kept ds i.name i.index t)) (less (sum (widths_of ds i.name)) (length s.unparsed) wide (ltb-true _ _ e) s.unparsed refl) in
      inr (omega (arith, gone, few))

set_behind : (ds : List Decl) (u : ℕ) (extracts : List ℕ) (r : Ref) (latest : Option Latest) (s : State) (z : Option ℤ) → Shrinks u extracts (length s.unparsed) → Behind u extracts (set ds r latest s z)
set_behind ds u extracts r latest s None before = tt
set_behind ds u extracts r latest s (Some z) before = subst (λ (l : List ℕ). Shrinks u extracts (length l)) (sym (unparsed_kept s (field_target ds r).slot _)) before

next_behind : (ds : List Decl) (u : ℕ) (q : PStmt) (progress : Progress) (extracts : List ℕ) → WideStmt ds q → Behind u extracts progress → Behind u (extracts ++ extracted_by ds q) (does_next ds progress q)
next_behind ds u (pstmt.Extract i) (goes_on latest s) extracts wide before = extract_behind ds u (extracts ++ extracted_by ds (pstmt.Extract i)) i s wide (at_most u (length s.unparsed) extracts before)
next_behind ds u (pstmt.SetMetadata r v) (goes_on latest s) extracts wide before =
    set_behind ds u (extracts ++ []) r latest s (parser_value ds latest s v) (subst (λ (l : List ℕ). Shrinks u l (length s.unparsed)) (sym (append-nil extracts)) before)
next_behind ds u q (stops end s) extracts wide before = tt

pub body_behind : (ds : List Decl) (u : ℕ) (qs : List PStmt) (progress : Progress) (extracts : List ℕ) → WideBody ds qs → Behind u extracts progress → Behind u (extracts ++ flat_map (extracted_by ds) qs) (fold (does_next ds) progress qs)
body_behind ds u [] progress extracts wide before = subst (λ (l : List ℕ). Behind u l progress) (sym (append-nil extracts)) before
body_behind ds u (q ∷ qs) progress extracts wide before =
    subst (λ (l : List ℕ). Behind u l (fold (does_next ds) (does_next ds progress q) qs)) (append_assoc extracts (extracted_by ds q) (flat_map (extracted_by ds) qs) ∙ ap (λ (l : List ℕ). extracts ++ l) (sym (flat_map-cons (extracted_by ds) q qs)))
    (body_behind ds u qs (does_next ds progress q) (extracts ++ extracted_by ds q) wide.1 (next_behind ds u q progress extracts wide.0 before))

-- names that a return leads to

-- a step that goes on, from a state that these octets are left of
abbrev pub StepBehind : List Decl → ℕ → List ℕ → Return → Step → Type 0
StepBehind ds u extracts end (to name s) = Has (targets_of end) name × Shrinks u extracts (length s.unparsed)
StepBehind ds u extracts end (ended e s) = Unit {0}

abbrev FoundIn : List Case → Option CaseTarget → Type 0
FoundIn cases (Some (case_target.State name)) = Has (filter_map case_target_of cases) name
FoundIn cases _ = Unit {0}

found_more : (c : Case) (cases : List Case) (t : Option CaseTarget) → FoundIn cases t → FoundIn (c ∷ cases) t
found_more c cases None is = tt
found_more c cases (Some (case_target.ParseError name)) is = tt
found_more c cases (Some (case_target.State name)) is = by c.target where
  by : (z : CaseTarget) → Has (filter_map case_target_of (record { values = c.values; target = z } ∷ cases)) name
  by (case_target.ParseError other) = is
  by (case_target.State other) = inr is

found_first : (c : Case) (cases : List Case) → FoundIn (c ∷ cases) (Some c.target)
found_first c cases = by c.target where
  by : (z : CaseTarget) → FoundIn (record { values = c.values; target = z } ∷ cases) (Some z)
  by (case_target.ParseError other) = tt
  by (case_target.State other) = inl refl

found_in : (width key : ℕ) (cases : List Case) → FoundIn cases (target_of_key width key cases)
found_in width key [] = tt
found_in width key (c ∷ cases) = by (matches_case width key c) (found_in width key cases) where
  by : (b : Bool) → FoundIn cases (target_of_key width key cases) → FoundIn (c ∷ cases) (cond b (Some c.target) (target_of_key width key cases))
  by true rest = found_first c cases
  by false rest = found_more c cases (target_of_key width key cases) rest

returns_behind : (ds : List Decl) (u : ℕ) (extracts : List ℕ) (end : Return) (progress : Progress) → Behind u extracts progress → StepBehind ds u extracts end (returns ds end progress)
returns_behind ds u extracts end (stops e s) before = tt
returns_behind ds u extracts (end_of.State name) (goes_on latest s) before = (inl refl, before)
returns_behind ds u extracts (end_of.ParseError name) (goes_on latest s) before = tt
returns_behind ds u extracts (end_of.Select vs cases) (goes_on latest s) before = by (key_of ds latest s vs) where
  found : (t : Option CaseTarget) → FoundIn cases t → StepBehind ds u extracts (end_of.Select vs cases) (leads s t)
  found None is = tt
  found (Some (case_target.ParseError name)) is = tt
  found (Some (case_target.State name)) is = (is, before)

  by : (key : Option ℕ) → StepBehind ds u extracts (end_of.Select vs cases) (selects (key_width ds latest vs) cases s key)
  by None = tt
  by (Some key) = found (target_of_key (key_width ds latest vs) key cases) (found_in (key_width ds latest vs) key cases)

pub step_behind : (ds : List Decl) (p : Parser) (s : State) → WideBody ds p.statements → StepBehind ds (length s.unparsed) (extracts_in ds p) p.end (steps ds p s)
step_behind ds p s wide =
    returns_behind ds (length s.unparsed) (extracts_in ds p) p.end (fold (does_next ds) (goes_on None s) p.statements)
    (body_behind ds (length s.unparsed) p.statements (goes_on None s) [] wide (inl (refl, refl)))
