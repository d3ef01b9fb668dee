-- The rows of statements do the same.
use Rattle.std.proofs.Common.{◌≡◌, ℕ, ◌%◌, ◌^◌, Bool, true, false, cond, ℤ, List, [], ◌∷◌, Option, Some, None, option_map, refl, sym, ap, ◌∙◌, subst}
use Rattle.std.specs.Prelude.{fold, sum}
use Rattle.p4x_bits.specs.BitLists.{octet_bits}
use Rattle.p414_syntax.specs.declared.parts.Index.{Index}
use Rattle.p414_syntax.specs.declared.parts.Index.TheVariants.{At, Next, Last}
use Rattle.p414_syntax.specs.declared.parts.Inst.{Inst}
use Rattle.p414_syntax.specs.declared.parts.Ref.{Ref}
use Rattle.p414_syntax.specs.declared.parsers.PStmt.{PStmt}
use Rattle.p414_syntax.specs.declared.parsers.PStmt.TheVariants as pstmt
use Rattle.p414_syntax.specs.declared.syntax.Decl.{Decl}
use Rattle.p414_syntax.specs.Names.{Name}
use Rattle.p414_syntax.specs.ParserGraph.{instance_number}
use Rattle.p414_syntax.specs.Uses.{last_behind, last_of}
use Rattle.p414_sem.specs.declared.parsed.Parsed.{Parsed}
use Rattle.p414_sem.specs.declared.parsed.Parsed.TheVariants.{OutOfPacket, OutOfBounds}
use Rattle.p414_sem.specs.Packing.{widths_of, numbers_in}
use Rattle.p414_sem.specs.Parsing.{Latest, latest_instance, Progress, goes_on, stops, parser_value, has_bits, is_full, extracted, moved, taken, filled, extracted_element, set, does, does_next}
use Rattle.p414_sem.specs.Slots.{Slot, bits_of_ref, slot_of}
use Rattle.p414_sem.specs.State.{State, with_header, written}
use Rattle.p414_sem.specs.Wholes.{wrapped}
use Rattle.p414_slots.specs.Shown.{slot_in, kept_slot}
use Rattle.p414_ready_parser.specs.Meaning.{AreWidthsOf}
use Rattle.p414_ready_parser.specs.declared.rows.ReadyStatement.{ReadyStatement}
use Rattle.p414_ready_parser.specs.Rows.{statement_row, statement_rows, fixed_element}
use Rattle.p414_ready_parser.specs.Running as run
use Rattle.p414_ready_parser.proofs.Valuing.{element_in, slot_back, low, value_is}

-- behind some statements, as rows tell it
abbrev pub going : Progress → run.Going
going (goes_on l s) = run.goes_on (element_in l) s
going (stops end s) = run.stops end s

-- where it goes on, this was extracted last
abbrev pub EndsWith : Progress → Option Inst → Type 0
EndsWith (goes_on l s) last = option_map latest_instance l ≡ last
EndsWith (stops end s) last = Unit {0}

-- an extraction

both : (full there : Bool) (l : Option Latest) (s a b : State) → a ≡ b
    → going (cond full (stops OutOfBounds s) (cond there (goes_on l a) (stops OutOfPacket s)))
    ≡ cond full (run.stops OutOfBounds s) (cond there (run.goes_on (element_in l) b) (run.stops OutOfPacket s))
both true there l s a b e = refl
both false true l s a b e = ap (run.goes_on (element_in l)) e
both false false l s a b e = refl

module _ (ds : List Decl) (widths : ℕ → List ℕ) (are : AreWidthsOf ds widths) where
  filled_is : (name : Name) (element : ℕ) (s : State)
      → with_header s (instance_number ds name) element (record { valid = true; numbers = numbers_in (widths_of ds name) (octet_bits s.unparsed) })
      ≡ run.filled_by widths (instance_number ds name) element s
  filled_is name element s = ap (λ (ws : List ℕ). with_header s (instance_number ds name) element (record { valid = true; numbers = numbers_in ws (octet_bits s.unparsed) })) (sym (are name))

  extract_is : (name : Name) (o : Option Index) (s : State) → going (extracted ds (record { name = name; index = o }) s) ≡ run.extract_row widths (instance_number ds name) (fixed_element o) (sum (widths_of ds name)) s
  extract_is name None s = both false (has_bits s (sum (widths_of ds name))) (Some (record { instance = record { name = name; index = None }; element = 0 })) s _ _ (ap (run.taken_off (sum (widths_of ds name))) (filled_is name 0 s))
  extract_is name (Some (At n)) s = both false (has_bits s (sum (widths_of ds name))) (Some (record { instance = record { name = name; index = Some (At n) }; element = n.value })) s _ _ (ap (run.taken_off (sum (widths_of ds name))) (filled_is name n.value s))
  extract_is name (Some Last) s = both false (has_bits s (sum (widths_of ds name))) (Some (record { instance = record { name = name; index = Some Last }; element = 0 })) s _ _ (ap (run.taken_off (sum (widths_of ds name))) (filled_is name 0 s))
  extract_is name (Some Next) s =
      both (run.is_past s (instance_number ds name) None) (has_bits s (sum (widths_of ds name)))
      (Some (record { instance = record { name = name; index = Some Next }; element = run.element_at s (instance_number ds name) None })) s _ _
      (ap (λ t. run.moved_on (instance_number ds name) None (run.taken_off (sum (widths_of ds name)) t)) (filled_is name (run.element_at s (instance_number ds name) None) s))

  -- a field that gets a value

  set_by : (r : Ref) (l : Option Latest) (s : State) (o : Option ℤ) (p : Option ℕ) → option_map (wrapped (bits_of_ref ds r)) o ≡ option_map (low (bits_of_ref ds r)) p
      → going (set ds r l s o) ≡ run.set_row (element_in l) s (λ t n. written t (slot_in (kept_slot (slot_of ds r))) (n % 2 ^ bits_of_ref ds r)) p
  set_by r l s None None e = refl
  set_by r l s None (Some n) e = absurd (cc e)
  set_by r l s (Some z) None e = absurd (cc e)
  set_by r l s (Some z) (Some n) e =
      let value : wrapped (bits_of_ref ds r) z ≡ n % 2 ^ bits_of_ref ds r = cc e in
      ap (λ (slot : Slot). run.goes_on (element_in l) (written s slot (wrapped (bits_of_ref ds r) z))) (sym (slot_back (slot_of ds r)))
      ∙ ap (λ k. run.goes_on (element_in l) (written s (slot_in (kept_slot (slot_of ds r))) k)) value

  does_is : (st : PStmt) (l : Option Latest) (s : State) → going (does ds st l s) ≡ run.do_row widths (statement_row ds (option_map latest_instance l) st) (element_in l) s
  does_is (pstmt.Extract i) l s = extract_is i.name i.index s
  does_is (pstmt.SetMetadata r v) l s = set_by r l s (parser_value ds l s v) _ (value_is ds l s (bits_of_ref ds r) v)

  -- what was extracted last

  last_extracted : (full there : Bool) (i : Inst) (element : ℕ) (s a : State) → EndsWith (cond full (stops OutOfBounds s) (cond there (goes_on (Some (record { instance = i; element = element })) a) (stops OutOfPacket s))) (Some i)
  last_extracted true there i element s a = _
  last_extracted false true i element s a = refl
  last_extracted false false i element s a = _

  last_set : (r : Ref) (l : Option Latest) (s : State) (o : Option ℤ) → EndsWith (set ds r l s o) (option_map latest_instance l)
  last_set r l s None = _
  last_set r l s (Some z) = refl

  does_last : (st : PStmt) (l : Option Latest) (s : State) → EndsWith (does ds st l s) (last_behind (option_map latest_instance l) st)
  does_last (pstmt.Extract i) l s = last_extracted (is_full ds s i) (has_bits s (sum (widths_of ds i.name))) i (extracted_element ds s i) s (moved ds i (taken ds i (filled ds i s)))
  does_last (pstmt.SetMetadata r v) l s = last_set r l s (parser_value ds l s v)

  -- all statements

  stopped : (end : Parsed) (s : State) (statements : List PStmt) → fold (does_next ds) (stops end s) statements ≡ stops end s
  stopped end s [] = refl
  stopped end s (st ∷ statements) = stopped end s statements

  stopped_rows : (end : Parsed) (s : State) (rows : List ReadyStatement) → fold (run.do_next widths) (run.stops end s) rows ≡ run.stops end s
  stopped_rows end s [] = refl
  stopped_rows end s (r ∷ rows) = stopped_rows end s rows

  abbrev AllDo : List PStmt → Type 0
  AllDo statements = (l : Option Latest) (s : State) → going (fold (does_next ds) (goes_on l s) statements) ≡ fold (run.do_next widths) (run.goes_on (element_in l) s) (statement_rows ds (option_map latest_instance l) statements)

  behind : (statements : List PStmt) (p : Progress) (last : Option Inst) → EndsWith p last → AllDo statements → going (fold (does_next ds) p statements) ≡ fold (run.do_next widths) (going p) (statement_rows ds last statements)
  behind statements (goes_on l s) last e h = h l s ∙ ap (λ i. fold (run.do_next widths) (run.goes_on (element_in l) s) (statement_rows ds i statements)) e
  behind statements (stops end s) last e h = ap going (stopped end s statements) ∙ sym (stopped_rows end s (statement_rows ds last statements))

  pub all_do : (statements : List PStmt) → AllDo statements
  all_do [] l s = refl
  all_do (st ∷ statements) l s =
      behind statements (does ds st l s) (last_behind (option_map latest_instance l) st) (does_last st l s) (all_do statements)
      ∙ ap (λ g. fold (run.do_next widths) g (statement_rows ds (last_behind (option_map latest_instance l) st) statements)) (does_is st l s)

  abbrev AllEnd : List PStmt → Type 0
  AllEnd statements = (l : Option Latest) (s : State) → EndsWith (fold (does_next ds) (goes_on l s) statements) (last_of (option_map latest_instance l) statements)

  ends_behind : (statements : List PStmt) (p : Progress) (last : Option Inst) → EndsWith p last → AllEnd statements → EndsWith (fold (does_next ds) p statements) (last_of last statements)
  ends_behind statements (goes_on l s) last e h = subst (λ i. EndsWith (fold (does_next ds) (goes_on l s) statements) (last_of i statements)) e (h l s)
  ends_behind statements (stops end s) last e h = subst (λ p. EndsWith p (last_of last statements)) (sym (stopped end s statements)) _

  pub all_end : (statements : List PStmt) → AllEnd statements
  all_end [] l s = refl
  all_end (st ∷ statements) l s = ends_behind statements (does ds st l s) (last_behind (option_map latest_instance l) st) (does_last st l s) (all_end statements)
