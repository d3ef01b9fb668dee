-- The methods of counters, registers and meters do what their ready externs do.
use Rattle.std.proofs.Common.{◌≡◌, ℕ, ◌==◌, Bool, true, false, cond, Option, Some, None, IfSome, List, [], ◌∷◌, ◌++◌, length, refl, ap, ◌∙◌, subst}
use Rattle.std.specs.Prelude.{option_map, codes}
use Rattle.p416_syntax.specs.declared.controls.Local.{Local}
use Rattle.p416_syntax.specs.declared.program.Syntax16.{Syntax16}
use Rattle.p416_syntax.specs.Tree.{Exp16, member, call}
use Rattle.p416_syntax.specs.Names.{Name}
use Rattle.p416_syntax.specs.Kinds.{Kind, ObjectKind, counter, direct_counter, register, meter, object}
use Rattle.p416_syntax.specs.Scopes.{Scope}
use Rattle.p416_syntax.specs.Calls.{Place, statement, any_bits, written_bits, index_place, Signature, method_signature, object_method}
use Rattle.p416_syntax.specs.Expressions.{kind_of, signature_of}
use Rattle.p416_syntax.specs.Uses.{arguments_of, wanted_by}
use Rattle.p416_syntax.specs.Breaks.{BreaksNone, program_rules}
use Rattle.p416_syntax.specs.Declarations.{layouts_of}
use Rattle.v1_core.specs.Frames as sem
use Rattle.v1_core.specs.Slots.{variable_kinds}
use Rattle.v1_core.specs.Signatures.{object_number, plane_of_object}
use Rattle.v1_core.specs.Surroundings as meaning
use Rattle.v1_core.specs.Numbered.{InScope}
use Rattle.v1_core.specs.Expressions.{name_in}
use Rattle.v1_core.specs.Calls as calls
use Rattle.v1_core.specs.Calls.{arguments_from, object_in, object_call, method_call, call_statement}
use Rattle.v1_core.specs.Externs.Objects as objects
use Rattle.v1_core.specs.Cells.{Cells}
use Rattle.v1_core.specs.Scopes.{IsScope}
use Rattle.v1_ready_forms.specs.Named.{NamedSeat, seats_in}
use Rattle.v1_ready_laws.specs.Rules.{NamesSeated}
use Rattle.v1_block_laws.specs.Keeping.{Each, ArgumentsKeep}
use Rattle.v1_block_laws.proofs.Calling.{call_kept}
use Rattle.v1_ready_blocks.specs.declared.places.Target.{Target}
use Rattle.v1_ready_blocks.specs.declared.externs.Extern.TheVariants as extern
use Rattle.v1_ready_blocks.specs.Moments.{Moment}
use Rattle.v1_ready_blocks.specs.Tests.{World}
use Rattle.v1_ready_blocks.specs.Externs as externs
use Rattle.v1_ready_blocks.specs.Externs.{Given, executed}
use Rattle.v1_ready_blocks.specs.Arguments.{Argument, nothing_given}
use Rattle.v1_ready_blocks.specs.Statements.{Deed}
use Rattle.v1_core.specs.Frames.{Hit}
use Rattle.v1_deed_laws.specs.Externs.{IsTarget}
use Rattle.v1_deed_laws.proofs.Externs.{count_shows, count_entry_shows, read_shows, write_shows, meter_shows}
use Rattle.v1_ready_statements.specs.Around.{Around, object_found, standard_slot}
use Rattle.v1_ready_statements.specs.Targets.{target_given}
use Rattle.v1_ready_statements.specs.Given.{join_option, given_at, value_given}
use Rattle.v1_ready_statements.specs.Called.{executes, with_target, object_deed}
use Rattle.v1_value_laws.specs.Kinds.{Fine}
use Rattle.v1_value_laws.proofs.Taken.{taken}
use Rattle.v1_statement_laws.specs.Behind.{Shown}
use Rattle.v1_call_laws.specs.Telling.{ToldNone, IsValueOf, TestsTell}
use Rattle.v1_call_laws.specs.Calling.{IsAround, StandardIsOwn, CallFits}
use Rattle.v1_call_laws.proofs.Arguments.{one_value, aside, handed_over, Gives, Nothing, First, only_one, only_two, nothing_given as none_given, first_given, value_gives}
use Rattle.v1_call_laws.proofs.Handing.{index_small, target_gives}
use Rattle.v1_call_laws.proofs.Fields.{length_stands}
use Rattle.v1_call_laws.proofs.Functions.{take_one, take_two, by_word, same_word, trimmed, IfAlike, extern_alike}

module _ (P : Cells → Type 0) (b : Around) (w : meaning.World) (z : World) (s : Scope) (who : InScope) (accepted : BreaksNone b.syntax program_rules) (layouts : s.layouts ≡ layouts_of b.syntax.decls) (seated : NamesSeated s (seats_in b.syntax w.around.roots who)) (fine : Fine s) (scope : IsScope (length (variable_kinds b.syntax)) who) (tell : TestsTell P b w z s who) (own : StandardIsOwn b.syntax) where
  abbrev seats : List NamedSeat
  seats = seats_in b.syntax w.around.roots who

  abbrev CallIs : Exp16 → Exp16 → List Place → List Exp16 → (List calls.Given → sem.Moment → sem.Moment) → Type 0
  CallIs callee handed places es F = (m : sem.Moment) → call_statement w s (call callee handed) m ≡ F (arguments_from w s places es m).given (arguments_from w s places es m).moment

  abbrev Alike : Exp16 → Exp16 → Option Deed → Type 0
  Alike callee handed d = IfAlike P b w z s who accepted layouts seated fine scope callee handed d

  -- an index
  index_gives : (e : Exp16) → ArgumentsKeep s (index_place ∷ []) (e ∷ []) → ToldNone s e → IfSome (value_given b s seats index_place e) (λ list. Gives P b w z s who index_place e list one_value (λ x. IsValueOf index_place (kind_of s e) x.value))
  index_gives e keeps told = value_gives P b w z s who tell index_place e refl keeps.0 told

  counts : (callee handed e : Exp16) (number : ℕ) → CallIs callee handed (index_place ∷ []) (e ∷ []) (object_call counter (codes "count") number) → ArgumentsKeep s (index_place ∷ []) (e ∷ []) → ToldNone s e → Alike callee handed (executes (option_map (λ length. extern.Count number length) (standard_slot b (codes "packet_length"))) (value_given b s seats index_place e))
  counts callee handed e number leaves keeps told = by (standard_slot b (codes "packet_length")) (value_given b s seats index_place e) refl (index_gives e keeps told) where
    A : calls.Given → Type 0
    A x = IsValueOf index_place (kind_of s e) x.value

    there : (slot : ℕ) (x : calls.Given) (m : sem.Moment) (k : Moment) → standard_slot b (codes "packet_length") ≡ Some slot → A x → Shown P b.syntax who m k → Shown P b.syntax who (object_call counter (codes "count") number (x ∷ []) m) (executed (extern.Count number slot) (handed_over (one_value ∷ []) (x ∷ []) nothing_given) k)
    there slot x m k at index h = record {
      shows = count_shows b.syntax who number slot (handed_over (one_value ∷ []) (x ∷ []) nothing_given) m k (length_stands b slot own at) (index_small e (kind_of s e) x.value (taken s index_place e keeps.0.0) index) accepted h.shows;
      waits = h.waits;
    }

    by : (o : Option ℕ) (l : Option (List Argument)) → standard_slot b (codes "packet_length") ≡ o → IfSome l (λ list. Gives P b w z s who index_place e list one_value A) → Alike callee handed (executes (option_map (λ length. extern.Count number length) o) l)
    by None l at f = tt
    by (Some slot) None at f = tt
    by (Some slot) (Some l) at f =
        extern_alike P b w z s who accepted layouts seated fine scope callee handed (index_place ∷ []) (e ∷ []) (extern.Count number slot) l (one_value ∷ []) (First A Nothing) (object_call counter (codes "count") number) leaves
        (trimmed P b w z s who (index_place ∷ []) (e ∷ []) l (one_value ∷ []) (First A Nothing) (first_given P b w z s who index_place e [] [] l [] one_value [] A Nothing f (none_given P b w z s who [])))
        (λ xs m k g h. only_one A (λ ys. Shown P b.syntax who (object_call counter (codes "count") number ys m) (executed (extern.Count number slot) (handed_over (one_value ∷ []) ys nothing_given) k)) (λ x index. there slot x m k at index h) xs g)

  counts_entry : (callee handed : Exp16) (es : List Exp16) (number : ℕ) → CallIs callee handed [] es (object_call direct_counter (codes "count") number) → Alike callee handed (executes (option_map (λ length. extern.CountEntry number length) (standard_slot b (codes "packet_length"))) (Some []))
  counts_entry callee handed es number leaves = by (standard_slot b (codes "packet_length")) refl where
    waiting : (slot : ℕ) (k : Moment) → P k.waiting → P (externs.count_entry number slot k).waiting
    waiting slot k h = by_hit k.hit where
      one : (t : Bool) (x : Hit) → P (cond t (externs.count number slot x.entry k) k).waiting
      one true x = h
      one false x = h

      entry : Option Hit → Moment
      entry (Some x) = cond (x.counter == number) (externs.count number slot x.entry k) k
      entry None = k

      by_hit : (o : Option Hit) → P (entry o).waiting
      by_hit (Some x) = one (x.counter == number) x
      by_hit None = h

    there : (slot : ℕ) (m : sem.Moment) (k : Moment) → standard_slot b (codes "packet_length") ≡ Some slot → Shown P b.syntax who m k → Shown P b.syntax who (objects.count_entry number m) (executed (extern.CountEntry number slot) nothing_given k)
    there slot m k at h = record {
      shows = count_entry_shows b.syntax who number slot nothing_given m k (length_stands b slot own at) accepted h.shows;
      waits = waiting slot k h.waits;
    }

    by : (o : Option ℕ) → standard_slot b (codes "packet_length") ≡ o → Alike callee handed (executes (option_map (λ length. extern.CountEntry number length) o) (Some []))
    by None at = tt
    by (Some slot) at =
        extern_alike P b w z s who accepted layouts seated fine scope callee handed [] es (extern.CountEntry number slot) [] [] Nothing (object_call direct_counter (codes "count") number) leaves
        (none_given P b w z s who es) (λ xs m k g h. there slot m k at h)

  reads : (callee handed a c : Exp16) (number : ℕ) → CallIs callee handed (written_bits ∷ index_place ∷ []) (a ∷ c ∷ []) (object_call register (codes "read") number) → ArgumentsKeep s (written_bits ∷ index_place ∷ []) (a ∷ c ∷ []) → Each (ToldNone s) (a ∷ c ∷ []) → Alike callee handed (executes (with_target (λ to. extern.Read number to) (target_given s seats a)) (value_given b s seats index_place c))
  reads callee handed a c number leaves keeps told = by (target_given s seats a) (value_given b s seats index_place c) refl (index_gives c keeps.1 told.1.0) where
    A : Target → calls.Given → Type 0
    A to x = IsTarget b.syntax who x.target to

    C : calls.Given → Type 0
    C x = IsValueOf index_place (kind_of s c) x.value

    there : (to : Target) (x y : calls.Given) (m : sem.Moment) (k : Moment) → A to x → C y → Shown P b.syntax who m k → Shown P b.syntax who (object_call register (codes "read") number (x ∷ y ∷ []) m) (executed (extern.Read number to) (handed_over (aside ∷ one_value ∷ []) (x ∷ y ∷ []) nothing_given) k)
    there to x y m k at index h = record {
      shows = read_shows b.syntax who number x.target to (handed_over (aside ∷ one_value ∷ []) (x ∷ y ∷ []) nothing_given) m k accepted scope at (index_small c (kind_of s c) y.value (taken s index_place c keeps.1.0.0) index) h.shows;
      waits = h.waits;
    }

    by : (o : Option Target) (l : Option (List Argument)) → target_given s seats a ≡ o → IfSome l (λ list. Gives P b w z s who index_place c list one_value C) → Alike callee handed (executes (with_target (λ to. extern.Read number to) o) l)
    by None l at f = tt
    by (Some to) None at f = tt
    by (Some to) (Some l) at f =
        extern_alike P b w z s who accepted layouts seated fine scope callee handed (written_bits ∷ index_place ∷ []) (a ∷ c ∷ []) (extern.Read number to) l (aside ∷ one_value ∷ []) (First (A to) (First C Nothing)) (object_call register (codes "read") number) leaves
        (first_given P b w z s who written_bits a (index_place ∷ []) (c ∷ []) [] l aside (one_value ∷ []) (A to) (First C Nothing) (target_gives P b w z s who accepted layouts seated fine a to (taken s written_bits a keeps.0.0) at)
        (trimmed P b w z s who (index_place ∷ []) (c ∷ []) l (one_value ∷ []) (First C Nothing) (first_given P b w z s who index_place c [] [] l [] one_value [] C Nothing f (none_given P b w z s who []))))
        (λ xs m k g h. only_two (A to) C (λ ys. Shown P b.syntax who (object_call register (codes "read") number ys m) (executed (extern.Read number to) (handed_over (aside ∷ one_value ∷ []) ys nothing_given) k)) (λ x y at_x index. there to x y m k at_x index h) xs g)

  writes : (callee handed a c : Exp16) (number : ℕ) → CallIs callee handed (index_place ∷ any_bits ∷ []) (a ∷ c ∷ []) (object_call register (codes "write") number) → ArgumentsKeep s (index_place ∷ any_bits ∷ []) (a ∷ c ∷ []) → Each (ToldNone s) (a ∷ c ∷ []) → Alike callee handed (executes (Some (extern.Write number)) (join_option (value_given b s seats index_place a) (value_given b s seats any_bits c)))
  writes callee handed a c number leaves keeps told = by (value_given b s seats index_place a) (value_given b s seats any_bits c) (value_gives P b w z s who tell index_place a refl keeps.0 told.0) (value_gives P b w z s who tell any_bits c refl keeps.1.0 told.1.0) where
    A : calls.Given → Type 0
    A x = IsValueOf index_place (kind_of s a) x.value

    C : calls.Given → Type 0
    C x = IsValueOf any_bits (kind_of s c) x.value

    there : (x y : calls.Given) (m : sem.Moment) (k : Moment) → A x → Shown P b.syntax who m k → Shown P b.syntax who (object_call register (codes "write") number (x ∷ y ∷ []) m) (executed (extern.Write number) (handed_over (one_value ∷ one_value ∷ []) (x ∷ y ∷ []) nothing_given) k)
    there x y m k index h = record {
      shows = write_shows b.syntax who number (handed_over (one_value ∷ one_value ∷ []) (x ∷ y ∷ []) nothing_given) m k (index_small a (kind_of s a) x.value (taken s index_place a keeps.0.0) index) h.shows;
      waits = h.waits;
    }

    by : (l q : Option (List Argument)) → IfSome l (λ list. Gives P b w z s who index_place a list one_value A) → IfSome q (λ list. Gives P b w z s who any_bits c list one_value C) → Alike callee handed (executes (Some (extern.Write number)) (join_option l q))
    by None q f g = tt
    by (Some l) None f g = tt
    by (Some l) (Some q) f g =
        extern_alike P b w z s who accepted layouts seated fine scope callee handed (index_place ∷ any_bits ∷ []) (a ∷ c ∷ []) (extern.Write number) (l ++ q) (one_value ∷ one_value ∷ []) (First A (First C Nothing)) (object_call register (codes "write") number) leaves
        (first_given P b w z s who index_place a (any_bits ∷ []) (c ∷ []) l q one_value (one_value ∷ []) A (First C Nothing) f
        (trimmed P b w z s who (any_bits ∷ []) (c ∷ []) q (one_value ∷ []) (First C Nothing) (first_given P b w z s who any_bits c [] [] q [] one_value [] C Nothing g (none_given P b w z s who []))))
        (λ xs m k i h. only_two A C (λ ys. Shown P b.syntax who (object_call register (codes "write") number ys m) (executed (extern.Write number) (handed_over (one_value ∷ one_value ∷ []) ys nothing_given) k)) (λ x y index cy. there x y m k index h) xs i)

  executes_meter : (callee handed a c : Exp16) (number : ℕ) → CallIs callee handed (index_place ∷ written_bits ∷ []) (a ∷ c ∷ []) (object_call meter (codes "execute_meter") number) → ArgumentsKeep s (index_place ∷ written_bits ∷ []) (a ∷ c ∷ []) → Each (ToldNone s) (a ∷ c ∷ []) → Alike callee handed (executes (with_target (λ to. extern.ExecuteMeter number to) (target_given s seats c)) (value_given b s seats index_place a))
  executes_meter callee handed a c number leaves keeps told = by (target_given s seats c) (value_given b s seats index_place a) refl (value_gives P b w z s who tell index_place a refl keeps.0 told.0) where
    A : calls.Given → Type 0
    A x = IsValueOf index_place (kind_of s a) x.value

    C : Target → calls.Given → Type 0
    C to x = IsTarget b.syntax who x.target to

    there : (to : Target) (x y : calls.Given) (m : sem.Moment) (k : Moment) → A x → C to y → Shown P b.syntax who m k → Shown P b.syntax who (object_call meter (codes "execute_meter") number (x ∷ y ∷ []) m) (executed (extern.ExecuteMeter number to) (handed_over (one_value ∷ aside ∷ []) (x ∷ y ∷ []) nothing_given) k)
    there to x y m k index at h = record {
      shows = meter_shows b.syntax who number y.target to (handed_over (one_value ∷ aside ∷ []) (x ∷ y ∷ []) nothing_given) m k accepted scope at (index_small a (kind_of s a) x.value (taken s index_place a keeps.0.0) index) h.shows;
      waits = h.waits;
    }

    by : (o : Option Target) (l : Option (List Argument)) → target_given s seats c ≡ o → IfSome l (λ list. Gives P b w z s who index_place a list one_value A) → Alike callee handed (executes (with_target (λ to. extern.ExecuteMeter number to) o) l)
    by None l at f = tt
    by (Some to) None at f = tt
    by (Some to) (Some l) at f =
        extern_alike P b w z s who accepted layouts seated fine scope callee handed (index_place ∷ written_bits ∷ []) (a ∷ c ∷ []) (extern.ExecuteMeter number to) l (one_value ∷ aside ∷ []) (First A (First (C to) Nothing)) (object_call meter (codes "execute_meter") number) leaves
        (trimmed P b w z s who (index_place ∷ written_bits ∷ []) (a ∷ c ∷ []) l (one_value ∷ aside ∷ []) (First A (First (C to) Nothing))
        (first_given P b w z s who index_place a (written_bits ∷ []) (c ∷ []) l [] one_value (aside ∷ []) A (First (C to) Nothing) f
        (first_given P b w z s who written_bits c [] [] [] [] aside [] (C to) Nothing (target_gives P b w z s who accepted layouts seated fine c to (taken s written_bits c keeps.1.0.0) at) (none_given P b w z s who []))))
        (λ xs m k g h. only_two A (C to) (λ ys. Shown P b.syntax who (object_call meter (codes "execute_meter") number ys m) (executed (extern.ExecuteMeter number to) (handed_over (one_value ∷ aside ∷ []) ys nothing_given) k)) (λ x y index at_y. there to x y m k index at_y h) xs g)

  -- by the kind of object and the word

  number_is : (e : Exp16) → IsAround b w.around → object_in w e ≡ object_found b e
  number_is e around =
      ap (λ (syntax : Syntax16). object_number syntax (plane_of_object syntax.decls w.around.locals (name_in e))) around.syntax
      ∙ ap (λ (locals : List Local). object_number b.syntax (plane_of_object b.syntax.decls locals (name_in e))) around.locals

  calls_by : (e handed : Exp16) (word known : Name) (kind : ObjectKind) → IsAround b w.around → kind_of s e ≡ object kind → word ≡ known → CallIs (member e word) handed (wanted_by (object_method kind known)) (arguments_of handed) (object_call kind known (object_found b e))
  calls_by e handed word known kind around is same m =
      ap (λ (j : Kind). method_call w s j e word handed m) is
      ∙ (ap (λ (t : Name). let x = arguments_from w s (wanted_by (object_method kind t)) (arguments_of handed) m in object_call kind t (object_in w e) x.given x.moment) same
      ∙ ap (λ (n : ℕ). let x = arguments_from w s (wanted_by (object_method kind known)) (arguments_of handed) m in object_call kind known n x.given x.moment) (number_is e around))

  record Prepared (kind : ObjectKind) (known : Name) (es : List Exp16) : Type 0 where
    keeps : ArgumentsKeep s (wanted_by (object_method kind known)) es
    count : IfSome (object_method kind known) (λ (g : Signature). length es ≡ length g.wanted)
    told : Each (ToldNone s) es

  prepared : (e handed : Exp16) (word known : Name) (kind : ObjectKind) → kind_of s e ≡ object kind → word ≡ known → CallFits s (member e word) handed → Prepared kind known (arguments_of handed)
  prepared e handed word known kind is same fits =
      let signature : signature_of s (member e word) ≡ object_method kind known = ap (λ (j : Kind). method_signature j word) is ∙ ap (object_method kind) same in
      record {
        keeps = subst (λ (o : Option Signature). ArgumentsKeep s (wanted_by o) (arguments_of handed)) signature (call_kept s statement (member e word) handed fits.keeps);
        count = subst (λ (o : Option Signature). IfSome o (λ g. length (arguments_of handed) ≡ length g.wanted)) signature fits.count;
        told = fits.told;
      }

  pub object_called : (e handed : Exp16) (word : Name) (kind : ObjectKind) → IsAround b w.around → kind_of s e ≡ object kind → CallFits s (member e word) handed → Alike (member e word) handed (object_deed b s seats kind word (object_found b e) (arguments_of handed))
  object_called e handed word counter around is fits =
      by_word (Alike (member e word) handed) word (codes "count") _ _ (λ same. let known : word ≡ codes "count" = same_word word (codes "count") same in let p : Prepared counter (codes "count") (arguments_of handed) = prepared e handed word (codes "count") counter is known fits in
      take_one (λ es. CallIs (member e word) handed (index_place ∷ []) es (object_call counter (codes "count") (object_found b e)) → ArgumentsKeep s (index_place ∷ []) es → Each (ToldNone s) es → Alike (member e word) handed (executes (option_map (λ length. extern.Count (object_found b e) length) (standard_slot b (codes "packet_length"))) (value_given b s seats index_place (given_at es 0)))) (λ a leaves keeps told. counts (member e word) handed a (object_found b e) leaves keeps told.0) (arguments_of handed) p.count (calls_by e handed word (codes "count") counter around is known) p.keeps p.told)
      tt
  object_called e handed word direct_counter around is fits =
      by_word (Alike (member e word) handed) word (codes "count") _ _ (λ same. counts_entry (member e word) handed (arguments_of handed) (object_found b e) (calls_by e handed word (codes "count") direct_counter around is (same_word word (codes "count") same)))
      tt
  object_called e handed word register around is fits =
      by_word (Alike (member e word) handed) word (codes "read") _ _ (λ same. let known : word ≡ codes "read" = same_word word (codes "read") same in let p : Prepared register (codes "read") (arguments_of handed) = prepared e handed word (codes "read") register is known fits in
      take_two (λ es. CallIs (member e word) handed (written_bits ∷ index_place ∷ []) es (object_call register (codes "read") (object_found b e)) → ArgumentsKeep s (written_bits ∷ index_place ∷ []) es → Each (ToldNone s) es → Alike (member e word) handed (executes (with_target (λ to. extern.Read (object_found b e) to) (target_given s seats (given_at es 0))) (value_given b s seats index_place (given_at es 1)))) (λ a c leaves keeps told. reads (member e word) handed a c (object_found b e) leaves keeps told) (arguments_of handed) p.count (calls_by e handed word (codes "read") register around is known) p.keeps p.told)
      (by_word (Alike (member e word) handed) word (codes "write") _ _ (λ same. let known : word ≡ codes "write" = same_word word (codes "write") same in let p : Prepared register (codes "write") (arguments_of handed) = prepared e handed word (codes "write") register is known fits in
      take_two (λ es. CallIs (member e word) handed (index_place ∷ any_bits ∷ []) es (object_call register (codes "write") (object_found b e)) → ArgumentsKeep s (index_place ∷ any_bits ∷ []) es → Each (ToldNone s) es → Alike (member e word) handed (executes (Some (extern.Write (object_found b e))) (join_option (value_given b s seats index_place (given_at es 0)) (value_given b s seats any_bits (given_at es 1))))) (λ a c leaves keeps told. writes (member e word) handed a c (object_found b e) leaves keeps told) (arguments_of handed) p.count (calls_by e handed word (codes "write") register around is known) p.keeps p.told)
      tt)
  object_called e handed word meter around is fits =
      by_word (Alike (member e word) handed) word (codes "execute_meter") _ _ (λ same. let known : word ≡ codes "execute_meter" = same_word word (codes "execute_meter") same in let p : Prepared meter (codes "execute_meter") (arguments_of handed) = prepared e handed word (codes "execute_meter") meter is known fits in
      take_two (λ es. CallIs (member e word) handed (index_place ∷ written_bits ∷ []) es (object_call meter (codes "execute_meter") (object_found b e)) → ArgumentsKeep s (index_place ∷ written_bits ∷ []) es → Each (ToldNone s) es → Alike (member e word) handed (executes (with_target (λ to. extern.ExecuteMeter (object_found b e) to) (target_given s seats (given_at es 1))) (value_given b s seats index_place (given_at es 0)))) (λ a c leaves keeps told. executes_meter (member e word) handed a c (object_found b e) leaves keeps told) (arguments_of handed) p.count (calls_by e handed word (codes "execute_meter") meter around is known) p.keeps p.told)
      tt
