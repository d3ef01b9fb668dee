-- The functions of `v1model.p4` do what their ready externs do.
use Rattle.std.proofs.Common.{◌≡◌, ℕ, ◌&&◌, Bool, true, false, cond, Option, Some, None, IfSome, List, [], ◌∷◌, ◌++◌, length, refl, sym, ap, ◌∙◌, subst, arith}
use Rattle.std.specs.Prelude.{option_map, codes}
use Rattle.std.specs.Str.{bytes_eq}
use Rattle.std.proofs.lemmas.Slice.Eq.{bytes_eq-Decides}
use Rattle.std.proofs.lemmas.List.{append-nil}
use Rattle.calc_core.specs.Calculations.{csum16, crc16, crc32, identity}
use Rattle.fabric.specs.declared.items.RequestKind.{RequestKind}
use Rattle.fabric.specs.declared.items.RequestKind.TheVariants.{Resubmit, Recirculate}
use Rattle.p416_syntax.specs.declared.parts.HashAlgorithm.{HashAlgorithm}
use Rattle.p416_syntax.specs.declared.parts.HashAlgorithm.TheVariants.{Csum16, Crc16, Crc32, Identity}
use Rattle.p416_syntax.specs.Tree.{Exp16, name, call, expression}
use Rattle.p416_syntax.specs.Names.{Name}
use Rattle.p416_syntax.specs.Kinds.{boolean, hash_algorithm, clone_type}
use Rattle.p416_syntax.specs.Scopes.{Sort, a_function, Scope, sort_of}
use Rattle.p416_syntax.specs.BuiltIn.{standard}
use Rattle.p416_syntax.specs.Calls.{Place, statement, value, any_bits, written, written_bits, item_list, member_place, index_place, list_number, Signature, function_signature, checksum_places}
use Rattle.p416_syntax.specs.Expressions.{kind_of, signature_of, sort_signature}
use Rattle.p416_syntax.specs.Uses.{arguments_of, wanted_by}
use Rattle.p416_syntax.specs.Breaks.{BreaksNone, program_rules}
use Rattle.p416_syntax.specs.Declarations.{layouts_of}
use Rattle.v1_core.specs.Values.{Value, a_symbol, number_in, symbol_in, to_member}
use Rattle.v1_core.specs.Frames as sem
use Rattle.v1_core.specs.Frames.{stepped}
use Rattle.v1_core.specs.Slots.{variable_kinds}
use Rattle.v1_core.specs.Surroundings as meaning
use Rattle.v1_core.specs.Numbered.{InScope}
use Rattle.v1_core.specs.Calls as calls
use Rattle.v1_core.specs.Calls.{arguments_from, function_call, named_call, call_statement}
use Rattle.v1_core.specs.Externs.Checksums as checksums
use Rattle.v1_core.specs.Externs.Requests as requests
use Rattle.v1_core.specs.Externs.Requests.{clone_kind}
use Rattle.v1_core.specs.Cells.{Cells}
use Rattle.v1_core.specs.Scopes.{IsScope}
use Rattle.v1_ready_forms.specs.Named.{NamedSeat, seats_in}
use Rattle.v1_ready_laws.specs.Rules.{Keeps, NamesSeated}
use Rattle.v1_block_laws.specs.Keeping.{Each, ArgumentsKeep}
use Rattle.v1_block_laws.proofs.Calling.{call_kept}
use Rattle.v1_ready_blocks.specs.declared.places.Target.{Target}
use Rattle.v1_ready_blocks.specs.declared.externs.Extern.{Extern}
use Rattle.v1_ready_blocks.specs.declared.externs.Extern.TheVariants as extern
use Rattle.v1_ready_blocks.specs.Moments as blocks
use Rattle.v1_ready_blocks.specs.Moments.{Moment}
use Rattle.v1_ready_blocks.specs.Tests.{World}
use Rattle.v1_ready_blocks.specs.Externs as externs
use Rattle.v1_ready_blocks.specs.Externs.{Given, result_by, executed}
use Rattle.v1_ready_blocks.specs.Places.{put}
use Rattle.v1_ready_blocks.specs.Arguments.{Argument, Gathered, nothing_given}
use Rattle.v1_ready_blocks.specs.Statements as ready
use Rattle.v1_ready_blocks.specs.Statements.{Deed, execute, does}
use Rattle.v1_deed_laws.specs.Externs.{IsTarget, IsAlgorithm, with_octets}
use Rattle.v1_parser_laws.specs.Shown.{Shows}
use Rattle.v1_deed_laws.proofs.Externs.{hash_shows, verify_shows, update_shows, drop_shows, request_shows, clone_shows}
use Rattle.v1_ready_statements.specs.Around.{Around, standard_slot}
use Rattle.v1_ready_statements.specs.Targets.{target_given}
use Rattle.v1_ready_statements.specs.Given.{join_option, given_at, value_given, list_given}
use Rattle.v1_ready_statements.specs.Called.{executes, algorithm_called, algorithm_given, member_word, number_given, with_algorithm, with_slot, dropping_slot, hashes, verified, updated, clones, function_deed}
use Rattle.v1_value_laws.specs.Kinds.{Fine}
use Rattle.v1_value_laws.proofs.Taken.{taken}
use Rattle.v1_statement_laws.specs.Behind.{Shown}
use Rattle.v1_statement_laws.specs.Leaves.{RunsAlike}
use Rattle.v1_statement_laws.proofs.Closing.{running_is}
use Rattle.v1_statement_laws.proofs.Calls.{called_alike}
use Rattle.v1_call_laws.specs.Telling.{ToldNone, IsValueOf, TestsTell}
use Rattle.v1_call_laws.specs.Calling.{StandardIsOwn, FitsPlace, FitPlaces, CallFits}
use Rattle.v1_call_laws.proofs.Arguments.{Mode, one_value, items, aside, handed_over, AllGiven, Gives, GiveAll, Nothing, First, only_one, only_three, only_four, only_five, nothing_given as none_given, first_given, value_gives, list_gives}
use Rattle.v1_call_laws.proofs.Handing.{index_small, target_gives, member_gives, literal_gives, drop_gives}
use Rattle.v1_call_laws.proofs.Fields.{error_stands}

-- so many arguments

pub take_one : (G : List Exp16 → Type 0) → ((a : Exp16) → G (a ∷ [])) → (es : List Exp16) → length es ≡ 1 → G es
take_one G f [] is = absurd (omega (arith, is))
take_one G f (a ∷ []) is = f a
take_one G f (a ∷ b ∷ es) is = absurd (omega (arith, is))

pub take_two : (G : List Exp16 → Type 0) → ((a b : Exp16) → G (a ∷ b ∷ [])) → (es : List Exp16) → length es ≡ 2 → G es
take_two G f [] is = absurd (omega (arith, is))
take_two G f (a ∷ []) is = absurd (omega (arith, is))
take_two G f (a ∷ b ∷ []) is = f a b
take_two G f (a ∷ b ∷ c ∷ es) is = absurd (omega (arith, is))

take_three : (G : List Exp16 → Type 0) → ((a b c : Exp16) → G (a ∷ b ∷ c ∷ [])) → (es : List Exp16) → length es ≡ 3 → G es
take_three G f [] is = absurd (omega (arith, is))
take_three G f (a ∷ []) is = absurd (omega (arith, is))
take_three G f (a ∷ b ∷ []) is = absurd (omega (arith, is))
take_three G f (a ∷ b ∷ c ∷ []) is = f a b c
take_three G f (a ∷ b ∷ c ∷ d ∷ es) is = absurd (omega (arith, is))

take_four : (G : List Exp16 → Type 0) → ((a b c d : Exp16) → G (a ∷ b ∷ c ∷ d ∷ [])) → (es : List Exp16) → length es ≡ 4 → G es
take_four G f [] is = absurd (omega (arith, is))
take_four G f (a ∷ []) is = absurd (omega (arith, is))
take_four G f (a ∷ b ∷ []) is = absurd (omega (arith, is))
take_four G f (a ∷ b ∷ c ∷ []) is = absurd (omega (arith, is))
take_four G f (a ∷ b ∷ c ∷ d ∷ []) is = f a b c d
take_four G f (a ∷ b ∷ c ∷ d ∷ e ∷ es) is = absurd (omega (arith, is))

take_five : (G : List Exp16 → Type 0) → ((a b c d e : Exp16) → G (a ∷ b ∷ c ∷ d ∷ e ∷ [])) → (es : List Exp16) → length es ≡ 5 → G es
take_five G f [] is = absurd (omega (arith, is))
take_five G f (a ∷ []) is = absurd (omega (arith, is))
take_five G f (a ∷ b ∷ []) is = absurd (omega (arith, is))
take_five G f (a ∷ b ∷ c ∷ []) is = absurd (omega (arith, is))
take_five G f (a ∷ b ∷ c ∷ d ∷ []) is = absurd (omega (arith, is))
take_five G f (a ∷ b ∷ c ∷ d ∷ e ∷ []) is = f a b c d e
take_five G f (a ∷ b ∷ c ∷ d ∷ e ∷ g ∷ es) is = absurd (omega (arith, is))

-- by a word, or the others
pub by_word : (G : Option Deed → Type 0) (text word : Name) (x y : Option Deed) → (bytes_eq text word ≡ true → G x) → G y → G (cond (bytes_eq text word) x y)
by_word G text word x y f h = by (bytes_eq text word) f where
  by : (t : Bool) → (t ≡ true → G x) → G (cond t x y)
  by true g = g refl
  by false g = h

pub same_word : (text word : Name) → bytes_eq text word ≡ true → text ≡ word
same_word text word is = (bytes_eq-Decides text word).0 is

-- the algorithm of a word
algorithm_is : (word : Name) (algorithm : HashAlgorithm) → algorithm_called word ≡ Some algorithm → IsAlgorithm word algorithm
algorithm_is word algorithm is list = by (bytes_eq word (codes "csum16")) (bytes_eq word (codes "crc16")) (bytes_eq word (codes "crc32")) (bytes_eq word (codes "identity")) is where
  same : (a : HashAlgorithm) → Some a ≡ Some algorithm → result_by a list ≡ result_by algorithm list
  same a e = let inner : a ≡ algorithm = cc e in ap (λ (x : HashAlgorithm). result_by x list) inner

  by : (c d e f : Bool) → cond c (Some Csum16) (cond d (Some Crc16) (cond e (Some Crc32) (cond f (Some Identity) None))) ≡ Some algorithm → cond c (csum16 list) (cond d (crc16 list) (cond e (crc32 list) (identity list))) ≡ result_by algorithm list
  by true d e f g = same Csum16 g
  by false true e f g = same Crc16 g
  by false false true f g = same Crc32 g
  by false false false true g = same Identity g
  by false false false false g = absurd (cc g)

-- nothing is gathered behind the last that is evaluated
pub trimmed : (P : Cells → Type 0) (b : Around) (w : meaning.World) (z : World) (s : Scope) (who : InScope) (places : List Place) (es : List Exp16) (list : List Argument) (modes : List Mode) (F : List calls.Given → Type 0) → GiveAll P b w z s who places es (list ++ []) modes F → GiveAll P b w z s who places es list modes F
trimmed P b w z s who places es list modes F h = subst (λ (l : List Argument). GiveAll P b w z s who places es l modes F) (append-nil list) h

module _ (P : Cells → Type 0) (b : Around) (w : meaning.World) (z : World) (s : Scope) (who : InScope) (accepted : BreaksNone b.syntax program_rules) (layouts : s.layouts ≡ layouts_of b.syntax.decls) (seated : NamesSeated s (seats_in b.syntax w.around.roots who)) (fine : Fine s) (scope : IsScope (length (variable_kinds b.syntax)) who) where
  abbrev seats : List NamedSeat
  seats = seats_in b.syntax w.around.roots who

  abbrev pub Alike : Exp16 → Exp16 → Deed → Type 0
  Alike callee handed d = RunsAlike P b w z s who [] (expression (call callee handed)) (does d)

  abbrev pub IfAlike : Exp16 → Exp16 → Option Deed → Type 0
  IfAlike callee handed d = IfSome (option_map does d) (RunsAlike P b w z s who [] (expression (call callee handed)))

  -- an extern with its arguments
  pub extern_alike : (callee handed : Exp16) (places : List Place) (es : List Exp16) (what : Extern) (list : List Argument) (modes : List Mode) (G : List calls.Given → Type 0) (F : List calls.Given → sem.Moment → sem.Moment) → ((m : sem.Moment) → call_statement w s (call callee handed) m ≡ F (arguments_from w s places es m).given (arguments_from w s places es m).moment) → GiveAll P b w z s who places es list modes G
      → ((xs : List calls.Given) (m : sem.Moment) (k : Moment) → G xs → Shown P b.syntax who m k → Shown P b.syntax who (F xs m) (executed what (handed_over modes xs nothing_given) k))
      → Alike callee handed (execute what list)
  extern_alike callee handed places es what list modes G F leaves gives does_so =
      called_alike P b w z s who accepted layouts seated fine scope callee handed (execute what list) (λ m k h runs.
      let x = arguments_from w s places es m in
      let all : AllGiven P b w z s who x list modes G k = gives m k h runs in
      subst (λ (y : sem.Moment). Shown P b.syntax who y (ready.done z.apply (execute what list) k)) (sym (leaves m))
      (subst (λ (y : Gathered). Shown P b.syntax who (F x.given x.moment) (blocks.going_on (executed what y.given) y.moment)) (sym (all.gathers nothing_given))
      (subst (λ (y : Moment). Shown P b.syntax who (F x.given x.moment) y) (sym (running_is all.end.stopped all.end (executed what (handed_over modes x.given nothing_given) all.end) (sym all.shown.shows.stopped ∙ all.runs)))
      (does_so x.given x.moment all.end all.fact all.shown))))

  kept_waiting : (t : Bool) (x y : Moment) → P x.waiting → P y.waiting → P (cond t x y).waiting
  kept_waiting true x y h g = h
  kept_waiting false x y h g = g

  module _ (tell : TestsTell P b w z s who) (own : StandardIsOwn b.syntax) where
    -- a list in braces
    items_give : (e : Exp16) → FitsPlace s item_list e → Keeps s item_list e → ToldNone s e → IfSome (list_given b s seats e) (λ list. Gives P b w z s who item_list e list items (λ x. Unit {0}))
    items_give e fits keeps told =
        subst (λ (f : Exp16). IfSome (list_given b s seats f) (λ list. Gives P b w z s who item_list f list items (λ x. Unit {0}))) (sym fits.1)
        (list_gives P b w z s who tell fits.0 (subst (Keeps s item_list) fits.1 keeps) (subst (ToldNone s) fits.1 told))

    -- what leaves what a function of arguments at these places does
    abbrev pub Leaves : Exp16 → Exp16 → List Place → List Exp16 → (List calls.Given → sem.Moment → sem.Moment) → Type 0
    Leaves callee handed places es F = (m : sem.Moment) → call_statement w s (call callee handed) m ≡ F (arguments_from w s places es m).given (arguments_from w s places es m).moment

    -- the port that drops
    drops : (callee handed e : Exp16) → Leaves callee handed (written standard ∷ []) (e ∷ []) (function_call (codes "mark_to_drop")) → Keeps s (written standard) e → IfAlike callee handed (executes (option_map (λ slot. extern.MarkToDrop slot) (dropping_slot s seats e)) (Some []))
    drops callee handed e leaves keeps = by (dropping_slot s seats e) refl where
      A : ℕ → calls.Given → Type 0
      A slot x = (to : Target) × (IsTarget b.syntax who (stepped x.target (to_member (codes "egress_spec"))) to × (to.slice ≡ None) × (to.slot ≡ slot))

      there : (slot : ℕ) (x : calls.Given) (m : sem.Moment) (k : Moment) → A slot x → Shown P b.syntax who m k → Shown P b.syntax who (function_call (codes "mark_to_drop") (x ∷ []) m) (executed (extern.MarkToDrop slot) nothing_given k)
      there slot x m k a h = record {
        shows = subst (λ (n : ℕ). Shows b.syntax who (function_call (codes "mark_to_drop") (x ∷ []) m) (executed (extern.MarkToDrop n) nothing_given k)) a.1.2 (drop_shows b.syntax who x.target a.0 nothing_given m k accepted scope a.1.0 a.1.1 h.shows);
        waits = h.waits;
      }

      by : (o : Option ℕ) → dropping_slot s seats e ≡ o → IfAlike callee handed (executes (option_map (λ slot. extern.MarkToDrop slot) o) (Some []))
      by None is = tt
      by (Some slot) is =
          extern_alike callee handed (written standard ∷ []) (e ∷ []) (extern.MarkToDrop slot) [] (aside ∷ []) (First (A slot) Nothing) (function_call (codes "mark_to_drop")) leaves
          (first_given P b w z s who (written standard) e [] [] [] [] aside [] (A slot) Nothing (drop_gives P b w z s who accepted layouts seated fine e slot own (taken s (written standard) e keeps.0) is) (none_given P b w z s who []))
          (λ xs m k f h. only_one (A slot) (λ ys. Shown P b.syntax who (function_call (codes "mark_to_drop") ys m) (executed (extern.MarkToDrop slot) (handed_over (aside ∷ []) ys nothing_given) k)) (λ x a. there slot x m k a h) xs f)

    -- hashes
    abbrev hash_places : List Place
    hash_places = written_bits ∷ member_place hash_algorithm ∷ any_bits ∷ item_list ∷ any_bits ∷ []

    abbrev hash_modes : List Mode
    hash_modes = aside ∷ aside ∷ one_value ∷ items ∷ one_value ∷ []

    hashed : (callee handed a c d e f : Exp16) → Leaves callee handed hash_places (a ∷ c ∷ d ∷ e ∷ f ∷ []) (function_call (codes "hash")) → ArgumentsKeep s hash_places (a ∷ c ∷ d ∷ e ∷ f ∷ []) → FitPlaces s hash_places (a ∷ c ∷ d ∷ e ∷ f ∷ []) → Each (ToldNone s) (a ∷ c ∷ d ∷ e ∷ f ∷ []) → IfAlike callee handed (hashes b s seats (a ∷ c ∷ d ∷ e ∷ f ∷ []))
    hashed callee handed a c d e f leaves keeps fits told =
        by (algorithm_given c) (target_given s seats a) (value_given b s seats any_bits d) (list_given b s seats e) (value_given b s seats any_bits f) refl refl
        (value_gives P b w z s who tell any_bits d refl keeps.1.1.0 told.1.1.0)
        (items_give e fits.1.1.1.0 keeps.1.1.1.0 told.1.1.1.0)
        (value_gives P b w z s who tell any_bits f refl keeps.1.1.1.1.0 told.1.1.1.1.0) where
          A : Target → calls.Given → Type 0
          A to x = IsTarget b.syntax who x.target to

          C : calls.Given → Type 0
          C x = x.value ≡ a_symbol (member_word c)

          D : Exp16 → calls.Given → Type 0
          D i x = IsValueOf any_bits (kind_of s i) x.value

          E : calls.Given → Type 0
          E x = Unit {0}

          there : (algorithm : HashAlgorithm) (to : Target) (x y u v i : calls.Given) (m : sem.Moment) (k : Moment) → algorithm_given c ≡ Some algorithm → A to x → C y → Shown P b.syntax who m k → Shown P b.syntax who (function_call (codes "hash") (x ∷ y ∷ u ∷ v ∷ i ∷ []) m) (executed (extern.Hash algorithm to) (handed_over hash_modes (x ∷ y ∷ u ∷ v ∷ i ∷ []) nothing_given) k)
          there algorithm to x y u v i m k known at word h = record {
            shows = hash_shows b.syntax who x.target to (symbol_in y.value) algorithm (handed_over hash_modes (x ∷ y ∷ u ∷ v ∷ i ∷ []) nothing_given) m k accepted scope at (subst (λ (n : Name). IsAlgorithm n algorithm) (sym (ap symbol_in word)) (algorithm_is (member_word c) algorithm known)) h.shows;
            waits = h.waits;
          }

          by : (o : Option HashAlgorithm) (p : Option Target) (l q r : Option (List Argument)) → algorithm_given c ≡ o → target_given s seats a ≡ p → IfSome l (λ list. Gives P b w z s who any_bits d list one_value (D d)) → IfSome q (λ list. Gives P b w z s who item_list e list items E) → IfSome r (λ list. Gives P b w z s who any_bits f list one_value (D f)) → IfAlike callee handed (executes (with_algorithm (λ algorithm to. extern.Hash algorithm to) o p) (join_option l (join_option q r)))
          by None p l q r is at f0 f1 f2 = tt
          by (Some algorithm) None l q r is at f0 f1 f2 = tt
          by (Some algorithm) (Some to) None q r is at f0 f1 f2 = tt
          by (Some algorithm) (Some to) (Some l) None r is at f0 f1 f2 = tt
          by (Some algorithm) (Some to) (Some l) (Some q) None is at f0 f1 f2 = tt
          by (Some algorithm) (Some to) (Some l) (Some q) (Some r) is at f0 f1 f2 =
              extern_alike callee handed hash_places (a ∷ c ∷ d ∷ e ∷ f ∷ []) (extern.Hash algorithm to) (l ++ (q ++ r)) hash_modes (First (A to) (First C (First (D d) (First E (First (D f) Nothing))))) (function_call (codes "hash")) leaves
              (first_given P b w z s who written_bits a (member_place hash_algorithm ∷ any_bits ∷ item_list ∷ any_bits ∷ []) (c ∷ d ∷ e ∷ f ∷ []) [] (l ++ (q ++ r)) aside (aside ∷ one_value ∷ items ∷ one_value ∷ []) (A to) (First C (First (D d) (First E (First (D f) Nothing)))) (target_gives P b w z s who accepted layouts seated fine a to (taken s written_bits a keeps.0.0) at)
              (first_given P b w z s who (member_place hash_algorithm) c (any_bits ∷ item_list ∷ any_bits ∷ []) (d ∷ e ∷ f ∷ []) [] (l ++ (q ++ r)) aside (one_value ∷ items ∷ one_value ∷ []) C (First (D d) (First E (First (D f) Nothing))) (member_gives P b w z s who accepted layouts seated fine hash_algorithm c fits.1.0)
              (first_given P b w z s who any_bits d (item_list ∷ any_bits ∷ []) (e ∷ f ∷ []) l (q ++ r) one_value (items ∷ one_value ∷ []) (D d) (First E (First (D f) Nothing)) f0
              (first_given P b w z s who item_list e (any_bits ∷ []) (f ∷ []) q r items (one_value ∷ []) E (First (D f) Nothing) f1
              (trimmed P b w z s who (any_bits ∷ []) (f ∷ []) r (one_value ∷ []) (First (D f) Nothing)
              (first_given P b w z s who any_bits f [] [] r [] one_value [] (D f) Nothing f2 (none_given P b w z s who [])))))))
              (λ xs m k g h. only_five (A to) C (D d) E (D f) (λ ys. Shown P b.syntax who (function_call (codes "hash") ys m) (executed (extern.Hash algorithm to) (handed_over hash_modes ys nothing_given) k)) (λ x y u v i at_x word du lv di. there algorithm to x y u v i m k is at_x word h) xs g)

    -- checksums

    abbrev verify_places : List Place
    verify_places = checksum_places any_bits

    abbrev verify_modes : List Mode
    verify_modes = one_value ∷ items ∷ one_value ∷ aside ∷ []

    abbrev verify_by : Bool → List calls.Given → sem.Moment → sem.Moment
    verify_by payload xs m = checksums.verify_checksum (calls.holds_at xs 0) (with_octets payload m (calls.bits_at xs 1)) (calls.value_at xs 2) (calls.symbol_at xs 3) m

    verifies : (payload : Bool) (callee handed a c d e : Exp16) → Leaves callee handed verify_places (a ∷ c ∷ d ∷ e ∷ []) (verify_by payload) → ArgumentsKeep s verify_places (a ∷ c ∷ d ∷ e ∷ []) → FitPlaces s verify_places (a ∷ c ∷ d ∷ e ∷ []) → Each (ToldNone s) (a ∷ c ∷ d ∷ e ∷ []) → IfAlike callee handed (verified b s seats payload (a ∷ c ∷ d ∷ e ∷ []))
    verifies payload callee handed a c d e leaves keeps fits told =
        by (algorithm_given e) (standard_slot b (codes "checksum_error")) (value_given b s seats (value boolean) a) (list_given b s seats c) (value_given b s seats any_bits d) refl refl
        (value_gives P b w z s who tell (value boolean) a refl keeps.0 told.0)
        (items_give c fits.1.0 keeps.1.0 told.1.0)
        (value_gives P b w z s who tell any_bits d refl keeps.1.1.0 told.1.1.0) where
          A : calls.Given → Type 0
          A x = IsValueOf (value boolean) (kind_of s a) x.value

          C : calls.Given → Type 0
          C x = Unit {0}

          D : calls.Given → Type 0
          D x = IsValueOf any_bits (kind_of s d) x.value

          E : calls.Given → Type 0
          E x = x.value ≡ a_symbol (member_word e)

          there : (algorithm : HashAlgorithm) (slot : ℕ) (x y u v : calls.Given) (m : sem.Moment) (k : Moment) → algorithm_given e ≡ Some algorithm → standard_slot b (codes "checksum_error") ≡ Some slot → E v → Shown P b.syntax who m k → Shown P b.syntax who (verify_by payload (x ∷ y ∷ u ∷ v ∷ []) m) (executed (extern.Verify algorithm payload slot) (handed_over verify_modes (x ∷ y ∷ u ∷ v ∷ []) nothing_given) k)
          there algorithm slot x y u v m k known at word h = record {
            shows = verify_shows b.syntax who (symbol_in v.value) algorithm payload slot (handed_over verify_modes (x ∷ y ∷ u ∷ v ∷ []) nothing_given) m k (error_stands b slot own at) (subst (λ (n : Name). IsAlgorithm n algorithm) (sym (ap symbol_in word)) (algorithm_is (member_word e) algorithm known)) accepted h.shows;
            waits =
                let g : Given = handed_over verify_modes (x ∷ y ∷ u ∷ v ∷ []) nothing_given in
                kept_waiting (externs.holds_at g 0 && externs.is_wrong algorithm (externs.list_with payload g k) (externs.value_at g 1)) (blocks.with_cells (put slot None 1 k.cells) k) k h.waits h.waits;
          }

          by : (o : Option HashAlgorithm) (p : Option ℕ) (l q r : Option (List Argument)) → algorithm_given e ≡ o → standard_slot b (codes "checksum_error") ≡ p → IfSome l (λ list. Gives P b w z s who (value boolean) a list one_value A) → IfSome q (λ list. Gives P b w z s who item_list c list items C) → IfSome r (λ list. Gives P b w z s who any_bits d list one_value D) → IfAlike callee handed (executes (with_slot (λ algorithm slot. extern.Verify algorithm payload slot) o p) (join_option l (join_option q r)))
          by None p l q r is at f0 f1 f2 = tt
          by (Some algorithm) None l q r is at f0 f1 f2 = tt
          by (Some algorithm) (Some slot) None q r is at f0 f1 f2 = tt
          by (Some algorithm) (Some slot) (Some l) None r is at f0 f1 f2 = tt
          by (Some algorithm) (Some slot) (Some l) (Some q) None is at f0 f1 f2 = tt
          by (Some algorithm) (Some slot) (Some l) (Some q) (Some r) is at f0 f1 f2 =
              extern_alike callee handed verify_places (a ∷ c ∷ d ∷ e ∷ []) (extern.Verify algorithm payload slot) (l ++ (q ++ r)) verify_modes (First A (First C (First D (First E Nothing)))) (verify_by payload) leaves
              (first_given P b w z s who (value boolean) a (item_list ∷ any_bits ∷ member_place hash_algorithm ∷ []) (c ∷ d ∷ e ∷ []) l (q ++ r) one_value (items ∷ one_value ∷ aside ∷ []) A (First C (First D (First E Nothing))) f0
              (first_given P b w z s who item_list c (any_bits ∷ member_place hash_algorithm ∷ []) (d ∷ e ∷ []) q r items (one_value ∷ aside ∷ []) C (First D (First E Nothing)) f1
              (trimmed P b w z s who (any_bits ∷ member_place hash_algorithm ∷ []) (d ∷ e ∷ []) r (one_value ∷ aside ∷ []) (First D (First E Nothing))
              (first_given P b w z s who any_bits d (member_place hash_algorithm ∷ []) (e ∷ []) r [] one_value (aside ∷ []) D (First E Nothing) f2
              (first_given P b w z s who (member_place hash_algorithm) e [] [] [] [] aside [] E Nothing (member_gives P b w z s who accepted layouts seated fine hash_algorithm e fits.1.1.1.0) (none_given P b w z s who []))))))
              (λ xs m k g h. only_four A C D E (λ ys. Shown P b.syntax who (verify_by payload ys m) (executed (extern.Verify algorithm payload slot) (handed_over verify_modes ys nothing_given) k)) (λ x y u v ax cy du word. there algorithm slot x y u v m k is at word h) xs g)

    abbrev update_places : List Place
    update_places = checksum_places written_bits

    abbrev update_modes : List Mode
    update_modes = one_value ∷ items ∷ aside ∷ aside ∷ []

    abbrev update_by : Bool → List calls.Given → sem.Moment → sem.Moment
    update_by payload xs m = checksums.update_checksum (calls.holds_at xs 0) (with_octets payload m (calls.bits_at xs 1)) (calls.target_at xs 2) (calls.symbol_at xs 3) m

    updates : (payload : Bool) (callee handed a c d e : Exp16) → Leaves callee handed update_places (a ∷ c ∷ d ∷ e ∷ []) (update_by payload) → ArgumentsKeep s update_places (a ∷ c ∷ d ∷ e ∷ []) → FitPlaces s update_places (a ∷ c ∷ d ∷ e ∷ []) → Each (ToldNone s) (a ∷ c ∷ d ∷ e ∷ []) → IfAlike callee handed (updated b s seats payload (a ∷ c ∷ d ∷ e ∷ []))
    updates payload callee handed a c d e leaves keeps fits told =
        by (algorithm_given e) (target_given s seats d) (value_given b s seats (value boolean) a) (list_given b s seats c) refl refl
        (value_gives P b w z s who tell (value boolean) a refl keeps.0 told.0)
        (items_give c fits.1.0 keeps.1.0 told.1.0) where
          A : calls.Given → Type 0
          A x = IsValueOf (value boolean) (kind_of s a) x.value

          C : calls.Given → Type 0
          C x = Unit {0}

          D : Target → calls.Given → Type 0
          D to x = IsTarget b.syntax who x.target to

          E : calls.Given → Type 0
          E x = x.value ≡ a_symbol (member_word e)

          there : (algorithm : HashAlgorithm) (to : Target) (x y u v : calls.Given) (m : sem.Moment) (k : Moment) → algorithm_given e ≡ Some algorithm → D to u → E v → Shown P b.syntax who m k → Shown P b.syntax who (update_by payload (x ∷ y ∷ u ∷ v ∷ []) m) (executed (extern.Update algorithm payload to) (handed_over update_modes (x ∷ y ∷ u ∷ v ∷ []) nothing_given) k)
          there algorithm to x y u v m k known at word h = record {
            shows = update_shows b.syntax who u.target to (symbol_in v.value) algorithm payload (handed_over update_modes (x ∷ y ∷ u ∷ v ∷ []) nothing_given) m k accepted scope at (subst (λ (n : Name). IsAlgorithm n algorithm) (sym (ap symbol_in word)) (algorithm_is (member_word e) algorithm known)) h.shows;
            waits =
                let g : Given = handed_over update_modes (x ∷ y ∷ u ∷ v ∷ []) nothing_given in
                kept_waiting (externs.holds_at g 0) (externs.number_put to (result_by algorithm (externs.list_with payload g k)) k) k h.waits h.waits;
          }

          by : (o : Option HashAlgorithm) (p : Option Target) (l q : Option (List Argument)) → algorithm_given e ≡ o → target_given s seats d ≡ p → IfSome l (λ list. Gives P b w z s who (value boolean) a list one_value A) → IfSome q (λ list. Gives P b w z s who item_list c list items C) → IfAlike callee handed (executes (with_algorithm (λ algorithm to. extern.Update algorithm payload to) o p) (join_option l q))
          by None p l q is at f0 f1 = tt
          by (Some algorithm) None l q is at f0 f1 = tt
          by (Some algorithm) (Some to) None q is at f0 f1 = tt
          by (Some algorithm) (Some to) (Some l) None is at f0 f1 = tt
          by (Some algorithm) (Some to) (Some l) (Some q) is at f0 f1 =
              extern_alike callee handed update_places (a ∷ c ∷ d ∷ e ∷ []) (extern.Update algorithm payload to) (l ++ q) update_modes (First A (First C (First (D to) (First E Nothing)))) (update_by payload) leaves
              (first_given P b w z s who (value boolean) a (item_list ∷ written_bits ∷ member_place hash_algorithm ∷ []) (c ∷ d ∷ e ∷ []) l q one_value (items ∷ aside ∷ aside ∷ []) A (First C (First (D to) (First E Nothing))) f0
              (trimmed P b w z s who (item_list ∷ written_bits ∷ member_place hash_algorithm ∷ []) (c ∷ d ∷ e ∷ []) q (items ∷ aside ∷ aside ∷ []) (First C (First (D to) (First E Nothing)))
              (first_given P b w z s who item_list c (written_bits ∷ member_place hash_algorithm ∷ []) (d ∷ e ∷ []) q [] items (aside ∷ aside ∷ []) C (First (D to) (First E Nothing)) f1
              (first_given P b w z s who written_bits d (member_place hash_algorithm ∷ []) (e ∷ []) [] [] aside (aside ∷ []) (D to) (First E Nothing) (target_gives P b w z s who accepted layouts seated fine d to (taken s written_bits d keeps.1.1.0.0) at)
              (first_given P b w z s who (member_place hash_algorithm) e [] [] [] [] aside [] E Nothing (member_gives P b w z s who accepted layouts seated fine hash_algorithm e fits.1.1.1.0) (none_given P b w z s who []))))))
              (λ xs m k g h. only_four A C (D to) E (λ ys. Shown P b.syntax who (update_by payload ys m) (executed (extern.Update algorithm payload to) (handed_over update_modes ys nothing_given) k)) (λ x y u v ax cy at_u word. there algorithm to x y u v m k is at_u word h) xs g)

    -- requests

    abbrev clone_places : List Place
    clone_places = member_place clone_type ∷ index_place ∷ list_number ∷ []

    abbrev clone_modes : List Mode
    clone_modes = aside ∷ one_value ∷ aside ∷ []

    cloned : (callee handed a c d : Exp16) → Leaves callee handed clone_places (a ∷ c ∷ d ∷ []) (function_call (codes "clone_preserving_field_list")) → ArgumentsKeep s clone_places (a ∷ c ∷ d ∷ []) → FitPlaces s clone_places (a ∷ c ∷ d ∷ []) → Each (ToldNone s) (a ∷ c ∷ d ∷ []) → IfAlike callee handed (clones b s seats (a ∷ c ∷ d ∷ []))
    cloned callee handed a c d leaves keeps fits told = by (value_given b s seats index_place c) (value_gives P b w z s who tell index_place c refl keeps.1.0 told.1.0) where
      A : calls.Given → Type 0
      A x = x.value ≡ a_symbol (member_word a)

      C : calls.Given → Type 0
      C x = IsValueOf index_place (kind_of s c) x.value

      D : calls.Given → Type 0
      D x = number_in x.value ≡ number_given d

      there : (x y u : calls.Given) (m : sem.Moment) (k : Moment) → A x → C y → D u → Shown P b.syntax who m k → Shown P b.syntax who (function_call (codes "clone_preserving_field_list") (x ∷ y ∷ u ∷ []) m) (executed (extern.Clone (clone_kind (member_word a)) (number_given d)) (handed_over clone_modes (x ∷ y ∷ u ∷ []) nothing_given) k)
      there x y u m k word index number h =
          subst (λ (v : Value). Shown P b.syntax who (requests.clone_preserving (symbol_in v) (number_in y.value) (number_in u.value) m) (executed (extern.Clone (clone_kind (member_word a)) (number_given d)) (handed_over clone_modes (x ∷ y ∷ u ∷ []) nothing_given) k)) (sym word)
          (subst (λ (n : ℕ). Shown P b.syntax who (requests.requested (clone_kind (member_word a)) (number_in y.value) n m) (executed (extern.Clone (clone_kind (member_word a)) (number_given d)) (handed_over clone_modes (x ∷ y ∷ u ∷ []) nothing_given) k)) (sym number)
          (record {
            shows = clone_shows b.syntax who (clone_kind (member_word a)) (number_given d) (handed_over clone_modes (x ∷ y ∷ u ∷ []) nothing_given) m k (index_small c (kind_of s c) y.value (taken s index_place c keeps.1.0.0) index) h.shows;
            waits = h.waits;
          }))

      by : (l : Option (List Argument)) → IfSome l (λ list. Gives P b w z s who index_place c list one_value C) → IfAlike callee handed (executes (Some (extern.Clone (clone_kind (member_word a)) (number_given d))) l)
      by None f = tt
      by (Some l) f =
          extern_alike callee handed clone_places (a ∷ c ∷ d ∷ []) (extern.Clone (clone_kind (member_word a)) (number_given d)) l clone_modes (First A (First C (First D Nothing))) (function_call (codes "clone_preserving_field_list")) leaves
          (first_given P b w z s who (member_place clone_type) a (index_place ∷ list_number ∷ []) (c ∷ d ∷ []) [] l aside (one_value ∷ aside ∷ []) A (First C (First D Nothing)) (member_gives P b w z s who accepted layouts seated fine clone_type a fits.0)
          (trimmed P b w z s who (index_place ∷ list_number ∷ []) (c ∷ d ∷ []) l (one_value ∷ aside ∷ []) (First C (First D Nothing))
          (first_given P b w z s who index_place c (list_number ∷ []) (d ∷ []) l [] one_value (aside ∷ []) C (First D Nothing) f
          (first_given P b w z s who list_number d [] [] [] [] aside [] D Nothing (literal_gives P b w z s who accepted layouts seated fine 8 d (taken s list_number d keeps.1.1.0.0) fits.1.1.0) (none_given P b w z s who [])))))
          (λ xs m k g h. only_three A C D (λ ys. Shown P b.syntax who (function_call (codes "clone_preserving_field_list") ys m) (executed (extern.Clone (clone_kind (member_word a)) (number_given d)) (handed_over clone_modes ys nothing_given) k)) (λ x y u word index number. there x y u m k word index number h) xs g)

    abbrev request_by : RequestKind → List calls.Given → sem.Moment → sem.Moment
    request_by kind xs m = requests.requested kind 0 (calls.number_at xs 0) m

    requested : (kind : RequestKind) (callee handed e : Exp16) → Leaves callee handed (list_number ∷ []) (e ∷ []) (request_by kind) → Keeps s list_number e → FitsPlace s list_number e → IfAlike callee handed (executes (Some (extern.Request kind (number_given e))) (Some []))
    requested kind callee handed e leaves keeps fits =
        extern_alike callee handed (list_number ∷ []) (e ∷ []) (extern.Request kind (number_given e)) [] (aside ∷ []) (First A Nothing) (request_by kind) leaves
        (first_given P b w z s who list_number e [] [] [] [] aside [] A Nothing (literal_gives P b w z s who accepted layouts seated fine 8 e (taken s list_number e keeps.0) fits) (none_given P b w z s who []))
        (λ xs m k g h. only_one A (λ ys. Shown P b.syntax who (request_by kind ys m) (executed (extern.Request kind (number_given e)) (handed_over (aside ∷ []) ys nothing_given) k)) (λ x number. there x m k number h) xs g) where
          A : calls.Given → Type 0
          A x = number_in x.value ≡ number_given e

          there : (x : calls.Given) (m : sem.Moment) (k : Moment) → A x → Shown P b.syntax who m k → Shown P b.syntax who (request_by kind (x ∷ []) m) (executed (extern.Request kind (number_given e)) nothing_given k)
          there x m k number h =
              subst (λ (n : ℕ). Shown P b.syntax who (requests.requested kind 0 n m) (executed (extern.Request kind (number_given e)) nothing_given k)) (sym number)
              (record { shows = request_shows b.syntax who kind (number_given e) nothing_given m k h.shows; waits = h.waits })

    -- by its name
    abbrev F : Name → List calls.Given → sem.Moment → sem.Moment
    F word xs m = function_call word xs m

    leaves_by : (text word : Name) (handed : Exp16) → sort_of s text ≡ a_function → text ≡ word → Leaves (name text) handed (wanted_by (function_signature word)) (arguments_of handed) (F word)
    leaves_by text word handed is same m =
        ap (λ (sort : Sort). named_call w s sort text handed m) is
        ∙ (ap (λ (sort : Sort). let x = arguments_from w s (wanted_by (sort_signature sort text)) (arguments_of handed) m in function_call text x.given x.moment) is
        ∙ ap (λ (t : Name). let x = arguments_from w s (wanted_by (function_signature t)) (arguments_of handed) m in function_call t x.given x.moment) same)

    -- what the rules say of the arguments of a function with this name
    record Prepared (word : Name) (es : List Exp16) : Type 0 where
      keeps : ArgumentsKeep s (wanted_by (function_signature word)) es
      count : IfSome (function_signature word) (λ (g : Signature). length es ≡ length g.wanted)
      places : FitPlaces s (wanted_by (function_signature word)) es
      told : Each (ToldNone s) es

    prepared : (text word : Name) (handed : Exp16) → sort_of s text ≡ a_function → text ≡ word → CallFits s (name text) handed → Prepared word (arguments_of handed)
    prepared text word handed is same fits =
        let signature : signature_of s (name text) ≡ function_signature word = ap (λ (sort : Sort). sort_signature sort text) is ∙ ap function_signature same in
        record {
          keeps = subst (λ (o : Option Signature). ArgumentsKeep s (wanted_by o) (arguments_of handed)) signature (call_kept s statement (name text) handed fits.keeps);
          count = subst (λ (o : Option Signature). IfSome o (λ g. length (arguments_of handed) ≡ length g.wanted)) signature fits.count;
          places = subst (λ (o : Option Signature). FitPlaces s (wanted_by o) (arguments_of handed)) signature fits.places;
          told = fits.told;
        }

    pub function_called : (text : Name) (handed : Exp16) → sort_of s text ≡ a_function → CallFits s (name text) handed → IfAlike (name text) handed (function_deed b s seats text (arguments_of handed))
    function_called text handed is fits =
        by_word G text (codes "mark_to_drop") _ _ (λ same. let word : text ≡ codes "mark_to_drop" = same_word text (codes "mark_to_drop") same in let p : Prepared (codes "mark_to_drop") (arguments_of handed) = prepared text (codes "mark_to_drop") handed is word fits in
        take_one (λ es. Leaves (name text) handed (written standard ∷ []) es (F (codes "mark_to_drop")) → ArgumentsKeep s (written standard ∷ []) es → G (executes (option_map (λ slot. extern.MarkToDrop slot) (dropping_slot s seats (given_at es 0))) (Some []))) (λ a leaves keeps. drops (name text) handed a leaves keeps.0) (arguments_of handed) p.count (leaves_by text (codes "mark_to_drop") handed is word) p.keeps)
        (by_word G text (codes "hash") _ _ (λ same. let word : text ≡ codes "hash" = same_word text (codes "hash") same in let p : Prepared (codes "hash") (arguments_of handed) = prepared text (codes "hash") handed is word fits in
        take_five (λ es. Leaves (name text) handed hash_places es (F (codes "hash")) → ArgumentsKeep s hash_places es → FitPlaces s hash_places es → Each (ToldNone s) es → G (hashes b s seats es)) (λ a c d e f leaves keeps places told. hashed (name text) handed a c d e f leaves keeps places told) (arguments_of handed) p.count (leaves_by text (codes "hash") handed is word) p.keeps p.places p.told)
        (by_word G text (codes "verify_checksum") _ _ (λ same. let word : text ≡ codes "verify_checksum" = same_word text (codes "verify_checksum") same in let p : Prepared (codes "verify_checksum") (arguments_of handed) = prepared text (codes "verify_checksum") handed is word fits in
        take_four (λ es. Leaves (name text) handed verify_places es (F (codes "verify_checksum")) → ArgumentsKeep s verify_places es → FitPlaces s verify_places es → Each (ToldNone s) es → G (verified b s seats false es)) (λ a c d e leaves keeps places told. verifies false (name text) handed a c d e leaves keeps places told) (arguments_of handed) p.count (leaves_by text (codes "verify_checksum") handed is word) p.keeps p.places p.told)
        (by_word G text (codes "verify_checksum_with_payload") _ _ (λ same. let word : text ≡ codes "verify_checksum_with_payload" = same_word text (codes "verify_checksum_with_payload") same in let p : Prepared (codes "verify_checksum_with_payload") (arguments_of handed) = prepared text (codes "verify_checksum_with_payload") handed is word fits in
        take_four (λ es. Leaves (name text) handed verify_places es (F (codes "verify_checksum_with_payload")) → ArgumentsKeep s verify_places es → FitPlaces s verify_places es → Each (ToldNone s) es → G (verified b s seats true es)) (λ a c d e leaves keeps places told. verifies true (name text) handed a c d e leaves keeps places told) (arguments_of handed) p.count (leaves_by text (codes "verify_checksum_with_payload") handed is word) p.keeps p.places p.told)
        (by_word G text (codes "update_checksum") _ _ (λ same. let word : text ≡ codes "update_checksum" = same_word text (codes "update_checksum") same in let p : Prepared (codes "update_checksum") (arguments_of handed) = prepared text (codes "update_checksum") handed is word fits in
        take_four (λ es. Leaves (name text) handed update_places es (F (codes "update_checksum")) → ArgumentsKeep s update_places es → FitPlaces s update_places es → Each (ToldNone s) es → G (updated b s seats false es)) (λ a c d e leaves keeps places told. updates false (name text) handed a c d e leaves keeps places told) (arguments_of handed) p.count (leaves_by text (codes "update_checksum") handed is word) p.keeps p.places p.told)
        (by_word G text (codes "update_checksum_with_payload") _ _ (λ same. let word : text ≡ codes "update_checksum_with_payload" = same_word text (codes "update_checksum_with_payload") same in let p : Prepared (codes "update_checksum_with_payload") (arguments_of handed) = prepared text (codes "update_checksum_with_payload") handed is word fits in
        take_four (λ es. Leaves (name text) handed update_places es (F (codes "update_checksum_with_payload")) → ArgumentsKeep s update_places es → FitPlaces s update_places es → Each (ToldNone s) es → G (updated b s seats true es)) (λ a c d e leaves keeps places told. updates true (name text) handed a c d e leaves keeps places told) (arguments_of handed) p.count (leaves_by text (codes "update_checksum_with_payload") handed is word) p.keeps p.places p.told)
        (by_word G text (codes "clone_preserving_field_list") _ _ (λ same. let word : text ≡ codes "clone_preserving_field_list" = same_word text (codes "clone_preserving_field_list") same in let p : Prepared (codes "clone_preserving_field_list") (arguments_of handed) = prepared text (codes "clone_preserving_field_list") handed is word fits in
        take_three (λ es. Leaves (name text) handed clone_places es (F (codes "clone_preserving_field_list")) → ArgumentsKeep s clone_places es → FitPlaces s clone_places es → Each (ToldNone s) es → G (clones b s seats es)) (λ a c d leaves keeps places told. cloned (name text) handed a c d leaves keeps places told) (arguments_of handed) p.count (leaves_by text (codes "clone_preserving_field_list") handed is word) p.keeps p.places p.told)
        (by_word G text (codes "resubmit_preserving_field_list") _ _ (λ same. let word : text ≡ codes "resubmit_preserving_field_list" = same_word text (codes "resubmit_preserving_field_list") same in let p : Prepared (codes "resubmit_preserving_field_list") (arguments_of handed) = prepared text (codes "resubmit_preserving_field_list") handed is word fits in
        take_one (λ es. Leaves (name text) handed (list_number ∷ []) es (F (codes "resubmit_preserving_field_list")) → ArgumentsKeep s (list_number ∷ []) es → FitPlaces s (list_number ∷ []) es → G (executes (Some (extern.Request Resubmit (number_given (given_at es 0)))) (Some []))) (λ a leaves keeps places. requested Resubmit (name text) handed a leaves keeps.0 places.0) (arguments_of handed) p.count (leaves_by text (codes "resubmit_preserving_field_list") handed is word) p.keeps p.places)
        (by_word G text (codes "recirculate_preserving_field_list") _ _ (λ same. let word : text ≡ codes "recirculate_preserving_field_list" = same_word text (codes "recirculate_preserving_field_list") same in let p : Prepared (codes "recirculate_preserving_field_list") (arguments_of handed) = prepared text (codes "recirculate_preserving_field_list") handed is word fits in
        take_one (λ es. Leaves (name text) handed (list_number ∷ []) es (F (codes "recirculate_preserving_field_list")) → ArgumentsKeep s (list_number ∷ []) es → FitPlaces s (list_number ∷ []) es → G (executes (Some (extern.Request Recirculate (number_given (given_at es 0)))) (Some []))) (λ a leaves keeps places. requested Recirculate (name text) handed a leaves keeps.0 places.0) (arguments_of handed) p.count (leaves_by text (codes "recirculate_preserving_field_list") handed is word) p.keeps p.places)
        tt)))))))) where
          G : Option Deed → Type 0
          G d = IfAlike (name text) handed d
