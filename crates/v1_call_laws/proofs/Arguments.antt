-- The arguments of an extern are evaluated from left to right, alike: each is a value, or the items of a list, or nothing of it is
-- evaluated.
use Rattle.std.proofs.Common.{◌≡◌, true, ℕ, Bool, false, cond, Option, Some, None, IfSome, List, [], ◌∷◌, ◌++◌, refl, sym, ap, ◌∙◌, subst}
use Rattle.std.specs.Prelude.{option_map}
use Rattle.std.specs.List.{list_any}
use Rattle.std.proofs.lemmas.List.{append_assoc, append-nil}
use Rattle.p4x_bits.specs.BitLists.{bits as bit_list}
use Rattle.p416_syntax.specs.Tree.{Exp16, literal, truth, error, name, member, index, slice, call, lookahead, cast, unary, binary, choice, parenthesized, no_arguments, argument, listed}
use Rattle.p416_syntax.specs.Scopes.{Scope}
use Rattle.p416_syntax.specs.Calls.{Place, any_bits, item_list}
use Rattle.p416_syntax.specs.Expressions.{kind_of}
use Rattle.p416_syntax.specs.Uses.{an_expression, Use, one, many, uses_at}
use Rattle.p416_syntax.specs.Types.{is_mistyped}
use Rattle.p416_syntax.specs.Sizes.{leaves_size}
use Rattle.p416_syntax.specs.Writes.{is_written_place}
use Rattle.v1_core.specs.Values.{Value, some_bits, bits_of_list, number_in, width_in}
use Rattle.v1_core.specs.Frames as sem
use Rattle.v1_core.specs.Surroundings as meaning
use Rattle.v1_core.specs.Numbered.{InScope}
use Rattle.v1_core.specs.Expressions as sem_expressions
use Rattle.v1_core.specs.Expressions.{reference_of, value_of}
use Rattle.v1_core.specs.Calls as calls
use Rattle.v1_core.specs.Calls.{by_value, by_reference, items_of, argument_at, arguments_from}
use Rattle.v1_core.specs.Cells.{Cells}
use Rattle.v1_core.specs.Ready.{Ended, given}
use Rattle.v1_ready_forms.specs.Named.{NamedSeat, seats_in}
use Rattle.v1_ready_laws.specs.Rules.{KeepsAll, Keeps}
use Rattle.v1_ready_laws.proofs.Rules.{second_false, front_none, rest_none}
use Rattle.v1_ready_blocks.specs.Moments.{Moment, is_stopped}
use Rattle.v1_ready_blocks.specs.Tests.{Applied, World, Test, test_value}
use Rattle.v1_ready_blocks.specs.Externs.{Given}
use Rattle.v1_ready_blocks.specs.Arguments.{Argument, a_value, an_item, with_given, Gathered, with_argument, gathered}
use Rattle.v1_ready_statements.specs.Around.{Around, table_found}
use Rattle.v1_ready_statements.specs.Given.{join_option, value_given, items_given, list_given}
use Rattle.v1_ready_statements.specs.Tested.{ready_test}
use Rattle.v1_statement_laws.specs.Behind.{Shown}
use Rattle.v1_statement_laws.proofs.Closing.{running_is}
use Rattle.v1_call_laws.specs.Telling.{ToldIn, ToldNone, IsValueOf, ValueTold, Tells, TestsTell}

-- how an argument is handed to a ready extern
pub data Mode : Type 0 where
  one_value : Mode
  items : Mode
  aside : Mode

abbrev pub handed_one : Mode → calls.Given → Given → Given
handed_one one_value x g = record { values = g.values ++ x.value ∷ []; list = g.list }
handed_one items x g = record { values = g.values; list = g.list ++ bits_of_list x.value }
handed_one aside x g = g

abbrev pub handed_over : List Mode → List calls.Given → Given → Given
handed_over [] xs g = g
handed_over (mode ∷ modes) [] g = g
handed_over (mode ∷ modes) (x ∷ xs) g = handed_over modes xs (handed_one mode x g)

abbrev pub begun : Given → Moment → Gathered
begun g k = record { given = g; moment = k }

pub gathered_both : (runs : ℕ → Moment → Applied) (xs ys : List Argument) (x : Gathered) → gathered runs (xs ++ ys) x ≡ gathered runs ys (gathered runs xs x)
gathered_both runs [] ys x = refl
gathered_both runs (a ∷ xs) ys x = gathered_both runs xs ys _

abbrev pub Nothing : List calls.Given → Type 0
Nothing [] = Unit {0}
Nothing (x ∷ xs) = ⊥

abbrev pub First : (calls.Given → Type 0) → (List calls.Given → Type 0) → List calls.Given → Type 0
First F G [] = ⊥
First F G (x ∷ xs) = F x × G xs

-- so many of them

pub only_one : (A : calls.Given → Type 0) (H : List calls.Given → Type 0) → ((x : calls.Given) → A x → H (x ∷ [])) → (xs : List calls.Given) → First A Nothing xs → H xs
only_one A H f [] h = absurd h
only_one A H f (x ∷ []) h = f x h.0
only_one A H f (x ∷ y ∷ xs) h = absurd h.1

pub only_two : (A B : calls.Given → Type 0) (H : List calls.Given → Type 0) → ((x y : calls.Given) → A x → B y → H (x ∷ y ∷ [])) → (xs : List calls.Given) → First A (First B Nothing) xs → H xs
only_two A B H f [] h = absurd h
only_two A B H f (x ∷ xs) h = only_one B (λ ys. H (x ∷ ys)) (λ y g. f x y h.0 g) xs h.1

pub only_three : (A B C : calls.Given → Type 0) (H : List calls.Given → Type 0) → ((x y z : calls.Given) → A x → B y → C z → H (x ∷ y ∷ z ∷ [])) → (xs : List calls.Given) → First A (First B (First C Nothing)) xs → H xs
only_three A B C H f [] h = absurd h
only_three A B C H f (x ∷ xs) h = only_two B C (λ ys. H (x ∷ ys)) (λ y z g k. f x y z h.0 g k) xs h.1

pub only_four : (A B C D : calls.Given → Type 0) (H : List calls.Given → Type 0) → ((x y z u : calls.Given) → A x → B y → C z → D u → H (x ∷ y ∷ z ∷ u ∷ [])) → (xs : List calls.Given) → First A (First B (First C (First D Nothing))) xs → H xs
only_four A B C D H f [] h = absurd h
only_four A B C D H f (x ∷ xs) h = only_three B C D (λ ys. H (x ∷ ys)) (λ y z u g k l. f x y z u h.0 g k l) xs h.1

pub only_five : (A B C D E : calls.Given → Type 0) (H : List calls.Given → Type 0) → ((x y z u v : calls.Given) → A x → B y → C z → D u → E v → H (x ∷ y ∷ z ∷ u ∷ v ∷ [])) → (xs : List calls.Given) → First A (First B (First C (First D (First E Nothing)))) xs → H xs
only_five A B C D E H f [] h = absurd h
only_five A B C D E H f (x ∷ xs) h = only_four B C D E (λ ys. H (x ∷ ys)) (λ y z u v g k l i. f x y z u v h.0 g k l i) xs h.1

module _ (P : Cells → Type 0) (b : Around) (w : meaning.World) (z : World) (s : Scope) (who : InScope) where
  abbrev seats : List NamedSeat
  seats = seats_in b.syntax w.around.roots who

  -- an argument was evaluated, and ready ones were gathered; of what it is this holds
  pub record OneGiven (x : calls.Given × sem.Moment) (list : List Argument) (mode : Mode) (F : calls.Given → Type 0) (k : Moment) : Type 0 where
    pub end : Moment
    pub gathers : (g : Given) → gathered z.apply list (begun g k) ≡ begun (handed_one mode x.0 g) end
    pub shown : Shown P b.syntax who x.1 end
    pub runs : x.1.stopped ≡ None
    pub fact : F x.0

  abbrev pub Gives : Place → Exp16 → List Argument → Mode → (calls.Given → Type 0) → Type 0
  Gives p e list mode F = (m : sem.Moment) (k : Moment) → Shown P b.syntax who m k → m.stopped ≡ None → OneGiven (argument_at w s p e m) list mode F k

  -- all of them
  pub record AllGiven (x : calls.Arguments) (list : List Argument) (modes : List Mode) (F : List calls.Given → Type 0) (k : Moment) : Type 0 where
    pub end : Moment
    pub gathers : (g : Given) → gathered z.apply list (begun g k) ≡ begun (handed_over modes x.given g) end
    pub shown : Shown P b.syntax who x.moment end
    pub runs : x.moment.stopped ≡ None
    pub fact : F x.given

  abbrev pub GiveAll : List Place → List Exp16 → List Argument → List Mode → (List calls.Given → Type 0) → Type 0
  GiveAll places es list modes F = (m : sem.Moment) (k : Moment) → Shown P b.syntax who m k → m.stopped ≡ None → AllGiven (arguments_from w s places es m) list modes F k

  pub nothing_given : (es : List Exp16) → GiveAll [] es [] [] Nothing
  nothing_given es m k h runs = record { end = k; gathers = λ g. refl; shown = h; runs = runs; fact = tt }

  pub first_given : (p : Place) (e : Exp16) (places : List Place) (es : List Exp16) (list more : List Argument) (mode : Mode) (modes : List Mode) (F : calls.Given → Type 0) (G : List calls.Given → Type 0) → Gives p e list mode F → GiveAll places es more modes G → GiveAll (p ∷ places) (e ∷ es) (list ++ more) (mode ∷ modes) (First F G)
  first_given p e places es list more mode modes F G first rest m k h runs =
      let x = argument_at w s p e m in
      let here : OneGiven x list mode F k = first m k h runs in
      let there : AllGiven (arguments_from w s places es x.1) more modes G here.end = rest x.1 here.end here.shown here.runs in
      record {
        end = there.end;
        gathers = λ g. gathered_both z.apply list more (begun g k) ∙ (ap (gathered z.apply more) (here.gathers g) ∙ there.gathers (handed_one mode x.0 g));
        shown = there.shown;
        runs = there.runs;
        fact = (here.fact, there.fact);
      }

  -- nothing of an argument is evaluated
  pub aside_given : (p : Place) (e : Exp16) (F : calls.Given → Type 0) → ((m : sem.Moment) (k : Moment) → Shown P b.syntax who m k → m.stopped ≡ None → ((argument_at w s p e m).1 ≡ m) × F (argument_at w s p e m).0) → Gives p e [] aside F
  aside_given p e F f m k h runs =
      let is = f m k h runs in
      record {
        end = k;
        gathers = λ g. refl;
        shown = subst (λ (y : sem.Moment). Shown P b.syntax who y k) (sym is.0) h;
        runs = ap (λ (y : sem.Moment). y.stopped) is.0 ∙ runs;
        fact = is.1;
      }

  -- what is gathered with one more
  one_gathered : (a : Argument) (t : Test) (v : Value) (k : Moment) → k.stopped ≡ None → (test_value z.apply t k).value ≡ given v → (g : Given) → cond (is_stopped k) (begun g k) (with_argument a g (test_value z.apply t k)) ≡ begun (with_given a v g) (test_value z.apply t k).moment
  one_gathered a t v k runs is g =
      running_is k.stopped (begun g k) (with_argument a g (test_value z.apply t k)) runs
      ∙ ap (λ (end : Ended). with_argument a g (record { value = end; moment = (test_value z.apply t k).moment })) is

  -- a value
  pub argument_is : (p : Place) (e : Exp16) (t : Test) (m : sem.Moment) → is_written_place p ≡ false → ready_test s seats (table_found b) p e ≡ Some t → argument_at w s p e m ≡ by_value (value_of w s p e m)
  argument_is p (literal n) t m unwritten is = ap (λ (u : Bool). cond u (by_reference (reference_of w.around s (literal n) m)) (by_value (value_of w s p (literal n) m))) unwritten
  argument_is p (truth holds) t m unwritten is = ap (λ (u : Bool). cond u (by_reference (reference_of w.around s (truth holds) m)) (by_value (value_of w s p (truth holds) m))) unwritten
  argument_is p error t m unwritten is = ap (λ (u : Bool). cond u (by_reference (reference_of w.around s error m)) (by_value (value_of w s p error m))) unwritten
  argument_is p (name text) t m unwritten is = ap (λ (u : Bool). cond u (by_reference (reference_of w.around s (name text) m)) (by_value (value_of w s p (name text) m))) unwritten
  argument_is p (member e word) t m unwritten is = ap (λ (u : Bool). cond u (by_reference (reference_of w.around s (member e word) m)) (by_value (value_of w s p (member e word) m))) unwritten
  argument_is p (index e at) t m unwritten is = ap (λ (u : Bool). cond u (by_reference (reference_of w.around s (index e at) m)) (by_value (value_of w s p (index e at) m))) unwritten
  argument_is p (slice e high low) t m unwritten is = ap (λ (u : Bool). cond u (by_reference (reference_of w.around s (slice e high low) m)) (by_value (value_of w s p (slice e high low) m))) unwritten
  argument_is p (call g other) t m unwritten is = ap (λ (u : Bool). cond u (by_reference (reference_of w.around s (call g other) m)) (by_value (value_of w s p (call g other) m))) unwritten
  argument_is p (lookahead e to other) t m unwritten is = ap (λ (u : Bool). cond u (by_reference (reference_of w.around s (lookahead e to other) m)) (by_value (value_of w s p (lookahead e to other) m))) unwritten
  argument_is p (cast to e) t m unwritten is = ap (λ (u : Bool). cond u (by_reference (reference_of w.around s (cast to e) m)) (by_value (value_of w s p (cast to e) m))) unwritten
  argument_is p (unary operator e) t m unwritten is = ap (λ (u : Bool). cond u (by_reference (reference_of w.around s (unary operator e) m)) (by_value (value_of w s p (unary operator e) m))) unwritten
  argument_is p (binary operator a d) t m unwritten is = ap (λ (u : Bool). cond u (by_reference (reference_of w.around s (binary operator a d) m)) (by_value (value_of w s p (binary operator a d) m))) unwritten
  argument_is p (choice c a d) t m unwritten is = ap (λ (u : Bool). cond u (by_reference (reference_of w.around s (choice c a d) m)) (by_value (value_of w s p (choice c a d) m))) unwritten
  argument_is p (parenthesized e) t m unwritten is = ap (λ (u : Bool). cond u (by_reference (reference_of w.around s (parenthesized e) m)) (by_value (value_of w s p (parenthesized e) m))) unwritten
  argument_is p no_arguments t m unwritten is = ap (λ (u : Bool). cond u (by_reference (reference_of w.around s no_arguments m)) (by_value (value_of w s p no_arguments m))) unwritten
  argument_is p (argument before last) t m unwritten is = ap (λ (u : Bool). cond u (by_reference (reference_of w.around s (argument before last) m)) (by_value (value_of w s p (argument before last) m))) unwritten
  argument_is p (listed es) t m unwritten is = absurd (cc is)

  told_value : (p : Place) (e : Exp16) (t : Test) (Q : Value → Type 0) → is_written_place p ≡ false → ready_test s seats (table_found b) p e ≡ Some t → Tells P b w z s who p e Q t → Gives p e (a_value t ∷ []) one_value (λ x. Q x.value)
  told_value p e t Q unwritten is tells m k h runs =
      let told : ValueTold P b who Q (value_of w s p e m) (test_value z.apply t k) = tells m k h runs in
      subst (λ (x : calls.Given × sem.Moment). OneGiven x (a_value t ∷ []) one_value (λ y. Q y.value) k) (sym (argument_is p e t m unwritten is))
      (record {
        end = (test_value z.apply t k).moment;
        gathers = λ g. one_gathered (a_value t) t (value_of w s p e m).value k (sym h.shows.stopped ∙ runs) told.value g;
        shown = told.shown;
        runs = told.runs;
        fact = told.holds;
      })

  pub value_gives : TestsTell P b w z s who → (p : Place) (e : Exp16) → is_written_place p ≡ false → Keeps s p e → ToldNone s e → IfSome (value_given b s seats p e) (λ list. Gives p e list one_value (λ x. IsValueOf p (kind_of s e) x.value))
  value_gives tell p e unwritten keeps told = by (ready_test s seats (table_found b) p e) refl (tell p p e keeps told) where
    by : (o : Option Test) → ready_test s seats (table_found b) p e ≡ o → IfSome o (Tells P b w z s who p e (IsValueOf p (kind_of s e))) → IfSome (option_map (λ t. a_value t ∷ []) o) (λ list. Gives p e list one_value (λ x. IsValueOf p (kind_of s e) x.value))
    by None is h = tt
    by (Some t) is h = told_value p e t (IsValueOf p (kind_of s e)) unwritten is h

  -- the items of a list

  record ItemsGiven (x : sem_expressions.Valued) (list : List Argument) (k : Moment) : Type 0 where
    end : Moment
    gathers : (g : Given) → gathered z.apply list (begun g k) ≡ begun (record { values = g.values; list = g.list ++ bits_of_list x.value }) end
    shown : Shown P b.syntax who x.moment end
    runs : x.moment.stopped ≡ None

  abbrev GiveItems : Exp16 → List Argument → Type 0
  GiveItems es list = (m : sem.Moment) (k : Moment) → Shown P b.syntax who m k → m.stopped ≡ None → ItemsGiven (items_of w s es m) list k

  no_items : (m : sem.Moment) (k : Moment) → Shown P b.syntax who m k → m.stopped ≡ None → ItemsGiven (record { value = some_bits []; moment = m }) [] k
  no_items m k h runs = record {
    end = k;
    gathers = λ g. ap (λ (l : List Bool). begun (record { values = g.values; list = l }) k) (sym (append-nil g.list));
    shown = h;
    runs = runs;
  }

  more_items : (before last : Exp16) (list : List Argument) (t : Test) → GiveItems before list → Tells P b w z s who any_bits last (IsValueOf any_bits (kind_of s last)) t → GiveItems (argument before last) (list ++ an_item t ∷ [])
  more_items before last list t front tells m k h runs =
      let x = items_of w s before m in
      let here : ItemsGiven x list k = front m k h runs in
      let told : ValueTold P b who (IsValueOf any_bits (kind_of s last)) (value_of w s any_bits last x.moment) (test_value z.apply t here.end) = tells x.moment here.end here.shown here.runs in
      let v : Value = (value_of w s any_bits last x.moment).value in
      record {
        end = (test_value z.apply t here.end).moment;
        gathers = λ g.
            gathered_both z.apply list (an_item t ∷ []) (begun g k)
            ∙ (ap (gathered z.apply (an_item t ∷ [])) (here.gathers g)
            ∙ (one_gathered (an_item t) t v here.end (sym here.shown.shows.stopped ∙ here.runs) told.value (record { values = g.values; list = g.list ++ bits_of_list x.value })
            ∙ ap (λ (l : List Bool). begun (record { values = g.values; list = l }) (test_value z.apply t here.end).moment) (append_assoc g.list (bits_of_list x.value) (bit_list (width_in v) (number_in v)))));
        shown = told.shown;
        runs = told.runs;
      }

  items_by : TestsTell P b w z s who → (es : Exp16) → KeepsAll (uses_at s (many [] any_bits) es) → ToldIn s true es → IfSome (items_given b s seats es) (GiveItems es)
  items_by tell (literal n) keeps told = no_items
  items_by tell (truth holds) keeps told = no_items
  items_by tell error keeps told = no_items
  items_by tell (name text) keeps told = no_items
  items_by tell (member e word) keeps told = no_items
  items_by tell (index e at) keeps told = no_items
  items_by tell (slice e high low) keeps told = no_items
  items_by tell (call g other) keeps told = no_items
  items_by tell (lookahead e to other) keeps told = no_items
  items_by tell (cast to e) keeps told = no_items
  items_by tell (unary operator e) keeps told = no_items
  items_by tell (binary operator a d) keeps told = no_items
  items_by tell (choice c a d) keeps told = no_items
  items_by tell (parenthesized e) keeps told = no_items
  items_by tell no_arguments keeps told = no_items
  items_by tell (listed es) keeps told = no_items
  items_by tell (argument before last) keeps told = by (items_given b s seats before) (ready_test s seats (table_found b) any_bits last) (items_by tell before (front_none is_mistyped first second keeps.0, front_none leaves_size first second keeps.1) told.0) (tell any_bits any_bits last (rest_none is_mistyped first second keeps.0, rest_none leaves_size first second keeps.1) told.1) where
    first : List Use
    first = uses_at s (many [] any_bits) before

    second : List Use
    second = uses_at s (one any_bits) last

    by : (o : Option (List Argument)) (p : Option Test) → IfSome o (GiveItems before) → IfSome p (Tells P b w z s who any_bits last (IsValueOf any_bits (kind_of s last))) → IfSome (join_option o (option_map (λ t. an_item t ∷ []) p)) (GiveItems (argument before last))
    by None p h g = tt
    by (Some list) None h g = tt
    by (Some list) (Some t) h g = more_items before last list t h g

  pub list_gives : TestsTell P b w z s who → (es : Exp16) → Keeps s item_list (listed es) → ToldIn s true es → IfSome (list_given b s seats (listed es)) (λ list. Gives item_list (listed es) list items (λ x. Unit {0}))
  list_gives tell es keeps told = by (items_given b s seats es) (items_by tell es (second_false (is_mistyped (an_expression s item_list (listed es))) (list_any is_mistyped (uses_at s (many [] any_bits) es)) keeps.0, second_false (leaves_size (an_expression s item_list (listed es))) (list_any leaves_size (uses_at s (many [] any_bits) es)) keeps.1) told) where
    by : (o : Option (List Argument)) → IfSome o (GiveItems es) → IfSome o (λ list. Gives item_list (listed es) list items (λ x. Unit {0}))
    by None h = tt
    by (Some list) h = λ m k shown runs.
        let here : ItemsGiven (items_of w s es m) list k = h m k shown runs in
        record { end = here.end; gathers = here.gathers; shown = here.shown; runs = here.runs; fact = tt }
