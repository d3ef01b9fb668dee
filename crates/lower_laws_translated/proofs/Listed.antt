-- An action that a table lists has the copy that counts the table's direct counter, or counts none where there is none.
use Rattle.std.proofs.Common.{◌≡◌, ◌≢◌, ◌⊎◌, inl, inr, ℕ, ◌+◌, ◌<◌, Bool, true, false, cond, ◌&&◌, Option, Some, None, List, [], ◌∷◌, ◌++◌, refl, sym, ap, ◌∙◌, subst, arith}
use Rattle.std.specs.Prelude.{is_some, nat_eq, slice_get, filter, unwrap_or, option_map, option_and_then, ◌||◌}
use Rattle.std.specs.Option.{option_map_or}
use Rattle.std.specs.Str.{bytes_eq}
use Rattle.std.proofs.lemmas.List.Folds.{list_any-append}
use Rattle.std.proofs.lemmas.Slice.Eq.{bytes_eq-Decides}
use Rattle.std.proofs.lemmas.Bool.Decides.{nat_tests}
use Rattle.match_core.specs.declared.entries.Entries.{Entries}
use Rattle.p414_syntax.specs.declared.syntax.Decl.{Decl}
use Rattle.p414_syntax.specs.declared.syntax.Rule14.{Rule14}
use Rattle.p414_syntax.specs.declared.syntax.Sort.TheVariants as sort
use Rattle.p414_syntax.specs.declared.tables.Table.{Table}
use Rattle.p414_syntax.specs.Tree.{Stmt}
use Rattle.p414_syntax.specs.Names.{Name, names_in, has_name, repeats_behind, repeats}
use Rattle.p414_syntax.specs.Tables.{tables, listed_in}
use Rattle.p414_syntax.specs.Arguments.{action_number}
use Rattle.p414_sem.specs.Expanded.{Expanded}
use Rattle.p414_sem.specs.Signatures.{direct_counter, parameter_widths, table_of}
use Rattle.p416_syntax.specs.declared.controls.Action16.{Action16}
use Rattle.v1_core.specs.declared.block.Block.{Block}
use Rattle.v1_core.specs.Frames.{of_headers, of_metadata, of_standard}
use Rattle.v1_core.specs.Blocks.{act, owners_of}
use Rattle.lower_laws_names.specs.Reaches.{Outer, declared, copy, outer_name, IsNumbered}
use Rattle.lower_laws_names.proofs.OneSort.{sort_once}
use Rattle.lower_laws_names.proofs.Proved.{outer_names_differ}
use Rattle.lower_laws_names.specs.Copies.{Listing, listings, Copy, plain_copy, counted_copy, listing_outer, outer_in, is_same_bit, LinesFit}
use Rattle.lower_laws_base.specs.Alike.{ActsAlike}
use Rattle.lower_laws_controls.specs.Listing.{copy_text, widths_of_action}
use Rattle.lower_laws_controls.proofs.Tables.{CopyDeclared}
use Rattle.lower_laws_controls.proofs.Expanding.{neither}
use Rattle.lower_laws_states.specs.Expansions.{Has}
use Rattle.lower_laws_states.proofs.Filling.{named_so}
use Rattle.lower_laws_states.proofs.Rules.{none_twice}
use Rattle.lower_laws_declared.specs.Controls.{table_place}
use Rattle.lower_laws_declared.proofs.Lines.{one_line}
use Rattle.lower_laws_names.proofs.Copies.{listings_numbered}
use Rattle.lower_laws_declared.proofs.Listed.{all_lines_fit}
use Rattle.lower_laws_declared.proofs.Pipelines.{place_of_table, listed_there, copy_listed, copy_declared}
use Rattle.lower_laws_translated.specs.Given.{IsGiven}
use Rattle.lower_laws_translated.specs.Translated.{table_called, number_in, counter_in, is_of_egress, is_in_egress, stands_in, tables_in, copies_in, table_written, action_written, rule_in, locals_in, plan}
use Rattle.lower_laws_translated.proofs.Copies.{line_of, outer_from}
use Rattle.lower_laws_translated.proofs.Locals.{line_fits, copy_numbered, number_is, each_of, locals_are}
use Rattle.lower_laws_translated.proofs.Acts.{p, control, b, c14, outer, tables_declared, copy_acts, found_copy}

-- names that are kept don't repeat

pub kept_true : {X : Type 0} (q : X → Bool) (xs : List X) (x : X) → Has (filter q xs) x → q x ≡ true
kept_true q [] x h = absurd h
kept_true q (y ∷ xs) x h = by (q y) refl h (λ g. kept_true q xs x g) where
  by : (c : Bool) → q y ≡ c → Has (cond c (y ∷ filter q xs) (filter q xs)) x → (Has (filter q xs) x → q x ≡ true) → q x ≡ true
  by true e (inl same) more = ap q (sym same) ∙ e
  by true e (inr h) more = more h
  by false e h more = more h

has_behind : (before : List Name) (n m : Name) → has_name (before ++ n ∷ []) m ≡ (has_name before m || (bytes_eq m n || false))
has_behind before n m = list_any-append (bytes_eq m) before (n ∷ [])

kept_once : (q : Name → Bool) (before kept names : List Name) → ((n : Name) → has_name before n ≡ false → has_name kept n ≡ false) → repeats_behind before names ≡ false → repeats_behind kept (filter q names) ≡ false
kept_once q before kept [] fewer none = refl
kept_once q before kept (n ∷ names) fewer none =
    let s = neither (has_name before n) (repeats_behind (before ++ n ∷ []) names) none in
    by (q n) (kept_once q (before ++ n ∷ []) (kept ++ n ∷ []) names both s.1) (kept_once q (before ++ n ∷ []) kept names one s.1) (fewer n s.0)
  where
    by : (c : Bool) → repeats_behind (kept ++ n ∷ []) (filter q names) ≡ false → repeats_behind kept (filter q names) ≡ false → has_name kept n ≡ false → repeats_behind kept (cond c (n ∷ filter q names) (filter q names)) ≡ false
    by true more less new = rw new more
    by false more less new = less

    one : (m : Name) → has_name (before ++ n ∷ []) m ≡ false → has_name kept m ≡ false
    one m e = fewer m (neither (has_name before m) (bytes_eq m n || false) (sym (has_behind before n m) ∙ e)).0

    both : (m : Name) → has_name (before ++ n ∷ []) m ≡ false → has_name (kept ++ n ∷ []) m ≡ false
    both m e =
        let s = neither (has_name before m) (bytes_eq m n || false) (sym (has_behind before n m) ∙ e) in
        has_behind kept n m ∙ (rw (fewer m s.0, s.1) refl)

pub same_bit : (e a : Bool) → is_same_bit e a ≡ true → a ≡ e
same_bit true a e = e
same_bit false true e = absurd (cc e)
same_bit false false e = refl

no_some : {X : Type 0} (o : Option X) → is_some o ≡ false → o ≡ None
no_some None e = refl
no_some (Some x) e = absurd (cc e)

-- a copy that is named as a line names its action is the line's
module _ (ds : List Decl) (egress : ℕ → Bool) (fit : LinesFit ds (listings ds egress)) (l m : Listing) (at_l : Has (listings ds egress) l) (at_m : Has (listings ds egress) m) (c : Copy) where
  abbrev IsOfLine : Bool → Type 0
  IsOfLine q = (c.action ≡ l.action) × (c.table ≡ cond q (Some l.table) None)

  same_action : (a n : Name) → IsNumbered ds sort.Action a → IsNumbered ds sort.Action n → outer_name ds (declared sort.Action a) ≡ outer_name ds (declared sort.Action n) → a ≡ n
  same_action a n is_a is_n same = by (bytes_eq a n) refl where
    by : (q : Bool) → bytes_eq a n ≡ q → a ≡ n
    by true e = (bytes_eq-Decides a n).0 e
    by false e = absurd (outer_names_differ.two ds (declared sort.Action a) (declared sort.Action n) (tt, is_a) (tt, is_n) (λ s z. absurd (cc (e, (bytes_eq-Decides a n).1 z))) same)

  same_line : outer_name ds (copy m.number m.action) ≡ outer_name ds (copy l.number l.action) → m ≡ l
  same_line same = by (nat_eq m.number l.number) refl where
    by : (q : Bool) → nat_eq m.number l.number ≡ q → m ≡ l
    by true e = one_line 0 (listings ds egress) m l (listings_numbered ds egress 0 0 (tables ds)) at_m at_l (grind (arith, nat_tests, e))
    by false e = absurd (outer_names_differ.two ds (copy m.number m.action) (copy l.number l.action) (line_fits ds (listings ds egress) m fit at_m).1 (line_fits ds (listings ds egress) l fit at_l).1 (λ z. absurd (grind (arith, nat_tests, e, z))) same)

  pub same_copy : (q : Bool) → l.is_counted ≡ q → (c ≡ plain_copy m) ⊎ ((m.is_counted ≡ true) × (c ≡ counted_copy m)) → outer_name ds c.outer ≡ outer_name ds (listing_outer l) → IsOfLine q
  same_copy q is of called = by q of (called ∙ ap (λ b. outer_name ds (cond b (copy l.number l.action) (declared sort.Action l.action))) is) where
    by : (q : Bool) → (c ≡ plain_copy m) ⊎ ((m.is_counted ≡ true) × (c ≡ counted_copy m)) → outer_name ds c.outer ≡ outer_name ds (cond q (copy l.number l.action) (declared sort.Action l.action)) → IsOfLine q
    by false (inl e) same =
        (ap (λ (d : Copy). d.action) e ∙ same_action m.action l.action (line_fits ds (listings ds egress) m fit at_m).0 (line_fits ds (listings ds egress) l fit at_l).0 (ap (λ (d : Copy). outer_name ds d.outer) (sym e) ∙ same), ap (λ (d : Copy). d.table) e)
    by false (inr (counted, e)) same =
        absurd (outer_names_differ.two ds (copy m.number m.action) (declared sort.Action l.action) (line_fits ds (listings ds egress) m fit at_m).1 (tt, (line_fits ds (listings ds egress) l fit at_l).0) tt (ap (λ (d : Copy). outer_name ds d.outer) (sym e) ∙ same))
    by true (inl e) same =
        absurd (outer_names_differ.two ds (declared sort.Action m.action) (copy l.number l.action) (tt, (line_fits ds (listings ds egress) m fit at_m).0) (line_fits ds (listings ds egress) l fit at_l).1 tt (ap (λ (d : Copy). outer_name ds d.outer) (sym e) ∙ same))
    by true (inr (counted, e)) same =
        let line = same_line (ap (λ (d : Copy). outer_name ds d.outer) (sym e) ∙ same) in
        (ap (λ (d : Copy). d.action) e ∙ ap (λ (z : Listing). z.action) line, ap (λ (d : Copy). d.table) e ∙ ap (λ (z : Listing). Some z.table) line)

module _ (ds : List Decl) (x : Expanded) (given : IsGiven ds x) (under : Rule14) (entries : Entries) (e : Bool) (text : Name) (body : Stmt) (which : Block) (owners : owners_of which ≡ of_headers ∷ of_metadata ∷ of_standard ∷ []) where
  abbrev ls : List Listing
  ls = listings ds (is_in_egress ds x)

  pub tables_once : repeats (tables_in ds x e) ≡ false
  tables_once = kept_once (stands_in ds x e) [] [] (names_in sort.Table ds) (λ n h. h) (sort_once ds (none_twice ds given.none) sort.Table)

  -- a table stands where its name says
  pub stands_there : (name : Name) (t : Table) → table_of ds name ≡ Some t → is_in_egress ds x (table_place ds name) ≡ is_of_egress ds x name
  stands_there name t is = ap (λ (o : Option Table). is_of_egress ds x (option_map_or (λ (t : Table). t.name) o [])) (place_of_table ds name t is) ∙ ap (is_of_egress ds x) (named_so ds name t is)

  module _ (name : Name) (has : Has (tables_in ds x e) name) (t : Table) (is : table_of ds name ≡ Some t) where
    pub its_pipeline : is_in_egress ds x (table_place ds name) ≡ e
    its_pipeline = stands_there name t is ∙ same_bit e (is_of_egress ds x name) (kept_true (stands_in ds x e) (names_in sort.Table ds) name has)

    module _ (action : Name) (listed : Has (listed_in t) action) where
      abbrev text_of : Name
      text_of = copy_text ((plan ds x).copy name) action

      -- what the table calls the action
      abbrev Says : Type 0
      Says = (o : Outer) × (outer_in ls (table_place ds name) action ≡ Some o) × (text_of ≡ outer_name ds o)

      says : Says
      says =
          let one = listed_there ds given.none given.short (p ds x given under entries e text body which owners) (is_in_egress ds x) e (tables_in ds x e) tables_once (tables_declared ds x given under entries e text body which owners) (table_written ds x) (locals_in ds x under e) (locals_are ds given.none given.short x under e) entries which (control ds x given under entries e text body which owners) (rule_in ds x under e) refl refl name t is its_pipeline action listed in
          (one.outer, one.found, ap (λ (q : Option Outer). unwrap_or (option_map (outer_name ds) q) []) one.found)

      -- a copy of this name is of the table's line, and counts what the table counts
      pub copy_of : (c : Copy) → Has (copies_in ds x e) c → outer_name ds c.outer ≡ text_of → (c.action ≡ action) × (counter_in ds c ≡ direct_counter ds t.name)
      copy_of c has_c called =
          let from = outer_from ls (table_place ds name) action says.0 says.1 in
          let of = each_of ds given.none given.short x under e c has_c in
          let l = from.line in
          let at = line_of ds (is_in_egress ds x) 0 0 (tables ds) l from.has in
          let place : at.place ≡ table_place ds name = omega (arith, at.table_is, from.table_is) in
          let table_is : at.of ≡ t = cc (sym at.there ∙ ap (slice_get (tables ds)) place ∙ place_of_table ds name t is) in
          let counted : l.is_counted ≡ is_some (direct_counter ds t.name) = at.counted ∙ ap (λ (u : Table). is_some (direct_counter ds u.name)) table_is in
          let same = same_copy ds (is_in_egress ds x) (all_lines_fit ds given.none given.short (is_in_egress ds x)) l of.line from.has of.has c l.is_counted refl of.is (called ∙ says.2 ∙ ap (outer_name ds) (sym from.outer)) in
          (same.0 ∙ from.action_is, ap (option_and_then (λ (n : ℕ). direct_counter ds (table_called ds n))) same.1 ∙ by l.is_counted counted from.table_is)
        where
          by : (q : Bool) → q ≡ is_some (direct_counter ds t.name) → {l : ℕ} → l ≡ table_place ds name → option_and_then (λ (n : ℕ). direct_counter ds (table_called ds n)) (cond q (Some l) None) ≡ direct_counter ds t.name
          by false f at = sym (no_some (direct_counter ds t.name) (sym f))
          by true f at = ap (λ (n : ℕ). direct_counter ds (table_called ds n)) at ∙ ap (λ (o : Option Table). direct_counter ds (option_map_or (λ (u : Table). u.name) o [])) (place_of_table ds name t is)

      -- All that the law of tables asks of an action that is listed.
      pub listed_copy : CopyDeclared (outer ds x given under entries e text body which owners) (c14 ds x given under entries e text body which owners) (b ds x given under entries e text body which owners) ((plan ds x).copy name) (direct_counter ds t.name) action
      listed_copy =
          let a = copy_declared ds given.none given.short (p ds x given under entries e text body which owners) (is_in_egress ds x) e (tables_in ds x e) tables_once (tables_declared ds x given under entries e text body which owners) (table_written ds x) (locals_in ds x under e) (locals_are ds given.none given.short x under e) entries which (control ds x given under entries e text body which owners) (rule_in ds x under e) refl refl name t is its_pipeline action listed in
          let one = found_copy ds x given under entries e text body which owners text_of a.0 a.1 in
          let same = copy_of one.copy one.has one.called in
          let numbered = copy_numbered ds given.none given.short x under one.copy (each_of ds given.none given.short x under e one.copy one.has) in
          let number : action_number ds action ≡ Some (number_in ds one.copy) = ap (action_number ds) (sym same.0) ∙ numbered.found ∙ ap Some (sym (number_is ds given.none given.short x under one.copy numbered)) in
          record {
            listed = copy_listed ds given.none given.short (p ds x given under entries e text body which owners) (is_in_egress ds x) e (tables_in ds x e) tables_once (tables_declared ds x given under entries e text body which owners) (table_written ds x) (locals_in ds x under e) (locals_are ds given.none given.short x under e) entries which (control ds x given under entries e text body which owners) (rule_in ds x under e) refl refl name t is its_pipeline action listed;
            action = number_in ds one.copy;
            of = a.0;
            number = number;
            declared = a.1;
            acts = acts a.0 one.copy one.is same.1 (ap (λ (o : Option ℕ). option_map_or (parameter_widths ds) o []) number) (copy_acts ds x given under entries e text body which owners one.copy one.has);
          }
        where
          acts : (a : Action16) (c : Copy) → a ≡ action_written ds x under c → counter_in ds c ≡ direct_counter ds t.name → widths_of_action ds action ≡ parameter_widths ds (number_in ds c)
              → ActsAlike (outer ds x given under entries e text body which owners).layout (c14 ds x given under entries e text body which owners) (b ds x given under entries e text body which owners) (act (b ds x given under entries e text body which owners)) (counter_in ds c) (number_in ds c) (parameter_widths ds (number_in ds c)) (action_written ds x under c)
              → ActsAlike (outer ds x given under entries e text body which owners).layout (c14 ds x given under entries e text body which owners) (b ds x given under entries e text body which owners) (act (b ds x given under entries e text body which owners)) (direct_counter ds t.name) (number_in ds c) (widths_of_action ds action) a
          acts a c is_a counts wide all =
              subst (λ (z : Action16). ActsAlike (outer ds x given under entries e text body which owners).layout (c14 ds x given under entries e text body which owners) (b ds x given under entries e text body which owners) (act (b ds x given under entries e text body which owners)) (direct_counter ds t.name) (number_in ds c) (widths_of_action ds action) z) (sym is_a)
              (subst (λ ws. ActsAlike (outer ds x given under entries e text body which owners).layout (c14 ds x given under entries e text body which owners) (b ds x given under entries e text body which owners) (act (b ds x given under entries e text body which owners)) (direct_counter ds t.name) (number_in ds c) ws (action_written ds x under c)) (sym wide)
              (subst (λ o. ActsAlike (outer ds x given under entries e text body which owners).layout (c14 ds x given under entries e text body which owners) (b ds x given under entries e text body which owners) (act (b ds x given under entries e text body which owners)) o (number_in ds c) (parameter_widths ds (number_in ds c)) (action_written ds x under c)) counts all))
